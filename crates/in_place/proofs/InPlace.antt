-- A call on a record that stays where it lies, whatever it does with it: what its types are, where a walk of its MIR ends, and that it meets its
-- contract where its walk is at hand. Such a walk knows of each function that it calls only that it meets its contract. `Lending`, `LendingTwo` and
-- `Passing` have the walks.
--     Plain                a type of one machine value that owns only facts. `of_field` makes one of a declared type's laws, `of-builtin` and `of_array` of others'
--     Two P A B            P is a struct of two fields, A and B
--     off                  where a struct's field lies
--     pass, passed         plain arguments as those of a function that is called, with lifetimes of its own; and they are of their types
--     Ensures, Called-on   what a function on a `&mut` of a record ensures, whatever else it is passed; and the contract that says it
--     Held                 what the function has of the `&mut` at exit: it still owns it, or it has passed it on for good
--     exits, walk-holds    where a walk of such a function ends; and that it meets its contract, where its walk is at hand
--     in_words             the same contract in other words, as the function states it
--     Cited, knows         a function that is called; and that it meets its contract where it is called
-- Assumes nothing.
use mathlib.Core.Path.{◌≡◌, refl, sym, subst}
use Prim.Native.Nat.{ℕ, zero}
use mathlib.Core.Option.{Option, none, some as Some-of}
use mathlib.Core.List.{[], ◌∷◌, List}
use seplogic.Ra.Ura.{Ura}
use base.Fraction.{full_share}
use lib.Dec.{T as Holds}
use mir.Syntax.{Callee, Sym, Ty, ty_struct, Tys, tcons, tnil, named, Local, local, value_local, Fn}
use mir.Val.{Val, vptr, vstruct, vcons, vnil, has_ty, WT}
use base.Logic.{SProp, ent, sep, emp, via, fst∗, id⊢}
use base.Fml.{GName, Lft, Share, Fml, ftrue, fat, flft}
use prog.Memory.{field_at}
use prog.Model.{Model}
use prog.Routine.{Routine, Env}
use prog.Wp.{Heap, Calls, Loops, WpFn, Closed}
use ghost.Atoms.{Atoms}
use types.Logic.{Logic, sem}
use contract.Lifetimes.{Lfts}
use contract.Monad.{fact, fact_use}
use contract.Running.{Running, tables, tables_of}
use types.Kit.{‵, ◌$◌, ◌∵◌, !, qed, move, use0, join, fjoin, suffices, frame, done}
use sound.WpLaws.{FmC, fm_of, WpFn-mono}
use denote.RattleType.{RattleType, Denots, Valss, flat, owns}
use denote.Shadow.{makes_shadow}
use denote.Laws.{Is, Ises, Are, Spells, valss, Tellss, Tells, Typed, Lawful, Makes}
use denote.Memory.{cell_at, lone, part_at, shared_of}
use denote.Lends.{Lent}
use denote.Copied.{Recorded-Copied}
use denote.Exit.{Exit, yes, unchanged, under, Last, left}
use denote.Ref.{MutBor, mut_vals, mut_Tells}
use denote.Signature.{Slot, plain, mut_ref_to, types_at}
use denote.Steps.{owned, nothing}
use denote.Struct.Field.{Field, array_field}
use denote.Struct.Recorded.{Recorded, recorded_lawful}
use denote.Struct.Laws as LL
use denote.Triple.Entry.{Args, Res, on_entry}
use denote.Triple.Spec.{triple_of}
use denote.Triple.Weaken.{weaken}
use denote.Triple.Statement.{Contract, Triple}
use denote.Ask.Run.{routine_mono}
use denote.Triple.Clauses.{Clauses, Ended, Lasts, AtExit, at_exit, closing}
use denote.Triple.End.{all, Fins}
use denote.Triple.Table.{entered, cited}
use denote.Triple.Walked.{says as said, Stay, Stays, stay_ref, gave_ref, stay_none, fits_of, has_of, walk_of, Goes, AllGo, Goes-ref, Goes-gave_ref, Goes-none, ends_at, walked, walk_Meets}

pub record Plain : Type 2 where
  pub row : RattleType
  pub mir : Ty
  pub one : row.mir ≡ mir ∷ []
  pub val : row.Denot → Val
  pub tells : Tells row (Is row) (λ x. val x ∷ [])
  pub lawful : {M : Type 1} {𝓤 : Ura M} (𝓛 : Logic 𝓤) → Lawful 𝓛 row
  pub makes : {M : Type 1} {𝓤 : Ura M} (𝓛 : Logic 𝓤) → Makes 𝓛 row (Is row)
  pub still : row.exit yes ≡ unchanged
  pub lends : {M : Type 1} {𝓤 : Ura M} (𝓛 : Logic 𝓤) (s : Share) (x : row.Denot) (b o : ℕ) → Lent 𝓛 (part_at row s x b o) (shared_of row x b o)

-- a value's own machine value is one of it
abbrev pub Fits : (P : Plain) → P.row.Denot → Type 0
Fits P x = Is P.row x (P.val x ∷ [])

pub fits : (P : Plain) (x : P.row.Denot) (vs : List Val) → Is P.row x vs → Fits P x
fits P x vs is = subst (λ (us : List Val). Is P.row x us) (P.tells x vs is) is

abbrev pub of_field : (F : Field) → LL.FLaws F → LL.Plain F → LL.Copyable F → F.row.mir ≡ lone F.row.mir ∷ [] → Plain
of_field F L pl c one = record {
  row = Recorded F.row F.Value F.into F.into_one;
  mir = lone F.row.mir;
  one = one;
  val = λ x. L.val (F.into x);
  tells = λ x. L.tells (F.into x);
  lawful = λ 𝓛. recorded_lawful F.row F.Value F.into F.into_one 𝓛 (L.lawful 𝓛);
  makes = λ 𝓛 x vs. makes_shadow 𝓛 (F.row.own_val (F.into x) vs) (pl (F.into x) vs);
  still = λ i. under F.into (c.still yes i);
  lends = λ {M} {𝓤} 𝓛. (Recorded-Copied 𝓛 F.row F.Value F.into F.into_one (c.copied M 𝓤 𝓛)).lends;
}

-- a type that is not declared
abbrev pub of-builtin : (F : Field) → LL.FLaws F → LL.Plain F → LL.Copyable F → F.row.mir ≡ lone F.row.mir ∷ [] → Plain
of-builtin F L pl c one = record {
  row = F.row;
  mir = lone F.row.mir;
  one = one;
  val = L.val;
  tells = L.tells;
  lawful = L.lawful;
  makes = λ 𝓛 x vs. makes_shadow 𝓛 (F.row.own_val x vs) (pl x vs);
  still = c.still yes;
  lends = λ {M} {𝓤} 𝓛. (c.copied M 𝓤 𝓛).lends;
}

-- an array of plain data
abbrev pub of_array : (F : Field) → LL.FLaws F → LL.Plain F → LL.Copyable F → ℕ → Plain
of_array F L pl c n = of-builtin (array_field F n) (LL.array_laws F L n) (LL.array_plain F pl n) (LL.array_copy F c n) refl

pub record Two (P A B : Plain) : Type 2 where
  pub name : Sym
  pub left : P.row.Denot → A.row.Denot
  pub right : P.row.Denot → B.row.Denot
  pub laid : P.row.mir ≡ ty_struct name (tcons A.mir (tcons B.mir tnil)) ∷ []
  pub spells : (x : P.row.Denot) → P.val x ≡ vstruct (vcons (A.val (left x)) (vcons (B.val (right x)) vnil))
  pub are : (x : P.row.Denot) (vs : List Val) → Is P.row x vs → Is A.row (left x) (A.val (left x) ∷ []) × (Is B.row (right x) (B.val (right x) ∷ []) × Unit {0})

-- its MIR type
abbrev pub two : {P A B : Plain} → Two P A B → Ty
two {A = A} {B = B} t = ty_struct t.name (tcons A.mir (tcons B.mir tnil))

module _ {M : Type 1} {𝓤 : Ura M} (𝓛 : Logic 𝓤) where
  -- a value of the type is one of its MIR type, however that is spelled
  pub typed : (P : Plain) (τ : Ty) → P.row.mir ≡ τ ∷ [] → (x : P.row.Denot) (v : Val) → Is P.row x (v ∷ []) → Holds (has_ty τ v) × WT v
  typed P τ e x v is = (subst (λ (τs : List Ty). Typed τs (v ∷ [])) e ((P.lawful 𝓛).typed x (v ∷ []) is)).0

  -- what lies behind a reference as a cell of that MIR type, and back
  pub out : (τs : List Ty) (τ : Ty) → τs ≡ τ ∷ [] → (b o : ℕ) (v : Val) → ent 𝓤 (sem 𝓛 (cell_at full_share τs (v ∷ []) b o)) (sem 𝓛 (fat full_share τ b o v))
  out τs τ e b o v = subst (λ (σs : List Ty). ent 𝓤 (sem 𝓛 (cell_at full_share σs (v ∷ []) b o)) (sem 𝓛 (fat full_share τ b o v))) (sym e) (𝓛.laws.raw_at full_share τ b o v)

  pub back : (τs : List Ty) (τ : Ty) → τs ≡ τ ∷ [] → (b o : ℕ) (v : Val) → ent 𝓤 (sem 𝓛 (fat full_share τ b o v)) (sem 𝓛 (cell_at full_share τs (v ∷ []) b o))
  back τs τ e b o v = subst (λ (σs : List Ty). ent 𝓤 (sem 𝓛 (fat full_share τ b o v)) (sem 𝓛 (cell_at full_share σs (v ∷ []) b o))) (sym e) (𝓛.laws.at_raw full_share τ b o v)

-- where a struct's field lies
abbrev offset : Option (Ty × ℕ) → ℕ
offset none = zero
offset (Some-of f) = f.1

abbrev pub off : Tys → ℕ → ℕ
off τs k = offset (field_at zero τs k)

-- ---- plain parameters
abbrev pub slots : (n : ℕ) → List Plain → List (Slot n)
slots n [] = []
slots n (P ∷ Ps) = plain (λ _. P.row) ∷ slots n Ps

-- each is still owned at exit
abbrev stay : (n : ℕ) (Ps : List Plain) → Stays (slots n Ps) (all yes (slots n Ps))
stay n [] = tt
stay n (P ∷ Ps) = (stay_none (λ _. P.row) yes, stay n Ps)

-- a contract says nothing of what is seen at exit as it was passed
quiet : {D : Type 0} (e : Exit D) → e ≡ unchanged → (x : D) (f : Last e x) → left e x f ≡ ftrue
quiet {D} e p = subst (λ (e : Exit D). (x : D) (f : Last e x) → left e x f ≡ ftrue) (sym p) (λ x f. refl)

module _ (n : ℕ) (κs : Lfts n) where
  abbrev pub Values : List Plain → Type 0
  Values Ps = Denots (types_at (slots n Ps) κs)

  -- their machine values
  abbrev spelled : (Ps : List Plain) → Spells (types_at (slots n Ps) κs)
  spelled [] = tt
  spelled (P ∷ Ps) = ((λ x. P.val x ∷ []), spelled Ps)

  abbrev pub values : (Ps : List Plain) → Values Ps → Valss (types_at (slots n Ps) κs)
  values Ps = valss (types_at (slots n Ps) κs) (spelled Ps)

  -- the values are of their types
  abbrev pub AreAt : (Ps : List Plain) → Values Ps → Type 0
  AreAt Ps a = Are (types_at (slots n Ps) κs) (Ises (types_at (slots n Ps) κs)) a (values Ps a)

  tell : (Ps : List Plain) → Tellss (types_at (slots n Ps) κs) (Ises (types_at (slots n Ps) κs)) (spelled Ps)
  tell [] = tt
  tell (P ∷ Ps) = (P.tells, tell Ps)

  -- nothing is bound for them at exit
  abbrev lasting : (Ps : List Plain) (a : Values Ps) → Fins κs (slots n Ps) (all yes (slots n Ps)) a
  lasting [] a = tt
  lasting (P ∷ Ps) a = (subst (λ (e : Exit P.row.Denot). Last e a.0) (sym P.still) tt, lasting Ps a.1)

  fit : (Ps : List Plain) (a : Values Ps) → fits_of κs (slots n Ps) (all yes (slots n Ps)) (stay n Ps) a (lasting Ps a)
  fit [] a = tt
  fit (P ∷ Ps) a = (tt, fit Ps a.1)

  module _ {M : Type 1} {𝓤 : Ura M} (𝓛 : Logic 𝓤) where
    -- what they own is had for nothing, on entry and at exit
    pub owning : (Ps : List Plain) (a : Values Ps) → AreAt Ps a → ent 𝓤 (emp 𝓤) (sem 𝓛 (owns (types_at (slots n Ps) κs) a (values Ps a)))
    owning [] a are = id⊢ 𝓤 (emp 𝓤)
    owning (P ∷ Ps) a are = qed 𝓛 [] ∵ use0 𝓛 (‵ (owns (types_at (slots n Ps) κs) a.1 (values Ps a.1))) (owning Ps a.1 are.1) $ owned ! P.row (Is P.row) (P.makes 𝓛) a.0 _ are.0 $ frame ! $ done !

    having : (Ps : List Plain) (a : Values Ps) → AreAt Ps a → ent 𝓤 (emp 𝓤) (sem 𝓛 (has_of κs (slots n Ps) (all yes (slots n Ps)) (stay n Ps) a (lasting Ps a) (values Ps a)))
    having [] a are = id⊢ 𝓤 (emp 𝓤)
    having (P ∷ Ps) a are =
        qed 𝓛 [] ∵ use0 𝓛 (‵ (has_of κs (slots n Ps) (all yes (slots n Ps)) (stay n Ps) a.1 (lasting Ps a.1) (values Ps a.1))) (having Ps a.1 are.1) $
        owned ! P.row (Is P.row) (P.makes 𝓛) a.0 _ are.0 $ frame ! $ done !

-- plain parameters are passed on to a function that has n lifetimes
module _ (n : ℕ) (κs : Lfts 1) (κs' : Lfts n) where
  abbrev pub pass : (Ps : List Plain) → Values 1 κs Ps → Values n κs' Ps
  pass [] a = tt
  pass (P ∷ Ps) a = (a.0, pass Ps a.1)

  pub passed : (Ps : List Plain) (a : Values 1 κs Ps) → AreAt 1 κs Ps a → AreAt n κs' Ps (pass Ps a)
  passed [] a are = tt
  passed (P ∷ Ps) a are = (are.0, passed Ps a.1 are.1)

going : {M : Type 1} {𝓤 : Ura M} (𝓛 : Logic 𝓤) (n : ℕ) (Ps : List Plain) → AllGo 𝓛 n (slots n Ps) (all yes (slots n Ps)) (stay n Ps)
going 𝓛 n [] = tt
going 𝓛 n (P ∷ Ps) = (Goes-none 𝓛 n (λ _. P.row) yes (λ κs. quiet (P.row.exit yes) P.still), going 𝓛 n Ps)

-- ---- the record that is passed as a `&mut`, at exit
pub data Held : Type 0 where
  owned-still : Held
  passed_on : Held

module _ (T : Plain) where
  abbrev record-slot : Slot 1
  record-slot = mut_ref_to (0 ∷ []) tt (plain (λ _. T.row))

  abbrev stay-by : Held → Stay record-slot yes
  stay-by owned-still = stay_ref (0 ∷ []) tt (plain (λ _. T.row))
  stay-by passed_on = gave_ref (0 ∷ []) tt (plain (λ _. T.row))

  -- what is had of it, with the record at w
  abbrev pub had : Held → Lft → ℕ → ℕ → GName → T.row.Denot → T.row.Denot → Fml
  had m κ b o γ h w = (stay-by m).has (κ, tt) (record { ref_ptr = (b, o); ghost_name = γ; now = h }) w (vptr b o ∷ [])

  fit-by : (m : Held) (κs : Lfts 1) (x : MutBor T.row.Denot) (w : T.row.Denot) → (stay-by m).fit κs x w
  fit-by owned-still κs x w = tt
  fit-by passed_on κs x w = tt

  going-by : {M : Type 1} {𝓤 : Ura M} (𝓛 : Logic 𝓤) (m : Held) → Goes 𝓛 1 record-slot yes (stay-by m)
  going-by 𝓛 owned-still = Goes-ref 𝓛 1 0 tt (plain (λ _. T.row))
  going-by 𝓛 passed_on = Goes-gave_ref 𝓛 1 0 tt (plain (λ _. T.row))

-- ---- a function that is called: its name in the caller's environment, its routine, and that this meets the contract K
pub record Cited {M : Type 1} (𝓤 : Ura M) (H : Heap 𝓤) (𝓜 : Model 𝓤 H) (𝓡 : Running 𝓤 H 𝓜) (env : Env) (K : Contract 𝓤) : Type 2 where
  pub name : Callee
  pub routine : Routine
  pub is : env name ≡ routine
  pub met : Triple 𝓤 (𝓡.run routine) K

pub knows : {M : Type 1} {𝓤 : Ura M} {H : Heap 𝓤} {𝓜 : Model 𝓤 H} {𝓡 : Running 𝓤 H 𝓜} {env : Env} {K : Contract 𝓤} (f : Cited 𝓤 H 𝓜 𝓡 env K) → Triple 𝓤 ((tables 𝓤 H 𝓜 𝓡 env).C f.name) K
knows {𝓤 = 𝓤} {H = H} {𝓜 = 𝓜} {𝓡 = 𝓡} {env = env} {K = K} f = cited 𝓤 H K 𝓜 𝓡 env f.name f.routine f.is f.met

-- ---- the function, on the record T and Xs, which returns R
module _ (T R : Plain) (Xs : List Plain) where
  abbrev pub this : Ended
  this = record { signature = record { lifetimes = 1; outlives = []; params = record-slot T ∷ slots 1 Xs; result = plain (λ _. R.row) }; kept = (yes, all yes (slots 1 Xs)) }

  abbrev stayed : Held → Stays this.signature.params this.kept
  stayed m = (stay-by T m, stay 1 Xs)

  -- what it ensures of the record, of what else it is passed, of its answer, and of the record after it
  abbrev pub Ensures : Type 1
  Ensures = (κs : Lfts 1) → T.row.Denot → Values 1 κs Xs → R.row.Denot → T.row.Denot → Type 0

  -- what it is passed
  abbrev pub entry : (κ : Lft) → ℕ → ℕ → GName → T.row.Denot → Values 1 (κ, tt) Xs → Args this.signature (κ, tt)
  entry κ b o γ h xs = (record { ref_ptr = (b, o); ghost_name = γ; now = h }, xs)

  module _ (Q : Ensures) (M : Type 1) (𝓤 : Ura M) (𝓛 : Logic 𝓤) where
    open 𝓛 use {A}

    abbrev pub says : Clauses 𝓤 this
    says κs a = record { ghost = Unit {0}; requires = λ _. emp 𝓤; ensures = λ _ r e. fact 𝓤 (Q κs a.0.now a.1 r e.0.now) }

    -- its contract
    abbrev pub Called-on : Contract 𝓤
    Called-on = triple_of 𝓛 this.signature (closing 𝓛 this says)

    module _ (κ : Lft) (q : Share) (b o : ℕ) (γ : GName) (h : T.row.Denot) (xs : Values 1 (κ, tt) Xs) where
      -- what it is passed, as its triple binds it
      abbrev pub bound : Called-on.Ghost
      bound = (((κ, tt), (q, tt), tt, entry κ b o γ h xs, (vptr b o ∷ [], values 1 (κ, tt) Xs xs)), tt)

      abbrev pub Post : Held → Val → SProp 𝓤
      Post m = (walk_of 𝓛 this (stayed m) says).post bound

      -- where a walk ends: the record is at w, the answer r is a value of its type, and what the function ensures holds of them
      pub exits : (m : Held) → AreAt 1 (κ, tt) Xs xs → (r : R.row.Denot) (w : T.row.Denot) → Q (κ, tt) h xs r w → Fits R r → ent 𝓤 (sep 𝓤 (sem 𝓛 (had T m κ b o γ h w)) (A.lft κ q)) (Post m (R.val r))
      exits m are r w e is =
          qed 𝓛 (‵ (had T m κ b o γ h w) ∷ ‵ (flft κ q) ∷ []) ∵ suffices ! _ (ends_at 𝓛 this (stayed m) says bound (R.val r) r (w, lasting 1 (κ, tt) Xs xs) (fit-by T m (κ, tt) _ w, fit 1 (κ, tt) Xs xs)) $ said ! e $
          nothing ! $ move ! (2 ∷ 0 ∷ []) $ join ! $ move ! (1 ∷ []) $
          use0 𝓛 (‵ (has_of (κ, tt) (slots 1 Xs) (all yes (slots 1 Xs)) (stay 1 Xs) xs (lasting 1 (κ, tt) Xs xs) (values 1 (κ, tt) Xs xs))) (having 1 (κ, tt) 𝓛 Xs xs are) $ move ! (1 ∷ 0 ∷ []) $ fjoin ! $
          owned ! R.row (Is R.row) (R.makes 𝓛) r _ is $ move ! (1 ∷ 0 ∷ []) $ join ! $ move ! (1 ∷ 0 ∷ []) $ done !

  -- what is known of the functions that are called, and the function's MIR
  module _ (Q : Ensures) (m : Held) (Knows : (M : Type 1) (𝓤 : Ura M) (𝓛 : Logic 𝓤) → Calls 𝓤 𝓛.H → Type 1) (code : Fn) where
    -- a walk of it at each choice of what the function's triple binds
    abbrev pub Walked : Type 2
    Walked = (M : Type 1) (𝓤 : Ura M) (𝓛 : Logic 𝓤) (κ : Lft) (q : Share) (b o : ℕ) (γ : GName) (h : T.row.Denot) (xs : Values 1 (κ, tt) Xs) → AreAt 1 (κ, tt) Xs xs
        → (C : Calls 𝓤 𝓛.H) (Λ : Loops 𝓤 𝓛.H) → FmC 𝓤 𝓛.H 𝓛.laws C → Knows M 𝓤 𝓛 C
        → ent 𝓤 (on_entry 𝓛 this.signature (κ, tt) (q, tt) (entry κ b o γ h xs) (vptr b o ∷ [], values 1 (κ, tt) Xs xs))
        (WpFn 𝓤 𝓛.H C Λ code (vptr b o ∷ flat (types_at (slots 1 Xs) (κ, tt)) (values 1 (κ, tt) Xs xs)) (Post Q M 𝓤 𝓛 κ q b o γ h xs m))

    -- the function, whose code is `env #this`, meets its contract, where those that it calls meet theirs
    pub walk-holds : Walked → {M : Type 1} {𝓤 : Ura M} (𝓛 : Logic 𝓤) (𝓜 : Model 𝓤 𝓛.H) (𝓡 : Running 𝓤 𝓛.H 𝓜) (env : Env) (#this : Callee)
        → Closed 𝓤 𝓛.H (tables 𝓤 𝓛.H 𝓜 𝓡 env).C (tables 𝓤 𝓛.H 𝓜 𝓡 env).Λ #this code → Knows M 𝓤 𝓛 (tables 𝓤 𝓛.H 𝓜 𝓡 env).C → Triple 𝓤 (𝓡.run (env #this)) (Called-on Q M 𝓤 𝓛)
    unfolding tables_of
    walk-holds walk {M} {𝓤 = 𝓤} 𝓛 𝓜 𝓡 env #this unfolded known =
        let A : Atoms 𝓤 = 𝓛.A in
        let c : Clauses 𝓤 this = says Q M 𝓤 𝓛 in
        let C : Calls 𝓤 𝓛.H = (tables 𝓤 𝓛.H 𝓜 𝓡 env).C in
        let Λ : Loops 𝓤 𝓛.H = (tables 𝓤 𝓛.H 𝓜 𝓡 env).Λ in
        entered 𝓤 𝓛.H (Called-on Q M 𝓤 𝓛) C Λ #this code unfolded
        (walk_Meets 𝓛 this (stayed m) (going-by T 𝓛 m, going 𝓛 1 Xs) c (WpFn 𝓤 𝓛.H C Λ code) (WpFn-mono 𝓤 𝓛.H 𝓛.laws (tables_of 𝓤 𝓛.H 𝓜 (tables 𝓤 𝓛.H 𝓜 𝓡 env)) code)
        (walked 𝓛 this (stayed m) c (WpFn 𝓤 𝓛.H C Λ code) (λ κs. (mut_vals, spelled 1 κs Xs)) (λ κs. (mut_Tells (named 0) κs.0 T.row, tell 1 κs Xs))
        (λ κs qs bounds a g are. via 𝓤 _ (fst∗ 𝓤 _ (emp 𝓤)) (walk M 𝓤 𝓛 κs.0 qs.0 a.0.ref_ptr.0 a.0.ref_ptr.1 a.0.ghost_name a.0.now a.1 are.1 C Λ
        (fm_of 𝓤 𝓛.H 𝓛.laws (tables_of 𝓤 𝓛.H 𝓜 (tables 𝓤 𝓛.H 𝓜 𝓡 env))) known))))

  -- a contract in its own words: its `ensures`, E, follows of what the function ensures
  pub in_words : (Q : Ensures) {M : Type 1} {𝓤 : Ura M} (𝓛 : Logic 𝓤) (𝓜 : Model 𝓤 𝓛.H) (𝓡 : Running 𝓤 𝓛.H 𝓜) (routine : Routine)
      (E : (κs : Lfts 1) (a : Args this.signature κs) → Unit {0} → Res this.signature κs → AtExit this κs → SProp 𝓤)
      → ((κs : Lfts 1) (a : Args this.signature κs) (r : Res this.signature κs) (ws : Lasts this κs a) → Q κs a.0.now a.1 r ws.0 → (P : SProp 𝓤) → ent 𝓤 P (E κs a tt r (at_exit this κs a ws)))
      → Triple 𝓤 (𝓡.run routine) (Called-on Q M 𝓤 𝓛)
      → Triple 𝓤 (𝓡.run routine) (triple_of 𝓛 this.signature (closing 𝓛 this (λ κs a. record { ghost = Unit {0}; requires = λ _. emp 𝓤; ensures = E κs a })))
  in_words Q {M} {𝓤 = 𝓤} 𝓛 𝓜 𝓡 routine E follows =
      weaken 𝓛 this (says Q M 𝓤 𝓛) E (λ κs a g r ws. fact_use 𝓤 (Q κs a.0.now a.1 r ws.0) (id⊢ 𝓤 _) (λ e. follows κs a r ws e _)) (𝓡.run routine) (routine_mono 𝓤 𝓛.H 𝓜 𝓡 routine)

-- the locals of values, and of values of plain types before others
abbrev pub value : Ty → Local
value τ = local τ value_local

abbrev pub places : List Plain → List Local → List Local
places [] ls = ls
places (P ∷ Ps) ls = value P.mir ∷ places Ps ls
