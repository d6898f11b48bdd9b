-- A call on a record that lies in one place: it is lent for a lifetime of the call, and comes back as the call left it. Assumes `Logic`.
use mathlib.Core.Path.{◌≡◌, refl, sym, subst, ap}
use Prim.Native.Nat.{ℕ}
use mathlib.Core.List.{List, [], ◌∷◌}
use seplogic.Ra.Ura.{Ura}
use base.Fraction.{full_share}
use mir.Syntax.{Callee as Name, Place, Opd as Operand, named, Body as Code, seq, call}
use mir.Val.{Val, vptr}
use base.Logic.{ent, emp, id⊢, sep}
use base.Fml.{Fml, GName, ftrue, fsep, fat, froom, flft, flent, fres}
use prog.Wp.{Env, Calls, Loops}
use types.Logic.{Logic, sem}
use contract.Monad.{Fun, fact}
use types.Kit.{Item, ‵, raw, some, later, ◌⊛◌, mean, Post, runs, lands, Seq, ◌$◌, ◌∵◌, !, qed, move, drop, use1, use3, split, join, pick, rewrite, fsplit, fjoin, fpick, fpack, frame, await, done}
use types.Run.{Opds, forget}
use types.SemTy.{Body}
use types.Tokens.{lft_new, lft_end}
use sound.WpLaws.{FmC}
use denote.RattleType.{RattleType, owns}
use denote.Laws.{Is, Typed, shows}
use denote.Memory.{mem, cell_at, part_of}
use denote.Lend.{lends_ref, ref_back}
use denote.Ref.{MutBor, MutRef}
use denote.Steps.{only, owned, facts, heard, nothing}
use denote.Struct.Steps.{spelt}
use denote.Struct.Laws as LL
use denote.Enum.Enum.{Few, Plainss}
use denote.Enum.Declared.{Declared, variants, shape, row as row_of}
use denote.Enum.Laws as EL
use denote.Triple.Call.{calls_from}
use Rattle.refusal.specs.Answer.{Answer}
use Rattle.states.specs.Table.{Said}
use Rattle.record.specs.Calls.{After}
use Rattle.record.specs.declared.record.Connection.{Connection}
use Rattle.record.specs.contracts.record.Connection as T
use Rattle.record.proofs.record.Connection.TheLaws as T'

-- the machine values of a record
abbrev pub vals : Connection → List Val
vals = LL.vals T.the_type T'.the_laws

-- an enum that owns only facts: its row, a value's machine values, and the relation of the two
pub record Plain : Type 2 where
  pub type : Declared
  pub laws : EL.Laws type
  pub plain : Plainss (variants type)
  pub few : Few (shape type)

module _ (P : Plain) where
  abbrev pub row : RattleType
  row = row_of P.type

  abbrev pub spell : row.Denot → List Val
  spell = EL.vals P.type P.laws

  abbrev pub Fits : row.Denot → Type 0
  Fits x = Is row x (spell x)

  pub typed : {M : Type 1} {𝓤 : Ura M} (𝓛 : Logic 𝓤) (x : row.Denot) → Fits x → Typed row.mir (spell x)
  typed {M} {𝓤} 𝓛 x fits = (EL.lawful P.type P.laws 𝓛 P.few).typed x (spell x) fits

-- the reference to the record z at b
abbrev pub ref : ℕ → GName → Connection → MutBor Connection
ref b γ z = record { ref_ptr = (b, 0); ghost_name = γ; now = z }

module _ {M : Type 1} {𝓤 : Ura M} (𝓛 : Logic 𝓤) where
  open 𝓛 use {A}

  abbrev pub Lent : ℕ → ℕ → GName → Connection → Item 𝓤
  Lent b α γ z = ‵ (flft (α ∷ []) full_share) ⊛ ‵ ((MutRef (named 0) (α ∷ []) T.the_row).own_val (ref b γ z) (vptr b 0 ∷ []))

  -- what a call gives that does as w says: an answer, and the record's last value
  abbrev pub Left : (P : Plain) → ((row P).Denot → Answer Said) → Type 0 → Fml → After → ℕ → GName → Val → Item 𝓤
  Left P told X F w α γ v =
      later (some (λ (r : (row P).Denot). ((‵ (flft (α ∷ []) full_share) ⊛ ‵ ftrue) ⊛ ‵ ((row P).own_val r (v ∷ [])))
      ⊛ some (λ (zs : Connection × X). ‵ (fsep (fres γ ((T.the_row).coded.code zs.0)) F) ⊛ raw (fact 𝓤 ((zs.0 ≡ w.connection) × (told r ≡ w.answer))))))

  module _ (b α : ℕ) (γ : GName) (z : Connection) where
    -- what a function asks for that takes the record alone, and one that takes x beside it
    pub asks : ent 𝓤 (mean 𝓛 (Lent b α γ z))
        (sep 𝓤 (sep 𝓤 (sep 𝓤 (A.lft (α ∷ []) full_share) (emp 𝓤)) (sem 𝓛 (owns (MutRef (named 0) (α ∷ []) T.the_row ∷ []) (ref b γ z, tt) (vptr b 0 ∷ [], tt)))) (emp 𝓤))
    asks =
        qed 𝓛 (‵ (flft (α ∷ []) full_share) ∷ ‵ ((MutRef (named 0) (α ∷ []) T.the_row).own_val (ref b γ z) (vptr b 0 ∷ [])) ∷ []) ∵
        nothing ! $ move ! (1 ∷ 0 ∷ []) $ join ! $ nothing ! $ move ! (2 ∷ 0 ∷ []) $ join ! $ move ! (1 ∷ 0 ∷ []) $ join ! $ frame ! $ done !

    pub asks-more : (P : Plain) (x : (row P).Denot) → Fits P x → ent 𝓤 (mean 𝓛 (Lent b α γ z))
        (sep 𝓤 (sep 𝓤 (sep 𝓤 (A.lft (α ∷ []) full_share) (emp 𝓤)) (sem 𝓛 (owns (MutRef (named 0) (α ∷ []) T.the_row ∷ row P ∷ []) (ref b γ z, (x, tt)) (vptr b 0 ∷ [], (spell P x, tt))))) (emp 𝓤))
    asks-more P x fits =
        qed 𝓛 (‵ (flft (α ∷ []) full_share) ∷ ‵ ((MutRef (named 0) (α ∷ []) T.the_row).own_val (ref b γ z) (vptr b 0 ∷ [])) ∷ []) ∵
        nothing ! $ move ! (1 ∷ 0 ∷ []) $ join ! $ nothing ! $ owned ! (row P) (Is (row P)) (EL.makes P.type P.plain 𝓛) x (spell P x) fits $ join ! $ move ! (2 ∷ 0 ∷ []) $ join ! $ move ! (1 ∷ 0 ∷ []) $ join ! $ frame ! $ done !

  -- a record in a local's cell lies there, so that it can be lent
  pub lies_in : (z : Connection) → Is T.the_row z (vals z) → (b : ℕ) → ent 𝓤 (sem 𝓛 (fat full_share T'.mir b 0 (only (vals z)))) (sem 𝓛 ((mem T.the_row).own_at z b 0))
  unfolding part_of
  lies_in z fits b =
      qed 𝓛 (‵ (fat full_share T'.mir b 0 (only (vals z))) ∷ []) ∵
      use1 𝓛 (‵ (cell_at full_share (T.the_row).mir (vals z) b 0)) (𝓛.laws.at_raw full_share T'.mir b 0 (only (vals z))) $
      owned ! T.the_row (Is T.the_row) (LL.makes T.the_type T'.the_plain 𝓛) z _ fits $ move ! (1 ∷ 0 ∷ []) $ fjoin ! $
      fpack ! (List Val) (λ us. fsep (cell_at full_share (T.the_row).mir us b 0) ((T.the_row).own_val z us)) (vals z) $ done !

  -- a record's cell is room again
  pub room_of : (z : Connection) (b : ℕ) → ent 𝓤 (sem 𝓛 ((mem T.the_row).own_at z b 0)) (sem 𝓛 (froom T'.mir b 0))
  unfolding part_of
  room_of z b =
      qed 𝓛 (‵ ((mem T.the_row).own_at z b 0) ∷ []) ∵ fpick ! (λ vs. fsplit ! $ spelt ! T.the_row (Is T.the_row) (shows 𝓛 T.the_row) vals (LL.tells T.the_type T'.the_laws) full_share z vs b 0 $
      use1 𝓛 (‵ (fat full_share T'.mir b 0 (only (vals z)))) (𝓛.laws.raw_at full_share T'.mir b 0 (only (vals z))) $ forget ! 0 refl $ move ! (1 ∷ []) $ drop ! $ done !)

-- a function that, given us beside the record, does as `does` says at every record. P is its answer's type; X and F are what its contract has at exit of what is
-- beside the record, and say nothing
pub record Callee {M : Type 1} {𝓤 : Ura M} (𝓛 : Logic 𝓤) (run : Fun 𝓤) : Type 2 where
  pub P : Plain
  pub told : (row P).Denot → Answer Said
  pub X : Type 0
  pub F : Fml
  pub us : List Val
  pub does : Connection → After
  pub meets : (b α : ℕ) (γ : GName) (z : Connection) → ent 𝓤 (mean 𝓛 (Lent 𝓛 b α γ z)) (run (vptr b 0 ∷ us) (λ v. mean 𝓛 (Left 𝓛 P told X F (does z) α γ v)))

module _ {M : Type 1} {𝓤 : Ura M} {𝓛 : Logic 𝓤} {K : Type 0} {Γ : List (Item 𝓤)} {E : Env 𝓤 𝓛.H} {C : Calls 𝓤 𝓛.H} {Λ : Loops 𝓤 𝓛.H} {q : Post 𝓤 𝓛.H} {f : Name} {xs : List Operand} {d : Place} {rest : Code} where
  open 𝓛 use {H}

  pub calls-on : K → FmC 𝓤 H 𝓛.laws C → (c : Callee 𝓛 (C f)) (b : ℕ) (z : Connection)
      → ((α : ℕ) (γ : GName) → Opds K 𝓛 (Lent 𝓛 b α γ z ∷ ‵ (flent (α ∷ []) (Body (mem T.the_row) b 0 γ)) ∷ Γ) E xs (vptr b 0 ∷ c.us))
      → ((r : (row c.P).Denot) → Fits c.P r → c.told r ≡ (c.does z).answer → Seq K 𝓛 (‵ ((mem T.the_row).own_at (c.does z).connection b 0) ∷ Γ) (lands C Λ E d (only (spell c.P r)) rest q))
      → Seq K 𝓛 (‵ ((mem T.the_row).own_at z b 0) ∷ Γ) (runs C Λ E (seq (call f xs d) rest) q)
  calls-on t fm c b z reads k = lft_new t tt (λ α. move t (1 ∷ []) $
      use1 𝓛 (later (some (λ (γ : GName). ‵ ((MutRef (named 0) (α ∷ []) T.the_row).own_val (ref b γ z) (vptr b 0 ∷ [])) ⊛ ‵ (flent (α ∷ []) (Body (mem T.the_row) b 0 γ))))) (lends_ref 𝓛 T.the_row (named 0) (α ∷ []) z b 0) $
      await t tt $ pick t (λ γ. split t $ move t (2 ∷ 0 ∷ []) $ join t $
      calls_from t fm (Lent 𝓛 b α γ z) (vptr b 0 ∷ c.us) (λ v. mean 𝓛 (Left 𝓛 c.P c.told c.X c.F (c.does z) α γ v)) (c.meets b α γ z) (reads α γ) (λ v.
      use1 𝓛 (Left 𝓛 c.P c.told c.X c.F (c.does z) α γ v) (id⊢ 𝓤 _) $ await t tt $ pick t (λ r. split t $ move t (1 ∷ []) $ pick t (λ zs. split t $ move t (1 ∷ []) $
      heard t ((zs.0 ≡ (c.does z).connection) × (c.told r ≡ (c.does z).answer)) (λ e. fsplit t $ move t (2 ∷ []) $ split t $ split t $ lft_end t tt $
      move t (0 ∷ 5 ∷ 3 ∷ []) $ use3 𝓛 (later (‵ ((mem T.the_row).own_at zs.0 b 0))) (ref_back 𝓛 T.the_row (α ∷ []) γ zs.0 b 0) $ await t tt $
      rewrite t 0 (λ (u : Connection). ‵ ((mem T.the_row).own_at u b 0)) e.0 refl $ move t (1 ∷ []) $ drop t $ move t (2 ∷ []) $ drop t $ move t (1 ∷ []) $ facts t (row c.P) (Is (row c.P)) (shows 𝓛 (row c.P)) r (v ∷ []) (λ is.
      subst (λ (u : Val). Seq K 𝓛 (‵ ((mem T.the_row).own_at (c.does z).connection b 0) ∷ Γ) (lands C Λ E d u rest q)) (sym (ap only (EL.tells c.P.type c.P.laws r (v ∷ []) is)))
      (k r (subst (Is (row c.P) r) (EL.tells c.P.type c.P.laws r (v ∷ []) is) is) e.1))))))))
