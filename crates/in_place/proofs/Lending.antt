-- A call on a record that stays where it lies, which lends the record's own fields: the record is a struct of a control and four more fields. The
-- borrow is opened, the control is copied out, and each of the four fields is lent to a step, as a `&` or as a `&mut`, for a lifetime of its own.
-- They come back as the step left them, the control that the step gave is stored over the old one, the borrow is closed, and the step's answer is
-- returned. Here such a function's MIR is walked by hand, once with a further argument and once without, over its types, over how each field is
-- lent, and over what the step and the function ensure. A walk knows of the step only that it meets its contract.
--     Five T K A B C D   T is a struct of the control K and of A, B, C and D
--     Lends              a function of this kind: its types, and how each field is lent
--     Step-ensures       what the step ensures; `Gives`: and what the function ensures follows
--     lent, lent-with    the function meets its contract, where the step meets its own. `lent-with` has a further argument, and passes it on
-- Assumes nothing.
use mathlib.Core.Path.{◌≡◌, refl, sym, ◌∙◌, ap, subst}
use Prim.Native.Nat.{ℕ, zero, ◌+◌}
use mathlib.Core.List.{[], ◌∷◌, List}
use seplogic.Ra.Ura.{Ura}
use base.Fraction.{full_share}
use lib.ListN.{length}
use mir.Syntax.{Callee, Sym, Ty, ty_struct, ty_ref, Mutability, mut, Tys, tcons, tnil, named, erased, Opd, seq, assign, call, return, place, deref, field, rv_opd, addr_of, copy, Fn}
use mir.Val.{Val, vptr, Vals, vstruct, vcons, vnil}
use base.Logic.{SProp, ent, sep, ex, guard, emp, all as all_of, wand, all_e, apply∗, id⊢}
use base.Fml.{GName, Lft, Fml, ftrue, fat, flft}
use prog.Model.{Model, fields_at}
use prog.Routine.{Env}
use prog.Wp.{Calls, Closed}
use types.Logic.{Logic, sem}
use contract.Lifetimes.{Lfts}
use contract.Monad.{fact}
use contract.Running.{Running, tables}
use types.Kit.{Item, mean, ‵, raw, given, some, later, ◌⊛◌, ◌$◌, ◌∵◌, !, qed, by, move, keep, drop, use0, use1, use2, split, join, pick, learn, rewrite, fsplit, fsplit3, fjoin, fjoin3, feq_i, frame, await, updating, now as at_once, show, check, done}
use types.Run.{look, init, forget, stop, hop, fld, from, load, addr, of_opd, and_then, no_more, assigns, land, returns, enter, alloc1, alloc0, params1, pass1, pass0, free1, free0}
use types.Part.{whole, sub, look_in, store_in}
use denote.RattleType.{owns}
use denote.Laws.{Is, shows}
use denote.Memory.{cell_at, pointee}
use denote.Exit.{yes}
use denote.Ref.{MutRef}
use denote.Signature.{plain, types_at}
use denote.Steps.{only, opens, closes, owned, peeks, heard, nothing}
use denote.Struct.Steps.{spelt}
use denote.Triple.Entry.{Args}
use denote.Triple.Spec.{triple_of}
use denote.Triple.Statement.{Contract, Triple}
use denote.Triple.Call.{calls_at}
use denote.Triple.Clauses.{Clauses, Ended, Lasts, ensured, lasts, closing}
use denote.Triple.End.{all}
use Rattle.in_place.proofs.InPlace.{Plain, Fits, Two, two, typed, out, back, slots, Values, values, AreAt, owning, value, places, owned-still, pass, passed, off, Cited, knows, Ensures, Called-on, exits, Walked, walk-holds}
use Rattle.in_place.proofs.Lent.{Ref, To, after, last, Kept, lent_at, now_of, now-lent, lend, comes_back}

-- ---- the record, and the function
abbrev laid_out : (K A B C D : Plain) → Tys
laid_out K A B C D = tcons K.mir (tcons A.mir (tcons B.mir (tcons C.mir (tcons D.mir tnil))))

pub record Five (T K A B C D : Plain) : Type 2 where
  pub name : Sym
  pub control : T.row.Denot → K.row.Denot
  pub first : T.row.Denot → A.row.Denot
  pub second : T.row.Denot → B.row.Denot
  pub third : T.row.Denot → C.row.Denot
  pub fourth : T.row.Denot → D.row.Denot
  pub joined : K.row.Denot → A.row.Denot → B.row.Denot → C.row.Denot → D.row.Denot → T.row.Denot
  pub whole : (h : T.row.Denot) → h ≡ joined (control h) (first h) (second h) (third h) (fourth h)
  pub laid : T.row.mir ≡ ty_struct name (laid_out K A B C D) ∷ []
  pub spells : (k : K.row.Denot) (a : A.row.Denot) (b : B.row.Denot) (c : C.row.Denot) (d : D.row.Denot) → T.val (joined k a b c d) ≡ vstruct (vcons (K.val k) (vcons (A.val a) (vcons (B.val b) (vcons (C.val c) (vcons (D.val d) vnil)))))
  pub are : (h : T.row.Denot) (vs : List Val) → Is T.row h vs → Fits K (control h) × (Fits A (first h) × (Fits B (second h) × (Fits C (third h) × Fits D (fourth h))))
  pub owes : (k : K.row.Denot) (a : A.row.Denot) (b : B.row.Denot) (c : C.row.Denot) (d : D.row.Denot) → Fits K k × (Fits A a × (Fits B b × (Fits C c × Fits D d))) → Fits T (joined k a b c d)

-- the record T, its parts, what the step returns, U, and the answer, R
pub record Lends : Type 2 where
  pub T : Plain
  pub K : Plain
  pub A : Plain
  pub B : Plain
  pub C : Plain
  pub D : Plain
  pub U : Plain
  pub R : Plain
  pub parts : Five T K A B C D
  pub gave : Two U K R
  pub by-A : Mutability
  pub by-B : Mutability
  pub by-C : Mutability
  pub by-D : Mutability

-- the lifetimes for which the fields are lent, and the references' names
record Names : Type 0 where
  κA : ℕ
  κB : ℕ
  κC : ℕ
  κD : ℕ
  γA : GName
  γB : GName
  γC : GName
  γD : GName

abbrev lfts : Names → Lfts 4
lfts n = (n.κA ∷ [], (n.κB ∷ [], (n.κC ∷ [], (n.κD ∷ [], tt))))

-- ---- the record's cell is its fields' cells side by side
module _ (z : Lends) where
  open z use {K, A, B, C, D, parts}

  abbrev τs : Tys
  τs = laid_out K A B C D

  abbrev struct : Ty
  struct = ty_struct parts.name τs

  module _ {M : Type 1} {𝓤 : Ura M} (𝓛 : Logic 𝓤) (p o : ℕ) where
    open 𝓛 use {H}

    abbrev Back : Vals → SProp 𝓤
    Back us = wand 𝓤 (fields_at 𝓤 H full_share τs zero p o us) (H.at full_share struct p o (vstruct us))

    -- a field's cell
    abbrev part : (P : Plain) → ℕ → P.row.Denot → Item 𝓤
    part P i x = ‵ (fat full_share P.mir p (o + off τs i) (P.val x))

    -- what is left of the record's place while its fields are out
    abbrev Way : SProp 𝓤
    Way = all_of 𝓤 Back

    module _ (k : K.row.Denot) (a : A.row.Denot) (b : B.row.Denot) (c : C.row.Denot) (d : D.row.Denot) where
      abbrev vals : Vals
      vals = vcons (K.val k) (vcons (A.val a) (vcons (B.val b) (vcons (C.val c) (vcons (D.val d) vnil))))

      abbrev Cell : Fml
      Cell = fat full_share struct p o (vstruct vals)

      abbrev Apart : Item 𝓤
      Apart = part K 0 k ⊛ (part A 1 a ⊛ (part B 2 b ⊛ (part C 3 c ⊛ (part D 4 d ⊛ (raw Way)))))

      apart : ent 𝓤 (sem 𝓛 Cell) (mean 𝓛 Apart)
      apart =
          qed 𝓛 (‵ Cell ∷ []) ∵ use1 𝓛 ((part K 0 k ⊛ (part A 1 a ⊛ (part B 2 b ⊛ (part C 3 c ⊛ (part D 4 d ⊛ raw (emp 𝓤)))))) ⊛ raw Way) (𝓛.laws.at_fields full_share parts.name τs p o vals) $
          split ! $ split ! $ move ! (1 ∷ []) $ split ! $ move ! (1 ∷ []) $ split ! $ move ! (1 ∷ []) $ split ! $ move ! (1 ∷ []) $ split ! $ keep ! (5 ∷ 4 ∷ 3 ∷ 2 ∷ 0 ∷ 6 ∷ []) $ done !

      together : ent 𝓤 (mean 𝓛 Apart) (sem 𝓛 Cell)
      together =
          qed 𝓛 (Apart ∷ []) ∵ split ! $ move ! (1 ∷ []) $ split ! $ move ! (1 ∷ []) $ split ! $ move ! (1 ∷ []) $ split ! $ move ! (1 ∷ []) $ split ! $ nothing ! $ move ! (1 ∷ 0 ∷ []) $ join ! $ move ! (2 ∷ 0 ∷ []) $ join ! $ move ! (2 ∷ 0 ∷ []) $ join ! $ move ! (2 ∷ 0 ∷ []) $ join ! $ move ! (2 ∷ 0 ∷ []) $ join ! $ move ! (1 ∷ []) $
          use1 𝓛 (raw (Back vals)) (all_e 𝓤 Back vals) $ move ! (1 ∷ 0 ∷ []) $ use2 𝓛 (‵ Cell) (apply∗ 𝓤 (fields_at 𝓤 H full_share τs zero p o vals) (H.at full_share struct p o (vstruct vals))) $ done !

module _ (z : Lends) (Xs : List Plain) where
  open z use {T, K, A, B, C, D, U, R, parts, gave, by-A, by-B, by-C, by-D}
  open parts use {control, first, second, third, fourth, joined}

  -- the function's MIR: the step is passed the control, the four references and `opds`
  abbrev code : List Opd → Callee → Fn
  code opds #step = record {
    lifetimes = 1;
    outlives = [];
    ty_params = [];
    givens = 0;
    params = 1 + length Xs;
    locals = value R.mir ∷ value (ty_ref (named 0) mut (pointee T.row.written)) ∷ places Xs (value (two gave) ∷ value K.mir ∷ value (ty_ref erased by-A (pointee A.row.written)) ∷ value (ty_ref erased by-B (pointee B.row.written)) ∷ value (ty_ref erased by-C (pointee C.row.written)) ∷ value (ty_ref erased by-D (pointee D.row.written)) ∷ []);
    body = seq (assign (place (3 + length Xs) []) (rv_opd (copy (place 1 (deref (struct z) ∷ field 0 ∷ [])))))
        (seq (assign (place (4 + length Xs) []) (addr_of (place 1 (deref (struct z) ∷ field 1 ∷ []))))
        (seq (assign (place (5 + length Xs) []) (addr_of (place 1 (deref (struct z) ∷ field 2 ∷ []))))
        (seq (assign (place (6 + length Xs) []) (addr_of (place 1 (deref (struct z) ∷ field 3 ∷ []))))
        (seq (assign (place (7 + length Xs) []) (addr_of (place 1 (deref (struct z) ∷ field 4 ∷ []))))
        (seq (call #step (copy (place (3 + length Xs) []) ∷ copy (place (4 + length Xs) []) ∷ copy (place (5 + length Xs) []) ∷ copy (place (6 + length Xs) []) ∷ copy (place (7 + length Xs) []) ∷ opds) (place (2 + length Xs) []))
        (seq (assign (place 1 (deref (struct z) ∷ field 0 ∷ [])) (rv_opd (copy (place (2 + length Xs) (field 0 ∷ [])))))
        (seq (assign (place 0 []) (rv_opd (copy (place (2 + length Xs) (field 1 ∷ []))))) return)))))));
  }

  -- ---- the step: its contract, and what it is lent
  abbrev called : Ended
  called = record {
    signature = record {
      lifetimes = 4;
      outlives = [];
      params = plain (λ _. K.row) ∷ plain (λ κs. Ref by-A (named 0) κs.0 A.row) ∷ plain (λ κs. Ref by-B (named 1) κs.1.0 B.row)
          ∷ plain (λ κs. Ref by-C (named 2) κs.1.1.0 C.row) ∷ plain (λ κs. Ref by-D (named 3) κs.1.1.1.0 D.row) ∷ slots 4 Xs;
      result = plain (λ _. U.row);
    };
    kept = (yes, (yes, (yes, (yes, (yes, all yes (slots 4 Xs))))));
  }

  -- what the step leaves: its result, and the four fields
  pub record Left : Type 0 where
    pub result : U.row.Denot
    pub a : A.row.Denot
    pub b : B.row.Denot
    pub c : C.row.Denot
    pub d : D.row.Denot

  -- the record after the call
  abbrev stored : Left → T.row.Denot
  stored y = joined (gave.left y.result) y.a y.b y.c y.d

  -- what the step ensures of the record, the further arguments and what it leaves
  abbrev pub Step-ensures : Type 1
  Step-ensures = (κs : Lfts 4) → T.row.Denot → Values 4 κs Xs → Left → Type 0

  -- and what the function ensures follows of it
  abbrev pub Gives : Ensures T R Xs → Step-ensures → Type 0
  Gives Q S = (κ : Lft) (h : T.row.Denot) (xs : Values 1 (κ, tt) Xs) (κs : Lfts 4) (y : Left) → S κs (joined (control h) (first h) (second h) (third h) (fourth h)) (pass 4 (κ, tt) κs Xs xs) y
      → Q (κ, tt) h xs (gave.right y.result) (stored y)

  module _ (S : Step-ensures) (M : Type 1) (𝓤 : Ura M) (𝓛 : Logic 𝓤) where
    open 𝓛 use {H}

    abbrev step-says : Clauses 𝓤 called
    step-says κs a = record {
      ghost = Unit {0};
      requires = λ _. emp 𝓤;
      ensures = λ _ r e. fact 𝓤 (S κs (joined a.0 (now_of by-A a.1.0) (now_of by-B a.1.1.0) (now_of by-C a.1.1.1.0) (now_of by-D a.1.1.1.1.0)) a.1.1.1.1.1
          (record { result = r; a = after A.row by-A (named 0) κs.0 a.1.0 e.1.0; b = after B.row by-B (named 1) κs.1.0 a.1.1.0 e.1.1.0; c = after C.row by-C (named 2) κs.1.1.0 a.1.1.1.0 e.1.1.1.0; d = after D.row by-D (named 3) κs.1.1.1.0 a.1.1.1.1.0 e.1.1.1.1.0 }));
    }

    abbrev Called : Contract 𝓤
    Called = triple_of 𝓛 called.signature (closing 𝓛 called step-says)

    module _ (κ : Lft) (p o : ℕ) (h : T.row.Denot) (xs : Values 1 (κ, tt) Xs) where
      abbrev ref-A : Names → To by-A A.row.Denot
      ref-A n = lent_at by-A p (o + off (τs z) 1) n.γA (first h)

      abbrev ref-B : Names → To by-B B.row.Denot
      ref-B n = lent_at by-B p (o + off (τs z) 2) n.γB (second h)

      abbrev ref-C : Names → To by-C C.row.Denot
      ref-C n = lent_at by-C p (o + off (τs z) 3) n.γC (third h)

      abbrev ref-D : Names → To by-D D.row.Denot
      ref-D n = lent_at by-D p (o + off (τs z) 4) n.γD (fourth h)

      abbrev further : (n : Names) → Values 4 (lfts n) Xs
      further n = pass 4 (κ, tt) (lfts n) Xs xs

      abbrev args : (n : Names) → Args called.signature (lfts n)
      args n = (control h, (ref-A n, (ref-B n, (ref-C n, (ref-D n, further n)))))

      -- what the step is passed, as its triple binds it
      abbrev to_step : Names → Called.Ghost
      to_step n = ((lfts n, (full_share, (full_share, (full_share, (full_share, tt)))), tt, args n, (K.val (control h) ∷ [], (vptr p (o + off (τs z) 1) ∷ [], (vptr p (o + off (τs z) 2) ∷ [], (vptr p (o + off (τs z) 3) ∷ [], (vptr p (o + off (τs z) 4) ∷ [], values 4 (lfts n) Xs (further n))))))), tt)

      -- the record, as the step is shown it: it is the record
      abbrev shown : Names → T.row.Denot
      shown n = joined (control h) (now_of by-A (ref-A n)) (now_of by-B (ref-B n)) (now_of by-C (ref-C n)) (now_of by-D (ref-D n))

      is_shown : (n : Names) → shown n ≡ joined (control h) (first h) (second h) (third h) (fourth h)
      is_shown n i = joined (control h) (now-lent by-A p (o + off (τs z) 1) n.γA (first h) i) (now-lent by-B p (o + off (τs z) 2) n.γB (second h) i) (now-lent by-C p (o + off (τs z) 3) n.γC (third h) i) (now-lent by-D p (o + off (τs z) 4) n.γD (fourth h) i)

      -- what the function has while the fields are lent, and what the call gives back: the tokens
      abbrev Lender : Names → Item 𝓤
      Lender n = part z 𝓛 p o K 0 (control h) ⊛ (‵ (Kept A.row by-A (n.κA ∷ []) p (o + off (τs z) 1) n.γA (first h)) ⊛ (‵ (Kept B.row by-B (n.κB ∷ []) p (o + off (τs z) 2) n.γB (second h)) ⊛ (‵ (Kept C.row by-C (n.κC ∷ []) p (o + off (τs z) 3) n.γC (third h)) ⊛ (‵ (Kept D.row by-D (n.κD ∷ []) p (o + off (τs z) 4) n.γD (fourth h)) ⊛ (raw (Way z 𝓛 p o))))))

      abbrev Tokens : Names → Item 𝓤
      Tokens n = ‵ (flft (n.κA ∷ []) full_share) ⊛ (‵ (flft (n.κB ∷ []) full_share) ⊛ (‵ (flft (n.κC ∷ []) full_share) ⊛ (‵ (flft (n.κD ∷ []) full_share) ⊛ ‵ ftrue)))

      -- the record's cell is taken apart, and each of the four fields is lent
      lent_out : Fits K (control h) × (Fits A (first h) × (Fits B (second h) × (Fits C (third h) × Fits D (fourth h)))) → AreAt 1 (κ, tt) Xs xs
          → ent 𝓤 (sem 𝓛 (Cell z 𝓛 p o (control h) (first h) (second h) (third h) (fourth h))) (H.⇛ (ex 𝓤 (λ (n : Names). sep 𝓤 (Called.pre (to_step n)) (mean 𝓛 (Lender n)))))
      lent_out fits are =
          qed 𝓛 (‵ (Cell z 𝓛 p o (control h) (first h) (second h) (third h) (fourth h)) ∷ []) ∵ updating ! $
          use1 𝓛 (Apart z 𝓛 p o (control h) (first h) (second h) (third h) (fourth h)) (apart z 𝓛 p o (control h) (first h) (second h) (third h) (fourth h)) $ split ! $ move ! (1 ∷ []) $ split ! $ move ! (1 ∷ []) $ split ! $ move ! (1 ∷ []) $ split ! $ move ! (1 ∷ []) $ split ! $
          move ! (4 ∷ []) $ lend ! tt A by-A (named 0) (first h) p (o + off (τs z) 1) fits.1.0 (λ κA γA.
          move ! (6 ∷ []) $ lend ! tt B by-B (named 1) (second h) p (o + off (τs z) 2) fits.1.1.0 (λ κB γB.
          move ! (8 ∷ []) $ lend ! tt C by-C (named 2) (third h) p (o + off (τs z) 3) fits.1.1.1.0 (λ κC γC.
          move ! (9 ∷ []) $ lend ! tt D by-D (named 3) (fourth h) p (o + off (τs z) 4) fits.1.1.1.1 (λ κD γD.
          let n : Names = record { κA = κA; κB = κB; κC = κC; κD = κD; γA = γA; γB = γB; γC = γC; γD = γD } in
          at_once ! $ show ! (λ (n : Names). sep 𝓤 (Called.pre (to_step n)) (mean 𝓛 (Lender n))) n $
          nothing ! $ move ! (3 ∷ 0 ∷ []) $ join ! $ move ! (5 ∷ 0 ∷ []) $ join ! $ move ! (7 ∷ 0 ∷ []) $ join ! $ move ! (9 ∷ 0 ∷ []) $ join ! $
          use0 𝓛 (‵ (owns (types_at (slots 4 Xs) (lfts n)) (further n) (values 4 (lfts n) Xs (further n)))) (owning 4 (lfts n) 𝓛 Xs (further n) (passed 4 (κ, tt) (lfts n) Xs xs are)) $ move ! (2 ∷ 0 ∷ []) $ fjoin ! $ move ! (3 ∷ 0 ∷ []) $ fjoin ! $ move ! (4 ∷ 0 ∷ []) $ fjoin ! $ move ! (5 ∷ 0 ∷ []) $ fjoin ! $
          owned ! K.row (Is K.row) (K.makes 𝓛) (control h) _ fits.0 $ fjoin ! $ move ! (1 ∷ 0 ∷ []) $ join ! $ nothing ! $ move ! (1 ∷ 0 ∷ []) $ join ! $ frame ! $ move ! (5 ∷ 3 ∷ 2 ∷ 1 ∷ 0 ∷ 4 ∷ []) $ done !))))

      -- what is known once the step has returned v
      abbrev Came : Names → Val → Left → Type 0
      Came n v y = S (lfts n) (joined (control h) (first h) (second h) (third h) (fourth h)) (further n) y × (Is U.row y.result (v ∷ []) × (Fits A y.a × (Fits B y.b × (Fits C y.c × Fits D y.d))))

      returned : (n : Names) (v : Val) → ent 𝓤 (sep 𝓤 (Called.post (to_step n) v) (mean 𝓛 (Lender n))) (H.⇛ (ex 𝓤 (λ (y : Left). guard 𝓤 (Came n v y) (sem 𝓛 (Cell z 𝓛 p o (control h) y.a y.b y.c y.d)))))
      returned n v =
          qed 𝓛 (raw (Called.post (to_step n) v) ∷ Lender n ∷ []) ∵ updating ! $
          use1 𝓛 (later (some (λ (r : U.row.Denot). (Tokens n ⊛ ‵ (U.row.own_val r (v ∷ []))) ⊛ raw (ensured 𝓛 called step-says (lfts n) (args n) tt r)))) (id⊢ 𝓤 _) $ await ! tt $ pick ! (λ r.
          split ! $ move ! (1 ∷ []) $ use1 𝓛 (some (λ (ws : Lasts called (lfts n) (args n)). ‵ (lasts called (lfts n) (args n) ws) ⊛ raw (fact 𝓤 (S (lfts n) (shown n) (further n) (record { result = r; a = last A.row by-A (named 0) (n.κA ∷ []) (ref-A n) ws.1.0; b = last B.row by-B (named 1) (n.κB ∷ []) (ref-B n) ws.1.1.0; c = last C.row by-C (named 2) (n.κC ∷ []) (ref-C n) ws.1.1.1.0; d = last D.row by-D (named 3) (n.κD ∷ []) (ref-D n) ws.1.1.1.1.0 }))))) (id⊢ 𝓤 _) $ pick ! (λ ws.
          let y : Left = record { result = r; a = last A.row by-A (named 0) (n.κA ∷ []) (ref-A n) ws.1.0; b = last B.row by-B (named 1) (n.κB ∷ []) (ref-B n) ws.1.1.0; c = last C.row by-C (named 2) (n.κC ∷ []) (ref-C n) ws.1.1.1.0; d = last D.row by-D (named 3) (n.κD ∷ []) (ref-D n) ws.1.1.1.1.0 } in
          split ! $ move ! (1 ∷ []) $ heard ! (S (lfts n) (shown n) (further n) y) (λ e. move ! (1 ∷ []) $ split ! $ move ! (1 ∷ []) $ peeks ! U.row (Is U.row) (shows 𝓛 U.row) r (v ∷ []) (λ is. drop ! $
          -- the lifetimes are ended, and the fields come back
          split ! $ move ! (1 ∷ []) $ split ! $ move ! (1 ∷ []) $ split ! $ move ! (1 ∷ []) $ split ! $ move ! (1 ∷ []) $ drop ! $ move ! (4 ∷ []) $ fsplit ! $ drop ! $ fsplit ! $ move ! (1 ∷ []) $ fsplit ! $ move ! (1 ∷ []) $ fsplit ! $ move ! (1 ∷ []) $ fsplit ! $ move ! (1 ∷ []) $ drop ! $
          move ! (8 ∷ []) $ split ! $ move ! (1 ∷ []) $ split ! $ move ! (1 ∷ []) $ split ! $ move ! (1 ∷ []) $ split ! $ move ! (1 ∷ []) $ split ! $
          move ! (13 ∷ 4 ∷ 9 ∷ []) $ comes_back ! tt A by-A (named 0) p (o + off (τs z) 1) n.γA (first h) ws.1.0 (λ fits-A.
          move ! (11 ∷ 4 ∷ 8 ∷ []) $ comes_back ! tt B by-B (named 1) p (o + off (τs z) 2) n.γB (second h) ws.1.1.0 (λ fits-B.
          move ! (9 ∷ 4 ∷ 7 ∷ []) $ comes_back ! tt C by-C (named 2) p (o + off (τs z) 3) n.γC (third h) ws.1.1.1.0 (λ fits-C.
          move ! (7 ∷ 3 ∷ 6 ∷ []) $ comes_back ! tt D by-D (named 3) p (o + off (τs z) 4) n.γD (fourth h) ws.1.1.1.1.0 (λ fits-D.
          move ! (0 ∷ 4 ∷ []) $ join ! $ move ! (1 ∷ 0 ∷ []) $ join ! $ move ! (1 ∷ 0 ∷ []) $ join ! $ move ! (1 ∷ 0 ∷ []) $ join ! $ move ! (1 ∷ 0 ∷ []) $ join ! $
          use1 𝓛 (‵ (Cell z 𝓛 p o (control h) y.a y.b y.c y.d)) (together z 𝓛 p o (control h) y.a y.b y.c y.d) $ at_once ! $ show ! (λ (y : Left). guard 𝓤 (Came n v y) (sem 𝓛 (Cell z 𝓛 p o (control h) y.a y.b y.c y.d))) y $ check ! (subst (λ (t : T.row.Denot). S (lfts n) t (further n) y) (is_shown n) e, (is, (fits-A, (fits-B, (fits-C, fits-D))))) $ done !))))))))

  -- that the step meets its contract
  abbrev Knows : Step-ensures → Callee → (M : Type 1) (𝓤 : Ura M) (𝓛 : Logic 𝓤) → Calls 𝓤 𝓛.H → Type 1
  Knows S #step M 𝓤 𝓛 𝓒 = Triple 𝓤 (𝓒 #step) (Called S M 𝓤 𝓛)

  -- the function, whose code is `env #this`, meets its contract, where the step meets its own
  abbrev Met : Ensures T R Xs → Step-ensures → List Opd → {M : Type 1} → Ura M → Type 2
  Met Q S opds {M} 𝓤 = (𝓛 : Logic 𝓤) (𝓜 : Model 𝓤 𝓛.H) (𝓡 : Running 𝓤 𝓛.H 𝓜) (env : Env) (#this : Callee) (step : Cited 𝓤 𝓛.H 𝓜 𝓡 env (Called S M 𝓤 𝓛))
      → Closed 𝓤 𝓛.H (tables 𝓤 𝓛.H 𝓜 𝓡 env).C (tables 𝓤 𝓛.H 𝓜 𝓡 env).Λ #this (code opds step.name) → Triple 𝓤 (𝓡.run (env #this)) (Called-on T R Xs Q M 𝓤 𝓛)

-- ---- the walks
-- fn(_1: &mut T) -> R { _3 = (*_1).0; _4 = &(*_1).1; .. _7 = &(*_1).4; _2 = step(_3, _4, _5, _6, _7); (*_1).0 = _2.0; _0 = _2.1; return }
module _ (z : Lends) where
  open z use {T, K, U, R, parts, gave}
  open parts use {control, first, second, third, fourth, joined}

  module _ (Q : Ensures T R []) (S : Step-ensures z []) (gives : Gives z [] Q S) where
    lent-walk : (#step : Callee) → Walked T R [] Q owned-still (Knows z [] S #step) (code z [] [] #step)
    lent-walk #step M 𝓤 𝓛 κ q p o γ h xs are 𝓒 Λ fm known =
        qed 𝓛 ((‵ (flft κ q) ⊛ ‵ ftrue) ∷ ‵ (owns (MutRef (named 0) κ T.row ∷ []) (record { ref_ptr = (p, o); ghost_name = γ; now = h }, xs) (vptr p o ∷ [], values 1 (κ, tt) [] xs)) ∷ []) ∵ split ! $ move ! (2 ∷ []) $ fsplit ! $ fsplit3 ! $ drop ! $ move ! (0 ∷ 1 ∷ 3 ∷ []) $
        enter ! 𝓒 Λ (code z [] [] #step) _ _ $ alloc1 ! (λ l₀. alloc1 ! (λ l₁. alloc1 ! (λ l₂. alloc1 ! (λ l₃. alloc1 ! (λ l₄. alloc1 ! (λ l₅. alloc1 ! (λ l₆. alloc1 ! (λ l₇. alloc0 ! $ params1 ! $ pass1 ! (init ! 12 refl (tt, tt)) $ pass0 ! $
        move ! (16 ∷ 17 ∷ 18 ∷ []) $ opens ! tt T.row {h = h} p o (λ vs. spelt ! T.row (Is T.row) (shows 𝓛 T.row) (λ y. T.val y ∷ []) T.tells full_share h vs p o $
        move ! (1 ∷ []) $ peeks ! T.row (Is T.row) (shows 𝓛 T.row) h (T.val h ∷ []) (λ ok. drop ! $ use1 𝓛 (‵ (fat full_share (struct z) p o (T.val h))) (out 𝓛 T.row.mir (struct z) parts.laid p o (T.val h)) $
        rewrite ! 0 (λ (v : Val). ‵ (fat full_share (struct z) p o v)) (ap (λ (y : T.row.Denot). T.val y) (parts.whole h) ∙ parts.spells (control h) (first h) (second h) (third h) (fourth h)) refl $
        -- [the record's cell; the open borrow; obs; auth; _7; …; _6; …; _5; …; _4; …; _3; …; _2; …; _1; …; room for _0; …]
        assigns ! (of_opd ! (load ! (from ! (hop ! (look ! 16 refl) (fld ! refl (stop !)))) (look_in ! 0 (sub ! 0 refl (whole !))))) (from ! (stop !)) (init ! 12 refl (typed 𝓛 K K.mir K.one (control h) _ (parts.are h _ ok).0)) $
        assigns ! (addr ! (from ! (hop ! (look ! 16 refl) (fld ! refl (stop !))))) (from ! (stop !)) (init ! 10 refl (tt, tt)) $
        assigns ! (addr ! (from ! (hop ! (look ! 16 refl) (fld ! refl (stop !))))) (from ! (stop !)) (init ! 8 refl (tt, tt)) $
        assigns ! (addr ! (from ! (hop ! (look ! 16 refl) (fld ! refl (stop !))))) (from ! (stop !)) (init ! 6 refl (tt, tt)) $
        assigns ! (addr ! (from ! (hop ! (look ! 16 refl) (fld ! refl (stop !))))) (from ! (stop !)) (init ! 4 refl (tt, tt)) $
        use1 𝓛 (later (some (λ (n : Names). raw ((Called z [] S M 𝓤 𝓛).pre (to_step z [] S M 𝓤 𝓛 κ p o h xs n)) ⊛ Lender z [] S M 𝓤 𝓛 κ p o h xs n))) (lent_out z [] S M 𝓤 𝓛 κ p o h xs (parts.are h _ ok) are) $ await ! tt $ pick ! (λ n. split ! $
        calls_at ! fm (Called z [] S M 𝓤 𝓛) known (to_step z [] S M 𝓤 𝓛 κ p o h xs n) (and_then ! (load ! (from ! (stop !)) (look ! 13 refl)) (and_then ! (load ! (from ! (stop !)) (look ! 11 refl)) (and_then ! (load ! (from ! (stop !)) (look ! 9 refl)) (and_then ! (load ! (from ! (stop !)) (look ! 7 refl)) (and_then ! (load ! (from ! (stop !)) (look ! 5 refl)) (no_more !)))))) (λ v.
        use2 𝓛 (later (some (λ (y : Left z []). given (Came z [] S M 𝓤 𝓛 κ p o h xs n v y) (‵ (Cell z 𝓛 p o (control h) y.a y.b y.c y.d))))) (returned z [] S M 𝓤 𝓛 κ p o h xs n v) $ await ! tt $ pick ! (λ y. learn ! (λ came.
        land ! (from ! (stop !)) (init ! 14 refl (typed 𝓛 U (two gave) gave.laid y.result v came.1.0)) $ rewrite ! 14 (λ (u : Val). ‵ (fat full_share (two gave) l₂ 0 u)) (ap only (U.tells y.result _ came.1.0) ∙ gave.spells y.result) refl $
        assigns ! (of_opd ! (load ! (from ! (fld ! refl (stop !))) (look_in ! 14 (sub ! 0 refl (whole !))))) (from ! (hop ! (look ! 16 refl) (fld ! refl (stop !)))) (store_in ! 0 (sub ! 0 refl (whole !)) (typed 𝓛 K K.mir K.one (gave.left y.result) _ (gave.are y.result _ came.1.0).0)) $
        assigns ! (of_opd ! (load ! (from ! (fld ! refl (stop !))) (look_in ! 14 (sub ! 1 refl (whole !))))) (from ! (stop !)) (init ! 18 refl (typed 𝓛 R R.mir R.one (gave.right y.result) _ (gave.are y.result _ came.1.0).1.0)) $
        rewrite ! 0 (λ (u : Val). ‵ (fat full_share (struct z) p o u)) (sym (parts.spells (gave.left y.result) y.a y.b y.c y.d)) refl $ use1 𝓛 (‵ (cell_at full_share T.row.mir (T.val (stored z [] y) ∷ []) p o)) (back 𝓛 T.row.mir (struct z) parts.laid p o (T.val (stored z [] y))) $
        owned ! T.row (Is T.row) (T.makes 𝓛) (stored z [] y) _ (parts.owes (gave.left y.result) y.a y.b y.c y.d ((gave.are y.result _ came.1.0).0, came.1.1)) $ move ! (1 ∷ 0 ∷ []) $ closes ! tt T.row (stored z [] y) (T.val (stored z [] y) ∷ []) p o $
        returns ! (look ! 17 refl) $ forget ! 3 refl $ forget ! 5 refl $ forget ! 7 refl $ forget ! 9 refl $ forget ! 11 refl $ forget ! 13 refl $ forget ! 15 refl $ forget ! 17 refl $
        move ! (17 ∷ 18 ∷ []) $ free1 ! $ move ! (15 ∷ 16 ∷ []) $ free1 ! $ move ! (13 ∷ 14 ∷ []) $ free1 ! $ move ! (11 ∷ 12 ∷ []) $ free1 ! $ move ! (9 ∷ 10 ∷ []) $ free1 ! $ move ! (7 ∷ 8 ∷ []) $ free1 ! $ move ! (5 ∷ 6 ∷ []) $ free1 ! $ move ! (3 ∷ 4 ∷ []) $ free1 ! $ free0 ! $
        keep ! (0 ∷ 1 ∷ 2 ∷ []) $ feq_i ! (List Val) (vptr p o ∷ []) (vptr p o ∷ []) refl $ fjoin3 ! $ by ! (exits T R [] Q M 𝓤 𝓛 κ q p o γ h xs owned-still are (gave.right y.result) (stored z [] y) (gives κ h xs (lfts n) y came.0) (gave.are y.result _ came.1.0).1.0)))))))))))))))

    pub lent : {M : Type 1} (𝓤 : Ura M) → Met z [] Q S [] 𝓤
    lent 𝓤 𝓛 𝓜 𝓡 env #this step unfolded = walk-holds T R [] Q owned-still (Knows z [] S step.name) (code z [] [] step.name) (lent-walk step.name) 𝓛 𝓜 𝓡 env #this unfolded (knows step)

-- fn(_1: &mut T, _2: X) -> R { _4 = (*_1).0; _5 = &(*_1).1; .. _8 = &(*_1).4; _3 = step(_4, _5, _6, _7, _8, _2); (*_1).0 = _3.0; _0 = _3.1; return }
module _ (z : Lends) (X : Plain) where
  open z use {T, K, U, R, parts, gave}
  open parts use {control, first, second, third, fourth, joined}

  module _ (Q : Ensures T R (X ∷ [])) (S : Step-ensures z (X ∷ [])) (gives : Gives z (X ∷ []) Q S) where
    lent-with-walk : (#step : Callee) → Walked T R (X ∷ []) Q owned-still (Knows z (X ∷ []) S #step) (code z (X ∷ []) (copy (place 2 []) ∷ []) #step)
    lent-with-walk #step M 𝓤 𝓛 κ q p o γ h xs are 𝓒 Λ fm known =
        qed 𝓛 ((‵ (flft κ q) ⊛ ‵ ftrue) ∷ ‵ (owns (MutRef (named 0) κ T.row ∷ X.row ∷ []) (record { ref_ptr = (p, o); ghost_name = γ; now = h }, xs) (vptr p o ∷ [], values 1 (κ, tt) (X ∷ []) xs)) ∷ []) ∵ split ! $ move ! (2 ∷ []) $ fsplit ! $ fsplit3 ! $ drop ! $ move ! (0 ∷ 1 ∷ 3 ∷ []) $
        enter ! 𝓒 Λ (code z (X ∷ []) (copy (place 2 []) ∷ []) #step) _ _ $ alloc1 ! (λ l₀. alloc1 ! (λ l₁. alloc1 ! (λ l₂. alloc1 ! (λ l₃. alloc1 ! (λ l₄. alloc1 ! (λ l₅. alloc1 ! (λ l₆. alloc1 ! (λ l₇. alloc1 ! (λ l₈. alloc0 ! $ params1 ! $ pass1 ! (init ! 14 refl (tt, tt)) $ pass1 ! (init ! 12 refl (typed 𝓛 X X.mir X.one xs.0 _ are.0)) $ pass0 ! $
        move ! (18 ∷ 19 ∷ 20 ∷ []) $ opens ! tt T.row {h = h} p o (λ vs. spelt ! T.row (Is T.row) (shows 𝓛 T.row) (λ y. T.val y ∷ []) T.tells full_share h vs p o $
        move ! (1 ∷ []) $ peeks ! T.row (Is T.row) (shows 𝓛 T.row) h (T.val h ∷ []) (λ ok. drop ! $ use1 𝓛 (‵ (fat full_share (struct z) p o (T.val h))) (out 𝓛 T.row.mir (struct z) parts.laid p o (T.val h)) $
        rewrite ! 0 (λ (v : Val). ‵ (fat full_share (struct z) p o v)) (ap (λ (y : T.row.Denot). T.val y) (parts.whole h) ∙ parts.spells (control h) (first h) (second h) (third h) (fourth h)) refl $
        -- [the record's cell; the open borrow; obs; auth; _8; …; _7; …; _6; …; _5; …; _4; …; _3; …; _2; …; _1; …; room for _0; …]
        assigns ! (of_opd ! (load ! (from ! (hop ! (look ! 18 refl) (fld ! refl (stop !)))) (look_in ! 0 (sub ! 0 refl (whole !))))) (from ! (stop !)) (init ! 12 refl (typed 𝓛 K K.mir K.one (control h) _ (parts.are h _ ok).0)) $
        assigns ! (addr ! (from ! (hop ! (look ! 18 refl) (fld ! refl (stop !))))) (from ! (stop !)) (init ! 10 refl (tt, tt)) $
        assigns ! (addr ! (from ! (hop ! (look ! 18 refl) (fld ! refl (stop !))))) (from ! (stop !)) (init ! 8 refl (tt, tt)) $
        assigns ! (addr ! (from ! (hop ! (look ! 18 refl) (fld ! refl (stop !))))) (from ! (stop !)) (init ! 6 refl (tt, tt)) $
        assigns ! (addr ! (from ! (hop ! (look ! 18 refl) (fld ! refl (stop !))))) (from ! (stop !)) (init ! 4 refl (tt, tt)) $
        use1 𝓛 (later (some (λ (n : Names). raw ((Called z (X ∷ []) S M 𝓤 𝓛).pre (to_step z (X ∷ []) S M 𝓤 𝓛 κ p o h xs n)) ⊛ Lender z (X ∷ []) S M 𝓤 𝓛 κ p o h xs n))) (lent_out z (X ∷ []) S M 𝓤 𝓛 κ p o h xs (parts.are h _ ok) are) $ await ! tt $ pick ! (λ n. split ! $
        calls_at ! fm (Called z (X ∷ []) S M 𝓤 𝓛) known (to_step z (X ∷ []) S M 𝓤 𝓛 κ p o h xs n) (and_then ! (load ! (from ! (stop !)) (look ! 13 refl)) (and_then ! (load ! (from ! (stop !)) (look ! 11 refl)) (and_then ! (load ! (from ! (stop !)) (look ! 9 refl)) (and_then ! (load ! (from ! (stop !)) (look ! 7 refl)) (and_then ! (load ! (from ! (stop !)) (look ! 5 refl)) (and_then ! (load ! (from ! (stop !)) (look ! 17 refl)) (no_more !))))))) (λ v.
        use2 𝓛 (later (some (λ (y : Left z (X ∷ [])). given (Came z (X ∷ []) S M 𝓤 𝓛 κ p o h xs n v y) (‵ (Cell z 𝓛 p o (control h) y.a y.b y.c y.d))))) (returned z (X ∷ []) S M 𝓤 𝓛 κ p o h xs n v) $ await ! tt $ pick ! (λ y. learn ! (λ came.
        land ! (from ! (stop !)) (init ! 14 refl (typed 𝓛 U (two gave) gave.laid y.result v came.1.0)) $ rewrite ! 14 (λ (u : Val). ‵ (fat full_share (two gave) l₃ 0 u)) (ap only (U.tells y.result _ came.1.0) ∙ gave.spells y.result) refl $
        assigns ! (of_opd ! (load ! (from ! (fld ! refl (stop !))) (look_in ! 14 (sub ! 0 refl (whole !))))) (from ! (hop ! (look ! 18 refl) (fld ! refl (stop !)))) (store_in ! 0 (sub ! 0 refl (whole !)) (typed 𝓛 K K.mir K.one (gave.left y.result) _ (gave.are y.result _ came.1.0).0)) $
        assigns ! (of_opd ! (load ! (from ! (fld ! refl (stop !))) (look_in ! 14 (sub ! 1 refl (whole !))))) (from ! (stop !)) (init ! 20 refl (typed 𝓛 R R.mir R.one (gave.right y.result) _ (gave.are y.result _ came.1.0).1.0)) $
        rewrite ! 0 (λ (u : Val). ‵ (fat full_share (struct z) p o u)) (sym (parts.spells (gave.left y.result) y.a y.b y.c y.d)) refl $ use1 𝓛 (‵ (cell_at full_share T.row.mir (T.val (stored z (X ∷ []) y) ∷ []) p o)) (back 𝓛 T.row.mir (struct z) parts.laid p o (T.val (stored z (X ∷ []) y))) $
        owned ! T.row (Is T.row) (T.makes 𝓛) (stored z (X ∷ []) y) _ (parts.owes (gave.left y.result) y.a y.b y.c y.d ((gave.are y.result _ came.1.0).0, came.1.1)) $ move ! (1 ∷ 0 ∷ []) $ closes ! tt T.row (stored z (X ∷ []) y) (T.val (stored z (X ∷ []) y) ∷ []) p o $
        returns ! (look ! 19 refl) $ forget ! 3 refl $ forget ! 5 refl $ forget ! 7 refl $ forget ! 9 refl $ forget ! 11 refl $ forget ! 13 refl $ forget ! 15 refl $ forget ! 17 refl $ forget ! 19 refl $
        move ! (19 ∷ 20 ∷ []) $ free1 ! $ move ! (17 ∷ 18 ∷ []) $ free1 ! $ move ! (15 ∷ 16 ∷ []) $ free1 ! $ move ! (13 ∷ 14 ∷ []) $ free1 ! $ move ! (11 ∷ 12 ∷ []) $ free1 ! $ move ! (9 ∷ 10 ∷ []) $ free1 ! $ move ! (7 ∷ 8 ∷ []) $ free1 ! $ move ! (5 ∷ 6 ∷ []) $ free1 ! $ move ! (3 ∷ 4 ∷ []) $ free1 ! $ free0 ! $
        keep ! (0 ∷ 1 ∷ 2 ∷ []) $ feq_i ! (List Val) (vptr p o ∷ []) (vptr p o ∷ []) refl $ fjoin3 ! $ by ! (exits T R (X ∷ []) Q M 𝓤 𝓛 κ q p o γ h xs owned-still are (gave.right y.result) (stored z (X ∷ []) y) (gives κ h xs (lfts n) y came.0) (gave.are y.result _ came.1.0).1.0))))))))))))))))

    pub lent-with : {M : Type 1} (𝓤 : Ura M) → Met z (X ∷ []) Q S (copy (place 2 []) ∷ []) 𝓤
    lent-with 𝓤 𝓛 𝓜 𝓡 env #this step unfolded =
        walk-holds T R (X ∷ []) Q owned-still (Knows z (X ∷ []) S step.name) (code z (X ∷ []) (copy (place 2 []) ∷ []) step.name) (lent-with-walk step.name) 𝓛 𝓜 𝓡 env #this unfolded (knows step)
