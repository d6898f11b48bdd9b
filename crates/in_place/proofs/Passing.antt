-- A call on a record that stays where it lies, which passes the record on to another such call: the `&mut` goes to the callee as it came, for
-- good. Functions of one value stand around it: one that reads the argument, one that makes the answer of the callee's, one that tests. Here such
-- functions' MIR is walked by hand, over their types and over what the functions that they call ensure.
--     Reads, Reading       what a function from one type to another ensures; and its contract
--     passed               `tell(call(t))` meets its contract, where the two functions meet theirs
--     passed-with          `tell(call(t, read(x)))`
--     chosen               `if test(x) { call(t, x) } else { other(t) }`
-- Assumes nothing.
use mathlib.Core.Path.{◌≡◌, refl, ap, subst}
use Prim.Native.Nat.{ℕ}
use mathlib.Core.Bool.{Bool, true, false, not}
use mathlib.Core.List.{[], ◌∷◌, List}
use seplogic.Ra.Ura.{Ura}
use base.Fraction.{full_share}
use lib.Dec.{T}
use mir.Syntax.{Callee, ty_ref, mut, named, erased, Body, seq, assign, call, cond, skip, return, place, deref, addr_of, copy, Fn}
use mir.Val.{Val, vptr}
use base.Logic.{ent, sep, ex, guard, emp, ex_e, snd∗, id⊢}
use base.Fml.{GName, Lft, Share, ftrue, fat, flft}
use prog.Model.{Model}
use prog.Routine.{Env}
use prog.Wp.{Env as Locals, Calls, Closed}
use types.Logic.{Logic, sem}
use contract.Monad.{fact}
use contract.Running.{Running, tables}
use types.Kit.{‵, raw, given, some, later, at_ret, ◌⊛◌, ◌$◌, ◌∵◌, !, qed, by, move, keep, drop, use0, use1, use2, split, join, pick, learn, rewrite, fsplit, fjoin, frame, await, updating, now as at_once, show, check, done}
use types.Run.{look, init, forget, stop, hop, from, load, addr, and_then, no_more, assigns, first, skips, branches, exec, land, returns_within, returns, enter, alloc1, alloc0, params1, pass1, pass0, free1, free0}
use denote.RattleType.{owns}
use denote.Laws.{Is, shows}
use denote.Memory.{pointee}
use denote.Exit.{yes}
use denote.Ref.{MutRef}
use denote.Signature.{plain, types_at}
use denote.Steps.{only, owned, peeks, heard, nothing}
use denote.Struct.Field.{bool-field}
use denote.Struct.Laws.{bool-laws, bool-plain, bool-copy}
use denote.Triple.Spec.{triple_of}
use denote.Triple.Statement.{Contract, Triple}
use denote.Triple.Call.{calls_at}
use denote.Triple.Clauses.{Clauses, Ended, Lasts, ensured, lasts, closing}
use denote.Triple.End.{all}
use Rattle.in_place.proofs.InPlace.{Plain, Fits, fits, of-builtin, typed, slots, Values, values, AreAt, owning, value, passed_on, had, Cited, knows, this, entry, Ensures, says, Called-on, bound, Post, exits, Walked, walk-holds}

abbrev pub boolean : Plain
boolean = of-builtin bool-field bool-laws bool-plain bool-copy refl

-- ---- a function of one value
module _ (X Y : Plain) where
  abbrev pub Reads : Type 1
  Reads = X.row.Denot → Y.row.Denot → Type 0

  abbrev of_one : Ended
  of_one = record { signature = record { lifetimes = 0; outlives = []; params = slots 0 (X ∷ []); result = plain (λ _. Y.row) }; kept = all yes (slots 0 (X ∷ [])) }

  module _ (P : Reads) (M : Type 1) (𝓤 : Ura M) (𝓛 : Logic 𝓤) where
    open 𝓛 use {H}

    abbrev reads : Clauses 𝓤 of_one
    reads κs a = record { ghost = Unit {0}; requires = λ _. emp 𝓤; ensures = λ _ r e. fact 𝓤 (P a.0 r) }

    abbrev pub Reading : Contract 𝓤
    Reading = triple_of 𝓛 of_one.signature (closing 𝓛 of_one reads)

    module _ (x : X.row.Denot) where
      -- what it is passed, as its triple binds it
      abbrev to_read : Reading.Ghost
      to_read = ((tt, tt, tt, (x, tt), (X.val x ∷ [], tt)), tt)

      goes : Fits X x → ent 𝓤 (emp 𝓤) (Reading.pre to_read)
      goes is = qed 𝓛 [] ∵ owned ! X.row (Is X.row) (X.makes 𝓛) x _ is $ nothing ! $ move ! (1 ∷ 0 ∷ []) $ join ! $ nothing ! $ join ! $ frame ! $ done !

      -- what is known once it has returned v
      abbrev Read : Val → Y.row.Denot → Type 0
      Read v y = P x y × Is Y.row y (v ∷ [])

      ensures : (y : Y.row.Denot) → ent 𝓤 (ensured 𝓛 of_one reads tt (x, tt) tt y) (fact 𝓤 (P x y))
      ensures y = ex_e 𝓤 _ (λ ws. snd∗ 𝓤 (sem 𝓛 (lasts of_one tt (x, tt) ws)) (fact 𝓤 (P x y)))

      came : (v : Val) → ent 𝓤 (Reading.post to_read v) (H.⇛ (ex 𝓤 (λ (y : Y.row.Denot). guard 𝓤 (Read v y) (emp 𝓤))))
      came v =
          qed 𝓛 (raw (Reading.post to_read v) ∷ []) ∵ updating ! $
          use1 𝓛 (later (some (λ (y : Y.row.Denot). (‵ ftrue ⊛ ‵ (Y.row.own_val y (v ∷ []))) ⊛ raw (ensured 𝓛 of_one reads tt (x, tt) tt y)))) (id⊢ 𝓤 _) $ await ! tt $ pick ! (λ y. split ! $ move ! (1 ∷ []) $
          use1 𝓛 (raw (fact 𝓤 (P x y))) (ensures y) $ heard ! (P x y) (λ e. split ! $ drop ! $ peeks ! Y.row (Is Y.row) (shows 𝓛 Y.row) y (v ∷ []) (λ is. drop ! $
          at_once ! $ show ! (λ (y : Y.row.Denot). guard 𝓤 (Read v y) (emp 𝓤)) y $ check ! (e, is) $ done !)))

-- ---- a call on the record, which is passed on to it
module _ (T R : Plain) (Xs : List Plain) where
  -- what it gives
  record Gave : Type 0 where
    answer : R.row.Denot
    after : T.row.Denot

  module _ (Q : Ensures T R Xs) (M : Type 1) (𝓤 : Ura M) (𝓛 : Logic 𝓤) (κ : Lft) (q : Share) (p o : ℕ) (γ : GName) (h : T.row.Denot) (xs : Values 1 (κ, tt) Xs) where
    open 𝓛 use {H}

    abbrev at_call : (Called-on T R Xs Q M 𝓤 𝓛).Ghost
    at_call = bound T R Xs Q M 𝓤 𝓛 κ q p o γ h xs

    hands-over : AreAt 1 (κ, tt) Xs xs → ent 𝓤 (sep 𝓤 (sem 𝓛 ((MutRef (named 0) κ T.row).own_val (record { ref_ptr = (p, o); ghost_name = γ; now = h }) (vptr p o ∷ []))) (𝓛.A.lft κ q)) ((Called-on T R Xs Q M 𝓤 𝓛).pre at_call)
    hands-over are =
        qed 𝓛 (‵ ((MutRef (named 0) κ T.row).own_val (record { ref_ptr = (p, o); ghost_name = γ; now = h }) (vptr p o ∷ [])) ∷ ‵ (flft κ q) ∷ []) ∵
        use0 𝓛 (‵ (owns (types_at (slots 1 Xs) (κ, tt)) xs (values 1 (κ, tt) Xs xs))) (owning 1 (κ, tt) 𝓛 Xs xs are) $ move ! (1 ∷ 0 ∷ []) $ fjoin ! $ nothing ! $ move ! (2 ∷ 0 ∷ []) $ join ! $ join ! $ frame ! $ done !

    -- what is known once it has returned v: the record is at its last value
    abbrev Known : Val → Gave → Type 0
    Known v y = Q (κ, tt) h xs y.answer y.after × Is R.row y.answer (v ∷ [])

    gave : (v : Val) → ent 𝓤 ((Called-on T R Xs Q M 𝓤 𝓛).post at_call v) (H.⇛ (ex 𝓤 (λ (y : Gave). guard 𝓤 (Known v y) (sep 𝓤 (sem 𝓛 (had T passed_on κ p o γ h y.after)) (𝓛.A.lft κ q)))))
    gave v =
        qed 𝓛 (raw ((Called-on T R Xs Q M 𝓤 𝓛).post at_call v) ∷ []) ∵ updating ! $
        use1 𝓛 (later (some (λ (r : R.row.Denot). ((‵ (flft κ q) ⊛ ‵ ftrue) ⊛ ‵ (R.row.own_val r (v ∷ []))) ⊛ raw (ensured 𝓛 (this T R Xs) (says T R Xs Q M 𝓤 𝓛) (κ, tt) (entry T R Xs κ p o γ h xs) tt r)))) (id⊢ 𝓤 _) $ await ! tt $ pick ! (λ r. split ! $ move ! (1 ∷ []) $
        use1 𝓛 (some (λ (ws : Lasts (this T R Xs) (κ, tt) (entry T R Xs κ p o γ h xs)). ‵ (lasts (this T R Xs) (κ, tt) (entry T R Xs κ p o γ h xs) ws) ⊛ raw (fact 𝓤 (Q (κ, tt) h xs r ws.0)))) (id⊢ 𝓤 _) $ pick ! (λ ws. split ! $ move ! (1 ∷ []) $
        heard ! (Q (κ, tt) h xs r ws.0) (λ e. fsplit ! $ move ! (2 ∷ []) $ split ! $ move ! (1 ∷ []) $ peeks ! R.row (Is R.row) (shows 𝓛 R.row) r (v ∷ []) (λ is. drop ! $ split ! $
        at_once ! $ show ! (λ (y : Gave). guard 𝓤 (Known v y) (sep 𝓤 (sem 𝓛 (had T passed_on κ p o γ h y.after)) (𝓛.A.lft κ q))) (record { answer = r; after = ws.0 }) $ check ! (e, is) $ keep ! (2 ∷ 0 ∷ []) $ done !))))

-- ---- the walks
-- fn(_1: &mut T) -> R { _3 = &mut *_1; _2 = call(_3); _0 = tell(_2); return }
module _ (T A R : Plain) (Q : Ensures T R []) (S : Ensures T A []) (P : Reads A R) where
  -- what the function ensures follows of what the two ensure
  abbrev pub Passes : Type 0
  Passes = (κ : Lft) (h : T.row.Denot) (a : A.row.Denot) (w : T.row.Denot) (r : R.row.Denot) → S (κ, tt) h tt a w → P a r → Q (κ, tt) h tt r w

  module _ (#call #tell : Callee) where
    abbrev passing : Fn
    passing = record {
      lifetimes = 1;
      outlives = [];
      ty_params = [];
      givens = 0;
      params = 1;
      locals = value R.mir ∷ value (ty_ref (named 0) mut (pointee T.row.written)) ∷ value A.mir ∷ value (ty_ref erased mut (pointee T.row.written)) ∷ [];
      body = seq (assign (place 3 []) (addr_of (place 1 (deref T.mir ∷ [])))) (seq (call #call (copy (place 3 []) ∷ []) (place 2 [])) (seq (call #tell (copy (place 2 []) ∷ []) (place 0 [])) return));
    }

    abbrev Both : (M : Type 1) (𝓤 : Ura M) (𝓛 : Logic 𝓤) → Calls 𝓤 𝓛.H → Type 1
    Both M 𝓤 𝓛 𝓒 = Triple 𝓤 (𝓒 #call) (Called-on T A [] S M 𝓤 𝓛) × Triple 𝓤 (𝓒 #tell) (Reading A R P M 𝓤 𝓛)

    passed-walk : Passes → Walked T R [] Q passed_on Both passing
    passed-walk passes M 𝓤 𝓛 κ q p o γ h xs are 𝓒 Λ fm known =
        qed 𝓛 ((‵ (flft κ q) ⊛ ‵ ftrue) ∷ ‵ (owns (MutRef (named 0) κ T.row ∷ []) (entry T R [] κ p o γ h xs) (vptr p o ∷ [], values 1 (κ, tt) [] xs)) ∷ []) ∵ split ! $ move ! (2 ∷ []) $ fsplit ! $ keep ! (0 ∷ 2 ∷ []) $
        enter ! 𝓒 Λ passing _ _ $ alloc1 ! (λ l₀. alloc1 ! (λ l₁. alloc1 ! (λ l₂. alloc1 ! (λ l₃. alloc0 ! $ params1 ! $ pass1 ! (init ! 4 refl (tt, tt)) $ pass0 ! $
        -- [room for _3; …; room for _2; …; _1; …; room for _0; …; the `&mut`; the token]
        assigns ! (addr ! (from ! (hop ! (look ! 4 refl) (stop !)))) (from ! (stop !)) (init ! 0 refl (tt, tt)) $ move ! (8 ∷ 9 ∷ []) $
        use2 𝓛 (raw ((Called-on T A [] S M 𝓤 𝓛).pre (at_call T A [] S M 𝓤 𝓛 κ q p o γ h xs))) (hands-over T A [] S M 𝓤 𝓛 κ q p o γ h xs are) $
        calls_at ! fm (Called-on T A [] S M 𝓤 𝓛) known.0 (at_call T A [] S M 𝓤 𝓛 κ q p o γ h xs) (and_then ! (load ! (from ! (stop !)) (look ! 1 refl)) (no_more !)) (λ v.
        use1 𝓛 (later (some (λ (y : Gave T A []). given (Known T A [] S M 𝓤 𝓛 κ q p o γ h xs v y) (‵ (had T passed_on κ p o γ h y.after) ⊛ ‵ (flft κ q))))) (gave T A [] S M 𝓤 𝓛 κ q p o γ h xs v) $ await ! tt $ pick ! (λ y. learn ! (λ e. split ! $
        -- [the last record; the token; _3; …; room for _2; …; _1; …; room for _0; …]
        land ! (from ! (stop !)) (init ! 4 refl (typed 𝓛 A A.mir A.one y.answer v e.1)) $ rewrite ! 4 (λ (u : Val). ‵ (fat full_share A.mir l₂ 0 u)) (ap only (A.tells y.answer _ e.1)) refl $
        use0 𝓛 (raw ((Reading A R P M 𝓤 𝓛).pre (to_read A R P M 𝓤 𝓛 y.answer))) (goes A R P M 𝓤 𝓛 y.answer (fits A y.answer _ e.1)) $
        calls_at ! fm (Reading A R P M 𝓤 𝓛) known.1 (to_read A R P M 𝓤 𝓛 y.answer) (and_then ! (load ! (from ! (stop !)) (look ! 5 refl)) (no_more !)) (λ u.
        use1 𝓛 (later (some (λ (r : R.row.Denot). given (Read A R P M 𝓤 𝓛 y.answer u r) (raw (emp 𝓤))))) (came A R P M 𝓤 𝓛 y.answer u) $ await ! tt $ pick ! (λ r. learn ! (λ f. drop ! $
        land ! (from ! (stop !)) (init ! 8 refl (typed 𝓛 R R.mir R.one r u f.1)) $ rewrite ! 8 (λ (u : Val). ‵ (fat full_share R.mir l₀ 0 u)) (ap only (R.tells r _ f.1)) refl $
        returns ! (look ! 8 refl) $ forget ! 2 refl $ forget ! 4 refl $ forget ! 6 refl $ forget ! 8 refl $ move ! (8 ∷ 9 ∷ []) $ free1 ! $ move ! (6 ∷ 7 ∷ []) $ free1 ! $ move ! (4 ∷ 5 ∷ []) $ free1 ! $ move ! (2 ∷ 3 ∷ []) $ free1 ! $ free0 ! $
        by ! (exits T R [] Q M 𝓤 𝓛 κ q p o γ h xs passed_on are r y.after (passes κ h y.answer y.after r e.0 f.0) (fits R r _ f.1))))))))))))

  pub passed : Passes → {M : Type 1} {𝓤 : Ura M} (𝓛 : Logic 𝓤) (𝓜 : Model 𝓤 𝓛.H) (𝓡 : Running 𝓤 𝓛.H 𝓜) (env : Env) (#this : Callee)
      (calls : Cited 𝓤 𝓛.H 𝓜 𝓡 env (Called-on T A [] S M 𝓤 𝓛)) (tells : Cited 𝓤 𝓛.H 𝓜 𝓡 env (Reading A R P M 𝓤 𝓛))
      → Closed 𝓤 𝓛.H (tables 𝓤 𝓛.H 𝓜 𝓡 env).C (tables 𝓤 𝓛.H 𝓜 𝓡 env).Λ #this (passing calls.name tells.name) → Triple 𝓤 (𝓡.run (env #this)) (Called-on T R [] Q M 𝓤 𝓛)
  passed passes 𝓛 𝓜 𝓡 env #this calls tells unfolded =
      walk-holds T R [] Q passed_on (Both calls.name tells.name) (passing calls.name tells.name) (passed-walk calls.name tells.name passes) 𝓛 𝓜 𝓡 env #this unfolded (knows calls, knows tells)

-- fn(_1: &mut T, _2: X) -> R { _3 = read(_2); _5 = &mut *_1; _4 = call(_5, _3); _0 = tell(_4); return }
module _ (T X Y A R : Plain) (Q : Ensures T R (X ∷ [])) (I : Reads X Y) (S : Ensures T A (Y ∷ [])) (P : Reads A R) where
  -- what the function ensures follows of what the three ensure
  abbrev pub Passes-with : Type 0
  Passes-with = (κ : Lft) (h : T.row.Denot) (x : X.row.Denot) (y : Y.row.Denot) (a : A.row.Denot) (w : T.row.Denot) (r : R.row.Denot) → I x y → S (κ, tt) h (y, tt) a w → P a r → Q (κ, tt) h (x, tt) r w

  module _ (#read #call #tell : Callee) where
    abbrev passing-with : Fn
    passing-with = record {
      lifetimes = 1;
      outlives = [];
      ty_params = [];
      givens = 0;
      params = 2;
      locals = value R.mir ∷ value (ty_ref (named 0) mut (pointee T.row.written)) ∷ value X.mir ∷ value Y.mir ∷ value A.mir ∷ value (ty_ref erased mut (pointee T.row.written)) ∷ [];
      body = seq (call #read (copy (place 2 []) ∷ []) (place 3 []))
          (seq (assign (place 5 []) (addr_of (place 1 (deref T.mir ∷ []))))
          (seq (call #call (copy (place 5 []) ∷ copy (place 3 []) ∷ []) (place 4 []))
          (seq (call #tell (copy (place 4 []) ∷ []) (place 0 [])) return)));
    }

    abbrev Three : (M : Type 1) (𝓤 : Ura M) (𝓛 : Logic 𝓤) → Calls 𝓤 𝓛.H → Type 1
    Three M 𝓤 𝓛 𝓒 = Triple 𝓤 (𝓒 #read) (Reading X Y I M 𝓤 𝓛) × (Triple 𝓤 (𝓒 #call) (Called-on T A (Y ∷ []) S M 𝓤 𝓛) × Triple 𝓤 (𝓒 #tell) (Reading A R P M 𝓤 𝓛))

    passed-with-walk : Passes-with → Walked T R (X ∷ []) Q passed_on Three passing-with
    passed-with-walk passes M 𝓤 𝓛 κ q p o γ h xs are 𝓒 Λ fm known =
        qed 𝓛 ((‵ (flft κ q) ⊛ ‵ ftrue) ∷ ‵ (owns (MutRef (named 0) κ T.row ∷ X.row ∷ []) (entry T R (X ∷ []) κ p o γ h xs) (vptr p o ∷ [], values 1 (κ, tt) (X ∷ []) xs)) ∷ []) ∵ split ! $ move ! (2 ∷ []) $ fsplit ! $ keep ! (0 ∷ 2 ∷ []) $
        enter ! 𝓒 Λ passing-with _ _ $ alloc1 ! (λ l₀. alloc1 ! (λ l₁. alloc1 ! (λ l₂. alloc1 ! (λ l₃. alloc1 ! (λ l₄. alloc1 ! (λ l₅. alloc0 ! $ params1 ! $ pass1 ! (init ! 8 refl (tt, tt)) $ pass1 ! (init ! 6 refl (typed 𝓛 X X.mir X.one xs.0 _ are.0)) $ pass0 ! $
        -- [room for _5; …; room for _4; …; room for _3; …; _2; …; _1; …; room for _0; …; the `&mut`; the token]
        use0 𝓛 (raw ((Reading X Y I M 𝓤 𝓛).pre (to_read X Y I M 𝓤 𝓛 xs.0))) (goes X Y I M 𝓤 𝓛 xs.0 are.0) $
        calls_at ! fm (Reading X Y I M 𝓤 𝓛) known.0 (to_read X Y I M 𝓤 𝓛 xs.0) (and_then ! (load ! (from ! (stop !)) (look ! 7 refl)) (no_more !)) (λ t.
        use1 𝓛 (later (some (λ (y : Y.row.Denot). given (Read X Y I M 𝓤 𝓛 xs.0 t y) (raw (emp 𝓤))))) (came X Y I M 𝓤 𝓛 xs.0 t) $ await ! tt $ pick ! (λ y. learn ! (λ d. drop ! $
        land ! (from ! (stop !)) (init ! 4 refl (typed 𝓛 Y Y.mir Y.one y t d.1)) $ rewrite ! 4 (λ (u : Val). ‵ (fat full_share Y.mir l₃ 0 u)) (ap only (Y.tells y _ d.1)) refl $
        assigns ! (addr ! (from ! (hop ! (look ! 8 refl) (stop !)))) (from ! (stop !)) (init ! 0 refl (tt, tt)) $ move ! (12 ∷ 13 ∷ []) $
        use2 𝓛 (raw ((Called-on T A (Y ∷ []) S M 𝓤 𝓛).pre (at_call T A (Y ∷ []) S M 𝓤 𝓛 κ q p o γ h (y, tt)))) (hands-over T A (Y ∷ []) S M 𝓤 𝓛 κ q p o γ h (y, tt) (fits Y y _ d.1, tt)) $
        calls_at ! fm (Called-on T A (Y ∷ []) S M 𝓤 𝓛) known.1.0 (at_call T A (Y ∷ []) S M 𝓤 𝓛 κ q p o γ h (y, tt)) (and_then ! (load ! (from ! (stop !)) (look ! 1 refl)) (and_then ! (load ! (from ! (stop !)) (look ! 5 refl)) (no_more !))) (λ v.
        use1 𝓛 (later (some (λ (z : Gave T A (Y ∷ [])). given (Known T A (Y ∷ []) S M 𝓤 𝓛 κ q p o γ h (y, tt) v z) (‵ (had T passed_on κ p o γ h z.after) ⊛ ‵ (flft κ q))))) (gave T A (Y ∷ []) S M 𝓤 𝓛 κ q p o γ h (y, tt) v) $ await ! tt $ pick ! (λ z. learn ! (λ e. split ! $
        -- [the last record; the token; _5; …; room for _4; …; _3; …; _2; …; _1; …; room for _0; …]
        land ! (from ! (stop !)) (init ! 4 refl (typed 𝓛 A A.mir A.one z.answer v e.1)) $ rewrite ! 4 (λ (u : Val). ‵ (fat full_share A.mir l₄ 0 u)) (ap only (A.tells z.answer _ e.1)) refl $
        use0 𝓛 (raw ((Reading A R P M 𝓤 𝓛).pre (to_read A R P M 𝓤 𝓛 z.answer))) (goes A R P M 𝓤 𝓛 z.answer (fits A z.answer _ e.1)) $
        calls_at ! fm (Reading A R P M 𝓤 𝓛) known.1.1 (to_read A R P M 𝓤 𝓛 z.answer) (and_then ! (load ! (from ! (stop !)) (look ! 5 refl)) (no_more !)) (λ u.
        use1 𝓛 (later (some (λ (r : R.row.Denot). given (Read A R P M 𝓤 𝓛 z.answer u r) (raw (emp 𝓤))))) (came A R P M 𝓤 𝓛 z.answer u) $ await ! tt $ pick ! (λ r. learn ! (λ f. drop ! $
        land ! (from ! (stop !)) (init ! 12 refl (typed 𝓛 R R.mir R.one r u f.1)) $ rewrite ! 12 (λ (u : Val). ‵ (fat full_share R.mir l₀ 0 u)) (ap only (R.tells r _ f.1)) refl $
        returns ! (look ! 12 refl) $ forget ! 2 refl $ forget ! 4 refl $ forget ! 6 refl $ forget ! 8 refl $ forget ! 10 refl $ forget ! 12 refl $
        move ! (12 ∷ 13 ∷ []) $ free1 ! $ move ! (10 ∷ 11 ∷ []) $ free1 ! $ move ! (8 ∷ 9 ∷ []) $ free1 ! $ move ! (6 ∷ 7 ∷ []) $ free1 ! $ move ! (4 ∷ 5 ∷ []) $ free1 ! $ move ! (2 ∷ 3 ∷ []) $ free1 ! $ free0 ! $
        by ! (exits T R (X ∷ []) Q M 𝓤 𝓛 κ q p o γ h xs passed_on are r z.after (passes κ h xs.0 y z.answer z.after r d.0 e.0 f.0) (fits R r _ f.1)))))))))))))))))

  pub passed-with : Passes-with → {M : Type 1} {𝓤 : Ura M} (𝓛 : Logic 𝓤) (𝓜 : Model 𝓤 𝓛.H) (𝓡 : Running 𝓤 𝓛.H 𝓜) (env : Env) (#this : Callee)
      (reads : Cited 𝓤 𝓛.H 𝓜 𝓡 env (Reading X Y I M 𝓤 𝓛)) (calls : Cited 𝓤 𝓛.H 𝓜 𝓡 env (Called-on T A (Y ∷ []) S M 𝓤 𝓛)) (tells : Cited 𝓤 𝓛.H 𝓜 𝓡 env (Reading A R P M 𝓤 𝓛))
      → Closed 𝓤 𝓛.H (tables 𝓤 𝓛.H 𝓜 𝓡 env).C (tables 𝓤 𝓛.H 𝓜 𝓡 env).Λ #this (passing-with reads.name calls.name tells.name) → Triple 𝓤 (𝓡.run (env #this)) (Called-on T R (X ∷ []) Q M 𝓤 𝓛)
  passed-with passes 𝓛 𝓜 𝓡 env #this reads calls tells unfolded =
      walk-holds T R (X ∷ []) Q passed_on (Three reads.name calls.name tells.name) (passing-with reads.name calls.name tells.name) (passed-with-walk reads.name calls.name tells.name passes) 𝓛 𝓜 𝓡 env #this unfolded
      (knows reads, (knows calls, knows tells))

-- how a test came out
holds : (b : Bool) → T b → b ≡ true
holds true t = refl
holds false t = absurd t

fails : (b : Bool) → T (not b) → b ≡ false
fails true t = absurd t
fails false t = refl

-- fn(_1: &mut T, _2: X) -> R { _3 = test(_2); if _3 { _4 = &mut *_1; _0 = call(_4, _2); return } _5 = &mut *_1; _0 = other(_5); return }
module _ (T X R : Plain) (Q : Ensures T R (X ∷ [])) (I : Reads X boolean) (S : Ensures T R (X ∷ [])) (O : Ensures T R []) where
  -- what the function ensures follows of what the test and the function that it chooses ensure
  pub record Chooses : Type 0 where
    pub passes : (κ : Lft) (h : T.row.Denot) (x : X.row.Denot) (r : R.row.Denot) (w : T.row.Denot) → I x true → S (κ, tt) h (x, tt) r w → Q (κ, tt) h (x, tt) r w
    pub fails : (κ : Lft) (h : T.row.Denot) (x : X.row.Denot) (r : R.row.Denot) (w : T.row.Denot) → I x false → O (κ, tt) h tt r w → Q (κ, tt) h (x, tt) r w

  module _ (#test #call #other : Callee) where
    abbrev other_way : Body
    other_way = seq (assign (place 5 []) (addr_of (place 1 (deref T.mir ∷ [])))) (seq (call #other (copy (place 5 []) ∷ []) (place 0 [])) return)

    abbrev choosing : Fn
    choosing = record {
      lifetimes = 1;
      outlives = [];
      ty_params = [];
      givens = 0;
      params = 2;
      locals = value R.mir ∷ value (ty_ref (named 0) mut (pointee T.row.written)) ∷ value X.mir ∷ value boolean.mir ∷ value (ty_ref erased mut (pointee T.row.written)) ∷ value (ty_ref erased mut (pointee T.row.written)) ∷ [];
      body = seq (call #test (copy (place 2 []) ∷ []) (place 3 []))
          (seq (cond (copy (place 3 [])) (seq (assign (place 4 []) (addr_of (place 1 (deref T.mir ∷ [])))) (seq (call #call (copy (place 4 []) ∷ copy (place 2 []) ∷ []) (place 0 [])) return)) skip) other_way);
    }

    abbrev Test-and-two : (M : Type 1) (𝓤 : Ura M) (𝓛 : Logic 𝓤) → Calls 𝓤 𝓛.H → Type 1
    Test-and-two M 𝓤 𝓛 𝓒 = Triple 𝓤 (𝓒 #test) (Reading X boolean I M 𝓤 𝓛) × (Triple 𝓤 (𝓒 #call) (Called-on T R (X ∷ []) S M 𝓤 𝓛) × Triple 𝓤 (𝓒 #other) (Called-on T R [] O M 𝓤 𝓛))

    chosen-walk : Chooses → Walked T R (X ∷ []) Q passed_on Test-and-two choosing
    chosen-walk chooses M 𝓤 𝓛 κ q p o γ h xs are 𝓒 Λ fm known =
        qed 𝓛 ((‵ (flft κ q) ⊛ ‵ ftrue) ∷ ‵ (owns (MutRef (named 0) κ T.row ∷ X.row ∷ []) (entry T R (X ∷ []) κ p o γ h xs) (vptr p o ∷ [], values 1 (κ, tt) (X ∷ []) xs)) ∷ []) ∵ split ! $ move ! (2 ∷ []) $ fsplit ! $ keep ! (0 ∷ 2 ∷ []) $
        enter ! 𝓒 Λ choosing _ _ $ alloc1 ! (λ l₀. alloc1 ! (λ l₁. alloc1 ! (λ l₂. alloc1 ! (λ l₃. alloc1 ! (λ l₄. alloc1 ! (λ l₅. alloc0 ! $ params1 ! $ pass1 ! (init ! 8 refl (tt, tt)) $ pass1 ! (init ! 6 refl (typed 𝓛 X X.mir X.one xs.0 _ are.0)) $ pass0 ! $
        -- [room for _5; …; room for _4; …; room for _3; …; _2; …; _1; …; room for _0; …; the `&mut`; the token]
        use0 𝓛 (raw ((Reading X boolean I M 𝓤 𝓛).pre (to_read X boolean I M 𝓤 𝓛 xs.0))) (goes X boolean I M 𝓤 𝓛 xs.0 are.0) $
        calls_at ! fm (Reading X boolean I M 𝓤 𝓛) known.0 (to_read X boolean I M 𝓤 𝓛 xs.0) (and_then ! (load ! (from ! (stop !)) (look ! 7 refl)) (no_more !)) (λ t.
        use1 𝓛 (later (some (λ (b : Bool). given (Read X boolean I M 𝓤 𝓛 xs.0 t b) (raw (emp 𝓤))))) (came X boolean I M 𝓤 𝓛 xs.0 t) $ await ! tt $ pick ! (λ b. learn ! (λ d. drop ! $
        land ! (from ! (stop !)) (init ! 4 refl (typed 𝓛 boolean boolean.mir boolean.one b t d.1)) $ rewrite ! 4 (λ (u : Val). ‵ (fat full_share boolean.mir l₃ 0 u)) (ap only (boolean.tells b _ d.1)) refl $
        first ! $ branches ! (load ! (from ! (stop !)) (look ! 4 refl))
        (λ held. assigns ! (addr ! (from ! (hop ! (look ! 8 refl) (stop !)))) (from ! (stop !)) (init ! 2 refl (tt, tt)) $ move ! (12 ∷ 13 ∷ []) $
        use2 𝓛 (raw ((Called-on T R (X ∷ []) S M 𝓤 𝓛).pre (at_call T R (X ∷ []) S M 𝓤 𝓛 κ q p o γ h xs))) (hands-over T R (X ∷ []) S M 𝓤 𝓛 κ q p o γ h xs are) $
        calls_at ! fm (Called-on T R (X ∷ []) S M 𝓤 𝓛) known.1.0 (at_call T R (X ∷ []) S M 𝓤 𝓛 κ q p o γ h xs) (and_then ! (load ! (from ! (stop !)) (look ! 3 refl)) (and_then ! (load ! (from ! (stop !)) (look ! 7 refl)) (no_more !))) (λ v.
        use1 𝓛 (later (some (λ (y : Gave T R (X ∷ [])). given (Known T R (X ∷ []) S M 𝓤 𝓛 κ q p o γ h xs v y) (‵ (had T passed_on κ p o γ h y.after) ⊛ ‵ (flft κ q))))) (gave T R (X ∷ []) S M 𝓤 𝓛 κ q p o γ h xs v) $ await ! tt $ pick ! (λ y. learn ! (λ e. split ! $
        -- [the last record; the token; room for _5; …; _4; …; _3; …; _2; …; _1; …; room for _0; …]
        land ! (from ! (stop !)) (init ! 12 refl (typed 𝓛 R R.mir R.one y.answer v e.1)) $ rewrite ! 12 (λ (u : Val). ‵ (fat full_share R.mir l₀ 0 u)) (ap only (R.tells y.answer _ e.1)) refl $
        returns_within ! (Post T R (X ∷ []) Q M 𝓤 𝓛 κ q p o γ h xs passed_on) refl (look ! 12 refl) $ forget ! 4 refl $ forget ! 6 refl $ forget ! 8 refl $ forget ! 10 refl $ forget ! 12 refl $
        move ! (12 ∷ 13 ∷ []) $ free1 ! $ move ! (10 ∷ 11 ∷ []) $ free1 ! $ move ! (8 ∷ 9 ∷ []) $ free1 ! $ move ! (6 ∷ 7 ∷ []) $ free1 ! $ move ! (4 ∷ 5 ∷ []) $ free1 ! $ move ! (2 ∷ 3 ∷ []) $ free1 ! $ free0 ! $
        by ! (exits T R (X ∷ []) Q M 𝓤 𝓛 κ q p o γ h xs passed_on are y.answer y.after (chooses.passes κ h xs.0 y.answer y.after (subst (I xs.0) (holds b held) d.0) e.0) (fits R y.answer _ e.1))))))
        (λ failed. let E : Locals 𝓤 𝓛.H = (R.mir, l₀) ∷ (ty_ref (named 0) mut (pointee T.row.written), l₁) ∷ (X.mir, l₂) ∷ (boolean.mir, l₃) ∷ (ty_ref erased mut (pointee T.row.written), l₄) ∷ (ty_ref erased mut (pointee T.row.written), l₅) ∷ [] in
        skips ! $ exec ! 𝓒 Λ E other_way (at_ret E (Post T R (X ∷ []) Q M 𝓤 𝓛 κ q p o γ h xs passed_on)) $
        assigns ! (addr ! (from ! (hop ! (look ! 8 refl) (stop !)))) (from ! (stop !)) (init ! 0 refl (tt, tt)) $ move ! (12 ∷ 13 ∷ []) $
        use2 𝓛 (raw ((Called-on T R [] O M 𝓤 𝓛).pre (at_call T R [] O M 𝓤 𝓛 κ q p o γ h tt))) (hands-over T R [] O M 𝓤 𝓛 κ q p o γ h tt tt) $
        calls_at ! fm (Called-on T R [] O M 𝓤 𝓛) known.1.1 (at_call T R [] O M 𝓤 𝓛 κ q p o γ h tt) (and_then ! (load ! (from ! (stop !)) (look ! 1 refl)) (no_more !)) (λ v.
        use1 𝓛 (later (some (λ (y : Gave T R []). given (Known T R [] O M 𝓤 𝓛 κ q p o γ h tt v y) (‵ (had T passed_on κ p o γ h y.after) ⊛ ‵ (flft κ q))))) (gave T R [] O M 𝓤 𝓛 κ q p o γ h tt v) $ await ! tt $ pick ! (λ y. learn ! (λ e. split ! $
        -- [the last record; the token; _5; …; room for _4; …; _3; …; _2; …; _1; …; room for _0; …]
        land ! (from ! (stop !)) (init ! 12 refl (typed 𝓛 R R.mir R.one y.answer v e.1)) $ rewrite ! 12 (λ (u : Val). ‵ (fat full_share R.mir l₀ 0 u)) (ap only (R.tells y.answer _ e.1)) refl $
        returns ! (look ! 12 refl) $ forget ! 2 refl $ forget ! 6 refl $ forget ! 8 refl $ forget ! 10 refl $ forget ! 12 refl $
        move ! (12 ∷ 13 ∷ []) $ free1 ! $ move ! (10 ∷ 11 ∷ []) $ free1 ! $ move ! (8 ∷ 9 ∷ []) $ free1 ! $ move ! (6 ∷ 7 ∷ []) $ free1 ! $ move ! (4 ∷ 5 ∷ []) $ free1 ! $ move ! (2 ∷ 3 ∷ []) $ free1 ! $ free0 ! $
        by ! (exits T R (X ∷ []) Q M 𝓤 𝓛 κ q p o γ h xs passed_on are y.answer y.after (chooses.fails κ h xs.0 y.answer y.after (subst (I xs.0) (fails b failed) d.0) e.0) (fits R y.answer _ e.1)))))))))))))))

  pub chosen : Chooses → {M : Type 1} {𝓤 : Ura M} (𝓛 : Logic 𝓤) (𝓜 : Model 𝓤 𝓛.H) (𝓡 : Running 𝓤 𝓛.H 𝓜) (env : Env) (#this : Callee)
      (tests : Cited 𝓤 𝓛.H 𝓜 𝓡 env (Reading X boolean I M 𝓤 𝓛)) (calls : Cited 𝓤 𝓛.H 𝓜 𝓡 env (Called-on T R (X ∷ []) S M 𝓤 𝓛)) (others : Cited 𝓤 𝓛.H 𝓜 𝓡 env (Called-on T R [] O M 𝓤 𝓛))
      → Closed 𝓤 𝓛.H (tables 𝓤 𝓛.H 𝓜 𝓡 env).C (tables 𝓤 𝓛.H 𝓜 𝓡 env).Λ #this (choosing tests.name calls.name others.name) → Triple 𝓤 (𝓡.run (env #this)) (Called-on T R (X ∷ []) Q M 𝓤 𝓛)
  chosen chooses 𝓛 𝓜 𝓡 env #this tests calls others unfolded =
      walk-holds T R (X ∷ []) Q passed_on (Test-and-two tests.name calls.name others.name) (choosing tests.name calls.name others.name) (chosen-walk tests.name calls.name others.name chooses) 𝓛 𝓜 𝓡 env #this unfolded
      (knows tests, (knows calls, knows others))
