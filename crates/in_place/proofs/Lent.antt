-- A value in a cell is lent for a lifetime as a `&` or as a `&mut`, by the mutability m, and comes back as the value that it then is.
--     Ref m            the `&κ T` or `&κ mut T`
--     To m, lent_at m  what it denotes, and that of a value lent at a place;  now-lent: this shows the value
--     after m          the value that comes back: of a `&` the one that was lent, of a `&mut` the one that the reference showed last
--     Kept m           what the lender has meanwhile
--     lend             a step of a walk: the cell becomes the reference, the lender's part and the token of a new lifetime
--     comes_back       the token, the lender's part and what the reference left become the cell, with the value that comes back
-- Assumes nothing.
use mathlib.Core.Path.{◌≡◌, refl, sym, ◌∙◌, ap, subst}
use Prim.Native.Nat.{ℕ, zero}
use mathlib.Core.List.{List, [], ◌∷◌, ◌++◌}
use seplogic.Ra.Ura.{Ura}
use base.Fraction.{full_share}
use mir.Syntax.{Ty, ty_ref, Lifetime, Mutability, imm, mut, erased, wrote}
use mir.Raw.{raw as raw_ty}
use mir.Val.{Val, vptr}
use base.Logic.{ent, sep, ex, guard}
use base.Stored.{Coded}
use base.Fml.{Lft, GName, Fml, fat, fdead, flft, flent}
use types.Logic.{Logic, sem}
use types.Kit.{Item, Goal, Seq, Soaks, ‵, given, some, later, ◌⊛◌, ◌$◌, ◌∵◌, !, qed, by, move, drop, use1, use3, split, fsplit, show, pick, learn, rewrite, await, updating, now as at_once, check, done}
use types.SemTy.{Body}
use types.Tokens.{lft_new, lft_end, lent_back}
use denote.RattleType.{RattleType}
use denote.Laws.{Is, shows}
use denote.Memory.{mem, part_at, lone, pointee}
use denote.Exit.{Kept as Ending, yes, Exit, Last, left, Seen, see}
use denote.Ref.{Bor, MutBor, MutRef, ShrRef, shr_coded, mut_coded}
use denote.Lend.{lends_ref, ref_back, lends_free}
use denote.Steps.{only, owned, peeks}
use borrow.Table.OneValue.{One, part_in_at, part_out_at}
use Rattle.in_place.proofs.InPlace.{Plain, Fits}

-- ---- a reference of either kind
abbrev pub To : Mutability → Type 0 → Type 0
To imm X = Bor X
To mut X = MutBor X

abbrev pub lent_at : {X : Type 0} → (m : Mutability) → ℕ → ℕ → GName → X → To m X
lent_at imm b o γ x = record { ref_ptr = (b, o); now = x }
lent_at mut b o γ x = record { ref_ptr = (b, o); ghost_name = γ; now = x }

abbrev pub now_of : {X : Type 0} → (m : Mutability) → To m X → X
now_of imm x = x.now
now_of mut x = x.now

pub now-lent : {X : Type 0} (m : Mutability) (b o : ℕ) (γ : GName) (x : X) → now_of m (lent_at m b o γ x) ≡ x
now-lent imm b o γ x = refl
now-lent mut b o γ x = refl

abbrev coded_by : {X : Type 0} → (m : Mutability) → Coded X → Coded (To m X)
coded_by imm c = shr_coded c
coded_by mut c = mut_coded c

module _ (R : RattleType) where
  abbrev own-by : (m : Mutability) → Lft → To m R.Denot → List Val → Fml
  own-by imm κ = (ShrRef erased κ R).own_val
  own-by mut κ = (MutRef erased κ R).own_val

  abbrev shr-by : (m : Mutability) → Lft → To m R.Denot → ℕ → ℕ → Lft → Fml
  shr-by imm κ = (ShrRef erased κ R).shr_at
  shr-by mut κ = (MutRef erased κ R).shr_at

  abbrev pub exit_by : (m : Mutability) → Lifetime → Lft → Ending → Exit (To m R.Denot)
  exit_by imm ℓ κ k = (ShrRef ℓ κ R).exit k
  exit_by mut ℓ κ k = (MutRef ℓ κ R).exit k

  abbrev pub after : (m : Mutability) (ℓ : Lifetime) (κ : Lft) → To m R.Denot → Seen (exit_by m ℓ κ yes) → R.Denot
  after imm ℓ κ x y = x.now
  after mut ℓ κ x y = y.now

  -- of the value x, lent at (b, o)
  abbrev pub Kept : Mutability → Lft → ℕ → ℕ → GName → R.Denot → Fml
  Kept imm κ b o γ x = flent κ (part_at R full_share x b o)
  Kept mut κ b o γ x = flent κ (Body (mem R) b o γ)

abbrev pub Ref : Mutability → Lifetime → Lft → RattleType → RattleType
Ref m ℓ κ R = record {
  Denot = To m R.Denot;
  mir = ty_ref ℓ m (pointee R.written) ∷ [];
  written = wrote (ty_ref ℓ m (pointee R.written));
  reaches = (R.written, R.mir) ∷ R.reaches;
  lives = κ ++ R.lives;
  own_val = own-by R m κ;
  exit = exit_by R m ℓ κ;
  coded = coded_by m R.coded;
  shr_at = shr-by R m κ;
}

-- the value that comes back, of what is bound for the reference at exit
abbrev pub last : (R : RattleType) (m : Mutability) (ℓ : Lifetime) (κ : Lft) (x : To m R.Denot) → Last (exit_by R m ℓ κ yes) x → R.Denot
last R m ℓ κ x w = after R m ℓ κ x (see (exit_by R m ℓ κ yes) x w)

module _ (P : Plain) where
  abbrev R : RattleType
  R = P.row

  one : One R
  one = P.one ∙ sym (ap (λ (τs : List Ty). lone τs ∷ []) P.one)

  is-raw : raw_ty P.mir ≡ raw_ty (lone R.mir)
  is-raw = ap (λ (τs : List Ty). raw_ty (lone τs)) (sym P.one)

  module _ {M : Type 1} {𝓤 : Ura M} (𝓛 : Logic 𝓤) where
    open 𝓛 use {H, A}

    abbrev Cell : ℕ → ℕ → R.Denot → Fml
    Cell b o x = fat full_share P.mir b o (P.val x)

    part_of : (x : R.Denot) (b o : ℕ) → Fits P x → ent 𝓤 (sem 𝓛 (Cell b o x)) (sem 𝓛 (part_at R full_share x b o))
    part_of x b o is = qed 𝓛 (‵ (Cell b o x) ∷ []) ∵ owned ! R (Is R) (P.makes 𝓛) x (P.val x ∷ []) is $ move ! (1 ∷ 0 ∷ []) $ by ! (part_in_at 𝓛 R one full_share x b o P.mir is-raw (P.val x))

    cell-of : (x : R.Denot) (b o : ℕ) → ent 𝓤 (sem 𝓛 (part_at R full_share x b o)) (guard 𝓤 (Fits P x) (sem 𝓛 (Cell b o x)))
    cell-of x b o =
        qed 𝓛 (‵ (part_at R full_share x b o) ∷ []) ∵
        use1 𝓛 (some (λ (v : Val). ‵ (fat full_share P.mir b o v) ⊛ ‵ (R.own_val x (v ∷ [])))) (part_out_at 𝓛 R one full_share x b o P.mir is-raw) $ pick ! (λ v. split ! $ move ! (1 ∷ []) $
        peeks ! R (Is R) (shows 𝓛 R) x (v ∷ []) (λ is. drop ! $ rewrite ! 0 (λ (u : Val). ‵ (fat full_share P.mir b o u)) (ap only (P.tells x (v ∷ []) is)) refl $
        check ! (subst (λ (vs : List Val). Is R x vs) (P.tells x (v ∷ []) is) is) $ done !))

    -- what the reference owns of x, lent at (b, o)
    abbrev pub Owned : (m : Mutability) → Lifetime → Lft → ℕ → ℕ → GName → R.Denot → Fml
    Owned m ℓ κ b o γ x = (Ref m ℓ κ R).own_val (lent_at m b o γ x) (vptr b o ∷ [])

    lends : (m : Mutability) (ℓ : Lifetime) (κ : Lft) (x : R.Denot) (b o : ℕ) → Fits P x
        → ent 𝓤 (sem 𝓛 (Cell b o x)) (H.⇛ (ex 𝓤 (λ (γ : GName). sep 𝓤 (sem 𝓛 (Owned m ℓ κ b o γ x)) (sem 𝓛 (Kept R m κ b o γ x)))))
    lends imm ℓ κ x b o is =
        qed 𝓛 (‵ (Cell b o x) ∷ []) ∵ updating ! $ use1 𝓛 (‵ (part_at R full_share x b o)) (part_of x b o is) $
        use1 𝓛 (later (‵ (Owned imm ℓ κ b o zero x) ⊛ ‵ (Kept R imm κ b o zero x))) (lends_free 𝓛 R ℓ κ full_share x b o (P.lends 𝓛 full_share x b o)) $ await ! tt $ split ! $
        at_once ! $ show ! (λ (γ : GName). sep 𝓤 (sem 𝓛 (Owned imm ℓ κ b o γ x)) (sem 𝓛 (Kept R imm κ b o γ x))) zero $ done !
    lends mut ℓ κ x b o is = qed 𝓛 (‵ (Cell b o x) ∷ []) ∵ use1 𝓛 (‵ (part_at R full_share x b o)) (part_of x b o is) $ by ! (lends_ref 𝓛 R ℓ κ x b o)

    backs : (m : Mutability) (ℓ : Lifetime) (κ : Lft) (b o : ℕ) (γ : GName) (x : R.Denot) (w : Last (exit_by R m ℓ κ yes) (lent_at m b o γ x))
        → ent 𝓤 (sep 𝓤 (A.dead κ) (sep 𝓤 (sem 𝓛 (Kept R m κ b o γ x)) (sem 𝓛 (left (exit_by R m ℓ κ yes) (lent_at m b o γ x) w))))
        (H.⇛ (guard 𝓤 (Fits P (last R m ℓ κ (lent_at m b o γ x) w)) (sem 𝓛 (Cell b o (last R m ℓ κ (lent_at m b o γ x) w)))))
    backs imm ℓ κ b o γ x w =
        qed 𝓛 (‵ (fdead κ) ∷ ‵ (Kept R imm κ b o γ x) ∷ ‵ (left (exit_by R imm ℓ κ yes) (lent_at imm b o γ x) w) ∷ []) ∵ updating ! $ lent_back ! tt $ move ! (1 ∷ []) $ drop ! $ at_once ! $ by ! (cell-of x b o)
    backs mut ℓ κ b o γ x w =
        qed 𝓛 (‵ (fdead κ) ∷ ‵ (Kept R mut κ b o γ x) ∷ ‵ (left (exit_by R mut ℓ κ yes) (lent_at mut b o γ x) w) ∷ []) ∵ updating ! $ move ! (2 ∷ []) $ fsplit ! $ move ! (1 ∷ []) $ drop ! $ move ! (1 ∷ 2 ∷ 0 ∷ []) $
        use3 𝓛 (later (‵ (part_at R full_share w b o))) (ref_back 𝓛 R κ γ w b o) $ await ! tt $ at_once ! $ by ! (cell-of w b o)

-- ---- as steps of a walk
module _ {M : Type 1} {𝓤 : Ura M} {𝓛 : Logic 𝓤} {Go : Type 0} {Γ : List (Item 𝓤)} {G : Goal 𝓤 𝓛.H} where
  pub lend : Go → Soaks G → (P : Plain) (m : Mutability) (ℓ : Lifetime) (x : P.row.Denot) (b o : ℕ) → Fits P x
      → ((κ : ℕ) (γ : GName) → Seq Go 𝓛 (‵ (Owned P 𝓛 m ℓ (κ ∷ []) b o γ x) ∷ ‵ (Kept P.row m (κ ∷ []) b o γ x) ∷ ‵ (flft (κ ∷ []) full_share) ∷ Γ) G)
      → Seq Go 𝓛 (‵ (fat full_share P.mir b o (P.val x)) ∷ Γ) G
  lend t a P m ℓ x b o is k =
      lft_new t a (λ κ. move t (1 ∷ []) $
      use1 𝓛 (later (some (λ (γ : GName). ‵ (Owned P 𝓛 m ℓ (κ ∷ []) b o γ x) ⊛ ‵ (Kept P.row m (κ ∷ []) b o γ x)))) (lends P 𝓛 m ℓ (κ ∷ []) x b o is) $ await t a $ pick t (λ γ. split t $ k κ γ))

  pub comes_back : Go → Soaks G → (P : Plain) (m : Mutability) (ℓ : Lifetime) {κ : ℕ} (b o : ℕ) (γ : GName) (x : P.row.Denot) (w : Last (exit_by P.row m ℓ (κ ∷ []) yes) (lent_at m b o γ x))
      → (Fits P (last P.row m ℓ (κ ∷ []) (lent_at m b o γ x) w) → Seq Go 𝓛 (‵ (fat full_share P.mir b o (P.val (last P.row m ℓ (κ ∷ []) (lent_at m b o γ x) w))) ∷ Γ) G)
      → Seq Go 𝓛 (‵ (flft (κ ∷ []) full_share) ∷ ‵ (Kept P.row m (κ ∷ []) b o γ x) ∷ ‵ (left (exit_by P.row m ℓ (κ ∷ []) yes) (lent_at m b o γ x) w) ∷ Γ) G
  comes_back t a P m ℓ {κ} b o γ x w k =
      lft_end t a $
      use3 𝓛 (later (given (Fits P (last P.row m ℓ (κ ∷ []) (lent_at m b o γ x) w)) (‵ (fat full_share P.mir b o (P.val (last P.row m ℓ (κ ∷ []) (lent_at m b o γ x) w)))))) (backs P 𝓛 m ℓ (κ ∷ []) b o γ x w) $
      await t a $ learn t k
