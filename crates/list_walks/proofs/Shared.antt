-- A `&κ mut [T]` that is lent as a `&κ' [T]` for the time of a call, and comes back as it was.
--     SharedAgain      what the holder keeps meanwhile: the lender's part at κ', and its own borrow at κ, open, with both halves of its ghost variable
--     shares-again     where T is Copy:  own (the `&κ mut [T]` ((b, o), γ, ys)) ∗ [κ]_q  ⊢ ⇛ (own (the `&κ' [T]` ((b, o), ys)) ∗ SharedAgain)
--     shared_back      given `Room`:  [†κ'] ∗ SharedAgain  ⊢ ⇛ (own (the `&κ mut [T]` ((b, o), γ, ys)) ∗ [κ]_q)
-- Assumes `Logic`.
use mathlib.Core.Path.{refl}
use Prim.Native.Nat.{ℕ}
use mathlib.Core.List.{List, [], ◌∷◌}
use lib.ListN.{length}
use seplogic.Ra.Ura.{Ura}
use base.Fraction.{full_share}
use mir.Syntax.{Lifetime}
use mir.Val.{Val}
use base.Logic.{ent, sep}
use base.Fml.{Lft, GName, Share, Fml, fsep, flft, fdead, fobs, fauth, flent, fobor, fhide}
use types.Logic.{Logic, sem}
use types.Kit.{‵, ◌⊛◌, later, ◌$◌, ◌∵◌, !, qed, move, use1, split, fsplit, fjoin, frame, await, updating, now as at_once, done}
use types.Tokens.{lent_back}
use denote.RattleType.{RattleType}
use denote.Shadow.{pure_l, pure_i}
use denote.Ref.{Bor, MutBor}
use denote.Slice.{slice_val, MutSlice, ShrSlice, heres, Room, shr_slice_at, mut_slice_at, coded_holeys, elements_shared}
use denote.Copied.{Copied, each_lends}
use denote.Lend.{Held}
use denote.Index.{row, opens_slice, closes_slice}

module _ (R : RattleType) (κ κ' : Lft) (q : Share) (γ : GName) (b o : ℕ) where
  abbrev at_list : List R.Denot → MutBor (List R.Denot)
  at_list ys = record { ref_ptr = (b, o); ghost_name = γ; now = ys }

  abbrev shared_list : List R.Denot → Bor (List R.Denot)
  shared_list ys = record { ref_ptr = (b, o); now = ys }

  abbrev pub SharedAgain : List R.Denot → Fml
  SharedAgain ys = fsep (flent κ' (row R full_share ys b o))
      (fsep (fobor κ q (Held R (length ys) b o γ)) (fsep (fobs γ ((coded_holeys R).code (heres R ys))) (fauth γ ((coded_holeys R).code (heres R ys)))))

  module _ {M : Type 1} {𝓤 : Ura M} (𝓛 : Logic 𝓤) (ℓ ℓ' : Lifetime) (ys : List R.Denot) where
    open 𝓛 use {H, A}

    abbrev vals : List Val
    vals = slice_val (b, o) (length ys) ∷ []

    pub shares-again : Copied 𝓛 R → ent 𝓤 (sep 𝓤 (sem 𝓛 ((MutSlice ℓ κ R).own_val (at_list ys) vals)) (A.lft κ q))
        (H.⇛ (sep 𝓤 (sem 𝓛 ((ShrSlice ℓ' κ' R).own_val (shared_list ys) vals)) (sem 𝓛 (SharedAgain ys))))
    shares-again c =
        qed 𝓛 (‵ ((MutSlice ℓ κ R).own_val (at_list ys) vals) ∷ ‵ (flft κ q) ∷ []) ∵ updating ! $ fsplit ! $
        pure_l ! (mut_slice_at R (at_list ys) vals) (λ p. fsplit ! $ opens_slice ! tt R ys b o $
        -- [the row; the open borrow at κ; obs γ; auth γ]
        use1 𝓛 (later (‵ (fhide (elements_shared R ys b o κ')) ⊛ ‵ (flent κ' (row R full_share ys b o)))) (each_lends 𝓛 R c full_share ys b o κ') $ await ! tt $ split ! $
        -- [the elements, shared; the lender's part at κ'; the open borrow at κ; obs γ; auth γ]
        at_once ! $ pure_i ! (shr_slice_at R (shared_list ys) vals) (tt, (tt, tt)) (refl, p.1) $ fjoin ! $ frame ! $
        move ! (2 ∷ 3 ∷ []) $ fjoin ! $ move ! (2 ∷ 0 ∷ []) $ fjoin ! $ move ! (1 ∷ 0 ∷ []) $ fjoin ! $ done !)

    pub shared_back : Room R (length ys) → ent 𝓤 (sep 𝓤 (A.dead κ') (sem 𝓛 (SharedAgain ys))) (H.⇛ (sep 𝓤 (sem 𝓛 ((MutSlice ℓ κ R).own_val (at_list ys) vals)) (A.lft κ q)))
    shared_back room =
        qed 𝓛 (‵ (fdead κ') ∷ ‵ (SharedAgain ys) ∷ []) ∵ updating ! $ move ! (1 ∷ []) $ fsplit ! $ move ! (2 ∷ 0 ∷ []) $ lent_back ! tt $
        -- [the row; the open borrow with obs γ and auth γ]
        move ! (1 ∷ []) $ fsplit ! $ move ! (1 ∷ []) $ fsplit ! $ move ! (3 ∷ 2 ∷ 0 ∷ 1 ∷ []) $ closes_slice ! tt R ys ys refl b o $ at_once ! $
        fjoin ! $ pure_i ! (mut_slice_at R (at_list ys) vals) (tt, (tt, tt)) (refl, room) $ fjoin ! $ done !
