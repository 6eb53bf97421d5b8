-- The element of a list: any type of plain data, with its size in bytes, as MIR has it. What a walk needs of it.
-- A lent list shows that each of its elements is of its type (`list-goods`).
-- Assumes `Logic`.
use mathlib.Core.Path.{◌≡◌, ◌∙◌, ap, subst}
use Prim.Native.Nat.{ℕ, ◌<◌, ◌^◌, ◌*◌, ◌+◌}
use native.Mathlib.Nat.{mul-le-mul_right, le_of_lt, lt_of_le_of_lt, lt_trans}
use lib.Dec.{lit<, ltb, T as Holds}
use mathlib.Core.List.{[], ◌∷◌, List}
use seplogic.Ra.Ura.{Ura}
use mir.Syntax.{Ty, Lifetime, ty_int, w64}
use mir.Val.{Val}
use base.Fml.{Lft, Share, fsep, flft}
use denote.Shadow.{shadow}
use prog.Memory.{size}
use types.Logic.{Logic}
use types.Kit.{Goal, Soaks, Seq, Item, ‵, ◌⊛◌, ◌$◌, ◌∵◌, !, qed, move, use1, split, drop, fsplit, fjoin, fpick, fpack, frame, done}
use denote.Laws.{Is, shows, Copy}
use denote.Memory.{cell_at, part_of, mem}
use denote.Ref.{Bor}
use denote.Slice.{Room, ShrSlice, shr_slice_copy}
use denote.Index.{row as share_of, place as place_at, place_is, looks_slice, shuts_slice}
use denote.Steps.{owned, peeks}
use Rattle.walks.proofs.Args.{Datum, row}

abbrev pub word : Ty
word = ty_int w64

pub record Element : Type 2 where
  pub R : Datum
  pub bytes : ℕ
  pub bytes_is : size R.ty ≡ bytes
  pub bytes_fit : Holds (ltb bytes (2 ^ 64))

-- a value is of its type
abbrev pub Good : (D : Datum) → D.D → Type 0
Good D x = shadow (D.own x (D.val x ∷ []))

pub good : (D : Datum) (x : D.D) (u : Val) → shadow (D.own x (u ∷ [])) → Good D x
good D x u is = subst (λ (us : List Val). shadow (D.own x us)) (D.tells x (u ∷ []) is) is

-- each of them is
abbrev pub Goods : (D : Datum) → List D.D → Type 0
Goods D [] = Unit {0}
Goods D (x ∷ xs) = Good D x × Goods D xs

-- plain data can be had twice
pub copies : (D : Datum) {M : Type 1} {𝓤 : Ura M} (𝓛 : Logic 𝓤) → Copy 𝓛 (row D)
copies D 𝓛 = record {
  twice = λ x vs. qed 𝓛 (‵ ((row D).own_val x vs) ∷ []) ∵ peeks ! (row D) (Is (row D)) (shows 𝓛 (row D)) x vs
      (λ p. owned ! (row D) (Is (row D)) (D.makes 𝓛) x vs p $ frame ! $ done !);
}

module _ {M : Type 1} {𝓤 : Ura M} {𝓛 : Logic 𝓤} {K : Type 0} {G : Goal 𝓤 𝓛.H} (t : K) (D : Datum) where
  -- the elements of a share of a list
  share-goods : (q : Share) (ys : List D.D) (b o : ℕ) (Γ : List (Item 𝓤))
      → (Goods D ys → Seq K 𝓛 (‵ (share_of (row D) q ys b o) ∷ Γ) G) → Seq K 𝓛 (‵ (share_of (row D) q ys b o) ∷ Γ) G
  unfolding part_of
  share-goods q [] b o Γ k = k tt
  share-goods q (y ∷ ys) b o Γ k =
      fsplit t $ fpick t (λ vs. fsplit t $ move t (1 ∷ []) $ peeks t (row D) (Is (row D)) (shows 𝓛 (row D)) y vs (λ p.
      -- [what y owns; its value; the others; …]
      move t (2 ∷ []) $ share-goods q ys b (o + (mem (row D)).size) (‵ (D.own y vs) ∷ ‵ (cell_at q (row D).mir vs b o) ∷ Γ) (λ gs.
      move t (2 ∷ 1 ∷ []) $ fjoin t $ fpack t (List Val) (λ us. fsep (cell_at q (row D).mir us b o) (D.own y us)) vs $ fjoin t $
      k (subst (λ (us : List Val). shadow (D.own y us)) (D.tells y vs p) p, gs))))

  -- those of a lent list: it is looked into, which takes its lifetime's token and gives it back
  pub list-goods : Soaks G → (ℓ : Lifetime) (κ : Lft) (q : Share) (x : Bor (List D.D)) (v : Val) (Γ : List (Item 𝓤))
      → (Goods D x.now → Seq K 𝓛 (‵ (flft κ q) ∷ ‵ ((ShrSlice ℓ κ (row D)).own_val x (v ∷ [])) ∷ Γ) G) → Seq K 𝓛 (‵ (flft κ q) ∷ ‵ ((ShrSlice ℓ κ (row D)).own_val x (v ∷ [])) ∷ Γ) G
  list-goods z ℓ κ q x v Γ k =
      move t (1 ∷ []) $ use1 𝓛 (‵ ((ShrSlice ℓ κ (row D)).own_val x (v ∷ [])) ⊛ ‵ ((ShrSlice ℓ κ (row D)).own_val x (v ∷ []))) ((shr_slice_copy 𝓛 ℓ κ (row D) D.shared_laws).twice x (v ∷ [])) $
      split t $ fsplit t $ drop t $ move t (0 ∷ 2 ∷ []) $
      looks_slice t z (row D) (D.copied 𝓛) x.now x.ref_ptr.0 x.ref_ptr.1 (λ q'.
      -- [the share; what shuts it; the elements, shared; the list; …]
      move t (2 ∷ []) $ drop t $ share-goods q' x.now x.ref_ptr.0 x.ref_ptr.1 _ (λ gs. shuts_slice t z (row D) q' x.now x.ref_ptr.0 x.ref_ptr.1 $ k gs))

module _ (𝓔 : Element) where
  pub place-fits : (len i : ℕ) → Room (row 𝓔.R) len → i < len → i * 𝓔.bytes < 2 ^ 64
  place-fits len i room less = lt_trans (lt_of_le_of_lt (mul-le-mul_right 𝓔.bytes (le_of_lt less)) (subst (λ (m : ℕ). len * m < 2 ^ 63) 𝓔.bytes_is room.1)) (lit< tt)

  pub place_of : (o i : ℕ) → place_at (size 𝓔.R.ty) o i ≡ i * 𝓔.bytes + o
  place_of o i = place_is (size 𝓔.R.ty) o i ∙ ap (λ (m : ℕ). i * m + o) 𝓔.bytes_is
