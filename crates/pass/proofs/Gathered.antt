-- The element at place k of a gathered list, and of a list of one element at most. Assumes nothing.
use Prim.Native.Nat.{ℕ, zero, suc, ◌+◌, ◌/◌, ◌^◌, ◌≤◌, ◌<◌}
use mathlib.Core.Path.{◌≡◌, refl, sym, ap, ◌∙◌, subst}
use mathlib.Core.Bool.{Bool, true, false, cond}
use mathlib.Core.List.{List, [], ◌∷◌}
use native.Mathlib.Nat.{not-suc-le-zero, le_of_suc-le-suc, pow-suc}
use native.Mathlib.Omega.{arith}
use lib.Arith.{lt-one}
use lib.ListN.{length, get_or, length-map}
use Rattle.mask.specs.Mask.{odd, cons?, places_from, places}
use Rattle.mask.specs.Laws.{places-none}
use Rattle.mask.specs.By.{by-lt}
use Rattle.slots.specs.Place.{Stands}
use Rattle.slots.proofs.Flags.{map_at}
use Rattle.pass.specs.Gather.{gather, gather_mask, gather_at, gather-places}

pub only : {A : Type 0} (l : List A) (e : A) (k : ℕ) → length l ≤ 1 → Stands (get_or l 0 e) k l
only [] e k h s d = absurd (not-suc-le-zero s)
only (x ∷ l) e zero h s d = refl
only (x ∷ l) e (suc k) h s d = absurd (omega arith)

-- a mask of n places has places below n
below-from : (k i n m t : ℕ) → m < 2 ^ n → t < length (places_from k i m) → get_or (places_from k i m) t 32 < i + n
unfolding places_from
below-from zero i n m t h l = absurd (not-suc-le-zero l)
below-from (suc k) i zero m t h l = absurd (not-suc-le-zero (subst (λ (x : List ℕ). t < length x) (ap (places_from (suc k) i) (lt-one h) ∙ places-none (suc k) i) l))
below-from (suc k) i (suc n) m t h l = go (odd m) t (λ u. below-from k (suc i) n (m / 2) u (omega (arith, pow-suc 2 n))) l
  where
    go : (b : Bool) (t : ℕ) → ((u : ℕ) → u < length (places_from k (suc i) (m / 2)) → get_or (places_from k (suc i) (m / 2)) u 32 < suc i + n)
        → t < length (cons? b i (places_from k (suc i) (m / 2))) → get_or (cons? b i (places_from k (suc i) (m / 2))) t 32 < i + suc n
    go true zero q l = omega arith
    go true (suc t) q l = let p = q t (le_of_suc-le-suc l) in omega arith
    go false t q l = let p = q t l in omega arith

module _ {A B : Type 0} (f : ℕ → A → Bool) (g : ℕ → A → B) (d : A) (out : (i : ℕ) → f i d ≡ false) (n : ℕ) (l : List A) (short : length l ≤ n) (few : n ≤ 32) (k : ℕ) (h : k < length (gather f g 0 l)) where
  abbrev pub gather_place : ℕ
  gather_place = get_or (places (gather_mask f g d out n l short few)) k 32

  shorter : k < length (places (gather_mask f g d out n l short few))
  shorter =
      subst (λ (x : ℕ). k < x)
      (ap length (gather-places f g d out n l short few) ∙ length-map (places (gather_mask f g d out n l short few)) (gather_at f g d out n l short few)) h

  pub gather-below : gather_place < n
  gather-below = let q = below-from 32 0 n (gather_mask f g d out n l short few) k (by-lt n (λ j. f j (get_or l j d))) shorter in omega arith

  pub gather-at : (e : B) → g gather_place (get_or l gather_place d) ≡ get_or (gather f g 0 l) k e
  gather-at e =
      sym (map_at (gather_at f g d out n l short few) (places (gather_mask f g d out n l short few)) k 32 e shorter)
      ∙ ap (λ (x : List B). get_or x k e) (sym (gather-places f g d out n l short few))

-- a list of one element or none, by a test
pub stands-if : {A : Type 0} (b : Bool) (x : A) (k : ℕ) → Stands x k (cond b (x ∷ []) [])
stands-if true x zero h d = refl
stands-if true x (suc k) h d = absurd (omega arith)
stands-if false x k h d = absurd (not-suc-le-zero h)

pub stands-unless : {A : Type 0} (b : Bool) (x : A) (k : ℕ) → Stands x k (cond b [] (x ∷ []))
stands-unless true x k h d = absurd (not-suc-le-zero h)
stands-unless false x zero h d = refl
stands-unless false x (suc k) h d = absurd (omega arith)
