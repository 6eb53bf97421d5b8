-- Lists of one or two elements by place. Assumes nothing.
use Prim.Native.Nat.{ℕ, zero, suc, ◌<◌}
use mathlib.Core.Path.{◌≡◌, refl}
use mathlib.Core.Bool.{Bool, true, false, cond}
use mathlib.Core.List.{List, [], ◌∷◌}
use native.Mathlib.Nat.{not-suc-le-zero, le_of_suc-le-suc}
use lib.ListN.{length, get_or}
use Rattle.slots.specs.Place.{Stands}

module _ {A : Type 0} where
  pub alone : (x : A) (k : ℕ) → Stands x k (x ∷ [])
  alone x zero h d = refl
  alone x (suc k) h d = absurd (not-suc-le-zero (le_of_suc-le-suc h))

  -- one for both, or one each
  abbrev pub one_or_two : Bool → A → A → A → List A
  one_or_two b x y z = cond b (x ∷ []) (y ∷ z ∷ [])

  pub both : (b : Bool) (x y z : A) (k : ℕ) → b ≡ true → Stands x k (one_or_two b x y z)
  both b x y z k e = rw e (alone x k)

  pub first : (b : Bool) (x y z : A) (k : ℕ) → b ≡ false → k ≡ 0 → Stands y k (one_or_two b x y z)
  first b x y z k e n = λ h d. rw (e, n)

  pub second : (b : Bool) (x y z : A) (k : ℕ) → b ≡ false → (k ≡ 0 → ⊥) → Stands z k (one_or_two b x y z)
  second b x y z k e n = rw e (go k n)
    where
      go : (k : ℕ) → (k ≡ 0 → ⊥) → Stands z k (y ∷ z ∷ [])
      go zero n h d = absurd (n refl)
      go (suc k) n h d = alone z k (le_of_suc-le-suc h) d

  -- within a list the default does not matter
  pub any-default : (l : List A) (i : ℕ) (d e : A) → i < length l → get_or l i d ≡ get_or l i e
  any-default [] i d e h = absurd (not-suc-le-zero h)
  any-default (x ∷ l) zero d e h = refl
  any-default (x ∷ l) (suc i) d e h = any-default l i d e (le_of_suc-le-suc h)
