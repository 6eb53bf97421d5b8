-- A property of each element of a list, by the shape of the list. Assumes nothing.
use Prim.Native.Nat.{ℕ, zero, suc, ◌+◌, ◌/◌, ◌^◌, ◌<◌}
use mathlib.Core.Path.{◌≡◌, refl, sym, ap, ap₂, ◌∙◌, subst}
use mathlib.Core.Bool.{Bool, true, false, cond, ◌||◌}
use mathlib.Core.List.{List, [], ◌∷◌, ◌++◌, map}
use native.Mathlib.Nat.{pow-suc}
use native.Mathlib.Omega.{arith}
use lib.Arith.{lt-one}
use lib.ListN.{take}
use Rattle.tables.specs.Tabulate.{tabulate}
use Rattle.mask.specs.Mask.{odd, cons?, places_from, places}
use Rattle.mask.specs.Laws.{places-none}
use Rattle.records.specs.Check.{some?}
use Rattle.machine.specs.Each.{Each}

pub neither : {a b : Bool} → a ≡ false → b ≡ false → a || b ≡ false
neither p q = ap₂ (λ (x y : Bool). x || y) p q

module _ {A : Type 0} where
  pub each_append : (P : A → Type 0) (xs ys : List A) → Each P xs → Each P ys → Each P (xs ++ ys)
  each_append P [] ys h k = k
  each_append P (x ∷ xs) ys h k = (h.0, each_append P xs ys h.1 k)

  pub each-cond : (P : A → Type 0) (t : Bool) (xs ys : List A) → Each P xs → Each P ys → Each P (cond t xs ys)
  each-cond P true xs ys h k = h
  each-cond P false xs ys h k = k

  pub each_take : (P : A → Type 0) (n : ℕ) (l : List A) → Each P l → Each P (take n l)
  each_take P zero l h = tt
  each_take P (suc n) [] h = tt
  each_take P (suc n) (x ∷ l) h = (h.0, each_take P n l h.1)

  pub each-so : (P Q : A → Type 0) (l : List A) → ((x : A) → P x → Q x) → Each P l → Each Q l
  each-so P Q [] f h = tt
  each-so P Q (x ∷ l) f h = (f x h.0, each-so P Q l f h.1)

  pub each-mapped : {B : Type 0} (P : A → Type 0) (Q : B → Type 0) (g : A → B) (l : List A) → ((x : A) → P x → Q (g x)) → Each P l → Each Q (map g l)
  each-mapped P Q g [] f h = tt
  each-mapped P Q g (x ∷ l) f h = (f x h.0, each-mapped P Q g l f h.1)

  pub each-tabled : (P : A → Type 0) (n : ℕ) (g : ℕ → A) → ((i : ℕ) → P (g i)) → Each P (tabulate n g)
  unfolding tabulate
  each-tabled P zero g f = tt
  each-tabled P (suc n) g f = (f 0, each-tabled P n (λ i. g (suc i)) (λ i. f (suc i)))

  pub none_has : (f : A → Bool) (l : List A) → Each (λ x. f x ≡ false) l → some? f l ≡ false
  unfolding some?
  none_has f [] h = refl
  none_has f (x ∷ l) h = neither h.0 (none_has f l h.1)

-- the places of a mask of n places are below n
below-from : (k i n m : ℕ) → m < 2 ^ n → Each (λ j. j < i + n) (places_from k i m)
unfolding places_from
below-from zero i n m h = tt
below-from (suc k) i zero m h = subst (Each (λ j. j < i + 0)) (sym (ap (places_from (suc k) i) (lt-one h) ∙ places-none (suc k) i)) tt
below-from (suc k) i (suc n) m h =
    go (odd m) (each-so (λ j. j < suc i + n) (λ j. j < i + suc n) (places_from k (suc i) (m / 2)) (λ j l. omega arith) (below-from k (suc i) n (m / 2) (omega (arith, pow-suc 2 n))))
  where
    go : (t : Bool) → Each (λ j. j < i + suc n) (places_from k (suc i) (m / 2)) → Each (λ j. j < i + suc n) (cons? t i (places_from k (suc i) (m / 2)))
    go true ih = (omega arith, ih)
    go false ih = ih

pub places-below : (n m : ℕ) → m < 2 ^ n → Each (λ j. j < n) (places m)
places-below n m h = each-so (λ j. j < 0 + n) (λ j. j < n) (places m) (λ j l. omega arith) (below-from 32 0 n m h)
