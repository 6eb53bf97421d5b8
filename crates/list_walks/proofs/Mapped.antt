-- Facts of `map_at`.
-- Assumes nothing.
use mathlib.Core.Path.{◌≡◌, refl, ◌∙◌, ap, sym}
use mathlib.Core.List.{List, [], ◌∷◌, ◌++◌, map}
use Prim.Native.Nat.{ℕ, zero, suc, ◌+◌, ◌<◌, ◌≤◌}
use native.Mathlib.Nat.{add-zero, add-suc, suc-add, zero-add, le_of_suc-le-suc}
use native.Mathlib.Numerals.{add-one}
use native.Mathlib.Omega.{arith}
use lib.ListN.{length, take, get_or, set}
use lib.Seq.{paste, paste-zero, paste-suc, length-paste, take-suc, length-take-le}
use Rattle.list_walks.specs.Map.{map_at}

module _ {X : Type 0} {Y : Type 0} (f : ℕ → X → Y) where
  pub map_at-length : (i : ℕ) (xs : List X) → length (map_at f i xs) ≡ length xs
  unfolding map_at
  map_at-length i [] = refl
  map_at-length i (x ∷ xs) = ap suc (map_at-length (suc i) xs)

  pub map_at-get_or : (i : ℕ) (xs : List X) (n : ℕ) (d : X) (e : Y) → n < length xs → get_or (map_at f i xs) n e ≡ f (i + n) (get_or xs n d)
  unfolding map_at
  map_at-get_or i [] n d e h = absurd (omega arith)
  map_at-get_or i (x ∷ xs) zero d e h = ap (λ (k : ℕ). f k x) (sym (add-zero i))
  map_at-get_or i (x ∷ xs) (suc n) d e h = map_at-get_or (suc i) xs n d e (le_of_suc-le-suc h) ∙ ap (λ (k : ℕ). f k (get_or xs n d)) (suc-add i n ∙ sym (add-suc i n))

  pub map_at-more : (i : ℕ) (xs : List X) (x : X) → map_at f i (xs ++ (x ∷ [])) ≡ map_at f i xs ++ (f (i + length xs) x ∷ [])
  unfolding map_at
  map_at-more i [] x = ap (λ (k : ℕ). f k x ∷ []) (sym (add-zero i))
  map_at-more i (y ∷ ys) x = ap (λ (m : List Y). f i y ∷ m) (map_at-more (suc i) ys x ∙ ap (λ (k : ℕ). map_at f (suc i) ys ++ (f k x ∷ [])) (suc-add i (length ys) ∙ sym (add-suc i (length ys))))

  -- the first i + 1
  pub mapped-next : (xs : List X) (i : ℕ) (d : X) → i < length xs → map_at f 0 (take (i + 1) xs) ≡ map_at f 0 (take i xs) ++ (f i (get_or xs i d) ∷ [])
  mapped-next xs i d h =
      ap (λ (m : ℕ). map_at f 0 (take m xs)) (add-one i) ∙ ap (map_at f 0) (take-suc xs i d h) ∙ map_at-more 0 (take i xs) (get_or xs i d)
      ∙ ap (λ (k : ℕ). map_at f 0 (take i xs) ++ (f k (get_or xs i d) ∷ [])) (zero-add (length (take i xs)) ∙ length-take-le i xs (omega arith))

-- a loop that copies into m₀ from the place `at` on: the first i of n are there
pub record Copied {X : Type 0} {Y : Type 0} (f : ℕ → X → Y) (xs : List X) (m₀ : List Y) (at n : ℕ) (m : List Y) (i : ℕ) : Type 0 where
  pub upto : i ≤ n
  pub is : m ≡ paste m₀ at (map_at f 0 xs) i

module _ {X : Type 0} {Y : Type 0} (f : ℕ → X → Y) (xs : List X) (m₀ : List Y) (at n : ℕ) where
  pub copied_none : Copied f xs m₀ at n m₀ 0
  copied_none = record { upto = omega arith; is = paste-zero m₀ at (map_at f 0 xs) }

  pub copied_more : (m : List Y) (i : ℕ) (d : X) (y : Y) → Copied f xs m₀ at n m i → i < n → n ≤ length xs → at + n ≤ length m₀ → y ≡ f i (get_or xs i d)
      → Copied f xs m₀ at n (set m (at + i) y) (i + 1)
  copied_more m i d y h less k fits e =
      let here : get_or (map_at f 0 xs) i y ≡ y = map_at-get_or f 0 xs i d y (omega arith) ∙ ap (λ (j : ℕ). f j (get_or xs i d)) (zero-add i) ∙ sym e in
      record {
        upto = omega arith;
        is =
            ap (λ (r : List Y). set r (at + i) y) h.is ∙ ap (set (paste m₀ at (map_at f 0 xs) i) (at + i)) (sym here)
            ∙ paste-suc m₀ at (map_at f 0 xs) i y (omega arith) (omega (arith, map_at-length f 0 xs)) ∙ ap (paste m₀ at (map_at f 0 xs)) (sym (add-one i));
      }

  pub copied_length : (m : List Y) (i : ℕ) → Copied f xs m₀ at n m i → n ≤ length xs → at + n ≤ length m₀ → length m ≡ length m₀
  copied_length m i h k fits = ap length h.is ∙ length-paste m₀ at (map_at f 0 xs) i (omega (arith, h.upto)) (omega (arith, h.upto, map_at-length f 0 xs))

  pub copied_end : (m : List Y) (i : ℕ) → Copied f xs m₀ at n m i → n ≤ i → m ≡ paste m₀ at (map_at f 0 xs) n
  copied_end m i h past = let e : i ≡ n = omega (arith, h.upto) in h.is ∙ ap (paste m₀ at (map_at f 0 xs)) e

-- where the place does not matter, it is `map`
pub map_at-map : {X : Type 0} {Y : Type 0} (f : X → Y) (i : ℕ) (xs : List X) → map_at (λ _ x. f x) i xs ≡ map f xs
unfolding map_at
map_at-map f i [] = refl
map_at-map f i (x ∷ xs) = ap (λ ys. f x ∷ ys) (map_at-map f (suc i) xs)
