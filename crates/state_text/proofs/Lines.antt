-- Laws of lines one after another, and of bytes laid into others. Assumes nothing.
use Prim.Native.Nat.{ℕ, zero, suc, ◌+◌, ◌≤◌}
use native.Mathlib.Decide.{ℕ_discrete}
use native.Mathlib.Omega.{arith}
use native.Mathlib.Nat.{le_refl}
use mathlib.Core.Path.{◌≡◌, refl, sym, ap, ◌∙◌}
use mathlib.Core.List.{List, [], ◌++◌, append_assoc}
use lib.ListN.{length, take, drop, length-append}
use lib.Seq.{paste-zero, length-paste, take-paste, drop-paste, drop-drop, take-length}
use Rattle.state_text.specs.State.{lines_to}
use Rattle.text.specs.Wrote.{laid}

-- ---- lines
pub next-lines : (k : ℕ) (f : ℕ → List ℕ) → lines_to k f ++ f k ≡ lines_to (suc k) f
unfolding lines_to
next-lines k f = refl

pub next-long : (k : ℕ) (f : ℕ → List ℕ) → length (lines_to (suc k) f) ≡ length (lines_to k f) + length (f k)
unfolding lines_to
next-long k f = length-append (lines_to k f) (f k)

pub lines-le : (f : ℕ → List ℕ) (j n : ℕ) → j ≤ n → length (lines_to j f) ≤ length (lines_to n f)
lines-le f j zero h = let e : j ≡ zero = omega arith in rw e (le_refl _)
lines-le f j (suc n) h = step (lines-le f j n) (ℕ_discrete j (suc n))
  where
    step : (j ≤ n → length (lines_to j f) ≤ length (lines_to n f)) → Dec (j ≡ suc n) → length (lines_to j f) ≤ length (lines_to (suc n) f)
    step before (yes e) = rw e (le_refl _)
    step before (no ne) = let l : j ≤ n = omega arith in omega (arith, before l, next-long n f)

-- ---- bytes laid into others
module _ (o : List ℕ) (at : ℕ) where
  pub laid-long : (t : List ℕ) → at + length t ≤ length o → length (laid o at t) ≡ length o
  laid-long t h = rw (take-length t) at (length-paste o at t (length t) h (le_refl _))

  laid-take : (t : List ℕ) → at + length t ≤ length o → take (at + length t) (laid o at t) ≡ take at o ++ t
  laid-take t h = rw (take-length t) at (take-paste o at t (length t) (omega arith) (le_refl _))

  laid-drop : (t : List ℕ) → at + length t ≤ length o → drop (at + length t) (laid o at t) ≡ drop (at + length t) o
  laid-drop t h = rw (take-length t) at (drop-paste o at t (length t) (omega arith) (le_refl _))

  -- one text after another
  pub laid-join : (t u : List ℕ) → at + length t ≤ length o → laid (laid o at t) (at + length t) u ≡ laid o at (t ++ u)
  laid-join t u h =
      let n = at + length t in
      let e : n + length u ≡ at + length (t ++ u) = omega (arith, length-append t u) in
      let d : drop (n + length u) (laid o at t) ≡ drop (at + length (t ++ u)) o =
      sym (drop-drop (length u) n (laid o at t))
      ∙ ap (drop (length u)) (laid-drop t h)
      ∙ drop-drop (length u) n o
      ∙ ap (λ k. drop k o) e in
      ap (λ x. x ++ u ++ drop (n + length u) (laid o at t)) (laid-take t h)
      ∙ ap (λ x. take at o ++ t ++ u ++ x) d
      ∙ ap (λ x. x ++ drop (at + length (t ++ u)) o) (append_assoc (take at o) t u)

-- no line yet
pub start : (at : ℕ) (f : ℕ → List ℕ) → at ≡ at + length (lines_to 0 f)
unfolding lines_to
start at f = omega arith

pub laid-start : (o : List ℕ) (at : ℕ) (f : ℕ → List ℕ) → o ≡ laid o at (lines_to 0 f)
unfolding lines_to
laid-start o at f = paste-zero o at []
