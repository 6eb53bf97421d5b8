-- The number of the answer is the smallest whose condition holds, 0 where none does. Assumes nothing.
use Prim.Native.Nat.{ℕ, suc, ◌<◌}
use mathlib.Core.Path.{◌≡◌, refl, ap}
use mathlib.Core.Bool.{Bool, true, false, cond, not, ◌&&◌, ◌||◌}
use mathlib.Core.List.{List, [], ◌∷◌}
use mathlib.Core.Logic.{◌⊎◌, inl, inr}
use native.Mathlib.Omega.{arith}
use borrow.Author.Tests.{ne_eqb}
use lib.Dec.{eqb}
use lib.Ieee.{Float}
use lib.ListN.{length}
use Rattle.machine.specs.Machine.{Shot}
use Rattle.lists.specs.Limits.{Handed, broken_by}
use Rattle.boards.specs.declared.compare.Compared.{Compared}
use Rattle.boards.specs.declared.compare.Compared.TheVariants.{Differs, TooMany, OutOfRange, NoRoom, DrawCounts}
use Rattle.boards.specs.Alike.{alike}
use Rattle.boards.specs.Compared.{number, first_off, draws_of, compared, SmallestOf}

-- an answer about draws is no refusal
answers : (same : Float → Float → Bool) (k : ℕ) (xs ys : List Shot) → number (first_off same k xs ys) ≡ 0
unfolding first_off
answers same k [] ys = refl
answers same k (x ∷ xs) [] = refl
answers same k (x ∷ xs) (y ∷ ys) = go (alike same x.gl y.gl) (answers same (suc k) xs ys)
  where
    go : (t : Bool) → number (first_off same (suc k) xs ys) ≡ 0 → number (cond t (first_off same (suc k) xs ys) (Differs k)) ≡ 0
    go true e = e
    go false e = refl

off : (k n : ℕ) (b : Bool) → k < n → eqb k n && b ≡ false
off k n b h = ap (λ (t : Bool). t && b) (ne_eqb k n (λ e. omega arith))

no : (t : Bool) → t && false ≡ false
no true = refl
no false = refl

none : (p q r s : Bool) → p ≡ false → q ≡ false → r ≡ false → s ≡ false → p || (q || (r || s)) ≡ false
none p q r s e f g h = rw (e, f, g, h)

abbrev at : Bool → Bool → Bool → Bool → ℕ → Bool
at m r o d n = (eqb n 2 && m) || ((eqb n 3 && r) || ((eqb n 7 && o) || (eqb n 9 && d)))

abbrev Least : Bool → Bool → Bool → Bool → ℕ → Type 0
Least m r o d n = ((at m r o d n ≡ true) × ((k : ℕ) → k < n → at m r o d k ≡ false)) ⊎ ((n ≡ 0) × ((k : ℕ) → at m r o d k ≡ false))

by_cases : (m r o e : Bool) (v : Compared) → number v ≡ 0 → Least m r o (not e) (number (cond m TooMany (cond r OutOfRange (cond o NoRoom (cond e v DrawCounts)))))
by_cases true r o e v z =
    inl (refl, λ k h. none (eqb k 2 && true) (eqb k 3 && r) (eqb k 7 && o) (eqb k 9 && not e) (off k 2 true h) (off k 3 r (omega arith)) (off k 7 o (omega arith)) (off k 9 (not e) (omega arith)))
by_cases false true o e v z =
    inl (refl, λ k h. none (eqb k 2 && false) (eqb k 3 && true) (eqb k 7 && o) (eqb k 9 && not e) (no (eqb k 2)) (off k 3 true h) (off k 7 o (omega arith)) (off k 9 (not e) (omega arith)))
by_cases false false true e v z =
    inl (refl, λ k h. none (eqb k 2 && false) (eqb k 3 && false) (eqb k 7 && true) (eqb k 9 && not e) (no (eqb k 2)) (no (eqb k 3)) (off k 7 true h) (off k 9 (not e) (omega arith)))
by_cases false false false false v z =
    inl (refl, λ k h. none (eqb k 2 && false) (eqb k 3 && false) (eqb k 7 && false) (eqb k 9 && true) (no (eqb k 2)) (no (eqb k 3)) (no (eqb k 7)) (off k 9 true h))
by_cases false false false true v z =
    inr (z, λ k. none (eqb k 2 && false) (eqb k 3 && false) (eqb k 7 && false) (eqb k 9 && false) (no (eqb k 2)) (no (eqb k 3)) (no (eqb k 7)) (no (eqb k 9)))

pub number-smallest : (same : Float → Float → Bool) (a b : Handed) → SmallestOf a b (number (compared same a b))
number-smallest same a b =
    by_cases ((broken_by a).many || (broken_by b).many) ((broken_by a).range || (broken_by b).range) ((broken_by a).room || (broken_by b).room)
    (eqb (length (draws_of a)) (length (draws_of b))) (first_off same 0 (draws_of a) (draws_of b)) (answers same 0 (draws_of a) (draws_of b))
