-- The uses of texture barriers, gone through from the last to the first. Assumes nothing.
use Prim.Native.Nat.{ℕ, suc, ◌+◌, ◌*◌, ◌-◌, ◌/◌, ◌≤◌, ◌<◌, min}
use mathlib.Core.Bool.{Bool, true, false, cond, not, ◌&&◌, ◌||◌}
use mathlib.Core.List.{List, [], ◌∷◌}
use mathlib.Core.Path.{◌≡◌, refl, ap, ◌∙◌}
use native.Mathlib.Omega.{arith}
use lib.Bits.{bit_or}
use lib.Dec.{ltb}
use lib.ListN.{length, get_or, take, drop, length-take, length-drop}
use lib.Seq.{drop-cons, get_or-take}
use borrow.Author.Tests.{ltb-true, ltb-false, lt-ltb, le-ltb}
use Rattle.mask.specs.Mask.{test_bit}
use Rattle.pipeline.specs.Fixed.{only}
use Rattle.records.specs.declared.command.Command.{Command}
use Rattle.calls.specs.Transfers.{texture_uses}

-- a use after one that writes
abbrev use_of : ℕ → ℕ → ℕ
use_of a b = cond (test_bit a 9 || test_bit a 10) b 0

short : (l : List ℕ) → length l < 2 → texture_uses l ≡ 0
unfolding texture_uses
short [] h = refl
short (a ∷ []) h = refl
short (a ∷ b ∷ l) h = absurd (omega arith)

next : (a b : ℕ) (l : List ℕ) → texture_uses (a ∷ b ∷ l) ≡ bit_or (use_of a b) (texture_uses l)
unfolding texture_uses
next a b l = refl

module _ (run : List ℕ) (count : ℕ) where
  abbrev counted : List ℕ
  counted = take (2 * count) run

  pub none-behind : (m : ℕ) → min (2 * count) (length run) < 2 * m + 2 → texture_uses (drop (2 * m) counted) ≡ 0
  none-behind m h = short (drop (2 * m) counted) (omega (arith, length-drop (2 * m) counted, length-take (2 * count) run))

  pub one-behind : (left : ℕ) → 0 < left → 2 * left ≤ min (2 * count) (length run)
      → texture_uses (drop (2 * (left - 1)) counted) ≡ bit_or (use_of (get_or run (2 * (left - 1)) 0) (get_or run (2 * (left - 1) + 1) 0)) (texture_uses (drop (2 * left) counted))
  one-behind left h k =
      let long = length-take (2 * count) run in
      let one : suc (2 * (left - 1)) ≡ 2 * (left - 1) + 1 = omega arith in
      let two : suc (2 * (left - 1) + 1) ≡ 2 * left = omega arith in
      let rest : drop (2 * (left - 1) + 1) counted ≡ get_or run (2 * (left - 1) + 1) 0 ∷ drop (2 * left) counted =
      drop-cons counted (2 * (left - 1) + 1) 0 (omega (arith, long)) ∙ ap (λ (x : ℕ). x ∷ drop (suc (2 * (left - 1) + 1)) counted) (get_or-take (2 * count) run (2 * (left - 1) + 1) 0 (omega arith))
      ∙ ap (λ (n : ℕ). get_or run (2 * (left - 1) + 1) 0 ∷ drop n counted) two in
      let whole : drop (2 * (left - 1)) counted ≡ get_or run (2 * (left - 1)) 0 ∷ drop (2 * (left - 1) + 1) counted =
      drop-cons counted (2 * (left - 1)) 0 (omega (arith, long)) ∙ ap (λ (x : ℕ). x ∷ drop (suc (2 * (left - 1))) counted) (get_or-take (2 * count) run (2 * (left - 1)) 0 (omega arith))
      ∙ ap (λ (n : ℕ). get_or run (2 * (left - 1)) 0 ∷ drop n counted) one in
      ap texture_uses (whole ∙ ap (λ (l : List ℕ). get_or run (2 * (left - 1)) 0 ∷ l) rest) ∙ next (get_or run (2 * (left - 1)) 0) (get_or run (2 * (left - 1) + 1) 0) (drop (2 * left) counted)

-- more barriers counted than the run has, said without the product
pub past-run : (n count : ℕ) → ltb (n / 2) count ≡ ltb n (2 * count)
past-run n count = go (ltb n (2 * count)) refl
  where
    go : (t : Bool) → ltb n (2 * count) ≡ t → ltb (n / 2) count ≡ t
    go true e = let l : n < 2 * count = ltb-true n (2 * count) e in lt-ltb (n / 2) count (omega arith)
    go false e = let l : 2 * count ≤ n = ltb-false n (2 * count) e in le-ltb (n / 2) count (omega arith)

-- a board records one command or none
pub board-one : (t u : Bool) (c : Command) → only (t && not u) c ≡ cond t (cond u [] (c ∷ [])) []
board-one true true c = refl
board-one true false c = refl
board-one false u c = refl
