-- Laws of the table of names. Assumes nothing.
use Prim.Native.Nat.{ℕ, zero, suc, ◌+◌, ◌-◌, ◌≤◌, ◌<◌}
use native.Mathlib.Nat.{le_of_suc-le-suc, not-suc-le-zero}
use native.Mathlib.Omega.{arith}
use mathlib.Core.Path.{◌≡◌, sym, ap, ◌∙◌}
use mathlib.Core.Bool.{Bool, true, ◌&&◌}
use mathlib.Core.List.{List, [], ◌∷◌}
use lib.Dec.{T, leb, leb→le}
use lib.ListN.{length, take, drop, get_or}
use lib.Seq.{slice, length-slice}
use Rattle.std.proofs.lemmas.List.{drop-take}
use mir.Facts.{and_yes}
use Rattle.text.specs.Shown.{names, ends, name_at}

-- from a to b, the beginning of a name and that of the next
abbrev pub near : ℕ → ℕ → Bool
near a b = leb a b && (leb b (a + 24) && leb b 994)

abbrev pub nears : List ℕ → Bool
nears [] = true
nears (a ∷ []) = true
nears (a ∷ b ∷ l) = near a b && nears (b ∷ l)

pub record Near (a b : ℕ) : Type 0 where
  pub up : a ≤ b
  pub close : b ≤ a + 24
  pub inside : b ≤ 994

near-is : (a b : ℕ) → T (near a b) → Near a b
near-is a b t =
    let x = and_yes (leb a b) (leb b (a + 24) && leb b 994) t in
    let y = and_yes (leb b (a + 24)) (leb b 994) x.1 in
    record { up = leb→le a b x.0; close = leb→le b (a + 24) y.0; inside = leb→le b 994 y.1 }

nears-at : (l : List ℕ) → T (nears l) → (k : ℕ) → suc k < length l → Near (get_or l k 0) (get_or l (suc k) 0)
nears-at [] t k h = absurd (not-suc-le-zero h)
nears-at (a ∷ []) t k h = absurd (not-suc-le-zero (le_of_suc-le-suc h))
nears-at (a ∷ b ∷ l) t zero h = near-is a b (and_yes (near a b) (nears (b ∷ l)) t).0
nears-at (a ∷ b ∷ l) t (suc k) h = nears-at (b ∷ l) (and_yes (near a b) (nears (b ∷ l)) t).1 k (le_of_suc-le-suc h)

-- a name, with the blank before it, has at most 24 bytes
pub name-near : (k : ℕ) → k < 74 → Near (get_or ends k 0) (get_or ends (suc k) 0)
name-near k h = nears-at ends tt k (omega arith)

pub name-short : (k : ℕ) → k < 74 → length (name_at k) ≤ 24
name-short k h =
    let n = name-near k h in
    omega (arith, n.up, n.close, n.inside, length-slice (get_or ends k 0) (get_or ends (suc k) 0) names n.inside)

-- a part by its length
pub part-is : (l : List ℕ) (a b : ℕ) → a ≤ b → take (b - a) (drop a l) ≡ slice a b l
part-is l a b h =
    let e : b ≡ a + (b - a) = omega arith in
    sym (ap (λ n. drop a (take n l)) e ∙ drop-take a (b - a) l)
