-- Sums of counts and of places, as the code tests them. Assumes nothing.
use mathlib.Core.Path.{◌≡◌, sym, ap, ap₂, ◌∙◌}
use mathlib.Core.Bool.{Bool, true, false, cond, ◌&&◌, ◌||◌}
use Prim.Native.Nat.{ℕ, ◌+◌, ◌^◌, ◌≤◌, ◌<◌}
use native.Mathlib.Omega.{arith}
use lib.Dec.{ltb, leb}
use borrow.Author.Tests.{lt-ltb, le-ltb, ltb-false, le-leb, lt-leb}
use Rattle.machine.proofs.Lists.{or_left, or_right, and-false}
use Rattle.joining.specs.declared.plan.Asked.{Asked}
use Rattle.joining.specs.Joins.{too_long}
use Rattle.joining.specs.Plan.{shifted_by, total}

-- ---- a number that is moved
pub shift-here : (by n : ℕ) → by ≤ 65536 → n + by < 2 ^ 32 → n + by ≡ shifted_by by n
shift-here by n h k = sym (ap₂ (λ (s t : Bool). cond (s && t) (n + by) 0) (le-leb by 65536 h) (lt-ltb (n + by) (2 ^ 32) k))

pub shift-far : (by n : ℕ) → 2 ^ 32 ≤ n + by → 0 ≡ shifted_by by n
shift-far by n h = sym (ap (λ (t : Bool). cond (leb by 65536 && t) (n + by) 0) (le-ltb (n + by) (2 ^ 32) h) ∙ ap (λ (t : Bool). cond t (n + by) 0) (and-false (leb by 65536)))

pub shift-wide : (by n : ℕ) → 65536 < by → 0 ≡ shifted_by by n
shift-wide by n h = sym (ap (λ (t : Bool). cond (t && ltb (n + by) (2 ^ 32)) (n + by) 0) (lt-leb by 65536 h))

-- ---- a sum beyond a limit
pub beyond-first : (l a n b : ℕ) → l < a → true ≡ ltb l (a + (n + b))
beyond-first l a n b h = sym (lt-ltb l (a + (n + b)) (omega arith))

pub beyond-second : (l a n b : ℕ) → l < b → true ≡ ltb l (a + (n + b))
beyond-second l a n b h = sym (lt-ltb l (a + (n + b)) (omega arith))

-- ---- counts that are not beyond the limits
pub short-commands : (x : Asked) (n : ℕ) → too_long (total x n) ≡ false → x.used.commands + (n + x.other.commands) ≤ 4096
short-commands x n e = ltb-false 4096 (x.used.commands + (n + x.other.commands)) (or_left (ltb 4096 (x.used.commands + (n + x.other.commands))) (ltb 65536 (x.used.bytes + x.other.bytes) || ltb 1024 (x.used.queries + x.other.queries)) e)

pub short-bytes : (x : Asked) (n : ℕ) → too_long (total x n) ≡ false → x.used.bytes + x.other.bytes ≤ 65536
short-bytes x n e =
    ltb-false 65536 (x.used.bytes + x.other.bytes)
    (or_left (ltb 65536 (x.used.bytes + x.other.bytes)) (ltb 1024 (x.used.queries + x.other.queries)) (or_right (ltb 4096 (x.used.commands + (n + x.other.commands))) (ltb 65536 (x.used.bytes + x.other.bytes) || ltb 1024 (x.used.queries + x.other.queries)) e))

pub short-queries : (x : Asked) (n : ℕ) → too_long (total x n) ≡ false → x.used.queries + x.other.queries ≤ 1024
short-queries x n e =
    ltb-false 1024 (x.used.queries + x.other.queries)
    (or_right (ltb 65536 (x.used.bytes + x.other.bytes)) (ltb 1024 (x.used.queries + x.other.queries)) (or_right (ltb 4096 (x.used.commands + (n + x.other.commands))) (ltb 65536 (x.used.bytes + x.other.bytes) || ltb 1024 (x.used.queries + x.other.queries)) e))
