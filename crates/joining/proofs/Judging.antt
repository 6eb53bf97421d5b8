-- The answer and the plan, as the code comes to them. Assumes nothing.
use mathlib.Core.Path.{◌≡◌, refl, sym, ap, ◌∙◌}
use mathlib.Core.Bool.{Bool, true, false, cond, ◌||◌}
use Prim.Native.Nat.{ℕ}
use lib.ListN.{length}
use Rattle.machine.proofs.Lists.{false-true, true-false}
use Rattle.lists.specs.declared.limits.Surveyed.{Surveyed}
use Rattle.lists.specs.declared.limits.Used.{Used}
use Rattle.joining.specs.declared.plan.Asked.{Asked}
use Rattle.joining.specs.declared.plan.Looked.{Looked}
use Rattle.joining.specs.declared.plan.Joining.{Joining}
use Rattle.joining.specs.declared.plan.Joining.TheVariants.{Done, TooMany, OutOfRange, TooLong, NoRoom}
use Rattle.joining.specs.Joins.{too_long, verdict, is_done}
use Rattle.joining.specs.Ending.{resets_by}
use Rattle.joining.specs.Plan.{total, small_by, judged_by, refused_plan, done_plan, plan_by, planned_of}

many : (m r l s : Bool) → m ≡ true → TooMany ≡ verdict m r l s
many true r l s e = refl
many false r l s e = false-true e

range : (m r l s : Bool) → m ≡ false → r ≡ true → OutOfRange ≡ verdict m r l s
range true r l s e f = true-false e
range false true l s e f = refl
range false false l s e f = false-true f

long : (m r l s : Bool) → m ≡ false → r ≡ false → l ≡ true → TooLong ≡ verdict m r l s
long true r l s e f h = true-false e
long false true l s e f h = true-false f
long false false true s e f h = refl
long false false false s e f h = false-true h

small : (m r l s t : Bool) → m ≡ false → r ≡ false → l ≡ false → s ≡ t → cond t NoRoom Done ≡ verdict m r l s
small true r l s t e f h k = true-false e
small false true l s t e f h k = true-false f
small false false true s t e f h k = true-false h
small false false false s t e f h k = sym (ap (λ (z : Bool). cond z NoRoom Done) k)

module _ (x : Asked) (a : Looked) (s : Surveyed) (t : Used) where
  abbrev m : Bool
  m = a.surveyed.breaks.many || s.breaks.many

  abbrev r : Bool
  r = a.surveyed.breaks.range || s.breaks.range

  pub is-many : m ≡ true → TooMany ≡ judged_by x a s t
  is-many e = many m r (too_long t) (small_by x a s t) e

  pub is-range : m ≡ false → r ≡ true → OutOfRange ≡ judged_by x a s t
  is-range e f = range m r (too_long t) (small_by x a s t) e f

  pub is-long : m ≡ false → r ≡ false → too_long t ≡ true → TooLong ≡ judged_by x a s t
  is-long e f h = long m r (too_long t) (small_by x a s t) e f h

  pub is-small : m ≡ false → r ≡ false → too_long t ≡ false → small_by x a s t ≡ true → NoRoom ≡ judged_by x a s t
  is-small e f h k = small m r (too_long t) (small_by x a s t) true e f h k

  pub is-well : m ≡ false → r ≡ false → too_long t ≡ false → small_by x a s t ≡ false → Done ≡ judged_by x a s t
  is-well e f h k = small m r (too_long t) (small_by x a s t) false e f h k

-- ---- where it is `Done`, no limit is broken and the runs suffice
pub all-false : (m r l s : Bool) → verdict m r l s ≡ Done → (m ≡ false) × (r ≡ false) × (l ≡ false) × (s ≡ false)
all-false true r l s e = false-true (ap is_done e)
all-false false true l s e = false-true (ap is_done e)
all-false false false true s e = false-true (ap is_done e)
all-false false false false true e = false-true (ap is_done e)
all-false false false false false e = (refl, refl, refl, refl)

is-done : (o : Joining) → is_done o ≡ true → o ≡ Done
is-done Done e = refl
is-done TooMany e = false-true e
is-done OutOfRange e = false-true e
is-done TooLong e = false-true e
is-done NoRoom e = false-true e

pub well : (x : Asked) (a : Looked) (s : Surveyed) (t : Used) → is_done (judged_by x a s t) ≡ true → (too_long t ≡ false) × (small_by x a s t ≡ false)
well x a s t e =
    let f = all-false (a.surveyed.breaks.many || s.breaks.many) (a.surveyed.breaks.range || s.breaks.range) (too_long t) (small_by x a s t) (is-done (judged_by x a s t) e) in
    (f.2, f.3)

-- ---- the plan
by-done : (o : Joining) (x : Asked) (a : Looked) (n : ℕ) → is_done o ≡ true → done_plan x a n ≡ plan_by o x a n
by-done Done x a n e = refl
by-done TooMany x a n e = false-true e
by-done OutOfRange x a n e = false-true e
by-done TooLong x a n e = false-true e
by-done NoRoom x a n e = false-true e

by-refused : (o : Joining) (x : Asked) (a : Looked) (n : ℕ) → is_done o ≡ false → refused_plan o x a ≡ plan_by o x a n
by-refused Done x a n e = true-false e
by-refused TooMany x a n e = refl
by-refused OutOfRange x a n e = refl
by-refused TooLong x a n e = refl
by-refused NoRoom x a n e = refl

pub plan-done : (x : Asked) (a : Looked) (s : Surveyed) (n : ℕ) → n ≡ length (resets_by a.ending) → is_done (judged_by x a s (total x n)) ≡ true → done_plan x a n ≡ planned_of x a s
plan-done x a s n e d = by-done (judged_by x a s (total x n)) x a n d ∙ ap (λ (k : ℕ). plan_by (judged_by x a s (total x k)) x a k) e

pub plan-refused : (x : Asked) (a : Looked) (s : Surveyed) (n : ℕ) (o : Joining) → n ≡ length (resets_by a.ending) → o ≡ judged_by x a s (total x n) → is_done o ≡ false → refused_plan o x a ≡ planned_of x a s
plan-refused x a s n o e f d = by-refused o x a n d ∙ ap (λ (z : Joining). plan_by z x a n) f ∙ ap (λ (k : ℕ). plan_by (judged_by x a s (total x k)) x a k) e
