-- A plan fits the runs that it was made for. Assumes nothing.
use mathlib.Core.Path.{◌≡◌, refl, sym, ap, ap₂, ◌∙◌, subst}
use mathlib.Core.Bool.{Bool, true, false, ◌||◌}
use mathlib.Core.List.{List, [], ◌∷◌}
use Prim.Native.Nat.{ℕ, suc, ◌+◌, ◌≤◌, ◌<◌}
use native.Mathlib.Omega.{arith}
use lib.Dec.{ltb}
use lib.ListN.{length, take}
use borrow.Author.Tests.{ltb-false}
use Rattle.machine.proofs.Lists.{or_left, or_right}
use Rattle.records.specs.declared.command.Record.{Record}
use Rattle.lists.specs.declared.limits.Surveyed.{Surveyed}
use Rattle.lists.specs.declared.limits.Used.{Used}
use Rattle.lists.specs.Survey.{survey_of}
use Rattle.joining.specs.declared.plan.Asked.{Asked}
use Rattle.joining.specs.declared.plan.Looked.{Looked}
use Rattle.joining.specs.declared.plan.JoinPlan.{JoinPlan}
use Rattle.records.specs.Check.{some?}
use Rattle.lists.specs.Limits.{breaks, over_counts, handed}
use Rattle.list_walks.specs.Fold.{fold_at}
use Rattle.joining.specs.declared.plan.Joining.{Joining}
use Rattle.joining.specs.declared.plan.Joining.TheVariants.{Done, TooMany, OutOfRange, TooLong, NoRoom}
use Rattle.joining.specs.Joins.{too_long, is_done}
use Rattle.joining.specs.Joined.{Floats}
use Rattle.joining.specs.Ending.{resets_by}
use Rattle.joining.specs.Plan.{look_record, first_look, to_first, looked_of, asked_of, total, small_by, judged_by, refused_plan, done_plan, plan_by, planned_of, Allowed, list_by, ListJoined, RunsFit}
use Rattle.joining.proofs.Judging.{well}
use Rattle.joining.proofs.Lent.{floats-lent}

-- what follows of a plan follows of each that it may be
pub by-plan : (Q : JoinPlan → Type 0) (x : Asked) (a : Looked) (s : Surveyed) → ((o : Joining) → Q (refused_plan o x a))
    → (too_long (total x (length (resets_by a.ending))) ≡ false → small_by x a s (total x (length (resets_by a.ending))) ≡ false → Q (done_plan x a (length (resets_by a.ending)))) → Q (planned_of x a s)
by-plan Q x a s turned carried = go (judged_by x a s (total x n)) (well x a s (total x n))
  where
    n : ℕ
    n = length (resets_by a.ending)

    go : (o : Joining) → (is_done o ≡ true → (too_long (total x n) ≡ false) × (small_by x a s (total x n) ≡ false)) → Q (plan_by o x a n)
    go Done h = carried (h refl).0 (h refl).1
    go TooMany h = turned TooMany
    go OutOfRange h = turned OutOfRange
    go TooLong h = turned TooLong
    go NoRoom h = turned NoRoom

-- the parts of 7
module _ (x : Asked) (a : Looked) (s : Surveyed) (t : Used) (e : small_by x a s t ≡ false) where
  abbrev p₁ : Bool
  p₁ = a.surveyed.breaks.room || s.breaks.room

  abbrev p₂ : Bool
  p₂ = ltb a.room t.commands || (ltb x.bytes t.bytes || ltb x.queries t.queries)

  abbrev p₃ : Bool
  p₃ = ltb x.other_bytes x.other.bytes || ltb x.other_queries x.other.queries

  rest : p₂ || p₃ ≡ false
  rest = or_right p₁ (p₂ || p₃) e

  pub in-other : s.breaks.room ≡ false
  in-other = or_right a.surveyed.breaks.room s.breaks.room (or_left p₁ (p₂ || p₃) e)

  pub in-room : t.commands ≤ a.room
  in-room = ltb-false a.room t.commands (or_left (ltb a.room t.commands) (ltb x.bytes t.bytes || ltb x.queries t.queries) (or_left p₂ p₃ rest))

  pub in_bytes : t.bytes ≤ x.bytes
  in_bytes = ltb-false x.bytes t.bytes (or_left (ltb x.bytes t.bytes) (ltb x.queries t.queries) (or_right (ltb a.room t.commands) (ltb x.bytes t.bytes || ltb x.queries t.queries) (or_left p₂ p₃ rest)))

  pub in_queries : t.queries ≤ x.queries
  in_queries = ltb-false x.queries t.queries (or_right (ltb x.bytes t.bytes) (ltb x.queries t.queries) (or_right (ltb a.room t.commands) (ltb x.bytes t.bytes || ltb x.queries t.queries) (or_left p₂ p₃ rest)))

  pub in-other-bytes : x.other.bytes ≤ x.other_bytes
  in-other-bytes = ltb-false x.other_bytes x.other.bytes (or_left (ltb x.other_bytes x.other.bytes) (ltb x.other_queries x.other.queries) (or_right p₂ p₃ rest))

  pub in-other-queries : x.other.queries ≤ x.other_queries
  in-other-queries = ltb-false x.other_queries x.other.queries (or_right (ltb x.other_bytes x.other.bytes) (ltb x.other_queries x.other.queries) (or_right p₂ p₃ rest))

-- the room of a look is the run's
room-fold : (i : ℕ) (l : Looked) (xs : List Record) → (fold_at look_record l i xs).room ≡ l.room
unfolding fold_at
room-fold i l [] = refl
room-fold i l (y ∷ xs) = room-fold (suc i) (look_record l i y) xs

pub room-is : (l : List Record) (x : Asked) (a : Looked) → a ≡ looked_of l x → a.room ≡ length l
room-is l x a e = ap (λ (z : Looked). z.room) e ∙ room-fold 0 (first_look x (length l)) (take (to_first x (length l)) l)

-- a list whose room is not broken has its commands
pub counts-in : (m : List Record) (u : Used) → (survey_of m u).breaks.room ≡ false → u.commands ≤ length m
counts-in m u e =
    ltb-false (length m) u.commands
    (or_right (ltb 1024 u.queries) (ltb (length m) u.commands) (or_right (ltb 65536 u.bytes) (ltb 1024 u.queries || ltb (length m) u.commands)
    (or_right (ltb 4096 u.commands) (ltb 65536 u.bytes || (ltb 1024 u.queries || ltb (length m) u.commands)) (or_left (over_counts (length m) u) (some? (λ c. (breaks u c).room) (handed m u).commands) e))))

pub plan-fits : (l m : List Record) (x : Asked) (a : Looked) (s : Surveyed) → a ≡ looked_of l x → s ≡ survey_of m x.other
    → ((planned_of x a s).batch.at + (planned_of x a s).batch.n ≤ length l) × ((i : ℕ) → i < (planned_of x a s).batch.n → Allowed (planned_of x a s).batch i)
plan-fits l m x a s e f =
    by-plan (λ p. (p.batch.at + p.batch.n ≤ length l) × ((i : ℕ) → i < p.batch.n → Allowed p.batch i)) x a s (λ o. (omega arith, λ i h. absurd (omega arith)))
    (λ h k. (let r = in-room x a s (total x (length (resets_by a.ending))) k in omega (arith, r, room-is l x a e), λ i h. h))

pub plan-copies : (l m : List Record) (x : Asked) (a : Looked) (s : Surveyed) → a ≡ looked_of l x → s ≡ survey_of m x.other
    → ((planned_of x a s).copied.commands ≤ length m) × ((planned_of x a s).from.commands + (planned_of x a s).copied.commands ≤ length l)
plan-copies l m x a s e f =
    by-plan (λ p. (p.copied.commands ≤ length m) × (p.from.commands + p.copied.commands ≤ length l)) x a s (λ o. (omega arith, omega arith)) (λ h k. (
      counts-in m x.other (ap (λ (z : Surveyed). z.breaks.room) (sym f) ∙ in-other x a s (total x (length (resets_by a.ending))) k),
      (let r = in-room x a s (total x (length (resets_by a.ending))) k in omega (arith, r, room-is l x a e)),
    ))

pub plan-does : (l m : List Record) (x : Asked) (a : Looked) (s : Surveyed) → Floats a.ending.blend → a ≡ looked_of l x → s ≡ survey_of m x.other → ListJoined l m x (list_by (planned_of x a s) l m) (planned_of x a s)
plan-does l m x a s fs e f = (ap₂ (planned_of x) e f, refl, floats-lent l x (subst (λ (z : Looked). Floats z.ending.blend) e fs))

pub runs_fit : (l : List Record) (bs qs : List ℕ) (m : List Record) (cs rs : List ℕ) (u v : Used) (l' : List Record) (p : JoinPlan)
    → ListJoined l m (asked_of (length bs) (length qs) (length cs) (length rs) u v) l' p → RunsFit bs qs cs rs p
runs_fit l bs qs m cs rs u v l' p h = subst (RunsFit bs qs cs rs) (sym h.0) (by-plan (RunsFit bs qs cs rs) x a s (λ o. ((omega arith, omega arith), (omega arith, omega arith))) (λ _ k.
    ((in_bytes x a s (total x n) k, in-other-bytes x a s (total x n) k), (in_queries x a s (total x n) k, in-other-queries x a s (total x n) k))))
  where
    x : Asked
    x = asked_of (length bs) (length qs) (length cs) (length rs) u v

    a : Looked
    a = looked_of l x

    s : Surveyed
    s = survey_of m v

    n : ℕ
    n = length (resets_by a.ending)
