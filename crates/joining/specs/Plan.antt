-- In which steps `join` (src/join.rt) comes to what its contract says (Joins.antt): what it looks at, its plan, and what it writes. Definitions only.
use Rattle.std.specs.Prelude.{ℕ, ◌+◌, ◌^◌, min, ◌≤◌, ◌<◌, ◌≡◌, Bool, cond, ◌&&◌, ◌||◌, List, ltb, leb, length, get_or, take}
use Rattle.std.proofs.Math.Seq.{paste}
use Rattle.walks.specs.Fill.{filled}
use Rattle.list_walks.specs.Map.{map_at}
use Rattle.list_walks.specs.Fold.{fold_at}
use Rattle.records.specs.declared.command.Command.{Command}
use Rattle.records.specs.declared.command.Command.TheVariants.{PopDebugGroup}
use Rattle.records.specs.declared.command.Record.{Record}
use Rattle.lists.specs.declared.limits.Surveyed.{Surveyed}
use Rattle.lists.specs.declared.limits.Used.{Used}
use Rattle.lists.specs.Class.{commands_of}
use Rattle.lists.specs.Survey.{first_survey, survey_record, survey_of}
use Rattle.joining.specs.declared.plan.Asked.{Asked}
use Rattle.joining.specs.declared.plan.Looked.{Looked}
use Rattle.joining.specs.declared.plan.Joining.{Joining}
use Rattle.joining.specs.declared.plan.Joining.TheVariants.{Done, TooMany, OutOfRange, TooLong, NoRoom}
use Rattle.joining.specs.declared.plan.Joined as out
use Rattle.joining.specs.declared.plan.JoinPlan.{JoinPlan}
use Rattle.joining.specs.declared.plan.Resets.{Resets}
use Rattle.joining.specs.Joined.{moved_by, end_of, Floats}
use Rattle.joining.specs.Joins.{record_of, total_by, too_long, verdict}
use Rattle.joining.specs.Ending.{fresh_ending, ending_after, resets_by}

-- ---- the first list, record by record: what it breaks, and the five
abbrev pub look_record : Looked → ℕ → Record → Looked
look_record l i x = record { surveyed = survey_record l.surveyed i x; ending = ending_after l.ending x.command; room = l.room }

abbrev pub first_look : Asked → ℕ → Looked
first_look x room = record { surveyed = first_survey x.used room; ending = fresh_ending; room = room }

abbrev pub to_first : Asked → ℕ → ℕ
to_first x room = min x.used.commands room

abbrev pub looked_of : List Record → Asked → Looked
looked_of run x = fold_at look_record (first_look x (length run)) 0 (take (to_first x (length run)) run)

-- ---- the answer
abbrev pub asked_of : ℕ → ℕ → ℕ → ℕ → Used → Used → Asked
asked_of b q ob oq u v = record { bytes = b; queries = q; other_bytes = ob; other_queries = oq; used = u; other = v }

-- how much is used of the joined list, with n commands put in
abbrev pub total : Asked → ℕ → Used
total x n = total_by x.used n x.other

-- 7, as the code comes to it: `too_small` (Joins.antt)
abbrev pub small_by : Asked → Looked → Surveyed → Used → Bool
small_by x a s t =
    (a.surveyed.breaks.room || s.breaks.room)
    || ((ltb a.room t.commands || (ltb x.bytes t.bytes || ltb x.queries t.queries))
    || (ltb x.other_bytes x.other.bytes || ltb x.other_queries x.other.queries))

abbrev pub judged_by : Asked → Looked → Surveyed → Used → Joining
judged_by x a s t = verdict (a.surveyed.breaks.many || s.breaks.many) (a.surveyed.breaks.range || s.breaks.range) (too_long t) (small_by x a s t)

-- ---- the plan
abbrev pub none : Used
none = record { commands = 0; bytes = 0; queries = 0 }

abbrev pub refused_plan : Joining → Asked → Looked → JoinPlan
refused_plan o x a = record { outcome = o; used = x.used; from = none; copied = none; batch = record { at = 0; n = 0; ending = a.ending } }

abbrev pub done_plan : Asked → Looked → ℕ → JoinPlan
done_plan x a n =
    record {
      outcome = Done;
      used = total x n;
      from = record { commands = x.used.commands + n; bytes = x.used.bytes; queries = x.used.queries };
      copied = x.other;
      batch = record { at = x.used.commands; n = n; ending = a.ending };
    }

abbrev pub plan_by : Joining → Asked → Looked → ℕ → JoinPlan
plan_by Done x a n = done_plan x a n
plan_by TooMany x a n = refused_plan TooMany x a
plan_by OutOfRange x a n = refused_plan OutOfRange x a
plan_by TooLong x a n = refused_plan TooLong x a
plan_by NoRoom x a n = refused_plan NoRoom x a

abbrev pub planned_of : Asked → Looked → Surveyed → JoinPlan
planned_of x a s = plan_by (judged_by x a s (total x (length (resets_by a.ending)))) x a (length (resets_by a.ending))

-- ---- the commands by place; past them none is asked for
abbrev pub reset_at : Resets → ℕ → Command
reset_at b i = get_or (resets_by b.ending) i PopDebugGroup

abbrev pub Allowed : Resets → ℕ → Type 0
Allowed b i = i < length (resets_by b.ending)

abbrev pub resets_in : JoinPlan → List Record → List Record
resets_in p l = filled (λ i. record_of (reset_at p.batch i)) l p.batch.at p.batch.n

-- the second's commands, moved; a sum that leaves its field is 0, which no accepted list has
abbrev pub shifted_by : ℕ → ℕ → ℕ
shifted_by by n = cond (leb by 65536 && ltb (n + by) (2 ^ 32)) (n + by) 0

abbrev pub moved_in : ℕ → ℕ → Command → Command
moved_in m k = moved_by (shifted_by m) (shifted_by k)

abbrev pub moved_record : JoinPlan → ℕ → Record → Record
moved_record p i x = record_of (moved_in p.from.bytes p.from.queries x.command)

-- ---- the runs
abbrev pub list_by : JoinPlan → List Record → List Record → List Record
list_by p l m = paste (resets_in p l) p.from.commands (map_at (moved_record p) 0 m) p.copied.commands

abbrev pub ListJoined : List Record → List Record → Asked → List Record → JoinPlan → Type 0
ListJoined l m x l' p = (p ≡ planned_of x (looked_of l x) (survey_of m x.other)) × (l' ≡ list_by p l m) × Floats (end_of (commands_of (take x.used.commands l))).screen.blend

abbrev pub numbers_by : List ℕ → ℕ → List ℕ → ℕ → List ℕ
numbers_by l at m n = filled (λ i. get_or m i 0) l at n

abbrev pub RunsFit : List ℕ → List ℕ → List ℕ → List ℕ → JoinPlan → Type 0
RunsFit bs qs cs rs p =
    ((p.from.bytes + p.copied.bytes ≤ length bs) × (p.copied.bytes ≤ length cs)) × ((p.from.queries + p.copied.queries ≤ length qs) × (p.copied.queries ≤ length rs))

abbrev pub RunsJoined : List ℕ → List ℕ → List ℕ → List ℕ → JoinPlan → List ℕ → List ℕ → out.Joined → Type 0
RunsJoined bs qs cs rs p bs' qs' r =
    ((bs' ≡ numbers_by bs p.from.bytes cs p.copied.bytes) × (qs' ≡ numbers_by qs p.from.queries rs p.copied.queries)) × (r ≡ record { outcome = p.outcome; used = p.used })
