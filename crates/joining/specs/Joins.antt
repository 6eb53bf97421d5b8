-- The contract of `join` (src/join.rt): the answer, and each lent run after it, told from what is handed in. Definitions only.
use Rattle.std.specs.Prelude.{ℕ, ◌+◌, ◌≡◌, Bool, true, false, cond, ◌||◌, List, map, ltb, length, take}
use Rattle.list_walks.specs.Sift.{over}
use Rattle.records.specs.declared.command.Command.{Command}
use Rattle.records.specs.declared.command.Record.{Record}
use Rattle.lists.specs.declared.limits.Breaks.{Breaks}
use Rattle.lists.specs.declared.limits.Used.{Used}
use Rattle.lists.specs.Class.{commands_of}
use Rattle.lists.specs.Limits.{handed, broken_by}
use Rattle.joining.specs.declared.plan.Joining.{Joining}
use Rattle.joining.specs.declared.plan.Joining.TheVariants.{Done, TooMany, OutOfRange, TooLong, NoRoom}
use Rattle.joining.specs.Joined.{Listed, end_of, put_in, joined, Floats}

-- ---- a list in its lent runs, and how much of them is used
pub record Lent : Type 0 where
  pub list : List Record
  pub bytes : List ℕ
  pub queries : List ℕ
  pub used : Used

abbrev pub lent : List Record → List ℕ → List ℕ → Used → Lent
lent l bs qs u = record { list = l; bytes = bs; queries = qs; used = u }

-- the list that it holds
abbrev pub list_of : Lent → Listed
list_of a = record { commands = commands_of (take a.used.commands a.list); bytes = take a.used.bytes a.bytes; queries = take a.used.queries a.queries }

abbrev pub record_of : Command → Record
record_of c = record { command = c }

abbrev pub size_of : Listed → Used
size_of j = record { commands = length j.commands; bytes = length j.bytes; queries = length j.queries }

-- a list written into the runs from their beginning: behind it they are as they were
abbrev pub laid : Listed → Lent → Lent
laid j a = record { list = over (map record_of j.commands) a.list; bytes = over j.bytes a.bytes; queries = over j.queries a.queries; used = size_of j }

-- ---- the answers: document 02's numbers
abbrev pub number : Joining → ℕ
number Done = 0
number TooMany = 2
number OutOfRange = 3
number TooLong = 16
number NoRoom = 7

abbrev pub is_done : Joining → Bool
is_done Done = true
is_done TooMany = false
is_done OutOfRange = false
is_done TooLong = false
is_done NoRoom = false

-- document 02 §3: what a list that is handed in breaks
abbrev pub broken_in : Lent → Breaks
broken_in a = broken_by (handed a.list a.used)

-- how much the joined list uses, by the counts and the n commands that are put in
abbrev pub total_by : Used → ℕ → Used → Used
total_by u n v = record { commands = u.commands + (n + v.commands); bytes = u.bytes + v.bytes; queries = u.queries + v.queries }

abbrev pub total_of : Lent → Lent → Used
total_of a b = total_by a.used (length (put_in (list_of a).commands)) b.used

-- 16: "commands, bytes or queries beyond the limits of one list"
abbrev pub too_long : Used → Bool
too_long t = ltb 4096 t.commands || (ltb 65536 t.bytes || ltb 1024 t.queries)

-- 7: "lent runs too small"
abbrev pub short_of : Lent → Used → Bool
short_of a t = ltb (length a.bytes) t.bytes || ltb (length a.queries) t.queries

-- the first's for the joined list, the second's for its own; and "a range beyond its run by 7" of either list (document 02 §3), a count above its run too
abbrev pub too_small : Lent → Lent → Used → Bool
too_small a b t = ((broken_in a).room || (broken_in b).room) || ((ltb (length a.list) t.commands || short_of a t) || short_of b b.used)

-- the smallest number whose condition holds, but that 16 "comes before 7"
abbrev pub verdict : Bool → Bool → Bool → Bool → Joining
verdict many range long small = cond many TooMany (cond range OutOfRange (cond long TooLong (cond small NoRoom Done)))

abbrev pub answer_of : Lent → Lent → Joining
answer_of a b = verdict ((broken_in a).many || (broken_in b).many) ((broken_in a).range || (broken_in b).range) (too_long (total_of a b)) (too_small a b (total_of a b))

-- ---- the whole: a and b are handed in, a is left as a' with the answer o. The second's runs are only read
pub record Joins (a b a' : Lent) (o : Joining) : Type 0 where
  pub answer : o ≡ answer_of a b
  -- "both before anything is written"
  pub after : a' ≡ cond (is_done (answer_of a b)) (laid (joined (list_of a) (list_of b)) a) a
  -- each record in memory is of its type, and so the first's blend constants are f32 values
  pub floats : Floats (end_of (list_of a).commands).screen.blend
