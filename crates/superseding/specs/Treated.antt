-- The contract of `take_out_superseded` (src/treat.rt). Definitions only.
use Rattle.std.specs.Prelude.{ℕ, ◌≡◌, cond, List, [], ◌∷◌, ◌++◌, map, length, drop}
use Rattle.records.specs.declared.command.Command.{Command}
use Rattle.records.specs.declared.command.Command.TheVariants.{UnsetVertexAttribute}
use Rattle.records.specs.declared.command.Record.{Record}
use Rattle.lists.specs.declared.limits.Breaks.{Breaks}
use Rattle.lists.specs.declared.limits.Surveyed.{Surveyed}
use Rattle.lists.specs.declared.limits.Used.{Used}
use Rattle.lists.specs.Limits.{handed, broken_by, broken, refusal_of}
use Rattle.list_walks.specs.Sift.{over}
use Rattle.superseding.specs.declared.treat.Treated.{Treated}
use Rattle.superseding.specs.Superseded.{superseded, trimmed}

abbrev pub record_of : Command → Record
record_of c = record { command = c }

-- what stands for a setting that is taken out: a list within the limits has none
abbrev pub blank_command : Command
blank_command = UnsetVertexAttribute 16

abbrev pub blank_of : Record
blank_of = record_of blank_command

unfoldable pub blanked_list : List Command → List Command
blanked_list [] = []
blanked_list (c ∷ cs) = cond (superseded c cs) blank_command c ∷ blanked_list cs

-- how many records are treated, and the answer where `left` of them are left
abbrev pub upto_of : Surveyed → ℕ
upto_of s = cond (broken s.breaks) 0 s.used.commands

abbrev pub answer_by : Breaks → ℕ → ℕ → Treated
answer_by b used left = record { outcome = refusal_of b; commands = cond (broken b) used left }

abbrev pub answer_of : Surveyed → ℕ → Treated
answer_of s left = answer_by s.breaks s.used.commands left

-- the run afterwards: the commands that are left in front; behind them what stood there, with a blank for each setting that was taken out
abbrev pub left_run : List Record → ℕ → List Command → List Record
left_run run n cs = over (map record_of (trimmed cs)) (map record_of (blanked_list cs) ++ drop n run)

-- the answer, and the run after it
abbrev pub Treats : List Record → Used → List Record → Treated → Type 0
Treats run u run' r =
    (r ≡ answer_by (broken_by (handed run u)) u.commands (length (trimmed (handed run u).commands)))
    × (run' ≡ cond (broken (broken_by (handed run u))) run (left_run run u.commands (handed run u).commands))
