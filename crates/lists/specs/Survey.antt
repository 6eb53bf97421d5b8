-- What `survey` (src/limits.rt) knows of a list, and how it comes to know it, record by record. Definitions only.
use Rattle.std.specs.Prelude.{ℕ, min, List}
use Rattle.records.specs.declared.command.Record.{Record}
use Rattle.lists.specs.declared.limits.Surveyed.{Surveyed}
use Rattle.lists.specs.declared.limits.Used.{Used}
use Rattle.lists.specs.Class.{draw_count, counted}
use Rattle.lists.specs.Limits.{beyond_run, breaks, either_breaks, over_counts, handed, broken_by}

-- how much is used, which limits are broken, and the draws
abbrev pub survey_of : List Record → Used → Surveyed
survey_of run u = record { used = u; breaks = broken_by (handed run u); draws = draw_count (handed run u).commands }

-- ---- a fold (list_walks/specs/Fold.antt) over the used records that are there
abbrev pub looked_at : Used → ℕ → ℕ
looked_at u room = min u.commands room

abbrev pub first_survey : Used → ℕ → Surveyed
first_survey u room = record { used = u; breaks = beyond_run (over_counts room u); draws = 0 }

abbrev pub survey_record : Surveyed → ℕ → Record → Surveyed
survey_record s i x = record { used = s.used; breaks = either_breaks s.breaks (breaks s.used x.command); draws = counted s.draws i x }
