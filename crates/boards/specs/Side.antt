-- Two lists played side by side: the turns of src/compare.rt, for any comparison of floats. Definitions only.
use Rattle.std.specs.Prelude.{ℕ, ◌+◌, min, Bool, cond, not, ◌&&◌, eqb, ltb, Float, Option, None, Some, is_some}
use Rattle.records.specs.declared.command.Command.TheVariants.{PopDebugGroup}
use Rattle.records.specs.declared.command.Record.{Record}
use Rattle.lists.specs.declared.limits.Surveyed.{Surveyed}
use Rattle.lists.specs.Class.{class_of, draws}
use Rattle.lists.specs.Limits.{either_breaks}
use Rattle.boards.specs.declared.compare.Both.{Both}
use Rattle.boards.specs.declared.compare.Compared.{Compared}
use Rattle.boards.specs.declared.compare.Compared.TheVariants.{Equal, Differs, TooMany, OutOfRange, NoRoom, DrawCounts}
use Rattle.boards.specs.declared.compare.Side.{Side}
use Rattle.boards.specs.Alike.{alike}
use Rattle.boards.specs.Settings.{fresh_settings, placed, gl_of}

-- past the end of a list
abbrev pub no_record : Record
no_record = record { command = PopDebugGroup }

-- ---- before the first turn
abbrev pub first_answer : Surveyed → Surveyed → Option Compared
first_answer p q =
    let b = either_breaks p.breaks q.breaks in
    cond b.many (Some TooMany) (cond b.range (Some OutOfRange) (cond b.room (Some NoRoom) (cond (eqb p.draws q.draws) None (Some DrawCounts))))

abbrev pub turns_of : Surveyed → Surveyed → ℕ
turns_of p q = min p.used.commands 4096 + min q.used.commands 4096 + 1

abbrev pub first_side : Surveyed → Side
first_side p = record { count = p.used.commands; at = 0; settings = fresh_settings }

abbrev pub start_of : Surveyed → Surveyed → Both
start_of p q = record { a = first_side p; b = first_side q; draws = 0; answer = first_answer p q }

-- ---- a turn
abbrev pub is_draw : Record → Bool
is_draw x = draws (class_of x.command)

abbrev pub has_more : Side → Bool
has_more s = ltb s.at s.count

abbrev pub advanced : Side → Record → Side
advanced s x = cond (has_more s) (record { count = s.count; at = s.at + 1; settings = placed s.settings x.command }) s

abbrev pub one_more : ℕ → ℕ
one_more n = cond (ltb n 4096) (n + 1) n

abbrev pub with_a : Side → Both → Both
with_a s m = record { a = s; b = m.b; draws = m.draws; answer = m.answer }

abbrev pub with_b : Side → Both → Both
with_b s m = record { a = m.a; b = s; draws = m.draws; answer = m.answer }

abbrev pub told : Compared → Both → Both
told r m = record { a = m.a; b = m.b; draws = m.draws; answer = Some r }

-- at two draws they are compared
abbrev pub at_draws : (Float → Float → Bool) → Both → Record → Record → Both
at_draws same m x y =
    cond (alike same (gl_of m.a.settings) (gl_of m.b.settings))
    (record { a = advanced m.a x; b = advanced m.b y; draws = one_more m.draws; answer = m.answer })
    (told (Differs m.draws) m)

-- a side that is not at a draw goes on; at an end every draw was alike
abbrev pub moved : (Float → Float → Bool) → Both → Record → Record → Both
moved same m x y =
    cond (has_more m.a && not (is_draw x)) (with_a (advanced m.a x) m)
    (cond (has_more m.b && not (is_draw y)) (with_b (advanced m.b y) m)
    (cond (has_more m.a && has_more m.b) (at_draws same m x y) (told Equal m)))

abbrev pub turn_of : (Float → Float → Bool) → Both → Record → Record → Both
turn_of same m x y = cond (is_some m.answer) m (moved same m x y)
