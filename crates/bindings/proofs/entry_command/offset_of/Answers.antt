-- `bindings::entry_command::offset_of` meets its contract. Assumes nothing.
use mathlib.Core.Path.{ap, ◌∙◌}
use lib.IntN.{ℤ, pos, ◌+ℤ◌}
use mir.Syntax.{w32, w64}
use mir.Val.{SFits}
use mir.ValLaws.{to_z-of_z}
use borrow.Author.Rules.{rules}
use Rattle.bindings.proofs.Whole.{fits-wide, back-wide}
use Rattle.bindings.proofs.entry_command.offset_of.Goals as goal

pub overflow_cast-result : goal.overflow_cast-result
overflow_cast-result c = fits-wide c.args.offset c.ranges.offset

pub returns-then-has_dynamic_offset : goal.returns-then-has_dynamic_offset
returns-then-has_dynamic_offset c =
    let a = c.args in
    let f : SFits w64 c.sum_of.result = search rules in
    to_z-of_z w64 c.sum_of.result f
    ∙ rw c.if-has_dynamic_offset.true
    (c.sum_of.ensures ∙ ap (λ (z : ℤ). z +ℤ pos a.next) (to_z-of_z w32 a.offset c.ranges.offset))

pub returns-else-has_dynamic_offset : goal.returns-else-has_dynamic_offset
returns-else-has_dynamic_offset c = rw c.if-has_dynamic_offset.false (back-wide c.args.offset c.ranges.offset)
