use Rattle.list_walks.proofs.Mapped.{Copied}
use Rattle.joining.specs.Plan.{moved_record}
use Rattle.joining.proofs.join.copy_moved.Given as goal

abbrev pub invariant-loop-i : goal.invariant-loop-i
invariant-loop-i l = Copied (moved_record l.plan) l.src l.initial.dst l.plan.from.commands l.plan.copied.commands l.dst l.i
