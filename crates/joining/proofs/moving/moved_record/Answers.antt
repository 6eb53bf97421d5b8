use mathlib.Core.Path.{ap}
use Rattle.joining.specs.Joins.{record_of}
use Rattle.joining.proofs.moving.moved_record.Goals as goal

-- src/moving.rt:64:1
pub returns : goal.returns
returns c = ap record_of c.moved_command.ensures
