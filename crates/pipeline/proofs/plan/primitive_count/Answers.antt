-- `pipeline::plan::primitive_count` meets its contract. Assumes nothing.
use mathlib.Core.Bool.{not}
use Rattle.names.specs.Maps.{primitive_state}
use Rattle.records.specs.Same.{same_primitive}
use Rattle.records.specs.declared.command.Command.TheVariants.{SetPrimitive}
use Rattle.pipeline.proofs.Ladder.{only-long}
use Rattle.pipeline.proofs.plan.primitive_count.Goals as goal

pub returns : goal.returns
returns c =
    let a = c.args in (
      rw (
        only-long (not (same_primitive (primitive_state a.new) a.old)) (SetPrimitive (primitive_state a.new)),
        c.one_if.ensures.0,
        c.same_primitive-differs.ensures,
        c.map_primitive_state-state.ensures,
      ),
      c.one_if.ensures.1,
    )
