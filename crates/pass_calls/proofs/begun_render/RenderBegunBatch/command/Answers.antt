-- `pass_calls::begun_render::RenderBegunBatch::command` meets its contract. Assumes nothing.
use mathlib.Core.List.{List, []}
use mathlib.Core.Path.{subst}
use Rattle.slots.specs.Place.{Stands}
use Rattle.records.specs.declared.command.Command.{Command}
use Rattle.records.specs.declared.command.Command.TheVariants.{PopDebugGroup}
use Rattle.pass_calls.proofs.RenderCommands.{render-is}
use Rattle.pass_calls.proofs.begun_render.RenderBegunBatch.command.Goals as goal

pub returns : goal.returns
returns c =
    let b = c.args.self.now in
    let k = c.requires.1 in
    subst (λ (l : List Command). Stands c.begin_command_at.result c.args.i l) (render-is b k)
    (c.begin_command_at.ensures b.plan.label k.set [] k.planned k.places k.bytes) c.requires.0 PopDebugGroup
