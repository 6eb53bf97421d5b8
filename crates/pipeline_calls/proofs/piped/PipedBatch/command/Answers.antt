use Rattle.pipeline_calls.proofs.Rights.{stands-in}
use Rattle.pipeline_calls.proofs.Sames.{render-same}
use Rattle.pipeline_calls.proofs.piped.PipedBatch.command.Goals as goal

pub returns : goal.returns
returns c =
    let b = c.args.self.now in
    let k = c.requires.2 in
    stands-in (render-same b.caps b.pipeline b.vertex k.old b.fixed k.bind k.plan) (c.render_command_at.ensures k.old k.bind k.plan) c.requires.0
