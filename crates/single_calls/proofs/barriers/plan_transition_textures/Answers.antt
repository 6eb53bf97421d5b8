-- `single_calls::barriers::plan_transition_textures` meets its contract. Assumes nothing.
use lib.Dec.{eqb}
use lib.ListN.{take}
use Prim.Native.Nat.{◌*◌}
use Rattle.records.specs.declared.command.Command.TheVariants.{TextureBarrier}
use Rattle.calls.specs.Step.{outcome_of}
use Rattle.calls.specs.Transfers.{texture_uses}
use Rattle.single_calls.proofs.Pairs.{board-one}
use Rattle.single_calls.proofs.barriers.plan_transition_textures.Goals as goal

pub returns : goal.returns
unfolding outcome_of
returns c =
    let a = c.args in
    let uses = texture_uses (take (2 * a.count) a.barriers.now) in
    let k = rw (c.run_asks-c.ensures, c.in_open.ensures, c.over_pairs-short.ensures, c.texture_uses-uses.ensures) at (c.plan_one.ensures c.broken_limits-broken.ensures) in
    rw (board-one a.caps.memory_barriers (eqb uses 0) (TextureBarrier uses)) at k
