-- `bindings::entry_state::sampler_state` meets its contract. Assumes nothing.
use Prim.Native.Nat.{◌≤◌}
use native.Mathlib.Omega.{arith}
use lib.ListN.{length}
use lib.Seq.{set_out}
use Rattle.records.proofs.Long.{samplers_long}
use Rattle.bindings.proofs.entry_state.sampler_state.Goals as goal

pub returns-then-slot-lt16 : goal.returns-then-slot-lt16
returns-then-slot-lt16 c = rw c.set.ensures

pub returns-else-slot-lt16 : goal.returns-else-slot-lt16
returns-else-slot-lt16 c =
    let b = c.args.b in
    let h : length b.samplers ≤ c.args.slot = omega (arith, samplers_long b _ c.well_formed.0) in
    rw (c.set.ensures, set_out b.samplers c.args.slot c.args.k h)
