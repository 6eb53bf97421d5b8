-- `bindings::entry_state::texture_state` meets its contract. Assumes nothing.
use Prim.Native.Nat.{◌≤◌}
use mathlib.Core.List.{List}
use mathlib.Core.Path.{sym, ap}
use native.Mathlib.Omega.{arith}
use lib.ListN.{length}
use lib.Seq.{set_out}
use Rattle.records.specs.declared.state.BindState.{BindState}
use Rattle.records.specs.declared.state.TextureSlotDesc.{TextureSlotDesc}
use Rattle.records.proofs.Long.{units_long}
use Rattle.bindings.proofs.entry_state.texture_state.Goals as goal

abbrev with_units : BindState → List TextureSlotDesc → BindState
with_units b ts = record { samplers = b.samplers; sampler_set = b.sampler_set; texture_slots = ts; sampled = b.sampled }

pub returns-else-slot-lt16 : goal.returns-else-slot-lt16
returns-else-slot-lt16 c =
    let b = c.args.b in
    let h : length b.texture_slots ≤ c.args.slot = omega (arith, units_long b _ c.well_formed.0) in
    ap (with_units b) (sym (set_out b.texture_slots c.args.slot _ h))
