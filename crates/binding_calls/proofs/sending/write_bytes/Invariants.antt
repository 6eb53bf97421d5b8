use Rattle.std.proofs.Common.{◌≡◌, ◌+◌, ◌-◌, false}
use Rattle.records.specs.Check.{some?, bad_descriptor}
use Rattle.bindings.specs.Immediates.{descriptors_of}
use Rattle.walks.proofs.Fronts.{Front}
use Rattle.binding_calls.specs.ImmediatePlans.{byte_at}
use Rattle.binding_calls.proofs.ImmediateBytes.{Reached}
use Rattle.binding_calls.proofs.sending.write_bytes.Given as goal

-- the first i bytes are written, and the next is byte k of descriptor j, of good descriptors
abbrev pub invariant-loop-i : goal.invariant-loop-i
invariant-loop-i l =
    Front (byte_at l.fn.plan.batch) l.initial.bytes l.at l.n l.bytes l.i
    × (some? bad_descriptor (descriptors_of l.fn.plan.batch.state) ≡ false → Reached l.fn.plan.batch.state.words l.fn.plan.batch.state.descs l.fn.plan.batch.state.count l.i l.j l.k)

-- the bytes and the descriptors left
abbrev pub decreases-loop-i : goal.decreases-loop-i
decreases-loop-i l = (l.n - l.i) + (192 - l.j)
