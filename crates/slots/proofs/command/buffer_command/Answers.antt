-- `slots::command::buffer_command` meets its contract: where the sum fits, it is the sum. Assumes nothing.
use Prim.Native.Nat.{◌+◌, ◌^◌}
use borrow.Author.Tests.{lt-ltb}
use Rattle.slots.specs.Vertex.{slot_at}
use Rattle.slots.specs.Prepare.{slot_offset}
use Rattle.slots.proofs.Limits.{fits}
use Rattle.slots.proofs.command.buffer_command.Goals as goal

pub returns : goal.returns
returns c =
    λ e.
    let a = c.args in
    let o = slot_offset a.v a.w a.i in
    let at = (slot_at a.v a.i).offset in
    rw (
      c.sum_of.ensures,
      c.slot_desc-desc.ensures,
      c.slot_offset-more.ensures,
      c.slot_at-slot.ensures,
      lt-ltb (at + o) (2 ^ 64) (fits o (at + o) (2 ^ 64) e).sum_fits,
    )
