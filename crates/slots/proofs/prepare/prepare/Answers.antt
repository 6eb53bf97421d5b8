-- `slots::prepare::prepare` meets its contract: with layouts by the mask, without by the sweep. Assumes nothing.
use Prim.Native.Nat.{◌^◌, ◌<◌}
use mathlib.Core.Path.{◌≡◌, ◌∙◌, sym}
use native.Mathlib.Omega.{arith}
use lib.Bits.{bit_and}
use lib.Count.{ones}
use lib.ListN.{length, length-map}
use Rattle.mask.specs.Mask.{places}
use Rattle.mask.specs.Laws.{ones-places, and_lt}
use Rattle.records.specs.Any.{some-any}
use Rattle.slots.specs.Vertex.{attributes_of}
use Rattle.slots.specs.Prepare.{rebound, slot_over, sent_of, buffer_command, buffer_commands, attribute_command, attribute_commands}
use Rattle.slots.specs.Sweep.{swept-count, swept-slots, swept-over}
use Rattle.slots.proofs.prepare.prepare.Goals as goal

pub returns-then-caps : goal.returns-then-caps
unfolding buffer_commands
returns-then-caps c =
    let a = c.args in
    let k = c.woken-dirty.ensures in
    let t = c.if-caps.true in
    let m = rebound a.v a.w in
    let d = bit_and c.woken-dirty.result a.v.described in
    let h : bit_and d a.v.bound < 2 ^ 32 = and_lt 32 d a.v.bound (omega arith) in
    let e : length (places m) ≡ ones m = rw k at (ones-places 32 0 (bit_and d a.v.bound) h) in (
      rw (t, length-map (places m) (buffer_command a.v a.w), e) (rw k at c.count.ensures),
      rw (t, k),
      rw t (rw k at c.without.ensures),
      rw (t, k),
      rw t (rw k at c.slots_over.ensures ∙ sym (some-any (slot_over a.v a.w) (places m))),
    )

pub returns-else-caps : goal.returns-else-caps
unfolding attribute_commands
returns-else-caps c =
    let a = c.args in
    let k = c.woken-dirty.ensures in
    let m = rebound a.v a.w in
    let l = attributes_of a.v in
    let t = c.if-caps.false in
    let s = rw k at c.sweep_attributes-sweep.ensures in (
      rw (t, s, length-map (sent_of m l) (attribute_command a.v a.w)) (swept-count m a.v a.w l),
      rw t (rw k at c.sent_attributes.ensures),
      rw (t, c.without-else-caps.ensures, s, k, swept-slots m a.v a.w l),
      rw (t, s) (swept-slots m a.v a.w l),
      rw (t, s) (swept-over m a.v a.w l),
    )
