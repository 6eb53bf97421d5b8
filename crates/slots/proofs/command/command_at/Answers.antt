-- `slots::command::command_at` meets its contract, by the places of the slots or of the attributes. Assumes nothing.
use Prim.Native.Nat.{◌≤◌}
use mathlib.Core.Bool.{false}
use mathlib.Core.Path.{◌≡◌}
use native.Mathlib.Omega.{arith}
use lib.ListN.{length, length-take}
use Rattle.records.proofs.Long.{attributes-long}
use Rattle.slots.specs.Vertex.{attributes_of}
use Rattle.slots.specs.Prepare.{slot_over, attribute_over}
use Rattle.slots.proofs.Places.{buffer-at, slot_kept, attribute-at, attribute-kept}
use Rattle.slots.proofs.command.command_at.Goals as goal

pub returns-then-caps : goal.returns-then-caps
returns-then-caps c =
    λ p e h d.
    let a = c.args in
    let t = c.if-caps.true in
    let h' = rw t at h in
    let u = c.nth-i.ensures in
    let o : slot_over a.v a.w c.nth-i.result ≡ false = rw (u, p, t) (slot_kept a.v a.w a.k h' (rw t at e)) in
    rw (c.buffer_command.ensures o, u, p, t) (buffer-at a.v a.w a.k d h')

pub returns-else-caps : goal.returns-else-caps
returns-else-caps c =
    λ p e h d.
    let a = c.args in
    let t = c.if-caps.false in
    let h' = rw t at h in
    let u = c.nth-i.ensures in
    let w = c.attribute_at-a.ensures in
    let l : length (attributes_of a.v) ≤ 32 = omega (arith, length-take a.v.attribute_count a.v.attributes, attributes-long a.v _ c.well_formed.1.0) in
    let o : attribute_over a.v a.w c.attribute_at-a.result ≡ false = rw (w, u, p, t) (attribute-kept a.v a.w a.k l h' (rw t at e)) in
    rw (c.attribute_command.ensures o, w, u, p, t) (attribute-at a.v a.w a.k d l h')
