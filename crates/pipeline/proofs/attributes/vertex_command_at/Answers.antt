-- `pipeline::attributes::vertex_command_at` meets its contract, by the place of the attribute. Assumes nothing.
use Prim.Native.Nat.{ℕ, ◌<◌}
use mathlib.Core.Path.{sym, subst}
use lib.ListN.{length-map}
use Rattle.records.specs.Start.{start_attribute}
use Rattle.slots.proofs.Flags.{map_at}
use Rattle.pipeline.specs.Vertex.{attributes_in, set_attribute}
use Rattle.pipeline.proofs.attributes.vertex_command_at.Goals as goal

pub returns-then-caps : goal.returns-then-caps
returns-then-caps c =
    λ h d.
    let a = c.args in
    let t = c.if-caps.true in
    let l = attributes_in a.p in
    let k = subst (λ (n : ℕ). a.k < n) (length-map l (set_attribute a.p)) (rw t at h) in
    rw (t, c.set_attribute.ensures, c.attribute_in-a.ensures, c.counted.ensures) (sym (map_at (set_attribute a.p) l a.k start_attribute d k))

pub returns-else-caps : goal.returns-else-caps
returns-else-caps c = λ h d. let t = c.if-caps.false in rw t (c.unset_command_at.ensures (rw t at h) d)
