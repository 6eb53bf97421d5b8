-- `pipeline::attributes::unset_command_at` meets its contract, by the place of the attribute. Assumes nothing.
use Prim.Native.Nat.{ℕ, ◌<◌}
use mathlib.Core.Path.{sym, subst}
use lib.ListN.{length-map}
use Rattle.records.specs.Start.{start_attribute}
use Rattle.slots.specs.Vertex.{attributes_of}
use Rattle.slots.proofs.Flags.{map_at}
use Rattle.pipeline.specs.Vertex.{unset_attribute}
use Rattle.pipeline.proofs.attributes.unset_command_at.Goals as goal

pub returns : goal.returns
returns c =
    λ h d.
    let a = c.args in
    let l = attributes_of a.v in
    let k = subst (λ (n : ℕ). a.k < n) (length-map l unset_attribute) h in
    rw (c.attribute_in-a.ensures, c.counted.ensures) (sym (map_at unset_attribute l a.k start_attribute d k))
