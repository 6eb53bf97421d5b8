-- `pipeline::render::render_plan` meets its contract, part by part. Assumes nothing.
use Prim.Native.Nat.{◌+◌}
use mathlib.Core.Path.{◌≡◌}
use mathlib.Core.List.{List, ◌++◌}
use native.Mathlib.Omega.{arith}
use lib.ListN.{length, length-append}
use Rattle.pipeline.specs.Inner.{inner_bind, inner_commands}
use Rattle.pipeline.specs.Vertex.{vertex_commands}
use Rattle.pipeline.specs.Fixed.{fixed_commands}
use Rattle.pipeline.proofs.render.render_plan.Goals as goal

sum_of : {A : Type 0} (a b c : List A) → length (a ++ (b ++ c)) ≡ length a + length b + length c
sum_of a b c = omega (arith, length-append a (b ++ c), length-append b c)

pub returns : goal.returns
returns c =
    let a = c.args in
    let p = a.p in (
      rw (
        sum_of (vertex_commands a.caps p a.v) (inner_commands p.inner a.b) (fixed_commands p a.f),
        c.fixed_plan-fixed.ensures.0,
        c.inner_count-inner.ensures.0 p.inner.program (inner_bind p.inner a.b),
        c.changed_units-changed.ensures,
        c.vertex_count-vertex.ensures.0,
      ),
      omega (arith, c.fixed_plan-fixed.ensures.1, c.inner_count-inner.ensures.1, c.vertex_count-vertex.ensures.1),
    )
