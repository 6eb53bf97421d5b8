use mathlib.Core.Path.{ap, ◌∙◌}
use Rattle.names.specs.Maps.{primitive_topology}
use Rattle.calls.specs.Parts.{with_topology, with_location}
use Rattle.pipeline.specs.Fixed.{pipeline_fixed}
use Rattle.pipeline.specs.Inner.{inner_immediates}
use Rattle.pipeline.specs.Vertex.{pipeline_vertex}
use Rattle.pipeline_calls.proofs.Taken.{render-next}
use Rattle.pipeline_calls.proofs.piped.piped_answer.Goals as goal

pub returns : goal.returns
returns c =
    let a = c.args in
    let s = a.s in
    let b = a.plan.batch in
    let p = b.pipeline in
    let draw = c.with_topology-draw.ensures ∙ ap (with_topology (primitive_topology p.topology)) c.with_location-located.ensures in
    rw (render-next a.plan.ok s a.plan.progress (pipeline_vertex b.caps p s.vertex) (with_topology (primitive_topology p.topology) (with_location p.inner.first_instance_location s.draw))
    (pipeline_fixed p s.fixed) b.bind (inner_immediates p.inner s.immediates)
    c.render_moved-state.ensures c.shared_moved-shared.ensures c.pipeline_vertex-vertex.ensures draw c.pipeline_fixed-fixed.ensures c.inner_immediates-immediates.ensures)
