use Rattle.pipeline_calls.proofs.moved.with_topology.Goals as goal

pub returns : goal.returns
returns c = rw c.map_primitive_topology.ensures
