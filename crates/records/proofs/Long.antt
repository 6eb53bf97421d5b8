-- How many elements the arrays of structs of an owned part of the state have. Assumes nothing.
use mathlib.Core.Path.{◌≡◌}
use mathlib.Core.List.{List}
use lib.ListN.{length}
use mir.Val.{Val}
use denote.Laws.{Is}
use denote.Struct.Declared.{row}
use Rattle.records.specs.declared.state.BindState.{BindState}
use Rattle.records.specs.declared.state.ImmediateState.{ImmediateState}
use Rattle.records.specs.declared.state.PassState.{PassState}
use Rattle.records.specs.declared.state.VertexState.{VertexState}
use Rattle.records.specs.contracts.state.BindState.{the_type as the-bind}
use Rattle.records.specs.contracts.state.ImmediateState.{the_type as the-immediates}
use Rattle.records.specs.contracts.state.PassState.{the_type as the-pass}
use Rattle.records.specs.contracts.state.VertexState.{the_type as the-vertex}

-- field 4
pub buffers-long : (s : VertexState) (vs : List Val) → Is (row the-vertex) s vs → length s.buffers ≡ 16
buffers-long s vs g = g.1.1.1.1.1.1.0.1.0.1

-- field 8
pub attributes-long : (s : VertexState) (vs : List Val) → Is (row the-vertex) s vs → length s.attributes ≡ 16
attributes-long s vs g = g.1.1.1.1.1.1.1.1.1.1.0.1.0.1

-- field 0
pub samplers_long : (s : BindState) (vs : List Val) → Is (row the-bind) s vs → length s.samplers ≡ 16
samplers_long s vs g = g.1.1.0.1.0.1

-- field 2
pub units_long : (s : BindState) (vs : List Val) → Is (row the-bind) s vs → length s.texture_slots ≡ 16
units_long s vs g = g.1.1.1.1.0.1.0.1

-- field 1
pub resolves-long : (s : PassState) (vs : List Val) → Is (row the-pass) s vs → length s.resolves ≡ 8
resolves-long s vs g = g.1.1.1.0.1.0.1

-- field 0
pub descs-long : (s : ImmediateState) (vs : List Val) → Is (row the-immediates) s vs → length s.descs ≡ 192
descs-long s vs g = g.1.1.0.1.0.1
