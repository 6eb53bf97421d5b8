-- An owned state has sixteen numbers of instances. Assumes nothing.
use mathlib.Core.Path.{◌≡◌}
use mathlib.Core.List.{List}
use lib.ListN.{length}
use borrow.Author.Rules.{rules}
use mir.Val.{Val}
use denote.Laws.{Is}
use denote.Struct.Declared.{row}
use Rattle.records.specs.declared.state.State.{State}
use Rattle.records.specs.declared.state.VertexState.{VertexState}
use Rattle.records.specs.contracts.state.State.{the_type as the-state}
use Rattle.records.specs.contracts.state.VertexState.{the_type as the-vertex}

-- field 5
instances-long : (s : VertexState) (vs : List Val) → Is (row the-vertex) s vs → length s.instances ≡ 16
instances-long s vs g = search rules

-- field 1
pub numbers-long : (s : State) (vs : List Val) → Is (row the-state) s vs → length s.vertex.instances ≡ 16
numbers-long s vs g = instances-long s.vertex _ g.1.1.1.0
