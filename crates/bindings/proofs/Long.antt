-- How many elements the arrays of a call's arguments have. Assumes nothing.
use mathlib.Core.Path.{◌≡◌}
use mathlib.Core.List.{List}
use lib.ListN.{length}
use mir.Val.{Val}
use denote.Laws.{Is}
use denote.Struct.Declared.{row}
use Rattle.records.specs.declared.binding.PipelineLayout.{PipelineLayout}
use Rattle.records.specs.declared.binding.GroupEntries.{GroupEntries}
use Rattle.records.specs.declared.binding.BindGroup.{BindGroup}
use Rattle.records.specs.declared.state.ImmediateState.{ImmediateState}
use Rattle.records.specs.contracts.binding.PipelineLayout.{the_type as the-layout}
use Rattle.records.specs.contracts.binding.GroupEntries.{the_type as the-entries}
use Rattle.records.specs.contracts.binding.BindGroup.{the_type as the-group}
use Rattle.records.specs.contracts.state.ImmediateState.{the_type as the-immediates}

pub groups-long : (s : PipelineLayout) (vs : List Val) → Is (row the-layout) s vs → length s.groups ≡ 8
groups-long s vs g = g.1.1.0.1.0.1

pub entries-long : (s : GroupEntries) (vs : List Val) → Is (row the-entries) s vs → length s.entries ≡ 64
entries-long s vs g = g.1.1.0.1.0.1

pub contents-long : (s : BindGroup) (vs : List Val) → Is (row the-group) s vs → length s.contents ≡ 64
contents-long s vs g = g.1.1.0.1.0.1

-- field 2
pub words_long : (s : ImmediateState) (vs : List Val) → Is (row the-immediates) s vs → length s.words ≡ 64
words_long s vs g = g.1.1.1.1.0.1.0.1
