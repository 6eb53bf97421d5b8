-- How many elements the arrays of structs of a pipeline have. Assumes nothing.
use mathlib.Core.Path.{◌≡◌}
use mathlib.Core.List.{List}
use lib.ListN.{length}
use mir.Val.{Val}
use denote.Laws.{Is}
use denote.Struct.Declared.{row}
use Rattle.records.specs.declared.pipeline.PipelineInner.{PipelineInner}
use Rattle.records.specs.declared.pipeline.RenderPipeline.{RenderPipeline}
use Rattle.records.specs.contracts.pipeline.PipelineInner.{the_type as the-inner}
use Rattle.records.specs.contracts.pipeline.RenderPipeline.{the_type as the-render}

-- field 1
pub map-long : (p : PipelineInner) (vs : List Val) → Is (row the-inner) p vs → length p.sampler_map ≡ 16
map-long p vs g = g.1.1.1.0.1.0.1

-- field 3
pub layouts-long : (p : RenderPipeline) (vs : List Val) → Is (row the-render) p vs → length p.vertex_buffers ≡ 16
layouts-long p vs g = g.1.1.1.1.1.0.1.0.1

-- field 5
pub attributes-long : (p : RenderPipeline) (vs : List Val) → Is (row the-render) p vs → length p.vertex_attributes ≡ 16
attributes-long p vs g = g.1.1.1.1.1.1.1.0.1.0.1

-- field 7
pub targets-long : (p : RenderPipeline) (vs : List Val) → Is (row the-render) p vs → length p.color_targets ≡ 8
targets-long p vs g = g.1.1.1.1.1.1.1.1.1.0.1.0.1
