-- The 31 recording calls, each with its arguments: `impl CommandEncoder` of gles/command.rs, the calls of document 01, "Phases". Definitions only.
use Rattle.std.specs.Prelude.{ℕ, ℤ, Option}
use Rattle.records.specs.declared.args.Buffer.{Buffer}
use Rattle.records.specs.declared.args.RectF32.{RectF32}
use Rattle.records.specs.declared.args.RectU32.{RectU32}
use Rattle.records.specs.declared.binding.PipelineLayout.{PipelineLayout}
use Rattle.records.specs.declared.binding.GroupEntries.{GroupEntries}
use Rattle.records.specs.declared.binding.BindGroup.{BindGroup}
use Rattle.records.specs.declared.command.ColorF32.{ColorF32}
use Rattle.records.specs.declared.command.DepthRange.{DepthRange}
use Rattle.records.specs.declared.command.MemoryRange.{MemoryRange}
use Rattle.records.specs.declared.pass.TimestampWrites.{TimestampWrites}
use Rattle.records.specs.declared.pass.RenderPassDescriptor.{RenderPassDescriptor}
use Rattle.records.specs.declared.pipeline.RenderPipeline.{RenderPipeline}
use Rattle.records.specs.declared.pipeline.ComputePipeline.{ComputePipeline}
use Rattle.records.specs.declared.state.IndexFormat.{IndexFormat}
use Rattle.pass.specs.Marks.{Lent, Label}

-- a query set: the queries, lent, and their target
pub record QuerySet : Type 0 where
  pub queries : Lent
  pub target : ℕ

pub data Call : Type 0 where
  begin_encoding end_encoding end_render_pass end_compute_pass : Call
  begin_render_pass : RenderPassDescriptor → Label → Lent → Call
  begin_compute_pass : Option TimestampWrites → Label → Lent → Call
  transition_buffers transition_textures : Lent → Call
  clear_buffer : Buffer → MemoryRange → Call
  copy_buffer_to_buffer : Buffer → Buffer → Lent → Call
  copy_query_results : QuerySet → ℕ → ℕ → Buffer → ℕ → Call
  begin_query end_query write_timestamp : QuerySet → ℕ → Call
  reset_queries : QuerySet → ℕ → ℕ → Call
  set_bind_group : PipelineLayout → ℕ → GroupEntries → BindGroup → Lent → Call
  set_immediates : ℕ → Lent → Call
  set_render_pipeline : RenderPipeline → Call
  set_compute_pipeline : ComputePipeline → Call
  set_index_buffer : ℕ → ℕ → IndexFormat → Call
  set_vertex_buffer : ℕ → ℕ → ℕ → Call
  set_viewport : RectF32 → DepthRange → Call
  set_scissor_rect : RectU32 → Call
  set_stencil_reference : ℕ → Call
  set_blend_constants : ColorF32 → Call
  draw : ℕ → ℕ → ℕ → ℕ → Call
  draw_indexed : ℕ → ℕ → ℤ → ℕ → ℕ → Call
  draw_indirect draw_indexed_indirect : ℕ → ℕ → ℕ → Call
  dispatch_workgroups : ℕ → ℕ → ℕ → Call
  dispatch_workgroups_indirect : ℕ → ℕ → Call
