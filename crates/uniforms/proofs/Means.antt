-- What each of the 31 calls is to the immediates and to the uniforms, by its kind. Assumes nothing.
use mathlib.Core.Path.{◌≡◌, refl, ap}
use mathlib.Core.Bool.{Bool, true, false, cond, ◌||◌}
use mathlib.Core.List.{[]}
use Rattle.records.specs.Check.{some?, bad_descriptor}
use Rattle.records.specs.Start.{start_progress, start_immediates}
use Rattle.records.specs.declared.check.Rooms.{Rooms}
use Rattle.records.specs.declared.command.Command.TheVariants.{EndQuery, ClearBuffer, SetIndexBuffer, SetBlendConstant, DispatchIndirect}
use Rattle.records.specs.declared.pipeline.PipelineInner.{PipelineInner}
use Rattle.records.specs.declared.pipeline.PrivateCapabilities.{PrivateCapabilities}
use Rattle.records.specs.declared.state.State.{State}
use Rattle.slots.specs.Prepare.{working}
use Rattle.bindings.specs.Group.{entries_of}
use Rattle.pipeline.specs.Inner.{bad_number, inner_descriptors, inner_immediates}
use Rattle.pipeline.specs.Vertex.{vertex_out_of_range}
use Rattle.pass.specs.Marks.{counted}
use Rattle.calls.specs.Call.{Call, begin_encoding, end_encoding, begin_render_pass, end_render_pass, begin_compute_pass, end_compute_pass, transition_buffers, transition_textures, clear_buffer, copy_buffer_to_buffer, copy_query_results, begin_query, end_query, write_timestamp, reset_queries, set_bind_group, set_immediates, set_render_pipeline, set_compute_pipeline, set_index_buffer, set_vertex_buffer, set_viewport, set_scissor_rect, set_stencil_reference, set_blend_constants, draw, draw_indexed, draw_indirect, draw_indexed_indirect, dispatch_workgroups, dispatch_workgroups_indirect}
use Rattle.calls.specs.Draws.{draw_command, draw_indexed_command}
use Rattle.calls.specs.Meaning.{Meaning}
use Rattle.calls.specs.Parts.{with_progress, draw_args}
use Rattle.calls.specs.Settings.{referenced}
use Rattle.calls.specs.Transfers.{buffer_barriers, regions_of}
use Rattle.calls.specs.Step.{set_immediates_meaning, meaning, progress_after}
use Rattle.machine.proofs.Lists.{or_right}
use Rattle.book.specs.Run.{carried, begun}
use Rattle.uniforms.specs.Kind.{Kind, begins, pipes, writes, other, kind_of}
use Rattle.uniforms.proofs.Plays.{Acts, in_use}
use Rattle.uniforms.proofs.Quiet.{Quiet, quiet-nil, quiet_one, quiet-begin-render, quiet-begin-compute, quiet-end-compute, quiet-end-render, quiet-buffers, quiet-textures, quiet-copies, quiet-dispatch, quiet-group, quiet-drawing, quiet-indirect, quiet-indexed, quiet-funcs, acts-inner, acts-pipeline}

-- new lists, and the starting values
pub record Begins (m : Meaning) : Type 0 where
  pub progress : m.after.progress ≡ start_progress
  pub immediates : m.after.immediates ≡ start_immediates
  pub commands : m.commands ≡ []
  pub bytes : m.bytes ≡ []

-- the pipeline's descriptors, none sent, and its program; a carried-through call's descriptors are good
pub record Pipes (p : PipelineInner) (s : State) (m : Meaning) : Type 0 where
  pub progress : m.after.progress ≡ s.progress
  pub immediates : m.after.immediates ≡ inner_immediates p s.immediates
  pub acts : Acts (in_use p.program) m.commands
  pub good : m.asks.range ≡ false → some? bad_descriptor (inner_descriptors p) ≡ false

-- nothing
pub record Other (s : State) (m : Meaning) : Type 0 where
  pub progress : m.after.progress ≡ s.progress
  pub immediates : m.after.immediates ≡ s.immediates
  pub quiet : Quiet m.commands

abbrev pub Means : Kind → State → Meaning → Type 0
Means begins s m = Begins m
Means (pipes p) s m = Pipes p s m
Means (writes offset ws) s m = m ≡ set_immediates_meaning s offset ws
Means other s m = Other s m

-- of a call that leaves the counts and the immediates as they are
nothing : {s : State} {m : Meaning} → m.after.progress ≡ s.progress → m.after.immediates ≡ s.immediates → Quiet m.commands → Other s m
nothing p i q = record { progress = p; immediates = i; quiet = q }

good-inner : (p : PipelineInner) → some? bad_number p.sampler_map || some? bad_descriptor (inner_descriptors p) ≡ false → some? bad_descriptor (inner_descriptors p) ≡ false
good-inner p e = or_right (some? bad_number p.sampler_map) (some? bad_descriptor (inner_descriptors p)) e

pub means : (caps : PrivateCapabilities) (s : State) (c : Call) → Means (kind_of c) s (meaning caps s c)
means caps s begin_encoding = record { progress = refl; immediates = refl; commands = refl; bytes = refl }
means caps s end_encoding = nothing refl refl quiet-nil
means caps s end_render_pass = nothing refl refl (quiet-end-render s.pass s.vertex)
means caps s end_compute_pass = nothing refl refl (quiet-end-compute s.pass.has_pass_label s.pass.end_of_pass_timestamp)
means caps s (begin_render_pass d label set) = nothing refl refl (quiet-begin-render caps d label set s.progress.bytes)
means caps s (begin_compute_pass t label set) = nothing refl refl (quiet-begin-compute set t label s.progress.bytes)
means caps s (transition_buffers l) = nothing refl refl (quiet-buffers caps (buffer_barriers l))
means caps s (transition_textures l) = nothing refl refl (quiet-textures caps l)
means caps s (clear_buffer x range) = nothing refl refl (quiet_one (ClearBuffer x.raw x.target range) refl)
means caps s (copy_buffer_to_buffer src dst l) = nothing refl refl (quiet-copies src dst (regions_of l))
means caps s (copy_query_results set start end dst offset) = nothing refl refl (record { each = (refl, tt) })
means caps s (begin_query set i) = nothing refl refl (record { each = (refl, tt) })
means caps s (end_query set i) = nothing refl refl (quiet_one (EndQuery set.target) refl)
means caps s (write_timestamp set i) = nothing refl refl (record { each = (refl, tt) })
means caps s (reset_queries set start end) = nothing refl refl quiet-nil
means caps s (set_bind_group l i e g os) = nothing refl refl (quiet-group (entries_of l i e g) (counted os) s.bind)
means caps s (set_immediates offset ws) = refl
means caps s (set_render_pipeline p) =
    record {
      progress = refl;
      immediates = refl;
      acts = acts-pipeline caps p s.vertex s.bind s.fixed;
      good = λ e. good-inner p.inner (or_right (vertex_out_of_range p) (some? bad_number p.inner.sampler_map || some? bad_descriptor (inner_descriptors p.inner)) e);
    }
means caps s (set_compute_pipeline p) = record { progress = refl; immediates = refl; acts = acts-inner p.inner s.bind; good = good-inner p.inner }
means caps s (set_index_buffer raw offset format) = nothing refl refl (quiet_one (SetIndexBuffer raw) refl)
means caps s (set_vertex_buffer i raw offset) = nothing refl refl quiet-nil
means caps s (set_viewport r d) = nothing refl refl (record { each = (refl, tt) })
means caps s (set_scissor_rect r) = nothing refl refl (record { each = (refl, tt) })
means caps s (set_stencil_reference v) = nothing refl refl (quiet-funcs (referenced v s.fixed.stencil))
means caps s (set_blend_constants c) = nothing refl refl (quiet_one (SetBlendConstant c) refl)
means caps s (draw vertex vertices instance instances) =
    nothing refl refl (quiet-drawing caps s.vertex (working caps instance) (quiet_one (draw_command (draw_args s.draw) vertex vertices instance instances) refl))
means caps s (draw_indexed fst count base instance instances) =
    nothing refl refl (quiet-drawing caps s.vertex (working caps instance) (quiet_one (draw_indexed_command (draw_args s.draw) fst count base instance instances) refl))
means caps s (draw_indirect raw offset n) = nothing refl refl (quiet-drawing caps s.vertex 0 (quiet-indirect (draw_args s.draw) raw offset n))
means caps s (draw_indexed_indirect raw offset n) = nothing refl refl (quiet-drawing caps s.vertex 0 (quiet-indexed (draw_args s.draw) raw offset n))
means caps s (dispatch_workgroups x y z) = nothing refl refl (quiet-dispatch x y z)
means caps s (dispatch_workgroups_indirect raw offset) = nothing refl refl (quiet_one (DispatchIndirect raw offset) refl)

-- an accepted `begin_encoding`
pub begun-state : (caps : PrivateCapabilities) (rooms : Rooms) (s : State) → carried caps rooms s begin_encoding ≡ true
    → (begun caps rooms s).state ≡ with_progress (progress_after (meaning caps s begin_encoding)) (meaning caps s begin_encoding).after
begun-state caps rooms s e = ap (λ (t : Bool). cond t (with_progress (progress_after (meaning caps s begin_encoding)) (meaning caps s begin_encoding).after) s) e
