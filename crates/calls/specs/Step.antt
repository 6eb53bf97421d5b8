-- What each of the 31 calls means, and `step`: document 01, demand 1. Definitions only.
use Rattle.std.specs.Prelude.{ℕ, ◌+◌, Bool, false, cond, not, ◌&&◌, ◌||◌, List, [], ◌∷◌, ◌++◌, map, ltb, leb, eqb, length, get_or, take, ℤ, Option}
use Rattle.names.specs.Maps.{primitive_topology}
use Rattle.records.specs.Start.{start_state}
use Rattle.records.specs.Outcome.{accepted, either, smallest}
use Rattle.records.specs.Check.{some?, over_room, state_conditions}
use Rattle.records.specs.declared.args.Buffer.{Buffer}
use Rattle.records.specs.declared.args.RectF32.{RectF32}
use Rattle.records.specs.declared.args.RectU32.{RectU32}
use Rattle.records.specs.declared.binding.PipelineLayout.{PipelineLayout}
use Rattle.records.specs.declared.binding.GroupEntries.{GroupEntries}
use Rattle.records.specs.declared.binding.BindGroup.{BindGroup}
use Rattle.records.specs.declared.check.Rooms.{Rooms}
use Rattle.records.specs.declared.command.Command.{Command}
use Rattle.records.specs.declared.command.Command.TheVariants.{BeginQuery, EndQuery, TimestampQuery, ClearBuffer, SetIndexBuffer, SetViewport, SetScissor, SetBlendConstant, DispatchIndirect}
use Rattle.records.specs.declared.command.ColorF32.{ColorF32}
use Rattle.records.specs.declared.command.DepthRange.{DepthRange}
use Rattle.records.specs.declared.command.MemoryRange.{MemoryRange}
use Rattle.records.specs.declared.outcome.Outcome.{Outcome}
use Rattle.records.specs.declared.outcome.Conditions.{Conditions}
use Rattle.records.specs.declared.pass.TimestampWrites.{TimestampWrites}
use Rattle.records.specs.declared.pass.RenderPassDescriptor.{RenderPassDescriptor}
use Rattle.records.specs.declared.pipeline.PrivateCapabilities.{PrivateCapabilities}
use Rattle.records.specs.declared.pipeline.RenderPipeline.{RenderPipeline}
use Rattle.records.specs.declared.pipeline.ComputePipeline.{ComputePipeline}
use Rattle.records.specs.declared.state.IndexFormat.{IndexFormat}
use Rattle.records.specs.declared.state.Phase.TheVariants.{Closed, Open, Render, Compute}
use Rattle.records.specs.declared.state.Progress.{Progress}
use Rattle.records.specs.declared.state.State.{State}
use Rattle.slots.specs.Vertex.{attributes_of}
use Rattle.slots.specs.Prepare.{working, prepared, prepared_over}
use Rattle.bindings.specs.Group.{entries_of, group_at, group_state, bind_group_commands, long_group, entry_out_of_range, offset_missing, entry_wrong_kind, group_over}
use Rattle.bindings.specs.Immediates.{sent_descriptors, immediates_state, immediate_commands, immediate_bytes, immediates_out_of_range, immediates_over}
use Rattle.pipeline.specs.Inner.{inner_bind, inner_commands, inner_immediates, inner_too_many, inner_out_of_range}
use Rattle.pipeline.specs.Vertex.{pipeline_vertex, vertex_commands, unset_attribute, vertex_too_many, vertex_out_of_range, vertex_absent, vertex_twice}
use Rattle.pipeline.specs.Fixed.{fixed_commands, pipeline_fixed, stencil_funcs, fixed_too_many}
use Rattle.pass.specs.Marks.{Lent, Label, counted, over_run, label_bytes, label_over, push_label, pop_label, begin_timestamp, end_timestamp, timestamp, timestamps_out}
use Rattle.pass.specs.Render.{begin_render_commands, begin_render_pass_state, pass_wrong_kind, end_render_commands, end_render_pass_state, begin_compute_pass_state, end_compute_pass_state}
use Rattle.calls.specs.Call.{QuerySet, Call, begin_encoding, end_encoding, begin_render_pass, end_render_pass, begin_compute_pass, end_compute_pass, transition_buffers, transition_textures, clear_buffer, copy_buffer_to_buffer, copy_query_results, begin_query, end_query, write_timestamp, reset_queries, set_bind_group, set_immediates, set_render_pipeline, set_compute_pipeline, set_index_buffer, set_vertex_buffer, set_viewport, set_scissor_rect, set_stencil_reference, set_blend_constants, draw, draw_indexed, draw_indirect, draw_indexed_indirect, dispatch_workgroups, dispatch_workgroups_indirect}
use Rattle.calls.specs.Transfers.{buffer_barriers, buffer_barrier_commands, barrier_absent, texture_barrier_commands, on_board, over_run_by, regions_of, copy_command, empty_copy, queries_in, copy_queries_command, queries_over, range_out, dispatch_commands}
use Rattle.calls.specs.Settings.{viewport_rect, scissor_rect, referenced, indexed, bound_slot}
use Rattle.calls.specs.Draws.{draw_command, draw_indexed_command, index_over, indirect_commands, indexed_indirect_commands, indirect_over, indirect_absent}
use Rattle.calls.specs.Parts.{with_progress, with_vertex, with_draw, with_fixed, with_bind, with_pass, with_immediates, with_location, with_topology, with_stencil, end_vertex, end_fixed, draw_args, drawn}
use Rattle.calls.specs.Meaning.{Meaning, in_closed, in_open, in_render, in_compute, in_pass, not_closed, no_run, list_run, bytes_run, queries_run, refusing, free, records, changes}

-- "`begin_encoding` needs closed and starts with empty lists"; the counts are those of the starting state
abbrev pub begin_encoding_meaning : State → Meaning
begin_encoding_meaning s =
    record {
      allowed = in_closed;
      asks = free;
      commands = [];
      bytes = [];
      queries = [];
      after = start_state;
      phase = Open;
      handed = no_run;
    }

abbrev pub end_encoding_meaning : State → Meaning
end_encoding_meaning s =
    record {
      allowed = in_open;
      asks = free;
      commands = [];
      bytes = [];
      queries = [];
      after = s;
      phase = Closed;
      handed = no_run;
    }

-- ---- passes
abbrev pub begin_render_meaning : PrivateCapabilities → State → RenderPassDescriptor → Label → Lent → Meaning
begin_render_meaning caps s d label set =
    record {
      allowed = in_open;
      asks =
          refusing (ltb 8 d.color_attachment_count) (timestamps_out set d.timestamp_writes) false (pass_wrong_kind d) (label_over label s.progress.bytes)
          (over_run label.bytes || over_run set);
      commands = begin_render_commands caps d label set s.progress.bytes;
      bytes = label_bytes label;
      queries = [];
      after = with_pass (begin_render_pass_state caps d label set s.pass) s;
      phase = Render;
      handed = bytes_run;
    }

abbrev pub end_render_meaning : State → Meaning
end_render_meaning s =
    record {
      allowed = in_render;
      asks = free;
      commands = end_render_commands s.pass (map unset_attribute (attributes_of s.vertex));
      bytes = [];
      queries = [];
      after = with_vertex (end_vertex s.vertex) (with_fixed (end_fixed s.fixed) (with_pass (end_render_pass_state s.pass) s));
      phase = Open;
      handed = list_run;
    }

abbrev pub begin_compute_meaning : State → Option TimestampWrites → Label → Lent → Meaning
begin_compute_meaning s t label set =
    record {
      allowed = in_open;
      asks = refusing false (timestamps_out set t) false false (label_over label s.progress.bytes) (over_run label.bytes || over_run set);
      commands = begin_timestamp set t ++ push_label label s.progress.bytes;
      bytes = label_bytes label;
      queries = [];
      after = with_pass (begin_compute_pass_state label (end_timestamp set t s.pass.end_of_pass_timestamp) s.pass) s;
      phase = Compute;
      handed = bytes_run;
    }

abbrev pub end_compute_meaning : State → Meaning
end_compute_meaning s =
    record {
      allowed = in_compute;
      asks = free;
      commands = pop_label s.pass.has_pass_label ++ timestamp s.pass.end_of_pass_timestamp;
      bytes = [];
      queries = [];
      after = with_pass (end_compute_pass_state s.pass) s;
      phase = Open;
      handed = list_run;
    }

-- ---- transitions, clears and copies
abbrev pub transition_buffers_meaning : PrivateCapabilities → State → Lent → Meaning
transition_buffers_meaning caps s l =
    records in_open (refusing false false (caps.memory_barriers && some? barrier_absent (buffer_barriers l)) false false (over_run_by 3 l))
    (on_board caps (buffer_barrier_commands (buffer_barriers l))) s

abbrev pub transition_textures_meaning : PrivateCapabilities → State → Lent → Meaning
transition_textures_meaning caps s l = records in_open (refusing false false false false false (over_run_by 2 l)) (on_board caps (texture_barrier_commands l)) s

abbrev pub clear_buffer_meaning : State → Buffer → MemoryRange → Meaning
clear_buffer_meaning s b range = records in_open free (ClearBuffer b.raw b.target range ∷ []) s

abbrev pub copy_buffer_to_buffer_meaning : State → Buffer → Buffer → Lent → Meaning
copy_buffer_to_buffer_meaning s src dst l =
    records in_open (refusing false (some? empty_copy (regions_of l)) false false false (over_run_by 3 l)) (map (copy_command src dst) (regions_of l)) s

-- ---- queries
abbrev pub copy_query_results_meaning : State → QuerySet → ℕ → ℕ → Buffer → ℕ → Meaning
copy_query_results_meaning s set start end dst offset =
    record {
      allowed = in_open;
      asks = refusing false (range_out set.queries start end) false false (queries_over s.progress.queries start end) (over_run set.queries);
      commands = copy_queries_command s.progress.queries start end dst offset ∷ [];
      bytes = [];
      queries = queries_in set.queries start end;
      after = s;
      phase = s.progress.phase;
      handed = queries_run;
    }

-- 3: a query past the set
abbrev pub query_asks : QuerySet → ℕ → Conditions
query_asks set i = refusing false (leb set.queries.count i) false false false (over_run set.queries)

abbrev pub begin_query_meaning : State → QuerySet → ℕ → Meaning
begin_query_meaning s set i = records not_closed (query_asks set i) (BeginQuery (get_or (counted set.queries) i 0) set.target ∷ []) s

abbrev pub end_query_meaning : State → QuerySet → ℕ → Meaning
end_query_meaning s set i = records not_closed (query_asks set i) (EndQuery set.target ∷ []) s

abbrev pub write_timestamp_meaning : State → QuerySet → ℕ → Meaning
write_timestamp_meaning s set i = records not_closed (query_asks set i) (TimestampQuery (get_or (counted set.queries) i 0) ∷ []) s

abbrev pub reset_queries_meaning : State → QuerySet → ℕ → ℕ → Meaning
reset_queries_meaning s set start end = changes not_closed (refusing false (range_out set.queries start end) false false false (over_run set.queries)) s

-- ---- bindings
abbrev pub set_bind_group_meaning : State → PipelineLayout → ℕ → GroupEntries → BindGroup → Lent → Meaning
set_bind_group_meaning s l i e g os =
    records in_pass
    (refusing
    (ltb 8 l.group_count || (some? long_group (take l.group_count l.groups) || ltb 64 g.content_count))
    (leb l.group_count i || some? entry_out_of_range (entries_of l i e g))
    (not (group_at l i).present || offset_missing (entries_of l i e g) os.count)
    (some? entry_wrong_kind (entries_of l i e g))
    (group_over (entries_of l i e g) (counted os))
    (over_run os))
    (bind_group_commands (entries_of l i e g) (counted os) s.bind)
    (with_bind (group_state (entries_of l i e g) s.bind) s)

abbrev pub set_immediates_meaning : State → ℕ → Lent → Meaning
set_immediates_meaning s offset ws =
    record {
      allowed = in_pass;
      asks = refusing false (immediates_out_of_range offset ws.count) false false (immediates_over (sent_descriptors s.immediates offset ws.count) s.progress.bytes) (over_run ws);
      commands = immediate_commands (sent_descriptors s.immediates offset ws.count) s.progress.bytes;
      bytes = immediate_bytes (immediates_state s.immediates offset (counted ws)).words (sent_descriptors s.immediates offset ws.count);
      queries = [];
      after = with_immediates (immediates_state s.immediates offset (counted ws)) s;
      phase = s.progress.phase;
      handed = bytes_run;
    }

-- ---- pipelines
abbrev pub set_render_pipeline_meaning : PrivateCapabilities → State → RenderPipeline → Meaning
set_render_pipeline_meaning caps s p =
    records in_render
    (refusing (vertex_too_many p || (fixed_too_many p || inner_too_many p.inner)) (vertex_out_of_range p || inner_out_of_range p.inner) (vertex_absent p) (vertex_twice p) false false)
    (vertex_commands caps p s.vertex ++ (inner_commands p.inner s.bind ++ fixed_commands p s.fixed))
    (with_vertex (pipeline_vertex caps p s.vertex)
    (with_draw (with_topology (primitive_topology p.topology) (with_location p.inner.first_instance_location s.draw))
    (with_fixed (pipeline_fixed p s.fixed) (with_bind (inner_bind p.inner s.bind) (with_immediates (inner_immediates p.inner s.immediates) s)))))

abbrev pub set_compute_pipeline_meaning : State → ComputePipeline → Meaning
set_compute_pipeline_meaning s p =
    records in_compute (refusing (inner_too_many p.inner) (inner_out_of_range p.inner) false false false false) (inner_commands p.inner s.bind)
    (with_draw (with_location p.inner.first_instance_location s.draw)
    (with_bind (inner_bind p.inner s.bind) (with_immediates (inner_immediates p.inner s.immediates) s)))

-- ---- settings
abbrev pub set_index_buffer_meaning : State → ℕ → ℕ → IndexFormat → Meaning
set_index_buffer_meaning s raw offset format =
    records in_render (refusing false false (eqb raw 0) false false false) (SetIndexBuffer raw ∷ []) (with_draw (indexed offset format s.draw) s)

abbrev pub set_vertex_buffer_meaning : State → ℕ → ℕ → ℕ → Meaning
set_vertex_buffer_meaning s i raw offset =
    changes in_render (refusing false (leb 16 i) (eqb raw 0) false false false) (with_vertex (bound_slot i raw offset s.vertex) s)

abbrev pub set_viewport_meaning : State → RectF32 → DepthRange → Meaning
set_viewport_meaning s r d = records in_render free (SetViewport (viewport_rect r) d ∷ []) s

abbrev pub set_scissor_rect_meaning : State → RectU32 → Meaning
set_scissor_rect_meaning s r = records in_render free (SetScissor (scissor_rect r) ∷ []) s

abbrev pub set_stencil_reference_meaning : State → ℕ → Meaning
set_stencil_reference_meaning s v =
    records in_render free (stencil_funcs (referenced v s.fixed.stencil)) (with_fixed (with_stencil (referenced v s.fixed.stencil) s.fixed) s)

abbrev pub set_blend_constants_meaning : State → ColorF32 → Meaning
set_blend_constants_meaning s c = records in_render free (SetBlendConstant c ∷ []) s

-- ---- draws: what they prepare, and then their own commands
abbrev pub drawing : PrivateCapabilities → State → ℕ → Bool → Bool → List Command → Meaning
drawing caps s w four six cs =
    records in_render (refusing false false four false (prepared_over caps s.vertex w || six) false) (prepared caps s.vertex w ++ cs) (drawn caps w s)

abbrev pub draw_meaning : PrivateCapabilities → State → ℕ → ℕ → ℕ → ℕ → Meaning
draw_meaning caps s vertex vertices instance instances =
    drawing caps s (working caps instance) false false (draw_command (draw_args s.draw) vertex vertices instance instances ∷ [])

abbrev pub draw_indexed_meaning : PrivateCapabilities → State → ℕ → ℕ → ℤ → ℕ → ℕ → Meaning
draw_indexed_meaning caps s first count base instance instances =
    drawing caps s (working caps instance) false (index_over (draw_args s.draw) first)
    (draw_indexed_command (draw_args s.draw) first count base instance instances ∷ [])

-- "Indirect draws prepare with 0, even when their count is 0"
abbrev pub draw_indirect_meaning : PrivateCapabilities → State → ℕ → ℕ → ℕ → Meaning
draw_indirect_meaning caps s raw offset n = drawing caps s 0 (indirect_absent raw n) (indirect_over 16 offset n) (indirect_commands (draw_args s.draw) raw offset n)

abbrev pub draw_indexed_indirect_meaning : PrivateCapabilities → State → ℕ → ℕ → ℕ → Meaning
draw_indexed_indirect_meaning caps s raw offset n =
    drawing caps s 0 (indirect_absent raw n) (indirect_over 20 offset n) (indexed_indirect_commands (draw_args s.draw) raw offset n)

-- ---- dispatches
abbrev pub dispatch_workgroups_meaning : State → ℕ → ℕ → ℕ → Meaning
dispatch_workgroups_meaning s x y z = records in_compute free (dispatch_commands x y z) s

abbrev pub dispatch_workgroups_indirect_meaning : State → ℕ → ℕ → Meaning
dispatch_workgroups_indirect_meaning s raw offset = records in_compute (refusing false false (eqb raw 0) false false false) (DispatchIndirect raw offset ∷ []) s

abbrev pub meaning : PrivateCapabilities → State → Call → Meaning
meaning caps s begin_encoding = begin_encoding_meaning s
meaning caps s end_encoding = end_encoding_meaning s
meaning caps s end_render_pass = end_render_meaning s
meaning caps s end_compute_pass = end_compute_meaning s
meaning caps s (begin_render_pass d label set) = begin_render_meaning caps s d label set
meaning caps s (begin_compute_pass t label set) = begin_compute_meaning s t label set
meaning caps s (transition_buffers l) = transition_buffers_meaning caps s l
meaning caps s (transition_textures l) = transition_textures_meaning caps s l
meaning caps s (clear_buffer b range) = clear_buffer_meaning s b range
meaning caps s (copy_buffer_to_buffer src dst l) = copy_buffer_to_buffer_meaning s src dst l
meaning caps s (copy_query_results set start end dst offset) = copy_query_results_meaning s set start end dst offset
meaning caps s (begin_query set i) = begin_query_meaning s set i
meaning caps s (end_query set i) = end_query_meaning s set i
meaning caps s (write_timestamp set i) = write_timestamp_meaning s set i
meaning caps s (reset_queries set start end) = reset_queries_meaning s set start end
meaning caps s (set_bind_group l i e g os) = set_bind_group_meaning s l i e g os
meaning caps s (set_immediates offset ws) = set_immediates_meaning s offset ws
meaning caps s (set_render_pipeline p) = set_render_pipeline_meaning caps s p
meaning caps s (set_compute_pipeline p) = set_compute_pipeline_meaning s p
meaning caps s (set_index_buffer raw offset format) = set_index_buffer_meaning s raw offset format
meaning caps s (set_vertex_buffer i raw offset) = set_vertex_buffer_meaning s i raw offset
meaning caps s (set_viewport r d) = set_viewport_meaning s r d
meaning caps s (set_scissor_rect r) = set_scissor_rect_meaning s r
meaning caps s (set_stencil_reference v) = set_stencil_reference_meaning s v
meaning caps s (set_blend_constants c) = set_blend_constants_meaning s c
meaning caps s (draw vertex vertices instance instances) = draw_meaning caps s vertex vertices instance instances
meaning caps s (draw_indexed first count base instance instances) = draw_indexed_meaning caps s first count base instance instances
meaning caps s (draw_indirect raw offset n) = draw_indirect_meaning caps s raw offset n
meaning caps s (draw_indexed_indirect raw offset n) = draw_indexed_indirect_meaning caps s raw offset n
meaning caps s (dispatch_workgroups x y z) = dispatch_workgroups_meaning s x y z
meaning caps s (dispatch_workgroups_indirect raw offset) = dispatch_workgroups_indirect_meaning s raw offset

-- ---- the step
-- the phase and the counts that a carried-through call leaves
abbrev pub progress_after : Meaning → Progress
progress_after m =
    record {
      phase = m.phase;
      commands = m.after.progress.commands + length m.commands;
      bytes = m.after.progress.bytes + length m.bytes;
      queries = m.after.progress.queries + length m.queries;
    }

-- the conditions of the call itself: its phase, its arguments, and room for what it appends
abbrev pub call_conditions : Rooms → State → Meaning → Conditions
call_conditions rooms s m =
    record {
      phase = not (m.allowed s.progress.phase);
      many = m.asks.many;
      range = m.asks.range;
      absent = m.asks.absent;
      kind = m.asks.kind;
      sum = m.asks.sum;
      room = m.asks.room || over_room (progress_after m) (m.handed rooms);
    }

-- the conditions of the call and of the state that it is handed
abbrev pub conditions_of : Rooms → State → Meaning → Conditions
conditions_of rooms s m = either (state_conditions s (m.handed rooms)) (call_conditions rooms s m)

-- "The smallest number whose condition holds"
unfoldable pub outcome_of : Rooms → State → Meaning → Outcome
outcome_of rooms s m = smallest (conditions_of rooms s m)

-- what a call leaves: its answer, the next state, and what it has appended
pub record Step : Type 0 where
  pub outcome : Outcome
  pub state : State
  pub commands : List Command
  pub bytes : List ℕ
  pub queries : List ℕ

-- carried through, or "nothing is appended and the state is the one handed in"
abbrev pub step_of : Rooms → State → Meaning → Step
step_of rooms s m =
    record {
      outcome = outcome_of rooms s m;
      state = cond (accepted (outcome_of rooms s m)) (with_progress (progress_after m) m.after) s;
      commands = cond (accepted (outcome_of rooms s m)) m.commands [];
      bytes = cond (accepted (outcome_of rooms s m)) m.bytes [];
      queries = cond (accepted (outcome_of rooms s m)) m.queries [];
    }

abbrev pub step : PrivateCapabilities → Rooms → State → Call → Step
step caps rooms s c = step_of rooms s (meaning caps s c)
