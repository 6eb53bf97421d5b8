-- Each command that an accepted call records, whichever of the 31 it is. Assumes nothing.
use Prim.Native.Nat.{ℕ, ◌+◌, ◌/◌, ◌≤◌}
use mathlib.Core.Path.{◌≡◌, refl}
use mathlib.Core.Bool.{true, false, ◌||◌}
use mathlib.Core.List.{List, [], ◌∷◌, ◌++◌}
use native.Mathlib.Omega.{arith}
use lib.Dec.{leb}
use lib.ListN.{length}
use Rattle.records.specs.Check.{some?, bad_descriptor}
use Rattle.records.specs.declared.check.Rooms.{Rooms}
use Rattle.records.specs.declared.command.Command.{Command}
use Rattle.records.specs.declared.pipeline.PrivateCapabilities.{PrivateCapabilities}
use Rattle.records.specs.declared.state.State.{State}
use Rattle.slots.specs.Vertex.{attributes_of}
use Rattle.slots.specs.Prepare.{working, prepared}
use Rattle.bindings.specs.Group.{entries_of, entry_out_of_range}
use Rattle.bindings.specs.Immediates.{overwritten, descriptors_of, sends, sent_descriptors}
use Rattle.bindings.specs.Placed.{bytes-size}
use Rattle.bindings.specs.Shared.{filter-good}
use Rattle.pipeline.specs.Inner.{inner_too_many, inner_out_of_range}
use Rattle.pipeline.specs.Vertex.{vertex_too_many, vertex_out_of_range}
use Rattle.pipeline.specs.Fixed.{fixed_too_many}
use Rattle.pass.specs.Marks.{Lent, Label, counted, over_run}
use Rattle.calls.specs.Call.{Call, begin_encoding, end_encoding, begin_render_pass, end_render_pass, begin_compute_pass, end_compute_pass, transition_buffers, transition_textures}
use Rattle.calls.specs.Call.{clear_buffer, copy_buffer_to_buffer, copy_query_results, begin_query, end_query, write_timestamp, reset_queries, set_bind_group, set_immediates}
use Rattle.calls.specs.Call.{set_render_pipeline, set_compute_pipeline, set_index_buffer, set_vertex_buffer, set_viewport, set_scissor_rect, set_stencil_reference, set_blend_constants}
use Rattle.calls.specs.Call.{draw, draw_indexed, draw_indirect, draw_indexed_indirect, dispatch_workgroups, dispatch_workgroups_indirect}
use Rattle.calls.specs.Draws.{draw_command, draw_indexed_command, indirect_commands, indexed_indirect_commands}
use Rattle.calls.specs.Parts.{draw_args}
use Rattle.calls.specs.Settings.{referenced}
use Rattle.calls.specs.Step.{meaning, progress_after}
use Rattle.calls.specs.Transfers.{buffer_barriers, regions_of}
use Rattle.machine.specs.Each.{Each}
use Rattle.machine.proofs.Lists.{or_left, or_right}
use Rattle.lists.specs.declared.limits.Used.{Used}
use Rattle.book.specs.Run.{carried}
use Rattle.order.proofs.Accepted.{in-range}
use Rattle.recorded.specs.Recorded.{used_of}
use Rattle.recorded.proofs.Good.{is_draw_call, Good, plain, shot}
use Rattle.recorded.proofs.Shapes.{each_append}
use Rattle.recorded.proofs.Told.{few, lent, good-attributes, good-descriptors, good-resolves, bound-below, ten-bits}
use Rattle.recorded.proofs.PassCalls.{begins-render, ends-render, begins-compute, ends-compute}
use Rattle.recorded.proofs.PipelineCalls.{sets-program, stencils, sets-pipeline}
use Rattle.recorded.proofs.BindingCalls.{words-written, binds-group, sets-immediates}
use Rattle.recorded.proofs.DrawCalls.{prepares, draws-indirect, draws-indexed-indirect}
use Rattle.recorded.proofs.TransferCalls.{transits-buffers, transits-textures, copies, dispatches, copies-queries}

-- the state holds all its words of immediates, as the array of the code does
abbrev pub Whole : State → Type 0
Whole s = length s.immediates.words ≡ 64

module _ (caps : PrivateCapabilities) (rooms : Rooms) (s : State) where
  abbrev used : Call → Used
  used c = used_of (progress_after (meaning caps s c))

  abbrev Recorded : Call → Type 0
  Recorded c = Each (Good (Whole s) (used c) (is_draw_call c)) (meaning caps s c).commands

  -- what a draw prepares, and then its own commands
  draws-after : (c : Call) (i : ℕ) (cs : List Command) → carried caps rooms s c ≡ true → Each (Good (Whole s) (used c) true) cs
      → Each (Good (Whole s) (used c) true) (prepared caps s.vertex i ++ cs)
  draws-after c i cs e h =
      each_append (Good (Whole s) (used c) true) (prepared caps s.vertex i) cs
      (prepares (Whole s) (used c) caps s.vertex i (bound-below rooms s (meaning caps s c) e) (good-attributes rooms s (meaning caps s c) e)) h

  label-lent : (label : Label) (set : Lent) → over_run label.bytes || over_run set ≡ false → over_run label.bytes ≡ false
  label-lent label set e = or_left (over_run label.bytes) (over_run set) e

  immediates : (offset : ℕ) (ws : Lent) → carried caps rooms s (set_immediates offset ws) ≡ true → Recorded (set_immediates offset ws)
  immediates offset ws e =
      let good : some? bad_descriptor (sent_descriptors s.immediates offset ws.count) ≡ false =
      filter-good (sends s.immediates.sent (offset / 4) (offset / 4 + ws.count)) (descriptors_of s.immediates) (good-descriptors rooms s (meaning caps s (set_immediates offset ws)) e) in
      sets-immediates (Whole s) (used (set_immediates offset ws)) (sent_descriptors s.immediates offset ws.count) s.progress.bytes good
      (λ n. ends (bytes-size (overwritten s.immediates.words (offset / 4) (counted ws)) (sent_descriptors s.immediates offset ws.count)
      (words-written s.immediates.words offset ws (in-range rooms s (meaning caps s (set_immediates offset ws)) e) n) good))
    where
      ends : {x y : ℕ} → x ≡ y → s.progress.bytes + y ≤ s.progress.bytes + x
      ends q = omega (arith, q)

  -- that it fits is said of a whole state, the rest of any
  pub each-command : (c : Call) → carried caps rooms s c ≡ true → Recorded c
  each-command begin_encoding e = tt
  each-command end_encoding e = tt
  each-command end_render_pass e =
      let m = meaning caps s end_render_pass in
      ends-render (Whole s) (used end_render_pass) s.pass (attributes_of s.vertex) (good-resolves rooms s m e) (ten-bits rooms s m e) (good-attributes rooms s m e)
  each-command end_compute_pass e = ends-compute (Whole s) (used end_compute_pass) s.pass.has_pass_label s.pass.end_of_pass_timestamp
  each-command (begin_render_pass d label set) e =
      let m = meaning caps s (begin_render_pass d label set) in
      begins-render (Whole s) (used (begin_render_pass d label set)) caps d label set s.progress.bytes (few rooms s m e) (label-lent label set (lent rooms s m e)) refl
  each-command (begin_compute_pass t label set) e =
      let m = meaning caps s (begin_compute_pass t label set) in
      begins-compute (Whole s) (used (begin_compute_pass t label set)) t label set s.progress.bytes (label-lent label set (lent rooms s m e)) refl
  each-command (transition_buffers l) e = transits-buffers (Whole s) (used (transition_buffers l)) caps (buffer_barriers l)
  each-command (transition_textures l) e = transits-textures (Whole s) (used (transition_textures l)) caps l
  each-command (clear_buffer b range) e = (plain refl refl, tt)
  each-command (copy_buffer_to_buffer src dst l) e = copies (Whole s) (used (copy_buffer_to_buffer src dst l)) src dst (regions_of l)
  each-command (copy_query_results set start end dst offset) e =
      let m = meaning caps s (copy_query_results set start end dst offset) in
      copies-queries (Whole s) (used (copy_query_results set start end dst offset)) set.queries s.progress.queries start end dst offset (lent rooms s m e) (in-range rooms s m e) refl
  each-command (begin_query set i) e = (plain refl refl, tt)
  each-command (end_query set i) e = (plain refl refl, tt)
  each-command (write_timestamp set i) e = (plain refl refl, tt)
  each-command (reset_queries set start end) e = tt
  each-command (set_bind_group l i x g os) e =
      let m = meaning caps s (set_bind_group l i x g os) in
      binds-group (Whole s) (used (set_bind_group l i x g os)) (entries_of l i x g) (counted os) s.bind
      (or_right (leb l.group_count i) (some? entry_out_of_range (entries_of l i x g)) (in-range rooms s m e))
  each-command (set_immediates offset ws) e = immediates offset ws e
  each-command (set_render_pipeline p) e =
      let m = meaning caps s (set_render_pipeline p) in
      sets-pipeline (Whole s) (used (set_render_pipeline p)) caps p s.vertex s.bind s.fixed
      (or_left (fixed_too_many p) (inner_too_many p.inner) (or_right (vertex_too_many p) (fixed_too_many p || inner_too_many p.inner) (few rooms s m e)))
      (or_left (vertex_out_of_range p) (inner_out_of_range p.inner) (in-range rooms s m e)) (good-attributes rooms s m e)
  each-command (set_compute_pipeline p) e = sets-program (Whole s) (used (set_compute_pipeline p)) p.inner s.bind
  each-command (set_index_buffer raw offset format) e = (plain refl refl, tt)
  each-command (set_vertex_buffer i raw offset) e = tt
  each-command (set_viewport r d) e = (plain refl refl, tt)
  each-command (set_scissor_rect r) e = (plain refl refl, tt)
  each-command (set_stencil_reference v) e = stencils (Whole s) (used (set_stencil_reference v)) (referenced v s.fixed.stencil)
  each-command (set_blend_constants c) e = (plain refl refl, tt)
  each-command (draw vertex vertices instance instances) e =
      draws-after (draw vertex vertices instance instances) (working caps instance) (draw_command (draw_args s.draw) vertex vertices instance instances ∷ []) e (shot refl refl, tt)
  each-command (draw_indexed fst count base instance instances) e =
      draws-after (draw_indexed fst count base instance instances) (working caps instance) (draw_indexed_command (draw_args s.draw) fst count base instance instances ∷ []) e (shot refl refl, tt)
  each-command (draw_indirect raw offset n) e =
      draws-after (draw_indirect raw offset n) 0 (indirect_commands (draw_args s.draw) raw offset n) e
      (draws-indirect (Whole s) (used (draw_indirect raw offset n)) (draw_args s.draw) raw offset n)
  each-command (draw_indexed_indirect raw offset n) e =
      draws-after (draw_indexed_indirect raw offset n) 0 (indexed_indirect_commands (draw_args s.draw) raw offset n) e
      (draws-indexed-indirect (Whole s) (used (draw_indexed_indirect raw offset n)) (draw_args s.draw) raw offset n)
  each-command (dispatch_workgroups x y z) e = dispatches (Whole s) (used (dispatch_workgroups x y z)) x y z
  each-command (dispatch_workgroups_indirect raw offset) e = (plain refl refl, tt)
