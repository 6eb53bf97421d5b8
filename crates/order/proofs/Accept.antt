-- Each call keeps the tie: an accepted one by its own lemma, a refused one because it changes nothing. Assumes nothing.
use Prim.Native.Nat.{ℕ, ◌+◌, ◌*◌, ◌<◌}
use mathlib.Core.Path.{◌≡◌, refl, sym, ap, ap₂, ◌∙◌, subst}
use mathlib.Core.Bool.{Bool, true, false, cond, not}
use mathlib.Core.List.{List, [], ◌++◌}
use lib.Dec.{leb, ltb}
use lib.IntN.{ℤ}
use lib.ListN.{get_or, take}
use borrow.Author.Tests.{leb-false, lt-ltb}
use Rattle.tables.specs.Tabulate.{tabulate}
use Rattle.records.specs.Outcome.{accepted}
use Rattle.records.specs.Check.{some?}
use Rattle.records.specs.declared.binding.BindGroup.{BindGroup}
use Rattle.records.specs.declared.binding.GroupEntries.{GroupEntries}
use Rattle.records.specs.declared.binding.GroupShape.{GroupShape}
use Rattle.records.specs.declared.binding.PipelineLayout.{PipelineLayout}
use Rattle.records.specs.declared.check.Rooms.{Rooms}
use Rattle.records.specs.declared.command.Command.{Command}
use Rattle.records.specs.declared.command.Command.TheVariants.{DrawIndexed, DrawIndirect, DrawIndexedIndirect}
use Rattle.records.specs.declared.pipeline.PrivateCapabilities.{PrivateCapabilities}
use Rattle.records.specs.declared.state.Phase.TheVariants.{Closed, Open, Render, Compute}
use Rattle.records.specs.declared.state.State.{State}
use Rattle.slots.specs.Prepare.{working, prepared}
use Rattle.bindings.specs.Group.{Entry, zipped, no_group, group_at, entries_of, entry_out_of_range, offset_missing}
use Rattle.bindings.specs.Immediates.{sent_descriptors, immediates_state}
use Rattle.pipeline.specs.Inner.{inner_out_of_range}
use Rattle.pipeline.specs.Vertex.{vertex_out_of_range}
use Rattle.pass.specs.Marks.{counted, begin_timestamp, push_label, pop_label, timestamp}
use Rattle.pass.specs.Render.{end_render_pass_state, end_compute_pass_state}
use Rattle.calls.specs.Call.{Call, begin_encoding, end_encoding, begin_render_pass, end_render_pass, begin_compute_pass, end_compute_pass, transition_buffers, transition_textures, clear_buffer, copy_buffer_to_buffer, copy_query_results, begin_query, end_query, write_timestamp, reset_queries, set_bind_group, set_immediates, set_render_pipeline, set_compute_pipeline, set_index_buffer, set_vertex_buffer, set_viewport, set_scissor_rect, set_stencil_reference, set_blend_constants, draw, draw_indexed, draw_indirect, draw_indexed_indirect, dispatch_workgroups, dispatch_workgroups_indirect}
use Rattle.calls.specs.Transfers.{buffer_barriers, regions_of}
use Rattle.calls.specs.Draws.{draw_command, draw_indexed_command, index_type_of, indirect_commands, indexed_indirect_commands}
use Rattle.calls.specs.Parts.{with_progress, draw_args, drawn}
use Rattle.calls.specs.Step.{meaning, progress_after, outcome_of}
use Rattle.machine.proofs.Lists.{not-false, or_left, or_right}
use Rattle.machine.specs.View.{first}
use Rattle.machine.specs.Machine.{Machine, fresh, play}
use Rattle.book.specs.Book.{Book, Bound, with_bound, enter_group, entries_in, enter, enter_draw, enter_draws, type_of, size_of}
use Rattle.book.specs.Premise.{Ready, Premise}
use Rattle.order.proofs.Own.{type-is, size_is, group_bound, group-is}
use Rattle.order.proofs.Invariant.{Tied}
use Rattle.order.proofs.Accepted.{in-phase, in-range, present, kinds}
use Rattle.order.proofs.Idle.{Idle, idle-append, idle-begin, idle-push, idle-pop, idle-timestamp, idle-buffers, idle-textures, idle-copies, idle-immediates, idle-dispatch}
use Rattle.order.proofs.Drawing.{args_of}
use Rattle.order.proofs.Keeps.{render-is, compute-is, started, idles, moves}
use Rattle.order.proofs.Calls.{by-begin-render, by-end-render, by-bind-group, by-compute-pipeline, by-index-buffer, by-screen, by-reference}
use Rattle.order.proofs.VertexCalls.{by-vertex-buffer, by-render-pipeline}
use Rattle.order.proofs.DrawCalls.{by-draw, by-indirect}

-- `begin_encoding` starts a new list: its machine is fresh
abbrev pub resumed : Call → Machine → Machine
resumed begin_encoding m = fresh
resumed end_encoding m = m
resumed end_render_pass m = m
resumed end_compute_pass m = m
resumed (begin_render_pass d label set) m = m
resumed (begin_compute_pass t label set) m = m
resumed (transition_buffers l) m = m
resumed (transition_textures l) m = m
resumed (clear_buffer x range) m = m
resumed (copy_buffer_to_buffer src dst l) m = m
resumed (copy_query_results set start end dst offset) m = m
resumed (begin_query set i) m = m
resumed (end_query set i) m = m
resumed (write_timestamp set i) m = m
resumed (reset_queries set start end) m = m
resumed (set_bind_group l i e g os) m = m
resumed (set_immediates offset ws) m = m
resumed (set_render_pipeline p) m = m
resumed (set_compute_pipeline p) m = m
resumed (set_index_buffer raw offset format) m = m
resumed (set_vertex_buffer i raw offset) m = m
resumed (set_viewport r d) m = m
resumed (set_scissor_rect r) m = m
resumed (set_stencil_reference v) m = m
resumed (set_blend_constants c) m = m
resumed (draw vertex vertices instance instances) m = m
resumed (draw_indexed fst count base instance instances) m = m
resumed (draw_indirect raw offset n) m = m
resumed (draw_indexed_indirect raw offset n) m = m
resumed (dispatch_workgroups x y z) m = m
resumed (dispatch_workgroups_indirect raw offset) m = m

-- the two indirect draws
module _ (caps : PrivateCapabilities) (s : State) (m : Machine) (b : Book) (T : Tied caps s m b) (ph : s.progress.phase ≡ Render) where
  indirect-is : (raw offset count n k l : ℕ) → (b.stage ≡ first → 0 < count → Ready b)
      → Tied caps (with_progress (record { phase = s.progress.phase; commands = n; bytes = k; queries = l }) (drawn caps 0 s))
      (play m (prepared caps s.vertex 0 ++ indirect_commands (draw_args s.draw) raw offset count)) (enter caps b (draw_indirect raw offset count))
  unfolding indirect_commands
  indirect-is raw offset count n k l ready =
      by-indirect caps s m b T ph false (λ a i. DrawIndirect a.topology raw (offset + i * 16) a.location) count ready (λ a i x. refl) n k l

  indexed-indirect-is : (raw offset count n k l : ℕ) → (b.stage ≡ first → 0 < count → Ready b)
      → Tied caps (with_progress (record { phase = s.progress.phase; commands = n; bytes = k; queries = l }) (drawn caps 0 s))
      (play m (prepared caps s.vertex 0 ++ indexed_indirect_commands (draw_args s.draw) raw offset count)) (enter caps b (draw_indexed_indirect raw offset count))
  unfolding indexed_indirect_commands
  indexed-indirect-is raw offset count n k l ready =
      subst (λ (t : ℕ). Left (λ i. DrawIndexedIndirect (args_of b).topology t raw (offset + i * 20) (args_of b).location)) (sym (type-is b.format))
      (by-indirect caps s m b T ph true (λ a i. DrawIndexedIndirect a.topology (index_type_of a.format) raw (offset + i * 20) a.location) count ready (λ a i x. refl) n k l)
    where
      Left : (ℕ → Command) → Type 0
      Left c =
          Tied caps (with_progress (record { phase = s.progress.phase; commands = n; bytes = k; queries = l }) (drawn caps 0 s))
          (play m (prepared caps s.vertex 0 ++ tabulate count (λ i. DrawIndexedIndirect s.draw.topology (index_type_of s.draw.index_format) raw (offset + i * 20) s.draw.first_instance_location))) (enter_draws true c count b)

-- the index offset and type of an indexed draw, in the book's words
indexed-command : (b : Book) (fst count : ℕ) (base : ℤ) (instance instances : ℕ)
    → draw_indexed_command (args_of b) fst count base instance instances
    ≡ DrawIndexed (args_of b).topology (type_of b.format) count (b.offset + size_of b.format * fst) base instance instances (args_of b).location
indexed-command b fst count base instance instances =
    ap₂ (λ (t n : ℕ). DrawIndexed (args_of b).topology t count (b.offset + n * fst) base instance instances (args_of b).location) (sym (type-is b.format)) (sym (size_is b.format))

-- the entries of an accepted bind group, in the book's words
entries-are : (l : PipelineLayout) (i : ℕ) (e : GroupEntries) (g : BindGroup) → leb l.group_count i ≡ false → not (group_at l i).present ≡ false
    → zipped (entries_in l i e) (take g.content_count g.contents) ≡ entries_of l i e g
entries-are l i e g low there =
    let within : ltb i l.group_count ≡ true = lt-ltb i l.group_count (leb-false l.group_count i low) in
    let group : group_at l i ≡ get_or l.groups i no_group = ap (λ (t : Bool). cond t (get_or l.groups i no_group) no_group) within in
    let present : (group_at l i).present ≡ true = not-false (group_at l i).present there in
    sym
    (ap (λ (t : Bool). zipped (cond t (take (group_at l i).entry_count e.entries) []) (take g.content_count g.contents)) present
    ∙ ap (λ (x : GroupShape). zipped (take x.entry_count e.entries) (take g.content_count g.contents)) group)

module _ (caps : PrivateCapabilities) (rooms : Rooms) (s : State) (m : Machine) (b : Book) (T : Tied caps s m b) where
  -- what an accepted call leaves
  abbrev Kept : Call → Type 0
  Kept c = Tied caps (with_progress (progress_after (meaning caps s c)) (meaning caps s c).after) (play (resumed c m) (meaning caps s c).commands) (enter caps b c)

  still : (cs : List Command) → Idle cs → (n k l : ℕ) → Tied caps (with_progress (record { phase = s.progress.phase; commands = n; bytes = k; queries = l }) s) (play m cs) b
  still cs h n k l = idles caps s m b T cs h s.pass s.immediates n k l

  pub accepts : (c : Call) → accepted (outcome_of rooms s (meaning caps s c)) ≡ true → Premise b c → Kept c
  accepts begin_encoding e P = started caps 0 0 0
  accepts end_encoding e P = moves caps s m b T [] (λ x. refl) Closed (λ st f. f) (λ st. tt) s.pass _ _ _
  accepts end_render_pass e P = by-end-render caps s m b T (render-is s.progress.phase (in-phase rooms s (meaning caps s end_render_pass) e)) (end_render_pass_state s.pass) _ _ _
  accepts end_compute_pass e P =
      moves caps s m b T (pop_label s.pass.has_pass_label ++ timestamp s.pass.end_of_pass_timestamp) (idle-append (pop_label s.pass.has_pass_label) (timestamp s.pass.end_of_pass_timestamp) (idle-pop s.pass.has_pass_label) (idle-timestamp s.pass.end_of_pass_timestamp)) Open (λ st f. f) (λ st. tt) (end_compute_pass_state s.pass) _ _ _
  accepts (begin_render_pass d label set) e P = by-begin-render caps s m b T d label set s.progress.bytes _ _ _ _
  accepts (begin_compute_pass t label set) e P =
      moves caps s m b T (begin_timestamp set t ++ push_label label s.progress.bytes) (idle-append (begin_timestamp set t) (push_label label s.progress.bytes) (idle-begin set t) (idle-push label s.progress.bytes)) Compute (λ st f. f) (λ st. tt) _ _ _ _
  accepts (transition_buffers l) e P = still (meaning caps s (transition_buffers l)).commands (idle-buffers caps (buffer_barriers l)) _ _ _
  accepts (transition_textures l) e P = still (meaning caps s (transition_textures l)).commands (idle-textures caps l) _ _ _
  accepts (clear_buffer x range) e P = still (meaning caps s (clear_buffer x range)).commands (λ n. refl) _ _ _
  accepts (copy_buffer_to_buffer src dst l) e P = still (meaning caps s (copy_buffer_to_buffer src dst l)).commands (idle-copies src dst (regions_of l)) _ _ _
  accepts (copy_query_results set start end dst offset) e P = still (meaning caps s (copy_query_results set start end dst offset)).commands (λ n. refl) _ _ _
  accepts (begin_query set i) e P = still (meaning caps s (begin_query set i)).commands (λ n. refl) _ _ _
  accepts (end_query set i) e P = still (meaning caps s (end_query set i)).commands (λ n. refl) _ _ _
  accepts (write_timestamp set i) e P = still (meaning caps s (write_timestamp set i)).commands (λ n. refl) _ _ _
  accepts (reset_queries set start end) e P = still (meaning caps s (reset_queries set start end)).commands (λ n. refl) _ _ _
  accepts (set_bind_group l i x g os) e P =
      let q = meaning caps s (set_bind_group l i x g os) in
      let r = in-range rooms s q e in
      let there = or_left (not (group_at l i).present) (offset_missing (entries_of l i x g) os.count) (present rooms s q e) in
      let xs : List Entry = entries_of l i x g in
      let named : group_bound xs (counted os) b.bound ≡ enter_group (entries_in l i x) (take g.content_count g.contents) (counted os) b.bound =
      ap (λ (ys : List Entry). group_bound ys (counted os) b.bound) (sym (entries-are l i x g (or_left (leb l.group_count i) (some? entry_out_of_range xs) r) there))
      ∙ sym (group-is (entries_in l i x) (take g.content_count g.contents) (counted os) b.bound) in
      subst (λ (y : Bound). Tied caps (with_progress (progress_after q) q.after) (play m q.commands) (with_bound y b)) named
      (by-bind-group caps s m b T xs (counted os) (or_right (leb l.group_count i) (some? entry_out_of_range xs) r) _ _ _)
  accepts (set_immediates offset ws) e P =
      idles caps s m b T (meaning caps s (set_immediates offset ws)).commands (idle-immediates (sent_descriptors s.immediates offset ws.count) s.progress.bytes) s.pass
      (immediates_state s.immediates offset (counted ws)) _ _ _
  accepts (set_render_pipeline p) e P =
      let q = meaning caps s (set_render_pipeline p) in
      let r = in-range rooms s q e in
      by-render-pipeline caps s m b T (render-is s.progress.phase (in-phase rooms s q e)) p (or_left (vertex_out_of_range p) (inner_out_of_range p.inner) r) (or_right (vertex_out_of_range p) (inner_out_of_range p.inner) r) (present rooms s q e) (kinds rooms s q e) _ _ _
  accepts (set_compute_pipeline p) e P = by-compute-pipeline caps s m b T (compute-is s.progress.phase (in-phase rooms s (meaning caps s (set_compute_pipeline p)) e)) p.inner _ _ _
  accepts (set_index_buffer raw offset format) e P = by-index-buffer caps s m b T raw offset format _ _ _
  accepts (set_vertex_buffer i raw offset) e P =
      let q = meaning caps s (set_vertex_buffer i raw offset) in
      by-vertex-buffer caps s m b T (render-is s.progress.phase (in-phase rooms s q e)) i raw offset (leb-false 16 i (in-range rooms s q e)) _ _ _
  accepts (set_viewport r d) e P = by-screen caps s m b T _ _ _ _ refl T.screen.scissor T.screen.blend _ _ _
  accepts (set_scissor_rect r) e P = by-screen caps s m b T _ _ _ _ T.screen.viewport refl T.screen.blend _ _ _
  accepts (set_stencil_reference v) e P = by-reference caps s m b T v _ _ _
  accepts (set_blend_constants c) e P = by-screen caps s m b T _ _ _ _ T.screen.viewport T.screen.scissor refl _ _ _
  accepts (draw vertex vertices instance instances) e P =
      by-draw caps s m b T (render-is s.progress.phase (in-phase rooms s (meaning caps s (draw vertex vertices instance instances)) e)) (working caps instance) P
      false (λ a. draw_command a vertex vertices instance instances) (λ a x. refl) _ _ _
  accepts (draw_indexed fst count base instance instances) e P =
      let q = meaning caps s (draw_indexed fst count base instance instances) in
      subst (λ (c : Command). Tied caps (with_progress (progress_after q) q.after) (play m q.commands) (enter_draw (working caps instance) true c b)) (indexed-command b fst count base instance instances)
      (by-draw caps s m b T (render-is s.progress.phase (in-phase rooms s q e)) (working caps instance) P
      true (λ a. draw_indexed_command a fst count base instance instances) (λ a x. refl) _ _ _)
  accepts (draw_indirect raw offset n) e P = indirect-is caps s m b T (render-is s.progress.phase (in-phase rooms s (meaning caps s (draw_indirect raw offset n)) e)) raw offset n _ _ _ P
  accepts (draw_indexed_indirect raw offset n) e P =
      indexed-indirect-is caps s m b T (render-is s.progress.phase (in-phase rooms s (meaning caps s (draw_indexed_indirect raw offset n)) e)) raw offset n _ _ _ P
  accepts (dispatch_workgroups x y z) e P = still (meaning caps s (dispatch_workgroups x y z)).commands (idle-dispatch x y z) _ _ _
  accepts (dispatch_workgroups_indirect raw offset) e P = still (meaning caps s (dispatch_workgroups_indirect raw offset)).commands (λ n. refl) _ _ _
