-- What is shown of each command that a call records, and the two ways to show it. Assumes nothing.
use mathlib.Core.Path.{◌≡◌}
use mathlib.Core.Bool.{Bool, true, false, cond}
use mathlib.Core.List.{List, ◌++◌}
use Rattle.records.specs.declared.command.Command.{Command}
use Rattle.calls.specs.Call.{Call, begin_encoding, end_encoding, begin_render_pass, end_render_pass, begin_compute_pass, end_compute_pass, transition_buffers, transition_textures}
use Rattle.calls.specs.Call.{clear_buffer, copy_buffer_to_buffer, copy_query_results, begin_query, end_query, write_timestamp, reset_queries, set_bind_group, set_immediates}
use Rattle.calls.specs.Call.{set_render_pipeline, set_compute_pipeline, set_index_buffer, set_vertex_buffer, set_viewport, set_scissor_rect, set_stencil_reference, set_blend_constants}
use Rattle.calls.specs.Call.{draw, draw_indexed, draw_indirect, draw_indexed_indirect, dispatch_workgroups, dispatch_workgroups_indirect}
use Rattle.machine.specs.Each.{Each}
use Rattle.machine.proofs.Lists.{false-true, true-false}
use Rattle.lists.specs.declared.class.Class.{Class}
use Rattle.lists.specs.declared.class.Class.TheVariants.{Draw, Clear, Dispatch, Reset, Sets, Other}
use Rattle.lists.specs.declared.limits.Used.{Used}
use Rattle.lists.specs.Class.{class_of, draws}
use Rattle.lists.specs.Limits.{keeps, breaks}
use Rattle.recorded.proofs.Shapes.{each_append, each-cond}

-- the four draw calls
abbrev pub is_draw_call : Call → Bool
is_draw_call begin_encoding = false
is_draw_call end_encoding = false
is_draw_call end_render_pass = false
is_draw_call end_compute_pass = false
is_draw_call (begin_render_pass d label set) = false
is_draw_call (begin_compute_pass t label set) = false
is_draw_call (transition_buffers l) = false
is_draw_call (transition_textures l) = false
is_draw_call (clear_buffer b range) = false
is_draw_call (copy_buffer_to_buffer src dst l) = false
is_draw_call (copy_query_results set start end dst offset) = false
is_draw_call (begin_query set i) = false
is_draw_call (end_query set i) = false
is_draw_call (write_timestamp set i) = false
is_draw_call (reset_queries set start end) = false
is_draw_call (set_bind_group l i e g os) = false
is_draw_call (set_immediates offset ws) = false
is_draw_call (set_render_pipeline p) = false
is_draw_call (set_compute_pipeline p) = false
is_draw_call (set_index_buffer raw offset format) = false
is_draw_call (set_vertex_buffer i raw offset) = false
is_draw_call (set_viewport r d) = false
is_draw_call (set_scissor_rect r) = false
is_draw_call (set_stencil_reference v) = false
is_draw_call (set_blend_constants c) = false
is_draw_call (draw vertex vertices instance instances) = true
is_draw_call (draw_indexed fst count base instance instances) = true
is_draw_call (draw_indirect raw offset n) = true
is_draw_call (draw_indexed_indirect raw offset n) = true
is_draw_call (dispatch_workgroups x y z) = false
is_draw_call (dispatch_workgroups_indirect raw offset) = false

-- a framebuffer reset
abbrev pub resets : Class → Bool
resets Draw = false
resets Clear = false
resets Dispatch = false
resets Reset = true
resets (Sets t) = false
resets Other = false

-- it breaks no limit, if w holds of the state that the call is handed; a call that is no draw call records no draw; a draw call records no framebuffer reset
pub record Good (w : Type 0) (u : Used) (d : Bool) (k : Command) : Type 0 where
  pub fits : w → breaks u k ≡ keeps
  pub calm : d ≡ false → draws (class_of k) ≡ false
  pub stays : d ≡ true → resets (class_of k) ≡ false

-- of a draw call
pub shot : {w : Type 0} {u : Used} {k : Command} → breaks u k ≡ keeps → resets (class_of k) ≡ false → Good w u true k
shot f r = record { fits = λ x. f; calm = λ e. true-false e; stays = λ e. r }

-- of another call
pub calm-if : {w : Type 0} {u : Used} {k : Command} → (w → breaks u k ≡ keeps) → draws (class_of k) ≡ false → Good w u false k
calm-if f c = record { fits = f; calm = λ e. c; stays = λ e. false-true e }

pub plain : {w : Type 0} {u : Used} {k : Command} → breaks u k ≡ keeps → draws (class_of k) ≡ false → Good w u false k
plain f c = calm-if (λ x. f) c

pub plain-either : {w : Type 0} {u : Used} (t : Bool) (x y : Command) → Good w u false x → Good w u false y → Good w u false (cond t x y)
plain-either true x y a b = a
plain-either false x y a b = b

-- of each command of a list that another call records
abbrev pub Plain : Type 0 → Used → List Command → Type 0
Plain w u cs = Each (Good w u false) cs

module _ (w : Type 0) (u : Used) where
  pub joined : (xs ys : List Command) → Plain w u xs → Plain w u ys → Plain w u (xs ++ ys)
  joined xs ys a b = each_append (Good w u false) xs ys a b

  pub chosen : (t : Bool) (xs ys : List Command) → Plain w u xs → Plain w u ys → Plain w u (cond t xs ys)
  chosen t xs ys a b = each-cond (Good w u false) t xs ys a b
