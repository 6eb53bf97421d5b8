-- The Rust's rule for instance slots, one number for all of them, and the sessions on which document 02, request 5, says that the list is the Rust's. Definitions only.
use Rattle.std.specs.Prelude.{ℕ, ◌<◌, ◌≡◌, Bool, true, false, cond, List, [], ◌∷◌, ltb, replicate, Option, None, Some}
use Rattle.records.specs.declared.check.Rooms.{Rooms}
use Rattle.records.specs.declared.pipeline.PrivateCapabilities.{PrivateCapabilities}
use Rattle.records.specs.declared.pipeline.RenderPipeline.{RenderPipeline}
use Rattle.records.specs.declared.state.State.{State}
use Rattle.slots.specs.Vertex.{stepped}
use Rattle.slots.specs.Prepare.{working}
use Rattle.calls.specs.Call.{Call, begin_encoding, end_encoding, begin_render_pass, end_render_pass, begin_compute_pass, end_compute_pass, transition_buffers, transition_textures, clear_buffer, copy_buffer_to_buffer, copy_query_results, begin_query, end_query, write_timestamp, reset_queries, set_bind_group, set_immediates, set_render_pipeline, set_compute_pipeline, set_index_buffer, set_vertex_buffer, set_viewport, set_scissor_rect, set_stencil_reference, set_blend_constants, draw, draw_indexed, draw_indirect, draw_indexed_indirect, dispatch_workgroups, dispatch_workgroups_indirect}
use Rattle.calls.specs.Parts.{with_vertex}
use Rattle.calls.specs.Step.{step}
use Rattle.book.specs.Book.{Fed, describes, known}
use Rattle.book.specs.Run.{carried, Recording, record_call}

-- ---- the Rust's rule: one number, `active_first_instance` of gles/command.rs
-- the state as it is by that rule: every slot has the number
abbrev pub numbered : ℕ → State → State
numbered n s = with_vertex (stepped s.vertex s.vertex.dirty_vbuf_mask (replicate 16 n)) s

-- what a call is to the numbers: a new list or a pass's end, a pipeline, a draw call with its working instance, or neither. An indirect call with count 0 makes no draw
pub data Turn : Type 0 where
  forgets : Turn
  pipes : RenderPipeline → Turn
  draws : ℕ → Bool → Turn
  passes : Turn

abbrev pub turn_of : PrivateCapabilities → Call → Turn
turn_of caps begin_encoding = forgets
turn_of caps end_encoding = passes
turn_of caps end_render_pass = forgets
turn_of caps end_compute_pass = passes
turn_of caps (begin_render_pass d label set) = passes
turn_of caps (begin_compute_pass t label set) = passes
turn_of caps (transition_buffers l) = passes
turn_of caps (transition_textures l) = passes
turn_of caps (clear_buffer x range) = passes
turn_of caps (copy_buffer_to_buffer src dst l) = passes
turn_of caps (copy_query_results set start end dst offset) = passes
turn_of caps (begin_query set i) = passes
turn_of caps (end_query set i) = passes
turn_of caps (write_timestamp set i) = passes
turn_of caps (reset_queries set start end) = passes
turn_of caps (set_bind_group l i e g os) = passes
turn_of caps (set_immediates offset ws) = passes
turn_of caps (set_render_pipeline p) = pipes p
turn_of caps (set_compute_pipeline p) = passes
turn_of caps (set_index_buffer raw offset format) = passes
turn_of caps (set_vertex_buffer i raw offset) = passes
turn_of caps (set_viewport r d) = passes
turn_of caps (set_scissor_rect r) = passes
turn_of caps (set_stencil_reference v) = passes
turn_of caps (set_blend_constants c) = passes
turn_of caps (draw vertex vertices instance instances) = draws (working caps instance) true
turn_of caps (draw_indexed fst count base instance instances) = draws (working caps instance) true
turn_of caps (draw_indirect raw offset n) = draws 0 (ltb 0 n)
turn_of caps (draw_indexed_indirect raw offset n) = draws 0 (ltb 0 n)
turn_of caps (dispatch_workgroups x y z) = passes
turn_of caps (dispatch_workgroups_indirect raw offset) = passes

-- the number after a carried-through call: of a draw call its working instance; a new list and a pass's end set it to 0
abbrev pub number_after : Turn → ℕ → ℕ
number_after forgets n = 0
number_after (pipes p) n = n
number_after (draws w made) n = w
number_after passes n = n

abbrev pub next_number : PrivateCapabilities → Rooms → State → ℕ → Call → ℕ
next_number caps rooms s n c = cond (carried caps rooms (numbered n s) c) (number_after (turn_of caps c) n) n

-- the list by that rule, and which calls it carries through: each call finds the one number in every slot
unfoldable pub rust_calls : PrivateCapabilities → Rooms → Recording → ℕ → List Call → Recording
rust_calls caps rooms r n [] = r
rust_calls caps rooms r n (c ∷ cs) =
    rust_calls caps rooms (record_call caps rooms (record { state = numbered n r.state; list = r.list; bytes = r.bytes; queries = r.queries }) c) (next_number caps rooms r.state n c) cs

unfoldable pub rust_fed : PrivateCapabilities → Rooms → State → ℕ → List Call → List Fed
rust_fed caps rooms s n [] = []
rust_fed caps rooms s n (c ∷ cs) =
    record { call = c; accepted = carried caps rooms (numbered n s) c } ∷ rust_fed caps rooms (step caps rooms (numbered n s) c).state (next_number caps rooms s n c) cs

-- ---- where it is the same list
-- the last pipeline of the pass
abbrev pub last_pipeline : Option RenderPipeline → Turn → Option RenderPipeline
last_pipeline o forgets = None
last_pipeline o (pipes p) = Some p
last_pipeline o (draws w made) = o
last_pipeline o passes = o

-- "each draw follows a pipeline of its own pass and all pipelines of a pass describe the same slots"
abbrev pub EvenAt : Option RenderPipeline → Turn → Type 0
EvenAt o forgets = Unit {0}
EvenAt o (pipes p) = (q : RenderPipeline) → o ≡ Some q → (i : ℕ) → i < 16 → known (describes p i) ≡ known (describes q i)
EvenAt o (draws w made) = made ≡ true → known o ≡ true
EvenAt o passes = Unit {0}

-- at each accepted call
unfoldable pub Even : PrivateCapabilities → Option RenderPipeline → List Fed → Type 0
Even caps o [] = Unit {0}
Even caps o (f ∷ fs) = (f.accepted ≡ true → EvenAt o (turn_of caps f.call)) × Even caps (cond f.accepted (last_pipeline o (turn_of caps f.call)) o) fs

-- where it is asked: on the other boards the list is the same always
abbrev pub EvenWhere : PrivateCapabilities → Option RenderPipeline → List Fed → Type 0
EvenWhere caps o fs = caps.vertex_buffer_layout ≡ true → caps.fully_featured_instancing ≡ false → Even caps o fs

-- what is recorded: the list, its marker bytes and its queries
abbrev pub SameLists : Recording → Recording → Type 0
SameLists r q = (r.list ≡ q.list) × (r.bytes ≡ q.bytes) × (r.queries ≡ q.queries)
