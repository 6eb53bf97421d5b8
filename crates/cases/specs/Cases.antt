-- Document 01's cases by computation, as rows of one table: after the calls before it, what the last call answers and records. Assumes nothing.
use Rattle.std.specs.Prelude.{ℕ, ◌≡◌, refl, Bool, true, false, ◌&&◌, List, [], ◌∷◌, ◌++◌, map, ℤ, pos, negsuc, replicate, None, Some}
use Rattle.std.specs.Float.{binary32, binary64}
use Rattle.std.specs.Float.Ieee.{of_bits, round}
use Rattle.mask.specs.Mask.{test_bit, bit_at, set_bit, without, mask_of, places_from}
use Rattle.mask.specs.By.{mask_by}
use Rattle.tables.specs.Tabulate.{tabulate}
use Rattle.numbers.specs.Convert.{clamp_to, convert_to}
use Rattle.names.specs.Start.{start_stencil_state}
use Rattle.names.specs.declared.wgt.FrontFace.TheVariants.{Ccw, Cw}
use Rattle.records.specs.Start.{start_state}
use Rattle.records.specs.Outcome.{number, smallest}
use Rattle.records.specs.Check.{some?, bad_units, among, twice}
use Rattle.records.specs.declared.binding.BindingType.TheVariants as type
use Rattle.records.specs.declared.binding.BufferBindingType.TheVariants.{Storage}
use Rattle.records.specs.declared.binding.RawBinding.TheVariants as content
use Rattle.records.specs.declared.command.Command.{Command}
use Rattle.records.specs.declared.command.Command.TheVariants.{Draw, ResetFramebuffer, BindAttachment, InvalidateAttachments, SetDrawColorBuffers, ClearColorF, ClearColorU, ClearDepthAndStencil, SetViewport, SetScissor, SetStencilFunc, SetStencilOps, SetDepth, SetDepthBias, ConfigureDepthStencil, SetVertexAttribute, SetProgram, SetPrimitive, SetColorTarget, BindBuffer, PushDebugGroup, PopDebugGroup, SetImmediates}
use Rattle.records.specs.declared.command.ColorTargetDesc.{ColorTargetDesc}
use Rattle.records.specs.declared.command.DepthBiasState.{DepthBiasState}
use Rattle.records.specs.declared.command.ImmediateDesc.{ImmediateDesc}
use Rattle.records.specs.declared.command.SampleKind.TheVariants as kind
use Rattle.records.specs.declared.command.TextureInner.TheVariants.{DefaultRenderbuffer, Texture, ExternalNativeFramebuffer}
use Rattle.records.specs.declared.command.TextureView.{TextureView}
use Rattle.records.specs.declared.command.VertexStepMode.TheVariants.{Vertex, Instance}
use Rattle.records.specs.declared.pass.ColorF64.{ColorF64}
use Rattle.records.specs.declared.pipeline.PrivateCapabilities.{PrivateCapabilities}
use Rattle.records.specs.declared.pipeline.RenderPipeline.{RenderPipeline}
use Rattle.slots.specs.Prepare.{buffer_commands, attribute_commands, sent_of}
use Rattle.bindings.specs.Group.{zipped, group_commands, group_state, textures_named, samplers_named, offsets_used, group_over}
use Rattle.bindings.specs.Immediates.{filter, immediate_commands, immediate_bytes, immediates_over}
use Rattle.numbers.specs.Bytes.{bytes_of}
use Rattle.bindings.specs.Units.{sampler_commands}
use Rattle.pipeline.specs.Inner.{changed_units}
use Rattle.pipeline.specs.Fixed.{same_targets, all_same, each_target}
use Rattle.pass.specs.Render.{no_place, full_depth, begin_render_commands, attach_colors, resolves_from, invalidations, clear_colors}
use Rattle.calls.specs.Call.{Call, begin_render_pass, end_render_pass, begin_compute_pass, end_compute_pass, set_immediates, set_render_pipeline, set_vertex_buffer, set_viewport, set_scissor_rect, set_stencil_reference, draw_indirect, dispatch_workgroups}
use Rattle.calls.specs.Draws.{indirect_commands}
use Rattle.calls.specs.Step.{step, outcome_of}
use Rattle.book.specs.Book.{Fed}
use Rattle.book.specs.Run.{record_calls, fed, begun}
use Rattle.cases.specs.Samples.{emulated, full, bare, rooms, lent, no_queries, no_label, empty_label, by_vertex, by_instance, attribute, inner_of, pipeline_of, pipeline, fixed_of, entry, bind_group, A, B, fetching, viewed, filled, pass_of, pass, bare_pass, draw_at, viewport, rect, drawn, bound}

-- a row: the board, the calls after `begin_encoding`, the last call; the number of its answer, 0 where it is carried through; the commands that it records
pub record Case : Type 0 where
  pub board : PrivateCapabilities
  pub before : List Call
  pub last : Call
  pub answer : ℕ
  pub commands : List Command

-- what is looked at: whether each call before was accepted, the answer's number, the commands
pub record Seen : Type 0 where
  pub accepted : Bool
  pub answer : ℕ
  pub commands : List Command

unfoldable pub all_accepted : List Fed → Bool
all_accepted [] = true
all_accepted (f ∷ fs) = f.accepted && all_accepted fs

-- what the row says, and what the definitions give
abbrev pub said : Case → Seen
said c = record { accepted = true; answer = c.answer; commands = c.commands }

abbrev pub seen : Case → Seen
seen c =
    let r = begun c.board rooms start_state in
    let s = step c.board rooms (record_calls c.board rooms r c.before).state c.last in
    record {
      accepted = all_accepted (fed c.board rooms r.state c.before);
      answer = number s.outcome;
      commands = s.commands;
    }

-- a row whose last call is carried through, and one whose last call is turned away
abbrev pub records : PrivateCapabilities → List Call → Call → List Command → Case
records b before last cs = record { board = b; before = before; last = last; answer = 0; commands = cs }

abbrev pub refused : ℕ → PrivateCapabilities → List Call → Call → Case
refused n b before last = record { board = b; before = before; last = last; answer = n; commands = [] }

-- ---- what the rows begin with
-- a pass with that pipeline, and buffer 7 at offset 16 in slot 0
abbrev pub with : RenderPipeline → List Call
with p = bare_pass ∷ set_render_pipeline p ∷ set_vertex_buffer 0 7 16 ∷ []

-- slot 0 with stride 65,536; slot 0 alone, and slots 0 and 1, by vertex
abbrev wide : RenderPipeline
wide = pipeline 1 (by_instance 65536 ∷ []) []

abbrev one : RenderPipeline
one = pipeline 1 (by_vertex 8 ∷ []) []

abbrev two : RenderPipeline
two = pipeline 1 (by_vertex 8 ∷ by_vertex 4 ∷ []) []

-- with a stencil whose reference is 0; with front face `Cw`; with an immediate descriptor of four bytes at 252
abbrev stenciled : RenderPipeline
stenciled = pipeline_of (inner_of 1 [] []) [] [] (Some start_stencil_state) Ccw

abbrev clockwise : RenderPipeline
clockwise = pipeline_of (inner_of 1 [] []) [] [] None Cw

abbrev last_word : ImmediateDesc
last_word = record { location = 3; ty = 9; offset = 252; size_bytes = 4 }

abbrev immediate : RenderPipeline
immediate = pipeline_of (inner_of 1 [] (last_word ∷ [])) [] [] None Ccw

-- with depth, targets that differ, and a bias; with equal targets and another bias; with neither
abbrev pub masked : ℕ → ColorTargetDesc
masked m = record { mask = m; blend = None }

abbrev biased : ℕ → DepthBiasState
biased slope = record { constant = pos 5; slope_scale = slope; clamp = 0 }

abbrev pub differing : RenderPipeline
differing = fixed_of (biased 1) (masked 15 ∷ masked 7 ∷ [])

abbrev equal : RenderPipeline
equal = fixed_of (biased 2) (masked 7 ∷ masked 7 ∷ [])

abbrev neither : RenderPipeline
neither = fixed_of (record { constant = pos 0; slope_scale = 0; clamp = 0 }) []

-- views: a Uint texture, a float texture, the default renderbuffer, an external framebuffer, depth and stencil
abbrev uint : TextureView
uint = viewed (Texture 3 3553) 1 kind.Uint false

abbrev pub float : TextureView
float = viewed (Texture 1 3553) 1 kind.Float false

abbrev pub default : TextureView
default = viewed DefaultRenderbuffer 1 kind.Float true

abbrev pub external : TextureView
external = viewed (ExternalNativeFramebuffer 6) 1 kind.Float false

abbrev pub depth_stencil : TextureView
depth_stencil = viewed (Texture 2 3553) 6 kind.Depth false

-- clear colours, by the bits of their floats
abbrev pub colour : ℕ → ℕ → ℕ → ℕ → ColorF64
colour r g b a = record { r = of_bits binary64 r; g = of_bits binary64 g; b = of_bits binary64 b; a = of_bits binary64 a }

abbrev pub black : ColorF64
black = colour 0 0 0 0

-- the default renderbuffer at place 1; at place 0, all places cleared, resolved and discarded
abbrev at_place_1 : Call
at_place_1 = pass (filled float 9 None black ∷ filled default 17 None black ∷ []) None

abbrev at_place_0 : Call
at_place_0 =
    pass (filled default 18 (Some float) (colour 0x3fe0_0000_0000_0000 0 0 0x3ff0_0000_0000_0000) ∷ filled float 18 (Some float) black ∷ [])
    (Some
    (record { view = depth_stencil; depth_ops = 18; stencil_ops = 18; clear_depth = of_bits binary32 0x3f80_0000; clear_stencil = 3 }))

-- scissor and viewport of a pass of 4 by 3
abbrev pub extents : List Command
extents = SetScissor (rect (pos 0) (pos 0) (pos 4) (pos 3)) ∷ SetViewport (rect (pos 0) (pos 0) (pos 4) (pos 3)) full_depth ∷ []

abbrev sized : ℤ → List Command
sized w = SetViewport (rect (pos 0) (pos 0) w (pos 3)) full_depth ∷ []

-- 3,972 commands: the pass has 4, each call 124
abbrev nearly : List Call
nearly = bare_pass ∷ replicate 32 (draw_indirect 7 0 124)

-- the rows; those marked P are document 01's twelve
abbrev cases : List Case
cases =
    -- P 1: "first instance 5: offset 56"
    records emulated (with A) (draw_at 5) (bound 0 56 Instance 8 ∷ drawn 5 ∷ [])
    -- P 2: "again 5: only `Draw`"
    ∷ records emulated (with A ++ draw_at 5 ∷ []) (draw_at 5) (drawn 5 ∷ [])
    -- P 3: "then 0: offset 16"
    ∷ records emulated (with A ++ draw_at 5 ∷ draw_at 5 ∷ []) (draw_at 0) (bound 0 16 Instance 8 ∷ drawn 0 ∷ [])
    -- P 4: "with full instancing, 5: offset 16"
    ∷ records full (with A) (draw_at 5) (bound 0 16 Instance 8 ∷ drawn 5 ∷ [])
    -- P 5: "without layout, attribute offset 4, instance 5: 60"
    ∷ records bare (with (fetching 4)) (draw_at 5)
    (SetVertexAttribute (Some 7) (record { step = Instance; stride = 8 }) (attribute 0 60 0) ∷ drawn 5 ∷ [])
    -- P 6: "A at 0, B at 5, A at 5", document 02, request 5: "now binds offset 56"
    ∷ records emulated (with A ++ draw_at 0 ∷ set_render_pipeline B ∷ draw_at 5 ∷ set_render_pipeline A ∷ []) (draw_at 5) (bound 0 56 Instance 8 ∷ drawn 5 ∷ [])
    -- P 7: "dispatch (0,1,1): nothing"
    ∷ records emulated (begin_compute_pass None no_label no_queries ∷ []) (dispatch_workgroups 0 1 1) []
    -- P 8: "viewport width −2.9: −2"
    ∷ records emulated (bare_pass ∷ []) (viewport (of_bits binary32 0xc039_999a)) (sized (negsuc 1))
    -- P 9: "NaN: 0"
    ∷ records emulated (bare_pass ∷ []) (viewport (of_bits binary32 0x7fc0_0000)) (sized (pos 0))
    -- P 10: "3e9: 2,147,483,647"
    ∷ records emulated (bare_pass ∷ []) (viewport (of_bits binary32 0x4f32_d05e)) (sized (pos 2147483647))
    -- P 11: "Uint colour −1.5: 0"
    ∷ records emulated [] (pass (filled uint 10 None (colour 0xbff8_0000_0000_0000 0 0 0) ∷ []) None)
    (ResetFramebuffer false ∷ BindAttachment 36064 uint None 1 ∷ extents
    ++ SetDrawColorBuffers 1 ∷ ClearColorU 0 (record { r = 0; g = 0; b = 0; a = 0 }) ∷ [])
    -- P 12: "places [empty, cleared Uint]", document 02, request 1: draw buffer 1
    ∷ records emulated []
    (pass (no_place ∷ filled uint 10 None (colour 0x401c_0000_0000_0000 0x4020_0000_0000_0000 0x4022_0000_0000_0000 0x4024_0000_0000_0000) ∷ [])
    None)
    (ResetFramebuffer false ∷ BindAttachment 36065 uint None 1 ∷ extents
    ++ SetDrawColorBuffers 2 ∷ ClearColorU 1 (record { r = 7; g = 8; b = 9; a = 10 }) ∷ [])
    -- ---- the other edges
    -- "Byte offset 252 takes one immediate word; two are refused with 3"
    ∷ records emulated (bare_pass ∷ set_render_pipeline immediate ∷ []) (set_immediates 252 (lent (305419896 ∷ []))) (SetImmediates last_word 0 ∷ [])
    ∷ refused 3 emulated (bare_pass ∷ set_render_pipeline immediate ∷ []) (set_immediates 252 (lent (1 ∷ 2 ∷ [])))
    -- "Stride 65,536 at instance 65,535 passes"
    ∷ records emulated (with wide) (draw_at 65535) (bound 0 4294901776 Instance 65536 ∷ drawn 65535 ∷ [])
    -- "2,147,483,648 is recorded as −2,147,483,648"
    ∷ records emulated (bare_pass ∷ []) (set_scissor_rect (record { x = 2147483648; y = 0; w = 4294967295; h = 1 }))
    (SetScissor (rect (negsuc 2147483647) (pos 0) (negsuc 0) (pos 1)) ∷ [])
    -- "An empty label is still pushed and popped"
    ∷ records emulated [] (begin_compute_pass None empty_label no_queries) (PushDebugGroup (record { start = 0; end = 0 }) ∷ [])
    ∷ records emulated (begin_compute_pass None empty_label no_queries ∷ []) end_compute_pass (PopDebugGroup ∷ [])
    -- "Front face `Cw` becomes GL_CCW"
    ∷ records emulated (bare_pass ∷ []) (set_render_pipeline clockwise)
    (SetProgram 1 ∷ SetPrimitive (record { front_face = 2305; cull_face = 0; unclipped_depth = false; polygon_mode = 6914 })
    ∷ ConfigureDepthStencil 0 ∷ [])
    -- "Indirect draws prepare with 0, even when their count is 0"
    ∷ records emulated (with A ++ draw_at 5 ∷ []) (draw_indirect 7 0 0) (bound 0 16 Instance 8 ∷ [])
    -- the sample session of 'The command list': the pass, and the draw with slot 0 bound
    ∷ records emulated [] bare_pass (ResetFramebuffer false ∷ extents ++ SetDrawColorBuffers 0 ∷ [])
    ∷ records emulated (bare_pass ∷ set_vertex_buffer 0 7 0 ∷ []) (draw_at 0) (Draw 0 0 3 0 1 None ∷ [])
    -- "recorded only on change. Differing targets are set one by one, equal ones once for all, an empty list once with the default"
    ∷ records emulated (bare_pass ∷ set_render_pipeline neither ∷ []) (set_render_pipeline differing)
    (SetProgram 1 ∷ SetDepthBias (biased 1) ∷ SetDepth (record { function = 513; mask = true }) ∷ ConfigureDepthStencil 2
    ∷ SetColorTarget (Some 0) (masked 15) ∷ SetColorTarget (Some 1) (masked 7) ∷ [])
    ∷ records emulated (bare_pass ∷ set_render_pipeline differing ∷ []) (set_render_pipeline differing)
    (SetProgram 1 ∷ SetDepth (record { function = 513; mask = true }) ∷ ConfigureDepthStencil 2 ∷ [])
    ∷ records emulated (bare_pass ∷ set_render_pipeline differing ∷ []) (set_render_pipeline equal)
    (SetProgram 1 ∷ SetDepthBias (biased 2) ∷ SetDepth (record { function = 513; mask = true }) ∷ ConfigureDepthStencil 2
    ∷ SetColorTarget None (masked 7) ∷ [])
    ∷ records emulated (bare_pass ∷ set_render_pipeline equal ∷ []) (set_render_pipeline neither)
    (SetProgram 1 ∷ SetDepthBias (record { constant = pos 0; slope_scale = 0; clamp = 0 }) ∷ SetDepth (record { function = 513; mask = true })
    ∷ ConfigureDepthStencil 2 ∷ SetColorTarget None (masked 15) ∷ [])
    -- a viewport whose four numbers differ; a storage buffer
    ∷ records emulated (bare_pass ∷ [])
    (set_viewport
    (record { x = of_bits binary32 0x3fc0_0000; y = of_bits binary32 0x4020_0000; w = of_bits binary32 0x4060_0000; h = of_bits binary32 0x4090_0000 })
    full_depth)
    (SetViewport (rect (pos 1) (pos 2) (pos 3) (pos 4)) full_depth ∷ [])
    ∷ records emulated (bare_pass ∷ []) (bind_group (entry 0 (type.Buffer Storage false) 4 ∷ []) (content.Buffer 6 (pos 0) (pos 16) ∷ []) [])
    (BindBuffer 37074 4 6 (pos 0) (pos 16) ∷ [])
    -- ---- 'Readings to be caught'
    -- "undescribed or unbound slots must remain dirty"
    ∷ records emulated (bare_pass ∷ set_render_pipeline one ∷ set_vertex_buffer 0 7 0 ∷ set_vertex_buffer 1 7 4 ∷ draw_at 0 ∷ set_render_pipeline two ∷ [])
    (draw_at 0) (bound 1 4 Vertex 4 ∷ drawn 0 ∷ [])
    ∷ records emulated (bare_pass ∷ set_render_pipeline two ∷ set_vertex_buffer 0 7 0 ∷ draw_at 0 ∷ set_vertex_buffer 1 7 4 ∷ []) (draw_at 0)
    (bound 1 4 Vertex 4 ∷ drawn 0 ∷ [])
    -- "A stencil reference that survives a new pipeline with stencil"
    ∷ records emulated (bare_pass ∷ set_render_pipeline stenciled ∷ []) (set_stencil_reference 9) (SetStencilFunc 1032 519 9 255 ∷ [])
    ∷ records emulated (bare_pass ∷ set_render_pipeline stenciled ∷ set_stencil_reference 9 ∷ []) (set_render_pipeline stenciled)
    (SetProgram 1 ∷ SetStencilFunc 1032 519 0 255 ∷ SetStencilOps 1032 255 (record { pass = 7680; fail = 7680; depth_fail = 7680 })
    ∷ ConfigureDepthStencil 4 ∷ [])
    -- "The framebuffer chosen by any default renderbuffer, not place 0's": at place 1, then at place 0
    ∷ records emulated [] at_place_1
    (ResetFramebuffer false ∷ BindAttachment 36064 float None 1 ∷ BindAttachment 36065 default None 1 ∷ extents ++ SetDrawColorBuffers 2 ∷ [])
    ∷ records emulated (at_place_1 ∷ []) end_render_pass (InvalidateAttachments 2 ∷ [])
    ∷ records emulated [] at_place_0
    (ResetFramebuffer true ∷ extents
    ++ SetDrawColorBuffers 2
    ∷ ClearColorF 0 (record { r = of_bits binary32 0x3f00_0000; g = of_bits binary32 0; b = of_bits binary32 0; a = of_bits binary32 0x3f80_0000; is_srgb = true })
    ∷ ClearColorF 1 (record { r = of_bits binary32 0; g = of_bits binary32 0; b = of_bits binary32 0; a = of_bits binary32 0; is_srgb = false })
    ∷ ClearDepthAndStencil (of_bits binary32 0x3f80_0000) 3 ∷ [])
    ∷ records emulated (at_place_0 ∷ []) end_render_pass []
    -- ---- the examples of 'Turned away'
    -- 1: "a draw before any pass"
    ∷ refused 1 emulated [] (draw_at 0)
    -- 2: "9 colour places"
    ∷ refused 2 emulated [] (begin_render_pass (pass_of 9 [] None) no_label no_queries)
    -- 3: "vertex slot 16"
    ∷ refused 3 emulated (bare_pass ∷ []) (set_vertex_buffer 16 7 0)
    -- 4: "attribute of slot 3, only slot 0 described"
    ∷ refused 4 emulated (bare_pass ∷ []) (set_render_pipeline (pipeline 1 (by_vertex 8 ∷ []) (attribute 0 0 3 ∷ [])))
    -- 5: "an external framebuffer beside a texture"
    ∷ refused 5 emulated [] (pass (filled external 9 None black ∷ filled float 9 None black ∷ []) None)
    -- 6: "first instance 65,536, stride 65,536, slot dirty"
    ∷ refused 6 emulated (with wide) (draw_at 65536)
    -- 7: "a draw at command 4,096"; the one at command 4,095 is carried through
    ∷ refused 7 emulated (nearly ++ draw_indirect 7 0 124 ∷ []) (draw_at 0)
    ∷ records emulated (nearly ++ draw_indirect 7 0 123 ∷ []) (draw_at 0) (Draw 0 0 3 0 1 None ∷ [])
    ∷ []

-- every row says what the definitions give
pub all-cases : map seen cases ≡ map said cases
unfolding all_accepted record_calls fed outcome_of smallest some? bad_units among twice test_bit bit_at set_bit without mask_of places_from mask_by tabulate
    clamp_to convert_to of_bits round buffer_commands attribute_commands sent_of bytes_of filter immediate_commands immediate_bytes immediates_over sampler_commands changed_units
    zipped group_commands group_state textures_named samplers_named offsets_used group_over
    same_targets all_same each_target begin_render_commands attach_colors resolves_from invalidations clear_colors indirect_commands
all-cases = refl

-- ---- what shows in the state alone
-- "Dirty bits cleared wholesale at a draw" shows in the state alone: a slot that is described or bound later is marked then
pub record Left : Type 0 where
  pub board : PrivateCapabilities
  pub calls : List Call
  pub mask : ℕ

abbrev pub left : Left → ℕ
left l = (record_calls l.board rooms (begun l.board rooms start_state) l.calls).state.vertex.dirty_vbuf_mask

-- slots 0 and 1 by vertex, and an attribute of slot 0 alone
abbrev half : RenderPipeline
half = pipeline 1 (by_vertex 8 ∷ by_vertex 4 ∷ []) (attribute 0 0 0 ∷ [])

abbrev masks : List Left
masks =
    -- slot 1 undescribed; unbound; both described and bound
    record { board = emulated; calls = bare_pass ∷ set_render_pipeline one ∷ set_vertex_buffer 0 7 0 ∷ set_vertex_buffer 1 7 4 ∷ draw_at 0 ∷ []; mask = 2 }
    ∷ record { board = emulated; calls = bare_pass ∷ set_render_pipeline two ∷ set_vertex_buffer 0 7 0 ∷ draw_at 0 ∷ []; mask = 2 }
    ∷ record { board = emulated; calls = bare_pass ∷ set_render_pipeline two ∷ set_vertex_buffer 0 7 0 ∷ set_vertex_buffer 1 7 4 ∷ draw_at 0 ∷ []; mask = 0 }
    -- without layout "only slots with an attribute then lose their bit"
    ∷ record { board = bare; calls = bare_pass ∷ set_render_pipeline half ∷ set_vertex_buffer 0 7 0 ∷ set_vertex_buffer 1 7 4 ∷ draw_at 0 ∷ []; mask = 2 }
    ∷ []

pub all-masks : map left masks ≡ map (λ (l : Left). l.mask) masks
unfolding record_calls outcome_of smallest some? bad_units among twice test_bit bit_at set_bit without mask_of places_from mask_by tabulate buffer_commands
    attribute_commands sent_of sampler_commands changed_units same_targets begin_render_commands attach_colors resolves_from invalidations clear_colors
all-masks = refl

-- the new pipeline's reference replaces the state's
abbrev replaced : List Call
replaced = bare_pass ∷ set_render_pipeline stenciled ∷ set_stencil_reference 9 ∷ set_render_pipeline stenciled ∷ []

pub reference-replaced : (record_calls emulated rooms (begun emulated rooms start_state) replaced).state.fixed.stencil ≡ start_stencil_state
unfolding record_calls outcome_of smallest some? bad_units among twice test_bit mask_of places_from mask_by tabulate sampler_commands changed_units same_targets
    begin_render_commands attach_colors resolves_from invalidations clear_colors
reference-replaced = refl
