-- Document 01's limits, passes, pipelines, bindings and single calls by computation: a second table, its rows as in `Cases`. Assumes nothing.
-- The letter and number above a row are the item's in docs/COVERAGE.md.
use Rattle.std.specs.Prelude.{◌≡◌, refl, true, false, List, [], ◌∷◌, ◌++◌, map, pos, negsuc, replicate, None, Some}
use Rattle.std.specs.Float.{binary32}
use Rattle.std.specs.Float.Ieee.{of_bits, round}
use Rattle.mask.specs.Mask.{test_bit, bit_at, set_bit, without, mask_of, places_from}
use Rattle.mask.specs.By.{mask_by}
use Rattle.tables.specs.Tabulate.{tabulate}
use Rattle.numbers.specs.Convert.{clamp_to, convert_to}
use Rattle.records.specs.Outcome.{smallest}
use Rattle.records.specs.Check.{some?, bad_units, among, twice}
use Rattle.records.specs.declared.binding.BindingType.TheVariants as type
use Rattle.records.specs.declared.binding.BufferBindingType.TheVariants.{Uniform, Storage}
use Rattle.records.specs.declared.binding.RawBinding.TheVariants as content
use Rattle.records.specs.declared.command.Command.TheVariants.{Draw, DrawIndexed, DrawIndirect, DrawIndexedIndirect, Dispatch, DispatchIndirect, ClearBuffer, CopyBufferToBuffer, SetIndexBuffer, BeginQuery, EndQuery, TimestampQuery, CopyQueryResults, ResetFramebuffer, BindAttachment, ResolveAttachment, InvalidateAttachments, SetDrawColorBuffers, ClearColorF, ClearColorI, ClearDepth, ClearStencil, BufferBarrier, TextureBarrier, SetViewport, SetScissor, SetStencilFunc, SetStencilOps, SetDepth, ConfigureDepthStencil, SetAlphaToCoverage, SetVertexAttribute, UnsetVertexAttribute, SetProgram, SetBlendConstant, SetColorTarget, BindBuffer, BindSampler, BindTexture, BindImage, PushDebugGroup, PopDebugGroup, SetImmediates, SetClipDistances}
use Rattle.records.specs.declared.command.VertexStepMode.TheVariants.{Vertex, Instance}
use Rattle.records.specs.declared.state.IndexFormat.TheVariants.{Uint16}
use Rattle.slots.specs.Prepare.{buffer_commands, attribute_commands, sent_of}
use Rattle.bindings.specs.Group.{no_group, zipped, group_commands, group_state, textures_named, samplers_named, offsets_used, group_over}
use Rattle.bindings.specs.Immediates.{filter, immediate_commands, immediate_bytes, immediates_over}
use Rattle.numbers.specs.Bytes.{bytes_of}
use Rattle.bindings.specs.Units.{sampler_commands}
use Rattle.pipeline.specs.Inner.{changed_units}
use Rattle.pipeline.specs.Fixed.{same_targets, all_same, each_target}
use Rattle.pass.specs.Render.{no_place, begin_render_commands, attach_colors, resolves_from, invalidations, clear_colors}
use Rattle.calls.specs.Call.{begin_encoding, end_encoding, begin_render_pass, end_render_pass, begin_compute_pass, end_compute_pass, transition_buffers, transition_textures, clear_buffer, copy_buffer_to_buffer, copy_query_results, begin_query, end_query, write_timestamp, reset_queries, set_immediates, set_render_pipeline, set_index_buffer, set_vertex_buffer, set_stencil_reference, set_blend_constants, draw_indexed, draw_indirect, draw_indexed_indirect, dispatch_workgroups, dispatch_workgroups_indirect}
use Rattle.calls.specs.Draws.{indirect_commands, indexed_indirect_commands}
use Rattle.calls.specs.Transfers.{barriers_of, buffer_barrier_commands, texture_uses, copies_of}
use Rattle.calls.specs.Step.{outcome_of}
use Rattle.book.specs.Run.{record_calls, fed}
use Rattle.cases.specs.Samples.{emulated, full, bare, lent, no_queries, no_label, by_vertex, by_instance, attribute, pipeline, entry, bind_group, A, B, fetching, filled, pass, bare_pass, draw_at, rect, drawn, bound}
use Rattle.cases.specs.Cases.{Case, seen, said, all_accepted, records, refused, with, masked, differing, float, default, external, depth_stencil, colour, black, extents}
use Rattle.cases.specs.EdgeSamples.{multisampled, unsynchronized, sint, into, into_buffer, depth_alone, stencil_alone, pass_by, half, deep, resolved, resolving, two_queries, many_queries, labelled, full_bytes, marked, compute, last_slot, attributed, stepping, fetched, at_offset, special, keeps, face, two_faced, both_units, unit_4, computing, counting, located, taking, described, sending, buffer, texture, image, sampler, bind_one, shape, grouped, vertices, indices, no_buffer, triangles, cleared, extent}

-- ---- the rows
abbrev edges : List Case
edges =
    -- ---- places, slots and kinds
    -- T2: 8 colour places, the last one filled
    records emulated [] (pass (replicate 7 no_place ++ filled float 9 None black ∷ []) None)
    (ResetFramebuffer false ∷ BindAttachment 36071 float None 1 ∷ extents ++ SetDrawColorBuffers 8 ∷ [])
    -- T3: vertex slot 15, and a draw that binds it
    ∷ records emulated (bare_pass ∷ []) (set_vertex_buffer 15 7 16) []
    ∷ records emulated (bare_pass ∷ set_render_pipeline last_slot ∷ set_vertex_buffer 15 7 16 ∷ []) (draw_at 0) (bound 15 16 Vertex 8 ∷ drawn 0 ∷ [])
    -- P2, T5: an external framebuffer alone has no draw buffer count; beside an empty place it is refused
    ∷ records emulated [] (pass (filled external 9 None black ∷ []) None)
    (ResetFramebuffer false ∷ BindAttachment 36064 external None 1 ∷ extents)
    ∷ refused 5 emulated [] (pass (filled external 9 None black ∷ no_place ∷ []) None)
    -- P4, T5: a depth kind cleared as colour; loaded it passes
    ∷ refused 5 emulated [] (pass (filled depth_stencil 10 None black ∷ []) None)
    ∷ records emulated [] (pass (filled depth_stencil 9 None black ∷ []) None)
    (ResetFramebuffer false ∷ BindAttachment 36064 depth_stencil None 1 ∷ extents ++ SetDrawColorBuffers 1 ∷ [])
    -- P4: a Sint colour of −1.5, 2 to the 32, NaN and 2.9
    ∷ records emulated []
    (pass (filled sint 10 None (colour 0xbff8_0000_0000_0000 0x41f0_0000_0000_0000 0x7ff8_0000_0000_0000 0x4007_3333_3333_3333) ∷ []) None)
    (ResetFramebuffer false ∷ BindAttachment 36064 sint None 1 ∷ extents
    ++ SetDrawColorBuffers 1 ∷ ClearColorI 0 (record { r = negsuc 0; g = pos 2147483647; b = pos 0; a = pos 2 }) ∷ [])
    -- P4, request 1: [cleared float, empty, cleared Sint] and a cleared depth; seven empty places and a cleared one; the default renderbuffer at place 0
    ∷ records emulated [] (pass (filled float 10 None black ∷ no_place ∷ filled sint 10 None black ∷ []) (half depth_alone 18 17))
    (ResetFramebuffer false ∷ BindAttachment 36064 float None 1 ∷ BindAttachment 36066 sint None 1 ∷ BindAttachment 36096 depth_alone None 1 ∷ extents
    ++ SetDrawColorBuffers 3 ∷ cleared ∷ ClearColorI 2 (record { r = pos 0; g = pos 0; b = pos 0; a = pos 0 }) ∷ ClearDepth (of_bits binary32 0x3f00_0000) ∷ [])
    ∷ records emulated [] (pass (replicate 7 no_place ++ filled sint 10 None black ∷ []) None)
    (ResetFramebuffer false ∷ BindAttachment 36071 sint None 1 ∷ extents ++ SetDrawColorBuffers 8 ∷ ClearColorI 7 (record { r = pos 0; g = pos 0; b = pos 0; a = pos 0 }) ∷ [])
    ∷ records emulated [] (pass (filled default 10 None black ∷ no_place ∷ filled sint 10 None black ∷ []) None)
    (ResetFramebuffer true ∷ extents
    ++ SetDrawColorBuffers 3
    ∷ ClearColorF 0 (record { r = of_bits binary32 0; g = of_bits binary32 0; b = of_bits binary32 0; a = of_bits binary32 0; is_srgb = true })
    ∷ ClearColorI 2 (record { r = pos 0; g = pos 0; b = pos 0; a = pos 0 })
    ∷ [])
    -- T5: a buffer for a texture's, an image's and a sampler's entry
    ∷ refused 5 emulated (bare_pass ∷ []) (bind_one type.Texture 1 (buffer (pos 0)))
    ∷ refused 5 emulated (bare_pass ∷ []) (bind_one type.StorageTexture 1 (buffer (pos 0)))
    ∷ refused 5 emulated (bare_pass ∷ []) (bind_one type.Sampler 1 (buffer (pos 0)))
    -- T5: a location twice
    ∷ refused 5 emulated (bare_pass ∷ []) (set_render_pipeline (pipeline 1 (by_vertex 8 ∷ []) (attribute 2 0 0 ∷ attribute 5 0 0 ∷ attribute 2 4 0 ∷ [])))
    -- ---- passes
    -- N6: an extent of 2,147,483,648 by 4,294,967,295
    ∷ records emulated [] (begin_render_pass (pass_by 2147483648 4294967295 1 [] None) no_label no_queries)
    (ResetFramebuffer false
    ∷ SetScissor (rect (pos 0) (pos 0) (negsuc 2147483647) (negsuc 0))
    ∷ SetViewport (rect (pos 0) (pos 0) (negsuc 2147483647) (negsuc 0)) (record { start = of_bits binary32 0; end = of_bits binary32 0x3f80_0000 })
    ∷ SetDrawColorBuffers 0 ∷ [])
    -- P5: depth alone cleared, both discarded: a view without stencil has none to invalidate
    ∷ records emulated [] (deep depth_alone 18 17)
    (ResetFramebuffer false ∷ BindAttachment 36096 depth_alone None 1 ∷ extents ++ SetDrawColorBuffers 0 ∷ ClearDepth (of_bits binary32 0x3f00_0000) ∷ [])
    ∷ records emulated (deep depth_alone 18 17 ∷ []) end_render_pass (InvalidateAttachments 256 ∷ [])
    -- P5: stencil alone
    ∷ records emulated [] (deep stencil_alone 17 18)
    (ResetFramebuffer false ∷ BindAttachment 36128 stencil_alone None 1 ∷ extents ++ SetDrawColorBuffers 0 ∷ ClearStencil 3 ∷ [])
    ∷ records emulated (deep stencil_alone 17 18 ∷ []) end_render_pass (InvalidateAttachments 512 ∷ [])
    -- P5: both in one view, neither cleared
    ∷ records emulated [] (deep depth_stencil 17 17)
    (ResetFramebuffer false ∷ BindAttachment 33306 depth_stencil None 1 ∷ extents ++ SetDrawColorBuffers 0 ∷ [])
    ∷ records emulated (deep depth_stencil 17 17 ∷ []) end_render_pass (InvalidateAttachments 768 ∷ [])
    -- P6: place 0 is resolved in place, place 1 at the end
    ∷ records multisampled [] (resolving (resolved 18 into ∷ resolved 17 into ∷ []))
    (ResetFramebuffer false ∷ BindAttachment 36064 into None 4 ∷ BindAttachment 36065 float (Some 5) 1 ∷ extents
    ++ SetDrawColorBuffers 2 ∷ cleared ∷ [])
    ∷ records multisampled (resolving (resolved 18 into ∷ resolved 17 into ∷ []) ∷ []) end_render_pass
    (ResolveAttachment 36065 into extent ∷ InvalidateAttachments 2 ∷ [])
    -- P6: not in place: what is stored, what goes to a renderbuffer, and on a board without the flag
    ∷ records multisampled [] (resolving (resolved 9 into ∷ []))
    (ResetFramebuffer false ∷ BindAttachment 36064 float (Some 5) 1 ∷ extents ++ SetDrawColorBuffers 1 ∷ [])
    ∷ records multisampled (resolving (resolved 9 into ∷ []) ∷ []) end_render_pass (ResolveAttachment 36064 into extent ∷ [])
    ∷ records multisampled [] (resolving (resolved 17 into_buffer ∷ []))
    (ResetFramebuffer false ∷ BindAttachment 36064 float (Some 5) 1 ∷ extents ++ SetDrawColorBuffers 1 ∷ [])
    ∷ records multisampled (resolving (resolved 17 into_buffer ∷ []) ∷ []) end_render_pass
    (ResolveAttachment 36064 into_buffer extent ∷ InvalidateAttachments 1 ∷ [])
    ∷ records emulated [] (resolving (resolved 17 into ∷ []))
    (ResetFramebuffer false ∷ BindAttachment 36064 float (Some 5) 1 ∷ extents ++ SetDrawColorBuffers 1 ∷ [])
    ∷ records emulated (resolving (resolved 17 into ∷ []) ∷ []) end_render_pass
    (ResolveAttachment 36064 into extent ∷ InvalidateAttachments 1 ∷ [])
    -- P7: without layout the end unsets the attributes; with layout the list is empty
    ∷ records bare (bare_pass ∷ set_render_pipeline attributed ∷ []) end_render_pass (UnsetVertexAttribute 2 ∷ UnsetVertexAttribute 5 ∷ [])
    ∷ records emulated (bare_pass ∷ set_render_pipeline attributed ∷ []) end_render_pass []
    -- P1, P7: the order of a beginning and of an end, with all that these have
    ∷ records bare [] marked
    (TimestampQuery 31 ∷ PushDebugGroup (record { start = 0; end = 2 }) ∷ ResetFramebuffer false ∷ BindAttachment 36064 float (Some 5) 1 ∷ extents
    ++ SetDrawColorBuffers 1 ∷ [])
    ∷ records bare (marked ∷ set_render_pipeline attributed ∷ []) end_render_pass
    (ResolveAttachment 36064 into extent ∷ InvalidateAttachments 1 ∷ PopDebugGroup ∷ UnsetVertexAttribute 2 ∷ UnsetVertexAttribute 5
    ∷ TimestampQuery 32 ∷ [])
    -- P7: an end empties primitive and colour targets, and leaves the depth bias
    ∷ records emulated (bare_pass ∷ set_render_pipeline differing ∷ end_render_pass ∷ bare_pass ∷ []) (set_render_pipeline differing)
    (SetProgram 1 ∷ triangles ∷ SetDepth (record { function = 513; mask = true }) ∷ ConfigureDepthStencil 2
    ∷ SetColorTarget (Some 0) (masked 15) ∷ SetColorTarget (Some 1) (masked 7) ∷ [])
    -- P7: an end empties the dirty mask and leaves descriptions and bindings; it empties the first instance
    ∷ records emulated (with A ++ end_render_pass ∷ bare_pass ∷ set_render_pipeline A ∷ []) (draw_at 0) (drawn 0 ∷ [])
    ∷ records emulated (with A ++ draw_at 5 ∷ end_render_pass ∷ bare_pass ∷ set_render_pipeline A ∷ []) (draw_at 5)
    (bound 0 56 Instance 8 ∷ drawn 5 ∷ [])
    -- ---- pipelines
    -- L5: with layout a pipeline sets its attributes, with no buffer; without, it unsets the old ones
    ∷ records emulated (bare_pass ∷ []) (set_render_pipeline attributed)
    (SetVertexAttribute None (record { step = Vertex; stride = 8 }) (attribute 2 0 0)
    ∷ SetVertexAttribute None (record { step = Vertex; stride = 8 }) (attribute 5 4 0)
    ∷ SetProgram 1 ∷ triangles ∷ ConfigureDepthStencil 0 ∷ [])
    ∷ records bare (bare_pass ∷ []) (set_render_pipeline attributed) (SetProgram 1 ∷ triangles ∷ ConfigureDepthStencil 0 ∷ [])
    ∷ records bare (bare_pass ∷ set_render_pipeline attributed ∷ []) (set_render_pipeline B)
    (UnsetVertexAttribute 2 ∷ UnsetVertexAttribute 5 ∷ SetProgram 2 ∷ ConfigureDepthStencil 0 ∷ [])
    -- L3: clip distances, on, unchanged and off
    ∷ records emulated (bare_pass ∷ []) (set_render_pipeline (special None 3))
    (SetProgram 1 ∷ triangles ∷ ConfigureDepthStencil 0 ∷ SetClipDistances 0 3 ∷ [])
    ∷ records emulated (bare_pass ∷ set_render_pipeline (special None 3) ∷ []) (set_render_pipeline (special None 3))
    (SetProgram 1 ∷ ConfigureDepthStencil 0 ∷ [])
    ∷ records emulated (bare_pass ∷ set_render_pipeline (special None 3) ∷ []) (set_render_pipeline B)
    (SetProgram 2 ∷ ConfigureDepthStencil 0 ∷ SetClipDistances 3 0 ∷ [])
    -- L3: alpha to coverage, on and off
    ∷ records emulated (bare_pass ∷ []) (counting true 0 0 0 0) (SetProgram 1 ∷ triangles ∷ ConfigureDepthStencil 0 ∷ SetAlphaToCoverage true ∷ [])
    ∷ records emulated (bare_pass ∷ counting true 0 0 0 0 ∷ []) (set_render_pipeline B)
    (SetProgram 2 ∷ ConfigureDepthStencil 0 ∷ SetAlphaToCoverage false ∷ [])
    -- L2: faces that read differently, a reference for both, and faces that write differently
    ∷ records emulated (bare_pass ∷ []) (set_render_pipeline (two_faced (face 15 255)))
    (SetProgram 1 ∷ triangles ∷ SetStencilFunc 1028 519 0 255 ∷ SetStencilFunc 1029 519 0 15
    ∷ SetStencilOps 1032 255 keeps ∷ ConfigureDepthStencil 4 ∷ [])
    ∷ records emulated (bare_pass ∷ set_render_pipeline (two_faced (face 15 255)) ∷ []) (set_stencil_reference 9)
    (SetStencilFunc 1028 519 9 255 ∷ SetStencilFunc 1029 519 9 15 ∷ [])
    ∷ records emulated (bare_pass ∷ []) (set_render_pipeline (two_faced (face 255 15)))
    (SetProgram 1 ∷ triangles ∷ SetStencilFunc 1032 519 0 255 ∷ SetStencilOps 1028 255 keeps
    ∷ SetStencilOps 1029 15 keeps ∷ ConfigureDepthStencil 4 ∷ [])
    -- L6: a compute pipeline binds the samplers of the units that it changes, set or not
    ∷ records emulated (compute ∷ []) (computing both_units) (SetProgram 3 ∷ BindSampler 1 None ∷ BindSampler 4 None ∷ [])
    ∷ records emulated (compute ∷ bind_one type.Sampler 2 sampler ∷ []) (computing both_units)
    (SetProgram 3 ∷ BindSampler 1 (Some 8) ∷ BindSampler 4 (Some 8) ∷ [])
    ∷ records emulated (compute ∷ bind_one type.Sampler 2 sampler ∷ computing both_units ∷ []) (computing both_units) (SetProgram 3 ∷ [])
    ∷ records emulated (compute ∷ bind_one type.Sampler 2 sampler ∷ computing both_units ∷ []) (computing unit_4)
    (SetProgram 3 ∷ BindSampler 1 None ∷ [])
    -- V5: a draw has the pipeline's instance location
    ∷ records emulated (bare_pass ∷ set_render_pipeline (special (Some 0) 0) ∷ []) (draw_at 5) (Draw 4 0 3 5 1 (Some 0) ∷ [])
    -- L1, T2: 16 slots, 16 attributes, 8 targets and 192 descriptors; one more of each
    ∷ records bare (bare_pass ∷ []) (counting false 16 16 8 192)
    (SetProgram 1 ∷ triangles ∷ ConfigureDepthStencil 0 ∷ SetColorTarget None (masked 15) ∷ [])
    ∷ refused 2 bare (bare_pass ∷ []) (counting false 17 16 8 192)
    ∷ refused 2 bare (bare_pass ∷ []) (counting false 16 17 8 192)
    ∷ refused 2 bare (bare_pass ∷ []) (counting false 16 16 9 192)
    ∷ refused 2 bare (bare_pass ∷ []) (counting false 16 16 8 193)
    -- L1, T3: location 15 and slot 15; 16 of either
    ∷ records bare (bare_pass ∷ []) (located 15 15) (SetProgram 1 ∷ triangles ∷ ConfigureDepthStencil 0 ∷ [])
    ∷ refused 3 bare (bare_pass ∷ []) (located 16 15)
    ∷ refused 3 bare (bare_pass ∷ []) (located 15 16)
    -- T3: sampler number 15, and 16
    ∷ records emulated (bare_pass ∷ []) (taking 15) (SetProgram 1 ∷ BindSampler 0 None ∷ triangles ∷ ConfigureDepthStencil 0 ∷ [])
    ∷ refused 3 emulated (bare_pass ∷ []) (taking 16)
    -- L1, T3: a descriptor that ends at byte 256, one beyond, an offset and a size that are no multiples of 4
    ∷ records emulated (bare_pass ∷ []) (sending (described 240 16 ∷ [])) (SetProgram 1 ∷ triangles ∷ ConfigureDepthStencil 0 ∷ [])
    ∷ refused 3 emulated (bare_pass ∷ []) (sending (described 244 16 ∷ []))
    ∷ refused 3 emulated (bare_pass ∷ []) (sending (described 2 4 ∷ []))
    ∷ refused 3 emulated (bare_pass ∷ []) (sending (described 4 2 ∷ []))
    -- ---- bindings
    -- B1: an image at slot 200
    ∷ records emulated (bare_pass ∷ []) (bind_one type.StorageTexture 200 (content.Image image)) (BindImage 200 image ∷ [])
    -- B1, B2: a texture and a sampler for two units
    ∷ records emulated (compute ∷ computing both_units ∷ [])
    (bind_group (entry 0 type.Texture 1 ∷ entry 1 type.Sampler 2 ∷ []) (texture ∷ sampler ∷ []) [])
    (BindTexture 1 9 3553 1 (record { start = 0; end = 2 }) ∷ BindSampler 1 (Some 8) ∷ BindSampler 4 (Some 8) ∷ [])
    -- B2: the same sampler again
    ∷ records emulated (compute ∷ computing both_units ∷ bind_one type.Sampler 2 sampler ∷ []) (bind_one type.Sampler 2 sampler)
    (BindSampler 1 (Some 8) ∷ BindSampler 4 (Some 8) ∷ [])
    -- B1: more entries than contents, more contents than entries: T10, what is left over is not looked at
    ∷ records emulated (bare_pass ∷ [])
    (bind_group (entry 0 (type.Buffer Uniform true) 3 ∷ entry 1000 (type.Buffer Uniform true) 256 ∷ []) (buffer (pos 4) ∷ []) (256 ∷ []))
    (BindBuffer 35345 3 6 (pos 260) (pos 16) ∷ [])
    ∷ records emulated (bare_pass ∷ [])
    (bind_group (entry 0 (type.Buffer Uniform false) 3 ∷ []) (buffer (pos 4) ∷ buffer (negsuc 0) ∷ sampler ∷ []) [])
    (BindBuffer 35345 3 6 (pos 4) (pos 16) ∷ [])
    -- N5: dynamic offsets in order; T4: one absent
    ∷ records emulated (bare_pass ∷ [])
    (bind_group (entry 0 (type.Buffer Uniform true) 0 ∷ entry 1 (type.Buffer Uniform false) 1 ∷ entry 2 (type.Buffer Storage true) 2 ∷ [])
    (buffer (pos 4) ∷ buffer (pos 8) ∷ buffer (pos 16) ∷ []) (256 ∷ 512 ∷ []))
    (BindBuffer 35345 0 6 (pos 260) (pos 16) ∷ BindBuffer 35345 1 6 (pos 8) (pos 16) ∷ BindBuffer 37074 2 6 (pos 528) (pos 16) ∷ [])
    ∷ refused 4 emulated (bare_pass ∷ [])
    (bind_group (entry 0 (type.Buffer Uniform true) 0 ∷ entry 2 (type.Buffer Storage true) 2 ∷ []) (buffer (pos 4) ∷ buffer (pos 16) ∷ []) (256 ∷ []))
    -- T6: offset and dynamic offset together 2,147,483,647, and one more
    ∷ records emulated (bare_pass ∷ []) (bind_group (entry 0 (type.Buffer Uniform true) 0 ∷ []) (buffer (pos 4) ∷ []) (2147483643 ∷ []))
    (BindBuffer 35345 0 6 (pos 2147483647) (pos 16) ∷ [])
    ∷ refused 6 emulated (bare_pass ∷ []) (bind_group (entry 0 (type.Buffer Uniform true) 0 ∷ []) (buffer (pos 4) ∷ []) (2147483644 ∷ []))
    -- B3, T2: 8 groups, 64 entries and 64 contents; one more of each, of entries also in a group that is not named
    ∷ records emulated (bare_pass ∷ []) (grouped (replicate 8 (shape 1)) 8 7 1) (BindBuffer 35345 3 6 (pos 0) (pos 16) ∷ [])
    ∷ refused 2 emulated (bare_pass ∷ []) (grouped (replicate 8 (shape 1)) 9 7 1)
    ∷ records emulated (bare_pass ∷ []) (grouped (shape 64 ∷ []) 1 0 64) (replicate 64 (BindBuffer 35345 3 6 (pos 0) (pos 16)))
    ∷ refused 2 emulated (bare_pass ∷ []) (grouped (shape 65 ∷ []) 1 0 1)
    ∷ refused 2 emulated (bare_pass ∷ []) (grouped (shape 1 ∷ shape 65 ∷ []) 2 0 1)
    ∷ refused 2 emulated (bare_pass ∷ []) (grouped (shape 1 ∷ []) 1 0 65)
    -- T3: a group past the layout; T4: one without a record
    ∷ refused 3 emulated (bare_pass ∷ []) (grouped (replicate 8 (shape 1)) 8 8 1)
    ∷ refused 3 emulated (bare_pass ∷ []) (grouped (replicate 8 (shape 1)) 2 2 1)
    ∷ refused 4 emulated (bare_pass ∷ []) (grouped (shape 1 ∷ no_group ∷ []) 2 1 1)
    -- T3: texture and sampler slots 15 and 16, buffer slots 255 and past the table
    ∷ records emulated (bare_pass ∷ []) (bind_one type.Texture 15 texture)
    (BindTexture 15 9 3553 1 (record { start = 0; end = 2 }) ∷ BindSampler 15 None ∷ [])
    ∷ refused 3 emulated (bare_pass ∷ []) (bind_one type.Texture 16 texture)
    ∷ records emulated (bare_pass ∷ []) (bind_one type.Sampler 15 sampler) []
    ∷ refused 3 emulated (bare_pass ∷ []) (bind_one type.Sampler 16 sampler)
    ∷ records emulated (bare_pass ∷ []) (bind_one (type.Buffer Uniform false) 255 (buffer (pos 0))) (BindBuffer 35345 255 6 (pos 0) (pos 16) ∷ [])
    ∷ refused 3 emulated (bare_pass ∷ []) (bind_one (type.Buffer Uniform false) 256 (buffer (pos 0)))
    -- T3: binding numbers 999 and 1,000, a negative offset
    ∷ records emulated (bare_pass ∷ []) (bind_group (entry 999 (type.Buffer Uniform false) 3 ∷ []) (buffer (pos 0) ∷ []) [])
    (BindBuffer 35345 3 6 (pos 0) (pos 16) ∷ [])
    ∷ refused 3 emulated (bare_pass ∷ []) (bind_group (entry 1000 (type.Buffer Uniform false) 3 ∷ []) (buffer (pos 0) ∷ []) [])
    ∷ refused 3 emulated (bare_pass ∷ []) (bind_one (type.Buffer Uniform false) 3 (buffer (negsuc 0)))
    -- B4: every descriptor is sent, whatever words are set
    ∷ records emulated (bare_pass ∷ sending (described 0 8 ∷ described 16 4 ∷ []) ∷ []) (set_immediates 252 (lent (1 ∷ [])))
    (SetImmediates (described 0 8) 0 ∷ SetImmediates (described 16 4) 8 ∷ [])
    -- B3: no word from word 64 on, and from word 65; a byte offset that is no multiple of 4
    ∷ records emulated (bare_pass ∷ []) (set_immediates 256 (lent [])) []
    ∷ refused 3 emulated (bare_pass ∷ []) (set_immediates 260 (lent []))
    ∷ refused 3 emulated (bare_pass ∷ []) (set_immediates 2 (lent []))
    -- T7, T9: more words than are lent
    ∷ refused 7 emulated (bare_pass ∷ []) (set_immediates 0 (record { run = 1 ∷ []; count = 2 }))
    -- ---- transitions, clears, copies
    -- O1: of two buffers the one that was storage before
    ∷ records emulated [] (transition_buffers (record { run = 7 ∷ 256 ∷ 32 ∷ 8 ∷ 32 ∷ 256 ∷ []; count = 2 })) (BufferBarrier 7 32 ∷ [])
    -- T10: an absent buffer that is skipped, and one that is not; on a board without barriers all are
    ∷ records emulated [] (transition_buffers (record { run = 0 ∷ 32 ∷ 256 ∷ 7 ∷ 257 ∷ 1 ∷ []; count = 2 })) (BufferBarrier 7 1 ∷ [])
    ∷ refused 4 emulated [] (transition_buffers (record { run = 7 ∷ 256 ∷ 32 ∷ 0 ∷ 256 ∷ 32 ∷ []; count = 2 }))
    ∷ records unsynchronized [] (transition_buffers (record { run = 7 ∷ 256 ∷ 32 ∷ 0 ∷ 256 ∷ 32 ∷ []; count = 2 })) []
    -- O1: one command for all textures that were written before; none where nothing follows, none without barriers
    ∷ records emulated [] (transition_textures (record { run = 512 ∷ 4 ∷ 1024 ∷ 8 ∷ 16 ∷ 1 ∷ []; count = 3 })) (TextureBarrier 12 ∷ [])
    ∷ records emulated [] (transition_textures (record { run = 512 ∷ 0 ∷ 16 ∷ 1 ∷ []; count = 2 })) []
    ∷ records unsynchronized [] (transition_textures (record { run = 512 ∷ 4 ∷ []; count = 1 })) []
    -- O1: a clear, also of an absent buffer, which the Rust does not unwrap
    ∷ records emulated [] (clear_buffer vertices (record { start = 4; end = 64 })) (ClearBuffer 7 34962 (record { start = 4; end = 64 }) ∷ [])
    ∷ records emulated [] (clear_buffer no_buffer (record { start = 4; end = 0 })) (ClearBuffer 0 34963 (record { start = 4; end = 0 }) ∷ [])
    -- O1: copies between two targets, and within one
    ∷ records emulated [] (copy_buffer_to_buffer vertices indices (record { run = 0 ∷ 16 ∷ 4 ∷ 8 ∷ 32 ∷ 12 ∷ []; count = 2 }))
    (CopyBufferToBuffer 7 34962 8 34963 (record { src_offset = 0; dst_offset = 16; size = 4 })
    ∷ CopyBufferToBuffer 7 34962 8 34963 (record { src_offset = 8; dst_offset = 32; size = 12 }) ∷ [])
    ∷ records emulated [] (copy_buffer_to_buffer vertices vertices (record { run = 0 ∷ 16 ∷ 4 ∷ []; count = 1 }))
    (CopyBufferToBuffer 7 36662 7 36663 (record { src_offset = 0; dst_offset = 16; size = 4 }) ∷ [])
    -- T3: a copy size of 0; T7, T9: more copies than are lent
    ∷ refused 3 emulated [] (copy_buffer_to_buffer vertices indices (record { run = 0 ∷ 16 ∷ 4 ∷ 8 ∷ 32 ∷ 0 ∷ []; count = 2 }))
    ∷ refused 7 emulated [] (copy_buffer_to_buffer vertices indices (record { run = 0 ∷ 16 ∷ 4 ∷ []; count = 2 }))
    -- ---- queries
    -- O1: the last query of a set, and T3: one past it
    ∷ records emulated [] (begin_query two_queries 1) (BeginQuery 32 36392 ∷ [])
    ∷ refused 3 emulated [] (begin_query two_queries 2)
    ∷ records emulated [] (end_query two_queries 1) (EndQuery 36392 ∷ [])
    ∷ refused 3 emulated [] (end_query two_queries 2)
    ∷ records emulated (bare_pass ∷ []) (write_timestamp two_queries 0) (TimestampQuery 31 ∷ [])
    ∷ refused 3 emulated (bare_pass ∷ []) (write_timestamp two_queries 2)
    ∷ records emulated (compute ∷ []) (reset_queries two_queries 0 2) []
    -- O1: results go to the list's queries, one call's after another's
    ∷ records emulated [] (copy_query_results two_queries 0 2 vertices 64) (CopyQueryResults (record { start = 0; end = 2 }) 7 34962 64 ∷ [])
    ∷ records emulated (copy_query_results two_queries 0 2 vertices 64 ∷ []) (copy_query_results two_queries 1 2 indices 0)
    (CopyQueryResults (record { start = 2; end = 3 }) 8 34963 0 ∷ [])
    -- T3: a range that ends before it starts, and one past the set
    ∷ refused 3 emulated [] (copy_query_results two_queries 2 1 vertices 64)
    ∷ refused 3 emulated [] (copy_query_results two_queries 1 3 vertices 64)
    -- ---- dispatches
    -- O1: nothing where a count is 0
    ∷ records emulated (compute ∷ []) (dispatch_workgroups 1 2 3) (Dispatch 1 2 3 ∷ [])
    ∷ records emulated (compute ∷ []) (dispatch_workgroups 1 0 3) []
    ∷ records emulated (compute ∷ []) (dispatch_workgroups 1 2 0) []
    ∷ records emulated (compute ∷ []) (dispatch_workgroups_indirect 7 12) (DispatchIndirect 7 12 ∷ [])
    ∷ refused 4 emulated (compute ∷ []) (dispatch_workgroups_indirect 0 12)
    -- ---- draws and their settings
    -- V5: the index offset: that of the buffer, and the first index by its size; Uint32 before any index buffer
    ∷ records emulated (bare_pass ∷ []) (set_index_buffer 7 100 Uint16) (SetIndexBuffer 7 ∷ [])
    ∷ refused 4 emulated (bare_pass ∷ []) (set_index_buffer 0 100 Uint16)
    ∷ records emulated (bare_pass ∷ set_index_buffer 7 100 Uint16 ∷ []) (draw_indexed 6 3 (negsuc 0) 5 2)
    (DrawIndexed 0 5123 3 112 (negsuc 0) 5 2 None ∷ [])
    ∷ records emulated (bare_pass ∷ []) (draw_indexed 6 3 (pos 1) 5 2) (DrawIndexed 0 5125 3 24 (pos 1) 5 2 None ∷ [])
    -- T6: the index offset 18,446,744,073,709,551,615, and 2 more
    ∷ records emulated (bare_pass ∷ set_index_buffer 7 18446744073709551613 Uint16 ∷ []) (draw_indexed 1 3 (pos 0) 0 1)
    (DrawIndexed 0 5123 3 18446744073709551615 (pos 0) 0 1 None ∷ [])
    ∷ refused 6 emulated (bare_pass ∷ set_index_buffer 7 18446744073709551613 Uint16 ∷ []) (draw_indexed 2 3 (pos 0) 0 1)
    -- V5: indirect draws, 16 bytes apart and 20
    ∷ records emulated (bare_pass ∷ []) (draw_indirect 7 4 2) (DrawIndirect 0 7 4 None ∷ DrawIndirect 0 7 20 None ∷ [])
    ∷ records emulated (bare_pass ∷ []) (draw_indexed_indirect 7 4 2) (DrawIndexedIndirect 0 5125 7 4 None ∷ DrawIndexedIndirect 0 5125 7 24 None ∷ [])
    -- T10: an absent indirect buffer is skipped where the count is 0
    ∷ records emulated (bare_pass ∷ []) (draw_indirect 0 4 0) []
    ∷ refused 4 emulated (bare_pass ∷ []) (draw_indirect 0 4 1)
    ∷ records emulated (bare_pass ∷ []) (draw_indexed_indirect 0 4 0) []
    ∷ refused 4 emulated (bare_pass ∷ []) (draw_indexed_indirect 0 4 1)
    -- T6: the last indirect offset 18,446,744,073,709,551,615, and 1 more
    ∷ records emulated (bare_pass ∷ []) (draw_indirect 7 18446744073709551599 2)
    (DrawIndirect 0 7 18446744073709551599 None ∷ DrawIndirect 0 7 18446744073709551615 None ∷ [])
    ∷ refused 6 emulated (bare_pass ∷ []) (draw_indirect 7 18446744073709551600 2)
    -- V3: without layout the attributes of a slot, in list order
    ∷ records bare (with attributed) (draw_at 5)
    (SetVertexAttribute (Some 7) (record { step = Vertex; stride = 8 }) (attribute 2 16 0)
    ∷ SetVertexAttribute (Some 7) (record { step = Vertex; stride = 8 }) (attribute 5 20 0)
    ∷ drawn 5 ∷ [])
    -- V1, request 5: A at 0, B at 5, A at 0
    ∷ records emulated (with A ++ draw_at 0 ∷ set_render_pipeline B ∷ draw_at 5 ∷ set_render_pipeline A ∷ []) (draw_at 0) (drawn 0 ∷ [])
    -- V1, request 5: B binds A's dirty slot at 5, and A's draw at 5 finds it there; at 0 it does not
    ∷ records emulated (with A ++ set_render_pipeline B ∷ []) (draw_at 5) (bound 0 56 Instance 8 ∷ drawn 5 ∷ [])
    ∷ records emulated (with A ++ set_render_pipeline B ∷ draw_at 5 ∷ set_render_pipeline A ∷ []) (draw_at 5) (drawn 5 ∷ [])
    ∷ records emulated (with A ++ set_render_pipeline B ∷ draw_at 5 ∷ set_render_pipeline A ∷ []) (draw_at 0) (bound 0 16 Instance 8 ∷ drawn 0 ∷ [])
    -- V1, request 5: a draw at 5 before a second pass's pipeline binds nothing, so A's does; at 0 it has no reason to
    ∷ records emulated (with A ++ draw_at 0 ∷ end_render_pass ∷ bare_pass ∷ draw_at 5 ∷ set_render_pipeline A ∷ []) (draw_at 5) (bound 0 56 Instance 8 ∷ drawn 5 ∷ [])
    ∷ records emulated (with A ++ draw_at 5 ∷ end_render_pass ∷ bare_pass ∷ set_render_pipeline A ∷ []) (draw_at 0) (drawn 0 ∷ [])
    -- V1, V5, request 5: an indirect draw after 5, with count 0 too
    ∷ records emulated (with A ++ draw_at 5 ∷ []) (draw_indirect 7 4 1) (bound 0 16 Instance 8 ∷ DrawIndirect 4 7 4 None ∷ [])
    ∷ records emulated (with A ++ draw_at 5 ∷ []) (draw_indirect 7 4 0) (bound 0 16 Instance 8 ∷ [])
    -- V1, request 5: by vertex at 5, then by instance at 5
    ∷ records emulated (with (stepping (by_vertex 8)) ++ draw_at 5 ∷ set_render_pipeline A ∷ []) (draw_at 5) (bound 0 56 Instance 8 ∷ drawn 5 ∷ [])
    -- V1, request 5: without layout, and with full instancing
    ∷ records bare (with (fetching 4) ++ draw_at 0 ∷ set_render_pipeline B ∷ draw_at 5 ∷ set_render_pipeline (fetching 4) ∷ []) (draw_at 5)
    (SetVertexAttribute (Some 7) (record { step = Instance; stride = 8 }) (attribute 0 60 0) ∷ drawn 5 ∷ [])
    ∷ records full (with A ++ draw_at 0 ∷ set_render_pipeline B ∷ draw_at 5 ∷ set_render_pipeline A ∷ []) (draw_at 5) (drawn 5 ∷ [])
    -- T6: an attribute's offset 4,294,967,295, and 1 more; a slot's offset 18,446,744,073,709,551,615, and 1 more
    ∷ records bare (bare_pass ∷ set_render_pipeline (fetching 4) ∷ set_vertex_buffer 0 7 4294967251 ∷ []) (draw_at 5)
    (SetVertexAttribute (Some 7) (record { step = Instance; stride = 8 }) (attribute 0 4294967295 0) ∷ drawn 5 ∷ [])
    ∷ refused 6 bare (bare_pass ∷ set_render_pipeline (fetching 4) ∷ set_vertex_buffer 0 7 4294967252 ∷ []) (draw_at 5)
    ∷ records emulated (bare_pass ∷ set_render_pipeline A ∷ set_vertex_buffer 0 7 18446744073709551575 ∷ []) (draw_at 5)
    (bound 0 18446744073709551615 Instance 8 ∷ drawn 5 ∷ [])
    ∷ refused 6 emulated (bare_pass ∷ set_render_pipeline A ∷ set_vertex_buffer 0 7 18446744073709551576 ∷ []) (draw_at 5)
    -- T6, request 4: the largest instance and stride, by vertex and by instance; a product of 4,294,967,295, and more
    ∷ records emulated (with (stepping (by_vertex 4294967295))) (draw_at 4294967295) (bound 0 16 Vertex 4294967295 ∷ drawn 4294967295 ∷ [])
    ∷ refused 6 emulated (with (stepping (by_instance 4294967295))) (draw_at 4294967295)
    ∷ records emulated (with (stepping (by_instance 1))) (draw_at 4294967295) (bound 0 4294967311 Instance 1 ∷ drawn 4294967295 ∷ [])
    ∷ records emulated (with (stepping (by_instance 4294967295))) (draw_at 1) (bound 0 4294967311 Instance 4294967295 ∷ drawn 1 ∷ [])
    ∷ refused 6 emulated (with (stepping (by_instance 4294967295))) (draw_at 2)
    ∷ refused 6 emulated (with (stepping (by_instance 2))) (draw_at 2147483648)
    -- T6, request 4: the largest binding offset, by vertex and by instance
    ∷ records emulated (at_offset 18446744073709551615 (by_vertex 1)) (draw_at 1) (bound 0 18446744073709551615 Vertex 1 ∷ drawn 1 ∷ [])
    ∷ refused 6 emulated (at_offset 18446744073709551615 (by_instance 1)) (draw_at 1)
    ∷ records emulated (at_offset 18446744073709551614 (by_instance 1)) (draw_at 1) (bound 0 18446744073709551615 Instance 1 ∷ drawn 1 ∷ [])
    -- T6, request 4: the same without layout
    ∷ records bare (fetched (by_vertex 4294967295) 4294967295) (draw_at 4294967295)
    (SetVertexAttribute (Some 7) (record { step = Vertex; stride = 4294967295 }) (attribute 0 4294967295 0) ∷ drawn 4294967295 ∷ [])
    ∷ records bare (fetched (by_instance 1) 0) (draw_at 4294967295)
    (SetVertexAttribute (Some 7) (record { step = Instance; stride = 1 }) (attribute 0 4294967295 0) ∷ drawn 4294967295 ∷ [])
    ∷ refused 6 bare (fetched (by_instance 1) 1) (draw_at 4294967295)
    -- F3: blend constants
    ∷ records emulated (bare_pass ∷ [])
    (set_blend_constants (record { r = of_bits binary32 0x3f00_0000; g = of_bits binary32 0; b = of_bits binary32 0x3f80_0000; a = of_bits binary32 0x8000_0000 }))
    (SetBlendConstant (record { r = of_bits binary32 0x3f00_0000; g = of_bits binary32 0; b = of_bits binary32 0x3f80_0000; a = of_bits binary32 0x8000_0000 })
    ∷ [])
    -- ---- the lent runs
    -- C1, T7: 1,024 queries, none more, and one more
    ∷ records emulated [] (copy_query_results many_queries 0 1024 vertices 0) (CopyQueryResults (record { start = 0; end = 1024 }) 7 34962 0 ∷ [])
    ∷ records emulated (copy_query_results many_queries 0 1024 vertices 0 ∷ []) (copy_query_results two_queries 1 1 vertices 0)
    (CopyQueryResults (record { start = 1024; end = 1024 }) 7 34962 0 ∷ [])
    ∷ refused 7 emulated (copy_query_results many_queries 0 1024 vertices 0 ∷ []) (copy_query_results two_queries 1 2 vertices 0)
    -- C1, T7: 65,536 bytes, none more, and one more
    ∷ records emulated full_bytes (begin_compute_pass None (labelled 0) no_queries) (PushDebugGroup (record { start = 65536; end = 65536 }) ∷ [])
    ∷ refused 7 emulated full_bytes (begin_compute_pass None (labelled 1) no_queries)
    -- ---- phases
    -- T1: a list begun twice, ended in a pass; a pass in a pass, a pass ended as the other kind
    ∷ refused 1 emulated [] begin_encoding
    ∷ refused 1 emulated (bare_pass ∷ []) end_encoding
    ∷ refused 1 emulated (bare_pass ∷ []) compute
    ∷ refused 1 emulated (bare_pass ∷ []) end_compute_pass
    ∷ refused 1 emulated (compute ∷ []) end_render_pass
    -- T1: a clear in a pass, a draw and a dispatch in the other kind of pass, immediates outside, a timestamp after the end
    ∷ refused 1 emulated (bare_pass ∷ []) (clear_buffer vertices (record { start = 4; end = 64 }))
    ∷ refused 1 emulated (compute ∷ []) (draw_at 0)
    ∷ refused 1 emulated (bare_pass ∷ []) (dispatch_workgroups 1 2 3)
    ∷ refused 1 emulated [] (set_immediates 0 (lent []))
    ∷ refused 1 emulated (end_encoding ∷ []) (write_timestamp two_queries 0)
    -- R4: a second list starts with the starting values
    ∷ records emulated (end_encoding ∷ []) begin_encoding []
    ∷ records emulated
    (bare_pass ∷ set_render_pipeline (special None 3) ∷ end_render_pass ∷ end_encoding ∷ begin_encoding ∷ bare_pass ∷ [])
    (set_render_pipeline (special None 3)) (SetProgram 1 ∷ triangles ∷ ConfigureDepthStencil 0 ∷ SetClipDistances 0 3 ∷ [])
    ∷ []

-- every row says what the definitions give
pub all_edges : map seen edges ≡ map said edges
unfolding all_accepted record_calls fed outcome_of smallest some? bad_units among twice test_bit bit_at set_bit without mask_of places_from mask_by tabulate
    clamp_to convert_to of_bits round buffer_commands attribute_commands sent_of bytes_of filter immediate_commands immediate_bytes immediates_over sampler_commands changed_units
    zipped group_commands group_state textures_named samplers_named offsets_used group_over
    same_targets all_same each_target begin_render_commands attach_colors resolves_from invalidations clear_colors indirect_commands indexed_indirect_commands
    barriers_of buffer_barrier_commands texture_uses copies_of
all_edges = refl
