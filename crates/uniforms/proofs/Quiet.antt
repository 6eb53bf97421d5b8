-- Commands that are nothing to the uniforms: those of 28 calls; and those of a pipeline call, of which one makes its program current. Assumes nothing.
use Prim.Native.Nat.{ℕ, zero, suc, ◌+◌, ◌*◌}
use mathlib.Core.Path.{◌≡◌, refl, sym, ap, ◌∙◌, subst}
use mathlib.Core.Bool.{Bool, true, false, cond, not, ◌&&◌, ◌||◌}
use mathlib.Core.List.{List, [], ◌∷◌, ◌++◌, map}
use lib.Dec.{eqb}
use lib.ListN.{take}
use Rattle.names.specs.Gl.{GL_FRONT_AND_BACK, GL_FRONT, GL_BACK, GL_COLOR_ATTACHMENT0, GL_COPY_READ_BUFFER, GL_COPY_WRITE_BUFFER}
use Rattle.names.specs.Maps.{primitive_state}
use Rattle.names.specs.declared.gl.StencilSide.{StencilSide}
use Rattle.names.specs.declared.gl.StencilState.{StencilState}
use Rattle.mask.specs.Mask.{places}
use Rattle.tables.specs.Tabulate.{tabulate}
use Rattle.records.specs.Same.{same_bool, same_primitive, same_depth_bias, same_stencil_ops, same_stencil_func}
use Rattle.records.specs.Start.{start_target}
use Rattle.records.specs.declared.args.Buffer.{Buffer}
use Rattle.records.specs.declared.binding.BindGroupLayoutEntry.{BindGroupLayoutEntry}
use Rattle.records.specs.declared.binding.RawBinding.{RawBinding}
use Rattle.records.specs.declared.binding.RawBinding.TheVariants as content
use Rattle.records.specs.declared.command.BufferCopy.{BufferCopy}
use Rattle.records.specs.declared.command.ColorTargetDesc.{ColorTargetDesc}
use Rattle.records.specs.declared.command.Command.{Command}
use Rattle.records.specs.declared.command.Command.TheVariants.{Dispatch, DrawIndirect, DrawIndexedIndirect, CopyBufferToBuffer, ResetFramebuffer, BindAttachment, InvalidateAttachments, SetDrawColorBuffers, BufferBarrier, TextureBarrier, SetViewport, SetScissor, SetDepth, SetDepthBias, ConfigureDepthStencil, SetAlphaToCoverage, SetPrimitive, SetColorTarget, BindSampler, TimestampQuery, PushDebugGroup, PopDebugGroup, SetClipDistances}
use Rattle.std.specs.Prelude.{Option, None, Some}
use Rattle.records.specs.declared.pass.TimestampWrites.{TimestampWrites}
use Rattle.records.specs.declared.command.DepthState.{DepthState}
use Rattle.records.specs.declared.command.SampleKind.{SampleKind}
use Rattle.records.specs.declared.command.SampleKind.TheVariants as kind
use Rattle.records.specs.declared.pass.ColorAttachment.{ColorAttachment}
use Rattle.records.specs.declared.pass.ColorPlace.{ColorPlace}
use Rattle.records.specs.declared.pass.DepthStencilAttachment.{DepthStencilAttachment}
use Rattle.records.specs.declared.pass.RenderPassDescriptor.{RenderPassDescriptor}
use Rattle.records.specs.declared.pipeline.PipelineInner.{PipelineInner}
use Rattle.records.specs.declared.pipeline.PrivateCapabilities.{PrivateCapabilities}
use Rattle.records.specs.declared.pipeline.RenderPipeline.{RenderPipeline}
use Rattle.records.specs.declared.state.BindState.{BindState}
use Rattle.records.specs.declared.state.FixedState.{FixedState}
use Rattle.records.specs.declared.state.PassState.{PassState}
use Rattle.records.specs.declared.state.VertexState.{VertexState}
use Rattle.slots.specs.Vertex.{attributes_of}
use Rattle.slots.specs.Prepare.{buffer_command, buffer_commands, attribute_command, attribute_commands, rebound, sent, prepared}
use Rattle.bindings.specs.Units.{number_at, resolve, sampler_commands, dirty_units}
use Rattle.bindings.specs.Group.{Entry, entry_commands, offsets_after, group_commands, group_state, textures_named, samplers_named, bind_group_commands}
use Rattle.pipeline.specs.Inner.{inner_bind, inner_commands, changed_units}
use Rattle.pipeline.specs.Vertex.{attributes_in, set_attribute, unset_attribute, vertex_commands}
use Rattle.pipeline.specs.Fixed.{only, stencil_func, stencil_funcs, stencil_op, stencil_ops, depth_commands, stencil_commands, aspects_of, targets_in, targets_of, same_targets, all_same, each_target, target_commands, fixed_commands}
use Rattle.pass.specs.Marks.{Lent, Label, query_at, timestamp, begin_timestamp, push_label, pop_label}
use Rattle.pass.specs.Render.{places_of, default_first, to_external, resolves_in_place, view_or, attach_color, depth_point, extent_rect, full_depth, attach_place, attach_colors, attach_depth, attachments, clear_color, clear_place, clear_colors, clear_both, clear_depth, clears, begin_render_commands, resolve_command, end_render_commands}
use Rattle.calls.specs.Draws.{DrawArgs, index_type_of, indirect_commands, indexed_indirect_commands}
use Rattle.calls.specs.Transfers.{Barrier, synchronizes, texture_uses, buffer_barrier_commands, texture_barrier_commands, on_board, copy_command, dispatch_commands}
use Rattle.machine.specs.Each.{Each}
use Rattle.uniforms.specs.Uniforms.{Machine, Effect, neither, effect, exec, play}
use Rattle.uniforms.proofs.Plays.{Inside, Within, each_append, Acts, acts-append, in_use, acts-uses}

-- a record, so that a list is read off the proof of it
pub record Quiet (cs : List Command) : Type 0 where
  pub each : Each (λ (c : Command). effect c ≡ neither) cs

-- ---- shapes of lists
pub quiet-nil : Quiet []
quiet-nil = record { each = tt }

quiet-cons : {cs : List Command} (c : Command) → effect c ≡ neither → Quiet cs → Quiet (c ∷ cs)
quiet-cons c e h = record { each = (e, h.each) }

pub quiet_one : (c : Command) → effect c ≡ neither → Quiet (c ∷ [])
quiet_one c e = quiet-cons c e quiet-nil

quiet-append : {xs ys : List Command} → Quiet xs → Quiet ys → Quiet (xs ++ ys)
quiet-append {xs} {ys} a b = record { each = each_append (λ (c : Command). effect c ≡ neither) xs ys a.each b.each }

quiet-map : {A : Type 0} (f : A → Command) → ((a : A) → effect (f a) ≡ neither) → (l : List A) → Quiet (map f l)
quiet-map f h [] = quiet-nil
quiet-map f h (a ∷ l) = quiet-cons (f a) (h a) (quiet-map f h l)

quiet-table : (f : ℕ → Command) → ((i : ℕ) → effect (f i) ≡ neither) → (n : ℕ) → Quiet (tabulate n f)
unfolding tabulate
quiet-table f h zero = quiet-nil
quiet-table f h (suc n) = quiet-cons (f 0) (h 0) (quiet-table (λ i. f (suc i)) (λ i. h (suc i)) n)

quiet-cond : {xs ys : List Command} (t : Bool) → Quiet xs → Quiet ys → Quiet (cond t xs ys)
quiet-cond true a b = a
quiet-cond false a b = b

quiet-either : (t : Bool) (x y : Command) → effect x ≡ neither → effect y ≡ neither → effect (cond t x y) ≡ neither
quiet-either true x y a b = a
quiet-either false x y a b = b

quiet-only : (t : Bool) (c : Command) → effect c ≡ neither → Quiet (only t c)
quiet-only true c e = quiet_one c e
quiet-only false c e = quiet-nil

-- ---- passes
quiet-timestamp : (o : Option ℕ) → Quiet (timestamp o)
quiet-timestamp None = quiet-nil
quiet-timestamp (Some q) = quiet_one (TimestampQuery q) refl

quiet-begin : (set : Lent) (t : Option TimestampWrites) → Quiet (begin_timestamp set t)
quiet-begin set None = quiet-nil
quiet-begin set (Some t) = quiet-timestamp (query_at set t.beginning_of_pass_write_index)

quiet-push : (l : Label) (at : ℕ) → Quiet (push_label l at)
quiet-push l at = quiet-cond l.present (quiet_one (PushDebugGroup (record { start = at; end = at + l.bytes.count })) refl) quiet-nil

quiet-pop : (t : Bool) → Quiet (pop_label t)
quiet-pop true = quiet_one PopDebugGroup refl
quiet-pop false = quiet-nil

quiet-color : (caps : PrivateCapabilities) (n i : ℕ) (o : Option ColorAttachment) → Quiet (attach_place caps n i o)
quiet-color caps n i None = quiet-nil
quiet-color caps n i (Some a) =
    quiet_one (attach_color caps n i a)
    (quiet-either (resolves_in_place caps i a.ops a.resolve_target) (BindAttachment (GL_COLOR_ATTACHMENT0 + i) (view_or a.view a.resolve_target) None n)
    (BindAttachment (GL_COLOR_ATTACHMENT0 + i) a.view a.depth_slice 1) refl refl)

quiet-colors : (caps : PrivateCapabilities) (n i : ℕ) (ps : List ColorPlace) → Quiet (attach_colors caps n i ps)
unfolding attach_colors
quiet-colors caps n i [] = quiet-nil
quiet-colors caps n i (p ∷ ps) = quiet-append (quiet-color caps n i p.attachment) (quiet-colors caps n (suc i) ps)

quiet-depth : (o : Option DepthStencilAttachment) → Quiet (attach_depth o)
quiet-depth None = quiet-nil
quiet-depth (Some d) = quiet_one (BindAttachment (depth_point d.view.aspects) d.view None 1) refl

quiet-attachments : (caps : PrivateCapabilities) (d : RenderPassDescriptor) → Quiet (attachments caps d)
quiet-attachments caps d = quiet-append (quiet-colors caps d.sample_count 0 (places_of d)) (quiet-depth d.depth_stencil_attachment)

quiet-clear : (n : ℕ) (a : ColorAttachment) (k : SampleKind) → Quiet (clear_color n a k)
quiet-clear n a kind.Float = record { each = (refl, tt) }
quiet-clear n a kind.Uint = record { each = (refl, tt) }
quiet-clear n a kind.Sint = record { each = (refl, tt) }
quiet-clear n a kind.Depth = quiet-nil

quiet-place : (n : ℕ) (o : Option ColorAttachment) → Quiet (clear_place n o)
quiet-place n None = quiet-nil
quiet-place n (Some a) = quiet-cond (clears a.ops) (quiet-clear n a a.view.kind) quiet-nil

quiet-clears : (n : ℕ) (ps : List ColorPlace) → Quiet (clear_colors n ps)
unfolding clear_colors
quiet-clears n [] = quiet-nil
quiet-clears n (p ∷ ps) = quiet-append (quiet-place n p.attachment) (quiet-clears (suc n) ps)

quiet-both : (s t : Bool) (d : DepthStencilAttachment) → Quiet (clear_both s t d)
quiet-both true true d = record { each = (refl, tt) }
quiet-both true false d = record { each = (refl, tt) }
quiet-both false true d = record { each = (refl, tt) }
quiet-both false false d = quiet-nil

quiet-cleared : (o : Option DepthStencilAttachment) → Quiet (clear_depth o)
quiet-cleared None = quiet-nil
quiet-cleared (Some d) = quiet-both (clears d.depth_ops) (clears d.stencil_ops) d

pub quiet-begin-render : (caps : PrivateCapabilities) (d : RenderPassDescriptor) (label : Label) (set : Lent) (at : ℕ) → Quiet (begin_render_commands caps d label set at)
unfolding begin_render_commands
quiet-begin-render caps d label set at =
    quiet-append (quiet-begin set d.timestamp_writes)
    (quiet-append (quiet-push label at)
    (quiet-cons (ResetFramebuffer (default_first (places_of d))) refl
    (quiet-append (quiet-cond (default_first (places_of d)) quiet-nil (quiet-attachments caps d))
    (quiet-cons (SetScissor (extent_rect d.extent)) refl
    (quiet-cons (SetViewport (extent_rect d.extent) full_depth) refl
    (quiet-append (quiet-cond (to_external (places_of d)) quiet-nil (quiet_one (SetDrawColorBuffers d.color_attachment_count) refl))
    (quiet-append (quiet-clears 0 (places_of d)) (quiet-cleared d.depth_stencil_attachment))))))))

pub quiet-begin-compute : (set : Lent) (t : Option TimestampWrites) (label : Label) (at : ℕ) → Quiet (begin_timestamp set t ++ push_label label at)
quiet-begin-compute set t label at = quiet-append (quiet-begin set t) (quiet-push label at)

pub quiet-end-compute : (t : Bool) (o : Option ℕ) → Quiet (pop_label t ++ timestamp o)
quiet-end-compute t o = quiet-append (quiet-pop t) (quiet-timestamp o)

quiet-unset : (v : VertexState) → Quiet (map unset_attribute (attributes_of v))
quiet-unset v = quiet-map unset_attribute (λ a. refl) (attributes_of v)

pub quiet-end-render : (s : PassState) (v : VertexState) → Quiet (end_render_commands s (map unset_attribute (attributes_of v)))
quiet-end-render s v =
    quiet-append (quiet-map (resolve_command s.render_size) (λ r. refl) (take s.resolve_count s.resolves))
    (quiet-append (quiet-cond (eqb s.invalidate_attachments 0) quiet-nil (quiet_one (InvalidateAttachments s.invalidate_attachments) refl))
    (quiet-append (quiet-pop s.has_pass_label) (quiet-append (quiet-unset v) (quiet-timestamp s.end_of_pass_timestamp))))

-- ---- transfers
quiet-barriers : (bs : List Barrier) → Quiet (buffer_barrier_commands bs)
unfolding buffer_barrier_commands
quiet-barriers [] = quiet-nil
quiet-barriers (b ∷ bs) = quiet-append (quiet-cond (synchronizes b) (quiet_one (BufferBarrier b.buffer b.to) refl) quiet-nil) (quiet-barriers bs)

pub quiet-buffers : (caps : PrivateCapabilities) (bs : List Barrier) → Quiet (on_board caps (buffer_barrier_commands bs))
quiet-buffers caps bs = quiet-cond caps.memory_barriers (quiet-barriers bs) quiet-nil

pub quiet-textures : (caps : PrivateCapabilities) (l : Lent) → Quiet (on_board caps (texture_barrier_commands l))
quiet-textures caps l =
    let n : ℕ = texture_uses (take (2 * l.count) l.run) in
    quiet-cond caps.memory_barriers (quiet-cond (eqb n 0) quiet-nil (quiet_one (TextureBarrier n) refl)) quiet-nil

pub quiet-copies : (src dst : Buffer) (l : List BufferCopy) → Quiet (map (copy_command src dst) l)
quiet-copies src dst l = quiet-map (copy_command src dst) one l
  where
    one : (c : BufferCopy) → effect (copy_command src dst c) ≡ neither
    one c =
        quiet-either (eqb src.target dst.target) (CopyBufferToBuffer src.raw GL_COPY_READ_BUFFER dst.raw GL_COPY_WRITE_BUFFER c)
        (CopyBufferToBuffer src.raw src.target dst.raw dst.target c) refl refl

pub quiet-dispatch : (x y z : ℕ) → Quiet (dispatch_commands x y z)
quiet-dispatch x y z = quiet-cond (eqb x 0 || (eqb y 0 || eqb z 0)) quiet-nil (quiet_one (Dispatch x y z) refl)

-- ---- bindings
quiet-samplers : (b : BindState) (m : ℕ) → Quiet (sampler_commands b m)
unfolding sampler_commands
quiet-samplers b m = quiet-map (λ u. BindSampler u (resolve b (number_at b u))) (λ u. refl) (places m)

quiet-entry : (e : BindGroupLayoutEntry) (r : RawBinding) (os : List ℕ) → Quiet (entry_commands e r os)
quiet-entry e (content.Buffer raw offset size) os = record { each = (refl, tt) }
quiet-entry e (content.Texture raw t aspects mips) os = record { each = (refl, tt) }
quiet-entry e (content.Image binding) os = record { each = (refl, tt) }
quiet-entry e (content.Sampler k) os = quiet-nil

quiet-entries : (xs : List Entry) (os : List ℕ) → Quiet (group_commands xs os)
unfolding group_commands
quiet-entries [] os = quiet-nil
quiet-entries (x ∷ xs) os = quiet-append (quiet-entry x.layout x.raw os) (quiet-entries xs (offsets_after x.layout x.raw os))

pub quiet-group : (xs : List Entry) (os : List ℕ) (b : BindState) → Quiet (bind_group_commands xs os b)
quiet-group xs os b = quiet-append (quiet-entries xs os) (quiet-samplers (group_state xs b) (dirty_units (group_state xs b) (textures_named xs) (samplers_named xs)))

-- ---- draws
quiet-prepared : (caps : PrivateCapabilities) (v : VertexState) (w : ℕ) → Quiet (prepared caps v w)
unfolding buffer_commands attribute_commands
quiet-prepared caps v w =
    quiet-cond caps.vertex_buffer_layout (quiet-map (buffer_command v w) (λ i. refl) (places (rebound v w))) (quiet-map (attribute_command v w) (λ a. refl) (sent v w))

pub quiet-drawing : {cs : List Command} (caps : PrivateCapabilities) (v : VertexState) (w : ℕ) → Quiet cs → Quiet (prepared caps v w ++ cs)
quiet-drawing caps v w h = quiet-append (quiet-prepared caps v w) h

pub quiet-indirect : (a : DrawArgs) (raw offset n : ℕ) → Quiet (indirect_commands a raw offset n)
unfolding indirect_commands
quiet-indirect a raw offset n = quiet-table (λ i. DrawIndirect a.topology raw (offset + i * 16) a.location) (λ i. refl) n

pub quiet-indexed : (a : DrawArgs) (raw offset n : ℕ) → Quiet (indexed_indirect_commands a raw offset n)
unfolding indexed_indirect_commands
quiet-indexed a raw offset n = quiet-table (λ i. DrawIndexedIndirect a.topology (index_type_of a.format) raw (offset + i * 20) a.location) (λ i. refl) n

-- ---- pipelines
-- one command for both faces, or one each
quiet-faces : (t : Bool) (f : ℕ → StencilSide → Command) → ((n : ℕ) (x : StencilSide) → effect (f n x) ≡ neither)
    → (s : StencilState) → Quiet (cond t (f GL_FRONT_AND_BACK s.front ∷ []) (f GL_FRONT s.front ∷ f GL_BACK s.back ∷ []))
quiet-faces t f h s =
    quiet-cond t (quiet_one (f GL_FRONT_AND_BACK s.front) (h GL_FRONT_AND_BACK s.front))
    (quiet-cons (f GL_FRONT s.front) (h GL_FRONT s.front) (quiet_one (f GL_BACK s.back) (h GL_BACK s.back)))

pub quiet-funcs : (s : StencilState) → Quiet (stencil_funcs s)
quiet-funcs s = quiet-faces (same_stencil_func s.front s.back) stencil_func (λ n x. refl) s

quiet-ops : (s : StencilState) → Quiet (stencil_ops s)
quiet-ops s = quiet-faces (same_stencil_ops s.front.ops s.back.ops && eqb s.front.mask_write s.back.mask_write) stencil_op (λ n x. refl) s

quiet-depth-state : (o : Option DepthState) → Quiet (depth_commands o)
quiet-depth-state None = quiet-nil
quiet-depth-state (Some d) = quiet_one (SetDepth d) refl

quiet-stencil : (o : Option StencilState) → Quiet (stencil_commands o)
quiet-stencil None = quiet-nil
quiet-stencil (Some s) = quiet-append (quiet-funcs s) (quiet-ops s)

quiet_each : (i : ℕ) (l : List ColorTargetDesc) → Quiet (each_target i l)
unfolding each_target
quiet_each i [] = quiet-nil
quiet_each i (x ∷ xs) = quiet-cons (SetColorTarget (Some i) x) refl (quiet_each (suc i) xs)

quiet-targets : (l : List ColorTargetDesc) → Quiet (target_commands l)
quiet-targets [] = quiet_one (SetColorTarget None start_target) refl
quiet-targets (x ∷ xs) = quiet-cond (all_same x xs) (quiet_one (SetColorTarget None x) refl) (quiet_each 0 (x ∷ xs))

quiet-fixed : (p : RenderPipeline) (f : FixedState) → Quiet (fixed_commands p f)
quiet-fixed p f =
    quiet-append (quiet-only (not (same_primitive (primitive_state p.primitive) f.primitive)) (SetPrimitive (primitive_state p.primitive)) refl)
    (quiet-append (quiet-only (not (same_depth_bias p.depth_bias f.depth_bias)) (SetDepthBias p.depth_bias) refl)
    (quiet-append (quiet-depth-state p.depth)
    (quiet-append (quiet-stencil p.stencil)
    (quiet-cons (ConfigureDepthStencil (aspects_of p)) refl
    (quiet-append (quiet-only (not (same_bool p.alpha_to_coverage_enabled f.alpha_to_coverage_enabled)) (SetAlphaToCoverage p.alpha_to_coverage_enabled) refl)
    (quiet-append (quiet-cond (same_targets (targets_of f) (targets_in p)) quiet-nil (quiet-targets (targets_in p)))
    (quiet-only (not (eqb p.inner.clip_distance_count f.clip_distance_count)) (SetClipDistances f.clip_distance_count p.inner.clip_distance_count) refl)))))))

quiet-vertex : (caps : PrivateCapabilities) (p : RenderPipeline) (v : VertexState) → Quiet (vertex_commands caps p v)
quiet-vertex caps p v = quiet-cond caps.vertex_buffer_layout (quiet-map (set_attribute p) (λ a. refl) (attributes_in p)) (quiet-unset v)

-- ---- played
pub acts-quiet : {cs : List Command} → Quiet cs → Acts (λ m. m) cs
unfolding play
acts-quiet {cs} h = record { plays = λ b m. plays b m cs h.each; within = λ b. within b cs h.each }
  where
    plays : (b : List ℕ) (m : Machine) (cs : List Command) → Each (λ (c : Command). effect c ≡ neither) cs → play b m cs ≡ m
    plays b m [] h = refl
    plays b m (c ∷ cs) h = ap (λ (e : Effect). play b (exec b m e) cs) h.0 ∙ plays b m cs h.1

    within : (b : List ℕ) (cs : List Command) → Each (λ (c : Command). effect c ≡ neither) cs → Within b cs
    within b [] h = tt
    within b (c ∷ cs) h = (subst (Inside b) (sym h.0) tt, within b cs h.1)

pub acts-inner : (p : PipelineInner) (b : BindState) → Acts (in_use p.program) (inner_commands p b)
acts-inner p b = acts-append (acts-uses p.program) (acts-quiet (quiet-samplers (inner_bind p b) (changed_units p b)))

pub acts-pipeline : (caps : PrivateCapabilities) (p : RenderPipeline) (v : VertexState) (b : BindState) (f : FixedState)
    → Acts (in_use p.inner.program) (vertex_commands caps p v ++ (inner_commands p.inner b ++ fixed_commands p f))
acts-pipeline caps p v b f = acts-append (acts-quiet (quiet-vertex caps p v)) (acts-append (acts-inner p.inner b) (acts-quiet (quiet-fixed p f)))
