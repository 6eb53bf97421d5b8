-- Commands that set nothing leave the machine as it is; and the starting points of the invariant. Assumes nothing.
use Prim.Native.Nat.{ℕ, suc, ◌+◌, ◌*◌}
use mathlib.Core.Path.{◌≡◌, refl, sym, ap, ◌∙◌, subst}
use mathlib.Core.Bool.{Bool, true, false, cond, ◌||◌}
use mathlib.Core.List.{List, [], ◌∷◌, ◌++◌, map}
use Rattle.std.specs.Prelude.{Option, None, Some}
use Rattle.records.specs.declared.pass.TimestampWrites.{TimestampWrites}
use lib.Dec.{eqb}
use lib.ListN.{take}
use Rattle.names.specs.Gl.{GL_COLOR_ATTACHMENT0, GL_COPY_READ_BUFFER, GL_COPY_WRITE_BUFFER}
use Rattle.mask.specs.Laws.{test_zero}
use Rattle.records.specs.Start.{start_vertex}
use Rattle.records.specs.declared.args.Buffer.{Buffer}
use Rattle.records.specs.declared.command.BufferBinding.{BufferBinding}
use Rattle.records.specs.declared.command.BufferCopy.{BufferCopy}
use Rattle.records.specs.declared.command.Command.{Command}
use Rattle.records.specs.declared.command.Command.TheVariants.{BindAttachment, InvalidateAttachments, BufferBarrier, TextureBarrier, CopyBufferToBuffer, Dispatch, PushDebugGroup}
use Rattle.records.specs.declared.command.Extent3d.{Extent3d}
use Rattle.records.specs.declared.command.ImmediateDesc.{ImmediateDesc}
use Rattle.records.specs.declared.command.SampleKind.{SampleKind}
use Rattle.records.specs.declared.command.SampleKind.TheVariants as kind
use Rattle.records.specs.declared.pass.ColorAttachment.{ColorAttachment}
use Rattle.records.specs.declared.pass.ColorPlace.{ColorPlace}
use Rattle.records.specs.declared.pass.DepthStencilAttachment.{DepthStencilAttachment}
use Rattle.records.specs.declared.pass.RenderPassDescriptor.{RenderPassDescriptor}
use Rattle.records.specs.declared.pipeline.PrivateCapabilities.{PrivateCapabilities}
use Rattle.records.specs.declared.state.ResolveDesc.{ResolveDesc}
use Rattle.records.specs.declared.state.VertexState.{VertexState}
use Rattle.bindings.specs.Immediates.{immediate_commands}
use Rattle.pass.specs.Marks.{Lent, Label, query_at, timestamp, begin_timestamp, push_label, pop_label}
use Rattle.pass.specs.Render.{places_of, resolves_in_place, view_or, attach_place, attach_colors, attach_depth, attachments, clears, clear_color, clear_place, clear_colors, clear_both, clear_depth, resolve_command, invalidate_command}
use Rattle.calls.specs.Transfers.{Barrier, synchronizes, barrier_commands, buffer_barrier_commands, texture_uses, texture_barrier_commands, on_board, copy_command, dispatch_commands}
use Rattle.machine.specs.Machine.{Vertices, Machine, exec, play}
use Rattle.machine.proofs.Sweep.{play-append}
use Rattle.order.proofs.Invariant.{Slots}
use Rattle.pipeline.specs.Vertex.{has}
use Rattle.machine.proofs.Lists.{true-false}

-- the machine is as before
abbrev pub Idle : List Command → Type 0
Idle cs = (m : Machine) → play m cs ≡ m

pub idle-append : (xs ys : List Command) → Idle xs → Idle ys → Idle (xs ++ ys)
idle-append xs ys a b m = play-append m xs ys ∙ ap (λ (n : Machine). play n ys) (a m) ∙ b m

idle-map : {A : Type 0} (f : A → Command) → ((a : A) (m : Machine) → exec m (f a) ≡ m) → (l : List A) → Idle (map f l)
idle-map f h [] m = refl
idle-map f h (a ∷ l) m = ap (λ (n : Machine). play n (map f l)) (h a m) ∙ idle-map f h l m

idle-either : (t : Bool) (x y : Command) → ((m : Machine) → exec m x ≡ m) → ((m : Machine) → exec m y ≡ m) → (m : Machine) → exec m (cond t x y) ≡ m
idle-either true x y a b m = a m
idle-either false x y a b m = b m

idle-cond : (t : Bool) (xs ys : List Command) → Idle xs → Idle ys → Idle (cond t xs ys)
idle-cond true xs ys a b = a
idle-cond false xs ys a b = b

-- ---- passes
pub idle-timestamp : (o : Option ℕ) → Idle (timestamp o)
idle-timestamp None m = refl
idle-timestamp (Some q) m = refl

pub idle-begin : (set : Lent) (t : Option TimestampWrites) → Idle (begin_timestamp set t)
idle-begin set None m = refl
idle-begin set (Some t) m = idle-timestamp (query_at set t.beginning_of_pass_write_index) m

pub idle-push : (l : Label) (at : ℕ) → Idle (push_label l at)
idle-push l at = idle-cond l.present (PushDebugGroup (record { start = at; end = at + l.bytes.count }) ∷ []) [] (λ m. refl) (λ m. refl)

pub idle-pop : (t : Bool) → Idle (pop_label t)
idle-pop true m = refl
idle-pop false m = refl

idle-color : (caps : PrivateCapabilities) (n i : ℕ) (o : Option ColorAttachment) → Idle (attach_place caps n i o)
idle-color caps n i None m = refl
idle-color caps n i (Some a) m =
    idle-either (resolves_in_place caps i a.ops a.resolve_target) (BindAttachment (GL_COLOR_ATTACHMENT0 + i) (view_or a.view a.resolve_target) None n)
    (BindAttachment (GL_COLOR_ATTACHMENT0 + i) a.view a.depth_slice 1) (λ x. refl) (λ x. refl) m

idle-colors : (caps : PrivateCapabilities) (n i : ℕ) (ps : List ColorPlace) → Idle (attach_colors caps n i ps)
unfolding attach_colors
idle-colors caps n i [] m = refl
idle-colors caps n i (p ∷ ps) m = idle-append (attach_place caps n i p.attachment) (attach_colors caps n (suc i) ps) (idle-color caps n i p.attachment) (idle-colors caps n (suc i) ps) m

idle-depth : (o : Option DepthStencilAttachment) → Idle (attach_depth o)
idle-depth None m = refl
idle-depth (Some d) m = refl

pub idle-attachments : (caps : PrivateCapabilities) (d : RenderPassDescriptor) → Idle (attachments caps d)
idle-attachments caps d =
    idle-append (attach_colors caps d.sample_count 0 (places_of d)) (attach_depth d.depth_stencil_attachment) (idle-colors caps d.sample_count 0 (places_of d)) (idle-depth d.depth_stencil_attachment)

pub idle-when : (t : Bool) (xs : List Command) → Idle xs → Idle (cond t [] xs)
idle-when t xs h = idle-cond t [] xs (λ m. refl) h

idle-clear : (n : ℕ) (a : ColorAttachment) (k : SampleKind) → Idle (clear_color n a k)
idle-clear n a kind.Float m = refl
idle-clear n a kind.Uint m = refl
idle-clear n a kind.Sint m = refl
idle-clear n a kind.Depth m = refl

idle-place : (n : ℕ) (o : Option ColorAttachment) → Idle (clear_place n o)
idle-place n None m = refl
idle-place n (Some a) m = idle-cond (clears a.ops) (clear_color n a a.view.kind) [] (idle-clear n a a.view.kind) (λ x. refl) m

idle-clears : (n : ℕ) (ps : List ColorPlace) → Idle (clear_colors n ps)
unfolding clear_colors
idle-clears n [] m = refl
idle-clears n (p ∷ ps) m = idle-append (clear_place n p.attachment) (clear_colors (suc n) ps) (idle-place n p.attachment) (idle-clears (suc n) ps) m

idle-both : (s t : Bool) (d : DepthStencilAttachment) → Idle (clear_both s t d)
idle-both true true d m = refl
idle-both true false d m = refl
idle-both false true d m = refl
idle-both false false d m = refl

idle-cleared : (o : Option DepthStencilAttachment) → Idle (clear_depth o)
idle-cleared None m = refl
idle-cleared (Some d) m = idle-both (clears d.depth_ops) (clears d.stencil_ops) d m

pub idle-all-clears : (d : RenderPassDescriptor) → Idle (clear_colors 0 (places_of d) ++ clear_depth d.depth_stencil_attachment)
idle-all-clears d = idle-append (clear_colors 0 (places_of d)) (clear_depth d.depth_stencil_attachment) (idle-clears 0 (places_of d)) (idle-cleared d.depth_stencil_attachment)

pub idle-resolves : (size : Extent3d) (rs : List ResolveDesc) → Idle (map (resolve_command size) rs)
idle-resolves size rs = idle-map (resolve_command size) (λ r m. refl) rs

pub idle-invalidate : (n : ℕ) → Idle (invalidate_command n)
idle-invalidate n = idle-cond (eqb n 0) [] (InvalidateAttachments n ∷ []) (λ m. refl) (λ m. refl)

-- ---- transfers
idle-barrier : (b : Barrier) → Idle (barrier_commands b)
idle-barrier b = idle-cond (synchronizes b) (BufferBarrier b.buffer b.to ∷ []) [] (λ m. refl) (λ m. refl)

idle-barriers : (bs : List Barrier) → Idle (buffer_barrier_commands bs)
unfolding buffer_barrier_commands
idle-barriers [] m = refl
idle-barriers (b ∷ bs) m = idle-append (barrier_commands b) (buffer_barrier_commands bs) (idle-barrier b) (idle-barriers bs) m

pub idle-buffers : (caps : PrivateCapabilities) (bs : List Barrier) → Idle (on_board caps (buffer_barrier_commands bs))
idle-buffers caps bs = idle-cond caps.memory_barriers (buffer_barrier_commands bs) [] (idle-barriers bs) (λ m. refl)

pub idle-textures : (caps : PrivateCapabilities) (l : Lent) → Idle (on_board caps (texture_barrier_commands l))
idle-textures caps l =
    idle-cond caps.memory_barriers (texture_barrier_commands l) []
    (idle-cond (eqb (texture_uses (take (2 * l.count) l.run)) 0) [] (TextureBarrier (texture_uses (take (2 * l.count) l.run)) ∷ []) (λ m. refl) (λ m. refl)) (λ m. refl)

pub idle-dispatch : (x y z : ℕ) → Idle (dispatch_commands x y z)
idle-dispatch x y z = idle-cond (eqb x 0 || (eqb y 0 || eqb z 0)) [] (Dispatch x y z ∷ []) (λ m. refl) (λ m. refl)

pub idle-immediates : (ds : List ImmediateDesc) (at : ℕ) → Idle (immediate_commands ds at)
unfolding immediate_commands
idle-immediates [] at m = refl
idle-immediates (d ∷ ds) at m = idle-immediates ds (at + d.size_bytes) m

pub idle-copies : (src dst : Buffer) (l : List BufferCopy) → Idle (map (copy_command src dst) l)
idle-copies src dst l = idle-map (copy_command src dst) one l
  where
    one : (c : BufferCopy) (m : Machine) → exec m (copy_command src dst c) ≡ m
    one c m =
        idle-either (eqb src.target dst.target) (CopyBufferToBuffer src.raw GL_COPY_READ_BUFFER dst.raw GL_COPY_WRITE_BUFFER c)
        (CopyBufferToBuffer src.raw src.target dst.raw dst.target c) (λ x. refl) (λ x. refl) m

-- ---- before the first render pass no slot is described or bound
pub slots-start : (caps : PrivateCapabilities) (v : VertexState) (g : Vertices) (buffer : ℕ → Option BufferBinding) → v ≡ start_vertex → ((i : ℕ) → buffer i ≡ None) → Slots caps v g buffer
slots-start caps v g buffer e h = subst (λ (x : VertexState). Slots caps x g buffer) (sym e) S
  where
    S : Slots caps start_vertex g buffer
    S =
        record {
          bound = λ i l x. true-false (sym x ∙ ap has (h i));
          clean = λ layout i l x q d b. true-false (sym d ∙ test_zero i);
        }
