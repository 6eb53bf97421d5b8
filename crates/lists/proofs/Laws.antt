-- The machine, thing by thing: a command sets what it names and leaves the rest. Assumes nothing.
use Prim.Native.Nat.{ℕ}
use mathlib.Core.Path.{◌≡◌, refl, subst}
use mathlib.Core.Bool.{Bool, true, false, cond, ◌&&◌, ◌||◌}
use mathlib.Core.List.{List, [], ◌∷◌}
use Rattle.std.specs.Prelude.{Option, None, Some}
use lib.Dec.{eqb}
use borrow.Author.Tests.{eqb-true}
use Rattle.tables.specs.Tabulate.{upd}
use Rattle.records.specs.Check.{some?}
use Rattle.records.specs.declared.command.Command.{Command}
use Rattle.records.specs.declared.command.Command.TheVariants.{Draw, DrawIndexed, DrawIndirect, DrawIndexedIndirect, Dispatch, DispatchIndirect, ClearBuffer, CopyBufferToBuffer}
use Rattle.records.specs.declared.command.Command.TheVariants.{SetIndexBuffer, BeginQuery, EndQuery, TimestampQuery, CopyQueryResults, ResetFramebuffer, BindAttachment}
use Rattle.records.specs.declared.command.Command.TheVariants.{ResolveAttachment, InvalidateAttachments, SetDrawColorBuffers, ClearColorF, ClearColorU, ClearColorI, ClearDepth}
use Rattle.records.specs.declared.command.Command.TheVariants.{ClearStencil, ClearDepthAndStencil, BufferBarrier, TextureBarrier, SetViewport, SetScissor, SetStencilFunc}
use Rattle.records.specs.declared.command.Command.TheVariants.{SetStencilOps, SetDepth, SetDepthBias, ConfigureDepthStencil, SetAlphaToCoverage, SetVertexAttribute}
use Rattle.records.specs.declared.command.Command.TheVariants.{UnsetVertexAttribute, SetVertexBuffer, SetProgram, SetPrimitive, SetBlendConstant, SetColorTarget, BindBuffer}
use Rattle.records.specs.declared.command.Command.TheVariants.{BindSampler, BindTexture, BindImage, PushDebugGroup, PopDebugGroup, SetImmediates, SetClipDistances}
use Rattle.machine.specs.View.{BufferRange}
use Rattle.machine.specs.Machine.{Gl, between}
use Rattle.lists.specs.Shots.{settings_after, settings}
use Rattle.lists.specs.Things.{attribute, vertex_buffer, buffer, texture, image, sampler, index_buffer, viewport, scissor, blend_constants, program}
use Rattle.lists.specs.Things.{primitive, depth_bias, alpha_to_coverage, depth_stencil, depth, target, clip_distance, front_function, back_function, front_operations, back_operations}
use Rattle.lists.specs.Things.{Thing, vertex, binding, screen, fixed, face, Same, on_front, on_back, names, named}

pick : {A : Type 0} (a x y : A) (t : Bool) → (t ≡ false → x ≡ y) → cond t a x ≡ cond t a y
pick a x y true k = refl
pick a x y false k = k refl

-- a face's setting: the other face's is left
faced : {A : Type 0} (a x y : A) (t : Bool) → (t || false ≡ false → x ≡ y) → cond t a x ≡ cond t a y
faced a x y true k = refl
faced a x y false k = k refl

-- a clip distance that goes neither on nor off is left
clipped : (x y on off : Bool) → (on || off ≡ false → x ≡ y) → cond on true (cond off false x) ≡ cond on true (cond off false y)
clipped x y true off k = refl
clipped x y false true k = refl
clipped x y false false k = k refl

ranged : (f h : ℕ → ℕ → Option BufferRange) (t i s j : ℕ) (r : Option BufferRange) → (eqb s t && eqb j i ≡ false → f s j ≡ h s j) → upd f t (upd (f t) i r) s j ≡ upd h t (upd (h t) i r) s j
ranged f h t i s j r k = go (eqb s t) refl k
  where
    go : (u : Bool) → eqb s t ≡ u → (u && eqb j i ≡ false → f s j ≡ h s j) → cond u (upd (f t) i r) (f s) j ≡ cond u (upd (h t) i r) (h s) j
    go true e k = pick r (f t j) (h t j) (eqb j i) (λ q. subst (λ (z : ℕ). f z j ≡ h z j) (eqb-true s t e) (k q))
    go false e k = k refl

-- what a command names becomes the same on any two machines, and what was the same elsewhere stays so
pub law : (c : Command) (x : Thing) (g h : Gl) → (names c x ≡ false → Same x g h) → Same x (settings_after g c) (settings_after h c)
law (Draw t fv vc fi ic l) z g h k = k refl
law (DrawIndexed t ty n o bv fi ic l) z g h k = k refl
law (DrawIndirect t raw o l) z g h k = k refl
law (DrawIndexedIndirect t ty raw o l) z g h k = k refl
law (Dispatch a b c) z g h k = k refl
law (DispatchIndirect raw o) z g h k = k refl
law (ClearBuffer raw t r) z g h k = k refl
law (CopyBufferToBuffer a b c d e) z g h k = k refl
law (SetIndexBuffer raw) (vertex y) g h k = k refl
law (SetIndexBuffer raw) (binding (buffer ta j)) g h k = k refl
law (SetIndexBuffer raw) (binding (texture j)) g h k = k refl
law (SetIndexBuffer raw) (binding (image j)) g h k = k refl
law (SetIndexBuffer raw) (binding (sampler j)) g h k = k refl
law (SetIndexBuffer raw) (binding index_buffer) g h k = refl
law (SetIndexBuffer raw) (screen y) g h k = k refl
law (SetIndexBuffer raw) (fixed y) g h k = k refl
law (SetIndexBuffer raw) (face y) g h k = k refl
law (BeginQuery q t) z g h k = k refl
law (EndQuery t) z g h k = k refl
law (TimestampQuery q) z g h k = k refl
law (CopyQueryResults a b c d) z g h k = k refl
law (ResetFramebuffer d) z g h k = k refl
law (BindAttachment a v d s) z g h k = k refl
law (ResolveAttachment a v s) z g h k = k refl
law (InvalidateAttachments s) z g h k = k refl
law (SetDrawColorBuffers n) z g h k = k refl
law (ClearColorF n c) z g h k = k refl
law (ClearColorU n c) z g h k = k refl
law (ClearColorI n c) z g h k = k refl
law (ClearDepth d) z g h k = k refl
law (ClearStencil s) z g h k = k refl
law (ClearDepthAndStencil d s) z g h k = k refl
law (BufferBarrier b u) z g h k = k refl
law (TextureBarrier u) z g h k = k refl
law (SetViewport r d) (vertex y) g h k = k refl
law (SetViewport r d) (binding y) g h k = k refl
law (SetViewport r d) (screen viewport) g h k = refl
law (SetViewport r d) (screen scissor) g h k = k refl
law (SetViewport r d) (screen blend_constants) g h k = k refl
law (SetViewport r d) (fixed y) g h k = k refl
law (SetViewport r d) (face y) g h k = k refl
law (SetScissor r) (vertex y) g h k = k refl
law (SetScissor r) (binding y) g h k = k refl
law (SetScissor r) (screen viewport) g h k = k refl
law (SetScissor r) (screen scissor) g h k = refl
law (SetScissor r) (screen blend_constants) g h k = k refl
law (SetScissor r) (fixed y) g h k = k refl
law (SetScissor r) (face y) g h k = k refl
law (SetStencilFunc side f r n) (vertex y) g h k = k refl
law (SetStencilFunc side f r n) (binding y) g h k = k refl
law (SetStencilFunc side f r n) (screen y) g h k = k refl
law (SetStencilFunc side f r n) (fixed y) g h k = k refl
law (SetStencilFunc side f r n) (face front_function) g h k = faced _ _ _ (on_front side) k
law (SetStencilFunc side f r n) (face back_function) g h k = pick _ _ _ (on_back side) k
law (SetStencilFunc side f r n) (face front_operations) g h k = k refl
law (SetStencilFunc side f r n) (face back_operations) g h k = k refl
law (SetStencilOps side w o) (vertex y) g h k = k refl
law (SetStencilOps side w o) (binding y) g h k = k refl
law (SetStencilOps side w o) (screen y) g h k = k refl
law (SetStencilOps side w o) (fixed y) g h k = k refl
law (SetStencilOps side w o) (face front_function) g h k = k refl
law (SetStencilOps side w o) (face back_function) g h k = k refl
law (SetStencilOps side w o) (face front_operations) g h k = faced _ _ _ (on_front side) k
law (SetStencilOps side w o) (face back_operations) g h k = pick _ _ _ (on_back side) k
law (SetDepth d) (vertex y) g h k = k refl
law (SetDepth d) (binding y) g h k = k refl
law (SetDepth d) (screen y) g h k = k refl
law (SetDepth d) (fixed program) g h k = k refl
law (SetDepth d) (fixed primitive) g h k = k refl
law (SetDepth d) (fixed depth_bias) g h k = k refl
law (SetDepth d) (fixed alpha_to_coverage) g h k = k refl
law (SetDepth d) (fixed (clip_distance j)) g h k = k refl
law (SetDepth d) (fixed depth_stencil) g h k = k refl
law (SetDepth d) (fixed depth) g h k = refl
law (SetDepth d) (fixed (target j)) g h k = k refl
law (SetDepth d) (face y) g h k = k refl
law (SetDepthBias d) (vertex y) g h k = k refl
law (SetDepthBias d) (binding y) g h k = k refl
law (SetDepthBias d) (screen y) g h k = k refl
law (SetDepthBias d) (fixed program) g h k = k refl
law (SetDepthBias d) (fixed primitive) g h k = k refl
law (SetDepthBias d) (fixed depth_bias) g h k = refl
law (SetDepthBias d) (fixed alpha_to_coverage) g h k = k refl
law (SetDepthBias d) (fixed (clip_distance j)) g h k = k refl
law (SetDepthBias d) (fixed depth_stencil) g h k = k refl
law (SetDepthBias d) (fixed depth) g h k = k refl
law (SetDepthBias d) (fixed (target j)) g h k = k refl
law (SetDepthBias d) (face y) g h k = k refl
law (ConfigureDepthStencil a) (vertex y) g h k = k refl
law (ConfigureDepthStencil a) (binding y) g h k = k refl
law (ConfigureDepthStencil a) (screen y) g h k = k refl
law (ConfigureDepthStencil a) (fixed program) g h k = k refl
law (ConfigureDepthStencil a) (fixed primitive) g h k = k refl
law (ConfigureDepthStencil a) (fixed depth_bias) g h k = k refl
law (ConfigureDepthStencil a) (fixed alpha_to_coverage) g h k = k refl
law (ConfigureDepthStencil a) (fixed (clip_distance j)) g h k = k refl
law (ConfigureDepthStencil a) (fixed depth_stencil) g h k = refl
law (ConfigureDepthStencil a) (fixed depth) g h k = k refl
law (ConfigureDepthStencil a) (fixed (target j)) g h k = k refl
law (ConfigureDepthStencil a) (face y) g h k = k refl
law (SetAlphaToCoverage a) (vertex y) g h k = k refl
law (SetAlphaToCoverage a) (binding y) g h k = k refl
law (SetAlphaToCoverage a) (screen y) g h k = k refl
law (SetAlphaToCoverage a) (fixed program) g h k = k refl
law (SetAlphaToCoverage a) (fixed primitive) g h k = k refl
law (SetAlphaToCoverage a) (fixed depth_bias) g h k = k refl
law (SetAlphaToCoverage a) (fixed alpha_to_coverage) g h k = refl
law (SetAlphaToCoverage a) (fixed (clip_distance j)) g h k = k refl
law (SetAlphaToCoverage a) (fixed depth_stencil) g h k = k refl
law (SetAlphaToCoverage a) (fixed depth) g h k = k refl
law (SetAlphaToCoverage a) (fixed (target j)) g h k = k refl
law (SetAlphaToCoverage a) (face y) g h k = k refl
law (SetVertexAttribute b d a) (vertex (attribute l)) g h k = pick _ _ _ (eqb l a.location) k
law (SetVertexAttribute b d a) (vertex (vertex_buffer j)) g h k = k refl
law (SetVertexAttribute b d a) (binding y) g h k = k refl
law (SetVertexAttribute b d a) (screen y) g h k = k refl
law (SetVertexAttribute b d a) (fixed y) g h k = k refl
law (SetVertexAttribute b d a) (face y) g h k = k refl
law (UnsetVertexAttribute l) (vertex (attribute m)) g h k = pick _ _ _ (eqb m l) k
law (UnsetVertexAttribute l) (vertex (vertex_buffer j)) g h k = k refl
law (UnsetVertexAttribute l) (binding y) g h k = k refl
law (UnsetVertexAttribute l) (screen y) g h k = k refl
law (UnsetVertexAttribute l) (fixed y) g h k = k refl
law (UnsetVertexAttribute l) (face y) g h k = k refl
law (SetVertexBuffer i b d) (vertex (attribute l)) g h k = k refl
law (SetVertexBuffer i b d) (vertex (vertex_buffer j)) g h k = pick _ _ _ (eqb j i) k
law (SetVertexBuffer i b d) (binding y) g h k = k refl
law (SetVertexBuffer i b d) (screen y) g h k = k refl
law (SetVertexBuffer i b d) (fixed y) g h k = k refl
law (SetVertexBuffer i b d) (face y) g h k = k refl
law (SetProgram p) (vertex y) g h k = k refl
law (SetProgram p) (binding y) g h k = k refl
law (SetProgram p) (screen y) g h k = k refl
law (SetProgram p) (fixed program) g h k = refl
law (SetProgram p) (fixed primitive) g h k = k refl
law (SetProgram p) (fixed depth_bias) g h k = k refl
law (SetProgram p) (fixed alpha_to_coverage) g h k = k refl
law (SetProgram p) (fixed (clip_distance j)) g h k = k refl
law (SetProgram p) (fixed depth_stencil) g h k = k refl
law (SetProgram p) (fixed depth) g h k = k refl
law (SetProgram p) (fixed (target j)) g h k = k refl
law (SetProgram p) (face y) g h k = k refl
law (SetPrimitive p) (vertex y) g h k = k refl
law (SetPrimitive p) (binding y) g h k = k refl
law (SetPrimitive p) (screen y) g h k = k refl
law (SetPrimitive p) (fixed program) g h k = k refl
law (SetPrimitive p) (fixed primitive) g h k = refl
law (SetPrimitive p) (fixed depth_bias) g h k = k refl
law (SetPrimitive p) (fixed alpha_to_coverage) g h k = k refl
law (SetPrimitive p) (fixed (clip_distance j)) g h k = k refl
law (SetPrimitive p) (fixed depth_stencil) g h k = k refl
law (SetPrimitive p) (fixed depth) g h k = k refl
law (SetPrimitive p) (fixed (target j)) g h k = k refl
law (SetPrimitive p) (face y) g h k = k refl
law (SetBlendConstant c) (vertex y) g h k = k refl
law (SetBlendConstant c) (binding y) g h k = k refl
law (SetBlendConstant c) (screen viewport) g h k = k refl
law (SetBlendConstant c) (screen scissor) g h k = k refl
law (SetBlendConstant c) (screen blend_constants) g h k = refl
law (SetBlendConstant c) (fixed y) g h k = k refl
law (SetBlendConstant c) (face y) g h k = k refl
law (SetColorTarget None t) (vertex y) g h k = k refl
law (SetColorTarget None t) (binding y) g h k = k refl
law (SetColorTarget None t) (screen y) g h k = k refl
law (SetColorTarget None t) (fixed program) g h k = k refl
law (SetColorTarget None t) (fixed primitive) g h k = k refl
law (SetColorTarget None t) (fixed depth_bias) g h k = k refl
law (SetColorTarget None t) (fixed alpha_to_coverage) g h k = k refl
law (SetColorTarget None t) (fixed (clip_distance j)) g h k = k refl
law (SetColorTarget None t) (fixed depth_stencil) g h k = k refl
law (SetColorTarget None t) (fixed depth) g h k = k refl
law (SetColorTarget None t) (fixed (target j)) g h k = refl
law (SetColorTarget None t) (face y) g h k = k refl
law (SetColorTarget (Some i) t) (vertex y) g h k = k refl
law (SetColorTarget (Some i) t) (binding y) g h k = k refl
law (SetColorTarget (Some i) t) (screen y) g h k = k refl
law (SetColorTarget (Some i) t) (fixed program) g h k = k refl
law (SetColorTarget (Some i) t) (fixed primitive) g h k = k refl
law (SetColorTarget (Some i) t) (fixed depth_bias) g h k = k refl
law (SetColorTarget (Some i) t) (fixed alpha_to_coverage) g h k = k refl
law (SetColorTarget (Some i) t) (fixed (clip_distance j)) g h k = k refl
law (SetColorTarget (Some i) t) (fixed depth_stencil) g h k = k refl
law (SetColorTarget (Some i) t) (fixed depth) g h k = k refl
law (SetColorTarget (Some i) t) (fixed (target j)) g h k = pick _ _ _ (eqb j i) k
law (SetColorTarget (Some i) t) (face y) g h k = k refl
law (BindBuffer ta i b o s) (vertex y) g h k = k refl
law (BindBuffer ta i b o s) (binding (buffer tb j)) g h k = ranged g.bindings.buffers h.bindings.buffers ta i tb j (Some (record { buffer = b; offset = o; size = s })) k
law (BindBuffer ta i b o s) (binding (texture j)) g h k = k refl
law (BindBuffer ta i b o s) (binding (image j)) g h k = k refl
law (BindBuffer ta i b o s) (binding (sampler j)) g h k = k refl
law (BindBuffer ta i b o s) (binding index_buffer) g h k = k refl
law (BindBuffer ta i b o s) (screen y) g h k = k refl
law (BindBuffer ta i b o s) (fixed y) g h k = k refl
law (BindBuffer ta i b o s) (face y) g h k = k refl
law (BindSampler u s) (vertex y) g h k = k refl
law (BindSampler u s) (binding (buffer ta j)) g h k = k refl
law (BindSampler u s) (binding (texture j)) g h k = k refl
law (BindSampler u s) (binding (image j)) g h k = k refl
law (BindSampler u s) (binding (sampler j)) g h k = pick _ _ _ (eqb j u) k
law (BindSampler u s) (binding index_buffer) g h k = k refl
law (BindSampler u s) (screen y) g h k = k refl
law (BindSampler u s) (fixed y) g h k = k refl
law (BindSampler u s) (face y) g h k = k refl
law (BindTexture i te ta a mips) (vertex y) g h k = k refl
law (BindTexture i te ta a mips) (binding (buffer tb j)) g h k = k refl
law (BindTexture i te ta a mips) (binding (texture j)) g h k = pick _ _ _ (eqb j i) k
law (BindTexture i te ta a mips) (binding (image j)) g h k = k refl
law (BindTexture i te ta a mips) (binding (sampler j)) g h k = k refl
law (BindTexture i te ta a mips) (binding index_buffer) g h k = k refl
law (BindTexture i te ta a mips) (screen y) g h k = k refl
law (BindTexture i te ta a mips) (fixed y) g h k = k refl
law (BindTexture i te ta a mips) (face y) g h k = k refl
law (BindImage i x) (vertex y) g h k = k refl
law (BindImage i x) (binding (buffer ta j)) g h k = k refl
law (BindImage i x) (binding (texture j)) g h k = k refl
law (BindImage i x) (binding (image j)) g h k = pick _ _ _ (eqb j i) k
law (BindImage i x) (binding (sampler j)) g h k = k refl
law (BindImage i x) (binding index_buffer) g h k = k refl
law (BindImage i x) (screen y) g h k = k refl
law (BindImage i x) (fixed y) g h k = k refl
law (BindImage i x) (face y) g h k = k refl
law (PushDebugGroup r) z g h k = k refl
law PopDebugGroup z g h k = k refl
law (SetImmediates d o) z g h k = k refl
law (SetClipDistances old n) (vertex y) g h k = k refl
law (SetClipDistances old n) (binding y) g h k = k refl
law (SetClipDistances old n) (screen y) g h k = k refl
law (SetClipDistances old n) (fixed program) g h k = k refl
law (SetClipDistances old n) (fixed primitive) g h k = k refl
law (SetClipDistances old n) (fixed depth_bias) g h k = k refl
law (SetClipDistances old n) (fixed alpha_to_coverage) g h k = k refl
law (SetClipDistances old n) (fixed (clip_distance j)) g h k = clipped _ _ (between old n j) (between n old j) k
law (SetClipDistances old n) (fixed depth_stencil) g h k = k refl
law (SetClipDistances old n) (fixed depth) g h k = k refl
law (SetClipDistances old n) (fixed (target j)) g h k = k refl
law (SetClipDistances old n) (face y) g h k = k refl

-- the same of a list: what it sets, or what was the same before
pub agree : (cs : List Command) (x : Thing) (g h : Gl) → (named cs x ≡ false → Same x g h) → Same x (settings g cs) (settings h cs)
unfolding settings some?
agree [] x g h k = k refl
agree (c ∷ cs) x g h k = agree cs x (settings_after g c) (settings_after h c) (λ e. law c x g h (λ n. k (go (names c x) n (named cs x) e)))
  where
    go : (a : Bool) → a ≡ false → (b : Bool) → b ≡ false → a || b ≡ false
    go true p b q = p
    go false p b q = q
