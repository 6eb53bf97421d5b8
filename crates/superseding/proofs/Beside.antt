-- A setting of the seven kinds names one thing of the machine and leaves the others; machines that hold the same everywhere are one. Assumes nothing.
use Prim.Native.Nat.{ℕ, zero, suc}
use mathlib.Core.Path.{◌≡◌, refl, sym, ap, ◌∙◌, fun_ext}
use mathlib.Core.Bool.{Bool, true, false, cond, ◌&&◌, ◌||◌}
use Rattle.std.specs.Prelude.{Option, None, Some}
use lib.Dec.{eqb}
use borrow.Author.Tests.{eqb-true, eq-eqb}
use Rattle.records.specs.declared.command.BufferBinding.{BufferBinding}
use Rattle.records.specs.declared.command.ColorF32.{ColorF32}
use Rattle.records.specs.declared.command.Command.{Command}
use Rattle.records.specs.declared.command.Command.TheVariants.{Draw, DrawIndexed, DrawIndirect, DrawIndexedIndirect, Dispatch, DispatchIndirect, ClearBuffer, CopyBufferToBuffer}
use Rattle.records.specs.declared.command.Command.TheVariants.{SetIndexBuffer, BeginQuery, EndQuery, TimestampQuery, CopyQueryResults, ResetFramebuffer, BindAttachment}
use Rattle.records.specs.declared.command.Command.TheVariants.{ResolveAttachment, InvalidateAttachments, SetDrawColorBuffers, ClearColorF, ClearColorU, ClearColorI, ClearDepth}
use Rattle.records.specs.declared.command.Command.TheVariants.{ClearStencil, ClearDepthAndStencil, BufferBarrier, TextureBarrier, SetViewport, SetScissor, SetStencilFunc}
use Rattle.records.specs.declared.command.Command.TheVariants.{SetStencilOps, SetDepth, SetDepthBias, ConfigureDepthStencil, SetAlphaToCoverage, SetVertexAttribute}
use Rattle.records.specs.declared.command.Command.TheVariants.{UnsetVertexAttribute, SetVertexBuffer, SetProgram, SetPrimitive, SetBlendConstant, SetColorTarget, BindBuffer}
use Rattle.records.specs.declared.command.Command.TheVariants.{BindSampler, BindTexture, BindImage, PushDebugGroup, PopDebugGroup, SetImmediates, SetClipDistances}
use Rattle.records.specs.declared.command.DepthBiasState.{DepthBiasState}
use Rattle.records.specs.declared.command.DepthRange.{DepthRange}
use Rattle.records.specs.declared.command.RectI32.{RectI32}
use Rattle.records.specs.declared.command.VertexBufferDesc.{VertexBufferDesc}
use Rattle.machine.specs.Machine.{Vertices, Bindings, Screen, Fixed, Faces, Gl}
use Rattle.machine.proofs.Lists.{true-false, false-true, and_left, and_right}
use Rattle.lists.specs.Class.{class_of}
use Rattle.lists.specs.Shots.{settings_after}
use Rattle.lists.specs.Things.{VertexThing, attribute, vertex_buffer, BindingThing, buffer, texture, image, sampler, index_buffer, ScreenThing, viewport}
use Rattle.lists.specs.Things.{scissor, blend_constants, FixedThing, program, primitive, depth_bias, alpha_to_coverage, depth_stencil, depth, target, clip_distance}
use Rattle.lists.specs.Things.{FaceThing, front_function, back_function, front_operations, back_operations, Thing, vertex, binding, screen, fixed}
use Rattle.lists.specs.Things.{face, Same, SameVertex, SameBinding, SameScreen, SameFixed, SameFace, same_vertex, same_binding, same_fixed}
use Rattle.lists.specs.Things.{binding_kind, binding_place, binding_target, screen_kind, fixed_kind, fixed_place, face_kind, is_vertex, is_binding}
use Rattle.lists.specs.Things.{is_screen, is_fixed, is_face, is_target, is_clip, on_front, on_back, names}
use Rattle.superseding.specs.Superseded.{setting_of}

-- ---- y names the same thing as x
abbrev pub is : Thing → Thing → Bool
is y (vertex x) = is_vertex x y
is y (binding x) = is_binding x y
is y (screen x) = is_screen x y
is y (fixed x) = is_fixed x y
is y (face x) = is_face x y

-- then it is x: read back from kind and place
back_binding : ℕ → ℕ → ℕ → BindingThing
back_binding zero t i = buffer t i
back_binding (suc zero) t i = texture i
back_binding (suc (suc zero)) t i = image i
back_binding (suc (suc (suc zero))) t i = sampler i
back_binding (suc (suc (suc (suc n)))) t i = index_buffer

binding-back : (x : BindingThing) → back_binding (binding_kind x) (binding_target x) (binding_place x) ≡ x
unfolding back_binding
binding-back (buffer t i) = refl
binding-back (texture i) = refl
binding-back (image i) = refl
binding-back (sampler u) = refl
binding-back index_buffer = refl

back_screen : ℕ → ScreenThing
back_screen zero = viewport
back_screen (suc zero) = scissor
back_screen (suc (suc n)) = blend_constants

screen-back : (x : ScreenThing) → back_screen (screen_kind x) ≡ x
unfolding back_screen
screen-back viewport = refl
screen-back scissor = refl
screen-back blend_constants = refl

back_fixed : ℕ → ℕ → FixedThing
back_fixed zero i = program
back_fixed (suc zero) i = primitive
back_fixed (suc (suc zero)) i = depth_bias
back_fixed (suc (suc (suc zero))) i = alpha_to_coverage
back_fixed (suc (suc (suc (suc zero)))) i = depth_stencil
back_fixed (suc (suc (suc (suc (suc zero))))) i = depth
back_fixed (suc (suc (suc (suc (suc (suc zero)))))) i = target i
back_fixed (suc (suc (suc (suc (suc (suc (suc n))))))) i = clip_distance i

fixed_back : (x : FixedThing) → back_fixed (fixed_kind x) (fixed_place x) ≡ x
unfolding back_fixed
fixed_back program = refl
fixed_back primitive = refl
fixed_back depth_bias = refl
fixed_back alpha_to_coverage = refl
fixed_back depth_stencil = refl
fixed_back depth = refl
fixed_back (target i) = refl
fixed_back (clip_distance i) = refl

back_face : ℕ → FaceThing
back_face zero = front_function
back_face (suc zero) = back_function
back_face (suc (suc zero)) = front_operations
back_face (suc (suc (suc n))) = back_operations

face-back : (x : FaceThing) → back_face (face_kind x) ≡ x
unfolding back_face
face-back front_function = refl
face-back back_function = refl
face-back front_operations = refl
face-back back_operations = refl

one-vertex : (x y : VertexThing) → same_vertex y x ≡ true → y ≡ x
one-vertex (attribute l) (attribute k) e = ap attribute (eqb-true k l e)
one-vertex (attribute l) (vertex_buffer k) e = false-true e
one-vertex (vertex_buffer i) (attribute k) e = false-true e
one-vertex (vertex_buffer i) (vertex_buffer k) e = ap vertex_buffer (eqb-true k i e)

one-binding : (x y : BindingThing) → same_binding y x ≡ true → y ≡ x
one-binding x y e =
    let rest = and_right (eqb (binding_kind y) (binding_kind x)) (eqb (binding_target y) (binding_target x) && eqb (binding_place y) (binding_place x)) e in
    let k = eqb-true (binding_kind y) (binding_kind x) (and_left (eqb (binding_kind y) (binding_kind x)) (eqb (binding_target y) (binding_target x) && eqb (binding_place y) (binding_place x)) e) in
    let t = eqb-true (binding_target y) (binding_target x) (and_left (eqb (binding_target y) (binding_target x)) (eqb (binding_place y) (binding_place x)) rest) in
    let i = eqb-true (binding_place y) (binding_place x) (and_right (eqb (binding_target y) (binding_target x)) (eqb (binding_place y) (binding_place x)) rest) in
    sym (binding-back y) ∙ (λ j. back_binding (k j) (t j) (i j)) ∙ binding-back x

one-fixed : (x y : FixedThing) → same_fixed y x ≡ true → y ≡ x
one-fixed x y e =
    let k = eqb-true (fixed_kind y) (fixed_kind x) (and_left (eqb (fixed_kind y) (fixed_kind x)) (eqb (fixed_place y) (fixed_place x)) e) in
    let i = eqb-true (fixed_place y) (fixed_place x) (and_right (eqb (fixed_kind y) (fixed_kind x)) (eqb (fixed_place y) (fixed_place x)) e) in
    sym (fixed_back y) ∙ (λ j. back_fixed (k j) (i j)) ∙ fixed_back x

pub one : (x y : Thing) → is y x ≡ true → y ≡ x
one (vertex x) (vertex y) e = ap vertex (one-vertex x y e)
one (vertex x) (binding y) e = false-true e
one (vertex x) (screen y) e = false-true e
one (vertex x) (fixed y) e = false-true e
one (vertex x) (face y) e = false-true e
one (binding x) (vertex y) e = false-true e
one (binding x) (binding y) e = ap binding (one-binding x y e)
one (binding x) (screen y) e = false-true e
one (binding x) (fixed y) e = false-true e
one (binding x) (face y) e = false-true e
one (screen x) (vertex y) e = false-true e
one (screen x) (binding y) e = false-true e
one (screen x) (screen y) e = ap screen (sym (screen-back y) ∙ ap back_screen (eqb-true (screen_kind y) (screen_kind x) e) ∙ screen-back x)
one (screen x) (fixed y) e = false-true e
one (screen x) (face y) e = false-true e
one (fixed x) (vertex y) e = false-true e
one (fixed x) (binding y) e = false-true e
one (fixed x) (screen y) e = false-true e
one (fixed x) (fixed y) e = ap fixed (one-fixed x y e)
one (fixed x) (face y) e = false-true e
one (face x) (vertex y) e = false-true e
one (face x) (binding y) e = false-true e
one (face x) (screen y) e = false-true e
one (face x) (fixed y) e = false-true e
one (face x) (face y) e = ap face (sym (face-back y) ∙ ap back_face (eqb-true (face_kind y) (face_kind x) e) ∙ face-back x)

-- ---- machines that hold the same everywhere are one
pub ext : (g h : Gl) → ((x : Thing) → Same x g h) → g ≡ h
ext g h s =
    let a = fun_ext (λ (l : ℕ). s (vertex (attribute l))) in
    let b = fun_ext (λ (i : ℕ). s (vertex (vertex_buffer i))) in
    let r = fun_ext (λ (t : ℕ). fun_ext (λ (i : ℕ). s (binding (buffer t i)))) in
    let t = fun_ext (λ (i : ℕ). s (binding (texture i))) in
    let m = fun_ext (λ (i : ℕ). s (binding (image i))) in
    let u = fun_ext (λ (i : ℕ). s (binding (sampler i))) in
    let n = s (binding index_buffer) in
    let v = s (screen viewport) in
    let c = s (screen scissor) in
    let k = s (screen blend_constants) in
    let p = s (fixed program) in
    let q = s (fixed primitive) in
    let d = s (fixed depth_bias) in
    let f = s (fixed alpha_to_coverage) in
    let w = fun_ext (λ (i : ℕ). s (fixed (target i))) in
    let x = fun_ext (λ (i : ℕ). s (fixed (clip_distance i))) in
    let y = s (fixed depth_stencil) in
    let z = s (fixed depth) in
    let ff = s (face front_function) in
    let fb = s (face back_function) in
    let of = s (face front_operations) in
    let ob = s (face back_operations) in
    λ j.
    record {
      vertices = record { attribute = a j; buffer = b j };
      bindings = record { buffers = r j; textures = t j; images = m j; samplers = u j; index = n j };
      screen = record { viewport = v j; scissor = c j; blend = k j };
      fixed = record { program = p j; primitive = q j; bias = d j; alpha = f j; target = w j; clip = x j; aspects = y j; depth = z j };
      faces = record { front = ff j; back = fb j; front_ops = of j; back_ops = ob j };
    }

-- ---- a setting of the request names one thing and leaves the others
same-vertex : (x : VertexThing) (g : Vertices) → SameVertex x g g
same-vertex (attribute l) g = refl
same-vertex (vertex_buffer i) g = refl

same-binding : (x : BindingThing) (g : Bindings) → SameBinding x g g
same-binding (buffer t i) g = refl
same-binding (texture i) g = refl
same-binding (image i) g = refl
same-binding (sampler u) g = refl
same-binding index_buffer g = refl

same-screen : (x : ScreenThing) (g : Screen) → SameScreen x g g
same-screen viewport g = refl
same-screen scissor g = refl
same-screen blend_constants g = refl

same-fixed : (x : FixedThing) (g : Fixed) → SameFixed x g g
same-fixed program g = refl
same-fixed primitive g = refl
same-fixed depth_bias g = refl
same-fixed alpha_to_coverage g = refl
same-fixed depth_stencil g = refl
same-fixed depth g = refl
same-fixed (target i) g = refl
same-fixed (clip_distance i) g = refl

same-face : (x : FaceThing) (g : Faces) → SameFace x g g
same-face front_function g = refl
same-face back_function g = refl
same-face front_operations g = refl
same-face back_operations g = refl

skip : {A : Type 0} (a x : A) (t : Bool) → t ≡ false → x ≡ cond t a x
skip a x true e = true-false e
skip a x false e = refl

-- each thing but x is as it was
abbrev pub Beside : Thing → Gl → Gl → Type 0
Beside x g h = (y : Thing) → is y x ≡ false → Same y g h

by-blend : (c : ColorF32) (g : Gl) → Beside (screen blend_constants) g (settings_after g (SetBlendConstant c))
by-blend c g (vertex y) e = same-vertex y g.vertices
by-blend c g (binding y) e = same-binding y g.bindings
by-blend c g (screen viewport) e = refl
by-blend c g (screen scissor) e = refl
by-blend c g (screen blend_constants) e = true-false e
by-blend c g (fixed y) e = same-fixed y g.fixed
by-blend c g (face y) e = same-face y g.faces

by-viewport : (r : RectI32) (d : DepthRange) (g : Gl) → Beside (screen viewport) g (settings_after g (SetViewport r d))
by-viewport r d g (vertex y) e = same-vertex y g.vertices
by-viewport r d g (binding y) e = same-binding y g.bindings
by-viewport r d g (screen viewport) e = true-false e
by-viewport r d g (screen scissor) e = refl
by-viewport r d g (screen blend_constants) e = refl
by-viewport r d g (fixed y) e = same-fixed y g.fixed
by-viewport r d g (face y) e = same-face y g.faces

by-scissor : (r : RectI32) (g : Gl) → Beside (screen scissor) g (settings_after g (SetScissor r))
by-scissor r g (vertex y) e = same-vertex y g.vertices
by-scissor r g (binding y) e = same-binding y g.bindings
by-scissor r g (screen viewport) e = refl
by-scissor r g (screen scissor) e = true-false e
by-scissor r g (screen blend_constants) e = refl
by-scissor r g (fixed y) e = same-fixed y g.fixed
by-scissor r g (face y) e = same-face y g.faces

by-buffer : (i : ℕ) (b : BufferBinding) (d : VertexBufferDesc) (g : Gl) → Beside (vertex (vertex_buffer i)) g (settings_after g (SetVertexBuffer i b d))
by-buffer i b d g (vertex (attribute l)) e = refl
by-buffer i b d g (vertex (vertex_buffer j)) e = skip _ _ (eqb j i) e
by-buffer i b d g (binding y) e = same-binding y g.bindings
by-buffer i b d g (screen y) e = same-screen y g.screen
by-buffer i b d g (fixed y) e = same-fixed y g.fixed
by-buffer i b d g (face y) e = same-face y g.faces

by-sampler : (u : ℕ) (s : Option ℕ) (g : Gl) → Beside (binding (sampler u)) g (settings_after g (BindSampler u s))
by-sampler u s g (vertex y) e = same-vertex y g.vertices
by-sampler u s g (binding (buffer t i)) e = refl
by-sampler u s g (binding (texture i)) e = refl
by-sampler u s g (binding (image i)) e = refl
by-sampler u s g (binding (sampler j)) e = skip _ _ (eqb j u) e
by-sampler u s g (binding index_buffer) e = refl
by-sampler u s g (screen y) e = same-screen y g.screen
by-sampler u s g (fixed y) e = same-fixed y g.fixed
by-sampler u s g (face y) e = same-face y g.faces

by_index : (raw : ℕ) (g : Gl) → Beside (binding index_buffer) g (settings_after g (SetIndexBuffer raw))
by_index raw g (vertex y) e = same-vertex y g.vertices
by_index raw g (binding (buffer t i)) e = refl
by_index raw g (binding (texture i)) e = refl
by_index raw g (binding (image i)) e = refl
by_index raw g (binding (sampler j)) e = refl
by_index raw g (binding index_buffer) e = true-false e
by_index raw g (screen y) e = same-screen y g.screen
by_index raw g (fixed y) e = same-fixed y g.fixed
by_index raw g (face y) e = same-face y g.faces

by-bias : (d : DepthBiasState) (g : Gl) → Beside (fixed depth_bias) g (settings_after g (SetDepthBias d))
by-bias d g (vertex y) e = same-vertex y g.vertices
by-bias d g (binding y) e = same-binding y g.bindings
by-bias d g (screen y) e = same-screen y g.screen
by-bias d g (fixed program) e = refl
by-bias d g (fixed primitive) e = refl
by-bias d g (fixed depth_bias) e = true-false e
by-bias d g (fixed alpha_to_coverage) e = refl
by-bias d g (fixed depth_stencil) e = refl
by-bias d g (fixed depth) e = refl
by-bias d g (fixed (target i)) e = refl
by-bias d g (fixed (clip_distance i)) e = refl
by-bias d g (face y) e = same-face y g.faces

-- the command names x and nothing else, and leaves the rest
abbrev pub About : Command → Thing → Type 0
About c x = ((y : Thing) → names c y ≡ is y x) × ((g : Gl) → Beside x g (settings_after g c))

-- ---- the things of the seven kinds
abbrev pub of_seven : Thing → Bool
of_seven (vertex (attribute l)) = false
of_seven (vertex (vertex_buffer i)) = true
of_seven (binding (buffer t i)) = false
of_seven (binding (texture i)) = false
of_seven (binding (image i)) = false
of_seven (binding (sampler u)) = true
of_seven (binding index_buffer) = true
of_seven (screen y) = true
of_seven (fixed program) = false
of_seven (fixed primitive) = false
of_seven (fixed depth_bias) = true
of_seven (fixed alpha_to_coverage) = false
of_seven (fixed depth_stencil) = false
of_seven (fixed depth) = false
of_seven (fixed (target i)) = false
of_seven (fixed (clip_distance i)) = false
of_seven (face y) = false

-- another thing is none of them
other : (y x : Thing) → of_seven y ≡ false → of_seven x ≡ true → is x y ≡ false
other y x n s = go (is x y) refl
  where
    go : (t : Bool) → is x y ≡ t → t ≡ false
    go true e = true-false (sym s ∙ ap of_seven (one y x e) ∙ n)
    go false e = refl

no_target : (x : Thing) → of_seven x ≡ true → is_target x ≡ false
no_target (vertex y) s = refl
no_target (binding y) s = refl
no_target (screen y) s = refl
no_target (fixed program) s = refl
no_target (fixed primitive) s = refl
no_target (fixed depth_bias) s = refl
no_target (fixed alpha_to_coverage) s = refl
no_target (fixed depth_stencil) s = refl
no_target (fixed depth) s = refl
no_target (fixed (target i)) s = false-true s
no_target (fixed (clip_distance i)) s = refl
no_target (face y) s = refl

no-clip : (old n : ℕ) (x : Thing) → of_seven x ≡ true → is_clip old n x ≡ false
no-clip old n (vertex y) s = refl
no-clip old n (binding y) s = refl
no-clip old n (screen y) s = refl
no-clip old n (fixed program) s = refl
no-clip old n (fixed primitive) s = refl
no-clip old n (fixed depth_bias) s = refl
no-clip old n (fixed alpha_to_coverage) s = refl
no-clip old n (fixed depth_stencil) s = refl
no-clip old n (fixed depth) s = refl
no-clip old n (fixed (target i)) s = refl
no-clip old n (fixed (clip_distance i)) s = false-true s
no-clip old n (face y) s = refl

no-face : (a b : FaceThing) (p q : Bool) (x : Thing) → of_seven x ≡ true → (is_face a x && p) || (is_face b x && q) ≡ false
no-face a b p q x s =
    let m = other (face a) x refl s in
    let n = other (face b) x refl s in
    λ i. (m i && p) || (n i && q)

-- what is to be known of a command by the setting that it is: it is about one thing; or it names nothing of the seven kinds
abbrev pub Fact : Command → Option Thing → Type 0
Fact c None = (x : Thing) → of_seven x ≡ true → names c x ≡ false
Fact c (Some x) = About c x × (of_seven x ≡ true)

pub fact : (c : Command) → Fact c (setting_of (class_of c))
fact (Draw t fv vc fi ic l) = λ x s. refl
fact (DrawIndexed t ty n o bv fi ic l) = λ x s. refl
fact (DrawIndirect t raw o l) = λ x s. refl
fact (DrawIndexedIndirect t ty raw o l) = λ x s. refl
fact (Dispatch a b c) = λ x s. refl
fact (DispatchIndirect raw o) = λ x s. refl
fact (ClearBuffer raw t r) = λ x s. refl
fact (CopyBufferToBuffer a b c d e) = λ x s. refl
fact (SetIndexBuffer raw) = (((λ y. refl), by_index raw), refl)
fact (BeginQuery q t) = λ x s. refl
fact (EndQuery t) = λ x s. refl
fact (TimestampQuery q) = λ x s. refl
fact (CopyQueryResults a b c d) = λ x s. refl
fact (ResetFramebuffer d) = λ x s. refl
fact (BindAttachment a v d s) = λ x s. refl
fact (ResolveAttachment a v s) = λ x s. refl
fact (InvalidateAttachments s) = λ x s. refl
fact (SetDrawColorBuffers n) = λ x s. refl
fact (ClearColorF n c) = λ x s. refl
fact (ClearColorU n c) = λ x s. refl
fact (ClearColorI n c) = λ x s. refl
fact (ClearDepth d) = λ x s. refl
fact (ClearStencil s) = λ x s. refl
fact (ClearDepthAndStencil d s) = λ x s. refl
fact (BufferBarrier b u) = λ x s. refl
fact (TextureBarrier u) = λ x s. refl
fact (SetViewport r d) = (((λ y. refl), by-viewport r d), refl)
fact (SetScissor r) = (((λ y. refl), by-scissor r), refl)
fact (SetStencilFunc at f r n) = no-face front_function back_function (on_front at) (on_back at)
fact (SetStencilOps at w o) = no-face front_operations back_operations (on_front at) (on_back at)
fact (SetDepth d) = λ x s. other (fixed depth) x refl s
fact (SetDepthBias d) = (((λ y. refl), by-bias d), refl)
fact (ConfigureDepthStencil a) = λ x s. other (fixed depth_stencil) x refl s
fact (SetAlphaToCoverage a) = λ x s. other (fixed alpha_to_coverage) x refl s
fact (SetVertexAttribute b d a) = λ x s. other (vertex (attribute a.location)) x refl s
fact (UnsetVertexAttribute l) = λ x s. other (vertex (attribute l)) x refl s
fact (SetVertexBuffer i b d) = (((λ y. refl), by-buffer i b d), refl)
fact (SetProgram p) = λ x s. other (fixed program) x refl s
fact (SetPrimitive p) = λ x s. other (fixed primitive) x refl s
fact (SetBlendConstant c) = (((λ y. refl), by-blend c), refl)
fact (SetColorTarget None t) = no_target
fact (SetColorTarget (Some i) t) = λ x s. other (fixed (target i)) x refl s
fact (BindBuffer ta i b o s) = λ x s. other (binding (buffer ta i)) x refl s
fact (BindSampler u s) = (((λ y. refl), by-sampler u s), refl)
fact (BindTexture i te ta a mips) = λ x s. other (binding (texture i)) x refl s
fact (BindImage i y) = λ x s. other (binding (image i)) x refl s
fact (PushDebugGroup r) = λ x s. refl
fact PopDebugGroup = λ x s. refl
fact (SetImmediates d o) = λ x s. refl
fact (SetClipDistances old n) = no-clip old n

-- a thing is itself
both : {a b : Bool} → a ≡ true → b ≡ true → a && b ≡ true
both {a} {b} p q = ap (λ (t : Bool). t && b) p ∙ q

pub is-self : (x : Thing) → is x x ≡ true
is-self (vertex (attribute l)) = eq-eqb l l refl
is-self (vertex (vertex_buffer i)) = eq-eqb i i refl
is-self (binding x) = both (eq-eqb (binding_kind x) (binding_kind x) refl) (both (eq-eqb (binding_target x) (binding_target x) refl) (eq-eqb (binding_place x) (binding_place x) refl))
is-self (screen x) = eq-eqb (screen_kind x) (screen_kind x) refl
is-self (fixed x) = both (eq-eqb (fixed_kind x) (fixed_kind x) refl) (eq-eqb (fixed_place x) (fixed_place x) refl)
is-self (face x) = eq-eqb (face_kind x) (face_kind x) refl
