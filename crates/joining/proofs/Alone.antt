-- Document 02 §14: what the draws of a joined list find, and that joining is associative. Assumes nothing.
use Prim.Native.Nat.{ℕ, zero, suc, ◌+◌, ◌≤◌, ◌<◌}
use mathlib.Core.Path.{◌≡◌, refl, sym, ap, ap₂, ◌∙◌, subst, fun_ext}
use mathlib.Core.Bool.{Bool, true, false, cond, not, ◌&&◌, ◌||◌}
use mathlib.Core.List.{List, [], ◌∷◌, ◌++◌, map, map-append, append_assoc, append-nil}
use Rattle.std.specs.Prelude.{Option, None, Some}
use native.Mathlib.Nat.{add_assoc}
use native.Mathlib.Omega.{arith}
use lib.Dec.{eqb, ltb, T}
use lib.Ieee.{Float, binary32, fits, of_bits}
use lib.ListN.{length, length-append}
use Rattle.tables.specs.Tabulate.{upd, upd_other}
use borrow.Author.Tests.{eqb-true, eqb-false, ltb-true, lt-ltb, le-ltb, ltb-false}
use Rattle.numbers.specs.Convert.{bits32}
use Rattle.numbers.specs.Agree.{bits-same}
use Rattle.records.specs.Check.{some?}
use Rattle.records.specs.Start.{start_depth_bias}
use Rattle.records.specs.Same.{same_depth_bias, depth_bias as depth-equal}
use Rattle.records.specs.declared.command.ColorF32.{ColorF32}
use Rattle.records.specs.declared.command.Command.{Command}
use Rattle.records.specs.declared.command.Command.TheVariants.{Draw, DrawIndexed, DrawIndirect, DrawIndexedIndirect, Dispatch, DispatchIndirect, ClearBuffer, CopyBufferToBuffer}
use Rattle.records.specs.declared.command.Command.TheVariants.{SetIndexBuffer, BeginQuery, EndQuery, TimestampQuery, CopyQueryResults, ResetFramebuffer, BindAttachment}
use Rattle.records.specs.declared.command.Command.TheVariants.{ResolveAttachment, InvalidateAttachments, SetDrawColorBuffers, ClearColorF, ClearColorU, ClearColorI, ClearDepth}
use Rattle.records.specs.declared.command.Command.TheVariants.{ClearStencil, ClearDepthAndStencil, BufferBarrier, TextureBarrier, SetViewport, SetScissor, SetStencilFunc}
use Rattle.records.specs.declared.command.Command.TheVariants.{SetStencilOps, SetDepth, SetDepthBias, ConfigureDepthStencil, SetAlphaToCoverage, SetVertexAttribute}
use Rattle.records.specs.declared.command.Command.TheVariants.{UnsetVertexAttribute, SetVertexBuffer, SetProgram, SetPrimitive, SetBlendConstant, SetColorTarget, BindBuffer}
use Rattle.records.specs.declared.command.Command.TheVariants.{BindSampler, BindTexture, BindImage, PushDebugGroup, PopDebugGroup, SetImmediates, SetClipDistances}
use Rattle.records.specs.declared.command.DepthBiasState.{DepthBiasState}
use Rattle.machine.proofs.Lists.{true-false, false-true, and_left, and_right, and-false}
use Rattle.machine.specs.Machine.{Gl, fresh_gl, switched}
use Rattle.lists.specs.Class.{class_of, draws}
use Rattle.lists.specs.Shots.{settings_after as after, settings}
use Rattle.lists.specs.Things.{buffer, texture, image, sampler, index_buffer, viewport, scissor, blend_constants, program, primitive, depth_bias, alpha_to_coverage, depth_stencil, depth, target, clip_distance}
use Rattle.lists.specs.Things.{Thing, vertex, binding, screen, fixed, face, Same, names, named}
use Rattle.lists.specs.Clips.{Clips, clip_of}
use Rattle.joining.specs.Joined.{Listed, moved, bound_by, bound_from, off, samplers_off, no_color, zero_color, only, resets, end_of, bound_of, put_in, joined, Floats}
use Rattle.joining.specs.Claim.{five, Found, founds, Alone}
use Rattle.lists.proofs.Laws.{law, agree}
use Rattle.joining.proofs.Resets.{resets-by}
use Rattle.joining.proofs.Bounded.{bounded, from-count}

-- a command that is moved does on the machine what it did, and a draw is not changed
still : (m k : ℕ) (c : Command) → ((g : Gl) → after g (moved m k c) ≡ after g c) × (class_of (moved m k c) ≡ class_of c) × (draws (class_of c) ≡ true → moved m k c ≡ c) × (clip_of (moved m k c) ≡ clip_of c)
still m k (Draw t fv vc fi ic l) = ((λ g. refl), refl, (λ e. refl), refl)
still m k (DrawIndexed t ty n o bv fi ic l) = ((λ g. refl), refl, (λ e. refl), refl)
still m k (DrawIndirect t raw o l) = ((λ g. refl), refl, (λ e. refl), refl)
still m k (DrawIndexedIndirect t ty raw o l) = ((λ g. refl), refl, (λ e. refl), refl)
still m k (Dispatch a b c) = ((λ g. refl), refl, (λ e. refl), refl)
still m k (DispatchIndirect raw o) = ((λ g. refl), refl, (λ e. refl), refl)
still m k (ClearBuffer raw t r) = ((λ g. refl), refl, (λ e. refl), refl)
still m k (CopyBufferToBuffer a b c d e) = ((λ g. refl), refl, (λ e. refl), refl)
still m k (SetIndexBuffer raw) = ((λ g. refl), refl, (λ e. refl), refl)
still m k (BeginQuery q t) = ((λ g. refl), refl, (λ e. refl), refl)
still m k (EndQuery t) = ((λ g. refl), refl, (λ e. refl), refl)
still m k (TimestampQuery q) = ((λ g. refl), refl, (λ e. refl), refl)
still m k (CopyQueryResults r dst t o) = ((λ g. refl), refl, (λ e. false-true e), refl)
still m k (ResetFramebuffer d) = ((λ g. refl), refl, (λ e. refl), refl)
still m k (BindAttachment a v d s) = ((λ g. refl), refl, (λ e. refl), refl)
still m k (ResolveAttachment a v s) = ((λ g. refl), refl, (λ e. refl), refl)
still m k (InvalidateAttachments s) = ((λ g. refl), refl, (λ e. refl), refl)
still m k (SetDrawColorBuffers n) = ((λ g. refl), refl, (λ e. refl), refl)
still m k (ClearColorF n c) = ((λ g. refl), refl, (λ e. refl), refl)
still m k (ClearColorU n c) = ((λ g. refl), refl, (λ e. refl), refl)
still m k (ClearColorI n c) = ((λ g. refl), refl, (λ e. refl), refl)
still m k (ClearDepth d) = ((λ g. refl), refl, (λ e. refl), refl)
still m k (ClearStencil s) = ((λ g. refl), refl, (λ e. refl), refl)
still m k (ClearDepthAndStencil d s) = ((λ g. refl), refl, (λ e. refl), refl)
still m k (BufferBarrier b u) = ((λ g. refl), refl, (λ e. refl), refl)
still m k (TextureBarrier u) = ((λ g. refl), refl, (λ e. refl), refl)
still m k (SetViewport r d) = ((λ g. refl), refl, (λ e. refl), refl)
still m k (SetScissor r) = ((λ g. refl), refl, (λ e. refl), refl)
still m k (SetStencilFunc at f r n) = ((λ g. refl), refl, (λ e. refl), refl)
still m k (SetStencilOps at w o) = ((λ g. refl), refl, (λ e. refl), refl)
still m k (SetDepth d) = ((λ g. refl), refl, (λ e. refl), refl)
still m k (SetDepthBias d) = ((λ g. refl), refl, (λ e. refl), refl)
still m k (ConfigureDepthStencil a) = ((λ g. refl), refl, (λ e. refl), refl)
still m k (SetAlphaToCoverage a) = ((λ g. refl), refl, (λ e. refl), refl)
still m k (SetVertexAttribute b d a) = ((λ g. refl), refl, (λ e. refl), refl)
still m k (UnsetVertexAttribute l) = ((λ g. refl), refl, (λ e. refl), refl)
still m k (SetVertexBuffer i b d) = ((λ g. refl), refl, (λ e. refl), refl)
still m k (SetProgram p) = ((λ g. refl), refl, (λ e. refl), refl)
still m k (SetPrimitive p) = ((λ g. refl), refl, (λ e. refl), refl)
still m k (SetBlendConstant c) = ((λ g. refl), refl, (λ e. refl), refl)
still m k (SetColorTarget i t) = ((λ g. refl), refl, (λ e. refl), refl)
still m k (BindBuffer ta i b o s) = ((λ g. refl), refl, (λ e. refl), refl)
still m k (BindSampler u s) = ((λ g. refl), refl, (λ e. refl), refl)
still m k (BindTexture i te ta a mips) = ((λ g. refl), refl, (λ e. refl), refl)
still m k (BindImage i x) = ((λ g. refl), refl, (λ e. refl), refl)
still m k (PushDebugGroup r) = ((λ g. refl), refl, (λ e. false-true e), refl)
still m k PopDebugGroup = ((λ g. refl), refl, (λ e. refl), refl)
still m k (SetImmediates d o) = ((λ g. refl), refl, (λ e. false-true e), refl)
still m k (SetClipDistances old n) = ((λ g. refl), refl, (λ e. refl), refl)

settings-append : (g : Gl) (xs ys : List Command) → settings g (xs ++ ys) ≡ settings (settings g xs) ys
unfolding settings
settings-append g [] ys = refl
settings-append g (x ∷ xs) ys = settings-append (after g x) xs ys

settings-moved : (m k : ℕ) (cs : List Command) (g : Gl) → settings g (map (moved m k) cs) ≡ settings g cs
unfolding settings
settings-moved m k [] g = refl
settings-moved m k (c ∷ cs) g = settings-moved m k cs (after g (moved m k c)) ∙ ap (λ (z : Gl). settings z cs) ((still m k c).0 g)

-- ---- the settings after what is put in between: the five are fresh
abbrev with_samplers : (ℕ → Option ℕ) → Gl → Gl
with_samplers s g = record { vertices = g.vertices; bindings = record { buffers = g.bindings.buffers; textures = g.bindings.textures; images = g.bindings.images; samplers = s; index = g.bindings.index }; screen = g.screen; fixed = g.fixed; faces = g.faces }

abbrev with_blend : ColorF32 → Gl → Gl
with_blend c g = record { vertices = g.vertices; bindings = g.bindings; screen = record { viewport = g.screen.viewport; scissor = g.screen.scissor; blend = c }; fixed = g.fixed; faces = g.faces }

abbrev with_three : DepthBiasState → Bool → (ℕ → Bool) → Gl → Gl
with_three d a c g =
    record {
      vertices = g.vertices;
      bindings = g.bindings;
      screen = g.screen;
      fixed = record { program = g.fixed.program; primitive = g.fixed.primitive; bias = d; alpha = a; target = g.fixed.target; clip = c; aspects = g.fixed.aspects; depth = g.fixed.depth };
      faces = g.faces;
    }

-- the samplers from u on, n of them, are none
abbrev emptied : ℕ → ℕ → (ℕ → Option ℕ) → ℕ → Option ℕ
emptied zero u s i = s i
emptied (suc n) u s i = cond (eqb i u) None (emptied n (suc u) s i)

-- a unit that is none from the start is none after
emptied-put : (n u k : ℕ) (s : ℕ → Option ℕ) (i : ℕ) → emptied n u (upd s k None) i ≡ cond (eqb i k) None (emptied n u s i)
emptied-put zero u k s i = refl
emptied-put (suc n) u k s i = ap (λ (o : Option ℕ). cond (eqb i u) None o) (emptied-put n (suc u) k s i) ∙ swap (eqb i u) (eqb i k) (emptied n (suc u) s i)
  where
    swap : (a b : Bool) (o : Option ℕ) → cond a None (cond b None o) ≡ cond b None (cond a None o)
    swap true true o = refl
    swap true false o = refl
    swap false true o = refl
    swap false false o = refl

emptied-none : (n u : ℕ) (s : ℕ → Option ℕ) (i : ℕ) → u ≤ i → i < u + n → emptied n u s i ≡ None
emptied-none zero u s i l h = absurd (omega arith)
emptied-none (suc n) u s i l h = go (eqb i u) refl (λ k. emptied-none n (suc u) s i k (omega arith))
  where
    go : (t : Bool) → eqb i u ≡ t → (suc u ≤ i → emptied n (suc u) s i ≡ None) → cond t None (emptied n (suc u) s i) ≡ None
    go true e k = refl
    go false e k = k (let ne : (i ≡ u → ⊥) = eqb-false i u e in apart i u l ne)
      where
        apart : (i u : ℕ) → u ≤ i → (i ≡ u → ⊥) → suc u ≤ i
        apart i u l ne = omega (arith, ne)

play-off : (n u : ℕ) (s : ℕ → Option ℕ) (g : Gl) → ((i : ℕ) → u ≤ i → g.bindings.samplers i ≡ s i) → settings g (samplers_off n u s) ≡ with_samplers (emptied n u g.bindings.samplers) g
unfolding settings samplers_off
play-off zero u s g h = refl
play-off (suc n) u s g h = go (s u) refl (λ z k. play-off n (suc u) s z k)
  where
    gs : ℕ → Option ℕ
    gs = g.bindings.samplers

    -- either way the unit is none before the rest
    same-unit : gs u ≡ None → upd gs u None ≡ gs
    same-unit e = fun_ext (λ (i : ℕ). there i (eqb i u) refl)
      where
        there : (i : ℕ) (t : Bool) → eqb i u ≡ t → cond t None (gs i) ≡ gs i
        there i true q = sym (ap gs (eqb-true i u q) ∙ e)
        there i false q = refl

    go : (o : Option ℕ) → s u ≡ o → ((z : Gl) → ((i : ℕ) → suc u ≤ i → z.bindings.samplers i ≡ s i) → settings z (samplers_off n (suc u) s) ≡ with_samplers (emptied n (suc u) z.bindings.samplers) z)
        → settings g (off u o ++ samplers_off n (suc u) s) ≡ with_samplers (emptied (suc n) u gs) g
    go None e ih =
        ih g (λ i l. h i (omega arith))
        ∙ ap (λ (f : ℕ → Option ℕ). with_samplers (emptied n (suc u) f) g) (sym (same-unit (h u (omega arith) ∙ e)))
        ∙ ap (λ (f : ℕ → Option ℕ). with_samplers f g) (fun_ext (λ (i : ℕ). emptied-put n (suc u) u gs i))
    go (Some x) e ih =
        ih (with_samplers (upd gs u None) g) (λ i l. upd_other gs u i None (λ q. omega arith) ∙ h i (omega arith))
        ∙ ap (λ (f : ℕ → Option ℕ). with_samplers f g) (fun_ext (λ (i : ℕ). emptied-put n (suc u) u gs i))

pub no_bits : bits32 (of_bits binary32 0) ≡ 0
unfolding bits32 lib.Ieee.of_bits lib.Ieee.to_bits
no_bits = refl

it-fits : T (fits binary32 (of_bits binary32 0))
unfolding fits lib.Ieee.of_bits
it-fits = tt

pub color-zero : (x : ColorF32) → Floats x → zero_color x ≡ true → x ≡ no_color
color-zero x F e =
    let e₁ = and_right (eqb (bits32 x.r) 0) (eqb (bits32 x.g) 0 && (eqb (bits32 x.b) 0 && eqb (bits32 x.a) 0)) e in
    let e₂ = and_right (eqb (bits32 x.g) 0) (eqb (bits32 x.b) 0 && eqb (bits32 x.a) 0) e₁ in
    let r = one x.r F.r (and_left (eqb (bits32 x.r) 0) (eqb (bits32 x.g) 0 && (eqb (bits32 x.b) 0 && eqb (bits32 x.a) 0)) e) in
    let g = one x.g F.g (and_left (eqb (bits32 x.g) 0) (eqb (bits32 x.b) 0 && eqb (bits32 x.a) 0) e₁) in
    let b = one x.b F.b (and_left (eqb (bits32 x.b) 0) (eqb (bits32 x.a) 0) e₂) in
    let a = one x.a F.a (and_right (eqb (bits32 x.b) 0) (eqb (bits32 x.a) 0) e₂) in
    λ j. record { r = r j; g = g j; b = b j; a = a j }
  where
    one : (f : Float) → T (fits binary32 f) → eqb (bits32 f) 0 ≡ true → f ≡ of_bits binary32 0
    one f h q = bits-same f (of_bits binary32 0) h it-fits (eqb-true (bits32 f) 0 q ∙ sym no_bits)

-- the clip distances below n are off
abbrev cleared : ℕ → (ℕ → Bool) → ℕ → Bool
cleared n c i = cond (ltb i n) false (c i)

switched-off : (n : ℕ) (c : ℕ → Bool) → switched n 0 c ≡ cleared n c
switched-off n c = fun_ext (λ (i : ℕ). rw (le-ltb i 0 (omega arith)) (ap (λ (t : Bool). cond t true (cond (ltb i n) false (c i))) (and-false (not (ltb i n)))))

cleared-none : (n : ℕ) (c : ℕ → Bool) → n ≡ 0 → c ≡ cleared n c
cleared-none n c e = fun_ext (λ (i : ℕ). rw (le-ltb i n (omega arith)) refl)

-- one setting that is put in where the test says so
put : (c : Command) (t : Bool) (g h : Gl) → after g c ≡ h → (t ≡ true → g ≡ h) → settings g (only (not t) c) ≡ h
unfolding settings
put c true g h p q = q refl
put c false g h p q = p

between : (g : Gl) (n : ℕ) → Floats g.screen.blend → settings g (resets g n) ≡ with_three start_depth_bias false (cleared n g.fixed.clip) (with_blend no_color (with_samplers (emptied 16 0 g.bindings.samplers) g))
unfolding settings
between g n F =
    settings-append g (samplers_off 16 0 g.bindings.samplers) (bias ++ (blend ++ (alpha ++ clip)))
    ∙ ap (λ (z : Gl). settings z (bias ++ (blend ++ (alpha ++ clip)))) (play-off 16 0 g.bindings.samplers g (λ i l. refl))
    ∙ settings-append g₁ bias (blend ++ (alpha ++ clip))
    ∙ ap (λ (z : Gl). settings z (blend ++ (alpha ++ clip))) (put (SetDepthBias start_depth_bias) (same_depth_bias g.fixed.bias start_depth_bias) g₁ g₂ refl (λ e. ap (λ (d : DepthBiasState). with_three d g.fixed.alpha g.fixed.clip g₁) (depth-equal.equal g.fixed.bias start_depth_bias e)))
    ∙ settings-append g₂ blend (alpha ++ clip)
    ∙ ap (λ (z : Gl). settings z (alpha ++ clip)) (put (SetBlendConstant no_color) (zero_color g.screen.blend) g₂ g₃ refl (λ e. ap (λ (c : ColorF32). with_blend c g₂) (color-zero g.screen.blend F e)))
    ∙ settings-append g₃ alpha clip
    ∙ ap (λ (z : Gl). settings z clip) (off-alpha g.fixed.alpha refl)
    ∙ put (SetClipDistances n 0) (eqb n 0) g₄ (with_three start_depth_bias false (cleared n g.fixed.clip) g₃) (ap (λ (c : ℕ → Bool). with_three start_depth_bias false c g₃) (switched-off n g.fixed.clip)) (λ e. ap (λ (c : ℕ → Bool). with_three start_depth_bias false c g₃) (cleared-none n g.fixed.clip (eqb-true n 0 e)))
  where
    bias : List Command
    bias = only (not (same_depth_bias g.fixed.bias start_depth_bias)) (SetDepthBias start_depth_bias)

    blend : List Command
    blend = only (not (zero_color g.screen.blend)) (SetBlendConstant no_color)

    alpha : List Command
    alpha = only g.fixed.alpha (SetAlphaToCoverage false)

    clip : List Command
    clip = only (not (eqb n 0)) (SetClipDistances n 0)

    g₁ : Gl
    g₁ = with_samplers (emptied 16 0 g.bindings.samplers) g

    g₂ : Gl
    g₂ = with_three start_depth_bias g.fixed.alpha g.fixed.clip g₁

    g₃ : Gl
    g₃ = with_blend no_color g₂

    g₄ : Gl
    g₄ = with_three start_depth_bias false g.fixed.clip g₃

    off-alpha : (t : Bool) → g.fixed.alpha ≡ t → settings g₃ (only t (SetAlphaToCoverage false)) ≡ g₄
    off-alpha true e = refl
    off-alpha false e = ap (λ (a : Bool). with_three start_depth_bias a g.fixed.clip g₃) e

-- moved twice is moved once, by both
twice : (m k m' k' : ℕ) (c : Command) → moved m k (moved m' k' c) ≡ moved (m + m') (k + k') c
twice m k m' k' (Draw t fv vc fi ic l) = refl
twice m k m' k' (DrawIndexed t ty n o bv fi ic l) = refl
twice m k m' k' (DrawIndirect t raw o l) = refl
twice m k m' k' (DrawIndexedIndirect t ty raw o l) = refl
twice m k m' k' (Dispatch a b c) = refl
twice m k m' k' (DispatchIndirect raw o) = refl
twice m k m' k' (ClearBuffer raw t r) = refl
twice m k m' k' (CopyBufferToBuffer a b c d e) = refl
twice m k m' k' (SetIndexBuffer raw) = refl
twice m k m' k' (BeginQuery q t) = refl
twice m k m' k' (EndQuery t) = refl
twice m k m' k' (TimestampQuery q) = refl
twice m k m' k' (CopyQueryResults r dst t o) = let a = add_assoc k k' r.start in let b = add_assoc k k' r.end in λ j. CopyQueryResults (record { start = sym a j; end = sym b j }) dst t o
twice m k m' k' (ResetFramebuffer d) = refl
twice m k m' k' (BindAttachment a v d s) = refl
twice m k m' k' (ResolveAttachment a v s) = refl
twice m k m' k' (InvalidateAttachments s) = refl
twice m k m' k' (SetDrawColorBuffers n) = refl
twice m k m' k' (ClearColorF n c) = refl
twice m k m' k' (ClearColorU n c) = refl
twice m k m' k' (ClearColorI n c) = refl
twice m k m' k' (ClearDepth d) = refl
twice m k m' k' (ClearStencil s) = refl
twice m k m' k' (ClearDepthAndStencil d s) = refl
twice m k m' k' (BufferBarrier b u) = refl
twice m k m' k' (TextureBarrier u) = refl
twice m k m' k' (SetViewport r d) = refl
twice m k m' k' (SetScissor r) = refl
twice m k m' k' (SetStencilFunc at f r n) = refl
twice m k m' k' (SetStencilOps at w o) = refl
twice m k m' k' (SetDepth d) = refl
twice m k m' k' (SetDepthBias d) = refl
twice m k m' k' (ConfigureDepthStencil a) = refl
twice m k m' k' (SetAlphaToCoverage a) = refl
twice m k m' k' (SetVertexAttribute b d a) = refl
twice m k m' k' (UnsetVertexAttribute l) = refl
twice m k m' k' (SetVertexBuffer i b d) = refl
twice m k m' k' (SetProgram p) = refl
twice m k m' k' (SetPrimitive p) = refl
twice m k m' k' (SetBlendConstant c) = refl
twice m k m' k' (SetColorTarget i t) = refl
twice m k m' k' (BindBuffer ta i b o s) = refl
twice m k m' k' (BindSampler u s) = refl
twice m k m' k' (BindTexture i te ta a mips) = refl
twice m k m' k' (BindImage i x) = refl
twice m k m' k' (PushDebugGroup r) = let a = add_assoc m m' r.start in let b = add_assoc m m' r.end in λ j. PushDebugGroup (record { start = sym a j; end = sym b j })
twice m k m' k' PopDebugGroup = refl
twice m k m' k' (SetImmediates d o) = ap (SetImmediates d) (sym (add_assoc m m' o))
twice m k m' k' (SetClipDistances old n) = refl

-- ---- each draw of the second
named-last : (past : List Command) (c : Command) (t : Thing) → names c t ≡ false → named (past ++ (c ∷ [])) t ≡ named past t
unfolding some?
named-last [] c t n = ap (λ (b : Bool). b || false) n
named-last (x ∷ past) c t n = ap (λ (b : Bool). names x t || b) (named-last past c t n)

alone-from : (m k : ℕ) (past : List Command) (cs : List Command) (past' : List Command) (g h : Gl) → ((t : Thing) → named past t || five t ≡ true → Same t g h) → Alone (founds past g cs) (founds past' h (map (moved m k) cs))
unfolding founds
alone-from m k past [] past' g h K = tt
alone-from m k past (c ∷ cs) past' g h K = go (draws (class_of c)) refl (draws (class_of (moved m k c))) (ap draws (still m k c).1) (rest (alone-from m k (past ++ (c ∷ [])) cs (past' ++ (moved m k c ∷ [])) (after g c) (after h c) next))
  where
    before : (t : Thing) → names c t ≡ false → named (past ++ (c ∷ [])) t || five t ≡ true → named past t || five t ≡ true
    before t n e = ap (λ (b : Bool). b || five t) (sym (named-last past c t n)) ∙ e

    next : (t : Thing) → named (past ++ (c ∷ [])) t || five t ≡ true → Same t (after g c) (after h c)
    next t e = law c t g h (λ n. K t (before t n e))

    Rest : Gl → Type 0
    Rest z = Alone (founds (past ++ (c ∷ [])) (after g c) cs) (founds (past' ++ (moved m k c ∷ [])) z (map (moved m k) cs))

    rest : Rest (after h c) → Rest (after h (moved m k c))
    rest r = subst Rest (sym ((still m k c).0 h)) r

    go : (t : Bool) → draws (class_of c) ≡ t → (t' : Bool) → t' ≡ draws (class_of c) → Rest (after h (moved m k c))
        → Alone (cond t (record { before = past; command = c; gl = g } ∷ founds (past ++ (c ∷ [])) (after g c) cs) (founds (past ++ (c ∷ [])) (after g c) cs))
        (cond t' (record { before = past'; command = moved m k c; gl = h } ∷ founds (past' ++ (moved m k c ∷ [])) (after h (moved m k c)) (map (moved m k) cs)) (founds (past' ++ (moved m k c ∷ [])) (after h (moved m k c)) (map (moved m k) cs)))
    go true e true f r = (sym ((still m k c).2 e), K, r)
    go true e false f r = false-true (f ∙ e)
    go false e true f r = true-false (f ∙ e)
    go false e false f r = r

-- what is put in between leaves the five as they are on a fresh machine, where no clip distance from n on is on
five-fresh : (g : Gl) (n : ℕ) → Floats g.screen.blend → (t : Thing) → five t ≡ true → ((i : ℕ) → n ≤ i → g.fixed.clip i ≡ false) → Same t fresh_gl (settings g (resets g n))
five-fresh g n F t e B = subst (Same t fresh_gl) (sym (between g n F)) (go t e B)
  where
    low : (i : ℕ) → (n ≤ i → g.fixed.clip i ≡ false) → false ≡ cleared n g.fixed.clip i
    low i h = there (ltb i n) refl
      where
        there : (t : Bool) → ltb i n ≡ t → false ≡ cond t false (g.fixed.clip i)
        there true q = refl
        there false q = sym (h (ltb-false i n q))

    go : (t : Thing) → five t ≡ true → ((i : ℕ) → n ≤ i → g.fixed.clip i ≡ false) → Same t fresh_gl (with_three start_depth_bias false (cleared n g.fixed.clip) (with_blend no_color (with_samplers (emptied 16 0 g.bindings.samplers) g)))
    go (vertex x) e B = false-true e
    go (binding (buffer ta i)) e B = false-true e
    go (binding (texture i)) e B = false-true e
    go (binding (image i)) e B = false-true e
    go (binding (sampler u)) e B = sym (emptied-none 16 0 g.bindings.samplers u (omega arith) (let l = ltb-true u 16 e in omega arith))
    go (binding index_buffer) e B = false-true e
    go (screen viewport) e B = false-true e
    go (screen scissor) e B = false-true e
    go (screen blend_constants) e B = refl
    go (fixed program) e B = false-true e
    go (fixed primitive) e B = false-true e
    go (fixed depth_bias) e B = refl
    go (fixed alpha_to_coverage) e B = refl
    go (fixed depth_stencil) e B = false-true e
    go (fixed depth) e B = false-true e
    go (fixed (target i)) e B = false-true e
    go (fixed (clip_distance i)) e B = low i (B i)
    go (face x) e B = false-true e

-- the settings where the second list begins
abbrev between_lists : Listed → Gl
between_lists a = settings (end_of a.commands) (put_in a.commands)

-- ---- three lists
-- the settings at the end of a joined list agree with those at the second's own end on the five
ends-alike : (a b : Listed) → Floats (end_of a.commands).screen.blend → (t : Thing) → five t ≡ true → Same t (end_of b.commands) (end_of (joined a b).commands)
ends-alike a b F t e =
    subst (Same t (end_of b.commands)) (sym whole) (agree b.commands t fresh_gl (between_lists a) (λ n. five-fresh (end_of a.commands) (bound_of a.commands) F t e (bounded a.commands)))
  where
    mb : List Command
    mb = map (moved (length a.bytes) (length a.queries)) b.commands

    whole : end_of (joined a b).commands ≡ settings (between_lists a) b.commands
    whole =
        settings-append fresh_gl a.commands (put_in a.commands ++ mb)
        ∙ settings-append (end_of a.commands) (put_in a.commands) mb
        ∙ settings-moved (length a.bytes) (length a.queries) b.commands (between_lists a)

-- the bound
bound-append : (n : ℕ) (xs ys : List Command) → bound_from n (xs ++ ys) ≡ bound_from (bound_from n xs) ys
unfolding bound_from
bound-append n [] ys = refl
bound-append n (x ∷ xs) ys = bound-append (bound_by n (clip_of x)) xs ys

bound-moved : (m k : ℕ) (cs : List Command) (n : ℕ) → bound_from n (map (moved m k) cs) ≡ bound_from n cs
unfolding bound_from
bound-moved m k [] n = refl
bound-moved m k (c ∷ cs) n = bound-moved m k cs (bound_by n (clip_of (moved m k c))) ∙ ap (λ (o : Option Clips). bound_from (bound_by n o) cs) (still m k c).3

bound-only : (n : ℕ) (t : Bool) (c : Command) → clip_of c ≡ None → bound_from n (only t c) ≡ n
unfolding bound_from
bound-only n true c e = ap (λ (o : Option Clips). bound_by n o) e
bound-only n false c e = refl

bound-off : (m u : ℕ) (s : ℕ → Option ℕ) (n : ℕ) → bound_from n (samplers_off m u s) ≡ n
unfolding bound_from samplers_off
bound-off zero u s n = refl
bound-off (suc m) u s n = bound-append n (off u (s u)) (samplers_off m (suc u) s) ∙ ap (λ (k : ℕ). bound_from k (samplers_off m (suc u) s)) (unit (s u)) ∙ bound-off m (suc u) s n
  where
    unit : (o : Option ℕ) → bound_from n (off u o) ≡ n
    unit None = refl
    unit (Some x) = refl

bound-resets : (g : Gl) (n : ℕ) → bound_from n (resets g n) ≡ 0
unfolding bound_from
bound-resets g n =
    bound-append n (samplers_off 16 0 g.bindings.samplers) (bias ++ (blend ++ (alpha ++ clip)))
    ∙ ap (λ (k : ℕ). bound_from k (bias ++ (blend ++ (alpha ++ clip)))) (bound-off 16 0 g.bindings.samplers n)
    ∙ bound-append n bias (blend ++ (alpha ++ clip)) ∙ ap (λ (k : ℕ). bound_from k (blend ++ (alpha ++ clip))) (bound-only n (not (same_depth_bias g.fixed.bias start_depth_bias)) (SetDepthBias start_depth_bias) refl)
    ∙ bound-append n blend (alpha ++ clip) ∙ ap (λ (k : ℕ). bound_from k (alpha ++ clip)) (bound-only n (not (zero_color g.screen.blend)) (SetBlendConstant no_color) refl)
    ∙ bound-append n alpha clip ∙ ap (λ (k : ℕ). bound_from k clip) (bound-only n g.fixed.alpha (SetAlphaToCoverage false) refl)
    ∙ last (eqb n 0) refl
  where
    bias : List Command
    bias = only (not (same_depth_bias g.fixed.bias start_depth_bias)) (SetDepthBias start_depth_bias)

    blend : List Command
    blend = only (not (zero_color g.screen.blend)) (SetBlendConstant no_color)

    alpha : List Command
    alpha = only g.fixed.alpha (SetAlphaToCoverage false)

    clip : List Command
    clip = only (not (eqb n 0)) (SetClipDistances n 0)

    last : (t : Bool) → eqb n 0 ≡ t → bound_from n (only (not t) (SetClipDistances n 0)) ≡ 0
    last true e = eqb-true n 0 e
    last false e = from-count n 0

pub bound-joined : (a b : Listed) → bound_of (joined a b).commands ≡ bound_of b.commands
bound-joined a b =
    bound-append 0 a.commands (put_in a.commands ++ map (moved (length a.bytes) (length a.queries)) b.commands)
    ∙ bound-append (bound_of a.commands) (put_in a.commands) (map (moved (length a.bytes) (length a.queries)) b.commands)
    ∙ ap (λ (n : ℕ). bound_from n (map (moved (length a.bytes) (length a.queries)) b.commands)) (bound-resets (end_of a.commands) (bound_of a.commands))
    ∙ bound-moved (length a.bytes) (length a.queries) b.commands 0

-- what is put in is told by the five
off-alike : (n u : ℕ) (s r : ℕ → Option ℕ) → ((i : ℕ) → i < u + n → s i ≡ r i) → samplers_off n u s ≡ samplers_off n u r
unfolding samplers_off
off-alike zero u s r h = refl
off-alike (suc n) u s r h = ap₂ (λ (o : Option ℕ) (l : List Command). off u o ++ l) (h u (omega arith)) (off-alike n (suc u) s r (λ i l. h i (omega arith)))

resets-alike : (g h : Gl) (n m : ℕ) → ((t : Thing) → five t ≡ true → Same t g h) → n ≡ m → resets g n ≡ resets h m
resets-alike g h n m s q =
    let u = off-alike 16 0 g.bindings.samplers h.bindings.samplers (λ i l. s (binding (sampler i)) (lt-ltb i 16 (omega arith))) in
    let d = s (fixed depth_bias) refl in
    let c = s (screen blend_constants) refl in
    let a = s (fixed alpha_to_coverage) refl in
    λ j.
    u j
    ++ (only (not (same_depth_bias (d j) start_depth_bias)) (SetDepthBias start_depth_bias)
    ++ (only (not (zero_color (c j))) (SetBlendConstant no_color)
    ++ (only (a j) (SetAlphaToCoverage false)
    ++ only (not (eqb (q j) 0)) (SetClipDistances (q j) 0))))

-- and is not moved
resets-still : (m k : ℕ) (g : Gl) (n : ℕ) → map (moved m k) (resets g n) ≡ resets g n
resets-still m k = resets-by (λ l. map (moved m k) l ≡ l) refl (λ xs ys e f. map-append (moved m k) xs ys ∙ ap₂ (λ (x y : List Command). x ++ y) e f) (λ u l. refl) refl refl refl (λ n. refl)

all-twice : (m k m' k' : ℕ) (cs : List Command) → map (moved m k) (map (moved m' k') cs) ≡ map (moved (m + m') (k + k')) cs
all-twice m k m' k' [] = refl
all-twice m k m' k' (c ∷ cs) = ap₂ (λ (x : Command) (xs : List Command). x ∷ xs) (twice m k m' k' c) (all-twice m k m' k' cs)

-- "Joining three lists gives every draw the same either way they are bracketed": the lists are equal
pub bracketed : (a b c : Listed) → Floats (end_of a.commands).screen.blend → joined (joined a b) c ≡ joined a (joined b c)
bracketed a b c F =
    let n = length a.bytes in
    let k = length a.queries in
    let ra = put_in a.commands in
    let rb = put_in b.commands in
    let mb = map (moved n k) b.commands in
    let mc = map (moved (length b.bytes) (length b.queries)) c.commands in
    let cs =
    ap₂ (λ (x y : List Command). (a.commands ++ (ra ++ mb)) ++ (x ++ y))
    (sym (resets-alike (end_of b.commands) (end_of (joined a b).commands) (bound_of b.commands) (bound_of (joined a b).commands) (λ t e. ends-alike a b F t e) (sym (bound-joined a b))) ∙ sym (resets-still n k (end_of b.commands) (bound_of b.commands)))
    (ap₂ (λ (i j : ℕ). map (moved i j) c.commands) (length-append a.bytes b.bytes) (length-append a.queries b.queries) ∙ sym (all-twice n k (length b.bytes) (length b.queries) c.commands))
    ∙ append_assoc a.commands (ra ++ mb) (map (moved n k) rb ++ map (moved n k) mc)
    ∙ ap (λ (l : List Command). a.commands ++ l) (append_assoc ra mb (map (moved n k) rb ++ map (moved n k) mc))
    ∙ ap (λ (l : List Command). a.commands ++ (ra ++ (mb ++ l))) (sym (map-append (moved n k) rb mc))
    ∙ ap (λ (l : List Command). a.commands ++ (ra ++ l)) (sym (map-append (moved n k) b.commands (rb ++ mc))) in
    let bs = append_assoc a.bytes b.bytes c.bytes in
    let qs = append_assoc a.queries b.queries c.queries in
    λ j. record { commands = cs j; bytes = bs j; queries = qs j }

-- ---- the draws of the whole list: the first's, then the second's
founds-append : (past : List Command) (g : Gl) (xs ys : List Command) → founds past g (xs ++ ys) ≡ founds past g xs ++ founds (past ++ xs) (settings g xs) ys
unfolding founds settings
founds-append past g [] ys = ap (λ (p : List Command). founds p g ys) (sym (append-nil past))
founds-append past g (c ∷ xs) ys = go (draws (class_of c)) (founds-append (past ++ (c ∷ [])) (after g c) xs ys ∙ ap (λ (p : List Command). founds (past ++ (c ∷ [])) (after g c) xs ++ founds p (settings (after g c) xs) ys) (append_assoc past (c ∷ []) xs))
  where
    f : Found
    f = record { before = past; command = c; gl = g }

    rest : List Found
    rest = founds (past ++ (c ∷ [])) (after g c) (xs ++ ys)

    own : List Found
    own = founds (past ++ (c ∷ [])) (after g c) xs

    last : List Found
    last = founds (past ++ (c ∷ xs)) (settings (after g c) xs) ys

    go : (t : Bool) → rest ≡ own ++ last → cond t (f ∷ rest) rest ≡ cond t (f ∷ own) own ++ last
    go true e = ap (λ (l : List Found). f ∷ l) e
    go false e = e

-- what is put in between draws nothing
Silent : List Command → Type 0
Silent cs = (past : List Command) (g : Gl) → founds past g cs ≡ []

silent-append : (xs ys : List Command) → Silent xs → Silent ys → Silent (xs ++ ys)
unfolding Silent
silent-append xs ys a b past g = founds-append past g xs ys ∙ ap₂ (λ (u v : List Found). u ++ v) (a past g) (b (past ++ xs) (settings g xs))

silent-one : (c : Command) → draws (class_of c) ≡ false → Silent (c ∷ [])
unfolding Silent founds
silent-one c e past g = ap (λ (t : Bool). cond t (record { before = past; command = c; gl = g } ∷ []) []) e

silent-none : Silent []
unfolding Silent founds
silent-none past g = refl

silent-resets : (g : Gl) (n : ℕ) → Silent (resets g n)
silent-resets = resets-by Silent silent-none silent-append (λ u l. silent-one (BindSampler u None) refl) (silent-one (SetDepthBias start_depth_bias) refl) (silent-one (SetBlendConstant no_color) refl)
    (silent-one (SetAlphaToCoverage false) refl) (λ n. silent-one (SetClipDistances n 0) refl)

-- the joined list, played from a fresh machine, has the first's draws as they were and then the second's, each as alone
pub joined-draws : (a b : Listed) → Floats (end_of a.commands).screen.blend
    → (ys : List Found) × ((founds [] fresh_gl (joined a b).commands ≡ founds [] fresh_gl a.commands ++ ys) × Alone (founds [] fresh_gl b.commands) ys)
unfolding some? Silent
joined-draws a b F =
    let g = end_of a.commands in
    let n = bound_of a.commands in
    let mb = map (moved (length a.bytes) (length a.queries)) b.commands in
    let past = a.commands ++ resets g n in (
      founds past (between_lists a) mb,
      (
        founds-append [] fresh_gl a.commands (resets g n ++ mb)
            ∙ ap (λ (l : List Found). founds [] fresh_gl a.commands ++ l) (founds-append a.commands g (resets g n) mb ∙ ap (λ (l : List Found). l ++ founds past (between_lists a) mb) (silent-resets g n a.commands g)),
        alone-from (length a.bytes) (length a.queries) [] b.commands past fresh_gl (between_lists a) (λ t e. five-fresh g n F t e (bounded a.commands)),
      ),
    )

-- a joined list can be joined again: what is asked of the first is so of it where it is so of both
pub joined-floats : (a b : Listed) → Floats (end_of a.commands).screen.blend → Floats (end_of b.commands).screen.blend → Floats (end_of (joined a b).commands).screen.blend
joined-floats a b F G = subst Floats (ends-alike a b F (screen blend_constants) refl) G
