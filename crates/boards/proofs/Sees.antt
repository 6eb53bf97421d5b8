-- The settings of src/settings.rt see the machine: each command keeps them so, and two machines are alike as their settings are. Assumes nothing.
use Prim.Native.Nat.{ℕ, zero, suc, ◌<◌}
use mathlib.Core.Path.{◌≡◌, refl, sym, ap, ◌∙◌, subst}
use mathlib.Core.Bool.{Bool, true, false, cond, ◌&&◌}
use mathlib.Core.List.{List}
use Rattle.std.specs.Prelude.{Option, None, Some}
use lib.Dec.{eqb, leb, ltb}
use lib.Ieee.{Float}
use lib.ListN.{length, get_or, set, replicate, length-set, length-replicate}
use borrow.Author.Tests.{leb-false, lt-ltb}
use Rattle.records.specs.declared.command.Command.{Command}
use Rattle.records.specs.declared.command.Command.TheVariants.{Draw, DrawIndexed, DrawIndirect, DrawIndexedIndirect, Dispatch, DispatchIndirect, ClearBuffer, CopyBufferToBuffer}
use Rattle.records.specs.declared.command.Command.TheVariants.{SetIndexBuffer, BeginQuery, EndQuery, TimestampQuery, CopyQueryResults, ResetFramebuffer, BindAttachment}
use Rattle.records.specs.declared.command.Command.TheVariants.{ResolveAttachment, InvalidateAttachments, SetDrawColorBuffers, ClearColorF, ClearColorU, ClearColorI, ClearDepth}
use Rattle.records.specs.declared.command.Command.TheVariants.{ClearStencil, ClearDepthAndStencil, BufferBarrier, TextureBarrier, SetViewport, SetScissor, SetStencilFunc}
use Rattle.records.specs.declared.command.Command.TheVariants.{SetStencilOps, SetDepth, SetDepthBias, ConfigureDepthStencil, SetAlphaToCoverage, SetVertexAttribute}
use Rattle.records.specs.declared.command.Command.TheVariants.{UnsetVertexAttribute, SetVertexBuffer, SetProgram, SetPrimitive, SetBlendConstant, SetColorTarget, BindBuffer}
use Rattle.records.specs.declared.command.Command.TheVariants.{BindSampler, BindTexture, BindImage, PushDebugGroup, PopDebugGroup, SetImmediates, SetClipDistances}
use Rattle.records.specs.declared.command.ColorF32.{ColorF32}
use Rattle.machine.specs.Machine as gl
use Rattle.machine.specs.Machine.{Vertices, Gl, fresh_gl, put_attribute, put_buffer}
use Rattle.machine.specs.Found.{fetch_at}
use Rattle.machine.proofs.Lists.{or_left, set_at}
use Rattle.lists.specs.declared.limits.Used.{Used}
use Rattle.lists.specs.Limits.{breaks}
use Rattle.lists.specs.Shots.{settings_after}
use Rattle.boards.specs.declared.settings.Attribute.{Attribute}
use Rattle.boards.specs.declared.settings.Settings.{Settings}
use Rattle.boards.specs.declared.settings.VertexBuffer.{VertexBuffer}
use Rattle.boards.specs.Alike.{location_alike, same_program, same_color, all_below, alike}
use Rattle.boards.specs.Settings.{fresh_settings, place_attribute, place_buffer, placed, attribute_of, buffer_of, program_of, vertices_of, gl_of}

-- the settings of which the comparison asks, and sixteen places
pub record Shows (s : Settings) (v : Vertices) (p : Option ℕ) (b : ColorF32) : Type 0 where
  pub vertices : vertices_of s ≡ v
  pub program : program_of s.program ≡ p
  pub blend : s.blend ≡ b
  pub locations : length s.locations ≡ 16
  pub slots : length s.slots ≡ 16

abbrev pub Sees : Settings → Gl → Type 0
Sees s g = Shows s g.vertices g.fixed.program g.screen.blend

-- ---- a fresh machine
same-everywhere : {A : Type 0} (n i : ℕ) (a : A) → get_or (replicate n a) i a ≡ a
same-everywhere zero i a = refl
same-everywhere (suc n) zero a = refl
same-everywhere (suc n) (suc i) a = same-everywhere n i a

pub fresh-sees : Sees fresh_settings fresh_gl
fresh-sees =
    record {
      vertices = λ j. record { attribute = λ l. attribute_of (same-everywhere 16 l None j); buffer = λ i. buffer_of (same-everywhere 16 i None j) };
      program = refl;
      blend = refl;
      locations = length-replicate {A = Option Attribute} 16 None;
      slots = length-replicate {A = Option VertexBuffer} 16 None;
    }

-- ---- a command
still : {A : Type 0} (t : Bool) (l : List A) (i : ℕ) (x : A) → length l ≡ 16 → length (cond t (set l i x) l) ≡ 16
still true l i x e = length-set l i x ∙ e
still false l i x e = e

-- one of sixteen places
put : {A : Type 0} (l : List A) (i k : ℕ) (x d : A) → length l ≡ 16 → leb 16 i ≡ false → get_or (cond (ltb i 16) (set l i x) l) k d ≡ cond (eqb k i) x (get_or l k d)
put l i k x d e h =
    let low = leb-false 16 i h in
    ap (λ (t : Bool). get_or (cond t (set l i x) l) k d) (lt-ltb i 16 low) ∙ set_at l i k x d (subst (λ (n : ℕ). i < n) (sym e) low)

places-attribute : (s : Settings) (v : Vertices) (p : Option ℕ) (b : ColorF32) (l : ℕ) (x : Option Attribute) → leb 16 l ≡ false → Shows s v p b
    → Shows (place_attribute s l x) (put_attribute l (attribute_of x) v) p b
places-attribute s v p b l x h e =
    record {
      vertices = λ j. record { attribute = λ k. at k j; buffer = (e.vertices j).buffer };
      program = e.program;
      blend = e.blend;
      locations = still (ltb l 16) s.locations l x e.locations;
      slots = e.slots;
    }
  where
    either : (k : ℕ) (t : Bool) → attribute_of (cond t x (get_or s.locations k None)) ≡ cond t (attribute_of x) (v.attribute k)
    either k true = refl
    either k false = ap (λ (w : Vertices). w.attribute k) e.vertices

    at : (k : ℕ) → (vertices_of (place_attribute s l x)).attribute k ≡ cond (eqb k l) (attribute_of x) (v.attribute k)
    at k = ap attribute_of (put s.locations l k x None e.locations h) ∙ either k (eqb k l)

places-buffer : (s : Settings) (v : Vertices) (p : Option ℕ) (b : ColorF32) (i : ℕ) (x : Option VertexBuffer) (y : gl.VertexBuffer) → buffer_of x ≡ Some y → leb 16 i ≡ false → Shows s v p b
    → Shows (place_buffer s i x) (put_buffer i y v) p b
places-buffer s v p b i x y f h e =
    record {
      vertices = λ j. record { attribute = (e.vertices j).attribute; buffer = λ k. at k j };
      program = e.program;
      blend = e.blend;
      locations = e.locations;
      slots = still (ltb i 16) s.slots i x e.slots;
    }
  where
    either : (k : ℕ) (t : Bool) → buffer_of (cond t x (get_or s.slots k None)) ≡ cond t (Some y) (v.buffer k)
    either k true = f
    either k false = ap (λ (w : Vertices). w.buffer k) e.vertices

    at : (k : ℕ) → (vertices_of (place_buffer s i x)).buffer k ≡ cond (eqb k i) (Some y) (v.buffer k)
    at k = ap buffer_of (put s.slots i k x None e.slots h) ∙ either k (eqb k i)

pub placed-sees : (s : Settings) (g : Gl) (u : Used) (c : Command) → (breaks u c).range ≡ false → Sees s g → Sees (placed s c) (settings_after g c)
placed-sees s g u (Draw t fv vc fi ic l) h e = e
placed-sees s g u (DrawIndexed t ty n o bv fi ic l) h e = e
placed-sees s g u (DrawIndirect t raw o l) h e = e
placed-sees s g u (DrawIndexedIndirect t ty raw o l) h e = e
placed-sees s g u (Dispatch x y z) h e = e
placed-sees s g u (DispatchIndirect raw o) h e = e
placed-sees s g u (ClearBuffer raw t r) h e = e
placed-sees s g u (CopyBufferToBuffer a b c d z) h e = e
placed-sees s g u (SetIndexBuffer raw) h e = e
placed-sees s g u (BeginQuery q t) h e = e
placed-sees s g u (EndQuery t) h e = e
placed-sees s g u (TimestampQuery q) h e = e
placed-sees s g u (CopyQueryResults r d t o) h e = e
placed-sees s g u (ResetFramebuffer d) h e = e
placed-sees s g u (BindAttachment a v d n) h e = e
placed-sees s g u (ResolveAttachment a v n) h e = e
placed-sees s g u (InvalidateAttachments n) h e = e
placed-sees s g u (SetDrawColorBuffers n) h e = e
placed-sees s g u (ClearColorF n c) h e = e
placed-sees s g u (ClearColorU n c) h e = e
placed-sees s g u (ClearColorI n c) h e = e
placed-sees s g u (ClearDepth d) h e = e
placed-sees s g u (ClearStencil n) h e = e
placed-sees s g u (ClearDepthAndStencil d n) h e = e
placed-sees s g u (BufferBarrier b k) h e = e
placed-sees s g u (TextureBarrier k) h e = e
placed-sees s g u (SetViewport r d) h e = e
placed-sees s g u (SetScissor r) h e = e
placed-sees s g u (SetStencilFunc face f r k) h e = e
placed-sees s g u (SetStencilOps face w o) h e = e
placed-sees s g u (SetDepth d) h e = e
placed-sees s g u (SetDepthBias d) h e = e
placed-sees s g u (ConfigureDepthStencil a) h e = e
placed-sees s g u (SetAlphaToCoverage a) h e = e
placed-sees s g u (SetVertexAttribute b d a) h e =
    places-attribute s g.vertices g.fixed.program g.screen.blend a.location
    (Some (record { buffer = b; buffer_desc = d; attribute_desc = a })) (or_left (leb 16 a.location) (leb 16 a.buffer_index) h) e
placed-sees s g u (UnsetVertexAttribute l) h e = places-attribute s g.vertices g.fixed.program g.screen.blend l None h e
placed-sees s g u (SetVertexBuffer i b d) h e =
    places-buffer s g.vertices g.fixed.program g.screen.blend i (Some (record { buffer = b; buffer_desc = d }))
    (record { binding = b; desc = d }) refl h e
placed-sees s g u (SetProgram p) h e = record { vertices = e.vertices; program = refl; blend = e.blend; locations = e.locations; slots = e.slots }
placed-sees s g u (SetPrimitive p) h e = e
placed-sees s g u (SetBlendConstant c) h e = record { vertices = e.vertices; program = e.program; blend = refl; locations = e.locations; slots = e.slots }
placed-sees s g u (SetColorTarget None t) h e = e
placed-sees s g u (SetColorTarget (Some i) t) h e = e
placed-sees s g u (BindBuffer t i b o n) h e = e
placed-sees s g u (BindSampler i x) h e = e
placed-sees s g u (BindTexture i t ta a mips) h e = e
placed-sees s g u (BindImage i x) h e = e
placed-sees s g u (PushDebugGroup r) h e = e
placed-sees s g u PopDebugGroup h e = e
placed-sees s g u (SetImmediates d o) h e = e
placed-sees s g u (SetClipDistances old n) h e = e

-- ---- two machines
pub sees-alike : (same : Float → Float → Bool) (s t : Settings) (g h : Gl) → Sees s g → Sees t h → alike same (gl_of s) (gl_of t) ≡ alike same g h
sees-alike same s t g h x y =
    λ j. all_below 16 (λ l. location_alike (fetch_at (x.vertices j) l) (fetch_at (y.vertices j) l))
    && (same_program (x.program j) (y.program j) && same_color same (x.blend j) (y.blend j))
