-- The same calls on a board with layout and on one without: one book, and each draw fetches alike. Assumes nothing.
use Prim.Native.Nat.{ℕ, zero, suc, ◌+◌, ◌*◌}
use mathlib.Core.Path.{◌≡◌, refl, sym, ap, ap₂, ◌∙◌, subst}
use mathlib.Core.Bool.{Bool, true, false, cond, ◌&&◌, ◌||◌}
use mathlib.Core.List.{List, [], ◌∷◌, map}
use Rattle.std.specs.Prelude.{Option, None, Some}
use lib.Dec.{eqb}
use lib.Ieee.{Float}
use borrow.Author.Tests.{eqb-true, eq-eqb}
use Rattle.records.specs.Check.{among, locations}
use Rattle.records.specs.Same.{integer, itself}
use Rattle.records.specs.declared.command.AttributeDesc.{AttributeDesc}
use Rattle.records.specs.declared.command.ColorF32.{ColorF32}
use Rattle.records.specs.declared.command.Command.TheVariants.{Draw, DrawIndexed}
use Rattle.records.specs.declared.command.VertexAttribKind.{VertexAttribKind}
use Rattle.records.specs.declared.command.VertexAttribKind.TheVariants as kind
use Rattle.records.specs.declared.command.VertexFormatDesc.{VertexFormatDesc}
use Rattle.records.specs.declared.command.VertexStepMode.{VertexStepMode}
use Rattle.records.specs.declared.command.VertexStepMode.TheVariants.{Vertex, Instance}
use Rattle.records.specs.declared.pipeline.PrivateCapabilities.{PrivateCapabilities}
use Rattle.records.specs.declared.pipeline.RenderPipeline.{RenderPipeline}
use Rattle.calls.specs.Call.{Call, begin_encoding, end_encoding, begin_render_pass, end_render_pass, begin_compute_pass, end_compute_pass, transition_buffers, transition_textures}
use Rattle.calls.specs.Call.{clear_buffer, copy_buffer_to_buffer, copy_query_results, begin_query, end_query, write_timestamp, reset_queries, set_bind_group, set_immediates}
use Rattle.calls.specs.Call.{set_render_pipeline, set_compute_pipeline, set_index_buffer, set_vertex_buffer, set_viewport, set_scissor_rect, set_stencil_reference, set_blend_constants}
use Rattle.calls.specs.Call.{draw, draw_indexed, draw_indirect, draw_indexed_indirect, dispatch_workgroups, dispatch_workgroups_indirect}
use Rattle.machine.specs.View.{Source, Fetch, View}
use Rattle.machine.specs.Machine.{Shot}
use Rattle.machine.specs.Found.{view_of, fetch_of, fetch_at, attributes_by}
use Rattle.machine.proofs.Lists.{false-true}
use Rattle.book.specs.Book.{Entered, Book, topology_by, location_by, type_of, size_of, enter_draw, enter, Fed, enter_fed, book_of}
use Rattle.book.specs.Run.{Premises}
use Rattle.boards.specs.declared.compare.Compared.TheVariants.{Equal, Differs}
use Rattle.boards.specs.Alike.{Reflexive, same_color, same_step, same_kind, formats_alike, sources_alike, location_alike, same_program, all_below, alike}
use Rattle.boards.specs.Compared.{first_off}
use Rattle.order.proofs.Invariant.{Agree, Bare}
use Rattle.two_boards.specs.Late.{late, late_draws}

-- ---- each test holds of a thing and itself
both : (a b : Bool) → a ≡ true → b ≡ true → a && b ≡ true
both a b p q = ap₂ (λ (x y : Bool). x && y) p q

step-self : (x : VertexStepMode) → same_step x x ≡ true
step-self Vertex = refl
step-self Instance = refl

kind-self : (x : VertexAttribKind) → same_kind x x ≡ true
kind-self kind.Float = refl
kind-self kind.Integer = refl

format-self : (x : VertexFormatDesc) → formats_alike x x ≡ true
format-self x =
    both _ _ (itself integer x.element_count) (both _ _ (eq-eqb x.element_format x.element_format refl) (kind-self x.attrib_kind))

source-self : (x : Option Source) → sources_alike x x ≡ true
source-self None = refl
source-self (Some x) =
    both _ _ (eq-eqb x.buffer x.buffer refl)
    (both _ _ (eq-eqb x.first x.first refl) (both _ _ (eq-eqb x.stride x.stride refl) (step-self x.step)))

location-self : (x : Option Fetch) → location_alike x x ≡ true
location-self None = refl
location-self (Some x) = both _ _ (format-self x.format) (source-self x.source)

program-self : (x : Option ℕ) → same_program x x ≡ true
program-self None = refl
program-self (Some p) = eq-eqb p p refl

color-self : (same : Float → Float → Bool) → Reflexive same → (x : ColorF32) → same_color same x x ≡ true
color-self same h x = both _ _ (h x.r) (both _ _ (h x.g) (both _ _ (h x.b) (h x.a)))

all-below : (n : ℕ) (f : ℕ → Bool) → ((l : ℕ) → f l ≡ true) → all_below n f ≡ true
unfolding all_below
all-below zero f h = refl
all-below (suc n) f h = both (f n) (all_below n f) (h n) (all-below n f h)

-- ---- one draw
-- two lists of fetches that are equal are equal at each attribute of the list
at_each : (f g : ℕ → Option Fetch) (l : List AttributeDesc)
    → map (λ (a : AttributeDesc). f a.location) l ≡ map (λ (a : AttributeDesc). g a.location) l → (i : ℕ) → among i (locations l) ≡ true → f i ≡ g i
unfolding among
at_each f g [] e i h = false-true h
at_each f g (a ∷ l) e i h = go (eqb i a.location) refl h (λ k. at_each f g l (ap tail e) i k)
  where
    head : List (Option Fetch) → Option Fetch
    head [] = None
    head (x ∷ xs) = x

    tail : List (Option Fetch) → List (Option Fetch)
    tail [] = []
    tail (x ∷ xs) = xs

    go : (t : Bool) → eqb i a.location ≡ t → t || among i (locations l) ≡ true → (among i (locations l) ≡ true → f i ≡ g i) → f i ≡ g i
    go true q h k = subst (λ (j : ℕ). f j ≡ g j) (sym (eqb-true i a.location q)) (ap head e)
    go false q h k = k h

one_alike : (same : Float → Float → Bool) → Reflexive same → (caps' : PrivateCapabilities) → caps'.vertex_buffer_layout ≡ false → (p : Option RenderPipeline) (s t : Shot)
    → view_of p s ≡ view_of p t → Bare caps' p t → alike same s.gl t.gl ≡ true
one_alike same h caps' flat p s t e B =
    both _ _ (all-below 16 (λ l. location_alike (f l) (g l)) (λ l. at l (among l (locations (attributes_by p))) refl))
    (both _ _
    (subst (λ (x : Option ℕ). same_program s.gl.fixed.program x ≡ true) (ap (λ (v : View). v.program) e) (program-self s.gl.fixed.program))
    (subst (λ (x : ColorF32). same_color same s.gl.screen.blend x ≡ true) (ap (λ (v : View). v.blend) e) (color-self same h s.gl.screen.blend)))
  where
    f : ℕ → Option Fetch
    f = fetch_at s.gl.vertices

    g : ℕ → Option Fetch
    g = fetch_at t.gl.vertices

    at : (l : ℕ) (b : Bool) → among l (locations (attributes_by p)) ≡ b → location_alike (f l) (g l) ≡ true
    at l true q = subst (λ (x : Option Fetch). location_alike (f l) x ≡ true) (at_each f g (attributes_by p) (ap (λ (v : View). v.fetches) e) l q) (location-self (f l))
    at l false q = ap (λ x. location_alike (f l) (fetch_of l t.gl.vertices.buffer x)) (B flat l q)

-- ---- all draws that one book has
pub none-off : (same : Float → Float → Bool) → Reflexive same → (caps caps' : PrivateCapabilities) → caps'.vertex_buffer_layout ≡ false
    → (k : ℕ) (ss ts : List Shot) (ds : List Entered) → Agree caps ss ds → Agree caps' ts ds → first_off same k ss ts ≡ Equal
unfolding first_off
none-off same h caps caps' flat k [] ts ds a b = refl
none-off same h caps caps' flat k (s ∷ ss) [] ds a b = refl
none-off same h caps caps' flat k (s ∷ ss) (t ∷ ts) [] a b = absurd a
none-off same h caps caps' flat k (s ∷ ss) (t ∷ ts) (d ∷ ds) a b =
    ap (λ (z : Bool). cond z (first_off same (suc k) ss ts) (Differs k)) (one_alike same h caps' flat d.pipeline s t (a.0.0 ∙ sym b.0.0) b.0.1)
    ∙ none-off same h caps caps' flat (suc k) ss ts ds a.1 b.1

-- ---- the book asks of a board only whether it emulates instancing
module _ (caps caps' : PrivateCapabilities) (same : caps.fully_featured_instancing ≡ caps'.fully_featured_instancing) where
  same-enter : (b : Book) (c : Call) → enter caps b c ≡ enter caps' b c
  same-enter b begin_encoding = refl
  same-enter b end_encoding = refl
  same-enter b end_render_pass = refl
  same-enter b end_compute_pass = refl
  same-enter b (begin_render_pass d label set) = refl
  same-enter b (begin_compute_pass w label set) = refl
  same-enter b (transition_buffers l) = refl
  same-enter b (transition_textures l) = refl
  same-enter b (clear_buffer x range) = refl
  same-enter b (copy_buffer_to_buffer src dst l) = refl
  same-enter b (copy_query_results set start end dst offset) = refl
  same-enter b (begin_query set i) = refl
  same-enter b (end_query set i) = refl
  same-enter b (write_timestamp set i) = refl
  same-enter b (reset_queries set start end) = refl
  same-enter b (set_bind_group l i e g os) = refl
  same-enter b (set_immediates offset ws) = refl
  same-enter b (set_render_pipeline p) = refl
  same-enter b (set_compute_pipeline p) = refl
  same-enter b (set_index_buffer raw offset format) = refl
  same-enter b (set_vertex_buffer i raw offset) = refl
  same-enter b (set_viewport r d) = refl
  same-enter b (set_scissor_rect r) = refl
  same-enter b (set_stencil_reference v) = refl
  same-enter b (set_blend_constants c) = refl
  same-enter b (draw vertex vertices instance instances) =
      ap (λ (t : Bool). enter_draw (cond t 0 instance) false (Draw (topology_by b.pipeline) vertex vertices instance instances (location_by b.pipeline)) b) same
  same-enter b (draw_indexed fst count base instance instances) =
      ap
      (λ (t : Bool). enter_draw (cond t 0 instance) true
      (DrawIndexed (topology_by b.pipeline) (type_of b.format) count (b.offset + size_of b.format * fst) base instance instances (location_by b.pipeline)) b) same
  same-enter b (draw_indirect raw offset n) = refl
  same-enter b (draw_indexed_indirect raw offset n) = refl
  same-enter b (dispatch_workgroups x y z) = refl
  same-enter b (dispatch_workgroups_indirect raw offset) = refl

  same-fed : (b : Book) (f : Fed) → enter_fed caps b f ≡ enter_fed caps' b f
  same-fed b f = ap (λ (x : Book). cond f.accepted x b) (same-enter b f.call)

  pub same-book : (b : Book) (fs : List Fed) → book_of caps b fs ≡ book_of caps' b fs
  unfolding book_of
  same-book b [] = refl
  same-book b (f ∷ fs) = same-book (enter_fed caps b f) fs ∙ ap (λ (x : Book). book_of caps' x fs) (same-fed b f)

  pub same-premises : (b : Book) (fs : List Fed) → Premises caps b fs → Premises caps' b fs
  unfolding Premises
  same-premises b [] P = tt
  same-premises b (f ∷ fs) P = (P.0, subst (λ (x : Book). Premises caps' x fs) (same-fed b f) (same-premises (enter_fed caps b f) fs P.1))

  pub same-late : (b : Book) (t : Bool) (fs : List Fed) → late_draws caps b t fs ≡ late_draws caps' b t fs
  unfolding late_draws
  same-late b t [] = refl
  same-late b t (f ∷ fs) =
      same-late (enter_fed caps b f) (cond f.accepted (late b t f.call) t) fs
      ∙ ap (λ (x : Book). late_draws caps' x (cond f.accepted (late b t f.call) t) fs) (same-fed b f)
