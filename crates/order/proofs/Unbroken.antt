-- No state that the calls leave breaks a limit of document 01 (conditions 2, 3 and 5 of a handed-in state). Assumes nothing.
use Prim.Native.Nat.{ℕ, zero, suc, ◌+◌, ◌^◌, ◌≤◌, ◌<◌}
use mathlib.Core.Path.{◌≡◌, refl, sym, subst}
use mathlib.Core.Bool.{Bool, true, false, cond, ◌&&◌, ◌||◌}
use mathlib.Core.List.{List, [], ◌∷◌, ◌++◌}
use native.Mathlib.Nat.{lt_of_le_of_lt}
use native.Mathlib.Omega.{arith}
use lib.Bits.{or_lt, and_le_l}
use lib.Dec.{ltb, leb}
use lib.ListN.{length, take, get_or, set, replicate, length-append}
use lib.Seq.{take_at}
use borrow.Author.Tests.{ltb-false, leb-false, le-ltb, lt-leb}
use Rattle.tables.specs.Tabulate.{tabulate}
use Rattle.mask.specs.Mask.{test_bit, without}
use Rattle.mask.specs.By.{mask_by, by-lt}
use Rattle.mask.specs.Laws.{set-lt}
use Rattle.records.specs.Check.{some?, among, twice, locations, bad_mask, bad_attribute, bad_descriptor, bad_resolve, bad_units, broken_limits}
use Rattle.records.specs.Start.{start_state, start_texture_slot}
use Rattle.records.specs.declared.check.Broken.{Broken}
use Rattle.records.specs.declared.check.Rooms.{Rooms}
use Rattle.records.specs.declared.pass.ColorPlace.{ColorPlace}
use Rattle.std.specs.Prelude.{Option, None, Some}
use Rattle.records.specs.declared.command.TextureView.{TextureView}
use Rattle.records.specs.declared.pass.ColorAttachment.{ColorAttachment}
use Rattle.records.specs.declared.pass.RenderPassDescriptor.{RenderPassDescriptor}
use Rattle.records.specs.declared.binding.BindGroupLayoutEntry.{BindGroupLayoutEntry}
use Rattle.records.specs.declared.binding.RawBinding.{RawBinding}
use Rattle.records.specs.declared.binding.RawBinding.TheVariants as content
use Rattle.records.specs.declared.pipeline.PipelineInner.{PipelineInner}
use Rattle.records.specs.declared.pipeline.PrivateCapabilities.{PrivateCapabilities}
use Rattle.records.specs.declared.pipeline.RenderPipeline.{RenderPipeline}
use Rattle.records.specs.declared.pipeline.SamplerBind.{SamplerBind}
use Rattle.records.specs.declared.state.BindState.{BindState}
use Rattle.records.specs.declared.state.ImmediateState.{ImmediateState}
use Rattle.records.specs.declared.state.PassState.{PassState}
use Rattle.records.specs.declared.state.ResolveDesc.{ResolveDesc}
use Rattle.records.specs.declared.state.State.{State}
use Rattle.records.specs.declared.state.TextureSlotDesc.{TextureSlotDesc}
use Rattle.records.specs.declared.state.VertexState.{VertexState}
use Rattle.slots.specs.Prepare.{slots_of, working, woken, cleared, moved, prepared_state}
use Rattle.bindings.specs.Group.{Entry, entries_of, entry_state, group_state, entry_out_of_range, content_out_of_range}
use Rattle.pipeline.specs.Inner.{value_or, no_bind, map_at, bad_number, inner_bind, inner_immediates, inner_descriptors, inner_too_many, inner_out_of_range}
use Rattle.pipeline.specs.Vertex.{attributes_in, dirty_before, changed_slots, pipeline_vertex, vertex_too_many, vertex_out_of_range, vertex_twice}
use Rattle.pipeline.specs.Fixed.{fixed_too_many}
use Rattle.pass.specs.Marks.{Lent, Label}
use Rattle.pass.specs.Render.{places_of, default_first, resolves_in_place, resolve_of, resolve_place, resolves_from, resolves_at_end, invalidations, begin_render_pass_state}
use Rattle.calls.specs.Call.{Call, begin_encoding, end_encoding, begin_render_pass, end_render_pass, begin_compute_pass, end_compute_pass, transition_buffers, transition_textures, clear_buffer, copy_buffer_to_buffer, copy_query_results, begin_query, end_query, write_timestamp, reset_queries, set_bind_group, set_immediates, set_render_pipeline, set_compute_pipeline, set_index_buffer, set_vertex_buffer, set_viewport, set_scissor_rect, set_stencil_reference, set_blend_constants, draw, draw_indexed, draw_indirect, draw_indexed_indirect, dispatch_workgroups, dispatch_workgroups_indirect}
use Rattle.calls.specs.Meaning.{Meaning}
use Rattle.calls.specs.Parts.{with_progress, end_vertex}
use Rattle.calls.specs.Settings.{bound_slot}
use Rattle.calls.specs.Step.{meaning, progress_after, conditions_of, outcome_of, step}
use Rattle.machine.specs.Each.{Each}
use Rattle.machine.proofs.Lists.{or_left, or_right, each-not, false-true}
use Rattle.book.specs.Run.{carried, Recording, record_call, record_calls, begun}
use Rattle.order.proofs.Accepted.{passes, in-range, kinds}
use Rattle.slots.specs.Vertex.{attributes_of}

-- ---- what the check of a state looks at, part by part
record OfVertex (v : VertexState) : Type 0 where
  few : ltb 16 v.attribute_count ≡ false
  good : some? bad_attribute (attributes_of v) ≡ false
  once : twice (locations (attributes_of v)) ≡ false
  described : v.described < 2 ^ 16
  bound : v.bound < 2 ^ 16
  by_instance : v.by_instance < 2 ^ 16
  stepped : v.instance_vbuf_mask < 2 ^ 16
  dirty : v.dirty_vbuf_mask < 2 ^ 16

record OfPass (p : PassState) : Type 0 where
  few : ltb 8 p.resolve_count ≡ false
  good : some? bad_resolve (take p.resolve_count p.resolves) ≡ false
  invalid : p.invalidate_attachments < 2 ^ 10

record OfBind (b : BindState) : Type 0 where
  units : Each (λ (t : TextureSlotDesc). leb 16 t.sampler_index ≡ false) b.texture_slots
  given : b.sampler_set < 2 ^ 16
  sampled : b.sampled < 2 ^ 16

record OfImmediates (i : ImmediateState) : Type 0 where
  few : ltb 192 i.count ≡ false
  good : some? bad_descriptor (take i.count i.descs) ≡ false

pub record Intact (s : State) : Type 0 where
  vertex : OfVertex s.vertex
  targets : ltb 8 s.fixed.color_target_count ≡ false
  pass : OfPass s.pass
  bind : OfBind s.bind
  immediates : OfImmediates s.immediates

made : {s : State} → OfVertex s.vertex → ltb 8 s.fixed.color_target_count ≡ false → OfPass s.pass → OfBind s.bind → OfImmediates s.immediates → Intact s
made v t p b i = record { vertex = v; targets = t; pass = p; bind = b; immediates = i }

ors : (a b : Bool) → a ≡ false → b ≡ false → a || b ≡ false
ors true b p q = p
ors false b p q = q

low : (m : ℕ) → m < 2 ^ 16 → bad_mask m ≡ false
low m h = lt-leb (2 ^ 16) m h

units-good : (m i : ℕ) (l : List TextureSlotDesc) → Each (λ (t : TextureSlotDesc). leb 16 t.sampler_index ≡ false) l → bad_units m i l ≡ false
unfolding bad_units
units-good m i [] h = refl
units-good m i (t ∷ l) h = ors (test_bit m i && leb 16 t.sampler_index) (bad_units m (suc i) l) (off (test_bit m i) (leb 16 t.sampler_index) h.0) (units-good m (suc i) l h.1)
  where
    off : (a b : Bool) → b ≡ false → a && b ≡ false
    off true b e = e
    off false b e = refl

abbrev pub unbroken : Broken
unbroken = record { many = false; range = false; kind = false }

pub intact-is : (s : State) → Intact s → broken_limits s ≡ unbroken
intact-is s I = λ j. record { many = many j; range = range j; kind = I.vertex.once j }
  where
    v : OfVertex s.vertex
    v = I.vertex

    many : (broken_limits s).many ≡ false
    many = ors _ _ v.few (ors _ _ I.targets (ors _ _ I.pass.few I.immediates.few))

    range : (broken_limits s).range ≡ false
    range =
        ors _ _ v.good
        (ors _ _ (units-good s.bind.sampled 0 s.bind.texture_slots I.bind.units)
        (ors _ _ I.immediates.good
        (ors _ _ I.pass.good
        (ors _ _ (low s.vertex.described v.described)
        (ors _ _ (low s.vertex.bound v.bound)
        (ors _ _ (low s.vertex.by_instance v.by_instance)
        (ors _ _ (low s.vertex.instance_vbuf_mask v.stepped)
        (ors _ _ (low s.vertex.dirty_vbuf_mask v.dirty)
        (ors _ _ (low s.bind.sampler_set I.bind.given)
        (ors _ _ (low s.bind.sampled I.bind.sampled) (lt-leb (2 ^ 10) s.pass.invalidate_attachments I.pass.invalid)))))))))))

-- ---- the start
each-replicate : {A : Type 0} (P : A → Type 0) (n : ℕ) (a : A) → P a → Each P (replicate n a)
each-replicate P zero a h = tt
each-replicate P (suc n) a h = (h, each-replicate P n a h)

start-intact : Intact start_state
unfolding some? twice
start-intact =
    record {
      vertex = record { few = refl; good = refl; once = refl; described = omega arith; bound = omega arith; by_instance = omega arith; stepped = omega arith; dirty = omega arith };
      targets = refl;
      pass = record { few = refl; good = refl; invalid = omega arith };
      bind = record { units = each-replicate (λ (t : TextureSlotDesc). leb 16 t.sampler_index ≡ false) 16 start_texture_slot refl; given = omega arith; sampled = omega arith };
      immediates = record { few = refl; good = refl };
    }

-- ---- vertex slots
without-le : (a b : ℕ) → without a b ≤ a
unfolding without
without-le a b = and_le_l a _

ended : (v : VertexState) → OfVertex v → OfVertex (end_vertex v)
unfolding some? twice
ended v G = record { few = refl; good = refl; once = refl; described = G.described; bound = G.bound; by_instance = G.by_instance; stepped = omega arith; dirty = omega arith }

buffered : (i raw offset : ℕ) (v : VertexState) → i < 16 → OfVertex v → OfVertex (bound_slot i raw offset v)
buffered i raw offset v h G =
    record {
      few = G.few;
      good = G.good;
      once = G.once;
      described = G.described;
      bound = set-lt 16 v.bound i G.bound h (omega arith);
      by_instance = G.by_instance;
      stepped = G.stepped;
      dirty = set-lt 16 v.dirty_vbuf_mask i G.dirty h (omega arith);
    }

drawn-intact : (caps : PrivateCapabilities) (v : VertexState) (w : ℕ) → OfVertex v → OfVertex (prepared_state caps v w)
drawn-intact caps v w G =
    record {
      few = G.few;
      good = G.good;
      once = G.once;
      described = G.described;
      bound = G.bound;
      by_instance = G.by_instance;
      stepped = G.stepped;
      dirty = lt_of_le_of_lt (without-le (woken v w) (cleared caps v w)) (or_lt 16 v.dirty_vbuf_mask (moved v w) G.dirty (by-lt 16 _));
    }

piped-vertex : (caps : PrivateCapabilities) (p : RenderPipeline) (v : VertexState) → OfVertex v → vertex_too_many p ≡ false → vertex_out_of_range p ≡ false → vertex_twice p ≡ false
    → OfVertex (pipeline_vertex caps p v)
piped-vertex caps p v G many range two =
    record {
      few = few-of caps.vertex_buffer_layout;
      good = good_of caps.vertex_buffer_layout;
      once = once-of caps.vertex_buffer_layout;
      described = or_lt 16 v.described _ G.described (by-lt 16 _);
      bound = G.bound;
      by_instance = by-lt 16 _;
      stepped = by-lt 16 _;
      dirty = or_lt 16 (dirty_before caps p v) (changed_slots p v) (before caps.vertex_buffer_layout) (by-lt 16 _);
    }
  where
    few-of : (t : Bool) → ltb 16 (cond t v.attribute_count p.vertex_attribute_count) ≡ false
    few-of true = G.few
    few-of false = or_right (ltb 16 p.vertex_buffer_count) (ltb 16 p.vertex_attribute_count) many

    good_of : (t : Bool) → some? bad_attribute (take (cond t v.attribute_count p.vertex_attribute_count) (cond t v.attributes p.vertex_attributes)) ≡ false
    good_of true = G.good
    good_of false = range

    once-of : (t : Bool) → twice (locations (take (cond t v.attribute_count p.vertex_attribute_count) (cond t v.attributes p.vertex_attributes))) ≡ false
    once-of true = G.once
    once-of false = two

    before : (t : Bool) → cond t v.dirty_vbuf_mask (mask_by 16 (λ i. among i (slots_of (attributes_in p)))) < 2 ^ 16
    before true = G.dirty
    before false = by-lt 16 _

-- ---- units and samplers
each_at : {A : Type 0} (P : A → Type 0) (l : List A) (d : A) (u : ℕ) → Each P l → P d → P (get_or l u d)
each_at P [] d u h q = q
each_at P (x ∷ xs) d zero h q = h.0
each_at P (x ∷ xs) d (suc u) h q = each_at P xs d u h.1 q

each-table : {A : Type 0} (P : A → Type 0) (n : ℕ) (f : ℕ → A) → ((i : ℕ) → P (f i)) → Each P (tabulate n f)
unfolding tabulate
each-table P zero f h = tt
each-table P (suc n) f h = (h 0, each-table P n (λ i. f (suc i)) (λ i. h (suc i)))

each_set : {A : Type 0} (P : A → Type 0) (l : List A) (k : ℕ) (a : A) → Each P l → P a → Each P (set l k a)
each_set P [] zero a h q = tt
each_set P [] (suc k) a h q = tt
each_set P (x ∷ xs) zero a h q = (q, h.1)
each_set P (x ∷ xs) (suc k) a h q = (h.0, each_set P xs k a h.1 q)

piped-bind : (p : PipelineInner) (b : BindState) → OfBind b → inner_out_of_range p ≡ false → OfBind (inner_bind p b)
piped-bind p b B e =
    record {
      units = each-table (λ (t : TextureSlotDesc). leb 16 t.sampler_index ≡ false) 16 _ number;
      given = B.given;
      sampled = by-lt 16 _;
    }
  where
    number : (u : ℕ) → leb 16 (value_or 0 (map_at p u)) ≡ false
    number u =
        each_at (λ (s : SamplerBind). bad_number s ≡ false) p.sampler_map no_bind u
        (each-not bad_number p.sampler_map (or_left (some? bad_number p.sampler_map) (some? bad_descriptor (inner_descriptors p)) e)) refl

entry-bind : (e : BindGroupLayoutEntry) (r : RawBinding) (b : BindState) → content_out_of_range e.slot r ≡ false → OfBind b → OfBind (entry_state e r b)
entry-bind e (content.Buffer raw offset size) b h B = B
entry-bind e (content.Texture raw target aspects mips) b h B =
    record {
      units = each_set (λ (t : TextureSlotDesc). leb 16 t.sampler_index ≡ false) b.texture_slots e.slot _ B.units
          (each_at (λ (t : TextureSlotDesc). leb 16 t.sampler_index ≡ false) b.texture_slots _ e.slot B.units refl);
      given = B.given;
      sampled = B.sampled;
    }
entry-bind e (content.Image x) b h B = B
entry-bind e (content.Sampler k) b h B = record { units = B.units; given = set-lt 16 b.sampler_set e.slot B.given (leb-false 16 e.slot h) (omega arith); sampled = B.sampled }

group-bind : (xs : List Entry) (b : BindState) → some? entry_out_of_range xs ≡ false → OfBind b → OfBind (group_state xs b)
unfolding some? group_state
group-bind [] b h B = B
group-bind (x ∷ xs) b h B =
    group-bind xs (entry_state x.layout x.raw b) (or_right (entry_out_of_range x) (some? entry_out_of_range xs) h)
    (entry-bind x.layout x.raw b
    (or_right (leb 256 x.layout.slot) (content_out_of_range x.layout.slot x.raw)
    (or_right (leb 1000 x.layout.binding) (leb 256 x.layout.slot || content_out_of_range x.layout.slot x.raw) (or_left (entry_out_of_range x) (some? entry_out_of_range xs) h))) B)

-- ---- resolves
record Resolved (n : ℕ) (l : List ResolveDesc) : Type 0 where
  few : length l ≤ n
  good : some? bad_resolve l ≡ false

resolve-one : (caps : PrivateCapabilities) (i : ℕ) (o : Option ColorAttachment) → i < 8 → Resolved 1 (resolve_place caps i o)
unfolding some?
resolve-one caps i None h = record { few = omega arith; good = refl }
resolve-one caps i (Some a) h = go a.resolve_target (resolves_in_place caps i a.ops a.resolve_target)
  where
    go : (v : Option TextureView) (b : Bool) → Resolved 1 (resolve_of b i v)
    go None b = record { few = omega arith; good = refl }
    go (Some v) true = record { few = omega arith; good = refl }
    go (Some v) false = record { few = omega arith; good = ors (leb 8 i) false (lt-leb 8 i h) refl }

some-append : {A : Type 0} (f : A → Bool) (xs ys : List A) → some? f xs ≡ false → some? f ys ≡ false → some? f (xs ++ ys) ≡ false
unfolding some?
some-append f [] ys p q = q
some-append f (x ∷ xs) ys p q = ors (f x) (some? f (xs ++ ys)) (or_left (f x) (some? f xs) p) (some-append f xs ys (or_right (f x) (some? f xs) p) q)

resolve-all : (caps : PrivateCapabilities) (i : ℕ) (ps : List ColorPlace) → i + length ps ≤ 8 → Resolved (length ps) (resolves_from caps i ps)
unfolding some? resolves_from
resolve-all caps i [] h = record { few = omega arith; good = refl }
resolve-all caps i (p ∷ ps) h =
    let a = resolve-one caps i p.attachment (omega arith) in
    let b = resolve-all caps (suc i) ps (omega arith) in
    let x = a.few in
    let y = b.few in
    record {
      few = omega (arith, length-append (resolve_place caps i p.attachment) (resolves_from caps (suc i) ps));
      good = some-append bad_resolve (resolve_place caps i p.attachment) (resolves_from caps (suc i) ps) a.good b.good;
    }

take-few : {A : Type 0} (n : ℕ) (l : List A) → length (take n l) ≤ n
take-few zero l = omega arith
take-few (suc n) [] = omega arith
take-few (suc n) (x ∷ l) = let h = take-few n l in omega arith

begun-pass : (caps : PrivateCapabilities) (d : RenderPassDescriptor) (label : Label) (set : Lent) (p : PassState) → ltb 8 d.color_attachment_count ≡ false
    → OfPass (begin_render_pass_state caps d label set p)
unfolding some? invalidations
begun-pass caps d label set p e =
    let r = all (default_first (places_of d)) in
    record {
      few = le-ltb 8 (length (resolves_at_end caps d)) r.few;
      good = subst (λ (l : List ResolveDesc). some? bad_resolve l ≡ false) (sym (take_at (resolves_at_end caps d) _ (length (resolves_at_end caps d)) refl)) r.good;
      invalid = invalid-of (default_first (places_of d));
    }
  where
    count : length (places_of d) ≤ 8
    count = let h = take-few d.color_attachment_count d.color_attachments in let k = ltb-false 8 d.color_attachment_count e in omega arith

    all : (t : Bool) → Resolved 8 (cond t [] (resolves_from caps 0 (places_of d)))
    all true = record { few = omega arith; good = refl }
    all false = let r = resolve-all caps 0 (places_of d) (omega (arith, count)) in let f = r.few in record { few = omega (arith, count); good = r.good }

    invalid-of : (t : Bool) → cond t 0 (invalidations caps d) < 2 ^ 10
    invalid-of true = omega arith
    invalid-of false = by-lt 10 _

piped-immediates : (p : PipelineInner) (i : ImmediateState) → inner_too_many p ≡ false → inner_out_of_range p ≡ false → OfImmediates (inner_immediates p i)
piped-immediates p i few range = record { few = few; good = or_right (some? bad_number p.sampler_map) (some? bad_descriptor (inner_descriptors p)) range }

-- ---- one call
few-asked : (caps : PrivateCapabilities) (rooms : Rooms) (s : State) (c : Call) → carried caps rooms s c ≡ true → (meaning caps s c).asks.many ≡ false
unfolding outcome_of
few-asked caps rooms s c e = or_right (broken_limits s).many (meaning caps s c).asks.many (passes (conditions_of rooms s (meaning caps s c)) e).many

no-resolve : (l : List ResolveDesc) → some? bad_resolve (take 0 l) ≡ false
unfolding some?
no-resolve l = refl

after-intact : (caps : PrivateCapabilities) (rooms : Rooms) (s : State) (c : Call) → carried caps rooms s c ≡ true → Intact s → Intact (meaning caps s c).after
after-intact caps rooms s begin_encoding e I = start-intact
after-intact caps rooms s end_encoding e I = made I.vertex I.targets I.pass I.bind I.immediates
after-intact caps rooms s end_render_pass e I =
    made (ended s.vertex I.vertex) refl (record { few = refl; good = no-resolve s.pass.resolves; invalid = omega arith }) I.bind I.immediates
after-intact caps rooms s end_compute_pass e I = made I.vertex I.targets (record { few = I.pass.few; good = I.pass.good; invalid = I.pass.invalid }) I.bind I.immediates
after-intact caps rooms s (begin_render_pass d label set) e I =
    made I.vertex I.targets (begun-pass caps d label set s.pass (few-asked caps rooms s (begin_render_pass d label set) e)) I.bind I.immediates
after-intact caps rooms s (begin_compute_pass t label set) e I =
    made I.vertex I.targets (record { few = I.pass.few; good = I.pass.good; invalid = I.pass.invalid }) I.bind I.immediates
after-intact caps rooms s (transition_buffers l) e I = I
after-intact caps rooms s (transition_textures l) e I = I
after-intact caps rooms s (clear_buffer x range) e I = I
after-intact caps rooms s (copy_buffer_to_buffer src dst l) e I = I
after-intact caps rooms s (copy_query_results set start end dst offset) e I = I
after-intact caps rooms s (begin_query set i) e I = I
after-intact caps rooms s (end_query set i) e I = I
after-intact caps rooms s (write_timestamp set i) e I = I
after-intact caps rooms s (reset_queries set start end) e I = I
after-intact caps rooms s (set_bind_group l i x g os) e I =
    made I.vertex I.targets I.pass
    (group-bind (entries_of l i x g) s.bind
    (or_right (leb l.group_count i) (some? entry_out_of_range (entries_of l i x g)) (in-range rooms s (meaning caps s (set_bind_group l i x g os)) e)) I.bind)
    I.immediates
after-intact caps rooms s (set_immediates offset ws) e I = made I.vertex I.targets I.pass I.bind (record { few = I.immediates.few; good = I.immediates.good })
after-intact caps rooms s (set_render_pipeline p) e I =
    let range = in-range rooms s (meaning caps s (set_render_pipeline p)) e in
    let many = few-asked caps rooms s (set_render_pipeline p) e in
    let rest = or_right (vertex_too_many p) (fixed_too_many p || inner_too_many p.inner) many in
    let inner = or_right (vertex_out_of_range p) (inner_out_of_range p.inner) range in
    made
    (piped-vertex caps p s.vertex I.vertex (or_left (vertex_too_many p) (fixed_too_many p || inner_too_many p.inner) many) (or_left (vertex_out_of_range p) (inner_out_of_range p.inner) range)
    (kinds rooms s (meaning caps s (set_render_pipeline p)) e))
    (or_left (fixed_too_many p) (inner_too_many p.inner) rest) I.pass (piped-bind p.inner s.bind I.bind inner)
    (piped-immediates p.inner s.immediates (or_right (fixed_too_many p) (inner_too_many p.inner) rest) inner)
after-intact caps rooms s (set_compute_pipeline p) e I =
    let range = in-range rooms s (meaning caps s (set_compute_pipeline p)) e in
    made I.vertex I.targets I.pass (piped-bind p.inner s.bind I.bind range)
    (piped-immediates p.inner s.immediates (few-asked caps rooms s (set_compute_pipeline p) e) range)
after-intact caps rooms s (set_index_buffer raw offset format) e I = made I.vertex I.targets I.pass I.bind I.immediates
after-intact caps rooms s (set_vertex_buffer i raw offset) e I =
    made (buffered i raw offset s.vertex (leb-false 16 i (in-range rooms s (meaning caps s (set_vertex_buffer i raw offset)) e)) I.vertex) I.targets I.pass I.bind I.immediates
after-intact caps rooms s (set_viewport r d) e I = I
after-intact caps rooms s (set_scissor_rect r) e I = I
after-intact caps rooms s (set_stencil_reference x) e I = made I.vertex I.targets I.pass I.bind I.immediates
after-intact caps rooms s (set_blend_constants x) e I = I
after-intact caps rooms s (draw vertex vertices instance instances) e I = made (drawn-intact caps s.vertex (working caps instance) I.vertex) I.targets I.pass I.bind I.immediates
after-intact caps rooms s (draw_indexed fst count base instance instances) e I =
    made (drawn-intact caps s.vertex (working caps instance) I.vertex) I.targets I.pass I.bind I.immediates
after-intact caps rooms s (draw_indirect raw offset n) e I = made (drawn-intact caps s.vertex 0 I.vertex) I.targets I.pass I.bind I.immediates
after-intact caps rooms s (draw_indexed_indirect raw offset n) e I = made (drawn-intact caps s.vertex 0 I.vertex) I.targets I.pass I.bind I.immediates
after-intact caps rooms s (dispatch_workgroups x y z) e I = I
after-intact caps rooms s (dispatch_workgroups_indirect raw offset) e I = I

step-intact : (caps : PrivateCapabilities) (rooms : Rooms) (s : State) (c : Call) → Intact s → Intact (step caps rooms s c).state
step-intact caps rooms s c I = go (carried caps rooms s c) refl
  where
    m : Meaning
    m = meaning caps s c

    go : (t : Bool) → carried caps rooms s c ≡ t → Intact (cond t (with_progress (progress_after m) m.after) s)
    go true e = let K = after-intact caps rooms s c e I in made K.vertex K.targets K.pass K.bind K.immediates
    go false e = I

pub all-intact : (caps : PrivateCapabilities) (rooms : Rooms) (r : Recording) (cs : List Call) → Intact r.state → Intact (record_calls caps rooms r cs).state
unfolding record_calls
all-intact caps rooms r [] I = I
all-intact caps rooms r (c ∷ cs) I = all-intact caps rooms (record_call caps rooms r c) cs (step-intact caps rooms r.state c I)

-- where a list begins
pub begun-intact : (caps : PrivateCapabilities) (rooms : Rooms) (s : State) → carried caps rooms s begin_encoding ≡ true → Intact (begun caps rooms s).state
begun-intact caps rooms s e = go (carried caps rooms s begin_encoding) e
  where
    m : Meaning
    m = meaning caps s begin_encoding

    go : (t : Bool) → t ≡ true → Intact (cond t (with_progress (progress_after m) m.after) s)
    go true e = made start-intact.vertex start-intact.targets start-intact.pass start-intact.bind start-intact.immediates
    go false e = false-true e
