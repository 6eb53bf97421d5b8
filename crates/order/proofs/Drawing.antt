-- A draw of the first render pass finds what the book names. Assumes nothing.
use Prim.Native.Nat.{ℕ, zero, suc, ◌+◌, ◌<◌}
use mathlib.Core.Path.{◌≡◌, refl, sym, ap, ◌∙◌}
use mathlib.Core.Bool.{Bool, true, false, cond}
use mathlib.Core.List.{List, [], ◌∷◌, map}
use Rattle.std.specs.Prelude.{Option, None, Some}
use native.Mathlib.Nat.{add_assoc}
use lib.Dec.{leb, ltb}
use lib.IntN.{pos}
use lib.ListN.{get_or}
use borrow.Author.Tests.{leb-false}
use Rattle.tables.specs.Tabulate.{tabulate, alike}
use Rattle.mask.specs.Mask.{test_bit}
use Rattle.names.specs.Maps.{primitive_state}
use Rattle.records.specs.Check.{some?, bad_descriptor}
use Rattle.records.specs.declared.command.AttributeDesc.{AttributeDesc}
use Rattle.records.specs.declared.command.BufferBinding.{BufferBinding}
use Rattle.records.specs.declared.command.Command.{Command}
use Rattle.records.specs.declared.pipeline.PipelineInner.{PipelineInner}
use Rattle.records.specs.declared.pipeline.PrivateCapabilities.{PrivateCapabilities}
use Rattle.records.specs.declared.pipeline.RenderPipeline.{RenderPipeline}
use Rattle.records.specs.declared.pipeline.SamplerBind.{SamplerBind}
use Rattle.records.specs.declared.state.BindState.{BindState}
use Rattle.records.specs.declared.state.State.{State}
use Rattle.records.specs.declared.state.VertexState.{VertexState}
use Rattle.slots.specs.Vertex.{slot_at}
use Rattle.slots.specs.Prepare.{slot_desc, slot_offset, attribute_offset}
use Rattle.bindings.specs.Units.{resolve}
use Rattle.pipeline.specs.Inner.{value_or, no_bind, map_at, bad_number, inner_descriptors, inner_out_of_range}
use Rattle.pipeline.specs.Vertex.{pipe_desc, attributes_in, has}
use Rattle.pipeline.specs.Fixed.{targets_in}
use Rattle.calls.specs.Draws.{DrawArgs}
use Rattle.calls.specs.Parts.{draw_args}
use Rattle.machine.specs.Each.{Each}
use Rattle.machine.proofs.Lists.{or_left, each_map, each-not}
use Rattle.machine.specs.View.{Source}
use Rattle.machine.specs.Machine.{VertexBuffer, Vertices, Gl}
use Rattle.machine.specs.Found.{fetch_of, fetch_at, attributes_by, targets_by, flag_at, where?, faces_of, view_of}
use Rattle.book.specs.Book.{Book, named_source, desc_by, named_fetch, named_sampler, number_by, by, by_or, has_depth, has_stencil, depth_named, stencil_named, names, topology_by, location_by}
use Rattle.book.specs.Premise.{Ready}
use Rattle.order.proofs.Own.{describes-is, known_is, described-is, stepped-is, depth-flag, stencil-flag}
use Rattle.order.proofs.Invariant.{slot_buffer, attribute_buffer, sent_attribute, ScreenTied, ResTied, ArgsTied, Units, Slots, Drawn, Numbered, Fetched, Piped}
use Rattle.order.proofs.Prepared.{desc-some, binding-some, Ranged, ranged-each, described-each}

-- document 01's first premise, by the recorder's descriptions
pub buffers-known : (b : Book) (R : Ready b) (i : ℕ) → i < 16 → has (pipe_desc R.pipeline i) ≡ true → has (b.buffer i) ≡ true
buffers-known b R i l h = sym (known_is (b.buffer i)) ∙ R.bound i l (described-is R.pipeline i ∙ h)

-- every slot, or attribute, that the pipeline reads holds what the state says at the working instance w
pub record Fresh (caps : PrivateCapabilities) (v : VertexState) (g : Vertices) (buffer : ℕ → Option BufferBinding) (p : RenderPipeline) (w : ℕ) : Type 0 where
  pub slots : caps.vertex_buffer_layout ≡ true → (i : ℕ) → i < 16 → has (pipe_desc p i) ≡ true → has (buffer i) ≡ true → test_bit v.described i ≡ true → test_bit v.bound i ≡ true → g.buffer i ≡ Some (slot_buffer v w i)
  pub attributes : caps.vertex_buffer_layout ≡ false
      → Each (λ (a : AttributeDesc). test_bit v.bound a.buffer_index ≡ true → g.attribute a.location ≡ Some (attribute_buffer v w a)) (attributes_in p)

-- ---- fetches
module _ (caps : PrivateCapabilities) (v : VertexState) (g : Vertices) (b : Book) (p : RenderPipeline) (w : ℕ) (e : b.pipeline ≡ Some p)
    (bound : (i : ℕ) → i < 16 → has (pipe_desc p i) ≡ true → has (b.buffer i) ≡ true) (S : Slots caps v g b.buffer) (F : Fetched caps v g p) (R : Fresh caps v g b.buffer p w) where
  -- what the book names for an attribute of slot i
  named-at : (a : AttributeDesc) → a.buffer_index < 16 → has (pipe_desc p a.buffer_index) ≡ true
      → named_fetch b w a
      ≡ Some
      (record {
        location = a.location;
        format = a.format_desc;
        slot = a.buffer_index;
        source = Some (record { buffer = (slot_at v a.buffer_index).raw; stride = (slot_desc v a.buffer_index).stride; step = (slot_desc v a.buffer_index).step; first = attribute_offset v w a });
      })
  named-at a l h =
      let i = a.buffer_index in
      let d = ap (λ (o : Option RenderPipeline). desc_by o i) e ∙ describes-is p i ∙ (desc-some v i (pipe_desc p i) (F.kept i l h) h).1 in
      let x = (binding-some v i (b.buffer i) (S.bound i l (bound i l h)) (bound i l h)).1 in
      let n = stepped-is (slot_desc v i).step w (slot_at v i).stride in
      (λ j. Some (record { location = a.location; format = a.format_desc; slot = i; source = named_source w a.offset (d j) (x j) }))
      ∙ (λ j. Some (record { location = a.location; format = a.format_desc; slot = i; source = Some (record { buffer = (slot_at v i).raw; stride = (slot_desc v i).stride; step = (slot_desc v i).step; first = a.offset + (slot_at v i).offset + n j }) }))

  bound_at : (i : ℕ) → i < 16 → has (pipe_desc p i) ≡ true → test_bit v.bound i ≡ true
  bound_at i l h = (binding-some v i (b.buffer i) (S.bound i l (bound i l h)) (bound i l h)).0

  described-at : (i : ℕ) → i < 16 → has (pipe_desc p i) ≡ true → test_bit v.described i ≡ true
  described-at i l h = (desc-some v i (pipe_desc p i) (F.kept i l h) h).0

  -- with layouts: the attribute and its slot's buffer
  by-slot : (a : AttributeDesc) → a.buffer_index < 16 → has (pipe_desc p a.buffer_index) ≡ true → caps.vertex_buffer_layout ≡ true → g.attribute a.location ≡ Some (sent_attribute p a)
      → fetch_at g a.location ≡ named_fetch b w a
  by-slot a l h layout q =
      let i = a.buffer_index in
      ap (fetch_of a.location g.buffer) q
      ∙ ap (λ (o : Option VertexBuffer). Some (record { location = a.location; format = a.format_desc; slot = i; source = slot-source a.offset o })) (R.slots layout i l h (bound i l h) (described-at i l h) (bound_at i l h))
      ∙ ap (λ (n : ℕ). Some (record { location = a.location; format = a.format_desc; slot = i; source = Some (record { buffer = (slot_at v i).raw; stride = (slot_desc v i).stride; step = (slot_desc v i).step; first = n }) }))
      (sym (add_assoc a.offset (slot_at v i).offset (slot_offset v w i)))
      ∙ sym (named-at a l h)
    where
      slot-source : ℕ → Option VertexBuffer → Option Source
      slot-source offset None = None
      slot-source offset (Some x) = Some (record { buffer = x.binding.raw; stride = x.desc.stride; step = x.desc.step; first = offset + x.binding.offset })

  -- without: the attribute's own
  by-own : (a : AttributeDesc) → a.buffer_index < 16 → has (pipe_desc p a.buffer_index) ≡ true
      → (test_bit v.bound a.buffer_index ≡ true → g.attribute a.location ≡ Some (attribute_buffer v w a)) → fetch_at g a.location ≡ named_fetch b w a
  by-own a l h q = ap (fetch_of a.location g.buffer) (q (bound_at a.buffer_index l h)) ∙ sym (named-at a l h)

  fetches-each : Each (λ (a : AttributeDesc). fetch_at g a.location ≡ named_fetch b w a) (attributes_in p)
  fetches-each = go caps.vertex_buffer_layout refl
    where
      layouts : caps.vertex_buffer_layout ≡ true → (l : List AttributeDesc) → Each Ranged l → Each (λ (a : AttributeDesc). has (pipe_desc p a.buffer_index) ≡ true) l
          → Each (λ (a : AttributeDesc). g.attribute a.location ≡ Some (sent_attribute p a)) l → Each (λ (a : AttributeDesc). fetch_at g a.location ≡ named_fetch b w a) l
      layouts t [] r h s = tt
      layouts t (a ∷ l) r h s = (by-slot a r.0.1 h.0 t s.0, layouts t l r.1 h.1 s.1)

      owns : (l : List AttributeDesc) → Each Ranged l → Each (λ (a : AttributeDesc). has (pipe_desc p a.buffer_index) ≡ true) l
          → Each (λ (a : AttributeDesc). test_bit v.bound a.buffer_index ≡ true → g.attribute a.location ≡ Some (attribute_buffer v w a)) l → Each (λ (a : AttributeDesc). fetch_at g a.location ≡ named_fetch b w a) l
      owns [] r h s = tt
      owns (a ∷ l) r h s = (by-own a r.0.1 h.0 s.0, owns l r.1 h.1 s.1)

      go : (t : Bool) → caps.vertex_buffer_layout ≡ t → Each (λ (a : AttributeDesc). fetch_at g a.location ≡ named_fetch b w a) (attributes_in p)
      go true t = layouts t (attributes_in p) (ranged-each p F.ranged) (described-each p F.described) (F.sent t)
      go false t = owns (attributes_in p) (ranged-each p F.ranged) (described-each p F.described) (R.attributes t)

  pub fetches-are : map (λ (a : AttributeDesc). fetch_at g a.location) (attributes_by b.pipeline) ≡ map (named_fetch b w) (by_or [] attributes_in b.pipeline)
  fetches-are =
      ap (λ (o : Option RenderPipeline). map (λ (a : AttributeDesc). fetch_at g a.location) (attributes_by o)) e
      ∙ each_map (λ (a : AttributeDesc). fetch_at g a.location) (named_fetch b w) (attributes_in p) fetches-each
      ∙ sym (ap (λ (o : Option RenderPipeline). map (named_fetch b w) (by_or [] attributes_in o)) e)

-- ---- samplers
each_at : {A : Type 0} (P : A → Type 0) (l : List A) (d : A) (u : ℕ) → Each P l → P d → P (get_or l u d)
each_at P [] d u h q = q
each_at P (x ∷ xs) d zero h q = h.0
each_at P (x ∷ xs) d (suc u) h q = each_at P xs d u h.1 q

low-number : (p : PipelineInner) → inner_out_of_range p ≡ false → (u : ℕ) → bad_number (get_or p.sampler_map u no_bind) ≡ false
low-number p e u =
    each_at (λ (s : SamplerBind). bad_number s ≡ false) p.sampler_map no_bind u (each-not bad_number p.sampler_map (or_left (some? bad_number p.sampler_map) (some? bad_descriptor (inner_descriptors p)) e)) refl

pub samplers-are : (x : BindState) (g : ℕ → Option ℕ) (b : Book) (p : RenderPipeline) → b.pipeline ≡ Some p → Units x g b.bound.samplers → Numbered x p
    → tabulate 16 g ≡ tabulate 16 (λ u. named_sampler b.bound.samplers (number_by b.pipeline u))
samplers-are x g b p e U N =
    alike 16 g (λ u. named_sampler b.bound.samplers (number_by b.pipeline u))
    (λ u l. U.taken u l ∙ ap (resolve x) (N.number u l) ∙ held (map_at p.inner u) (low-number p.inner N.low u) ∙ sym (ap (λ (o : Option RenderPipeline). named_sampler b.bound.samplers (number_by o u)) e))
  where
    held : (o : Option ℕ) → leb 16 (value_or 0 o) ≡ false → resolve x o ≡ named_sampler b.bound.samplers o
    held None q = refl
    held (Some k) q = U.same k (leb-false 16 k q)

-- ---- the draw's own command
abbrev pub args_of : Book → DrawArgs
args_of b = record { topology = topology_by b.pipeline; location = location_by b.pipeline; format = b.format; offset = b.offset }

pub args_are : (s : State) (b : Book) (p : RenderPipeline) → b.pipeline ≡ Some p → ArgsTied s.draw b → Drawn s.draw p → draw_args s.draw ≡ args_of b
args_are s b p e A W =
    let t = W.topology ∙ sym (ap topology_by e) in
    let l = W.location ∙ sym (ap location_by e) in
    let f = A.format in
    let o = A.offset in
    λ j. record { topology = t j; location = l j; format = f j; offset = o j }

-- ---- the whole view
pub view-is : (caps : PrivateCapabilities) (s : State) (g : Gl) (b : Book) (R : Ready b) (w : ℕ) (indexed : Bool) (c : Command)
    → ScreenTied g.screen b → ResTied g.bindings b.bound b.index → Units s.bind g.bindings.samplers b.bound.samplers → Slots caps s.vertex g.vertices b.buffer
    → Piped caps s g b.reference R.pipeline → Fresh caps s.vertex g.vertices b.buffer R.pipeline w
    → view_of b.pipeline (record { command = c; indexed = indexed; gl = g }) ≡ names b w indexed c
view-is caps s g b R w indexed c Sc Re U S P F =
    let p = R.pipeline in
    let e = R.is in
    let program = P.set.program ∙ sym (ap (by (λ (p : RenderPipeline). p.inner.program)) e) in
    let fetches = fetches-are caps s.vertex g.vertices b p w e (buffers-known b R) S P.fetched F in
    let buffers = Re.buffers in
    let textures = Re.textures in
    let images = Re.images in
    let samplers = samplers-are s.bind g.bindings.samplers b p e U P.numbered in
    let index = ap (λ (o : Option ℕ). cond indexed o None) Re.index in
    let viewport = Sc.viewport in
    let scissor = Sc.scissor in
    let blend = Sc.blend in
    let primitive = P.set.primitive ∙ sym (ap (by (λ (p : RenderPipeline). primitive_state p.primitive)) e) in
    let bias = P.set.bias ∙ sym (ap (by_or (record { constant = pos 0; slope_scale = 0; clamp = 0 }) (λ (p : RenderPipeline). p.depth_bias)) e) in
    let alpha = P.set.alpha ∙ sym (ap (by_or false (λ (p : RenderPipeline). p.alpha_to_coverage_enabled)) e) in
    let targets = ap (λ (o : Option RenderPipeline). tabulate (targets_by o) g.fixed.target) e ∙ P.set.targets ∙ sym (ap (by_or [] targets_in) e) in
    let clip = P.set.clip ∙ sym (ap (by_or (λ i. false) (λ (p : RenderPipeline). λ i. ltb i p.inner.clip_distance_count)) e) in
    let deep : flag_at 1 g.fixed.aspects ≡ Some (has_depth p.depth) = ap (flag_at 1) P.set.aspects ∙ ap Some (depth-flag p.depth p.stencil) in
    let stenciled : flag_at 2 g.fixed.aspects ≡ Some (has_stencil p.stencil) = ap (flag_at 2) P.set.aspects ∙ ap Some (stencil-flag p.depth p.stencil) in
    let has-depth = deep ∙ sym (ap (by (λ (p : RenderPipeline). has_depth p.depth)) e) in
    let has-stencil = stenciled ∙ sym (ap (by (λ (p : RenderPipeline). has_stencil p.stencil)) e) in
    let depth = ap (λ (t : Option Bool). where? t g.fixed.depth) deep ∙ P.set.depth ∙ sym (ap depth_named e) in
    let stencil = ap (λ (t : Option Bool). where? t (faces_of g.faces)) stenciled ∙ P.stenciled.faces ∙ sym (ap (stencil_named b.reference) e) in
    λ j.
    record {
      command = c;
      program = program j;
      fetches = fetches j;
      buffers = buffers j;
      textures = textures j;
      images = images j;
      samplers = samplers j;
      index = index j;
      viewport = viewport j;
      scissor = scissor j;
      blend = blend j;
      primitive = primitive j;
      bias = bias j;
      alpha = alpha j;
      targets = targets j;
      clip = clip j;
      has_depth = has-depth j;
      has_stencil = has-stencil j;
      depth = depth j;
      stencil = stencil j;
    }
