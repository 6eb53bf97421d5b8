-- What the book names at a draw depends on its pipeline by what that says: what lies past a count, and the immediates, make no difference. Assumes nothing.
use Prim.Native.Nat.{ℕ, zero, suc, ◌+◌, ◌*◌}
use mathlib.Core.Path.{◌≡◌, refl, sym, ap, ap₂, ◌∙◌}
use mathlib.Core.Bool.{Bool, true, false, cond}
use mathlib.Core.List.{List, [], ◌∷◌, ◌++◌, map}
use Rattle.std.specs.Prelude.{Option, None, Some}
use lib.Dec.{ltb}
use lib.ListN.{take, get_or}
use lib.Seq.{get_or-take}
use borrow.Author.Tests.{ltb-true}
use Rattle.tables.specs.Tabulate.{tabulate}
use Rattle.names.specs.Maps.{primitive_state}
use Rattle.records.specs.declared.command.AttributeDesc.{AttributeDesc}
use Rattle.records.specs.declared.command.Command.{Command}
use Rattle.records.specs.declared.command.Command.TheVariants.{Draw, DrawIndexed, DrawIndirect, DrawIndexedIndirect}
use Rattle.records.specs.declared.command.VertexBufferDesc.{VertexBufferDesc}
use Rattle.records.specs.declared.pipeline.PrivateCapabilities.{PrivateCapabilities}
use Rattle.records.specs.declared.pipeline.RenderPipeline.{RenderPipeline}
use Rattle.records.specs.declared.pipeline.VertexBufferLayout.{VertexBufferLayout}
use Rattle.calls.specs.Call.{Call, begin_encoding, end_encoding, begin_render_pass, end_render_pass, begin_compute_pass, end_compute_pass, transition_buffers, transition_textures, clear_buffer, copy_buffer_to_buffer, copy_query_results, begin_query, end_query, write_timestamp, reset_queries, set_bind_group, set_immediates, set_render_pipeline, set_compute_pipeline, set_index_buffer, set_vertex_buffer, set_viewport, set_scissor_rect, set_stencil_reference, set_blend_constants, draw, draw_indexed, draw_indirect, draw_indexed_indirect, dispatch_workgroups, dispatch_workgroups_indirect}
use Rattle.machine.specs.View.{View}
use Rattle.machine.proofs.Lists.{each_map, each-always}
use Rattle.book.specs.Book.{Entered, Book, attributes_in, given, describes, named_source, named_fetch, named_sampler, number_by, has_depth, has_stencil, depth_named, stencil_named, names, topology_by, location_by, type_of, size_of, working_of, enter}
use Rattle.book.specs.Pages.{Page, DrawCall, trimmed, trimmed_if, with_pipeline, trimmed_page}
use Rattle.book.specs.FirstPass.{named}
use Rattle.order.proofs.PageDraws.{opened, draws_of}

-- a draw call, its page's pipeline by what it says
abbrev pub trimmed_call : DrawCall → DrawCall
trimmed_call d = record { call = d.call; page = trimmed_page d.page }

take-take : {A : Type 0} (n : ℕ) (l : List A) → take n (take n l) ≡ take n l
take-take zero l = refl
take-take (suc n) [] = refl
take-take (suc n) (x ∷ l) = ap (λ (xs : List _). x ∷ xs) (take-take n l)

describes-trim : (p : RenderPipeline) (i : ℕ) → describes (trimmed p) i ≡ describes p i
describes-trim p i = go (ltb i p.vertex_buffer_count) refl
  where
    go : (t : Bool) → ltb i p.vertex_buffer_count ≡ t
        → cond t (given (get_or (take p.vertex_buffer_count p.vertex_buffers) i (record { desc = None })).desc) None
        ≡ cond t (given (get_or p.vertex_buffers i (record { desc = None })).desc) None
    go true e =
        ap (λ (x : VertexBufferLayout). given x.desc)
        (get_or-take p.vertex_buffer_count p.vertex_buffers i (record { desc = None }) (ltb-true i p.vertex_buffer_count e))
    go false e = refl

module _ (g : Page) (p : RenderPipeline) where
  abbrev here : Book
  here = opened (with_pipeline g (Some p))

  abbrev there : Book
  there = opened (with_pipeline g (Some (trimmed p)))

  fetch-trim : (w : ℕ) (a : AttributeDesc) → named_fetch there w a ≡ named_fetch here w a
  fetch-trim w a =
      ap
      (λ (d : Option VertexBufferDesc).
      Some (record { location = a.location; format = a.format_desc; slot = a.buffer_index; source = named_source w a.offset d (g.buffer a.buffer_index) }))
      (describes-trim p a.buffer_index)

  fetches-trim : (w : ℕ) → map (named_fetch there w) (attributes_in (trimmed p)) ≡ map (named_fetch here w) (attributes_in p)
  fetches-trim w =
      ap (map (named_fetch there w)) (take-take p.vertex_attribute_count p.vertex_attributes)
      ∙ each_map (named_fetch there w) (named_fetch here w) (attributes_in p) (each-always (λ (a : AttributeDesc). named_fetch there w a ≡ named_fetch here w a) (attributes_in p) (fetch-trim w))

  names-trim : (w : ℕ) (indexed : Bool) (c : Command) → names there w indexed c ≡ names here w indexed c
  names-trim w indexed c =
      λ j.
      record {
        command = c;
        program = Some p.inner.program;
        fetches = fetches-trim w j;
        buffers = g.bound.buffers;
        textures = g.bound.textures;
        images = g.bound.images;
        samplers = tabulate 16 (λ u. named_sampler g.bound.samplers (number_by (Some p) u));
        index = cond indexed g.index None;
        viewport = g.viewport;
        scissor = g.scissor;
        blend = g.blend;
        primitive = Some (primitive_state p.primitive);
        bias = p.depth_bias;
        alpha = p.alpha_to_coverage_enabled;
        targets = take-take p.color_target_count p.color_targets j;
        clip = λ i. ltb i p.inner.clip_distance_count;
        has_depth = Some (has_depth p.depth);
        has_stencil = Some (has_stencil p.stencil);
        depth = depth_named (Some p);
        stencil = stencil_named g.reference (Some p);
      }

  -- as many draws of an indirect call
  all-trim : (w : ℕ) (indexed : Bool) (n : ℕ) (c : ℕ → Command)
      → named (tabulate n (λ i. record { pipeline = Some (trimmed p); view = names there w indexed (c i) })) ≡ named (tabulate n (λ i. record { pipeline = Some p; view = names here w indexed (c i) }))
  unfolding tabulate
  all-trim w indexed zero c = refl
  all-trim w indexed (suc n) c = ap₂ (λ (v : View) (l : List View). v ∷ l) (names-trim w indexed (c 0)) (all-trim w indexed n (λ i. c (suc i)))

  enter-trim : (caps : PrivateCapabilities) (c : Call) → named (enter caps there c).draws ≡ named (enter caps here c).draws
  enter-trim caps begin_encoding = refl
  enter-trim caps end_encoding = refl
  enter-trim caps end_render_pass = refl
  enter-trim caps end_compute_pass = refl
  enter-trim caps (begin_render_pass d label set) = refl
  enter-trim caps (begin_compute_pass t label set) = refl
  enter-trim caps (transition_buffers l) = refl
  enter-trim caps (transition_textures l) = refl
  enter-trim caps (clear_buffer x range) = refl
  enter-trim caps (copy_buffer_to_buffer src dst l) = refl
  enter-trim caps (copy_query_results set start end dst offset) = refl
  enter-trim caps (begin_query set i) = refl
  enter-trim caps (end_query set i) = refl
  enter-trim caps (write_timestamp set i) = refl
  enter-trim caps (reset_queries set start end) = refl
  enter-trim caps (set_bind_group l i e x os) = refl
  enter-trim caps (set_immediates offset ws) = refl
  enter-trim caps (set_render_pipeline q) = refl
  enter-trim caps (set_compute_pipeline q) = refl
  enter-trim caps (set_index_buffer raw offset format) = refl
  enter-trim caps (set_vertex_buffer i raw offset) = refl
  enter-trim caps (set_viewport r d) = refl
  enter-trim caps (set_scissor_rect r) = refl
  enter-trim caps (set_stencil_reference v) = refl
  enter-trim caps (set_blend_constants x) = refl
  enter-trim caps (draw vertex vertices instance instances) =
      ap (λ (v : View). v ∷ []) (names-trim (working_of caps instance) false (Draw (topology_by (Some p)) vertex vertices instance instances (location_by (Some p))))
  enter-trim caps (draw_indexed fst count base instance instances) =
      ap (λ (v : View). v ∷ [])
      (names-trim (working_of caps instance) true
      (DrawIndexed (topology_by (Some p)) (type_of g.format) count (g.offset + size_of g.format * fst) base instance instances (location_by (Some p))))
  enter-trim caps (draw_indirect raw offset n) = all-trim 0 false n (λ i. DrawIndirect (topology_by (Some p)) raw (offset + i * 16) (location_by (Some p)))
  enter-trim caps (draw_indexed_indirect raw offset n) = all-trim 0 true n (λ i. DrawIndexedIndirect (topology_by (Some p)) (type_of g.format) raw (offset + i * 20) (location_by (Some p)))
  enter-trim caps (dispatch_workgroups x y z) = refl
  enter-trim caps (dispatch_workgroups_indirect raw offset) = refl

call-trim : (caps : PrivateCapabilities) (g : Page) (o : Option RenderPipeline) (c : Call)
    → named (enter caps (opened (with_pipeline g (trimmed_if o))) c).draws ≡ named (enter caps (opened (with_pipeline g o)) c).draws
call-trim caps g None c = refl
call-trim caps g (Some p) c = enter-trim g p caps c

named-append : (xs ys : List Entered) → named (xs ++ ys) ≡ named xs ++ named ys
named-append [] ys = refl
named-append (x ∷ xs) ys = ap (λ (l : List View). x.view ∷ l) (named-append xs ys)

pub draws-trim : (caps : PrivateCapabilities) (ms : List DrawCall) → named (draws_of caps (map trimmed_call ms)) ≡ named (draws_of caps ms)
unfolding draws_of
draws-trim caps [] = refl
draws-trim caps (m ∷ ms) =
    named-append (enter caps (opened (trimmed_page m.page)) m.call).draws (draws_of caps (map trimmed_call ms))
    ∙ ap₂ (λ (a b : List View). a ++ b) (call-trim caps m.page m.page.pipeline m.call) (draws-trim caps ms)
    ∙ sym (named-append (enter caps (opened m.page) m.call).draws (draws_of caps ms))
