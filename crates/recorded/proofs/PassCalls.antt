-- What the calls that begin and end passes record. Assumes nothing.
use Prim.Native.Nat.{ℕ, suc, ◌+◌, ◌^◌, ◌<◌, ◌≤◌}
use mathlib.Core.Path.{◌≡◌, refl, ap}
use mathlib.Core.Bool.{Bool, true, false, cond, ◌&&◌}
use mathlib.Core.List.{List, [], ◌∷◌, ◌++◌, map}
use native.Mathlib.Omega.{arith}
use lib.Dec.{ltb, leb, eqb}
use lib.ListN.{length, take, length-take}
use lib.Seq.{length-take-le}
use borrow.Author.Tests.{ltb-false, le-ltb, leb-false, lt-leb}
use Rattle.names.specs.Gl.{GL_COLOR_ATTACHMENT0, GL_DEPTH_ATTACHMENT, GL_STENCIL_ATTACHMENT, GL_DEPTH_STENCIL_ATTACHMENT}
use Rattle.records.specs.Check.{bad_attribute, bad_resolve}
use Rattle.records.specs.declared.command.AttributeDesc.{AttributeDesc}
use Rattle.records.specs.declared.command.Command.TheVariants.{BindAttachment, InvalidateAttachments, SetDrawColorBuffers, PushDebugGroup}
use Rattle.std.specs.Prelude.{Option, None, Some}
use Rattle.records.specs.declared.pass.TimestampWrites.{TimestampWrites}
use Rattle.records.specs.declared.command.SampleKind.{SampleKind}
use Rattle.records.specs.declared.command.SampleKind.TheVariants as kind
use Rattle.records.specs.declared.pass.ColorAttachment.{ColorAttachment}
use Rattle.records.specs.declared.pass.ColorPlace.{ColorPlace}
use Rattle.records.specs.declared.pass.DepthStencilAttachment.{DepthStencilAttachment}
use Rattle.records.specs.declared.pass.RenderPassDescriptor.{RenderPassDescriptor}
use Rattle.records.specs.declared.pipeline.PrivateCapabilities.{PrivateCapabilities}
use Rattle.records.specs.declared.state.PassState.{PassState}
use Rattle.records.specs.declared.state.ResolveDesc.{ResolveDesc}
use Rattle.pipeline.specs.Vertex.{unset_attribute}
use Rattle.pass.specs.Marks.{Lent, Label, counted, over_run, query_at, timestamp, begin_timestamp, label_bytes, push_label, pop_label}
use Rattle.pass.specs.Render.{places_of, default_first, to_external, resolves_in_place, view_or, attach_place, attach_colors, depth_point, attach_depth, attachments, clears, clear_color, clear_place}
use Rattle.pass.specs.Render.{clear_colors, clear_both, clear_depth, begin_render_commands, resolve_command, invalidate_command, end_render_commands}
use Rattle.machine.specs.Each.{Each}
use Rattle.machine.proofs.Lists.{or_left}
use Rattle.lists.specs.declared.limits.Used.{Used}
use Rattle.lists.specs.Limits.{too_many, out_of_range, beyond_run, bad_attachment}
use Rattle.recorded.proofs.Good.{Good, plain, plain-either, Plain, joined, chosen}
use Rattle.recorded.proofs.Shapes.{neither, each-mapped}

-- as many as are counted of a lent run
pub counted-long : (l : Lent) → over_run l ≡ false → length (counted l) ≡ l.count
counted-long l e = length-take-le l.count l.run (ltb-false (length l.run) l.count e)

-- ---- attachment points
low-point : (i : ℕ) → i < 8 → bad_attachment (GL_COLOR_ATTACHMENT0 + i) ≡ false
low-point i h = ap (λ (t : Bool). t && ltb (GL_COLOR_ATTACHMENT0 + i) (GL_COLOR_ATTACHMENT0 + 32)) (lt-leb (GL_COLOR_ATTACHMENT0 + 8) (GL_COLOR_ATTACHMENT0 + i) (omega arith))

depth-point : (aspects : ℕ) → bad_attachment (depth_point aspects) ≡ false
depth-point aspects = go (eqb aspects 2) (eqb aspects 4)
  where
    go : (s t : Bool) → bad_attachment (cond s GL_DEPTH_ATTACHMENT (cond t GL_STENCIL_ATTACHMENT GL_DEPTH_STENCIL_ATTACHMENT)) ≡ false
    go true t = refl
    go false true = refl
    go false false = refl

module _ (w : Type 0) (u : Used) where
  -- ---- timestamps and labels
  of-timestamp : (o : Option ℕ) → Plain w u (timestamp o)
  of-timestamp None = tt
  of-timestamp (Some q) = (plain refl refl, tt)

  of-begin : (set : Lent) (t : Option TimestampWrites) → Plain w u (begin_timestamp set t)
  of-begin set None = tt
  of-begin set (Some t) = of-timestamp (query_at set t.beginning_of_pass_write_index)

  of-pop : (t : Bool) → Plain w u (pop_label t)
  of-pop true = (plain refl refl, tt)
  of-pop false = tt

  of-push : (l : Label) (at : ℕ) → over_run l.bytes ≡ false → u.bytes ≡ at + length (label_bytes l) → Plain w u (push_label l at)
  of-push l at o e = go l.present e
    where
      go : (t : Bool) → u.bytes ≡ at + length (cond t (counted l.bytes) []) → Plain w u (cond t (PushDebugGroup (record { start = at; end = at + l.bytes.count }) ∷ []) [])
      go true q =
          let n = counted-long l.bytes o in
          let a : at ≤ at + l.bytes.count = omega arith in
          let b : at + l.bytes.count ≤ u.bytes = omega (arith, n, q) in
          (plain (ap beyond_run (neither (le-ltb (at + l.bytes.count) at a) (le-ltb u.bytes (at + l.bytes.count) b))) refl, tt)
      go false q = tt

  -- ---- the beginning of a render pass
  of-place : (caps : PrivateCapabilities) (n i : ℕ) (o : Option ColorAttachment) → i < 8 → Plain w u (attach_place caps n i o)
  of-place caps n i None h = tt
  of-place caps n i (Some a) h = (
    plain-either (resolves_in_place caps i a.ops a.resolve_target) (BindAttachment (GL_COLOR_ATTACHMENT0 + i) (view_or a.view a.resolve_target) None n)
        (BindAttachment (GL_COLOR_ATTACHMENT0 + i) a.view a.depth_slice 1) (plain (ap out_of_range (low-point i h)) refl) (plain (ap out_of_range (low-point i h)) refl),
    tt,
  )

  of_places : (caps : PrivateCapabilities) (n i : ℕ) (ps : List ColorPlace) → i + length ps ≤ 8 → Plain w u (attach_colors caps n i ps)
  unfolding attach_colors
  of_places caps n i [] h = tt
  of_places caps n i (p ∷ ps) h =
      joined w u (attach_place caps n i p.attachment) (attach_colors caps n (suc i) ps) (of-place caps n i p.attachment (omega arith)) (of_places caps n (suc i) ps (omega arith))

  of-depth : (o : Option DepthStencilAttachment) → Plain w u (attach_depth o)
  of-depth None = tt
  of-depth (Some d) = (plain (ap out_of_range (depth-point d.view.aspects)) refl, tt)

  of-clear : (n : ℕ) (a : ColorAttachment) (k : SampleKind) → n < 8 → Plain w u (clear_color n a k)
  of-clear n a kind.Float h = (plain (ap out_of_range (lt-leb 8 n h)) refl, tt)
  of-clear n a kind.Uint h = (plain (ap out_of_range (lt-leb 8 n h)) refl, tt)
  of-clear n a kind.Sint h = (plain (ap out_of_range (lt-leb 8 n h)) refl, tt)
  of-clear n a kind.Depth h = tt

  of-cleared : (n : ℕ) (o : Option ColorAttachment) → n < 8 → Plain w u (clear_place n o)
  of-cleared n None h = tt
  of-cleared n (Some a) h = chosen w u (clears a.ops) (clear_color n a a.view.kind) [] (of-clear n a a.view.kind h) tt

  of-clears : (i : ℕ) (ps : List ColorPlace) → i + length ps ≤ 8 → Plain w u (clear_colors i ps)
  unfolding clear_colors
  of-clears i [] h = tt
  of-clears i (p ∷ ps) h = joined w u (clear_place i p.attachment) (clear_colors (suc i) ps) (of-cleared i p.attachment (omega arith)) (of-clears (suc i) ps (omega arith))

  of-both : (s t : Bool) (d : DepthStencilAttachment) → Plain w u (clear_both s t d)
  of-both true true d = (plain refl refl, tt)
  of-both true false d = (plain refl refl, tt)
  of-both false true d = (plain refl refl, tt)
  of-both false false d = tt

  of-depth-clear : (o : Option DepthStencilAttachment) → Plain w u (clear_depth o)
  of-depth-clear None = tt
  of-depth-clear (Some d) = of-both (clears d.depth_ops) (clears d.stencil_ops) d

  pub begins-render : (caps : PrivateCapabilities) (d : RenderPassDescriptor) (label : Label) (set : Lent) (at : ℕ) → ltb 8 d.color_attachment_count ≡ false
      → over_run label.bytes ≡ false → u.bytes ≡ at + length (label_bytes label) → Plain w u (begin_render_commands caps d label set at)
  unfolding begin_render_commands
  begins-render caps d label set at few o e =
      joined w u (begin_timestamp set d.timestamp_writes) _ (of-begin set d.timestamp_writes)
      (joined w u (push_label label at) _ (of-push label at o e) (
        plain refl refl,
        joined w u (cond (default_first (places_of d)) [] (attachments caps d)) _ (chosen w u (default_first (places_of d)) [] (attachments caps d) tt attached) (
          plain refl refl,
          (
            plain refl refl,
            joined w u (cond (to_external (places_of d)) [] (SetDrawColorBuffers d.color_attachment_count ∷ [])) _
                (chosen w u (to_external (places_of d)) [] (SetDrawColorBuffers d.color_attachment_count ∷ []) tt (plain (ap too_many few) refl, tt))
                (joined w u (clear_colors 0 (places_of d)) (clear_depth d.depth_stencil_attachment) (of-clears 0 (places_of d) eight) (of-depth-clear d.depth_stencil_attachment)),
          ),
        ),
      ))
    where
      eight : 0 + length (places_of d) ≤ 8
      eight = omega (arith, ltb-false 8 d.color_attachment_count few, length-take d.color_attachment_count d.color_attachments)

      attached : Plain w u (attachments caps d)
      attached =
          joined w u (attach_colors caps d.sample_count 0 (places_of d)) (attach_depth d.depth_stencil_attachment) (of_places caps d.sample_count 0 (places_of d) eight)
          (of-depth d.depth_stencil_attachment)

  -- ---- the end of a render pass
  pub unsets : (l : List AttributeDesc) → Each (λ (a : AttributeDesc). bad_attribute a ≡ false) l → Plain w u (map unset_attribute l)
  unsets l h =
      each-mapped (λ (a : AttributeDesc). bad_attribute a ≡ false) (Good w u false) unset_attribute l
      (λ a e. plain (ap out_of_range (or_left (leb 16 a.location) (leb 16 a.buffer_index) e)) refl) h

  pub ends-render : (s : PassState) (l : List AttributeDesc) → Each (λ (r : ResolveDesc). bad_resolve r ≡ false) (take s.resolve_count s.resolves)
      → leb (2 ^ 10) s.invalidate_attachments ≡ false → Each (λ (a : AttributeDesc). bad_attribute a ≡ false) l → Plain w u (end_render_commands s (map unset_attribute l))
  ends-render s l r i a =
      joined w u (map (resolve_command s.render_size) (take s.resolve_count s.resolves)) _
      (each-mapped (λ (x : ResolveDesc). bad_resolve x ≡ false) (Good w u false) (resolve_command s.render_size) (take s.resolve_count s.resolves)
      (λ x e. plain (ap out_of_range (low-point x.place (leb-false 8 x.place e))) refl) r)
      (joined w u (invalidate_command s.invalidate_attachments) _
      (chosen w u (eqb s.invalidate_attachments 0) [] (InvalidateAttachments s.invalidate_attachments ∷ []) tt (plain (ap out_of_range i) refl, tt))
      (joined w u (pop_label s.has_pass_label) _ (of-pop s.has_pass_label)
      (joined w u (map unset_attribute l) (timestamp s.end_of_pass_timestamp) (unsets l a) (of-timestamp s.end_of_pass_timestamp))))

  -- ---- compute passes
  pub begins-compute : (t : Option TimestampWrites) (label : Label) (set : Lent) (at : ℕ) → over_run label.bytes ≡ false → u.bytes ≡ at + length (label_bytes label)
      → Plain w u (begin_timestamp set t ++ push_label label at)
  begins-compute t label set at o e = joined w u (begin_timestamp set t) (push_label label at) (of-begin set t) (of-push label at o e)

  pub ends-compute : (t : Bool) (o : Option ℕ) → Plain w u (pop_label t ++ timestamp o)
  ends-compute t o = joined w u (pop_label t) (timestamp o) (of-pop t) (of-timestamp o)
