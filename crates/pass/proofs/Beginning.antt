-- What the beginning of a render pass records, as an opening and the rest, and how many commands it has. Assumes nothing.
use Prim.Native.Nat.{ℕ, ◌+◌}
use mathlib.Core.Path.{◌≡◌, refl, sym, ap, ◌∙◌}
use mathlib.Core.Bool.{Bool, true, false, cond, not}
use mathlib.Core.List.{List, [], ◌∷◌, ◌++◌, append_assoc}
use native.Mathlib.Omega.{arith}
use lib.ListN.{length, length-append}
use Rattle.mask.specs.Mask.{digit_of}
use Rattle.records.specs.declared.command.Command.{Command}
use Rattle.std.specs.Prelude.{Option, None, Some}
use Rattle.records.specs.declared.pass.TimestampWrites.{TimestampWrites}
use Rattle.records.specs.declared.pass.RenderPassDescriptor.{RenderPassDescriptor}
use Rattle.records.specs.declared.pipeline.PrivateCapabilities.{PrivateCapabilities}
use Rattle.pass.specs.Marks.{Lent, timestamp, begin_timestamp, push_label}
use Rattle.pass.specs.Render.{begin_render_commands}
use Rattle.pass.specs.Plan.{begin_query_meaning, opening_count, all_clears, draw_buffers, attached, settings, framing, begin_plan}

stamp-same : (set : Lent) (t : Option TimestampWrites) → begin_timestamp set t ≡ timestamp (begin_query_meaning set t)
stamp-same set None = refl
stamp-same set (Some t) = refl

pub push-one : (b : Bool) (bytes : Lent) (at : ℕ) → length (push_label (record { present = b; bytes = bytes }) at) ≡ digit_of b
push-one true bytes at = refl
push-one false bytes at = refl

pub one_not : (b : Bool) (x : Command) → digit_of (not b) ≡ length (cond b [] (x ∷ []))
one_not true x = refl
one_not false x = refl

module _ (caps : PrivateCapabilities) (d : RenderPassDescriptor) (label : Bool) (set bytes : Lent) (at : ℕ) where
  abbrev pub opening : List Command
  opening = timestamp (begin_query_meaning set d.timestamp_writes) ++ push_label (record { present = label; bytes = bytes }) at

  pub begin-is : begin_render_commands caps d (record { present = label; bytes = bytes }) set at ≡ opening ++ framing caps d
  unfolding begin_render_commands
  begin-is =
      rw (stamp-same set d.timestamp_writes)
      (sym (append_assoc (timestamp (begin_query_meaning set d.timestamp_writes)) (push_label (record { present = label; bytes = bytes }) at) (framing caps d)))

  pub opening-long : length opening ≡ opening_count d label set
  opening-long =
      length-append (timestamp (begin_query_meaning set d.timestamp_writes)) (push_label (record { present = label; bytes = bytes }) at)
      ∙ ap (λ (n : ℕ). length (timestamp (begin_query_meaning set d.timestamp_writes)) + n) (push-one label bytes at)

  pub begin-long : (begin_plan caps d label set).count ≡ length (begin_render_commands caps d (record { present = label; bytes = bytes }) set at)
  begin-long =
      let o = opening-long in
      let a : length (opening ++ framing caps d) ≡ length opening + length (framing caps d) = length-append opening (framing caps d) in
      let b : length (attached caps d ++ settings d) ≡ length (attached caps d) + length (settings d) = length-append (attached caps d) (settings d) in
      let e : length (draw_buffers d ++ all_clears d) ≡ length (draw_buffers d) + length (all_clears d) = length-append (draw_buffers d) (all_clears d) in
      rw begin-is (omega (arith, o, a, b, e))
