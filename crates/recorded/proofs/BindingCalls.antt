-- What the calls that bind groups and set immediates record, and that the words of immediates stay 64. Assumes nothing.
use Prim.Native.Nat.{ℕ, ◌+◌, ◌/◌, ◌%◌, ◌≤◌}
use mathlib.Core.Path.{◌≡◌, refl, ap}
use mathlib.Core.Bool.{false, not, ◌||◌}
use mathlib.Core.List.{List, [], ◌∷◌, ◌++◌}
use native.Mathlib.Omega.{arith}
use lib.Dec.{ltb, leb, eqb}
use lib.ListN.{length, take, drop, length-append, length-take, length-drop}
use borrow.Author.Tests.{ltb-false, le-ltb}
use Rattle.mask.specs.Mask.{test_bit}
use Rattle.mask.specs.By.{by-lt}
use Rattle.records.specs.Check.{some?, bad_descriptor}
use Rattle.records.specs.declared.binding.BindGroupLayoutEntry.{BindGroupLayoutEntry}
use Rattle.records.specs.declared.binding.RawBinding.{RawBinding}
use Rattle.records.specs.declared.binding.RawBinding.TheVariants as content
use Rattle.records.specs.declared.command.ImmediateDesc.{ImmediateDesc}
use Rattle.records.specs.declared.state.BindState.{BindState}
use Rattle.bindings.specs.Units.{number_at, takes_one, dirty_units, sampler_commands}
use Rattle.bindings.specs.Group.{Entry, entry_commands, offsets_after, group_commands, group_state, textures_named, samplers_named, bind_group_commands, content_out_of_range, entry_out_of_range}
use Rattle.bindings.specs.Immediates.{overwritten, immediate_commands, immediates_out_of_range}
use Rattle.bindings.specs.Placed.{size_of}
use Rattle.pass.specs.Marks.{Lent, counted}
use Rattle.machine.specs.Each.{Each}
use Rattle.machine.proofs.Lists.{or_left, or_right, each-not}
use Rattle.lists.specs.declared.limits.Used.{Used}
use Rattle.lists.specs.Limits.{keeps, out_of_range, immediate_breaks}
use Rattle.recorded.proofs.Good.{plain, calm-if, Plain, joined}
use Rattle.recorded.proofs.PipelineCalls.{samplers}

-- a call that writes within the 64 words leaves as many
pub words-written : (old : List ℕ) (offset : ℕ) (ws : Lent) → immediates_out_of_range offset ws.count ≡ false → length old ≡ 64 → length (overwritten old (offset / 4) (counted ws)) ≡ 64
words-written old offset ws e n =
    let h : offset / 4 + ws.count ≤ 64 = ltb-false 64 (offset / 4 + ws.count) (or_right (not (eqb (offset % 4) 0)) (ltb 64 (offset / 4 + ws.count)) e) in
    omega (
      arith,
      h,
      n,
      length-append (take (offset / 4) old) (counted ws ++ drop (offset / 4 + length (counted ws)) old),
      length-append (counted ws) (drop (offset / 4 + length (counted ws)) old),
      length-take (offset / 4) old,
      length-take ws.count ws.run,
      length-drop (offset / 4 + length (counted ws)) old,
    )

module _ (w : Type 0) (u : Used) where
  -- ---- bind groups
  of_entry : (e : BindGroupLayoutEntry) (r : RawBinding) (os : List ℕ) → leb 256 e.slot ≡ false → content_out_of_range e.slot r ≡ false → Plain w u (entry_commands e r os)
  of_entry e (content.Buffer raw offset size) os h k = (plain (ap out_of_range h) refl, tt)
  of_entry e (content.Texture raw target aspects mips) os h k = (plain (ap out_of_range k) refl, tt)
  of_entry e (content.Image binding) os h k = (plain (ap out_of_range h) refl, tt)
  of_entry e (content.Sampler n) os h k = tt

  of-entries : (xs : List Entry) (os : List ℕ) → Each (λ (x : Entry). entry_out_of_range x ≡ false) xs → Plain w u (group_commands xs os)
  unfolding group_commands
  of-entries [] os h = tt
  of-entries (x ∷ xs) os h =
      let a = or_right (leb 1000 x.layout.binding) (leb 256 x.layout.slot || content_out_of_range x.layout.slot x.raw) h.0 in
      joined w u (entry_commands x.layout x.raw os) (group_commands xs (offsets_after x.layout x.raw os))
      (of_entry x.layout x.raw os (or_left (leb 256 x.layout.slot) (content_out_of_range x.layout.slot x.raw) a)
      (or_right (leb 256 x.layout.slot) (content_out_of_range x.layout.slot x.raw) a))
      (of-entries xs (offsets_after x.layout x.raw os) h.1)

  pub binds-group : (xs : List Entry) (os : List ℕ) (b : BindState) → some? entry_out_of_range xs ≡ false → Plain w u (bind_group_commands xs os b)
  binds-group xs os b e =
      joined w u (group_commands xs os) (sampler_commands (group_state xs b) (dirty_units (group_state xs b) (textures_named xs) (samplers_named xs)))
      (of-entries xs os (each-not entry_out_of_range xs e))
      (samplers w u (group_state xs b) (dirty_units (group_state xs b) (textures_named xs) (samplers_named xs))
      (by-lt 16 (λ i. test_bit (textures_named xs) i || takes_one (samplers_named xs) (number_at (group_state xs b) i))))

  -- ---- immediates: the bytes of each end where the next ones begin
  pub sets-immediates : (ds : List ImmediateDesc) (at : ℕ) → some? bad_descriptor ds ≡ false → (w → at + size_of ds ≤ u.bytes) → Plain w u (immediate_commands ds at)
  unfolding some? immediate_commands size_of
  sets-immediates [] at e h = tt
  sets-immediates (d ∷ ds) at e h = (
    calm-if (λ x. one x) refl,
    sets-immediates ds (at + d.size_bytes) (or_right (bad_descriptor d) (some? bad_descriptor ds) e) (λ x. rest x),
  )
    where
      rest : w → at + d.size_bytes + size_of ds ≤ u.bytes
      rest x = omega (arith, h x)

      one : w → immediate_breaks u d at ≡ keeps
      one x =
          let p = or_left (bad_descriptor d) (some? bad_descriptor ds) e in
          let q = le-ltb u.bytes (at + d.size_bytes) (omega (arith, h x)) in
          λ j. record { many = false; range = p j; room = q j }
