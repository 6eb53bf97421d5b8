-- What an accepted call tells of the state that it was handed, and of its own arguments, besides order/proofs/Accepted.antt. Assumes nothing.
use Prim.Native.Nat.{◌<◌, ◌^◌}
use mathlib.Core.Path.{◌≡◌}
use mathlib.Core.Bool.{true, false, ◌||◌}
use lib.Dec.{leb}
use borrow.Author.Tests.{leb-false}
use Rattle.records.specs.Outcome.{accepted, either}
use Rattle.records.specs.Check.{some?, bad_mask, too_many, bad_attribute, bad_descriptor, bad_resolve, bad_units, attributes_of, descriptors_of, resolves_of, bad_masks, out_of_range, over_room, state_conditions}
use Rattle.records.specs.declared.command.AttributeDesc.{AttributeDesc}
use Rattle.records.specs.declared.check.Rooms.{Rooms}
use Rattle.records.specs.declared.state.ResolveDesc.{ResolveDesc}
use Rattle.records.specs.declared.state.State.{State}
use Rattle.calls.specs.Meaning.{Meaning}
use Rattle.calls.specs.Step.{progress_after, call_conditions, outcome_of}
use Rattle.machine.specs.Each.{Each}
use Rattle.machine.proofs.Lists.{or_left, or_right, each-not}
use Rattle.order.proofs.Accepted.{Passes, passes}

module _ (rooms : Rooms) (s : State) (m : Meaning) (e : accepted (outcome_of rooms s m) ≡ true) where
  all : Passes (either (state_conditions s (m.handed rooms)) (call_conditions rooms s m))
  unfolding outcome_of
  all = passes (either (state_conditions s (m.handed rooms)) (call_conditions rooms s m)) e

  -- of the call
  pub few : m.asks.many ≡ false
  few = or_right (too_many s) m.asks.many all.many

  pub lent : m.asks.room ≡ false
  lent =
      or_left m.asks.room (over_room (progress_after m) (m.handed rooms))
      (or_right (over_room s.progress (m.handed rooms)) (m.asks.room || over_room (progress_after m) (m.handed rooms)) all.room)

  -- of the state
  ranged : out_of_range s ≡ false
  ranged = or_left (out_of_range s) m.asks.range all.range

  unattributed : bad_units s.bind.sampled 0 s.bind.texture_slots || (some? bad_descriptor (descriptors_of s) || (some? bad_resolve (resolves_of s) || bad_masks s)) ≡ false
  unattributed = or_right (some? bad_attribute (attributes_of s)) _ ranged

  pub good-attributes : Each (λ (a : AttributeDesc). bad_attribute a ≡ false) (attributes_of s)
  good-attributes = each-not bad_attribute (attributes_of s) (or_left (some? bad_attribute (attributes_of s)) _ ranged)

  rest : some? bad_descriptor (descriptors_of s) || (some? bad_resolve (resolves_of s) || bad_masks s) ≡ false
  rest = or_right (bad_units s.bind.sampled 0 s.bind.texture_slots) _ unattributed

  pub good-descriptors : some? bad_descriptor (descriptors_of s) ≡ false
  good-descriptors = or_left (some? bad_descriptor (descriptors_of s)) _ rest

  pub good-resolves : Each (λ (r : ResolveDesc). bad_resolve r ≡ false) (resolves_of s)
  good-resolves = each-not bad_resolve (resolves_of s) (or_left (some? bad_resolve (resolves_of s)) (bad_masks s) (or_right (some? bad_descriptor (descriptors_of s)) _ rest))

  masks : bad_masks s ≡ false
  masks = or_right (some? bad_resolve (resolves_of s)) (bad_masks s) (or_right (some? bad_descriptor (descriptors_of s)) _ rest)

  pub bound-below : s.vertex.bound < 2 ^ 16
  bound-below = leb-false (2 ^ 16) s.vertex.bound (or_left (bad_mask s.vertex.bound) _ (or_right (bad_mask s.vertex.described) _ masks))

  pub ten-bits : leb (2 ^ 10) s.pass.invalidate_attachments ≡ false
  ten-bits =
      let a = or_right (bad_mask s.vertex.described) _ masks in
      let b = or_right (bad_mask s.vertex.bound) _ a in
      let c = or_right (bad_mask s.vertex.by_instance) _ b in
      let d = or_right (bad_mask s.vertex.instance_vbuf_mask) _ c in
      let f = or_right (bad_mask s.vertex.dirty_vbuf_mask) _ d in
      let g = or_right (bad_mask s.bind.sampler_set) _ f in
      or_right (bad_mask s.bind.sampled) (leb (2 ^ 10) s.pass.invalidate_attachments) g
