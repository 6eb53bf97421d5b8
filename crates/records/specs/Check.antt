-- The check of a handed-in state: document 01, 'Turned away',
-- "A handed-in state that breaks a limit above is turned away by that limit's number, a count above its lent run by 7".
-- What lies past a count is not looked at. Definitions only.
use Rattle.std.specs.Prelude.{ℕ, suc, ◌+◌, ◌%◌, ◌^◌, Bool, false, not, ◌&&◌, ◌||◌, List, [], ◌∷◌, map, ltb, leb, eqb, take}
use Rattle.mask.specs.Mask.{test_bit}
use Rattle.records.specs.declared.command.AttributeDesc.{AttributeDesc}
use Rattle.records.specs.declared.command.ImmediateDesc.{ImmediateDesc}
use Rattle.records.specs.declared.outcome.Conditions.{Conditions}
use Rattle.records.specs.declared.state.Progress.{Progress}
use Rattle.records.specs.declared.state.ResolveDesc.{ResolveDesc}
use Rattle.records.specs.declared.state.TextureSlotDesc.{TextureSlotDesc}
use Rattle.records.specs.declared.state.State.{State}
use Rattle.records.specs.declared.check.Broken.{Broken}
use Rattle.records.specs.declared.check.Rooms.{Rooms}

-- some element of the list has the property
unfoldable pub some? : {A : Type 0} → (A → Bool) → List A → Bool
some? f [] = false
some? f (x ∷ xs) = f x || some? f xs

-- a slot mask has no place from 16 on
abbrev pub bad_mask : ℕ → Bool
bad_mask m = leb (2 ^ 16) m

-- 2: more attributes, targets, resolves or descriptors than the limits
abbrev pub too_many : State → Bool
too_many s =
    ltb 16 s.vertex.attribute_count || (ltb 8 s.fixed.color_target_count || (ltb 8 s.pass.resolve_count || ltb 192 s.immediates.count))

-- 3, of an attribute: a location or a slot of 16 or more
abbrev pub bad_attribute : AttributeDesc → Bool
bad_attribute a = leb 16 a.location || leb 16 a.buffer_index

-- 3, of an immediate descriptor: an offset or a size that is no multiple of 4, or an end beyond byte 256
abbrev pub bad_descriptor : ImmediateDesc → Bool
bad_descriptor d = not (eqb (d.offset % 4) 0) || (not (eqb (d.size_bytes % 4) 0) || ltb 256 (d.offset + d.size_bytes))

-- 3, of a resolve: a place of 8 or more
abbrev pub bad_resolve : ResolveDesc → Bool
bad_resolve r = leb 8 r.place

-- 3, of the units that take a sampler: a sampler number of 16 or more. The units are counted from i
unfoldable pub bad_units : ℕ → ℕ → List TextureSlotDesc → Bool
bad_units sampled i [] = false
bad_units sampled i (t ∷ ts) = (test_bit sampled i && leb 16 t.sampler_index) || bad_units sampled (suc i) ts

-- the attributes, descriptors and resolves that are counted
abbrev pub attributes_of : State → List AttributeDesc
attributes_of s = take s.vertex.attribute_count s.vertex.attributes

abbrev pub descriptors_of : State → List ImmediateDesc
descriptors_of s = take s.immediates.count s.immediates.descs

abbrev pub resolves_of : State → List ResolveDesc
resolves_of s = take s.pass.resolve_count s.pass.resolves

-- 3, of the masks of sixteen places and of the invalidation set, which has ten
abbrev pub bad_masks : State → Bool
bad_masks s =
    bad_mask s.vertex.described
    || (bad_mask s.vertex.bound
    || (bad_mask s.vertex.by_instance
    || (bad_mask s.vertex.instance_vbuf_mask
    || (bad_mask s.vertex.dirty_vbuf_mask
    || (bad_mask s.bind.sampler_set
    || (bad_mask s.bind.sampled
    || leb (2 ^ 10) s.pass.invalidate_attachments))))))

-- 3: a location, a slot, a sampler number, a word, a place or a mask out of range
abbrev pub out_of_range : State → Bool
out_of_range s =
    some? bad_attribute (attributes_of s)
    || (bad_units s.bind.sampled 0 s.bind.texture_slots
    || (some? bad_descriptor (descriptors_of s)
    || (some? bad_resolve (resolves_of s)
    || bad_masks s)))

-- the number stands in the list
unfoldable pub among : ℕ → List ℕ → Bool
among x [] = false
among x (y ∷ ys) = eqb x y || among x ys

-- 5: a number stands twice
unfoldable pub twice : List ℕ → Bool
twice [] = false
twice (x ∷ xs) = among x xs || twice xs

abbrev pub locations : List AttributeDesc → List ℕ
locations l = map (λ (a : AttributeDesc). a.location) l

-- 7: more commands, bytes or queries than the limits, or than the run that the call is handed
abbrev pub over_room : Progress → Rooms → Bool
over_room p r =
    ltb 4096 p.commands || (ltb 65536 p.bytes || (ltb 1024 p.queries
    || (ltb r.commands p.commands || (ltb r.bytes p.bytes || ltb r.queries p.queries))))

-- the limits that a state breaks, whatever the runs: 2, 3 and 5
abbrev pub broken_limits : State → Broken
broken_limits s = record { many = too_many s; range = out_of_range s; kind = twice (locations (attributes_of s)) }

abbrev pub state_conditions : State → Rooms → Conditions
state_conditions s r =
    record {
      phase = false;
      many = (broken_limits s).many;
      range = (broken_limits s).range;
      absent = false;
      kind = (broken_limits s).kind;
      sum = false;
      room = over_room s.progress r;
    }
