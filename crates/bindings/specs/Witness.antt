-- Bind groups worked out, by computation. Assumes nothing.
use Rattle.std.specs.Prelude.{ℕ, ◌≡◌, refl, true, false, [], ◌∷◌, pos, replicate, None, Some}
use Rattle.tables.specs.Tabulate.{tabulate}
use Rattle.mask.specs.Mask.{test_bit, bit_at, set_bit, mask_of, places_from}
use Rattle.mask.specs.By.{mask_by}
use Rattle.records.specs.Check.{some?}
use Rattle.records.specs.Start.{start_texture_slot, start_range}
use Rattle.records.specs.declared.binding.BindingType.{BindingType}
use Rattle.records.specs.declared.binding.BindingType.TheVariants as type
use Rattle.records.specs.declared.binding.BufferBindingType.TheVariants.{Uniform}
use Rattle.records.specs.declared.binding.RawBinding.{RawBinding}
use Rattle.records.specs.declared.binding.RawBinding.TheVariants as content
use Rattle.records.specs.declared.command.Command.TheVariants.{BindBuffer, BindSampler, BindTexture}
use Rattle.records.specs.declared.state.BindState.{BindState}
use Rattle.bindings.specs.Group.{Entry, group_commands, group_state, textures_named, samplers_named, bind_group_commands}
use Rattle.bindings.specs.Units.{sampler_commands}

-- units 1 and 3 take sampler 2, which is not set
abbrev taking : BindState
taking =
    record {
      samplers = replicate 16 0;
      sampler_set = 0;
      texture_slots = start_texture_slot ∷ record { tex_target = 0; sampler_index = 2 } ∷ start_texture_slot ∷ record { tex_target = 0; sampler_index = 2 } ∷ replicate 12 start_texture_slot;
      sampled = 10;
    }

abbrev entry : ℕ → BindingType → ℕ → RawBinding → Entry
entry binding ty slot raw = record { layout = record { binding = binding; ty = ty; slot = slot }; raw = raw }

-- a sampler under number 2 goes to both units
sampler-bound : bind_group_commands (entry 0 type.Sampler 2 (content.Sampler 33) ∷ []) [] taking ≡ BindSampler 1 (Some 33) ∷ BindSampler 3 (Some 33) ∷ []
unfolding group_commands group_state textures_named samplers_named some? sampler_commands mask_by tabulate mask_of places_from test_bit set_bit bit_at
sampler-bound = refl

-- a texture's unit gets its sampler, none here, after all other binds
texture-bound : bind_group_commands (entry 0 type.Texture 0 (content.Texture 11 3553 1 start_range) ∷ entry 1 (type.Buffer Uniform true) 4 (content.Buffer 5 (pos 256) (pos 64)) ∷ []) (64 ∷ []) taking
    ≡ BindTexture 0 11 3553 1 start_range ∷ BindBuffer 35345 4 5 (pos 320) (pos 64) ∷ BindSampler 0 None ∷ []
unfolding group_commands group_state textures_named samplers_named some? sampler_commands mask_by tabulate mask_of places_from test_bit set_bit bit_at
texture-bound = refl

-- the first buffer takes no dynamic offset, the second the first one
offsets-in-order : group_commands (entry 0 (type.Buffer Uniform false) 0 (content.Buffer 5 (pos 0) (pos 64)) ∷ entry 1 (type.Buffer Uniform true) 1 (content.Buffer 6 (pos 0) (pos 64)) ∷ entry 2 (type.Buffer Uniform true) 2 (content.Buffer 7 (pos 0) (pos 64)) ∷ []) (16 ∷ 32 ∷ [])
    ≡ BindBuffer 35345 0 5 (pos 0) (pos 64) ∷ BindBuffer 35345 1 6 (pos 16) (pos 64) ∷ BindBuffer 35345 2 7 (pos 32) (pos 64) ∷ []
unfolding group_commands
offsets-in-order = refl
