-- Samplers by number, and the texture units that take them: `rebind_sampler_states` of gles/command.rs. Definitions only.
use Rattle.std.specs.Prelude.{ℕ, Bool, false, cond, ◌||◌, List, map, get_or, Option, None, Some}
use Rattle.mask.specs.Mask.{test_bit, places}
use Rattle.mask.specs.By.{mask_by}
use Rattle.records.specs.Start.{start_texture_slot}
use Rattle.records.specs.declared.command.Command.{Command}
use Rattle.records.specs.declared.command.Command.TheVariants.{BindSampler}
use Rattle.records.specs.declared.state.TextureSlotDesc.{TextureSlotDesc}
use Rattle.records.specs.declared.state.BindState.{BindState}

abbrev pub unit_at : BindState → ℕ → TextureSlotDesc
unit_at b u = get_or b.texture_slots u start_texture_slot

-- the sampler that is set under number k, or none
abbrev pub sampler_at : BindState → ℕ → Option ℕ
sampler_at b k = cond (test_bit b.sampler_set k) (Some (get_or b.samplers k 0)) None

-- the number of the sampler that unit u takes, or none
abbrev pub number_at : BindState → ℕ → Option ℕ
number_at b u = cond (test_bit b.sampled u) (Some (unit_at b u).sampler_index) None

-- the sampler that a number names
abbrev pub resolve : BindState → Option ℕ → Option ℕ
resolve b None = None
resolve b (Some k) = sampler_at b k

-- "one `BindSampler` for each unit" of a mask, "units ascending"
unfoldable pub sampler_commands : BindState → ℕ → List Command
sampler_commands b m = map (λ u. BindSampler u (resolve b (number_at b u))) (places m)

-- the number is one of a mask of samplers
abbrev pub takes_one : ℕ → Option ℕ → Bool
takes_one m None = false
takes_one m (Some k) = test_bit m k

-- the units whose texture is named, or whose sampler is
abbrev pub dirty_units : BindState → ℕ → ℕ → ℕ
dirty_units b textures samplers = mask_by 16 (λ u. test_bit textures u || takes_one samplers (number_at b u))
