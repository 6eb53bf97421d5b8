-- The units of `inner_bind` from the elements of the arrays that hold them. Definitions only.
-- `map_at p u` is `number_in p.sampler_map u`; the units of `inner_bind p b` are `mapped_units p.sampler_map b.texture_slots`.
use Rattle.std.specs.Prelude.{ℕ, List, get_or, Option}
use Rattle.tables.specs.Tabulate.{tabulate}
use Rattle.records.specs.Start.{start_texture_slot}
use Rattle.records.specs.declared.pipeline.SamplerBind.{SamplerBind}
use Rattle.records.specs.declared.state.TextureSlotDesc.{TextureSlotDesc}
use Rattle.pipeline.specs.Inner.{no_bind, value_or}

-- the sampler number that a map has for unit u, or none
abbrev pub number_in : List SamplerBind → ℕ → Option ℕ
number_in map u = (get_or map u no_bind).sampler_index

-- a unit with the sampler that a map has for it
abbrev pub mapped_unit : TextureSlotDesc → Option ℕ → TextureSlotDesc
mapped_unit unit number = record { tex_target = unit.tex_target; sampler_index = value_or 0 number }

abbrev pub mapped_units : List SamplerBind → List TextureSlotDesc → List TextureSlotDesc
mapped_units map units = tabulate 16 (λ u. mapped_unit (get_or units u start_texture_slot) (number_in map u))
