-- `set_pipeline_inner`: what render and compute pipelines share. Definitions only.
use Rattle.std.specs.Prelude.{ℕ, Bool, false, not, ◌||◌, List, ◌∷◌, leb, ltb, get_or, take, Option, None, is_some, unwrap_or}
use Rattle.tables.specs.Tabulate.{tabulate}
use Rattle.mask.specs.By.{mask_by}
use Rattle.records.specs.Check.{some?, bad_descriptor}
use Rattle.records.specs.Same.{same_option_u32}
use Rattle.records.specs.declared.command.Command.{Command}
use Rattle.records.specs.declared.command.Command.TheVariants.{SetProgram}
use Rattle.records.specs.declared.command.ImmediateDesc.{ImmediateDesc}
use Rattle.records.specs.declared.pipeline.SamplerBind.{SamplerBind}
use Rattle.records.specs.declared.pipeline.PipelineInner.{PipelineInner}
use Rattle.records.specs.declared.state.BindState.{BindState}
use Rattle.records.specs.declared.state.ImmediateState.{ImmediateState}
use Rattle.bindings.specs.Units.{unit_at, number_at, sampler_commands}

abbrev pub value_or : ℕ → Option ℕ → ℕ
value_or d k = unwrap_or k d

abbrev pub no_bind : SamplerBind
no_bind = record { sampler_index = None }

-- the sampler number that the pipeline has for unit u, or none
abbrev pub map_at : PipelineInner → ℕ → Option ℕ
map_at p u = (get_or p.sampler_map u no_bind).sampler_index

-- the units whose sampler number the pipeline changes
unfoldable pub changed_units : PipelineInner → BindState → ℕ
changed_units p b = mask_by 16 (λ u. not (same_option_u32 (map_at p u) (number_at b u)))

-- each unit takes the sampler that the pipeline's map has for it
abbrev pub inner_bind : PipelineInner → BindState → BindState
inner_bind p b =
    record {
      samplers = b.samplers;
      sampler_set = b.sampler_set;
      texture_slots = tabulate 16 (λ u. record { tex_target = (unit_at b u).tex_target; sampler_index = value_or 0 (map_at p u) });
      sampled = mask_by 16 (λ u. is_some (map_at p u));
    }

-- "a pipeline call, for each unit whose sampler number it changes"
abbrev pub inner_commands : PipelineInner → BindState → List Command
inner_commands p b = SetProgram p.program ∷ sampler_commands (inner_bind p b) (changed_units p b)

-- the pipeline's descriptors replace the state's, array and count
abbrev pub inner_descriptors : PipelineInner → List ImmediateDesc
inner_descriptors p = take p.immediates_count p.immediates_descs

abbrev pub inner_immediates : PipelineInner → ImmediateState → ImmediateState
inner_immediates p i = record { descs = p.immediates_descs; count = p.immediates_count; words = i.words; sent = false }

-- 2: more than 192 descriptors
abbrev pub inner_too_many : PipelineInner → Bool
inner_too_many p = ltb 192 p.immediates_count

-- 3: a sampler number of 16 or more; a descriptor out of its words
abbrev pub bad_number : SamplerBind → Bool
bad_number s = leb 16 (value_or 0 s.sampler_index)

abbrev pub inner_out_of_range : PipelineInner → Bool
inner_out_of_range p = some? bad_number p.sampler_map || some? bad_descriptor (inner_descriptors p)
