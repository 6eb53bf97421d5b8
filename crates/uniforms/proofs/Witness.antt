-- The rows of Rows.antt by computation, the theorems on one list, and a location twice, which shows that their premise is needed. Assumes nothing.
use mathlib.Core.Path.{◌≡◌, refl, sym, ◌∙◌}
use mathlib.Core.List.{List, [], ◌∷◌, map}
use Rattle.std.specs.Prelude.{Option, Some}
use native.Mathlib.Omega.{arith}
use lib.ListN.{length}
use Rattle.mask.specs.Mask.{test_bit, bit_at, set_bit, without, mask_of, places_from}
use Rattle.mask.specs.By.{mask_by}
use Rattle.tables.specs.Tabulate.{tabulate}
use Rattle.records.specs.Check.{some?, bad_units, among, twice}
use Rattle.records.specs.Outcome.{smallest}
use Rattle.records.specs.Start.{start_state}
use Rattle.records.specs.declared.command.ImmediateDesc.{ImmediateDesc}
use Rattle.bindings.specs.Immediates.{filter, immediate_commands, immediate_bytes, immediates_over}
use Rattle.numbers.specs.Bytes.{bytes_of}
use Rattle.bindings.specs.Units.{sampler_commands}
use Rattle.pipeline.specs.Inner.{changed_units}
use Rattle.pipeline.specs.Fixed.{same_targets}
use Rattle.pass.specs.Render.{begin_render_commands, attach_colors, resolves_from, invalidations, clear_colors}
use Rattle.calls.specs.Call.{Call}
use Rattle.calls.specs.Step.{outcome_of}
use Rattle.book.specs.Run.{record_calls, fed, begun}
use Rattle.cases.specs.Samples.{emulated, rooms, bare_pass}
use Rattle.cases.specs.EdgeSamples.{sending}
use Rattle.cases.specs.Worked.{◌⨾◌}
use Rattle.uniforms.specs.Uniforms.{Value, play}
use Rattle.uniforms.specs.Kind.{Apart, Apartness}
use Rattle.uniforms.specs.Rust.{rust_lists, no_lists, ours, rusts}
use Rattle.uniforms.specs.Since.{sent_in}
use Rattle.uniforms.specs.Told.{untold, told}
use Rattle.uniforms.specs.Rows.{sents, refusals, seen, said, sun, wind, nothing, write, sliding, rows}
use Rattle.uniforms.proofs.Theorem.{uniforms-same}

pub all-rows : map seen rows ≡ map said rows
unfolding record_calls refusals sents outcome_of smallest some? bad_units among twice test_bit bit_at set_bit without mask_of places_from mask_by tabulate sampler_commands changed_units
    same_targets begin_render_commands attach_colors resolves_from invalidations clear_colors bytes_of filter immediate_commands immediate_bytes immediates_over
all-rows = refl

-- ---- the theorem on the slider
apart-three : Apart (sun ∷ wind ∷ nothing ∷ [])
apart-three = (((λ e. omega (arith, e)), ((λ e. omega (arith, e)), tt)), (((λ e. omega (arith, e)), tt), (tt, tt)))

pub its-apart : Apartness (fed emulated rooms (begun emulated rooms start_state).state sliding)
unfolding Apartness fed
its-apart = (λ a. tt) ⨾ (λ a. apart-three) ⨾ (λ a. tt) ⨾ (λ a. tt) ⨾ (λ a. tt) ⨾ (λ a. tt) ⨾ (λ a. tt) ⨾ (λ a. apart-three) ⨾ (λ a. tt) ⨾ tt

abbrev six : Option Value
six = Some (record { ty = 5126; bytes = 6 ∷ 0 ∷ 0 ∷ 0 ∷ [] })

sun-here : (ours emulated rooms start_state sliding).uniform 1 7 ≡ six
unfolding record_calls play outcome_of smallest some? bad_units among twice test_bit bit_at set_bit without mask_of places_from mask_by tabulate sampler_commands changed_units same_targets
    begin_render_commands attach_colors resolves_from invalidations clear_colors bytes_of filter immediate_commands immediate_bytes immediates_over
sun-here = refl

-- and the calls tell the same
pub sun-told : (told untold (fed emulated rooms (begun emulated rooms start_state).state sliding)).uniform 1 7 ≡ six
unfolding told fed outcome_of smallest some? bad_units among twice test_bit bit_at set_bit without mask_of places_from mask_by tabulate sampler_commands changed_units same_targets
    begin_render_commands attach_colors resolves_from invalidations clear_colors bytes_of filter immediate_commands immediate_bytes immediates_over
sun-told = refl

-- in the Rust's list by the theorem
pub its-sun : ((ours emulated rooms start_state sliding).uniform 1 7 ≡ six) × ((rusts emulated rooms start_state sliding).uniform 1 7 ≡ six)
unfolding outcome_of smallest some? bad_units among twice test_bit
its-sun = (sun-here, sym ((uniforms-same emulated rooms start_state sliding refl its-apart).1 1 7) ∙ sun-here)

-- seven uniforms are sent where the Rust sends fifteen
pub its-fewer :
    (length (sent_in (record_calls emulated rooms (begun emulated rooms start_state) sliding).list) ≡ 7)
    × (length (sent_in (rust_lists emulated rooms (begun emulated rooms start_state).state no_lists sliding).commands) ≡ 15)
unfolding record_calls rust_lists sent_in outcome_of smallest some? bad_units among twice test_bit bit_at set_bit without mask_of places_from mask_by tabulate sampler_commands changed_units same_targets
    begin_render_commands attach_colors resolves_from invalidations clear_colors bytes_of filter immediate_commands immediate_bytes immediates_over
its-fewer = (refl, refl)

-- ---- without the premise: two descriptors at one location
abbrev lower : ImmediateDesc
lower = record { location = 0; ty = 5126; offset = 0; size_bytes = 4 }

abbrev upper : ImmediateDesc
upper = record { location = 0; ty = 5126; offset = 4; size_bytes = 4 }

abbrev shared : List Call
shared = bare_pass ∷ sending (lower ∷ upper ∷ []) ∷ write 0 (1 ∷ 2 ∷ []) ∷ write 0 (3 ∷ []) ∷ []

pub not-apart : Apartness (fed emulated rooms (begun emulated rooms start_state).state shared) → ⊥
unfolding Apartness fed outcome_of smallest some? bad_units among twice test_bit bit_at set_bit without mask_of places_from mask_by tabulate sampler_commands changed_units same_targets
    begin_render_commands attach_colors resolves_from invalidations clear_colors
not-apart P = (P.1.0 refl).0.0 refl

-- word 0 alone is sent, and the location holds it; the Rust sends word 1 behind it, and so the calls tell
pub here-three : (ours emulated rooms start_state shared).uniform 1 0 ≡ Some (record { ty = 5126; bytes = 3 ∷ 0 ∷ 0 ∷ 0 ∷ [] })
unfolding record_calls play outcome_of smallest some? bad_units among twice test_bit bit_at set_bit without mask_of places_from mask_by tabulate sampler_commands changed_units same_targets
    begin_render_commands attach_colors resolves_from invalidations clear_colors bytes_of filter immediate_commands immediate_bytes immediates_over
here-three = refl

pub rust-two : (rusts emulated rooms start_state shared).uniform 1 0 ≡ Some (record { ty = 5126; bytes = 2 ∷ 0 ∷ 0 ∷ 0 ∷ [] })
unfolding rust_lists play outcome_of smallest some? bad_units among twice test_bit bit_at set_bit without mask_of places_from mask_by tabulate sampler_commands changed_units same_targets
    begin_render_commands attach_colors resolves_from invalidations clear_colors bytes_of filter immediate_commands immediate_bytes immediates_over
rust-two = refl

pub told-two : (told untold (fed emulated rooms (begun emulated rooms start_state).state shared)).uniform 1 0 ≡ Some (record { ty = 5126; bytes = 2 ∷ 0 ∷ 0 ∷ 0 ∷ [] })
unfolding told fed outcome_of smallest some? bad_units among twice test_bit bit_at set_bit without mask_of places_from mask_by tabulate sampler_commands changed_units same_targets
    begin_render_commands attach_colors resolves_from invalidations clear_colors bytes_of filter immediate_commands immediate_bytes immediates_over
told-two = refl
