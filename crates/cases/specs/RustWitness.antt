-- Where the list is the Rust's, worked out: even passes after one that is not, to which `as-rust` speaks, and two sessions that show that each half of its condition is needed. Assumes nothing.
use Rattle.std.specs.Prelude.{ℕ, zero, suc, ◌<◌, ◌≡◌, refl, Bool, false, cond, List, [], ◌∷◌, ◌++◌, ltb, drop, Option, None, Some}
use Rattle.std.proofs.Common.{sym, ap, ◌∙◌, arith, le-ltb}
use Rattle.mask.specs.Mask.{test_bit, bit_at, set_bit, without, mask_of, places_from}
use Rattle.mask.specs.By.{mask_by}
use Rattle.tables.specs.Tabulate.{tabulate}
use Rattle.records.specs.Check.{some?, bad_units, among, twice}
use Rattle.records.specs.Outcome.{smallest}
use Rattle.records.specs.Start.{start_state}
use Rattle.records.specs.declared.command.Command.{Command}
use Rattle.records.specs.declared.command.Command.TheVariants.{SetProgram, ConfigureDepthStencil}
use Rattle.records.specs.declared.command.VertexBufferDesc.{VertexBufferDesc}
use Rattle.records.specs.declared.command.VertexStepMode.TheVariants.{Instance}
use Rattle.records.specs.declared.pipeline.RenderPipeline.{RenderPipeline}
use Rattle.slots.specs.Prepare.{buffer_commands}
use Rattle.bindings.specs.Units.{sampler_commands}
use Rattle.pipeline.specs.Inner.{changed_units}
use Rattle.pipeline.specs.Fixed.{same_targets}
use Rattle.pass.specs.Render.{begin_render_commands, attach_colors, resolves_from, invalidations, clear_colors}
use Rattle.calls.specs.Call.{Call, end_render_pass, set_render_pipeline}
use Rattle.calls.specs.Step.{outcome_of}
use Rattle.machine.proofs.Lists.{none-some}
use Rattle.book.specs.Book.{Fed, describes, known}
use Rattle.cases.specs.Worked.{◌⨾◌}
use Rattle.book.specs.Run.{Recording, record_calls, fed, begun}
use Rattle.order.specs.OneNumber.{rust_calls, Even}
use Rattle.order.proofs.PassAsRust.{as-rust}
use Rattle.cases.specs.Samples.{emulated, rooms, by_instance, A, B, bare_pass, draw_at, drawn, bound}
use Rattle.cases.specs.Cases.{with}
use Rattle.cases.specs.EdgeSamples.{stepping}

abbrev ours : List Call → List Command
ours calls = (record_calls emulated rooms (begun emulated rooms start_state) calls).list

abbrev rusts : List Call → List Command
rusts calls = (rust_calls emulated rooms (begun emulated rooms start_state) 0 calls).list

-- ---- a pass that is not even: A at 0, B at 5, A at 5
abbrev mixed : List Call
mixed = with A ++ draw_at 0 ∷ set_render_pipeline B ∷ draw_at 5 ∷ set_render_pipeline A ∷ draw_at 5 ∷ []

abbrev uneven : Recording
uneven = record_calls emulated rooms (begun emulated rooms start_state) (mixed ++ end_render_pass ∷ [])

-- ---- and behind it two pipelines that describe slot 0, with strides 8 and 16, in two passes
abbrev C : RenderPipeline
C = stepping (by_instance 16)

abbrev alike : List Call
alike = with A ++ draw_at 0 ∷ draw_at 5 ∷ set_render_pipeline C ∷ draw_at 5 ∷ end_render_pass ∷ bare_pass ∷ set_render_pipeline C ∷ draw_at 5 ∷ []

abbrev its_fed : List Fed
its_fed = fed emulated rooms uneven.state alike

same-slots : (q : RenderPipeline) → Some A ≡ Some q → (i : ℕ) → i < 16 → known (describes C i) ≡ known (describes q i)
same-slots q e i l = at i ∙ ap (λ (x : RenderPipeline). known (describes x i)) (some_same A q e)
  where
    some_same : (x y : RenderPipeline) → Some x ≡ Some y → x ≡ y
    some_same x y e = cc

    past : (i : ℕ) (t : Bool) (x y : Option VertexBufferDesc) → t ≡ false → known (cond t x None) ≡ known (cond t y None)
    past i t x y e = ap (λ (b : Bool). known (cond b x None)) e ∙ sym (ap (λ (b : Bool). known (cond b y None)) e)

    at : (i : ℕ) → known (describes C i) ≡ known (describes A i)
    at zero = refl
    at (suc i) = past (suc i) (ltb (suc i) 1) _ _ (le-ltb (suc i) 1 (omega arith))

its-even : Even emulated None its_fed
unfolding Even record_calls fed outcome_of smallest some? bad_units among twice test_bit bit_at set_bit without mask_of places_from mask_by tabulate buffer_commands sampler_commands changed_units same_targets
    begin_render_commands attach_colors resolves_from invalidations clear_colors
its-even =
    (λ a. tt)
    ⨾ (λ a q e. none-some e)
    ⨾ (λ a. tt)
    ⨾ (λ a made. refl)
    ⨾ (λ a made. refl)
    ⨾ (λ a q e i l. same-slots q e i l)
    ⨾ (λ a made. refl)
    ⨾ (λ a. tt)
    ⨾ (λ a. tt)
    ⨾ (λ a q e. none-some e)
    ⨾ (λ a made. refl)
    ⨾ tt

its-list : (record_calls emulated rooms uneven alike).list ≡ (rust_calls emulated rooms uneven 0 alike).list
unfolding record_calls outcome_of smallest some? bad_units among twice test_bit bit_at set_bit without mask_of places_from mask_by tabulate buffer_commands sampler_commands changed_units same_targets
    begin_render_commands attach_colors resolves_from invalidations clear_colors
its-list = (as-rust emulated rooms start_state (mixed ++ end_render_pass ∷ []) alike refl refl (λ layout emulates. its-even)).0.0

-- ---- "all pipelines of a pass describe the same slots": there they do not
-- what follows the first two draws
mixed-differ :
    (drop 12 (ours mixed) ≡ SetProgram 1 ∷ ConfigureDepthStencil 0 ∷ bound 0 56 Instance 8 ∷ drawn 5 ∷ [])
    × (drop 12 (rusts mixed) ≡ SetProgram 1 ∷ ConfigureDepthStencil 0 ∷ drawn 5 ∷ [])
unfolding record_calls rust_calls outcome_of smallest some? bad_units among twice test_bit bit_at set_bit without mask_of places_from mask_by tabulate buffer_commands sampler_commands
    changed_units same_targets begin_render_commands attach_colors resolves_from invalidations clear_colors
mixed-differ = (refl, refl)

-- ---- "each draw follows a pipeline of its own pass": in a second pass a draw at 5 before it
abbrev too_early : List Call
too_early = with A ++ draw_at 0 ∷ end_render_pass ∷ bare_pass ∷ draw_at 5 ∷ set_render_pipeline A ∷ draw_at 5 ∷ []

too-early-differ :
    (drop 17 (ours too_early) ≡ bound 0 56 Instance 8 ∷ drawn 5 ∷ [])
    × (drop 17 (rusts too_early) ≡ drawn 5 ∷ [])
unfolding record_calls rust_calls outcome_of smallest some? bad_units among twice test_bit bit_at set_bit without mask_of places_from mask_by tabulate buffer_commands sampler_commands
    changed_units same_targets begin_render_commands attach_colors resolves_from invalidations clear_colors
too-early-differ = (refl, refl)
