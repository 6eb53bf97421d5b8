-- What `begin_render_pass` leaves in the list, beside what the Rust's rule gives: document 02, request 1. Assumes nothing.
use mathlib.Core.Path.{◌≡◌, sym, ap, ◌∙◌}
use mathlib.Core.Bool.{Bool, false, cond}
use mathlib.Core.List.{List, [], map}
use Rattle.records.specs.Check.{some?}
use Rattle.records.specs.Outcome.{accepted}
use Rattle.records.specs.declared.command.Command.{Command}
use Rattle.records.specs.declared.command.Record.{Record}
use Rattle.records.specs.declared.outcome.Outcome.TheVariants.{Done}
use Rattle.records.specs.declared.pass.RenderPassDescriptor.{RenderPassDescriptor}
use Rattle.records.specs.declared.pipeline.PrivateCapabilities.{PrivateCapabilities}
use Rattle.records.specs.declared.state.Answer.{Answer}
use Rattle.records.specs.declared.state.State.{State}
use Rattle.pass.specs.Marks.{Lent, Label}
use Rattle.pass.specs.Render.{places_of, begin_with, begin_render_commands}
use Rattle.pass.specs.Counted.{counted_clears, is_empty, clears_to}
use Rattle.pass.proofs.Renumbered.{begin-same, begin-renumbered}
use Rattle.calls.specs.Call.{begin_render_pass}
use Rattle.calls.specs.Did.{Runs, written, record_of, Did}

module _ (caps : PrivateCapabilities) (s : State) (r r' : Runs) (d : RenderPassDescriptor) (label : Label) (set : Lent) (a : Answer)
    (did : Did caps s r (begin_render_pass d label set) a r') (done : a.outcome ≡ Done) where
  -- the list after the call, where it appended these
  abbrev after : List Command → List Record
  after cs = written r.commands s.progress.commands (map record_of cs)

  recorded : r'.commands ≡ after (begin_render_commands caps d label set s.progress.bytes)
  recorded =
      ap (λ (x : Runs). x.commands) did.runs
      ∙ ap (λ (t : Bool). after (cond t (begin_render_commands caps d label set s.progress.bytes) [])) (ap accepted (sym did.outcome ∙ done))

  -- without an empty place: the Rust's list
  pub began-as-published : some? is_empty (places_of d) ≡ false → r'.commands ≡ after (begin_with (counted_clears 0 (places_of d)) caps d label set s.progress.bytes)
  began-as-published e = recorded ∙ ap after (begin-same caps d label set s.progress.bytes e)

  -- always: the list with each clear to the number of its place
  pub began-by-place : r'.commands ≡ after (begin_with (clears_to (λ j. j) 0 (places_of d)) caps d label set s.progress.bytes)
  began-by-place = recorded ∙ ap after (begin-renumbered caps d label set s.progress.bytes).0
