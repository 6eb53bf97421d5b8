-- `single_calls::settings::plan_set_index_buffer` meets its contract. Assumes nothing.
use mathlib.Core.Bool.{false, not}
use mathlib.Core.List.{List, [], ◌∷◌}
use mathlib.Core.Path.{refl}
use lib.Dec.{eqb}
use Rattle.records.specs.declared.command.Command.{Command}
use Rattle.records.specs.declared.command.Command.TheVariants.{SetIndexBuffer}
use Rattle.records.specs.declared.outcome.Conditions.{Conditions}
use Rattle.calls.specs.Meaning.{in_render}
use Rattle.calls.specs.Parts.{with_draw}
use Rattle.calls.specs.Settings.{indexed}
use Rattle.calls.specs.Step.{outcome_of}
use Rattle.calls.proofs.Alone.{alone}
use Rattle.calls.proofs.Plans.{found, laid, next}
use Rattle.calls.proofs.Moved.{draw-moved}
use Rattle.records.specs.declared.command.Command.TheVariants.{PopDebugGroup}
use Rattle.single_calls.proofs.settings.plan_set_index_buffer.Goals as goal

pub returns : goal.returns
unfolding outcome_of
returns c =
    let a = c.args in
    let s = a.s in
    let cs : List Command = SetIndexBuffer a.buffer ∷ [] in
    let asks : Conditions =
    record { phase = not (in_render s.progress.phase); many = false; range = false; absent = eqb a.buffer 0; kind = false; sum = false; room = false } in
    let k = found a.room s asks s.progress.phase cs _ _ _ _ _ c.list_rooms-rooms.ensures c.broken_limits-broken.ensures refl c.commands_only-more.ensures
    (rw (c.in_phase_with-c.ensures, c.in_render.ensures) at c.judge-v.ensures) c.spot_of-place.ensures in
    let new = indexed a.offset a.format s.draw in
    let after = draw-moved _ _ new s _ _ _ _ refl refl c.indexed-draw.ensures k.sure in (
      (k.said, next a.room s asks s.progress.phase cs k (with_draw new s) _ after),
      laid a.room s asks s.progress.phase cs _ _ _ k.here k.many (λ h i l. alone (SetIndexBuffer a.buffer) i l PopDebugGroup),
    )
