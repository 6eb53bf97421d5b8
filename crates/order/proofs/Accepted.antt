-- What an accepted call tells: none of the seven conditions holds of it, nor of the state that it was handed. Assumes nothing.
use mathlib.Core.Path.{◌≡◌, refl}
use mathlib.Core.Bool.{Bool, true, false, cond, ◌||◌}
use Rattle.records.specs.Outcome.{accepted, either, smallest}
use Rattle.records.specs.Check.{out_of_range, over_room, state_conditions}
use Rattle.records.specs.declared.check.Rooms.{Rooms}
use Rattle.records.specs.declared.outcome.Outcome.TheVariants.{Done, WrongPhase, TooMany, OutOfRange, Absent, WrongKind, Overflow, NoRoom}
use Rattle.records.specs.declared.outcome.Conditions.{Conditions}
use Rattle.records.specs.declared.state.State.{State}
use Rattle.calls.specs.Meaning.{Meaning}
use Rattle.calls.specs.Step.{progress_after, call_conditions, outcome_of}
use Rattle.machine.proofs.Lists.{false-true, or_left, or_right, not-false}

pub record Passes (c : Conditions) : Type 0 where
  pub phase : c.phase ≡ false
  pub many : c.many ≡ false
  pub range : c.range ≡ false
  pub absent : c.absent ≡ false
  pub kind : c.kind ≡ false
  pub sum : c.sum ≡ false
  pub room : c.room ≡ false

pub passes : (c : Conditions) → accepted (smallest c) ≡ true → Passes c
unfolding smallest
passes c e =
    let r = go c.phase c.many c.range c.absent c.kind c.sum c.room e in
    record { phase = r.0; many = r.1; range = r.2; absent = r.3; kind = r.4; sum = r.5; room = r.6 }
  where
    go : (p m r a k s f : Bool) → accepted (cond p WrongPhase (cond m TooMany (cond r OutOfRange (cond a Absent (cond k WrongKind (cond s Overflow (cond f NoRoom Done))))))) ≡ true
        → (p ≡ false) × (m ≡ false) × (r ≡ false) × (a ≡ false) × (k ≡ false) × (s ≡ false) × (f ≡ false)
    go true m r a k s f e = false-true e
    go false true r a k s f e = false-true e
    go false false true a k s f e = false-true e
    go false false false true k s f e = false-true e
    go false false false false true s f e = false-true e
    go false false false false false true f e = false-true e
    go false false false false false false true e = false-true e
    go false false false false false false false e = (refl, refl, refl, refl, refl, refl, refl)

-- of the call and of the state
module _ (rooms : Rooms) (s : State) (m : Meaning) (e : accepted (outcome_of rooms s m) ≡ true) where
  all : Passes (either (state_conditions s (m.handed rooms)) (call_conditions rooms s m))
  unfolding outcome_of
  all = passes (either (state_conditions s (m.handed rooms)) (call_conditions rooms s m)) e

  pub in-phase : m.allowed s.progress.phase ≡ true
  in-phase = not-false (m.allowed s.progress.phase) all.phase

  pub in-range : m.asks.range ≡ false
  in-range = or_right (out_of_range s) m.asks.range all.range

  pub present : m.asks.absent ≡ false
  present = all.absent

  pub kinds : m.asks.kind ≡ false
  kinds = or_right (state_conditions s (m.handed rooms)).kind m.asks.kind all.kind

  pub in-room : over_room (progress_after m) (m.handed rooms) ≡ false
  in-room = or_right m.asks.room (over_room (progress_after m) (m.handed rooms)) (or_right (over_room s.progress (m.handed rooms)) (m.asks.room || over_room (progress_after m) (m.handed rooms)) all.room)

  pub was-in-room : over_room s.progress (m.handed rooms) ≡ false
  was-in-room = or_left (over_room s.progress (m.handed rooms)) (m.asks.room || over_room (progress_after m) (m.handed rooms)) all.room
