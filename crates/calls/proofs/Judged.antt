-- The verdict on a call, and what follows where it is carried through. Assumes nothing.
use Prim.Native.Nat.{ℕ, ◌≤◌}
use mathlib.Core.Bool.{Bool, true, false, cond, not, ◌||◌}
use mathlib.Core.Path.{◌≡◌, refl, sym, ap, ◌∙◌}
use native.Mathlib.Omega.{arith}
use lib.Dec.{ltb}
use borrow.Author.Tests.{ltb-false}
use Rattle.records.specs.Outcome.{accepted, smallest}
use Rattle.records.specs.Check.{over_room, broken_limits, state_conditions}
use Rattle.records.specs.declared.check.Broken.{Broken}
use Rattle.records.specs.declared.check.Rooms.{Rooms}
use Rattle.records.specs.declared.outcome.Conditions.{Conditions}
use Rattle.records.specs.declared.outcome.Outcome.{Outcome}
use Rattle.records.specs.declared.state.Phase.{Phase}
use Rattle.records.specs.declared.state.Progress.{Progress}
use Rattle.records.specs.declared.state.State.{State}
use Rattle.calls.specs.declared.judge.Counts.{Counts}
use Rattle.calls.specs.Judge.{grown, judged, judged_by, taken}

pub bad : {X : Type 0} → false ≡ true → X
bad e = let z : ◌≡◌ {A = ℕ} 0 1 = cc in absurd (omega arith)

pub neither : (t u : Bool) → t || u ≡ false → (t ≡ false) × (u ≡ false)
neither true u e = bad (sym e)
neither false u e = (refl, e)

-- a test, and its opposite
pub off : (t : Bool) → not t ≡ true → t ≡ false
off true e = bad e
off false e = refl

pub on : (t : Bool) → not t ≡ false → t ≡ true
on true e = refl
on false e = bad (sym e)

-- no condition holds
pub record None (c : Conditions) : Type 0 where
  pub phase : c.phase ≡ false
  pub many : c.many ≡ false
  pub range : c.range ≡ false
  pub absent : c.absent ≡ false
  pub kind : c.kind ≡ false
  pub sum : c.sum ≡ false
  pub room : c.room ≡ false

tested : (t : Bool) (o next : Outcome) → accepted o ≡ false → accepted (cond t o next) ≡ true → (t ≡ false) × (accepted next ≡ true)
tested true o next n e = bad (sym n ∙ e)
tested false o next n e = (refl, e)

-- of a call that is carried through no condition holds
pub none-holds : (c : Conditions) → accepted (smallest c) ≡ true → None c
unfolding smallest
none-holds c e =
    let a = tested c.phase _ _ refl e in
    let b = tested c.many _ _ refl a.1 in
    let d = tested c.range _ _ refl b.1 in
    let f = tested c.absent _ _ refl d.1 in
    let g = tested c.kind _ _ refl f.1 in
    let h = tested c.sum _ _ refl g.1 in
    let i = tested c.room _ _ refl h.1 in
    record { phase = a.0; many = b.0; range = d.0; absent = f.0; kind = g.0; sum = h.0; room = i.0 }

-- the counts within the limits and within the runs
pub record Within (p : Progress) (r : Rooms) : Type 0 where
  pub commands_limit : p.commands ≤ 4096
  pub bytes_limit : p.bytes ≤ 65536
  pub queries_limit : p.queries ≤ 1024
  pub commands_fit : p.commands ≤ r.commands
  pub bytes_fit : p.bytes ≤ r.bytes
  pub queries_fit : p.queries ≤ r.queries

pub within : (p : Progress) (r : Rooms) → over_room p r ≡ false → Within p r
within p r e =
    let a = neither (ltb 4096 p.commands) _ e in
    let b = neither (ltb 65536 p.bytes) _ a.1 in
    let c = neither (ltb 1024 p.queries) _ b.1 in
    let d = neither (ltb r.commands p.commands) _ c.1 in
    let f = neither (ltb r.bytes p.bytes) (ltb r.queries p.queries) d.1 in
    record {
      commands_limit = ltb-false _ _ a.0;
      bytes_limit = ltb-false _ _ b.0;
      queries_limit = ltb-false _ _ c.0;
      commands_fit = ltb-false _ _ d.0;
      bytes_fit = ltb-false _ _ f.0;
      queries_fit = ltb-false _ _ f.1;
    }

module _ (rooms : Rooms) (b : Broken) (p : Progress) (c : Conditions) (phase : Phase) (more : Counts) where
  abbrev verdict : Outcome
  verdict = judged_by rooms b p c phase more

  -- carried through: what it appends has room
  pub fitting-by : accepted verdict ≡ true → Within (grown p phase more) rooms
  fitting-by e = within (grown p phase more) rooms (neither c.room _ (neither (over_room p rooms) _ (none-holds _ e).room).1).1

  -- the verdict, and the test of it
  pub said : {o : Outcome} {t u : Bool} → o ≡ verdict → t ≡ accepted o → t ≡ u → accepted verdict ≡ u
  said e a h = sym (ap accepted e) ∙ sym a ∙ h

-- both definitions of the verdict are one
pub judged-by : (rooms : Rooms) (s : State) (c : Conditions) (phase : Phase) (more : Counts) → judged rooms s c phase more ≡ judged_by rooms (broken_limits s) s.progress c phase more
judged-by rooms s c phase more = refl

module _ (rooms : Rooms) (s : State) (c : Conditions) (phase : Phase) (more : Counts) where
  -- carried through: what it appends has room, and none of its own conditions holds
  pub fitting : accepted (judged rooms s c phase more) ≡ true → Within (grown s.progress phase more) rooms
  fitting = fitting-by rooms (broken_limits s) s.progress c phase more

  pub no-range : accepted (judged rooms s c phase more) ≡ true → c.range ≡ false
  no-range e = (neither (state_conditions s rooms).range c.range (none-holds _ e).range).1

  pub no-sum : accepted (judged rooms s c phase more) ≡ true → c.sum ≡ false
  no-sum e = (none-holds _ e).sum
