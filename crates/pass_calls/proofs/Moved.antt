-- The state with parts changed where a call is carried through, and what the check of a state says of its resolves. Assumes nothing.
use mathlib.Core.Bool.{Bool, true, false, cond}
use mathlib.Core.Path.{◌≡◌, refl}
use lib.ListN.{take}
use Rattle.records.specs.Check.{some?, bad_resolve, bad_attribute, bad_descriptor, bad_units, attributes_of, descriptors_of, state_conditions}
use Rattle.records.specs.Outcome.{accepted}
use Rattle.records.specs.declared.check.Rooms.{Rooms}
use Rattle.records.specs.declared.outcome.Conditions.{Conditions}
use Rattle.records.specs.declared.state.FixedState.{FixedState}
use Rattle.records.specs.declared.state.PassState.{PassState}
use Rattle.records.specs.declared.state.Phase.{Phase}
use Rattle.records.specs.declared.state.Progress.{Progress}
use Rattle.records.specs.declared.state.State.{State}
use Rattle.records.specs.declared.state.VertexState.{VertexState}
use Rattle.calls.specs.declared.judge.Counts.{Counts}
use Rattle.calls.specs.Judge.{judged}
use Rattle.calls.specs.Parts.{with_progress, with_vertex, with_fixed, with_pass}
use Rattle.calls.proofs.Judged.{neither, none-holds}

-- the three parts that the end of a pass leaves
ended-or-not : (t : Bool) (v : VertexState) (f : FixedState) (p : PassState) (s : State) (q : Progress)
    → with_vertex (cond t v s.vertex) (with_fixed (cond t f s.fixed) (with_pass (cond t p s.pass) (with_progress q s))) ≡ with_progress q (cond t (with_vertex v (with_fixed f (with_pass p s))) s)
ended-or-not true v f p s q = refl
ended-or-not false v f p s q = refl

pub end_moved : (t ok : Bool) (v : VertexState) (f : FixedState) (p : PassState) (s : State) (q : Progress) (v' : VertexState) (f' : FixedState) (p' : PassState)
    → v' ≡ cond ok v s.vertex → f' ≡ cond ok f s.fixed → p' ≡ cond ok p s.pass → ok ≡ t
    → with_vertex v' (with_fixed f' (with_pass p' (with_progress q s))) ≡ with_progress q (cond t (with_vertex v (with_fixed f (with_pass p s))) s)
end_moved t ok v f p s q v' f' p' a b d e = rw (a, b, d, e) (ended-or-not t v f p s q)

-- the pass record alone
pub pass-or-not : (t : Bool) (p : PassState) (s : State) (q : Progress) → with_pass (cond t p s.pass) (with_progress q s) ≡ with_progress q (cond t (with_pass p s) s)
pass-or-not true p s q = refl
pass-or-not false p s q = refl

module _ (rooms : Rooms) (s : State) (c : Conditions) (phase : Phase) (more : Counts) where
  -- carried through: each resolve of the state is of a place below 8
  pub resolves-good : accepted (judged rooms s c phase more) ≡ true → some? bad_resolve (take s.pass.resolve_count s.pass.resolves) ≡ false
  resolves-good e =
      let r = (neither (state_conditions s rooms).range c.range (none-holds _ e).range).0 in
      let a = (neither (some? bad_attribute (attributes_of s)) _ r).1 in
      let b = (neither (bad_units s.bind.sampled 0 s.bind.texture_slots) _ a).1 in
      let d = (neither (some? bad_descriptor (descriptors_of s)) _ b).1 in
      (neither (some? bad_resolve (take s.pass.resolve_count s.pass.resolves)) _ d).0
