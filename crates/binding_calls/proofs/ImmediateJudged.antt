-- The verdict on a call whose counts are known only where no other condition turns it away, and condition 6 only where 3 does not hold. Assumes nothing.
use mathlib.Core.Bool.{Bool, true, false, cond, ◌||◌}
use mathlib.Core.Path.{◌≡◌, refl, sym, ap, ◌∙◌}
use Rattle.records.specs.Outcome.{accepted, smallest, either}
use Rattle.records.specs.Check.{over_room, state_conditions}
use Rattle.records.specs.declared.check.Rooms.{Rooms}
use Rattle.records.specs.declared.outcome.Conditions.{Conditions}
use Rattle.records.specs.declared.outcome.Outcome.{Outcome}
use Rattle.records.specs.declared.outcome.Outcome.TheVariants.{Done, WrongPhase, TooMany, OutOfRange, Absent, WrongKind, Overflow, NoRoom}
use Rattle.records.specs.declared.state.Phase.{Phase}
use Rattle.records.specs.declared.state.Progress.{Progress}
use Rattle.records.specs.declared.state.State.{State}
use Rattle.calls.specs.declared.judge.Counts.{Counts}
use Rattle.calls.specs.Judge.{grown, judged, taken}
use Rattle.calls.proofs.Judged.{bad}

-- the answer by its seven tests, the last of them in two parts
abbrev answer : Bool → Bool → Bool → Bool → Bool → Bool → Bool → Outcome
answer a b c d e f g = cond a WrongPhase (cond b TooMany (cond c OutOfRange (cond d Absent (cond e WrongKind (cond f Overflow (cond g NoRoom Done))))))

-- where a condition holds already, the last part does not matter
blind : (a b c d e f g h x y : Bool) → accepted (answer a b c d e f (g || h)) ≡ false → answer a b c d e f (g || (h || x)) ≡ answer a b c d e f (g || (h || y))
blind true b c d e f g h x y k = refl
blind false true c d e f g h x y k = refl
blind false false true d e f g h x y k = refl
blind false false false true e f g h x y k = refl
blind false false false false true f g h x y k = refl
blind false false false false false true g h x y k = refl
blind false false false false false false true h x y k = refl
blind false false false false false false false true x y k = refl
blind false false false false false false false false x y k = bad (sym k)

clears : (a b c d e f g h x : Bool) → accepted (answer a b c d e f (g || (h || x))) ≡ true → accepted (answer a b c d e f (g || h)) ≡ true
clears true b c d e f g h x k = bad k
clears false true c d e f g h x k = bad k
clears false false true d e f g h x k = bad k
clears false false false true e f g h x k = bad k
clears false false false false true f g h x k = bad k
clears false false false false false true g h x k = bad k
clears false false false false false false true h x k = bad k
clears false false false false false false false true x k = bad k
clears false false false false false false false false x k = refl

-- where condition 3 holds, condition 6 does not matter
hidden : (a b c d e f f' g : Bool) → c ≡ true → answer a b c d e f g ≡ answer a b c d e f' g
hidden true b c d e f f' g k = refl
hidden false true c d e f f' g k = refl
hidden false false true d e f f' g k = refl
hidden false false false d e f f' g k = bad k

-- a call's conditions with another condition 6
abbrev pub summed : Bool → Conditions → Conditions
summed t c = record { phase = c.phase; many = c.many; range = c.range; absent = c.absent; kind = c.kind; sum = t; room = c.room }

pub or_left : (t u : Bool) → t ≡ true → t || u ≡ true
or_left true u k = refl
or_left false u k = bad k

pub or_right : (t u : Bool) → u ≡ true → t || u ≡ true
or_right true u k = refl
or_right false u k = k

module _ (rooms : Rooms) (s : State) (c : Conditions) (phase : Phase) where
  pub any_sum : (t : Bool) (more : Counts) → ((state_conditions s rooms).range || c.range) ≡ true → judged rooms s (summed t c) phase more ≡ judged rooms s c phase more
  unfolding smallest
  any_sum t more k =
      let h = state_conditions s rooms in
      hidden (h.phase || c.phase) (h.many || c.many) (h.range || c.range) (h.absent || c.absent) (h.kind || c.kind) (h.sum || t) (h.sum || c.sum)
      (h.room || (c.room || over_room (grown s.progress phase more) rooms)) k

  -- the answer without the counts
  abbrev pub before : Outcome
  before = smallest (either (state_conditions s rooms) c)

  pub clear : (more : Counts) → accepted (judged rooms s c phase more) ≡ true → accepted before ≡ true
  unfolding smallest
  clear more k =
      let h = state_conditions s rooms in
      clears (h.phase || c.phase) (h.many || c.many) (h.range || c.range) (h.absent || c.absent) (h.kind || c.kind) (h.sum || c.sum) h.room c.room
      (over_room (grown s.progress phase more) rooms) k

  turned-away : (more more' : Counts) → accepted before ≡ false → judged rooms s c phase more ≡ judged rooms s c phase more'
  unfolding smallest
  turned-away more more' k =
      let h = state_conditions s rooms in
      blind (h.phase || c.phase) (h.many || c.many) (h.range || c.range) (h.absent || c.absent) (h.kind || c.kind) (h.sum || c.sum) h.room c.room
      (over_room (grown s.progress phase more) rooms) (over_room (grown s.progress phase more') rooms) k

  -- the verdict, the test of it and the progress, of a call that appends so much
  pub record Found (more : Counts) (o : Outcome) (ok : Bool) (p : Progress) : Type 0 where
    pub said : o ≡ judged rooms s c phase more
    pub sure : ok ≡ accepted (judged rooms s c phase more)
    pub left : p ≡ taken (judged rooms s c phase more) (grown s.progress phase more) s.progress

  -- worked out with counts that are the true ones where nothing else turns the call away
  module _ (more more' : Counts) (known : accepted before ≡ true → more ≡ more') where
    same-verdict : judged rooms s c phase more ≡ judged rooms s c phase more'
    same-verdict = go (accepted before) refl
      where
        go : (t : Bool) → accepted before ≡ t → judged rooms s c phase more ≡ judged rooms s c phase more'
        go true k = ap (judged rooms s c phase) (known k)
        go false k = turned-away more more' k

    same-progress : (o : Outcome) → (accepted o ≡ true → more ≡ more') → taken o (grown s.progress phase more) s.progress ≡ taken o (grown s.progress phase more') s.progress
    same-progress o e = go (accepted o) e
      where
        go : (t : Bool) → (t ≡ true → more ≡ more') → cond t (grown s.progress phase more) s.progress ≡ cond t (grown s.progress phase more') s.progress
        go true e = ap (grown s.progress phase) (e refl)
        go false e = refl

    pub found : {o : Outcome} {ok : Bool} {p : Progress}
        → (o ≡ judged rooms s c phase more) × (ok ≡ accepted (judged rooms s c phase more)) × (p ≡ taken (judged rooms s c phase more) (grown s.progress phase more) s.progress) → Found more' o ok p
    found v =
        record {
          said = v.0 ∙ same-verdict;
          sure = v.1 ∙ ap accepted same-verdict;
          left = v.2 ∙ same-progress (judged rooms s c phase more) (λ k. known (clear more k)) ∙ ap (λ (o : Outcome). taken o (grown s.progress phase more') s.progress) same-verdict;
        }
