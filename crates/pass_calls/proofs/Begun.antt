-- What the plans of the beginnings of passes come to. Assumes nothing.
use Prim.Native.Nat.{ℕ, ◌+◌, ◌<◌, ◌≤◌}
use mathlib.Core.Bool.{Bool, true, false, cond}
use mathlib.Core.List.{List, []}
use mathlib.Core.Path.{◌≡◌, refl, ap, ◌∙◌, subst}
use lib.ListN.{length, get_or}
use Rattle.walks.specs.Fill.{filled}
use Rattle.records.specs.Check.{broken_limits, state_conditions}
use Rattle.records.specs.Outcome.{accepted}
use Rattle.records.specs.declared.check.Broken.{Broken}
use Rattle.records.specs.declared.check.Rooms.{Rooms}
use Rattle.records.specs.declared.command.Command.{Command}
use Rattle.records.specs.declared.command.Command.TheVariants.{PopDebugGroup}
use Rattle.records.specs.declared.command.Record.{Record}
use Rattle.records.specs.declared.outcome.Conditions.{Conditions}
use Rattle.records.specs.declared.outcome.Outcome.{Outcome}
use Rattle.records.specs.declared.pipeline.PrivateCapabilities.{PrivateCapabilities}
use Rattle.records.specs.declared.state.Answer.{Answer}
use Rattle.records.specs.declared.state.PassState.{PassState}
use Rattle.records.specs.declared.state.Phase.{Phase}
use Rattle.records.specs.declared.state.Progress.{Progress}
use Rattle.records.specs.declared.state.State.{State}
use Rattle.calls.specs.Call.{Call}
use Rattle.calls.specs.Did.{Marks, record_of}
use Rattle.calls.specs.Judge.{grown, judged, judged_by, taken}
use Rattle.calls.specs.Parts.{with_progress, with_pass}
use Rattle.calls.specs.Planned.{byte_rooms, Put, Laid, Answered, state_in}
use Rattle.calls.specs.Step.{meaning, outcome_of}
use Rattle.calls.proofs.Judged.{neither, none-holds, fitting}
use Rattle.calls.proofs.Listed.{marks-done, numbers-put}
use Rattle.calls.proofs.Plans.{put, moved-or-not}
use Rattle.pass_calls.proofs.Labels.{none_below}
use Rattle.pass_calls.proofs.Moved.{pass-or-not}
use Rattle.pass_calls.specs.declared.marked.Marked.{Marked}
use Rattle.pass_calls.specs.Marked.{marks, marked_outcome, MarkedOf}

-- ---- a call that is carried through
module _ (rooms : Rooms) (s : State) (c : Conditions) (phase : Phase) (n size : ℕ) where
  pub not-many : accepted (judged rooms s c phase (marks n size)) ≡ true → c.many ≡ false
  not-many e = (neither (state_conditions s rooms).many c.many (none-holds _ e).many).1

  pub not_short : accepted (judged rooms s c phase (marks n size)) ≡ true → c.room ≡ false
  not_short e = (neither c.room _ (neither (state_conditions s rooms).room _ (none-holds _ e).room).1).0

  pub few_bytes : accepted (judged rooms s c phase (marks n size)) ≡ true → s.progress.bytes + size ≤ 65536
  few_bytes e = (fitting rooms s c phase (marks n size) e).bytes_limit

pub marked-is : {room bytes : ℕ} {s : State} {c c' : Conditions} {phase : Phase} {n n' size size' : ℕ} {pass pass' : PassState} {m : Marked}
    → c ≡ c' → n ≡ n' → size ≡ size' → pass ≡ pass' → MarkedOf room bytes s c phase n size pass m → MarkedOf room bytes s c' phase n' size' pass' m
marked-is {room} {bytes} {s} {c} {c'} {phase} {n} {n'} {size} {size'} {pass} {pass'} {m} e a b d k =
    subst (λ (x : PassState). MarkedOf room bytes s c' phase n' size' x m) d
    (subst (λ (x : ℕ). MarkedOf room bytes s c' phase n' x pass m) b
    (subst (λ (x : ℕ). MarkedOf room bytes s c' phase x size pass m) a
    (subst (λ (x : Conditions). MarkedOf room bytes s x phase n size pass m) e k)))

-- ---- the verdict, as a plan works it out
pub marked : (room bytes : ℕ) (s : State) (c : Conditions) (phase : Phase) (n size : ℕ) (pass : PassState) (m : Marked) (rooms : Rooms) (b : Broken) (ok : Bool) → rooms ≡ byte_rooms room bytes → b ≡ broken_limits s
    → (m.outcome ≡ judged_by rooms b s.progress c phase (marks n size)) × (ok ≡ accepted (judged_by rooms b s.progress c phase (marks n size)))
    × (m.progress ≡ taken (judged_by rooms b s.progress c phase (marks n size)) (grown s.progress phase (marks n size)) s.progress)
    → (m.at ≡ cond ok s.progress.commands 0) × (m.n ≡ cond ok n 0) → (m.put ≡ cond ok s.progress.bytes 0) × (m.size ≡ cond ok size 0)
    → m.pass ≡ cond ok pass s.pass → MarkedOf room bytes s c phase n size pass m
marked room bytes s c phase n size pass m rooms b ok r h v w x y =
    let o : Outcome = marked_outcome room bytes s c phase n size in
    let g : Progress = grown s.progress phase (marks n size) in
    let same : judged_by rooms b s.progress c phase (marks n size) ≡ o = rw (r, h) in
    let sure : ok ≡ accepted o = v.1 ∙ ap accepted same in
    record {
      said = v.0 ∙ same;
      left =
          ap (λ (p : PassState). with_pass p (with_progress m.progress s)) y ∙ pass-or-not ok pass s m.progress
          ∙ ap (λ (q : Progress). with_progress q (cond ok (with_pass pass s) s)) (v.2 ∙ ap (λ (z : Outcome). taken z g s.progress) same)
          ∙ ap (λ (t : Bool). with_progress (taken o g s.progress) (cond t (with_pass pass s) s)) sure
          ∙ moved-or-not o s (with_pass pass s) g;
      here = w.0 ∙ ap (λ (t : Bool). cond t s.progress.commands 0) sure;
      many = w.1 ∙ ap (λ (t : Bool). cond t n 0) sure;
      there = x.0 ∙ ap (λ (t : Bool). cond t s.progress.bytes 0) sure;
      long = x.1 ∙ ap (λ (t : Bool). cond t size 0) sure;
    }

-- ---- the answer, the commands and the bytes
module _ (room bytes : ℕ) (s : State) (c : Conditions) (phase : Phase) (cs : List Command) (bs : List ℕ) (pass : PassState) (m : Marked) where
  abbrev o : Outcome
  o = marked_outcome room bytes s c phase (length cs) (length bs)

  pub begun : MarkedOf room bytes s c phase (length cs) (length bs) pass m → (f : ℕ → Command) (g : ℕ → ℕ)
      → (accepted o ≡ true → (i : ℕ) → i < length cs → f i ≡ get_or cs i PopDebugGroup) → ((i : ℕ) → i < length bs → g i ≡ get_or bs i 0)
      → Answered s o (with_progress (grown s.progress phase (marks (length cs) (length bs))) (with_pass pass s)) m.outcome (with_pass m.pass (with_progress m.progress s))
      × Laid room s o cs m.at m.n f × Put bytes s.progress.bytes o bs 0 m.put m.size g
  begun k f g e h =
      let fits = fitting (byte_rooms room bytes) s c phase (marks (length cs) (length bs)) in (
        (k.said, k.left),
        put o room s.progress.commands cs PopDebugGroup m.at m.n f (λ t. (fits t).commands_fit) k.here k.many e,
        put o bytes s.progress.bytes bs 0 m.put m.size g (λ t. (fits t).bytes_fit) k.there k.long (λ t. h),
      )

  -- a command of it is written: it was carried through
  pub some-begun : MarkedOf room bytes s c phase (length cs) (length bs) pass m → (i : ℕ) → i < m.n → (accepted o ≡ true) × (i < length cs)
  some-begun k i h = go (accepted o) refl
    where
      go : (t : Bool) → accepted o ≡ t → (t ≡ true) × (i < length cs)
      go true e = (refl, subst (λ (x : ℕ). i < x) (rw e at k.many) h)
      go false e = none_below (subst (λ (x : ℕ). i < x) (rw e at k.many) h)

-- a plan that is right and written is the call
pub begun-done : (caps : PrivateCapabilities) (s : State) (c : Call) → ((r : Rooms) → (meaning caps s c).handed r ≡ byte_rooms r.commands r.bytes) → (meaning caps s c).queries ≡ []
    → (run run' : List Record) (bytes bytes' : List ℕ) (a : Answer) (outcome : Outcome) (next : State) (at n : ℕ) (f : ℕ → Command) (to size : ℕ) (g : ℕ → ℕ)
    → Answered s (outcome_of (byte_rooms (length run) (length bytes)) s (meaning caps s c)) (state_in (meaning caps s c)) outcome next
    × Laid (length run) s (outcome_of (byte_rooms (length run) (length bytes)) s (meaning caps s c)) (meaning caps s c).commands at n f
    × Put (length bytes) s.progress.bytes (outcome_of (byte_rooms (length run) (length bytes)) s (meaning caps s c)) (meaning caps s c).bytes 0 to size g
    → a ≡ record { outcome = outcome; state = next } → run' ≡ filled (λ i. record_of (f i)) run at n → bytes' ≡ filled g bytes to size → Marks caps s c run bytes a run' bytes'
begun-done caps s c handed no-queries run run' bytes bytes' a outcome next at n f to size g h e z w =
    marks-done caps s c handed no-queries run run' bytes bytes' a outcome next at n f h.0 h.1 e z
    (w ∙ numbers-put bytes s.progress.bytes (outcome_of (byte_rooms (length run) (length bytes)) s (meaning caps s c)) (meaning caps s c).bytes to size g h.2)
