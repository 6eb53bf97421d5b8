-- Plans that are right: how a plan comes to be, and that written it is the call. Assumes nothing.
use Prim.Native.Nat.{ℕ, ◌<◌, ◌≤◌}
use mathlib.Core.Bool.{Bool, cond}
use mathlib.Core.List.{List, []}
use mathlib.Core.Path.{◌≡◌, sym, ap, ◌∙◌, subst}
use lib.ListN.{length, get_or}
use Rattle.walks.specs.Fill.{filled}
use Rattle.records.specs.declared.check.Rooms.{Rooms}
use Rattle.records.specs.declared.command.Command.{Command}
use Rattle.records.specs.declared.command.Command.TheVariants.{PopDebugGroup}
use Rattle.records.specs.declared.command.Record.{Record}
use Rattle.records.specs.declared.outcome.Conditions.{Conditions}
use Rattle.records.specs.declared.outcome.Outcome.{Outcome}
use Rattle.records.specs.declared.pipeline.PrivateCapabilities.{PrivateCapabilities}
use Rattle.records.specs.declared.state.Answer.{Answer}
use Rattle.records.specs.declared.state.Progress.{Progress}
use Rattle.records.specs.declared.state.State.{State}
use Rattle.slots.specs.Place.{Stands}
use Rattle.calls.specs.Call.{Call}
use Rattle.calls.specs.Did.{Lists, record_of}
use Rattle.calls.specs.Parts.{with_progress}
use Rattle.calls.specs.Planned.{list_rooms, listed, moved, Laid, Answered}
use Rattle.calls.specs.Step.{meaning}
use Rattle.calls.proofs.Listed.{lists-done}
use Rattle.calls.proofs.Plans.{Found, laid, next, some_written}
use Rattle.calls.specs.Planned.{Right}

-- a call that stays in its phase, by its verdict
module _ (room : ℕ) (s : State) (asks : Conditions) (cs : List Command) where
  abbrev verdict : Outcome
  verdict = listed room s asks (length cs)

  -- `ds` are the commands that the batch holds
  pub right : {o : Outcome} {ok : Bool} {p : Progress} {at n : ℕ} → Found room s asks s.progress.phase cs o ok p at n → (after x : State) → x ≡ with_progress p (cond ok after s)
      → {ds : List Command} → ds ≡ cs → (allowed : ℕ → Type 0) → ((i : ℕ) → i < length ds → allowed i)
      → Answered s verdict (moved s (length cs) after) o x × Laid room s verdict cs at n (λ i. get_or ds i PopDebugGroup) × ((i : ℕ) → i < n → allowed i)
  right {p = p} k after x e {ds = ds} same allowed may = (
    (k.said, next room s asks s.progress.phase cs k after x (e ∙ ap (λ (t : Bool). with_progress p (cond t after s)) k.sure)),
    laid room s asks s.progress.phase cs _ _ (λ i. get_or ds i PopDebugGroup) k.here k.many (λ h i l. ap (λ (l : List Command). get_or l i PopDebugGroup) same),
    λ i h. may i (subst (λ (l : List Command). i < length l) (sym same) (some_written room s asks s.progress.phase cs k i h).1),
  )

-- how many the batch holds
pub no_more : {most n : ℕ} {cs ds : List Command} → ds ≡ cs → n ≡ length cs → n ≤ most → length ds ≤ most
no_more {most = most} e l h = subst (λ (l : List Command). length l ≤ most) (sym e) (subst (λ (k : ℕ). k ≤ most) l h)

-- a command by its place, in the batch
pub stands-in : {cs ds : List Command} {c : Command} {i : ℕ} → ds ≡ cs → Stands c i cs → i < length ds → c ≡ get_or ds i PopDebugGroup
stands-in {i = i} e h l = h (subst (λ (x : List Command). i < length x) e l) PopDebugGroup ∙ ap (λ (x : List Command). get_or x i PopDebugGroup) (sym e)

-- a plan that is right, written, is the call
pub done : (caps : PrivateCapabilities) (s : State) (c : Call) → ((r : Rooms) → (meaning caps s c).handed r ≡ list_rooms r.commands) → (meaning caps s c).bytes ≡ [] → (meaning caps s c).queries ≡ []
    → (run run' : List Record) (a : Answer) (outcome : Outcome) (x : State) (at n : ℕ) (f : ℕ → Command) (allowed : ℕ → Type 0) → Right (length run) s (meaning caps s c) outcome x at n f allowed
    → a ≡ record { outcome = outcome; state = x } → run' ≡ filled (λ i. record_of (f i)) run at n → Lists caps s c run a run'
done caps s c alone no_bytes no-queries run run' a outcome x at n f allowed h e w =
    lists-done caps s c alone no_bytes no-queries run run' a outcome x at n f h.0 h.1 e w
