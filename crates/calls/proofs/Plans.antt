-- What the plans of the calls come to. Assumes nothing.
use Prim.Native.Nat.{ℕ, zero, suc, ◌+◌, ◌<◌, ◌≤◌, zero-le}
use mathlib.Core.Bool.{Bool, true, false, cond}
use mathlib.Core.List.{List}
use mathlib.Core.Path.{◌≡◌, refl, sym, ap, ◌∙◌, subst}
use native.Mathlib.Omega.{arith}
use lib.ListN.{length, get_or}
use Rattle.records.specs.Outcome.{accepted}
use Rattle.records.specs.Check.{broken_limits}
use Rattle.records.specs.declared.check.Broken.{Broken}
use Rattle.records.specs.declared.command.Command.{Command}
use Rattle.records.specs.declared.command.Command.TheVariants.{PopDebugGroup}
use Rattle.records.specs.declared.outcome.Conditions.{Conditions}
use Rattle.records.specs.declared.outcome.Outcome.{Outcome}
use Rattle.records.specs.declared.state.Phase.{Phase}
use Rattle.records.specs.declared.state.Progress.{Progress}
use Rattle.records.specs.declared.state.State.{State}
use Rattle.records.specs.declared.check.Rooms.{Rooms}
use Rattle.calls.specs.declared.judge.Counts.{Counts}
use Rattle.calls.specs.Judge.{grown, judged, judged_by, taken}
use Rattle.pipeline.specs.Fixed.{only}
use Rattle.calls.specs.Parts.{with_progress}
use Rattle.calls.specs.Planned.{list_rooms, commands_only, Put, Laid}
use Rattle.calls.proofs.Judged.{fitting}

-- the state with the new progress, or as it was
pub moved-or-not : (o : Outcome) (s after : State) (p : Progress) → with_progress (taken o p s.progress) (taken o after s) ≡ taken o (with_progress p after) s
moved-or-not o s after p = go (accepted o)
  where
    go : (t : Bool) → with_progress (cond t p s.progress) (cond t after s) ≡ cond t (with_progress p after) s
    go true = refl
    go false = refl

either_way : {X : Type 0} (t : Bool) (x : X) → cond t x x ≡ x
either_way true x = refl
either_way false x = refl

-- a call that leaves the state but for its progress
pub stays_put : (o : Outcome) (s : State) (p g : Progress) → p ≡ taken o g s.progress → with_progress p s ≡ taken o (with_progress g s) s
stays_put o s p g e =
    ap (λ (q : Progress). with_progress q s) e ∙ ap (with_progress (taken o g s.progress)) (sym (either_way (accepted o) s)) ∙ moved-or-not o s s g

none_below : {X : Type 0} {i : ℕ} → i < 0 → X
none_below h = absurd (omega arith)

-- what a call puts into a run, where at and count are the verdict's
pub put : {X : Type 0} (o : Outcome) (room used : ℕ) (xs : List X) (none : X) (at n : ℕ) (f : ℕ → X) → (accepted o ≡ true → used + length xs ≤ room)
    → at ≡ cond (accepted o) used 0 → n ≡ cond (accepted o) (length xs) 0 → (accepted o ≡ true → (i : ℕ) → i < length xs → f i ≡ get_or xs i none) → Put room used o xs none at n f
put o room used xs none at n f l a m e = go (accepted o) refl
  where
    go : (t : Bool) → accepted o ≡ t → Put room used o xs none at n f
    go true k =
        let here : at ≡ used = rw k at a in
        let many : n ≡ length xs = rw k at m in
        record {
          count = rw k many;
          fits = rw (here, many) (l k);
          behind = λ h. here;
          each = λ i h. rw k (e k i (subst (λ (x : ℕ). i < x) many h));
        }
    go false k =
        let here : at ≡ 0 = rw k at a in
        let many : n ≡ 0 = rw k at m in
        record {
          count = rw k many;
          fits = rw (here, many) (zero-le);
          behind = λ h. none_below (subst (λ (x : ℕ). 0 < x) many h);
          each = λ i h. none_below (subst (λ (x : ℕ). i < x) many h);
        }

-- the commands of a call that ends in a phase
module _ (room : ℕ) (s : State) (c : Conditions) (phase : Phase) (cs : List Command) where
  abbrev outcome : Outcome
  outcome = judged (list_rooms room) s c phase (commands_only (length cs))

  pub laid : (at n : ℕ) (f : ℕ → Command) → at ≡ cond (accepted outcome) s.progress.commands 0 → n ≡ cond (accepted outcome) (length cs) 0
      → (accepted outcome ≡ true → (i : ℕ) → i < length cs → f i ≡ get_or cs i PopDebugGroup) → Laid room s outcome cs at n f
  laid at n f = put outcome room s.progress.commands cs PopDebugGroup at n f (λ k. (fitting (list_rooms room) s c phase (commands_only (length cs)) k).commands_fit)

  -- the verdict, and where the commands go, as a plan works them out
  pub record Found (o : Outcome) (ok : Bool) (p : Progress) (at n : ℕ) : Type 0 where
    pub said : o ≡ outcome
    pub sure : ok ≡ accepted outcome
    pub left : p ≡ taken outcome (grown s.progress phase (commands_only (length cs))) s.progress
    pub here : at ≡ cond (accepted outcome) s.progress.commands 0
    pub many : n ≡ cond (accepted outcome) (length cs) 0

  pub found : (rooms : Rooms) (b : Broken) (k : ℕ) (more : Counts) {o : Outcome} (ok : Bool) {p : Progress} {at n : ℕ}
      → rooms ≡ list_rooms room → b ≡ broken_limits s → k ≡ length cs → more ≡ commands_only k
      → (o ≡ judged_by rooms b s.progress c phase more) × (ok ≡ accepted (judged_by rooms b s.progress c phase more))
      × (p ≡ taken (judged_by rooms b s.progress c phase more) (grown s.progress phase more) s.progress)
      → (at ≡ cond ok s.progress.commands 0) × (n ≡ cond ok k 0) → Found o ok p at n
  found rooms b k more ok r h l m v w =
      let e : more ≡ commands_only (length cs) = m ∙ ap commands_only l in
      let same : judged_by rooms b s.progress c phase more ≡ outcome = rw (r, h, e) in
      record {
        said = v.0 ∙ same;
        sure = v.1 ∙ ap accepted same;
        left = v.2 ∙ rw (same, e);
        here = w.0 ∙ ap (λ (t : Bool). cond t s.progress.commands 0) (v.1 ∙ ap accepted same);
        many = w.1 ∙ ap (λ (x : ℕ). cond ok x 0) l ∙ ap (λ (t : Bool). cond t (length cs) 0) (v.1 ∙ ap accepted same);
      }

  -- a command of it is written: it was carried through
  pub some_written : {o : Outcome} {ok : Bool} {p : Progress} {at n : ℕ} → Found o ok p at n → (i : ℕ) → i < n → (accepted outcome ≡ true) × (i < length cs)
  some_written {n = n} k i h = go (accepted outcome) refl
    where
      go : (t : Bool) → accepted outcome ≡ t → (t ≡ true) × (i < length cs)
      go true e = (refl, subst (λ (x : ℕ). i < x) (rw e at k.many) h)
      go false e = none_below (subst (λ (x : ℕ). i < x) (rw e at k.many) h)

  -- the state that a call leaves which makes `after` of it, the progress aside
  pub next : {o : Outcome} {ok : Bool} {p : Progress} {at n : ℕ} → Found o ok p at n → (after x : State) → x ≡ with_progress p (taken outcome after s)
      → x ≡ taken outcome (with_progress (grown s.progress phase (commands_only (length cs))) after) s
  next k after x e =
      e ∙ ap (λ (q : Progress). with_progress q (taken outcome after s)) k.left ∙ moved-or-not outcome s after (grown s.progress phase (commands_only (length cs)))

  -- and of one that leaves it
  pub same : {o : Outcome} {ok : Bool} {p : Progress} {at n : ℕ} → Found o ok p at n → (x : State) → x ≡ with_progress p s
      → x ≡ taken outcome (with_progress (grown s.progress phase (commands_only (length cs))) s) s
  same k x e = next k s x (e ∙ ap (with_progress _) (sym (either_way (accepted outcome) s)))

-- the one command of a call
pub only_at : (some : Bool) (c : Command) (i : ℕ) → i < length (only some c) → c ≡ get_or (only some c) i PopDebugGroup
only_at true c zero h = refl
only_at true c (suc i) h = absurd (omega arith)
only_at false c i h = none_below h
