-- A list and its marker bytes, and what a call appends to them. Assumes nothing.
use Prim.Native.Nat.{ℕ, ◌+◌, ◌≤◌}
use mathlib.Core.Path.{◌≡◌, refl, sym, ap, ap₂, ◌∙◌, subst}
use mathlib.Core.Bool.{false}
use mathlib.Core.List.{List, ◌++◌}
use native.Mathlib.Omega.{arith}
use lib.ListN.{take, length, length-append}
use lib.Seq.{take-length, length-take-le}
use Rattle.records.specs.Check.{some?, bad_descriptor}
use Rattle.records.specs.declared.command.Command.{Command}
use Rattle.records.specs.declared.command.ImmediateDesc.{ImmediateDesc}
use Rattle.records.specs.declared.state.Progress.{Progress}
use Rattle.records.specs.declared.state.State.{State}
use Rattle.bindings.specs.Immediates.{immediate_commands, immediate_bytes}
use Rattle.calls.specs.Meaning.{Meaning}
use Rattle.calls.specs.Parts.{with_progress}
use Rattle.calls.specs.Step.{progress_after}
use Rattle.uniforms.specs.Uniforms.{Machine, fresh, play, held}
use Rattle.uniforms.specs.Rust.{Lists, no_lists}
use Rattle.uniforms.proofs.Plays.{Within, within-append, play-append, play-more, play-sent, within-sent, Acts}
use Rattle.uniforms.proofs.Means.{Begins}
use Rattle.uniforms.proofs.Kept.{loaded_by}

abbrev pub held_by : Lists → Machine
held_by l = held l.bytes l.commands

pub record Sound (s : State) (l : Lists) : Type 0 where
  pub commands : length l.commands ≡ s.progress.commands
  pub bytes : length l.bytes ≡ s.progress.bytes
  pub within : Within l.bytes l.commands

abbrev pub extended : Lists → Meaning → Lists → Lists
extended l m more = record { commands = take m.after.progress.commands l.commands ++ more.commands; bytes = take m.after.progress.bytes l.bytes ++ more.bytes }

abbrev joined : Lists → Lists → Lists
joined l more = record { commands = l.commands ++ more.commands; bytes = l.bytes ++ more.bytes }

abbrev pub appends : Meaning → Lists
appends m = record { commands = m.commands; bytes = m.bytes }

-- the commands of the descriptors that are sent, from a place on, with their bytes
abbrev pub sending : List ℕ → List ImmediateDesc → ℕ → Lists
sending w ds at = record { commands = immediate_commands ds at; bytes = immediate_bytes w ds }

-- what is behind a list does that to the machine
pub record After (l next : Lists) (f : Machine → Machine) : Type 0 where
  pub does : held_by next ≡ f (held_by l)
  pub within : Within next.bytes next.commands

-- all of the list is kept
whole : (s : State) (l : Lists) (m : Meaning) (more : Lists) → Sound s l → m.after.progress ≡ s.progress → extended l m more ≡ joined l more
whole s l m more S e =
    ap₂ (λ (x : List Command) (y : List ℕ). record { commands = x ++ more.commands; bytes = y ++ more.bytes })
    (all l.commands m.after.progress.commands (ap (λ (x : Progress). x.commands) e ∙ sym S.commands))
    (all l.bytes m.after.progress.bytes (ap (λ (x : Progress). x.bytes) e ∙ sym S.bytes))
  where
    all : {A : Type 0} (xs : List A) (k : ℕ) → k ≡ length xs → take k xs ≡ xs
    all xs k q = ap (λ (j : ℕ). take j xs) q ∙ take-length xs

held-joined : (l more : Lists) → Within l.bytes l.commands → held_by (joined l more) ≡ play (l.bytes ++ more.bytes) (held_by l) more.commands
held-joined l more v =
    play-append (l.bytes ++ more.bytes) fresh l.commands more.commands
    ∙ ap (λ (x : Machine). play (l.bytes ++ more.bytes) x more.commands) (play-more l.bytes more.bytes fresh l.commands v)

pub after-acts : (s : State) (l : Lists) (m : Meaning) (more : Lists) (f : Machine → Machine) → Sound s l → m.after.progress ≡ s.progress → Acts f more.commands → After l (extended l m more) f
after-acts s l m more f S e a =
    subst (λ (x : Lists). After l x f) (sym (whole s l m more S e))
    (record {
      does = held-joined l more S.within ∙ a.plays (l.bytes ++ more.bytes) (held_by l);
      within = within-append l.bytes more.bytes l.commands more.commands S.within (a.within (l.bytes ++ more.bytes));
    })

pub after-sent : (s : State) (l : Lists) (m : Meaning) (w : List ℕ) (ds : List ImmediateDesc) → Sound s l → m.after.progress ≡ s.progress → length w ≡ 64 → some? bad_descriptor ds ≡ false
    → After l (extended l m (sending w ds s.progress.bytes)) (loaded_by w ds)
after-sent s l m w ds S e h g =
    subst (λ (k : ℕ). After l (extended l m (sending w ds k)) (loaded_by w ds)) S.bytes
    (subst (λ (x : Lists). After l x (loaded_by w ds)) (sym (whole s l m more S e))
    (record {
      does = held-joined l more S.within ∙ play-sent l.bytes w (held_by l) ds h g;
      within = within-append l.bytes (immediate_bytes w ds) l.commands more.commands S.within (within-sent l.bytes w ds h g);
    }))
  where
    more : Lists
    more = sending w ds (length l.bytes)

pub after-begins : (l : Lists) (m : Meaning) → Begins m → After l (extended l m (appends m)) (λ x. fresh)
unfolding play
after-begins l m B = subst (λ (x : Lists). After l x (λ y. fresh)) (sym empty) (record { does = refl; within = tt })
  where
    empty : extended l m (appends m) ≡ no_lists
    empty = λ j. record { commands = take (B.progress j).commands l.commands ++ B.commands j; bytes = take (B.progress j).bytes l.bytes ++ B.bytes j }

-- the counts that a carried-through call leaves
pub sound-next : (s : State) (l : Lists) (m : Meaning) → Sound s l → (m.after.progress.commands ≤ s.progress.commands) × (m.after.progress.bytes ≤ s.progress.bytes)
    → Within (extended l m (appends m)).bytes (extended l m (appends m)).commands → Sound (with_progress (progress_after m) m.after) (extended l m (appends m))
sound-next s l m S b v =
    record {
      commands = more l.commands m.commands m.after.progress.commands s.progress.commands S.commands b.0;
      bytes = more l.bytes m.bytes m.after.progress.bytes s.progress.bytes S.bytes b.1;
      within = v;
    }
  where
    more : {A : Type 0} (xs ys : List A) (k n : ℕ) → length xs ≡ n → k ≤ n → length (take k xs ++ ys) ≡ k + length ys
    more xs ys k n e h = length-append (take k xs) ys ∙ ap (λ (j : ℕ). j + length ys) (length-take-le k xs (omega arith))
