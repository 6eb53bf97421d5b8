-- WHAT IS CLAIMED (document 02, request 6), as three types, of the answers, states and runs that the functions hand back, for every list of calls, refused ones included.
-- The theorems that have them: `uniforms-told-of-run`, `sends-of-run`, `uniforms-hold-of-run` (proofs/ToldHolds.antt, SendsOfRun.antt). What the Rust's list puts into the uniforms, which
-- descriptors there are, which words, and what was sent since is told from the accepted calls alone (Told.antt, Since.antt); what a list does is the machine's (Uniforms.antt). Definitions only.
use Rattle.std.specs.Prelude.{ℕ, ◌+◌, ◌-◌, ◌/◌, ◌≡◌, true, false, List, [], ◌∷◌, map, ◌⊎◌, take, drop, Some}
use Rattle.records.specs.declared.command.Command.{Command}
use Rattle.records.specs.declared.command.Command.TheVariants.{SetImmediates}
use Rattle.records.specs.declared.command.ImmediateDesc.{ImmediateDesc}
use Rattle.records.specs.declared.command.Record.{Record}
use Rattle.records.specs.declared.outcome.Outcome.TheVariants.{Done}
use Rattle.records.specs.declared.pipeline.PrivateCapabilities.{PrivateCapabilities}
use Rattle.records.specs.declared.state.Answer.{Answer}
use Rattle.records.specs.declared.state.State.{State}
use Rattle.pass.specs.Marks.{Lent}
use Rattle.calls.specs.Call.{Call, begin_encoding, set_immediates}
use Rattle.calls.specs.Did.{Runs, Did}
use Rattle.machine.specs.Each.{Each}
use Rattle.book.specs.Ran.{Ran, answers, commands_of, marks_of}
use Rattle.uniforms.specs.Uniforms.{Machine, held}
use Rattle.uniforms.specs.Kind.{Apartness}
use Rattle.uniforms.specs.Since.{wrote_since, SharesOne}
use Rattle.uniforms.specs.Told.{untold, value_told, told}

-- what the machine holds after the used part of the runs
abbrev pub held_after : State → Runs → Machine
held_after s r = held (marks_of s r) (commands_of s r)

-- "After each such call every uniform of the current program holds what the Rust's list would have put there": after every call, of every program, and the same program is current
abbrev pub UniformsToldOfRun : Type 0
UniformsToldOfRun =
    (caps : PrivateCapabilities) (s₀ s' : State) (r₀ r r' : Runs) (a : Answer) (calls : List Call)
    → Did caps s₀ r₀ begin_encoding a r → a.outcome ≡ Done → (R : Ran caps a.state r calls s' r') → Apartness (answers R)
    → ((held_after s' r').program ≡ (told untold (answers R)).program) × ((p l : ℕ) → (held_after s' r').uniform p l ≡ (told untold (answers R)).uniform p l)

-- the commands send, in their order, exactly those of the descriptors that have the property
pub data Sends (P : ImmediateDesc → Type 0) : List ImmediateDesc → List Command → Type 0 where
  none : Sends P [] []
  sent : {d : ImmediateDesc} {ds : List ImmediateDesc} {cs : List Command} (at : ℕ) → P d → Sends P ds cs → Sends P (d ∷ ds) (SetImmediates d at ∷ cs)
  kept : {d : ImmediateDesc} {ds : List ImmediateDesc} {cs : List Command} → (P d → ⊥) → Sends P ds cs → Sends P (d ∷ ds) cs

-- the part of the list between the count before a call and the count after it
abbrev pub appended_by : State → Answer → Runs → List Command
appended_by s a r = map (λ (x : Record). x.command) (take (a.state.progress.commands - s.progress.commands) (drop s.progress.commands r.commands))

-- "`set_immediates` then sends, in their order, exactly the descriptors that share a written word or were not sent since the last pipeline call", whose descriptors these are
abbrev pub SendsOfRun : Type 0
SendsOfRun =
    (caps : PrivateCapabilities) (s₀ s' : State) (r₀ r r' : Runs) (a : Answer) (calls : List Call)
    → Did caps s₀ r₀ begin_encoding a r → a.outcome ≡ Done → (R : Ran caps a.state r calls s' r')
    → (offset : ℕ) (ws : Lent) (b : Answer) (r'' : Runs) → Did caps s' r' (set_immediates offset ws) b r'' → b.outcome ≡ Done
    → Sends (λ d. SharesOne (offset / 4) (offset / 4 + ws.count) d ⊎ (wrote_since (answers R) ≡ false)) (told untold (answers R)).descs (appended_by s' b r'')

-- once sent, each descriptor's uniform of the current program holds the present words
abbrev pub UniformsHoldOfRun : Type 0
UniformsHoldOfRun =
    (caps : PrivateCapabilities) (s₀ s' : State) (r₀ r r' : Runs) (a : Answer) (calls : List Call)
    → Did caps s₀ r₀ begin_encoding a r → a.outcome ≡ Done → (R : Ran caps a.state r calls s' r') → Apartness (answers R)
    → let t = told untold (answers R) in
    wrote_since (answers R) ≡ true → (p : ℕ) → t.program ≡ Some p → Each (λ (d : ImmediateDesc). (held_after s' r').uniform p d.location ≡ Some (value_told t.word d)) t.descs
