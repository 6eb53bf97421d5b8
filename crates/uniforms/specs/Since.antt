-- The history of a recording, as far as immediates go: document 02, request 6, "or were not sent since the last pipeline call". Definitions only.
use Rattle.std.specs.Prelude.{ℕ, ◌+◌, ◌/◌, ◌≤◌, ◌<◌, Bool, true, false, cond, List, [], ◌∷◌, ◌++◌}
use Rattle.records.specs.Check.{some?}
use Rattle.records.specs.declared.check.Rooms.{Rooms}
use Rattle.records.specs.declared.command.Command.{Command}
use Rattle.records.specs.declared.command.ImmediateDesc.{ImmediateDesc}
use Rattle.records.specs.declared.pipeline.PrivateCapabilities.{PrivateCapabilities}
use Rattle.records.specs.declared.state.State.{State}
use Rattle.calls.specs.Call.{Call}
use Rattle.calls.specs.Step.{meaning, step}
use Rattle.book.specs.Book.{Fed}
use Rattle.book.specs.Run.{carried}
use Rattle.uniforms.specs.Uniforms.{Effect, uses, loads, neither, effect}
use Rattle.uniforms.specs.Kind.{Kind, begins, pipes, writes, other, kind_of}

-- a pipeline call brings new descriptors, and `begin_encoding` starts without any
abbrev pub renews : Kind → Bool
renews begins = true
renews (pipes p) = true
renews (writes offset ws) = false
renews other = false

abbrev pub is_write : Kind → Bool
is_write begins = false
is_write (pipes p) = false
is_write (writes offset ws) = true
is_write other = false

-- the accepted calls
unfoldable pub accepted_of : List Fed → List Call
accepted_of [] = []
accepted_of (f ∷ fs) = cond f.accepted (f.call ∷ accepted_of fs) (accepted_of fs)

-- those after the last that brings new descriptors; all of them, if none does
unfoldable pub since_last : List Call → List Call
since_last [] = []
since_last (c ∷ cs) = cond (some? (λ d. renews (kind_of d)) (c ∷ cs)) (cond (some? (λ d. renews (kind_of d)) cs) (since_last cs) cs) (c ∷ cs)

-- a `set_immediates` was accepted since
abbrev pub wrote_since : List Fed → Bool
wrote_since fs = some? (λ c. is_write (kind_of c)) (since_last (accepted_of fs))

-- "share a written word": one of the words from start to before end is one of the descriptor's
abbrev pub SharesOne : ℕ → ℕ → ImmediateDesc → Type 0
SharesOne start end d = (k : ℕ) × (start ≤ k) × (k < end) × (d.offset / 4 ≤ k) × (k < d.offset / 4 + d.size_bytes / 4)

-- the descriptors of a list's `SetImmediates` commands
abbrev pub sent_by : Effect → List ImmediateDesc
sent_by (uses p) = []
sent_by (loads d at) = d ∷ []
sent_by neither = []

unfoldable pub sent_in : List Command → List ImmediateDesc
sent_in [] = []
sent_in (c ∷ cs) = sent_by (effect c) ++ sent_in cs

-- the descriptors sent by the accepted calls since the last that brings new ones; ds were sent before
unfoldable pub sent_since : PrivateCapabilities → Rooms → State → List ImmediateDesc → List Call → List ImmediateDesc
sent_since caps rooms s ds [] = ds
sent_since caps rooms s ds (c ∷ cs) =
    sent_since caps rooms (step caps rooms s c).state (cond (carried caps rooms s c) (cond (renews (kind_of c)) [] (ds ++ sent_in (meaning caps s c).commands)) ds) cs
