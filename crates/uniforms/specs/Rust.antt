-- This recorder with the Rust's overlap test in place of request 6's: it sends every descriptor that passes. Definitions only.
-- Both lists are made from the same calls, and the same ones are carried through: the Rust has no limits of its own. Descriptors and words are those of this recorder's state, so the claim
-- does not rest on it (Claim.antt): it counts what is sent less (`its-fewer`), and the proof goes by it.
use Rattle.std.specs.Prelude.{ℕ, ◌+◌, ◌/◌, cond, List, [], ◌∷◌, ◌++◌, take, length}
use Rattle.records.specs.declared.check.Rooms.{Rooms}
use Rattle.records.specs.declared.command.Command.{Command}
use Rattle.records.specs.declared.command.ImmediateDesc.{ImmediateDesc}
use Rattle.records.specs.declared.pipeline.PrivateCapabilities.{PrivateCapabilities}
use Rattle.records.specs.declared.state.State.{State}
use Rattle.bindings.specs.Immediates.{overwritten, descriptors_of, overlaps, filter, immediate_commands, immediate_bytes}
use Rattle.pass.specs.Marks.{counted}
use Rattle.calls.specs.Call.{Call}
use Rattle.calls.specs.Meaning.{Meaning}
use Rattle.calls.specs.Parts.{with_progress}
use Rattle.calls.specs.Step.{meaning, step}
use Rattle.book.specs.Run.{carried, record_calls, begun}
use Rattle.uniforms.specs.Uniforms.{Machine, held}
use Rattle.uniforms.specs.Kind.{Kind, begins, pipes, writes, other, kind_of}

-- a command list and its marker bytes
pub record Lists : Type 0 where
  pub commands : List Command
  pub bytes : List ℕ

-- the state of a recorder whose lists are these
abbrev pub counting : Lists → State → State
counting l s = with_progress (record { phase = s.progress.phase; commands = length l.commands; bytes = length l.bytes; queries = s.progress.queries }) s

-- the descriptors that `set_immediates` of the Rust sends
abbrev pub rust_descriptors : State → ℕ → ℕ → List ImmediateDesc
rust_descriptors s offset count = filter (overlaps (offset / 4) (offset / 4 + count)) (descriptors_of s.immediates)

-- what a call appends in the Rust
abbrev pub rust_appends : Kind → State → Meaning → Lists
rust_appends begins s m = record { commands = m.commands; bytes = m.bytes }
rust_appends (pipes p) s m = record { commands = m.commands; bytes = m.bytes }
rust_appends (writes offset ws) s m =
    record {
      commands = immediate_commands (rust_descriptors s offset ws.count) s.progress.bytes;
      bytes = immediate_bytes (overwritten s.immediates.words (offset / 4) (counted ws)) (rust_descriptors s offset ws.count);
    }
rust_appends other s m = record { commands = m.commands; bytes = m.bytes }

-- behind what its state counts of the lists: `begin_encoding`, whose state counts nothing, starts new ones
abbrev pub rust_call : PrivateCapabilities → State → Lists → Call → Lists
rust_call caps s l c =
    let m = meaning caps (counting l s) c in
    let more = rust_appends (kind_of c) (counting l s) m in
    record {
      commands = take m.after.progress.commands l.commands ++ more.commands;
      bytes = take m.after.progress.bytes l.bytes ++ more.bytes;
    }

unfoldable pub rust_lists : PrivateCapabilities → Rooms → State → Lists → List Call → Lists
rust_lists caps rooms s l [] = l
rust_lists caps rooms s l (c ∷ cs) = rust_lists caps rooms (step caps rooms s c).state (cond (carried caps rooms s c) (rust_call caps s l c) l) cs

abbrev pub no_lists : Lists
no_lists = record { commands = []; bytes = [] }

-- ---- what the machine holds after the calls that follow an accepted `begin_encoding`: by this recorder's list, and by the Rust's
abbrev pub ours : PrivateCapabilities → Rooms → State → List Call → Machine
ours caps rooms s calls =
    let r = record_calls caps rooms (begun caps rooms s) calls in
    held r.bytes r.list

abbrev pub rusts : PrivateCapabilities → Rooms → State → List Call → Machine
rusts caps rooms s calls =
    let l = rust_lists caps rooms (begun caps rooms s).state no_lists calls in
    held l.bytes l.commands
