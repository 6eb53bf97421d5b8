-- Worked lists of immediates: the calls after `begin_encoding`, and what is sent, where its bytes are, and what is refused. Definitions only; `all-rows` (proofs/Witness.antt) computes them.
use Rattle.std.specs.Prelude.{ℕ, cond, List, [], ◌∷◌, ◌++◌, replicate}
use Rattle.records.specs.Outcome.{number}
use Rattle.records.specs.Start.{start_state}
use Rattle.records.specs.declared.command.Command.{Command}
use Rattle.records.specs.declared.command.ImmediateDesc.{ImmediateDesc}
use Rattle.records.specs.declared.state.State.{State}
use Rattle.calls.specs.Call.{Call, begin_encoding, end_encoding, end_render_pass, end_compute_pass, set_compute_pipeline, set_immediates}
use Rattle.calls.specs.Step.{step}
use Rattle.book.specs.Run.{carried, record_calls, begun}
use Rattle.cases.specs.Samples.{emulated, rooms, lent, inner_of, bare_pass}
use Rattle.cases.specs.EdgeSamples.{compute, sending}
use Rattle.uniforms.specs.Uniforms.{Effect, uses, loads, neither, effect}

-- ---- what is looked at
-- a descriptor that is sent, and the place of its bytes
pub record Sent : Type 0 where
  pub desc : ImmediateDesc
  pub place : ℕ

abbrev pub sent_with : Effect → List Sent
sent_with (uses p) = []
sent_with (loads d at) = record { desc = d; place = at } ∷ []
sent_with neither = []

unfoldable pub sents : List Command → List Sent
sents [] = []
sents (c ∷ cs) = sent_with (effect c) ++ sents cs

-- the numbers of the calls that are not carried through
unfoldable pub refusals : State → List Call → List ℕ
refusals s [] = []
refusals s (c ∷ cs) = cond (carried emulated rooms s c) [] (number (step emulated rooms s c).outcome ∷ []) ++ refusals (step emulated rooms s c).state cs

pub record Shown : Type 0 where
  pub sent : List Sent
  pub bytes : List ℕ
  pub refused : List ℕ

-- a row: the calls after `begin_encoding`, and what shows of them
pub record Row : Type 0 where
  pub calls : List Call
  pub shown : Shown

abbrev pub seen : Row → Shown
seen r =
    record {
      sent = sents (record_calls emulated rooms (begun emulated rooms start_state) r.calls).list;
      bytes = (record_calls emulated rooms (begun emulated rooms start_state) r.calls).bytes;
      refused = refusals (begun emulated rooms start_state).state r.calls;
    }

abbrev pub said : Row → Shown
said r = r.shown

-- ---- descriptors and calls
-- a float at word 0, a vector of two at words 2 and 3, and a size of 0 at word 1
abbrev pub sun : ImmediateDesc
sun = record { location = 7; ty = 5126; offset = 0; size_bytes = 4 }

abbrev pub wind : ImmediateDesc
wind = record { location = 8; ty = 35664; offset = 8; size_bytes = 8 }

abbrev pub nothing : ImmediateDesc
nothing = record { location = 9; ty = 5126; offset = 4; size_bytes = 0 }

abbrev at : ℕ → ImmediateDesc → Sent
at n d = record { desc = d; place = n }

-- words from a word on
abbrev pub write : ℕ → List ℕ → Call
write offset ws = set_immediates offset (lent ws)

-- a compute pipeline of program 3
abbrev computing : List ImmediateDesc → Call
computing ds = set_compute_pipeline (record { inner = inner_of 3 [] ds })

-- a word's bytes, where it is small
abbrev word : ℕ → List ℕ
word n = n ∷ 0 ∷ 0 ∷ 0 ∷ []

abbrev row : List Call → List Sent → List ℕ → List ℕ → Row
row calls sent bytes refused = record { calls = calls; shown = record { sent = sent; bytes = bytes; refused = refused } }

abbrev pub sliding : List Call
sliding =
    bare_pass
    ∷ sending (sun ∷ wind ∷ nothing ∷ [])
    ∷ write 0 (5 ∷ [])
    ∷ write 0 (6 ∷ [])
    ∷ write 4 (9 ∷ [])
    ∷ write 8 []
    ∷ write 2 (4 ∷ [])
    ∷ sending (sun ∷ wind ∷ nothing ∷ [])
    ∷ write 8 []
    ∷ []

abbrev pub rows : List Row
rows =
    -- the slider: the first call sends all, then the word that moved alone; an unused word and no word send nothing; a new pipeline call has all sent again
    row sliding (at 0 sun ∷ at 4 wind ∷ at 12 nothing ∷ at 12 sun ∷ at 16 sun ∷ at 20 wind ∷ at 28 nothing ∷ []) (word 5 ++ word 0 ++ word 0 ++ word 6 ++ word 6 ++ word 0 ++ word 0) (3 ∷ [])
    -- no word, before and after the first sending
    ∷ row (bare_pass ∷ sending (sun ∷ wind ∷ []) ∷ write 0 [] ∷ []) (at 0 sun ∷ at 4 wind ∷ []) (replicate 12 0) []
    ∷ row (bare_pass ∷ sending (sun ∷ wind ∷ []) ∷ write 0 [] ∷ write 0 [] ∷ write 8 [] ∷ []) (at 0 sun ∷ at 4 wind ∷ []) (replicate 12 0) []
    -- a size of 0 shares no word
    ∷ row (bare_pass ∷ sending (nothing ∷ []) ∷ write 0 (1 ∷ 2 ∷ 3 ∷ []) ∷ write 4 (7 ∷ []) ∷ []) (at 0 nothing ∷ []) [] []
    -- a word that only touches, below and above; the first and the last word
    ∷ row (bare_pass ∷ sending (wind ∷ []) ∷ write 8 (1 ∷ 2 ∷ []) ∷ write 4 (9 ∷ []) ∷ []) (at 0 wind ∷ []) (word 1 ++ word 2) []
    ∷ row (bare_pass ∷ sending (wind ∷ []) ∷ write 8 (1 ∷ 2 ∷ []) ∷ write 16 (9 ∷ []) ∷ []) (at 0 wind ∷ []) (word 1 ++ word 2) []
    ∷ row (bare_pass ∷ sending (wind ∷ []) ∷ write 8 (1 ∷ 2 ∷ []) ∷ write 4 (9 ∷ 3 ∷ []) ∷ []) (at 0 wind ∷ at 8 wind ∷ []) (word 1 ++ word 2 ++ word 3 ++ word 2) []
    ∷ row (bare_pass ∷ sending (wind ∷ []) ∷ write 8 (1 ∷ 2 ∷ []) ∷ write 12 (3 ∷ 9 ∷ []) ∷ []) (at 0 wind ∷ at 8 wind ∷ []) (word 1 ++ word 2 ++ word 1 ++ word 3) []
    -- a refused call between writes nothing and sends nothing; as the first it leaves all unsent
    ∷ row (bare_pass ∷ sending (sun ∷ wind ∷ []) ∷ write 0 (5 ∷ []) ∷ write 2 (6 ∷ []) ∷ write 8 (1 ∷ []) ∷ []) (at 0 sun ∷ at 4 wind ∷ at 12 wind ∷ [])
    (word 5 ++ word 0 ++ word 0 ++ word 1 ++ word 0) (3 ∷ [])
    ∷ row (bare_pass ∷ sending (sun ∷ wind ∷ []) ∷ write 2 (6 ∷ []) ∷ write 16 (1 ∷ []) ∷ []) (at 0 sun ∷ at 4 wind ∷ []) (replicate 12 0) (3 ∷ [])
    -- the same pipeline again
    ∷ row (bare_pass ∷ sending (sun ∷ wind ∷ []) ∷ write 0 (5 ∷ []) ∷ sending (sun ∷ wind ∷ []) ∷ write 0 (6 ∷ []) ∷ []) (at 0 sun ∷ at 4 wind ∷ at 12 sun ∷ at 16 wind ∷ [])
    (word 5 ++ word 0 ++ word 0 ++ word 6 ++ word 0 ++ word 0) []
    -- a render pipeline, a compute pipeline in its own pass, the render pipeline again
    ∷ row
    (bare_pass
    ∷ sending (sun ∷ [])
    ∷ write 0 (5 ∷ [])
    ∷ end_render_pass
    ∷ compute
    ∷ computing (wind ∷ [])
    ∷ write 8 (1 ∷ 2 ∷ [])
    ∷ end_compute_pass
    ∷ bare_pass
    ∷ sending (sun ∷ [])
    ∷ write 8 []
    ∷ [])
    (at 0 sun ∷ at 4 wind ∷ at 12 sun ∷ []) (word 5 ++ word 1 ++ word 2 ++ word 5) []
    -- a pass that ends and one that begins between: nothing is sent again
    ∷ row (bare_pass ∷ sending (sun ∷ wind ∷ []) ∷ write 0 (5 ∷ []) ∷ end_render_pass ∷ bare_pass ∷ write 4 (9 ∷ []) ∷ write 0 (6 ∷ []) ∷ []) (at 0 sun ∷ at 4 wind ∷ at 12 sun ∷ [])
    (word 5 ++ word 0 ++ word 0 ++ word 6) []
    -- words written under an earlier pipeline go out with the first call after the new one
    ∷ row (bare_pass ∷ sending (sun ∷ []) ∷ write 0 (5 ∷ 6 ∷ 7 ∷ 8 ∷ []) ∷ sending (wind ∷ []) ∷ write 0 [] ∷ []) (at 0 sun ∷ at 4 wind ∷ []) (word 5 ++ word 7 ++ word 8) []
    -- `begin_encoding` starts new lists, with all words 0
    ∷ row (bare_pass ∷ sending (sun ∷ []) ∷ write 0 (5 ∷ []) ∷ end_render_pass ∷ end_encoding ∷ begin_encoding ∷ bare_pass ∷ sending (sun ∷ []) ∷ write 4 [] ∷ []) (at 0 sun ∷ []) (word 0) []
    ∷ []
