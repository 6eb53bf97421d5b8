-- `set_immediates`: document 01, "Bindings and immediates", with document 02, request 6. Definitions only.
use Rattle.std.specs.Prelude.{ℕ, ◌+◌, ◌/◌, ◌%◌, ◌^◌, Bool, true, false, cond, not, ◌&&◌, ◌||◌, List, [], ◌∷◌, ◌++◌, ltb, leb, eqb, take, drop, length}
use Rattle.numbers.specs.Bytes.{bytes_of}
use Rattle.records.specs.declared.command.Command.{Command}
use Rattle.records.specs.declared.command.Command.TheVariants.{SetImmediates}
use Rattle.records.specs.declared.command.ImmediateDesc.{ImmediateDesc}
use Rattle.records.specs.declared.state.ImmediateState.{ImmediateState}

-- the words of a list from the place at on are those of ws
abbrev pub overwritten : List ℕ → ℕ → List ℕ → List ℕ
overwritten old at ws = take at old ++ (ws ++ drop (at + length ws) old)

abbrev pub descriptors_of : ImmediateState → List ImmediateDesc
descriptors_of i = take i.count i.descs

-- the state after the call: the words are written, and every descriptor has been sent since the last pipeline call
abbrev pub immediates_state : ImmediateState → ℕ → List ℕ → ImmediateState
immediates_state i offset ws = record { descs = i.descs; count = i.count; words = overwritten i.words (offset / 4) ws; sent = true }

-- the words of a descriptor
abbrev pub words_of : List ℕ → ImmediateDesc → List ℕ
words_of ws d = take (d.size_bytes / 4) (drop (d.offset / 4) ws)

-- whether a written range of words and a descriptor's share one, as the Rust tests it: always true (Overlap.antt)
abbrev pub overlaps : ℕ → ℕ → ImmediateDesc → Bool
overlaps start end d = ltb start (d.offset / 4 + d.size_bytes / 4) || leb (d.offset / 4) end

-- document 02, request 6, "only for a shared word": the words from start to before end and the descriptor's share one
abbrev pub shares_word : ℕ → ℕ → ImmediateDesc → Bool
shares_word start end d =
    ltb start end && ltb (d.offset / 4) (d.offset / 4 + d.size_bytes / 4) && ltb start (d.offset / 4 + d.size_bytes / 4) && ltb (d.offset / 4) end

-- "exactly the descriptors that share a written word or were not sent since the last pipeline call"
abbrev pub sends : Bool → ℕ → ℕ → ImmediateDesc → Bool
sends sent start end d = shares_word start end d || not sent

-- those that pass a test, "in their order"
unfoldable pub filter : (ImmediateDesc → Bool) → List ImmediateDesc → List ImmediateDesc
filter f [] = []
filter f (d ∷ ds) = cond (f d) (d ∷ filter f ds) (filter f ds)

-- the descriptors that a call sends which writes so many words from the byte offset on
abbrev pub sent_descriptors : ImmediateState → ℕ → ℕ → List ImmediateDesc
sent_descriptors i offset count = filter (sends i.sent (offset / 4) (offset / 4 + count)) (descriptors_of i)

-- the commands of the descriptors that are sent, each with its place in the marker bytes
unfoldable pub immediate_commands : List ImmediateDesc → ℕ → List Command
immediate_commands [] at = []
immediate_commands (d ∷ ds) at = SetImmediates d at ∷ immediate_commands ds (at + d.size_bytes)

unfoldable pub immediate_bytes : List ℕ → List ImmediateDesc → List ℕ
immediate_bytes ws [] = []
immediate_bytes ws (d ∷ ds) = bytes_of (words_of ws d) ++ immediate_bytes ws ds

-- 3: a byte offset that is no multiple of 4; first word plus count of words above 64
abbrev pub immediates_out_of_range : ℕ → ℕ → Bool
immediates_out_of_range offset count = not (eqb (offset % 4) 0) || ltb 64 (offset / 4 + count)

-- 6: the end of a descriptor's marker bytes past 32 bits, where they go from the place at on
unfoldable pub immediates_over : List ImmediateDesc → ℕ → Bool
immediates_over [] at = false
immediates_over (d ∷ ds) at = leb (2 ^ 32) (at + d.size_bytes) || immediates_over ds (at + d.size_bytes)
