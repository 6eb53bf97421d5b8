-- Transitions, clears, copies, queries, dispatches: the calls with no state of their own. Definitions only.
use Rattle.std.specs.Prelude.{ℕ, ◌+◌, ◌*◌, ◌-◌, ◌^◌, Bool, cond, ◌&&◌, ◌||◌, List, [], ◌∷◌, ◌++◌, ltb, leb, eqb, take, drop, length}
use Rattle.std.specs.Int.Bits.{bit_or}
use Rattle.mask.specs.Mask.{test_bit}
use Rattle.names.specs.Gl.{GL_COPY_READ_BUFFER, GL_COPY_WRITE_BUFFER}
use Rattle.records.specs.declared.args.Buffer.{Buffer}
use Rattle.records.specs.declared.command.Command.{Command}
use Rattle.records.specs.declared.command.Command.TheVariants.{BufferBarrier, TextureBarrier, CopyBufferToBuffer, CopyQueryResults, Dispatch}
use Rattle.records.specs.declared.command.BufferCopy.{BufferCopy}
use Rattle.records.specs.declared.pipeline.PrivateCapabilities.{PrivateCapabilities}
use Rattle.pass.specs.Marks.{Lent, counted}

-- 7: a count of elements of n numbers each above its run
abbrev pub over_run_by : ℕ → Lent → Bool
over_run_by n l = ltb (length l.run) (n * l.count)

-- ---- buffer barriers: three numbers each, the buffer, its use before, its use after
pub record Barrier : Type 0 where
  pub buffer : ℕ
  pub from : ℕ
  pub to : ℕ

unfoldable pub barriers_of : List ℕ → List Barrier
barriers_of [] = []
barriers_of (a ∷ []) = []
barriers_of (a ∷ b ∷ []) = []
barriers_of (a ∷ b ∷ c ∷ l) = record { buffer = a; from = b; to = c } ∷ barriers_of l

abbrev pub buffer_barriers : Lent → List Barrier
buffer_barriers l = barriers_of (take (3 * l.count) l.run)

-- only a storage read-write use before (256) is recorded
abbrev pub synchronizes : Barrier → Bool
synchronizes b = test_bit b.from 8

abbrev pub barrier_commands : Barrier → List Command
barrier_commands b = cond (synchronizes b) (BufferBarrier b.buffer b.to ∷ []) []

unfoldable pub buffer_barrier_commands : List Barrier → List Command
buffer_barrier_commands [] = []
buffer_barrier_commands (b ∷ bs) = barrier_commands b ++ buffer_barrier_commands bs

-- 4, of the barriers that are recorded
abbrev pub barrier_absent : Barrier → Bool
barrier_absent b = synchronizes b && eqb b.buffer 0

-- ---- texture barriers: two numbers each; one command for all uses after a storage write (512) or read-write (1024)
unfoldable pub texture_uses : List ℕ → ℕ
texture_uses [] = 0
texture_uses (a ∷ []) = 0
texture_uses (a ∷ b ∷ l) = bit_or (cond (test_bit a 9 || test_bit a 10) b 0) (texture_uses l)

abbrev pub texture_barrier_commands : Lent → List Command
texture_barrier_commands l =
    cond (eqb (texture_uses (take (2 * l.count) l.run)) 0) [] (TextureBarrier (texture_uses (take (2 * l.count) l.run)) ∷ [])

-- a board without MEMORY_BARRIERS records none
abbrev pub on_board : PrivateCapabilities → List Command → List Command
on_board caps cs = cond caps.memory_barriers cs []

-- ---- copies: three numbers each, source offset, destination offset, size
unfoldable pub copies_of : List ℕ → List BufferCopy
copies_of [] = []
copies_of (a ∷ []) = []
copies_of (a ∷ b ∷ []) = []
copies_of (a ∷ b ∷ c ∷ l) = record { src_offset = a; dst_offset = b; size = c } ∷ copies_of l

abbrev pub regions_of : Lent → List BufferCopy
regions_of l = copies_of (take (3 * l.count) l.run)

-- two buffers of one target are bound to the copy targets
abbrev pub copy_command : Buffer → Buffer → BufferCopy → Command
copy_command src dst c =
    cond (eqb src.target dst.target) (CopyBufferToBuffer src.raw GL_COPY_READ_BUFFER dst.raw GL_COPY_WRITE_BUFFER c)
    (CopyBufferToBuffer src.raw src.target dst.raw dst.target c)

-- 3: a copy size of 0
abbrev pub empty_copy : BufferCopy → Bool
empty_copy c = eqb c.size 0

-- ---- query results: the queries of a range go to the query list, from the place at on
abbrev pub queries_in : Lent → ℕ → ℕ → List ℕ
queries_in set start end = take (end - start) (drop start (counted set))

abbrev pub copy_queries_command : ℕ → ℕ → ℕ → Buffer → ℕ → Command
copy_queries_command at start end dst offset = CopyQueryResults (record { start = at; end = at + (end - start) }) dst.raw dst.target offset

-- 6: the end of the range in the query list past 32 bits
abbrev pub queries_over : ℕ → ℕ → ℕ → Bool
queries_over at start end = leb (2 ^ 32) (at + (end - start))

-- 3: a range that ends before it starts, or past the set
abbrev pub range_out : Lent → ℕ → ℕ → Bool
range_out set start end = ltb end start || ltb set.count end

-- ---- dispatches: "dispatch (0,1,1): nothing"
abbrev pub dispatch_commands : ℕ → ℕ → ℕ → List Command
dispatch_commands x y z = cond (eqb x 0 || (eqb y 0 || eqb z 0)) [] (Dispatch x y z ∷ [])
