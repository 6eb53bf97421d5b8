-- The commands of buffer barriers, one barrier after the other. Assumes nothing.
use Prim.Native.Nat.{ℕ, zero, suc, ◌+◌, ◌-◌, ◌<◌}
use mathlib.Core.Bool.{Bool, true, false, cond, ◌&&◌}
use mathlib.Core.List.{List, [], ◌∷◌, ◌++◌}
use mathlib.Core.Path.{◌≡◌, refl, sym, ap}
use native.Mathlib.Omega.{arith}
use lib.Dec.{eqb}
use lib.ListN.{length, get_or}
use borrow.Author.Tests.{eqb-true}
use Rattle.mask.specs.Mask.{digit_of}
use Rattle.records.specs.declared.command.Command.{Command}
use Rattle.records.specs.declared.command.Command.TheVariants.{BufferBarrier}
use Rattle.calls.specs.Transfers.{Barrier, synchronizes, buffer_barrier_commands}
use Rattle.calls.proofs.Judged.{bad}

-- how many they are
pub one-longer : (b : Barrier) (bs : List Barrier) → length (buffer_barrier_commands (b ∷ bs)) ≡ digit_of (synchronizes b) + length (buffer_barrier_commands bs)
unfolding buffer_barrier_commands
one-longer b bs = go (synchronizes b)
  where
    go : (t : Bool) → length (cond t (BufferBarrier b.buffer b.to ∷ []) [] ++ buffer_barrier_commands bs) ≡ digit_of t + length (buffer_barrier_commands bs)
    go true = omega arith
    go false = omega arith

-- the command looked for is that of the first barrier
pub here : (b : Barrier) (bs : List Barrier) (left : ℕ) (d : Command) → synchronizes b && eqb left 0 ≡ true → BufferBarrier b.buffer b.to ≡ get_or (buffer_barrier_commands (b ∷ bs)) left d
unfolding buffer_barrier_commands
here b bs left d e = go (synchronizes b) left e
  where
    go : (t : Bool) (left : ℕ) → t && eqb left 0 ≡ true → BufferBarrier b.buffer b.to ≡ get_or (cond t (BufferBarrier b.buffer b.to ∷ []) [] ++ buffer_barrier_commands bs) left d
    go true zero e = refl
    go true (suc left) e = let k : suc left ≡ 0 = eqb-true (suc left) 0 e in absurd (omega arith)
    go false left e = bad e

-- or it is behind it
pub behind : (b : Barrier) (bs : List Barrier) (left : ℕ) (d : Command) → synchronizes b && eqb left 0 ≡ false → left < length (buffer_barrier_commands (b ∷ bs))
    → (left - digit_of (synchronizes b) < length (buffer_barrier_commands bs)) × (get_or (buffer_barrier_commands (b ∷ bs)) left d ≡ get_or (buffer_barrier_commands bs) (left - digit_of (synchronizes b)) d)
unfolding buffer_barrier_commands
behind b bs left d e h = go (synchronizes b) left e h
  where
    all : Bool → List Command
    all t = cond t (BufferBarrier b.buffer b.to ∷ []) [] ++ buffer_barrier_commands bs

    go : (t : Bool) (left : ℕ) → t && eqb left 0 ≡ false → left < length (all t)
        → (left - digit_of t < length (buffer_barrier_commands bs)) × (get_or (all t) left d ≡ get_or (buffer_barrier_commands bs) (left - digit_of t) d)
    go true zero e h = bad (sym e)
    go true (suc left) e h = let k : suc left - 1 ≡ left = omega arith in (omega arith, rw k)
    go false left e h = let k : left - 0 ≡ left = omega arith in (omega arith, rw k)

-- no barrier, no command
pub some : (bs : List Barrier) (left : ℕ) → left < length (buffer_barrier_commands bs) → bs ≡ [] → ⊥
unfolding buffer_barrier_commands
some [] left h e = omega arith
some (b ∷ bs) left h e = let k : length (b ∷ bs) ≡ 0 = ap length e in omega arith

-- ---- the commands of a board, or none
pub board-long : (t : Bool) (cs : List Command) → cond t (length cs) 0 ≡ length (cond t cs [])
board-long true cs = refl
board-long false cs = refl

pub board-at : (t : Bool) (cs : List Command) (i : ℕ) (d : Command) → i < length (cond t cs []) → (i < length cs) × (get_or cs i d ≡ get_or (cond t cs []) i d)
board-at true cs i d h = (h, refl)
board-at false cs i d h = absurd (omega arith)
