-- Lines of standard input and what is wrong with one, for programs that read sessions. Definitions only.
use Rattle.std.specs.Prelude.{ℕ, ◌+◌, min, Bool, cond, Result, Ok, Err}
use Rattle.flat.specs.declared.line.Wrong.{Wrong}
use Rattle.flat.specs.declared.line.Wanted.TheVariants.{End}

-- the next number; the largest of 64 bits stays
abbrev pub next_number : ℕ → ℕ
next_number n = min (n + 1) 18446744073709551615

-- a line that is too long is wrong where it does not fit any more
abbrev pub verdict_of : Bool → ℕ → Result (Unit {0}) Wrong
verdict_of long length = cond long (Err (record { at = length; wanted = End })) (Ok tt)
