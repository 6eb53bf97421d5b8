-- The Rust's overlap test of `set_immediates` is always true, so every descriptor is sent. Assumes nothing.
use Rattle.std.specs.Prelude.{ℕ, ◌+◌, ◌/◌, ◌≤◌, ◌≡◌, refl, Bool, true, false, ◌||◌, ltb, leb}
use Rattle.std.proofs.Common.{arith, ltb-false, le-leb}
use Rattle.records.specs.declared.command.ImmediateDesc.{ImmediateDesc}
use Rattle.bindings.specs.Immediates.{overlaps}

-- the written words go from start to start + count
pub always-overlaps : (start count : ℕ) (d : ImmediateDesc) → overlaps start (start + count) d ≡ true
always-overlaps start count d = go (ltb start (first + size)) refl
  where
    first : ℕ
    first = d.offset / 4

    size : ℕ
    size = d.size_bytes / 4

    go : (t : Bool) → ltb start (first + size) ≡ t → t || leb first (start + count) ≡ true
    go true e = refl
    go false e = let h : first + size ≤ start = ltb-false start (first + size) e in le-leb first (start + count) (omega arith)
