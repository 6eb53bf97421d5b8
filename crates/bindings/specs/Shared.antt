-- The descriptors that share a written word, and those that are sent. Assumes nothing.
-- `shares-one`, `shared-yes`: the test says yes exactly where some word is in both. `filter-good`: what is wrong with no descriptor is wrong with none of those that are sent.
use Rattle.std.specs.Prelude.{ℕ, ◌+◌, ◌/◌, ◌≤◌, ◌<◌, ◌≡◌, refl, Bool, true, false, cond, ◌&&◌, ◌||◌, List, [], ◌∷◌, ltb}
use Rattle.std.proofs.Common.{sym, true≢false, arith, ltb-true, lt-ltb}
use Rattle.std.proofs.Math.Decide.{dec_lt}
use Rattle.records.specs.Check.{some?, bad_descriptor}
use Rattle.records.specs.declared.command.ImmediateDesc.{ImmediateDesc}
use Rattle.bindings.specs.Or.{neither}
use Rattle.bindings.specs.Immediates.{shares_word, filter}

both : (a b : Bool) → a && b ≡ true → (a ≡ true) × (b ≡ true)
both true b e = (refl, e)
both false b e = absurd (true≢false (sym e))

-- "only for a shared word"
pub shares-one : (start end : ℕ) (d : ImmediateDesc) → shares_word start end d ≡ true
    → (k : ℕ) × (start ≤ k) × (k < end) × (d.offset / 4 ≤ k) × (k < d.offset / 4 + d.size_bytes / 4)
shares-one start end d e = go (dec_lt start first)
  where
    first : ℕ
    first = d.offset / 4

    past : ℕ
    past = d.offset / 4 + d.size_bytes / 4

    one : (ltb start end && ltb first past && ltb start past ≡ true) × (ltb first end ≡ true)
    one = both (ltb start end && ltb first past && ltb start past) (ltb first end) e

    two : (ltb start end && ltb first past ≡ true) × (ltb start past ≡ true)
    two = both (ltb start end && ltb first past) (ltb start past) one.0

    three : (ltb start end ≡ true) × (ltb first past ≡ true)
    three = both (ltb start end) (ltb first past) two.0

    go : Dec (start < first) → (k : ℕ) × (start ≤ k) × (k < end) × (first ≤ k) × (k < past)
    go (yes h) = (first, omega arith, ltb-true first end one.1, omega arith, ltb-true first past three.1)
    go (no h) = (start, omega arith, ltb-true start end three.0, omega arith, ltb-true start past two.1)

-- and always for one
pub shared-yes : (start end k : ℕ) (d : ImmediateDesc) → start ≤ k → k < end → d.offset / 4 ≤ k → k < d.offset / 4 + d.size_bytes / 4 → shares_word start end d ≡ true
shared-yes start end k d a b c e =
    let first : ℕ = d.offset / 4 in
    let past : ℕ = d.offset / 4 + d.size_bytes / 4 in
    rw (lt-ltb start end (omega arith), lt-ltb first past (omega arith), lt-ltb start past (omega arith), lt-ltb first end (omega arith))

pub filter-good : (f : ImmediateDesc → Bool) (ds : List ImmediateDesc) → some? bad_descriptor ds ≡ false → some? bad_descriptor (filter f ds) ≡ false
unfolding some? filter
filter-good f [] e = refl
filter-good f (d ∷ ds) e =
    let g = neither (bad_descriptor d) (some? bad_descriptor ds) e in
    go (f d) g.0 (filter-good f ds g.1)
  where
    none : (a b : Bool) → a ≡ false → b ≡ false → (a || b) ≡ false
    none true b p q = p
    none false b p q = q

    go : (t : Bool) → bad_descriptor d ≡ false → some? bad_descriptor (filter f ds) ≡ false → some? bad_descriptor (cond t (d ∷ filter f ds) (filter f ds)) ≡ false
    go true p q = none (bad_descriptor d) (some? bad_descriptor (filter f ds)) p q
    go false p q = q
