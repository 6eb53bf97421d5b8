-- "The smallest number whose condition holds": `smallest` answers with it, and there is no other. Assumes nothing.
use Rattle.std.specs.Prelude.{ℕ, ◌<◌, ◌≡◌, refl, Bool, true, false, ◌&&◌, ◌||◌, ltb, eqb}
use Rattle.std.proofs.Common.{sym, ◌∙◌, inl, inr, arith, lt-ltb, eqb-true}
use Rattle.std.proofs.Math.Decide.{dec_lt}
use Rattle.records.specs.declared.outcome.Conditions.{Conditions}
use Rattle.records.specs.Outcome.{number, holds, Smallest, smallest}

never : {A : Type 0} → true ≡ false → A
never e = let z : ◌≡◌ {A = ℕ} 0 1 = cc in absurd (omega arith)

-- a condition with a number below n holds
abbrev below : Conditions → ℕ → Bool
below c n =
    (ltb 1 n && c.phase)
    || ((ltb 2 n && c.many)
    || ((ltb 3 n && c.range)
    || ((ltb 4 n && c.absent)
    || ((ltb 5 n && c.kind)
    || ((ltb 6 n && c.sum)
    || (ltb 7 n && c.room))))))

gone : (t q b : Bool) → (q ≡ true → t ≡ true) → t && b ≡ false → q && b ≡ false
gone true true b i e = e
gone false true b i e = never (sym (i refl))
gone t false b i e = refl

joined : (x y r r' : Bool) → (x ≡ false → y ≡ false) → (r ≡ false → r' ≡ false) → x || r ≡ false → y || r' ≡ false
joined true y r r' f g e = never e
joined false y r r' f g e = rw (f refl) (g e)

none_below : (c : Conditions) (n k : ℕ) → k < n → below c n ≡ false → holds c k ≡ false
none_below c n k h = and 1 c.phase (and 2 c.many (and 3 c.range (and 4 c.absent (and 5 c.kind (and 6 c.sum (one 7 c.room))))))
  where
    wider : (i : ℕ) → eqb k i ≡ true → ltb i n ≡ true
    wider i e = let z : k ≡ i = eqb-true k i e in lt-ltb i n (omega arith)

    one : (i : ℕ) (b : Bool) → ltb i n && b ≡ false → eqb k i && b ≡ false
    one i b e = gone (ltb i n) (eqb k i) b (wider i) e

    and : (i : ℕ) (b : Bool) {r r' : Bool} → (r ≡ false → r' ≡ false) → (ltb i n && b) || r ≡ false → (eqb k i && b) || r' ≡ false
    and i b {r} {r'} f e = joined (ltb i n && b) (eqb k i && b) r r' (one i b) f e

abbrev conditions : (p m r a k s o : Bool) → Conditions
conditions p m r a k s o = record { phase = p; many = m; range = r; absent = a; kind = k; sum = s; room = o }

by_cases : (p m r a k s o : Bool) → Smallest (conditions p m r a k s o) (number (smallest (conditions p m r a k s o)))
unfolding smallest
by_cases true m r a k s o = inl (refl, λ i h. none_below (conditions true m r a k s o) 1 i h refl)
by_cases false true r a k s o = inl (refl, λ i h. none_below (conditions false true r a k s o) 2 i h refl)
by_cases false false true a k s o = inl (refl, λ i h. none_below (conditions false false true a k s o) 3 i h refl)
by_cases false false false true k s o = inl (refl, λ i h. none_below (conditions false false false true k s o) 4 i h refl)
by_cases false false false false true s o = inl (refl, λ i h. none_below (conditions false false false false true s o) 5 i h refl)
by_cases false false false false false true o = inl (refl, λ i h. none_below (conditions false false false false false true o) 6 i h refl)
by_cases false false false false false false true = inl (refl, λ i h. none_below (conditions false false false false false false true) 7 i h refl)
by_cases false false false false false false false = inr (refl, λ i. simp no_more)
  where
    no_more : (b : Bool) → b && false ≡ false
    no_more true = refl
    no_more false = refl

pub smallest-is : (c : Conditions) → Smallest c (number (smallest c))
smallest-is c = by_cases c.phase c.many c.range c.absent c.kind c.sum c.room

both : {A : Type 0} {b : Bool} → b ≡ true → b ≡ false → A
both t f = never (sym t ∙ f)

-- two such numbers are one
same : (c : Conditions) (n m : ℕ) → Smallest c n → Smallest c m → n ≡ m
same c n m (inl p) (inl q) = at (dec_lt n m) (dec_lt m n)
  where
    at : Dec (n < m) → Dec (m < n) → n ≡ m
    at (yes h) d = both p.0 (q.1 n h)
    at (no l) (yes h) = both q.0 (p.1 m h)
    at (no l) (no h) = omega arith
same c n m (inl p) (inr q) = both p.0 (q.1 n)
same c n m (inr p) (inl q) = both q.0 (p.1 m)
same c n m (inr p) (inr q) = p.0 ∙ sym q.0

pub smallest-only : (c : Conditions) (n : ℕ) → Smallest c n → n ≡ number (smallest c)
smallest-only c n h = same c n (number (smallest c)) h (smallest-is c)
