-- The attributes gone through from the last to the first, with the locations below 16 seen so far as a mask. Assumes nothing.
-- `scanned-bad`, `scanned-twice`: what it finds is what `Check` asks of the attributes.
-- `seen-before`: of a location below 16 the mask says whether it stands among those gone through.
use Rattle.std.specs.Prelude.{ℕ, ◌<◌, ◌≡◌, refl, Bool, true, false, ◌&&◌, ◌||◌, List, [], ◌∷◌, ltb, eqb}
use Rattle.std.proofs.Common.{sym, ap, ◌∙◌, arith, ne_eqb, lt-ltb, ltb-true, eqb-true as eqb_is}
use Rattle.std.proofs.Math.Decide.{ℕ_discrete}
use Rattle.mask.specs.Mask.{test_bit, set_bit_if}
use Rattle.mask.specs.Laws.{test_zero}
use Rattle.mask.specs.By.{test-set-if}
use Rattle.records.specs.declared.command.AttributeDesc.{AttributeDesc}
use Rattle.records.specs.declared.check.AttributeScan.{AttributeScan}
use Rattle.records.specs.Check.{bad_attribute, some?, among, twice, locations}

-- nothing seen, nothing found
abbrev pub scan_start : AttributeScan
scan_start = record { seen = 0; bad = false; twice = false }

-- one attribute more, before those that were seen, and whether its location stands among them
unfoldable pub scan_one : AttributeScan → AttributeDesc → Bool → AttributeScan
scan_one s a again =
    record {
      seen = set_bit_if (ltb a.location 16) s.seen a.location;
      bad = bad_attribute a || s.bad;
      twice = again || s.twice;
    }

unfoldable pub scanned : List AttributeDesc → AttributeScan
scanned [] = scan_start
scanned (a ∷ l) = scan_one (scanned l) a (among a.location (locations l))

pub scanned-bad : (l : List AttributeDesc) → (scanned l).bad ≡ some? bad_attribute l
unfolding scanned scan_one some?
scanned-bad [] = refl
scanned-bad (a ∷ l) = ap (λ (b : Bool). bad_attribute a || b) (scanned-bad l)

below-16 : (x y : ℕ) → x ≡ y → ltb x 16 ≡ ltb y 16
below-16 x y e = ap (λ (z : ℕ). ltb z 16) e

-- a location is seen where it stands among the later ones
pub scanned-seen : (l : List AttributeDesc) (x : ℕ) → test_bit (scanned l).seen x ≡ (ltb x 16 && among x (locations l))
unfolding scanned scan_one among set_bit_if
scanned-seen [] x = test_zero x ∙ sym (and-false (ltb x 16))
  where
    and-false : (b : Bool) → b && false ≡ false
    and-false true = refl
    and-false false = refl
scanned-seen (a ∷ l) x = at (ltb a.location 16) refl (scanned-seen l x)
  where
    Seen : Type 0
    Seen = test_bit (scanned l).seen x ≡ (ltb x 16 && among x (locations l))

    v : ℕ
    v = a.location

    mix : (p q r s : Bool) → (r ≡ true → p ≡ q) → (p && s) || (q && r) ≡ p && (r || s)
    mix true true r s h = swap r s
      where
        swap : (r s : Bool) → s || r ≡ r || s
        swap true true = refl
        swap true false = refl
        swap false true = refl
        swap false false = refl
    mix true false true s h = bad (h refl)
      where
        bad : {X : Type 0} → true ≡ false → X
        bad e = let z : ◌≡◌ {A = ℕ} 0 1 = cc in absurd (omega arith)
    mix true false false true h = refl
    mix true false false false h = refl
    mix false true true s h = bad (h refl)
      where
        bad : {X : Type 0} → false ≡ true → X
        bad e = let z : ◌≡◌ {A = ℕ} 0 1 = cc in absurd (omega arith)
    mix false true false s h = refl
    mix false false r s h = refl

    at : (t : Bool) → ltb v 16 ≡ t → Seen → test_bit (set_bit_if (ltb v 16) (scanned l).seen v) x ≡ (ltb x 16 && (eqb x v || among x (locations l)))
    at true e ih =
        test-set-if (ltb v 16) (scanned l).seen x v (in32 (ltb-true v 16 e))
        ∙ ap (λ (b : Bool). b || (ltb v 16 && eqb x v)) ih
        ∙ mix (ltb x 16) (ltb v 16) (eqb x v) (among x (locations l)) (λ q. below-16 x v (eqb_is x v q))
      where
        in32 : v < 16 → v < 32
        in32 h = omega arith
    at false e ih = rw e (ih ∙ other (ℕ_discrete x v))
      where
        other : Dec (x ≡ v) → (ltb x 16 && among x (locations l)) ≡ (ltb x 16 && (eqb x v || among x (locations l)))
        other (yes q) = rw (below-16 x v q ∙ e)
        other (no n) = rw (ne_eqb x v n)

pub scanned-twice : (l : List AttributeDesc) → (scanned l).twice ≡ twice (locations l)
unfolding scanned scan_one twice
scanned-twice [] = refl
scanned-twice (a ∷ l) = ap (λ (b : Bool). among a.location (locations l) || b) (scanned-twice l)

pub seen-before : (l : List AttributeDesc) (x : ℕ) → x < 16 → test_bit (scanned l).seen x ≡ among x (locations l)
seen-before l x h = scanned-seen l x ∙ ap (λ (b : Bool). b && among x (locations l)) (lt-ltb x 16 h)
