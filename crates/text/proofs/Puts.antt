-- Laws of `Put`, and of a loop that puts a text piece by piece, the last first. Assumes nothing.
use Prim.Native.Nat.{ℕ, suc, ◌+◌, ◌-◌, ◌≤◌, ◌<◌}
use native.Mathlib.Nat.{le_refl}
use native.Mathlib.Omega.{arith}
use mathlib.Core.Path.{◌≡◌, refl, sym, ap, ◌∙◌}
use mathlib.Core.List.{List, [], ◌∷◌, ◌++◌, append_assoc}
use lib.ListN.{length, drop, set, length-append, length-set}
use lib.Seq.{drop-cons, drop-set-lt, get_or-set_same}
use Rattle.text.specs.Put.{Put}

-- one byte is put in front
pub put_one : (l : List ℕ) (at b : ℕ) → 0 < at → at ≤ length l → Put (b ∷ []) l at (set l (at - 1) b) (at - 1)
put_one l at b p h =
    let e : suc (at - 1) ≡ at = omega arith in
    let i : at - 1 < length l = omega arith in
    let j : at - 1 < length (set l (at - 1) b) = simp length-set i in
    record {
      place = omega arith;
      holds =
          drop-cons (set l (at - 1) b) (at - 1) 0 j
          ∙ rw (get_or-set_same l (at - 1) b 0 i, drop-set-lt (suc (at - 1)) l (at - 1) b (omega arith), e);
    }

-- a text is put in front of another
pub put_then : {t u l m n : List ℕ} {at r q : ℕ} → Put t l at m r → Put u m r n q → Put (u ++ t) l at n q
put_then {t} {u} {l} {m} {n} {at} {r} {q} a b =
    record {
      place = omega (arith, length-append u t, a.place, b.place);
      holds = b.holds ∙ ap (λ x. u ++ x) a.holds ∙ sym (append_assoc u t (drop at l));
    }

-- after a text there is room for k bytes more
pub put-room : {t l m : List ℕ} {at r : ℕ} (k : ℕ)
    → Put t l at m r → length m ≡ length l → k + length t ≤ at → at ≤ length l → (k ≤ r) × (r ≤ length m)
put-room k p e h w = omega (arith, p.place)

-- of the whole text, which is put in front of what stands from `at` on in l, `left` is still to be put in front of what stands from i on in m
pub record Going (whole left l : List ℕ) (at : ℕ) (m : List ℕ) (i : ℕ) : Type 0 where
  pub long : length m ≡ length l
  pub within : i ≤ at
  pub counts : i + length whole ≡ at + length left
  pub holds : left ++ drop i m ≡ whole ++ drop at l

pub going_start : (whole l : List ℕ) (at : ℕ) → Going whole whole l at l at
going_start whole l at = record { long = refl; within = le_refl at; counts = refl; holds = refl }

pub going-put : {whole u t l m n : List ℕ} {at i r : ℕ} → Going whole (u ++ t) l at m i → Put t m i n r → length n ≡ length m → Going whole u l at n r
going-put {whole} {u} {t} {l} {m} {n} {at} {i} {r} g p e =
    record {
      long = e ∙ g.long;
      within = omega (arith, g.within, p.place);
      counts = omega (arith, g.counts, p.place, length-append u t);
      holds = ap (λ x. u ++ x) p.holds ∙ sym (append_assoc u t (drop i m)) ∙ g.holds;
    }

pub going_end : {whole l m : List ℕ} {at i : ℕ} → Going whole [] l at m i → Put whole l at m i
going_end g = record { place = omega (arith, g.counts); holds = g.holds }

-- a piece of k bytes has room
pub going-room : {whole left l m : List ℕ} {at i : ℕ} (k : ℕ)
    → Going whole left l at m i → at ≤ length l → k + length whole ≤ at + length left → (k ≤ i) × (i ≤ length m)
going-room k g h p = (omega (arith, g.counts), omega (arith, g.within, g.long))
