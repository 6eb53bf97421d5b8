-- Words that a write does not touch. Assumes nothing.
use Prim.Native.Nat.{ℕ, ◌+◌, ◌-◌, ◌/◌, ◌≤◌, ◌<◌}
use mathlib.Core.Path.{◌≡◌, sym, ap, ap₂, ◌∙◌, subst}
use mathlib.Core.Bool.{false}
use mathlib.Core.List.{List, ◌++◌, append_assoc}
use mathlib.Core.Logic.{◌⊎◌, inl, inr}
use native.Mathlib.Omega.{arith}
use native.Mathlib.Decide.{dec_lt}
use lib.ListN.{take, drop, length, get_or, length-append, length-drop, get_or-append}
use lib.Seq.{length-take-le, get_or-take, get_or-drop, get_or-append-add, ext_get_or}
use Rattle.records.specs.declared.command.ImmediateDesc.{ImmediateDesc}
use Rattle.bindings.specs.Immediates.{overwritten, words_of, shares_word}
use Rattle.bindings.specs.Shared.{shared-yes}
use Rattle.machine.proofs.Lists.{true-false}

-- a word before those written, or behind them
pub old-words : (l ws : List ℕ) (at i : ℕ) → at + length ws ≤ length l → (i < at) ⊎ (at + length ws ≤ i) → get_or (overwritten l at ws) i 0 ≡ get_or l i 0
old-words l ws at i h (inl k) =
    get_or-append (take at l) (ws ++ drop (at + length ws) l) 0 i (subst (λ (n : ℕ). i < n) (sym (length-take-le at l (omega arith))) k) ∙ get_or-take at l i 0 k
old-words l ws at i h (inr k) =
    ap (λ (xs : List ℕ). get_or xs i 0) (sym (append_assoc (take at l) ws (drop (at + length ws) l)))
    ∙ ap (λ (n : ℕ). get_or ((take at l ++ ws) ++ drop (at + length ws) l) n 0) (there (length (take at l ++ ws)) (at + length ws) i long k)
    ∙ get_or-append-add (take at l ++ ws) (drop (at + length ws) l) (i - (at + length ws)) 0
    ∙ get_or-drop (at + length ws) l (i - (at + length ws)) 0
    ∙ ap (λ (n : ℕ). get_or l n 0) (back (at + length ws) i k)
  where
    long : length (take at l ++ ws) ≡ at + length ws
    long = length-append (take at l) ws ∙ ap (λ (n : ℕ). n + length ws) (length-take-le at l (omega arith))

    there : (x y i : ℕ) → x ≡ y → y ≤ i → i ≡ x + (i - y)
    there x y i e k = omega arith

    back : (y i : ℕ) → y ≤ i → y + (i - y) ≡ i
    back y i k = omega arith

pub overwritten-long : (l ws : List ℕ) (at : ℕ) → at + length ws ≤ length l → length (overwritten l at ws) ≡ length l
overwritten-long l ws at h =
    length-append (take at l) (ws ++ drop (at + length ws) l)
    ∙ ap₂ (λ (x y : ℕ). x + y) (length-take-le at l (omega arith)) (length-append ws (drop (at + length ws) l) ∙ ap (λ (n : ℕ). length ws + n) (length-drop (at + length ws) l))
    ∙ sum at (length ws) (length l) h
  where
    sum : (a b c : ℕ) → a + b ≤ c → a + (b + (c - (a + b))) ≡ c
    sum a b c h = omega arith

-- a descriptor's words, where it shares none with those written
pub unshared : (l ws : List ℕ) (at : ℕ) (d : ImmediateDesc) → at + length ws ≤ length l → d.offset / 4 + d.size_bytes / 4 ≤ length l
    → shares_word at (at + length ws) d ≡ false → words_of (overwritten l at ws) d ≡ words_of l d
unshared l ws at d h k e = ext_get_or 0 (words_of new d) (words_of l d) (long new k' ∙ sym (long l k)) (λ i m. same i (subst (λ (n : ℕ). i < n) (long new k') m))
  where
    first : ℕ
    first = d.offset / 4

    size : ℕ
    size = d.size_bytes / 4

    new : List ℕ
    new = overwritten l at ws

    k' : first + size ≤ length new
    k' = subst (λ (n : ℕ). first + size ≤ n) (sym (overwritten-long l ws at h)) k

    long : (m : List ℕ) → first + size ≤ length m → length (words_of m d) ≡ size
    long m q = length-take-le size (drop first m) (subst (λ (n : ℕ). size ≤ n) (sym (length-drop first m)) (omega arith))

    word : (m : List ℕ) (i : ℕ) → i < size → get_or (words_of m d) i 0 ≡ get_or m (first + i) 0
    word m i q = get_or-take size (drop first m) i 0 q ∙ get_or-drop first m i 0

    out : (i : ℕ) → i < size → Dec (first + i < at) → Dec (first + i < at + length ws) → (first + i < at) ⊎ (at + length ws ≤ first + i)
    out i m (yes q) r = inl q
    out i m (no q) (yes r) = true-false (sym (shared-yes at (at + length ws) (first + i) d (omega arith) r (omega arith) (omega arith)) ∙ e)
    out i m (no q) (no r) = inr (omega arith)

    same : (i : ℕ) → i < size → get_or (words_of new d) i 0 ≡ get_or (words_of l d) i 0
    same i m = word new i m ∙ old-words l ws at (first + i) h (out i m (dec_lt (first + i) at) (dec_lt (first + i) (at + length ws))) ∙ sym (word l i m)
