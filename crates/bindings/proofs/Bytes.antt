-- The descriptors of immediates one by one: their places and their bytes. Assumes nothing.
-- `place-step`: a descriptor more is placed. `byte-here`: a byte of a descriptor. `bytes_past`: the bytes past a descriptor's are those of the descriptors behind it.
use Prim.Native.Nat.{ℕ, zero, suc, ◌+◌, ◌*◌, ◌/◌, ◌%◌, ◌<◌, min}
use mathlib.Core.Bool.{false}
use mathlib.Core.List.{List, [], ◌∷◌, ◌++◌}
use mathlib.Core.Path.{◌≡◌, refl, sym, ap, ap₂, ◌∙◌}
use native.Mathlib.Nat.{not-suc-le-zero}
use native.Mathlib.Omega.{arith}
use lib.ListN.{length, get_or, take, drop, set, length-take, get_or-append}
use lib.Seq.{get_or-take, get_or-drop, drop-cons, drop_at, take-suc, take-suc-set}
use Rattle.records.specs.Check.{some?, bad_descriptor}
use Rattle.records.specs.Start.{start_immediate}
use Rattle.records.specs.declared.command.ImmediateDesc.{ImmediateDesc}
use Rattle.bindings.specs.Immediates.{words_of, immediate_bytes}
use Rattle.numbers.specs.Bytes.{little_endian, bytes_of}
use Rattle.bindings.specs.Placed.{places_of, size_of, places-more, size-more, Good, good-cons, good-at, bytes-long, words-all}

-- ---- the counted descriptors
module _ (l : List ImmediateDesc) (count : ℕ) (e : length l ≡ 192) where
  abbrev ds : List ImmediateDesc
  ds = take count l

  pub counted-long : length ds ≡ min count 192
  counted-long = omega (arith, length-take count l)

  pub counted-at : (j : ℕ) → j < min count 192 → get_or ds j start_immediate ≡ get_or l j start_immediate
  counted-at j h = get_or-take count l j start_immediate (omega arith)

  pub counted_next : (j : ℕ) → j < min count 192 → drop j ds ≡ get_or l j start_immediate ∷ drop (suc j) ds
  counted_next j h =
      drop-cons ds j start_immediate (omega (arith, counted-long)) ∙ ap (λ (d : ImmediateDesc). d ∷ drop (suc j) ds) (counted-at j h)

  pub place-step : (j first total size : ℕ) (at : List ℕ) → j < min count 192 → length at ≡ 192
      → size ≡ min (get_or l j start_immediate).size_bytes 256 → some? bad_descriptor ds ≡ false
      → take j at ≡ places_of (take j ds) first → total ≡ size_of (take j ds)
      → (take (suc j) (set at j (first + total)) ≡ places_of (take (suc j) ds) first) × (total + size ≡ size_of (take (suc j) ds))
  place-step j first total size at h k s g p t =
      let n : j < length ds = omega (arith, counted-long) in
      let d = get_or ds j start_immediate in
      let q = (good-at ds j start_immediate g n).ends in
      let z : (get_or l j start_immediate).size_bytes ≡ d.size_bytes = ap (λ (x : ImmediateDesc). x.size_bytes) (sym (counted-at j h)) in
      let m : total + size ≡ size_of (take j ds) + d.size_bytes = omega arith in (
        take-suc-set at j (first + total) (omega arith)
            ∙ ap₂ (λ (xs : List ℕ) (i : ℕ). xs ++ (first + i) ∷ []) p t
            ∙ sym (places-more (take j ds) d first)
            ∙ ap (λ (xs : List ImmediateDesc). places_of xs first) (sym (take-suc ds j start_immediate n)),
        m ∙ sym (size-more (take j ds) d) ∙ ap size_of (sym (take-suc ds j start_immediate n)),
      )

-- ---- the bytes of words
byte-place : (ws : List ℕ) (k b : ℕ) → k < length ws * 4 → get_or (bytes_of ws) k b ≡ get_or (little_endian (get_or ws (k / 4) 0)) (k % 4) 0
unfolding bytes_of
byte-place [] k b h = absurd (not-suc-le-zero h)
byte-place (w ∷ ws) zero b h = refl
byte-place (w ∷ ws) (suc zero) b h = refl
byte-place (w ∷ ws) (suc (suc zero)) b h = refl
byte-place (w ∷ ws) (suc (suc (suc zero))) b h = refl
byte-place (w ∷ ws) (suc (suc (suc (suc k)))) b h =
    let p : suc (suc (suc (suc k))) / 4 ≡ suc (k / 4) = omega arith in
    let q : suc (suc (suc (suc k))) % 4 ≡ k % 4 = omega arith in
    rw (p, q) (byte-place ws k b (omega arith))

abbrev pub byte_of : List ℕ → ImmediateDesc → ℕ → ℕ
byte_of ws d j = get_or (little_endian (get_or ws (d.offset / 4 + j / 4) 0)) (j % 4) 0

module _ (ws : List ℕ) (e : length ws ≡ 64) (d : ImmediateDesc) (g : Good d) where
  size : length (bytes_of (words_of ws d)) ≡ d.size_bytes
  size = bytes-long (words_of ws d) ∙ words-all ws d e g

  byte-of : (k : ℕ) → k < d.size_bytes → get_or (bytes_of (words_of ws d)) k 0 ≡ byte_of ws d k
  byte-of k h =
      let w = g.whole in
      let l : k / 4 < d.size_bytes / 4 = omega arith in
      byte-place (words_of ws d) k 0 (omega (arith, words-all ws d e g))
      ∙ ap (λ (x : ℕ). get_or (little_endian x) (k % 4) 0)
      (get_or-take (d.size_bytes / 4) (drop (d.offset / 4) ws) (k / 4) 0 l ∙ get_or-drop (d.offset / 4) ws (k / 4) 0)

-- ---- the descriptors from place j on
module _ (ws : List ℕ) (w : length ws ≡ 64) (l : List ImmediateDesc) (count : ℕ) (e : length l ≡ 192) (j : ℕ) (h : j < min count 192)
    (g : some? bad_descriptor (drop j (take count l)) ≡ false) where
  abbrev this : ImmediateDesc
  this = get_or l j start_immediate

  abbrev behind : List ImmediateDesc
  behind = drop (suc j) (take count l)

  goods : Good this × (some? bad_descriptor behind ≡ false)
  goods = good-cons this behind (ap (some? bad_descriptor) (sym (counted_next l count e j h)) ∙ g)

  pub good-here : Good this
  good-here = goods.0

  pub good-behind : some? bad_descriptor behind ≡ false
  good-behind = goods.1

  bytes_next : immediate_bytes ws (drop j (take count l)) ≡ bytes_of (words_of ws this) ++ immediate_bytes ws behind
  unfolding immediate_bytes
  bytes_next = ap (immediate_bytes ws) (counted_next l count e j h)

  pub byte-here : (k : ℕ) → k < this.size_bytes → get_or (immediate_bytes ws (drop j (take count l))) k 0 ≡ byte_of ws this k
  byte-here k m =
      ap (λ (bs : List ℕ). get_or bs k 0) bytes_next
      ∙ get_or-append (bytes_of (words_of ws this)) (immediate_bytes ws behind) 0 k (omega (arith, size ws w this good-here))
      ∙ byte-of ws w this good-here k m

  pub bytes_past : drop this.size_bytes (immediate_bytes ws (drop j (take count l))) ≡ immediate_bytes ws behind
  bytes_past =
      ap (drop this.size_bytes) bytes_next
      ∙ drop_at (bytes_of (words_of ws this)) (immediate_bytes ws behind) this.size_bytes (size ws w this good-here)
