-- The places in the marker bytes of the descriptors' bytes. Assumes nothing.
-- `placed-command`: the command at a place. `bytes-size`: the bytes of good descriptors are as many as their sizes say.
-- `over-total`: condition 6 of `set_immediates` looks at the last descriptor's end alone.
use Rattle.std.specs.Prelude.{ℕ, zero, suc, ◌+◌, ◌*◌, ◌/◌, ◌%◌, ◌^◌, ◌≤◌, ◌<◌, Bool, true, false, not, ◌&&◌, ◌||◌, List, [], ◌∷◌, ◌++◌, ◌≡◌, refl, ltb, leb, eqb, length, get_or, drop}
use Rattle.std.proofs.Common.{true≢false, sym, ap, ◌∙◌, not-suc-le-zero, le_of_suc-le-suc, arith, length-take, length-drop, length-append, ltb-false, leb-true, lt-ltb, le-leb, eqb-true}
use Rattle.records.specs.Check.{some?, bad_descriptor}
use Rattle.records.specs.declared.command.Command.{Command}
use Rattle.records.specs.declared.command.Command.TheVariants.{SetImmediates}
use Rattle.records.specs.declared.command.ImmediateDesc.{ImmediateDesc}
use Rattle.bindings.specs.Or.{or-false, neither}
use Rattle.bindings.specs.Immediates.{words_of, immediate_commands, immediate_bytes, immediates_over}
use Rattle.numbers.specs.Bytes.{bytes_of}

-- the place of each descriptor's bytes, where the first are at `at`
unfoldable pub places_of : List ImmediateDesc → ℕ → List ℕ
places_of [] at = []
places_of (d ∷ ds) at = at ∷ places_of ds (at + d.size_bytes)

-- how many bytes there are
unfoldable pub size_of : List ImmediateDesc → ℕ
size_of [] = 0
size_of (d ∷ ds) = d.size_bytes + size_of ds

-- ---- the commands
pub commands-long : (ds : List ImmediateDesc) (at : ℕ) → length (immediate_commands ds at) ≡ length ds
unfolding immediate_commands
commands-long [] at = refl
commands-long (d ∷ ds) at = ap suc (commands-long ds (at + d.size_bytes))

pub placed-command : (ds : List ImmediateDesc) (at k : ℕ) (d : ImmediateDesc) (c : Command) → k < length ds
    → get_or (immediate_commands ds at) k c ≡ SetImmediates (get_or ds k d) (get_or (places_of ds at) k 0)
unfolding immediate_commands places_of
placed-command [] at k d c h = absurd (not-suc-le-zero h)
placed-command (e ∷ ds) at zero d c h = refl
placed-command (e ∷ ds) at (suc k) d c h = placed-command ds (at + e.size_bytes) k d c (le_of_suc-le-suc h)

-- ---- one more descriptor
pub places-more : (ds : List ImmediateDesc) (d : ImmediateDesc) (at : ℕ) → places_of (ds ++ d ∷ []) at ≡ places_of ds at ++ (at + size_of ds) ∷ []
unfolding places_of size_of
places-more [] d at = let e : at ≡ at + 0 = omega arith in ap (λ (k : ℕ). k ∷ []) e
places-more (e ∷ ds) d at =
    let a : at + e.size_bytes + size_of ds ≡ at + (e.size_bytes + size_of ds) = omega arith in
    ap (λ (xs : List ℕ). at ∷ xs) (places-more ds d (at + e.size_bytes) ∙ ap (λ (k : ℕ). places_of ds (at + e.size_bytes) ++ k ∷ []) a)

pub size-more : (ds : List ImmediateDesc) (d : ImmediateDesc) → size_of (ds ++ d ∷ []) ≡ size_of ds + d.size_bytes
unfolding size_of
size-more [] d = omega arith
size-more (e ∷ ds) d = omega (arith, size-more ds d)

-- ---- condition 6
-- a smaller end past the limit says nothing more
or_later : (k a b : ℕ) → a ≤ b → leb k a || leb k b ≡ leb k b
or_later k a b h = go (leb k a) refl
  where
    go : (t : Bool) → leb k a ≡ t → t || leb k b ≡ leb k b
    go true e = let l : k ≤ a = leb-true k a e in sym (le-leb k b (omega arith))
    go false e = refl

some-there : (n : ℕ) (t : Bool) → ltb 0 (suc n) && t ≡ t
some-there n t = rw (lt-ltb 0 (suc n) (omega arith))

pub over-total : (ds : List ImmediateDesc) (at : ℕ) → immediates_over ds at ≡ ltb 0 (length ds) && leb (2 ^ 32) (at + size_of ds)
unfolding immediates_over size_of
over-total [] at = refl
over-total (d ∷ []) at =
    let e : at + d.size_bytes ≡ at + (d.size_bytes + 0) = omega arith in
    sym (or-false (leb (2 ^ 32) (at + d.size_bytes))) ∙ ap (leb (2 ^ 32)) e
over-total (d ∷ e ∷ ds) at =
    let n : ℕ = size_of (e ∷ ds) in
    let next : ℕ = at + d.size_bytes in
    let a : next + n ≡ at + (d.size_bytes + n) = omega arith in
    ap (λ (t : Bool). leb (2 ^ 32) next || t) (over-total (e ∷ ds) next ∙ some-there (length ds) (leb (2 ^ 32) (next + n)))
    ∙ or_later (2 ^ 32) next (next + n) (omega arith)
    ∙ ap (leb (2 ^ 32)) a
    ∙ sym (some-there (suc (length ds)) (leb (2 ^ 32) (at + (d.size_bytes + n))))

-- ---- good descriptors
not-false : (t : Bool) → not t ≡ false → t ≡ true
not-false true e = refl
not-false false e = absurd (true≢false e)

-- a descriptor within its words
pub record Good (d : ImmediateDesc) : Type 0 where
  pub first : d.offset % 4 ≡ 0
  pub whole : d.size_bytes % 4 ≡ 0
  pub ends : d.offset + d.size_bytes ≤ 256

pub is-good : (d : ImmediateDesc) → bad_descriptor d ≡ false → Good d
is-good d e =
    let a = neither (not (eqb (d.offset % 4) 0)) (not (eqb (d.size_bytes % 4) 0) || ltb 256 (d.offset + d.size_bytes)) e in
    let b = neither (not (eqb (d.size_bytes % 4) 0)) (ltb 256 (d.offset + d.size_bytes)) a.1 in
    record {
      first = eqb-true (d.offset % 4) 0 (not-false (eqb (d.offset % 4) 0) a.0);
      whole = eqb-true (d.size_bytes % 4) 0 (not-false (eqb (d.size_bytes % 4) 0) b.0);
      ends = ltb-false 256 (d.offset + d.size_bytes) b.1;
    }

pub good-cons : (d : ImmediateDesc) (ds : List ImmediateDesc) → some? bad_descriptor (d ∷ ds) ≡ false → Good d × (some? bad_descriptor ds ≡ false)
unfolding some?
good-cons d ds e = let a = neither (bad_descriptor d) (some? bad_descriptor ds) e in (is-good d a.0, a.1)

pub good-at : (ds : List ImmediateDesc) (k : ℕ) (d : ImmediateDesc) → some? bad_descriptor ds ≡ false → k < length ds → Good (get_or ds k d)
good-at [] k d e h = absurd (not-suc-le-zero h)
good-at (x ∷ ds) zero d e h = (good-cons x ds e).0
good-at (x ∷ ds) (suc k) d e h = good-at ds k d (good-cons x ds e).1 (le_of_suc-le-suc h)

pub bytes-long : (ws : List ℕ) → length (bytes_of ws) ≡ length ws * 4
unfolding bytes_of
bytes-long [] = refl
bytes-long (w ∷ ws) = omega (arith, bytes-long ws)

-- a good descriptor's words are all there
pub words-all : (ws : List ℕ) (d : ImmediateDesc) → length ws ≡ 64 → Good d → length (words_of ws d) * 4 ≡ d.size_bytes
words-all ws d e g =
    let a = g.first in
    let b = g.whole in
    let c = g.ends in
    omega (arith, length-take (d.size_bytes / 4) (drop (d.offset / 4) ws), length-drop (d.offset / 4) ws)

pub bytes-size : (ws : List ℕ) (ds : List ImmediateDesc) → length ws ≡ 64 → some? bad_descriptor ds ≡ false → length (immediate_bytes ws ds) ≡ size_of ds
unfolding immediate_bytes size_of
bytes-size ws [] e g = refl
bytes-size ws (d ∷ ds) e g =
    let b = good-cons d ds g in
    omega (
      arith,
      length-append (bytes_of (words_of ws d)) (immediate_bytes ws ds),
      bytes-long (words_of ws d),
      words-all ws d e b.0,
      bytes-size ws ds e b.1,
    )
