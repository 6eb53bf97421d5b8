-- A bind group's entries gone through from the first: what one of them adds to what has been found, and what that comes to. Assumes nothing.
-- `named-all`: the slots named, entry by entry, are the mask of those that some entry names; `textures-all`, `samplers-all`.
-- `swept-count` to `swept-over`: what is found is what `Group` says of the entries.
use Prim.Native.Nat.{ℕ, ◌+◌, ◌^◌, ◌≤◌, ◌<◌}
use Rattle.std.specs.Prelude.{Bool, true, false, ◌&&◌, ◌||◌, ◌≡◌, ltb, eqb, length, set}
use mathlib.Core.List.{List, [], ◌∷◌}
use Rattle.std.proofs.Math.Path.{refl, ap}
use Rattle.std.proofs.Common.{sym, ◌∙◌, arith, length-append, ltb-true, ltb-false, eq-eqb, ne_eqb}
use Rattle.std.proofs.Math.Decide.{ℕ_discrete}
use Rattle.mask.specs.Mask.{test_bit, set_bit, set_bit_if, digit_of}
use Rattle.mask.specs.Laws.{test_zero}
use Rattle.mask.specs.By.{mask_by, by-is, test-set-if, set-if-lt}
use Rattle.records.specs.Check.{some?}
use Rattle.records.specs.declared.binding.BindGroupLayoutEntry.{BindGroupLayoutEntry}
use Rattle.records.specs.declared.binding.RawBinding.{RawBinding}
use Rattle.records.specs.declared.binding.RawBinding.TheVariants as content
use Rattle.records.specs.declared.state.BindState.{BindState}
use Rattle.bindings.specs.declared.sweep.Sweep.{Sweep}
use Rattle.bindings.specs.Or.{or-false, or_assoc}
use Rattle.bindings.specs.Units.{unit_at}
use Rattle.bindings.specs.Group.{Entry, head_or, takes_offset, entry_commands, offsets_after, group_commands, entry_state, group_state, is_texture, is_sampler, textures_named, samplers_named, entry_out_of_range, offsets_used, content_wrong_kind, entry_wrong_kind, offset_over, group_over}

-- whether an entry records a command
abbrev pub records_one : RawBinding → Bool
records_one (content.Buffer raw offset size) = true
records_one (content.Texture raw target aspects mips) = true
records_one (content.Image binding) = true
records_one (content.Sampler k) = false

-- the two changes of `entry_state`: a texture's and a sampler's
abbrev pub texture_state : BindState → ℕ → ℕ → BindState
texture_state b slot target =
    record {
      samplers = b.samplers;
      sampler_set = b.sampler_set;
      texture_slots = set b.texture_slots slot (record { tex_target = target; sampler_index = (unit_at b slot).sampler_index });
      sampled = b.sampled;
    }

abbrev pub sampler_state : BindState → ℕ → ℕ → BindState
sampler_state b slot k =
    record {
      samplers = set b.samplers slot k;
      sampler_set = set_bit b.sampler_set slot;
      texture_slots = b.texture_slots;
      sampled = b.sampled;
    }

-- the places that are named, with one entry more: its slot, where it is below 16 and the entry's content is of the kind k
abbrev pub named_after : (RawBinding → Bool) → BindGroupLayoutEntry → RawBinding → ℕ → ℕ
named_after k e r m = set_bit_if (k r && ltb e.slot 16) m e.slot

unfoldable pub named_from : (RawBinding → Bool) → List Entry → ℕ → ℕ
named_from k [] m = m
named_from k (x ∷ xs) m = named_from k xs (named_after k x.layout x.raw m)

-- one entry more, where the next dynamic offset is `next`, 0 past the last
abbrev pub sweep_one : BindGroupLayoutEntry → RawBinding → ℕ → Sweep → Sweep
sweep_one e r next s =
    record {
      count = s.count + digit_of (records_one r);
      used = s.used + digit_of (takes_offset e r);
      bind = entry_state e r s.bind;
      textures = named_after is_texture e r s.textures;
      samplers = named_after is_sampler e r s.samplers;
      range = s.range || entry_out_of_range (record { layout = e; raw = r });
      kind = s.kind || content_wrong_kind e.ty r;
      over = s.over || offset_over e r (next ∷ []);
    }

unfoldable pub swept : List Entry → List ℕ → Sweep → Sweep
swept [] os s = s
swept (x ∷ xs) os s = swept xs (offsets_after x.layout x.raw os) (sweep_one x.layout x.raw (head_or 0 os) s)

-- ---- the places that are named
eqb-sym : (i j : ℕ) → eqb i j ≡ eqb j i
eqb-sym i j = go (ℕ_discrete i j)
  where
    go : Dec (i ≡ j) → eqb i j ≡ eqb j i
    go (yes e) = eq-eqb i j e ∙ sym (eq-eqb j i (sym e))
    go (no n) = ne_eqb i j n ∙ sym (ne_eqb j i (λ e. n (sym e)))

and-true : (t : Bool) → t && true ≡ t
and-true true = refl
and-true false = refl

and-false : (t : Bool) → t && false ≡ false
and-false true = refl
and-false false = refl

module _ (k : RawBinding → Bool) where
  -- an entry names the place u
  abbrev names : ℕ → Entry → Bool
  names u x = k x.raw && eqb x.layout.slot u

  after-at : (x : Entry) (m u : ℕ) → u < 16 → test_bit (named_after k x.layout x.raw m) u ≡ test_bit m u || names u x
  unfolding set_bit_if
  after-at x m u l = go (ltb j 16) refl
    where
      j : ℕ
      j = x.layout.slot

      go : (t : Bool) → ltb j 16 ≡ t → test_bit (set_bit_if (k x.raw && t) m j) u ≡ test_bit m u || (k x.raw && eqb j u)
      go true e =
          let h : j < 16 = ltb-true j 16 e in
          rw (and-true (k x.raw))
          (test-set-if (k x.raw) m u j (omega arith) ∙ ap (λ (t : Bool). test_bit m u || (k x.raw && t)) (eqb-sym u j))
      go false e =
          let h : 16 ≤ j = ltb-false j 16 e in
          rw (ne_eqb j u (λ q. omega arith), and-false (k x.raw)) (or-false (test_bit m u))

  after-lt : (x : Entry) (m : ℕ) → m < 2 ^ 16 → named_after k x.layout x.raw m < 2 ^ 16
  unfolding set_bit_if
  after-lt x m l = go (ltb j 16) refl
    where
      j : ℕ
      j = x.layout.slot

      go : (t : Bool) → ltb j 16 ≡ t → set_bit_if (k x.raw && t) m j < 2 ^ 16
      go true e = set-if-lt (k x.raw && true) 16 m j l (ltb-true j 16 e) (omega arith)
      go false e = rw (and-false (k x.raw)) l

  from_at : (xs : List Entry) (m u : ℕ) → u < 16 → test_bit (named_from k xs m) u ≡ test_bit m u || some? (names u) xs
  unfolding named_from some?
  from_at [] m u l = or-false (test_bit m u)
  from_at (x ∷ xs) m u l =
      from_at xs (named_after k x.layout x.raw m) u l
      ∙ ap (λ (t : Bool). t || some? (names u) xs) (after-at x m u l)
      ∙ or_assoc (test_bit m u) (names u x) (some? (names u) xs)

  from-lt : (xs : List Entry) (m : ℕ) → m < 2 ^ 16 → named_from k xs m < 2 ^ 16
  unfolding named_from
  from-lt [] m l = l
  from-lt (x ∷ xs) m l = from-lt xs (named_after k x.layout x.raw m) (after-lt x m l)

  pub named-all : (xs : List Entry) → named_from k xs 0 ≡ mask_by 16 (λ u. some? (names u) xs)
  named-all xs =
      by-is 16 (named_from k xs 0) (λ u. some? (names u) xs) (from-lt xs 0 (omega arith))
      (λ u l. from_at xs 0 u l ∙ ap (λ (t : Bool). t || some? (names u) xs) (test_zero u))

pub textures-all : (xs : List Entry) → named_from is_texture xs 0 ≡ textures_named xs
unfolding textures_named
textures-all xs = named-all is_texture xs

pub samplers-all : (xs : List Entry) → named_from is_sampler xs 0 ≡ samplers_named xs
unfolding samplers_named
samplers-all xs = named-all is_sampler xs

-- an entry's command and its condition 6 take no dynamic offset but the next
pub commands-next : (e : BindGroupLayoutEntry) (r : RawBinding) (os : List ℕ) → entry_commands e r (head_or 0 os ∷ []) ≡ entry_commands e r os
commands-next e (content.Buffer raw offset size) os = refl
commands-next e (content.Texture raw target aspects mips) os = refl
commands-next e (content.Image binding) os = refl
commands-next e (content.Sampler k) os = refl

pub over-next : (e : BindGroupLayoutEntry) (r : RawBinding) (os : List ℕ) → offset_over e r (head_or 0 os ∷ []) ≡ offset_over e r os
over-next e (content.Buffer raw offset size) os = refl
over-next e (content.Texture raw target aspects mips) os = refl
over-next e (content.Image binding) os = refl
over-next e (content.Sampler k) os = refl

pub commands-one : (e : BindGroupLayoutEntry) (r : RawBinding) (os : List ℕ) → length (entry_commands e r os) ≡ digit_of (records_one r)
commands-one e (content.Buffer raw offset size) os = refl
commands-one e (content.Texture raw target aspects mips) os = refl
commands-one e (content.Image binding) os = refl
commands-one e (content.Sampler k) os = refl

-- ---- what is found
abbrev after : Entry → List ℕ → List ℕ
after x os = offsets_after x.layout x.raw os

abbrev more : Entry → List ℕ → Sweep → Sweep
more x os s = sweep_one x.layout x.raw (head_or 0 os) s

pub swept-count : (xs : List Entry) (os : List ℕ) (s : Sweep) → (swept xs os s).count ≡ s.count + length (group_commands xs os)
unfolding swept group_commands
swept-count [] os s = omega arith
swept-count (x ∷ xs) os s =
    let e = swept-count xs (after x os) (more x os s) in
    let l = length-append (entry_commands x.layout x.raw os) (group_commands xs (after x os)) in
    let k = commands-one x.layout x.raw os in
    omega arith

pub swept-used : (xs : List Entry) (os : List ℕ) (s : Sweep) → (swept xs os s).used ≡ s.used + offsets_used xs
unfolding swept offsets_used
swept-used [] os s = omega arith
swept-used (x ∷ xs) os s = omega (arith, swept-used xs (after x os) (more x os s))

pub swept-bind : (xs : List Entry) (os : List ℕ) (s : Sweep) → (swept xs os s).bind ≡ group_state xs s.bind
unfolding swept group_state
swept-bind [] os s = refl
swept-bind (x ∷ xs) os s = swept-bind xs (after x os) (more x os s)

pub swept-textures : (xs : List Entry) (os : List ℕ) (s : Sweep) → (swept xs os s).textures ≡ named_from is_texture xs s.textures
unfolding swept named_from
swept-textures [] os s = refl
swept-textures (x ∷ xs) os s = swept-textures xs (after x os) (more x os s)

pub swept-samplers : (xs : List Entry) (os : List ℕ) (s : Sweep) → (swept xs os s).samplers ≡ named_from is_sampler xs s.samplers
unfolding swept named_from
swept-samplers [] os s = refl
swept-samplers (x ∷ xs) os s = swept-samplers xs (after x os) (more x os s)

pub swept-range : (xs : List Entry) (os : List ℕ) (s : Sweep) → (swept xs os s).range ≡ s.range || some? entry_out_of_range xs
unfolding swept some?
swept-range [] os s = or-false s.range
swept-range (x ∷ xs) os s = swept-range xs (after x os) (more x os s) ∙ or_assoc s.range (entry_out_of_range x) (some? entry_out_of_range xs)

pub swept-kind : (xs : List Entry) (os : List ℕ) (s : Sweep) → (swept xs os s).kind ≡ s.kind || some? entry_wrong_kind xs
unfolding swept some?
swept-kind [] os s = or-false s.kind
swept-kind (x ∷ xs) os s = swept-kind xs (after x os) (more x os s) ∙ or_assoc s.kind (entry_wrong_kind x) (some? entry_wrong_kind xs)

pub swept-over : (xs : List Entry) (os : List ℕ) (s : Sweep) → (swept xs os s).over ≡ s.over || group_over xs os
unfolding swept group_over
swept-over [] os s = or-false s.over
swept-over (x ∷ xs) os s =
    swept-over xs (after x os) (more x os s)
    ∙ or_assoc s.over (offset_over x.layout x.raw (head_or 0 os ∷ [])) (group_over xs (after x os))
    ∙ ap (λ (t : Bool). s.over || (t || group_over xs (after x os))) (over-next x.layout x.raw os)
