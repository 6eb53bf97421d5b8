-- Samplers and units: a pipeline call re-sends the units whose number it changes, a bind group call those whose texture or sampler it names; each unit then holds the state's sampler under its number. Assumes nothing.
use Prim.Native.Nat.{ℕ, ◌<◌, ◌≤◌}
use mathlib.Core.Path.{◌≡◌, refl, sym, ap, ap₂, ◌∙◌, subst}
use mathlib.Core.Bool.{Bool, true, false, cond, not, ◌&&◌, ◌||◌}
use mathlib.Core.List.{List, [], ◌∷◌}
use native.Mathlib.Omega.{arith}
use lib.Dec.{eqb, leb}
use lib.ListN.{length, get_or, length-set}
use borrow.Author.Tests.{eqb-true, eq-eqb, ne_eqb, leb-true, leb-false}
use Rattle.tables.specs.Tabulate.{long, at_place}
use Rattle.mask.specs.Mask.{test_bit, places}
use Rattle.mask.specs.Laws.{test-set}
use Rattle.mask.specs.By.{by-at}
use Rattle.records.specs.Start.{start_texture_slot}
use Rattle.records.specs.Same.{same_option_u32, option-u32}
use Rattle.records.specs.Check.{some?}
use Rattle.records.specs.declared.binding.BindGroupLayoutEntry.{BindGroupLayoutEntry}
use Rattle.records.specs.declared.binding.RawBinding.{RawBinding}
use Rattle.records.specs.declared.binding.RawBinding.TheVariants as content
use Rattle.std.specs.Prelude.{is_some, Option, None, Some}
use Rattle.records.specs.declared.pipeline.PipelineInner.{PipelineInner}
use Rattle.records.specs.declared.state.TextureSlotDesc.{TextureSlotDesc}
use Rattle.records.specs.declared.state.BindState.{BindState}
use Rattle.slots.specs.Places.{among-places}
use Rattle.bindings.specs.Units.{unit_at, sampler_at, number_at, resolve, takes_one, dirty_units}
use Rattle.bindings.specs.Group.{Entry, entry_state, group_state, is_sampler, names_sampler, textures_named, samplers_named, content_out_of_range, entry_out_of_range, offsets_after}
use Rattle.pipeline.specs.Inner.{value_or, map_at, changed_units, inner_bind}
use Rattle.machine.proofs.Lists.{true-false, or_left, or_right, set_at}
use Rattle.machine.proofs.Sweep.{folded, swept}
use Rattle.machine.specs.Machine.{Bindings, put_sampler}
use Rattle.book.specs.Book.{Bound}
use Rattle.order.proofs.Own.{entry_bound, group_bound}
use Rattle.order.proofs.Invariant.{Units}

-- one `BindSampler` on the machine's bindings
abbrev pub sampler_act : BindState → ℕ → Bindings → Bindings
sampler_act b u g = put_sampler u (resolve b (number_at b u)) g

pub sampler-swept : (b : BindState) (m : ℕ) (g : Bindings) (u : ℕ) → u < 16
    → (folded (sampler_act b) (places m) g).samplers u ≡ cond (test_bit m u) (resolve b (number_at b u)) (g.samplers u)
sampler-swept b m g u l =
    swept (sampler_act b) (λ (x : Bindings). x.samplers) (λ u. resolve b (number_at b u)) sets (places m) g u
    ∙ ap (λ (t : Bool). cond t (resolve b (number_at b u)) (g.samplers u)) (among-places m u (omega arith))
  where
    sets : (x : Bindings) (k i : ℕ) → (sampler_act b k x).samplers i ≡ cond (eqb i k) (resolve b (number_at b i)) (x.samplers i)
    sets x k i = go (eqb i k) refl
      where
        go : (t : Bool) → eqb i k ≡ t → cond t (resolve b (number_at b k)) (x.samplers i) ≡ cond t (resolve b (number_at b i)) (x.samplers i)
        go true e = ap (λ (j : ℕ). resolve b (number_at b j)) (sym (eqb-true i k e))
        go false e = refl

-- ---- a pipeline call
pub number-after : (p : PipelineInner) (b : BindState) (u : ℕ) → u < 16 → number_at (inner_bind p b) u ≡ map_at p u
number-after p b u l =
    let s = by-at 16 (λ u. is_some (map_at p u)) u l in
    let t = at_place 16 (λ u. record { tex_target = (unit_at b u).tex_target; sampler_index = value_or 0 (map_at p u) }) u start_texture_slot l in
    (λ j. cond (s j) (Some (t j).sampler_index) None) ∙ go (map_at p u)
  where
    go : (o : Option ℕ) → cond (is_some o) (Some (value_or 0 o)) None ≡ o
    go None = refl
    go (Some k) = refl

pub units-piped : (p : PipelineInner) (b : BindState) (g : Bindings) (held : ℕ → Option ℕ) → Units b g.samplers held
    → Units (inner_bind p b) (folded (sampler_act (inner_bind p b)) (places (changed_units p b)) g).samplers held
unfolding changed_units
units-piped p b g held U =
    record {
      samplers_long = U.samplers_long;
      units_long = long 16 (λ u. record { tex_target = (unit_at b u).tex_target; sampler_index = value_or 0 (map_at p u) });
      same = U.same;
      taken = λ u l.
          sampler-swept (inner_bind p b) (changed_units p b) g u l
          ∙ ap (λ (t : Bool). cond t (resolve (inner_bind p b) (number_at (inner_bind p b) u)) (g.samplers u)) (by-at 16 (λ u. not (same_option_u32 (map_at p u) (number_at b u))) u l)
          ∙ go u l (same_option_u32 (map_at p u) (number_at b u)) refl;
    }
  where
    go : (u : ℕ) → u < 16 → (t : Bool) → same_option_u32 (map_at p u) (number_at b u) ≡ t
        → cond (not t) (resolve (inner_bind p b) (number_at (inner_bind p b) u)) (g.samplers u) ≡ resolve (inner_bind p b) (number_at (inner_bind p b) u)
    go u l true e =
        U.taken u l ∙ ap (resolve b) (sym (option-u32.equal (map_at p u) (number_at b u) e) ∙ sym (number-after p b u l)) ∙ still (number_at (inner_bind p b) u)
      where
        still : (o : Option ℕ) → resolve b o ≡ resolve (inner_bind p b) o
        still None = refl
        still (Some k) = refl
    go u l false e = refl

-- ---- a bind group call: entry by entry
-- the units' numbers stay
number-kept : (e : BindGroupLayoutEntry) (r : RawBinding) (b : BindState) (u : ℕ) → length b.texture_slots ≡ 16 → content_out_of_range e.slot r ≡ false → number_at (entry_state e r b) u ≡ number_at b u
number-kept e (content.Buffer raw offset size) b u n c = refl
number-kept e (content.Texture raw target aspects mips) b u n c =
    let x : TextureSlotDesc = record { tex_target = target; sampler_index = (unit_at b e.slot).sampler_index } in
    let q : (unit_at (entry_state e (content.Texture raw target aspects mips) b) u).sampler_index ≡ (unit_at b u).sampler_index =
    ap (λ (t : TextureSlotDesc). t.sampler_index) (set_at b.texture_slots e.slot u x start_texture_slot (subst (λ (k : ℕ). e.slot < k) (sym n) (leb-false 16 e.slot c)))
    ∙ go (eqb u e.slot) refl in
    λ j. cond (test_bit b.sampled u) (Some (q j)) None
  where
    go : (t : Bool) → eqb u e.slot ≡ t → (cond t (record { tex_target = target; sampler_index = (unit_at b e.slot).sampler_index }) (unit_at b u)).sampler_index ≡ (unit_at b u).sampler_index
    go true q = ap (λ (k : ℕ). (unit_at b k).sampler_index) (sym (eqb-true u e.slot q))
    go false q = refl
number-kept e (content.Image binding) b u n c = refl
number-kept e (content.Sampler k) b u n c = refl

-- a sampler is set under its slot's number, on both sides
sampler-entered : (e : BindGroupLayoutEntry) (r : RawBinding) (os : List ℕ) (b : BindState) (x : Bound) (k : ℕ) → length b.samplers ≡ 16 → content_out_of_range e.slot r ≡ false
    → sampler_at b k ≡ x.samplers k → sampler_at (entry_state e r b) k ≡ (entry_bound e r os x).samplers k
sampler-entered e (content.Buffer raw offset size) os b x k n c h = h
sampler-entered e (content.Texture raw target aspects mips) os b x k n c h = h
sampler-entered e (content.Image binding) os b x k n c h = h
sampler-entered e (content.Sampler s) os b x k n c h =
    let l : e.slot < 16 = leb-false 16 e.slot c in
    let p = test-set b.sampler_set k e.slot (in32 e.slot l) in
    let q = set_at b.samplers e.slot k s 0 (subst (λ (m : ℕ). e.slot < m) (sym n) l) in
    (λ j. cond (p j) (Some (q j)) None) ∙ go (eqb k e.slot) (test_bit b.sampler_set k)
    ∙ ap (cond (eqb k e.slot) (Some s)) h
  where
    in32 : (i : ℕ) → i < 16 → i < 32
    in32 i l = omega arith

    go : (t z : Bool) → cond (z || t) (Some (cond t s (get_or b.samplers k 0))) None ≡ cond t (Some s) (cond z (Some (get_or b.samplers k 0)) None)
    go true true = refl
    go true false = refl
    go false true = refl
    go false false = refl

long_kept : (e : BindGroupLayoutEntry) (r : RawBinding) (b : BindState) → (length (entry_state e r b).samplers ≡ length b.samplers) × (length (entry_state e r b).texture_slots ≡ length b.texture_slots)
long_kept e (content.Buffer raw offset size) b = (refl, refl)
long_kept e (content.Texture raw target aspects mips) b = (refl, length-set b.texture_slots e.slot (record { tex_target = target; sampler_index = (unit_at b e.slot).sampler_index }))
long_kept e (content.Image binding) b = (refl, refl)
long_kept e (content.Sampler k) b = (length-set b.samplers e.slot k, refl)

-- a sampler that the entry does not name is as it was
sampler-kept : (e : BindGroupLayoutEntry) (r : RawBinding) (b : BindState) (k : ℕ) → length b.samplers ≡ 16 → content_out_of_range e.slot r ≡ false
    → names_sampler k (record { layout = e; raw = r }) ≡ false → sampler_at (entry_state e r b) k ≡ sampler_at b k
sampler-kept e (content.Buffer raw offset size) b k n c h = refl
sampler-kept e (content.Texture raw target aspects mips) b k n c h = refl
sampler-kept e (content.Image binding) b k n c h = refl
sampler-kept e (content.Sampler s) b k n c h =
    let l : e.slot < 16 = leb-false 16 e.slot c in
    let no : eqb k e.slot ≡ false = ne_eqb k e.slot (λ q. true-false (sym (eq-eqb e.slot k (sym q)) ∙ h)) in
    let p = test-set b.sampler_set k e.slot (in32 e.slot l) ∙ ap (λ (t : Bool). test_bit b.sampler_set k || t) no ∙ or-false (test_bit b.sampler_set k) in
    let q = set_at b.samplers e.slot k s 0 (subst (λ (m : ℕ). e.slot < m) (sym n) l) ∙ ap (λ (t : Bool). cond t s (get_or b.samplers k 0)) no in
    λ j. cond (p j) (Some (q j)) None
  where
    in32 : (i : ℕ) → i < 16 → i < 32
    in32 i l = omega arith

    or-false : (t : Bool) → t || false ≡ t
    or-false true = refl
    or-false false = refl

content-ok : (x : Entry) → entry_out_of_range x ≡ false → content_out_of_range x.layout.slot x.raw ≡ false
content-ok x e = or_right (leb 256 x.layout.slot) (content_out_of_range x.layout.slot x.raw) (or_right (leb 1000 x.layout.binding) (leb 256 x.layout.slot || content_out_of_range x.layout.slot x.raw) e)

-- what a whole group leaves: lengths, numbers, samplers
pub record Regrouped (xs : List Entry) (os : List ℕ) (b : BindState) (x : Bound) : Type 0 where
  pub samplers_long : length (group_state xs b).samplers ≡ 16
  pub units_long : length (group_state xs b).texture_slots ≡ 16
  pub numbers : (u : ℕ) → number_at (group_state xs b) u ≡ number_at b u
  pub samplers : (k : ℕ) → sampler_at b k ≡ x.samplers k → sampler_at (group_state xs b) k ≡ (group_bound xs os x).samplers k
  pub unnamed : (k : ℕ) → some? (names_sampler k) xs ≡ false → sampler_at (group_state xs b) k ≡ sampler_at b k

pub regrouped : (xs : List Entry) (os : List ℕ) (b : BindState) (x : Bound) → length b.samplers ≡ 16 → length b.texture_slots ≡ 16 → some? entry_out_of_range xs ≡ false → Regrouped xs os b x
unfolding group_state group_bound some?
regrouped [] os b x n t e =
    record { samplers_long = n; units_long = t; numbers = λ u. refl; samplers = λ k h. h; unnamed = λ k h. refl }
regrouped (y ∷ ys) os b x n t e =
    let c = content-ok y (or_left (entry_out_of_range y) (some? entry_out_of_range ys) e) in
    let l = long_kept y.layout y.raw b in
    let R = regrouped ys (offsets_after y.layout y.raw os) (entry_state y.layout y.raw b) (entry_bound y.layout y.raw os x) (l.0 ∙ n) (l.1 ∙ t) (or_right (entry_out_of_range y) (some? entry_out_of_range ys) e) in
    record {
      samplers_long = R.samplers_long;
      units_long = R.units_long;
      numbers = λ u. R.numbers u ∙ number-kept y.layout y.raw b u t c;
      samplers = λ k h. R.samplers k (sampler-entered y.layout y.raw os b x k n c h);
      unnamed = λ k h.
          R.unnamed k (or_right (names_sampler k y) (some? (names_sampler k) ys) h)
          ∙ sampler-kept y.layout y.raw b k n c (or_left (names_sampler k y) (some? (names_sampler k) ys) h);
    }

-- no entry names a sampler that is not among the sixteen named
not_named : (xs : List Entry) (k : ℕ) → some? entry_out_of_range xs ≡ false → test_bit (samplers_named xs) k ≡ false → some? (names_sampler k) xs ≡ false
unfolding samplers_named some?
not_named xs k ok h = go (leb 16 k) refl
  where
    past : 16 ≤ k → (x : Entry) → content_out_of_range x.layout.slot x.raw ≡ false → names_sampler k x ≡ false
    past l x c = at x.raw c
      where
        at : (r : RawBinding) → content_out_of_range x.layout.slot r ≡ false → is_sampler r && eqb x.layout.slot k ≡ false
        at (content.Buffer raw offset size) q = refl
        at (content.Texture raw target aspects mips) q = refl
        at (content.Image binding) q = refl
        at (content.Sampler s) q = let low : x.layout.slot < 16 = leb-false 16 x.layout.slot q in ne_eqb x.layout.slot k (λ z. omega arith)

    none : 16 ≤ k → (ys : List Entry) → some? entry_out_of_range ys ≡ false → some? (names_sampler k) ys ≡ false
    none l [] q = refl
    none l (y ∷ ys) q =
        ap₂ (λ (s t : Bool). s || t) (past l y (content-ok y (or_left (entry_out_of_range y) (some? entry_out_of_range ys) q))) (none l ys (or_right (entry_out_of_range y) (some? entry_out_of_range ys) q))

    go : (t : Bool) → leb 16 k ≡ t → some? (names_sampler k) xs ≡ false
    go true q = none (leb-true 16 k q) xs ok
    go false q = sym (by-at 16 (λ k. some? (names_sampler k) xs) k (leb-false 16 k q)) ∙ h

pub units-grouped : (xs : List Entry) (os : List ℕ) (b : BindState) (g : Bindings) (x : Bound) → some? entry_out_of_range xs ≡ false → Units b g.samplers x.samplers
    → (g' : Bindings) → g'.samplers ≡ g.samplers
    → Units (group_state xs b) (folded (sampler_act (group_state xs b)) (places (dirty_units (group_state xs b) (textures_named xs) (samplers_named xs))) g').samplers (group_bound xs os x).samplers
units-grouped xs os b g x e U g' kept =
    record {
      samplers_long = R.samplers_long;
      units_long = R.units_long;
      same = λ k l. R.samplers k (U.same k l);
      taken = λ u l.
          sampler-swept (group_state xs b) (dirty_units (group_state xs b) (textures_named xs) (samplers_named xs)) g' u l
          ∙ ap₂ (λ (t : Bool) (o : Option ℕ). cond t (resolve (group_state xs b) (number_at (group_state xs b) u)) o)
          (by-at 16 (λ u. test_bit (textures_named xs) u || takes_one (samplers_named xs) (number_at (group_state xs b) u)) u l)
          (ap (λ (f : ℕ → Option ℕ). f u) kept ∙ U.taken u l ∙ ap (resolve b) (sym (R.numbers u)))
          ∙ go (test_bit (textures_named xs) u) (number_at (group_state xs b) u);
    }
  where
    R : Regrouped xs os b x
    R = regrouped xs os b x U.samplers_long U.units_long e

    go : (t : Bool) (o : Option ℕ) → cond (t || takes_one (samplers_named xs) o) (resolve (group_state xs b) o) (resolve b o) ≡ resolve (group_state xs b) o
    go true o = refl
    go false None = refl
    go false (Some k) = at (test_bit (samplers_named xs) k) refl
      where
        at : (s : Bool) → test_bit (samplers_named xs) k ≡ s → cond s (sampler_at (group_state xs b) k) (sampler_at b k) ≡ sampler_at (group_state xs b) k
        at true q = refl
        at false q = sym (R.unnamed k (not_named xs k e q))
