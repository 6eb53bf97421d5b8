-- The entries reached and the dynamic offsets left, one by one. Assumes nothing.
-- `reached-cut`: the entries reached are the first n of both. `entry_next`, `entry-end`: those from place j on.
-- `left-next`: the offsets that are left after an entry. `left-head`: the first of those that are left.
use Prim.Native.Nat.{ℕ, zero, suc, ◌+◌, ◌≤◌, ◌<◌, min}
use mathlib.Core.Bool.{Bool, true, false, cond}
use mathlib.Core.List.{List, [], ◌∷◌}
use mathlib.Core.Path.{◌≡◌, refl, ap, ap₂, ◌∙◌}
use native.Mathlib.Nat.{not-suc-le-zero, le_of_suc-le-suc}
use native.Mathlib.Omega.{arith}
use lib.ListN.{length, take, drop, get_or, length-take, drop_of_length-le}
use lib.Seq.{get_or-take}
use Rattle.mask.specs.Mask.{digit_of}
use Rattle.records.specs.declared.binding.BindGroupLayoutEntry.{BindGroupLayoutEntry}
use Rattle.records.specs.declared.binding.BindingType.TheVariants.{Buffer}
use Rattle.records.specs.declared.binding.BufferBindingType.TheVariants.{Uniform}
use Rattle.records.specs.declared.binding.BindGroup.{BindGroup}
use Rattle.records.specs.declared.binding.Content.{Content}
use Rattle.records.specs.declared.binding.GroupEntries.{GroupEntries}
use Rattle.records.specs.declared.binding.GroupShape.{GroupShape}
use Rattle.records.specs.declared.binding.PipelineLayout.{PipelineLayout}
use Rattle.records.specs.declared.binding.RawBinding.TheVariants as content
use lib.IntN.{pos}
use Rattle.bindings.specs.Group.{Entry, zipped, group_at, entries_of, head_or, rest}

-- ---- the entries
abbrev entry : BindGroupLayoutEntry → Content → Entry
entry e c = record { layout = e; raw = c.binding }

zip-next : (es : List BindGroupLayoutEntry) (cs : List Content) (j : ℕ) (d : BindGroupLayoutEntry) (f : Content) → j < length es → j < length cs
    → drop j (zipped es cs) ≡ entry (get_or es j d) (get_or cs j f) ∷ drop (suc j) (zipped es cs)
unfolding zipped
zip-next [] cs j d f h k = absurd (not-suc-le-zero h)
zip-next (e ∷ es) [] j d f h k = absurd (not-suc-le-zero k)
zip-next (e ∷ es) (c ∷ cs) zero d f h k = refl
zip-next (e ∷ es) (c ∷ cs) (suc j) d f h k = zip-next es cs j d f (le_of_suc-le-suc h) (le_of_suc-le-suc k)

zip-short : (es : List BindGroupLayoutEntry) (cs : List Content) → length (zipped es cs) ≤ length es
unfolding zipped
zip-short [] cs = omega arith
zip-short (e ∷ es) [] = omega arith
zip-short (e ∷ es) (c ∷ cs) = omega (arith, zip-short es cs)

none : (a b : ℕ) (es : List BindGroupLayoutEntry) (cs : List Content) → min (min a (length es)) (min b (length cs)) ≤ 0 → zipped (take a es) (take b cs) ≡ []
unfolding zipped
none zero b es cs h = refl
none (suc a) b [] cs h = refl
none (suc a) zero (e ∷ es) cs h = refl
none (suc a) (suc b) (e ∷ es) [] h = refl
none (suc a) (suc b) (e ∷ es) (c ∷ cs) h = absurd (omega arith)

-- the first n of both, where that is all that the two reach
zip-cut : (a b n : ℕ) (es : List BindGroupLayoutEntry) (cs : List Content) → n ≤ a → n ≤ b → min (min a (length es)) (min b (length cs)) ≤ n
    → zipped (take a es) (take b cs) ≡ zipped (take n es) (take n cs)
unfolding zipped
zip-cut a b zero es cs ha hb h = none a b es cs (omega arith)
zip-cut zero b (suc n) es cs ha hb h = absurd (not-suc-le-zero ha)
zip-cut (suc a) zero (suc n) es cs ha hb h = absurd (not-suc-le-zero hb)
zip-cut (suc a) (suc b) (suc n) [] cs ha hb h = refl
zip-cut (suc a) (suc b) (suc n) (e ∷ es) [] ha hb h = refl
zip-cut (suc a) (suc b) (suc n) (e ∷ es) (c ∷ cs) ha hb h =
    ap (λ (xs : List Entry). entry e c ∷ xs) (zip-cut a b n es cs (le_of_suc-le-suc ha) (le_of_suc-le-suc hb) (omega arith))

-- the first n entries and contents
abbrev pub cut : ℕ → List BindGroupLayoutEntry → List Content → List Entry
cut n es cs = zipped (take n es) (take n cs)

module _ (es : List BindGroupLayoutEntry) (cs : List Content) (le : length es ≡ 64) (lc : length cs ≡ 64) where
  entries-cut : (t : Bool) (a b n : ℕ) → n ≡ min (cond t (min a 64) 0) (min b 64) → zipped (cond t (take a es) []) (take b cs) ≡ cut n es cs
  unfolding zipped
  entries-cut true a b n e = zip-cut a b n es cs (omega arith) (omega arith) (omega arith)
  entries-cut false a b n e = let z : n ≡ 0 = omega arith in rw z

  pub entry_next : (n j : ℕ) (d : BindGroupLayoutEntry) (f : Content) → j < n → n ≤ 64
      → drop j (cut n es cs) ≡ entry (get_or es j d) (get_or cs j f) ∷ drop (suc j) (cut n es cs)
  entry_next n j d f h k =
      zip-next (take n es) (take n cs) j d f (omega (arith, length-take n es)) (omega (arith, length-take n cs))
      ∙ ap₂ (λ (x : BindGroupLayoutEntry) (y : Content). entry x y ∷ drop (suc j) (cut n es cs)) (get_or-take n es j d h) (get_or-take n cs j f h)

  pub entry-end : (n j : ℕ) → n ≤ j → drop j (cut n es cs) ≡ []
  entry-end n j h = drop_of_length-le (cut n es cs) {i = j} (omega (arith, zip-short (take n es) (take n cs), length-take n es))

-- where n is what `reached` gives
pub reached-cut : (l : PipelineLayout) (i : ℕ) (e : GroupEntries) (g : BindGroup) → length e.entries ≡ 64 → length g.contents ≡ 64
    → (s : GroupShape) (n : ℕ) → s ≡ group_at l i → n ≡ min (cond s.present (min s.entry_count 64) 0) (min g.content_count 64)
    → entries_of l i e g ≡ cut n e.entries g.contents
reached-cut l i e g le lc s n p q =
    entries-cut e.entries g.contents le lc (group_at l i).present (group_at l i).entry_count g.content_count n
    (q ∙ ap (λ (x : GroupShape). min (cond x.present (min x.entry_count 64) 0) (min g.content_count 64)) p)

-- what lies past the arrays
abbrev pub no_entry : BindGroupLayoutEntry
no_entry = record { binding = 0; ty = Buffer Uniform false; slot = 0 }

abbrev pub no_content : Content
no_content = record { binding = content.Buffer 0 (pos 0) (pos 0) }

-- ---- the dynamic offsets
pub digit-le : (t : Bool) → digit_of t ≤ 1
digit-le true = omega arith
digit-le false = omega arith

rest-drop : (u : ℕ) (os : List ℕ) → rest (drop u os) ≡ drop (suc u) os
rest-drop zero [] = refl
rest-drop zero (o ∷ os) = refl
rest-drop (suc u) [] = refl
rest-drop (suc u) (o ∷ os) = rest-drop u os

pub left-next : (t : Bool) (u : ℕ) (os : List ℕ) → cond t (rest (drop u os)) (drop u os) ≡ drop (u + digit_of t) os
left-next true u os = let e : suc u ≡ u + 1 = omega arith in rest-drop u os ∙ ap (λ (k : ℕ). drop k os) e
left-next false u os = let e : u ≡ u + 0 = omega arith in ap (λ (k : ℕ). drop k os) e

pub left-head : (u : ℕ) (os : List ℕ) → head_or 0 (drop u os) ≡ get_or os u 0
left-head zero [] = refl
left-head zero (o ∷ os) = refl
left-head (suc u) [] = refl
left-head (suc u) (o ∷ os) = left-head u os
