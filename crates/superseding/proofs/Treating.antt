-- The statements of `take_out_superseded`, one after the other, do what its contract says. Assumes nothing.
use Prim.Native.Nat.{ℕ, ◌≤◌, zero-le}
use native.Mathlib.Omega.{arith}
use mathlib.Core.Path.{◌≡◌, refl, sym, ◌∙◌, ap}
use mathlib.Core.Bool.{Bool, true, false, cond, ◌||◌}
use mathlib.Core.List.{List, ◌++◌, map}
use lib.Dec.{ltb}
use lib.ListN.{length, take, drop, length-map}
use lib.Seq.{length-take-le, take-append_seam}
use borrow.Author.Tests.{ltb-false}
use Rattle.records.specs.Check.{some?}
use Rattle.records.specs.declared.command.Command.{Command}
use Rattle.records.specs.declared.command.Record.{Record}
use Rattle.machine.specs.Each.{Each}
use Rattle.machine.proofs.Lists.{or_left, or_right}
use Rattle.lists.specs.declared.limits.Breaks.{Breaks}
use Rattle.lists.specs.declared.limits.Surveyed.{Surveyed}
use Rattle.lists.specs.declared.limits.Used.{Used}
use Rattle.lists.specs.Limits.{breaks, over_counts, handed, broken_by, broken, refusal_of}
use Rattle.lists.specs.Survey.{survey_of}
use Rattle.list_walks.specs.Back.{fold_back, map_back}
use Rattle.list_walks.specs.Sift.{sifted, over}
use Rattle.superseding.specs.declared.seen.Seen.{Seen}
use Rattle.superseding.specs.declared.treat.Treated.{Treated}
use Rattle.superseding.specs.Superseded.{trimmed}
use Rattle.superseding.specs.Seen.{nothing_seen, blanked_by, look_back, stays_of}
use Rattle.superseding.specs.Treated.{record_of, blanked_list, upto_of, answer_by, answer_of, left_run, Treats}
use Rattle.superseding.proofs.Ranges.{Kept, kept-all}
use Rattle.superseding.proofs.Blanks.{blanks, blanked-length, blanks-gone}

module _ (l : List Record) (u : Used) where
  abbrev b : Breaks
  b = broken_by (handed l u)

  abbrev cs : List Command
  cs = (handed l u).commands

  -- the records that are treated, what the first pass leaves, and what the second keeps of it
  abbrev upto : Bool → ℕ
  upto t = cond t 0 u.commands

  abbrev first : ℕ → List Record
  first n = map_back blanked_by look_back nothing_seen 0 (take n l) ++ drop n l

  abbrev second : ℕ → List Record
  second n = sifted stays_of (take n (first n))

  -- a list that breaks nothing is as long as it says
  pub fits : broken b ≡ false → u.commands ≤ length l
  fits e =
      let room = or_right b.range b.room (or_right b.many (b.range || b.room) e) in
      let counts = or_left (over_counts (length l) u) (some? (λ c. (breaks u c).room) cs) room in
      let bytes = or_right (ltb 4096 u.commands) (ltb 65536 u.bytes || (ltb 1024 u.queries || ltb (length l) u.commands)) counts in
      let queries = or_right (ltb 65536 u.bytes) (ltb 1024 u.queries || ltb (length l) u.commands) bytes in
      ltb-false (length l) u.commands (or_right (ltb 1024 u.queries) (ltb (length l) u.commands) queries)

  within_by : (t : Bool) → broken b ≡ t → upto t ≤ length l
  within_by true e = zero-le
  within_by false e = fits e

  pub within : upto_of (survey_of l u) ≤ length l
  within = within_by (broken b) refl

  kept : broken b ≡ false → Each Kept cs
  kept e = kept-all u cs (or_left b.range b.room (or_right b.many (b.range || b.room) e))

  -- what the first pass leaves of a list that breaks nothing, and what the second keeps
  first-is : broken b ≡ false → first u.commands ≡ map record_of (blanked_list cs) ++ drop u.commands l
  first-is e = ap (λ (k : List Record). k ++ drop u.commands l) (blanks 0 (take u.commands l) (kept e))

  pub long : broken b ≡ false → length (map record_of (blanked_list cs)) ≡ u.commands
  long e =
      length-map (blanked_list cs) record_of ∙ blanked-length cs ∙ length-map (take u.commands l) (λ (x : Record). x.command) ∙ length-take-le u.commands l (fits e)

  second_is : broken b ≡ false → second u.commands ≡ map record_of (trimmed cs)
  second_is e =
      let bs : List Record = map record_of (blanked_list cs) in
      ap (λ (k : List Record). sifted stays_of (take u.commands k)) (first-is e)
      ∙ ap (λ (n : ℕ). sifted stays_of (take n (bs ++ drop u.commands l))) (sym (long e))
      ∙ ap (sifted stays_of) (take-append_seam bs (drop u.commands l)) ∙ blanks-gone cs (kept e)

  answers : (t : Bool) → broken b ≡ t → answer_by b u.commands (length (second (upto t))) ≡ answer_by b u.commands (length (trimmed cs))
  answers true e =
      ap (λ (n : ℕ). record { outcome = refusal_of b; commands = n })
      (ap (λ (t : Bool). cond t u.commands (length (second 0))) e ∙ sym (ap (λ (t : Bool). cond t u.commands (length (trimmed cs))) e))
  answers false e = ap (answer_by b u.commands) (ap length (second_is e) ∙ length-map (trimmed cs) record_of)

  leaves : (t : Bool) → broken b ≡ t → over (second (upto t)) (first (upto t)) ≡ cond t l (left_run l u.commands cs)
  unfolding map_back sifted
  leaves true e = refl
  leaves false e = let p = second_is e in let q = first-is e in λ i. over (p i) (q i)

  pub treats : (s : Surveyed) (l₀ : List Record) → (s ≡ survey_of l u) × (l₀ ≡ l) → (n : ℕ) → n ≡ upto_of s → (z : Seen) → z ≡ nothing_seen
      → (w : Seen) (l₁ : List Record) → (w ≡ fold_back look_back z 0 (take n l₀)) × (l₁ ≡ map_back blanked_by look_back z 0 (take n l₀) ++ drop n l₀)
      → (k : ℕ) (l₂ : List Record) → (k ≡ length (sifted stays_of (take n l₁))) × (l₂ ≡ over (sifted stays_of (take n l₁)) l₁)
      → (r : Treated) → r ≡ answer_of s k → Treats l u l₂ r
  treats s l₀ es n en z ez w l₁ e₁ k l₂ e₂ r er =
      let n-is : n ≡ upto (broken b) = en ∙ ap upto_of es.0 in
      let same = es.1 in
      let l₁-is : l₁ ≡ first (upto (broken b)) = e₁.1 ∙ (λ i. map_back blanked_by look_back (ez i) 0 (take (n-is i) (same i)) ++ drop (n-is i) (same i)) in
      let known = es.0 in
      let k-is : k ≡ length (second (upto (broken b))) = e₂.0 ∙ (λ i. length (sifted stays_of (take (n-is i) (l₁-is i)))) in
      (er ∙ (λ i. answer_of (known i) (k-is i)) ∙ answers (broken b) refl, e₂.1 ∙ (λ i. over (sifted stays_of (take (n-is i) (l₁-is i))) (l₁-is i)) ∙ leaves (broken b) refl)

  -- the passes may be made
  pub may : (s : Surveyed) → s ≡ survey_of l u → (n : ℕ) → n ≡ upto_of s → n ≤ length l
  may s es n en = let n-is : n ≡ upto_of (survey_of l u) = en ∙ ap upto_of es in omega (arith, within, n-is)
