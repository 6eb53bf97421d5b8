-- Laws of the search. `search-hit`, `search-none`: what stands at the places that were looked at gives its answer.
-- `item-copied`: what `get` lends, copied. `searched-read`: a table searched from its end gives the place of the name that has the number. Assumes nothing.
use Rattle.std.proofs.Common.{ℕ, zero, suc, ◌+◌, ◌<◌, ◌≤◌, ◌≡◌, refl, sym, ap, ◌∙◌, Bool, true, false, cond, ◌⊎◌, inl, inr, List, map, T, eqb, ltb, length, get_or, slice_get, Option, Some, None, option_and_then, option_copied, Bor, arith, le_refl, not-suc-le-zero}
use Rattle.std.specs.Slice.{IsItemAt}
use Rattle.std.proofs.lemmas.Option.{slice_get-get_or, slice_get_past}
use borrow.Author.Tests.{eq-eqb, ne_eqb, eqb-true, eqb-false, ltb-true, ltb-false}
use Rattle.names.specs.Table.{Enumeration, different, at_place, map-long}
use Rattle.name_reads.specs.Read.{name_of}
use Rattle.name_reads.specs.Search.{searched, last_place}
use Rattle.name_reads.specs.Back.{read_mapped, none-given}

-- the table holds n at i, and at no place after it below l
pub search-hit : (xs : List ℕ) (n l i : ℕ) → i < l → get_or xs i 0 ≡ n → ((k : ℕ) → i + 1 ≤ k → k < l → get_or xs k 0 ≡ n → ⊥) → searched xs n l ≡ Some i
unfolding searched
search-hit xs n zero i h q after = absurd (not-suc-le-zero h)
search-hit xs n (suc l) i h q after = go (ltb i l) refl (search-hit xs n l i)
  where
    go : (b : Bool) → ltb i l ≡ b → (i < l → get_or xs i 0 ≡ n → ((k : ℕ) → i + 1 ≤ k → k < l → get_or xs k 0 ≡ n → ⊥) → searched xs n l ≡ Some i) → searched xs n (suc l) ≡ Some i
    go true p ih =
        let m = ltb-true i l p in
        ap (λ t. cond t (Some l) (searched xs n l)) (ne_eqb (get_or xs l 0) n (after l (omega (arith, m)) (omega arith)))
        ∙ ih m q (λ k a b. after k a (omega (arith, b)))
    go false p ih =
        let m = ltb-false i l p in
        let s : l ≡ i = omega (arith, m, h) in
        ap (λ t. cond t (Some l) (searched xs n l)) (eq-eqb (get_or xs l 0) n (ap (λ k. get_or xs k 0) s ∙ q)) ∙ ap Some s

pub search-none : (xs : List ℕ) (n l : ℕ) → ((k : ℕ) → k < l → get_or xs k 0 ≡ n → ⊥) → searched xs n l ≡ None
unfolding searched
search-none xs n zero none = refl
search-none xs n (suc l) none =
    ap (λ t. cond t (Some l) (searched xs n l)) (ne_eqb (get_or xs l 0) n (none l (omega arith)))
    ∙ search-none xs n l (λ k h. none k (omega (arith, h)))

pub item-copied : {X : Type 0} (xs : List X) (i : ℕ) (r : Option (Bor X)) → IsItemAt xs i r → option_copied r ≡ slice_get xs i
item-copied xs i None h = sym (slice_get_past xs i h.3)
item-copied xs i (Some x) h = ap Some h.1 ∙ sym (slice_get-get_or xs i x.now h.3.0)

module _ {A : Type 0} (e : Enumeration A) (g : A → ℕ) where
  -- the number of the name at a place
  abbrev at : ℕ → ℕ
  at k = g (get_or e.names k e.first)

  abbrev table : List ℕ
  table = map g e.names

  -- what the search below k has found: a place with the number, or that none of these has it
  abbrev Found : ℕ → ℕ → Option ℕ → Type 0
  Found n k o = ((r : ℕ) × (o ≡ Some r) × (r < length e.names) × (at r ≡ n)) ⊎ ((o ≡ None) × ((j : ℕ) → j < k → at j ≡ n → ⊥))

  search-found : (n k : ℕ) → k ≤ length e.names → Found n k (searched table n k)
  unfolding searched
  search-found n zero h = inr (refl, λ j l q. not-suc-le-zero l)
  search-found n (suc k) h = go (eqb (get_or table k 0) n) refl (search-found n k (omega arith))
    where
      go : (b : Bool) → eqb (get_or table k 0) n ≡ b → Found n k (searched table n k) → Found n (suc k) (cond b (Some k) (searched table n k))
      go true p f = inl (k, refl, h, sym (at_place g e.first e.names k h) ∙ eqb-true (get_or table k 0) n p)
      go false p (inl x) = inl x
      go false p (inr x) = inr (x.0, λ j l q. last j l q (ltb j k) refl)
        where
          last : (j : ℕ) → j < suc k → at j ≡ n → (b : Bool) → ltb j k ≡ b → ⊥
          last j l q true r = x.1 j (ltb-true j k r) q
          last j l q false r =
              let m = ltb-false j k r in
              let s : j ≡ k = omega arith in
              eqb-false (get_or table k 0) n p (at_place g e.first e.names k h ∙ ap at (sym s) ∙ q)

  pub searched-read : T (different (map g e.names)) → (n : ℕ)
      → option_and_then (slice_get e.names) (last_place (map g e.names) n) ≡ name_of g n e.names
  searched-read t n =
      ap (λ l. option_and_then (slice_get e.names) (searched table n l)) (map-long g e.names)
      ∙ go (searched table n (length e.names)) (search-found n (length e.names) (le_refl (length e.names)))
    where
      go : (o : Option ℕ) → Found n (length e.names) o → option_and_then (slice_get e.names) o ≡ name_of g n e.names
      go o (inl (r, q, h, x)) =
          ap (option_and_then (slice_get e.names)) q
          ∙ slice_get-get_or e.names r e.first h
          ∙ sym (read_mapped e g t (get_or e.names r e.first))
          ∙ ap (λ m. name_of g m e.names) x
      go o (inr (q, x)) =
          ap (option_and_then (slice_get e.names)) q
          ∙ sym (none-given e g t n (λ a p. x (e.place a) (e.below a) (ap g (e.placed a) ∙ p)))
