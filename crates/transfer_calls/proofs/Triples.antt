-- Lists made of a run by three numbers each, and the element at a place of the run's counted part. Assumes nothing.
use Prim.Native.Nat.{ℕ, zero, suc, ◌+◌, ◌*◌, ◌-◌, ◌/◌, ◌≤◌, ◌<◌, min}
use mathlib.Core.Bool.{Bool, true, false}
use mathlib.Core.List.{List, [], ◌∷◌, map}
use mathlib.Core.Path.{◌≡◌, refl, sym, ap, ◌∙◌}
use native.Mathlib.Omega.{arith}
use lib.Dec.{ltb}
use borrow.Author.Tests.{ltb-true, ltb-false, lt-ltb, le-ltb}
use lib.ListN.{length, get_or, take, drop, length-take, length-drop}
use lib.Seq.{drop-cons, get_or-take}
use Rattle.records.specs.declared.command.BufferCopy.{BufferCopy}
use Rattle.calls.specs.Transfers.{Barrier, barriers_of, copies_of}

-- `of` makes an element of each three numbers
pub record Threes {E : Type 0} (make : ℕ → ℕ → ℕ → E) (of : List ℕ → List E) : Type 0 where
  pub short : (l : List ℕ) → length l < 3 → of l ≡ []
  pub next : (a b c : ℕ) (l : List ℕ) → of (a ∷ b ∷ c ∷ l) ≡ make a b c ∷ of l

module _ {E : Type 0} (make : ℕ → ℕ → ℕ → E) (of : List ℕ → List E) (t : Threes make of) where
  abbrev at : List ℕ → ℕ → E
  at l i = make (get_or l (3 * i) 0) (get_or l (3 * i + 1) 0) (get_or l (3 * i + 2) 0)

  -- how many they are
  pub long : (l : List ℕ) → (3 * length (of l) ≤ length l) × (length l < 3 * length (of l) + 3)
  long [] = rw (t.short [] (omega arith)) (omega arith)
  long (a ∷ []) = rw (t.short (a ∷ []) (omega arith)) (omega arith)
  long (a ∷ b ∷ []) = rw (t.short (a ∷ b ∷ []) (omega arith)) (omega arith)
  long (a ∷ b ∷ c ∷ l) = rw (t.next a b c l) (let h = long l in omega arith)

  -- none stands behind the last
  pub end : (l : List ℕ) (m : ℕ) → length l < 3 * m + 3 → of (drop (3 * m) l) ≡ []
  end l m h = t.short (drop (3 * m) l) (omega (arith, length-drop (3 * m) l))

  -- one stands before those behind it
  pub front : (l : List ℕ) (i : ℕ) → 3 * i + 2 < length l → of (drop (3 * i) l) ≡ at l i ∷ of (drop (3 * suc i) l)
  front l i h =
      let one : suc (3 * i) ≡ 3 * i + 1 = omega arith in
      let two : suc (3 * i + 1) ≡ 3 * i + 2 = omega arith in
      let all : suc (3 * i + 2) ≡ 3 * suc i = omega arith in
      let rest : drop (3 * i + 2) l ≡ get_or l (3 * i + 2) 0 ∷ drop (3 * suc i) l = drop-cons l (3 * i + 2) 0 (omega arith) ∙ ap (λ (k : ℕ). get_or l (3 * i + 2) 0 ∷ drop k l) all in
      let more : drop (3 * i + 1) l ≡ get_or l (3 * i + 1) 0 ∷ drop (3 * i + 2) l = drop-cons l (3 * i + 1) 0 (omega arith) ∙ ap (λ (k : ℕ). get_or l (3 * i + 1) 0 ∷ drop k l) two in
      let whole : drop (3 * i) l ≡ get_or l (3 * i) 0 ∷ drop (3 * i + 1) l = drop-cons l (3 * i) 0 (omega arith) ∙ ap (λ (k : ℕ). get_or l (3 * i) 0 ∷ drop k l) one in
      ap of (whole ∙ ap (λ (r : List ℕ). get_or l (3 * i) 0 ∷ r) (more ∙ ap (λ (r : List ℕ). get_or l (3 * i + 1) 0 ∷ r) rest)) ∙ t.next _ _ _ _

  -- the element at a place
  by_place : (l : List ℕ) (i : ℕ) (d : E) → 3 * i + 2 < length l → get_or (of l) i d ≡ at l i
  by_place [] i d h = absurd (omega arith)
  by_place (a ∷ []) i d h = absurd (omega arith)
  by_place (a ∷ b ∷ []) i d h = absurd (omega arith)
  by_place (a ∷ b ∷ c ∷ l) zero d h = rw (t.next a b c l)
  by_place (a ∷ b ∷ c ∷ l) (suc i) d h =
      let e0 : 3 * suc i ≡ suc (suc (suc (3 * i))) = omega arith in
      let e1 : 3 * suc i + 1 ≡ suc (suc (suc (3 * i + 1))) = omega arith in
      let e2 : 3 * suc i + 2 ≡ suc (suc (suc (3 * i + 2))) = omega arith in
      rw (t.next a b c l, e2, e1, e0) (by_place l i d (omega arith))

  -- an element of the counted part is that of the run
  pub counted-at : (run : List ℕ) (n i : ℕ) → 3 * i + 2 < n → at (take n run) i ≡ at run i
  counted-at run n i h = rw (get_or-take n run (3 * i) 0 (omega arith), get_or-take n run (3 * i + 1) 0 (omega arith), get_or-take n run (3 * i + 2) 0 (omega arith))

  -- the elements of the counted part, gone through from the last to the first
  module _ (run : List ℕ) (count : ℕ) where
    abbrev behind : ℕ → List E
    behind i = of (drop (3 * i) (take (3 * count) run))

    pub none-behind : (m : ℕ) → min (3 * count) (length run) < 3 * m + 3 → behind m ≡ []
    none-behind m h = end (take (3 * count) run) m (omega (arith, length-take (3 * count) run))

    pub next-behind : (i : ℕ) → 3 * i + 2 < min (3 * count) (length run) → behind i ≡ at run i ∷ behind (i + 1)
    next-behind i h =
        let e : suc i ≡ i + 1 = omega arith in
        front (take (3 * count) run) i (omega (arith, length-take (3 * count) run))
        ∙ ap (λ (x : E). x ∷ behind (suc i)) (counted-at run (3 * count) i (omega arith))
        ∙ ap (λ (k : ℕ). at run i ∷ behind k) e

    pub one-behind : (left : ℕ) → 0 < left → 3 * left ≤ min (3 * count) (length run) → behind (left - 1) ≡ at run (left - 1) ∷ behind left
    one-behind left h k =
        let e : left - 1 + 1 ≡ left = omega arith in
        next-behind (left - 1) (omega arith) ∙ ap (λ (i : ℕ). at run (left - 1) ∷ behind i) e

    pub reaches : (i : ℕ) → (behind i ≡ [] → ⊥) → 3 * i + 2 < min (3 * count) (length run)
    reaches i some = go (ltb (3 * i + 2) (min (3 * count) (length run))) refl
      where
        go : (t : Bool) → ltb (3 * i + 2) (min (3 * count) (length run)) ≡ t → 3 * i + 2 < min (3 * count) (length run)
        go true e = ltb-true _ _ e
        go false e = absurd (some (none-behind i (let l : min (3 * count) (length run) ≤ 3 * i + 2 = ltb-false _ _ e in omega arith)))

    pub inside : (i : ℕ) → i < length (of (take (3 * count) run)) → 3 * i + 2 < min (3 * count) (length run)
    inside i h = let l = long (take (3 * count) run) in omega (arith, length-take (3 * count) run)

    pub placed : (i : ℕ) (d : E) → i < length (of (take (3 * count) run)) → at run i ≡ get_or (of (take (3 * count) run)) i d
    placed i d h =
        let k = inside i h in
        sym (by_place (take (3 * count) run) i d (omega (arith, length-take (3 * count) run)) ∙ counted-at run (3 * count) i (omega arith))

    pub as_many : (m : ℕ) → 3 * m ≤ min (3 * count) (length run) → min (3 * count) (length run) < 3 * m + 3 → m ≡ length (of (take (3 * count) run))
    as_many m h k = let l = long (take (3 * count) run) in omega (arith, length-take (3 * count) run)

-- what is made of the elements
pub each : {E F : Type 0} {make : ℕ → ℕ → ℕ → E} {of : List ℕ → List E} (f : E → F) → Threes make of → Threes (λ a b c. f (make a b c)) (λ l. map f (of l))
each f t = record { short = λ l h. ap (map f) (t.short l h); next = λ a b c l. ap (map f) (t.next a b c l) }

-- more elements counted than the run has, said without the product
pub past-run : (n count : ℕ) → ltb (n / 3) count ≡ ltb n (3 * count)
past-run n count = go (ltb n (3 * count)) refl
  where
    go : (t : Bool) → ltb n (3 * count) ≡ t → ltb (n / 3) count ≡ t
    go true e = let l : n < 3 * count = ltb-true n (3 * count) e in lt-ltb (n / 3) count (omega arith)
    go false e = let l : 3 * count ≤ n = ltb-false n (3 * count) e in le-ltb (n / 3) count (omega arith)

-- ---- the two kinds of elements
abbrev barrier : ℕ → ℕ → ℕ → Barrier
barrier a b c = record { buffer = a; from = b; to = c }

pub barriers : Threes barrier barriers_of
unfolding barriers_of
barriers = record { short = short; next = λ a b c l. refl }
  where
    short : (l : List ℕ) → length l < 3 → barriers_of l ≡ []
    short [] h = refl
    short (a ∷ []) h = refl
    short (a ∷ b ∷ []) h = refl
    short (a ∷ b ∷ c ∷ l) h = absurd (omega arith)

abbrev copy : ℕ → ℕ → ℕ → BufferCopy
copy a b c = record { src_offset = a; dst_offset = b; size = c }

pub copies : Threes copy copies_of
unfolding copies_of
copies = record { short = short; next = λ a b c l. refl }
  where
    short : (l : List ℕ) → length l < 3 → copies_of l ≡ []
    short [] h = refl
    short (a ∷ []) h = refl
    short (a ∷ b ∷ []) h = refl
    short (a ∷ b ∷ c ∷ l) h = absurd (omega arith)
