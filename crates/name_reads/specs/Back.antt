-- Document 02, request 2: each reader reads back what its map gives. `read_back` is the one law, over an enumeration and a map whose numbers are all different; the seven follow it.
-- `handed-input`, `handed-number`: the same of what the two functions of a map handed back. Assumes nothing.
use Prim.Native.Nat.{ℕ, zero, suc, ◌<◌}
use Rattle.std.proofs.Math.Path.{◌≡◌, refl, ap}
use Rattle.std.proofs.Common.{sym, ◌∙◌, inl, inr, le_of_suc-le-suc, not-suc-le-zero, arith}
use Rattle.std.specs.Prelude.{Bool, ◌⊎◌, T, get_or}
use Rattle.std.proofs.Math.Bool.{true, false, cond}
use mathlib.Core.List.{List, [], ◌∷◌, map}
use Rattle.std.specs.Prelude.{Option, Some, None}
use Rattle.std.proofs.Math.Dec.{eqb}
use Rattle.std.proofs.Math.ListN.{length}
use borrow.Author.Tests.{eqb-true, eqb-false}
use Rattle.names.specs.Table.{Enumeration, different, injective}
use Rattle.names.specs.Different.{compare_names, topology_names, front_names, cull_names, stencil_op_names, factor_names, operation_names}
use Rattle.names.specs.Maps.{compare_func, primitive_topology, front_face_of, cull_face_of, stencil_op, blend_factor, blend_equation}
use Rattle.name_reads.specs.Read.{name_of, ReadsBack, answer_number, compare_read, topology_read, front_read, cull_read, stencil_op_read, factor_read, operation_read}

module _ {A : Type 0} (e : Enumeration A) (g : A → ℕ) where
  -- a name that is read has the number
  pub has-number : (n : ℕ) (l : List A) (a : A) → name_of g n l ≡ Some a → g a ≡ n
  unfolding name_of
  has-number n [] a q = let z : ◌≡◌ {A = ℕ} 0 1 = cc in absurd (omega arith)
  has-number n (b ∷ l) a q = go (eqb (g b) n) refl q (has-number n l a)
    where
      go : (t : Bool) → eqb (g b) n ≡ t → cond t (Some b) (name_of g n l) ≡ Some a → (name_of g n l ≡ Some a → g a ≡ n) → g a ≡ n
      go true p q ih = let z : b ≡ a = cc in ap g (sym z) ∙ eqb-true (g b) n p
      go false p q ih = ih q

  -- a list that has the number gives a name
  found : (n : ℕ) (l : List A) (k : ℕ) → k < length l → g (get_or l k e.first) ≡ n → (b : A) × (name_of g n l ≡ Some b)
  unfolding name_of
  found n [] k h q = absurd (not-suc-le-zero h)
  found n (b ∷ l) k h q = go (eqb (g b) n) refl k h q (found n l)
    where
      go : (t : Bool) → eqb (g b) n ≡ t → (k : ℕ) → k < suc (length l) → g (get_or (b ∷ l) k e.first) ≡ n
          → ((k : ℕ) → k < length l → g (get_or l k e.first) ≡ n → (c : A) × (name_of g n l ≡ Some c))
          → (c : A) × (cond t (Some b) (name_of g n l) ≡ Some c)
      go true p k h q ih = (b, refl)
      go false p zero h q ih = absurd (eqb-false (g b) n p q)
      go false p (suc k) h q ih = ih k (le_of_suc-le-suc h) q

  module _ (t : T (different (map g e.names))) where
    pub read_mapped : (a : A) → name_of g (g a) e.names ≡ Some a
    read_mapped a =
        let f = found (g a) e.names (e.place a) (e.below a) (ap g (e.placed a)) in
        f.1 ∙ ap Some (injective e g t f.0 a (has-number (g a) e.names f.0 f.1))

    pub none-given : (n : ℕ) → ((a : A) → g a ≡ n → ⊥) → name_of g n e.names ≡ None
    none-given n h = go (name_of g n e.names) refl
      where
        go : (o : Option A) → name_of g n e.names ≡ o → name_of g n e.names ≡ None
        go None q = q
        go (Some a) q = absurd (h a (has-number n e.names a q))

    -- the answers: `answer` makes one of what was found
    module _ {R : Type 0} (answer : Option A → R) (number : R → ℕ)
        (once : (a b : A) → answer (Some a) ≡ answer (Some b) → a ≡ b) (named : (a : A) → number (answer (Some a)) ≡ 0) (eight : number (answer None) ≡ 8) where
      abbrev read : ℕ → R
      read n = answer (name_of g n e.names)

      apart : (a : A) → number (answer (Some a)) ≡ 8 → ⊥
      apart a q = let z : ◌≡◌ {A = ℕ} 0 8 = sym (named a) ∙ q in omega arith

      given : (n : ℕ) → number (read n) ≡ 8 → (a : A) → g a ≡ n → ⊥
      given n q a h = apart a (ap (λ o. number (answer o)) (sym (read_mapped a)) ∙ ap (λ m. number (read m)) h ∙ q)

      numbered : (n : ℕ) (a : A) (o : Option A) → name_of g n e.names ≡ o → answer o ≡ answer (Some a) → g a ≡ n
      numbered n a None p q = absurd (apart a (ap number (sym q) ∙ eight))
      numbered n a (Some b) p q = ap g (sym (once b a q)) ∙ has-number n e.names b p

      answers : (n : ℕ) (o : Option A) → name_of g n e.names ≡ o → (number (read n) ≡ 8) ⊎ ((number (read n) ≡ 0) × (a : A) × (read n ≡ answer (Some a)))
      answers n None q = inl (ap (λ o. number (answer o)) q ∙ eight)
      answers n (Some a) q = inr (ap (λ o. number (answer o)) q ∙ named a, a, ap answer q)

      pub read_back : ReadsBack g read (λ a. answer (Some a)) number
      read_back =
          record {
            returns-input = λ a. ap answer (read_mapped a);
            returns-number = λ n a. numbered n a (name_of g n e.names) refl;
            never_given = λ n. (given n, λ h. ap (λ o. number (answer o)) (none-given n h) ∙ eight);
            no_other = λ n. answers n (name_of g n e.names) refl;
          }

pub compare-back : ReadsBack compare_func compare_read Some answer_number
compare-back = read_back compare_names compare_func tt (λ o. o) answer_number (λ a b q. cc) (λ a. refl) refl

pub topology-back : ReadsBack primitive_topology topology_read Some answer_number
topology-back = read_back topology_names primitive_topology tt (λ o. o) answer_number (λ a b q. cc) (λ a. refl) refl

pub front-back : ReadsBack front_face_of front_read Some answer_number
front-back = read_back front_names front_face_of tt (λ o. o) answer_number (λ a b q. cc) (λ a. refl) refl

pub cull-back : ReadsBack cull_face_of cull_read Some answer_number
cull-back = read_back cull_names cull_face_of tt (λ o. o) answer_number (λ a b q. cc) (λ a. refl) refl

pub stencil_op-back : ReadsBack stencil_op stencil_op_read Some answer_number
stencil_op-back = read_back stencil_op_names stencil_op tt (λ o. o) answer_number (λ a b q. cc) (λ a. refl) refl

pub factor-back : ReadsBack blend_factor factor_read Some answer_number
factor-back = read_back factor_names blend_factor tt (λ o. o) answer_number (λ a b q. cc) (λ a. refl) refl

pub operation-back : ReadsBack blend_equation operation_read Some answer_number
operation-back = read_back operation_names blend_equation tt (λ o. o) answer_number (λ a b q. cc) (λ a. refl) refl

-- n is what the map's function gave for a, r what the reader's function gave for n
pub handed-input : {A R : Type 0} {map : A → ℕ} {read : ℕ → R} {name : A → R} {number : R → ℕ}
    → ReadsBack map read name number → (a : A) (n : ℕ) (r : R) → n ≡ map a → r ≡ read n → r ≡ name a
handed-input {read = read} b a n r p q = q ∙ ap read p ∙ b.returns-input a

-- the reader's function gave the name a for n, m is what the map's function then gave for a
pub handed-number : {A R : Type 0} {map : A → ℕ} {read : ℕ → R} {name : A → R} {number : R → ℕ}
    → ReadsBack map read name number → (n : ℕ) (r : R) (a : A) (m : ℕ) → r ≡ read n → r ≡ name a → m ≡ map a → m ≡ n
handed-number b n r a m q s p = p ∙ b.returns-number n a (sym q ∙ s)
