-- What a screen shows of each map: `shows` is the one law, over an enumeration whose numbers and whose words are all different and whose words have a byte; the seven follow it. Assumes nothing.
use Rattle.std.specs.Prelude.{ℕ, zero, suc, ◌+◌, ◌*◌, ◌<◌, ◌≡◌, refl, Bool, true, ◌&&◌, List, [], ◌∷◌, map, T, ltb, length, get_or}
use Rattle.std.proofs.Common.{sym, ap, ◌∙◌, subst, arith, le_of_suc-le-suc, not-suc-le-zero, ltb→lt}
use Rattle.std.specs.Prelude.{Option, Some, None}
use Rattle.std.proofs.Math.Facts.{and_yes}
use Rattle.names.specs.Table.{Enumeration, different, injective}
use Rattle.names.specs.Different.{compare_names, topology_names, front_names, cull_names, stencil_op_names, factor_names, operation_names}
use Rattle.names.specs.Maps.{compare_func, primitive_topology, front_face_of, cull_face_of, stencil_op, blend_factor, blend_equation}
use Rattle.name_reads.specs.declared.word.Map.TheVariants.{CompareFunc, PrimitiveTopology, FrontFace, CullMode, StencilOp, BlendFactor, BlendOperation}
use Rattle.name_reads.specs.Read.{name_of}
use Rattle.name_reads.specs.Spelling.{compare_word, topology_word, front_word, cull_word, stencil_op_word, factor_word, operation_word}
use Rattle.name_reads.specs.Word.{word_read, Shows, shown}
use Rattle.name_reads.specs.Back.{has-number, read_mapped, none-given}

-- bytes as one number, the first the least
abbrev numeral : List ℕ → ℕ
numeral [] = 0
numeral (b ∷ l) = b + 256 * numeral l

-- each word of a list has a byte
abbrev filled : List (List ℕ) → Bool
filled [] = true
filled (w ∷ l) = ltb 0 (length w) && filled l

module _ {A : Type 0} (e : Enumeration A) (g : A → ℕ) (w : A → List ℕ) (show : Option A → List ℕ) (of_none : show None ≡ []) (of_some : (a : A) → show (Some a) ≡ w a) where
  abbrev found : ℕ → Option A
  found n = name_of g n e.names

  abbrev long : Option A → ℕ
  long o = length (show o)

  module _ (t : T (different (map g e.names))) (d : T (different (map (λ a. numeral (w a)) e.names))) (f : T (filled (map w e.names))) where
    word-once : (a b : A) → w a ≡ w b → a ≡ b
    word-once a b q = injective e (λ a. numeral (w a)) d a b (ap numeral q)

    byte_at : (l : List A) → T (filled (map w l)) → (k : ℕ) → k < length l → 0 < length (w (get_or l k e.first))
    byte_at [] t k h = absurd (not-suc-le-zero h)
    byte_at (a ∷ l) t zero h = ltb→lt 0 (length (w a)) (and_yes (ltb 0 (length (w a))) (filled (map w l)) t).0
    byte_at (a ∷ l) t (suc k) h = byte_at l (and_yes (ltb 0 (length (w a))) (filled (map w l)) t).1 k (le_of_suc-le-suc h)

    -- a name's word has a byte, and what is shown without a name has none
    byte : (a : A) → 0 < long (Some a)
    byte a =
        let b = subst (λ b. 0 < length (w b)) (e.placed a) (byte_at e.names f (e.place a) (e.below a)) in
        subst (λ s. 0 < length s) (sym (of_some a)) b

    none-long : long None ≡ 0
    none-long = ap length of_none

    one : (n m : ℕ) (o p : Option A) → found n ≡ o → found m ≡ p → 0 < long o → show o ≡ show p → n ≡ m
    one n m None p q r h s = let z = none-long in absurd (omega (arith, z, h))
    one n m (Some a) None q r h s =
        let z : long (Some a) ≡ 0 = ap length s ∙ none-long in
        absurd (omega (arith, z, h))
    one n m (Some a) (Some b) q r h s =
        sym (has-number e g n e.names a q)
        ∙ ap g (word-once a b (sym (of_some a) ∙ s ∙ of_some b))
        ∙ has-number e g m e.names b r

    given : (n : ℕ) → long (found n) ≡ 0 → (a : A) → g a ≡ n → ⊥
    given n q a h =
        let b = byte a in
        let z : long (Some a) ≡ 0 = ap long (sym (read_mapped e g t a)) ∙ ap (λ m. long (found m)) h ∙ q in
        omega (arith, z, b)

    pub shows : Shows g w (λ n. show (found n))
    shows =
        record {
          own_word = λ a. ap show (read_mapped e g t a) ∙ of_some a;
          one_number = λ n m. one n m (found n) (found m) refl refl;
          no_byte = λ n. (given n, λ h. ap long (none-given e g t n h) ∙ none-long);
        }

pub compare-shown : Shows compare_func compare_word (word_read CompareFunc)
compare-shown = shows compare_names compare_func compare_word (shown compare_word) refl (λ a. refl) tt tt tt

pub topology-shown : Shows primitive_topology topology_word (word_read PrimitiveTopology)
topology-shown = shows topology_names primitive_topology topology_word (shown topology_word) refl (λ a. refl) tt tt tt

pub front-shown : Shows front_face_of front_word (word_read FrontFace)
front-shown = shows front_names front_face_of front_word (shown front_word) refl (λ a. refl) tt tt tt

pub cull-shown : Shows cull_face_of cull_word (word_read CullMode)
cull-shown = shows cull_names cull_face_of cull_word (shown cull_word) refl (λ a. refl) tt tt tt

pub stencil_op-shown : Shows stencil_op stencil_op_word (word_read StencilOp)
stencil_op-shown = shows stencil_op_names stencil_op stencil_op_word (shown stencil_op_word) refl (λ a. refl) tt tt tt

pub factor-shown : Shows blend_factor factor_word (word_read BlendFactor)
factor-shown = shows factor_names blend_factor factor_word (shown factor_word) refl (λ a. refl) tt tt tt

pub operation-shown : Shows blend_equation operation_word (word_read BlendOperation)
operation-shown = shows operation_names blend_equation operation_word (shown operation_word) refl (λ a. refl) tt tt tt
