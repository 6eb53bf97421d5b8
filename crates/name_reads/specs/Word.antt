-- The word that a screen shows for a number of a map: that of the name that is read, no byte where there is none. Definitions only.
use Rattle.std.specs.Prelude.{ℕ, ◌<◌, ◌≡◌, ◌↔◌, List, [], length, Option, Some, None}
use Rattle.name_reads.specs.declared.word.Map.{Map}
use Rattle.name_reads.specs.declared.word.Map.TheVariants.{CompareFunc, PrimitiveTopology, FrontFace, CullMode, StencilOp, BlendFactor, BlendOperation}
use Rattle.name_reads.specs.Read.{answer_number, compare_read, topology_read, front_read, cull_read, stencil_op_read, factor_read, operation_read}
use Rattle.name_reads.specs.Spelling.{compare_word, topology_word, front_word, cull_word, stencil_op_word, factor_word, operation_word}

-- the word of an answer
abbrev pub shown : {A : Type 0} → (A → List ℕ) → Option A → List ℕ
shown word (Some a) = word a
shown word None = []

-- the word for a number, by the map
abbrev pub word_read : Map → ℕ → List ℕ
word_read CompareFunc n = shown compare_word (compare_read n)
word_read PrimitiveTopology n = shown topology_word (topology_read n)
word_read FrontFace n = shown front_word (front_read n)
word_read CullMode n = shown cull_word (cull_read n)
word_read StencilOp n = shown stencil_op_word (stencil_op_read n)
word_read BlendFactor n = shown factor_word (factor_read n)
word_read BlendOperation n = shown operation_word (operation_read n)

-- the number of the answer, by the map
abbrev pub number_read : Map → ℕ → ℕ
number_read CompareFunc n = answer_number (compare_read n)
number_read PrimitiveTopology n = answer_number (topology_read n)
number_read FrontFace n = answer_number (front_read n)
number_read CullMode n = answer_number (cull_read n)
number_read StencilOp n = answer_number (stencil_op_read n)
number_read BlendFactor n = answer_number (factor_read n)
number_read BlendOperation n = answer_number (operation_read n)

-- what a screen may rely on: `shown` is the word for a number of the map
pub record Shows {A : Type 0} (map : A → ℕ) (word : A → List ℕ) (shown : ℕ → List ℕ) : Type 0 where
  -- a name's number is shown as its word
  pub own_word : (a : A) → shown (map a) ≡ word a
  -- a word stands for one number
  pub one_number : (n m : ℕ) → 0 < length (shown n) → shown n ≡ shown m → n ≡ m
  -- no byte is shown exactly for a number that the map never gives
  pub no_byte : (n : ℕ) → length (shown n) ≡ 0 ↔ ((a : A) → map a ≡ n → ⊥)
