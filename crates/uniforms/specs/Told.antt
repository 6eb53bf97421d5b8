-- The immediates as the accepted calls alone tell them: what the Rust's list puts in each uniform. No state, no list and no definition of the recorder is used, and no rule of the machine.
-- gles/command.rs: a pipeline call brings its program and its descriptors; `set_immediates` writes words, and then loads every descriptor of the last pipeline call with its words
-- (its overlap test is always true: `always-overlaps`); `begin_encoding` starts a new list, with words 0 and no descriptor; no other call touches any of this. Definitions only.
use Rattle.std.specs.Prelude.{ℕ, ◌+◌, ◌-◌, ◌*◌, ◌/◌, ◌%◌, ◌^◌, Bool, false, cond, not, ◌&&◌, List, [], ◌∷◌, eqb, ltb, take, length, get_or, Option, None, Some}
use Rattle.tables.specs.Tabulate.{tabulate}
use Rattle.records.specs.declared.command.ImmediateDesc.{ImmediateDesc}
use Rattle.book.specs.Book.{Fed}
use Rattle.uniforms.specs.Uniforms.{Value}
use Rattle.uniforms.specs.Kind.{Kind, begins, pipes, writes, other, kind_of}

pub record Told : Type 0 where
  -- the descriptors of the last pipeline call
  pub descs : List ImmediateDesc
  -- the sixty-four words
  pub word : ℕ → ℕ
  -- the current program, and what each location of each program holds
  pub program : Option ℕ
  pub uniform : ℕ → ℕ → Option Value

abbrev pub untold : Told
untold = record { descs = []; word = λ k. 0; program = None; uniform = λ p l. None }

-- word k after ws were written from the word first on
abbrev pub word_after : (ℕ → ℕ) → ℕ → List ℕ → ℕ → ℕ
word_after old first ws k = cond (not (ltb k first) && ltb k (first + length ws)) (get_or ws (k - first) 0) (old k)

-- "little-endian": byte b of the words from first on
abbrev pub byte_of : (ℕ → ℕ) → ℕ → ℕ → ℕ
byte_of word first b = word (first + b / 4) / 2 ^ (8 * (b % 4)) % 256

-- a descriptor's value: its bytes of the words
abbrev pub value_told : (ℕ → ℕ) → ImmediateDesc → Value
value_told word d = record { ty = d.ty; bytes = tabulate d.size_bytes (byte_of word (d.offset / 4)) }

-- what location l holds once every descriptor is loaded, in order: the last one there counts
abbrev pub loaded_at : (ℕ → ℕ) → List ImmediateDesc → ℕ → Option Value → Option Value
loaded_at word [] l old = old
loaded_at word (d ∷ ds) l old = loaded_at word ds l (cond (eqb l d.location) (Some (value_told word d)) old)

abbrev pub current : Option ℕ → ℕ → Bool
current None p = false
current (Some q) p = eqb p q

abbrev pub tell : Kind → Told → Told
tell begins t = untold
tell (pipes p) t = record { descs = take p.immediates_count p.immediates_descs; word = t.word; program = Some p.program; uniform = t.uniform }
tell (writes offset ws) t =
    let f = word_after t.word (offset / 4) (take ws.count ws.run) in
    record {
      descs = t.descs;
      word = f;
      program = t.program;
      uniform = λ p l. cond (current t.program p) (loaded_at f t.descs l (t.uniform p l)) (t.uniform p l);
    }
tell other t = t

-- by the accepted calls
unfoldable pub told : Told → List Fed → Told
told t [] = t
told t (f ∷ fs) = told (cond f.accepted (tell (kind_of f.call) t) t) fs
