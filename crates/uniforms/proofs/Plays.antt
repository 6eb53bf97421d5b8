-- A list played with its marker bytes, and with more bytes behind them. Assumes nothing.
use Prim.Native.Nat.{ℕ, ◌+◌, ◌≤◌}
use mathlib.Core.Path.{◌≡◌, refl, sym, ap, ap₂, ◌∙◌, subst}
use mathlib.Core.Bool.{false}
use mathlib.Core.List.{List, [], ◌∷◌, ◌++◌, append_assoc}
use Rattle.std.specs.Prelude.{Some}
use native.Mathlib.Omega.{arith}
use lib.ListN.{take, drop, length, length-append, length-drop}
use lib.Seq.{take_at, drop_at, take-append-le, drop-append-le}
use Rattle.records.specs.Check.{some?, bad_descriptor}
use Rattle.records.specs.declared.command.Command.{Command}
use Rattle.records.specs.declared.command.Command.TheVariants.{SetProgram}
use Rattle.records.specs.declared.command.ImmediateDesc.{ImmediateDesc}
use Rattle.bindings.specs.Immediates.{words_of, immediate_commands, immediate_bytes}
use Rattle.numbers.specs.Bytes.{bytes_of}
use Rattle.bindings.specs.Placed.{Good, good-cons, bytes-long, words-all}
use Rattle.machine.specs.Each.{Each}
use Rattle.uniforms.specs.Uniforms.{Machine, Effect, uses, loads, neither, load, effect, exec, play}
use Rattle.uniforms.proofs.Loads.{loaded}

pub play-append : (b : List ℕ) (m : Machine) (xs ys : List Command) → play b m (xs ++ ys) ≡ play b (play b m xs) ys
unfolding play
play-append b m [] ys = refl
play-append b m (x ∷ xs) ys = play-append b (exec b m (effect x)) xs ys

-- ---- commands whose bytes are all there
abbrev pub Inside : List ℕ → Effect → Type 0
Inside b (uses p) = Unit {0}
Inside b (loads d at) = at + d.size_bytes ≤ length b
Inside b neither = Unit {0}

abbrev pub Within : List ℕ → List Command → Type 0
Within b cs = Each (λ (c : Command). Inside b (effect c)) cs

pub each_append : {A : Type 0} (P : A → Type 0) (xs ys : List A) → Each P xs → Each P ys → Each P (xs ++ ys)
each_append P [] ys a b = b
each_append P (x ∷ xs) ys a b = (a.0, each_append P xs ys a.1 b)

inside-more : (b c : List ℕ) (e : Effect) → Inside b e → Inside (b ++ c) e
inside-more b c (uses p) w = tt
inside-more b c (loads d at) w = omega (arith, length-append b c)
inside-more b c neither w = tt

within_more : (b c : List ℕ) (cs : List Command) → Within b cs → Within (b ++ c) cs
within_more b c [] w = tt
within_more b c (x ∷ cs) w = (inside-more b c (effect x) w.0, within_more b c cs w.1)

pub within-append : (b c : List ℕ) (xs ys : List Command) → Within b xs → Within (b ++ c) ys → Within (b ++ c) (xs ++ ys)
within-append b c xs ys v w = each_append (λ (x : Command). Inside (b ++ c) (effect x)) xs ys (within_more b c xs v) w

same_bytes : (b c : List ℕ) (at n : ℕ) → at + n ≤ length b → take n (drop at (b ++ c)) ≡ take n (drop at b)
same_bytes b c at n h = ap (take n) (drop-append-le at b c (omega arith)) ∙ take-append-le n (drop at b) c (omega (arith, length-drop at b))

-- a load of these bytes
abbrev load_of : Machine → ImmediateDesc → List ℕ → Machine
load_of m d x = record { program = m.program; uniform = load m.program d.location (record { ty = d.ty; bytes = x }) m.uniform }

exec-more : (b c : List ℕ) (m : Machine) (e : Effect) → Inside b e → exec (b ++ c) m e ≡ exec b m e
exec-more b c m (uses p) w = refl
exec-more b c m (loads d at) w = ap (load_of m d) (same_bytes b c at d.size_bytes w)
exec-more b c m neither w = refl

pub play-more : (b c : List ℕ) (m : Machine) (cs : List Command) → Within b cs → play (b ++ c) m cs ≡ play b m cs
unfolding play
play-more b c m [] w = refl
play-more b c m (x ∷ cs) w = ap (λ (n : Machine). play (b ++ c) n cs) (exec-more b c m (effect x) w.0) ∙ play-more b c (exec b m (effect x)) cs w.1

-- ---- the commands of the descriptors that are sent, with their bytes behind those before
value-long : (w : List ℕ) (d : ImmediateDesc) → length w ≡ 64 → Good d → length (bytes_of (words_of w d)) ≡ d.size_bytes
value-long w d e g = bytes-long (words_of w d) ∙ words-all w d e g

behind : (b w : List ℕ) (d : ImmediateDesc) → length w ≡ 64 → Good d → length (b ++ bytes_of (words_of w d)) ≡ length b + d.size_bytes
behind b w d e g = length-append b (bytes_of (words_of w d)) ∙ ap (λ (n : ℕ). length b + n) (value-long w d e g)

pub play-sent : (b w : List ℕ) (m : Machine) (ds : List ImmediateDesc) → length w ≡ 64 → some? bad_descriptor ds ≡ false
    → play (b ++ immediate_bytes w ds) m (immediate_commands ds (length b)) ≡ record { program = m.program; uniform = loaded m.program w ds m.uniform }
unfolding play immediate_commands immediate_bytes
play-sent b w m [] e g = refl
play-sent b w m (d ∷ ds) e g =
    ap (λ (x : List ℕ). play (b ++ (own ++ more)) (load_of m d x) (immediate_commands ds (length b + d.size_bytes))) mine
    ∙ ap₂ (λ (x : List ℕ) (n : ℕ). play x (load_of m d own) (immediate_commands ds n)) (sym (append_assoc b own more)) (sym (behind b w d e v.0))
    ∙ play-sent (b ++ own) w (load_of m d own) ds e v.1
  where
    v : Good d × (some? bad_descriptor ds ≡ false)
    v = good-cons d ds g

    own : List ℕ
    own = bytes_of (words_of w d)

    more : List ℕ
    more = immediate_bytes w ds

    mine : take d.size_bytes (drop (length b) (b ++ (own ++ more))) ≡ own
    mine = ap (take d.size_bytes) (drop_at b (own ++ more) (length b) refl) ∙ take_at own more d.size_bytes (value-long w d e v.0)

pub within-sent : (b w : List ℕ) (ds : List ImmediateDesc) → length w ≡ 64 → some? bad_descriptor ds ≡ false → Within (b ++ immediate_bytes w ds) (immediate_commands ds (length b))
unfolding immediate_commands immediate_bytes
within-sent b w [] e g = tt
within-sent b w (d ∷ ds) e g = (here, there (within-sent (b ++ own) w ds e v.1))
  where
    v : Good d × (some? bad_descriptor ds ≡ false)
    v = good-cons d ds g

    own : List ℕ
    own = bytes_of (words_of w d)

    more : List ℕ
    more = immediate_bytes w ds

    here : length b + d.size_bytes ≤ length (b ++ (own ++ more))
    here = omega (arith, value-long w d e v.0, length-append b (own ++ more), length-append own more)

    there : Within ((b ++ own) ++ more) (immediate_commands ds (length (b ++ own))) → Within (b ++ (own ++ more)) (immediate_commands ds (length b + d.size_bytes))
    there h =
        subst (λ (n : ℕ). Within (b ++ (own ++ more)) (immediate_commands ds n)) (behind b w d e v.0)
        (subst (λ (x : List ℕ). Within x (immediate_commands ds (length (b ++ own)))) (append_assoc b own more) h)

-- ---- commands that do the same to every machine, whatever the bytes
pub record Acts (f : Machine → Machine) (cs : List Command) : Type 0 where
  pub plays : (b : List ℕ) (m : Machine) → play b m cs ≡ f m
  pub within : (b : List ℕ) → Within b cs

pub acts-append : {f g : Machine → Machine} {xs ys : List Command} → Acts f xs → Acts g ys → Acts (λ m. g (f m)) (xs ++ ys)
acts-append {f} {g} {xs} {ys} a b =
    record {
      plays = λ c m. play-append c m xs ys ∙ ap (λ (n : Machine). play c n ys) (a.plays c m) ∙ b.plays c (f m);
      within = λ c. each_append (λ (x : Command). Inside c (effect x)) xs ys (a.within c) (b.within c);
    }

-- the program is current
abbrev pub in_use : ℕ → Machine → Machine
in_use p m = record { program = Some p; uniform = m.uniform }

pub acts-uses : (p : ℕ) → Acts (in_use p) (SetProgram p ∷ [])
unfolding play
acts-uses p = record { plays = λ b m. refl; within = λ b. (tt, tt) }
