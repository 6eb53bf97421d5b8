-- The invariant of the immediates: what both machines hold, and what each kind of call leaves of it. Assumes nothing.
use Prim.Native.Nat.{ℕ, ◌+◌, ◌≤◌}
use mathlib.Core.Path.{◌≡◌, refl, sym, ap, ◌∙◌, subst}
use mathlib.Core.Bool.{true, false, not}
use mathlib.Core.List.{List, [], ◌∷◌}
use Rattle.std.specs.Prelude.{Option, None, Some}
use native.Mathlib.Omega.{arith}
use lib.ListN.{length}
use Rattle.records.specs.Check.{some?, bad_descriptor}
use Rattle.records.specs.Start.{start_immediates}
use Rattle.records.specs.declared.command.ImmediateDesc.{ImmediateDesc}
use Rattle.records.specs.declared.pipeline.PipelineInner.{PipelineInner}
use Rattle.records.specs.declared.state.ImmediateState.{ImmediateState}
use Rattle.bindings.specs.Immediates.{overwritten, descriptors_of, shares_word, sends, filter}
use Rattle.numbers.specs.Bytes.{bytes_of}
use Rattle.bindings.specs.Placed.{Good, good-cons}
use Rattle.pipeline.specs.Inner.{inner_descriptors, inner_immediates}
use Rattle.machine.specs.Each.{Each}
use Rattle.machine.proofs.Lists.{false-true, or_left, or_right, not-false}
use Rattle.uniforms.specs.Uniforms.{Machine, fresh}
use Rattle.uniforms.specs.Kind.{Apart}
use Rattle.uniforms.proofs.Words.{overwritten-long, unshared}
use Rattle.uniforms.proofs.Loads.{value_of, Same, loaded, loaded-none, filter_same, all-loaded}
use Rattle.uniforms.proofs.Plays.{in_use}

pub record Kept (i : ImmediateState) (here there : Machine) : Type 0 where
  pub program : here.program ≡ there.program
  pub same : Same here.uniform there.uniform
  pub long : length i.words ≡ 64
  pub good : some? bad_descriptor (descriptors_of i) ≡ false
  pub apart : Apart (descriptors_of i)
  pub sent : i.sent ≡ true → (p : ℕ) → there.program ≡ Some p → Each (λ (d : ImmediateDesc). there.uniform p d.location ≡ Some (value_of i.words d)) (descriptors_of i)

pub kept-begins : Kept start_immediates fresh fresh
unfolding some?
kept-begins = record { program = refl; same = λ p l. refl; long = refl; good = refl; apart = tt; sent = λ e p q. tt }

pub kept-pipes : (q : PipelineInner) (i : ImmediateState) (m n : Machine) → Kept i m n → some? bad_descriptor (inner_descriptors q) ≡ false → Apart (inner_descriptors q)
    → Kept (inner_immediates q i) (in_use q.program m) (in_use q.program n)
kept-pipes q i m n K g a = record { program = refl; same = K.same; long = K.long; good = g; apart = a; sent = λ e. false-true e }

-- the machine after each of the descriptors is loaded with its words
abbrev pub loaded_by : List ℕ → List ImmediateDesc → Machine → Machine
loaded_by w ds m = record { program = m.program; uniform = loaded m.program w ds m.uniform }

-- words are written from `first` on; here those go out that share one or were not sent, in the Rust all
module _ (i : ImmediateState) (m n : Machine) (K : Kept i m n) (first : ℕ) (ws : List ℕ) (h : first + length ws ≤ 64) where
  abbrev w : List ℕ
  w = overwritten i.words first ws

  abbrev ds : List ImmediateDesc
  ds = descriptors_of i

  fits : first + length ws ≤ length i.words
  fits = subst (λ (k : ℕ). first + length ws ≤ k) (sym K.long) h

  pub new-long : length w ≡ 64
  new-long = overwritten-long i.words ws first fits ∙ K.long

  -- a descriptor that is not sent holds its words: they were sent before, and the call wrote none of them
  holds : (p : ℕ) (l : List ImmediateDesc) → some? bad_descriptor l ≡ false → (i.sent ≡ true → Each (λ (d : ImmediateDesc). n.uniform p d.location ≡ Some (value_of i.words d)) l)
      → Each (λ (d : ImmediateDesc). sends i.sent first (first + length ws) d ≡ false → m.uniform p d.location ≡ Some (value_of w d)) l
  holds p [] g k = tt
  holds p (d ∷ l) g k = (here (good-cons d l g).0, holds p l (good-cons d l g).1 (λ e. (k e).1))
    where
      here : Good d → sends i.sent first (first + length ws) d ≡ false → m.uniform p d.location ≡ Some (value_of w d)
      here v e =
          let a : shares_word first (first + length ws) d ≡ false = or_left (shares_word first (first + length ws) d) (not i.sent) e in
          let b : i.sent ≡ true = not-false i.sent (or_right (shares_word first (first + length ws) d) (not i.sent) e) in
          let v₁ = v.first in
          let v₂ = v.whole in
          let v₃ = v.ends in
          K.same p d.location ∙ (k b).0
          ∙ ap (λ (x : List ℕ). Some (record { ty = d.ty; bytes = bytes_of x })) (sym (unshared i.words ws first d fits (omega (arith, K.long)) a))

  same-loads : (q : Option ℕ) → n.program ≡ q → Same (loaded q w (filter (sends i.sent first (first + length ws)) ds) m.uniform) (loaded q w ds n.uniform)
  same-loads None e = λ p l. loaded-none w (filter (sends i.sent first (first + length ws)) ds) m.uniform p l ∙ K.same p l ∙ sym (loaded-none w ds n.uniform p l)
  same-loads (Some p) e = filter_same p w (sends i.sent first (first + length ws)) ds m.uniform n.uniform K.apart K.same (holds p ds K.good (λ x. K.sent x p e))

  pub kept-writes : Kept (record { descs = i.descs; count = i.count; words = w; sent = true }) (loaded_by w (filter (sends i.sent first (first + length ws)) ds) m) (loaded_by w ds n)
  kept-writes =
      record {
        program = K.program;
        same =
            subst (λ (q : Option ℕ). Same (loaded q w (filter (sends i.sent first (first + length ws)) ds) m.uniform) (loaded n.program w ds n.uniform)) (sym K.program)
            (same-loads n.program refl);
        long = new-long;
        good = K.good;
        apart = K.apart;
        sent = λ e p q.
            subst (λ (x : Option ℕ). Each (λ (d : ImmediateDesc). loaded x w ds n.uniform p d.location ≡ Some (value_of w d)) ds) (sym q)
            (all-loaded p w ds n.uniform K.apart);
      }
