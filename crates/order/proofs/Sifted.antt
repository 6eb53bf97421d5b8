-- Attributes sent by a mask of slots, played: the ones of the mask are set, each at its own location, and the others left. Assumes nothing.
use Prim.Native.Nat.{ℕ}
use mathlib.Core.Path.{◌≡◌, refl, sym, ap, ◌∙◌}
use mathlib.Core.Bool.{Bool, true, false, cond}
use mathlib.Core.List.{List, [], ◌∷◌}
use Rattle.mask.specs.Mask.{test_bit}
use Rattle.records.specs.Check.{twice, locations}
use Rattle.records.specs.declared.command.AttributeDesc.{AttributeDesc}
use Rattle.slots.specs.Prepare.{sent_of}
use Rattle.machine.specs.Each.{Each}
use Rattle.machine.proofs.Lists.{each-with, apart, apart-rest, elsewhere}
use Rattle.machine.proofs.Sweep.{folded}

module _ {G W : Type 0} (act : AttributeDesc → G → G) (read : G → ℕ → W) (other : (a : AttributeDesc) (g : G) (i : ℕ) → (i ≡ a.location → ⊥) → read (act a g) i ≡ read g i) where
  -- a location that none of the list has is left alone
  pub spared : (m : ℕ) (l : List AttributeDesc) (i : ℕ) → Each (λ (a : AttributeDesc). a.location ≡ i → ⊥) l → (g : G) → read (folded act (sent_of m l) g) i ≡ read g i
  unfolding sent_of
  spared m [] i h g = refl
  spared m (a ∷ l) i h g = go (test_bit m a.buffer_index) (spared m l i h.1)
    where
      go : (t : Bool) → ((g : G) → read (folded act (sent_of m l) g) i ≡ read g i) → read (folded act (cond t (a ∷ sent_of m l) (sent_of m l)) g) i ≡ read g i
      go true ih = ih (act a g) ∙ other a g i (λ e. h.0 (sym e))
      go false ih = ih g

module _ {G W : Type 0} (act : AttributeDesc → G → G) (read : G → ℕ → W) (value : AttributeDesc → W)
    (here : (a : AttributeDesc) (g : G) → read (act a g) a.location ≡ value a)
    (other : (a : AttributeDesc) (g : G) (i : ℕ) → (i ≡ a.location → ⊥) → read (act a g) i ≡ read g i) where
  -- the ones of a mask of slots are set, and the others left
  pub sifted : (m : ℕ) (l : List AttributeDesc) → twice (locations l) ≡ false → (g : G)
      → Each (λ (a : AttributeDesc). read (folded act (sent_of m l) g) a.location ≡ cond (test_bit m a.buffer_index) (value a) (read g a.location)) l
  unfolding sent_of
  sifted m [] e g = tt
  sifted m (a ∷ l) e g = let r = go (test_bit m a.buffer_index) (λ n. sifted m l (apart-rest a l e) n) in (r.1, r.0)
    where
      far : Each (λ (x : AttributeDesc). x.location ≡ a.location → ⊥) l
      far = elsewhere a.location l (apart a l e)

      Rest : G → Type 0
      Rest n = Each (λ (x : AttributeDesc). read (folded act (sent_of m l) n) x.location ≡ cond (test_bit m x.buffer_index) (value x) (read n x.location)) l

      go : (t : Bool) → ((n : G) → Rest n)
          → Each (λ (x : AttributeDesc). read (folded act (cond t (a ∷ sent_of m l) (sent_of m l)) g) x.location ≡ cond (test_bit m x.buffer_index) (value x) (read g x.location)) l
          × (read (folded act (cond t (a ∷ sent_of m l) (sent_of m l)) g) a.location ≡ cond t (value a) (read g a.location))
      go true ih = (
        each-with (λ (x : AttributeDesc). x.location ≡ a.location → ⊥)
            (λ (x : AttributeDesc). read (folded act (sent_of m l) (act a g)) x.location ≡ cond (test_bit m x.buffer_index) (value x) (read (act a g) x.location))
            (λ (x : AttributeDesc). read (folded act (sent_of m l) (act a g)) x.location ≡ cond (test_bit m x.buffer_index) (value x) (read g x.location))
            l (λ x ne q. q ∙ ap (cond (test_bit m x.buffer_index) (value x)) (other a g x.location ne)) far (ih (act a g)),
        spared act read other m l a.location far (act a g) ∙ here a g,
      )
      go false ih = (ih g, spared act read other m l a.location far g)
