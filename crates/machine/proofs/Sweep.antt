-- Runs of commands of one kind, played: they change one group of the machine's settings, place by place. Assumes nothing.
use Prim.Native.Nat.{ℕ}
use mathlib.Core.Path.{◌≡◌, refl, sym, ap, ◌∙◌}
use mathlib.Core.Bool.{Bool, true, false, cond, ◌||◌}
use mathlib.Core.List.{List, [], ◌∷◌, ◌++◌, map}
use lib.Dec.{eqb}
use Rattle.records.specs.Check.{among, twice, locations}
use Rattle.records.specs.declared.command.AttributeDesc.{AttributeDesc}
use Rattle.records.specs.declared.command.Command.{Command}
use Rattle.machine.specs.Each.{Each}
use Rattle.machine.proofs.Lists.{apart, apart-rest, elsewhere}
use Rattle.machine.specs.Machine.{Machine, exec, play}

pub play-append : (m : Machine) (xs ys : List Command) → play m (xs ++ ys) ≡ play (play m xs) ys
play-append m [] ys = refl
play-append m (x ∷ xs) ys = play-append (exec m x) xs ys

-- ---- a run of commands, each of which changes one group G of settings
abbrev pub folded : {X G : Type 0} → (X → G → G) → List X → G → G
folded act [] g = g
folded act (x ∷ xs) g = folded act xs (act x g)

module _ {X G : Type 0} (get : Machine → G) (put : G → Machine → Machine) (command : X → Command) (act : X → G → G)
    (same : (m : Machine) → put (get m) m ≡ m)
    (over : (m : Machine) (g h : G) → put g (put h m) ≡ put g m) (got : (m : Machine) (g : G) → get (put g m) ≡ g)
    (does : (m : Machine) (x : X) → exec m (command x) ≡ put (act x (get m)) m) where
  pub played : (xs : List X) (m : Machine) → play m (map command xs) ≡ put (folded act xs (get m)) m
  played [] m = sym (same m)
  played (x ∷ xs) m =
      ap (λ (n : Machine). play n (map command xs)) (does m x)
      ∙ played xs (put (act x (get m)) m)
      ∙ over m (folded act xs (get (put (act x (get m)) m))) (act x (get m))
      ∙ ap (λ (g : G). put (folded act xs g) m) (got m (act x (get m)))

-- ---- the values at the places that a fold sets: by key, the value a function of the key
module _ {G W : Type 0} (act : ℕ → G → G) (read : G → ℕ → W) (value : ℕ → W)
    (sets : (g : G) (k i : ℕ) → read (act k g) i ≡ cond (eqb i k) (value i) (read g i)) where
  pub swept : (ks : List ℕ) (g : G) (i : ℕ) → read (folded act ks g) i ≡ cond (among i ks) (value i) (read g i)
  unfolding among
  swept [] g i = refl
  swept (k ∷ ks) g i = swept ks (act k g) i ∙ ap (λ (w : W). cond (among i ks) (value i) w) (sets g k i) ∙ go (among i ks) (eqb i k)
    where
      go : (s t : Bool) → cond s (value i) (cond t (value i) (read g i)) ≡ cond (t || s) (value i) (read g i)
      go true true = refl
      go true false = refl
      go false true = refl
      go false false = refl

-- what no step of a fold changes
pub unfolded : {X G W : Type 0} (act : X → G → G) (look : G → W) → ((x : X) (g : G) → look (act x g) ≡ look g) → (xs : List X) (g : G) → look (folded act xs g) ≡ look g
unfolded act look keep [] g = refl
unfolded act look keep (x ∷ xs) g = unfolded act look keep xs (act x g) ∙ keep x g

-- ---- attributes, each at its own location
module _ {G W : Type 0} (act : AttributeDesc → G → G) (read : G → ℕ → W) (value : AttributeDesc → W)
    (here : (a : AttributeDesc) (g : G) → read (act a g) a.location ≡ value a)
    (other : (a : AttributeDesc) (g : G) (i : ℕ) → (i ≡ a.location → ⊥) → read (act a g) i ≡ read g i) where
  -- a location that none of the list has is left alone
  pub passed : (l : List AttributeDesc) (g : G) (i : ℕ) → Each (λ (a : AttributeDesc). a.location ≡ i → ⊥) l → read (folded act l g) i ≡ read g i
  passed [] g i h = refl
  passed (a ∷ l) g i h = passed l (act a g) i h.1 ∙ other a g i (λ e. h.0 (sym e))

  -- each is set at its own location
  pub all_set : (l : List AttributeDesc) → twice (locations l) ≡ false → (g : G)
      → Each (λ (a : AttributeDesc). read (folded act l g) a.location ≡ value a) l
  all_set [] e g = tt
  all_set (a ∷ l) e g = (passed l (act a g) a.location (elsewhere a.location l (apart a l e)) ∙ here a g, all_set l (apart-rest a l e) (act a g))
