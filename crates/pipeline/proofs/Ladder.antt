-- The fixed part's commands by place: each part counted, then the rest. Assumes nothing.
-- `sum`: the counts. `on-…`: a place within a part. `to-…`: a place past it.
use Prim.Native.Nat.{ℕ, zero, suc, ◌+◌, ◌-◌, ◌≤◌, ◌<◌}
use mathlib.Core.Path.{◌≡◌, refl, ap, subst}
use mathlib.Core.Bool.{Bool, true, false, cond, not}
use mathlib.Core.List.{List, [], ◌∷◌, ◌++◌}
use native.Mathlib.Nat.{not-suc-le-zero, le_of_suc-le-suc}
use native.Mathlib.Omega.{arith}
use lib.Dec.{eqb}
use lib.ListN.{length, length-append}
use Rattle.names.specs.Maps.{primitive_state}
use Rattle.records.specs.Same.{same_bool, same_primitive, same_depth_bias}
use Rattle.records.specs.declared.command.Command.{Command}
use Rattle.records.specs.declared.command.Command.TheVariants.{SetPrimitive, SetDepthBias, ConfigureDepthStencil, SetAlphaToCoverage, SetClipDistances}
use Rattle.records.specs.declared.pipeline.RenderPipeline.{RenderPipeline}
use Rattle.records.specs.declared.state.FixedState.{FixedState}
use Rattle.slots.specs.Place.{Stands}
use Rattle.slots.proofs.Parts.{stands-left, stands-right}
use Rattle.pipeline.specs.declared.plan.FixedPlan.{FixedPlan}
use Rattle.pipeline.specs.Fixed.{only, depth_commands, stencil_commands, aspects_of, targets_in, targets_of, same_targets, target_commands, fixed_commands}
use Rattle.pipeline.specs.Plan.{primitive_part, bias_part, alpha_part, target_part, clip_part, fixed_plan}
use Rattle.pipeline.proofs.Choice.{alone}

pub only-long : (b : Bool) (x : Command) → length (only b x) ≡ cond b 1 0
only-long true x = refl
only-long false x = refl

only-stands : (b : Bool) (x : Command) (k : ℕ) → Stands x k (only b x)
only-stands true x k = alone x k
only-stands false x k = λ h d. absurd (not-suc-le-zero h)

sum_of : {A : Type 0} (a b c d : List A) (x : A) (e g h : List A)
    → length (a ++ (b ++ (c ++ (d ++ (x ∷ (e ++ (g ++ h))))))) ≡ length a + length b + length c + length d + 1 + length e + length g + length h
sum_of a b c d x e g h =
    omega (
      arith,
      length-append a (b ++ (c ++ (d ++ (x ∷ (e ++ (g ++ h)))))),
      length-append b (c ++ (d ++ (x ∷ (e ++ (g ++ h))))),
      length-append c (d ++ (x ∷ (e ++ (g ++ h)))),
      length-append d (x ∷ (e ++ (g ++ h))),
      length-append e (g ++ h),
      length-append g h,
    )

pub in-first : {A : Type 0} (r : A) (k n : ℕ) (xs ys : List A) → n ≡ length xs → k < n → Stands r k xs → Stands r k (xs ++ ys)
in-first r k n xs ys e h s = stands-left r k xs ys (omega arith) s

pub in_rest : {A : Type 0} (r : A) (k n : ℕ) (xs ys : List A) → n ≡ length xs → n ≤ k → Stands r (k - n) ys → Stands r k (xs ++ ys)
in_rest {A} r k n xs ys e h s = stands-right r k xs ys (omega arith) (subst (λ (m : ℕ). Stands r (k - m) ys) e s)

-- past the first element
after_one : {A : Type 0} (r x : A) (k : ℕ) (ys : List A) → (k ≡ 0 → ⊥) → Stands r (k - 1) ys → Stands r k (x ∷ ys)
after_one r x zero ys n s = absurd (n refl)
after_one r x (suc k) ys n s = let e : suc k - 1 ≡ k = omega arith in λ h d. (rw e at s) (le_of_suc-le-suc h) d

module _ (p : RenderPipeline) (f : FixedState) where
  abbrev primitives : List Command
  primitives = primitive_part p.primitive f.primitive

  abbrev biases : List Command
  biases = bias_part p.depth_bias f.depth_bias

  abbrev alphas : List Command
  alphas = alpha_part p.alpha_to_coverage_enabled f.alpha_to_coverage_enabled

  abbrev clips : List Command
  clips = clip_part p.inner.clip_distance_count f.clip_distance_count

  abbrev from_targets : List Command
  from_targets = target_part p f ++ clips

  abbrev from_alpha : List Command
  from_alpha = alphas ++ from_targets

  abbrev from_aspects : List Command
  from_aspects = ConfigureDepthStencil (aspects_of p) ∷ from_alpha

  abbrev from_stencil : List Command
  from_stencil = stencil_commands p.stencil ++ from_aspects

  abbrev from_depth : List Command
  from_depth = depth_commands p.depth ++ from_stencil

  abbrev from_bias : List Command
  from_bias = biases ++ from_depth

  pub sum : length (fixed_commands p f)
      ≡ length primitives + length biases + length (depth_commands p.depth) + length (stencil_commands p.stencil) + 1 + length alphas
      + length (target_part p f) + length clips
  sum = sum_of primitives biases (depth_commands p.depth) (stencil_commands p.stencil) (ConfigureDepthStencil (aspects_of p)) alphas (target_part p f) clips

  -- within a part, by its own place
  module _ (q : FixedPlan) (e : q ≡ fixed_plan p f) (k : ℕ) where
    pub on-primitive : k < q.primitive → Stands (SetPrimitive (primitive_state p.primitive)) k (fixed_commands p f)
    on-primitive h =
        in-first (SetPrimitive (primitive_state p.primitive)) k q.primitive primitives from_bias (ap (λ (q : FixedPlan). q.primitive) e) h
        (only-stands (not (same_primitive (primitive_state p.primitive) f.primitive)) (SetPrimitive (primitive_state p.primitive)) k)

    pub on-bias : k < q.bias → Stands (SetDepthBias p.depth_bias) k from_bias
    on-bias h =
        in-first (SetDepthBias p.depth_bias) k q.bias biases from_depth (ap (λ (q : FixedPlan). q.bias) e) h
        (only-stands (not (same_depth_bias p.depth_bias f.depth_bias)) (SetDepthBias p.depth_bias) k)

    pub on-depth : (r : Command) → k < q.depth → Stands r k (depth_commands p.depth) → Stands r k from_depth
    on-depth r h s = in-first r k q.depth (depth_commands p.depth) from_stencil (ap (λ (q : FixedPlan). q.depth) e) h s

    pub on-stencil : (r : Command) → k < q.stencil → Stands r k (stencil_commands p.stencil) → Stands r k from_stencil
    on-stencil r h s = in-first r k q.stencil (stencil_commands p.stencil) from_aspects (ap (λ (q : FixedPlan). q.stencil) e) h s

    pub on-aspects : k ≡ 0 → Stands (ConfigureDepthStencil (aspects_of p)) k from_aspects
    on-aspects n = λ h d. rw n

    pub on-alpha : k < q.alpha → Stands (SetAlphaToCoverage p.alpha_to_coverage_enabled) k from_alpha
    on-alpha h =
        in-first (SetAlphaToCoverage p.alpha_to_coverage_enabled) k q.alpha alphas from_targets (ap (λ (q : FixedPlan). q.alpha) e) h
        (only-stands (not (same_bool p.alpha_to_coverage_enabled f.alpha_to_coverage_enabled)) (SetAlphaToCoverage p.alpha_to_coverage_enabled) k)

    pub on-targets : (r : Command) → k < q.targets → Stands r k (target_commands (targets_in p)) → Stands r k from_targets
    on-targets r h s = in-first r k q.targets (target_part p f) clips (ap (λ (q : FixedPlan). q.targets) e) h (go (same_targets (targets_of f) (targets_in p)))
      where
        go : (b : Bool) → Stands r k (cond b [] (target_commands (targets_in p)))
        go true = λ h d. absurd (not-suc-le-zero h)
        go false = s

  pub on-clip : (k : ℕ) → Stands (SetClipDistances f.clip_distance_count p.inner.clip_distance_count) k clips
  on-clip k =
      only-stands (not (eqb p.inner.clip_distance_count f.clip_distance_count))
      (SetClipDistances f.clip_distance_count p.inner.clip_distance_count) k

  -- past part after part, by the place in the whole
  module _ (q : FixedPlan) (e : q ≡ fixed_plan p f) (r : Command) (k : ℕ) where
    abbrev at_bias : ℕ
    at_bias = k - q.primitive

    abbrev at_depth : ℕ
    at_depth = at_bias - q.bias

    abbrev at_stencil : ℕ
    at_stencil = at_depth - q.depth

    abbrev at_aspects : ℕ
    at_aspects = at_stencil - q.stencil

    abbrev at_alpha : ℕ
    at_alpha = at_aspects - 1

    abbrev at_targets : ℕ
    at_targets = at_alpha - q.alpha

    pub to-bias : q.primitive ≤ k → Stands r at_bias from_bias → Stands r k (fixed_commands p f)
    to-bias h s = in_rest r k q.primitive primitives from_bias (ap (λ (q : FixedPlan). q.primitive) e) h s

    pub to-depth : q.primitive ≤ k → q.bias ≤ at_bias → Stands r at_depth from_depth → Stands r k (fixed_commands p f)
    to-depth h₁ h s = to-bias h₁ (in_rest r at_bias q.bias biases from_depth (ap (λ (q : FixedPlan). q.bias) e) h s)

    pub to-stencil : q.primitive ≤ k → q.bias ≤ at_bias → q.depth ≤ at_depth → Stands r at_stencil from_stencil → Stands r k (fixed_commands p f)
    to-stencil h₁ h₂ h s = to-depth h₁ h₂ (in_rest r at_depth q.depth (depth_commands p.depth) from_stencil (ap (λ (q : FixedPlan). q.depth) e) h s)

    pub to-aspects : q.primitive ≤ k → q.bias ≤ at_bias → q.depth ≤ at_depth → q.stencil ≤ at_stencil → Stands r at_aspects from_aspects
        → Stands r k (fixed_commands p f)
    to-aspects h₁ h₂ h₃ h s =
        to-stencil h₁ h₂ h₃ (in_rest r at_stencil q.stencil (stencil_commands p.stencil) from_aspects (ap (λ (q : FixedPlan). q.stencil) e) h s)

    pub to-alpha : q.primitive ≤ k → q.bias ≤ at_bias → q.depth ≤ at_depth → q.stencil ≤ at_stencil → (at_aspects ≡ 0 → ⊥) → Stands r at_alpha from_alpha
        → Stands r k (fixed_commands p f)
    to-alpha h₁ h₂ h₃ h₄ n s = to-aspects h₁ h₂ h₃ h₄ (after_one r (ConfigureDepthStencil (aspects_of p)) at_aspects from_alpha n s)

    pub to-targets : q.primitive ≤ k → q.bias ≤ at_bias → q.depth ≤ at_depth → q.stencil ≤ at_stencil → (at_aspects ≡ 0 → ⊥) → q.alpha ≤ at_alpha
        → Stands r at_targets from_targets → Stands r k (fixed_commands p f)
    to-targets h₁ h₂ h₃ h₄ n h s = to-alpha h₁ h₂ h₃ h₄ n (in_rest r at_alpha q.alpha alphas from_targets (ap (λ (q : FixedPlan). q.alpha) e) h s)

    pub to-clip : q.primitive ≤ k → q.bias ≤ at_bias → q.depth ≤ at_depth → q.stencil ≤ at_stencil → (at_aspects ≡ 0 → ⊥) → q.alpha ≤ at_alpha
        → q.targets ≤ at_targets → Stands r (at_targets - q.targets) clips → Stands r k (fixed_commands p f)
    to-clip h₁ h₂ h₃ h₄ n h₅ h s = to-targets h₁ h₂ h₃ h₄ n h₅ (in_rest r at_targets q.targets (target_part p f) clips (ap (λ (q : FixedPlan). q.targets) e) h s)
