-- What a render pipeline call makes of the settings recorded only on change, of depth and of stencil, on the machine. Assumes nothing.
use Prim.Native.Nat.{ℕ, suc, ◌+◌, ◌<◌}
use mathlib.Core.Path.{◌≡◌, refl, sym, ap, ap₂, ◌∙◌}
use mathlib.Core.Bool.{Bool, true, false, cond, not, ◌&&◌}
use mathlib.Core.List.{List, [], ◌∷◌, ◌++◌}
use Rattle.std.specs.Prelude.{Option, None, Some}
use native.Mathlib.Nat.{add-zero, add-suc, suc-add}
use native.Mathlib.Omega.{arith}
use lib.Dec.{eqb, ltb}
use borrow.Author.Tests.{eqb-true}
use lib.ListN.{length}
use Rattle.tables.specs.Tabulate.{tabulate, alike, upd, upd_same, upd_other}
use Rattle.names.specs.Gl.{GL_FRONT, GL_BACK, GL_FRONT_AND_BACK}
use Rattle.names.specs.Maps.{front_face_of, primitive_state}
use Rattle.names.specs.declared.gl.PrimitiveState.{PrimitiveState}
use Rattle.names.specs.declared.gl.StencilSide.{StencilSide}
use Rattle.names.specs.declared.gl.StencilState.{StencilState}
use Rattle.names.specs.declared.wgt.FrontFace.{FrontFace}
use Rattle.names.specs.declared.wgt.FrontFace.TheVariants.{Ccw, Cw}
use Rattle.records.specs.Start.{start_target}
use Rattle.records.specs.Same.{Equality, same_bool, same_primitive, same_depth_bias, same_color_target, same_stencil_ops, same_stencil_func, number, flag, color-target, stencil-ops, stencil-func, depth_bias, primitive}
use Rattle.records.specs.declared.command.Command.{Command}
use Rattle.records.specs.declared.command.Command.TheVariants.{SetPrimitive, SetDepthBias, ConfigureDepthStencil, SetAlphaToCoverage, SetColorTarget, SetClipDistances}
use Rattle.records.specs.declared.command.ColorTargetDesc.{ColorTargetDesc}
use Rattle.records.specs.declared.command.DepthState.{DepthState}
use Rattle.records.specs.declared.pipeline.RenderPipeline.{RenderPipeline}
use Rattle.records.specs.declared.state.FixedState.{FixedState}
use Rattle.pipeline.specs.Fixed.{only, stencil_func, stencil_funcs, stencil_op, stencil_ops, depth_commands, stencil_commands, aspects_of, stencil_or, targets_in, targets_of, same_targets, all_same, each_target, target_commands, fixed_commands, pipeline_fixed}
use Rattle.machine.proofs.Lists.{false-true, and_left, and_right}
use Rattle.machine.specs.View.{StencilFunc, FaceOps}
use Rattle.machine.specs.Machine.{Fixed, Faces, Machine, switched, with_fixed, with_faces, exec, play}
use Rattle.machine.specs.Found.{faces_of}
use Rattle.book.specs.Book.{has_depth, has_stencil, reference_of, named_depth, named_faces}
use Rattle.machine.proofs.Sweep.{play-append}
use Rattle.order.proofs.Invariant.{Lazy, Set, SameFuncs, Stenciled}

-- ---- "recorded only on change": whether it was sent or not, the machine has the new value
lazily : {A : Type 0} (same : A → A → Bool) → Equality same → (new old held : A) → held ≡ old → cond (not (same new old)) new held ≡ new
lazily same E new old held h = go (same new old) refl
  where
    go : (t : Bool) → same new old ≡ t → cond (not t) new held ≡ new
    go true e = h ∙ sym (E.equal new old e)
    go false e = refl

-- ---- colour targets
unfoldable pub each_played : ℕ → List ColorTargetDesc → (ℕ → ColorTargetDesc) → ℕ → ColorTargetDesc
each_played i [] f = f
each_played i (x ∷ xs) f = each_played (suc i) xs (upd f i x)

unfoldable pub targets_played : List ColorTargetDesc → (ℕ → ColorTargetDesc) → ℕ → ColorTargetDesc
targets_played [] f = λ i. start_target
targets_played (x ∷ xs) f = cond (all_same x xs) (λ i. x) (each_played 0 (x ∷ xs) f)

abbrev with_target : (ℕ → ColorTargetDesc) → Machine → Machine
with_target t m =
    let f = m.gl.fixed in
    with_fixed (record { program = f.program; primitive = f.primitive; bias = f.bias; alpha = f.alpha; target = t; clip = f.clip; aspects = f.aspects; depth = f.depth }) m

play-each : (i : ℕ) (xs : List ColorTargetDesc) (m : Machine) → play m (each_target i xs) ≡ with_target (each_played i xs m.gl.fixed.target) m
unfolding each_target each_played
play-each i [] m = refl
play-each i (x ∷ xs) m = play-each (suc i) xs (exec m (SetColorTarget (Some i) x))

play-targets : (xs : List ColorTargetDesc) (m : Machine) → play m (target_commands xs) ≡ with_target (targets_played xs m.gl.fixed.target) m
unfolding targets_played
play-targets [] m = refl
play-targets (x ∷ xs) m = go (all_same x xs)
  where
    go : (t : Bool) → play m (cond t (SetColorTarget None x ∷ []) (each_target 0 (x ∷ xs))) ≡ with_target (cond t (λ i. x) (each_played 0 (x ∷ xs) m.gl.fixed.target)) m
    go true = refl
    go false = play-each 0 (x ∷ xs) m

below-kept : (i : ℕ) (xs : List ColorTargetDesc) (f : ℕ → ColorTargetDesc) (k : ℕ) → k < i → each_played i xs f k ≡ f k
unfolding each_played
below-kept i [] f k h = refl
below-kept i (x ∷ xs) f k h = below-kept (suc i) xs (upd f i x) k (omega arith) ∙ upd_other f i k x (λ e. omega arith)

each-table : (i : ℕ) (xs : List ColorTargetDesc) (f : ℕ → ColorTargetDesc) → tabulate (length xs) (λ j. each_played i xs f (i + j)) ≡ xs
unfolding tabulate each_played
each-table i [] f = refl
each-table i (x ∷ xs) f =
    ap₂ (λ (y : ColorTargetDesc) (ys : List ColorTargetDesc). y ∷ ys)
    (ap (λ (k : ℕ). each_played (suc i) xs (upd f i x) k) (add-zero i) ∙ below-kept (suc i) xs (upd f i x) i (omega arith) ∙ upd_same f i x)
    (alike (length xs) (λ j. each_played (suc i) xs (upd f i x) (i + suc j)) (λ j. each_played (suc i) xs (upd f i x) (suc i + j)) (λ j l. ap (λ (k : ℕ). each_played (suc i) xs (upd f i x) k) (add-suc i j ∙ sym (suc-add i j)))
    ∙ each-table (suc i) xs (upd f i x))

same-table : (t : ColorTargetDesc) (xs : List ColorTargetDesc) → all_same t xs ≡ true → tabulate (length xs) (λ i. t) ≡ xs
unfolding tabulate all_same
same-table t [] e = refl
same-table t (x ∷ xs) e =
    ap₂ (λ (y : ColorTargetDesc) (ys : List ColorTargetDesc). y ∷ ys) (sym (color-target.equal x t (and_left (same_color_target x t) (all_same t xs) e))) (same-table t xs (and_right (same_color_target x t) (all_same t xs) e))

targets-table : (xs : List ColorTargetDesc) (f : ℕ → ColorTargetDesc) → tabulate (length xs) (targets_played xs f) ≡ xs
unfolding tabulate targets_played
targets-table [] f = refl
targets-table (x ∷ xs) f = go (all_same x xs) refl
  where
    go : (t : Bool) → all_same x xs ≡ t → tabulate (length (x ∷ xs)) (cond t (λ i. x) (each_played 0 (x ∷ xs) f)) ≡ x ∷ xs
    go true e = ap (λ (ys : List ColorTargetDesc). x ∷ ys) (same-table x xs e)
    go false e = alike (length (x ∷ xs)) (each_played 0 (x ∷ xs) f) (λ j. each_played 0 (x ∷ xs) f (0 + j)) (λ j l. ap (λ (k : ℕ). each_played 0 (x ∷ xs) f k) (sym (zero-plus j))) ∙ each-table 0 (x ∷ xs) f
      where
        zero-plus : (j : ℕ) → 0 + j ≡ j
        zero-plus j = omega arith

same-targets : (xs ys : List ColorTargetDesc) → same_targets xs ys ≡ true → xs ≡ ys
unfolding same_targets
same-targets [] [] e = refl
same-targets [] (y ∷ ys) e = false-true e
same-targets (x ∷ xs) [] e = false-true e
same-targets (x ∷ xs) (y ∷ ys) e =
    ap₂ (λ (z : ColorTargetDesc) (zs : List ColorTargetDesc). z ∷ zs) (color-target.equal x y (and_left (same_color_target x y) (same_targets xs ys) e)) (same-targets xs ys (and_right (same_color_target x y) (same_targets xs ys) e))

-- ---- stencil
abbrev func_of : StencilSide → StencilFunc
func_of s = record { function = s.function; reference = s.reference; read = s.mask_read }

abbrev ops_of : StencilSide → FaceOps
ops_of s = record { write = s.mask_write; ops = s.ops }

abbrev pub with_funcs : StencilState → Machine → Machine
with_funcs s m = with_faces (record { front = Some (func_of s.front); back = Some (func_of s.back); front_ops = m.gl.faces.front_ops; back_ops = m.gl.faces.back_ops }) m

abbrev with_ops : StencilState → Machine → Machine
with_ops s m = with_faces (record { front = m.gl.faces.front; back = m.gl.faces.back; front_ops = Some (ops_of s.front); back_ops = Some (ops_of s.back) }) m

pub play-funcs : (s : StencilState) (m : Machine) → play m (stencil_funcs s) ≡ with_funcs s m
play-funcs s m = go (same_stencil_func s.front s.back) refl
  where
    go : (t : Bool) → same_stencil_func s.front s.back ≡ t
        → play m (cond t (stencil_func GL_FRONT_AND_BACK s.front ∷ []) (stencil_func GL_FRONT s.front ∷ stencil_func GL_BACK s.back ∷ [])) ≡ with_funcs s m
    go true e =
        let q = stencil-func.equal s.front s.back e in
        λ j. with_faces (record { front = Some (func_of s.front); back = Some (record { function = (q j).0; reference = (q j).1.1; read = (q j).1.0 }); front_ops = m.gl.faces.front_ops; back_ops = m.gl.faces.back_ops }) m
    go false e = refl

play-ops : (s : StencilState) (m : Machine) → play m (stencil_ops s) ≡ with_ops s m
play-ops s m = go (same_stencil_ops s.front.ops s.back.ops) (eqb s.front.mask_write s.back.mask_write) refl refl
  where
    go : (t u : Bool) → same_stencil_ops s.front.ops s.back.ops ≡ t → eqb s.front.mask_write s.back.mask_write ≡ u
        → play m (cond (t && u) (stencil_op GL_FRONT_AND_BACK s.front ∷ []) (stencil_op GL_FRONT s.front ∷ stencil_op GL_BACK s.back ∷ [])) ≡ with_ops s m
    go true true e f =
        let p = stencil-ops.equal s.front.ops s.back.ops e in
        let q = number.equal s.front.mask_write s.back.mask_write f in
        λ j. with_faces (record { front = m.gl.faces.front; back = m.gl.faces.back; front_ops = Some (ops_of s.front); back_ops = Some (record { write = q j; ops = p j }) }) m
    go true false e f = refl
    go false u e f = refl

abbrev stencil_after : Option StencilState → Faces → Faces
stencil_after None g = g
stencil_after (Some s) g = record { front = Some (func_of s.front); back = Some (func_of s.back); front_ops = Some (ops_of s.front); back_ops = Some (ops_of s.back) }

play-stencil : (o : Option StencilState) (m : Machine) → play m (stencil_commands o) ≡ with_faces (stencil_after o m.gl.faces) m
play-stencil None m = refl
play-stencil (Some s) m = play-append m (stencil_funcs s) (stencil_ops s) ∙ ap (λ (n : Machine). play n (stencil_ops s)) (play-funcs s m) ∙ play-ops s (with_funcs s m)

-- ---- depth
abbrev depth_after : Option DepthState → Option DepthState → Option DepthState
depth_after None old = old
depth_after (Some d) old = Some d

-- ---- the whole part, on the machine
abbrev pub fixed_after : RenderPipeline → FixedState → Fixed → Fixed
fixed_after p f g =
    record {
      program = g.program;
      primitive = cond (not (same_primitive (primitive_state p.primitive) f.primitive)) (Some (primitive_state p.primitive)) g.primitive;
      bias = cond (not (same_depth_bias p.depth_bias f.depth_bias)) p.depth_bias g.bias;
      alpha = cond (not (same_bool p.alpha_to_coverage_enabled f.alpha_to_coverage_enabled)) p.alpha_to_coverage_enabled g.alpha;
      target = cond (same_targets (targets_of f) (targets_in p)) g.target (targets_played (targets_in p) g.target);
      clip = cond (not (eqb p.inner.clip_distance_count f.clip_distance_count)) (switched f.clip_distance_count p.inner.clip_distance_count g.clip) g.clip;
      aspects = Some (aspects_of p);
      depth = depth_after p.depth g.depth;
    }

abbrev pub faces_after : RenderPipeline → Faces → Faces
faces_after p g = stencil_after p.stencil g

module _ (p : RenderPipeline) (f : FixedState) where
  abbrev t1 : Bool
  t1 = not (same_primitive (primitive_state p.primitive) f.primitive)

  abbrev t2 : Bool
  t2 = not (same_depth_bias p.depth_bias f.depth_bias)

  abbrev t3 : Bool
  t3 = not (same_bool p.alpha_to_coverage_enabled f.alpha_to_coverage_enabled)

  abbrev t4 : Bool
  t4 = same_targets (targets_of f) (targets_in p)

  abbrev t5 : Bool
  t5 = not (eqb p.inner.clip_distance_count f.clip_distance_count)

  -- the seven runs of commands, and what each makes of the machine: one field

  abbrev run_primitive : List Command
  run_primitive = only t1 (SetPrimitive (primitive_state p.primitive))

  abbrev to_primitive : Machine → Machine
  to_primitive m = with_fixed (record { program = m.gl.fixed.program; primitive = cond t1 (Some (primitive_state p.primitive)) m.gl.fixed.primitive; bias = m.gl.fixed.bias; alpha = m.gl.fixed.alpha; target = m.gl.fixed.target; clip = m.gl.fixed.clip; aspects = m.gl.fixed.aspects; depth = m.gl.fixed.depth }) m

  by_primitive : (m : Machine) → play m run_primitive ≡ to_primitive m
  by_primitive m = go t1
    where
      go : (t : Bool) → play m (only t (SetPrimitive (primitive_state p.primitive))) ≡ with_fixed (record { program = m.gl.fixed.program; primitive = cond t (Some (primitive_state p.primitive)) m.gl.fixed.primitive; bias = m.gl.fixed.bias; alpha = m.gl.fixed.alpha; target = m.gl.fixed.target; clip = m.gl.fixed.clip; aspects = m.gl.fixed.aspects; depth = m.gl.fixed.depth }) m
      go true = refl
      go false = refl

  abbrev run_bias : List Command
  run_bias = only t2 (SetDepthBias p.depth_bias)

  abbrev to_bias : Machine → Machine
  to_bias m = with_fixed (record { program = m.gl.fixed.program; primitive = m.gl.fixed.primitive; bias = cond t2 p.depth_bias m.gl.fixed.bias; alpha = m.gl.fixed.alpha; target = m.gl.fixed.target; clip = m.gl.fixed.clip; aspects = m.gl.fixed.aspects; depth = m.gl.fixed.depth }) m

  by_bias : (m : Machine) → play m run_bias ≡ to_bias m
  by_bias m = go t2
    where
      go : (t : Bool) → play m (only t (SetDepthBias p.depth_bias)) ≡ with_fixed (record { program = m.gl.fixed.program; primitive = m.gl.fixed.primitive; bias = cond t p.depth_bias m.gl.fixed.bias; alpha = m.gl.fixed.alpha; target = m.gl.fixed.target; clip = m.gl.fixed.clip; aspects = m.gl.fixed.aspects; depth = m.gl.fixed.depth }) m
      go true = refl
      go false = refl

  abbrev run_depth : List Command
  run_depth = depth_commands p.depth

  abbrev to_depth : Machine → Machine
  to_depth m = with_fixed (record { program = m.gl.fixed.program; primitive = m.gl.fixed.primitive; bias = m.gl.fixed.bias; alpha = m.gl.fixed.alpha; target = m.gl.fixed.target; clip = m.gl.fixed.clip; aspects = m.gl.fixed.aspects; depth = depth_after p.depth m.gl.fixed.depth }) m

  by_depth : (m : Machine) → play m run_depth ≡ to_depth m
  by_depth m = go p.depth
    where
      go : (o : Option DepthState) → play m (depth_commands o) ≡ with_fixed (record { program = m.gl.fixed.program; primitive = m.gl.fixed.primitive; bias = m.gl.fixed.bias; alpha = m.gl.fixed.alpha; target = m.gl.fixed.target; clip = m.gl.fixed.clip; aspects = m.gl.fixed.aspects; depth = depth_after o m.gl.fixed.depth }) m
      go None = refl
      go (Some d) = refl

  abbrev run_stencil : List Command
  run_stencil = stencil_commands p.stencil

  abbrev to_stencil : Machine → Machine
  to_stencil m = with_faces (stencil_after p.stencil m.gl.faces) m

  by_stencil : (m : Machine) → play m run_stencil ≡ to_stencil m
  by_stencil m = play-stencil p.stencil m

  abbrev run_aspects : List Command
  run_aspects = ConfigureDepthStencil (aspects_of p) ∷ []

  abbrev to_aspects : Machine → Machine
  to_aspects m = with_fixed (record { program = m.gl.fixed.program; primitive = m.gl.fixed.primitive; bias = m.gl.fixed.bias; alpha = m.gl.fixed.alpha; target = m.gl.fixed.target; clip = m.gl.fixed.clip; aspects = Some (aspects_of p); depth = m.gl.fixed.depth }) m

  by_aspects : (m : Machine) → play m run_aspects ≡ to_aspects m
  by_aspects m = refl

  abbrev run_alpha : List Command
  run_alpha = only t3 (SetAlphaToCoverage p.alpha_to_coverage_enabled)

  abbrev to_alpha : Machine → Machine
  to_alpha m = with_fixed (record { program = m.gl.fixed.program; primitive = m.gl.fixed.primitive; bias = m.gl.fixed.bias; alpha = cond t3 p.alpha_to_coverage_enabled m.gl.fixed.alpha; target = m.gl.fixed.target; clip = m.gl.fixed.clip; aspects = m.gl.fixed.aspects; depth = m.gl.fixed.depth }) m

  by_alpha : (m : Machine) → play m run_alpha ≡ to_alpha m
  by_alpha m = go t3
    where
      go : (t : Bool) → play m (only t (SetAlphaToCoverage p.alpha_to_coverage_enabled)) ≡ with_fixed (record { program = m.gl.fixed.program; primitive = m.gl.fixed.primitive; bias = m.gl.fixed.bias; alpha = cond t p.alpha_to_coverage_enabled m.gl.fixed.alpha; target = m.gl.fixed.target; clip = m.gl.fixed.clip; aspects = m.gl.fixed.aspects; depth = m.gl.fixed.depth }) m
      go true = refl
      go false = refl

  abbrev run_targets : List Command
  run_targets = cond t4 [] (target_commands (targets_in p))

  abbrev to_targets : Machine → Machine
  to_targets m = with_target (cond t4 m.gl.fixed.target (targets_played (targets_in p) m.gl.fixed.target)) m

  by_targets : (m : Machine) → play m run_targets ≡ to_targets m
  by_targets m = go t4
    where
      go : (t : Bool) → play m (cond t [] (target_commands (targets_in p))) ≡ with_target (cond t m.gl.fixed.target (targets_played (targets_in p) m.gl.fixed.target)) m
      go true = refl
      go false = play-targets (targets_in p) m

  abbrev run_clip : List Command
  run_clip = only t5 (SetClipDistances f.clip_distance_count p.inner.clip_distance_count)

  abbrev to_clip : Machine → Machine
  to_clip m = with_fixed (record { program = m.gl.fixed.program; primitive = m.gl.fixed.primitive; bias = m.gl.fixed.bias; alpha = m.gl.fixed.alpha; target = m.gl.fixed.target; clip = cond t5 (switched f.clip_distance_count p.inner.clip_distance_count m.gl.fixed.clip) m.gl.fixed.clip; aspects = m.gl.fixed.aspects; depth = m.gl.fixed.depth }) m

  by_clip : (m : Machine) → play m run_clip ≡ to_clip m
  by_clip m = go t5
    where
      go : (t : Bool) → play m (only t (SetClipDistances f.clip_distance_count p.inner.clip_distance_count)) ≡ with_fixed (record { program = m.gl.fixed.program; primitive = m.gl.fixed.primitive; bias = m.gl.fixed.bias; alpha = m.gl.fixed.alpha; target = m.gl.fixed.target; clip = cond t (switched f.clip_distance_count p.inner.clip_distance_count m.gl.fixed.clip) m.gl.fixed.clip; aspects = m.gl.fixed.aspects; depth = m.gl.fixed.depth }) m
      go true = refl
      go false = refl

  -- one run after the other
  then : (xs ys : List Command) (f g : Machine → Machine) → ((m : Machine) → play m xs ≡ f m) → ((m : Machine) → play m ys ≡ g m) → (m : Machine) → play m (xs ++ ys) ≡ g (f m)
  then xs ys f g a b m = play-append m xs ys ∙ ap (λ (n : Machine). play n ys) (a m) ∙ b (f m)

  abbrev rest_targets : List Command
  rest_targets = run_targets ++ run_clip

  abbrev on_targets : Machine → Machine
  on_targets m = to_clip (to_targets m)

  from_targets : (m : Machine) → play m rest_targets ≡ on_targets m
  from_targets = then run_targets run_clip to_targets to_clip by_targets by_clip

  abbrev rest_alpha : List Command
  rest_alpha = run_alpha ++ rest_targets

  abbrev on_alpha : Machine → Machine
  on_alpha m = on_targets (to_alpha m)

  from_alpha : (m : Machine) → play m rest_alpha ≡ on_alpha m
  from_alpha = then run_alpha rest_targets to_alpha on_targets by_alpha from_targets

  abbrev rest_aspects : List Command
  rest_aspects = run_aspects ++ rest_alpha

  abbrev on_aspects : Machine → Machine
  on_aspects m = on_alpha (to_aspects m)

  from_aspects : (m : Machine) → play m rest_aspects ≡ on_aspects m
  from_aspects = then run_aspects rest_alpha to_aspects on_alpha by_aspects from_alpha

  abbrev rest_stencil : List Command
  rest_stencil = run_stencil ++ rest_aspects

  abbrev on_stencil : Machine → Machine
  on_stencil m = on_aspects (to_stencil m)

  from_stencil : (m : Machine) → play m rest_stencil ≡ on_stencil m
  from_stencil = then run_stencil rest_aspects to_stencil on_aspects by_stencil from_aspects

  abbrev rest_depth : List Command
  rest_depth = run_depth ++ rest_stencil

  abbrev on_depth : Machine → Machine
  on_depth m = on_stencil (to_depth m)

  from_depth : (m : Machine) → play m rest_depth ≡ on_depth m
  from_depth = then run_depth rest_stencil to_depth on_stencil by_depth from_stencil

  abbrev rest_bias : List Command
  rest_bias = run_bias ++ rest_depth

  abbrev on_bias : Machine → Machine
  on_bias m = on_depth (to_bias m)

  from_bias : (m : Machine) → play m rest_bias ≡ on_bias m
  from_bias = then run_bias rest_depth to_bias on_depth by_bias from_depth

  abbrev rest_primitive : List Command
  rest_primitive = run_primitive ++ rest_bias

  abbrev on_primitive : Machine → Machine
  on_primitive m = on_bias (to_primitive m)

  from_primitive : (m : Machine) → play m rest_primitive ≡ on_primitive m
  from_primitive = then run_primitive rest_bias to_primitive on_bias by_primitive from_bias

  pub play-fixed : (m : Machine) → play m (fixed_commands p f) ≡ with_faces (faces_after p m.gl.faces) (with_fixed (fixed_after p f m.gl.fixed) m)
  play-fixed m = from_primitive m

  -- ---- what the machine then has
  primitive-set : (g : Fixed) → Lazy f g → (fixed_after p f g).primitive ≡ Some (primitive_state p.primitive)
  primitive-set g L = go (same_primitive (primitive_state p.primitive) f.primitive) refl
    where
      faced : (n : FrontFace) → front_face_of n ≡ 0 → ⊥
      faced Ccw e = omega arith
      faced Cw e = omega arith

      go : (t : Bool) → same_primitive (primitive_state p.primitive) f.primitive ≡ t → cond (not t) (Some (primitive_state p.primitive)) g.primitive ≡ Some (primitive_state p.primitive)
      go true e =
          let q = primitive.equal (primitive_state p.primitive) f.primitive e in
          L.primitive (λ z. faced p.primitive.front_face (ap (λ (x : PrimitiveState). x.front_face) q ∙ z)) ∙ ap Some (sym q)
      go false e = refl

  bias-set : (g : Fixed) → Lazy f g → (fixed_after p f g).bias ≡ p.depth_bias
  bias-set g L = lazily same_depth_bias depth_bias p.depth_bias f.depth_bias g.bias L.bias

  alpha-set : (g : Fixed) → Lazy f g → (fixed_after p f g).alpha ≡ p.alpha_to_coverage_enabled
  alpha-set g L = lazily same_bool flag p.alpha_to_coverage_enabled f.alpha_to_coverage_enabled g.alpha L.alpha

  clip-set : (g : Fixed) → Lazy f g → (fixed_after p f g).clip ≡ (λ i. ltb i p.inner.clip_distance_count)
  clip-set g L = go (eqb p.inner.clip_distance_count f.clip_distance_count) refl
    where
      old : ℕ
      old = f.clip_distance_count

      new : ℕ
      new = p.inner.clip_distance_count

      turned : (a b : Bool) → cond (not a && b) true (cond (not b && a) false a) ≡ b
      turned true true = refl
      turned true false = refl
      turned false true = refl
      turned false false = refl

      go : (t : Bool) → eqb p.inner.clip_distance_count f.clip_distance_count ≡ t → cond (not t) (switched f.clip_distance_count p.inner.clip_distance_count g.clip) g.clip ≡ (λ i. ltb i p.inner.clip_distance_count)
      go true e = L.clip ∙ ap (λ (n : ℕ). λ i. ltb i n) (sym (eqb-true p.inner.clip_distance_count f.clip_distance_count e))
      go false e =
          ap (switched f.clip_distance_count p.inner.clip_distance_count) L.clip
          ∙ (λ j i. turned (ltb i f.clip_distance_count) (ltb i p.inner.clip_distance_count) j)

  targets-set : (g : Fixed) → Lazy f g → tabulate (length (targets_in p)) (fixed_after p f g).target ≡ targets_in p
  targets-set g L = go (same_targets (targets_of f) (targets_in p)) refl
    where
      go : (t : Bool) → same_targets (targets_of f) (targets_in p) ≡ t → tabulate (length (targets_in p)) (cond t g.target (targets_played (targets_in p) g.target)) ≡ targets_in p
      go true e =
          let q = same-targets (targets_of f) (targets_in p) e in
          ap (λ (l : List ColorTargetDesc). tabulate (length l) g.target) (sym q) ∙ L.targets ∙ q
      go false e = targets-table (targets_in p) g.target

  depth-set : (g : Fixed) → cond (has_depth p.depth) (fixed_after p f g).depth None ≡ named_depth p.depth
  depth-set g = go p.depth
    where
      go : (o : Option DepthState) → cond (has_depth o) (depth_after o g.depth) None ≡ named_depth o
      go None = refl
      go (Some d) = refl

  pub set-piped : (g : Fixed) → Lazy f g → g.program ≡ Some p.inner.program → Set (fixed_after p f g) p
  set-piped g L e =
      record {
        program = e;
        primitive = primitive-set g L;
        bias = bias-set g L;
        alpha = alpha-set g L;
        clip = clip-set g L;
        targets = targets-set g L;
        aspects = refl;
        depth = depth-set g;
      }

  pub lazy-piped : (g : Fixed) → Lazy f g → Lazy (pipeline_fixed p f) (fixed_after p f g)
  lazy-piped g L = record { bias = bias-set g L; alpha = alpha-set g L; clip = clip-set g L; targets = targets-set g L; primitive = λ ne. primitive-set g L }

  pub stencil-piped : (g : Faces) → Stenciled (pipeline_fixed p f).stencil (faces_after p g) (reference_of p.stencil) p
  stencil-piped g = record { funcs = funcs p.stencil; faces = faces p.stencil }
    where
      funcs : (o : Option StencilState) → SameFuncs (stencil_or f.stencil o) o
      funcs None = tt
      funcs (Some s) = ((refl, refl), (refl, refl))

      faces : (o : Option StencilState) → cond (has_stencil o) (faces_of (stencil_after o g)) None ≡ named_faces (reference_of o) o
      faces None = refl
      faces (Some s) = refl
