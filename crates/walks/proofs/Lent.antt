-- The locals of a straight function (`Straight.antt`) past its plain ones: the one that holds `list.len()`, the one that holds `()`, and for each call that is lent the list a pointer and a slice, and two more where it is lent a run of numbers too.
--     may_item, spare        all of them as room, each in one item of the context
--     pair-out, run_out        those of one call are taken out, and put back (pair-back, run-back)
-- Says nothing of the crate. Assumes `Logic`.
use mathlib.Core.Path.{◌≡◌, refl}
use mathlib.Core.Bool.{Bool, true, false}
use Prim.Native.Nat.{ℕ, zero, suc}
use mathlib.Core.List.{List, [], ◌∷◌, ◌++◌}
use lib.ListN.{get_or}
use lib.Dec.{T as Holds}
use seplogic.Ra.Ura.{Ura}
use mir.Syntax.{Ty, Width, Local, erased, mut, w64, ty_int, ty_ref, local, value_local}
use base.Logic.{ent, sep, id⊢}
use base.Fml.{Fml, ftrue, fsep, froom, fdies}
use prog.Wp.{Env}
use types.Logic.{Logic, sem}
use types.Kit.{Item, Goal, Seq, Step, allocs, frees, ‵, ◌⊛◌, step, ◌$◌, ◌∵◌, !, qed, move, drop, use1, use2, split, fsplit, fjoin, frame, done}
use types.Run.{alloc1, alloc0, free1}
use denote.Memory.{pointee}
use denote.Slice.{slice_ty}
use denote.Steps.{nothing}
use Rattle.walks.proofs.Args.{Datum, Locals, no_local}

abbrev pub word : Ty
word = ty_int w64

-- ---- a local that may be there
abbrev pub may : Bool → Ty → List Local
may true τ = local τ value_local ∷ []
may false τ = []

abbrev pub may_env : Bool → Ty → ℕ → Locals
may_env true τ b = (τ, b) ∷ []
may_env false τ b = []

abbrev pub may_item : Bool → Ty → ℕ → Fml
may_item true τ b = fsep (froom τ b 0) (fdies τ b)
may_item false τ b = ftrue

-- the number of a local behind it
abbrev pub behind : Bool → ℕ → ℕ
behind true k = suc k
behind false k = k

pub may-spot : (has : Bool) (τ : Ty) (b : ℕ) (E : Locals) → Holds has → get_or (may_env has τ b ++ E) 0 no_local ≡ (τ, b)
may-spot true τ b E h = refl
may-spot false τ b E h = absurd h

pub behind-spot : (has : Bool) (τ : Ty) (b : ℕ) (E : Locals) (k : ℕ) → get_or (may_env has τ b ++ E) (behind has k) no_local ≡ get_or E k no_local
behind-spot true τ b E k = refl
behind-spot false τ b E k = refl

module _ {M : Type 1} {𝓤 : Ura M} (𝓛 : Logic 𝓤) where
  pub may-out : (has : Bool) (τ : Ty) (b : ℕ) → Holds has → ent 𝓤 (sem 𝓛 (may_item has τ b)) (sep 𝓤 (sem 𝓛 (froom τ b 0)) (sem 𝓛 (fdies τ b)))
  may-out true τ b h = id⊢ 𝓤 _
  may-out false τ b h = absurd h

  pub may-back : (has : Bool) (τ : Ty) (b : ℕ) → Holds has → ent 𝓤 (sep 𝓤 (sem 𝓛 (froom τ b 0)) (sem 𝓛 (fdies τ b))) (sem 𝓛 (may_item has τ b))
  may-back true τ b h = id⊢ 𝓤 _
  may-back false τ b h = absurd h

module _ {M : Type 1} {𝓤 : Ura M} {𝓛 : Logic 𝓤} {K : Type 0} where
  open 𝓛 use {H}

  pub alloc-may : K → (has : Bool) (τ : Ty) {Γ : List (Item 𝓤)} {ls : List Local} {Kt : Env 𝓤 H → Goal 𝓤 H}
      → ((b : ℕ) → Seq K 𝓛 (‵ (may_item has τ b) ∷ Γ) (allocs ls (λ E. Kt (may_env has τ b ++ E)))) → Seq K 𝓛 Γ (allocs (may has τ ++ ls) Kt)
  alloc-may t true τ k = alloc1 t (λ b. fjoin t $ k b)
  alloc-may t false τ k = nothing t $ k 0

  pub free-may : K → (has : Bool) (τ : Ty) (b : ℕ) {Γ : List (Item 𝓤)} {E : Env 𝓤 H} {g : Goal 𝓤 H} → Step K 𝓛 Γ (frees E g) (‵ (may_item has τ b) ∷ Γ) (frees (may_env has τ b ++ E) g)
  free-may t true τ b = step (λ s. fsplit t $ free1 t $ s)
  free-may t false τ b = step (λ s. drop t $ s)

-- ---- what is lent: of each call whether a run of uN is lent beside the list of R
abbrev pub lent_ref : Datum → Ty
lent_ref R = ty_ref erased mut (pointee R.written)

abbrev pub lent : Datum → Ty
lent R = slice_ty (lent_ref R)

abbrev pub run_ref : Width → Ty
run_ref N = ty_ref erased mut (ty_int N)

abbrev pub run_lent : Width → Ty
run_lent N = slice_ty (run_ref N)

abbrev pub pair : Ty → Ty → ℕ → ℕ → Fml
pair τ σ r s = fsep (fsep (froom τ r 0) (fdies τ r)) (fsep (froom σ s 0) (fdies σ s))

abbrev pub Pairs : List Bool → Type 0
Pairs [] = Unit {0}
Pairs (false ∷ ks) = ℕ × (ℕ × Pairs ks)
Pairs (true ∷ ks) = ℕ × (ℕ × (ℕ × (ℕ × Pairs ks)))

-- there is an i-th call
abbrev pub Here : List Bool → ℕ → Type 0
Here [] i = ⊥
Here (k ∷ ks) zero = Unit {0}
Here (k ∷ ks) (suc i) = Here ks i

-- and it is lent a run too
abbrev pub Both : List Bool → ℕ → Type 0
Both [] i = ⊥
Both (k ∷ ks) zero = Holds k
Both (k ∷ ks) (suc i) = Both ks i

pub both-here : (ks : List Bool) (i : ℕ) → Both ks i → Here ks i
both-here [] i h = absurd h
both-here (k ∷ ks) zero h = tt
both-here (k ∷ ks) (suc i) h = both-here ks i h

-- where its locals begin
abbrev pub begins : List Bool → ℕ → ℕ
begins [] i = 0
begins (k ∷ ks) zero = 0
begins (false ∷ ks) (suc i) = suc (suc (begins ks i))
begins (true ∷ ks) (suc i) = suc (suc (suc (suc (begins ks i))))

abbrev pub ref_block : (ks : List Bool) → Pairs ks → ℕ → ℕ
ref_block [] ps i = 0
ref_block (false ∷ ks) ps zero = ps.0
ref_block (true ∷ ks) ps zero = ps.0
ref_block (false ∷ ks) ps (suc i) = ref_block ks ps.1.1 i
ref_block (true ∷ ks) ps (suc i) = ref_block ks ps.1.1.1.1 i

abbrev pub lent_block : (ks : List Bool) → Pairs ks → ℕ → ℕ
lent_block [] ps i = 0
lent_block (false ∷ ks) ps zero = ps.1.0
lent_block (true ∷ ks) ps zero = ps.1.0
lent_block (false ∷ ks) ps (suc i) = lent_block ks ps.1.1 i
lent_block (true ∷ ks) ps (suc i) = lent_block ks ps.1.1.1.1 i

abbrev pub run_ref_block : (ks : List Bool) → Pairs ks → ℕ → ℕ
run_ref_block [] ps i = 0
run_ref_block (false ∷ ks) ps zero = 0
run_ref_block (true ∷ ks) ps zero = ps.1.1.0
run_ref_block (false ∷ ks) ps (suc i) = run_ref_block ks ps.1.1 i
run_ref_block (true ∷ ks) ps (suc i) = run_ref_block ks ps.1.1.1.1 i

abbrev pub run_lent_block : (ks : List Bool) → Pairs ks → ℕ → ℕ
run_lent_block [] ps i = 0
run_lent_block (false ∷ ks) ps zero = 0
run_lent_block (true ∷ ks) ps zero = ps.1.1.1.0
run_lent_block (false ∷ ks) ps (suc i) = run_lent_block ks ps.1.1 i
run_lent_block (true ∷ ks) ps (suc i) = run_lent_block ks ps.1.1.1.1 i

module _ (R : Datum) (N : Width) where
  abbrev pub pair_locals : List Bool → List Local
  pair_locals [] = []
  pair_locals (false ∷ ks) = local (lent_ref R) value_local ∷ local (lent R) value_local ∷ pair_locals ks
  pair_locals (true ∷ ks) = local (lent_ref R) value_local ∷ local (lent R) value_local ∷ local (run_ref N) value_local ∷ local (run_lent N) value_local ∷ pair_locals ks

  abbrev pub pair_env : (ks : List Bool) → Pairs ks → Locals
  pair_env [] ps = []
  pair_env (false ∷ ks) ps = (lent_ref R, ps.0) ∷ (lent R, ps.1.0) ∷ pair_env ks ps.1.1
  pair_env (true ∷ ks) ps = (lent_ref R, ps.0) ∷ (lent R, ps.1.0) ∷ (run_ref N, ps.1.1.0) ∷ (run_lent N, ps.1.1.1.0) ∷ pair_env ks ps.1.1.1.1

  abbrev pub spare : (ks : List Bool) → Pairs ks → Fml
  spare [] ps = ftrue
  spare (false ∷ ks) ps = fsep (pair (lent_ref R) (lent R) ps.0 ps.1.0) (spare ks ps.1.1)
  spare (true ∷ ks) ps = fsep (pair (lent_ref R) (lent R) ps.0 ps.1.0) (fsep (pair (run_ref N) (run_lent N) ps.1.1.0 ps.1.1.1.0) (spare ks ps.1.1.1.1))

  -- without the list's of the i-th call
  abbrev pub without : (ks : List Bool) → Pairs ks → ℕ → Fml
  without [] ps i = ftrue
  without (false ∷ ks) ps zero = spare ks ps.1.1
  without (true ∷ ks) ps zero = fsep (pair (run_ref N) (run_lent N) ps.1.1.0 ps.1.1.1.0) (spare ks ps.1.1.1.1)
  without (false ∷ ks) ps (suc i) = fsep (pair (lent_ref R) (lent R) ps.0 ps.1.0) (without ks ps.1.1 i)
  without (true ∷ ks) ps (suc i) = fsep (pair (lent_ref R) (lent R) ps.0 ps.1.0) (fsep (pair (run_ref N) (run_lent N) ps.1.1.0 ps.1.1.1.0) (without ks ps.1.1.1.1 i))

  -- and without the run's
  abbrev pub neither : (ks : List Bool) → Pairs ks → ℕ → Fml
  neither [] ps i = ftrue
  neither (false ∷ ks) ps zero = ftrue
  neither (true ∷ ks) ps zero = spare ks ps.1.1.1.1
  neither (false ∷ ks) ps (suc i) = fsep (pair (lent_ref R) (lent R) ps.0 ps.1.0) (neither ks ps.1.1 i)
  neither (true ∷ ks) ps (suc i) = fsep (pair (lent_ref R) (lent R) ps.0 ps.1.0) (fsep (pair (run_ref N) (run_lent N) ps.1.1.0 ps.1.1.1.0) (neither ks ps.1.1.1.1 i))

  pub ref-spot : (ks : List Bool) (ps : Pairs ks) (i : ℕ) → Here ks i → get_or (pair_env ks ps) (begins ks i) no_local ≡ (lent_ref R, ref_block ks ps i)
  ref-spot [] ps i h = absurd h
  ref-spot (false ∷ ks) ps zero h = refl
  ref-spot (true ∷ ks) ps zero h = refl
  ref-spot (false ∷ ks) ps (suc i) h = ref-spot ks ps.1.1 i h
  ref-spot (true ∷ ks) ps (suc i) h = ref-spot ks ps.1.1.1.1 i h

  pub slice-spot : (ks : List Bool) (ps : Pairs ks) (i : ℕ) → Here ks i → get_or (pair_env ks ps) (suc (begins ks i)) no_local ≡ (lent R, lent_block ks ps i)
  slice-spot [] ps i h = absurd h
  slice-spot (false ∷ ks) ps zero h = refl
  slice-spot (true ∷ ks) ps zero h = refl
  slice-spot (false ∷ ks) ps (suc i) h = slice-spot ks ps.1.1 i h
  slice-spot (true ∷ ks) ps (suc i) h = slice-spot ks ps.1.1.1.1 i h

  pub run-ref-spot : (ks : List Bool) (ps : Pairs ks) (i : ℕ) → Both ks i → get_or (pair_env ks ps) (suc (suc (begins ks i))) no_local ≡ (run_ref N, run_ref_block ks ps i)
  run-ref-spot [] ps i h = absurd h
  run-ref-spot (false ∷ ks) ps zero h = absurd h
  run-ref-spot (true ∷ ks) ps zero h = refl
  run-ref-spot (false ∷ ks) ps (suc i) h = run-ref-spot ks ps.1.1 i h
  run-ref-spot (true ∷ ks) ps (suc i) h = run-ref-spot ks ps.1.1.1.1 i h

  pub run-slice-spot : (ks : List Bool) (ps : Pairs ks) (i : ℕ) → Both ks i → get_or (pair_env ks ps) (suc (suc (suc (begins ks i)))) no_local ≡ (run_lent N, run_lent_block ks ps i)
  run-slice-spot [] ps i h = absurd h
  run-slice-spot (false ∷ ks) ps zero h = absurd h
  run-slice-spot (true ∷ ks) ps zero h = refl
  run-slice-spot (false ∷ ks) ps (suc i) h = run-slice-spot ks ps.1.1 i h
  run-slice-spot (true ∷ ks) ps (suc i) h = run-slice-spot ks ps.1.1.1.1 i h

  -- the list's of the i-th call, and the run's
  abbrev pub list_pair : (ks : List Bool) → Pairs ks → ℕ → Fml
  list_pair ks ps i = pair (lent_ref R) (lent R) (ref_block ks ps i) (lent_block ks ps i)

  abbrev pub run_pair : (ks : List Bool) → Pairs ks → ℕ → Fml
  run_pair ks ps i = pair (run_ref N) (run_lent N) (run_ref_block ks ps i) (run_lent_block ks ps i)

  module _ {M : Type 1} {𝓤 : Ura M} (𝓛 : Logic 𝓤) where
    -- what holds of a part holds behind another
    deeper : (P S X Y : Fml) → ent 𝓤 (sem 𝓛 S) (sep 𝓤 (sem 𝓛 X) (sem 𝓛 Y)) → ent 𝓤 (sem 𝓛 (fsep P S)) (sep 𝓤 (sem 𝓛 X) (sem 𝓛 (fsep P Y)))
    deeper P S X Y e = qed 𝓛 (‵ (fsep P S) ∷ []) ∵ fsplit ! $ move ! (1 ∷ []) $ use1 𝓛 (‵ X ⊛ ‵ Y) e $ split ! $ frame ! $ move ! (1 ∷ 0 ∷ []) $ fjoin ! $ done !

    deeper_back : (P S X Y : Fml) → ent 𝓤 (sep 𝓤 (sem 𝓛 X) (sem 𝓛 Y)) (sem 𝓛 S) → ent 𝓤 (sep 𝓤 (sem 𝓛 X) (sem 𝓛 (fsep P Y))) (sem 𝓛 (fsep P S))
    deeper_back P S X Y e = qed 𝓛 (‵ X ∷ ‵ (fsep P Y) ∷ []) ∵ move ! (1 ∷ []) $ fsplit ! $ move ! (2 ∷ 1 ∷ []) $ use2 𝓛 (‵ S) e $ move ! (1 ∷ 0 ∷ []) $ fjoin ! $ done !

    pub pair-out : (ks : List Bool) (ps : Pairs ks) (i : ℕ) → Here ks i → ent 𝓤 (sem 𝓛 (spare ks ps)) (sep 𝓤 (sem 𝓛 (list_pair ks ps i)) (sem 𝓛 (without ks ps i)))
    pair-out [] ps i h = absurd h
    pair-out (false ∷ ks) ps zero h = id⊢ 𝓤 _
    pair-out (true ∷ ks) ps zero h = id⊢ 𝓤 _
    pair-out (false ∷ ks) ps (suc i) h = deeper (pair (lent_ref R) (lent R) ps.0 ps.1.0) (spare ks ps.1.1) (list_pair ks ps.1.1 i) (without ks ps.1.1 i) (pair-out ks ps.1.1 i h)
    pair-out (true ∷ ks) ps (suc i) h =
        deeper (pair (lent_ref R) (lent R) ps.0 ps.1.0) (fsep (pair (run_ref N) (run_lent N) ps.1.1.0 ps.1.1.1.0) (spare ks ps.1.1.1.1)) (list_pair ks ps.1.1.1.1 i) (fsep (pair (run_ref N) (run_lent N) ps.1.1.0 ps.1.1.1.0) (without ks ps.1.1.1.1 i))
        (deeper (pair (run_ref N) (run_lent N) ps.1.1.0 ps.1.1.1.0) (spare ks ps.1.1.1.1) (list_pair ks ps.1.1.1.1 i) (without ks ps.1.1.1.1 i) (pair-out ks ps.1.1.1.1 i h))

    pub pair-back : (ks : List Bool) (ps : Pairs ks) (i : ℕ) → Here ks i → ent 𝓤 (sep 𝓤 (sem 𝓛 (list_pair ks ps i)) (sem 𝓛 (without ks ps i))) (sem 𝓛 (spare ks ps))
    pair-back [] ps i h = absurd h
    pair-back (false ∷ ks) ps zero h = id⊢ 𝓤 _
    pair-back (true ∷ ks) ps zero h = id⊢ 𝓤 _
    pair-back (false ∷ ks) ps (suc i) h = deeper_back (pair (lent_ref R) (lent R) ps.0 ps.1.0) (spare ks ps.1.1) (list_pair ks ps.1.1 i) (without ks ps.1.1 i) (pair-back ks ps.1.1 i h)
    pair-back (true ∷ ks) ps (suc i) h =
        deeper_back (pair (lent_ref R) (lent R) ps.0 ps.1.0) (fsep (pair (run_ref N) (run_lent N) ps.1.1.0 ps.1.1.1.0) (spare ks ps.1.1.1.1)) (list_pair ks ps.1.1.1.1 i) (fsep (pair (run_ref N) (run_lent N) ps.1.1.0 ps.1.1.1.0) (without ks ps.1.1.1.1 i))
        (deeper_back (pair (run_ref N) (run_lent N) ps.1.1.0 ps.1.1.1.0) (spare ks ps.1.1.1.1) (list_pair ks ps.1.1.1.1 i) (without ks ps.1.1.1.1 i) (pair-back ks ps.1.1.1.1 i h))

    pub run_out : (ks : List Bool) (ps : Pairs ks) (i : ℕ) → Both ks i → ent 𝓤 (sem 𝓛 (without ks ps i)) (sep 𝓤 (sem 𝓛 (run_pair ks ps i)) (sem 𝓛 (neither ks ps i)))
    run_out [] ps i h = absurd h
    run_out (false ∷ ks) ps zero h = absurd h
    run_out (true ∷ ks) ps zero h = id⊢ 𝓤 _
    run_out (false ∷ ks) ps (suc i) h = deeper (pair (lent_ref R) (lent R) ps.0 ps.1.0) (without ks ps.1.1 i) (run_pair ks ps.1.1 i) (neither ks ps.1.1 i) (run_out ks ps.1.1 i h)
    run_out (true ∷ ks) ps (suc i) h =
        deeper (pair (lent_ref R) (lent R) ps.0 ps.1.0) (fsep (pair (run_ref N) (run_lent N) ps.1.1.0 ps.1.1.1.0) (without ks ps.1.1.1.1 i)) (run_pair ks ps.1.1.1.1 i) (fsep (pair (run_ref N) (run_lent N) ps.1.1.0 ps.1.1.1.0) (neither ks ps.1.1.1.1 i))
        (deeper (pair (run_ref N) (run_lent N) ps.1.1.0 ps.1.1.1.0) (without ks ps.1.1.1.1 i) (run_pair ks ps.1.1.1.1 i) (neither ks ps.1.1.1.1 i) (run_out ks ps.1.1.1.1 i h))

    pub run-back : (ks : List Bool) (ps : Pairs ks) (i : ℕ) → Both ks i → ent 𝓤 (sep 𝓤 (sem 𝓛 (run_pair ks ps i)) (sem 𝓛 (neither ks ps i))) (sem 𝓛 (without ks ps i))
    run-back [] ps i h = absurd h
    run-back (false ∷ ks) ps zero h = absurd h
    run-back (true ∷ ks) ps zero h = id⊢ 𝓤 _
    run-back (false ∷ ks) ps (suc i) h = deeper_back (pair (lent_ref R) (lent R) ps.0 ps.1.0) (without ks ps.1.1 i) (run_pair ks ps.1.1 i) (neither ks ps.1.1 i) (run-back ks ps.1.1 i h)
    run-back (true ∷ ks) ps (suc i) h =
        deeper_back (pair (lent_ref R) (lent R) ps.0 ps.1.0) (fsep (pair (run_ref N) (run_lent N) ps.1.1.0 ps.1.1.1.0) (without ks ps.1.1.1.1 i)) (run_pair ks ps.1.1.1.1 i) (fsep (pair (run_ref N) (run_lent N) ps.1.1.0 ps.1.1.1.0) (neither ks ps.1.1.1.1 i))
        (deeper_back (pair (run_ref N) (run_lent N) ps.1.1.0 ps.1.1.1.0) (without ks ps.1.1.1.1 i) (run_pair ks ps.1.1.1.1 i) (neither ks ps.1.1.1.1 i) (run-back ks ps.1.1.1.1 i h))

  module _ {M : Type 1} {𝓤 : Ura M} {𝓛 : Logic 𝓤} {K : Type 0} where
    open 𝓛 use {H}

    pub alloc-pairs : K → (ks : List Bool) {Γ : List (Item 𝓤)} {Kt : Env 𝓤 H → Goal 𝓤 H} → ((ps : Pairs ks) → Seq K 𝓛 (‵ (spare ks ps) ∷ Γ) (Kt (pair_env ks ps))) → Seq K 𝓛 Γ (allocs (pair_locals ks) Kt)
    alloc-pairs t [] k = nothing t $ alloc0 t $ k tt
    alloc-pairs t (false ∷ ks) k = alloc1 t (λ r. alloc1 t (λ s. alloc-pairs t ks (λ ps. move t (3 ∷ 4 ∷ []) $ fjoin t $ move t (2 ∷ 3 ∷ []) $ fjoin t $ move t (1 ∷ 0 ∷ []) $ fjoin t $ fjoin t $ k (r, (s, ps)))))
    alloc-pairs t (true ∷ ks) k =
        alloc1 t (λ r. alloc1 t (λ s. alloc1 t (λ r'. alloc1 t (λ s'. alloc-pairs t ks (λ ps.
        -- [the rest; s'; …; r'; …; s; …; r; …]
        move t (3 ∷ 4 ∷ []) $ fjoin t $ move t (2 ∷ 3 ∷ []) $ fjoin t $ move t (1 ∷ 0 ∷ []) $ fjoin t $ fjoin t $
        move t (3 ∷ 4 ∷ []) $ fjoin t $ move t (2 ∷ 3 ∷ []) $ fjoin t $ move t (1 ∷ 0 ∷ []) $ fjoin t $ fjoin t $ k (r, (s, (r', (s', ps)))))))))

    pub free-pairs : K → (ks : List Bool) (ps : Pairs ks) {Γ : List (Item 𝓤)} {g : Goal 𝓤 H} → Step K 𝓛 Γ (frees [] g) (‵ (spare ks ps) ∷ Γ) (frees (pair_env ks ps) g)
    free-pairs t [] ps = step (λ s. drop t $ s)
    free-pairs t (false ∷ ks) ps = step (λ s. fsplit t $ fsplit t $ fsplit t $ free1 t $ fsplit t $ free1 t $ free-pairs t ks ps.1.1 $ s)
    free-pairs t (true ∷ ks) ps = step (λ s. fsplit t $ fsplit t $ fsplit t $ free1 t $ fsplit t $ free1 t $ fsplit t $ fsplit t $ fsplit t $ free1 t $ fsplit t $ free1 t $ free-pairs t ks ps.1.1.1.1 $ s)
