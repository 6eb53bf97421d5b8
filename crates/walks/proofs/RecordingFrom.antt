-- Every function of the form
--     fn record(list: &mut [R], run: &[uN], plan: P) { let batch = batch_of(plan); let at = at_of(batch); let n = n_of(batch); fill(list, run, at, n, batch); }
-- where `fill` is as `FillingFrom.antt` has it and the others are functions of plain data: its MIR (`function`) meets its contract (`clauses`). As `Recording.antt`, with a run of numbers that the commands are read from.
-- Assumes `Logic`, and that the callees meet their contracts.
use mathlib.Core.Path.{◌≡◌, refl, ◌∙◌}
use Prim.Native.Nat.{ℕ}
use mathlib.Core.List.{[], ◌∷◌, List}
use lib.ListN.{length}
use seplogic.Ra.Ura.{Ura}
use mir.Syntax.{Callee, Fn, Width, named, w64, ty_unit, place, field, deref, copy, local, value_local, seq, assign, call, return, rv_opd, opd_unit, addr_of, aggregate}
use mir.Val.{Val, vunit}
use base.Logic.{SProp, ent, emp, id⊢}
use base.Fml.{Lft, Share, GName, ftrue, flft}
use prog.Routine.{Routine, Env as Routines}
use prog.Model.{Model}
use prog.Wp.{WpFn, Closed, Tables}
use types.Logic.{Logic}
use contract.Monad.{fact, fact_i}
use contract.Running.{Running, tables, tables_of}
use types.Kit.{Item, ‵, ◌⊛◌, ⋆, ◌$◌, ◌∵◌, !, qed, by, move, drop, use1, split, join, fsplit, fjoin, feq_i, suffices, frame, done}
use types.Run.{look, init, forget, stop, hop, fld, from, load, addr, unit_lit, of_opd, and_then, no_more, assigns, land, returns, enter, alloc1, alloc0, params1, pass1, pass0, free1, free0}
use types.Part.{agg, whole, sub, look_in}
use sound.WpLaws.{fm_of, WpFn-mono}
use denote.RattleType.{owns}
use denote.Laws.{Is}
use denote.Plain.{uint_row_laws, UInt, Nothing, uint_Makes, uint_Lawful, Nothing-Lawful}
use denote.Builtin.{usize}
use denote.Ref.{Bor, MutBor}
use denote.Slice.{slice_ty, slice_val, MutSlice, ShrSlice, Room, shr_slice_vals, mut_slice_vals, mut_slice_Tells, shr_slice_Tells, shr_slice_copy}
use denote.Steps.{owned, nothing}
use denote.Exit.{yes}
use denote.Signature.{Signature, plain}
use denote.Triple.Entry.{on_entry}
use denote.Triple.Spec.{Meets, triple_of}
use denote.Triple.Statement.{Contract, Triple}
use denote.Triple.Clauses.{Ended, Clauses, closing}
use denote.Triple.Table.{entered, cited}
use denote.Triple.Walked.{says, needs, Stays, gave_slice, stay_none, stay_none_slice, walk_of, Goes-gave_slice, Goes-none, Goes-none_slice, Walks, ends_at, walked, walk_Meets}
use Rattle.walks.specs.Fill.{filled}
use Rattle.walks.proofs.Args.{Datum, row, uint}
use Rattle.walks.proofs.Calls.{gave, calls-plain}
use Rattle.walks.proofs.Slices.{numbers, bend, calls-both}
use Rattle.walks.proofs.Filling.{Kinds, word, slice}
use Rattle.walks.proofs.FillingFrom as filling
use Rattle.walks.proofs.Recording.{Plans, Elem, R, P, Bt, written, Fits, lent_ref, of_clauses, of_contract, asked, wrote}

-- as `Plans`, but which commands they are, and which may be asked for, is said by the run too
pub record PlansFrom : Type 2 where
  pub kinds : Kinds
  pub Pl : Datum
  pub batch : Pl.D → kinds.P.D
  pub at : kinds.P.D → ℕ
  pub n : kinds.P.D → ℕ
  pub Allowed : List ℕ → kinds.P.D → ℕ → Type 0
  pub command_at : List ℕ → kinds.P.D → ℕ → kinds.C.D

-- at one run
abbrev pub over : PlansFrom → List ℕ → Plans
over 𝓟 ns =
    record {
      kinds = 𝓟.kinds;
      Pl = 𝓟.Pl;
      batch = 𝓟.batch;
      at = 𝓟.at;
      n = 𝓟.n;
      Allowed = 𝓟.Allowed ns;
      command_at = 𝓟.command_at ns;
    }

-- for what does not depend on the run
abbrev pub apart : PlansFrom → Plans
apart 𝓟 = over 𝓟 []

module _ (𝓟 : PlansFrom) (N : Width) where
  abbrev pub ended : Ended
  ended = bend (R (apart 𝓟)) (UInt N) (plain (λ _. P (apart 𝓟)) ∷ []) (plain (λ _. Nothing)) (yes, tt)

  abbrev pub signature : Signature
  signature = ended.signature

  abbrev stayed : Stays ended.signature.params ended.kept
  stayed = (gave_slice (0 ∷ []) tt (plain (λ _. R (apart 𝓟))), (stay_none_slice (1 ∷ []) tt (plain (λ _. UInt N)) yes, (stay_none (λ _. P (apart 𝓟)) yes, tt)))

  -- the locals: the result, list, run, plan, the batch, at, n, what `fill` returns, and what is lent to it
  abbrev pub function : Callee → Callee → Callee → Callee → Fn
  function batch-of at_of n-of fill = record {
    lifetimes = 2;
    outlives = [];
    ty_params = [];
    givens = 0;
    params = 3;
    locals = local ty_unit value_local ∷ local (slice 𝓟.kinds) value_local ∷ local (numbers N) value_local ∷ local 𝓟.Pl.ty value_local ∷ local (Bt (apart 𝓟)).ty value_local ∷ local word value_local ∷ local word value_local ∷ local ty_unit value_local
        ∷ local (lent_ref (apart 𝓟)) value_local ∷ local (slice_ty (lent_ref (apart 𝓟))) value_local ∷ [];
    body = seq (call batch-of (copy (place 3 []) ∷ []) (place 4 []))
        (seq (call at_of (copy (place 4 []) ∷ []) (place 5 []))
        (seq (call n-of (copy (place 4 []) ∷ []) (place 6 []))
        (seq (assign (place 8 []) (addr_of (place 1 (field 0 ∷ deref 𝓟.kinds.R.ty ∷ []))))
        (seq (assign (place 9 []) (aggregate (copy (place 8 []) ∷ copy (place 1 (field 1 ∷ [])) ∷ [])))
        (seq (call fill (copy (place 9 []) ∷ copy (place 2 []) ∷ copy (place 5 []) ∷ copy (place 6 []) ∷ copy (place 4 []) ∷ []) (place 7 []))
        (seq (assign (place 0 []) (rv_opd opd_unit)) return))))));
  }

  module _ {M : Type 1} (𝓤 : Ura M) where
    -- `requires { ⌜ Fits plan (length (now list)) ⌝ }    ensures { λ _. ⌜ now list.exit ≡ written plan (now list.entry) ⌝ }`, with both written out, at the run
    abbrev pub clauses : Clauses 𝓤 ended
    clauses κs a =
        record {
          ghost = Unit {0};
          requires = λ _. fact 𝓤 (Fits (over 𝓟 a.1.0.now) a.1.1.0 (length a.0.now));
          ensures = λ _ r e. fact 𝓤 (e.0.now ≡ written (over 𝓟 a.1.0.now) a.1.1.0 a.0.now);
        }

    abbrev fill_clauses : Clauses 𝓤 (filling.ended 𝓟.kinds N)
    fill_clauses = filling.clauses 𝓟.kinds N 𝓟.Allowed 𝓟.command_at 𝓤

    module _ (𝓛 : Logic 𝓤) where
      abbrev pub record_contract : Contract 𝓤
      record_contract = triple_of 𝓛 signature (closing 𝓛 ended clauses)

      abbrev pub fill_contract : Contract 𝓤
      fill_contract = triple_of 𝓛 (filling.signature 𝓟.kinds N) (closing 𝓛 (filling.ended 𝓟.kinds N) fill_clauses)

module _ (𝓟 : PlansFrom) (N : Width) (batch-of at_of n-of fill : Callee) {M : Type 1} {𝓤 : Ura M} (𝓛 : Logic 𝓤) (𝓣 : Tables 𝓤 𝓛.H)
    (known-batch : Triple 𝓤 (𝓣.C batch-of) (of_contract 𝓟.Pl (Bt (apart 𝓟)) 𝓟.batch 𝓤 𝓛)) (known_at_lem : Triple 𝓤 (𝓣.C at_of) (of_contract (Bt (apart 𝓟)) (uint w64) 𝓟.at 𝓤 𝓛)) (known-n : Triple 𝓤 (𝓣.C n-of) (of_contract (Bt (apart 𝓟)) (uint w64) 𝓟.n 𝓤 𝓛))
    (known-fill : Triple 𝓤 (𝓣.C fill) (fill_contract 𝓟 N 𝓤 𝓛)) where
  open 𝓛 use {H}

  abbrev 𝓑 : Datum
  𝓑 = 𝓟.kinds.P

  abbrev X : Type 0
  X = Elem (apart 𝓟)

  module _ (κ κ' : Lft) (q q' : Share) (b o : ℕ) (γ : GName) (ys : List X) (b' o' : ℕ) (ns : List ℕ) (p : 𝓟.Pl.D) where
    abbrev x : MutBor (List X)
    x = record { ref_ptr = (b, o); ghost_name = γ; now = ys }

    abbrev x' : Bor (List ℕ)
    x' = record { ref_ptr = (b', o'); now = ns }

    abbrev s : Val
    s = slice_val (b, o) (length ys)

    abbrev s' : Val
    s' = slice_val (b', o') (length ns)

    abbrev v : Val
    v = 𝓟.Pl.val p

    abbrev a : MutBor (List X) × (Bor (List ℕ) × (𝓟.Pl.D × Unit {0}))
    a = (x, (x', (p, tt)))

    abbrev vals : List Val × (List Val × (List Val × Unit {0}))
    vals = (s ∷ [], (s' ∷ [], (v ∷ [], tt)))

    -- what the run owns
    abbrev Run : Item 𝓤
    Run = ‵ ((ShrSlice (named 1) κ' (UInt N)).own_val x' (s' ∷ []))

    abbrev Post : Val → SProp 𝓤
    Post = (walk_of 𝓛 (ended 𝓟 N) (stayed 𝓟 N) (clauses 𝓟 N 𝓤)).post (((κ, (κ', tt)), (q, (q', tt)), tt, a, vals), tt)

    module _ (room : Room (R (apart 𝓟)) (length ys)) (room' : Room (UInt N) (length ns)) (g : Is (P (apart 𝓟)) p (v ∷ [])) (fits : Fits (over 𝓟 ns) p (length ys)) where
      exits : (zs : List X) → length zs ≡ length ys → zs ≡ written (over 𝓟 ns) p ys → ent 𝓤 (⋆ 𝓛 (‵ (flft κ q) ∷ ‵ (flft κ' q') ∷ ‵ (gave (R (apart 𝓟)) κ x zs) ∷ Run ∷ [])) (Post vunit)
      exits zs l e =
          qed 𝓛 (‵ (flft κ q) ∷ ‵ (flft κ' q') ∷ ‵ (gave (R (apart 𝓟)) κ x zs) ∷ Run ∷ []) ∵
          suffices ! _ (ends_at 𝓛 (ended 𝓟 N) (stayed 𝓟 N) (clauses 𝓟 N 𝓤) (((κ, (κ', tt)), (q, (q', tt)), tt, a, vals), tt) vunit tt (zs, (tt, (tt, tt))) (l, (tt, (tt, tt)))) $ says ! e $
          nothing ! $ move ! (2 ∷ 0 ∷ []) $ join ! $ move ! (1 ∷ 0 ∷ []) $ join ! $ frame ! $
          nothing ! $ owned ! (P (apart 𝓟)) (Is (P (apart 𝓟))) (𝓟.Pl.makes 𝓛) p _ g $ fjoin ! $ move ! (2 ∷ 0 ∷ []) $ fjoin ! $ move ! (1 ∷ 0 ∷ []) $ fjoin ! $ frame ! $
          feq_i ! (List Val) (vunit ∷ []) (vunit ∷ []) refl $ done !

      walk : ent 𝓤 (on_entry 𝓛 (signature 𝓟 N) (κ, (κ', tt)) (q, (q', tt)) a vals) (WpFn 𝓤 H 𝓣.C 𝓣.Λ (function 𝓟 N batch-of at_of n-of fill) (s ∷ s' ∷ v ∷ []) Post)
      walk =
          qed 𝓛 ((‵ (flft κ q) ⊛ (‵ (flft κ' q') ⊛ ‵ ftrue)) ∷ ‵ (owns (MutSlice (named 0) κ (R (apart 𝓟)) ∷ ShrSlice (named 1) κ' (UInt N) ∷ P (apart 𝓟) ∷ []) a vals) ∷ []) ∵ enter ! 𝓣.C 𝓣.Λ (function 𝓟 N batch-of at_of n-of fill) (s ∷ s' ∷ v ∷ []) _ $
          alloc1 ! (λ l₀. alloc1 ! (λ l₁. alloc1 ! (λ l₂. alloc1 ! (λ l₃. alloc1 ! (λ l₄. alloc1 ! (λ l₅. alloc1 ! (λ l₆. alloc1 ! (λ l₇. alloc1 ! (λ l₈. alloc1 ! (λ l₉. alloc0 ! $ params1 ! $
          pass1 ! (init ! 16 refl (tt, (tt, (record { fits = room.0 }, tt)))) $ pass1 ! (init ! 14 refl (tt, (tt, (record { fits = room'.0 }, tt)))) $ pass1 ! (init ! 12 refl (𝓟.Pl.typed 𝓛 p _ g)) $ pass0 ! $
          calls-plain ! (fm_of 𝓤 H 𝓛.laws 𝓣) (plain (λ _. P (apart 𝓟)) ∷ []) (plain (λ _. row 𝓑)) (yes, tt) (of_clauses 𝓟.Pl 𝓑 𝓟.batch 𝓤) known-batch
          (𝓟.Pl.makes 𝓛, tt) (p, tt) (v ∷ [], tt) (g, tt) tt (id⊢ 𝓤 (emp 𝓤)) (λ r. r ≡ 𝓟.batch p) (λ r ws. id⊢ 𝓤 _)
          (and_then ! (load ! (from ! (stop !)) (look ! 13 refl)) (no_more !)) (λ bt ub is_b e-b. land ! (from ! (stop !)) (init ! 10 refl (𝓑.typed 𝓛 bt _ is_b)) $
          calls-plain ! (fm_of 𝓤 H 𝓛.laws 𝓣) (plain (λ _. row 𝓑) ∷ []) (plain (λ _. usize)) (yes, tt) (of_clauses 𝓑 (uint w64) 𝓟.at 𝓤) known_at_lem
          (𝓑.makes 𝓛, tt) (bt, tt) (ub ∷ [], tt) (is_b, tt) tt (id⊢ 𝓤 (emp 𝓤)) (λ r. r ≡ 𝓟.at bt) (λ r ws. id⊢ 𝓤 _)
          (and_then ! (load ! (from ! (stop !)) (look ! 11 refl)) (no_more !)) (λ i u is-i e-i. land ! (from ! (stop !)) (init ! 8 refl ((uint_Lawful 𝓛 w64).typed i _ is-i).0) $
          calls-plain ! (fm_of 𝓤 H 𝓛.laws 𝓣) (plain (λ _. row 𝓑) ∷ []) (plain (λ _. usize)) (yes, tt) (of_clauses 𝓑 (uint w64) 𝓟.n 𝓤) known-n
          (𝓑.makes 𝓛, tt) (bt, tt) (ub ∷ [], tt) (is_b, tt) tt (id⊢ 𝓤 (emp 𝓤)) (λ r. r ≡ 𝓟.n bt) (λ r ws. id⊢ 𝓤 _)
          (and_then ! (load ! (from ! (stop !)) (look ! 11 refl)) (no_more !)) (λ n u' is-n e-n. land ! (from ! (stop !)) (init ! 6 refl ((uint_Lawful 𝓛 w64).typed n _ is-n).0) $
          assigns ! (addr ! (from ! (fld ! refl (hop ! (look_in ! 16 (sub ! 0 refl (whole !))) (stop !))))) (from ! (stop !)) (init ! 2 refl (tt, tt)) $
          assigns ! (agg ! (and_then ! (load ! (from ! (stop !)) (look ! 2 refl)) (and_then ! (load ! (from ! (fld ! refl (stop !))) (look_in ! 16 (sub ! 1 refl (whole !)))) (no_more !)))) (from ! (stop !)) (init ! 0 refl (tt, (tt, (record { fits = room.0 }, tt)))) $
          -- what list and run own is taken out, the run's twice, with the two tokens
          move ! (21 ∷ []) $ fsplit ! $ move ! (1 ∷ []) $ fsplit ! $ move ! (1 ∷ []) $ drop ! $ use1 𝓛 (Run ⊛ Run) ((shr_slice_copy 𝓛 (named 1) κ' (UInt N) (uint_row_laws N)).twice x' (s' ∷ [])) $ split ! $
          move ! (23 ∷ []) $ split ! $ move ! (1 ∷ []) $ split ! $ move ! (1 ∷ []) $ drop ! $ move ! (1 ∷ 0 ∷ 4 ∷ 2 ∷ []) $
          -- [the token; the run's token; list; run; run; _9; …; _8; …; .. ; room for _0; …]
          calls-both ! (fm_of 𝓤 H 𝓛.laws 𝓣) (R (apart 𝓟)) (UInt N) (plain (λ _. usize) ∷ plain (λ _. usize) ∷ plain (λ _. row 𝓑) ∷ []) (filling.signature 𝓟.kinds N).result (yes, (yes, (yes, tt))) (fill_clauses 𝓟 N 𝓤) known-fill κ κ' q q'
          (uint_Makes 𝓛 w64, (uint_Makes 𝓛 w64, (𝓑.makes 𝓛, tt))) (named 0) (named 1) x s x' s' (i, (n, (bt, tt))) (u ∷ [], (u' ∷ [], (ub ∷ [], tt))) (is-i, (is-n, (is_b, tt))) tt
          (fact_i 𝓤 _ (emp 𝓤) (asked (over 𝓟 ns) p bt i n e-b e-i e-n (length ys) fits))
          (λ _ zs. zs ≡ filled (λ j. 𝓟.kinds.wrap (𝓟.command_at ns bt j)) ys i n) (λ r ws. id⊢ 𝓤 _)
          (and_then ! (load ! (from ! (stop !)) (look ! 2 refl)) (and_then ! (load ! (from ! (stop !)) (look ! 16 refl)) (and_then ! (load ! (from ! (stop !)) (look ! 10 refl)) (and_then ! (load ! (from ! (stop !)) (look ! 8 refl)) (and_then ! (load ! (from ! (stop !)) (look ! 12 refl)) (no_more !)))))) (λ r w zs is l e.
          -- [the token; the run's token; the last list; run; _9; …; _8; …; .. ; room for _0; …]
          land ! (from ! (stop !)) (init ! 8 refl ((Nothing-Lawful 𝓛).typed r _ is).0) $
          assigns ! (of_opd ! (unit_lit !)) (from ! (stop !)) (init ! 22 refl (tt, tt)) $
          returns ! (look ! 22 refl) $ forget ! 4 refl $ forget ! 6 refl $ forget ! 8 refl $ forget ! 10 refl $ forget ! 12 refl $ forget ! 14 refl $ forget ! 16 refl $ forget ! 18 refl $ forget ! 20 refl $ forget ! 22 refl $
          move ! (22 ∷ 23 ∷ []) $ free1 ! $ move ! (20 ∷ 21 ∷ []) $ free1 ! $ move ! (18 ∷ 19 ∷ []) $ free1 ! $ move ! (16 ∷ 17 ∷ []) $ free1 ! $ move ! (14 ∷ 15 ∷ []) $ free1 ! $
          move ! (12 ∷ 13 ∷ []) $ free1 ! $ move ! (10 ∷ 11 ∷ []) $ free1 ! $ move ! (8 ∷ 9 ∷ []) $ free1 ! $ move ! (6 ∷ 7 ∷ []) $ free1 ! $ move ! (4 ∷ 5 ∷ []) $ free1 ! $ free0 ! $
          by ! (exits zs l (e ∙ wrote (over 𝓟 ns) p bt i n e-b e-i e-n ys))))))))))))))))

  walks : Walks 𝓛 (ended 𝓟 N) (stayed 𝓟 N) (WpFn 𝓤 H 𝓣.C 𝓣.Λ (function 𝓟 N batch-of at_of n-of fill)) (clauses 𝓟 N 𝓤)
  walks = walked 𝓛 (ended 𝓟 N) (stayed 𝓟 N) (clauses 𝓟 N 𝓤) (WpFn 𝓤 H 𝓣.C 𝓣.Λ (function 𝓟 N batch-of at_of n-of fill))
      (λ κs. (mut_slice_vals, (shr_slice_vals, ((λ p. 𝓟.Pl.val p ∷ []), tt)))) (λ κs. (mut_slice_Tells (named 0) κs.0 (R (apart 𝓟)), (shr_slice_Tells (named 1) κs.1.0 (UInt N), (𝓟.Pl.tells, tt))))
      (λ κs qs bounds a g are. needs 𝓤 (Fits (over 𝓟 a.1.0.now) a.1.1.0 (length a.0.now)) _
      (λ fits. walk κs.0 κs.1.0 qs.0 qs.1.0 a.0.ref_ptr.0 a.0.ref_ptr.1 a.0.ghost_name a.0.now a.1.0.ref_ptr.0 a.1.0.ref_ptr.1 a.1.0.now a.1.1.0 are.0.0.1 are.1.0.0.1 are.1.1.0 fits))

  meets : Meets 𝓛 (signature 𝓟 N) (WpFn 𝓤 H 𝓣.C 𝓣.Λ (function 𝓟 N batch-of at_of n-of fill)) (closing 𝓛 (ended 𝓟 N) (clauses 𝓟 N 𝓤))
  meets = walk_Meets 𝓛 (ended 𝓟 N) (stayed 𝓟 N) (Goes-gave_slice 𝓛 2 0 tt (plain (λ _. R (apart 𝓟))), (Goes-none_slice 𝓛 2 (1 ∷ []) tt (plain (λ _. UInt N)) yes, (Goes-none 𝓛 2 (λ _. P (apart 𝓟)) yes (λ κs x f. refl), tt))) (clauses 𝓟 N 𝓤)
      (WpFn 𝓤 H 𝓣.C 𝓣.Λ (function 𝓟 N batch-of at_of n-of fill)) (WpFn-mono 𝓤 H 𝓛.laws 𝓣 (function 𝓟 N batch-of at_of n-of fill)) walks

-- what the proof of such a `record` cites
pub records-plan-from : (𝓟 : PlansFrom) (N : Width) {M : Type 1} {𝓤 : Ura M} (𝓛 : Logic 𝓤) (𝓜 : Model 𝓤 𝓛.H) (𝓡 : Running 𝓤 𝓛.H 𝓜) (γ : Routines) (k batch-of at_of n-of fill : Callee)
    → Closed 𝓤 𝓛.H (tables 𝓤 𝓛.H 𝓜 𝓡 γ).C (tables 𝓤 𝓛.H 𝓜 𝓡 γ).Λ k (function 𝓟 N batch-of at_of n-of fill)
    → (r₀ : Routine) → γ batch-of ≡ r₀ → Triple 𝓤 (𝓡.run r₀) (of_contract 𝓟.Pl (Bt (apart 𝓟)) 𝓟.batch 𝓤 𝓛)
    → (r₁ : Routine) → γ at_of ≡ r₁ → Triple 𝓤 (𝓡.run r₁) (of_contract (Bt (apart 𝓟)) (uint w64) 𝓟.at 𝓤 𝓛) → (r₂ : Routine) → γ n-of ≡ r₂ → Triple 𝓤 (𝓡.run r₂) (of_contract (Bt (apart 𝓟)) (uint w64) 𝓟.n 𝓤 𝓛)
    → (r₃ : Routine) → γ fill ≡ r₃ → Triple 𝓤 (𝓡.run r₃) (fill_contract 𝓟 N 𝓤 𝓛)
    → Triple 𝓤 (𝓡.run (γ k)) (record_contract 𝓟 N 𝓤 𝓛)
unfolding tables_of
records-plan-from 𝓟 N {𝓤 = 𝓤} 𝓛 𝓜 𝓡 γ k batch-of at_of n-of fill closed r₀ c₀ t₀ r₁ c₁ t₁ r₂ c₂ t₂ r₃ c₃ t₃ =
    entered 𝓤 𝓛.H (record_contract 𝓟 N 𝓤 𝓛) (tables 𝓤 𝓛.H 𝓜 𝓡 γ).C (tables 𝓤 𝓛.H 𝓜 𝓡 γ).Λ k (function 𝓟 N batch-of at_of n-of fill) closed
    (meets 𝓟 N batch-of at_of n-of fill 𝓛 (tables_of 𝓤 𝓛.H 𝓜 (tables 𝓤 𝓛.H 𝓜 𝓡 γ))
    (cited 𝓤 𝓛.H (of_contract 𝓟.Pl (Bt (apart 𝓟)) 𝓟.batch 𝓤 𝓛) 𝓜 𝓡 γ batch-of r₀ c₀ t₀)
    (cited 𝓤 𝓛.H (of_contract (Bt (apart 𝓟)) (uint w64) 𝓟.at 𝓤 𝓛) 𝓜 𝓡 γ at_of r₁ c₁ t₁) (cited 𝓤 𝓛.H (of_contract (Bt (apart 𝓟)) (uint w64) 𝓟.n 𝓤 𝓛) 𝓜 𝓡 γ n-of r₂ c₂ t₂)
    (cited 𝓤 𝓛.H (fill_contract 𝓟 N 𝓤 𝓛) 𝓜 𝓡 γ fill r₃ c₃ t₃))
