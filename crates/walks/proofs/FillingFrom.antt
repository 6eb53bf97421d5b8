-- Every function of the form
--     fn fill(list: &mut [R], run: &[uN], at: usize, n: usize, plan: P) { let mut i: usize = 0; while i < n { let c = command_at(run, plan, i); list[at + i] = R { field: c }; i += 1; } }
-- where `command_at` asks `Allowed run plan i` and ensures `r ≡ command_at run plan i`: its MIR (`function`) meets the contract that asks that the commands fit and are allowed, and says that they are written. As `Filling.antt`, with a run of numbers that the commands are read from.
-- Assumes `Logic`, and that `command_at` meets its contract.
use mathlib.Core.Path.{◌≡◌, refl, sym, ap, subst}
use mathlib.Core.Logic.{⊎_elim}
use mathlib.Core.Bool.{Bool}
use Prim.Native.Nat.{ℕ, ◌<◌, ◌≤◌, ◌^◌, ◌+◌, zero-le}
use native.Mathlib.Nat.{eq-or-lt_of_le}
use native.Mathlib.Omega.{arith}
use borrow.Author.Tests.{lt-ltb, le-ltb}
use lib.Dec.{lit<, T as Holds}
use mathlib.Core.List.{[], ◌∷◌, List}
use lib.ListN.{length}
use seplogic.Ra.Ura.{Ura}
use base.Fraction.{full_share}
use mir.Syntax.{Callee, Fn, Width, named, w64, unsigned, ty_bool, ty_ptr, ty_unit, Body, field, deref, place, copy, int, local, value_local, skip as skipᴹ, seq, assign, call, block, loop, cond, exit, rv_opd, op2, add, mul, lt, offset, aggregate}
use mir.Val.{Val, vunit, vint, vptr, vbool, has_ty, WT}
use base.Logic.{SProp, ent, emp, id⊢}
use base.Fml.{Lft, Share, GName, ftrue, fat, froom, fdies, flft, fobs, fauth, fbor, fobor}
use prog.Routine.{Routine, Env as Routines}
use prog.Model.{Model}
use prog.Wp.{Env, WpFn, Closed, Tables, after_turn}
use types.Logic.{Logic}
use contract.Monad.{fact, fact_i}
use contract.Running.{Running, tables, tables_of}
use types.Kit.{Item, ‵, ◌⊛◌, ⋆, at_ret, ◌$◌, ◌∵◌, !, qed, by, move, keep, drop, use1, split, join, rewrite, fsplit, fjoin, feq_i, suffices, frame, done}
use types.Run.{look, init, store, store_raw, forget, stop, hop, fld, from, load, lit, unit_lit, of_opd, and_then, no_more, bin, assigns, assigns_last, land, first, blocks, stays, leaves_loop, exec, again, loops, returns, enter, alloc1, alloc0, params1, pass1, pass0, free1, free0}
use types.Part.{agg, whole, sub, look_in}
use sound.WpLaws.{fm_of, WpFn-mono}
use denote.RattleType.{RattleType, owns}
use denote.Shadow.{shadow, pure_i}
use denote.Laws.{Is, shows}
use denote.Plain.{uint_row_laws, Nothing, UInt, uint_vals, uint_Tells, uint_Makes}
use denote.Builtin.{usize}
use denote.Ref.{Bor, MutBor}
use denote.Slice.{slice_val, MutSlice, ShrSlice, Room, heres, coded_holeys, mut_slice_at, shr_slice_vals, mut_slice_vals, mut_slice_Tells, shr_slice_Tells, shr_slice_copy}
use denote.Lend.{Held}
use denote.Index.{row as cells-row, elem_out, elem_put, opens_slice, closes_slice}
use denote.Steps.{only, owned, nothing}
use denote.Triple.Entry.{on_entry}
use denote.Triple.Spec.{Meets, triple_of}
use denote.Triple.Statement.{Triple}
use denote.Triple.Clauses.{Ended, Clauses, closing}
use denote.Triple.Table.{entered, cited}
use denote.Triple.Walked.{says, needs, Stays, stay_slice, stay_none, stay_none_slice, walk_of, Goes-slice, Goes-none, Goes-none_slice, Walks, ends_at, walked, walk_Meets}
use denote.Exit.{yes}
use denote.Signature.{Signature, Slot, plain}
use Rattle.walks.specs.Fill.{filled}
use Rattle.walks.proofs.Args.{row}
use Rattle.walks.proofs.Slices.{numbers, rend, bend, calls-reads}
use Rattle.walks.proofs.Filled.{filled-length, filled_more, filled_none, filled_within}
use Rattle.walks.proofs.Filling.{Kinds, word, slice, rest, Upto, Nearer, Nearer-wf, next, sum_fits, place-fits, place_of, made, typed}

module _ (𝓚 : Kinds) (N : Width) where
  abbrev pub ended : Ended
  ended = bend (row 𝓚.R) (UInt N) (plain (λ _. usize) ∷ plain (λ _. usize) ∷ plain (λ _. row 𝓚.P) ∷ []) (plain (λ _. Nothing)) (yes, (yes, (yes, tt)))

  abbrev pub signature : Signature
  signature = ended.signature

  abbrev stayed : Stays ended.signature.params ended.kept
  stayed = (stay_slice (0 ∷ []) tt (plain (λ _. row 𝓚.R)), (stay_none_slice (1 ∷ []) tt (plain (λ _. UInt N)) yes, (stay_none (λ _. usize) yes, (stay_none (λ _. usize) yes, (stay_none (λ _. row 𝓚.P) yes, tt)))))

  abbrev command_params : List (Slot 1)
  command_params = plain (λ _. row 𝓚.P) ∷ plain (λ _. usize) ∷ []

  abbrev pub command_ended : Ended
  command_ended = rend (UInt N) command_params (plain (λ _. row 𝓚.C)) (yes, (yes, tt))

  abbrev pub command_signature : Signature
  command_signature = command_ended.signature

  -- a turn, after its test
  abbrev more : Callee → Body
  more f = seq (call f (copy (place 2 []) ∷ copy (place 5 []) ∷ copy (place 6 []) ∷ []) (place 7 []))
      (seq (assign (place 9 []) (aggregate (copy (place 7 []) ∷ [])))
      (seq (assign (place 10 []) (op2 (add unsigned) (copy (place 3 [])) (copy (place 6 []))))
      (seq (assign (place 11 []) (op2 (mul unsigned) (copy (place 10 [])) (int w64 𝓚.bytes)))
      (seq (assign (place 12 []) (op2 offset (copy (place 1 (field 0 ∷ []))) (copy (place 11 []))))
      (seq (assign (place 12 (deref 𝓚.R.ty ∷ [])) (rv_opd (copy (place 9 []))))
      (assign (place 6 []) (op2 (add unsigned) (copy (place 6 [])) (int w64 1))))))))

  -- the locals: the result, list, run, at, n, plan, i, c, the test, the element, at + i, its bytes, and its place
  abbrev pub function : Callee → Fn
  function f = record {
    lifetimes = 2;
    outlives = [];
    ty_params = [];
    givens = 0;
    params = 5;
    locals = local ty_unit value_local ∷ local (slice 𝓚) value_local ∷ local (numbers N) value_local ∷ local word value_local ∷ local word value_local ∷ local 𝓚.P.ty value_local ∷ local word value_local
        ∷ local 𝓚.C.ty value_local ∷ local ty_bool value_local ∷ local 𝓚.R.ty value_local ∷ local word value_local ∷ local word value_local ∷ local ty_ptr value_local ∷ [];
    body = seq (assign (place 6 []) (rv_opd (int w64 0)))
        (seq (block (loop (seq (assign (place 8 []) (op2 (lt unsigned) (copy (place 6 [])) (copy (place 4 [])))) (seq (cond (copy (place 8 [])) skipᴹ (exit 1)) (more f))))) (rest 𝓚));
  }

  module _ (Allowed : List ℕ → 𝓚.P.D → ℕ → Type 0) (command_at : List ℕ → 𝓚.P.D → ℕ → 𝓚.C.D) {M : Type 1} (𝓤 : Ura M) where
    -- `requires { ⌜ (at + n ≤ length (now list)) × ((i : ℕ) → i < n → Allowed (now run) plan i) ⌝ }    ensures { λ _. ⌜ now list.exit ≡ filled (λ i. wrap (command_at (now run.entry) plan i)) (now list.entry) at n ⌝ }`
    abbrev pub clauses : Clauses 𝓤 ended
    clauses κs a =
        record {
          ghost = Unit {0};
          requires = λ _. fact 𝓤 ((a.1.1.0 + a.1.1.1.0 ≤ length a.0.now) × ((i : ℕ) → i < a.1.1.1.0 → Allowed a.1.0.now a.1.1.1.1.0 i));
          ensures = λ _ r e. fact 𝓤 (e.0.now ≡ filled (λ i. 𝓚.wrap (command_at a.1.0.now a.1.1.1.1.0 i)) a.0.now a.1.1.0 a.1.1.1.0);
        }

    -- `requires { ⌜ Allowed (now run) plan i ⌝ }    ensures { λ r. ⌜ r ≡ command_at (now run.entry) plan i ⌝ }`
    abbrev pub command_clauses : Clauses 𝓤 command_ended
    command_clauses κs a = record { ghost = Unit {0}; requires = λ _. fact 𝓤 (Allowed a.0.now a.1.0 a.1.1.0); ensures = λ _ r e. fact 𝓤 (r ≡ command_at a.0.now a.1.0 a.1.1.0) }

module _ (𝓚 : Kinds) (N : Width) (Allowed : List ℕ → 𝓚.P.D → ℕ → Type 0) (command_at : List ℕ → 𝓚.P.D → ℕ → 𝓚.C.D) (f : Callee) {M : Type 1} {𝓤 : Ura M} (𝓛 : Logic 𝓤) where
  open 𝓛 use {H}

  abbrev X : Type 0
  X = 𝓚.R.D

  abbrev R : RattleType
  R = row 𝓚.R

  abbrev rvals : X → List Val
  rvals y = 𝓚.R.val y ∷ []

  module _ (κ κ' : Lft) (q q' : Share) (b o : ℕ) (γ : GName) (ys : List X) (b' o' : ℕ) (ns : List ℕ) (at n : ℕ) (p : 𝓚.P.D) where
    abbrev x : List X → MutBor (List X)
    x l = record { ref_ptr = (b, o); ghost_name = γ; now = l }

    abbrev x' : Bor (List ℕ)
    x' = record { ref_ptr = (b', o'); now = ns }

    abbrev s : Val
    s = slice_val (b, o) (length ys)

    abbrev s' : Val
    s' = slice_val (b', o') (length ns)

    abbrev v : Val
    v = 𝓚.P.val p

    abbrev a : MutBor (List X) × (Bor (List ℕ) × (ℕ × (ℕ × (𝓚.P.D × Unit {0}))))
    a = (x ys, (x', (at, (n, (p, tt)))))

    abbrev vals : List Val × (List Val × (List Val × (List Val × (List Val × Unit {0}))))
    vals = (s ∷ [], (s' ∷ [], (vint w64 at ∷ [], (vint w64 n ∷ [], (v ∷ [], tt)))))

    abbrev record_at : ℕ → X
    record_at i = 𝓚.wrap (command_at ns p i)

    -- the list with i commands written
    abbrev zs : ℕ → List X
    zs i = filled record_at ys at i

    same : (i : ℕ) → length (zs i) ≡ length ys
    same i = filled-length record_at ys at i

    -- what the run owns
    abbrev Run : Item 𝓤
    Run = ‵ ((ShrSlice (named 1) κ' (UInt N)).own_val x' (s' ∷ []))

    abbrev Post : Val → SProp 𝓤
    Post = (walk_of 𝓛 (ended 𝓚 N) (stayed 𝓚 N) (clauses 𝓚 N Allowed command_at 𝓤)).post (((κ, (κ', tt)), (q, (q', tt)), tt, a, vals), tt)

    module _ (room : Room R (length ys)) (room' : Room (UInt N) (length ns)) (at-fits : at < 2 ^ 64) (n-fits : n < 2 ^ 64) (g : shadow (𝓚.P.own p (v ∷ []))) (within : at + n ≤ length ys) (may : (i : ℕ) → i < n → Allowed ns p i) where
      exits : ent 𝓤 (⋆ 𝓛 (‵ (fobs γ ((coded_holeys R).code (heres R (zs n)))) ∷ ‵ (fbor κ (Held R (length (zs n)) b o γ)) ∷ ‵ (flft κ q) ∷ ‵ (flft κ' q') ∷ Run ∷ [])) (Post vunit)
      exits =
          qed 𝓛 (‵ (fobs γ ((coded_holeys R).code (heres R (zs n)))) ∷ ‵ (fbor κ (Held R (length (zs n)) b o γ)) ∷ ‵ (flft κ q) ∷ ‵ (flft κ' q') ∷ Run ∷ []) ∵
          suffices ! _ (ends_at 𝓛 (ended 𝓚 N) (stayed 𝓚 N) (clauses 𝓚 N Allowed command_at 𝓤) (((κ, (κ', tt)), (q, (q', tt)), tt, a, vals), tt) vunit tt (zs n, (tt, (tt, (tt, (tt, tt))))) (same n, (tt, (tt, (tt, (tt, tt)))))) $ says ! refl $
          nothing ! $ move ! (4 ∷ 0 ∷ []) $ join ! $ move ! (3 ∷ 0 ∷ []) $ join ! $ frame ! $
          fjoin ! $ pure_i ! (mut_slice_at R (x (zs n)) (s ∷ [])) (tt, (tt, tt)) (ap (λ (m : ℕ). slice_val (b, o) m ∷ []) (sym (same n)), subst (Room R) (sym (same n)) room) $ fjoin ! $
          nothing ! $ owned ! (row 𝓚.P) (Is (row 𝓚.P)) (𝓚.P.makes 𝓛) p _ g $ fjoin ! $ owned ! usize (Is usize) (uint_Makes 𝓛 w64) n _ (refl, n-fits) $ fjoin ! $ owned ! usize (Is usize) (uint_Makes 𝓛 w64) at _ (refl, at-fits) $ fjoin ! $
          move ! (2 ∷ 0 ∷ []) $ fjoin ! $ move ! (1 ∷ 0 ∷ []) $ fjoin ! $ feq_i ! (List Val) (vunit ∷ []) (vunit ∷ []) refl $ move ! (1 ∷ 0 ∷ []) $ done !

      module _ (l₀ l₁ l₂ l₃ l₄ l₅ l₆ l₇ l₈ l₉ l₁₀ l₁₁ l₁₂ : ℕ) where
        abbrev En : Env 𝓤 H
        En = (ty_unit, l₀) ∷ (slice 𝓚, l₁) ∷ (numbers N, l₂) ∷ (word, l₃) ∷ (word, l₄) ∷ (𝓚.P.ty, l₅) ∷ (word, l₆) ∷ (𝓚.C.ty, l₇) ∷ (ty_bool, l₈) ∷ (𝓚.R.ty, l₉) ∷ (word, l₁₀) ∷ (word, l₁₁) ∷ (ty_ptr, l₁₂) ∷ []

        abbrev At : Upto n → List (Item 𝓤)
        At i = ‵ (cells-row R full_share (zs i.0) b o) ∷ ‵ (fobor κ q (Held R (length ys) b o γ)) ∷ ‵ (fobs γ ((coded_holeys R).code (heres R ys))) ∷ ‵ (fauth γ ((coded_holeys R).code (heres R ys))) ∷ ‵ (flft κ' q') ∷ Run
            ∷ ‵ (froom ty_ptr l₁₂ 0) ∷ ‵ (fdies ty_ptr l₁₂) ∷ ‵ (froom word l₁₁ 0) ∷ ‵ (fdies word l₁₁) ∷ ‵ (froom word l₁₀ 0) ∷ ‵ (fdies word l₁₀) ∷ ‵ (froom 𝓚.R.ty l₉ 0) ∷ ‵ (fdies 𝓚.R.ty l₉)
            ∷ ‵ (froom ty_bool l₈ 0) ∷ ‵ (fdies ty_bool l₈) ∷ ‵ (froom 𝓚.C.ty l₇ 0) ∷ ‵ (fdies 𝓚.C.ty l₇) ∷ ‵ (fat full_share word l₆ 0 (vint w64 i.0)) ∷ ‵ (fdies word l₆)
            ∷ ‵ (fat full_share 𝓚.P.ty l₅ 0 v) ∷ ‵ (fdies 𝓚.P.ty l₅) ∷ ‵ (fat full_share word l₄ 0 (vint w64 n)) ∷ ‵ (fdies word l₄) ∷ ‵ (fat full_share word l₃ 0 (vint w64 at)) ∷ ‵ (fdies word l₃)
            ∷ ‵ (fat full_share (numbers N) l₂ 0 s') ∷ ‵ (fdies (numbers N) l₂) ∷ ‵ (fat full_share (slice 𝓚) l₁ 0 s) ∷ ‵ (fdies (slice 𝓚) l₁) ∷ ‵ (froom ty_unit l₀ 0) ∷ ‵ (fdies ty_unit l₀) ∷ []

      module _ (𝓣 : Tables 𝓤 H) (known : Triple 𝓤 (𝓣.C f) (triple_of 𝓛 (command_signature 𝓚 N) (closing 𝓛 (command_ended 𝓚 N) (command_clauses 𝓚 N Allowed command_at 𝓤)))) where
        walk : ent 𝓤 (on_entry 𝓛 (signature 𝓚 N) (κ, (κ', tt)) (q, (q', tt)) a vals) (WpFn 𝓤 H 𝓣.C 𝓣.Λ (function 𝓚 N f) (s ∷ s' ∷ vint w64 at ∷ vint w64 n ∷ v ∷ []) Post)
        unfolding after_turn
        walk =
            qed 𝓛 ((‵ (flft κ q) ⊛ (‵ (flft κ' q') ⊛ ‵ ftrue)) ∷ ‵ (owns (MutSlice (named 0) κ R ∷ ShrSlice (named 1) κ' (UInt N) ∷ usize ∷ usize ∷ row 𝓚.P ∷ []) a vals) ∷ []) ∵ enter ! 𝓣.C 𝓣.Λ (function 𝓚 N f) (s ∷ s' ∷ vint w64 at ∷ vint w64 n ∷ v ∷ []) _ $
            alloc1 ! (λ l₀. alloc1 ! (λ l₁. alloc1 ! (λ l₂. alloc1 ! (λ l₃. alloc1 ! (λ l₄. alloc1 ! (λ l₅. alloc1 ! (λ l₆. alloc1 ! (λ l₇. alloc1 ! (λ l₈. alloc1 ! (λ l₉. alloc1 ! (λ l₁₀. alloc1 ! (λ l₁₁. alloc1 ! (λ l₁₂. alloc0 ! $ params1 ! $
            pass1 ! (init ! 22 refl (tt, (tt, (record { fits = room.0 }, tt)))) $ pass1 ! (init ! 20 refl (tt, (tt, (record { fits = room'.0 }, tt)))) $ pass1 ! (init ! 18 refl (tt, record { fits = at-fits })) $ pass1 ! (init ! 16 refl (tt, record { fits = n-fits })) $ pass1 ! (init ! 14 refl (𝓚.P.typed 𝓛 p _ g)) $ pass0 ! $
            assigns ! (of_opd ! (lit ! tt)) (from ! (stop !)) (init ! 12 refl (tt, record { fits = lit< tt })) $
            -- the borrow is opened, and what the run owns is taken out, with its token
            move ! (27 ∷ []) $ fsplit ! $ fsplit ! $ drop ! $ fsplit ! $ move ! (29 ∷ []) $ split ! $ move ! (2 ∷ 3 ∷ 0 ∷ []) $ opens_slice ! tt R ys b o $
            rewrite ! 0 (λ (l : List X). ‵ (cells-row R full_share l b o)) (sym (filled_none record_at ys at)) refl $
            move ! (4 ∷ []) $ split ! $ move ! (6 ∷ []) $ fsplit ! $
            keep ! (4 ∷ 5 ∷ 6 ∷ 7 ∷ 2 ∷ 0 ∷ 8 ∷ 9 ∷ 10 ∷ 11 ∷ 12 ∷ 13 ∷ 14 ∷ 15 ∷ 16 ∷ 17 ∷ 18 ∷ 19 ∷ 20 ∷ 21 ∷ 22 ∷ 23 ∷ 24 ∷ 25 ∷ 26 ∷ 27 ∷ 28 ∷ 29 ∷ 30 ∷ 31 ∷ 32 ∷ 33 ∷ []) $
            first ! $ blocks ! $ loops ! 𝓣 (Nearer n) (Nearer-wf n) (At l₀ l₁ l₂ l₃ l₄ l₅ l₆ l₇ l₈ l₉ l₁₀ l₁₁ l₁₂) (λ i.
            -- [row; the open borrow; obs; auth; the run's token; run; _12; …; _11; …; _10; …; _9; …; _8; …; _7; …; _6; …; _5; …; _4; …; _3; …; _2; …; _1; …; _0; …]
            assigns ! (bin ! (load ! (from ! (stop !)) (look ! 18 refl)) (load ! (from ! (stop !)) (look ! 22 refl)) tt) (from ! (stop !)) (init ! 14 refl (tt, tt)) $
            ⊎_elim (λ over.
            rewrite ! 14 (λ (t : Bool). ‵ (fat full_share ty_bool l₈ 0 (vbool t))) (le-ltb i.0 n (omega arith)) refl $
            leaves_loop ! (load ! (from ! (stop !)) (look ! 14 refl)) $ exec ! 𝓣.C 𝓣.Λ (En l₀ l₁ l₂ l₃ l₄ l₅ l₆ l₇ l₈ l₉ l₁₀ l₁₁ l₁₂) (rest 𝓚) (at_ret (En l₀ l₁ l₂ l₃ l₄ l₅ l₆ l₇ l₈ l₉ l₁₀ l₁₁ l₁₂) Post) $
            assigns ! (of_opd ! (unit_lit !)) (from ! (stop !)) (init ! 30 refl (tt, tt)) $
            rewrite ! 0 (λ (l : List X). ‵ (cells-row R full_share l b o)) (ap zs over) refl $ closes_slice ! tt R ys (zs n) (same n) b o $
            -- [obs; the borrow; the token; the run's token; run; _12; …; _11; …; .. _0; …]
            returns ! (look ! 29 refl) $ forget ! 13 refl $ forget ! 17 refl $ forget ! 19 refl $ forget ! 21 refl $ forget ! 23 refl $ forget ! 25 refl $ forget ! 27 refl $ forget ! 29 refl $
            move ! (29 ∷ 30 ∷ []) $ free1 ! $ move ! (27 ∷ 28 ∷ []) $ free1 ! $ move ! (25 ∷ 26 ∷ []) $ free1 ! $ move ! (23 ∷ 24 ∷ []) $ free1 ! $ move ! (21 ∷ 22 ∷ []) $ free1 ! $ move ! (19 ∷ 20 ∷ []) $ free1 ! $ move ! (17 ∷ 18 ∷ []) $ free1 ! $
            move ! (15 ∷ 16 ∷ []) $ free1 ! $ move ! (13 ∷ 14 ∷ []) $ free1 ! $ move ! (11 ∷ 12 ∷ []) $ free1 ! $ move ! (9 ∷ 10 ∷ []) $ free1 ! $ move ! (7 ∷ 8 ∷ []) $ free1 ! $ move ! (5 ∷ 6 ∷ []) $ free1 ! $ free0 ! $
            by ! exits) (λ less.
            rewrite ! 14 (λ (t : Bool). ‵ (fat full_share ty_bool l₈ 0 (vbool t))) (lt-ltb i.0 n less) refl $
            stays ! (load ! (from ! (stop !)) (look ! 14 refl)) $
            -- the run is passed on, and kept
            move ! (5 ∷ []) $ use1 𝓛 (Run ⊛ Run) ((shr_slice_copy 𝓛 (named 1) κ' (UInt N) (uint_row_laws N)).twice x' (s' ∷ [])) $ split ! $ move ! (6 ∷ []) $
            calls-reads ! (fm_of 𝓤 H 𝓛.laws 𝓣) (UInt N) (command_params 𝓚 N) (plain (λ _. row 𝓚.C)) (yes, (yes, tt)) (command_clauses 𝓚 N Allowed command_at 𝓤) known κ' q'
            (𝓚.P.makes 𝓛, (uint_Makes 𝓛 w64, tt)) (named 1) x' s' (p, (i.0, tt)) (v ∷ [], (vint w64 i.0 ∷ [], tt)) (g, ((refl, omega arith), tt)) tt (fact_i 𝓤 _ (emp 𝓤) (may i.0 less))
            (λ r. r ≡ command_at ns p i.0) (λ r ws. id⊢ 𝓤 _)
            (and_then ! (load ! (from ! (stop !)) (look ! 26 refl)) (and_then ! (load ! (from ! (stop !)) (look ! 20 refl)) (and_then ! (load ! (from ! (stop !)) (look ! 18 refl)) (no_more !)))) (λ c u is e.
            move ! (2 ∷ 3 ∷ 4 ∷ 5 ∷ []) $
            land ! (from ! (stop !)) (init ! 16 refl (𝓚.C.typed 𝓛 c _ is)) $
            rewrite ! 16 (λ (w : Val). ‵ (fat full_share 𝓚.C.ty l₇ 0 w)) (ap only (𝓚.C.tells c (u ∷ []) is)) refl $
            assigns ! (agg ! (and_then ! (load ! (from ! (stop !)) (look ! 16 refl)) (no_more !))) (from ! (stop !)) (init ! 12 refl (subst (λ (w : Val). Holds (has_ty 𝓚.R.ty w) × WT w) (𝓚.wrap_val c) (typed 𝓚 c u is 𝓛))) $
            rewrite ! 12 (λ (w : Val). ‵ (fat full_share 𝓚.R.ty l₉ 0 w)) (sym (𝓚.wrap_val c)) refl $
            assigns ! (bin ! (load ! (from ! (stop !)) (look ! 24 refl)) (load ! (from ! (stop !)) (look ! 18 refl)) (record { fits = sum_fits 𝓚 (length ys) at n room within i.0 less })) (from ! (stop !)) (init ! 10 refl (tt, record { fits = sum_fits 𝓚 (length ys) at n room within i.0 less })) $
            assigns ! (bin ! (load ! (from ! (stop !)) (look ! 10 refl)) (lit ! 𝓚.bytes_fit) (record { fits = place-fits 𝓚 (length ys) at n room within i.0 less })) (from ! (stop !)) (init ! 8 refl (tt, record { fits = place-fits 𝓚 (length ys) at n room within i.0 less })) $
            assigns ! (bin ! (load ! (from ! (fld ! refl (stop !))) (look_in ! 28 (sub ! 0 refl (whole !)))) (load ! (from ! (stop !)) (look ! 8 refl)) tt) (from ! (stop !)) (init ! 6 refl (tt, tt)) $
            rewrite ! 6 (λ (m : ℕ). ‵ (fat full_share ty_ptr l₁₂ 0 (vptr b m))) (sym (place_of 𝓚 o (at + i.0))) refl $
            -- the element is taken out of the row, stored to, and put back
            elem_out ! R (Is R) (shows 𝓛 R) rvals 𝓚.R.tells full_share (zs i.0) (at + i.0) (𝓚.wrap c) b o (filled_within record_at ys at n i.0 within less) (λ _.
            assigns ! (of_opd ! (load ! (from ! (stop !)) (look ! 14 refl))) (from ! (hop ! (look ! 8 refl) (stop !))) (store_raw ! 0 refl (typed 𝓚 c u is 𝓛)) $
            move ! (1 ∷ []) $ drop ! $ owned ! R (Is R) (𝓚.R.makes 𝓛) (𝓚.wrap c) _ (made 𝓚 c u is) $ move ! (1 ∷ 0 ∷ []) $
            elem_put ! R full_share (zs i.0) (at + i.0) (𝓚.wrap c) (rvals (𝓚.wrap c)) b o (filled_within record_at ys at n i.0 within less) $
            rewrite ! 0 (λ (l : List X). ‵ (cells-row R full_share l b o)) (filled_more record_at ys at i.0 (𝓚.wrap c) (ap 𝓚.wrap e)) refl $
            assigns_last ! (bin ! (load ! (from ! (stop !)) (look ! 18 refl)) (lit ! tt) (record { fits = omega arith })) (from ! (stop !)) (store ! 18 refl (tt, record { fits = omega arith })) $
            forget ! 6 refl $ forget ! 8 refl $ forget ! 10 refl $ forget ! 12 refl $ forget ! 14 refl $ forget ! 16 refl $
            again ! (Nearer n) (At l₀ l₁ l₂ l₃ l₄ l₅ l₆ l₇ l₈ l₉ l₁₀ l₁₁ l₁₂) i (i.0 + 1, (next n i.0 less).0) (next n i.0 less).1))) (eq-or-lt_of_le i.1)) (0, zero-le))))))))))))))

  module _ (𝓣 : Tables 𝓤 H) (known : Triple 𝓤 (𝓣.C f) (triple_of 𝓛 (command_signature 𝓚 N) (closing 𝓛 (command_ended 𝓚 N) (command_clauses 𝓚 N Allowed command_at 𝓤)))) where
    walks : Walks 𝓛 (ended 𝓚 N) (stayed 𝓚 N) (WpFn 𝓤 H 𝓣.C 𝓣.Λ (function 𝓚 N f)) (clauses 𝓚 N Allowed command_at 𝓤)
    walks = walked 𝓛 (ended 𝓚 N) (stayed 𝓚 N) (clauses 𝓚 N Allowed command_at 𝓤) (WpFn 𝓤 H 𝓣.C 𝓣.Λ (function 𝓚 N f))
        (λ κs. (mut_slice_vals, (shr_slice_vals, (uint_vals w64, (uint_vals w64, ((λ p. 𝓚.P.val p ∷ []), tt)))))) (λ κs. (mut_slice_Tells (named 0) κs.0 R, (shr_slice_Tells (named 1) κs.1.0 (UInt N), (uint_Tells w64, (uint_Tells w64, (𝓚.P.tells, tt))))))
        (λ κs qs bounds a g are. needs 𝓤 ((a.1.1.0 + a.1.1.1.0 ≤ length a.0.now) × ((i : ℕ) → i < a.1.1.1.0 → Allowed a.1.0.now a.1.1.1.1.0 i)) _
        (λ asked. walk κs.0 κs.1.0 qs.0 qs.1.0 a.0.ref_ptr.0 a.0.ref_ptr.1 a.0.ghost_name a.0.now a.1.0.ref_ptr.0 a.1.0.ref_ptr.1 a.1.0.now a.1.1.0 a.1.1.1.0 a.1.1.1.1.0
        are.0.0.1 are.1.0.0.1 are.1.1.0.1 are.1.1.1.0.1 are.1.1.1.1.0 asked.0 asked.1 𝓣 known))

    meets : Meets 𝓛 (signature 𝓚 N) (WpFn 𝓤 H 𝓣.C 𝓣.Λ (function 𝓚 N f)) (closing 𝓛 (ended 𝓚 N) (clauses 𝓚 N Allowed command_at 𝓤))
    meets = walk_Meets 𝓛 (ended 𝓚 N) (stayed 𝓚 N)
        (Goes-slice 𝓛 2 0 tt (plain (λ _. R)), (Goes-none_slice 𝓛 2 (1 ∷ []) tt (plain (λ _. UInt N)) yes, (Goes-none 𝓛 2 (λ _. usize) yes (λ κs x f. refl), (Goes-none 𝓛 2 (λ _. usize) yes (λ κs x f. refl), (Goes-none 𝓛 2 (λ _. row 𝓚.P) yes (λ κs x f. refl), tt)))))
        (clauses 𝓚 N Allowed command_at 𝓤) (WpFn 𝓤 H 𝓣.C 𝓣.Λ (function 𝓚 N f)) (WpFn-mono 𝓤 H 𝓛.laws 𝓣 (function 𝓚 N f)) walks

-- what the proof of such a `fill` cites
pub fills-from : (𝓚 : Kinds) (N : Width) (Allowed : List ℕ → 𝓚.P.D → ℕ → Type 0) (command_at : List ℕ → 𝓚.P.D → ℕ → 𝓚.C.D) {M : Type 1} {𝓤 : Ura M} (𝓛 : Logic 𝓤) (𝓜 : Model 𝓤 𝓛.H) (𝓡 : Running 𝓤 𝓛.H 𝓜) (γ : Routines) (k f : Callee)
    → Closed 𝓤 𝓛.H (tables 𝓤 𝓛.H 𝓜 𝓡 γ).C (tables 𝓤 𝓛.H 𝓜 𝓡 γ).Λ k (function 𝓚 N f) → (r : Routine) → γ f ≡ r
    → Meets 𝓛 (command_signature 𝓚 N) (𝓡.run r) (closing 𝓛 (command_ended 𝓚 N) (command_clauses 𝓚 N Allowed command_at 𝓤))
    → Meets 𝓛 (signature 𝓚 N) (𝓡.run (γ k)) (closing 𝓛 (ended 𝓚 N) (clauses 𝓚 N Allowed command_at 𝓤))
unfolding tables_of
fills-from 𝓚 N Allowed command_at {𝓤 = 𝓤} 𝓛 𝓜 𝓡 γ k f closed r calls met =
    entered 𝓤 𝓛.H (triple_of 𝓛 (signature 𝓚 N) (closing 𝓛 (ended 𝓚 N) (clauses 𝓚 N Allowed command_at 𝓤))) (tables 𝓤 𝓛.H 𝓜 𝓡 γ).C (tables 𝓤 𝓛.H 𝓜 𝓡 γ).Λ k (function 𝓚 N f) closed
    (meets 𝓚 N Allowed command_at f 𝓛 (tables_of 𝓤 𝓛.H 𝓜 (tables 𝓤 𝓛.H 𝓜 𝓡 γ))
    (cited 𝓤 𝓛.H (triple_of 𝓛 (command_signature 𝓚 N) (closing 𝓛 (command_ended 𝓚 N) (command_clauses 𝓚 N Allowed command_at 𝓤))) 𝓜 𝓡 γ f r calls met))
