-- Every function of the form
--     fn fold(list: &[R], from: usize, to: usize, acc: A) -> A {
--         let mut a = acc; let mut i = from;
--         while i < to { let r = list[i]; a = step(a, i, r); i += 1; }
--         a
--     }
-- where `step` is a function of plain data that ensures `r ≡ step_of a i x`: its MIR (`function`) meets its contract (`clauses`). R and A are any types of plain data.
--     folds        `step` requires nothing
--     folds-ok     `step` requires `Req i a`, which follows from `Ok i a`: this holds at the first place, and goes on from one place to the next
-- Assumes `Logic`, and that `step` meets its contract.
use mathlib.Core.Path.{◌≡◌, refl, sym, ◌∙◌, ap, subst}
use mathlib.Core.Logic.{⊎_elim}
use mathlib.Core.Bool.{Bool}
use mathlib.Core.WellFounded.InvImage
use mathlib.Core.WellFounded.{WellFounded}
use lib.WfN.{lt-wf_rel}
use Prim.Native.Nat.{ℕ, ◌<◌, ◌≤◌, ◌^◌, ◌+◌, ◌-◌}
use native.Mathlib.Nat.{eq-or-lt_of_le, le_refl}
use native.Mathlib.Omega.{arith}
use borrow.Author.Tests.{lt-ltb, le-ltb}
use mathlib.Core.List.{[], ◌∷◌, List}
use lib.ListN.{length, get_or}
use seplogic.Ra.Ura.{Ura}
use base.Fraction.{full_share}
use mir.Syntax.{Callee, Fn, named, imm, w64, unsigned, ty_bool, ty_ptr, ty_ref, Ty, Body, field, deref, place, copy, int, local, value_local, skip as skipᴹ, seq, assign, call, block}
use mir.Syntax.{loop, cond, exit, return, rv_opd, op2, add, mul, lt, offset}
use mir.Val.{Val, vint, vptr, vbool}
use base.Logic.{SProp, ent, emp, id⊢}
use base.Fml.{Lft, Share, ftrue, fat, froom, fdies, flft}
use prog.Routine.{Routine, Env as Routines}
use prog.Model.{Model}
use prog.Wp.{Env, WpFn, Closed, Tables, after_turn}
use types.Logic.{Logic}
use contract.Monad.{fact, fact_i}
use contract.Running.{Running, tables, tables_of}
use types.Kit.{Item, ‵, ◌⊛◌, ⋆, at_ret, ◌$◌, ◌∵◌, !, qed, by, move, keep, drop, split, join, rewrite, fsplit, fjoin, use1, suffices, frame, done}
use types.Run.{look, look_raw, init, store, forget, stop, hop, fld, from, load, lit, of_opd, and_then, no_more, bin, assigns, assigns_last, land, first, blocks, stays, leaves_loop}
use types.Run.{exec, again, loops, returns, enter, alloc1, alloc0, params1, pass1, pass0, free1, free0}
use types.Part.{whole, sub, look_in}
use sound.WpLaws.{WpFn-mono}
use denote.RattleType.{RattleType, owns}
use denote.Memory.{pointee}
use denote.Laws.{Is, shows}
use denote.Plain.{uint_vals, uint_Tells, uint_Makes}
use denote.Builtin.{usize}
use denote.Ref.{Bor}
use denote.Slice.{slice_ty, slice_val, ShrSlice, Room, shr_slice_vals, shr_slice_Tells, shr_slice_copy}
use denote.Opens.{Shut}
use denote.Index.{row as cells-row, elem_out, elem_back, looks_slice, shuts_slice}
use denote.Steps.{only, owned, nothing}
use denote.Triple.Entry.{on_entry}
use denote.Triple.Spec.{Meets, triple_of}
use denote.Triple.Statement.{Contract, Triple}
use denote.Triple.Clauses.{Ended, Clauses, closing}
use denote.Triple.Table.{entered, cited}
use denote.Triple.Walked.{says, needs, Stays, stay_none_slice, stay_none, walk_of, Goes-none_slice, Walks, ends_at, walked, walk_Meets}
use denote.Exit.{yes}
use denote.Signature.{Signature, plain, shr_slice}
use Rattle.list_walks.specs.Fold.{fold_at, part}
use Rattle.walks.proofs.Args.{Datum, row, uint, goes, Dens}
use Rattle.list_walks.proofs.Elements.{Element, place-fits, place_of, word, Good, good}
use Rattle.list_walks.proofs.Called.{asked_contract, calls-asked, step_args, step_taken}
use Rattle.list_walks.proofs.Folded.{folded-none, folded-next, any_of}

-- what is done with an element, what is known of the value before each place, and what the fold and its step require
pub record Fold (𝓔 : Element) (D : Datum) : Type 2 where
  pub step : D.D → ℕ → 𝓔.R.D → D.D
  pub Ok : ℕ → D.D → Type 0
  pub ok_next : (i : ℕ) (c : D.D) (y : 𝓔.R.D) → Ok i c → Ok (i + 1) (step c i y)
  pub Fits : List 𝓔.R.D → ℕ → ℕ → D.D → Type 0
  pub fits_is : (l : List 𝓔.R.D) (from to : ℕ) (c : D.D) → Fits l from to c → (from ≤ to) × (to ≤ length l) × Ok from c
  pub asks : {M : Type 1} (𝓤 : Ura M) → ℕ → D.D → SProp 𝓤
  pub may : {M : Type 1} (𝓤 : Ura M) (i : ℕ) (c : D.D) → Ok i c → i + 1 < 2 ^ 64 → ent 𝓤 (emp 𝓤) (asks 𝓤 i c)

abbrev pub free_fold : (𝓔 : Element) (D : Datum) → (D.D → ℕ → 𝓔.R.D → D.D) → Fold 𝓔 D
free_fold 𝓔 D step_of = record {
  step = step_of;
  Ok = λ _ _. Unit {0};
  ok_next = λ i c y _. tt;
  Fits = λ l from to c. (from ≤ to) × (to ≤ length l);
  fits_is = λ l from to c h. (h.0, h.1, tt);
  asks = λ 𝓤 _ _. emp 𝓤;
  may = λ 𝓤 i c _ _. id⊢ 𝓤 (emp 𝓤);
}

abbrev pub ok_fold : (𝓔 : Element) (D : Datum) (Ok Req : ℕ → D.D → Type 0) (step_of : D.D → ℕ → 𝓔.R.D → D.D)
    → ((i : ℕ) (c : D.D) (y : 𝓔.R.D) → Ok i c → Ok (i + 1) (step_of c i y)) → ((i : ℕ) (c : D.D) → Ok i c → i + 1 < 2 ^ 64 → Req i c) → Fold 𝓔 D
ok_fold 𝓔 D Ok Req step_of ok_next ok-req = record {
  step = step_of;
  Ok = Ok;
  ok_next = ok_next;
  Fits = λ l from to c. (from ≤ to) × (to ≤ length l) × Ok from c;
  fits_is = λ l from to c h. h;
  asks = λ 𝓤 i c. fact 𝓤 (Req i c);
  may = λ 𝓤 i c h less. fact_i 𝓤 _ (emp 𝓤) (ok-req i c h less);
}

module _ (𝓔 : Element) (D : Datum) where
  abbrev slice : Ty
  slice = slice_ty (ty_ref (named 0) imm (pointee 𝓔.R.written))

  abbrev pub signature : Signature
  signature = record {
    lifetimes = 1;
    outlives = [];
    params = shr_slice 0 tt (λ _. row 𝓔.R) ∷ plain (λ _. usize) ∷ plain (λ _. usize) ∷ plain (λ _. row D) ∷ [];
    result = plain (λ _. row D);
  }

  abbrev pub ended : Ended
  ended = record { signature = signature; kept = (yes, (yes, (yes, (yes, tt)))) }

  abbrev stayed : Stays ended.signature.params ended.kept
  stayed = (stay_none_slice (0 ∷ []) tt (plain (λ _. row 𝓔.R)) yes, (stay_none (λ _. usize) yes, (stay_none (λ _. usize) yes, (stay_none (λ _. row D) yes, tt))))

  -- a turn, after its test
  abbrev more : Callee → Body
  more f = seq (assign (place 9 []) (op2 (mul unsigned) (copy (place 6 [])) (int w64 𝓔.bytes)))
      (seq (assign (place 10 []) (op2 offset (copy (place 1 (field 0 ∷ []))) (copy (place 9 []))))
      (seq (assign (place 11 []) (rv_opd (copy (place 10 (deref 𝓔.R.ty ∷ [])))))
      (seq (assign (place 7 []) (rv_opd (copy (place 11 []))))
      (seq (call f (copy (place 5 []) ∷ copy (place 6 []) ∷ copy (place 7 []) ∷ []) (place 5 []))
      (assign (place 6 []) (op2 (add unsigned) (copy (place 6 [])) (int w64 1)))))))

  abbrev rest : Body
  rest = seq (assign (place 0 []) (rv_opd (copy (place 5 [])))) return

  -- the locals: the result, list, from, to, acc, a, i, r, the test, the bytes before the element, its place, and the element
  abbrev pub function : Callee → Fn
  function f = record {
    lifetimes = 1;
    outlives = [];
    ty_params = [];
    givens = 0;
    params = 4;
    locals = local D.ty value_local ∷ local slice value_local ∷ local word value_local ∷ local word value_local ∷ local D.ty value_local ∷ local D.ty value_local
        ∷ local word value_local
        ∷ local 𝓔.R.ty value_local ∷ local ty_bool value_local ∷ local word value_local ∷ local ty_ptr value_local ∷ local 𝓔.R.ty value_local ∷ [];
    body = seq (assign (place 5 []) (rv_opd (copy (place 4 [])))) (seq (assign (place 6 []) (rv_opd (copy (place 2 []))))
        (seq (block (loop (seq (assign (place 8 []) (op2 (lt unsigned) (copy (place 6 [])) (copy (place 3 [])))) (seq (cond (copy (place 8 [])) skipᴹ (exit 1)) (more f))))) rest));
  }

  module _ (F : Fold 𝓔 D) {M : Type 1} (𝓤 : Ura M) where
    -- `requires { ⌜ Fits (now list) from to acc ⌝ }    ensures { λ r. ⌜ r ≡ fold_at step_of acc from (part (now list.entry) from to) ⌝ }`
    abbrev pub clauses : Clauses 𝓤 ended
    clauses κs a = record {
      ghost = Unit {0};
      requires = λ _. fact 𝓤 (F.Fits a.0.now a.1.0 a.1.1.0 a.1.1.1.0);
      ensures = λ _ r e. fact 𝓤 (r ≡ fold_at F.step a.1.1.1.0 a.1.0 (part a.0.now a.1.0 a.1.1.0));
    }

    abbrev asked : Dens (step_args 𝓔 D D F.step) → SProp 𝓤
    asked d = F.asks 𝓤 d.1.0 d.0

    module _ (𝓛 : Logic 𝓤) where
      abbrev pub contract_of : Contract 𝓤
      contract_of = triple_of 𝓛 signature (closing 𝓛 ended clauses)

      -- `step(a: A, i: usize, x: R) -> A`: `requires { asks i a }    ensures { λ r. ⌜ r ≡ step_of a i x ⌝ }`
      abbrev pub callee_contract : Contract 𝓤
      callee_contract = asked_contract (step_args 𝓔 D D F.step) D 𝓤 𝓛 asked (step_taken 𝓔 D D F.step)

module _ (𝓔 : Element) (D : Datum) (F : Fold 𝓔 D) (f : Callee) {M : Type 1} {𝓤 : Ura M} (𝓛 : Logic 𝓤) where
  open 𝓛 use {H}

  abbrev X : Type 0
  X = 𝓔.R.D

  abbrev R : RattleType
  R = row 𝓔.R

  abbrev rvals : X → List Val
  rvals y = 𝓔.R.val y ∷ []

  module _ (κ : Lft) (q : Share) (b o : ℕ) (ys : List X) (fr n : ℕ) (p : D.D) where
    abbrev x : Bor (List X)
    x = record { ref_ptr = (b, o); now = ys }

    abbrev s : Val
    s = slice_val (b, o) (length ys)

    abbrev v : Val
    v = D.val p

    abbrev a : Bor (List X) × (ℕ × (ℕ × (D.D × Unit {0})))
    a = (x, (fr, (n, (p, tt))))

    abbrev vals : List Val × (List Val × (List Val × (List Val × Unit {0})))
    vals = (s ∷ [], (vint w64 fr ∷ [], (vint w64 n ∷ [], (v ∷ [], tt))))

    -- what is had up to the place i
    abbrev acc : ℕ → D.D
    acc i = fold_at F.step p fr (part ys fr i)

    abbrev Post : Val → SProp 𝓤
    Post = (walk_of 𝓛 (ended 𝓔 D) (stayed 𝓔 D) (clauses 𝓔 D F 𝓤)).post (((κ, tt), (q, tt), tt, a, vals), tt)

    abbrev mine : Item 𝓤
    mine = ‵ ((ShrSlice (named 0) κ R).own_val x (s ∷ []))

    module _ (room : Room R (length ys)) (fr-fits : fr < 2 ^ 64) (n-fits : n < 2 ^ 64) (g : Good D p) (order : fr ≤ n) (within : n ≤ length ys) (ok₀ : F.Ok fr p) where
      exits : Good D (acc n) → ent 𝓤 (⋆ 𝓛 (‵ (flft κ q) ∷ mine ∷ [])) (Post (D.val (acc n)))
      exits h =
          qed 𝓛 (‵ (flft κ q) ∷ mine ∷ []) ∵
          suffices ! _ (ends_at 𝓛 (ended 𝓔 D) (stayed 𝓔 D) (clauses 𝓔 D F 𝓤) (((κ, tt), (q, tt), tt, a, vals), tt) (D.val (acc n)) (acc n) (tt, (tt, (tt, (tt, tt))))
          (tt, (tt, (tt, (tt, tt))))) $ says ! refl $
          nothing ! $ move ! (1 ∷ 0 ∷ []) $ join ! $ frame ! $
          nothing ! $ owned ! (row D) (Is (row D)) (D.makes 𝓛) p _ g $ fjoin ! $ owned ! usize (Is usize) (uint_Makes 𝓛 w64) n _ (refl, n-fits) $ fjoin ! $
          owned ! usize (Is usize) (uint_Makes 𝓛 w64) fr _ (refl, fr-fits) $ fjoin ! $
          move ! (1 ∷ 0 ∷ []) $ fjoin ! $ frame ! $ owned ! (row D) (Is (row D)) (D.makes 𝓛) (acc n) _ h $ done !

      abbrev Upto : Type 0
      Upto = (i : ℕ) × (i ≤ n) × (fr ≤ i) × Good D (acc i) × F.Ok i (acc i)

      abbrev Nearer : Upto → Upto → Type 0
      Nearer j i = n - j.0 < n - i.0

      Nearer-wf : WellFounded Nearer
      Nearer-wf = InvImage.wf (λ (i : Upto). n - i.0) lt-wf_rel.wf

      nearer : (i : ℕ) → i < n → n - (i + 1) < n - i
      nearer i less = omega arith

      in_list : (i : ℕ) → i < n → i < length ys
      in_list i less = omega arith

      no-elem : (i : ℕ) → i < n → X
      no-elem i less = any_of ys i (in_list i less)

      abbrev elem : (i : ℕ) → i < n → X
      elem i less = get_or ys i (no-elem i less)

      next : (i : ℕ) → fr ≤ i → (less : i < n) → acc (i + 1) ≡ F.step (acc i) i (elem i less)
      next i low less = folded-next F.step p ys fr i (no-elem i less) low (in_list i less)

      ok-begin : F.Ok fr (acc fr)
      ok-begin = subst (F.Ok fr) (sym (folded-none F.step p ys fr)) ok₀

      ok-more : (i : ℕ) → fr ≤ i → (less : i < n) → F.Ok i (acc i) → F.Ok (i + 1) (acc (i + 1))
      ok-more i low less h = subst (F.Ok (i + 1)) (sym (next i low less)) (F.ok_next i (acc i) (elem i less) h)

      begin : Good D (acc fr)
      begin = subst (Good D) (sym (folded-none F.step p ys fr)) g

      module _ (l₀ l₁ l₂ l₃ l₄ l₅ l₆ l₇ l₈ l₉ l₁₀ l₁₁ : ℕ) where
        abbrev En : Env 𝓤 H
        En = (D.ty, l₀) ∷ (slice 𝓔 D, l₁) ∷ (word, l₂) ∷ (word, l₃) ∷ (D.ty, l₄) ∷ (D.ty, l₅) ∷ (word, l₆) ∷ (𝓔.R.ty, l₇) ∷ (ty_bool, l₈) ∷ (word, l₉) ∷ (ty_ptr, l₁₀)
            ∷ (𝓔.R.ty, l₁₁) ∷ []

        abbrev At : Share → Upto → List (Item 𝓤)
        At q' i = ‵ (cells-row R q' ys b o) ∷ Shut 𝓛 κ q (cells-row R q' ys b o) ∷ mine
            ∷ ‵ (froom 𝓔.R.ty l₁₁ 0) ∷ ‵ (fdies 𝓔.R.ty l₁₁) ∷ ‵ (froom ty_ptr l₁₀ 0) ∷ ‵ (fdies ty_ptr l₁₀) ∷ ‵ (froom word l₉ 0) ∷ ‵ (fdies word l₉) ∷ ‵ (froom ty_bool l₈ 0)
            ∷ ‵ (fdies ty_bool l₈)
            ∷ ‵ (froom 𝓔.R.ty l₇ 0) ∷ ‵ (fdies 𝓔.R.ty l₇) ∷ ‵ (fat full_share word l₆ 0 (vint w64 i.0)) ∷ ‵ (fdies word l₆)
            ∷ ‵ (fat full_share D.ty l₅ 0 (D.val (acc i.0))) ∷ ‵ (fdies D.ty l₅)
            ∷ ‵ (fat full_share D.ty l₄ 0 v) ∷ ‵ (fdies D.ty l₄) ∷ ‵ (fat full_share word l₃ 0 (vint w64 n)) ∷ ‵ (fdies word l₃) ∷ ‵ (fat full_share word l₂ 0 (vint w64 fr))
            ∷ ‵ (fdies word l₂)
            ∷ ‵ (fat full_share (slice 𝓔 D) l₁ 0 s) ∷ ‵ (fdies (slice 𝓔 D) l₁) ∷ ‵ (froom D.ty l₀ 0) ∷ ‵ (fdies D.ty l₀) ∷ []

      module _ (𝓣 : Tables 𝓤 H) (known : Triple 𝓤 (𝓣.C f) (callee_contract 𝓔 D F 𝓤 𝓛)) where
        walk : ent 𝓤 (on_entry 𝓛 (signature 𝓔 D) (κ, tt) (q, tt) a vals) (WpFn 𝓤 H 𝓣.C 𝓣.Λ (function 𝓔 D f) (s ∷ vint w64 fr ∷ vint w64 n ∷ v ∷ []) Post)
        unfolding after_turn
        walk =
            qed 𝓛 ((‵ (flft κ q) ⊛ ‵ ftrue) ∷ ‵ (owns (ShrSlice (named 0) κ R ∷ usize ∷ usize ∷ row D ∷ []) a vals) ∷ []) ∵ enter ! 𝓣.C 𝓣.Λ (function 𝓔 D f)
            (s ∷ vint w64 fr ∷ vint w64 n ∷ v ∷ []) _ $
            alloc1 ! (λ l₀. alloc1 ! (λ l₁. alloc1 ! (λ l₂. alloc1 ! (λ l₃.
            alloc1 ! (λ l₄. alloc1 ! (λ l₅. alloc1 ! (λ l₆. alloc1 ! (λ l₇. alloc1 ! (λ l₈. alloc1 ! (λ l₉. alloc1 ! (λ l₁₀. alloc1 ! (λ l₁₁. alloc0 ! $ params1 ! $
            pass1 ! (init ! 20 refl (tt, (tt, (record { fits = room.0 }, tt)))) $ pass1 ! (init ! 18 refl (tt, record { fits = fr-fits })) $
            pass1 ! (init ! 16 refl (tt, record { fits = n-fits })) $ pass1 ! (init ! 14 refl (D.typed 𝓛 p _ g)) $ pass0 ! $
            assigns ! (of_opd ! (load ! (from ! (stop !)) (look ! 14 refl))) (from ! (stop !)) (init ! 12 refl (D.typed 𝓛 p _ g)) $
            assigns ! (of_opd ! (load ! (from ! (stop !)) (look ! 18 refl))) (from ! (stop !)) (init ! 10 refl (tt, record { fits = fr-fits })) $
            -- the list is had twice, and one is looked into
            move ! (25 ∷ []) $ fsplit ! $ use1 𝓛 (mine ⊛ mine) ((shr_slice_copy 𝓛 (named 0) κ R 𝓔.R.shared_laws).twice x (s ∷ [])) $ split ! $
            fsplit ! $ drop ! $ move ! (27 ∷ []) $ split ! $ move ! (2 ∷ 0 ∷ []) $
            looks_slice ! tt R (𝓔.R.copied 𝓛) ys b o (λ q'.
            -- [row; what shuts it; the elements, shared; true; the list; the others; _11; …]
            rewrite ! 18 (λ (c : D.D). ‵ (fat full_share D.ty l₅ 0 (D.val c))) (sym (folded-none F.step p ys fr)) refl $
            keep ! (0 ∷ 1 ∷ 4 ∷ 6 ∷ 7 ∷ 8 ∷ 9 ∷ 10 ∷ 11 ∷ 12 ∷ 13 ∷ 14 ∷ 15 ∷ 16 ∷ 17 ∷ 18 ∷ 19 ∷ 20 ∷ 21 ∷ 22 ∷ 23 ∷ 24 ∷ 25 ∷ 26 ∷ 27 ∷ 28 ∷ 29 ∷ []) $
            first ! $ blocks ! $ loops ! 𝓣 Nearer Nearer-wf (At l₀ l₁ l₂ l₃ l₄ l₅ l₆ l₇ l₈ l₉ l₁₀ l₁₁ q') (λ i.
            -- [row; what shuts it; the list; _11 3; …; _10 5; …; _9 7; …; _8 9; …; _7 11; …; _6 13; …; _5 15; …; _4 17; …; _3 19; …; _2 21; …; _1 23; …; _0 25; …]
            assigns ! (bin ! (load ! (from ! (stop !)) (look ! 13 refl)) (load ! (from ! (stop !)) (look ! 19 refl)) tt) (from ! (stop !)) (init ! 9 refl (tt, tt)) $
            ⊎_elim (λ over.
            rewrite ! 9 (λ (t : Bool). ‵ (fat full_share ty_bool l₈ 0 (vbool t))) (le-ltb i.0 n (omega arith)) refl $
            leaves_loop ! (load ! (from ! (stop !)) (look ! 9 refl)) $ exec ! 𝓣.C 𝓣.Λ (En l₀ l₁ l₂ l₃ l₄ l₅ l₆ l₇ l₈ l₉ l₁₀ l₁₁) (rest 𝓔 D)
            (at_ret (En l₀ l₁ l₂ l₃ l₄ l₅ l₆ l₇ l₈ l₉ l₁₀ l₁₁) Post) $
            assigns ! (of_opd ! (load ! (from ! (stop !)) (look ! 15 refl))) (from ! (stop !)) (init ! 25 refl (D.typed 𝓛 (acc i.0) _ i.3)) $
            shuts_slice ! tt R q' ys b o $
            -- [the token; the list; _11 2; …; _10 4; …; _9 6; …; _8 8; …; _7 10; …; _6 12; …; _5 14; …; _4 16; …; _3 18; …; _2 20; …; _1 22; …; _0 24; …]
            rewrite ! 24 (λ (c : D.D). ‵ (fat full_share D.ty l₀ 0 (D.val c))) (ap acc over) refl $
            returns ! (look ! 24 refl) $ forget ! 8 refl $ forget ! 12 refl $ forget ! 14 refl $ forget ! 16 refl $ forget ! 18 refl $ forget ! 20 refl $ forget ! 22 refl $
            forget ! 24 refl $
            move ! (24 ∷ 25 ∷ []) $ free1 ! $ move ! (22 ∷ 23 ∷ []) $ free1 ! $ move ! (20 ∷ 21 ∷ []) $ free1 ! $ move ! (18 ∷ 19 ∷ []) $ free1 ! $ move ! (16 ∷ 17 ∷ []) $
            free1 ! $ move ! (14 ∷ 15 ∷ []) $ free1 ! $
            move ! (12 ∷ 13 ∷ []) $ free1 ! $ move ! (10 ∷ 11 ∷ []) $ free1 ! $ move ! (8 ∷ 9 ∷ []) $ free1 ! $ move ! (6 ∷ 7 ∷ []) $ free1 ! $ move ! (4 ∷ 5 ∷ []) $ free1 ! $
            move ! (2 ∷ 3 ∷ []) $ free1 ! $ free0 ! $
            by ! (exits (subst (λ (m : ℕ). Good D (acc m)) over i.3))) (λ less.
            rewrite ! 9 (λ (t : Bool). ‵ (fat full_share ty_bool l₈ 0 (vbool t))) (lt-ltb i.0 n less) refl $
            stays ! (load ! (from ! (stop !)) (look ! 9 refl)) $
            assigns ! (bin ! (load ! (from ! (stop !)) (look ! 13 refl)) (lit ! 𝓔.bytes_fit) (record { fits = place-fits 𝓔 (length ys) i.0 room (in_list i.0 less) }))
            (from ! (stop !)) (init ! 7 refl (tt, record { fits = place-fits 𝓔 (length ys) i.0 room (in_list i.0 less) })) $
            assigns ! (bin ! (load ! (from ! (fld ! refl (stop !))) (look_in ! 23 (sub ! 0 refl (whole !)))) (load ! (from ! (stop !)) (look ! 7 refl)) tt) (from ! (stop !))
            (init ! 5 refl (tt, tt)) $
            rewrite ! 5 (λ (m : ℕ). ‵ (fat full_share ty_ptr l₁₀ 0 (vptr b m))) (sym (place_of 𝓔 o i.0)) refl $
            -- the element is copied out of the row
            elem_out ! R (Is R) (shows 𝓛 R) rvals 𝓔.R.tells q' ys i.0 (no-elem i.0 less) b o (in_list i.0 less) (λ h.
            -- [the element; what it owns; the others; what shuts the row; the list; _11 5; …; _10 7; …; _9 9; …; _8 11; …; _7 13; …; _6 15; …; _5 17; …]
            assigns ! (of_opd ! (load ! (from ! (hop ! (look ! 7 refl) (stop !))) (look_raw ! 0 refl))) (from ! (stop !))
            (init ! 5 refl (𝓔.R.typed 𝓛 (elem i.0 less) _ h)) $
            assigns ! (of_opd ! (load ! (from ! (stop !)) (look ! 5 refl))) (from ! (stop !)) (init ! 13 refl (𝓔.R.typed 𝓛 (elem i.0 less) _ h)) $
            elem_back ! R q' ys i.0 (no-elem i.0 less) (rvals (elem i.0 less)) b o (in_list i.0 less) $
            -- [row; what shuts it; the list; _11 3; …; .. _7 11; …; _6 13; …; _5 15; …]
            calls-asked ! 𝓣 (step_args 𝓔 D D F.step) D (asked 𝓔 D F 𝓤) (step_taken 𝓔 D D F.step) known (acc i.0, (i.0, (elem i.0 less, tt)))
            (i.3, ((refl, omega arith), (h, tt))) (F.may 𝓤 i.0 (acc i.0) i.4 (omega arith))
            (and_then ! (load ! (from ! (stop !)) (look ! 16 refl)) (and_then ! (load ! (from ! (stop !)) (look ! 14 refl))
            (and_then ! (load ! (from ! (stop !)) (look ! 12 refl)) (no_more !)))) (λ c u is e.
            land ! (from ! (stop !)) (store ! 15 refl (D.typed 𝓛 c _ is)) $
            rewrite ! 15 (λ (w : Val). ‵ (fat full_share D.ty l₅ 0 w)) (ap only (D.tells c (u ∷ []) is) ∙ ap D.val (e ∙ sym (next i.0 i.2 less))) refl $
            assigns_last ! (bin ! (load ! (from ! (stop !)) (look ! 13 refl)) (lit ! tt) (record { fits = omega arith })) (from ! (stop !))
            (store ! 13 refl (tt, record { fits = omega arith })) $
            forget ! 3 refl $ forget ! 5 refl $ forget ! 7 refl $ forget ! 9 refl $ forget ! 11 refl $
            again ! Nearer (At l₀ l₁ l₂ l₃ l₄ l₅ l₆ l₇ l₈ l₉ l₁₀ l₁₁ q') i
            (i.0 + 1, omega arith, omega arith, subst (Good D) (e ∙ sym (next i.0 i.2 less)) (good D c u is), ok-more i.0 i.2 less i.4) (nearer i.0 less))))
            (eq-or-lt_of_le i.1)) (fr, order, le_refl fr, begin, ok-begin))))))))))))))

  module _ (𝓣 : Tables 𝓤 H) (known : Triple 𝓤 (𝓣.C f) (callee_contract 𝓔 D F 𝓤 𝓛)) where
    walks : Walks 𝓛 (ended 𝓔 D) (stayed 𝓔 D) (WpFn 𝓤 H 𝓣.C 𝓣.Λ (function 𝓔 D f)) (clauses 𝓔 D F 𝓤)
    walks = walked 𝓛 (ended 𝓔 D) (stayed 𝓔 D) (clauses 𝓔 D F 𝓤) (WpFn 𝓤 H 𝓣.C 𝓣.Λ (function 𝓔 D f))
        (λ κs. (shr_slice_vals, (uint_vals w64, (uint_vals w64, ((λ p. D.val p ∷ []), tt)))))
        (λ κs. (shr_slice_Tells (named 0) κs.0 R, (uint_Tells w64, (uint_Tells w64, (D.tells, tt)))))
        (λ κs qs bounds a g are. needs 𝓤 (F.Fits a.0.now a.1.0 a.1.1.0 a.1.1.1.0) _
        (λ within. walk κs.0 qs.0 a.0.ref_ptr.0 a.0.ref_ptr.1 a.0.now a.1.0 a.1.1.0 a.1.1.1.0 are.0.0.1 are.1.0.1
        are.1.1.0.1 are.1.1.1.0 (F.fits_is _ _ _ _ within).0 (F.fits_is _ _ _ _ within).1 (F.fits_is _ _ _ _ within).2 𝓣 known))

    meets : Meets 𝓛 (signature 𝓔 D) (WpFn 𝓤 H 𝓣.C 𝓣.Λ (function 𝓔 D f)) (closing 𝓛 (ended 𝓔 D) (clauses 𝓔 D F 𝓤))
    meets = walk_Meets 𝓛 (ended 𝓔 D) (stayed 𝓔 D) (Goes-none_slice 𝓛 1 (0 ∷ []) tt (plain (λ _. R)) yes, goes 1 𝓛 (uint w64 ∷ uint w64 ∷ D ∷ []))
        (clauses 𝓔 D F 𝓤)
        (WpFn 𝓤 H 𝓣.C 𝓣.Λ (function 𝓔 D f)) (WpFn-mono 𝓤 H 𝓛.laws 𝓣 (function 𝓔 D f)) walks

-- ---- what the proof of such a function cites
fold-meets : (𝓔 : Element) (D : Datum) (F : Fold 𝓔 D) {M : Type 1} {𝓤 : Ura M} (𝓛 : Logic 𝓤) (𝓜 : Model 𝓤 𝓛.H) (𝓡 : Running 𝓤 𝓛.H 𝓜) (γ : Routines) (k f : Callee)
    → Closed 𝓤 𝓛.H (tables 𝓤 𝓛.H 𝓜 𝓡 γ).C (tables 𝓤 𝓛.H 𝓜 𝓡 γ).Λ k (function 𝓔 D f) → (r : Routine) → γ f ≡ r
    → Triple 𝓤 (𝓡.run r) (callee_contract 𝓔 D F 𝓤 𝓛) → Triple 𝓤 (𝓡.run (γ k)) (contract_of 𝓔 D F 𝓤 𝓛)
unfolding tables_of
fold-meets 𝓔 D F {𝓤 = 𝓤} 𝓛 𝓜 𝓡 γ k f closed r calls met =
    entered 𝓤 𝓛.H (contract_of 𝓔 D F 𝓤 𝓛) (tables 𝓤 𝓛.H 𝓜 𝓡 γ).C (tables 𝓤 𝓛.H 𝓜 𝓡 γ).Λ k (function 𝓔 D f) closed
    (meets 𝓔 D F f 𝓛 (tables_of 𝓤 𝓛.H 𝓜 (tables 𝓤 𝓛.H 𝓜 𝓡 γ)) (cited 𝓤 𝓛.H (callee_contract 𝓔 D F 𝓤 𝓛) 𝓜 𝓡 γ f r calls met))

-- `requires { ⌜ (from ≤ to) × (to ≤ length (now list)) ⌝ }`
pub folds : (𝓔 : Element) (D : Datum) (step_of : D.D → ℕ → 𝓔.R.D → D.D) {M : Type 1} {𝓤 : Ura M} (𝓛 : Logic 𝓤) (𝓜 : Model 𝓤 𝓛.H) (𝓡 : Running 𝓤 𝓛.H 𝓜)
    (γ : Routines) (k f : Callee)
    → Closed 𝓤 𝓛.H (tables 𝓤 𝓛.H 𝓜 𝓡 γ).C (tables 𝓤 𝓛.H 𝓜 𝓡 γ).Λ k (function 𝓔 D f) → (r : Routine) → γ f ≡ r
    → Triple 𝓤 (𝓡.run r) (callee_contract 𝓔 D (free_fold 𝓔 D step_of) 𝓤 𝓛) → Triple 𝓤 (𝓡.run (γ k)) (contract_of 𝓔 D (free_fold 𝓔 D step_of) 𝓤 𝓛)
folds 𝓔 D step_of = fold-meets 𝓔 D (free_fold 𝓔 D step_of)

-- `requires { ⌜ (from ≤ to) × (to ≤ length (now list)) × Ok from acc ⌝ }`
pub folds-ok : (𝓔 : Element) (D : Datum) (Ok Req : ℕ → D.D → Type 0) (step_of : D.D → ℕ → 𝓔.R.D → D.D)
    (ok_next : (i : ℕ) (c : D.D) (y : 𝓔.R.D) → Ok i c → Ok (i + 1) (step_of c i y)) (ok-req : (i : ℕ) (c : D.D) → Ok i c → i + 1 < 2 ^ 64 → Req i c)
    {M : Type 1} {𝓤 : Ura M} (𝓛 : Logic 𝓤) (𝓜 : Model 𝓤 𝓛.H) (𝓡 : Running 𝓤 𝓛.H 𝓜) (γ : Routines) (k f : Callee)
    → Closed 𝓤 𝓛.H (tables 𝓤 𝓛.H 𝓜 𝓡 γ).C (tables 𝓤 𝓛.H 𝓜 𝓡 γ).Λ k (function 𝓔 D f) → (r : Routine) → γ f ≡ r
    → Triple 𝓤 (𝓡.run r) (callee_contract 𝓔 D (ok_fold 𝓔 D Ok Req step_of ok_next ok-req) 𝓤 𝓛)
    → Triple 𝓤 (𝓡.run (γ k)) (contract_of 𝓔 D (ok_fold 𝓔 D Ok Req step_of ok_next ok-req) 𝓤 𝓛)
folds-ok 𝓔 D Ok Req step_of ok_next ok-req = fold-meets 𝓔 D (ok_fold 𝓔 D Ok Req step_of ok_next ok-req)
