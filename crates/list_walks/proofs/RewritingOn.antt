-- Every function of the form
--     fn rewrite(list: &mut [R], n: usize, acc: A) -> A {
--         let mut a = acc; let mut i: usize = 0;
--         while i < n { let r = list[i]; let c = changed(a, i, r); a = step(a, i, r); list[i] = c; i += 1; }
--         a
--     }
-- where the callees are functions of plain data that ensure `r ≡ changedOf a i x` and `r ≡ step_of a i x`: its MIR (`function`) meets its contract (`clauses`). R and A are any types of plain data.
-- Assumes `Logic`, and that the two callees meet their contracts.
use mathlib.Core.Path.{◌≡◌, refl, sym, ◌∙◌, ap, subst}
use mathlib.Core.Logic.{⊎_elim}
use mathlib.Core.Bool.{Bool}
use mathlib.Core.WellFounded.InvImage
use mathlib.Core.WellFounded.{WellFounded}
use lib.WfN.{lt-wf_rel}
use Prim.Native.Nat.{ℕ, ◌<◌, ◌≤◌, ◌^◌, ◌+◌, ◌-◌, zero-le}
use native.Mathlib.Nat.{eq-or-lt_of_le, le_refl}
use native.Mathlib.Omega.{arith}
use borrow.Author.Tests.{lt-ltb, le-ltb}
use lib.Dec.{lit<}
use mathlib.Core.List.{[], ◌∷◌, List}
use lib.ListN.{length, get_or, set, take}
use seplogic.Ra.Ura.{Ura}
use base.Fraction.{full_share}
use mir.Syntax.{Callee, Fn, named, mut, w64, unsigned, ty_bool, ty_ptr, ty_ref, Ty, Body, field, deref, place, copy, int, local, value_local, skip as skipᴹ, seq, assign, call, block}
use mir.Syntax.{loop, cond, exit, return, rv_opd, op2, add, mul, lt, offset}
use mir.Val.{Val, vint, vptr, vbool}
use base.Logic.{SProp, ent}
use base.Fml.{Lft, Share, GName, ftrue, fat, froom, fdies, flft, fobor, fobs, fauth, fbor}
use prog.Routine.{Routine, Env as Routines}
use prog.Model.{Model}
use prog.Wp.{Env, WpFn, Closed, Tables, after_turn}
use types.Logic.{Logic}
use contract.Monad.{fact}
use contract.Running.{Running, tables, tables_of}
use types.Kit.{Item, ‵, ◌⊛◌, ⋆, at_ret, ◌$◌, ◌∵◌, !, qed, by, move, keep, drop, split, join, rewrite, fsplit, fjoin, suffices, frame, done}
use types.Run.{look, look_raw, init, store, store_raw, forget, stop, hop, fld, from, load, lit, of_opd, and_then, no_more, bin, assigns, assigns_last, land, first, blocks, stays}
use types.Run.{leaves_loop, exec, again, loops, returns, enter, alloc1, alloc0, params1, pass1, pass0, free1, free0}
use types.Part.{whole, sub, look_in}
use sound.WpLaws.{WpFn-mono}
use denote.RattleType.{RattleType, owns}
use denote.Shadow.{pure_i}
use denote.Memory.{pointee}
use denote.Laws.{Is, shows}
use denote.Plain.{uint_vals, uint_Tells, uint_Makes}
use denote.Builtin.{usize}
use denote.Ref.{MutBor}
use denote.Slice.{slice_ty, slice_val, MutSlice, Room, heres, coded_holeys, mut_slice_at, mut_slice_vals, mut_slice_Tells}
use denote.Lend.{Held}
use denote.Index.{row as cells-row, elem_out, elem_back, elem_put, opens_slice, closes_slice}
use denote.Steps.{only, owned, nothing}
use denote.Triple.Entry.{on_entry}
use denote.Triple.Spec.{Meets, triple_of}
use denote.Triple.Statement.{Contract, Triple}
use denote.Triple.Clauses.{Ended, Clauses, closing}
use denote.Triple.Table.{entered, cited}
use denote.Triple.Walked.{says, needs, Stays, stay_slice, stay_none, walk_of, Goes-slice, ends_at, walked, walk_Meets}
use denote.Exit.{yes}
use denote.Signature.{Signature, plain, mut_slice}
use Rattle.walks.proofs.Args.{Datum, row, uint, goes}
use Rattle.list_walks.proofs.Elements.{Element, place-fits, place_of, word, Good, good}
use Rattle.list_walks.specs.Fold.{fold_at}
use Rattle.list_walks.specs.On.{map_on}
use Rattle.list_walks.specs.Sift.{over}
use Rattle.list_walks.proofs.Onwards as facts-of
use Rattle.list_walks.proofs.Called.{step_contract, calls-step}
use Rattle.list_walks.proofs.Folded.{any_of}

module _ (𝓔 : Element) where
  abbrev slice : Ty
  slice = slice_ty (ty_ref (named 0) mut (pointee 𝓔.R.written))

module _ (𝓔 : Element) (D : Datum) where
  abbrev pub signature : Signature
  signature = record { lifetimes = 1; outlives = []; params = mut_slice 0 tt (λ _. row 𝓔.R) ∷ plain (λ _. usize) ∷ plain (λ _. row D) ∷ []; result = plain (λ _. row D) }

  abbrev pub ended : Ended
  ended = record { signature = signature; kept = (yes, (yes, (yes, tt))) }

  abbrev stayed : Stays ended.signature.params ended.kept
  stayed = (stay_slice (0 ∷ []) tt (plain (λ _. row 𝓔.R)), (stay_none (λ _. usize) yes, (stay_none (λ _. row D) yes, tt)))

  -- a turn, after its test
  abbrev more : Callee → Callee → Body
  more k f = seq (assign (place 9 []) (op2 (mul unsigned) (copy (place 5 [])) (int w64 𝓔.bytes)))
      (seq (assign (place 10 []) (op2 offset (copy (place 1 (field 0 ∷ []))) (copy (place 9 []))))
      (seq (assign (place 11 []) (rv_opd (copy (place 10 (deref 𝓔.R.ty ∷ [])))))
      (seq (assign (place 6 []) (rv_opd (copy (place 11 []))))
      (seq (call k (copy (place 4 []) ∷ copy (place 5 []) ∷ copy (place 6 []) ∷ []) (place 7 []))
      (seq (call f (copy (place 4 []) ∷ copy (place 5 []) ∷ copy (place 6 []) ∷ []) (place 4 []))
      (seq (assign (place 9 []) (op2 (mul unsigned) (copy (place 5 [])) (int w64 𝓔.bytes)))
      (seq (assign (place 12 []) (op2 offset (copy (place 1 (field 0 ∷ []))) (copy (place 9 []))))
      (seq (assign (place 12 (deref 𝓔.R.ty ∷ [])) (rv_opd (copy (place 7 []))))
      (assign (place 5 []) (op2 (add unsigned) (copy (place 5 [])) (int w64 1)))))))))))

  abbrev rest : Body
  rest = seq (assign (place 0 []) (rv_opd (copy (place 4 [])))) return

  -- the locals: the result, list, n, acc, a, i, r, c, the test, and the places and elements in between
  abbrev pub function : Callee → Callee → Fn
  function k f = record {
    lifetimes = 1;
    outlives = [];
    ty_params = [];
    givens = 0;
    params = 3;
    locals = local D.ty value_local ∷ local (slice 𝓔) value_local ∷ local word value_local ∷ local D.ty value_local ∷ local D.ty value_local ∷ local word value_local ∷ local
        𝓔.R.ty value_local ∷ local 𝓔.R.ty value_local ∷ local ty_bool value_local ∷ local word value_local ∷ local ty_ptr value_local ∷ local 𝓔.R.ty value_local
        ∷ local ty_ptr value_local ∷ [];
    body = seq (assign (place 4 []) (rv_opd (copy (place 3 [])))) (seq (assign (place 5 []) (rv_opd (int w64 0)))
        (seq (block (loop (seq (assign (place 8 []) (op2 (lt unsigned) (copy (place 5 [])) (copy (place 2 [])))) (seq (cond (copy (place 8 [])) skipᴹ (exit 1)) (more k f)))))
        rest));
  }

  module _ (changedOf : D.D → ℕ → 𝓔.R.D → 𝓔.R.D) (step_of : D.D → ℕ → 𝓔.R.D → D.D) {M : Type 1} (𝓤 : Ura M) where
    abbrev pub Rewritten : List 𝓔.R.D → ℕ → D.D → List 𝓔.R.D → D.D → Type 0
    Rewritten l n c l' r = (r ≡ fold_at step_of c 0 (take n l)) × (l' ≡ over (map_on changedOf step_of c 0 (take n l)) l)

    -- `requires { ⌜ n ≤ length (now list) ⌝ }    ensures { λ r. ⌜ Rewritten (now list.entry) n acc (now list.exit) r ⌝ }`, spelled out
    abbrev pub clauses : Clauses 𝓤 ended
    clauses κs a = record {
      ghost = Unit {0};
      requires = λ _. fact 𝓤 (a.1.0 ≤ length a.0.now);
      ensures = λ _ r e. fact 𝓤 (Rewritten a.0.now a.1.0 a.1.1.0 e.0.now r);
    }

    abbrev pub contract_of : (𝓛 : Logic 𝓤) → Contract 𝓤
    contract_of 𝓛 = triple_of 𝓛 signature (closing 𝓛 ended clauses)

module _ (𝓔 : Element) (D : Datum) (changedOf : D.D → ℕ → 𝓔.R.D → 𝓔.R.D) (step_of : D.D → ℕ → 𝓔.R.D → D.D) (kf f : Callee) {M : Type 1} {𝓤 : Ura M} (𝓛 : Logic 𝓤)
  where
    open 𝓛 use {H}

    abbrev X : Type 0
    X = 𝓔.R.D

    abbrev R : RattleType
    R = row 𝓔.R

    abbrev rvals : X → List Val
    rvals y = 𝓔.R.val y ∷ []

    module _ (κ : Lft) (q : Share) (b o : ℕ) (γ : GName) (ys : List X) (n : ℕ) (c : D.D) where
      abbrev x : List X → MutBor (List X)
      x m = record { ref_ptr = (b, o); ghost_name = γ; now = m }

      abbrev s : Val
      s = slice_val (b, o) (length ys)

      abbrev v : Val
      v = D.val c

      abbrev a : MutBor (List X) × (ℕ × (D.D × Unit {0}))
      a = (x ys, (n, (c, tt)))

      abbrev vals : List Val × (List Val × (List Val × Unit {0}))
      vals = (s ∷ [], (vint w64 n ∷ [], (v ∷ [], tt)))

      abbrev acc : ℕ → D.D
      acc i = facts-of.value changedOf step_of c ys i

      abbrev zs : ℕ → List X
      zs i = facts-of.changed changedOf step_of c ys i

      abbrev Post : Val → SProp 𝓤
      Post = (walk_of 𝓛 (ended 𝓔 D) (stayed 𝓔 D) (clauses 𝓔 D changedOf step_of 𝓤)).post (((κ, tt), (q, tt), tt, a, vals), tt)

      module _ (room : Room R (length ys)) (n-fits : n < 2 ^ 64) (g : Good D c) (within : n ≤ length ys) where
        same : (i : ℕ) → i ≤ n → length (zs i) ≡ length ys
        same i h = facts-of.changed-length changedOf step_of c ys i (omega arith)

        last : n ≤ n
        last = le_refl n

        exits : Good D (acc n) → ent 𝓤 (⋆ 𝓛 (‵ (fobs γ ((coded_holeys R).code (heres R (zs n)))) ∷ ‵ (fbor κ (Held R (length (zs n)) b o γ)) ∷ ‵ (flft κ q) ∷ []))
            (Post (D.val (acc n)))
        exits h =
            qed 𝓛 (‵ (fobs γ ((coded_holeys R).code (heres R (zs n)))) ∷ ‵ (fbor κ (Held R (length (zs n)) b o γ)) ∷ ‵ (flft κ q) ∷ []) ∵
            suffices ! _ (ends_at 𝓛 (ended 𝓔 D) (stayed 𝓔 D) (clauses 𝓔 D changedOf step_of 𝓤) (((κ, tt), (q, tt), tt, a, vals), tt) (D.val (acc n)) (acc n)
            (zs n, (tt, (tt, tt))) (same n last, (tt, (tt, tt)))) $ says ! (refl, refl) $
            nothing ! $ move ! (3 ∷ 0 ∷ []) $ join ! $ frame ! $
            fjoin ! $ pure_i ! (mut_slice_at R (x (zs n)) (s ∷ [])) (tt, (tt, tt)) (ap (λ (m : ℕ). slice_val (b, o) m ∷ []) (sym (same n last)), subst (Room R) (sym (same n last)) room) $
            fjoin ! $
            nothing ! $ owned ! (row D) (Is (row D)) (D.makes 𝓛) c _ g $ fjoin ! $ owned ! usize (Is usize) (uint_Makes 𝓛 w64) n _ (refl, n-fits) $ fjoin ! $
            move ! (1 ∷ 0 ∷ []) $ fjoin ! $ owned ! (row D) (Is (row D)) (D.makes 𝓛) (acc n) _ h $ move ! (1 ∷ 0 ∷ []) $ done !

        abbrev Upto : Type 0
        Upto = (i : ℕ) × (i ≤ n) × Good D (acc i)

        abbrev Nearer : Upto → Upto → Type 0
        Nearer j i = n - j.0 < n - i.0

        Nearer-wf : WellFounded Nearer
        Nearer-wf = InvImage.wf (λ (i : Upto). n - i.0) lt-wf_rel.wf

        next : (i : ℕ) (less : i < n) → ((i + 1) ≤ n) × (n - (i + 1) < n - i)
        next i less = (omega arith, omega arith)

        in_list : (i : ℕ) (less : i < n) → i < length ys
        in_list i less = omega arith

        in-now : (i : ℕ) (less : i < n) → i < length (zs i)
        in-now i less = omega (arith, same i (omega arith))

        no-elem : (i : ℕ) (less : i < n) → X
        no-elem i less = any_of ys i (in_list i less)

        abbrev elem : (i : ℕ) (less : i < n) → X
        elem i less = get_or ys i (no-elem i less)

        read_is : (i : ℕ) (less : i < n) → get_or (zs i) i (no-elem i less) ≡ elem i less
        read_is i less = facts-of.changed-get_or changedOf step_of c ys i (no-elem i less) (in_list i less)

        good-read : (i : ℕ) (less : i < n) → Good 𝓔.R (get_or (zs i) i (no-elem i less)) → Good 𝓔.R (elem i less)
        good-read i less = subst (Good 𝓔.R) (read_is i less)

        acc-next : (i : ℕ) (less : i < n) → acc (i + 1) ≡ step_of (acc i) i (elem i less)
        acc-next i less = facts-of.value-next changedOf step_of c ys i (no-elem i less) (in_list i less)

        list-next : (i : ℕ) (less : i < n) (y : X) → y ≡ changedOf (acc i) i (elem i less) → set (zs i) i y ≡ zs (i + 1)
        list-next i less y e = facts-of.changed-next changedOf step_of c ys i (no-elem i less) y (in_list i less) e

        start : Good D (acc 0)
        unfolding fold_at
        start = g

        module _ (l₀ l₁ l₂ l₃ l₄ l₅ l₆ l₇ l₈ l₉ l₁₀ l₁₁ l₁₂ : ℕ) where
          abbrev En : Env 𝓤 H
          En = (D.ty, l₀) ∷ (slice 𝓔, l₁) ∷ (word, l₂) ∷ (D.ty, l₃) ∷ (D.ty, l₄) ∷ (word, l₅) ∷ (𝓔.R.ty, l₆) ∷ (𝓔.R.ty, l₇) ∷ (ty_bool, l₈) ∷ (word, l₉)
              ∷ (ty_ptr, l₁₀) ∷ (𝓔.R.ty, l₁₁) ∷ (ty_ptr, l₁₂) ∷ []

          abbrev At : Upto → List (Item 𝓤)
          At i = ‵ (cells-row R full_share (zs i.0) b o) ∷ ‵ (fobor κ q (Held R (length ys) b o γ)) ∷ ‵ (fobs γ ((coded_holeys R).code (heres R ys)))
              ∷ ‵ (fauth γ ((coded_holeys R).code (heres R ys)))
              ∷ ‵ (froom ty_ptr l₁₂ 0) ∷ ‵ (fdies ty_ptr l₁₂) ∷ ‵ (froom 𝓔.R.ty l₁₁ 0) ∷ ‵ (fdies 𝓔.R.ty l₁₁) ∷ ‵ (froom ty_ptr l₁₀ 0) ∷ ‵ (fdies ty_ptr l₁₀)
              ∷ ‵ (froom word l₉ 0) ∷ ‵ (fdies word l₉) ∷ ‵ (froom ty_bool l₈ 0) ∷ ‵ (fdies ty_bool l₈) ∷ ‵ (froom 𝓔.R.ty l₇ 0) ∷ ‵ (fdies 𝓔.R.ty l₇)
              ∷ ‵ (froom 𝓔.R.ty l₆ 0) ∷ ‵ (fdies 𝓔.R.ty l₆) ∷ ‵ (fat full_share word l₅ 0 (vint w64 i.0)) ∷ ‵ (fdies word l₅)
              ∷ ‵ (fat full_share D.ty l₄ 0 (D.val (acc i.0))) ∷ ‵ (fdies D.ty l₄) ∷ ‵ (fat full_share D.ty l₃ 0 v) ∷ ‵ (fdies D.ty l₃)
              ∷ ‵ (fat full_share word l₂ 0 (vint w64 n)) ∷ ‵ (fdies word l₂) ∷ ‵ (fat full_share (slice 𝓔) l₁ 0 s) ∷ ‵ (fdies (slice 𝓔) l₁) ∷ ‵ (froom D.ty l₀ 0)
              ∷ ‵ (fdies D.ty l₀) ∷ []

        module _ (𝓣 : Tables 𝓤 H) (known-changed : Triple 𝓤 (𝓣.C kf) (step_contract 𝓔 D 𝓔.R changedOf 𝓛))
            (Known-step : Triple 𝓤 (𝓣.C f) (step_contract 𝓔 D D step_of 𝓛)) where
          walk : ent 𝓤 (on_entry 𝓛 (signature 𝓔 D) (κ, tt) (q, tt) a vals) (WpFn 𝓤 H 𝓣.C 𝓣.Λ (function 𝓔 D kf f) (s ∷ vint w64 n ∷ v ∷ []) Post)
          unfolding after_turn map_on fold_at
          walk =
              qed 𝓛 ((‵ (flft κ q) ⊛ ‵ ftrue) ∷ ‵ (owns (MutSlice (named 0) κ R ∷ usize ∷ row D ∷ []) a vals) ∷ []) ∵ enter ! 𝓣.C 𝓣.Λ (function 𝓔 D kf f)
              (s ∷ vint w64 n ∷ v ∷ []) _ $
              alloc1 ! (λ l₀. alloc1 ! (λ l₁. alloc1 ! (λ l₂. alloc1 ! (λ l₃.
              alloc1 ! (λ l₄. alloc1 ! (λ l₅. alloc1 ! (λ l₆. alloc1 ! (λ l₇. alloc1 ! (λ l₈. alloc1 ! (λ l₉. alloc1 ! (λ l₁₀. alloc1 ! (λ l₁₁. alloc1 ! (λ l₁₂. alloc0 ! $
              params1 ! $
              pass1 ! (init ! 22 refl (tt, (tt, (record { fits = room.0 }, tt)))) $ pass1 ! (init ! 20 refl (tt, record { fits = n-fits })) $
              pass1 ! (init ! 18 refl (D.typed 𝓛 c _ g)) $ pass0 ! $
              assigns ! (of_opd ! (load ! (from ! (stop !)) (look ! 18 refl))) (from ! (stop !)) (init ! 16 refl (D.typed 𝓛 c _ g)) $
              assigns ! (of_opd ! (lit ! tt)) (from ! (stop !)) (init ! 14 refl (tt, record { fits = lit< tt })) $
              -- the borrow is opened
              move ! (27 ∷ []) $ fsplit ! $ fsplit ! $ drop ! $ fsplit ! $ move ! (29 ∷ []) $ split ! $ move ! (2 ∷ 3 ∷ 0 ∷ []) $ opens_slice ! tt R ys b o $
              keep ! (0 ∷ 1 ∷ 2 ∷ 3 ∷ 6 ∷ 7 ∷ 8 ∷ 9 ∷ 10 ∷ 11 ∷ 12 ∷ 13 ∷ 14 ∷ 15 ∷ 16 ∷ 17 ∷ 18 ∷ 19 ∷ 20 ∷ 21 ∷ 22 ∷ 23 ∷ 24 ∷ 25 ∷ 26 ∷ 27 ∷ 28 ∷ 29 ∷ 30 ∷ 31 ∷ []) $
              first ! $ blocks ! $ loops ! 𝓣 Nearer Nearer-wf (At l₀ l₁ l₂ l₃ l₄ l₅ l₆ l₇ l₈ l₉ l₁₀ l₁₁ l₁₂) (λ i.
              -- [row; the open borrow; obs; auth; _12 4; …]
              assigns ! (bin ! (load ! (from ! (stop !)) (look ! 18 refl)) (load ! (from ! (stop !)) (look ! 24 refl)) tt) (from ! (stop !)) (init ! 12 refl (tt, tt)) $
              ⊎_elim (λ past.
              rewrite ! 12 (λ (u : Bool). ‵ (fat full_share ty_bool l₈ 0 (vbool u))) (le-ltb i.0 n (omega arith)) refl $
              leaves_loop ! (load ! (from ! (stop !)) (look ! 12 refl)) $ exec ! 𝓣.C 𝓣.Λ (En l₀ l₁ l₂ l₃ l₄ l₅ l₆ l₇ l₈ l₉ l₁₀ l₁₁ l₁₂) (rest 𝓔 D)
              (at_ret (En l₀ l₁ l₂ l₃ l₄ l₅ l₆ l₇ l₈ l₉ l₁₀ l₁₁ l₁₂) Post) $
              assigns ! (of_opd ! (load ! (from ! (stop !)) (look ! 20 refl))) (from ! (stop !)) (init ! 28 refl (D.typed 𝓛 (acc i.0) _ i.2)) $
              rewrite ! 28 (λ (m : ℕ). ‵ (fat full_share D.ty l₀ 0 (D.val (acc m)))) past refl $
              rewrite ! 0 (λ (m : ℕ). ‵ (cells-row R full_share (zs m) b o)) past refl $ closes_slice ! tt R ys (zs n) (same n last) b o $
              -- [obs; the borrow; the token; _12 3; …]
              returns ! (look ! 27 refl) $ forget ! 11 refl $ forget ! 17 refl $ forget ! 19 refl $ forget ! 21 refl $ forget ! 23 refl $ forget ! 25 refl $ forget ! 27 refl $
              move ! (27 ∷ 28 ∷ []) $ free1 ! $ move ! (25 ∷ 26 ∷ []) $ free1 ! $ move ! (23 ∷ 24 ∷ []) $ free1 ! $ move ! (21 ∷ 22 ∷ []) $ free1 ! $ move ! (19 ∷ 20 ∷ []) $
              free1 ! $ move ! (17 ∷ 18 ∷ []) $ free1 ! $ move ! (15 ∷ 16 ∷ []) $ free1 ! $ move ! (13 ∷ 14 ∷ []) $ free1 ! $ move ! (11 ∷ 12 ∷ []) $ free1 ! $ move ! (9 ∷ 10 ∷ []) $
              free1 ! $ move ! (7 ∷ 8 ∷ []) $ free1 ! $ move ! (5 ∷ 6 ∷ []) $ free1 ! $ move ! (3 ∷ 4 ∷ []) $ free1 ! $ free0 ! $
              by ! (exits (subst (λ (m : ℕ). Good D (acc m)) past i.2))) (λ less.
              rewrite ! 12 (λ (u : Bool). ‵ (fat full_share ty_bool l₈ 0 (vbool u))) (lt-ltb i.0 n less) refl $
              stays ! (load ! (from ! (stop !)) (look ! 12 refl)) $
              assigns ! (bin ! (load ! (from ! (stop !)) (look ! 18 refl)) (lit ! 𝓔.bytes_fit) (record { fits = place-fits 𝓔 (length ys) i.0 room (in_list i.0 less) }))
              (from ! (stop !)) (init ! 10 refl (tt, record { fits = place-fits 𝓔 (length ys) i.0 room (in_list i.0 less) })) $
              assigns ! (bin ! (load ! (from ! (fld ! refl (stop !))) (look_in ! 26 (sub ! 0 refl (whole !)))) (load ! (from ! (stop !)) (look ! 10 refl)) tt) (from ! (stop !))
              (init ! 8 refl (tt, tt)) $
              rewrite ! 8 (λ (m : ℕ). ‵ (fat full_share ty_ptr l₁₀ 0 (vptr b m))) (sym (place_of 𝓔 o i.0)) refl $
              -- an element is copied out of the row
              elem_out ! R (Is R) (shows 𝓛 R) rvals 𝓔.R.tells full_share (zs i.0) i.0 (no-elem i.0 less) b o (in-now i.0 less) (λ h₀.
              -- [the element; what it owns; the others; the open borrow; obs; auth; _12 6; …]
              assigns ! (of_opd ! (load ! (from ! (hop ! (look ! 10 refl) (stop !))) (look_raw ! 0 refl))) (from ! (stop !))
              (init ! 8 refl (𝓔.R.typed 𝓛 (get_or (zs i.0) i.0 (no-elem i.0 less)) _ h₀)) $
              elem_back ! R full_share (zs i.0) i.0 (no-elem i.0 less) (rvals (get_or (zs i.0) i.0 (no-elem i.0 less))) b o (in-now i.0 less) $
              rewrite ! 6 (λ (e : X). ‵ (fat full_share 𝓔.R.ty l₁₁ 0 (𝓔.R.val e))) (read_is i.0 less) refl $
              assigns ! (of_opd ! (load ! (from ! (stop !)) (look ! 6 refl))) (from ! (stop !))
              (init ! 16 refl (𝓔.R.typed 𝓛 (elem i.0 less) _ (good-read i.0 less h₀))) $
              calls-step ! 𝓣 𝓔 D 𝓔.R changedOf known-changed (acc i.0) i.0 (elem i.0 less) i.2 (omega arith) (good-read i.0 less h₀)
              (and_then ! (load ! (from ! (stop !)) (look ! 21 refl)) (and_then ! (load ! (from ! (stop !)) (look ! 19 refl))
              (and_then ! (load ! (from ! (stop !)) (look ! 17 refl)) (no_more !)))) (λ y u is_y e-y.
              land ! (from ! (stop !)) (init ! 14 refl (𝓔.R.typed 𝓛 y _ is_y)) $
              rewrite ! 14 (λ (m : Val). ‵ (fat full_share 𝓔.R.ty l₇ 0 m)) (ap only (𝓔.R.tells y (u ∷ []) is_y)) refl $
              calls-step ! 𝓣 𝓔 D D step_of Known-step (acc i.0) i.0 (elem i.0 less) i.2 (omega arith) (good-read i.0 less h₀)
              (and_then ! (load ! (from ! (stop !)) (look ! 21 refl)) (and_then ! (load ! (from ! (stop !)) (look ! 19 refl))
              (and_then ! (load ! (from ! (stop !)) (look ! 17 refl)) (no_more !)))) (λ d u' is e.
              land ! (from ! (stop !)) (store ! 20 refl (D.typed 𝓛 d _ is)) $
              rewrite ! 20 (λ (m : Val). ‵ (fat full_share D.ty l₄ 0 m)) (ap only (D.tells d (u' ∷ []) is) ∙ ap D.val (e ∙ sym (acc-next i.0 less))) refl $
              assigns ! (bin ! (load ! (from ! (stop !)) (look ! 18 refl)) (lit ! 𝓔.bytes_fit) (record { fits = place-fits 𝓔 (length ys) i.0 room (in_list i.0 less) }))
              (from ! (stop !)) (store ! 10 refl (tt, record { fits = place-fits 𝓔 (length ys) i.0 room (in_list i.0 less) })) $
              assigns ! (bin ! (load ! (from ! (fld ! refl (stop !))) (look_in ! 26 (sub ! 0 refl (whole !)))) (load ! (from ! (stop !)) (look ! 10 refl)) tt) (from ! (stop !))
              (init ! 4 refl (tt, tt)) $
              rewrite ! 4 (λ (m : ℕ). ‵ (fat full_share ty_ptr l₁₂ 0 (vptr b m))) (sym (place_of 𝓔 o i.0)) refl $
              -- an element is taken out of the row, stored to, and put back
              elem_out ! R (Is R) (shows 𝓛 R) rvals 𝓔.R.tells full_share (zs i.0) i.0 (no-elem i.0 less) b o (in-now i.0 less) (λ _.
              assigns ! (of_opd ! (load ! (from ! (stop !)) (look ! 16 refl))) (from ! (hop ! (look ! 6 refl) (stop !)))
              (store_raw ! 0 refl (𝓔.R.typed 𝓛 y _ (good 𝓔.R y u is_y))) $
              move ! (1 ∷ []) $ drop ! $ owned ! R (Is R) (𝓔.R.makes 𝓛) y _ (good 𝓔.R y u is_y) $ move ! (1 ∷ 0 ∷ []) $
              elem_put ! R full_share (zs i.0) i.0 y (rvals y) b o (in-now i.0 less) $
              rewrite ! 0 (λ (m : List X). ‵ (cells-row R full_share m b o)) (list-next i.0 less y e-y) refl $
              assigns_last ! (bin ! (load ! (from ! (stop !)) (look ! 18 refl)) (lit ! tt) (record { fits = omega arith })) (from ! (stop !))
              (store ! 18 refl (tt, record { fits = omega arith })) $
              forget ! 4 refl $ forget ! 6 refl $ forget ! 8 refl $ forget ! 10 refl $ forget ! 12 refl $ forget ! 14 refl $ forget ! 16 refl $
              again ! Nearer (At l₀ l₁ l₂ l₃ l₄ l₅ l₆ l₇ l₈ l₉ l₁₀ l₁₁ l₁₂) i (i.0 + 1, (next i.0 less).0, subst (Good D) (e ∙ sym (acc-next i.0 less)) (good D d u' is))
              (next i.0 less).1))))) (eq-or-lt_of_le i.1)) (0, zero-le, start))))))))))))))

    module _ (𝓣 : Tables 𝓤 H) (known-changed : Triple 𝓤 (𝓣.C kf) (step_contract 𝓔 D 𝓔.R changedOf 𝓛))
        (Known-step : Triple 𝓤 (𝓣.C f) (step_contract 𝓔 D D step_of 𝓛)) where
      meets : Meets 𝓛 (signature 𝓔 D) (WpFn 𝓤 H 𝓣.C 𝓣.Λ (function 𝓔 D kf f)) (closing 𝓛 (ended 𝓔 D) (clauses 𝓔 D changedOf step_of 𝓤))
      meets = walk_Meets 𝓛 (ended 𝓔 D) (stayed 𝓔 D) (Goes-slice 𝓛 1 0 tt (plain (λ _. R)), goes 1 𝓛 (uint w64 ∷ D ∷ [])) (clauses 𝓔 D changedOf step_of 𝓤)
          (WpFn 𝓤 H 𝓣.C 𝓣.Λ (function 𝓔 D kf f)) (WpFn-mono 𝓤 H 𝓛.laws 𝓣 (function 𝓔 D kf f))
          (walked 𝓛 (ended 𝓔 D) (stayed 𝓔 D) (clauses 𝓔 D changedOf step_of 𝓤) (WpFn 𝓤 H 𝓣.C 𝓣.Λ (function 𝓔 D kf f))
          (λ κs. (mut_slice_vals, (uint_vals w64, ((λ p. D.val p ∷ []), tt)))) (λ κs. (mut_slice_Tells (named 0) κs.0 R, (uint_Tells w64, (D.tells, tt))))
          (λ κs qs bounds a g are. needs 𝓤 (a.1.0 ≤ length a.0.now) _
          (λ within. walk κs.0 qs.0 a.0.ref_ptr.0 a.0.ref_ptr.1 a.0.ghost_name a.0.now a.1.0 a.1.1.0 are.0.0.1 are.1.0.1
          are.1.1.0 within 𝓣 known-changed Known-step)))

-- what the proof of such a function cites
pub rewrites-on : (𝓔 : Element) (D : Datum) (changedOf : D.D → ℕ → 𝓔.R.D → 𝓔.R.D) (step_of : D.D → ℕ → 𝓔.R.D → D.D) {M : Type 1} {𝓤 : Ura M} (𝓛 : Logic 𝓤) (𝓜 : Model 𝓤 𝓛.H)
    (𝓡 : Running 𝓤 𝓛.H 𝓜) (γ : Routines) (k kf f : Callee)
    → Closed 𝓤 𝓛.H (tables 𝓤 𝓛.H 𝓜 𝓡 γ).C (tables 𝓤 𝓛.H 𝓜 𝓡 γ).Λ k (function 𝓔 D kf f)
    → (r₁ : Routine) → γ kf ≡ r₁ → Triple 𝓤 (𝓡.run r₁) (step_contract 𝓔 D 𝓔.R changedOf 𝓛) → (r₂ : Routine) → γ f ≡ r₂ → Triple 𝓤 (𝓡.run r₂)
    (step_contract 𝓔 D D step_of 𝓛)
    → Triple 𝓤 (𝓡.run (γ k)) (contract_of 𝓔 D changedOf step_of 𝓤 𝓛)
unfolding tables_of
rewrites-on 𝓔 D changedOf step_of {𝓤 = 𝓤} 𝓛 𝓜 𝓡 γ k kf f closed r₁ c₁ t₁ r₂ c₂ t₂ =
    entered 𝓤 𝓛.H (contract_of 𝓔 D changedOf step_of 𝓤 𝓛) (tables 𝓤 𝓛.H 𝓜 𝓡 γ).C (tables 𝓤 𝓛.H 𝓜 𝓡 γ).Λ k (function 𝓔 D kf f) closed
    (meets 𝓔 D changedOf step_of kf f 𝓛 (tables_of 𝓤 𝓛.H 𝓜 (tables 𝓤 𝓛.H 𝓜 𝓡 γ))
    (cited 𝓤 𝓛.H (step_contract 𝓔 D 𝓔.R changedOf 𝓛) 𝓜 𝓡 γ kf r₁ c₁ t₁) (cited 𝓤 𝓛.H (step_contract 𝓔 D D step_of 𝓛) 𝓜 𝓡 γ f r₂ c₂ t₂))
