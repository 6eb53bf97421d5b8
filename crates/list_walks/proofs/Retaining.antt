-- Every function of the form
--     fn retain(list: &mut [R], n: usize) -> usize {
--         let mut i: usize = 0; let mut j: usize = 0;
--         while i < n { let r = list[i]; let k = keeps(r); i += 1; if k { list[j] = r; j += 1; } }
--         j
--     }
-- where the callee is a function of plain data that ensures `r ≡ keepOf x`: its MIR (`function`) meets its contract (`clauses`). R is any type of plain data.
-- Assumes `Logic`, and that the callee meets its contract.
use mathlib.Core.Path.{◌≡◌, refl, sym, ◌∙◌, ap, subst}
use mathlib.Core.Logic.{⊎_elim}
use mathlib.Core.Bool.{Bool, true, false}
use mathlib.Core.WellFounded.InvImage
use mathlib.Core.WellFounded.{WellFounded}
use lib.WfN.{lt-wf_rel}
use Prim.Native.Nat.{ℕ, ◌<◌, ◌≤◌, ◌^◌, ◌+◌, ◌-◌, zero-le}
use native.Mathlib.Nat.{eq-or-lt_of_le, le_refl}
use native.Mathlib.Omega.{arith}
use borrow.Author.Tests.{lt-ltb, le-ltb}
use lib.Dec.{lit<}
use mathlib.Core.List.{[], ◌∷◌, List}
use lib.ListN.{length, get_or, set, take, length-append}
use seplogic.Ra.Ura.{Ura}
use base.Fraction.{full_share}
use mir.Syntax.{Callee, Fn, named, mut, w64, unsigned, ty_bool, ty_ptr, ty_ref, Ty, Body, field, deref, place, copy, int, local, value_local, skip as skipᴹ, seq, assign, call, block}
use mir.Syntax.{loop, cond, exit, return, rv_opd, op2, add, mul, lt, offset}
use mir.Val.{Val, vint, vptr, vbool}
use base.Logic.{SProp, ent}
use base.Fml.{Lft, Share, GName, ftrue, fat, froom, fdies, flft, fobor, fobs, fauth, fbor}
use prog.Routine.{Routine, Env as Routines}
use prog.Model.{Model}
use prog.Wp.{Env, WpFn, Closed, Tables, after_turn}
use types.Logic.{Logic}
use contract.Monad.{fact}
use contract.Running.{Running, tables, tables_of}
use types.Kit.{Item, ‵, ◌⊛◌, ⋆, at_ret, ◌$◌, ◌∵◌, !, qed, by, move, keep, drop, split, join, rewrite, fsplit, fjoin, suffices, frame, done}
use types.Run.{look, look_raw, init, store, store_raw, forget, stop, hop, fld, from, load, lit, of_opd, and_then, no_more, bin, assigns, assigns_last, land, first, blocks}
use types.Run.{branches, skips, stays, leaves_loop, exec, again, loops, returns, enter, alloc1, alloc0, params1, pass1, pass0, free1, free0}
use types.Part.{whole, sub, look_in}
use sound.WpLaws.{WpFn-mono}
use denote.RattleType.{RattleType, owns}
use denote.Shadow.{pure_i}
use denote.Memory.{pointee}
use denote.Laws.{Is, shows}
use denote.Plain.{uint_vals, uint_Tells, uint_Makes, bool_Tells}
use denote.Builtin.{usize}
use denote.Ref.{MutBor}
use denote.Slice.{slice_ty, slice_val, MutSlice, Room, heres, coded_holeys, mut_slice_at, mut_slice_vals, mut_slice_Tells}
use denote.Lend.{Held}
use denote.Index.{row as cells-row, elem_out, elem_back, elem_put, opens_slice, closes_slice}
use denote.Steps.{only, owned, nothing}
use denote.Triple.Entry.{on_entry}
use denote.Triple.Spec.{Meets, triple_of}
use denote.Triple.Statement.{Contract, Triple}
use denote.Triple.Clauses.{Ended, Clauses, closing}
use denote.Triple.Table.{entered, cited}
use denote.Triple.Walked.{says, needs, Stays, stay_slice, stay_none, walk_of, Goes-slice, ends_at, walked, walk_Meets}
use denote.Exit.{yes}
use denote.Signature.{Signature, plain, mut_slice}
use Rattle.walks.proofs.Args.{Datum, row, boolean, uint, goes, Dens}
use Rattle.list_walks.proofs.Elements.{Element, place-fits, place_of, word, Good}
use Rattle.list_walks.specs.Sift.{sifted, over}
use Rattle.list_walks.proofs.Sifted.{is_true, is_false, kept, kept_more, kept_same, kept-short, over-length, over-get_or, over-more}
use Rattle.list_walks.proofs.Called.{of_contract, calls-of}
use Rattle.list_walks.proofs.Folded.{any_of}

module _ (𝓔 : Element) where
  abbrev slice : Ty
  slice = slice_ty (ty_ref (named 0) mut (pointee 𝓔.R.written))

module _ (𝓔 : Element) where
  abbrev pub signature : Signature
  signature = record { lifetimes = 1; outlives = []; params = mut_slice 0 tt (λ _. row 𝓔.R) ∷ plain (λ _. usize) ∷ []; result = plain (λ _. usize) }

  abbrev pub ended : Ended
  ended = record { signature = signature; kept = (yes, (yes, tt)) }

  abbrev stayed : Stays ended.signature.params ended.kept
  stayed = (stay_slice (0 ∷ []) tt (plain (λ _. row 𝓔.R)), (stay_none (λ _. usize) yes, tt))

  abbrev store_body : Body
  store_body = seq (assign (place 11 []) (op2 (mul unsigned) (copy (place 4 [])) (int w64 𝓔.bytes)))
      (seq (assign (place 12 []) (op2 offset (copy (place 1 (field 0 ∷ []))) (copy (place 11 []))))
      (seq (assign (place 12 (deref 𝓔.R.ty ∷ [])) (rv_opd (copy (place 5 []))))
      (assign (place 4 []) (op2 (add unsigned) (copy (place 4 [])) (int w64 1)))))

  -- a turn, after its test
  abbrev more : Callee → Body
  more k = seq (assign (place 8 []) (op2 (mul unsigned) (copy (place 3 [])) (int w64 𝓔.bytes)))
      (seq (assign (place 9 []) (op2 offset (copy (place 1 (field 0 ∷ []))) (copy (place 8 []))))
      (seq (assign (place 10 []) (rv_opd (copy (place 9 (deref 𝓔.R.ty ∷ [])))))
      (seq (assign (place 5 []) (rv_opd (copy (place 10 []))))
      (seq (call k (copy (place 5 []) ∷ []) (place 6 []))
      (seq (assign (place 3 []) (op2 (add unsigned) (copy (place 3 [])) (int w64 1)))
      (seq (assign (place 7 []) (rv_opd (copy (place 6 []))))
      (cond (copy (place 7 [])) store_body skipᴹ)))))))

  abbrev rest : Body
  rest = seq (assign (place 0 []) (rv_opd (copy (place 4 [])))) return

  -- the locals: the result, list, n, i, j, r, k, the test, and the places and elements in between
  abbrev pub function : Callee → Fn
  function k = record {
    lifetimes = 1;
    outlives = [];
    ty_params = [];
    givens = 0;
    params = 2;
    locals = local word value_local ∷ local (slice 𝓔) value_local ∷ local word value_local ∷ local word value_local
        ∷ local word value_local ∷ local 𝓔.R.ty value_local ∷ local ty_bool value_local ∷ local ty_bool value_local ∷ local word value_local ∷ local ty_ptr value_local ∷ local
        𝓔.R.ty value_local ∷ local word value_local ∷ local ty_ptr value_local ∷ [];
    body = seq (assign (place 3 []) (rv_opd (int w64 0))) (seq (assign (place 4 []) (rv_opd (int w64 0)))
        (seq (block (loop (seq (assign (place 7 []) (op2 (lt unsigned) (copy (place 3 [])) (copy (place 2 [])))) (seq (cond (copy (place 7 [])) skipᴹ (exit 1)) (more k)))))
        rest));
  }

  module _ (keepOf : 𝓔.R.D → Bool) {M : Type 1} (𝓤 : Ura M) where
    -- what is kept, and the list with it in front
    abbrev pub Retained : List 𝓔.R.D → ℕ → List 𝓔.R.D → ℕ → Type 0
    Retained l n l' r = (r ≡ length (sifted keepOf (take n l))) × (l' ≡ over (sifted keepOf (take n l)) l)

    -- `requires { ⌜ n ≤ length (now list) ⌝ }    ensures { λ r. ⌜ Retained (now list.entry) n (now list.exit) r ⌝ }`, spelled out
    abbrev pub clauses : Clauses 𝓤 ended
    clauses κs a = record {
      ghost = Unit {0};
      requires = λ _. fact 𝓤 (a.1.0 ≤ length a.0.now);
      ensures = λ _ r e. fact 𝓤 (Retained a.0.now a.1.0 e.0.now r);
    }

    abbrev pub contract_of : (𝓛 : Logic 𝓤) → Contract 𝓤
    contract_of 𝓛 = triple_of 𝓛 signature (closing 𝓛 ended clauses)

-- `keeps(r: R) -> bool`
module _ (𝓔 : Element) (keepOf : 𝓔.R.D → Bool) where
  abbrev keep_args : List Datum
  keep_args = 𝓔.R ∷ []

  abbrev keep_of : Dens keep_args → Bool
  keep_of d = keepOf d.0

  abbrev pub keep_contract : {M : Type 1} {𝓤 : Ura M} (𝓛 : Logic 𝓤) → Contract 𝓤
  keep_contract {𝓤 = 𝓤} 𝓛 = of_contract keep_args boolean 𝓤 𝓛 keep_of

module _ (𝓔 : Element) (keepOf : 𝓔.R.D → Bool) (kf : Callee) {M : Type 1} {𝓤 : Ura M} (𝓛 : Logic 𝓤) where
  open 𝓛 use {H}

  abbrev X : Type 0
  X = 𝓔.R.D

  abbrev R : RattleType
  R = row 𝓔.R

  abbrev rvals : X → List Val
  rvals y = 𝓔.R.val y ∷ []

  module _ (κ : Lft) (q : Share) (b o : ℕ) (γ : GName) (ys : List X) (n : ℕ) where
    abbrev x : List X → MutBor (List X)
    x m = record { ref_ptr = (b, o); ghost_name = γ; now = m }

    abbrev s : Val
    s = slice_val (b, o) (length ys)

    abbrev a : MutBor (List X) × (ℕ × Unit {0})
    a = (x ys, (n, tt))

    abbrev vals : List Val × (List Val × Unit {0})
    vals = (s ∷ [], (vint w64 n ∷ [], tt))

    abbrev ks : ℕ → List X
    ks i = kept keepOf ys i

    abbrev zs : ℕ → List X
    zs i = over (ks i) ys

    abbrev Post : Val → SProp 𝓤
    Post = (walk_of 𝓛 (ended 𝓔) (stayed 𝓔) (clauses 𝓔 keepOf 𝓤)).post (((κ, tt), (q, tt), tt, a, vals), tt)

    module _ (room : Room R (length ys)) (n-fits : n < 2 ^ 64) (within : n ≤ length ys) where
      short : (i : ℕ) → i ≤ n → length (ks i) ≤ i
      short i h = kept-short keepOf ys i (omega arith)

      same : (i : ℕ) → i ≤ n → length (zs i) ≡ length ys
      same i h = over-length ys (ks i) (omega (arith, short i h))

      count_fits : length (ks n) < 2 ^ 64
      count_fits = omega (arith, short n (le_refl n))

      exits : ent 𝓤 (⋆ 𝓛 (‵ (fobs γ ((coded_holeys R).code (heres R (zs n)))) ∷ ‵ (fbor κ (Held R (length (zs n)) b o γ)) ∷ ‵ (flft κ q) ∷ [])) (Post (vint w64 (length (ks n))))
      exits =
          qed 𝓛 (‵ (fobs γ ((coded_holeys R).code (heres R (zs n)))) ∷ ‵ (fbor κ (Held R (length (zs n)) b o γ)) ∷ ‵ (flft κ q) ∷ []) ∵
          suffices ! _ (ends_at 𝓛 (ended 𝓔) (stayed 𝓔) (clauses 𝓔 keepOf 𝓤) (((κ, tt), (q, tt), tt, a, vals), tt) (vint w64 (length (ks n))) (length (ks n))
          (zs n, (tt, tt)) (same n (le_refl n), (tt, tt))) $ says ! (refl, refl) $
          nothing ! $ move ! (3 ∷ 0 ∷ []) $ join ! $ frame ! $
          fjoin ! $ pure_i ! (mut_slice_at R (x (zs n)) (s ∷ [])) (tt, (tt, tt))
          (ap (λ (m : ℕ). slice_val (b, o) m ∷ []) (sym (same n (le_refl n))), subst (Room R) (sym (same n (le_refl n))) room) $ fjoin ! $
          nothing ! $ owned ! usize (Is usize) (uint_Makes 𝓛 w64) n _ (refl, n-fits) $ fjoin ! $
          move ! (1 ∷ 0 ∷ []) $ fjoin ! $ owned ! usize (Is usize) (uint_Makes 𝓛 w64) (length (ks n)) _ (refl, count_fits) $ move ! (1 ∷ 0 ∷ []) $ done !

      abbrev Upto : Type 0
      Upto = (i : ℕ) × (i ≤ n)

      abbrev Nearer : Upto → Upto → Type 0
      Nearer j i = n - j.0 < n - i.0

      Nearer-wf : WellFounded Nearer
      Nearer-wf = InvImage.wf (λ (i : Upto). n - i.0) lt-wf_rel.wf

      next : (i : ℕ) → i < n → (i + 1 ≤ n) × (n - (i + 1) < n - i)
      next i less = (omega arith, omega arith)

      in_list : (i : ℕ) → i < n → i < length ys
      in_list i less = omega arith

      in-now : (i : ℕ) → i < n → i < length (zs i)
      in-now i less = omega (arith, same i (omega arith))

      j-in : (i : ℕ) → i < n → length (ks i) < length ys
      j-in i less = omega (arith, short i (omega arith))

      j-in-now : (i : ℕ) → i < n → length (ks i) < length (zs i)
      j-in-now i less = omega (arith, short i (omega arith), same i (omega arith))

      j-fits : (i : ℕ) → i < n → length (ks i) + 1 < 2 ^ 64
      j-fits i less = omega (arith, short i (omega arith))

      no-elem : (i : ℕ) → i < n → X
      no-elem i less = any_of ys i (in_list i less)

      abbrev elem : (i : ℕ) → i < n → X
      elem i less = get_or ys i (no-elem i less)

      read_is : (i : ℕ) (less : i < n) → get_or (zs i) i (no-elem i less) ≡ elem i less
      read_is i less = over-get_or ys (ks i) i (no-elem i less) (short i (omega arith))

      good-read : (i : ℕ) (less : i < n) → Good 𝓔.R (get_or (zs i) i (no-elem i less)) → Good 𝓔.R (elem i less)
      good-read i less = subst (Good 𝓔.R) (read_is i less)

      -- it is kept, or not
      yes-list : (i : ℕ) (less : i < n) → keepOf (elem i less) ≡ true → set (zs i) (length (ks i)) (elem i less) ≡ zs (i + 1)
      yes-list i less e = over-more ys (ks i) (elem i less) (j-in i less) ∙ ap (λ (m : List X). over m ys)
          (sym (kept_more keepOf ys i (no-elem i less) (in_list i less) e))

      yes-count : (i : ℕ) (less : i < n) → keepOf (elem i less) ≡ true → length (ks i) + 1 ≡ length (ks (i + 1))
      yes-count i less e = sym (ap (λ (m : List X). length m) (kept_more keepOf ys i (no-elem i less) (in_list i less) e) ∙ length-append (ks i) (elem i less ∷ []))

      no_same : (i : ℕ) (less : i < n) → keepOf (elem i less) ≡ false → ks i ≡ ks (i + 1)
      no_same i less e = sym (kept_same keepOf ys i (no-elem i less) (in_list i less) e)

      module _ (l₀ l₁ l₂ l₃ l₄ l₅ l₆ l₇ l₈ l₉ l₁₀ l₁₁ l₁₂ : ℕ) where
        abbrev En : Env 𝓤 H
        En = (word, l₀) ∷ (slice 𝓔, l₁) ∷ (word, l₂) ∷ (word, l₃) ∷ (word, l₄) ∷ (𝓔.R.ty, l₅) ∷ (ty_bool, l₆) ∷ (ty_bool, l₇) ∷ (word, l₈)
            ∷ (ty_ptr, l₉) ∷ (𝓔.R.ty, l₁₀) ∷ (word, l₁₁) ∷ (ty_ptr, l₁₂) ∷ []

        abbrev At : Upto → List (Item 𝓤)
        At i = ‵ (cells-row R full_share (zs i.0) b o) ∷ ‵ (fobor κ q (Held R (length ys) b o γ)) ∷ ‵ (fobs γ ((coded_holeys R).code (heres R ys)))
            ∷ ‵ (fauth γ ((coded_holeys R).code (heres R ys)))
            ∷ ‵ (froom ty_ptr l₁₂ 0) ∷ ‵ (fdies ty_ptr l₁₂) ∷ ‵ (froom word l₁₁ 0) ∷ ‵ (fdies word l₁₁) ∷ ‵ (froom 𝓔.R.ty l₁₀ 0) ∷ ‵ (fdies 𝓔.R.ty l₁₀)
            ∷ ‵ (froom ty_ptr l₉ 0) ∷ ‵ (fdies ty_ptr l₉) ∷ ‵ (froom word l₈ 0) ∷ ‵ (fdies word l₈) ∷ ‵ (froom ty_bool l₇ 0) ∷ ‵ (fdies ty_bool l₇) ∷ ‵ (froom ty_bool l₆ 0)
            ∷ ‵ (fdies ty_bool l₆) ∷ ‵ (froom 𝓔.R.ty l₅ 0) ∷ ‵ (fdies 𝓔.R.ty l₅) ∷ ‵ (fat full_share word l₄ 0 (vint w64 (length (ks i.0)))) ∷ ‵ (fdies word l₄)
            ∷ ‵ (fat full_share word l₃ 0 (vint w64 i.0)) ∷ ‵ (fdies word l₃) ∷ ‵ (fat full_share word l₂ 0 (vint w64 n)) ∷ ‵ (fdies word l₂)
            ∷ ‵ (fat full_share (slice 𝓔) l₁ 0 s) ∷ ‵ (fdies (slice 𝓔) l₁) ∷ ‵ (froom word l₀ 0) ∷ ‵ (fdies word l₀) ∷ []

      module _ (𝓣 : Tables 𝓤 H) (known-keep : Triple 𝓤 (𝓣.C kf) (keep_contract 𝓔 keepOf 𝓛)) where
        walk : ent 𝓤 (on_entry 𝓛 (signature 𝓔) (κ, tt) (q, tt) a vals) (WpFn 𝓤 H 𝓣.C 𝓣.Λ (function 𝓔 kf) (s ∷ vint w64 n ∷ []) Post)
        unfolding after_turn sifted
        walk =
            qed 𝓛 ((‵ (flft κ q) ⊛ ‵ ftrue) ∷ ‵ (owns (MutSlice (named 0) κ R ∷ usize ∷ []) a vals) ∷ []) ∵ enter ! 𝓣.C 𝓣.Λ (function 𝓔 kf)
            (s ∷ vint w64 n ∷ []) _ $
            alloc1 ! (λ l₀. alloc1 ! (λ l₁. alloc1 ! (λ l₂. alloc1 ! (λ l₃.
            alloc1 ! (λ l₄. alloc1 ! (λ l₅. alloc1 ! (λ l₆. alloc1 ! (λ l₇.
            alloc1 ! (λ l₈. alloc1 ! (λ l₉. alloc1 ! (λ l₁₀. alloc1 ! (λ l₁₁. alloc1 ! (λ l₁₂. alloc0 ! $ params1 ! $
            pass1 ! (init ! 22 refl (tt, (tt, (record { fits = room.0 }, tt)))) $ pass1 ! (init ! 20 refl (tt, record { fits = n-fits })) $ pass0 ! $
            assigns ! (of_opd ! (lit ! tt)) (from ! (stop !)) (init ! 18 refl (tt, record { fits = lit< tt })) $
            assigns ! (of_opd ! (lit ! tt)) (from ! (stop !)) (init ! 16 refl (tt, record { fits = lit< tt })) $
            -- the borrow is opened
            move ! (27 ∷ []) $ fsplit ! $ fsplit ! $ drop ! $ fsplit ! $ move ! (29 ∷ []) $ split ! $ move ! (2 ∷ 3 ∷ 0 ∷ []) $ opens_slice ! tt R ys b o $
            keep ! (0 ∷ 1 ∷ 2 ∷ 3 ∷ 6 ∷ 7 ∷ 8 ∷ 9 ∷ 10 ∷ 11 ∷ 12 ∷ 13 ∷ 14 ∷ 15 ∷ 16 ∷ 17 ∷ 18 ∷ 19 ∷ 20 ∷ 21 ∷ 22 ∷ 23 ∷ 24 ∷ 25 ∷ 26 ∷ 27 ∷ 28 ∷ 29 ∷ 30 ∷ 31 ∷ []) $
            first ! $ blocks ! $ loops ! 𝓣 Nearer Nearer-wf (At l₀ l₁ l₂ l₃ l₄ l₅ l₆ l₇ l₈ l₉ l₁₀ l₁₁ l₁₂) (λ i.
            -- [row; the open borrow; obs; auth; _14 4; …]
            assigns ! (bin ! (load ! (from ! (stop !)) (look ! 22 refl)) (load ! (from ! (stop !)) (look ! 24 refl)) tt) (from ! (stop !)) (init ! 14 refl (tt, tt)) $
            ⊎_elim (λ past.
            rewrite ! 14 (λ (u : Bool). ‵ (fat full_share ty_bool l₇ 0 (vbool u))) (le-ltb i.0 n (omega arith)) refl $
            leaves_loop ! (load ! (from ! (stop !)) (look ! 14 refl)) $ exec ! 𝓣.C 𝓣.Λ (En l₀ l₁ l₂ l₃ l₄ l₅ l₆ l₇ l₈ l₉ l₁₀ l₁₁ l₁₂) (rest 𝓔)
            (at_ret (En l₀ l₁ l₂ l₃ l₄ l₅ l₆ l₇ l₈ l₉ l₁₀ l₁₁ l₁₂) Post) $
            rewrite ! 20 (λ (m : ℕ). ‵ (fat full_share word l₄ 0 (vint w64 (length (ks m))))) past refl $
            assigns ! (of_opd ! (load ! (from ! (stop !)) (look ! 20 refl))) (from ! (stop !)) (init ! 28 refl (tt, record { fits = count_fits })) $
            rewrite ! 0 (λ (m : List X). ‵ (cells-row R full_share m b o)) (ap zs past) refl $ closes_slice ! tt R ys (zs n) (same n (le_refl n)) b o $
            -- [obs; the borrow; the token; _14 3; …]
            returns ! (look ! 27 refl) $ forget ! 13 refl $ forget ! 19 refl $ forget ! 21 refl $ forget ! 23 refl $ forget ! 25 refl $ forget ! 27 refl $
            move ! (27 ∷ 28 ∷ []) $ free1 ! $ move ! (25 ∷ 26 ∷ []) $ free1 ! $ move ! (23 ∷ 24 ∷ []) $
            free1 ! $ move ! (21 ∷ 22 ∷ []) $ free1 ! $ move ! (19 ∷ 20 ∷ []) $ free1 ! $ move ! (17 ∷ 18 ∷ []) $ free1 ! $ move ! (15 ∷ 16 ∷ []) $ free1 ! $
            move ! (13 ∷ 14 ∷ []) $ free1 ! $ move ! (11 ∷ 12 ∷ []) $ free1 ! $ move ! (9 ∷ 10 ∷ []) $ free1 ! $ move ! (7 ∷ 8 ∷ []) $ free1 ! $ move ! (5 ∷ 6 ∷ []) $ free1 ! $
            move ! (3 ∷ 4 ∷ []) $ free1 ! $ free0 ! $
            by ! exits) (λ less.
            rewrite ! 14 (λ (u : Bool). ‵ (fat full_share ty_bool l₇ 0 (vbool u))) (lt-ltb i.0 n less) refl $
            stays ! (load ! (from ! (stop !)) (look ! 14 refl)) $
            assigns ! (bin ! (load ! (from ! (stop !)) (look ! 22 refl)) (lit ! 𝓔.bytes_fit) (record { fits = place-fits 𝓔 (length ys) i.0 room (in_list i.0 less) }))
            (from ! (stop !)) (init ! 12 refl (tt, record { fits = place-fits 𝓔 (length ys) i.0 room (in_list i.0 less) })) $
            assigns ! (bin ! (load ! (from ! (fld ! refl (stop !))) (look_in ! 26 (sub ! 0 refl (whole !)))) (load ! (from ! (stop !)) (look ! 12 refl)) tt) (from ! (stop !))
            (init ! 10 refl (tt, tt)) $
            rewrite ! 10 (λ (m : ℕ). ‵ (fat full_share ty_ptr l₉ 0 (vptr b m))) (sym (place_of 𝓔 o i.0)) refl $
            -- an element is copied out of the row
            elem_out ! R (Is R) (shows 𝓛 R) rvals 𝓔.R.tells full_share (zs i.0) i.0 (no-elem i.0 less) b o (in-now i.0 less) (λ h₀.
            -- [the element; what it owns; the others; the open borrow; obs; auth; _14 6; …]
            assigns ! (of_opd ! (load ! (from ! (hop ! (look ! 12 refl) (stop !))) (look_raw ! 0 refl))) (from ! (stop !))
            (init ! 10 refl (𝓔.R.typed 𝓛 (get_or (zs i.0) i.0 (no-elem i.0 less)) _ h₀)) $
            elem_back ! R full_share (zs i.0) i.0 (no-elem i.0 less) (rvals (get_or (zs i.0) i.0 (no-elem i.0 less))) b o (in-now i.0 less) $
            rewrite ! 8 (λ (e : X). ‵ (fat full_share 𝓔.R.ty l₁₀ 0 (𝓔.R.val e))) (read_is i.0 less) refl $
            assigns ! (of_opd ! (load ! (from ! (stop !)) (look ! 8 refl))) (from ! (stop !))
            (init ! 18 refl (𝓔.R.typed 𝓛 (elem i.0 less) _ (good-read i.0 less h₀))) $
            calls-of ! 𝓣 (keep_args 𝓔 keepOf) boolean (keep_of 𝓔 keepOf) known-keep (elem i.0 less, tt) (good-read i.0 less h₀, tt)
            (and_then ! (load ! (from ! (stop !)) (look ! 19 refl)) (no_more !)) (λ k u is-k e-k.
            land ! (from ! (stop !)) (init ! 16 refl (boolean.typed 𝓛 k _ is-k)) $
            rewrite ! 16 (λ (m : Val). ‵ (fat full_share ty_bool l₆ 0 m)) (ap only (bool_Tells k (u ∷ []) is-k)) refl $
            assigns ! (bin ! (load ! (from ! (stop !)) (look ! 22 refl)) (lit ! tt) (record { fits = omega arith })) (from ! (stop !))
            (store ! 22 refl (tt, record { fits = omega arith })) $
            assigns ! (of_opd ! (load ! (from ! (stop !)) (look ! 16 refl))) (from ! (stop !)) (store ! 14 refl (tt, tt)) $
            branches ! (load ! (from ! (stop !)) (look ! 14 refl)) (λ t.
            -- it is kept: an element is taken out of the row, stored to, and put back
            assigns ! (bin ! (load ! (from ! (stop !)) (look ! 20 refl)) (lit ! 𝓔.bytes_fit)
            (record { fits = place-fits 𝓔 (length ys) (length (ks i.0)) room (j-in i.0 less) })) (from ! (stop !))
            (init ! 6 refl (tt, record { fits = place-fits 𝓔 (length ys) (length (ks i.0)) room (j-in i.0 less) })) $
            assigns ! (bin ! (load ! (from ! (fld ! refl (stop !))) (look_in ! 26 (sub ! 0 refl (whole !)))) (load ! (from ! (stop !)) (look ! 6 refl)) tt) (from ! (stop !))
            (init ! 4 refl (tt, tt)) $
            rewrite ! 4 (λ (m : ℕ). ‵ (fat full_share ty_ptr l₁₂ 0 (vptr b m))) (sym (place_of 𝓔 o (length (ks i.0)))) refl $
            elem_out ! R (Is R) (shows 𝓛 R) rvals 𝓔.R.tells full_share (zs i.0) (length (ks i.0)) (elem i.0 less) b o (j-in-now i.0 less) (λ _.
            assigns ! (of_opd ! (load ! (from ! (stop !)) (look ! 20 refl))) (from ! (hop ! (look ! 6 refl) (stop !)))
            (store_raw ! 0 refl (𝓔.R.typed 𝓛 (elem i.0 less) _ (good-read i.0 less h₀))) $
            move ! (1 ∷ []) $ drop ! $ owned ! R (Is R) (𝓔.R.makes 𝓛) (elem i.0 less) _ (good-read i.0 less h₀) $ move ! (1 ∷ 0 ∷ []) $
            elem_put ! R full_share (zs i.0) (length (ks i.0)) (elem i.0 less) (rvals (elem i.0 less)) b o (j-in-now i.0 less) $
            rewrite ! 0 (λ (m : List X). ‵ (cells-row R full_share m b o)) (yes-list i.0 less (sym e-k ∙ is_true k t)) refl $
            assigns_last ! (bin ! (load ! (from ! (stop !)) (look ! 20 refl)) (lit ! tt) (record { fits = j-fits i.0 less })) (from ! (stop !))
            (store ! 20 refl (tt, record { fits = j-fits i.0 less })) $
            rewrite ! 20 (λ (m : ℕ). ‵ (fat full_share word l₄ 0 (vint w64 m))) (yes-count i.0 less (sym e-k ∙ is_true k t)) refl $
            forget ! 4 refl $ forget ! 6 refl $ forget ! 8 refl $ forget ! 10 refl $ forget ! 12 refl $ forget ! 14 refl $ forget ! 16 refl $ forget ! 18 refl $
            again ! Nearer (At l₀ l₁ l₂ l₃ l₄ l₅ l₆ l₇ l₈ l₉ l₁₀ l₁₁ l₁₂) i
            (i.0 + 1, (next i.0 less).0) (next i.0 less).1)) (λ t.
            -- it is not
            skips ! $
            rewrite ! 0 (λ (m : List X). ‵ (cells-row R full_share (over m ys) b o)) (no_same i.0 less (sym e-k ∙ is_false k t)) refl $
            rewrite ! 20 (λ (m : List X). ‵ (fat full_share word l₄ 0 (vint w64 (length m)))) (no_same i.0 less (sym e-k ∙ is_false k t)) refl $
            forget ! 8 refl $ forget ! 10 refl $ forget ! 12 refl $ forget ! 14 refl $ forget ! 16 refl $ forget ! 18 refl $
            again ! Nearer (At l₀ l₁ l₂ l₃ l₄ l₅ l₆ l₇ l₈ l₉ l₁₀ l₁₁ l₁₂) i
            (i.0 + 1, (next i.0 less).0) (next i.0 less).1)))) (eq-or-lt_of_le i.1))
            (0, zero-le))))))))))))))

  module _ (𝓣 : Tables 𝓤 H) (known-keep : Triple 𝓤 (𝓣.C kf) (keep_contract 𝓔 keepOf 𝓛)) where
    meets : Meets 𝓛 (signature 𝓔) (WpFn 𝓤 H 𝓣.C 𝓣.Λ (function 𝓔 kf)) (closing 𝓛 (ended 𝓔) (clauses 𝓔 keepOf 𝓤))
    meets = walk_Meets 𝓛 (ended 𝓔) (stayed 𝓔) (Goes-slice 𝓛 1 0 tt (plain (λ _. R)), goes 1 𝓛 (uint w64 ∷ [])) (clauses 𝓔 keepOf 𝓤)
        (WpFn 𝓤 H 𝓣.C 𝓣.Λ (function 𝓔 kf)) (WpFn-mono 𝓤 H 𝓛.laws 𝓣 (function 𝓔 kf))
        (walked 𝓛 (ended 𝓔) (stayed 𝓔) (clauses 𝓔 keepOf 𝓤) (WpFn 𝓤 H 𝓣.C 𝓣.Λ (function 𝓔 kf))
        (λ κs. (mut_slice_vals, (uint_vals w64, tt))) (λ κs. (mut_slice_Tells (named 0) κs.0 R, (uint_Tells w64, tt)))
        (λ κs qs bounds a g are. needs 𝓤 (a.1.0 ≤ length a.0.now) _
        (λ within. walk κs.0 qs.0 a.0.ref_ptr.0 a.0.ref_ptr.1 a.0.ghost_name a.0.now a.1.0 are.0.0.1 are.1.0.1 within 𝓣 known-keep)))

-- what the proof of such a function cites
pub retains : (𝓔 : Element) (keepOf : 𝓔.R.D → Bool) {M : Type 1} {𝓤 : Ura M} (𝓛 : Logic 𝓤) (𝓜 : Model 𝓤 𝓛.H)
    (𝓡 : Running 𝓤 𝓛.H 𝓜) (γ : Routines) (k kf : Callee)
    → Closed 𝓤 𝓛.H (tables 𝓤 𝓛.H 𝓜 𝓡 γ).C (tables 𝓤 𝓛.H 𝓜 𝓡 γ).Λ k (function 𝓔 kf)
    → (r₁ : Routine) → γ kf ≡ r₁ → Triple 𝓤 (𝓡.run r₁) (keep_contract 𝓔 keepOf 𝓛)
    → Triple 𝓤 (𝓡.run (γ k)) (contract_of 𝓔 keepOf 𝓤 𝓛)
unfolding tables_of
retains 𝓔 keepOf {𝓤 = 𝓤} 𝓛 𝓜 𝓡 γ k kf closed r₁ c₁ t₁ =
    entered 𝓤 𝓛.H (contract_of 𝓔 keepOf 𝓤 𝓛) (tables 𝓤 𝓛.H 𝓜 𝓡 γ).C (tables 𝓤 𝓛.H 𝓜 𝓡 γ).Λ k (function 𝓔 kf) closed
    (meets 𝓔 keepOf kf 𝓛 (tables_of 𝓤 𝓛.H 𝓜 (tables 𝓤 𝓛.H 𝓜 𝓡 γ)) (cited 𝓤 𝓛.H (keep_contract 𝓔 keepOf 𝓛) 𝓜 𝓡 γ kf r₁ c₁ t₁))
