-- Every function of the form
--     fn copy_moved(src: &[R], n: usize, dst: &mut [R], at: usize, shift: S) {
--         let mut i: usize = 0;
--         while i < n { let r = src[i]; dst[at + i] = moved(shift, i, r); i += 1; }
--     }
-- where `moved` is a function of plain data that ensures `r ≡ moved_of shift i x`: its MIR (`function`) meets its contract (`clauses`). R and S are any types of plain data.
-- Assumes `Logic`, and that `moved` meets its contract.
use mathlib.Core.Path.{◌≡◌, refl, sym, ◌∙◌, ap, subst}
use mathlib.Core.Logic.{⊎_elim}
use mathlib.Core.Bool.{Bool}
use mathlib.Core.WellFounded.InvImage
use mathlib.Core.WellFounded.{WellFounded}
use lib.WfN.{lt-wf_rel}
use Prim.Native.Nat.{ℕ, ◌<◌, ◌≤◌, ◌^◌, ◌+◌, ◌-◌, zero-le}
use native.Mathlib.Nat.{eq-or-lt_of_le, le_refl, zero-add}
use native.Mathlib.Omega.{arith}
use borrow.Author.Tests.{lt-ltb, le-ltb}
use lib.Dec.{lit<}
use mathlib.Core.List.{[], ◌∷◌, List}
use lib.ListN.{length, get_or, set}
use seplogic.Ra.Ura.{Ura}
use base.Fraction.{full_share}
use mir.Syntax.{Callee, Fn, named, imm, mut, w64, unsigned, ty_bool, ty_ptr, ty_ref, ty_unit, Ty, Body, field, deref, place, copy, int, local, value_local, skip as skipᴹ, seq, assign}
use mir.Syntax.{call, block, loop, cond, exit, return, rv_opd, opd_unit, op2, add, mul, lt, offset}
use mir.Val.{Val, vint, vptr, vbool, vunit}
use base.Logic.{SProp, ent}
use base.Fml.{Lft, Share, GName, ftrue, fat, froom, fdies, flft, fobor, fobs, fauth, fbor}
use prog.Routine.{Routine, Env as Routines}
use prog.Model.{Model}
use prog.Wp.{Env, WpFn, Closed, Tables, after_turn}
use types.Logic.{Logic}
use contract.Monad.{fact}
use contract.Running.{Running, tables, tables_of}
use types.Kit.{Item, ‵, ◌⊛◌, ⋆, at_ret, ◌$◌, ◌∵◌, !, qed, by, move, keep, drop, split, join, rewrite, fsplit, fjoin, feq_i, use1, suffices, frame, done}
use types.Run.{look, look_raw, init, store, store_raw, forget, stop, hop, fld, from, load, lit, unit_lit, of_opd, and_then, no_more, bin, assigns, assigns_last, land, first}
use types.Run.{blocks, stays, leaves_loop, exec, again, loops, returns, enter, alloc1, alloc0, params1, pass1, pass0, free1, free0}
use types.Part.{whole, sub, look_in}
use sound.WpLaws.{WpFn-mono}
use denote.RattleType.{RattleType, owns}
use denote.Shadow.{shadow, pure_i}
use denote.Memory.{pointee}
use denote.Laws.{Is, shows}
use denote.Plain.{Nothing, uint_vals, uint_Tells, uint_Makes}
use denote.Builtin.{usize}
use denote.Ref.{Bor, MutBor}
use denote.Slice.{slice_ty, slice_val, ShrSlice, MutSlice, Room, heres, coded_holeys, mut_slice_at, mut_slice_vals, shr_slice_vals, shr_slice_Tells, mut_slice_Tells, shr_slice_copy}
use denote.Lend.{Held}
use denote.Opens.{Shut}
use denote.Index.{row as cells-row, elem_out, elem_back, elem_put, looks_slice, shuts_slice, opens_slice, closes_slice}
use denote.Steps.{only, owned, nothing}
use denote.Triple.Entry.{on_entry}
use denote.Triple.Spec.{Meets, triple_of}
use denote.Triple.Statement.{Contract, Triple}
use denote.Triple.Clauses.{Ended, Clauses, closing}
use denote.Triple.Table.{entered, cited}
use denote.Triple.Walked.{says, needs, Stays, stay_none_slice, stay_slice, stay_none, walk_of, Goes-none_slice, Goes-slice, ends_at, walked, walk_Meets}
use denote.Exit.{yes}
use denote.Signature.{Signature, plain, shr_slice, mut_slice}
use Rattle.walks.proofs.Args.{Datum, row, uint, goes}
use Rattle.list_walks.proofs.Elements.{Element, place-fits, place_of, word, good}
use lib.Seq.{paste, paste-zero, paste-suc, length-paste}
use Rattle.list_walks.specs.Map.{map_at}
use Rattle.list_walks.proofs.Mapped.{map_at-length, map_at-get_or}
use Rattle.list_walks.proofs.Called.{step_contract, calls-step}
use Rattle.list_walks.proofs.Folded.{any_of}
use native.Mathlib.Numerals.{add-one}

module _ (𝓔 : Element) where
  abbrev shared : Ty
  shared = slice_ty (ty_ref (named 0) imm (pointee 𝓔.R.written))

  abbrev slice : Ty
  slice = slice_ty (ty_ref (named 1) mut (pointee 𝓔.R.written))

module _ (𝓔 : Element) (D : Datum) where
  abbrev pub signature : Signature
  signature = record {
    lifetimes = 2;
    outlives = [];
    params = shr_slice 0 tt (λ _. row 𝓔.R) ∷ plain (λ _. usize) ∷ mut_slice 1 tt (λ _. row 𝓔.R) ∷ plain (λ _. usize) ∷ plain (λ _. row D) ∷ [];
    result = plain (λ _. Nothing);
  }

  abbrev pub ended : Ended
  ended = record { signature = signature; kept = (yes, (yes, (yes, (yes, (yes, tt))))) }

  abbrev stayed : Stays ended.signature.params ended.kept
  stayed = (
    stay_none_slice (0 ∷ []) tt (plain (λ _. row 𝓔.R)) yes,
    (stay_none (λ _. usize) yes, (stay_slice (1 ∷ []) tt (plain (λ _. row 𝓔.R)), (stay_none (λ _. usize) yes, (stay_none (λ _. row D) yes, tt)))),
  )

  -- a turn, after its test
  abbrev more : Callee → Body
  more f = seq (assign (place 9 []) (op2 (mul unsigned) (copy (place 6 [])) (int w64 𝓔.bytes)))
      (seq (assign (place 10 []) (op2 offset (copy (place 1 (field 0 ∷ []))) (copy (place 9 []))))
      (seq (assign (place 11 []) (rv_opd (copy (place 10 (deref 𝓔.R.ty ∷ [])))))
      (seq (assign (place 7 []) (rv_opd (copy (place 11 []))))
      (seq (call f (copy (place 5 []) ∷ copy (place 6 []) ∷ copy (place 7 []) ∷ []) (place 11 []))
      (seq (assign (place 9 []) (op2 (add unsigned) (copy (place 4 [])) (copy (place 6 []))))
      (seq (assign (place 12 []) (op2 (mul unsigned) (copy (place 9 [])) (int w64 𝓔.bytes)))
      (seq (assign (place 13 []) (op2 offset (copy (place 3 (field 0 ∷ []))) (copy (place 12 []))))
      (seq (assign (place 13 (deref 𝓔.R.ty ∷ [])) (rv_opd (copy (place 11 []))))
      (assign (place 6 []) (op2 (add unsigned) (copy (place 6 [])) (int w64 1)))))))))))

  abbrev rest : Body
  rest = seq (assign (place 0 []) (rv_opd opd_unit)) return

  abbrev pub function : Callee → Fn
  function f = record {
    lifetimes = 2;
    outlives = [];
    ty_params = [];
    givens = 0;
    params = 5;
    locals = local ty_unit value_local ∷ local (shared 𝓔) value_local ∷ local word value_local ∷ local (slice 𝓔) value_local ∷ local word value_local ∷ local D.ty value_local
        ∷ local word value_local ∷ local 𝓔.R.ty value_local ∷ local ty_bool value_local ∷ local word value_local ∷ local ty_ptr value_local ∷ local 𝓔.R.ty value_local
        ∷ local word value_local ∷ local ty_ptr value_local ∷ [];
    body = seq (assign (place 6 []) (rv_opd (int w64 0)))
        (seq (block (loop (seq (assign (place 8 []) (op2 (lt unsigned) (copy (place 6 [])) (copy (place 2 [])))) (seq (cond (copy (place 8 [])) skipᴹ (exit 1)) (more f))))) rest);
  }

  module _ (moved_of : D.D → ℕ → 𝓔.R.D → 𝓔.R.D) {M : Type 1} (𝓤 : Ura M) where
    -- `requires { ⌜ (n ≤ length (now src)) × (at + n ≤ length (now dst)) ⌝ }
    -- ensures { λ _. ⌜ now dst.exit ≡ paste (now dst.entry) at (map_at (moved_of shift) 0 (now src.entry)) n ⌝ }`
    abbrev pub clauses : Clauses 𝓤 ended
    clauses κs a = record {
      ghost = Unit {0};
      requires = λ _. fact 𝓤 ((a.1.0 ≤ length a.0.now) × (a.1.1.1.0 + a.1.0 ≤ length a.1.1.0.now));
      ensures = λ _ r e. fact 𝓤 (e.1.1.0.now ≡ paste a.1.1.0.now a.1.1.1.0 (map_at (moved_of a.1.1.1.1.0) 0 a.0.now) a.1.0);
    }

    abbrev pub contract_of : (𝓛 : Logic 𝓤) → Contract 𝓤
    contract_of 𝓛 = triple_of 𝓛 signature (closing 𝓛 ended clauses)

module _ (𝓔 : Element) (D : Datum) (moved_of : D.D → ℕ → 𝓔.R.D → 𝓔.R.D) (f : Callee) {M : Type 1} {𝓤 : Ura M} (𝓛 : Logic 𝓤) where
  open 𝓛 use {H}

  abbrev X : Type 0
  X = 𝓔.R.D

  abbrev R : RattleType
  R = row 𝓔.R

  abbrev rvals : X → List Val
  rvals y = 𝓔.R.val y ∷ []

  module _ (κ κ' : Lft) (q q₂ : Share) (b o b₂ o₂ : ℕ) (γ₂ : GName) (xs ys : List X) (n at : ℕ) (c : D.D) where
    abbrev x₁ : Bor (List X)
    x₁ = record { ref_ptr = (b, o); now = xs }

    abbrev x₂ : List X → MutBor (List X)
    x₂ l = record { ref_ptr = (b₂, o₂); ghost_name = γ₂; now = l }

    abbrev t : Val
    t = slice_val (b, o) (length xs)

    abbrev s : Val
    s = slice_val (b₂, o₂) (length ys)

    abbrev v : Val
    v = D.val c

    abbrev a : Bor (List X) × (ℕ × (MutBor (List X) × (ℕ × (D.D × Unit {0}))))
    a = (x₁, (n, (x₂ ys, (at, (c, tt)))))

    abbrev vals : List Val × (List Val × (List Val × (List Val × (List Val × Unit {0}))))
    vals = (t ∷ [], (vint w64 n ∷ [], (s ∷ [], (vint w64 at ∷ [], (v ∷ [], tt)))))

    abbrev all : List X
    all = map_at (moved_of c) 0 xs

    -- the list with i elements written
    abbrev zs : ℕ → List X
    zs i = paste ys at all i

    abbrev mine : Item 𝓤
    mine = ‵ ((ShrSlice (named 0) κ R).own_val x₁ (t ∷ []))

    abbrev Post : Val → SProp 𝓤
    Post = (walk_of 𝓛 (ended 𝓔 D) (stayed 𝓔 D) (clauses 𝓔 D moved_of 𝓤)).post (((κ, (κ', tt)), (q, (q₂, tt)), tt, a, vals), tt)

    module _ (room : Room R (length xs)) (room₂ : Room R (length ys)) (n-fits : n < 2 ^ 64) (at-fits : at < 2 ^ 64) (g : shadow (D.own c (v ∷ []))) (inside : n ≤ length xs)
        (within : at + n ≤ length ys) where
      as_long : length all ≡ length xs
      as_long = map_at-length (moved_of c) 0 xs

      same : (i : ℕ) → i ≤ n → length (zs i) ≡ length ys
      same i h = length-paste ys at all i (omega arith) (omega (arith, as_long))

      exits : ent 𝓤 (⋆ 𝓛 (‵ (fobs γ₂ ((coded_holeys R).code (heres R (zs n)))) ∷ ‵ (fbor κ' (Held R (length (zs n)) b₂ o₂ γ₂)) ∷ ‵ (flft κ' q₂) ∷ ‵ (flft κ q) ∷ mine ∷ []))
          (Post vunit)
      exits =
          qed 𝓛 (‵ (fobs γ₂ ((coded_holeys R).code (heres R (zs n)))) ∷ ‵ (fbor κ' (Held R (length (zs n)) b₂ o₂ γ₂)) ∷ ‵ (flft κ' q₂) ∷ ‵ (flft κ q) ∷ mine ∷ []) ∵
          suffices ! _ (ends_at 𝓛 (ended 𝓔 D) (stayed 𝓔 D) (clauses 𝓔 D moved_of 𝓤) (((κ, (κ', tt)), (q, (q₂, tt)), tt, a, vals), tt) vunit tt
          (tt, (tt, (zs n, (tt, (tt, tt))))) (tt, (tt, (same n (le_refl n), (tt, (tt, tt)))))) $ says ! refl $
          -- [true; obs; the borrow; the second token; the first; the list]
          nothing ! $ move ! (3 ∷ 0 ∷ []) $ join ! $ move ! (3 ∷ 0 ∷ []) $ join ! $ frame ! $
          -- [obs; the borrow; the list]
          fjoin ! $ pure_i ! (mut_slice_at R (x₂ (zs n)) (s ∷ [])) (tt, (tt, tt))
          (ap (λ (m : ℕ). slice_val (b₂, o₂) m ∷ []) (sym (same n (le_refl n))), subst (Room R) (sym (same n (le_refl n))) room₂) $ fjoin ! $
          nothing ! $ owned ! (row D) (Is (row D)) (D.makes 𝓛) c _ g $ fjoin ! $ owned ! usize (Is usize) (uint_Makes 𝓛 w64) at _ (refl, at-fits) $ fjoin ! $
          move ! (1 ∷ 0 ∷ []) $ fjoin ! $ owned ! usize (Is usize) (uint_Makes 𝓛 w64) n _ (refl, n-fits) $ fjoin ! $ move ! (1 ∷ 0 ∷ []) $ fjoin ! $
          feq_i ! (List Val) (vunit ∷ []) (vunit ∷ []) refl $ move ! (1 ∷ 0 ∷ []) $ done !

      abbrev Upto : Type 0
      Upto = (i : ℕ) × (i ≤ n)

      abbrev Nearer : Upto → Upto → Type 0
      Nearer j i = n - j.0 < n - i.0

      Nearer-wf : WellFounded Nearer
      Nearer-wf = InvImage.wf (λ (i : Upto). n - i.0) lt-wf_rel.wf

      next : (i : ℕ) → i < n → (i + 1 ≤ n) × (n - (i + 1) < n - i)
      next i less = (omega arith, omega arith)

      in_list : (i : ℕ) → i < n → i < length xs
      in_list i less = omega arith

      in-room : (i : ℕ) → i < n → at + i < length ys
      in-room i less = omega arith

      in-list₂ : (i : ℕ) → i < n → at + i < length (zs i)
      in-list₂ i less = omega (arith, same i (omega arith))

      sum_fits : (i : ℕ) → i < n → at + i < 2 ^ 64
      sum_fits i less = omega (arith, room₂.0)

      no-elem : (i : ℕ) → i < n → X
      no-elem i less = any_of xs i (in_list i less)

      abbrev elem : (i : ℕ) → i < n → X
      elem i less = get_or xs i (no-elem i less)

      more-written : (i : ℕ) (less : i < n) (y : X) → y ≡ moved_of c i (elem i less) → set (zs i) (at + i) y ≡ zs (i + 1)
      more-written i less y e =
          ap (λ (z : X). set (zs i) (at + i) z) (e ∙ ap (λ (k : ℕ). moved_of c k (elem i less)) (sym (zero-add i)) ∙ sym
          (map_at-get_or (moved_of c) 0 xs i (no-elem i less) y (in_list i less)))
          ∙ paste-suc ys at all i y (in-room i less) (omega (arith, as_long, in_list i less)) ∙ ap zs (sym (add-one i))

      module _ (l₀ l₁ l₂ l₃ l₄ l₅ l₆ l₇ l₈ l₉ l₁₀ l₁₁ l₁₂ l₁₃ : ℕ) where
        abbrev En : Env 𝓤 H
        En = (ty_unit, l₀) ∷ (shared 𝓔, l₁) ∷ (word, l₂) ∷ (slice 𝓔, l₃) ∷ (word, l₄) ∷ (D.ty, l₅) ∷ (word, l₆) ∷ (𝓔.R.ty, l₇) ∷ (ty_bool, l₈) ∷ (word, l₉) ∷ (ty_ptr, l₁₀)
            ∷ (𝓔.R.ty, l₁₁) ∷ (word, l₁₂) ∷ (ty_ptr, l₁₃) ∷ []

        abbrev At : Share → Upto → List (Item 𝓤)
        At q' i = ‵ (cells-row R full_share (zs i.0) b₂ o₂) ∷ ‵ (fobor κ' q₂ (Held R (length ys) b₂ o₂ γ₂)) ∷ ‵ (fobs γ₂ ((coded_holeys R).code (heres R ys)))
            ∷ ‵ (fauth γ₂ ((coded_holeys R).code (heres R ys)))
            ∷ ‵ (cells-row R q' xs b o) ∷ Shut 𝓛 κ q (cells-row R q' xs b o) ∷ mine
            ∷ ‵ (froom ty_ptr l₁₃ 0) ∷ ‵ (fdies ty_ptr l₁₃) ∷ ‵ (froom word l₁₂ 0) ∷ ‵ (fdies word l₁₂) ∷ ‵ (froom 𝓔.R.ty l₁₁ 0) ∷ ‵ (fdies 𝓔.R.ty l₁₁)
            ∷ ‵ (froom ty_ptr l₁₀ 0) ∷ ‵ (fdies ty_ptr l₁₀) ∷ ‵ (froom word l₉ 0) ∷ ‵ (fdies word l₉) ∷ ‵ (froom ty_bool l₈ 0) ∷ ‵ (fdies ty_bool l₈) ∷ ‵ (froom 𝓔.R.ty l₇ 0)
            ∷ ‵ (fdies 𝓔.R.ty l₇) ∷ ‵ (fat full_share word l₆ 0 (vint w64 i.0)) ∷ ‵ (fdies word l₆) ∷ ‵ (fat full_share D.ty l₅ 0 v) ∷ ‵ (fdies D.ty l₅)
            ∷ ‵ (fat full_share word l₄ 0 (vint w64 at)) ∷ ‵ (fdies word l₄) ∷ ‵ (fat full_share (slice 𝓔) l₃ 0 s) ∷ ‵ (fdies (slice 𝓔) l₃) ∷ ‵ (fat full_share word l₂ 0 (vint w64 n))
            ∷ ‵ (fdies word l₂) ∷ ‵ (fat full_share (shared 𝓔) l₁ 0 t) ∷ ‵ (fdies (shared 𝓔) l₁) ∷ ‵ (froom ty_unit l₀ 0) ∷ ‵ (fdies ty_unit l₀) ∷ []

      module _ (𝓣 : Tables 𝓤 H) (known : Triple 𝓤 (𝓣.C f) (step_contract 𝓔 D 𝓔.R moved_of 𝓛)) where
        walk : ent 𝓤 (on_entry 𝓛 (signature 𝓔 D) (κ, (κ', tt)) (q, (q₂, tt)) a vals) (WpFn 𝓤 H 𝓣.C 𝓣.Λ (function 𝓔 D f) (t ∷ vint w64 n ∷ s ∷ vint w64 at ∷ v ∷ []) Post)
        unfolding after_turn
        walk =
            qed 𝓛 ((‵ (flft κ q) ⊛ (‵ (flft κ' q₂) ⊛ ‵ ftrue)) ∷ ‵ (owns (ShrSlice (named 0) κ R ∷ usize ∷ MutSlice (named 1) κ' R ∷ usize ∷ row D ∷ []) a vals) ∷ [])
            ∵ enter ! 𝓣.C 𝓣.Λ (function 𝓔 D f) (t ∷ vint w64 n ∷ s ∷ vint w64 at ∷ v ∷ []) _ $
            alloc1 ! (λ l₀. alloc1 ! (λ l₁. alloc1 ! (λ l₂. alloc1 ! (λ l₃.
            alloc1 ! (λ l₄. alloc1 ! (λ l₅. alloc1 ! (λ l₆. alloc1 ! (λ l₇.
            alloc1 ! (λ l₈. alloc1 ! (λ l₉. alloc1 ! (λ l₁₀. alloc1 ! (λ l₁₁. alloc1 ! (λ l₁₂. alloc1 ! (λ l₁₃. alloc0 ! $ params1 ! $
            pass1 ! (init ! 24 refl (tt, (tt, (record { fits = room.0 }, tt)))) $ pass1 ! (init ! 22 refl (tt, record { fits = n-fits })) $
            pass1 ! (init ! 20 refl (tt, (tt, (record { fits = room₂.0 }, tt)))) $
            pass1 ! (init ! 18 refl (tt, record { fits = at-fits })) $ pass1 ! (init ! 16 refl (D.typed 𝓛 c _ g)) $ pass0 ! $
            assigns ! (of_opd ! (lit ! tt)) (from ! (stop !)) (init ! 14 refl (tt, record { fits = lit< tt })) $
            -- the list that is read is had twice
            move ! (29 ∷ []) $ fsplit ! $ use1 𝓛 (mine ⊛ mine) ((shr_slice_copy 𝓛 (named 0) κ R 𝓔.R.shared_laws).twice x₁ (t ∷ [])) $ split ! $ fsplit ! $ drop ! $
            move ! (31 ∷ []) $ split ! $ move ! (1 ∷ []) $ split ! $
            -- [the second token; true; the first; the elements, shared; the list; the others; _13; …]
            move ! (5 ∷ []) $ fsplit ! $ drop ! $ fsplit ! $ fsplit ! $ drop ! $ fsplit ! $
            -- [obs; the borrow; the others; the second token; true; the first; the elements, shared; the list; _13; …]
            move ! (0 ∷ 1 ∷ 3 ∷ []) $ opens_slice ! tt R ys b₂ o₂ $
            -- [row; the open borrow; obs; auth; the others; true; the first token; the elements, shared; the list; _13; …]
            move ! (7 ∷ 6 ∷ []) $
            looks_slice ! tt R (𝓔.R.copied 𝓛) xs b o (λ q'.
            rewrite ! 3 (λ (m : List X). ‵ (cells-row R full_share m b₂ o₂)) (paste-zero ys at all) refl $
            keep ! (3 ∷ 4 ∷ 5 ∷ 6 ∷ 0 ∷ 1 ∷ 9 ∷ 10 ∷ 11 ∷ 12 ∷ 13 ∷ 14 ∷ 15 ∷ 16 ∷ 17 ∷ 18 ∷ 19 ∷ 20 ∷ 21 ∷ 22 ∷ 23 ∷ 24 ∷ 25 ∷ 26 ∷ 27 ∷ 28 ∷ 29 ∷ 30 ∷ 31 ∷ 32 ∷ 33 ∷ 34 ∷ 35 ∷ 36
            ∷ 37 ∷ []) $
            first ! $ blocks ! $ loops ! 𝓣 Nearer Nearer-wf (At l₀ l₁ l₂ l₃ l₄ l₅ l₆ l₇ l₈ l₉ l₁₀ l₁₁ l₁₂ l₁₃ q') (λ i.
            -- [row; its open borrow; obs; auth; the row that is read; what shuts it; the list; _13 7; …]
            assigns ! (bin ! (load ! (from ! (stop !)) (look ! 21 refl)) (load ! (from ! (stop !)) (look ! 29 refl)) tt) (from ! (stop !)) (init ! 17 refl (tt, tt)) $
            ⊎_elim (λ over.
            rewrite ! 17 (λ (u : Bool). ‵ (fat full_share ty_bool l₈ 0 (vbool u))) (le-ltb i.0 n (omega arith)) refl $
            leaves_loop ! (load ! (from ! (stop !)) (look ! 17 refl)) $ exec ! 𝓣.C 𝓣.Λ (En l₀ l₁ l₂ l₃ l₄ l₅ l₆ l₇ l₈ l₉ l₁₀ l₁₁ l₁₂ l₁₃) (rest 𝓔 D)
            (at_ret (En l₀ l₁ l₂ l₃ l₄ l₅ l₆ l₇ l₈ l₉ l₁₀ l₁₁ l₁₂ l₁₃) Post) $
            assigns ! (of_opd ! (unit_lit !)) (from ! (stop !)) (init ! 33 refl (tt, tt)) $
            rewrite ! 0 (λ (m : List X). ‵ (cells-row R full_share m b₂ o₂)) (ap zs over) refl $ closes_slice ! tt R ys (zs n) (same n (le_refl n)) b₂ o₂ $
            -- [obs; the borrow; the second token; the row that is read; what shuts it; the list; _13; …]
            move ! (3 ∷ 4 ∷ []) $ shuts_slice ! tt R q' xs b o $ move ! (1 ∷ 2 ∷ 3 ∷ 0 ∷ []) $
            -- [obs; the borrow; the second token; the first; the list; _13 5; …]
            returns ! (look ! 31 refl) $ forget ! 15 refl $ forget ! 19 refl $ forget ! 21 refl $ forget ! 23 refl $ forget ! 25 refl $ forget ! 27 refl $ forget ! 29 refl $
            forget ! 31 refl $
            move ! (31 ∷ 32 ∷ []) $ free1 ! $ move ! (29 ∷ 30 ∷ []) $ free1 ! $ move ! (27 ∷ 28 ∷ []) $ free1 ! $ move ! (25 ∷ 26 ∷ []) $ free1 ! $ move ! (23 ∷ 24 ∷ []) $
            free1 ! $ move ! (21 ∷ 22 ∷ []) $ free1 ! $ move ! (19 ∷ 20 ∷ []) $ free1 ! $ move ! (17 ∷ 18 ∷ []) $ free1 ! $ move ! (15 ∷ 16 ∷ []) $ free1 ! $
            move ! (13 ∷ 14 ∷ []) $ free1 ! $ move ! (11 ∷ 12 ∷ []) $ free1 ! $ move ! (9 ∷ 10 ∷ []) $ free1 ! $ move ! (7 ∷ 8 ∷ []) $ free1 ! $ move ! (5 ∷ 6 ∷ []) $ free1 ! $
            free0 ! $
            by ! exits) (λ less.
            rewrite ! 17 (λ (u : Bool). ‵ (fat full_share ty_bool l₈ 0 (vbool u))) (lt-ltb i.0 n less) refl $
            stays ! (load ! (from ! (stop !)) (look ! 17 refl)) $
            assigns ! (bin ! (load ! (from ! (stop !)) (look ! 21 refl)) (lit ! 𝓔.bytes_fit) (record { fits = place-fits 𝓔 (length xs) i.0 room (in_list i.0 less) }))
            (from ! (stop !)) (init ! 15 refl (tt, record { fits = place-fits 𝓔 (length xs) i.0 room (in_list i.0 less) })) $
            assigns ! (bin ! (load ! (from ! (fld ! refl (stop !))) (look_in ! 31 (sub ! 0 refl (whole !)))) (load ! (from ! (stop !)) (look ! 15 refl)) tt) (from ! (stop !))
            (init ! 13 refl (tt, tt)) $
            rewrite ! 13 (λ (m : ℕ). ‵ (fat full_share ty_ptr l₁₀ 0 (vptr b m))) (sym (place_of 𝓔 o i.0)) refl $
            -- an element is copied out of the row that is read
            move ! (4 ∷ []) $ elem_out ! R (Is R) (shows 𝓛 R) rvals 𝓔.R.tells q' xs i.0 (no-elem i.0 less) b o (in_list i.0 less) (λ h.
            -- [the element; what it owns; the others; row; its open borrow; obs; auth; what shuts the row that is read; the list; _13 9; …]
            assigns ! (of_opd ! (load ! (from ! (hop ! (look ! 15 refl) (stop !))) (look_raw ! 0 refl))) (from ! (stop !))
            (init ! 13 refl (𝓔.R.typed 𝓛 (elem i.0 less) _ h)) $
            assigns ! (of_opd ! (load ! (from ! (stop !)) (look ! 13 refl))) (from ! (stop !)) (init ! 21 refl (𝓔.R.typed 𝓛 (elem i.0 less) _ h)) $
            elem_back ! R q' xs i.0 (no-elem i.0 less) (rvals (elem i.0 less)) b o (in_list i.0 less) $ move ! (1 ∷ 2 ∷ 3 ∷ 4 ∷ 0 ∷ []) $
            calls-step ! 𝓣 𝓔 D 𝓔.R moved_of known c i.0 (elem i.0 less) g (omega arith) h
            (and_then ! (load ! (from ! (stop !)) (look ! 24 refl)) (and_then ! (load ! (from ! (stop !)) (look ! 22 refl))
            (and_then ! (load ! (from ! (stop !)) (look ! 20 refl)) (no_more !)))) (λ y u is e.
            land ! (from ! (stop !)) (store ! 11 refl (𝓔.R.typed 𝓛 y _ is)) $
            rewrite ! 11 (λ (m : Val). ‵ (fat full_share 𝓔.R.ty l₁₁ 0 m)) (ap only (𝓔.R.tells y (u ∷ []) is)) refl $
            assigns ! (bin ! (load ! (from ! (stop !)) (look ! 25 refl)) (load ! (from ! (stop !)) (look ! 21 refl)) (record { fits = sum_fits i.0 less })) (from ! (stop !))
            (store ! 15 refl (tt, record { fits = sum_fits i.0 less })) $
            assigns ! (bin ! (load ! (from ! (stop !)) (look ! 15 refl)) (lit ! 𝓔.bytes_fit)
            (record { fits = place-fits 𝓔 (length ys) (at + i.0) room₂ (in-room i.0 less) })) (from ! (stop !))
            (init ! 9 refl (tt, record { fits = place-fits 𝓔 (length ys) (at + i.0) room₂ (in-room i.0 less) })) $
            assigns ! (bin ! (load ! (from ! (fld ! refl (stop !))) (look_in ! 27 (sub ! 0 refl (whole !)))) (load ! (from ! (stop !)) (look ! 9 refl)) tt) (from ! (stop !))
            (init ! 7 refl (tt, tt)) $
            rewrite ! 7 (λ (m : ℕ). ‵ (fat full_share ty_ptr l₁₃ 0 (vptr b₂ m))) (sym (place_of 𝓔 o₂ (at + i.0))) refl $
            -- an element is taken out of the row, stored to, and put back
            elem_out ! R (Is R) (shows 𝓛 R) rvals 𝓔.R.tells full_share (zs i.0) (at + i.0) y b₂ o₂ (in-list₂ i.0 less) (λ _.
            assigns ! (of_opd ! (load ! (from ! (stop !)) (look ! 13 refl))) (from ! (hop ! (look ! 9 refl) (stop !)))
            (store_raw ! 0 refl (𝓔.R.typed 𝓛 y _ (good 𝓔.R y u is))) $
            move ! (1 ∷ []) $ drop ! $ owned ! R (Is R) (𝓔.R.makes 𝓛) y _ (good 𝓔.R y u is) $ move ! (1 ∷ 0 ∷ []) $
            elem_put ! R full_share (zs i.0) (at + i.0) y (rvals y) b₂ o₂ (in-list₂ i.0 less) $
            rewrite ! 0 (λ (m : List X). ‵ (cells-row R full_share m b₂ o₂)) (more-written i.0 less y e) refl $
            assigns_last ! (bin ! (load ! (from ! (stop !)) (look ! 21 refl)) (lit ! tt) (record { fits = omega arith })) (from ! (stop !))
            (store ! 21 refl (tt, record { fits = omega arith })) $
            forget ! 7 refl $ forget ! 9 refl $ forget ! 11 refl $ forget ! 13 refl $ forget ! 15 refl $ forget ! 17 refl $ forget ! 19 refl $
            again ! Nearer (At l₀ l₁ l₂ l₃ l₄ l₅ l₆ l₇ l₈ l₉ l₁₀ l₁₁ l₁₂ l₁₃ q') i (i.0 + 1, (next i.0 less).0) (next i.0 less).1)))) (eq-or-lt_of_le i.1))
            (0, zero-le))))))))))))))))

  module _ (𝓣 : Tables 𝓤 H) (known : Triple 𝓤 (𝓣.C f) (step_contract 𝓔 D 𝓔.R moved_of 𝓛)) where
    meets : Meets 𝓛 (signature 𝓔 D) (WpFn 𝓤 H 𝓣.C 𝓣.Λ (function 𝓔 D f)) (closing 𝓛 (ended 𝓔 D) (clauses 𝓔 D moved_of 𝓤))
    meets = walk_Meets 𝓛 (ended 𝓔 D) (stayed 𝓔 D) (
      Goes-none_slice 𝓛 2 (0 ∷ []) tt (plain (λ _. R)) yes,
      (
        (goes 2 𝓛 (uint w64 ∷ [])).0,
        (Goes-slice 𝓛 2 1 tt (plain (λ _. R)), goes 2 𝓛 (uint w64 ∷ D ∷ [])),
      ),
    )
        (clauses 𝓔 D moved_of 𝓤)
        (WpFn 𝓤 H 𝓣.C 𝓣.Λ (function 𝓔 D f)) (WpFn-mono 𝓤 H 𝓛.laws 𝓣 (function 𝓔 D f))
        (walked 𝓛 (ended 𝓔 D) (stayed 𝓔 D) (clauses 𝓔 D moved_of 𝓤) (WpFn 𝓤 H 𝓣.C 𝓣.Λ (function 𝓔 D f))
        (λ κs. (shr_slice_vals, (uint_vals w64, (mut_slice_vals, (uint_vals w64, ((λ p. D.val p ∷ []), tt))))))
        (λ κs. (shr_slice_Tells (named 0) κs.0 R, (uint_Tells w64, (mut_slice_Tells (named 1) κs.1.0 R, (uint_Tells w64, (D.tells, tt))))))
        (λ κs qs bounds a g are. needs 𝓤 ((a.1.0 ≤ length a.0.now) × (a.1.1.1.0 + a.1.0 ≤ length a.1.1.0.now)) _
        (λ within. walk κs.0 κs.1.0 qs.0 qs.1.0 a.0.ref_ptr.0 a.0.ref_ptr.1 a.1.1.0.ref_ptr.0 a.1.1.0.ref_ptr.1 a.1.1.0.ghost_name a.0.now
        a.1.1.0.now a.1.0 a.1.1.1.0 a.1.1.1.1.0
        are.0.0.1 are.1.1.0.0.1 are.1.0.1 are.1.1.1.0.1 are.1.1.1.1.0 within.0 within.1 𝓣 known)))

-- what the proof of such a function cites
pub copies-moved : (𝓔 : Element) (D : Datum) (moved_of : D.D → ℕ → 𝓔.R.D → 𝓔.R.D) {M : Type 1} {𝓤 : Ura M} (𝓛 : Logic 𝓤) (𝓜 : Model 𝓤 𝓛.H) (𝓡 : Running 𝓤 𝓛.H 𝓜)
    (γ : Routines) (k f : Callee)
    → Closed 𝓤 𝓛.H (tables 𝓤 𝓛.H 𝓜 𝓡 γ).C (tables 𝓤 𝓛.H 𝓜 𝓡 γ).Λ k (function 𝓔 D f) → (r : Routine) → γ f ≡ r
    → Triple 𝓤 (𝓡.run r) (step_contract 𝓔 D 𝓔.R moved_of 𝓛) → Triple 𝓤 (𝓡.run (γ k)) (contract_of 𝓔 D moved_of 𝓤 𝓛)
unfolding tables_of
copies-moved 𝓔 D moved_of {𝓤 = 𝓤} 𝓛 𝓜 𝓡 γ k f closed r calls met =
    entered 𝓤 𝓛.H (contract_of 𝓔 D moved_of 𝓤 𝓛) (tables 𝓤 𝓛.H 𝓜 𝓡 γ).C (tables 𝓤 𝓛.H 𝓜 𝓡 γ).Λ k (function 𝓔 D f) closed
    (meets 𝓔 D moved_of f 𝓛 (tables_of 𝓤 𝓛.H 𝓜 (tables 𝓤 𝓛.H 𝓜 𝓡 γ)) (cited 𝓤 𝓛.H (step_contract 𝓔 D 𝓔.R moved_of 𝓛) 𝓜 𝓡 γ f r calls met))
