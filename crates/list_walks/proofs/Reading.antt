-- Every function of one of the forms
--     fn get(list: &[R], at: usize) -> R { list[at] }
--     fn look(list: &[R], at: usize, other: R) -> R { if at < list.len() { return list[at]; } other }
-- meets its contract. R is any type of plain data.
-- Assumes `Logic`.
use mathlib.Core.Path.{◌≡◌, refl, sym}
use Prim.Native.Nat.{ℕ, ◌<◌, ◌^◌}
use lib.Dec.{ltb→lt, nltb→le}
use mathlib.Core.List.{[], ◌∷◌, List}
use lib.ListN.{length, get_or, get_or-eq_default}
use seplogic.Ra.Ura.{Ura}
use base.Fraction.{full_share}
use mir.Syntax.{Callee, Fn, named, imm, w64, unsigned, ty_bool, ty_ptr, ty_ref, Ty, Body, field, deref, place, copy, int, local, value_local, skip as skipᴹ, seq, assign, cond, return}
use mir.Syntax.{rv_opd, op2, mul, lt, offset}
use mir.Val.{Val, vint, vptr}
use base.Logic.{SProp, ent, emp, via, fst∗}
use base.Fml.{Lft, Share, ftrue, fat, flft}
use prog.Routine.{Env as Routines}
use prog.Model.{Model}
use prog.Wp.{WpFn, Closed, Tables}
use types.Logic.{Logic}
use contract.Monad.{fact}
use contract.Running.{Running, tables, tables_of}
use types.Kit.{Item, ‵, ◌⊛◌, ⋆, at_ret, ◌$◌, ◌∵◌, !, qed, by, move, keep, drop, split, join, rewrite, fsplit, fjoin, use1, suffices, frame, done}
use types.Run.{look, look_raw, init, forget, stop, hop, fld, from, load, lit, of_opd, bin, assigns, first, branches, skips, exec, returns, returns_within, enter, alloc1, alloc0}
use types.Run.{params1, pass1, pass0, free1, free0}
use types.Part.{whole, sub, look_in}
use sound.WpLaws.{WpFn-mono}
use denote.RattleType.{RattleType, owns}
use denote.Memory.{pointee}
use denote.Laws.{Is, shows}
use denote.Plain.{uint_vals, uint_Tells, uint_Makes}
use denote.Builtin.{usize}
use denote.Ref.{Bor}
use denote.Slice.{slice_ty, slice_val, ShrSlice, Room, shr_slice_vals, shr_slice_Tells, shr_slice_copy}
use denote.Index.{elem_out, elem_back, looks_slice, shuts_slice}
use denote.Steps.{owned, nothing}
use denote.Triple.Entry.{on_entry}
use denote.Triple.Spec.{Meets, triple_of}
use denote.Triple.Statement.{Contract, Triple}
use denote.Triple.Clauses.{Ended, Clauses, closing}
use denote.Triple.Table.{entered}
use denote.Triple.Walked.{says, needs, Stays, stay_none_slice, stay_none, walk_of, Goes-none_slice, ends_at, walked, walk_Meets}
use denote.Exit.{yes}
use denote.Signature.{Signature, plain, shr_slice}
use Rattle.walks.proofs.Args.{row, uint, goes}
use Rattle.list_walks.proofs.Elements.{Element, place-fits, place_of, word, Good}

module _ (𝓔 : Element) where
  abbrev slice : Ty
  slice = slice_ty (ty_ref (named 0) imm (pointee 𝓔.R.written))

  -- ---- get
  abbrev pub signature : Signature
  signature = record { lifetimes = 1; outlives = []; params = shr_slice 0 tt (λ _. row 𝓔.R) ∷ plain (λ _. usize) ∷ []; result = plain (λ _. row 𝓔.R) }

  abbrev pub ended : Ended
  ended = record { signature = signature; kept = (yes, (yes, tt)) }

  abbrev stayed : Stays ended.signature.params ended.kept
  stayed = (stay_none_slice (0 ∷ []) tt (plain (λ _. row 𝓔.R)) yes, (stay_none (λ _. usize) yes, tt))

  abbrev pub function : Fn
  function = record {
    lifetimes = 1;
    outlives = [];
    ty_params = [];
    givens = 0;
    params = 2;
    locals = local 𝓔.R.ty value_local ∷ local slice value_local ∷ local word value_local ∷ local word value_local ∷ local ty_ptr value_local ∷ local 𝓔.R.ty value_local ∷ [];
    body = seq (assign (place 3 []) (op2 (mul unsigned) (copy (place 2 [])) (int w64 𝓔.bytes)))
        (seq (assign (place 4 []) (op2 offset (copy (place 1 (field 0 ∷ []))) (copy (place 3 []))))
        (seq (assign (place 5 []) (rv_opd (copy (place 4 (deref 𝓔.R.ty ∷ [])))))
        (seq (assign (place 0 []) (rv_opd (copy (place 5 [])))) return)));
  }

  module _ (none : 𝓔.R.D) {M : Type 1} (𝓤 : Ura M) where
    -- `requires { ⌜ at < length (now list) ⌝ }    ensures { λ r. ⌜ r ≡ get_or (now list.entry) at none ⌝ }`
    abbrev pub clauses : Clauses 𝓤 ended
    clauses κs a = record { ghost = Unit {0}; requires = λ _. fact 𝓤 (a.1.0 < length a.0.now); ensures = λ _ r e. fact 𝓤 (r ≡ get_or a.0.now a.1.0 none) }

    abbrev pub contract_of : (𝓛 : Logic 𝓤) → Contract 𝓤
    contract_of 𝓛 = triple_of 𝓛 signature (closing 𝓛 ended clauses)

  -- ---- look
  abbrev pub look_signature : Signature
  look_signature = record {
    lifetimes = 1;
    outlives = [];
    params = shr_slice 0 tt (λ _. row 𝓔.R) ∷ plain (λ _. usize) ∷ plain (λ _. row 𝓔.R) ∷ [];
    result = plain (λ _. row 𝓔.R);
  }

  abbrev pub look_ended : Ended
  look_ended = record { signature = look_signature; kept = (yes, (yes, (yes, tt))) }

  abbrev look_stayed : Stays look_ended.signature.params look_ended.kept
  look_stayed = (stay_none_slice (0 ∷ []) tt (plain (λ _. row 𝓔.R)) yes, (stay_none (λ _. usize) yes, (stay_none (λ _. row 𝓔.R) yes, tt)))

  abbrev look_rest : Body
  look_rest = seq (assign (place 0 []) (rv_opd (copy (place 3 [])))) return

  abbrev pub look_function : Fn
  look_function = record {
    lifetimes = 1;
    outlives = [];
    ty_params = [];
    givens = 0;
    params = 3;
    locals = local 𝓔.R.ty value_local ∷ local slice value_local ∷ local word value_local ∷ local 𝓔.R.ty value_local ∷ local word value_local ∷ local ty_bool value_local
        ∷ local word value_local ∷ local ty_ptr value_local ∷ local 𝓔.R.ty value_local ∷ [];
    body = seq (assign (place 4 []) (rv_opd (copy (place 1 (field 1 ∷ []))))) (seq (assign (place 5 []) (op2 (lt unsigned) (copy (place 2 [])) (copy (place 4 []))))
        (seq (cond (copy (place 5 [])) (seq (assign (place 6 []) (op2 (mul unsigned) (copy (place 2 [])) (int w64 𝓔.bytes)))
        (seq (assign (place 7 []) (op2 offset (copy (place 1 (field 0 ∷ []))) (copy (place 6 []))))
        (seq (assign (place 8 []) (rv_opd (copy (place 7 (deref 𝓔.R.ty ∷ [])))))
        (seq (assign (place 0 []) (rv_opd (copy (place 8 [])))) return)))) skipᴹ) look_rest));
  }

  module _ {M : Type 1} (𝓤 : Ura M) where
    -- `ensures { λ r. ⌜ r ≡ get_or (now list.entry) at other ⌝ }`
    abbrev pub look_clauses : Clauses 𝓤 look_ended
    look_clauses κs a = record { ghost = Unit {0}; requires = λ _. emp 𝓤; ensures = λ _ r e. fact 𝓤 (r ≡ get_or a.0.now a.1.0 a.1.1.0) }

    abbrev pub look_contract : (𝓛 : Logic 𝓤) → Contract 𝓤
    look_contract 𝓛 = triple_of 𝓛 look_signature (closing 𝓛 look_ended look_clauses)

module _ (𝓔 : Element) {M : Type 1} {𝓤 : Ura M} (𝓛 : Logic 𝓤) (none : 𝓔.R.D) where
  open 𝓛 use {H}

  abbrev X : Type 0
  X = 𝓔.R.D

  abbrev R : RattleType
  R = row 𝓔.R

  abbrev rvals : X → List Val
  rvals y = 𝓔.R.val y ∷ []

  module _ (κ : Lft) (q : Share) (b o : ℕ) (ys : List X) (i : ℕ) where
    abbrev x : Bor (List X)
    x = record { ref_ptr = (b, o); now = ys }

    abbrev s : Val
    s = slice_val (b, o) (length ys)

    abbrev elem : X
    elem = get_or ys i none

    abbrev mine : Item 𝓤
    mine = ‵ ((ShrSlice (named 0) κ R).own_val x (s ∷ []))

    module _ (room : Room R (length ys)) (i-fits : i < 2 ^ 64) where
      -- ---- get
      abbrev a : Bor (List X) × (ℕ × Unit {0})
      a = (x, (i, tt))

      abbrev vals : List Val × (List Val × Unit {0})
      vals = (s ∷ [], (vint w64 i ∷ [], tt))

      abbrev Post : Val → SProp 𝓤
      Post = (walk_of 𝓛 (ended 𝓔) (stayed 𝓔) (clauses 𝓔 none 𝓤)).post (((κ, tt), (q, tt), tt, a, vals), tt)

      exits : Good 𝓔.R elem → ent 𝓤 (⋆ 𝓛 (‵ (flft κ q) ∷ mine ∷ [])) (Post (𝓔.R.val elem))
      exits h =
          qed 𝓛 (‵ (flft κ q) ∷ mine ∷ []) ∵
          suffices ! _ (ends_at 𝓛 (ended 𝓔) (stayed 𝓔) (clauses 𝓔 none 𝓤) (((κ, tt), (q, tt), tt, a, vals), tt) (𝓔.R.val elem) elem (tt, (tt, tt)) (tt, (tt, tt))) $
          says ! refl $
          nothing ! $ move ! (1 ∷ 0 ∷ []) $ join ! $ frame ! $
          nothing ! $ owned ! usize (Is usize) (uint_Makes 𝓛 w64) i _ (refl, i-fits) $ fjoin ! $ move ! (1 ∷ 0 ∷ []) $ fjoin ! $ frame ! $
          owned ! R (Is R) (𝓔.R.makes 𝓛) elem _ h $ done !

      walk : i < length ys → (𝓣 : Tables 𝓤 H) → ent 𝓤 (on_entry 𝓛 (signature 𝓔) (κ, tt) (q, tt) a vals) (WpFn 𝓤 H 𝓣.C 𝓣.Λ (function 𝓔) (s ∷ vint w64 i ∷ []) Post)
      walk within 𝓣 =
          qed 𝓛 ((‵ (flft κ q) ⊛ ‵ ftrue) ∷ ‵ (owns (ShrSlice (named 0) κ R ∷ usize ∷ []) a vals) ∷ []) ∵ enter ! 𝓣.C 𝓣.Λ (function 𝓔) (s ∷ vint w64 i ∷ []) _ $
          alloc1 ! (λ l₀. alloc1 ! (λ l₁. alloc1 ! (λ l₂. alloc1 ! (λ l₃. alloc1 ! (λ l₄. alloc1 ! (λ l₅. alloc0 ! $ params1 ! $
          pass1 ! (init ! 8 refl (tt, (tt, (record { fits = room.0 }, tt)))) $ pass1 ! (init ! 6 refl (tt, record { fits = i-fits })) $ pass0 ! $
          assigns ! (bin ! (load ! (from ! (stop !)) (look ! 6 refl)) (lit ! 𝓔.bytes_fit) (record { fits = place-fits 𝓔 (length ys) i room within })) (from ! (stop !))
          (init ! 4 refl (tt, record { fits = place-fits 𝓔 (length ys) i room within })) $
          assigns ! (bin ! (load ! (from ! (fld ! refl (stop !))) (look_in ! 8 (sub ! 0 refl (whole !)))) (load ! (from ! (stop !)) (look ! 4 refl)) tt) (from ! (stop !))
          (init ! 2 refl (tt, tt)) $
          rewrite ! 2 (λ (m : ℕ). ‵ (fat full_share ty_ptr l₄ 0 (vptr b m))) (sym (place_of 𝓔 o i)) refl $
          -- the list is had twice, and one is looked into
          move ! (13 ∷ []) $ fsplit ! $ use1 𝓛 (mine ⊛ mine) ((shr_slice_copy 𝓛 (named 0) κ R 𝓔.R.shared_laws).twice x (s ∷ [])) $ split ! $
          fsplit ! $ drop ! $ move ! (15 ∷ []) $ split ! $ move ! (2 ∷ 0 ∷ []) $
          looks_slice ! tt R (𝓔.R.copied 𝓛) ys b o (λ q'.
          -- [row; what shuts it; the elements, shared; true; the list; the others; _5; …]
          keep ! (0 ∷ 1 ∷ 4 ∷ 6 ∷ 7 ∷ 8 ∷ 9 ∷ 10 ∷ 11 ∷ 12 ∷ 13 ∷ 14 ∷ 15 ∷ 16 ∷ 17 ∷ []) $
          elem_out ! R (Is R) (shows 𝓛 R) rvals 𝓔.R.tells q' ys i none b o within (λ h.
          -- [the element; what it owns; the others; what shuts the row; the list; _5 5; …]
          assigns ! (of_opd ! (load ! (from ! (hop ! (look ! 7 refl) (stop !))) (look_raw ! 0 refl))) (from ! (stop !)) (init ! 5 refl (𝓔.R.typed 𝓛 elem _ h)) $
          assigns ! (of_opd ! (load ! (from ! (stop !)) (look ! 5 refl))) (from ! (stop !)) (init ! 15 refl (𝓔.R.typed 𝓛 elem _ h)) $
          elem_back ! R q' ys i none (rvals elem) b o within $ shuts_slice ! tt R q' ys b o $
          -- [the token; the list; _5 2; …]
          returns ! (look ! 12 refl) $ forget ! 2 refl $ forget ! 4 refl $ forget ! 6 refl $ forget ! 8 refl $ forget ! 10 refl $ forget ! 12 refl $
          move ! (12 ∷ 13 ∷ []) $ free1 ! $ move ! (10 ∷ 11 ∷ []) $ free1 ! $ move ! (8 ∷ 9 ∷ []) $ free1 ! $ move ! (6 ∷ 7 ∷ []) $ free1 ! $ move ! (4 ∷ 5 ∷ []) $ free1 ! $
          move ! (2 ∷ 3 ∷ []) $ free1 ! $ free0 ! $
          by ! (exits h)))))))))

      -- ---- look
      module _ (c : X) (g : Good 𝓔.R c) where
        abbrev a₂ : Bor (List X) × (ℕ × (X × Unit {0}))
        a₂ = (x, (i, (c, tt)))

        abbrev vals₂ : List Val × (List Val × (List Val × Unit {0}))
        vals₂ = (s ∷ [], (vint w64 i ∷ [], (rvals c, tt)))

        abbrev Post₂ : Val → SProp 𝓤
        Post₂ = (walk_of 𝓛 (look_ended 𝓔) (look_stayed 𝓔) (look_clauses 𝓔 𝓤)).post (((κ, tt), (q, tt), tt, a₂, vals₂), tt)

        exits₂ : (r : X) → Good 𝓔.R r → r ≡ get_or ys i c → ent 𝓤 (⋆ 𝓛 (‵ (flft κ q) ∷ mine ∷ [])) (Post₂ (𝓔.R.val r))
        exits₂ r h e =
            qed 𝓛 (‵ (flft κ q) ∷ mine ∷ []) ∵
            suffices ! _ (ends_at 𝓛 (look_ended 𝓔) (look_stayed 𝓔) (look_clauses 𝓔 𝓤) (((κ, tt), (q, tt), tt, a₂, vals₂), tt) (𝓔.R.val r) r (tt, (tt, (tt, tt)))
            (tt, (tt, (tt, tt)))) $ says ! e $
            nothing ! $ move ! (1 ∷ 0 ∷ []) $ join ! $ frame ! $
            nothing ! $ owned ! R (Is R) (𝓔.R.makes 𝓛) c _ g $ fjoin ! $ owned ! usize (Is usize) (uint_Makes 𝓛 w64) i _ (refl, i-fits) $ fjoin ! $
            move ! (1 ∷ 0 ∷ []) $ fjoin ! $ frame ! $ owned ! R (Is R) (𝓔.R.makes 𝓛) r _ h $ done !

        walk₂ : (𝓣 : Tables 𝓤 H) → ent 𝓤 (on_entry 𝓛 (look_signature 𝓔) (κ, tt) (q, tt) a₂ vals₂)
            (WpFn 𝓤 H 𝓣.C 𝓣.Λ (look_function 𝓔) (s ∷ vint w64 i ∷ 𝓔.R.val c ∷ []) Post₂)
        walk₂ 𝓣 =
            qed 𝓛 ((‵ (flft κ q) ⊛ ‵ ftrue) ∷ ‵ (owns (ShrSlice (named 0) κ R ∷ usize ∷ R ∷ []) a₂ vals₂) ∷ []) ∵ enter ! 𝓣.C 𝓣.Λ (look_function 𝓔)
            (s ∷ vint w64 i ∷ 𝓔.R.val c ∷ []) _ $
            alloc1 ! (λ l₀. alloc1 ! (λ l₁. alloc1 ! (λ l₂. alloc1 ! (λ l₃. alloc1 ! (λ l₄. alloc1 ! (λ l₅. alloc1 ! (λ l₆. alloc1 ! (λ l₇. alloc1 ! (λ l₈. alloc0 ! $ params1 ! $
            pass1 ! (init ! 14 refl (tt, (tt, (record { fits = room.0 }, tt)))) $ pass1 ! (init ! 12 refl (tt, record { fits = i-fits })) $
            pass1 ! (init ! 10 refl (𝓔.R.typed 𝓛 c _ g)) $ pass0 ! $
            assigns ! (of_opd ! (load ! (from ! (fld ! refl (stop !))) (look_in ! 14 (sub ! 1 refl (whole !))))) (from ! (stop !)) (init ! 8 refl (tt, record { fits = room.0 })) $
            assigns ! (bin ! (load ! (from ! (stop !)) (look ! 12 refl)) (load ! (from ! (stop !)) (look ! 8 refl)) tt) (from ! (stop !)) (init ! 6 refl (tt, tt)) $
            first ! $ branches ! (load ! (from ! (stop !)) (look ! 6 refl)) (λ t.
            assigns ! (bin ! (load ! (from ! (stop !)) (look ! 12 refl)) (lit ! 𝓔.bytes_fit) (record { fits = place-fits 𝓔 (length ys) i room (ltb→lt i (length ys) t) }))
            (from ! (stop !)) (init ! 4 refl (tt, record { fits = place-fits 𝓔 (length ys) i room (ltb→lt i (length ys) t) })) $
            assigns ! (bin ! (load ! (from ! (fld ! refl (stop !))) (look_in ! 14 (sub ! 0 refl (whole !)))) (load ! (from ! (stop !)) (look ! 4 refl)) tt) (from ! (stop !))
            (init ! 2 refl (tt, tt)) $
            rewrite ! 2 (λ (m : ℕ). ‵ (fat full_share ty_ptr l₇ 0 (vptr b m))) (sym (place_of 𝓔 o i)) refl $
            move ! (19 ∷ []) $ fsplit ! $ use1 𝓛 (mine ⊛ mine) ((shr_slice_copy 𝓛 (named 0) κ R 𝓔.R.shared_laws).twice x (s ∷ [])) $ split ! $
            fsplit ! $ drop ! $ move ! (21 ∷ []) $ split ! $ move ! (2 ∷ 0 ∷ []) $
            looks_slice ! tt R (𝓔.R.copied 𝓛) ys b o (λ q'.
            keep ! (0 ∷ 1 ∷ 4 ∷ 6 ∷ 7 ∷ 8 ∷ 9 ∷ 10 ∷ 11 ∷ 12 ∷ 13 ∷ 14 ∷ 15 ∷ 16 ∷ 17 ∷ 18 ∷ 19 ∷ 20 ∷ 21 ∷ 22 ∷ 23 ∷ []) $
            elem_out ! R (Is R) (shows 𝓛 R) rvals 𝓔.R.tells q' ys i c b o (ltb→lt i (length ys) t) (λ h.
            assigns ! (of_opd ! (load ! (from ! (hop ! (look ! 7 refl) (stop !))) (look_raw ! 0 refl))) (from ! (stop !)) (init ! 5 refl (𝓔.R.typed 𝓛 (get_or ys i c) _ h)) $
            assigns ! (of_opd ! (load ! (from ! (stop !)) (look ! 5 refl))) (from ! (stop !)) (init ! 21 refl (𝓔.R.typed 𝓛 (get_or ys i c) _ h)) $
            elem_back ! R q' ys i c (rvals (get_or ys i c)) b o (ltb→lt i (length ys) t) $ shuts_slice ! tt R q' ys b o $
            returns_within ! Post₂ refl (look ! 18 refl) $ forget ! 2 refl $ forget ! 4 refl $ forget ! 6 refl $ forget ! 8 refl $ forget ! 10 refl $ forget ! 12 refl $
            forget ! 14 refl $ forget ! 16 refl $ forget ! 18 refl $
            move ! (18 ∷ 19 ∷ []) $ free1 ! $ move ! (16 ∷ 17 ∷ []) $ free1 ! $ move ! (14 ∷ 15 ∷ []) $ free1 ! $ move ! (12 ∷ 13 ∷ []) $ free1 ! $ move ! (10 ∷ 11 ∷ []) $
            free1 ! $ move ! (8 ∷ 9 ∷ []) $ free1 ! $ move ! (6 ∷ 7 ∷ []) $ free1 ! $ move ! (4 ∷ 5 ∷ []) $ free1 ! $ move ! (2 ∷ 3 ∷ []) $ free1 ! $ free0 ! $
            by ! (exits₂ (get_or ys i c) h refl)))) (λ t.
            skips ! $ exec ! 𝓣.C 𝓣.Λ ((𝓔.R.ty, l₀) ∷ (slice 𝓔, l₁) ∷ (word, l₂) ∷ (𝓔.R.ty, l₃) ∷ (word, l₄) ∷ (ty_bool, l₅) ∷ (word, l₆) ∷ (ty_ptr, l₇)
            ∷ (𝓔.R.ty, l₈) ∷ []) (look_rest 𝓔) (at_ret ((𝓔.R.ty, l₀) ∷ (slice 𝓔, l₁) ∷ (word, l₂) ∷ (𝓔.R.ty, l₃) ∷ (word, l₄) ∷ (ty_bool, l₅) ∷ (word, l₆) ∷ (ty_ptr, l₇)
            ∷ (𝓔.R.ty, l₈) ∷ []) Post₂) $
            assigns ! (of_opd ! (load ! (from ! (stop !)) (look ! 10 refl))) (from ! (stop !)) (init ! 16 refl (𝓔.R.typed 𝓛 c _ g)) $
            move ! (19 ∷ []) $ fsplit ! $ move ! (20 ∷ 0 ∷ []) $ split ! $ move ! (0 ∷ 2 ∷ 4 ∷ 5 ∷ 6 ∷ 7 ∷ 8 ∷ 9 ∷ 10 ∷ 11 ∷ 12 ∷ 13 ∷ 14 ∷ 15 ∷ 16 ∷ 17 ∷ 18 ∷ 19 ∷ 20 ∷ 21 ∷ []) $
            returns ! (look ! 18 refl) $ forget ! 8 refl $ forget ! 10 refl $ forget ! 12 refl $ forget ! 14 refl $ forget ! 16 refl $ forget ! 18 refl $
            move ! (18 ∷ 19 ∷ []) $ free1 ! $ move ! (16 ∷ 17 ∷ []) $ free1 ! $ move ! (14 ∷ 15 ∷ []) $ free1 ! $ move ! (12 ∷ 13 ∷ []) $ free1 ! $ move ! (10 ∷ 11 ∷ []) $
            free1 ! $ move ! (8 ∷ 9 ∷ []) $ free1 ! $ move ! (6 ∷ 7 ∷ []) $ free1 ! $ move ! (4 ∷ 5 ∷ []) $ free1 ! $ move ! (2 ∷ 3 ∷ []) $ free1 ! $ free0 ! $
            keep ! (0 ∷ 1 ∷ []) $ by ! (exits₂ c g (sym (get_or-eq_default ys c (nltb→le i (length ys) t))))))))))))))

module _ (𝓔 : Element) {M : Type 1} {𝓤 : Ura M} (𝓛 : Logic 𝓤) (𝓣 : Tables 𝓤 𝓛.H) where
  open 𝓛 use {H}

  meets : (none : 𝓔.R.D) → Meets 𝓛 (signature 𝓔) (WpFn 𝓤 H 𝓣.C 𝓣.Λ (function 𝓔)) (closing 𝓛 (ended 𝓔) (clauses 𝓔 none 𝓤))
  meets none = walk_Meets 𝓛 (ended 𝓔) (stayed 𝓔) (Goes-none_slice 𝓛 1 (0 ∷ []) tt (plain (λ _. row 𝓔.R)) yes, goes 1 𝓛 (uint w64 ∷ [])) (clauses 𝓔 none 𝓤)
      (WpFn 𝓤 H 𝓣.C 𝓣.Λ (function 𝓔)) (WpFn-mono 𝓤 H 𝓛.laws 𝓣 (function 𝓔))
      (walked 𝓛 (ended 𝓔) (stayed 𝓔) (clauses 𝓔 none 𝓤) (WpFn 𝓤 H 𝓣.C 𝓣.Λ (function 𝓔)) (λ κs. (shr_slice_vals, (uint_vals w64, tt)))
      (λ κs. (shr_slice_Tells (named 0) κs.0 (row 𝓔.R), (uint_Tells w64, tt)))
      (λ κs qs bounds a g are. needs 𝓤 (a.1.0 < length a.0.now) _
      (λ within. walk 𝓔 𝓛 none κs.0 qs.0 a.0.ref_ptr.0 a.0.ref_ptr.1 a.0.now a.1.0 are.0.0.1 are.1.0.1 within 𝓣)))

  look-meets : Meets 𝓛 (look_signature 𝓔) (WpFn 𝓤 H 𝓣.C 𝓣.Λ (look_function 𝓔)) (closing 𝓛 (look_ended 𝓔) (look_clauses 𝓔 𝓤))
  look-meets = walk_Meets 𝓛 (look_ended 𝓔) (look_stayed 𝓔) (Goes-none_slice 𝓛 1 (0 ∷ []) tt (plain (λ _. row 𝓔.R)) yes, goes 1 𝓛 (uint w64 ∷ 𝓔.R ∷ []))
      (look_clauses 𝓔 𝓤)
      (WpFn 𝓤 H 𝓣.C 𝓣.Λ (look_function 𝓔)) (WpFn-mono 𝓤 H 𝓛.laws 𝓣 (look_function 𝓔))
      (walked 𝓛 (look_ended 𝓔) (look_stayed 𝓔) (look_clauses 𝓔 𝓤) (WpFn 𝓤 H 𝓣.C 𝓣.Λ (look_function 𝓔))
      (λ κs. (shr_slice_vals, (uint_vals w64, ((λ c. 𝓔.R.val c ∷ []), tt)))) (λ κs. (shr_slice_Tells (named 0) κs.0 (row 𝓔.R), (uint_Tells w64, (𝓔.R.tells, tt))))
      (λ κs qs bounds a g are. via 𝓤 _ (fst∗ 𝓤 _ (emp 𝓤)) (walk₂ 𝓔 𝓛 a.1.1.0 κs.0 qs.0 a.0.ref_ptr.0 a.0.ref_ptr.1 a.0.now a.1.0
      are.0.0.1 are.1.0.1 a.1.1.0 are.1.1.0 𝓣)))

-- what the proof of `get` cites
pub gets : (𝓔 : Element) (none : 𝓔.R.D) {M : Type 1} {𝓤 : Ura M} (𝓛 : Logic 𝓤) (𝓜 : Model 𝓤 𝓛.H) (𝓡 : Running 𝓤 𝓛.H 𝓜) (γ : Routines) (k : Callee)
    → Closed 𝓤 𝓛.H (tables 𝓤 𝓛.H 𝓜 𝓡 γ).C (tables 𝓤 𝓛.H 𝓜 𝓡 γ).Λ k (function 𝓔) → Triple 𝓤 (𝓡.run (γ k)) (contract_of 𝓔 none 𝓤 𝓛)
unfolding tables_of
gets 𝓔 none {𝓤 = 𝓤} 𝓛 𝓜 𝓡 γ k closed =
    entered 𝓤 𝓛.H (contract_of 𝓔 none 𝓤 𝓛) (tables 𝓤 𝓛.H 𝓜 𝓡 γ).C (tables 𝓤 𝓛.H 𝓜 𝓡 γ).Λ k (function 𝓔) closed
    (meets 𝓔 𝓛 (tables_of 𝓤 𝓛.H 𝓜 (tables 𝓤 𝓛.H 𝓜 𝓡 γ)) none)

-- what the proof of `look` cites
pub looks : (𝓔 : Element) {M : Type 1} {𝓤 : Ura M} (𝓛 : Logic 𝓤) (𝓜 : Model 𝓤 𝓛.H) (𝓡 : Running 𝓤 𝓛.H 𝓜) (γ : Routines) (k : Callee)
    → Closed 𝓤 𝓛.H (tables 𝓤 𝓛.H 𝓜 𝓡 γ).C (tables 𝓤 𝓛.H 𝓜 𝓡 γ).Λ k (look_function 𝓔) → Triple 𝓤 (𝓡.run (γ k)) (look_contract 𝓔 𝓤 𝓛)
unfolding tables_of
looks 𝓔 {𝓤 = 𝓤} 𝓛 𝓜 𝓡 γ k closed =
    entered 𝓤 𝓛.H (look_contract 𝓔 𝓤 𝓛) (tables 𝓤 𝓛.H 𝓜 𝓡 γ).C (tables 𝓤 𝓛.H 𝓜 𝓡 γ).Λ k (look_function 𝓔) closed
    (look-meets 𝓔 𝓛 (tables_of 𝓤 𝓛.H 𝓜 (tables 𝓤 𝓛.H 𝓜 𝓡 γ)))
