-- Every function of the form
--     fn replace(list: &mut [R], at: usize, c: C) { list[at] = R { field: c }; }
-- meets its contract. C is any type of plain data, and R a struct with a field of it and no other.
-- Assumes `Logic`.
use mathlib.Core.Path.{◌≡◌, refl, sym, ap, subst}
use Prim.Native.Nat.{ℕ, ◌<◌, ◌^◌}
use lib.Dec.{T as Holds}
use mathlib.Core.List.{[], ◌∷◌, List}
use lib.ListN.{length, set, length-set}
use seplogic.Ra.Ura.{Ura}
use base.Fraction.{full_share}
use mir.Syntax.{Callee, Fn, named, mut, w64, unsigned, ty_ptr, ty_ref, ty_unit, Ty, field, deref, place, copy, int, local, value_local, seq, assign, return, rv_opd, opd_unit, op2, mul}
use mir.Syntax.{offset, aggregate}
use mir.Val.{Val, vint, vptr, vunit, vstruct, vcons, vnil, has_ty, WT}
use base.Logic.{SProp, ent}
use base.Fml.{Lft, Share, GName, ftrue, fat, flft, fobs, fbor}
use prog.Routine.{Env as Routines}
use prog.Model.{Model}
use prog.Wp.{WpFn, Closed, Tables}
use types.Logic.{Logic}
use contract.Monad.{fact}
use contract.Running.{Running, tables, tables_of}
use types.Kit.{‵, ◌⊛◌, ⋆, ◌$◌, ◌∵◌, !, qed, by, move, keep, drop, split, join, rewrite, fsplit, fjoin, feq_i, suffices, frame, done}
use types.Run.{look, init, store_raw, forget, stop, hop, fld, from, load, lit, unit_lit, of_opd, and_then, no_more, bin, assigns, returns, enter, alloc1, alloc0, params1, pass1}
use types.Run.{pass0, free1, free0}
use types.Part.{agg, whole, sub, look_in}
use sound.WpLaws.{WpFn-mono}
use denote.RattleType.{RattleType, owns}
use denote.Shadow.{shadow, pure_i}
use denote.Memory.{pointee}
use denote.Laws.{Is, shows}
use denote.Plain.{Nothing, uint_vals, uint_Tells, uint_Makes}
use denote.Builtin.{usize}
use denote.Ref.{MutBor}
use denote.Slice.{slice_ty, slice_val, MutSlice, Room, heres, coded_holeys, mut_slice_at, mut_slice_vals, mut_slice_Tells}
use denote.Lend.{Held}
use denote.Index.{elem_out, elem_put, opens_slice, closes_slice}
use denote.Steps.{owned, nothing}
use denote.Triple.Entry.{on_entry}
use denote.Triple.Spec.{Meets, triple_of}
use denote.Triple.Statement.{Contract, Triple}
use denote.Triple.Clauses.{Ended, Clauses, closing}
use denote.Triple.Table.{entered}
use denote.Triple.Walked.{says, needs, Stays, stay_slice, stay_none, walk_of, Goes-slice, ends_at, walked, walk_Meets}
use denote.Exit.{yes}
use denote.Signature.{Signature, plain, mut_slice}
use Rattle.walks.proofs.Args.{Datum, row, uint, goes}
use Rattle.list_walks.proofs.Elements.{Element, place-fits, place_of, word, Good}

-- an element that holds a C, and nothing else
pub record Holder (𝓔 : Element) : Type 2 where
  pub C : Datum
  pub wrap : C.D → 𝓔.R.D
  pub wrap_val : (c : C.D) → 𝓔.R.val (wrap c) ≡ vstruct (vcons (C.val c) vnil)
  pub wrap_is : (c : C.D) → shadow (C.own c (C.val c ∷ [])) → shadow (𝓔.R.own (wrap c) (𝓔.R.val (wrap c) ∷ []))

module _ (𝓔 : Element) where
  abbrev slice : Ty
  slice = slice_ty (ty_ref (named 0) mut (pointee 𝓔.R.written))

module _ (𝓔 : Element) (K : Holder 𝓔) where
  abbrev pub signature : Signature
  signature = record { lifetimes = 1; outlives = []; params = mut_slice 0 tt (λ _. row 𝓔.R) ∷ plain (λ _. usize) ∷ plain (λ _. row K.C) ∷ []; result = plain (λ _. Nothing) }

  abbrev pub ended : Ended
  ended = record { signature = signature; kept = (yes, (yes, (yes, tt))) }

  abbrev stayed : Stays ended.signature.params ended.kept
  stayed = (stay_slice (0 ∷ []) tt (plain (λ _. row 𝓔.R)), (stay_none (λ _. usize) yes, (stay_none (λ _. row K.C) yes, tt)))

  abbrev pub function : Fn
  function = record {
    lifetimes = 1;
    outlives = [];
    ty_params = [];
    givens = 0;
    params = 3;
    locals = local ty_unit value_local ∷ local (slice 𝓔) value_local ∷ local word value_local ∷ local K.C.ty value_local ∷ local 𝓔.R.ty value_local ∷ local word value_local
        ∷ local ty_ptr value_local ∷ [];
    body = seq (assign (place 4 []) (aggregate (copy (place 3 []) ∷ [])))
        (seq (assign (place 5 []) (op2 (mul unsigned) (copy (place 2 [])) (int w64 𝓔.bytes)))
        (seq (assign (place 6 []) (op2 offset (copy (place 1 (field 0 ∷ []))) (copy (place 5 []))))
        (seq (assign (place 6 (deref 𝓔.R.ty ∷ [])) (rv_opd (copy (place 4 []))))
        (seq (assign (place 0 []) (rv_opd opd_unit)) return))));
  }

  module _ {M : Type 1} (𝓤 : Ura M) where
    -- `requires { ⌜ at < length (now list) ⌝ }    ensures { λ _. ⌜ now list.exit ≡ set (now list.entry) at (wrap c) ⌝ }`
    abbrev pub clauses : Clauses 𝓤 ended
    clauses κs a = record {
      ghost = Unit {0};
      requires = λ _. fact 𝓤 (a.1.0 < length a.0.now);
      ensures = λ _ r e. fact 𝓤 (e.0.now ≡ set a.0.now a.1.0 (K.wrap a.1.1.0));
    }

    abbrev pub contract_of : (𝓛 : Logic 𝓤) → Contract 𝓤
    contract_of 𝓛 = triple_of 𝓛 signature (closing 𝓛 ended clauses)

module _ (𝓔 : Element) (K : Holder 𝓔) {M : Type 1} {𝓤 : Ura M} (𝓛 : Logic 𝓤) where
  open 𝓛 use {H}

  abbrev X : Type 0
  X = 𝓔.R.D

  abbrev R : RattleType
  R = row 𝓔.R

  abbrev rvals : X → List Val
  rvals y = 𝓔.R.val y ∷ []

  module _ (κ : Lft) (q : Share) (b o : ℕ) (γ : GName) (ys : List X) (i : ℕ) (c : K.C.D) where
    abbrev x : List X → MutBor (List X)
    x l = record { ref_ptr = (b, o); ghost_name = γ; now = l }

    abbrev s : Val
    s = slice_val (b, o) (length ys)

    abbrev v : Val
    v = K.C.val c

    abbrev y : X
    y = K.wrap c

    abbrev zs : List X
    zs = set ys i y

    same : length zs ≡ length ys
    same = length-set ys i y

    abbrev a : MutBor (List X) × (ℕ × (K.C.D × Unit {0}))
    a = (x ys, (i, (c, tt)))

    abbrev vals : List Val × (List Val × (List Val × Unit {0}))
    vals = (s ∷ [], (vint w64 i ∷ [], (v ∷ [], tt)))

    abbrev Post : Val → SProp 𝓤
    Post = (walk_of 𝓛 (ended 𝓔 K) (stayed 𝓔 K) (clauses 𝓔 K 𝓤)).post (((κ, tt), (q, tt), tt, a, vals), tt)

    module _ (room : Room R (length ys)) (i-fits : i < 2 ^ 64) (g : shadow (K.C.own c (v ∷ []))) (within : i < length ys) where
      made : Good 𝓔.R y
      made = K.wrap_is c g

      typed : Holds (has_ty 𝓔.R.ty (𝓔.R.val y)) × WT (𝓔.R.val y)
      typed = 𝓔.R.typed 𝓛 y _ made

      exits : ent 𝓤 (⋆ 𝓛 (‵ (fobs γ ((coded_holeys R).code (heres R zs))) ∷ ‵ (fbor κ (Held R (length zs) b o γ)) ∷ ‵ (flft κ q) ∷ [])) (Post vunit)
      exits =
          qed 𝓛 (‵ (fobs γ ((coded_holeys R).code (heres R zs))) ∷ ‵ (fbor κ (Held R (length zs) b o γ)) ∷ ‵ (flft κ q) ∷ []) ∵
          suffices ! _ (ends_at 𝓛 (ended 𝓔 K) (stayed 𝓔 K) (clauses 𝓔 K 𝓤) (((κ, tt), (q, tt), tt, a, vals), tt) vunit tt (zs, (tt, (tt, tt))) (same, (tt, (tt, tt)))) $
          says ! refl $
          nothing ! $ move ! (3 ∷ 0 ∷ []) $ join ! $ frame ! $
          fjoin ! $ pure_i ! (mut_slice_at R (x zs) (s ∷ [])) (tt, (tt, tt)) (ap (λ (m : ℕ). slice_val (b, o) m ∷ []) (sym same), subst (Room R) (sym same) room) $ fjoin ! $
          nothing ! $ owned ! (row K.C) (Is (row K.C)) (K.C.makes 𝓛) c _ g $ fjoin ! $ owned ! usize (Is usize) (uint_Makes 𝓛 w64) i _ (refl, i-fits) $
          fjoin ! $
          move ! (1 ∷ 0 ∷ []) $ fjoin ! $ feq_i ! (List Val) (vunit ∷ []) (vunit ∷ []) refl $ move ! (1 ∷ 0 ∷ []) $ done !

      walk : (𝓣 : Tables 𝓤 H) → ent 𝓤 (on_entry 𝓛 (signature 𝓔 K) (κ, tt) (q, tt) a vals) (WpFn 𝓤 H 𝓣.C 𝓣.Λ (function 𝓔 K) (s ∷ vint w64 i ∷ v ∷ []) Post)
      walk 𝓣 =
          qed 𝓛 ((‵ (flft κ q) ⊛ ‵ ftrue) ∷ ‵ (owns (MutSlice (named 0) κ R ∷ usize ∷ row K.C ∷ []) a vals) ∷ []) ∵ enter ! 𝓣.C 𝓣.Λ (function 𝓔 K)
          (s ∷ vint w64 i ∷ v ∷ []) _ $
          alloc1 ! (λ l₀. alloc1 ! (λ l₁. alloc1 ! (λ l₂. alloc1 ! (λ l₃. alloc1 ! (λ l₄. alloc1 ! (λ l₅. alloc1 ! (λ l₆. alloc0 ! $ params1 ! $
          pass1 ! (init ! 10 refl (tt, (tt, (record { fits = room.0 }, tt)))) $ pass1 ! (init ! 8 refl (tt, record { fits = i-fits })) $
          pass1 ! (init ! 6 refl (K.C.typed 𝓛 c _ g)) $ pass0 ! $
          assigns ! (agg ! (and_then ! (load ! (from ! (stop !)) (look ! 6 refl)) (no_more !))) (from ! (stop !))
          (init ! 4 refl (subst (λ (u : Val). Holds (has_ty 𝓔.R.ty u) × WT u) (K.wrap_val c) typed)) $
          rewrite ! 4 (λ (u : Val). ‵ (fat full_share 𝓔.R.ty l₄ 0 u)) (sym (K.wrap_val c)) refl $
          assigns ! (bin ! (load ! (from ! (stop !)) (look ! 8 refl)) (lit ! 𝓔.bytes_fit) (record { fits = place-fits 𝓔 (length ys) i room within })) (from ! (stop !))
          (init ! 2 refl (tt, record { fits = place-fits 𝓔 (length ys) i room within })) $
          assigns ! (bin ! (load ! (from ! (fld ! refl (stop !))) (look_in ! 10 (sub ! 0 refl (whole !)))) (load ! (from ! (stop !)) (look ! 2 refl)) tt) (from ! (stop !))
          (init ! 0 refl (tt, tt)) $
          rewrite ! 0 (λ (m : ℕ). ‵ (fat full_share ty_ptr l₆ 0 (vptr b m))) (sym (place_of 𝓔 o i)) refl $
          -- the borrow is opened
          move ! (15 ∷ []) $ fsplit ! $ fsplit ! $ drop ! $ fsplit ! $ move ! (17 ∷ []) $ split ! $ move ! (2 ∷ 3 ∷ 0 ∷ []) $ opens_slice ! tt R ys b o $
          keep ! (0 ∷ 1 ∷ 2 ∷ 3 ∷ 6 ∷ 7 ∷ 8 ∷ 9 ∷ 10 ∷ 11 ∷ 12 ∷ 13 ∷ 14 ∷ 15 ∷ 16 ∷ 17 ∷ 18 ∷ 19 ∷ []) $
          -- [row; the open borrow; obs; auth; _6 4; …]: the element is taken out of the row, stored to, and put back
          elem_out ! R (Is R) (shows 𝓛 R) rvals 𝓔.R.tells full_share ys i y b o within (λ _.
          assigns ! (of_opd ! (load ! (from ! (stop !)) (look ! 10 refl))) (from ! (hop ! (look ! 6 refl) (stop !))) (store_raw ! 0 refl typed) $
          move ! (1 ∷ []) $ drop ! $ owned ! R (Is R) (𝓔.R.makes 𝓛) y _ made $ move ! (1 ∷ 0 ∷ []) $
          elem_put ! R full_share ys i y (rvals y) b o within $
          assigns ! (of_opd ! (unit_lit !)) (from ! (stop !)) (init ! 16 refl (tt, tt)) $
          closes_slice ! tt R ys zs same b o $
          -- [obs; the borrow; the token; _6 3; …]
          returns ! (look ! 15 refl) $ forget ! 3 refl $ forget ! 5 refl $ forget ! 7 refl $ forget ! 9 refl $ forget ! 11 refl $ forget ! 13 refl $ forget ! 15 refl $
          move ! (15 ∷ 16 ∷ []) $ free1 ! $ move ! (13 ∷ 14 ∷ []) $ free1 ! $ move ! (11 ∷ 12 ∷ []) $ free1 ! $ move ! (9 ∷ 10 ∷ []) $ free1 ! $ move ! (7 ∷ 8 ∷ []) $ free1 ! $
          move ! (5 ∷ 6 ∷ []) $ free1 ! $ move ! (3 ∷ 4 ∷ []) $ free1 ! $ free0 ! $
          keep ! (0 ∷ 1 ∷ 2 ∷ []) $ by ! exits))))))))

  meets : (𝓣 : Tables 𝓤 H) → Meets 𝓛 (signature 𝓔 K) (WpFn 𝓤 H 𝓣.C 𝓣.Λ (function 𝓔 K)) (closing 𝓛 (ended 𝓔 K) (clauses 𝓔 K 𝓤))
  meets 𝓣 = walk_Meets 𝓛 (ended 𝓔 K) (stayed 𝓔 K) (Goes-slice 𝓛 1 0 tt (plain (λ _. R)), goes 1 𝓛 (uint w64 ∷ K.C ∷ [])) (clauses 𝓔 K 𝓤)
      (WpFn 𝓤 H 𝓣.C 𝓣.Λ (function 𝓔 K)) (WpFn-mono 𝓤 H 𝓛.laws 𝓣 (function 𝓔 K))
      (walked 𝓛 (ended 𝓔 K) (stayed 𝓔 K) (clauses 𝓔 K 𝓤) (WpFn 𝓤 H 𝓣.C 𝓣.Λ (function 𝓔 K)) (λ κs. (mut_slice_vals, (uint_vals w64, ((λ c. K.C.val c ∷ []), tt))))
      (λ κs. (mut_slice_Tells (named 0) κs.0 R, (uint_Tells w64, (K.C.tells, tt))))
      (λ κs qs bounds a g are. needs 𝓤 (a.1.0 < length a.0.now) _
      (λ within. walk κs.0 qs.0 a.0.ref_ptr.0 a.0.ref_ptr.1 a.0.ghost_name a.0.now a.1.0 a.1.1.0 are.0.0.1 are.1.0.1 are.1.1.0 within 𝓣)))

-- what the proof of `replace` cites
pub replaces : (𝓔 : Element) (K : Holder 𝓔) {M : Type 1} {𝓤 : Ura M} (𝓛 : Logic 𝓤) (𝓜 : Model 𝓤 𝓛.H) (𝓡 : Running 𝓤 𝓛.H 𝓜) (γ : Routines) (k : Callee)
    → Closed 𝓤 𝓛.H (tables 𝓤 𝓛.H 𝓜 𝓡 γ).C (tables 𝓤 𝓛.H 𝓜 𝓡 γ).Λ k (function 𝓔 K) → Triple 𝓤 (𝓡.run (γ k)) (contract_of 𝓔 K 𝓤 𝓛)
unfolding tables_of
replaces 𝓔 K {𝓤 = 𝓤} 𝓛 𝓜 𝓡 γ k closed =
    entered 𝓤 𝓛.H (contract_of 𝓔 K 𝓤 𝓛) (tables 𝓤 𝓛.H 𝓜 𝓡 γ).C (tables 𝓤 𝓛.H 𝓜 𝓡 γ).Λ k (function 𝓔 K) closed
    (meets 𝓔 K 𝓛 (tables_of 𝓤 𝓛.H 𝓜 (tables 𝓤 𝓛.H 𝓜 𝓡 γ)))
