-- Every function of the form
--     fn join_list(list: &mut [R], b: &[R], x: X) -> P {
--         let a = look_first(list, x); let s = look_second(b, x); let plan = plan_join(x, a, s);
--         put_in(list, plan);
--         let n = n_of(plan); let at = at_of(plan);
--         copy_moved(b, n, list, at, plan);
--         plan
--     }
-- where the lists are looked at by functions as `FoldingFirst.antt` has them, `put_in` is as `walks`' `Recording.antt` has `record`, `copy_moved` as `Copying.antt` has it, and the other callees are functions of plain data.
-- Its MIR (`function`) meets every contract that follows (`Lists`), which may use that each element of the first list is of its type. All types are any types of plain data.
-- Assumes `Logic`, and that the callees meet their contracts.
use mathlib.Core.Path.{◌≡◌, refl, sym, ◌∙◌, ap, subst}
use Prim.Native.Nat.{ℕ, ◌<◌, ◌≤◌, ◌+◌, ◌^◌}
use mathlib.Core.List.{[], ◌∷◌, List}
use lib.ListN.{length}
use lib.Seq.{paste}
use seplogic.Ra.Ura.{Ura}
use base.Fraction.{full_share}
use mir.Syntax.{erased, addr_of, Callee, Fn, named, mut, imm, w64, ty_ref, ty_unit, Ty, Lifetime, field, deref, place, copy, local, value_local, seq, assign, call, return, aggregate, rv_opd, Place, Opd as Operand, Body}
use mir.Val.{Val, vint}
use base.Logic.{SProp, ent, emp, id⊢, via, fst∗}
use base.Fml.{Lft, Share, GName, ftrue, fsep, fat, flft, fbor}
use prog.Routine.{Routine, Env as Routines}
use prog.Model.{Model}
use prog.Wp.{WpFn, Closed, Tables, Calls, Loops, Env}
use types.Logic.{Logic}
use contract.Monad.{fact, fact_i}
use contract.Running.{Running, tables, tables_of}
use types.Kit.{Item, Post as Goal, Seq, runs, lands, raw, ‵, ◌⊛◌, ⋆, later, some, await, pick, use0, use1, use2, use3, ◌$◌, ◌∵◌, !, qed, by, move, drop, split, join, rewrite, fsplit, fjoin, feq_l, suffices, frame, done}
use types.Run.{addr, look, init, store, forget, stop, hop, fld, from, load, of_opd, and_then, no_more, assigns, land, returns, enter, alloc1, alloc0, params1, pass1, pass0, free1, free0, Opds}
use types.Part.{agg, whole, sub, look_in}
use types.Tokens.{lft_new, lft_end}
use sound.WpLaws.{fm_of, FmC, WpFn-mono}
use denote.RattleType.{RattleType, Denots, Valss, flat, owns}
use denote.Memory.{pointee}
use denote.Laws.{Is, shows, Ises, Are, Makes, Makess, owns_make}
use denote.Plain.{Nothing, uint_Tells, uint_Makes}
use denote.Builtin.{usize}
use denote.Lend.{Held}
use denote.Ref.{Bor, MutBor}
use denote.Slice.{finally, mut_slice_vals, slice_ty, slice_val, MutSlice, ShrSlice, Room, shr_slice_vals, mut_slice_Tells, shr_slice_Tells, shr_slice_copy}
use denote.Steps.{only, owned, nothing, heard, facts}
use denote.Triple.Entry.{on_entry, Res}
use denote.Triple.Spec.{Meets, triple_of}
use denote.Triple.Statement.{Contract, Triple}
use denote.Triple.End.{Kepts}
use denote.Triple.Call.{calls_at}
use denote.Triple.Clauses.{Ended, Lasts, Clauses, closing, ensured, lasts, at_exit}
use denote.Triple.Table.{entered, cited}
use denote.Triple.Walked.{gave_slice, Goes-gave_slice, Goes-none_slice, stay_none_slice, says, Stays, stay_none, walk_of, ends_at, walked, walk_Meets}
use denote.Exit.{yes}
use denote.Signature.{Signature, Slot, plain, mut_slice, shr_slice, type_at, types_at}
use Rattle.walks.proofs.Args.{Datum, row, uint, goes, Dens}
use Rattle.walks.proofs.Calls.{gave, lend, calls-list}
use Rattle.walks.proofs.Slices.{rend, calls-reads}
use Rattle.walks.proofs.Straight.{none}
use Rattle.list_walks.specs.Map.{map_at}
use Rattle.list_walks.proofs.Elements.{Element, word, Good, good, Goods, list-goods}
use Rattle.list_walks.proofs.Called.{of_contract, calls-of}
use Rattle.list_walks.proofs.Again.{LentAgain, lends_again, comes_back}
use Rattle.list_walks.proofs.Shared.{SharedAgain, shares-again, shared_back}
use Rattle.list_walks.proofs.Copying as C

-- ---- a call of a function that takes a `&[N]`, plain data, a `&mut [R]` and then plain data, and returns plain data: of the first slice a copy is passed, and the other is lent for good
module _ (N D R : RattleType) where
  abbrev csig : List (Slot 2) → Slot 2 → Signature
  csig ps r = record { lifetimes = 2; outlives = []; params = shr_slice 0 tt (λ _. N) ∷ plain (λ _. D) ∷ mut_slice 1 tt (λ _. R) ∷ ps; result = r }

  abbrev cend : (ps : List (Slot 2)) → Slot 2 → Kepts ps → Ended
  cend ps r ks = record { signature = csig ps r; kept = (yes, (yes, (yes, ks))) }

module _ {M : Type 1} {𝓤 : Ura M} {𝓛 : Logic 𝓤} {K : Type 0} {Γ : List (Item 𝓤)} {E : Env 𝓤 𝓛.H} {C : Calls 𝓤 𝓛.H} {Λ : Loops 𝓤 𝓛.H} {q₀ : Goal 𝓤 𝓛.H} {f : Callee} {xs : List Operand} {d : Place} {rest : Body} where
  open 𝓛 use {H}

  calls-copies : K → FmC 𝓤 H 𝓛.laws C → (N D R : RattleType) (ps : List (Slot 2)) (res : Slot 2) (ks : Kepts ps) (c : Clauses 𝓤 (cend N D R ps res ks)) → Triple 𝓤 (C f) (triple_of 𝓛 (csig N D R ps res) (closing 𝓛 (cend N D R ps res ks) c))
      → (κ κ' : Lft) (q q' : Share) → Makes 𝓛 D (Is D) → Makess 𝓛 (types_at ps (κ, (κ', tt))) (Ises (types_at ps (κ, (κ', tt)))) → (ℓ ℓ' : Lifetime) (x : Bor (List N.Denot)) (s : Val) (y : D.Denot) (v : Val) → Is D y (v ∷ [])
      → (x' : MutBor (List R.Denot)) (s' : Val) (a : Denots (types_at ps (κ, (κ', tt)))) (vss : Valss (types_at ps (κ, (κ', tt)))) → Are (types_at ps (κ, (κ', tt))) (Ises (types_at ps (κ, (κ', tt)))) a vss
      → (g : (c (κ, (κ', tt)) (x, (y, (x', a)))).ghost) → ent 𝓤 (emp 𝓤) ((c (κ, (κ', tt)) (x, (y, (x', a)))).requires g)
      → (ψ : Res (csig N D R ps res) (κ, (κ', tt)) → List R.Denot → Type 0)
      → ((r : Res (csig N D R ps res) (κ, (κ', tt))) (ws : Lasts (cend N D R ps res ks) (κ, (κ', tt)) (x, (y, (x', a)))) → ent 𝓤 ((c (κ, (κ', tt)) (x, (y, (x', a)))).ensures g r (at_exit (cend N D R ps res ks) (κ, (κ', tt)) (x, (y, (x', a))) ws)) (fact 𝓤 (ψ r ws.1.1.0)))
      → Opds K 𝓛 (raw ((triple_of 𝓛 (csig N D R ps res) (closing 𝓛 (cend N D R ps res ks) c)).pre (((κ, (κ', tt)), (q, (q', tt)), tt, (x, (y, (x', a))), (s ∷ [], (v ∷ [], (s' ∷ [], vss)))), g)) ∷ Γ) E xs (s ∷ v ∷ s' ∷ flat (types_at ps (κ, (κ', tt))) vss)
      → ((r : Res (csig N D R ps res) (κ, (κ', tt))) (w : Val) (zs : List R.Denot) → Is (type_at res (κ, (κ', tt))) r (w ∷ []) → length zs ≡ length x'.now → ψ r zs → Seq K 𝓛 (‵ (flft κ q) ∷ ‵ (flft κ' q') ∷ ‵ (gave R κ' x' zs) ∷ Γ) (lands C Λ E d w rest q₀))
      → Seq K 𝓛 (‵ (flft κ q) ∷ ‵ (flft κ' q') ∷ ‵ ((ShrSlice ℓ κ N).own_val x (s ∷ [])) ∷ ‵ ((MutSlice ℓ' κ' R).own_val x' (s' ∷ [])) ∷ Γ) (runs C Λ E (seq (call f xs d) rest) q₀)
  calls-copies t fm N D R ps res ks c met κ κ' q q' mk mks ℓ ℓ' x s y v is_y x' s' a vss are g req ψ ens os k =
      nothing t $ move t (2 ∷ 0 ∷ []) $ join t $ move t (1 ∷ 0 ∷ []) $ join t $
      use0 𝓛 (‵ (owns (types_at ps (κ, (κ', tt))) a vss)) (owns_make 𝓛 (types_at ps (κ, (κ', tt))) (Ises (types_at ps (κ, (κ', tt)))) mks a vss are) $ move t (3 ∷ 0 ∷ []) $ fjoin t $
      owned t D (Is D) mk y _ is_y $ fjoin t $ move t (2 ∷ 0 ∷ []) $ fjoin t $ move t (1 ∷ 0 ∷ []) $ join t $
      use0 𝓛 (raw ((c (κ, (κ', tt)) (x, (y, (x', a)))).requires g)) req $ move t (1 ∷ 0 ∷ []) $ join t $
      use1 𝓛 (raw ((triple_of 𝓛 (csig N D R ps res) (closing 𝓛 (cend N D R ps res ks) c)).pre (((κ, (κ', tt)), (q, (q', tt)), tt, (x, (y, (x', a))), (s ∷ [], (v ∷ [], (s' ∷ [], vss)))), g))) (id⊢ 𝓤 _) $
      calls_at t fm (triple_of 𝓛 (csig N D R ps res) (closing 𝓛 (cend N D R ps res ks) c)) met (((κ, (κ', tt)), (q, (q', tt)), tt, (x, (y, (x', a))), (s ∷ [], (v ∷ [], (s' ∷ [], vss)))), g) os (λ w.
      use1 𝓛 (later (some (λ (r : Res (csig N D R ps res) (κ, (κ', tt))). ((‵ (flft κ q) ⊛ (‵ (flft κ' q') ⊛ ‵ ftrue)) ⊛ ‵ ((type_at res (κ, (κ', tt))).own_val r (w ∷ []))) ⊛ raw (ensured 𝓛 (cend N D R ps res ks) c (κ, (κ', tt)) (x, (y, (x', a))) g r)))) (id⊢ 𝓤 _) $ await t tt $ pick t (λ r.
      split t $ move t (1 ∷ []) $ use1 𝓛 (some (λ (ws : Lasts (cend N D R ps res ks) (κ, (κ', tt)) (x, (y, (x', a)))). ‵ (lasts (cend N D R ps res ks) (κ, (κ', tt)) (x, (y, (x', a))) ws) ⊛ raw ((c (κ, (κ', tt)) (x, (y, (x', a)))).ensures g r (at_exit (cend N D R ps res ks) (κ, (κ', tt)) (x, (y, (x', a))) ws)))) (id⊢ 𝓤 _) $ pick t (λ ws.
      split t $ move t (1 ∷ []) $ use1 𝓛 (raw (fact 𝓤 (ψ r ws.1.1.0))) (ens r ws) $ heard t (ψ r ws.1.1.0) (λ e. fsplit t $ drop t $ fsplit t $ drop t $ fsplit t $ fsplit t $ fsplit t $ move t (0 ∷ 2 ∷ []) $ fjoin t $ move t (1 ∷ []) $ feq_l t (λ l.
      -- [the last list; the others' last values; the tokens and the result]
      move t (1 ∷ []) $ drop t $ move t (1 ∷ []) $ split t $ move t (1 ∷ []) $ facts t (type_at res (κ, (κ', tt))) (Is (type_at res (κ, (κ', tt)))) (shows 𝓛 (type_at res (κ, (κ', tt)))) r (w ∷ []) (λ is.
      split t $ move t (1 ∷ []) $ split t $ move t (1 ∷ []) $ drop t $ move t (1 ∷ 0 ∷ []) $ k r w ws.1.1.0 is l e))))))

-- ---- the types; what the callees ensure and require; what the whole ensures
pub record Lists : Type 2 where
  pub 𝓔 : Element
  pub X : Datum
  pub A : Datum
  pub S : Datum
  pub P : Datum
  pub First : List 𝓔.R.D → X.D → A.D → Type 0
  pub Second : List 𝓔.R.D → X.D → S.D → Type 0
  pub planned : X.D → A.D → S.D → P.D
  pub Fits : P.D → ℕ → Type 0
  pub put : P.D → List 𝓔.R.D → List 𝓔.R.D
  pub n : P.D → ℕ
  pub at : P.D → ℕ
  pub moved : P.D → ℕ → 𝓔.R.D → 𝓔.R.D
  pub Done : List 𝓔.R.D → List 𝓔.R.D → X.D → List 𝓔.R.D → P.D → Type 0
  pub fits : (l m : List 𝓔.R.D) (x : X.D) (a : A.D) (s : S.D) → First l x a → Second m x s → Fits (planned x a s) (length l)
  pub copies : (l m : List 𝓔.R.D) (x : X.D) (a : A.D) (s : S.D) → First l x a → Second m x s → (n (planned x a s) ≤ length m) × (at (planned x a s) + n (planned x a s) ≤ length l)
  pub does : (l m : List 𝓔.R.D) (x : X.D) (a : A.D) (s : S.D) → Goods 𝓔.R l → First l x a → Second m x s
      → Done l m x (paste (put (planned x a s) l) (at (planned x a s)) (map_at (moved (planned x a s)) 0 m) (n (planned x a s))) (planned x a s)

pub record Names : Type 0 where
  pub first : Callee
  pub second : Callee
  pub plan : Callee
  pub put : Callee
  pub n : Callee
  pub at : Callee
  pub copy_moved : Callee

module _ (T : Lists) where
  abbrev L : RattleType
  L = row T.𝓔.R

  abbrev slice : Ty
  slice = slice_ty (ty_ref (named 0) mut (pointee T.𝓔.R.written))

  abbrev other : Ty
  other = slice_ty (ty_ref (named 1) imm (pointee T.𝓔.R.written))

  abbrev shown : Ty
  shown = ty_ref erased imm (pointee T.𝓔.R.written)

  abbrev lent : Ty
  lent = ty_ref erased mut (pointee T.𝓔.R.written)

  abbrev pub signature : Signature
  signature = record { lifetimes = 2; outlives = []; params = mut_slice 0 tt (λ _. row T.𝓔.R) ∷ shr_slice 1 tt (λ _. row T.𝓔.R) ∷ plain (λ _. row T.X) ∷ []; result = plain (λ _. row T.P) }

  abbrev pub ended : Ended
  ended = record { signature = signature; kept = (yes, (yes, (yes, tt))) }

  abbrev stayed : Stays ended.signature.params ended.kept
  stayed = (gave_slice (0 ∷ []) tt (plain (λ _. row T.𝓔.R)), (stay_none_slice (1 ∷ []) tt (plain (λ _. row T.𝓔.R)) yes, (stay_none (λ _. row T.X) yes, tt)))

  -- the locals: the result, the lists, x, a, s, the plan, n, at, what is shown of the list, (), and what is lent of it twice
  abbrev pub function : Names → Fn
  function f = record {
    lifetimes = 2;
    outlives = [];
    ty_params = [];
    givens = 0;
    params = 3;
    locals = local T.P.ty value_local ∷ local slice value_local ∷ local other value_local ∷ local T.X.ty value_local ∷ local T.A.ty value_local ∷ local T.S.ty value_local ∷ local T.P.ty value_local ∷ local word value_local ∷ local word value_local
        ∷ local shown value_local ∷ local (slice_ty shown) value_local ∷ local ty_unit value_local ∷ local lent value_local ∷ local (slice_ty lent) value_local ∷ local lent value_local ∷ local (slice_ty lent) value_local ∷ [];
    body = seq (assign (place 9 []) (addr_of (place 1 (field 0 ∷ deref T.𝓔.R.ty ∷ []))))
        (seq (assign (place 10 []) (aggregate (copy (place 9 []) ∷ copy (place 1 (field 1 ∷ [])) ∷ [])))
        (seq (call f.first (copy (place 10 []) ∷ copy (place 3 []) ∷ []) (place 4 []))
        (seq (call f.second (copy (place 2 []) ∷ copy (place 3 []) ∷ []) (place 5 []))
        (seq (call f.plan (copy (place 3 []) ∷ copy (place 4 []) ∷ copy (place 5 []) ∷ []) (place 6 []))
        (seq (assign (place 12 []) (addr_of (place 1 (field 0 ∷ deref T.𝓔.R.ty ∷ []))))
        (seq (assign (place 13 []) (aggregate (copy (place 12 []) ∷ copy (place 1 (field 1 ∷ [])) ∷ [])))
        (seq (call f.put (copy (place 13 []) ∷ copy (place 6 []) ∷ []) (place 11 []))
        (seq (call f.n (copy (place 6 []) ∷ []) (place 7 []))
        (seq (call f.at (copy (place 6 []) ∷ []) (place 8 []))
        (seq (assign (place 14 []) (addr_of (place 1 (field 0 ∷ deref T.𝓔.R.ty ∷ []))))
        (seq (assign (place 15 []) (aggregate (copy (place 14 []) ∷ copy (place 1 (field 1 ∷ [])) ∷ [])))
        (seq (call f.copy_moved (copy (place 2 []) ∷ copy (place 7 []) ∷ copy (place 15 []) ∷ copy (place 8 []) ∷ copy (place 6 []) ∷ []) (place 11 []))
        (seq (assign (place 0 []) (rv_opd (copy (place 6 [])))) return)))))))))))));
  }

  abbrev plan_args : List Datum
  plan_args = T.X ∷ T.A ∷ T.S ∷ []

  abbrev plan_of : Dens plan_args → T.P.D
  plan_of d = T.planned d.0 d.1.0 d.1.1.0

  abbrev first_ended : Ended
  first_ended = rend (row T.𝓔.R) (plain (λ _. row T.X) ∷ []) (plain (λ _. row T.A)) (yes, tt)

  abbrev second_ended : Ended
  second_ended = rend (row T.𝓔.R) (plain (λ _. row T.X) ∷ []) (plain (λ _. row T.S)) (yes, tt)

  abbrev put_ended : Ended
  put_ended = lend (row T.𝓔.R) (plain (λ _. row T.P) ∷ []) (plain (λ _. Nothing)) (yes, tt)

  module _ {M : Type 1} (𝓤 : Ura M) where
    -- `ensures { λ r. ⌜ Done (now list.entry) (now b.entry) x (now list.exit) r ⌝ }`
    abbrev pub clauses : Clauses 𝓤 ended
    clauses κs a = record { ghost = Unit {0}; requires = λ _. emp 𝓤; ensures = λ _ r e. fact 𝓤 (T.Done a.0.now a.1.0.now a.1.1.0 e.0.now r) }

    abbrev pub first_clauses : Clauses 𝓤 first_ended
    first_clauses κs a = record { ghost = Unit {0}; requires = λ _. emp 𝓤; ensures = λ _ r e. fact 𝓤 (T.First a.0.now a.1.0 r) }

    abbrev pub second_clauses : Clauses 𝓤 second_ended
    second_clauses κs a = record { ghost = Unit {0}; requires = λ _. emp 𝓤; ensures = λ _ r e. fact 𝓤 (T.Second a.0.now a.1.0 r) }

    abbrev pub put_clauses : Clauses 𝓤 put_ended
    put_clauses κs a = record { ghost = Unit {0}; requires = λ _. fact 𝓤 (T.Fits a.1.0 (length a.0.now)); ensures = λ _ r e. fact 𝓤 (e.0.now ≡ T.put a.1.0 a.0.now) }

    module _ (𝓛 : Logic 𝓤) where
      abbrev pub contract_of : Contract 𝓤
      contract_of = triple_of 𝓛 signature (closing 𝓛 ended clauses)

      abbrev pub first_contract : Contract 𝓤
      first_contract = triple_of 𝓛 first_ended.signature (closing 𝓛 first_ended first_clauses)

      abbrev pub second_contract : Contract 𝓤
      second_contract = triple_of 𝓛 second_ended.signature (closing 𝓛 second_ended second_clauses)

      abbrev pub plan_contract : Contract 𝓤
      plan_contract = of_contract plan_args T.P 𝓤 𝓛 plan_of

      abbrev pub put_contract : Contract 𝓤
      put_contract = triple_of 𝓛 put_ended.signature (closing 𝓛 put_ended put_clauses)

      abbrev pub n_contract : Contract 𝓤
      n_contract = of_contract (T.P ∷ []) (uint w64) 𝓤 𝓛 (λ d. T.n d.0)

      abbrev pub at_contract : Contract 𝓤
      at_contract = of_contract (T.P ∷ []) (uint w64) 𝓤 𝓛 (λ d. T.at d.0)

      abbrev pub copy_contract : Contract 𝓤
      copy_contract = C.contract_of T.𝓔 T.P T.moved 𝓤 𝓛

module _ (T : Lists) (f : Names) {M : Type 1} {𝓤 : Ura M} (𝓛 : Logic 𝓤) (𝓣 : Tables 𝓤 𝓛.H) (known-first : Triple 𝓤 (𝓣.C f.first) (first_contract T 𝓤 𝓛))
    (known-second : Triple 𝓤 (𝓣.C f.second) (second_contract T 𝓤 𝓛)) (known-plan : Triple 𝓤 (𝓣.C f.plan) (plan_contract T 𝓤 𝓛)) (known-put : Triple 𝓤 (𝓣.C f.put) (put_contract T 𝓤 𝓛))
    (known-n : Triple 𝓤 (𝓣.C f.n) (n_contract T 𝓤 𝓛)) (known_at_lem : Triple 𝓤 (𝓣.C f.at) (at_contract T 𝓤 𝓛)) (known-copy : Triple 𝓤 (𝓣.C f.copy_moved) (copy_contract T 𝓤 𝓛)) where
  open 𝓛 use {H}

  module _ (κ₀ κ₁ : Lft) (q₀ q₁ : Share) (b o : ℕ) (γ : GName) (ys : List T.𝓔.R.D) (other-list : Bor (List T.𝓔.R.D)) (p : T.X.D) where
    abbrev R : RattleType
    R = row T.𝓔.R

    abbrev x : GName → List T.𝓔.R.D → MutBor (List T.𝓔.R.D)
    x δ m = record { ref_ptr = (b, o); ghost_name = δ; now = m }

    -- as it is shown for a call
    abbrev y : Bor (List T.𝓔.R.D)
    y = record { ref_ptr = (b, o); now = ys }

    abbrev s : Val
    s = slice_val (b, o) (length ys)

    abbrev s' : Val
    s' = slice_val other-list.ref_ptr (length other-list.now)

    abbrev v : Val
    v = T.X.val p

    abbrev a : MutBor (List T.𝓔.R.D) × (Bor (List T.𝓔.R.D) × (T.X.D × Unit {0}))
    a = (x γ ys, (other-list, (p, tt)))

    abbrev vals : List Val × (List Val × (List Val × Unit {0}))
    vals = (s ∷ [], (s' ∷ [], (v ∷ [], tt)))

    abbrev Post : Val → SProp 𝓤
    Post = (walk_of 𝓛 (ended T) (stayed T) (clauses T 𝓤)).post (((κ₀, (κ₁, tt)), (q₀, (q₁, tt)), tt, a, vals), tt)

    abbrev Sb : Item 𝓤
    Sb = ‵ ((ShrSlice (named 1) κ₁ R).own_val other-list (s' ∷ []))

    module _ (room : Room R (length ys)) (room' : Room R (length other-list.now)) (g : Good T.X p) where
      exits : (m : ℕ) (zs : List T.𝓔.R.D) (r : T.P.D) → m ≡ length ys → length zs ≡ length ys → Good T.P r → T.Done ys other-list.now p zs r
          → ent 𝓤 (⋆ 𝓛 (‵ (flft κ₀ q₀) ∷ ‵ (flft κ₁ q₁) ∷ ‵ (fsep (finally R γ zs) (fbor κ₀ (Held R m b o γ))) ∷ Sb ∷ [])) (Post (T.P.val r))
      exits m zs r long len is dn =
          qed 𝓛 (‵ (flft κ₀ q₀) ∷ ‵ (flft κ₁ q₁) ∷ ‵ (fsep (finally R γ zs) (fbor κ₀ (Held R m b o γ))) ∷ Sb ∷ []) ∵
          rewrite ! 2 (λ (k : ℕ). ‵ (fsep (finally R γ zs) (fbor κ₀ (Held R k b o γ)))) long refl $
          suffices ! _ (ends_at 𝓛 (ended T) (stayed T) (clauses T 𝓤) (((κ₀, (κ₁, tt)), (q₀, (q₁, tt)), tt, a, vals), tt) (T.P.val r) r (zs, (tt, (tt, tt))) (len, (tt, (tt, tt)))) $ says ! dn $
          nothing ! $ move ! (2 ∷ 0 ∷ []) $ join ! $ move ! (1 ∷ 0 ∷ []) $ join ! $ frame ! $
          nothing ! $ owned ! (row T.X) (Is (row T.X)) (T.X.makes 𝓛) p _ g $ fjoin ! $ move ! (2 ∷ 0 ∷ []) $ fjoin ! $ move ! (1 ∷ 0 ∷ []) $ fjoin ! $
          frame ! $ owned ! (row T.P) (Is (row T.P)) (T.P.makes 𝓛) r _ is $ done !

      walk : ent 𝓤 (on_entry 𝓛 (signature T) (κ₀, (κ₁, tt)) (q₀, (q₁, tt)) a vals) (WpFn 𝓤 H 𝓣.C 𝓣.Λ (function T f) (s ∷ s' ∷ v ∷ []) Post)
      walk =
          qed 𝓛 ((‵ (flft κ₀ q₀) ⊛ (‵ (flft κ₁ q₁) ⊛ ‵ ftrue)) ∷ ‵ (owns (MutSlice (named 0) κ₀ R ∷ ShrSlice (named 1) κ₁ R ∷ row T.X ∷ []) a vals) ∷ []) ∵
          enter ! 𝓣.C 𝓣.Λ (function T f) (s ∷ s' ∷ v ∷ []) _ $
          alloc1 ! (λ l₀. alloc1 ! (λ l₁. alloc1 ! (λ l₂. alloc1 ! (λ l₃. alloc1 ! (λ l₄. alloc1 ! (λ l₅. alloc1 ! (λ l₆. alloc1 ! (λ l₇. alloc1 ! (λ l₈. alloc1 ! (λ l₉. alloc1 ! (λ l₁₀. alloc1 ! (λ l₁₁. alloc1 ! (λ l₁₂. alloc1 ! (λ l₁₃. alloc1 ! (λ l₁₄. alloc1 ! (λ l₁₅. alloc0 ! $ params1 ! $
          pass1 ! (init ! 28 refl (tt, (tt, (record { fits = room.0 }, tt)))) $ pass1 ! (init ! 26 refl (tt, (tt, (record { fits = room'.0 }, tt)))) $ pass1 ! (init ! 24 refl (T.X.typed 𝓛 p _ g)) $ pass0 ! $
          -- [_15 0; …; _14 2; …; .. ; _0 30; …; the tokens 32; what is owned 33]
          assigns ! (addr ! (from ! (fld ! refl (hop ! (look_in ! 28 (sub ! 0 refl (whole !))) (stop !))))) (from ! (stop !)) (init ! 12 refl (tt, tt)) $
          assigns ! (agg ! (and_then ! (load ! (from ! (stop !)) (look ! 12 refl)) (and_then ! (load ! (from ! (fld ! refl (stop !))) (look_in ! 28 (sub ! 1 refl (whole !)))) (no_more !)))) (from ! (stop !)) (init ! 10 refl (tt, (tt, (record { fits = room.0 }, tt)))) $
          -- what is owned is taken apart, the second list three times, and the tokens
          move ! (33 ∷ []) $ fsplit ! $ move ! (1 ∷ []) $ fsplit ! $ move ! (1 ∷ []) $ drop ! $
          use1 𝓛 (Sb ⊛ Sb) ((shr_slice_copy 𝓛 (named 1) κ₁ R T.𝓔.R.shared_laws).twice other-list (s' ∷ [])) $ split ! $ use1 𝓛 (Sb ⊛ Sb) ((shr_slice_copy 𝓛 (named 1) κ₁ R T.𝓔.R.shared_laws).twice other-list (s' ∷ [])) $ split ! $
          move ! (36 ∷ []) $ split ! $ move ! (1 ∷ []) $ split ! $ move ! (1 ∷ []) $ drop ! $
          -- [κ₁; κ₀; b three times 2; list 5; _15 6; …]: the list is shown for a lifetime ν
          lft_new ! tt (λ ν. move ! (6 ∷ 2 ∷ []) $
          use2 𝓛 (later (‵ ((ShrSlice (named 0) (ν ∷ []) R).own_val y (s ∷ [])) ⊛ ‵ (SharedAgain R κ₀ (ν ∷ []) q₀ γ b o ys)))
          (shares-again R κ₀ (ν ∷ []) q₀ γ b o 𝓛 (named 0) (named 0) ys (T.𝓔.R.copied 𝓛)) $ await ! tt $ split ! $ move ! (2 ∷ 0 ∷ []) $
          list-goods ! T.𝓔.R tt (named 0) (ν ∷ []) full_share y s _ (λ gs.
          calls-reads ! (fm_of 𝓤 H 𝓛.laws 𝓣) R (plain (λ _. row T.X) ∷ []) (plain (λ _. row T.A)) (yes, tt) (first_clauses T 𝓤) known-first (ν ∷ []) full_share (T.X.makes 𝓛, tt) (named 0) y s
          (p, tt) (v ∷ [], tt) (g, tt) tt (id⊢ 𝓤 (emp 𝓤)) (λ r. T.First ys p r) (λ r ws. id⊢ 𝓤 _)
          (and_then ! (load ! (from ! (stop !)) (look ! 16 refl)) (and_then ! (load ! (from ! (stop !)) (look ! 30 refl)) (no_more !))) (λ av wa is-a e-a.
          -- [ν's token; what is kept of the list; κ₁; b three times 3; _15 6; …]
          land ! (from ! (stop !)) (init ! 28 refl (T.A.typed 𝓛 av _ is-a)) $
          rewrite ! 28 (λ (m : Val). ‵ (fat full_share T.A.ty l₄ 0 m)) (ap only (T.A.tells av (wa ∷ []) is-a)) refl $
          lft_end ! tt $ use2 𝓛 (later (‵ ((MutSlice (named 0) κ₀ R).own_val (x γ ys) (s ∷ [])) ⊛ ‵ (flft κ₀ q₀))) (shared_back R κ₀ (ν ∷ []) q₀ γ b o 𝓛 (named 0) (named 0) ys room) $ await ! tt $ split ! $
          -- [list; κ₀; κ₁; b three times 3; _15 6; …]
          move ! (2 ∷ 3 ∷ []) $
          calls-reads ! (fm_of 𝓤 H 𝓛.laws 𝓣) R (plain (λ _. row T.X) ∷ []) (plain (λ _. row T.S)) (yes, tt) (second_clauses T 𝓤) known-second κ₁ q₁ (T.X.makes 𝓛, tt) (named 1) other-list s'
          (p, tt) (v ∷ [], tt) (g, tt) tt (id⊢ 𝓤 (emp 𝓤)) (λ r. T.Second other-list.now p r) (λ r ws. id⊢ 𝓤 _)
          (and_then ! (load ! (from ! (stop !)) (look ! 31 refl)) (and_then ! (load ! (from ! (stop !)) (look ! 29 refl)) (no_more !))) (λ sv ws is-s e-s.
          -- [κ₁; list; κ₀; b twice 3; _15 5; …]
          land ! (from ! (stop !)) (init ! 25 refl (T.S.typed 𝓛 sv _ is-s)) $
          rewrite ! 25 (λ (m : Val). ‵ (fat full_share T.S.ty l₅ 0 m)) (ap only (T.S.tells sv (ws ∷ []) is-s)) refl $
          calls-of ! 𝓣 (plan_args T) T.P (plan_of T) known-plan (p, (av, (sv, tt))) (g, (good T.A av wa is-a, (good T.S sv ws is-s, tt)))
          (and_then ! (load ! (from ! (stop !)) (look ! 30 refl)) (and_then ! (load ! (from ! (stop !)) (look ! 28 refl)) (and_then ! (load ! (from ! (stop !)) (look ! 26 refl)) (no_more !)))) (λ pl wp is-p e-p.
          land ! (from ! (stop !)) (init ! 23 refl (T.P.typed 𝓛 pl _ is-p)) $
          rewrite ! 23 (λ (m : Val). ‵ (fat full_share T.P.ty l₆ 0 m)) (ap only (T.P.tells pl (wp ∷ []) is-p) ∙ ap T.P.val e-p) refl $
          let gp : Good T.P (T.planned p av sv) = subst (Good T.P) e-p (good T.P pl wp is-p) in
          assigns ! (addr ! (from ! (fld ! refl (hop ! (look_in ! 33 (sub ! 0 refl (whole !))) (stop !))))) (from ! (stop !)) (init ! 11 refl (tt, tt)) $
          assigns ! (agg ! (and_then ! (load ! (from ! (stop !)) (look ! 11 refl)) (and_then ! (load ! (from ! (fld ! refl (stop !))) (look_in ! 33 (sub ! 1 refl (whole !)))) (no_more !)))) (from ! (stop !)) (init ! 9 refl (tt, (tt, (record { fits = room.0 }, tt)))) $
          -- the list is lent for a lifetime μ
          lft_new ! tt (λ μ. move ! (2 ∷ 3 ∷ []) $
          use2 𝓛 (later (some (λ (γ₂ : GName). ‵ ((MutSlice (named 0) (μ ∷ []) R).own_val (x γ₂ ys) (s ∷ [])) ⊛ ‵ (LentAgain R κ₀ (μ ∷ []) q₀ γ b o γ₂ ys))))
          (lends_again R κ₀ (μ ∷ []) q₀ γ b o 𝓛 (named 0) (named 0) ys) $ await ! tt $ pick ! (λ γ₂. split ! $ move ! (2 ∷ 0 ∷ []) $
          calls-list ! (fm_of 𝓤 H 𝓛.laws 𝓣) R (plain (λ _. row T.P) ∷ []) (plain (λ _. Nothing)) (yes, tt) (put_clauses T 𝓤) known-put (μ ∷ []) full_share (T.P.makes 𝓛, tt) (x γ₂ ys) s
          (T.planned p av sv, tt) (T.P.val (T.planned p av sv) ∷ [], tt) (gp, tt) tt (fact_i 𝓤 _ (emp 𝓤) (T.fits ys other-list.now p av sv e-a e-s)) (λ r zs. zs ≡ T.put (T.planned p av sv) ys) (λ r ws. id⊢ 𝓤 _)
          (and_then ! (load ! (from ! (stop !)) (look ! 9 refl)) (and_then ! (load ! (from ! (stop !)) (look ! 23 refl)) (no_more !))) (λ r₁ w₁ zs is₁ len e.
          -- [μ's token; the last list; what is kept; κ₁; b twice 4; _15 6; …]
          land ! (from ! (stop !)) (init ! 14 refl (none.typed 𝓛 r₁ _ is₁)) $
          lft_end ! tt $ move ! (1 ∷ []) $ fsplit ! $ move ! (1 ∷ []) $ drop ! $ move ! (1 ∷ 2 ∷ 0 ∷ []) $ use3 𝓛 (later (‵ ((MutSlice (named 0) κ₀ R).own_val (x γ zs) (s ∷ [])) ⊛ ‵ (flft κ₀ q₀)))
          (comes_back R κ₀ (μ ∷ []) q₀ γ b o 𝓛 (named 0) (named 0) ys γ₂ zs room len) $ await ! tt $ split ! $
          -- [list; κ₀; κ₁; b twice 3; _15 5; …]
          calls-of ! 𝓣 (T.P ∷ []) (uint w64) (λ d. T.n d.0) known-n (T.planned p av sv, tt) (gp, tt) (and_then ! (load ! (from ! (stop !)) (look ! 24 refl)) (no_more !)) (λ nv wn is-n e-n.
          land ! (from ! (stop !)) (init ! 21 refl ((uint w64).typed 𝓛 nv _ is-n)) $
          rewrite ! 21 (λ (m : Val). ‵ (fat full_share word l₇ 0 m)) (ap only (uint_Tells w64 nv (wn ∷ []) is-n) ∙ ap (vint w64) e-n) refl $
          calls-of ! 𝓣 (T.P ∷ []) (uint w64) (λ d. T.at d.0) known_at_lem (T.planned p av sv, tt) (gp, tt) (and_then ! (load ! (from ! (stop !)) (look ! 24 refl)) (no_more !)) (λ tv wt is-t e-t.
          land ! (from ! (stop !)) (init ! 19 refl ((uint w64).typed 𝓛 tv _ is-t)) $
          rewrite ! 19 (λ (m : Val). ‵ (fat full_share word l₈ 0 m)) (ap only (uint_Tells w64 tv (wt ∷ []) is-t) ∙ ap (vint w64) e-t) refl $
          assigns ! (addr ! (from ! (fld ! refl (hop ! (look_in ! 33 (sub ! 0 refl (whole !))) (stop !))))) (from ! (stop !)) (init ! 7 refl (tt, tt)) $
          assigns ! (agg ! (and_then ! (load ! (from ! (stop !)) (look ! 7 refl)) (and_then ! (load ! (from ! (fld ! refl (stop !))) (look_in ! 33 (sub ! 1 refl (whole !)))) (no_more !)))) (from ! (stop !)) (init ! 5 refl (tt, (tt, (record { fits = room.0 }, tt)))) $
          -- it is lent for good
          move ! (2 ∷ 1 ∷ 3 ∷ 0 ∷ []) $
          calls-copies ! (fm_of 𝓤 H 𝓛.laws 𝓣) R usize R (plain (λ _. usize) ∷ plain (λ _. row T.P) ∷ []) (plain (λ _. Nothing)) (yes, (yes, tt)) (C.clauses T.𝓔 T.P T.moved 𝓤) known-copy κ₁ κ₀ q₁ q₀
          (uint_Makes 𝓛 w64) (uint_Makes 𝓛 w64, (T.P.makes 𝓛, tt)) (named 1) (named 0) other-list s'
          (T.n (T.planned p av sv)) (vint w64 (T.n (T.planned p av sv))) (refl, subst (λ (m : ℕ). m < 2 ^ 64) e-n is-n.1) (x γ zs) s
          (T.at (T.planned p av sv), (T.planned p av sv, tt)) (vint w64 (T.at (T.planned p av sv)) ∷ [], (T.P.val (T.planned p av sv) ∷ [], tt)) ((refl, subst (λ (m : ℕ). m < 2 ^ 64) e-t is-t.1), (gp, tt)) tt
          (fact_i 𝓤 _ (emp 𝓤) ((T.copies ys other-list.now p av sv e-a e-s).0, subst (λ (k : ℕ). T.at (T.planned p av sv) + T.n (T.planned p av sv) ≤ k) (sym len) (T.copies ys other-list.now p av sv e-a e-s).1))
          (λ r zs'. zs' ≡ paste zs (T.at (T.planned p av sv)) (map_at (T.moved (T.planned p av sv)) 0 other-list.now) (T.n (T.planned p av sv))) (λ r ws. id⊢ 𝓤 _)
          (and_then ! (load ! (from ! (stop !)) (look ! 28 refl)) (and_then ! (load ! (from ! (stop !)) (look ! 18 refl)) (and_then ! (load ! (from ! (stop !)) (look ! 2 refl)) (and_then ! (load ! (from ! (stop !)) (look ! 16 refl)) (and_then ! (load ! (from ! (stop !)) (look ! 20 refl)) (no_more !)))))) (λ r₂ w₂ zs' is₂ len' e'.
          -- [κ₁; κ₀; the last list; b; _15 4; …]
          land ! (from ! (stop !)) (store ! 12 refl (none.typed 𝓛 r₂ _ is₂)) $
          assigns ! (of_opd ! (load ! (from ! (stop !)) (look ! 22 refl))) (from ! (stop !)) (init ! 34 refl (T.P.typed 𝓛 (T.planned p av sv) _ gp)) $
          returns ! (look ! 34 refl) $ forget ! 4 refl $ forget ! 6 refl $ forget ! 8 refl $ forget ! 10 refl $ forget ! 12 refl $ forget ! 14 refl $ forget ! 16 refl $ forget ! 18 refl $ forget ! 20 refl $ forget ! 22 refl $ forget ! 24 refl $ forget ! 26 refl $ forget ! 28 refl $ forget ! 30 refl $ forget ! 32 refl $ forget ! 34 refl $
          move ! (34 ∷ 35 ∷ []) $ free1 ! $ move ! (32 ∷ 33 ∷ []) $ free1 ! $ move ! (30 ∷ 31 ∷ []) $ free1 ! $ move ! (28 ∷ 29 ∷ []) $ free1 ! $ move ! (26 ∷ 27 ∷ []) $ free1 ! $ move ! (24 ∷ 25 ∷ []) $ free1 ! $ move ! (22 ∷ 23 ∷ []) $ free1 ! $ move ! (20 ∷ 21 ∷ []) $ free1 ! $ move ! (18 ∷ 19 ∷ []) $ free1 ! $ move ! (16 ∷ 17 ∷ []) $ free1 ! $ move ! (14 ∷ 15 ∷ []) $ free1 ! $ move ! (12 ∷ 13 ∷ []) $ free1 ! $ move ! (10 ∷ 11 ∷ []) $ free1 ! $ move ! (8 ∷ 9 ∷ []) $ free1 ! $ move ! (6 ∷ 7 ∷ []) $ free1 ! $ move ! (4 ∷ 5 ∷ []) $ free1 ! $ free0 ! $
          move ! (1 ∷ 0 ∷ []) $
          by ! (exits (length zs) zs' (T.planned p av sv) len (len' ∙ len) gp (subst (λ (z : List T.𝓔.R.D). T.Done ys other-list.now p z (T.planned p av sv)) (sym (e' ∙ ap (λ (z : List T.𝓔.R.D). paste z (T.at (T.planned p av sv)) (map_at (T.moved (T.planned p av sv)) 0 other-list.now) (T.n (T.planned p av sv))) e))
          (T.does ys other-list.now p av sv gs e-a e-s))))))))))))))))))))))))))))))

  meets : Meets 𝓛 (signature T) (WpFn 𝓤 H 𝓣.C 𝓣.Λ (function T f)) (closing 𝓛 (ended T) (clauses T 𝓤))
  meets = walk_Meets 𝓛 (ended T) (stayed T) (Goes-gave_slice 𝓛 2 0 tt (plain (λ _. L T)), (Goes-none_slice 𝓛 2 (1 ∷ []) tt (plain (λ _. L T)) yes, goes 2 𝓛 (T.X ∷ []))) (clauses T 𝓤)
      (WpFn 𝓤 H 𝓣.C 𝓣.Λ (function T f)) (WpFn-mono 𝓤 H 𝓛.laws 𝓣 (function T f))
      (walked 𝓛 (ended T) (stayed T) (clauses T 𝓤) (WpFn 𝓤 H 𝓣.C 𝓣.Λ (function T f))
      (λ κs. (mut_slice_vals, (shr_slice_vals, ((λ p. T.X.val p ∷ []), tt))))
      (λ κs. (mut_slice_Tells (named 0) κs.0 (L T), (shr_slice_Tells (named 1) κs.1.0 (L T), (T.X.tells, tt))))
      (λ κs qs bounds a g are. via 𝓤 _ (fst∗ 𝓤 _ (emp 𝓤)) (walk κs.0 κs.1.0 qs.0 qs.1.0 a.0.ref_ptr.0 a.0.ref_ptr.1 a.0.ghost_name a.0.now a.1.0 a.1.1.0
      are.0.0.1 are.1.0.0.1 are.1.1.0)))

-- what the proof of such a function cites
pub joins-lists : (T : Lists) (f : Names) {M : Type 1} {𝓤 : Ura M} (𝓛 : Logic 𝓤) (𝓜 : Model 𝓤 𝓛.H) (𝓡 : Running 𝓤 𝓛.H 𝓜) (γ : Routines) (k : Callee)
    → Closed 𝓤 𝓛.H (tables 𝓤 𝓛.H 𝓜 𝓡 γ).C (tables 𝓤 𝓛.H 𝓜 𝓡 γ).Λ k (function T f)
    → (r₁ : Routine) → γ f.first ≡ r₁ → Triple 𝓤 (𝓡.run r₁) (first_contract T 𝓤 𝓛)
    → (r₂ : Routine) → γ f.second ≡ r₂ → Triple 𝓤 (𝓡.run r₂) (second_contract T 𝓤 𝓛)
    → (r₃ : Routine) → γ f.plan ≡ r₃ → Triple 𝓤 (𝓡.run r₃) (plan_contract T 𝓤 𝓛)
    → (r₄ : Routine) → γ f.put ≡ r₄ → Triple 𝓤 (𝓡.run r₄) (put_contract T 𝓤 𝓛)
    → (r₅ : Routine) → γ f.n ≡ r₅ → Triple 𝓤 (𝓡.run r₅) (n_contract T 𝓤 𝓛)
    → (r₆ : Routine) → γ f.at ≡ r₆ → Triple 𝓤 (𝓡.run r₆) (at_contract T 𝓤 𝓛)
    → (r₇ : Routine) → γ f.copy_moved ≡ r₇ → Triple 𝓤 (𝓡.run r₇) (copy_contract T 𝓤 𝓛) → Triple 𝓤 (𝓡.run (γ k)) (contract_of T 𝓤 𝓛)
unfolding tables_of
joins-lists T f {𝓤 = 𝓤} 𝓛 𝓜 𝓡 γ k closed r₁ c₁ t₁ r₂ c₂ t₂ r₃ c₃ t₃ r₄ c₄ t₄ r₅ c₅ t₅ r₆ c₆ t₆ r₇ c₇ t₇ =
    entered 𝓤 𝓛.H (contract_of T 𝓤 𝓛) (tables 𝓤 𝓛.H 𝓜 𝓡 γ).C (tables 𝓤 𝓛.H 𝓜 𝓡 γ).Λ k (function T f) closed
    (meets T f 𝓛 (tables_of 𝓤 𝓛.H 𝓜 (tables 𝓤 𝓛.H 𝓜 𝓡 γ))
    (cited 𝓤 𝓛.H (first_contract T 𝓤 𝓛) 𝓜 𝓡 γ f.first r₁ c₁ t₁) (cited 𝓤 𝓛.H (second_contract T 𝓤 𝓛) 𝓜 𝓡 γ f.second r₂ c₂ t₂) (cited 𝓤 𝓛.H (plan_contract T 𝓤 𝓛) 𝓜 𝓡 γ f.plan r₃ c₃ t₃)
    (cited 𝓤 𝓛.H (put_contract T 𝓤 𝓛) 𝓜 𝓡 γ f.put r₄ c₄ t₄) (cited 𝓤 𝓛.H (n_contract T 𝓤 𝓛) 𝓜 𝓡 γ f.n r₅ c₅ t₅) (cited 𝓤 𝓛.H (at_contract T 𝓤 𝓛) 𝓜 𝓡 γ f.at r₆ c₆ t₆)
    (cited 𝓤 𝓛.H (copy_contract T 𝓤 𝓛) 𝓜 𝓡 γ f.copy_moved r₇ c₇ t₇))
