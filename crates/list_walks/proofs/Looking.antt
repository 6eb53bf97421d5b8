-- Every function of the form
--     fn look(list: &mut [R], x: X) -> A { f(list, x) }
-- where f takes a `&[R]` and x, requires nothing and has a contract on the list: a list that is lent to be written is looked at, and is left as it was. R, X and A are any types of plain data.
-- Its MIR (`function`) meets the contract of f, and says that the list is as it was (`clauses`).
-- Assumes `Logic`, and that f meets its contract.
use mathlib.Core.Path.{◌≡◌, refl}
use Prim.Native.Nat.{ℕ}
use mathlib.Core.List.{[], ◌∷◌, List}
use lib.ListN.{length}
use seplogic.Ra.Ura.{Ura}
use base.Fraction.{full_share}
use mir.Syntax.{erased, addr_of, Callee, Fn, named, mut, imm, ty_ref, Ty, field, deref, place, copy, local, value_local, seq, assign, call, return, aggregate}
use mir.Val.{Val}
use base.Logic.{SProp, ent, emp, id⊢, via, fst∗}
use base.Fml.{Lft, Share, GName, ftrue, flft}
use prog.Routine.{Routine, Env as Routines}
use prog.Model.{Model}
use prog.Wp.{WpFn, Closed, Tables}
use types.Logic.{Logic}
use contract.Monad.{fact}
use contract.Running.{Running, tables, tables_of}
use types.Kit.{‵, ◌⊛◌, ⋆, later, ◌$◌, ◌∵◌, !, qed, by, move, keep, use2, split, join, await, fsplit, fjoin, suffices, frame, done}
use types.Run.{addr, look, init, forget, stop, hop, fld, from, load, and_then, no_more, assigns, land, returns, enter, alloc1, alloc0, params1, pass1, pass0, free1, free0}
use types.Part.{agg, whole, sub, look_in}
use types.Tokens.{lft_new, lft_end}
use sound.WpLaws.{fm_of, WpFn-mono}
use denote.RattleType.{RattleType, owns}
use denote.Memory.{pointee}
use denote.Laws.{Is}
use denote.Ref.{Bor, MutBor}
use denote.Slice.{slice_ty, slice_val, MutSlice, ShrSlice, Room, mut_slice_vals, mut_slice_Tells}
use denote.Steps.{owned, nothing}
use denote.Triple.Entry.{on_entry}
use denote.Triple.Spec.{Meets, triple_of}
use denote.Triple.Statement.{Contract, Triple}
use denote.Triple.Clauses.{Ended, Clauses, closing}
use denote.Triple.Table.{entered, cited}
use denote.Triple.Walked.{says, Stays, stay_slice, stay_none, walk_of, Goes-slice, ends_at, walked, walk_Meets}
use denote.Exit.{yes}
use denote.Signature.{Signature, plain, mut_slice}
use Rattle.walks.proofs.Args.{Datum, row, goes}
use Rattle.walks.proofs.Slices.{rend, calls-reads}
use Rattle.list_walks.proofs.Elements.{Good}
use Rattle.list_walks.proofs.Shared.{SharedAgain, shares-again, shared_back}

-- `f(list: &[R], x: X) -> A`
module _ (R X D : Datum) (Gives : List R.D → X.D → D.D → Type 0) {M : Type 1} (𝓤 : Ura M) where
  abbrev look_ended : Ended
  look_ended = rend (row R) (plain (λ _. row X) ∷ []) (plain (λ _. row D)) (yes, tt)

  abbrev look_clauses : Clauses 𝓤 look_ended
  look_clauses κs a = record { ghost = Unit {0}; requires = λ _. emp 𝓤; ensures = λ _ r e. fact 𝓤 (Gives a.0.now a.1.0 r) }

  abbrev pub look_contract : (𝓛 : Logic 𝓤) → Contract 𝓤
  look_contract 𝓛 = triple_of 𝓛 look_ended.signature (closing 𝓛 look_ended look_clauses)

module _ (R X D : Datum) where
  abbrev slice : Ty
  slice = slice_ty (ty_ref (named 0) mut (pointee R.written))

  abbrev lent : Ty
  lent = ty_ref erased imm (pointee R.written)

  abbrev pub signature : Signature
  signature = record { lifetimes = 1; outlives = []; params = mut_slice 0 tt (λ _. row R) ∷ plain (λ _. row X) ∷ []; result = plain (λ _. row D) }

  abbrev pub ended : Ended
  ended = record { signature = signature; kept = (yes, (yes, tt)) }

  abbrev stayed : Stays ended.signature.params ended.kept
  stayed = (stay_slice (0 ∷ []) tt (plain (λ _. row R)), (stay_none (λ _. row X) yes, tt))

  -- the locals: the result, list, x, and what is lent of the list
  abbrev pub function : Callee → Fn
  function f = record {
    lifetimes = 1;
    outlives = [];
    ty_params = [];
    givens = 0;
    params = 2;
    locals = local D.ty value_local ∷ local slice value_local ∷ local X.ty value_local ∷ local lent value_local ∷ local (slice_ty lent) value_local ∷ [];
    body = seq (assign (place 3 []) (addr_of (place 1 (field 0 ∷ deref R.ty ∷ []))))
        (seq (assign (place 4 []) (aggregate (copy (place 3 []) ∷ copy (place 1 (field 1 ∷ [])) ∷ [])))
        (seq (call f (copy (place 4 []) ∷ copy (place 2 []) ∷ []) (place 0 [])) return));
  }

  module _ (Gives : List R.D → X.D → D.D → Type 0) {M : Type 1} (𝓤 : Ura M) where
    -- `ensures { λ r. ⌜ Gives (now list.entry) x r × (now list.exit ≡ now list.entry) ⌝ }`
    abbrev pub clauses : Clauses 𝓤 ended
    clauses κs a = record { ghost = Unit {0}; requires = λ _. emp 𝓤; ensures = λ _ r e. fact 𝓤 (Gives a.0.now a.1.0 r × (e.0.now ≡ a.0.now)) }

    abbrev pub contract_of : (𝓛 : Logic 𝓤) → Contract 𝓤
    contract_of 𝓛 = triple_of 𝓛 signature (closing 𝓛 ended clauses)

module _ (𝓡 X D : Datum) (Gives : List 𝓡.D → X.D → D.D → Type 0) (f : Callee) {M : Type 1} {𝓤 : Ura M} (𝓛 : Logic 𝓤) (𝓣 : Tables 𝓤 𝓛.H)
    (known : Triple 𝓤 (𝓣.C f) (look_contract 𝓡 X D Gives 𝓤 𝓛)) where
  open 𝓛 use {H}

  abbrev E : Type 0
  E = 𝓡.D

  abbrev R : RattleType
  R = row 𝓡

  module _ (κ : Lft) (q : Share) (b o : ℕ) (γ : GName) (ys : List E) (p : X.D) where
    abbrev x : MutBor (List E)
    x = record { ref_ptr = (b, o); ghost_name = γ; now = ys }

    -- as it is shared for the call
    abbrev y : Bor (List E)
    y = record { ref_ptr = (b, o); now = ys }

    abbrev s : Val
    s = slice_val (b, o) (length ys)

    abbrev v : Val
    v = X.val p

    abbrev a : MutBor (List E) × (X.D × Unit {0})
    a = (x, (p, tt))

    abbrev vals : List Val × (List Val × Unit {0})
    vals = (s ∷ [], (v ∷ [], tt))

    abbrev Post : Val → SProp 𝓤
    Post = (walk_of 𝓛 (ended 𝓡 X D) (stayed 𝓡 X D) (clauses 𝓡 X D Gives 𝓤)).post (((κ, tt), (q, tt), tt, a, vals), tt)

    module _ (room : Room R (length ys)) (g : Good X p) where
      exits : (r : D.D) (u : Val) → Is (row D) r (u ∷ []) → Gives ys p r → ent 𝓤 (⋆ 𝓛 (‵ ((MutSlice (named 0) κ R).own_val x (s ∷ [])) ∷ ‵ (flft κ q) ∷ [])) (Post u)
      exits r u is e =
          qed 𝓛 (‵ ((MutSlice (named 0) κ R).own_val x (s ∷ [])) ∷ ‵ (flft κ q) ∷ []) ∵
          suffices ! _ (ends_at 𝓛 (ended 𝓡 X D) (stayed 𝓡 X D) (clauses 𝓡 X D Gives 𝓤) (((κ, tt), (q, tt), tt, a, vals), tt) u r (ys, (tt, tt)) (refl, (tt, tt))) $ says ! (e, refl) $
          nothing ! $ move ! (2 ∷ 0 ∷ []) $ join ! $ frame ! $
          nothing ! $ owned ! (row X) (Is (row X)) (X.makes 𝓛) p _ g $ fjoin ! $
          move ! (1 ∷ 0 ∷ []) $ fjoin ! $ owned ! (row D) (Is (row D)) (D.makes 𝓛) r _ is $ move ! (1 ∷ 0 ∷ []) $ done !

      walk : ent 𝓤 (on_entry 𝓛 (signature 𝓡 X D) (κ, tt) (q, tt) a vals) (WpFn 𝓤 H 𝓣.C 𝓣.Λ (function 𝓡 X D f) (s ∷ v ∷ []) Post)
      walk =
          qed 𝓛 ((‵ (flft κ q) ⊛ ‵ ftrue) ∷ ‵ (owns (MutSlice (named 0) κ R ∷ row X ∷ []) a vals) ∷ []) ∵ enter ! 𝓣.C 𝓣.Λ (function 𝓡 X D f) (s ∷ v ∷ []) _ $
          alloc1 ! (λ l₀. alloc1 ! (λ l₁. alloc1 ! (λ l₂. alloc1 ! (λ l₃. alloc1 ! (λ l₄. alloc0 ! $ params1 ! $
          pass1 ! (init ! 6 refl (tt, (tt, (record { fits = room.0 }, tt)))) $ pass1 ! (init ! 4 refl (X.typed 𝓛 p _ g)) $ pass0 ! $
          -- [_4 0; …; _3 2; …; _2 4; …; _1 6; …; _0 8; …; the token 10; what is owned 11]
          assigns ! (addr ! (from ! (fld ! refl (hop ! (look_in ! 6 (sub ! 0 refl (whole !))) (stop !))))) (from ! (stop !)) (init ! 2 refl (tt, tt)) $
          assigns ! (agg ! (and_then ! (load ! (from ! (stop !)) (look ! 2 refl))
          (and_then ! (load ! (from ! (fld ! refl (stop !))) (look_in ! 6 (sub ! 1 refl (whole !)))) (no_more !)))) (from ! (stop !))
          (init ! 0 refl (tt, (tt, (record { fits = room.0 }, tt)))) $
          move ! (11 ∷ []) $ fsplit ! $ move ! (12 ∷ []) $ split ! $ keep ! (2 ∷ 0 ∷ 4 ∷ 5 ∷ 6 ∷ 7 ∷ 8 ∷ 9 ∷ 10 ∷ 11 ∷ 12 ∷ 13 ∷ []) $
          -- [the list; the token; _4 2; …]: the list is shared for a lifetime ν
          lft_new ! tt (λ ν. move ! (1 ∷ 2 ∷ []) $
          use2 𝓛 (later (‵ ((ShrSlice (named 0) (ν ∷ []) R).own_val y (s ∷ [])) ⊛ ‵ (SharedAgain R κ (ν ∷ []) q γ b o ys)))
          (shares-again R κ (ν ∷ []) q γ b o 𝓛 (named 0) (named 0) ys (𝓡.copied 𝓛)) $ await ! tt $ split ! $ move ! (2 ∷ 0 ∷ []) $
          -- [ν's token; the shared list; what is kept of it; _4 3; …]
          calls-reads ! (fm_of 𝓤 H 𝓛.laws 𝓣) R (plain (λ _. row X) ∷ []) (plain (λ _. row D)) (yes, tt) (look_clauses 𝓡 X D Gives 𝓤) known (ν ∷ []) full_share
          (X.makes 𝓛, tt) (named 0) y s (p, tt) (v ∷ [], tt) (g, tt) tt (id⊢ 𝓤 (emp 𝓤)) (λ r. Gives ys p r) (λ r ws. id⊢ 𝓤 _)
          (and_then ! (load ! (from ! (stop !)) (look ! 2 refl)) (and_then ! (load ! (from ! (stop !)) (look ! 6 refl)) (no_more !))) (λ r u is e.
          land ! (from ! (stop !)) (init ! 10 refl (D.typed 𝓛 r _ is)) $
          -- it comes back
          lft_end ! tt $ use2 𝓛 (later (‵ ((MutSlice (named 0) κ R).own_val x (s ∷ [])) ⊛ ‵ (flft κ q)))
          (shared_back R κ (ν ∷ []) q γ b o 𝓛 (named 0) (named 0) ys room) $ await ! tt $ split ! $
          -- [the list; the token; _4 2; …]
          returns ! (look ! 10 refl) $ forget ! 2 refl $ forget ! 4 refl $ forget ! 6 refl $ forget ! 8 refl $ forget ! 10 refl $
          move ! (10 ∷ 11 ∷ []) $ free1 ! $ move ! (8 ∷ 9 ∷ []) $ free1 ! $ move ! (6 ∷ 7 ∷ []) $ free1 ! $ move ! (4 ∷ 5 ∷ []) $ free1 ! $ move ! (2 ∷ 3 ∷ []) $ free1 ! $ free0 ! $
          by ! (exits r u is e))))))))

  meets : Meets 𝓛 (signature 𝓡 X D) (WpFn 𝓤 H 𝓣.C 𝓣.Λ (function 𝓡 X D f)) (closing 𝓛 (ended 𝓡 X D) (clauses 𝓡 X D Gives 𝓤))
  meets = walk_Meets 𝓛 (ended 𝓡 X D) (stayed 𝓡 X D) (Goes-slice 𝓛 1 0 tt (plain (λ _. R)), goes 1 𝓛 (X ∷ [])) (clauses 𝓡 X D Gives 𝓤)
      (WpFn 𝓤 H 𝓣.C 𝓣.Λ (function 𝓡 X D f)) (WpFn-mono 𝓤 H 𝓛.laws 𝓣 (function 𝓡 X D f))
      (walked 𝓛 (ended 𝓡 X D) (stayed 𝓡 X D) (clauses 𝓡 X D Gives 𝓤) (WpFn 𝓤 H 𝓣.C 𝓣.Λ (function 𝓡 X D f))
      (λ κs. (mut_slice_vals, ((λ y. X.val y ∷ []), tt))) (λ κs. (mut_slice_Tells (named 0) κs.0 R, (X.tells, tt)))
      (λ κs qs bounds a g are. via 𝓤 _ (fst∗ 𝓤 _ (emp 𝓤)) (walk κs.0 qs.0 a.0.ref_ptr.0 a.0.ref_ptr.1 a.0.ghost_name a.0.now a.1.0 are.0.0.1 are.1.0)))

-- what the proof of such a function cites
pub looks-lent : (R X D : Datum) (Gives : List R.D → X.D → D.D → Type 0) {M : Type 1} {𝓤 : Ura M} (𝓛 : Logic 𝓤) (𝓜 : Model 𝓤 𝓛.H) (𝓡 : Running 𝓤 𝓛.H 𝓜) (γ : Routines)
    (k f : Callee) → Closed 𝓤 𝓛.H (tables 𝓤 𝓛.H 𝓜 𝓡 γ).C (tables 𝓤 𝓛.H 𝓜 𝓡 γ).Λ k (function R X D f)
    → (r₁ : Routine) → γ f ≡ r₁ → Triple 𝓤 (𝓡.run r₁) (look_contract R X D Gives 𝓤 𝓛) → Triple 𝓤 (𝓡.run (γ k)) (contract_of R X D Gives 𝓤 𝓛)
unfolding tables_of
looks-lent R X D Gives {𝓤 = 𝓤} 𝓛 𝓜 𝓡 γ k f closed r₁ c₁ t₁ =
    entered 𝓤 𝓛.H (contract_of R X D Gives 𝓤 𝓛) (tables 𝓤 𝓛.H 𝓜 𝓡 γ).C (tables 𝓤 𝓛.H 𝓜 𝓡 γ).Λ k (function R X D f) closed
    (meets R X D Gives f 𝓛 (tables_of 𝓤 𝓛.H 𝓜 (tables 𝓤 𝓛.H 𝓜 𝓡 γ)) (cited 𝓤 𝓛.H (look_contract R X D Gives 𝓤 𝓛) 𝓜 𝓡 γ f r₁ c₁ t₁))
