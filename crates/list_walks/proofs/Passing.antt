-- Every function of the form
--     fn both(list: &mut [R], n: usize, a: A, b: B) -> C { first(list, n, a); second(list, n, b) }
-- where `first` returns an E, and each callee has a contract on the list at entry and exit: two passes over one list, the second over what the first left. All types are any types of plain data.
-- Assumes `Logic`, and that the two callees meet their contracts.
use mathlib.Core.Path.{◌≡◌, refl, ◌∙◌}
use Prim.Native.Nat.{ℕ, ◌<◌, ◌^◌}
use mathlib.Core.List.{[], ◌∷◌, List}
use lib.ListN.{length}
use seplogic.Ra.Ura.{Ura}
use base.Fraction.{full_share}
use mir.Syntax.{erased, addr_of, Callee, Fn, named, mut, w64, ty_ref, Ty, field, deref, place, copy, local, value_local, seq, assign, call, return, aggregate}
use mir.Val.{Val, vint}
use base.Logic.{SProp, ent, emp, id⊢}
use base.Fml.{fsep, fbor, Lft, Share, GName, ftrue, flft}
use prog.Routine.{Routine, Env as Routines}
use prog.Model.{Model}
use prog.Wp.{WpFn, Closed, Tables}
use types.Logic.{Logic}
use contract.Monad.{fact, fact_i}
use contract.Running.{Running, tables, tables_of}
use types.Kit.{rewrite, drop, later, some, await, pick, use2, use3, ‵, ◌⊛◌, ⋆, ◌$◌, ◌∵◌, !, qed, by, move, keep, split, join, fsplit, fjoin, suffices, frame, done}
use types.Run.{addr, look, init, forget, stop, hop, fld, from, load, and_then, no_more, assigns, land, returns, enter, alloc1, alloc0, params1, pass1, pass0, free1, free0}
use types.Part.{agg, whole, sub, look_in}
use sound.WpLaws.{fm_of, WpFn-mono}
use denote.RattleType.{RattleType, owns}
use denote.Memory.{pointee}
use denote.Laws.{Is}
use denote.Plain.{uint_vals, uint_Tells, uint_Makes}
use denote.Builtin.{usize}
use denote.Ref.{MutBor}
use denote.Slice.{finally, slice_ty, slice_val, MutSlice, Room, mut_slice_vals, mut_slice_Tells}
use denote.Steps.{owned, nothing}
use denote.Triple.Entry.{on_entry}
use denote.Triple.Spec.{Meets, triple_of}
use denote.Triple.Statement.{Contract, Triple}
use denote.Triple.Clauses.{Ended, Clauses, closing}
use denote.Triple.Table.{entered, cited}
use denote.Triple.Walked.{gave_slice, Goes-gave_slice, says, needs, Stays, stay_none, walk_of, ends_at, walked, walk_Meets}
use denote.Lend.{Held}
use denote.Exit.{yes}
use denote.Signature.{Signature, plain, mut_slice}
use Rattle.walks.proofs.Args.{Datum, row, uint, goes}
use Rattle.walks.proofs.Calls.{lend, calls-list}
use Rattle.list_walks.proofs.Elements.{word}
use types.Tokens.{lft_new, lft_end}
use Rattle.list_walks.proofs.Again.{LentAgain, lends_again, comes_back}

-- the types, and what the passes and the whole require and ensure
pub record Passes : Type 2 where
  pub R : Datum
  pub A : Datum
  pub B : Datum
  pub E : Datum
  pub C : Datum
  pub Req₁ : List R.D → ℕ → A.D → Type 0
  pub Ens₁ : List R.D → ℕ → A.D → List R.D → E.D → Type 0
  pub Req₂ : List R.D → ℕ → B.D → Type 0
  pub Ens₂ : List R.D → ℕ → B.D → List R.D → C.D → Type 0
  pub Req : List R.D → ℕ → A.D → B.D → Type 0
  pub Ens : List R.D → ℕ → A.D → B.D → List R.D → C.D → Type 0
  pub first_may : (l : List R.D) (n : ℕ) (a : A.D) (b : B.D) → Req l n a b → Req₁ l n a
  pub second_may : (l l' : List R.D) (n : ℕ) (a : A.D) (b : B.D) (e : E.D) → Req l n a b → length l' ≡ length l → Ens₁ l n a l' e → Req₂ l' n b
  pub both_do : (l l' l'' : List R.D) (n : ℕ) (a : A.D) (b : B.D) (e : E.D) (c : C.D) → Req l n a b → Ens₁ l n a l' e → Ens₂ l' n b l'' c → Ens l n a b l'' c

-- a pass: `f(list: &mut [R], n: usize, a: A) -> E`
module _ (R A E : Datum) (Req : List R.D → ℕ → A.D → Type 0) (Ens : List R.D → ℕ → A.D → List R.D → E.D → Type 0) {M : Type 1} (𝓤 : Ura M) where
  abbrev pub pass_ended : Ended
  pass_ended = lend (row R) (plain (λ _. usize) ∷ plain (λ _. row A) ∷ []) (plain (λ _. row E)) (yes, (yes, tt))

  abbrev pub pass_clauses : Clauses 𝓤 pass_ended
  pass_clauses κs a = record {
    ghost = Unit {0};
    requires = λ _. fact 𝓤 (Req a.0.now a.1.0 a.1.1.0);
    ensures = λ _ r e. fact 𝓤 (Ens a.0.now a.1.0 a.1.1.0 e.0.now r);
  }

  abbrev pub pass_contract : (𝓛 : Logic 𝓤) → Contract 𝓤
  pass_contract 𝓛 = triple_of 𝓛 pass_ended.signature (closing 𝓛 pass_ended pass_clauses)

module _ (T : Passes) where
  abbrev slice : Ty
  slice = slice_ty (ty_ref (named 0) mut (pointee T.R.written))

  abbrev lent : Ty
  lent = ty_ref erased mut (pointee T.R.written)

  abbrev pub signature : Signature
  signature = record {
    lifetimes = 1;
    outlives = [];
    params = mut_slice 0 tt (λ _. row T.R) ∷ plain (λ _. usize) ∷ plain (λ _. row T.A) ∷ plain (λ _. row T.B) ∷ [];
    result = plain (λ _. row T.C);
  }

  abbrev pub ended : Ended
  ended = record { signature = signature; kept = (yes, (yes, (yes, (yes, tt)))) }

  abbrev stayed : Stays ended.signature.params ended.kept
  stayed = (gave_slice (0 ∷ []) tt (plain (λ _. row T.R)), (stay_none (λ _. usize) yes, (stay_none (λ _. row T.A) yes, (stay_none (λ _. row T.B) yes, tt))))

  abbrev pub function : Callee → Callee → Fn
  function f g = record {
    lifetimes = 1;
    outlives = [];
    ty_params = [];
    givens = 0;
    params = 4;
    locals = local T.C.ty value_local ∷ local slice value_local ∷ local word value_local ∷ local T.A.ty value_local ∷ local T.B.ty value_local ∷ local T.E.ty value_local
        ∷ local lent value_local ∷ local (slice_ty lent) value_local ∷ local lent value_local ∷ local (slice_ty lent) value_local ∷ [];
    body = seq (assign (place 6 []) (addr_of (place 1 (field 0 ∷ deref T.R.ty ∷ []))))
        (seq (assign (place 7 []) (aggregate (copy (place 6 []) ∷ copy (place 1 (field 1 ∷ [])) ∷ [])))
        (seq (call f (copy (place 7 []) ∷ copy (place 2 []) ∷ copy (place 3 []) ∷ []) (place 5 []))
        (seq (assign (place 8 []) (addr_of (place 1 (field 0 ∷ deref T.R.ty ∷ []))))
        (seq (assign (place 9 []) (aggregate (copy (place 8 []) ∷ copy (place 1 (field 1 ∷ [])) ∷ [])))
        (seq (call g (copy (place 9 []) ∷ copy (place 2 []) ∷ copy (place 4 []) ∷ []) (place 0 [])) return)))));
  }

  module _ {M : Type 1} (𝓤 : Ura M) where
    abbrev pub clauses : Clauses 𝓤 ended
    clauses κs a = record {
      ghost = Unit {0};
      requires = λ _. fact 𝓤 (T.Req a.0.now a.1.0 a.1.1.0 a.1.1.1.0);
      ensures = λ _ r e. fact 𝓤 (T.Ens a.0.now a.1.0 a.1.1.0 a.1.1.1.0 e.0.now r);
    }

    module _ (𝓛 : Logic 𝓤) where
      abbrev pub contract_of : Contract 𝓤
      contract_of = triple_of 𝓛 signature (closing 𝓛 ended clauses)

      abbrev pub first_contract : Contract 𝓤
      first_contract = pass_contract T.R T.A T.E T.Req₁ T.Ens₁ 𝓤 𝓛

      abbrev pub second_contract : Contract 𝓤
      second_contract = pass_contract T.R T.B T.C T.Req₂ T.Ens₂ 𝓤 𝓛

module _ (T : Passes) (f₁ f₂ : Callee) {M : Type 1} {𝓤 : Ura M} (𝓛 : Logic 𝓤) (𝓣 : Tables 𝓤 𝓛.H) (known₁ : Triple 𝓤 (𝓣.C f₁) (first_contract T 𝓤 𝓛))
    (known₂ : Triple 𝓤 (𝓣.C f₂) (second_contract T 𝓤 𝓛)) where
  open 𝓛 use {H}

  abbrev X : Type 0
  X = T.R.D

  abbrev R : RattleType
  R = row T.R

  module _ (κ : Lft) (q : Share) (b o : ℕ) (γ : GName) (ys : List X) (n : ℕ) (c : T.A.D) (d : T.B.D) where
    abbrev x : GName → List X → MutBor (List X)
    x δ m = record { ref_ptr = (b, o); ghost_name = δ; now = m }

    abbrev s : Val
    s = slice_val (b, o) (length ys)

    abbrev vc : Val
    vc = T.A.val c

    abbrev vd : Val
    vd = T.B.val d

    abbrev a : MutBor (List X) × (ℕ × (T.A.D × (T.B.D × Unit {0})))
    a = (x γ ys, (n, (c, (d, tt))))

    abbrev vals : List Val × (List Val × (List Val × (List Val × Unit {0})))
    vals = (s ∷ [], (vint w64 n ∷ [], (vc ∷ [], (vd ∷ [], tt))))

    abbrev Post : Val → SProp 𝓤
    Post = (walk_of 𝓛 (ended T) (stayed T) (clauses T 𝓤)).post (((κ, tt), (q, tt), tt, a, vals), tt)

    module _ (room : Room R (length ys)) (n-fits : n < 2 ^ 64) (gc : Is (row T.A) c (vc ∷ [])) (gd : Is (row T.B) d (vd ∷ [])) (may : T.Req ys n c d) where
      exits : (r : T.C.D) (u : Val) (m : ℕ) (zs : List X) → m ≡ length ys → Is (row T.C) r (u ∷ []) → length zs ≡ length ys → T.Ens ys n c d zs r → ent 𝓤
          (⋆ 𝓛 (‵ (flft κ q) ∷ ‵ (fsep (finally R γ zs) (fbor κ (Held R m b o γ))) ∷ [])) (Post u)
      exits r u m zs long is len e =
          qed 𝓛 (‵ (flft κ q) ∷ ‵ (fsep (finally R γ zs) (fbor κ (Held R m b o γ))) ∷ []) ∵
          rewrite ! 1 (λ (k : ℕ). ‵ (fsep (finally R γ zs) (fbor κ (Held R k b o γ)))) long refl $
          suffices ! _ (ends_at 𝓛 (ended T) (stayed T) (clauses T 𝓤) (((κ, tt), (q, tt), tt, a, vals), tt) u r (zs, (tt, (tt, (tt, tt)))) (len, (tt, (tt, (tt, tt))))) $
          says ! e $
          nothing ! $ move ! (1 ∷ 0 ∷ []) $ join ! $ frame ! $
          nothing ! $ owned ! (row T.B) (Is (row T.B)) (T.B.makes 𝓛) d _ gd $ fjoin ! $ owned ! (row T.A) (Is (row T.A)) (T.A.makes 𝓛) c _ gc $
          fjoin ! $ owned ! usize (Is usize) (uint_Makes 𝓛 w64) n _ (refl, n-fits) $ fjoin ! $
          move ! (1 ∷ 0 ∷ []) $ fjoin ! $ frame ! $ owned ! (row T.C) (Is (row T.C)) (T.C.makes 𝓛) r _ is $ done !

      walk : ent 𝓤 (on_entry 𝓛 (signature T) (κ, tt) (q, tt) a vals) (WpFn 𝓤 H 𝓣.C 𝓣.Λ (function T f₁ f₂) (s ∷ vint w64 n ∷ vc ∷ vd ∷ []) Post)
      walk =
          qed 𝓛 ((‵ (flft κ q) ⊛ ‵ ftrue) ∷ ‵ (owns (MutSlice (named 0) κ R ∷ usize ∷ row T.A ∷ row T.B ∷ []) a vals) ∷ []) ∵ enter ! 𝓣.C 𝓣.Λ (function T f₁ f₂)
          (s ∷ vint w64 n ∷ vc ∷ vd ∷ []) _ $
          alloc1 ! (λ l₀. alloc1 ! (λ l₁. alloc1 ! (λ l₂. alloc1 ! (λ l₃. alloc1 ! (λ l₄. alloc1 ! (λ l₅. alloc1 ! (λ l₆. alloc1 ! (λ l₇. alloc1 ! (λ l₈. alloc1 ! (λ l₉. alloc0 ! $
          params1 ! $
          pass1 ! (init ! 16 refl (tt, (tt, (record { fits = room.0 }, tt)))) $ pass1 ! (init ! 14 refl (tt, record { fits = n-fits })) $
          pass1 ! (init ! 12 refl (T.A.typed 𝓛 c _ gc)) $ pass1 ! (init ! 10 refl (T.B.typed 𝓛 d _ gd)) $ pass0 ! $
          assigns ! (addr ! (from ! (fld ! refl (hop ! (look_in ! 16 (sub ! 0 refl (whole !))) (stop !))))) (from ! (stop !)) (init ! 6 refl (tt, tt)) $
          assigns ! (agg ! (and_then ! (load ! (from ! (stop !)) (look ! 6 refl))
          (and_then ! (load ! (from ! (fld ! refl (stop !))) (look_in ! 16 (sub ! 1 refl (whole !)))) (no_more !)))) (from ! (stop !))
          (init ! 4 refl (tt, (tt, (record { fits = room.0 }, tt)))) $
          move ! (21 ∷ []) $ fsplit ! $ move ! (22 ∷ []) $ split ! $ keep ! (0 ∷ 2 ∷ 4 ∷ 5 ∷ 6 ∷ 7 ∷ 8 ∷ 9 ∷ 10 ∷ 11 ∷ 12 ∷ 13 ∷ 14 ∷ 15 ∷ 16 ∷ 17 ∷ 18 ∷ 19 ∷ 20 ∷ 21 ∷ 22 ∷ 23
          ∷ []) $
          -- [the token; the list; _9 2; …]: the list is lent again for a lifetime ν
          lft_new ! tt (λ ν. move ! (2 ∷ 1 ∷ []) $
          use2 𝓛 (later (some (λ (γ₁ : GName). ‵ ((MutSlice (named 0) (ν ∷ []) R).own_val (x γ₁ ys) (s ∷ [])) ⊛ ‵ (LentAgain R κ (ν ∷ []) q γ b o γ₁ ys))))
          (lends_again R κ (ν ∷ []) q γ b o 𝓛 (named 0) (named 0) ys) $ await ! tt $ pick ! (λ γ₁. split ! $ move ! (2 ∷ 0 ∷ []) $
          -- [ν's token; the list; what is kept of it; _9 3; …]
          calls-list ! (fm_of 𝓤 H 𝓛.laws 𝓣) R (plain (λ _. usize) ∷ plain (λ _. row T.A) ∷ []) (plain (λ _. row T.E)) (yes, (yes, tt))
          (pass_clauses T.R T.A T.E T.Req₁ T.Ens₁ 𝓤) known₁ (ν ∷ []) full_share
          (uint_Makes 𝓛 w64, (T.A.makes 𝓛, tt)) (x γ₁ ys) s (n, (c, tt)) (vint w64 n ∷ [], (vc ∷ [], tt)) ((refl, n-fits), (gc, tt)) tt
          (fact_i 𝓤 _ (emp 𝓤) (T.first_may ys n c d may)) (λ r zs. T.Ens₁ ys n c zs r) (λ r ws. id⊢ 𝓤 _)
          (and_then ! (load ! (from ! (stop !)) (look ! 6 refl)) (and_then ! (load ! (from ! (stop !)) (look ! 16 refl))
          (and_then ! (load ! (from ! (stop !)) (look ! 14 refl)) (no_more !)))) (λ r u zs is len e.
          land ! (from ! (stop !)) (init ! 11 refl (T.E.typed 𝓛 r _ is)) $
          -- [ν's token; the last list; what is kept; _9 3; …]: it comes back
          lft_end ! tt $ move ! (1 ∷ []) $ fsplit ! $ move ! (1 ∷ []) $ drop ! $ move ! (1 ∷ 2 ∷ 0 ∷ []) $ use3 𝓛 (later (‵ ((MutSlice (named 0) κ R).own_val (x γ zs) (s ∷ [])) ⊛ ‵ (flft κ q)))
          (comes_back R κ (ν ∷ []) q γ b o 𝓛 (named 0) (named 0) ys γ₁ zs room len) $ await ! tt $ split ! $ move ! (1 ∷ 0 ∷ []) $
          -- [the token; the list; _9 2; …]
          assigns ! (addr ! (from ! (fld ! refl (hop ! (look_in ! 18 (sub ! 0 refl (whole !))) (stop !))))) (from ! (stop !)) (init ! 4 refl (tt, tt)) $
          assigns ! (agg ! (and_then ! (load ! (from ! (stop !)) (look ! 4 refl))
          (and_then ! (load ! (from ! (fld ! refl (stop !))) (look_in ! 18 (sub ! 1 refl (whole !)))) (no_more !)))) (from ! (stop !))
          (init ! 2 refl (tt, (tt, (record { fits = room.0 }, tt)))) $
          calls-list ! (fm_of 𝓤 H 𝓛.laws 𝓣) R (plain (λ _. usize) ∷ plain (λ _. row T.B) ∷ []) (plain (λ _. row T.C)) (yes, (yes, tt))
          (pass_clauses T.R T.B T.C T.Req₂ T.Ens₂ 𝓤) known₂ κ q
          (uint_Makes 𝓛 w64, (T.B.makes 𝓛, tt)) (x γ zs) s (n, (d, tt)) (vint w64 n ∷ [], (vd ∷ [], tt)) ((refl, n-fits), (gd, tt)) tt
          (fact_i 𝓤 _ (emp 𝓤) (T.second_may ys zs n c d r may len e)) (λ r' zs'. T.Ens₂ zs n d zs' r') (λ r' ws. id⊢ 𝓤 _)
          (and_then ! (load ! (from ! (stop !)) (look ! 1 refl)) (and_then ! (load ! (from ! (stop !)) (look ! 15 refl))
          (and_then ! (load ! (from ! (stop !)) (look ! 11 refl)) (no_more !)))) (λ r' u' zs' is' len' e'.
          land ! (from ! (stop !)) (init ! 20 refl (T.C.typed 𝓛 r' _ is')) $
          returns ! (look ! 20 refl) $ forget ! 2 refl $ forget ! 4 refl $ forget ! 6 refl $ forget ! 8 refl $ forget ! 10 refl $ forget ! 12 refl $ forget ! 14 refl $
          forget ! 16 refl $ forget ! 18 refl $ forget ! 20 refl $
          move ! (20 ∷ 21 ∷ []) $ free1 ! $ move ! (18 ∷ 19 ∷ []) $ free1 ! $ move ! (16 ∷ 17 ∷ []) $ free1 ! $ move ! (14 ∷ 15 ∷ []) $ free1 ! $ move ! (12 ∷ 13 ∷ []) $ free1 ! $
          move ! (10 ∷ 11 ∷ []) $ free1 ! $ move ! (8 ∷ 9 ∷ []) $ free1 ! $ move ! (6 ∷ 7 ∷ []) $ free1 ! $ move ! (4 ∷ 5 ∷ []) $ free1 ! $ move ! (2 ∷ 3 ∷ []) $ free1 ! $
          free0 ! $
          by ! (exits r' u' (length zs) zs' len is' (len' ∙ len) (T.both_do ys zs zs' n c d r r' may e e'))))))))))))))))

  meets : Meets 𝓛 (signature T) (WpFn 𝓤 H 𝓣.C 𝓣.Λ (function T f₁ f₂)) (closing 𝓛 (ended T) (clauses T 𝓤))
  meets = walk_Meets 𝓛 (ended T) (stayed T) (Goes-gave_slice 𝓛 1 0 tt (plain (λ _. R)), goes 1 𝓛 (uint w64 ∷ T.A ∷ T.B ∷ [])) (clauses T 𝓤)
      (WpFn 𝓤 H 𝓣.C 𝓣.Λ (function T f₁ f₂)) (WpFn-mono 𝓤 H 𝓛.laws 𝓣 (function T f₁ f₂))
      (walked 𝓛 (ended T) (stayed T) (clauses T 𝓤) (WpFn 𝓤 H 𝓣.C 𝓣.Λ (function T f₁ f₂))
      (λ κs. (mut_slice_vals, (uint_vals w64, ((λ p. T.A.val p ∷ []), ((λ p. T.B.val p ∷ []), tt)))))
      (λ κs. (mut_slice_Tells (named 0) κs.0 R, (uint_Tells w64, (T.A.tells, (T.B.tells, tt)))))
      (λ κs qs bounds a g are. needs 𝓤 (T.Req a.0.now a.1.0 a.1.1.0 a.1.1.1.0) _
      (λ may. walk κs.0 qs.0 a.0.ref_ptr.0 a.0.ref_ptr.1 a.0.ghost_name a.0.now a.1.0 a.1.1.0 a.1.1.1.0 are.0.0.1 are.1.0.1 are.1.1.0
      are.1.1.1.0 may)))

-- what the proof of such a function cites
pub passes : (T : Passes) {M : Type 1} {𝓤 : Ura M} (𝓛 : Logic 𝓤) (𝓜 : Model 𝓤 𝓛.H) (𝓡 : Running 𝓤 𝓛.H 𝓜) (γ : Routines) (k f₁ f₂ : Callee)
    → Closed 𝓤 𝓛.H (tables 𝓤 𝓛.H 𝓜 𝓡 γ).C (tables 𝓤 𝓛.H 𝓜 𝓡 γ).Λ k (function T f₁ f₂)
    → (r₁ : Routine) → γ f₁ ≡ r₁ → Triple 𝓤 (𝓡.run r₁) (first_contract T 𝓤 𝓛) → (r₂ : Routine) → γ f₂ ≡ r₂ → Triple 𝓤 (𝓡.run r₂) (second_contract T 𝓤 𝓛)
    → Triple 𝓤 (𝓡.run (γ k)) (contract_of T 𝓤 𝓛)
unfolding tables_of
passes T {𝓤 = 𝓤} 𝓛 𝓜 𝓡 γ k f₁ f₂ closed r₁ c₁ t₁ r₂ c₂ t₂ =
    entered 𝓤 𝓛.H (contract_of T 𝓤 𝓛) (tables 𝓤 𝓛.H 𝓜 𝓡 γ).C (tables 𝓤 𝓛.H 𝓜 𝓡 γ).Λ k (function T f₁ f₂) closed
    (meets T f₁ f₂ 𝓛 (tables_of 𝓤 𝓛.H 𝓜 (tables 𝓤 𝓛.H 𝓜 𝓡 γ))
    (cited 𝓤 𝓛.H (first_contract T 𝓤 𝓛) 𝓜 𝓡 γ f₁ r₁ c₁ t₁) (cited 𝓤 𝓛.H (second_contract T 𝓤 𝓛) 𝓜 𝓡 γ f₂ r₂ c₂ t₂))
