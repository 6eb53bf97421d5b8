-- Every function of the form
--     fn first(list: &[R], x: X) -> A { let len = list.len(); let n = to(x, len); let acc = start(x, len); fold(list, 0, n, acc) }
-- where `to` and `start` are functions of plain data that require nothing, and `fold` is as `Folding.antt` has it: over the first elements, as many as `to` says.
-- Its MIR (`function`) meets every contract that follows (`First`). R, X and A are any types of plain data.
-- Assumes `Logic`, and that the three callees meet their contracts.
use mathlib.Core.Path.{◌≡◌, refl, sym, ◌∙◌, ap, subst}
use Prim.Native.Nat.{ℕ, ◌<◌, ◌^◌}
use lib.Dec.{lit<}
use mathlib.Core.List.{[], ◌∷◌, List}
use lib.ListN.{length, take}
use seplogic.Ra.Ura.{Ura}
use base.Fraction.{full_share}
use mir.Syntax.{Callee, Fn, named, imm, w64, ty_ref, Ty, field, place, copy, int, local, value_local, seq, assign, call, return, rv_opd}
use mir.Val.{Val, vint}
use base.Logic.{SProp, ent, emp, id⊢, via, fst∗}
use base.Fml.{Lft, Share, ftrue, fat, flft}
use prog.Routine.{Routine, Env as Routines}
use prog.Model.{Model}
use prog.Wp.{WpFn, Closed, Tables}
use types.Logic.{Logic}
use contract.Monad.{fact, fact_i}
use contract.Running.{Running, tables, tables_of}
use types.Kit.{Item, ‵, ◌⊛◌, ⋆, ◌$◌, ◌∵◌, !, qed, by, move, keep, split, join, rewrite, fsplit, fjoin, use1, suffices, frame, done}
use types.Run.{look, init, forget, stop, fld, from, load, lit, of_opd, and_then, no_more, assigns, land, returns, enter, alloc1, alloc0, params1, pass1, pass0, free1, free0}
use types.Part.{whole, sub, look_in}
use sound.WpLaws.{fm_of, WpFn-mono}
use denote.RattleType.{RattleType, owns}
use denote.Memory.{pointee}
use denote.Laws.{Is}
use denote.Plain.{uint_Tells, uint_Makes}
use denote.Builtin.{usize}
use denote.Ref.{Bor}
use denote.Slice.{slice_ty, slice_val, ShrSlice, Room, shr_slice_vals, shr_slice_Tells, shr_slice_copy}
use denote.Steps.{only, owned, nothing}
use denote.Triple.Entry.{on_entry}
use denote.Triple.Spec.{Meets, triple_of}
use denote.Triple.Statement.{Contract, Triple}
use denote.Triple.Clauses.{Ended, Clauses, closing}
use denote.Triple.Table.{entered, cited}
use denote.Triple.Walked.{says, Stays, stay_none_slice, stay_none, walk_of, Goes-none_slice, ends_at, walked, walk_Meets}
use denote.Exit.{yes}
use denote.Signature.{Signature, plain, shr_slice}
use Rattle.walks.proofs.Args.{Datum, row, uint, goes, Dens}
use Rattle.walks.proofs.Slices.{calls-reads}
use Rattle.list_walks.specs.Fold.{fold_at, part}
use Rattle.list_walks.proofs.Elements.{Element, word, Good, good}
use Rattle.list_walks.proofs.Called.{of_contract, calls-of}
use Rattle.list_walks.proofs.Folded.{part-first}
use Rattle.list_walks.proofs.Folding as F

-- a fold, how far it goes and the value that it starts from, and what is ensured of the result
pub record First (𝓔 : Element) (X D : Datum) : Type 2 where
  pub fold : F.Fold 𝓔 D
  pub to : X.D → ℕ → ℕ
  pub start : X.D → ℕ → D.D
  pub fits : (l : List 𝓔.R.D) (x : X.D) → fold.Fits l 0 (to x (length l)) (start x (length l))
  pub Done : List 𝓔.R.D → X.D → D.D → Type 0
  pub does : (l : List 𝓔.R.D) (x : X.D) → Done l x (fold_at fold.step (start x (length l)) 0 (take (to x (length l)) l))

pub record Names : Type 0 where
  pub to : Callee
  pub start : Callee
  pub fold : Callee

-- a function of x and of the list's length
module _ (X : Datum) where
  abbrev len_args : List Datum
  len_args = X ∷ uint w64 ∷ []

  abbrev of_len : {C : Type 0} → (X.D → ℕ → C) → Dens len_args → C
  of_len c d = c d.0 d.1.0

module _ (𝓔 : Element) (X D : Datum) where
  abbrev slice : Ty
  slice = slice_ty (ty_ref (named 0) imm (pointee 𝓔.R.written))

  abbrev pub signature : Signature
  signature = record { lifetimes = 1; outlives = []; params = shr_slice 0 tt (λ _. row 𝓔.R) ∷ plain (λ _. row X) ∷ []; result = plain (λ _. row D) }

  abbrev pub ended : Ended
  ended = record { signature = signature; kept = (yes, (yes, tt)) }

  abbrev stayed : Stays ended.signature.params ended.kept
  stayed = (stay_none_slice (0 ∷ []) tt (plain (λ _. row 𝓔.R)) yes, (stay_none (λ _. row X) yes, tt))

  -- the locals: the result, list, x, len, n, and acc
  abbrev pub function : Names → Fn
  function f = record {
    lifetimes = 1;
    outlives = [];
    ty_params = [];
    givens = 0;
    params = 2;
    locals = local D.ty value_local ∷ local slice value_local ∷ local X.ty value_local ∷ local word value_local ∷ local word value_local ∷ local D.ty value_local ∷ [];
    body = seq (assign (place 3 []) (rv_opd (copy (place 1 (field 1 ∷ [])))))
        (seq (call f.to (copy (place 2 []) ∷ copy (place 3 []) ∷ []) (place 4 []))
        (seq (call f.start (copy (place 2 []) ∷ copy (place 3 []) ∷ []) (place 5 []))
        (seq (call f.fold (copy (place 1 []) ∷ int w64 0 ∷ copy (place 4 []) ∷ copy (place 5 []) ∷ []) (place 0 [])) return)));
  }

  module _ (T : First 𝓔 X D) {M : Type 1} (𝓤 : Ura M) where
    -- `ensures { λ r. ⌜ Done (now list.entry) x r ⌝ }`
    abbrev pub clauses : Clauses 𝓤 ended
    clauses κs a = record { ghost = Unit {0}; requires = λ _. emp 𝓤; ensures = λ _ r e. fact 𝓤 (T.Done a.0.now a.1.0 r) }

    module _ (𝓛 : Logic 𝓤) where
      abbrev pub contract_of : Contract 𝓤
      contract_of = triple_of 𝓛 signature (closing 𝓛 ended clauses)

      -- `to(x: X, len: usize) -> usize`
      abbrev pub to_contract : Contract 𝓤
      to_contract = of_contract (len_args X) (uint w64) 𝓤 𝓛 (of_len X T.to)

      -- `start(x: X, len: usize) -> A`
      abbrev pub start_contract : Contract 𝓤
      start_contract = of_contract (len_args X) D 𝓤 𝓛 (of_len X T.start)

      abbrev pub fold_contract : Contract 𝓤
      fold_contract = F.contract_of 𝓔 D T.fold 𝓤 𝓛

module _ (𝓔 : Element) (X D : Datum) (T : First 𝓔 X D) (f : Names) {M : Type 1} {𝓤 : Ura M} (𝓛 : Logic 𝓤) (𝓣 : Tables 𝓤 𝓛.H)
    (known-to : Triple 𝓤 (𝓣.C f.to) (to_contract 𝓔 X D T 𝓤 𝓛)) (Known-start : Triple 𝓤 (𝓣.C f.start) (start_contract 𝓔 X D T 𝓤 𝓛))
    (known-fold : Triple 𝓤 (𝓣.C f.fold) (fold_contract 𝓔 X D T 𝓤 𝓛)) where
  open 𝓛 use {H}

  abbrev E : Type 0
  E = 𝓔.R.D

  abbrev R : RattleType
  R = row 𝓔.R

  module _ (κ : Lft) (q : Share) (b o : ℕ) (ys : List E) (p : X.D) where
    abbrev x : Bor (List E)
    x = record { ref_ptr = (b, o); now = ys }

    abbrev s : Val
    s = slice_val (b, o) (length ys)

    abbrev v : Val
    v = X.val p

    abbrev a : Bor (List E) × (X.D × Unit {0})
    a = (x, (p, tt))

    abbrev vals : List Val × (List Val × Unit {0})
    vals = (s ∷ [], (v ∷ [], tt))

    abbrev n : ℕ
    n = T.to p (length ys)

    abbrev c : D.D
    c = T.start p (length ys)

    abbrev mine : Item 𝓤
    mine = ‵ ((ShrSlice (named 0) κ R).own_val x (s ∷ []))

    abbrev Post : Val → SProp 𝓤
    Post = (walk_of 𝓛 (ended 𝓔 X D) (stayed 𝓔 X D) (clauses 𝓔 X D T 𝓤)).post (((κ, tt), (q, tt), tt, a, vals), tt)

    done-it : (r : D.D) → r ≡ fold_at T.fold.step c 0 (part ys 0 n) → T.Done ys p r
    done-it r e = subst (T.Done ys p) (sym (e ∙ ap (fold_at T.fold.step c 0) (part-first ys n))) (T.does ys p)

    module _ (room : Room R (length ys)) (g : Good X p) where
      exits : (r : D.D) (u : Val) → Is (row D) r (u ∷ []) → T.Done ys p r → ent 𝓤 (⋆ 𝓛 (‵ (flft κ q) ∷ mine ∷ [])) (Post u)
      exits r u is dn =
          qed 𝓛 (‵ (flft κ q) ∷ mine ∷ []) ∵
          suffices ! _ (ends_at 𝓛 (ended 𝓔 X D) (stayed 𝓔 X D) (clauses 𝓔 X D T 𝓤) (((κ, tt), (q, tt), tt, a, vals), tt) u r (tt, (tt, tt)) (tt, (tt, tt))) $
          says ! dn $
          nothing ! $ move ! (1 ∷ 0 ∷ []) $ join ! $ frame ! $
          nothing ! $ owned ! (row X) (Is (row X)) (X.makes 𝓛) p _ g $ fjoin ! $
          move ! (1 ∷ 0 ∷ []) $ fjoin ! $ frame ! $ owned ! (row D) (Is (row D)) (D.makes 𝓛) r _ is $ done !

      walk : ent 𝓤 (on_entry 𝓛 (signature 𝓔 X D) (κ, tt) (q, tt) a vals) (WpFn 𝓤 H 𝓣.C 𝓣.Λ (function 𝓔 X D f) (s ∷ v ∷ []) Post)
      walk =
          qed 𝓛 ((‵ (flft κ q) ⊛ ‵ ftrue) ∷ ‵ (owns (ShrSlice (named 0) κ R ∷ row X ∷ []) a vals) ∷ []) ∵ enter ! 𝓣.C 𝓣.Λ (function 𝓔 X D f) (s ∷ v ∷ []) _ $
          alloc1 ! (λ l₀. alloc1 ! (λ l₁. alloc1 ! (λ l₂. alloc1 ! (λ l₃. alloc1 ! (λ l₄. alloc1 ! (λ l₅. alloc0 ! $ params1 ! $
          pass1 ! (init ! 8 refl (tt, (tt, (record { fits = room.0 }, tt)))) $ pass1 ! (init ! 6 refl (X.typed 𝓛 p _ g)) $ pass0 ! $
          -- [_5 0; …; _4 2; …; _3 4; …; _2 6; …; _1 8; …; _0 10; …; the token 12; what is owned 13]
          assigns ! (of_opd ! (load ! (from ! (fld ! refl (stop !))) (look_in ! 8 (sub ! 1 refl (whole !))))) (from ! (stop !)) (init ! 4 refl (tt, record { fits = room.0 })) $
          calls-of ! 𝓣 (len_args X) (uint w64) (of_len X T.to) known-to (p, (length ys, tt)) (g, ((refl, room.0), tt))
          (and_then ! (load ! (from ! (stop !)) (look ! 7 refl)) (and_then ! (load ! (from ! (stop !)) (look ! 5 refl)) (no_more !))) (λ k u is e.
          land ! (from ! (stop !)) (init ! 2 refl ((uint w64).typed 𝓛 k _ is)) $
          rewrite ! 2 (λ (m : Val). ‵ (fat full_share word l₄ 0 m)) (ap only (uint_Tells w64 k (u ∷ []) is) ∙ ap (vint w64) e) refl $
          calls-of ! 𝓣 (len_args X) D (of_len X T.start) Known-start (p, (length ys, tt)) (g, ((refl, room.0), tt))
          (and_then ! (load ! (from ! (stop !)) (look ! 7 refl)) (and_then ! (load ! (from ! (stop !)) (look ! 5 refl)) (no_more !))) (λ z w is-z e-z.
          land ! (from ! (stop !)) (init ! 0 refl (D.typed 𝓛 z _ is-z)) $
          rewrite ! 0 (λ (m : Val). ‵ (fat full_share D.ty l₅ 0 m)) (ap only (D.tells z (w ∷ []) is-z) ∙ ap D.val e-z) refl $
          -- a copy of the list is passed
          move ! (13 ∷ []) $ fsplit ! $ use1 𝓛 (mine ⊛ mine) ((shr_slice_copy 𝓛 (named 0) κ R 𝓔.R.shared_laws).twice x (s ∷ [])) $ split ! $ move ! (15 ∷ []) $ split ! $
          keep ! (0 ∷ 2 ∷ 3 ∷ 5 ∷ 6 ∷ 7 ∷ 8 ∷ 9 ∷ 10 ∷ 11 ∷ 12 ∷ 13 ∷ 14 ∷ 15 ∷ 16 ∷ []) $
          calls-reads ! (fm_of 𝓤 H 𝓛.laws 𝓣) R (plain (λ _. usize) ∷ plain (λ _. usize) ∷ plain (λ _. row D) ∷ []) (plain (λ _. row D)) (yes, (yes, (yes, tt)))
          (F.clauses 𝓔 D T.fold 𝓤) known-fold κ q (uint_Makes 𝓛 w64, (uint_Makes 𝓛 w64, (D.makes 𝓛, tt))) (named 0) x s
          (0, (n, (c, tt))) (vint w64 0 ∷ [], (vint w64 n ∷ [], (D.val c ∷ [], tt)))
          ((refl, lit< tt), ((refl, subst (λ (m : ℕ). m < 2 ^ 64) e is.1), (subst (Good D) e-z (good D z w is-z), tt))) tt
          (fact_i 𝓤 _ (emp 𝓤) (T.fits ys p)) (λ r. r ≡ fold_at T.fold.step c 0 (part ys 0 n)) (λ r ws. id⊢ 𝓤 _)
          -- [what is asked 0; the list 1; _5 2; …]
          (and_then ! (load ! (from ! (stop !)) (look ! 10 refl)) (and_then ! (lit ! tt) (and_then ! (load ! (from ! (stop !)) (look ! 4 refl))
          (and_then ! (load ! (from ! (stop !)) (look ! 2 refl)) (no_more !))))) (λ r u' is-r e-r.
          land ! (from ! (stop !)) (init ! 12 refl (D.typed 𝓛 r _ is-r)) $
          returns ! (look ! 12 refl) $ forget ! 2 refl $ forget ! 4 refl $ forget ! 6 refl $ forget ! 8 refl $ forget ! 10 refl $ forget ! 12 refl $
          move ! (12 ∷ 13 ∷ []) $ free1 ! $ move ! (10 ∷ 11 ∷ []) $ free1 ! $ move ! (8 ∷ 9 ∷ []) $ free1 ! $ move ! (6 ∷ 7 ∷ []) $ free1 ! $ move ! (4 ∷ 5 ∷ []) $ free1 ! $
          move ! (2 ∷ 3 ∷ []) $ free1 ! $ free0 ! $ by ! (exits r u' is-r (done-it r e-r)))))))))))

  meets : Meets 𝓛 (signature 𝓔 X D) (WpFn 𝓤 H 𝓣.C 𝓣.Λ (function 𝓔 X D f)) (closing 𝓛 (ended 𝓔 X D) (clauses 𝓔 X D T 𝓤))
  meets = walk_Meets 𝓛 (ended 𝓔 X D) (stayed 𝓔 X D) (Goes-none_slice 𝓛 1 (0 ∷ []) tt (plain (λ _. R)) yes, goes 1 𝓛 (X ∷ [])) (clauses 𝓔 X D T 𝓤)
      (WpFn 𝓤 H 𝓣.C 𝓣.Λ (function 𝓔 X D f)) (WpFn-mono 𝓤 H 𝓛.laws 𝓣 (function 𝓔 X D f))
      (walked 𝓛 (ended 𝓔 X D) (stayed 𝓔 X D) (clauses 𝓔 X D T 𝓤) (WpFn 𝓤 H 𝓣.C 𝓣.Λ (function 𝓔 X D f))
      (λ κs. (shr_slice_vals, ((λ p. X.val p ∷ []), tt))) (λ κs. (shr_slice_Tells (named 0) κs.0 R, (X.tells, tt)))
      (λ κs qs bounds a g are. via 𝓤 _ (fst∗ 𝓤 _ (emp 𝓤)) (walk κs.0 qs.0 a.0.ref_ptr.0 a.0.ref_ptr.1 a.0.now a.1.0 are.0.0.1 are.1.0)))

-- what the proof of such a function cites
pub folds-first : (𝓔 : Element) (X D : Datum) (T : First 𝓔 X D) (f : Names) {M : Type 1} {𝓤 : Ura M} (𝓛 : Logic 𝓤) (𝓜 : Model 𝓤 𝓛.H) (𝓡 : Running 𝓤 𝓛.H 𝓜)
    (γ : Routines)
    (k : Callee) → Closed 𝓤 𝓛.H (tables 𝓤 𝓛.H 𝓜 𝓡 γ).C (tables 𝓤 𝓛.H 𝓜 𝓡 γ).Λ k (function 𝓔 X D f)
    → (r₁ : Routine) → γ f.to ≡ r₁ → Triple 𝓤 (𝓡.run r₁) (to_contract 𝓔 X D T 𝓤 𝓛)
    → (r₂ : Routine) → γ f.start ≡ r₂ → Triple 𝓤 (𝓡.run r₂) (start_contract 𝓔 X D T 𝓤 𝓛)
    → (r₃ : Routine) → γ f.fold ≡ r₃ → Triple 𝓤 (𝓡.run r₃) (fold_contract 𝓔 X D T 𝓤 𝓛) → Triple 𝓤 (𝓡.run (γ k)) (contract_of 𝓔 X D T 𝓤 𝓛)
unfolding tables_of
folds-first 𝓔 X D T f {𝓤 = 𝓤} 𝓛 𝓜 𝓡 γ k closed r₁ c₁ t₁ r₂ c₂ t₂ r₃ c₃ t₃ =
    entered 𝓤 𝓛.H (contract_of 𝓔 X D T 𝓤 𝓛) (tables 𝓤 𝓛.H 𝓜 𝓡 γ).C (tables 𝓤 𝓛.H 𝓜 𝓡 γ).Λ k (function 𝓔 X D f) closed
    (meets 𝓔 X D T f 𝓛 (tables_of 𝓤 𝓛.H 𝓜 (tables 𝓤 𝓛.H 𝓜 𝓡 γ))
    (cited 𝓤 𝓛.H (to_contract 𝓔 X D T 𝓤 𝓛) 𝓜 𝓡 γ f.to r₁ c₁ t₁) (cited 𝓤 𝓛.H (start_contract 𝓔 X D T 𝓤 𝓛) 𝓜 𝓡 γ f.start r₂ c₂ t₂)
    (cited 𝓤 𝓛.H (fold_contract 𝓔 X D T 𝓤 𝓛) 𝓜 𝓡 γ f.fold r₃ c₃ t₃))
