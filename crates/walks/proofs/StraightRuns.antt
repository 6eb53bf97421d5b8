-- A function over the list and three more runs whose statements are straight (`Straight.antt`): what its proof cites, `straight-runs`.
--     fn f(list: &mut [R], run: &mut [uN], load: &[uM], set: &[uK], a: A, ..) -> An { S; ..; S; answer(x, ..) }
-- Assumes `Logic`, and that the callees meet their contracts.
use mathlib.Core.Path.{◌≡◌, refl, sym, ap, subst}
use mathlib.Core.Bool.{true, false}
use Prim.Native.Nat.{ℕ}
use mathlib.Core.List.{[], ◌∷◌, ◌++◌, List}
use lib.ListN.{length}
use seplogic.Ra.Ura.{Ura}
use mir.Syntax.{Callee, Fn, ty_unit, local, value_local}
use mir.Val.{Val}
use base.Logic.{SProp, ent, emp, via, fst∗}
use base.Fml.{Lft, Share, GName, ftrue, flft, fobs, fbor}
use prog.Routine.{Env as Routines}
use prog.Model.{Model}
use contract.Running.{Running, tables, tables_of}
use prog.Wp.{WpFn, Closed, Tables}
use types.Logic.{Logic}
use contract.Monad.{fact}
use contract.Lifetimes.{Lfts}
use types.Kit.{‵, ◌⊛◌, ⋆, ◌$◌, ◌∵◌, !, qed, move, keep, drop, use0, split, join, fsplit, fjoin, suffices, frame, done}
use types.Run.{init, enter, alloc1, params1, pass1}
use sound.WpLaws.{WpFn-mono}
use denote.RattleType.{Denots, owns}
use denote.Shadow.{pure_i}
use denote.Laws.{Is, valss}
use denote.Ref.{MutBor}
use denote.Plain.{UInt}
use denote.Slice.{slice_val, Room, heres, coded_holeys, mut_slice_at, mut_slice_vals, shr_slice_vals, mut_slice_Tells, shr_slice_Tells}
use denote.Lend.{Held}
use denote.Index.{opens_slice}
use denote.Steps.{owned, nothing}
use denote.Exit.{yes}
use denote.Signature.{Signature, plain, mut_slice, shr_slice, types_at}
use mir.Syntax.{named}
use denote.Triple.Entry.{Args, on_entry}
use denote.Triple.Spec.{Meets, triple_of}
use denote.Triple.Table.{entered}
use denote.Triple.Clauses.{Ended, Clauses, closing}
use denote.Triple.Walked.{says, Stays, stay_slice, gave_slice, stay_none_slice, walk_of, has_of, Goes-slice, Goes-gave_slice, Goes-none_slice, Walks, ends_at, walked, walk_Meets}
use Rattle.walks.proofs.Args.{Datum, row, Dens, Facts, vals_of, slots, kepts, stays, goes, up, spells, tellss, facts-up, flat_up, lastly, fit, had, locals_of, past, alloc-args}
use Rattle.walks.proofs.Held.{count, start, sound-start, pass-hold}
use Rattle.walks.proofs.Lent.{word, may, may_env, alloc-may, pair_locals, pair_env, alloc-pairs}
use Rattle.walks.proofs.Straight.{Shape, val, mut_val, slice, run_slice, load_slice, set_slice, Lend, Prog, compile, Chain, Meeting, run_owns, goes_on, Cites, meeting}

-- the shape, the plain parameters As, and the types Ls of the lets
module _ (𝓢 : Shape) (As Ls : List Datum) where
  abbrev pub signature : Signature
  signature = record {
    lifetimes = 4;
    outlives = [];
    params = mut_slice 0 tt (λ _. row 𝓢.R) ∷ mut_slice 1 tt (λ _. UInt 𝓢.N) ∷ shr_slice 2 tt (λ _. UInt 𝓢.N') ∷ shr_slice 3 tt (λ _. UInt 𝓢.N'') ∷ slots 4 As;
    result = plain (λ _. row 𝓢.An);
  }

  abbrev pub ended : Ended
  ended = record { signature = signature; kept = (yes, (yes, (yes, (yes, kepts 4 As)))) }

  abbrev stayed : Stays ended.signature.params ended.kept
  stayed = (
    stay_slice (0 ∷ []) tt (plain (λ _. row 𝓢.R)),
    (gave_slice (1 ∷ []) tt (plain (λ _. UInt 𝓢.N)), (stay_none_slice (2 ∷ []) tt (plain (λ _. UInt 𝓢.N')) yes, (stay_none_slice (3 ∷ []) tt (plain (λ _. UInt 𝓢.N'')) yes, stays 4 As))),
  )

  -- the statements, from the parameters on
  abbrev pub Code : Type 1
  Code = Prog 𝓢 true (As ++ Ls) (count As) 0 true

  abbrev pub function : Code → Fn
  function p = record {
    lifetimes = 4;
    outlives = [];
    ty_params = [];
    givens = 0;
    params = past As 4;
    locals = local 𝓢.An.ty value_local ∷ local (slice 𝓢.R) value_local ∷ local (run_slice 𝓢.N) value_local ∷ local (load_slice 𝓢.N') value_local ∷ local (set_slice 𝓢.N'') value_local
        ∷ (locals_of (As ++ Ls) ++ (may 𝓢.len word ++ (may 𝓢.unit ty_unit ++ pair_locals 𝓢.R 𝓢.N 𝓢.lends)));
    body = compile 𝓢 true (As ++ Ls) (count As) 0 true p;
  }

  -- `ensures { λ r. ⌜ Done (now list.entry) (now run.entry) (now load.entry) (now set.entry) a .. (now list.exit) (now run.exit) r ⌝ }`
  abbrev pub clauses : (List 𝓢.R.D → List ℕ → List ℕ → List ℕ → Dens As → List 𝓢.R.D → List ℕ → 𝓢.An.D → Type 0) → {M : Type 1} (𝓤 : Ura M) → Clauses 𝓤 ended
  clauses Done 𝓤 κs x =
      record { ghost = Unit {0}; requires = λ _. emp 𝓤; ensures = λ _ r e. fact 𝓤 (Done x.0.now x.1.0.now x.1.1.0.now x.1.1.1.0.now (up 4 κs As x.1.1.1.1) e.0.now e.1.0.now r) }

  -- what is to be shown
  abbrev pub Shows : Code → (List 𝓢.R.D → List ℕ → List ℕ → List ℕ → Dens As → List 𝓢.R.D → List ℕ → 𝓢.An.D → Type 0) → Type 0
  Shows p Done = (ys : List 𝓢.R.D) (bs ls ns : List ℕ) (d : Dens As) → Chain 𝓢 true (As ++ Ls) (length ys) ls ns (λ zs z r. Done ys bs ls ns d zs z r) (count As) 0 true p (start As Ls d) ys bs

module _ (𝓢 : Shape) (As Ls : List Datum) (p : Code 𝓢 As Ls) (Done : List 𝓢.R.D → List ℕ → List ℕ → List ℕ → Dens As → List 𝓢.R.D → List ℕ → 𝓢.An.D → Type 0) (shown : Shows 𝓢 As Ls p Done)
    {M : Type 1} {𝓤 : Ura M} (𝓛 : Logic 𝓤) (𝓣 : Tables 𝓤 𝓛.H) (met : Meeting 𝓢 true (As ++ Ls) 𝓛 𝓣 (count As) 0 true p) where
  open 𝓛 use {H}

  abbrev cl : Clauses 𝓤 (ended 𝓢 As Ls)
  cl = clauses 𝓢 As Ls Done 𝓤

  abbrev code : Fn
  code = function 𝓢 As Ls p

  abbrev en : Ended
  en = ended 𝓢 As Ls

  abbrev st : Stays (ended 𝓢 As Ls).signature.params (ended 𝓢 As Ls).kept
  st = stayed 𝓢 As Ls

  module _ (κ : Lft) (q : Share) (b o : ℕ) (γ : GName) (ys : List 𝓢.R.D) (e : Lend) (a : Denots (types_at (slots 4 As) (κ, (e.κ', (e.κ'', (e.κ''', tt)))))) where
    abbrev κs : Lfts 4
    κs = (κ, (e.κ', (e.κ'', (e.κ''', tt))))

    abbrev x : List 𝓢.R.D → MutBor (List 𝓢.R.D)
    x l = record { ref_ptr = (b, o); ghost_name = γ; now = l }

    abbrev all : Args (signature 𝓢 As Ls) κs
    all = (x ys, (e.run, (e.load, (e.set, a))))

    abbrev d : Dens As
    d = up 4 κs As a

    abbrev y : (walk_of 𝓛 en st cl).Ghost
    y = ((κs, (q, (e.q', (e.q'', (e.q''', tt)))), tt, all, (slice_val (b, o) (length ys) ∷ [], (mut_val e.run ∷ [], (val e.load ∷ [], (val e.set ∷ [], valss (types_at (slots 4 As) κs) (spells 4 κs As) a))))), tt)

    abbrev Post : Val → SProp 𝓤
    Post = (walk_of 𝓛 en st cl).post y

    abbrev vals : List Val
    vals = slice_val (b, o) (length ys) ∷ mut_val e.run ∷ val e.load ∷ val e.set ∷ vals_of As d

    module _ (room : Room (row 𝓢.R) (length ys)) (room' : Room (UInt 𝓢.N) (length e.run.now)) (room'' : Room (UInt 𝓢.N') (length e.load.now)) (room''' : Room (UInt 𝓢.N'') (length e.set.now)) (fs : Facts As d) where
      exits : (l : List 𝓢.R.D) (z : List ℕ) (r : 𝓢.An.D) (w : Val) → length l ≡ length ys → length z ≡ length e.run.now → Is (row 𝓢.An) r (w ∷ []) → Done ys e.run.now e.load.now e.set.now d l z r
          → ent 𝓤 (⋆ 𝓛 (‵ (run_owns 𝓢.N 𝓢.N' 𝓢.N'' true false e z) ∷ ‵ (fobs γ ((coded_holeys (row 𝓢.R)).code (heres (row 𝓢.R) l))) ∷ ‵ (fbor κ (Held (row 𝓢.R) (length l) b o γ)) ∷ ‵ (flft κ q) ∷ [])) (Post w)
      exits l z r w same same' is dn =
          qed 𝓛 (‵ (run_owns 𝓢.N 𝓢.N' 𝓢.N'' true false e z) ∷ ‵ (fobs γ ((coded_holeys (row 𝓢.R)).code (heres (row 𝓢.R) l))) ∷ ‵ (fbor κ (Held (row 𝓢.R) (length l) b o γ)) ∷ ‵ (flft κ q) ∷ []) ∵
          suffices ! _ (ends_at 𝓛 en st cl y w r (l, (z, (tt, (tt, lastly 4 κs As a)))) (same, (same', (tt, (tt, fit 4 κs As a))))) $ says ! dn $
          fsplit ! $ move ! (1 ∷ []) $ fsplit ! $ move ! (1 ∷ []) $ fsplit ! $ move ! (1 ∷ []) $ fsplit ! $ move ! (1 ∷ []) $ fsplit ! $
          -- [κ''; κ'''; κ'; set; load; the last run; obs; the borrow; the list's token]
          nothing ! $ move ! (2 ∷ 0 ∷ []) $ join ! $ move ! (1 ∷ 0 ∷ []) $ join ! $ move ! (1 ∷ 0 ∷ []) $ join ! $ move ! (6 ∷ 0 ∷ []) $ join ! $ frame ! $ move ! (3 ∷ 4 ∷ []) $
          fjoin ! $ pure_i ! (mut_slice_at (row 𝓢.R) (x l) (slice_val (b, o) (length ys) ∷ [])) (tt, (tt, tt)) (ap (λ (m : ℕ). slice_val (b, o) m ∷ []) (sym same), subst (Room (row 𝓢.R)) (sym same) room) $ fjoin ! $
          use0 𝓛 (‵ (has_of κs (slots 4 As) (kepts 4 As) (stays 4 As) a (lastly 4 κs As a) (valss (types_at (slots 4 As) κs) (spells 4 κs As) a))) (had 4 κs 𝓛 As a fs) $
          move ! (2 ∷ 0 ∷ []) $ fjoin ! $ move ! (2 ∷ 0 ∷ []) $ fjoin ! $ move ! (2 ∷ 0 ∷ []) $ fjoin ! $ move ! (1 ∷ 0 ∷ []) $ fjoin ! $
          owned ! (row 𝓢.An) (Is (row 𝓢.An)) (𝓢.An.makes 𝓛) r _ is $ move ! (1 ∷ 0 ∷ []) $ done !

      walk : ent 𝓤 (on_entry 𝓛 (signature 𝓢 As Ls) κs (q, (e.q', (e.q'', (e.q''', tt)))) all y.0.4) (WpFn 𝓤 H 𝓣.C 𝓣.Λ code vals Post)
      walk =
          qed 𝓛 ((‵ (flft κ q) ⊛ (‵ (flft e.κ' e.q') ⊛ (‵ (flft e.κ'' e.q'') ⊛ (‵ (flft e.κ''' e.q''') ⊛ ‵ ftrue)))) ∷ ‵ (owns (types_at (signature 𝓢 As Ls).params κs) all y.0.4) ∷ []) ∵ enter ! 𝓣.C 𝓣.Λ code vals _ $
          alloc1 ! (λ l₀. alloc1 ! (λ l₁. alloc1 ! (λ e₁. alloc1 ! (λ e₂. alloc1 ! (λ e₃. alloc-args ! (As ++ Ls) (λ bs. alloc-may ! 𝓢.len word (λ w. alloc-may ! 𝓢.unit ty_unit (λ u. alloc-pairs 𝓢.R 𝓢.N ! 𝓢.lends (λ ps. params1 ! $
          -- [what is lent; (); the count; the plain ones; set; …; load; …; run; …; list; …; the result; …; the tokens; what is owned]
          pass1 ! (init ! 10 refl (tt, (tt, (record { fits = room.0 }, tt)))) $ pass1 ! (init ! 8 refl (tt, (tt, (record { fits = room'.0 }, tt)))) $ pass1 ! (init ! 6 refl (tt, (tt, (record { fits = room''.0 }, tt)))) $ pass1 ! (init ! 4 refl (tt, (tt, (record { fits = room'''.0 }, tt)))) $
          move ! (3 ∷ []) $ pass-hold ! As Ls bs d fs (may_env 𝓢.len word w ++ (may_env 𝓢.unit ty_unit u ++ pair_env 𝓢.R 𝓢.N 𝓢.lends ps)) $
          -- what is owned is taken apart, and the tokens
          move ! (15 ∷ []) $ fsplit ! $ fsplit ! $ drop ! $ fsplit ! $ move ! (2 ∷ []) $ fsplit ! $ move ! (1 ∷ []) $ fsplit ! $ move ! (1 ∷ []) $ fsplit ! $
          move ! (20 ∷ []) $ split ! $ move ! (1 ∷ []) $ split ! $ move ! (1 ∷ []) $ split ! $ move ! (1 ∷ []) $ split ! $
          -- [κ'''; nothing; κ''; κ'; κ; set; the others; load; run; list's two; the plain ones; what is lent; (); the count; set's local; …; load's; …; run's; …; list's; …; the result; …]
          move ! (2 ∷ 0 ∷ []) $ fjoin ! $ move ! (2 ∷ 0 ∷ []) $ fjoin ! $ move ! (3 ∷ 0 ∷ []) $ fjoin ! $ move ! (4 ∷ 0 ∷ []) $ fjoin ! $ move ! (4 ∷ 0 ∷ []) $ fjoin ! $
          move ! (10 ∷ 11 ∷ []) $ fjoin ! $ move ! (11 ∷ 12 ∷ []) $ fjoin ! $ fjoin ! $ move ! (11 ∷ 12 ∷ []) $ fjoin ! $ fjoin ! $
          -- the borrow is opened
          move ! (5 ∷ 6 ∷ 3 ∷ []) $ opens_slice ! tt (row 𝓢.R) ys b o $ keep ! (0 ∷ 1 ∷ 2 ∷ 3 ∷ 8 ∷ 9 ∷ 11 ∷ 10 ∷ 12 ∷ 13 ∷ 14 ∷ 15 ∷ 4 ∷ 5 ∷ []) $
          goes_on 𝓢 true (As ++ Ls) 𝓛 𝓣 κ q b o γ ys room e (λ _. room') Post (λ zs z r. Done ys e.run.now e.load.now e.set.now d zs z r) exits l₀ l₁ (e₁, e₂, e₃) bs w u ps ! (count As) 0 true p (start As Ls d) ys e.run.now refl refl (λ _. refl)
          (sound-start As Ls d fs) met (shown ys e.run.now e.load.now e.set.now d))))))))))

  walks : Walks 𝓛 en st (WpFn 𝓤 H 𝓣.C 𝓣.Λ code) cl
  walks = walked 𝓛 en st cl (WpFn 𝓤 H 𝓣.C 𝓣.Λ code)
      (λ κs. (mut_slice_vals, (mut_slice_vals, (shr_slice_vals, (shr_slice_vals, spells 4 κs As)))))
      (λ κs. (mut_slice_Tells (named 0) κs.0 (row 𝓢.R), (mut_slice_Tells (named 1) κs.1.0 (UInt 𝓢.N), (shr_slice_Tells (named 2) κs.1.1.0 (UInt 𝓢.N'), (shr_slice_Tells (named 3) κs.1.1.1.0 (UInt 𝓢.N''), tellss 4 κs As)))))
      (λ κs qs bounds a g are. via 𝓤 _ (fst∗ 𝓤 _ (emp 𝓤)) (subst (λ (vs : List Val). ent 𝓤 (on_entry 𝓛 (signature 𝓢 As Ls) κs qs a (mut_slice_vals a.0, (mut_slice_vals a.1.0, (shr_slice_vals a.1.1.0, (shr_slice_vals a.1.1.1.0, valss (types_at (slots 4 As) κs) (spells 4 κs As) a.1.1.1.1)))))
      (WpFn 𝓤 H 𝓣.C 𝓣.Λ code (slice_val a.0.ref_ptr (length a.0.now) ∷ mut_val a.1.0 ∷ val a.1.1.0 ∷ val a.1.1.1.0 ∷ vs)
      ((walk_of 𝓛 en st cl).post ((κs, qs, bounds, a, (mut_slice_vals a.0, (mut_slice_vals a.1.0, (shr_slice_vals a.1.1.0, (shr_slice_vals a.1.1.1.0, valss (types_at (slots 4 As) κs) (spells 4 κs As) a.1.1.1.1))))), g)))) (sym (flat_up 4 κs As a.1.1.1.1))
      (walk κs.0 qs.0 a.0.ref_ptr.0 a.0.ref_ptr.1 a.0.ghost_name a.0.now
      (record { κ' = κs.1.0; κ'' = κs.1.1.0; κ''' = κs.1.1.1.0; q' = qs.1.0; q'' = qs.1.1.0; q''' = qs.1.1.1.0; run = a.1.0; load = a.1.1.0; set = a.1.1.1.0 }) a.1.1.1.1
      are.0.0.1 are.1.0.0.1 are.1.1.0.0.1 are.1.1.1.0.0.1 (facts-up 4 κs As a.1.1.1.1 are.1.1.1.1))))

  meets : Meets 𝓛 (signature 𝓢 As Ls) (WpFn 𝓤 H 𝓣.C 𝓣.Λ code) (closing 𝓛 en cl)
  meets = walk_Meets 𝓛 en st
      (Goes-slice 𝓛 4 0 tt (plain (λ _. row 𝓢.R)), (Goes-gave_slice 𝓛 4 1 tt (plain (λ _. UInt 𝓢.N)), (Goes-none_slice 𝓛 4 (2 ∷ []) tt (plain (λ _. UInt 𝓢.N')) yes, (Goes-none_slice 𝓛 4 (3 ∷ []) tt (plain (λ _. UInt 𝓢.N'')) yes, goes 4 𝓛 As))))
      cl (WpFn 𝓤 H 𝓣.C 𝓣.Λ code) (WpFn-mono 𝓤 H 𝓛.laws 𝓣 code) walks

-- what a function's proof cites
pub straight-runs : (𝓢 : Shape) (As Ls : List Datum) (p : Code 𝓢 As Ls) (Done : List 𝓢.R.D → List ℕ → List ℕ → List ℕ → Dens As → List 𝓢.R.D → List ℕ → 𝓢.An.D → Type 0) → Shows 𝓢 As Ls p Done
    → {M : Type 1} {𝓤 : Ura M} (𝓛 : Logic 𝓤) (𝓜 : Model 𝓤 𝓛.H) (𝓡 : Running 𝓤 𝓛.H 𝓜) (γ : Routines) (k : Callee) → Closed 𝓤 𝓛.H (tables 𝓤 𝓛.H 𝓜 𝓡 γ).C (tables 𝓤 𝓛.H 𝓜 𝓡 γ).Λ k (function 𝓢 As Ls p)
    → Cites 𝓢 true (As ++ Ls) 𝓛 𝓜 𝓡 γ (count As) 0 true p
    → Meets 𝓛 (signature 𝓢 As Ls) (𝓡.run (γ k)) (closing 𝓛 (ended 𝓢 As Ls) (clauses 𝓢 As Ls Done 𝓤))
unfolding tables_of
straight-runs 𝓢 As Ls p Done shown {𝓤 = 𝓤} 𝓛 𝓜 𝓡 γ k closed ks =
    entered 𝓤 𝓛.H (triple_of 𝓛 (signature 𝓢 As Ls) (closing 𝓛 (ended 𝓢 As Ls) (clauses 𝓢 As Ls Done 𝓤))) (tables 𝓤 𝓛.H 𝓜 𝓡 γ).C (tables 𝓤 𝓛.H 𝓜 𝓡 γ).Λ k (function 𝓢 As Ls p) closed
    (meets 𝓢 As Ls p Done shown 𝓛 (tables_of 𝓤 𝓛.H 𝓜 (tables 𝓤 𝓛.H 𝓜 𝓡 γ)) (meeting 𝓢 true (As ++ Ls) 𝓛 𝓜 𝓡 γ (count As) 0 true p ks))
