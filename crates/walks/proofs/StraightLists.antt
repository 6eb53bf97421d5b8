-- A function over the list alone whose statements are straight (`Straight.antt`): what its proof cites, `straight`.
--     fn f(list: &mut [R], a: A, ..) -> An { S; ..; S; answer(x, ..) }        or with no result
-- Assumes `Logic`, and that the callees meet their contracts.
use mathlib.Core.Path.{◌≡◌, refl, sym, ap, subst}
use mathlib.Core.Bool.{false}
use Prim.Native.Nat.{ℕ}
use mathlib.Core.List.{[], ◌∷◌, ◌++◌, List}
use lib.ListN.{length}
use seplogic.Ra.Ura.{Ura}
use mir.Syntax.{Callee, Fn, ty_unit, local, value_local}
use mir.Val.{Val}
use base.Logic.{SProp, ent}
use base.Fml.{Lft, Share, GName, ftrue, flft, fobs, fbor}
use prog.Routine.{Env as Routines}
use prog.Model.{Model}
use contract.Running.{Running, tables, tables_of}
use prog.Wp.{WpFn, Closed, Tables}
use types.Logic.{Logic}
use contract.Monad.{fact}
use contract.Lifetimes.{Lfts}
use types.Kit.{‵, ◌⊛◌, ⋆, ◌$◌, ◌∵◌, !, qed, move, keep, drop, use0, split, join, fsplit, fjoin, suffices, frame, done}
use types.Run.{init, enter, alloc1, params1, pass1}
use sound.WpLaws.{WpFn-mono}
use denote.RattleType.{Denots, owns}
use denote.Shadow.{pure_i}
use denote.Laws.{Is, valss}
use denote.Ref.{Bor, MutBor}
use denote.Slice.{slice_val, Room, heres, coded_holeys, mut_slice_at, mut_slice_vals, mut_slice_Tells}
use denote.Lend.{Held}
use denote.Index.{opens_slice}
use denote.Steps.{owned, nothing}
use denote.Exit.{yes}
use denote.Signature.{Signature, plain, mut_slice, types_at}
use mir.Syntax.{named}
use denote.Triple.Entry.{Args, on_entry}
use denote.Triple.Spec.{Meets, triple_of}
use denote.Triple.Table.{entered}
use denote.Triple.Clauses.{Ended, Clauses, closing}
use denote.Triple.Walked.{says, Stays, stay_slice, walk_of, has_of, Goes-slice, Walks, ends_at, walked, walk_Meets}
use Rattle.walks.proofs.Args.{Datum, row, Dens, Facts, vals_of, slots, kepts, stays, goes, up, spells, tellss, facts-up, flat_up, lastly, fit, had, locals_of, past, alloc-args}
use Rattle.walks.proofs.Held.{count, start, sound-start, pass-hold}
use Rattle.walks.proofs.Lent.{word, may, may_env, alloc-may, pair_locals, pair_env, alloc-pairs}
use Rattle.walks.proofs.Straight.{Ask, Asked, asked, take-it, Shape, slice, Lend, Prog, compile, Chain, Meeting, run_owns, goes_on, Cites, meeting}

-- the shape, the plain parameters As, and the types Ls of the lets
module _ (𝓢 : Shape) (As Ls : List Datum) where
  abbrev pub signature : Signature
  signature = record { lifetimes = 1; outlives = []; params = mut_slice 0 tt (λ _. row 𝓢.R) ∷ slots 1 As; result = plain (λ _. row 𝓢.An) }

  abbrev pub ended : Ended
  ended = record { signature = signature; kept = (yes, kepts 1 As) }

  abbrev stayed : Stays ended.signature.params ended.kept
  stayed = (stay_slice (0 ∷ []) tt (plain (λ _. row 𝓢.R)), stays 1 As)

  -- the statements, from the parameters on
  abbrev pub Code : Type 1
  Code = Prog 𝓢 false (As ++ Ls) (count As) 0 false

  abbrev pub function : Code → Fn
  function p = record {
    lifetimes = 1;
    outlives = [];
    ty_params = [];
    givens = 0;
    params = past As 1;
    locals = local 𝓢.An.ty value_local ∷ local (slice 𝓢.R) value_local ∷ (locals_of (As ++ Ls) ++ (may 𝓢.len word ++ (may 𝓢.unit ty_unit ++ pair_locals 𝓢.R 𝓢.N 𝓢.lends)));
    body = compile 𝓢 false (As ++ Ls) (count As) 0 false p;
  }

  -- `requires { ⌜ Needs .. ⌝ }    ensures { λ r. ⌜ Done (now list.entry) a .. (now list.exit) r ⌝ }`
  abbrev pub clauses : Ask (List 𝓢.R.D × Dens As) → (List 𝓢.R.D → Dens As → List 𝓢.R.D → 𝓢.An.D → Type 0) → {M : Type 1} (𝓤 : Ura M) → Clauses 𝓤 ended
  clauses a Done 𝓤 κs x = record { ghost = Unit {0}; requires = λ _. asked 𝓤 a (x.0.now, up 1 κs As x.1); ensures = λ _ r e. fact 𝓤 (Done x.0.now (up 1 κs As x.1) e.0.now r) }

  -- what is to be shown
  abbrev pub Shows : Code → Ask (List 𝓢.R.D × Dens As) → (List 𝓢.R.D → Dens As → List 𝓢.R.D → 𝓢.An.D → Type 0) → Type 0
  Shows p a Done = (ys : List 𝓢.R.D) (d : Dens As) → Asked a (ys, d) → Chain 𝓢 false (As ++ Ls) (length ys) [] [] (λ zs z r. Done ys d zs r) (count As) 0 false p (start As Ls d) ys []

module _ (𝓢 : Shape) (As Ls : List Datum) (p : Code 𝓢 As Ls) (ask : Ask (List 𝓢.R.D × Dens As)) (Done : List 𝓢.R.D → Dens As → List 𝓢.R.D → 𝓢.An.D → Type 0) (shown : Shows 𝓢 As Ls p ask Done)
    {M : Type 1} {𝓤 : Ura M} (𝓛 : Logic 𝓤) (𝓣 : Tables 𝓤 𝓛.H) (met : Meeting 𝓢 false (As ++ Ls) 𝓛 𝓣 (count As) 0 false p) where
  open 𝓛 use {H}

  abbrev cl : Clauses 𝓤 (ended 𝓢 As Ls)
  cl = clauses 𝓢 As Ls ask Done 𝓤

  abbrev code : Fn
  code = function 𝓢 As Ls p

  abbrev en : Ended
  en = ended 𝓢 As Ls

  abbrev st : Stays (ended 𝓢 As Ls).signature.params (ended 𝓢 As Ls).kept
  st = stayed 𝓢 As Ls

  module _ (κ : Lft) (q : Share) (b o : ℕ) (γ : GName) (ys : List 𝓢.R.D) (a : Denots (types_at (slots 1 As) (κ, tt))) where
    abbrev κs : Lfts 1
    κs = (κ, tt)

    abbrev x : List 𝓢.R.D → MutBor (List 𝓢.R.D)
    x l = record { ref_ptr = (b, o); ghost_name = γ; now = l }

    -- there are no runs
    abbrev no_run_lem : MutBor (List ℕ)
    no_run_lem = record { ref_ptr = (b, o); ghost_name = γ; now = [] }

    abbrev unread : Bor (List ℕ)
    unread = record { ref_ptr = (b, o); now = [] }

    abbrev no_runs : Lend
    no_runs = record { κ' = κ; κ'' = κ; κ''' = κ; q' = q; q'' = q; q''' = q; run = no_run_lem; load = unread; set = unread }

    abbrev all : Args (signature 𝓢 As Ls) κs
    all = (x ys, a)

    abbrev d : Dens As
    d = up 1 κs As a

    abbrev y : (walk_of 𝓛 en st cl).Ghost
    y = ((κs, (q, tt), tt, all, (slice_val (b, o) (length ys) ∷ [], valss (types_at (slots 1 As) κs) (spells 1 κs As) a)), tt)

    abbrev Post : Val → SProp 𝓤
    Post = (walk_of 𝓛 en st cl).post y

    module _ (room : Room (row 𝓢.R) (length ys)) (fs : Facts As d) (given : Asked ask (ys, d)) where
      exits : (l : List 𝓢.R.D) (z : List ℕ) (r : 𝓢.An.D) (w : Val) → length l ≡ length ys → length z ≡ 0 → Is (row 𝓢.An) r (w ∷ []) → Done ys d l r
          → ent 𝓤 (⋆ 𝓛 (‵ (run_owns 𝓢.N 𝓢.N' 𝓢.N'' false false no_runs z) ∷ ‵ (fobs γ ((coded_holeys (row 𝓢.R)).code (heres (row 𝓢.R) l))) ∷ ‵ (fbor κ (Held (row 𝓢.R) (length l) b o γ)) ∷ ‵ (flft κ q) ∷ [])) (Post w)
      exits l z r w same same' is dn =
          qed 𝓛 (‵ ftrue ∷ ‵ (fobs γ ((coded_holeys (row 𝓢.R)).code (heres (row 𝓢.R) l))) ∷ ‵ (fbor κ (Held (row 𝓢.R) (length l) b o γ)) ∷ ‵ (flft κ q) ∷ []) ∵ drop ! $
          suffices ! _ (ends_at 𝓛 en st cl y w r (l, lastly 1 κs As a) (same, fit 1 κs As a)) $ says ! dn $
          nothing ! $ move ! (3 ∷ 0 ∷ []) $ join ! $ frame ! $
          fjoin ! $ pure_i ! (mut_slice_at (row 𝓢.R) (x l) (slice_val (b, o) (length ys) ∷ [])) (tt, (tt, tt)) (ap (λ (m : ℕ). slice_val (b, o) m ∷ []) (sym same), subst (Room (row 𝓢.R)) (sym same) room) $ fjoin ! $
          use0 𝓛 (‵ (has_of κs (slots 1 As) (kepts 1 As) (stays 1 As) a (lastly 1 κs As a) (valss (types_at (slots 1 As) κs) (spells 1 κs As) a))) (had 1 κs 𝓛 As a fs) $ move ! (1 ∷ 0 ∷ []) $ fjoin ! $
          owned ! (row 𝓢.An) (Is (row 𝓢.An)) (𝓢.An.makes 𝓛) r _ is $ move ! (1 ∷ 0 ∷ []) $ done !

      walk : ent 𝓤 (on_entry 𝓛 (signature 𝓢 As Ls) κs (q, tt) all y.0.4) (WpFn 𝓤 H 𝓣.C 𝓣.Λ code (slice_val (b, o) (length ys) ∷ vals_of As d) Post)
      walk =
          qed 𝓛 ((‵ (flft κ q) ⊛ ‵ ftrue) ∷ ‵ (owns (types_at (signature 𝓢 As Ls).params κs) all y.0.4) ∷ []) ∵ enter ! 𝓣.C 𝓣.Λ code (slice_val (b, o) (length ys) ∷ vals_of As d) _ $
          alloc1 ! (λ l₀. alloc1 ! (λ l₁. alloc-args ! (As ++ Ls) (λ bs. alloc-may ! 𝓢.len word (λ w. alloc-may ! 𝓢.unit ty_unit (λ u. alloc-pairs 𝓢.R 𝓢.N ! 𝓢.lends (λ ps. params1 ! $
          -- [what is lent; (); the count; the plain ones; list; …; the result; …; the token; what is owned]
          pass1 ! (init ! 4 refl (tt, (tt, (record { fits = room.0 }, tt)))) $ move ! (3 ∷ []) $ pass-hold ! As Ls bs d fs (may_env 𝓢.len word w ++ (may_env 𝓢.unit ty_unit u ++ pair_env 𝓢.R 𝓢.N 𝓢.lends ps)) $
          -- the borrow is opened
          move ! (9 ∷ []) $ fsplit ! $ fsplit ! $ drop ! $ fsplit ! $ move ! (11 ∷ []) $ split ! $ move ! (2 ∷ 3 ∷ 0 ∷ []) $ opens_slice ! tt (row 𝓢.R) ys b o $
          nothing ! $ keep ! (1 ∷ 2 ∷ 3 ∷ 4 ∷ 7 ∷ 8 ∷ 10 ∷ 9 ∷ 11 ∷ 12 ∷ 13 ∷ 14 ∷ 0 ∷ 5 ∷ []) $
          goes_on 𝓢 false (As ++ Ls) 𝓛 𝓣 κ q b o γ ys room no_runs (λ no. absurd no) Post (λ zs z r. Done ys d zs r) exits l₀ l₁ (0, 0, 0) bs w u ps ! (count As) 0 false p (start As Ls d) ys [] refl refl (λ no. absurd no) (sound-start As Ls d fs) met (shown ys d given)))))))

  walks : Walks 𝓛 en st (WpFn 𝓤 H 𝓣.C 𝓣.Λ code) cl
  walks = walked 𝓛 en st cl (WpFn 𝓤 H 𝓣.C 𝓣.Λ code)
      (λ κs. (mut_slice_vals, spells 1 κs As)) (λ κs. (mut_slice_Tells (named 0) κs.0 (row 𝓢.R), tellss 1 κs As))
      (λ κs qs bounds a g are. take-it 𝓤 ask (a.0.now, up 1 κs As a.1) _ _ (λ given. subst (λ (vs : List Val). ent 𝓤 (on_entry 𝓛 (signature 𝓢 As Ls) κs qs a (mut_slice_vals a.0, valss (types_at (slots 1 As) κs) (spells 1 κs As) a.1))
      (WpFn 𝓤 H 𝓣.C 𝓣.Λ code (slice_val a.0.ref_ptr (length a.0.now) ∷ vs)
      ((walk_of 𝓛 en st cl).post ((κs, qs, bounds, a, (mut_slice_vals a.0, valss (types_at (slots 1 As) κs) (spells 1 κs As) a.1)), g)))) (sym (flat_up 1 κs As a.1))
      (walk κs.0 qs.0 a.0.ref_ptr.0 a.0.ref_ptr.1 a.0.ghost_name a.0.now a.1 are.0.0.1 (facts-up 1 κs As a.1 are.1) given)))

  meets : Meets 𝓛 (signature 𝓢 As Ls) (WpFn 𝓤 H 𝓣.C 𝓣.Λ code) (closing 𝓛 en cl)
  meets = walk_Meets 𝓛 en st (Goes-slice 𝓛 1 0 tt (plain (λ _. row 𝓢.R)), goes 1 𝓛 As) cl (WpFn 𝓤 H 𝓣.C 𝓣.Λ code) (WpFn-mono 𝓤 H 𝓛.laws 𝓣 code) walks

-- what a function's proof cites
pub straight : (𝓢 : Shape) (As Ls : List Datum) (p : Code 𝓢 As Ls) (ask : Ask (List 𝓢.R.D × Dens As)) (Done : List 𝓢.R.D → Dens As → List 𝓢.R.D → 𝓢.An.D → Type 0) → Shows 𝓢 As Ls p ask Done
    → {M : Type 1} {𝓤 : Ura M} (𝓛 : Logic 𝓤) (𝓜 : Model 𝓤 𝓛.H) (𝓡 : Running 𝓤 𝓛.H 𝓜) (γ : Routines) (k : Callee) → Closed 𝓤 𝓛.H (tables 𝓤 𝓛.H 𝓜 𝓡 γ).C (tables 𝓤 𝓛.H 𝓜 𝓡 γ).Λ k (function 𝓢 As Ls p)
    → Cites 𝓢 false (As ++ Ls) 𝓛 𝓜 𝓡 γ (count As) 0 false p
    → Meets 𝓛 (signature 𝓢 As Ls) (𝓡.run (γ k)) (closing 𝓛 (ended 𝓢 As Ls) (clauses 𝓢 As Ls ask Done 𝓤))
unfolding tables_of
straight 𝓢 As Ls p ask Done shown {𝓤 = 𝓤} 𝓛 𝓜 𝓡 γ k closed ks =
    entered 𝓤 𝓛.H (triple_of 𝓛 (signature 𝓢 As Ls) (closing 𝓛 (ended 𝓢 As Ls) (clauses 𝓢 As Ls ask Done 𝓤))) (tables 𝓤 𝓛.H 𝓜 𝓡 γ).C (tables 𝓤 𝓛.H 𝓜 𝓡 γ).Λ k (function 𝓢 As Ls p) closed
    (meets 𝓢 As Ls p ask Done shown 𝓛 (tables_of 𝓤 𝓛.H 𝓜 (tables 𝓤 𝓛.H 𝓜 𝓡 γ)) (meeting 𝓢 false (As ++ Ls) 𝓛 𝓜 𝓡 γ (count As) 0 false p ks))
