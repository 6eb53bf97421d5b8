-- Every function of the form
--     fn f(list: &mut [Record], run: &mut [uN], load: &[uM], b: B, .., s: S, c: C, ..) -> Answer
--     { let plan = plan_f(load, list.len(), run.len(), b, .., s, c, ..); copy_f(run, load, plan); record(list, plan); answer(plan, s) }
-- where `plan_f` is a function of the load and plain data that ensures `Planned load room run_room b .. s c .. plan`, from which it follows that the plan fits and that `copy_f` may be called, and where `copy_f` ensures that the run is `copied load plan run`: its MIR (`function`) meets every contract that follows from that, from the plan's commands being written and from the plan's answer being returned. N and M are any widths; B, .., S, C, .. are any types of plain data (`Args.antt`'s `Datum`).
-- Assumes `Logic`, and that the four callees meet their contracts.
use mathlib.Core.Path.{◌≡◌, refl, sym, ap, subst}
use Prim.Native.Nat.{ℕ, suc}
use mathlib.Core.List.{[], ◌∷◌, ◌++◌, List}
use lib.ListN.{length}
use seplogic.Ra.Ura.{Ura}
use mir.Syntax.{Callee, Fn, Ty, named, erased, mut, imm, ty_unit, w64, ty_int, Width, ty_ref, place, field, deref, copy, local, value_local, seq, assign, call, return, rv_opd, addr_of, aggregate}
use mir.Val.{Val, vint}
use base.Logic.{SProp, ent, emp, via, fst∗, id⊢}
use base.Fml.{Lft, Share, GName, ftrue, flft}
use prog.Routine.{Routine, Env as Routines}
use prog.Model.{Model}
use contract.Running.{Running, tables, tables_of}
use prog.Wp.{WpFn, Closed, Tables}
use types.Logic.{Logic}
use contract.Monad.{fact, fact_i}
use contract.Lifetimes.{Lfts}
use types.Kit.{‵, raw, ◌⊛◌, ⋆, ◌$◌, ◌∵◌, !, qed, by, move, drop, use0, use1, split, join, fsplit, fjoin, suffices, done}
use types.Run.{look, init, store, forget, stop, hop, fld, from, load, addr, of_opd, and_then, no_more, assigns, land, returns, enter, alloc1, alloc0, params1, pass1, free1, free0}
use types.Part.{agg, whole, sub, look_in}
use sound.WpLaws.{fm_of, WpFn-mono}
use denote.RattleType.{Denots, owns}
use denote.Laws.{Is, valss}
use denote.Plain.{uint_row_laws, UInt, Nothing, uint_Makes, Nothing-Lawful}
use denote.Builtin.{usize}
use denote.Ref.{Bor, MutBor}
use denote.Slice.{slice_ty, slice_val, ShrSlice, Room, shr_slice_vals, mut_slice_vals, mut_slice_Tells, shr_slice_Tells, shr_slice_copy}
use denote.Steps.{owned, nothing}
use denote.Exit.{yes}
use denote.Signature.{Signature, plain, mut_slice, shr_slice, types_at}
use denote.Triple.Entry.{Args, on_entry}
use denote.Triple.Spec.{Meets, triple_of}
use denote.Triple.Statement.{Contract, Triple}
use denote.Triple.Table.{entered, cited}
use denote.Triple.Clauses.{Ended, Clauses, closing}
use denote.Triple.Walked.{Stays, gave_slice, stay_none_slice, walk_of, has_of, Goes-gave_slice, Goes-none_slice, Walks, ends_at, walked, walk_Meets}
use Rattle.walks.proofs.Args.{Datum, row, Dens, Facts, vals_of, slots, kepts, stays, goes, up, down, vdown, spells, tellss, facts-up, are-down, flat_up, flat-down, lastly, fit, makess, had, locals_of, past, copies, Locals, spots-next, spots-here, past_is, from_at, alloc-args, pass-args, free-args, opds-args, picked-is, spot, opd-args}
use Rattle.walks.proofs.Calls.{gave, calls-plain, calls-list}
use Rattle.walks.proofs.Slices.{rend, bend, calls-reads, calls-both, recast}
use Rattle.walks.proofs.Reading.{word, slice, up-down}
use Rattle.walks.proofs.Recording as recording
use Rattle.walks.proofs.Recording.{Plans, Answers, parameters, given, Plan, Elem, R, P, written, Recorded, Fits, lent_ref, record_contract, answer_clauses, answer_contract}

abbrev pub run_slice : Width → Ty
run_slice w = slice_ty (ty_ref (named 1) mut (ty_int w))

abbrev pub load_slice : Width → Ty
load_slice w = slice_ty (ty_ref (named 2) imm (ty_int w))

abbrev pub lent_run : Width → Ty
lent_run w = ty_ref erased mut (ty_int w)

abbrev past4 : List Datum → ℕ → ℕ
past4 As j = suc (suc (suc (suc (past As j))))

-- ---- the callee that writes the run: `requires { ⌜ Copies (now load) plan (length (now run)) ⌝ }    ensures { λ _. ⌜ now run.exit ≡ copied (now load.entry) plan (now run.entry) ⌝ }`
module _ (𝓟 : Plans) (N N' : Width) where
  abbrev pub copy_ended : Ended
  copy_ended = bend (UInt N) (UInt N') (plain (λ _. P 𝓟) ∷ []) (plain (λ _. Nothing)) (yes, tt)

  module _ (Copies : List ℕ → Plan 𝓟 → ℕ → Type 0) (copied : List ℕ → Plan 𝓟 → List ℕ → List ℕ) {M : Type 1} (𝓤 : Ura M) where
    abbrev pub copy_clauses : Clauses 𝓤 copy_ended
    copy_clauses κs a = record { ghost = Unit {0}; requires = λ _. fact 𝓤 (Copies a.1.0.now a.1.1.0 (length a.0.now)); ensures = λ _ r e. fact 𝓤 (e.0.now ≡ copied a.1.0.now a.1.1.0 a.0.now) }

    abbrev pub copy_contract : (𝓛 : Logic 𝓤) → Contract 𝓤
    copy_contract 𝓛 = triple_of 𝓛 copy_ended.signature (closing 𝓛 copy_ended copy_clauses)

module _ (𝓟 : Plans) (N N' : Width) (As : List Datum) where
  -- the callee that makes the plan
  abbrev pub plan_ended : Ended
  plan_ended = rend (UInt N') (plain (λ _. usize) ∷ plain (λ _. usize) ∷ slots 1 As) (plain (λ _. P 𝓟)) (yes, (yes, kepts 1 As))

  abbrev pub plan_signature : Signature
  plan_signature = plan_ended.signature

  -- `ensures { λ r. ⌜ Planned (now load.entry) room run_room b .. s c .. r ⌝ }`
  abbrev pub plan_clauses : {M : Type 1} (𝓤 : Ura M) → (List ℕ → ℕ → ℕ → Dens As → Plan 𝓟 → Type 0) → Clauses 𝓤 plan_ended
  plan_clauses 𝓤 Planned κs a = record { ghost = Unit {0}; requires = λ _. emp 𝓤; ensures = λ _ r e. fact 𝓤 (Planned a.0.now a.1.0 a.1.1.0 (up 1 κs As a.1.1.1) r) }

module _ (𝓟 : Plans) (𝓐 : Answers 𝓟.Pl) (N N' : Width) (As : List Datum) where
  abbrev pub signature : Signature
  signature = record { lifetimes = 3; outlives = []; params = mut_slice 0 tt (λ _. R 𝓟) ∷ mut_slice 1 tt (λ _. UInt N) ∷ shr_slice 2 tt (λ _. UInt N') ∷ slots 3 As; result = plain (λ _. row 𝓐.An) }

  abbrev pub ended : Ended
  ended = record { signature = signature; kept = (yes, (yes, (yes, kepts 3 As))) }

  abbrev stayed : Stays ended.signature.params ended.kept
  stayed = (gave_slice (0 ∷ []) tt (plain (λ _. R 𝓟)), (gave_slice (1 ∷ []) tt (plain (λ _. UInt N)), (stay_none_slice (2 ∷ []) tt (plain (λ _. UInt N')) yes, stays 3 As)))

  -- `ensures { λ r. ⌜ Done (now list.entry) (now run.entry) (now load.entry) b .. s c .. (now list.exit) (now run.exit) r ⌝ }`
  abbrev pub clauses : {M : Type 1} (𝓤 : Ura M) → (List (Elem 𝓟) → List ℕ → List ℕ → Dens As → List (Elem 𝓟) → List ℕ → 𝓐.An.D → Type 0) → Clauses 𝓤 ended
  clauses 𝓤 Done κs a = record { ghost = Unit {0}; requires = λ _. emp 𝓤; ensures = λ _ r e. fact 𝓤 (Done a.0.now a.1.0.now a.1.1.0.now (up 3 κs As a.1.1.1) e.0.now e.1.0.now r) }

module _ (𝓟 : Plans) (𝓐 : Answers 𝓟.Pl) (N N' : Width) (Bs Cs : List Datum) where
  -- the types of the plain parameters
  abbrev As : List Datum
  As = parameters 𝓐 Bs Cs

  -- the locals: the result, list, run, load, the others, the plan, the two counts, (), what is lent to `copy_f`, and what is lent to `record`
  abbrev pub function : Callee → Callee → Callee → Callee → Fn
  function f copier recorder answer = record {
    lifetimes = 3;
    outlives = [];
    ty_params = [];
    givens = 0;
    params = past As 3;
    locals = local 𝓐.An.ty value_local ∷ local (slice 𝓟) value_local ∷ local (run_slice N) value_local ∷ local (load_slice N') value_local ∷ (locals_of As ++ (local 𝓟.Pl.ty value_local ∷ local word value_local ∷ local word value_local ∷ local ty_unit value_local
        ∷ local (lent_run N) value_local ∷ local (slice_ty (lent_run N)) value_local ∷ local (lent_ref 𝓟) value_local ∷ local (slice_ty (lent_ref 𝓟)) value_local ∷ []));
    body = seq (assign (place (past4 As 1) []) (rv_opd (copy (place 1 (field 1 ∷ [])))))
        (seq (assign (place (past4 As 2) []) (rv_opd (copy (place 2 (field 1 ∷ [])))))
        (seq (call f (copy (place 3 []) ∷ copy (place (past4 As 1) []) ∷ copy (place (past4 As 2) []) ∷ copies 4 As) (place (past4 As 0) []))
        (seq (assign (place (past4 As 4) []) (addr_of (place 2 (field 0 ∷ deref (ty_int N) ∷ []))))
        (seq (assign (place (past4 As 5) []) (aggregate (copy (place (past4 As 4) []) ∷ copy (place 2 (field 1 ∷ [])) ∷ [])))
        (seq (call copier (copy (place (past4 As 5) []) ∷ copy (place 3 []) ∷ copy (place (past4 As 0) []) ∷ []) (place (past4 As 3) []))
        (seq (assign (place (past4 As 6) []) (addr_of (place 1 (field 0 ∷ deref 𝓟.kinds.R.ty ∷ []))))
        (seq (assign (place (past4 As 7) []) (aggregate (copy (place (past4 As 6) []) ∷ copy (place 1 (field 1 ∷ [])) ∷ [])))
        (seq (call recorder (copy (place (past4 As 7) []) ∷ copy (place (past4 As 0) []) ∷ []) (place (past4 As 3) []))
        (seq (call answer (copy (place (past4 As 0) []) ∷ copy (place (spot 4 Bs) []) ∷ []) (place 0 [])) return)))))))));
  }

-- ---- what a contract says, and what it is to follow from
module _ (𝓟 : Plans) (𝓐 : Answers 𝓟.Pl) (Bs Cs : List Datum) where
  -- a plan that is right fits, and the run may be written
  abbrev pub Fitting : (List ℕ → ℕ → ℕ → Dens (parameters 𝓐 Bs Cs) → Plan 𝓟 → Type 0) → (List ℕ → Plan 𝓟 → ℕ → Type 0) → Type 0
  Fitting Planned Copies = (ls : List ℕ) (n n' : ℕ) (d : Dens (parameters 𝓐 Bs Cs)) (p : Plan 𝓟) → Planned ls n n' d p → Fits 𝓟 p n × Copies ls p n'

  -- and written it is the call
  abbrev pub Ending : (List ℕ → ℕ → ℕ → Dens (parameters 𝓐 Bs Cs) → Plan 𝓟 → Type 0) → (List ℕ → Plan 𝓟 → List ℕ → List ℕ) → (List (Elem 𝓟) → List ℕ → List ℕ → Dens (parameters 𝓐 Bs Cs) → List (Elem 𝓟) → List ℕ → 𝓐.An.D → Type 0) → Type 0
  Ending Planned copied Done =
      (ys : List (Elem 𝓟)) (bs ls : List ℕ) (d : Dens (parameters 𝓐 Bs Cs)) (zs : List (Elem 𝓟)) (bs' : List ℕ) (r : 𝓐.An.D) (p : Plan 𝓟)
      → Planned ls (length ys) (length bs) d p → Recorded 𝓟 𝓐 p (given 𝓐 Bs Cs d) ys zs r → bs' ≡ copied ls p bs → Done ys bs ls d zs bs' r

module _ (𝓟 : Plans) (𝓐 : Answers 𝓟.Pl) (N N' : Width) (Bs Cs : List Datum) (f copier recorder answer : Callee)
    (Planned : List ℕ → ℕ → ℕ → Dens (parameters 𝓐 Bs Cs) → Plan 𝓟 → Type 0)
    (Copies : List ℕ → Plan 𝓟 → ℕ → Type 0) (copied : List ℕ → Plan 𝓟 → List ℕ → List ℕ)
    (Done : List (Elem 𝓟) → List ℕ → List ℕ → Dens (parameters 𝓐 Bs Cs) → List (Elem 𝓟) → List ℕ → 𝓐.An.D → Type 0)
    (fits : Fitting 𝓟 𝓐 Bs Cs Planned Copies) (ends : Ending 𝓟 𝓐 Bs Cs Planned copied Done) {M : Type 1} {𝓤 : Ura M} (𝓛 : Logic 𝓤) (𝓣 : Tables 𝓤 𝓛.H)
    (known-plan : Triple 𝓤 (𝓣.C f) (triple_of 𝓛 (plan_signature 𝓟 N N' (parameters 𝓐 Bs Cs)) (closing 𝓛 (plan_ended 𝓟 N N' (parameters 𝓐 Bs Cs)) (plan_clauses 𝓟 N N' (parameters 𝓐 Bs Cs) 𝓤 Planned))))
    (known-copy : Triple 𝓤 (𝓣.C copier) (copy_contract 𝓟 N N' Copies copied 𝓤 𝓛))
    (known-record : Triple 𝓤 (𝓣.C recorder) (record_contract 𝓟 𝓤 𝓛)) (known-answer : Triple 𝓤 (𝓣.C answer) (answer_contract 𝓟.Pl 𝓐 𝓤 𝓛)) where
  -- the types of the plain parameters
  open 𝓛 use {H}

  abbrev Ps : List Datum
  Ps = parameters 𝓐 Bs Cs

  module _ (κ κ' κ'' : Lft) (q q' q'' : Share) (b o : ℕ) (γ : GName) (ys : List (Elem 𝓟)) (b' o' : ℕ) (γ' : GName) (ys' : List ℕ) (b'' o'' : ℕ) (ys'' : List ℕ) (a : Denots (types_at (slots 3 Ps) (κ, (κ', (κ'', tt))))) where
    abbrev κs : Lfts 3
    κs = (κ, (κ', (κ'', tt)))

    abbrev x : MutBor (List (Elem 𝓟))
    x = record { ref_ptr = (b, o); ghost_name = γ; now = ys }

    abbrev x' : MutBor (List ℕ)
    x' = record { ref_ptr = (b', o'); ghost_name = γ'; now = ys' }

    abbrev x'' : Bor (List ℕ)
    x'' = record { ref_ptr = (b'', o''); now = ys'' }

    abbrev s : Val
    s = slice_val (b, o) (length ys)

    abbrev s' : Val
    s' = slice_val (b', o') (length ys')

    abbrev s'' : Val
    s'' = slice_val (b'', o'') (length ys'')

    abbrev all : Args (signature 𝓟 𝓐 N N' Ps) κs
    all = (x, (x', (x'', a)))

    abbrev d : Dens Ps
    d = up 3 κs Ps a

    -- the state that it is given
    abbrev st : 𝓐.St.D
    st = given 𝓐 Bs Cs d

    abbrev n : ℕ
    n = length ys

    abbrev n' : ℕ
    n' = length ys'

    abbrev y : (walk_of 𝓛 (ended 𝓟 𝓐 N N' Ps) (stayed 𝓟 𝓐 N N' Ps) (clauses 𝓟 𝓐 N N' Ps 𝓤 Done)).Ghost
    y = ((κs, (q, (q', (q'', tt))), tt, all, (s ∷ [], (s' ∷ [], (s'' ∷ [], valss (types_at (slots 3 Ps) κs) (spells 3 κs Ps) a)))), tt)

    abbrev Post : Val → SProp 𝓤
    Post = (walk_of 𝓛 (ended 𝓟 𝓐 N N' Ps) (stayed 𝓟 𝓐 N N' Ps) (clauses 𝓟 𝓐 N N' Ps 𝓤 Done)).post y

    module _ (room : Room (R 𝓟) n) (room' : Room (UInt N) n') (room'' : Room (UInt N') (length ys'')) (fs : Facts Ps d) where
      exits : (r : 𝓐.An.D) (w : Val) (zs : List (Elem 𝓟)) (zs' : List ℕ) → Is (row 𝓐.An) r (w ∷ []) → length zs ≡ n → length zs' ≡ n' → (p : Plan 𝓟) → Planned ys'' n n' d p → Recorded 𝓟 𝓐 p st ys zs r → zs' ≡ copied ys'' p ys'
          → ent 𝓤 (⋆ 𝓛 (‵ (flft κ q) ∷ ‵ (gave (R 𝓟) κ x zs) ∷ ‵ (flft κ' q') ∷ ‵ (flft κ'' q'') ∷ ‵ (gave (UInt N) κ' x' zs') ∷ ‵ ((ShrSlice (named 2) κ'' (UInt N')).own_val x'' (s'' ∷ [])) ∷ [])) (Post w)
      exits r w zs zs' is l l' p h e e' =
          qed 𝓛 (‵ (flft κ q) ∷ ‵ (gave (R 𝓟) κ x zs) ∷ ‵ (flft κ' q') ∷ ‵ (flft κ'' q'') ∷ ‵ (gave (UInt N) κ' x' zs') ∷ ‵ ((ShrSlice (named 2) κ'' (UInt N')).own_val x'' (s'' ∷ [])) ∷ []) ∵
          suffices ! _ (ends_at 𝓛 (ended 𝓟 𝓐 N N' Ps) (stayed 𝓟 𝓐 N N' Ps) (clauses 𝓟 𝓐 N N' Ps 𝓤 Done) y w r (zs, (zs', (tt, lastly 3 κs Ps a))) (l, (l', (tt, fit 3 κs Ps a)))) $
          use0 𝓛 (raw (fact 𝓤 (Done ys ys' ys'' d zs zs' r))) (fact_i 𝓤 _ (emp 𝓤) (ends ys ys' ys'' d zs zs' r p h e e')) $
          -- [nothing; what is said; list's token; the last list; run's token; load's; the last run; load]
          nothing ! $ move ! (5 ∷ 0 ∷ []) $ join ! $ move ! (4 ∷ 0 ∷ []) $ join ! $ move ! (2 ∷ 0 ∷ []) $ join ! $
          use0 𝓛 (‵ (has_of κs (slots 3 Ps) (kepts 3 Ps) (stays 3 Ps) a (lastly 3 κs Ps a) (valss (types_at (slots 3 Ps) κs) (spells 3 κs Ps) a))) (had 3 κs 𝓛 Ps a fs) $
          move ! (5 ∷ 0 ∷ []) $ fjoin ! $ move ! (4 ∷ 0 ∷ []) $ fjoin ! $ move ! (3 ∷ 0 ∷ []) $ fjoin ! $
          owned ! (row 𝓐.An) (Is (row 𝓐.An)) (𝓐.An.makes 𝓛) r _ is $ move ! (1 ∷ 0 ∷ []) $ join ! $ move ! (1 ∷ 0 ∷ []) $ join ! $ done !

      walk : ent 𝓤 (on_entry 𝓛 (signature 𝓟 𝓐 N N' Ps) κs (q, (q', (q'', tt))) all y.0.4) (WpFn 𝓤 H 𝓣.C 𝓣.Λ (function 𝓟 𝓐 N N' Bs Cs f copier recorder answer) (s ∷ s' ∷ s'' ∷ vals_of Ps d) Post)
      walk =
          qed 𝓛 ((‵ (flft κ q) ⊛ (‵ (flft κ' q') ⊛ (‵ (flft κ'' q'') ⊛ ‵ ftrue))) ∷ ‵ (owns (types_at (signature 𝓟 𝓐 N N' Ps).params κs) all y.0.4) ∷ []) ∵ enter ! 𝓣.C 𝓣.Λ (function 𝓟 𝓐 N N' Bs Cs f copier recorder answer) (s ∷ s' ∷ s'' ∷ vals_of Ps d) _ $
          alloc1 ! (λ l₀. alloc1 ! (λ l₁. alloc1 ! (λ l₂. alloc1 ! (λ l₃. alloc-args ! Ps (λ bs. alloc1 ! (λ m₀. alloc1 ! (λ m₁. alloc1 ! (λ m₂. alloc1 ! (λ m₃. alloc1 ! (λ m₄. alloc1 ! (λ m₅. alloc1 ! (λ m₆. alloc1 ! (λ m₇. alloc0 ! $ params1 ! $
          let tail : Locals = (𝓟.Pl.ty, m₀) ∷ (word, m₁) ∷ (word, m₂) ∷ (ty_unit, m₃) ∷ (lent_run N, m₄) ∷ (slice_ty (lent_run N), m₅) ∷ (lent_ref 𝓟, m₆) ∷ (slice_ty (lent_ref 𝓟), m₇) ∷ [] in
          let spots = spots-next Ps bs _ 3 (𝓐.An.ty, l₀) (spots-next Ps bs _ 2 (slice 𝓟, l₁) (spots-next Ps bs _ 1 (run_slice N, l₂) (spots-next Ps bs _ 0 (load_slice N', l₃) (spots-here Ps bs tail)))) in
          pass1 ! (init ! 21 refl (tt, (tt, (record { fits = room.0 }, tt)))) $ pass1 ! (init ! 19 refl (tt, (tt, (record { fits = room'.0 }, tt)))) $ pass1 ! (init ! 17 refl (tt, (tt, (record { fits = room''.0 }, tt)))) $ move ! (16 ∷ []) $ pass-args ! Ps bs d fs tail $
          -- [the others; m₇; …; .. m₀; …; load; …; run; …; list; …; the result; …; the tokens; what is owned]
          assigns ! (of_opd ! (load ! (from ! (fld ! refl (stop !))) (look_in ! 21 (sub ! 1 refl (whole !))))) (from_at ! (past_is Ps bs tail 1) (stop !)) (init ! 13 refl (tt, record { fits = room.0 })) $
          assigns ! (of_opd ! (load ! (from ! (fld ! refl (stop !))) (look_in ! 19 (sub ! 1 refl (whole !))))) (from_at ! (past_is Ps bs tail 2) (stop !)) (init ! 11 refl (tt, record { fits = room'.0 })) $
          -- what list, run and load own is taken out, load's three times, with the three tokens
          move ! (26 ∷ []) $ fsplit ! $ move ! (1 ∷ []) $ fsplit ! $ move ! (1 ∷ []) $ fsplit ! $ move ! (1 ∷ []) $ drop ! $
          use1 𝓛 (‵ ((ShrSlice (named 2) κ'' (UInt N')).own_val x'' (s'' ∷ [])) ⊛ ‵ ((ShrSlice (named 2) κ'' (UInt N')).own_val x'' (s'' ∷ []))) ((shr_slice_copy 𝓛 (named 2) κ'' (UInt N') (uint_row_laws N')).twice x'' (s'' ∷ [])) $ split ! $
          use1 𝓛 (‵ ((ShrSlice (named 2) κ'' (UInt N')).own_val x'' (s'' ∷ [])) ⊛ ‵ ((ShrSlice (named 2) κ'' (UInt N')).own_val x'' (s'' ∷ []))) ((shr_slice_copy 𝓛 (named 2) κ'' (UInt N') (uint_row_laws N')).twice x'' (s'' ∷ [])) $ split ! $
          move ! (30 ∷ []) $ split ! $ move ! (1 ∷ []) $ split ! $ move ! (1 ∷ []) $ split ! $ move ! (1 ∷ []) $ drop ! $ move ! (0 ∷ 3 ∷ []) $
          -- [load's token; load; run's token; list's; load; load; run; list; the others; m₇; …; .. m₀; …; load; …; run; …; list; …; the result; …]
          calls-reads ! (fm_of 𝓤 H 𝓛.laws 𝓣) (UInt N') (plain (λ _. usize) ∷ plain (λ _. usize) ∷ slots 1 Ps) (plain (λ _. P 𝓟)) (yes, (yes, kepts 1 Ps)) (plan_clauses 𝓟 N N' Ps 𝓤 Planned) known-plan κ'' q''
          (uint_Makes 𝓛 w64, (uint_Makes 𝓛 w64, makess 1 (κ'', tt) 𝓛 Ps)) (named 2) x'' s'' (n, (n', down 1 (κ'', tt) Ps d)) (vint w64 n ∷ [], (vint w64 n' ∷ [], vdown 1 (κ'', tt) Ps d)) ((refl, room.0), ((refl, room'.0), are-down 1 (κ'', tt) Ps d fs)) tt (id⊢ 𝓤 (emp 𝓤))
          (Planned ys'' n n' (up 1 (κ'', tt) Ps (down 1 (κ'', tt) Ps d))) (λ r ws. id⊢ 𝓤 _)
          (recast (ap (λ (vs : List Val). s'' ∷ vint w64 n ∷ vint w64 n' ∷ vs) (sym (flat-down 1 (κ'', tt) Ps d))) (and_then ! (load ! (from ! (stop !)) (look ! 24 refl)) (and_then ! (load ! (from_at ! (past_is Ps bs tail 1) (stop !)) (look ! 20 refl)) (and_then ! (load ! (from_at ! (past_is Ps bs tail 2) (stop !)) (look ! 18 refl)) (opds-args ! 7 Ps bs d 4 refl spots))))) (λ p v is e.
          let h : Planned ys'' n n' d p = subst (λ (k : Dens Ps). Planned ys'' n n' k p) (up-down κ'' Ps d) e in
          land ! (from_at ! (past_is Ps bs tail 0) (stop !)) (init ! 22 refl (𝓟.Pl.typed 𝓛 p _ is)) $
          assigns ! (addr ! (from ! (fld ! refl (hop ! (look_in ! 26 (sub ! 0 refl (whole !))) (stop !))))) (from_at ! (past_is Ps bs tail 4) (stop !)) (init ! 14 refl (tt, tt)) $
          assigns ! (agg ! (and_then ! (load ! (from_at ! (past_is Ps bs tail 4) (stop !)) (look ! 14 refl)) (and_then ! (load ! (from ! (fld ! refl (stop !))) (look_in ! 26 (sub ! 1 refl (whole !)))) (no_more !)))) (from_at ! (past_is Ps bs tail 5) (stop !)) (init ! 12 refl (tt, (tt, (record { fits = room'.0 }, tt)))) $
          move ! (1 ∷ 0 ∷ 5 ∷ 3 ∷ []) $
          -- [run's token; load's; run; load; list's token; load; list; the others; m₇; …]
          calls-both ! (fm_of 𝓤 H 𝓛.laws 𝓣) (UInt N) (UInt N') (plain (λ _. P 𝓟) ∷ []) (plain (λ _. Nothing)) (yes, tt) (copy_clauses 𝓟 N N' Copies copied 𝓤) known-copy κ' κ'' q' q''
          (𝓟.Pl.makes 𝓛, tt) (named 1) (named 2) x' s' x'' s'' (p, tt) (v ∷ [], tt) (is, tt) tt (fact_i 𝓤 _ (emp 𝓤) (fits ys'' n n' d p h).1) (λ _ zs'. zs' ≡ copied ys'' p ys') (λ r ws. id⊢ 𝓤 _)
          (and_then ! (load ! (from_at ! (past_is Ps bs tail 5) (stop !)) (look ! 9 refl)) (and_then ! (load ! (from ! (stop !)) (look ! 21 refl)) (and_then ! (load ! (from_at ! (past_is Ps bs tail 0) (stop !)) (look ! 19 refl)) (no_more !)))) (λ r₀ w₀ zs' is₀ l' e'.
          land ! (from_at ! (past_is Ps bs tail 3) (stop !)) (init ! 15 refl ((Nothing-Lawful 𝓛).typed r₀ _ is₀).0) $
          assigns ! (addr ! (from ! (fld ! refl (hop ! (look_in ! 27 (sub ! 0 refl (whole !))) (stop !))))) (from_at ! (past_is Ps bs tail 6) (stop !)) (init ! 9 refl (tt, tt)) $
          assigns ! (agg ! (and_then ! (load ! (from_at ! (past_is Ps bs tail 6) (stop !)) (look ! 9 refl)) (and_then ! (load ! (from ! (fld ! refl (stop !))) (look_in ! 27 (sub ! 1 refl (whole !)))) (no_more !)))) (from_at ! (past_is Ps bs tail 7) (stop !)) (init ! 7 refl (tt, (tt, (record { fits = room.0 }, tt)))) $
          move ! (3 ∷ 5 ∷ []) $
          calls-list ! (fm_of 𝓤 H 𝓛.laws 𝓣) (R 𝓟) (plain (λ _. P 𝓟) ∷ []) (plain (λ _. Nothing)) (yes, tt) (recording.clauses 𝓟 𝓤) known-record κ q
          (𝓟.Pl.makes 𝓛, tt) x s (p, tt) (v ∷ [], tt) (is, tt) tt (fact_i 𝓤 _ (emp 𝓤) (fits ys'' n n' d p h).0) (λ _ zs. zs ≡ written 𝓟 p ys) (λ r ws. id⊢ 𝓤 _)
          (and_then ! (load ! (from_at ! (past_is Ps bs tail 7) (stop !)) (look ! 6 refl)) (and_then ! (load ! (from_at ! (past_is Ps bs tail 0) (stop !)) (look ! 20 refl)) (no_more !))) (λ r₁ w₁ zs is₁ l e₁.
          land ! (from_at ! (past_is Ps bs tail 3) (stop !)) (store ! 15 refl ((Nothing-Lawful 𝓛).typed r₁ _ is₁).0) $
          calls-plain ! (fm_of 𝓤 H 𝓛.laws 𝓣) (plain (λ _. P 𝓟) ∷ plain (λ _. row 𝓐.St) ∷ []) (plain (λ _. row 𝓐.An)) (yes, (yes, tt)) (answer_clauses 𝓟.Pl 𝓐 𝓤) known-answer
          (𝓟.Pl.makes 𝓛, (𝓐.St.makes 𝓛, tt)) (p, (st, tt)) (v ∷ [], (𝓐.St.val st ∷ [], tt)) (is, (picked-is Bs 𝓐.St Cs d fs, tt)) tt (id⊢ 𝓤 (emp 𝓤)) (λ r. r ≡ 𝓐.answer p st) (λ r ws. id⊢ 𝓤 _)
          (and_then ! (load ! (from_at ! (past_is Ps bs tail 0) (stop !)) (look ! 22 refl)) (and_then ! (opd-args ! 7 Bs 𝓐.St Cs bs d 4 refl spots) (no_more !))) (λ r w is' e''.
          land ! (from ! (stop !)) (init ! 29 refl (𝓐.An.typed 𝓛 r _ is')) $
          returns ! (look ! 29 refl) $ forget ! 7 refl $ forget ! 9 refl $ forget ! 11 refl $ forget ! 13 refl $ forget ! 15 refl $ forget ! 17 refl $ forget ! 19 refl $ forget ! 21 refl $ forget ! 23 refl $ forget ! 25 refl $ forget ! 27 refl $ forget ! 29 refl $
          move ! (29 ∷ 30 ∷ []) $ free1 ! $ move ! (27 ∷ 28 ∷ []) $ free1 ! $ move ! (25 ∷ 26 ∷ []) $ free1 ! $ move ! (23 ∷ 24 ∷ []) $ free1 ! $ move ! (6 ∷ []) $ free-args ! Ps bs d $
          move ! (20 ∷ 21 ∷ []) $ free1 ! $ move ! (18 ∷ 19 ∷ []) $ free1 ! $ move ! (16 ∷ 17 ∷ []) $ free1 ! $ move ! (14 ∷ 15 ∷ []) $ free1 ! $ move ! (12 ∷ 13 ∷ []) $ free1 ! $ move ! (10 ∷ 11 ∷ []) $ free1 ! $ move ! (8 ∷ 9 ∷ []) $ free1 ! $ move ! (6 ∷ 7 ∷ []) $ free1 ! $ free0 ! $
          by ! (exits r w zs zs' is' l l' p h (e'', e₁) e'))))))))))))))))))

  walks : Walks 𝓛 (ended 𝓟 𝓐 N N' Ps) (stayed 𝓟 𝓐 N N' Ps) (WpFn 𝓤 H 𝓣.C 𝓣.Λ (function 𝓟 𝓐 N N' Bs Cs f copier recorder answer)) (clauses 𝓟 𝓐 N N' Ps 𝓤 Done)
  walks = walked 𝓛 (ended 𝓟 𝓐 N N' Ps) (stayed 𝓟 𝓐 N N' Ps) (clauses 𝓟 𝓐 N N' Ps 𝓤 Done) (WpFn 𝓤 H 𝓣.C 𝓣.Λ (function 𝓟 𝓐 N N' Bs Cs f copier recorder answer))
      (λ κs. (mut_slice_vals, (mut_slice_vals, (shr_slice_vals, spells 3 κs Ps)))) (λ κs. (mut_slice_Tells (named 0) κs.0 (R 𝓟), (mut_slice_Tells (named 1) κs.1.0 (UInt N), (shr_slice_Tells (named 2) κs.1.1.0 (UInt N'), tellss 3 κs Ps))))
      (λ κs qs bounds a g are. via 𝓤 _ (fst∗ 𝓤 _ (emp 𝓤)) (subst (λ (vs : List Val). ent 𝓤 (on_entry 𝓛 (signature 𝓟 𝓐 N N' Ps) κs qs a (mut_slice_vals a.0, (mut_slice_vals a.1.0, (shr_slice_vals a.1.1.0, valss (types_at (slots 3 Ps) κs) (spells 3 κs Ps) a.1.1.1))))
      (WpFn 𝓤 H 𝓣.C 𝓣.Λ (function 𝓟 𝓐 N N' Bs Cs f copier recorder answer) (slice_val a.0.ref_ptr (length a.0.now) ∷ slice_val a.1.0.ref_ptr (length a.1.0.now) ∷ slice_val a.1.1.0.ref_ptr (length a.1.1.0.now) ∷ vs)
      ((walk_of 𝓛 (ended 𝓟 𝓐 N N' Ps) (stayed 𝓟 𝓐 N N' Ps) (clauses 𝓟 𝓐 N N' Ps 𝓤 Done)).post ((κs, qs, bounds, a, (mut_slice_vals a.0, (mut_slice_vals a.1.0, (shr_slice_vals a.1.1.0, valss (types_at (slots 3 Ps) κs) (spells 3 κs Ps) a.1.1.1)))), g)))) (sym (flat_up 3 κs Ps a.1.1.1))
      (walk κs.0 κs.1.0 κs.1.1.0 qs.0 qs.1.0 qs.1.1.0 a.0.ref_ptr.0 a.0.ref_ptr.1 a.0.ghost_name a.0.now a.1.0.ref_ptr.0 a.1.0.ref_ptr.1 a.1.0.ghost_name a.1.0.now a.1.1.0.ref_ptr.0 a.1.1.0.ref_ptr.1 a.1.1.0.now a.1.1.1
      are.0.0.1 are.1.0.0.1 are.1.1.0.0.1 (facts-up 3 κs Ps a.1.1.1 are.1.1.1))))

  pub meets : Meets 𝓛 (signature 𝓟 𝓐 N N' Ps) (WpFn 𝓤 H 𝓣.C 𝓣.Λ (function 𝓟 𝓐 N N' Bs Cs f copier recorder answer)) (closing 𝓛 (ended 𝓟 𝓐 N N' Ps) (clauses 𝓟 𝓐 N N' Ps 𝓤 Done))
  meets = walk_Meets 𝓛 (ended 𝓟 𝓐 N N' Ps) (stayed 𝓟 𝓐 N N' Ps) (Goes-gave_slice 𝓛 3 0 tt (plain (λ _. R 𝓟)), (Goes-gave_slice 𝓛 3 1 tt (plain (λ _. UInt N)), (Goes-none_slice 𝓛 3 (2 ∷ []) tt (plain (λ _. UInt N')) yes, goes 3 𝓛 Ps))) (clauses 𝓟 𝓐 N N' Ps 𝓤 Done)
      (WpFn 𝓤 H 𝓣.C 𝓣.Λ (function 𝓟 𝓐 N N' Bs Cs f copier recorder answer)) (WpFn-mono 𝓤 H 𝓛.laws 𝓣 (function 𝓟 𝓐 N N' Bs Cs f copier recorder answer)) walks

-- what the proof of a call that also writes a run from a load cites
pub resolves : (𝓟 : Plans) (𝓐 : Answers 𝓟.Pl) (N N' : Width) (Bs Cs : List Datum) (Planned : List ℕ → ℕ → ℕ → Dens (parameters 𝓐 Bs Cs) → Plan 𝓟 → Type 0)
    (Copies : List ℕ → Plan 𝓟 → ℕ → Type 0) (copied : List ℕ → Plan 𝓟 → List ℕ → List ℕ)
    (Done : List (Elem 𝓟) → List ℕ → List ℕ → Dens (parameters 𝓐 Bs Cs) → List (Elem 𝓟) → List ℕ → 𝓐.An.D → Type 0)
    → Fitting 𝓟 𝓐 Bs Cs Planned Copies → Ending 𝓟 𝓐 Bs Cs Planned copied Done → {M : Type 1} {𝓤 : Ura M} (𝓛 : Logic 𝓤) (𝓜 : Model 𝓤 𝓛.H) (𝓡 : Running 𝓤 𝓛.H 𝓜) (γ : Routines) (k f copier recorder answer : Callee)
    → Closed 𝓤 𝓛.H (tables 𝓤 𝓛.H 𝓜 𝓡 γ).C (tables 𝓤 𝓛.H 𝓜 𝓡 γ).Λ k (function 𝓟 𝓐 N N' Bs Cs f copier recorder answer)
    → (r₀ : Routine) → γ f ≡ r₀ → Meets 𝓛 (plan_signature 𝓟 N N' (parameters 𝓐 Bs Cs)) (𝓡.run r₀) (closing 𝓛 (plan_ended 𝓟 N N' (parameters 𝓐 Bs Cs)) (plan_clauses 𝓟 N N' (parameters 𝓐 Bs Cs) 𝓤 Planned))
    → (r₁ : Routine) → γ copier ≡ r₁ → Triple 𝓤 (𝓡.run r₁) (copy_contract 𝓟 N N' Copies copied 𝓤 𝓛)
    → (r₂ : Routine) → γ recorder ≡ r₂ → Triple 𝓤 (𝓡.run r₂) (record_contract 𝓟 𝓤 𝓛) → (r₃ : Routine) → γ answer ≡ r₃ → Triple 𝓤 (𝓡.run r₃) (answer_contract 𝓟.Pl 𝓐 𝓤 𝓛)
    → Meets 𝓛 (signature 𝓟 𝓐 N N' (parameters 𝓐 Bs Cs)) (𝓡.run (γ k)) (closing 𝓛 (ended 𝓟 𝓐 N N' (parameters 𝓐 Bs Cs)) (clauses 𝓟 𝓐 N N' (parameters 𝓐 Bs Cs) 𝓤 Done))
unfolding tables_of
resolves 𝓟 𝓐 N N' Bs Cs Planned Copies copied Done fits ends {𝓤 = 𝓤} 𝓛 𝓜 𝓡 γ k f copier recorder answer closed r₀ c₀ t₀ r₁ c₁ t₁ r₂ c₂ t₂ r₃ c₃ t₃ =
    let As : List Datum = parameters 𝓐 Bs Cs in
    entered 𝓤 𝓛.H (triple_of 𝓛 (signature 𝓟 𝓐 N N' As) (closing 𝓛 (ended 𝓟 𝓐 N N' As) (clauses 𝓟 𝓐 N N' As 𝓤 Done))) (tables 𝓤 𝓛.H 𝓜 𝓡 γ).C (tables 𝓤 𝓛.H 𝓜 𝓡 γ).Λ k (function 𝓟 𝓐 N N' Bs Cs f copier recorder answer) closed
    (meets 𝓟 𝓐 N N' Bs Cs f copier recorder answer Planned Copies copied Done fits ends 𝓛 (tables_of 𝓤 𝓛.H 𝓜 (tables 𝓤 𝓛.H 𝓜 𝓡 γ))
    (cited 𝓤 𝓛.H (triple_of 𝓛 (plan_signature 𝓟 N N' As) (closing 𝓛 (plan_ended 𝓟 N N' As) (plan_clauses 𝓟 N N' As 𝓤 Planned))) 𝓜 𝓡 γ f r₀ c₀ t₀)
    (cited 𝓤 𝓛.H (copy_contract 𝓟 N N' Copies copied 𝓤 𝓛) 𝓜 𝓡 γ copier r₁ c₁ t₁)
    (cited 𝓤 𝓛.H (record_contract 𝓟 𝓤 𝓛) 𝓜 𝓡 γ recorder r₂ c₂ t₂) (cited 𝓤 𝓛.H (answer_contract 𝓟.Pl 𝓐 𝓤 𝓛) 𝓜 𝓡 γ answer r₃ c₃ t₃))
