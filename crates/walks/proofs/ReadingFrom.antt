-- Every function of the form
--     fn f(list: &mut [Record], run: &[uN], b: B, .., s: S, c: C, ..) -> Answer { let plan = plan_f(run, list.len(), b, .., s, c, ..); record(list, run, plan); answer(plan, s) }
-- where `record` is as `RecordingFrom.antt` has it, and `plan_f` ensures `Planned run room b .. s c .. plan`, from which it follows that the plan fits: its MIR (`function`) meets every contract that follows from that, from the plan's commands being written and from the plan's answer being returned. As `Reading.antt`, with commands that are read from the run.
-- Assumes `Logic`, and that `plan_f`, `record` and `answer` meet their contracts.
use mathlib.Core.Path.{◌≡◌, refl, sym, ap, subst}
use Prim.Native.Nat.{ℕ}
use mathlib.Core.List.{[], ◌∷◌, ◌++◌, List}
use lib.ListN.{length}
use seplogic.Ra.Ura.{Ura}
use mir.Syntax.{Callee, Fn, Width, named, w64, ty_unit, place, field, deref, copy, local, value_local, seq, assign, call, return, rv_opd, addr_of, aggregate}
use mir.Val.{Val, vint}
use base.Logic.{emp, id⊢}
use base.Fml.{Lft, Share, GName, ftrue, flft}
use prog.Routine.{Routine, Env as Routines}
use prog.Model.{Model}
use contract.Running.{Running, tables, tables_of}
use prog.Wp.{Closed, Tables}
use types.Logic.{Logic}
use contract.Monad.{fact_i}
use contract.Lifetimes.{Lfts}
use types.Kit.{Item, ‵, ◌⊛◌, ◌$◌, ◌∵◌, !, qed, by, move, drop, use1, split, fsplit}
use types.Run.{look, init, forget, stop, hop, fld, from, load, addr, of_opd, and_then, no_more, assigns, land, returns, enter, alloc1, alloc0, params1, pass1, free1, free0}
use types.Part.{agg, whole, sub, look_in}
use sound.WpLaws.{fm_of}
use denote.RattleType.{Denots, owns}
use denote.Laws.{valss}
use denote.Plain.{uint_row_laws, UInt, Nothing, uint_Makes, Nothing-Lawful}
use denote.Builtin.{usize}
use denote.Ref.{Bor, MutBor}
use denote.Slice.{slice_ty, slice_val, ShrSlice, shr_slice_copy}
use denote.Exit.{yes}
use denote.Signature.{plain, types_at}
use denote.Triple.Spec.{Meets, triple_of}
use denote.Triple.Statement.{Triple}
use denote.Triple.Table.{entered, cited}
use denote.Triple.Clauses.{closing}
use Rattle.walks.proofs.Args.{Datum, row, Dens, vals_of, slots, kepts, up, down, vdown, spells, are-down, flat-down, makess, locals_of, past, copies, Locals, spots-next, spots-here, past_is, from_at, alloc-args, pass-args, free-args, opds-args, picked-is, spot, opd-args}
use Rattle.walks.proofs.Calls.{calls-plain}
use Rattle.walks.proofs.Slices.{numbers, calls-reads, calls-both, recast}
use Rattle.walks.proofs.Filling.{word, slice}
use Rattle.walks.proofs.Recording.{Answers, parameters, given, Elem, R, P, written, Recorded, Fits, lent_ref, answer_clauses, answer_contract}
use Rattle.walks.proofs.RecordingFrom as recording
use Rattle.walks.proofs.RecordingFrom.{PlansFrom, over, apart, record_contract}
use Rattle.walks.proofs.Reading.{past3, signature, ended, clauses, plan_signature, plan_ended, plan_clauses, up-down, Walked, exits, meets}

module _ (𝓟 : PlansFrom) (𝓐 : Answers 𝓟.Pl) (N : Width) (Bs Cs : List Datum) where
  -- the types of the plain parameters
  abbrev As : List Datum
  As = parameters 𝓐 Bs Cs

  -- the locals: the result, list, run, the others, the plan, the count, (), and what is lent to `record`
  abbrev pub function : Callee → Callee → Callee → Fn
  function f recorder answer = record {
    lifetimes = 2;
    outlives = [];
    ty_params = [];
    givens = 0;
    params = past As 2;
    locals = local 𝓐.An.ty value_local ∷ local (slice 𝓟.kinds) value_local ∷ local (numbers N) value_local
        ∷ (locals_of As ++ (local 𝓟.Pl.ty value_local ∷ local word value_local ∷ local ty_unit value_local ∷ local (lent_ref (apart 𝓟)) value_local ∷ local (slice_ty (lent_ref (apart 𝓟))) value_local ∷ []));
    body = seq (assign (place (past3 As 1) []) (rv_opd (copy (place 1 (field 1 ∷ [])))))
        (seq (call f (copy (place 2 []) ∷ copy (place (past3 As 1) []) ∷ copies 3 As) (place (past3 As 0) []))
        (seq (assign (place (past3 As 3) []) (addr_of (place 1 (field 0 ∷ deref 𝓟.kinds.R.ty ∷ []))))
        (seq (assign (place (past3 As 4) []) (aggregate (copy (place (past3 As 3) []) ∷ copy (place 1 (field 1 ∷ [])) ∷ [])))
        (seq (call recorder (copy (place (past3 As 4) []) ∷ copy (place 2 []) ∷ copy (place (past3 As 0) []) ∷ []) (place (past3 As 2) []))
        (seq (call answer (copy (place (past3 As 0) []) ∷ copy (place (spot 3 Bs) []) ∷ []) (place 0 [])) return)))));
  }

module _ (𝓟 : PlansFrom) (𝓐 : Answers 𝓟.Pl) (N : Width) (Bs Cs : List Datum) (f recorder answer : Callee)
    (Planned : List ℕ → ℕ → Dens (parameters 𝓐 Bs Cs) → 𝓟.Pl.D → Type 0) (Done : List (Elem (apart 𝓟)) → List ℕ → Dens (parameters 𝓐 Bs Cs) → List (Elem (apart 𝓟)) → 𝓐.An.D → Type 0)
    (fits : (ns : List ℕ) (n : ℕ) (d : Dens (parameters 𝓐 Bs Cs)) (p : 𝓟.Pl.D) → Planned ns n d p → Fits (over 𝓟 ns) p n)
    (ends : (ys : List (Elem (apart 𝓟))) (ns : List ℕ) (d : Dens (parameters 𝓐 Bs Cs)) (zs : List (Elem (apart 𝓟))) (r : 𝓐.An.D) (p : 𝓟.Pl.D)
    → Planned ns (length ys) d p → Recorded (over 𝓟 ns) 𝓐 p (given 𝓐 Bs Cs d) ys zs r → Done ys ns d zs r)
    {M : Type 1} {𝓤 : Ura M} (𝓛 : Logic 𝓤) (𝓣 : Tables 𝓤 𝓛.H)
    (known-plan : Triple 𝓤 (𝓣.C f) (triple_of 𝓛 (plan_signature (apart 𝓟) N (parameters 𝓐 Bs Cs)) (closing 𝓛 (plan_ended (apart 𝓟) N (parameters 𝓐 Bs Cs)) (plan_clauses (apart 𝓟) N (parameters 𝓐 Bs Cs) 𝓤 Planned))))
    (known-record : Triple 𝓤 (𝓣.C recorder) (record_contract 𝓟 N 𝓤 𝓛)) (known-answer : Triple 𝓤 (𝓣.C answer) (answer_contract 𝓟.Pl 𝓐 𝓤 𝓛))
    (κ κ' : Lft) (q q' : Share) (b o : ℕ) (γ : GName) (ys : List (Elem (apart 𝓟))) (b' o' : ℕ) (ns : List ℕ) (a : Denots (types_at (slots 2 (parameters 𝓐 Bs Cs)) (κ, (κ', tt)))) where
  -- the types of the plain parameters
  open 𝓛 use {H}

  abbrev Ps : List Datum
  Ps = parameters 𝓐 Bs Cs

  abbrev κs : Lfts 2
  κs = (κ, (κ', tt))

  abbrev x : MutBor (List (Elem (apart 𝓟)))
  x = record { ref_ptr = (b, o); ghost_name = γ; now = ys }

  abbrev x' : Bor (List ℕ)
  x' = record { ref_ptr = (b', o'); now = ns }

  abbrev s : Val
  s = slice_val (b, o) (length ys)

  abbrev s' : Val
  s' = slice_val (b', o') (length ns)

  abbrev d : Dens Ps
  d = up 2 κs Ps a

  -- the state that it is given
  abbrev st : 𝓐.St.D
  st = given 𝓐 Bs Cs d

  abbrev n : ℕ
  n = length ys

  -- what the run owns
  abbrev Run : Item 𝓤
  Run = ‵ ((ShrSlice (named 1) κ' (UInt N)).own_val x' (s' ∷ []))

  walk : Walked (apart 𝓟) 𝓐 N Bs Cs Done 𝓛 κ κ' q q' b o γ ys b' o' ns a 𝓣 (function 𝓟 𝓐 N Bs Cs f recorder answer)
  walk room room' fs =
      qed 𝓛 ((‵ (flft κ q) ⊛ (‵ (flft κ' q') ⊛ ‵ ftrue)) ∷ ‵ (owns (types_at (signature (apart 𝓟) 𝓐 N Ps).params κs) (x, (x', a)) (s ∷ [], (s' ∷ [], valss (types_at (slots 2 Ps) κs) (spells 2 κs Ps) a))) ∷ []) ∵ enter ! 𝓣.C 𝓣.Λ (function 𝓟 𝓐 N Bs Cs f recorder answer) (s ∷ s' ∷ vals_of Ps d) _ $
      alloc1 ! (λ l₀. alloc1 ! (λ l₁. alloc1 ! (λ l₂. alloc-args ! Ps (λ bs. alloc1 ! (λ m₀. alloc1 ! (λ m₁. alloc1 ! (λ m₂. alloc1 ! (λ m₃. alloc1 ! (λ m₄. alloc0 ! $ params1 ! $
      let tail : Locals = (𝓟.Pl.ty, m₀) ∷ (word, m₁) ∷ (ty_unit, m₂) ∷ (lent_ref (apart 𝓟), m₃) ∷ (slice_ty (lent_ref (apart 𝓟)), m₄) ∷ [] in
      let spots = spots-next Ps bs _ 2 (𝓐.An.ty, l₀) (spots-next Ps bs _ 1 (slice 𝓟.kinds, l₁) (spots-next Ps bs _ 0 (numbers N, l₂) (spots-here Ps bs tail))) in
      pass1 ! (init ! 13 refl (tt, (tt, (record { fits = room.0 }, tt)))) $ pass1 ! (init ! 11 refl (tt, (tt, (record { fits = room'.0 }, tt)))) $ move ! (10 ∷ []) $ pass-args ! Ps bs d fs tail $
      assigns ! (of_opd ! (load ! (from ! (fld ! refl (stop !))) (look_in ! 13 (sub ! 1 refl (whole !))))) (from_at ! (past_is Ps bs tail 1) (stop !)) (init ! 7 refl (tt, record { fits = room.0 })) $
      -- what list and run own is taken out, the run's twice, with the two tokens
      move ! (18 ∷ []) $ fsplit ! $ move ! (1 ∷ []) $ fsplit ! $ move ! (1 ∷ []) $ drop ! $ use1 𝓛 (Run ⊛ Run) ((shr_slice_copy 𝓛 (named 1) κ' (UInt N) (uint_row_laws N)).twice x' (s' ∷ [])) $ split ! $
      move ! (20 ∷ []) $ split ! $ move ! (1 ∷ []) $ split ! $ move ! (1 ∷ []) $ drop ! $ move ! (0 ∷ 2 ∷ []) $
      -- [the run's token; run; the token; run; list; the others; what is lent; …; its pointer; …; (); …; the count; …; the plan; …; run; …; list; …; the result; …]
      calls-reads ! (fm_of 𝓤 H 𝓛.laws 𝓣) (UInt N) (plain (λ _. usize) ∷ slots 1 Ps) (plain (λ _. P (apart 𝓟))) (yes, kepts 1 Ps) (plan_clauses (apart 𝓟) N Ps 𝓤 Planned) known-plan κ' q'
      (uint_Makes 𝓛 w64, makess 1 (κ', tt) 𝓛 Ps) (named 1) x' s' (n, down 1 (κ', tt) Ps d) (vint w64 n ∷ [], vdown 1 (κ', tt) Ps d) ((refl, room.0), are-down 1 (κ', tt) Ps d fs) tt (id⊢ 𝓤 (emp 𝓤))
      (λ r. Planned ns n (up 1 (κ', tt) Ps (down 1 (κ', tt) Ps d)) r) (λ r ws. id⊢ 𝓤 _)
      (recast (ap (λ (vs : List Val). s' ∷ vint w64 n ∷ vs) (sym (flat-down 1 (κ', tt) Ps d))) (and_then ! (load ! (from ! (stop !)) (look ! 15 refl)) (and_then ! (load ! (from_at ! (past_is Ps bs tail 1) (stop !)) (look ! 11 refl)) (opds-args ! 4 Ps bs d 3 refl spots)))) (λ p v is e.
      let planned : Planned ns n d p = subst (λ (k : Dens Ps). Planned ns n k p) (up-down κ' Ps d) e in
      land ! (from_at ! (past_is Ps bs tail 0) (stop !)) (init ! 13 refl (𝓟.Pl.typed 𝓛 p _ is)) $
      assigns ! (addr ! (from ! (fld ! refl (hop ! (look_in ! 17 (sub ! 0 refl (whole !))) (stop !))))) (from_at ! (past_is Ps bs tail 3) (stop !)) (init ! 7 refl (tt, tt)) $
      assigns ! (agg ! (and_then ! (load ! (from_at ! (past_is Ps bs tail 3) (stop !)) (look ! 7 refl)) (and_then ! (load ! (from ! (fld ! refl (stop !))) (look_in ! 17 (sub ! 1 refl (whole !)))) (no_more !)))) (from_at ! (past_is Ps bs tail 4) (stop !)) (init ! 5 refl (tt, (tt, (record { fits = room.0 }, tt)))) $
      move ! (2 ∷ []) $ use1 𝓛 (Run ⊛ Run) ((shr_slice_copy 𝓛 (named 1) κ' (UInt N) (uint_row_laws N)).twice x' (s' ∷ [])) $ split ! $ move ! (3 ∷ 2 ∷ 4 ∷ 0 ∷ []) $
      -- [the token; the run's token; list; run; run; the others; what is lent; …; its pointer; …; (); …; the count; …; the plan; …; run; …; list; …; the result; …]
      calls-both ! (fm_of 𝓤 H 𝓛.laws 𝓣) (R (apart 𝓟)) (UInt N) (plain (λ _. P (apart 𝓟)) ∷ []) (plain (λ _. Nothing)) (yes, tt) (recording.clauses 𝓟 N 𝓤) known-record κ κ' q q'
      (𝓟.Pl.makes 𝓛, tt) (named 0) (named 1) x s x' s' (p, tt) (v ∷ [], tt) (is, tt) tt (fact_i 𝓤 _ (emp 𝓤) (fits ns n d p planned)) (λ _ zs. zs ≡ written (over 𝓟 ns) p ys) (λ r ws. id⊢ 𝓤 _)
      (and_then ! (load ! (from_at ! (past_is Ps bs tail 4) (stop !)) (look ! 3 refl)) (and_then ! (load ! (from ! (stop !)) (look ! 13 refl)) (and_then ! (load ! (from_at ! (past_is Ps bs tail 0) (stop !)) (look ! 11 refl)) (no_more !)))) (λ r₀ w₀ zs is₀ l e₀.
      -- [the token; the run's token; the last list; run; the others; what is lent; …; .. ; the result; …]
      land ! (from_at ! (past_is Ps bs tail 2) (stop !)) (init ! 9 refl ((Nothing-Lawful 𝓛).typed r₀ _ is₀).0) $
      calls-plain ! (fm_of 𝓤 H 𝓛.laws 𝓣) (plain (λ _. P (apart 𝓟)) ∷ plain (λ _. row 𝓐.St) ∷ []) (plain (λ _. row 𝓐.An)) (yes, (yes, tt)) (answer_clauses 𝓟.Pl 𝓐 𝓤) known-answer
      (𝓟.Pl.makes 𝓛, (𝓐.St.makes 𝓛, tt)) (p, (st, tt)) (v ∷ [], (𝓐.St.val st ∷ [], tt)) (is, (picked-is Bs 𝓐.St Cs d fs, tt)) tt (id⊢ 𝓤 (emp 𝓤)) (λ r. r ≡ 𝓐.answer p st) (λ r ws. id⊢ 𝓤 _)
      (and_then ! (load ! (from_at ! (past_is Ps bs tail 0) (stop !)) (look ! 14 refl)) (and_then ! (opd-args ! 5 Bs 𝓐.St Cs bs d 3 refl spots) (no_more !))) (λ r w is' e'.
      land ! (from ! (stop !)) (init ! 19 refl (𝓐.An.typed 𝓛 r _ is')) $
      returns ! (look ! 19 refl) $ forget ! 5 refl $ forget ! 7 refl $ forget ! 9 refl $ forget ! 11 refl $ forget ! 13 refl $ forget ! 15 refl $ forget ! 17 refl $ forget ! 19 refl $
      move ! (19 ∷ 20 ∷ []) $ free1 ! $ move ! (17 ∷ 18 ∷ []) $ free1 ! $ move ! (15 ∷ 16 ∷ []) $ free1 ! $ move ! (4 ∷ []) $ free-args ! Ps bs d $
      move ! (12 ∷ 13 ∷ []) $ free1 ! $ move ! (10 ∷ 11 ∷ []) $ free1 ! $ move ! (8 ∷ 9 ∷ []) $ free1 ! $ move ! (6 ∷ 7 ∷ []) $ free1 ! $ move ! (4 ∷ 5 ∷ []) $ free1 ! $ free0 ! $
      move ! (0 ∷ 2 ∷ []) $ by ! (exits (apart 𝓟) 𝓐 N Bs Cs Done 𝓛 κ κ' q q' b o γ ys b' o' ns a fs r w zs is' l (ends ys ns d zs r p planned (e', e₀)))))))))))))))

-- what the proof of such a call cites
pub reads-from : (𝓟 : PlansFrom) (𝓐 : Answers 𝓟.Pl) (N : Width) (Bs Cs : List Datum) (Planned : List ℕ → ℕ → Dens (parameters 𝓐 Bs Cs) → 𝓟.Pl.D → Type 0) (Done : List (Elem (apart 𝓟)) → List ℕ → Dens (parameters 𝓐 Bs Cs) → List (Elem (apart 𝓟)) → 𝓐.An.D → Type 0)
    → ((ns : List ℕ) (n : ℕ) (d : Dens (parameters 𝓐 Bs Cs)) (p : 𝓟.Pl.D) → Planned ns n d p → Fits (over 𝓟 ns) p n)
    → ((ys : List (Elem (apart 𝓟))) (ns : List ℕ) (d : Dens (parameters 𝓐 Bs Cs)) (zs : List (Elem (apart 𝓟))) (r : 𝓐.An.D) (p : 𝓟.Pl.D)
    → Planned ns (length ys) d p → Recorded (over 𝓟 ns) 𝓐 p (given 𝓐 Bs Cs d) ys zs r → Done ys ns d zs r)
    → {M : Type 1} {𝓤 : Ura M} (𝓛 : Logic 𝓤) (𝓜 : Model 𝓤 𝓛.H) (𝓡 : Running 𝓤 𝓛.H 𝓜) (γ : Routines) (k f recorder answer : Callee)
    → Closed 𝓤 𝓛.H (tables 𝓤 𝓛.H 𝓜 𝓡 γ).C (tables 𝓤 𝓛.H 𝓜 𝓡 γ).Λ k (function 𝓟 𝓐 N Bs Cs f recorder answer)
    → (r₀ : Routine) → γ f ≡ r₀ → Meets 𝓛 (plan_signature (apart 𝓟) N (parameters 𝓐 Bs Cs)) (𝓡.run r₀) (closing 𝓛 (plan_ended (apart 𝓟) N (parameters 𝓐 Bs Cs)) (plan_clauses (apart 𝓟) N (parameters 𝓐 Bs Cs) 𝓤 Planned))
    → (r₁ : Routine) → γ recorder ≡ r₁ → Triple 𝓤 (𝓡.run r₁) (record_contract 𝓟 N 𝓤 𝓛) → (r₂ : Routine) → γ answer ≡ r₂ → Triple 𝓤 (𝓡.run r₂) (answer_contract 𝓟.Pl 𝓐 𝓤 𝓛)
    → Meets 𝓛 (signature (apart 𝓟) 𝓐 N (parameters 𝓐 Bs Cs)) (𝓡.run (γ k)) (closing 𝓛 (ended (apart 𝓟) 𝓐 N (parameters 𝓐 Bs Cs)) (clauses (apart 𝓟) 𝓐 N (parameters 𝓐 Bs Cs) 𝓤 Done))
unfolding tables_of
reads-from 𝓟 𝓐 N Bs Cs Planned Done fits ends {𝓤 = 𝓤} 𝓛 𝓜 𝓡 γ k f recorder answer closed r₀ c₀ t₀ r₁ c₁ t₁ r₂ c₂ t₂ =
    let As : List Datum = parameters 𝓐 Bs Cs in
    entered 𝓤 𝓛.H (triple_of 𝓛 (signature (apart 𝓟) 𝓐 N As) (closing 𝓛 (ended (apart 𝓟) 𝓐 N As) (clauses (apart 𝓟) 𝓐 N As 𝓤 Done))) (tables 𝓤 𝓛.H 𝓜 𝓡 γ).C (tables 𝓤 𝓛.H 𝓜 𝓡 γ).Λ k (function 𝓟 𝓐 N Bs Cs f recorder answer) closed
    (meets (apart 𝓟) 𝓐 N Bs Cs Done 𝓛 (tables_of 𝓤 𝓛.H 𝓜 (tables 𝓤 𝓛.H 𝓜 𝓡 γ)) (function 𝓟 𝓐 N Bs Cs f recorder answer)
    (walk 𝓟 𝓐 N Bs Cs f recorder answer Planned Done fits ends 𝓛 (tables_of 𝓤 𝓛.H 𝓜 (tables 𝓤 𝓛.H 𝓜 𝓡 γ))
    (cited 𝓤 𝓛.H (triple_of 𝓛 (plan_signature (apart 𝓟) N As) (closing 𝓛 (plan_ended (apart 𝓟) N As) (plan_clauses (apart 𝓟) N As 𝓤 Planned))) 𝓜 𝓡 γ f r₀ c₀ t₀)
    (cited 𝓤 𝓛.H (record_contract 𝓟 N 𝓤 𝓛) 𝓜 𝓡 γ recorder r₁ c₁ t₁) (cited 𝓤 𝓛.H (answer_contract 𝓟.Pl 𝓐 𝓤 𝓛) 𝓜 𝓡 γ answer r₂ c₂ t₂)))
