-- Every function of the form
--     fn f(list: &mut [Record], numbers: &[uN], b: B, .., s: S, c: C, ..) -> Answer { let plan = plan_f(numbers, list.len(), b, .., s, c, ..); record(list, plan); answer(plan, s) }
-- where `plan_f` is a function of the numbers and plain data that ensures `Planned numbers room b .. s c .. plan`, from which it follows that the plan fits: its MIR (`function`) meets every contract that follows from that, from the plan's commands being written and from the plan's answer being returned. B, .., S, C, .. are any types of plain data (`Args.antt`'s `Datum`).
-- Assumes `Logic`, and that `plan_f`, `record` and `answer` meet their contracts.
use mathlib.Core.Path.{◌≡◌, refl, sym, ap, subst}
use Prim.Native.Nat.{ℕ, suc}
use mathlib.Core.List.{[], ◌∷◌, ◌++◌, List}
use lib.ListN.{length}
use seplogic.Ra.Ura.{Ura}
use mir.Syntax.{Callee, Fn, Ty, named, mut, w64, ty_int, ty_unit, Width, ty_ref, place, field, deref, copy, local, value_local, seq, assign, call, return, rv_opd, addr_of, aggregate}
use mir.Val.{Val, vint}
use base.Logic.{SProp, ent, emp, via, fst∗, id⊢}
use base.Fml.{Lft, Share, GName, ftrue, flft}
use prog.Routine.{Routine, Env as Routines}
use prog.Model.{Model}
use contract.Running.{Running, tables, tables_of}
use prog.Wp.{WpFn, Closed, Tables}
use types.Logic.{Logic}
use contract.Monad.{fact, fact_i}
use contract.Lifetimes.{Lfts}
use types.Kit.{‵, raw, ◌⊛◌, ⋆, ◌$◌, ◌∵◌, !, qed, by, move, drop, use0, use1, split, join, fsplit, fjoin, suffices, done}
use types.Run.{look, init, forget, stop, hop, fld, from, load, addr, of_opd, and_then, no_more, assigns, land, returns, enter, alloc1, alloc0, params1, pass1, free1, free0}
use types.Part.{agg, whole, sub, look_in}
use sound.WpLaws.{fm_of, WpFn-mono}
use denote.RattleType.{Denots, owns}
use denote.Memory.{pointee}
use denote.Laws.{Is, valss}
use denote.Plain.{uint_row_laws, UInt, Nothing, uint_Makes, Nothing-Lawful}
use denote.Builtin.{usize}
use denote.Ref.{Bor, MutBor}
use denote.Slice.{slice_ty, slice_val, ShrSlice, Room, shr_slice_vals, mut_slice_vals, mut_slice_Tells, shr_slice_Tells, shr_slice_copy}
use denote.Steps.{owned, nothing}
use denote.Exit.{yes}
use denote.Signature.{Signature, plain, mut_slice, shr_slice, types_at}
use denote.Triple.Entry.{Args, on_entry}
use denote.Triple.Spec.{Meets, triple_of}
use denote.Triple.Statement.{Triple}
use denote.Triple.Table.{entered, cited}
use denote.Triple.Clauses.{Ended, Clauses, closing}
use denote.Triple.Walked.{Stays, gave_slice, stay_none_slice, walk_of, has_of, Goes-gave_slice, Goes-none_slice, Walks, ends_at, walked, walk_Meets}
use Rattle.walks.proofs.Args.{Datum, row, Dens, Facts, vals_of, slots, kepts, stays, goes, up, down, vdown, spells, tellss, facts-up, are-down, flat_up, flat-down, lastly, fit, makess, had, locals_of, past, copies, Locals, spots-next, spots-here, past_is, from_at, alloc-args, pass-args, free-args, opds-args, picked-is, spot, opd-args}
use Rattle.walks.proofs.Calls.{gave, calls-plain, calls-list}
use Rattle.walks.proofs.Slices.{numbers, rend, calls-reads, recast}
use Rattle.walks.proofs.Recording as recording
use Rattle.walks.proofs.Recording.{Plans, Answers, parameters, given, Plan, Elem, R, P, written, Recorded, Fits, lent_ref, record_contract, answer_clauses, answer_contract}

abbrev pub word : Ty
word = ty_int w64

abbrev pub slice : Plans → Ty
slice 𝓟 = slice_ty (ty_ref (named 0) mut (pointee 𝓟.kinds.R.written))

abbrev pub past3 : List Datum → ℕ → ℕ
past3 As j = suc (suc (suc (past As j)))

module _ (𝓟 : Plans) (N : Width) (As : List Datum) where
  -- the callee that makes the plan
  abbrev pub plan_ended : Ended
  plan_ended = rend (UInt N) (plain (λ _. usize) ∷ slots 1 As) (plain (λ _. P 𝓟)) (yes, kepts 1 As)

  abbrev pub plan_signature : Signature
  plan_signature = plan_ended.signature

  -- `ensures { λ r. ⌜ Planned (now numbers.entry) room b .. s c .. r ⌝ }`
  abbrev pub plan_clauses : {M : Type 1} (𝓤 : Ura M) → (List ℕ → ℕ → Dens As → Plan 𝓟 → Type 0) → Clauses 𝓤 plan_ended
  plan_clauses 𝓤 Planned κs a = record { ghost = Unit {0}; requires = λ _. emp 𝓤; ensures = λ _ r e. fact 𝓤 (Planned a.0.now a.1.0 (up 1 κs As a.1.1) r) }

module _ (𝓟 : Plans) (𝓐 : Answers 𝓟.Pl) (N : Width) (As : List Datum) where
  abbrev pub signature : Signature
  signature = record { lifetimes = 2; outlives = []; params = mut_slice 0 tt (λ _. R 𝓟) ∷ shr_slice 1 tt (λ _. UInt N) ∷ slots 2 As; result = plain (λ _. row 𝓐.An) }

  abbrev pub ended : Ended
  ended = record { signature = signature; kept = (yes, (yes, kepts 2 As)) }

  abbrev stayed : Stays ended.signature.params ended.kept
  stayed = (gave_slice (0 ∷ []) tt (plain (λ _. R 𝓟)), (stay_none_slice (1 ∷ []) tt (plain (λ _. UInt N)) yes, stays 2 As))

  -- `ensures { λ r. ⌜ Done (now list.entry) (now numbers.entry) b .. s c .. (now list.exit) r ⌝ }`
  abbrev pub clauses : {M : Type 1} (𝓤 : Ura M) → (List (Elem 𝓟) → List ℕ → Dens As → List (Elem 𝓟) → 𝓐.An.D → Type 0) → Clauses 𝓤 ended
  clauses 𝓤 Done κs a = record { ghost = Unit {0}; requires = λ _. emp 𝓤; ensures = λ _ r e. fact 𝓤 (Done a.0.now a.1.0.now (up 2 κs As a.1.1) e.0.now r) }

module _ (𝓟 : Plans) (𝓐 : Answers 𝓟.Pl) (N : Width) (Bs Cs : List Datum) where
  -- the types of the plain parameters
  abbrev As : List Datum
  As = parameters 𝓐 Bs Cs

  -- the locals: the result, list, numbers, the others, the plan, the count, (), and what is lent to `record`
  abbrev pub function : Callee → Callee → Callee → Fn
  function f recorder answer = record {
    lifetimes = 2;
    outlives = [];
    ty_params = [];
    givens = 0;
    params = past As 2;
    locals = local 𝓐.An.ty value_local ∷ local (slice 𝓟) value_local ∷ local (numbers N) value_local
        ∷ (locals_of As ++ (local 𝓟.Pl.ty value_local ∷ local word value_local ∷ local ty_unit value_local ∷ local (lent_ref 𝓟) value_local ∷ local (slice_ty (lent_ref 𝓟)) value_local ∷ []));
    body = seq (assign (place (past3 As 1) []) (rv_opd (copy (place 1 (field 1 ∷ [])))))
        (seq (call f (copy (place 2 []) ∷ copy (place (past3 As 1) []) ∷ copies 3 As) (place (past3 As 0) []))
        (seq (assign (place (past3 As 3) []) (addr_of (place 1 (field 0 ∷ deref 𝓟.kinds.R.ty ∷ []))))
        (seq (assign (place (past3 As 4) []) (aggregate (copy (place (past3 As 3) []) ∷ copy (place 1 (field 1 ∷ [])) ∷ [])))
        (seq (call recorder (copy (place (past3 As 4) []) ∷ copy (place (past3 As 0) []) ∷ []) (place (past3 As 2) []))
        (seq (call answer (copy (place (past3 As 0) []) ∷ copy (place (spot 3 Bs) []) ∷ []) (place 0 [])) return)))));
  }

pub up-down : (κ : Lft) (As : List Datum) (d : Dens As) → up 1 (κ, tt) As (down 1 (κ, tt) As d) ≡ d
up-down κ [] d = refl
up-down κ (D ∷ As) d = λ i. (d.0, up-down κ As d.1 i)

-- what every function of this signature has at its return, and what its walk is
module _ (𝓟 : Plans) (𝓐 : Answers 𝓟.Pl) (N : Width) (Bs Cs : List Datum) (Done : List (Elem 𝓟) → List ℕ → Dens (parameters 𝓐 Bs Cs) → List (Elem 𝓟) → 𝓐.An.D → Type 0)
    {M : Type 1} {𝓤 : Ura M} (𝓛 : Logic 𝓤) where
  -- the types of the plain parameters
  open 𝓛 use {H}

  abbrev Ps : List Datum
  Ps = parameters 𝓐 Bs Cs

  module _ (κ κ' : Lft) (q q' : Share) (b o : ℕ) (γ : GName) (ys : List (Elem 𝓟)) (b' o' : ℕ) (ys' : List ℕ) (a : Denots (types_at (slots 2 Ps) (κ, (κ', tt)))) where
    abbrev κs : Lfts 2
    κs = (κ, (κ', tt))

    abbrev x : MutBor (List (Elem 𝓟))
    x = record { ref_ptr = (b, o); ghost_name = γ; now = ys }

    abbrev x' : Bor (List ℕ)
    x' = record { ref_ptr = (b', o'); now = ys' }

    abbrev s : Val
    s = slice_val (b, o) (length ys)

    abbrev s' : Val
    s' = slice_val (b', o') (length ys')

    abbrev all : Args (signature 𝓟 𝓐 N Ps) κs
    all = (x, (x', a))

    abbrev d : Dens Ps
    d = up 2 κs Ps a

    -- the state that it is given
    abbrev st : 𝓐.St.D
    st = given 𝓐 Bs Cs d

    abbrev n : ℕ
    n = length ys

    abbrev y : (walk_of 𝓛 (ended 𝓟 𝓐 N Ps) (stayed 𝓟 𝓐 N Ps) (clauses 𝓟 𝓐 N Ps 𝓤 Done)).Ghost
    y = ((κs, (q, (q', tt)), tt, all, (s ∷ [], (s' ∷ [], valss (types_at (slots 2 Ps) κs) (spells 2 κs Ps) a))), tt)

    abbrev Post : Val → SProp 𝓤
    Post = (walk_of 𝓛 (ended 𝓟 𝓐 N Ps) (stayed 𝓟 𝓐 N Ps) (clauses 𝓟 𝓐 N Ps 𝓤 Done)).post y

    pub exits : Facts Ps d → (r : 𝓐.An.D) (w : Val) (zs : List (Elem 𝓟)) → Is (row 𝓐.An) r (w ∷ []) → length zs ≡ n → Done ys ys' d zs r
        → ent 𝓤 (⋆ 𝓛 (‵ (flft κ q) ∷ ‵ (gave (R 𝓟) κ x zs) ∷ ‵ (flft κ' q') ∷ ‵ ((ShrSlice (named 1) κ' (UInt N)).own_val x' (s' ∷ [])) ∷ [])) (Post w)
    exits fs r w zs is l did =
        qed 𝓛 (‵ (flft κ q) ∷ ‵ (gave (R 𝓟) κ x zs) ∷ ‵ (flft κ' q') ∷ ‵ ((ShrSlice (named 1) κ' (UInt N)).own_val x' (s' ∷ [])) ∷ []) ∵
        suffices ! _ (ends_at 𝓛 (ended 𝓟 𝓐 N Ps) (stayed 𝓟 𝓐 N Ps) (clauses 𝓟 𝓐 N Ps 𝓤 Done) y w r (zs, (tt, lastly 2 κs Ps a)) (l, (tt, fit 2 κs Ps a))) $
        use0 𝓛 (raw (fact 𝓤 (Done ys ys' d zs r))) (fact_i 𝓤 _ (emp 𝓤) did) $
        -- [nothing; what is said; the token; the last list; the second token; numbers]
        nothing ! $ move ! (4 ∷ 0 ∷ []) $ join ! $ move ! (2 ∷ 0 ∷ []) $ join ! $
        use0 𝓛 (‵ (has_of κs (slots 2 Ps) (kepts 2 Ps) (stays 2 Ps) a (lastly 2 κs Ps a) (valss (types_at (slots 2 Ps) κs) (spells 2 κs Ps) a))) (had 2 κs 𝓛 Ps a fs) $ move ! (4 ∷ 0 ∷ []) $ fjoin ! $ move ! (3 ∷ 0 ∷ []) $ fjoin ! $
        owned ! (row 𝓐.An) (Is (row 𝓐.An)) (𝓐.An.makes 𝓛) r _ is $ move ! (1 ∷ 0 ∷ []) $ join ! $ move ! (1 ∷ 0 ∷ []) $ join ! $ done !

    -- the MIR F, from its entry to its return
    abbrev pub Walked : Tables 𝓤 H → Fn → Type 1
    Walked 𝓣 F = Room (R 𝓟) n → Room (UInt N) (length ys') → Facts Ps d → ent 𝓤 (on_entry 𝓛 (signature 𝓟 𝓐 N Ps) κs (q, (q', tt)) all y.0.4) (WpFn 𝓤 H 𝓣.C 𝓣.Λ F (s ∷ s' ∷ vals_of Ps d) Post)

    module _ (f recorder answer : Callee) (Planned : List ℕ → ℕ → Dens Ps → Plan 𝓟 → Type 0) (fits : (ns : List ℕ) (n : ℕ) (d : Dens Ps) (p : Plan 𝓟) → Planned ns n d p → Fits 𝓟 p n)
        (ends : (ys : List (Elem 𝓟)) (ns : List ℕ) (d : Dens Ps) (zs : List (Elem 𝓟)) (r : 𝓐.An.D) (p : Plan 𝓟) → Planned ns (length ys) d p → Recorded 𝓟 𝓐 p (given 𝓐 Bs Cs d) ys zs r → Done ys ns d zs r) (𝓣 : Tables 𝓤 H)
        (known-plan : Triple 𝓤 (𝓣.C f) (triple_of 𝓛 (plan_signature 𝓟 N Ps) (closing 𝓛 (plan_ended 𝓟 N Ps) (plan_clauses 𝓟 N Ps 𝓤 Planned))))
        (known-record : Triple 𝓤 (𝓣.C recorder) (record_contract 𝓟 𝓤 𝓛)) (known-answer : Triple 𝓤 (𝓣.C answer) (answer_contract 𝓟.Pl 𝓐 𝓤 𝓛)) where
      walk : Walked 𝓣 (function 𝓟 𝓐 N Bs Cs f recorder answer)
      walk room room' fs =
          qed 𝓛 ((‵ (flft κ q) ⊛ (‵ (flft κ' q') ⊛ ‵ ftrue)) ∷ ‵ (owns (types_at (signature 𝓟 𝓐 N Ps).params κs) all y.0.4) ∷ []) ∵ enter ! 𝓣.C 𝓣.Λ (function 𝓟 𝓐 N Bs Cs f recorder answer) (s ∷ s' ∷ vals_of Ps d) _ $
          alloc1 ! (λ l₀. alloc1 ! (λ l₁. alloc1 ! (λ l₂. alloc-args ! Ps (λ bs. alloc1 ! (λ m₀. alloc1 ! (λ m₁. alloc1 ! (λ m₂. alloc1 ! (λ m₃. alloc1 ! (λ m₄. alloc0 ! $ params1 ! $
          let tail : Locals = (𝓟.Pl.ty, m₀) ∷ (word, m₁) ∷ (ty_unit, m₂) ∷ (lent_ref 𝓟, m₃) ∷ (slice_ty (lent_ref 𝓟), m₄) ∷ [] in
          let spots = spots-next Ps bs _ 2 (𝓐.An.ty, l₀) (spots-next Ps bs _ 1 (slice 𝓟, l₁) (spots-next Ps bs _ 0 (numbers N, l₂) (spots-here Ps bs tail))) in
          pass1 ! (init ! 13 refl (tt, (tt, (record { fits = room.0 }, tt)))) $ pass1 ! (init ! 11 refl (tt, (tt, (record { fits = room'.0 }, tt)))) $ move ! (10 ∷ []) $ pass-args ! Ps bs d fs tail $
          assigns ! (of_opd ! (load ! (from ! (fld ! refl (stop !))) (look_in ! 13 (sub ! 1 refl (whole !))))) (from_at ! (past_is Ps bs tail 1) (stop !)) (init ! 7 refl (tt, record { fits = room.0 })) $
          -- what list and numbers own is taken out, numbers' twice, with the two tokens
          move ! (18 ∷ []) $ fsplit ! $ move ! (1 ∷ []) $ fsplit ! $ move ! (1 ∷ []) $ drop ! $
          use1 𝓛 (‵ ((ShrSlice (named 1) κ' (UInt N)).own_val x' (s' ∷ [])) ⊛ ‵ ((ShrSlice (named 1) κ' (UInt N)).own_val x' (s' ∷ []))) ((shr_slice_copy 𝓛 (named 1) κ' (UInt N) (uint_row_laws N)).twice x' (s' ∷ [])) $ split ! $
          move ! (20 ∷ []) $ split ! $ move ! (1 ∷ []) $ split ! $ move ! (1 ∷ []) $ drop ! $ move ! (0 ∷ 2 ∷ []) $
          -- [numbers' token; numbers; list's token; numbers; list; the others; what is lent; …; its pointer; …; (); …; the count; …; the plan; …; numbers; …; list; …; the result; …]
          calls-reads ! (fm_of 𝓤 H 𝓛.laws 𝓣) (UInt N) (plain (λ _. usize) ∷ slots 1 Ps) (plain (λ _. P 𝓟)) (yes, kepts 1 Ps) (plan_clauses 𝓟 N Ps 𝓤 Planned) known-plan κ' q'
          (uint_Makes 𝓛 w64, makess 1 (κ', tt) 𝓛 Ps) (named 1) x' s' (n, down 1 (κ', tt) Ps d) (vint w64 n ∷ [], vdown 1 (κ', tt) Ps d) ((refl, room.0), are-down 1 (κ', tt) Ps d fs) tt (id⊢ 𝓤 (emp 𝓤))
          (λ r. Planned ys' n (up 1 (κ', tt) Ps (down 1 (κ', tt) Ps d)) r) (λ r ws. id⊢ 𝓤 _)
          (recast (ap (λ (vs : List Val). s' ∷ vint w64 n ∷ vs) (sym (flat-down 1 (κ', tt) Ps d))) (and_then ! (load ! (from ! (stop !)) (look ! 15 refl)) (and_then ! (load ! (from_at ! (past_is Ps bs tail 1) (stop !)) (look ! 11 refl)) (opds-args ! 4 Ps bs d 3 refl spots)))) (λ p v is e.
          let planned : Planned ys' n d p = subst (λ (k : Dens Ps). Planned ys' n k p) (up-down κ' Ps d) e in
          land ! (from_at ! (past_is Ps bs tail 0) (stop !)) (init ! 13 refl (𝓟.Pl.typed 𝓛 p _ is)) $
          assigns ! (addr ! (from ! (fld ! refl (hop ! (look_in ! 17 (sub ! 0 refl (whole !))) (stop !))))) (from_at ! (past_is Ps bs tail 3) (stop !)) (init ! 7 refl (tt, tt)) $
          assigns ! (agg ! (and_then ! (load ! (from_at ! (past_is Ps bs tail 3) (stop !)) (look ! 7 refl)) (and_then ! (load ! (from ! (fld ! refl (stop !))) (look_in ! 17 (sub ! 1 refl (whole !)))) (no_more !)))) (from_at ! (past_is Ps bs tail 4) (stop !)) (init ! 5 refl (tt, (tt, (record { fits = room.0 }, tt)))) $
          move ! (1 ∷ 3 ∷ []) $
          -- [the token; list; the second token; numbers; the others; what is lent; …; its pointer; …; (); …; the count; …; the plan; …; numbers; …; list; …; the result; …]
          calls-list ! (fm_of 𝓤 H 𝓛.laws 𝓣) (R 𝓟) (plain (λ _. P 𝓟) ∷ []) (plain (λ _. Nothing)) (yes, tt) (recording.clauses 𝓟 𝓤) known-record κ q
          (𝓟.Pl.makes 𝓛, tt) x s (p, tt) (v ∷ [], tt) (is, tt) tt (fact_i 𝓤 _ (emp 𝓤) (fits ys' n d p planned)) (λ _ zs. zs ≡ written 𝓟 p ys) (λ r ws. id⊢ 𝓤 _)
          (and_then ! (load ! (from_at ! (past_is Ps bs tail 4) (stop !)) (look ! 4 refl)) (and_then ! (load ! (from_at ! (past_is Ps bs tail 0) (stop !)) (look ! 12 refl)) (no_more !))) (λ r₀ w₀ zs is₀ l e₀.
          land ! (from_at ! (past_is Ps bs tail 2) (stop !)) (init ! 9 refl ((Nothing-Lawful 𝓛).typed r₀ _ is₀).0) $
          calls-plain ! (fm_of 𝓤 H 𝓛.laws 𝓣) (plain (λ _. P 𝓟) ∷ plain (λ _. row 𝓐.St) ∷ []) (plain (λ _. row 𝓐.An)) (yes, (yes, tt)) (answer_clauses 𝓟.Pl 𝓐 𝓤) known-answer
          (𝓟.Pl.makes 𝓛, (𝓐.St.makes 𝓛, tt)) (p, (st, tt)) (v ∷ [], (𝓐.St.val st ∷ [], tt)) (is, (picked-is Bs 𝓐.St Cs d fs, tt)) tt (id⊢ 𝓤 (emp 𝓤)) (λ r. r ≡ 𝓐.answer p st) (λ r ws. id⊢ 𝓤 _)
          (and_then ! (load ! (from_at ! (past_is Ps bs tail 0) (stop !)) (look ! 14 refl)) (and_then ! (opd-args ! 5 Bs 𝓐.St Cs bs d 3 refl spots) (no_more !))) (λ r w is' e'.
          land ! (from ! (stop !)) (init ! 19 refl (𝓐.An.typed 𝓛 r _ is')) $
          returns ! (look ! 19 refl) $ forget ! 5 refl $ forget ! 7 refl $ forget ! 9 refl $ forget ! 11 refl $ forget ! 13 refl $ forget ! 15 refl $ forget ! 17 refl $ forget ! 19 refl $
          move ! (19 ∷ 20 ∷ []) $ free1 ! $ move ! (17 ∷ 18 ∷ []) $ free1 ! $ move ! (15 ∷ 16 ∷ []) $ free1 ! $ move ! (4 ∷ []) $ free-args ! Ps bs d $
          move ! (12 ∷ 13 ∷ []) $ free1 ! $ move ! (10 ∷ 11 ∷ []) $ free1 ! $ move ! (8 ∷ 9 ∷ []) $ free1 ! $ move ! (6 ∷ 7 ∷ []) $ free1 ! $ move ! (4 ∷ 5 ∷ []) $ free1 ! $ free0 ! $
          by ! (exits fs r w zs is' l (ends ys ys' d zs r p planned (e', e₀)))))))))))))))

  module _ (𝓣 : Tables 𝓤 H) (F : Fn)
      (walk : (κ κ' : Lft) (q q' : Share) (b o : ℕ) (γ : GName) (ys : List (Elem 𝓟)) (b' o' : ℕ) (ys' : List ℕ) (a : Denots (types_at (slots 2 Ps) (κ, (κ', tt)))) → Walked κ κ' q q' b o γ ys b' o' ys' a 𝓣 F) where
    walks : Walks 𝓛 (ended 𝓟 𝓐 N Ps) (stayed 𝓟 𝓐 N Ps) (WpFn 𝓤 H 𝓣.C 𝓣.Λ F) (clauses 𝓟 𝓐 N Ps 𝓤 Done)
    walks = walked 𝓛 (ended 𝓟 𝓐 N Ps) (stayed 𝓟 𝓐 N Ps) (clauses 𝓟 𝓐 N Ps 𝓤 Done) (WpFn 𝓤 H 𝓣.C 𝓣.Λ F)
        (λ κs. (mut_slice_vals, (shr_slice_vals, spells 2 κs Ps))) (λ κs. (mut_slice_Tells (named 0) κs.0 (R 𝓟), (shr_slice_Tells (named 1) κs.1.0 (UInt N), tellss 2 κs Ps)))
        (λ κs qs bounds a g are. via 𝓤 _ (fst∗ 𝓤 _ (emp 𝓤)) (subst (λ (vs : List Val). ent 𝓤 (on_entry 𝓛 (signature 𝓟 𝓐 N Ps) κs qs a (mut_slice_vals a.0, (shr_slice_vals a.1.0, valss (types_at (slots 2 Ps) κs) (spells 2 κs Ps) a.1.1)))
        (WpFn 𝓤 H 𝓣.C 𝓣.Λ F (slice_val a.0.ref_ptr (length a.0.now) ∷ slice_val a.1.0.ref_ptr (length a.1.0.now) ∷ vs)
        ((walk_of 𝓛 (ended 𝓟 𝓐 N Ps) (stayed 𝓟 𝓐 N Ps) (clauses 𝓟 𝓐 N Ps 𝓤 Done)).post ((κs, qs, bounds, a, (mut_slice_vals a.0, (shr_slice_vals a.1.0, valss (types_at (slots 2 Ps) κs) (spells 2 κs Ps) a.1.1))), g)))) (sym (flat_up 2 κs Ps a.1.1))
        (walk κs.0 κs.1.0 qs.0 qs.1.0 a.0.ref_ptr.0 a.0.ref_ptr.1 a.0.ghost_name a.0.now a.1.0.ref_ptr.0 a.1.0.ref_ptr.1 a.1.0.now a.1.1 are.0.0.1 are.1.0.0.1 (facts-up 2 κs Ps a.1.1 are.1.1))))

    pub meets : Meets 𝓛 (signature 𝓟 𝓐 N Ps) (WpFn 𝓤 H 𝓣.C 𝓣.Λ F) (closing 𝓛 (ended 𝓟 𝓐 N Ps) (clauses 𝓟 𝓐 N Ps 𝓤 Done))
    meets = walk_Meets 𝓛 (ended 𝓟 𝓐 N Ps) (stayed 𝓟 𝓐 N Ps) (Goes-gave_slice 𝓛 2 0 tt (plain (λ _. R 𝓟)), (Goes-none_slice 𝓛 2 (1 ∷ []) tt (plain (λ _. UInt N)) yes, goes 2 𝓛 Ps)) (clauses 𝓟 𝓐 N Ps 𝓤 Done)
        (WpFn 𝓤 H 𝓣.C 𝓣.Λ F) (WpFn-mono 𝓤 H 𝓛.laws 𝓣 F) walks

-- what the proof of a call that reads numbers cites
pub reads : (𝓟 : Plans) (𝓐 : Answers 𝓟.Pl) (N : Width) (Bs Cs : List Datum) (Planned : List ℕ → ℕ → Dens (parameters 𝓐 Bs Cs) → Plan 𝓟 → Type 0) (Done : List (Elem 𝓟) → List ℕ → Dens (parameters 𝓐 Bs Cs) → List (Elem 𝓟) → 𝓐.An.D → Type 0)
    → ((ns : List ℕ) (n : ℕ) (d : Dens (parameters 𝓐 Bs Cs)) (p : Plan 𝓟) → Planned ns n d p → Fits 𝓟 p n)
    → ((ys : List (Elem 𝓟)) (ns : List ℕ) (d : Dens (parameters 𝓐 Bs Cs)) (zs : List (Elem 𝓟)) (r : 𝓐.An.D) (p : Plan 𝓟) → Planned ns (length ys) d p → Recorded 𝓟 𝓐 p (given 𝓐 Bs Cs d) ys zs r → Done ys ns d zs r)
    → {M : Type 1} {𝓤 : Ura M} (𝓛 : Logic 𝓤) (𝓜 : Model 𝓤 𝓛.H) (𝓡 : Running 𝓤 𝓛.H 𝓜) (γ : Routines) (k f recorder answer : Callee)
    → Closed 𝓤 𝓛.H (tables 𝓤 𝓛.H 𝓜 𝓡 γ).C (tables 𝓤 𝓛.H 𝓜 𝓡 γ).Λ k (function 𝓟 𝓐 N Bs Cs f recorder answer)
    → (r₀ : Routine) → γ f ≡ r₀ → Meets 𝓛 (plan_signature 𝓟 N (parameters 𝓐 Bs Cs)) (𝓡.run r₀) (closing 𝓛 (plan_ended 𝓟 N (parameters 𝓐 Bs Cs)) (plan_clauses 𝓟 N (parameters 𝓐 Bs Cs) 𝓤 Planned))
    → (r₁ : Routine) → γ recorder ≡ r₁ → Triple 𝓤 (𝓡.run r₁) (record_contract 𝓟 𝓤 𝓛) → (r₂ : Routine) → γ answer ≡ r₂ → Triple 𝓤 (𝓡.run r₂) (answer_contract 𝓟.Pl 𝓐 𝓤 𝓛)
    → Meets 𝓛 (signature 𝓟 𝓐 N (parameters 𝓐 Bs Cs)) (𝓡.run (γ k)) (closing 𝓛 (ended 𝓟 𝓐 N (parameters 𝓐 Bs Cs)) (clauses 𝓟 𝓐 N (parameters 𝓐 Bs Cs) 𝓤 Done))
unfolding tables_of
reads 𝓟 𝓐 N Bs Cs Planned Done fits ends {𝓤 = 𝓤} 𝓛 𝓜 𝓡 γ k f recorder answer closed r₀ c₀ t₀ r₁ c₁ t₁ r₂ c₂ t₂ =
    let As : List Datum = parameters 𝓐 Bs Cs in
    entered 𝓤 𝓛.H (triple_of 𝓛 (signature 𝓟 𝓐 N As) (closing 𝓛 (ended 𝓟 𝓐 N As) (clauses 𝓟 𝓐 N As 𝓤 Done))) (tables 𝓤 𝓛.H 𝓜 𝓡 γ).C (tables 𝓤 𝓛.H 𝓜 𝓡 γ).Λ k (function 𝓟 𝓐 N Bs Cs f recorder answer) closed
    (meets 𝓟 𝓐 N Bs Cs Done 𝓛 (tables_of 𝓤 𝓛.H 𝓜 (tables 𝓤 𝓛.H 𝓜 𝓡 γ)) (function 𝓟 𝓐 N Bs Cs f recorder answer)
    (λ κ κ' q q' b o γ₀ ys b' o' ys' a. walk 𝓟 𝓐 N Bs Cs Done 𝓛 κ κ' q q' b o γ₀ ys b' o' ys' a f recorder answer Planned fits ends (tables_of 𝓤 𝓛.H 𝓜 (tables 𝓤 𝓛.H 𝓜 𝓡 γ))
    (cited 𝓤 𝓛.H (triple_of 𝓛 (plan_signature 𝓟 N As) (closing 𝓛 (plan_ended 𝓟 N As) (plan_clauses 𝓟 N As 𝓤 Planned))) 𝓜 𝓡 γ f r₀ c₀ t₀)
    (cited 𝓤 𝓛.H (record_contract 𝓟 𝓤 𝓛) 𝓜 𝓡 γ recorder r₁ c₁ t₁) (cited 𝓤 𝓛.H (answer_contract 𝓟.Pl 𝓐 𝓤 𝓛) 𝓜 𝓡 γ answer r₂ c₂ t₂)))
