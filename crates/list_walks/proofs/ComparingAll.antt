-- Every function of the form
--     fn compare(a: &[R], x: X, b: &[R], y: X) -> Vd {
--         let p = survey(a, x); let q = survey(b, y);
--         let other = no_record(); let n = turns_of(p, q); let mut m = start(p, q); let mut i: usize = 0;
--         while i < n { let e = place_a(m); let r = look(a, e, other); let f = place_b(m); let s = look(b, f, other); m = turn(m, r, s); i += 1; }
--         verdict(m)
--     }
-- where `survey` gives a value of a list and of plain data, as an instance of `FoldingFirst.antt` does, `look` is as `Reading.antt` has it, and the other callees are functions of plain data
-- that require nothing. Its MIR (`function`) meets every contract that follows (`Comparison`), which may use that each element of both lists is of its type. All types are any types
-- of plain data.
-- Assumes `Logic`, and that the callees meet their contracts.
use mathlib.Core.Path.{◌≡◌, refl, sym, ◌∙◌, ap, subst}
use mathlib.Core.Logic.{⊎_elim}
use mathlib.Core.Bool.{Bool}
use mathlib.Core.WellFounded.InvImage
use mathlib.Core.WellFounded.{WellFounded}
use lib.WfN.{lt-wf_rel}
use Prim.Native.Nat.{ℕ, ◌<◌, ◌≤◌, ◌^◌, ◌+◌, ◌-◌, zero-le}
use native.Mathlib.Nat.{eq-or-lt_of_le}
use native.Mathlib.Omega.{arith}
use borrow.Author.Tests.{lt-ltb, le-ltb}
use lib.Dec.{lit<}
use mathlib.Core.List.{[], ◌∷◌, List}
use lib.ListN.{length, get_or}
use seplogic.Ra.Ura.{Ura}
use base.Fraction.{full_share}
use mir.Syntax.{Callee, Fn, named, imm, w64, unsigned, ty_bool, ty_ref, Ty, Body, place, copy, int, local, value_local, skip as skipᴹ, seq, assign, call, block, loop, cond, exit}
use mir.Syntax.{return, rv_opd, op2, add, lt}
use mir.Val.{Val, vint, vbool}
use base.Logic.{SProp, ent, emp, id⊢, via, fst∗}
use base.Fml.{Lft, Share, ftrue, fat, froom, fdies, flft}
use prog.Routine.{Env as Routines}
use prog.Model.{Model}
use prog.Wp.{Calls, Env, WpFn, Closed, Tables, after_turn}
use types.Logic.{Logic}
use contract.Monad.{fact}
use contract.Running.{Running, tables, tables_of}
use types.Kit.{Go, Seq, runs, Item, ‵, ◌⊛◌, ⋆, at_ret, ◌$◌, ◌∵◌, !, qed, by, move, keep, drop, split, join, rewrite, fsplit, fjoin, use1, suffices, frame, done}
use types.Run.{look, init, store, forget, stop, from, load, lit, of_opd, and_then, no_more, bin, assigns, assigns_last, land, first, blocks, stays, leaves_loop, exec, again, loops}
use types.Run.{returns, enter, alloc1, alloc0, params1, pass1, pass0, free1, free0}
use sound.WpLaws.{fm_of, WpFn-mono}
use denote.RattleType.{RattleType, owns}
use denote.Memory.{pointee}
use denote.Laws.{Is}
use denote.Plain.{uint_Tells, uint_Makes, uint_Lawful}
use denote.Builtin.{usize}
use denote.Ref.{Bor}
use denote.Slice.{slice_ty, slice_val, ShrSlice, Room, shr_slice_vals, shr_slice_Tells, shr_slice_copy}
use denote.Steps.{only, owned, nothing}
use denote.Triple.Entry.{on_entry}
use denote.Triple.Spec.{Meets, triple_of}
use denote.Triple.Statement.{Contract, Triple}
use denote.Triple.Clauses.{Ended, Clauses, closing}
use denote.Triple.Table.{entered}
use denote.Triple.Walked.{says, Stays, stay_none_slice, stay_none, walk_of, Goes-none_slice, ends_at, walked, walk_Meets}
use denote.Exit.{yes}
use denote.Signature.{Signature, plain, shr_slice}
use Rattle.walks.proofs.Args.{Datum, row, uint, Dens, goes}
use Rattle.list_walks.proofs.Elements.{Element, word, Good, good, Goods, list-goods}
use native.Mathlib.Numerals.{add-one}
use Rattle.list_walks.specs.Turns.{turns, reading}
use Rattle.walks.proofs.Slices.{rend, calls-reads}
use Rattle.list_walks.proofs.Reading.{look_clauses, look_contract}
use Rattle.list_walks.proofs.Called.{of_contract, calls-of}
use Rattle.list_walks.proofs.Comparing.{Turn, place_contract, turn_args, turn_of, turn_contract}

module _ (𝓔 : Element) (n : ℕ) where
  abbrev slice : Ty
  slice = slice_ty (ty_ref (named n) imm (pointee 𝓔.R.written))

-- a function of the two surveys
module _ (S : Datum) where
  abbrev survey_args : List Datum
  survey_args = S ∷ S ∷ []

  abbrev of_surveys : {C : Type 0} → (S.D → S.D → C) → Dens survey_args → C
  of_surveys c d = c d.0 d.1.0

-- `survey(list: &[R], x: X) -> S`
module _ (𝓔 : Element) (X S : Datum) (of : List 𝓔.R.D → X.D → S.D) {M : Type 1} (𝓤 : Ura M) where
  abbrev survey_ended : Ended
  survey_ended = rend (row 𝓔.R) (plain (λ _. row X) ∷ []) (plain (λ _. row S)) (yes, tt)

  -- `ensures { λ r. ⌜ r ≡ of (now list.entry) x ⌝ }`
  abbrev survey_clauses : Clauses 𝓤 survey_ended
  survey_clauses κs a = record { ghost = Unit {0}; requires = λ _. emp 𝓤; ensures = λ _ r e. fact 𝓤 (r ≡ of a.0.now a.1.0) }

  abbrev pub survey_contract : (𝓛 : Logic 𝓤) → Contract 𝓤
  survey_contract 𝓛 = triple_of 𝓛 survey_ended.signature (closing 𝓛 survey_ended survey_clauses)

-- what a comparison is made of, and what is ensured of the result
pub record Comparison (𝓔 : Element) (X S D Vd : Datum) : Type 2 where
  pub surveyed : List 𝓔.R.D → X.D → S.D
  pub turn : Turn 𝓔 D
  pub none : 𝓔.R.D
  pub turns_of : S.D → S.D → ℕ
  pub start : S.D → S.D → D.D
  pub verdict : D.D → Vd.D
  pub Done : List 𝓔.R.D → X.D → List 𝓔.R.D → X.D → Vd.D → Type 0
  pub does : (l : List 𝓔.R.D) (x : X.D) (k : List 𝓔.R.D) (y : X.D) → Goods 𝓔.R l → Goods 𝓔.R k
      → Done l x k y (verdict (turns (reading turn.at_a turn.at_b turn.turn l k none) (turns_of (surveyed l x) (surveyed k y)) (start (surveyed l x) (surveyed k y))))

pub record Names : Type 0 where
  pub survey : Callee
  pub no_record : Callee
  pub turns_of : Callee
  pub start : Callee
  pub place_a : Callee
  pub place_b : Callee
  pub look : Callee
  pub turn : Callee
  pub verdict : Callee

-- that the callees, by their names in a table of calls, meet their contracts
pub record Known (𝓔 : Element) (X S D Vd : Datum) (T : Comparison 𝓔 X S D Vd) (f : Names) {M : Type 1} {𝓤 : Ura M} (𝓛 : Logic 𝓤) (C : Calls 𝓤 𝓛.H) : Type 1 where
  pub known_survey : Triple 𝓤 (C f.survey) (survey_contract 𝓔 X S T.surveyed 𝓤 𝓛)
  pub known_none : Triple 𝓤 (C f.no_record) (of_contract [] 𝓔.R 𝓤 𝓛 (λ _. T.none))
  pub known_turns : Triple 𝓤 (C f.turns_of) (of_contract (survey_args S) (uint w64) 𝓤 𝓛 (of_surveys S T.turns_of))
  pub known_start : Triple 𝓤 (C f.start) (of_contract (survey_args S) D 𝓤 𝓛 (of_surveys S T.start))
  pub known_a : Triple 𝓤 (C f.place_a) (place_contract D T.turn.at_a 𝓛)
  pub known_b : Triple 𝓤 (C f.place_b) (place_contract D T.turn.at_b 𝓛)
  pub known_look : Triple 𝓤 (C f.look) (look_contract 𝓔 𝓤 𝓛)
  pub known_turn : Triple 𝓤 (C f.turn) (turn_contract 𝓔 D T.turn 𝓤 𝓛)
  pub known_verdict : Triple 𝓤 (C f.verdict) (of_contract (D ∷ []) Vd 𝓤 𝓛 (λ m. T.verdict m.0))

module _ (𝓔 : Element) (X S D Vd : Datum) where
  abbrev pub signature : Signature
  signature = record {
    lifetimes = 2;
    outlives = [];
    params = shr_slice 0 tt (λ _. row 𝓔.R) ∷ plain (λ _. row X) ∷ shr_slice 1 tt (λ _. row 𝓔.R) ∷ plain (λ _. row X) ∷ [];
    result = plain (λ _. row Vd);
  }

  abbrev pub ended : Ended
  ended = record { signature = signature; kept = (yes, (yes, (yes, (yes, tt)))) }

  abbrev stayed : Stays ended.signature.params ended.kept
  stayed = (
    stay_none_slice (0 ∷ []) tt (plain (λ _. row 𝓔.R)) yes,
    (stay_none (λ _. row X) yes, (stay_none_slice (1 ∷ []) tt (plain (λ _. row 𝓔.R)) yes, (stay_none (λ _. row X) yes, tt))),
  )

  -- a turn, after its test
  abbrev more : Names → Body
  more f = seq (call f.place_a (copy (place 9 []) ∷ []) (place 11 []))
      (seq (call f.look (copy (place 1 []) ∷ copy (place 11 []) ∷ copy (place 7 []) ∷ []) (place 12 []))
      (seq (call f.place_b (copy (place 9 []) ∷ []) (place 13 []))
      (seq (call f.look (copy (place 3 []) ∷ copy (place 13 []) ∷ copy (place 7 []) ∷ []) (place 14 []))
      (seq (call f.turn (copy (place 9 []) ∷ copy (place 12 []) ∷ copy (place 14 []) ∷ []) (place 9 []))
      (assign (place 10 []) (op2 (add unsigned) (copy (place 10 [])) (int w64 1)))))))

  abbrev rest : Names → Body
  rest f = seq (call f.verdict (copy (place 9 []) ∷ []) (place 0 [])) return

  -- the locals: the result, a, x, b, y, p, q, other, n, m, i, e, r, f, s, and the test
  abbrev pub function : Names → Fn
  function f = record {
    lifetimes = 2;
    outlives = [];
    ty_params = [];
    givens = 0;
    params = 4;
    locals = local Vd.ty value_local ∷ local (slice 𝓔 0) value_local ∷ local X.ty value_local ∷ local (slice 𝓔 1) value_local ∷ local X.ty value_local
        ∷ local S.ty value_local ∷ local S.ty value_local ∷ local 𝓔.R.ty value_local ∷ local word value_local ∷ local D.ty value_local ∷ local word value_local
        ∷ local word value_local ∷ local 𝓔.R.ty value_local ∷ local word value_local ∷ local 𝓔.R.ty value_local ∷ local ty_bool value_local ∷ [];
    body = seq (call f.survey (copy (place 1 []) ∷ copy (place 2 []) ∷ []) (place 5 []))
        (seq (call f.survey (copy (place 3 []) ∷ copy (place 4 []) ∷ []) (place 6 []))
        (seq (call f.no_record [] (place 7 [])) (seq (call f.turns_of (copy (place 5 []) ∷ copy (place 6 []) ∷ []) (place 8 []))
        (seq (call f.start (copy (place 5 []) ∷ copy (place 6 []) ∷ []) (place 9 []))
        (seq (assign (place 10 []) (rv_opd (int w64 0)))
        (seq (block (loop (seq (assign (place 15 []) (op2 (lt unsigned) (copy (place 10 [])) (copy (place 8 [])))) (seq (cond (copy (place 15 [])) skipᴹ (exit 1)) (more f)))))
        (rest f)))))));
  }

  module _ (T : Comparison 𝓔 X S D Vd) {M : Type 1} (𝓤 : Ura M) where
    -- `ensures { λ r. ⌜ Done (now a.entry) x (now b.entry) y r ⌝ }`
    abbrev pub clauses : Clauses 𝓤 ended
    clauses κs a = record {
      ghost = Unit {0};
      requires = λ _. emp 𝓤;
      ensures = λ _ r e. fact 𝓤 (T.Done a.0.now a.1.0 a.1.1.0.now a.1.1.1.0 r);
    }

    abbrev pub contract_of : (𝓛 : Logic 𝓤) → Contract 𝓤
    contract_of 𝓛 = triple_of 𝓛 signature (closing 𝓛 ended clauses)

module _ (𝓔 : Element) (X S D Vd : Datum) (T : Comparison 𝓔 X S D Vd) (f : Names) {M : Type 1} {𝓤 : Ura M} (𝓛 : Logic 𝓤) where
  open 𝓛 use {H}

  abbrev E : Type 0
  E = 𝓔.R.D

  abbrev R : RattleType
  R = row 𝓔.R

  abbrev rvals : E → List Val
  rvals y = 𝓔.R.val y ∷ []

  abbrev d : E
  d = T.none

  module _ (κ κ' : Lft) (q q₂ : Share) (b o b₂ o₂ : ℕ) (xs ys : List E) (x y : X.D) where
    abbrev x₁ : Bor (List E)
    x₁ = record { ref_ptr = (b, o); now = xs }

    abbrev x₂ : Bor (List E)
    x₂ = record { ref_ptr = (b₂, o₂); now = ys }

    abbrev s₁ : Val
    s₁ = slice_val (b, o) (length xs)

    abbrev s₂ : Val
    s₂ = slice_val (b₂, o₂) (length ys)

    abbrev v₁ : Val
    v₁ = X.val x

    abbrev v₂ : Val
    v₂ = X.val y

    abbrev p₁ : S.D
    p₁ = T.surveyed xs x

    abbrev p₂ : S.D
    p₂ = T.surveyed ys y

    abbrev n : ℕ
    n = T.turns_of p₁ p₂

    abbrev c : D.D
    c = T.start p₁ p₂

    abbrev a : Bor (List E) × (X.D × (Bor (List E) × (X.D × Unit {0})))
    a = (x₁, (x, (x₂, (y, tt))))

    abbrev vals : List Val × (List Val × (List Val × (List Val × Unit {0})))
    vals = (s₁ ∷ [], (v₁ ∷ [], (s₂ ∷ [], (v₂ ∷ [], tt))))

    abbrev one : D.D → D.D
    one = reading T.turn.at_a T.turn.at_b T.turn.turn xs ys d

    abbrev acc : ℕ → D.D
    acc i = turns one i c

    abbrev mine₁ : Item 𝓤
    mine₁ = ‵ ((ShrSlice (named 0) κ R).own_val x₁ (s₁ ∷ []))

    abbrev mine₂ : Item 𝓤
    mine₂ = ‵ ((ShrSlice (named 1) κ' R).own_val x₂ (s₂ ∷ []))

    abbrev Post : Val → SProp 𝓤
    Post = (walk_of 𝓛 (ended 𝓔 X S D Vd) (stayed 𝓔 X S D Vd) (clauses 𝓔 X S D Vd T 𝓤)).post (((κ, (κ', tt)), (q, (q₂, tt)), tt, a, vals), tt)

    module _ (room : Room R (length xs)) (room₂ : Room R (length ys)) (g₁ : Good X x) (g₂ : Good X y) where
      done-it : Goods 𝓔.R xs → Goods 𝓔.R ys → (r : Vd.D) → r ≡ T.verdict (acc n) → T.Done xs x ys y r
      done-it gs gs' r e = subst (T.Done xs x ys y) (sym e) (T.does xs x ys y gs gs')

      exits : (r : Vd.D) (u : Val) → Is (row Vd) r (u ∷ []) → T.Done xs x ys y r → ent 𝓤 (⋆ 𝓛 (‵ (flft κ q) ∷ ‵ (flft κ' q₂) ∷ mine₁ ∷ mine₂ ∷ [])) (Post u)
      exits r u is dn =
          qed 𝓛 (‵ (flft κ q) ∷ ‵ (flft κ' q₂) ∷ mine₁ ∷ mine₂ ∷ []) ∵
          suffices ! _ (ends_at 𝓛 (ended 𝓔 X S D Vd) (stayed 𝓔 X S D Vd) (clauses 𝓔 X S D Vd T 𝓤) (((κ, (κ', tt)), (q, (q₂, tt)), tt, a, vals), tt) u r (tt, (tt, (tt, (tt, tt))))
          (tt, (tt, (tt, (tt, tt))))) $ says ! dn $
          -- [true; the first token; the second; a; b]
          nothing ! $ move ! (2 ∷ 0 ∷ []) $ join ! $ move ! (1 ∷ 0 ∷ []) $ join ! $ frame ! $
          nothing ! $ owned ! (row X) (Is (row X)) (X.makes 𝓛) y _ g₂ $ fjoin ! $ move ! (2 ∷ 0 ∷ []) $ fjoin ! $
          owned ! (row X) (Is (row X)) (X.makes 𝓛) x _ g₁ $ fjoin ! $
          move ! (1 ∷ 0 ∷ []) $ fjoin ! $ owned ! (row Vd) (Is (row Vd)) (Vd.makes 𝓛) r _ is $ move ! (1 ∷ 0 ∷ []) $ done !

      abbrev Upto : Type 0
      Upto = (i : ℕ) × (i ≤ n) × Good D (acc i)

      abbrev Nearer : Upto → Upto → Type 0
      Nearer j i = n - j.0 < n - i.0

      Nearer-wf : WellFounded Nearer
      Nearer-wf = InvImage.wf (λ (i : Upto). n - i.0) lt-wf_rel.wf

      next : (i : ℕ) → i < n → (i + 1 ≤ n) × (n - (i + 1) < n - i)
      next i less = (omega arith, omega arith)

      begins : Good D c → Good D (acc 0)
      unfolding turns
      begins g = g

      acc-next : (i : ℕ) → acc (i + 1) ≡ one (acc i)
      unfolding turns
      acc-next i = ap acc (add-one i)

      -- a turn at what was read is the turn
      turned : (i : ℕ) (e : D.D) (r s : E) (p p' : ℕ) → p ≡ T.turn.at_a (acc i) → p' ≡ T.turn.at_b (acc i) → r ≡ get_or xs p d → s ≡ get_or ys p' d → e ≡ T.turn.turn (acc i) r s
          → e ≡ acc (i + 1)
      turned i e r s p p' hp hp' hr hs he =
          he ∙ ap (λ (z : E). T.turn.turn (acc i) z s) (hr ∙ ap (λ (m : ℕ). get_or xs m d) hp) ∙ ap (λ (z : E). T.turn.turn (acc i) (get_or xs (T.turn.at_a (acc i)) d) z)
          (hs ∙ ap (λ (m : ℕ). get_or ys m d) hp') ∙ sym (acc-next i)

      module _ (l₀ l₁ l₂ l₃ l₄ l₅ l₆ l₇ l₈ l₉ l₁₀ l₁₁ l₁₂ l₁₃ l₁₄ l₁₅ : ℕ) where
        abbrev En : Env 𝓤 H
        En = (Vd.ty, l₀) ∷ (slice 𝓔 0, l₁) ∷ (X.ty, l₂) ∷ (slice 𝓔 1, l₃) ∷ (X.ty, l₄) ∷ (S.ty, l₅) ∷ (S.ty, l₆) ∷ (𝓔.R.ty, l₇) ∷ (word, l₈) ∷ (D.ty, l₉)
            ∷ (word, l₁₀) ∷ (word, l₁₁) ∷ (𝓔.R.ty, l₁₂) ∷ (word, l₁₃) ∷ (𝓔.R.ty, l₁₄) ∷ (ty_bool, l₁₅) ∷ []

        abbrev At : Upto → List (Item 𝓤)
        At i = ‵ (flft κ q) ∷ ‵ (flft κ' q₂) ∷ mine₁ ∷ mine₂
            ∷ ‵ (froom ty_bool l₁₅ 0) ∷ ‵ (fdies ty_bool l₁₅) ∷ ‵ (froom 𝓔.R.ty l₁₄ 0) ∷ ‵ (fdies 𝓔.R.ty l₁₄) ∷ ‵ (froom word l₁₃ 0) ∷ ‵ (fdies word l₁₃)
            ∷ ‵ (froom 𝓔.R.ty l₁₂ 0) ∷ ‵ (fdies 𝓔.R.ty l₁₂) ∷ ‵ (froom word l₁₁ 0) ∷ ‵ (fdies word l₁₁)
            ∷ ‵ (fat full_share word l₁₀ 0 (vint w64 i.0)) ∷ ‵ (fdies word l₁₀) ∷ ‵ (fat full_share D.ty l₉ 0 (D.val (acc i.0))) ∷ ‵ (fdies D.ty l₉)
            ∷ ‵ (fat full_share word l₈ 0 (vint w64 n)) ∷ ‵ (fdies word l₈) ∷ ‵ (fat full_share 𝓔.R.ty l₇ 0 (𝓔.R.val d)) ∷ ‵ (fdies 𝓔.R.ty l₇)
            ∷ ‵ (fat full_share S.ty l₆ 0 (S.val p₂)) ∷ ‵ (fdies S.ty l₆) ∷ ‵ (fat full_share S.ty l₅ 0 (S.val p₁)) ∷ ‵ (fdies S.ty l₅)
            ∷ ‵ (fat full_share X.ty l₄ 0 v₂) ∷ ‵ (fdies X.ty l₄) ∷ ‵ (fat full_share (slice 𝓔 1) l₃ 0 s₂) ∷ ‵ (fdies (slice 𝓔 1) l₃)
            ∷ ‵ (fat full_share X.ty l₂ 0 v₁) ∷ ‵ (fdies X.ty l₂) ∷ ‵ (fat full_share (slice 𝓔 0) l₁ 0 s₁) ∷ ‵ (fdies (slice 𝓔 0) l₁)
            ∷ ‵ (froom Vd.ty l₀ 0) ∷ ‵ (fdies Vd.ty l₀) ∷ []

      module _ (𝓣 : Tables 𝓤 H) (known : Known 𝓔 X S D Vd T f 𝓛 𝓣.C) where
        module _ (gs : Goods 𝓔.R xs) (gs' : Goods 𝓔.R ys) (gd : Good 𝓔.R d) (n-fits : n < 2 ^ 64) (g : Good D c) (l₀ l₁ l₂ l₃ l₄ l₅ l₆ l₇ l₈ l₉ l₁₀ l₁₁ l₁₂ l₁₃ l₁₄ l₁₅ : ℕ) where
          -- the loop, and what follows it
          loops-on : Seq Go 𝓛 (At l₀ l₁ l₂ l₃ l₄ l₅ l₆ l₇ l₈ l₉ l₁₀ l₁₁ l₁₂ l₁₃ l₁₄ l₁₅ (0, zero-le, begins g))
              (runs 𝓣.C 𝓣.Λ (En l₀ l₁ l₂ l₃ l₄ l₅ l₆ l₇ l₈ l₉ l₁₀ l₁₁ l₁₂ l₁₃ l₁₄ l₁₅)
              (seq (block (loop (seq (assign (place 15 []) (op2 (lt unsigned) (copy (place 10 [])) (copy (place 8 []))))
              (seq (cond (copy (place 15 [])) skipᴹ (exit 1)) (more 𝓔 X S D Vd f))))) (rest 𝓔 X S D Vd f)) (at_ret (En l₀ l₁ l₂ l₃ l₄ l₅ l₆ l₇ l₈ l₉ l₁₀ l₁₁ l₁₂ l₁₃ l₁₄ l₁₅) Post))
          unfolding after_turn
          loops-on =
              first ! $ blocks ! $ loops ! 𝓣 Nearer Nearer-wf (At l₀ l₁ l₂ l₃ l₄ l₅ l₆ l₇ l₈ l₉ l₁₀ l₁₁ l₁₂ l₁₃ l₁₄ l₁₅) (λ i.
              -- [the first token; the second; a; b; _15 4; …]
              assigns ! (bin ! (load ! (from ! (stop !)) (look ! 14 refl)) (load ! (from ! (stop !)) (look ! 18 refl)) tt) (from ! (stop !)) (init ! 4 refl (tt, tt)) $
              ⊎_elim (λ past.
              rewrite ! 4 (λ (u : Bool). ‵ (fat full_share ty_bool l₁₅ 0 (vbool u))) (le-ltb i.0 n (omega arith)) refl $
              leaves_loop ! (load ! (from ! (stop !)) (look ! 4 refl)) $ exec ! 𝓣.C 𝓣.Λ (En l₀ l₁ l₂ l₃ l₄ l₅ l₆ l₇ l₈ l₉ l₁₀ l₁₁ l₁₂ l₁₃ l₁₄ l₁₅) (rest 𝓔 X S D Vd f)
              (at_ret (En l₀ l₁ l₂ l₃ l₄ l₅ l₆ l₇ l₈ l₉ l₁₀ l₁₁ l₁₂ l₁₃ l₁₄ l₁₅) Post) $
              calls-of ! 𝓣 (D ∷ []) Vd (λ m. T.verdict m.0) known.known_verdict (acc i.0, tt) (i.2, tt)
              (and_then ! (load ! (from ! (stop !)) (look ! 17 refl)) (no_more !)) (λ r u is e.
              land ! (from ! (stop !)) (init ! 34 refl (Vd.typed 𝓛 r _ is)) $
              returns ! (look ! 34 refl) $ forget ! 4 refl $ forget ! 14 refl $ forget ! 16 refl $ forget ! 18 refl $ forget ! 20 refl $ forget ! 22 refl $ forget ! 24 refl $
              forget ! 26 refl $ forget ! 28 refl $ forget ! 30 refl $ forget ! 32 refl $ forget ! 34 refl $
              move ! (34 ∷ 35 ∷ []) $ free1 ! $ move ! (32 ∷ 33 ∷ []) $ free1 ! $ move ! (30 ∷ 31 ∷ []) $ free1 ! $ move ! (28 ∷ 29 ∷ []) $ free1 ! $ move ! (26 ∷ 27 ∷ []) $
              free1 ! $ move ! (24 ∷ 25 ∷ []) $ free1 ! $ move ! (22 ∷ 23 ∷ []) $ free1 ! $ move ! (20 ∷ 21 ∷ []) $ free1 ! $ move ! (18 ∷ 19 ∷ []) $ free1 ! $
              move ! (16 ∷ 17 ∷ []) $ free1 ! $ move ! (14 ∷ 15 ∷ []) $ free1 ! $ move ! (12 ∷ 13 ∷ []) $ free1 ! $ move ! (10 ∷ 11 ∷ []) $ free1 ! $
              move ! (8 ∷ 9 ∷ []) $ free1 ! $ move ! (6 ∷ 7 ∷ []) $ free1 ! $ move ! (4 ∷ 5 ∷ []) $ free1 ! $ free0 ! $
              by ! (exits r u is (done-it gs gs' r (e ∙ ap (λ (m : ℕ). T.verdict (acc m)) past))))) (λ less.
              rewrite ! 4 (λ (u : Bool). ‵ (fat full_share ty_bool l₁₅ 0 (vbool u))) (lt-ltb i.0 n less) refl $
              stays ! (load ! (from ! (stop !)) (look ! 4 refl)) $
              calls-of ! 𝓣 (D ∷ []) (uint w64) (λ m. T.turn.at_a m.0) known.known_a (acc i.0, tt) (i.2, tt)
              (and_then ! (load ! (from ! (stop !)) (look ! 17 refl)) (no_more !)) (λ p u is-p e-p.
              land ! (from ! (stop !)) (init ! 12 refl ((uint_Lawful 𝓛 w64).typed p _ is-p).0) $
              -- a copy of a is passed
              move ! (2 ∷ []) $ use1 𝓛 (mine₁ ⊛ mine₁) ((shr_slice_copy 𝓛 (named 0) κ R 𝓔.R.shared_laws).twice x₁ (s₁ ∷ [])) $ split ! $ move ! (2 ∷ 0 ∷ []) $
              calls-reads ! (fm_of 𝓤 H 𝓛.laws 𝓣) R (plain (λ _. usize) ∷ plain (λ _. R) ∷ []) (plain (λ _. R)) (yes, (yes, tt)) (look_clauses 𝓔 𝓤) known.known_look κ q
              (uint_Makes 𝓛 w64, (𝓔.R.makes 𝓛, tt)) (named 0) x₁ s₁ (p, (d, tt)) (u ∷ [], (rvals d, tt)) (is-p, (gd, tt)) tt (id⊢ 𝓤 (emp 𝓤)) (λ r. r ≡ get_or xs p d)
              (λ r ws. id⊢ 𝓤 _)
              (and_then ! (load ! (from ! (stop !)) (look ! 32 refl)) (and_then ! (load ! (from ! (stop !)) (look ! 12 refl))
              (and_then ! (load ! (from ! (stop !)) (look ! 20 refl)) (no_more !)))) (λ r vr is-r e-r.
              land ! (from ! (stop !)) (init ! 10 refl (𝓔.R.typed 𝓛 r _ is-r)) $
              rewrite ! 10 (λ (m : Val). ‵ (fat full_share 𝓔.R.ty l₁₂ 0 m)) (ap only (𝓔.R.tells r (vr ∷ []) is-r)) refl $
              move ! (0 ∷ 2 ∷ 1 ∷ []) $
              calls-of ! 𝓣 (D ∷ []) (uint w64) (λ m. T.turn.at_b m.0) known.known_b (acc i.0, tt) (i.2, tt)
              (and_then ! (load ! (from ! (stop !)) (look ! 17 refl)) (no_more !)) (λ p' u' is-p' e-p'.
              land ! (from ! (stop !)) (init ! 8 refl ((uint_Lawful 𝓛 w64).typed p' _ is-p').0) $
              -- a copy of b is passed
              move ! (3 ∷ []) $ use1 𝓛 (mine₂ ⊛ mine₂) ((shr_slice_copy 𝓛 (named 1) κ' R 𝓔.R.shared_laws).twice x₂ (s₂ ∷ [])) $ split ! $ move ! (3 ∷ 0 ∷ []) $
              calls-reads ! (fm_of 𝓤 H 𝓛.laws 𝓣) R (plain (λ _. usize) ∷ plain (λ _. R) ∷ []) (plain (λ _. R)) (yes, (yes, tt)) (look_clauses 𝓔 𝓤) known.known_look κ' q₂
              (uint_Makes 𝓛 w64, (𝓔.R.makes 𝓛, tt)) (named 1) x₂ s₂ (p', (d, tt)) (u' ∷ [], (rvals d, tt)) (is-p', (gd, tt)) tt (id⊢ 𝓤 (emp 𝓤))
              (λ r. r ≡ get_or ys p' d) (λ r ws. id⊢ 𝓤 _)
              (and_then ! (load ! (from ! (stop !)) (look ! 28 refl)) (and_then ! (load ! (from ! (stop !)) (look ! 8 refl))
              (and_then ! (load ! (from ! (stop !)) (look ! 20 refl)) (no_more !)))) (λ s vs is-s e-s.
              land ! (from ! (stop !)) (init ! 6 refl (𝓔.R.typed 𝓛 s _ is-s)) $
              rewrite ! 6 (λ (m : Val). ‵ (fat full_share 𝓔.R.ty l₁₄ 0 m)) (ap only (𝓔.R.tells s (vs ∷ []) is-s)) refl $
              move ! (2 ∷ 0 ∷ 3 ∷ 1 ∷ []) $
              calls-of ! 𝓣 (turn_args 𝓔 D) D (turn_of 𝓔 D T.turn) known.known_turn (acc i.0, (r, (s, tt))) (i.2, (good 𝓔.R r vr is-r, (good 𝓔.R s vs is-s, tt)))
              (and_then ! (load ! (from ! (stop !)) (look ! 17 refl)) (and_then ! (load ! (from ! (stop !)) (look ! 11 refl))
              (and_then ! (load ! (from ! (stop !)) (look ! 7 refl)) (no_more !)))) (λ e ue is-e h-e.
              land ! (from ! (stop !)) (store ! 16 refl (D.typed 𝓛 e _ is-e)) $
              rewrite ! 16 (λ (m : Val). ‵ (fat full_share D.ty l₉ 0 m)) (ap only (D.tells e (ue ∷ []) is-e) ∙ ap D.val (turned i.0 e r s p p' e-p e-p' e-r e-s h-e))
              refl $
              assigns_last ! (bin ! (load ! (from ! (stop !)) (look ! 14 refl)) (lit ! tt) (record { fits = omega arith })) (from ! (stop !))
              (store ! 14 refl (tt, record { fits = omega arith })) $
              forget ! 4 refl $ forget ! 6 refl $ forget ! 8 refl $ forget ! 10 refl $ forget ! 12 refl $
              again ! Nearer (At l₀ l₁ l₂ l₃ l₄ l₅ l₆ l₇ l₈ l₉ l₁₀ l₁₁ l₁₂ l₁₃ l₁₄ l₁₅) i
              (i.0 + 1, (next i.0 less).0, subst (Good D) (turned i.0 e r s p p' e-p e-p' e-r e-s h-e) (good D e ue is-e)) (next i.0 less).1))))))
              (eq-or-lt_of_le i.1)) (0, zero-le, begins g)

        walk : ent 𝓤 (on_entry 𝓛 (signature 𝓔 X S D Vd) (κ, (κ', tt)) (q, (q₂, tt)) a vals)
            (WpFn 𝓤 H 𝓣.C 𝓣.Λ (function 𝓔 X S D Vd f) (s₁ ∷ v₁ ∷ s₂ ∷ v₂ ∷ []) Post)
        unfolding turns
        walk =
            qed 𝓛 ((‵ (flft κ q) ⊛ (‵ (flft κ' q₂) ⊛ ‵ ftrue)) ∷ ‵ (owns (ShrSlice (named 0) κ R ∷ row X ∷ ShrSlice (named 1) κ' R ∷ row X ∷ []) a vals) ∷ []) ∵ enter ! 𝓣.C
            𝓣.Λ (function 𝓔 X S D Vd f) (s₁ ∷ v₁ ∷ s₂ ∷ v₂ ∷ []) _ $
            alloc1 ! (λ l₀. alloc1 ! (λ l₁. alloc1 ! (λ l₂. alloc1 ! (λ l₃.
            alloc1 ! (λ l₄. alloc1 ! (λ l₅. alloc1 ! (λ l₆. alloc1 ! (λ l₇.
            alloc1 ! (λ l₈. alloc1 ! (λ l₉. alloc1 ! (λ l₁₀. alloc1 ! (λ l₁₁. alloc1 ! (λ l₁₂. alloc1 ! (λ l₁₃. alloc1 ! (λ l₁₄. alloc1 ! (λ l₁₅. alloc0 ! $ params1 ! $
            pass1 ! (init ! 28 refl (tt, (tt, (record { fits = room.0 }, tt)))) $ pass1 ! (init ! 26 refl (X.typed 𝓛 x _ g₁)) $
            pass1 ! (init ! 24 refl (tt, (tt, (record { fits = room₂.0 }, tt)))) $ pass1 ! (init ! 22 refl (X.typed 𝓛 y _ g₂)) $ pass0 ! $
            -- [_15; …; the tokens; what is owned]: the second is a, and the fourth b
            move ! (33 ∷ []) $ fsplit ! $ move ! (1 ∷ []) $ fsplit ! $ drop ! $ fsplit ! $ move ! (35 ∷ []) $ split ! $ move ! (1 ∷ []) $ split ! $
            -- [the second token; true; the first; b; the others; a; _15; …]
            keep ! (2 ∷ 0 ∷ 5 ∷ 3 ∷ 6 ∷ 7 ∷ 8 ∷ 9 ∷ 10 ∷ 11 ∷ 12 ∷ 13 ∷ 14 ∷ 15 ∷ 16 ∷ 17 ∷ 18 ∷ 19 ∷ 20 ∷ 21 ∷
            22 ∷ 23 ∷ 24 ∷ 25 ∷ 26 ∷ 27 ∷ 28 ∷ 29 ∷ 30 ∷ 31 ∷ 32 ∷ 33 ∷ 34 ∷ 35 ∷ 36 ∷ 37 ∷ []) $
            -- [the first token; the second; a; b; _15 4; …]: each list shows that its elements are of their type
            move ! (0 ∷ 2 ∷ []) $ list-goods ! 𝓔.R tt (named 0) κ q x₁ s₁ _ (λ gs.
            move ! (2 ∷ 3 ∷ []) $ list-goods ! 𝓔.R tt (named 1) κ' q₂ x₂ s₂ _ (λ gs'.
            move ! (2 ∷ 0 ∷ 3 ∷ 1 ∷ []) $
            -- a copy of a is passed
            move ! (2 ∷ []) $ use1 𝓛 (mine₁ ⊛ mine₁) ((shr_slice_copy 𝓛 (named 0) κ R 𝓔.R.shared_laws).twice x₁ (s₁ ∷ [])) $ split ! $ move ! (2 ∷ 0 ∷ []) $
            calls-reads ! (fm_of 𝓤 H 𝓛.laws 𝓣) R (plain (λ _. row X) ∷ []) (plain (λ _. row S)) (yes, tt) (survey_clauses 𝓔 X S T.surveyed 𝓤) known.known_survey κ q
            (X.makes 𝓛, tt) (named 0) x₁ s₁ (x, tt) (v₁ ∷ [], tt) (g₁, tt) tt (id⊢ 𝓤 (emp 𝓤)) (λ r. r ≡ p₁) (λ r ws. id⊢ 𝓤 _)
            (and_then ! (load ! (from ! (stop !)) (look ! 32 refl)) (and_then ! (load ! (from ! (stop !)) (look ! 30 refl)) (no_more !))) (λ p up is-p e-p.
            land ! (from ! (stop !)) (init ! 24 refl (S.typed 𝓛 p _ is-p)) $
            rewrite ! 24 (λ (m : Val). ‵ (fat full_share S.ty l₅ 0 m)) (ap only (S.tells p (up ∷ []) is-p) ∙ ap S.val e-p) refl $
            move ! (0 ∷ 2 ∷ 1 ∷ []) $
            -- a copy of b is passed
            move ! (3 ∷ []) $ use1 𝓛 (mine₂ ⊛ mine₂) ((shr_slice_copy 𝓛 (named 1) κ' R 𝓔.R.shared_laws).twice x₂ (s₂ ∷ [])) $ split ! $ move ! (3 ∷ 0 ∷ []) $
            calls-reads ! (fm_of 𝓤 H 𝓛.laws 𝓣) R (plain (λ _. row X) ∷ []) (plain (λ _. row S)) (yes, tt) (survey_clauses 𝓔 X S T.surveyed 𝓤) known.known_survey κ' q₂
            (X.makes 𝓛, tt) (named 1) x₂ s₂ (y, tt) (v₂ ∷ [], tt) (g₂, tt) tt (id⊢ 𝓤 (emp 𝓤)) (λ r. r ≡ p₂) (λ r ws. id⊢ 𝓤 _)
            (and_then ! (load ! (from ! (stop !)) (look ! 28 refl)) (and_then ! (load ! (from ! (stop !)) (look ! 26 refl)) (no_more !))) (λ p' up' is-p' e-p'.
            land ! (from ! (stop !)) (init ! 22 refl (S.typed 𝓛 p' _ is-p')) $
            rewrite ! 22 (λ (m : Val). ‵ (fat full_share S.ty l₆ 0 m)) (ap only (S.tells p' (up' ∷ []) is-p') ∙ ap S.val e-p') refl $
            move ! (2 ∷ 0 ∷ 3 ∷ 1 ∷ []) $
            calls-of ! 𝓣 [] 𝓔.R (λ _. T.none) known.known_none tt tt (no_more !) (λ r u is e.
            land ! (from ! (stop !)) (init ! 20 refl (𝓔.R.typed 𝓛 r _ is)) $
            rewrite ! 20 (λ (m : Val). ‵ (fat full_share 𝓔.R.ty l₇ 0 m)) (ap only (𝓔.R.tells r (u ∷ []) is) ∙ ap 𝓔.R.val e) refl $
            calls-of ! 𝓣 (survey_args S) (uint w64) (of_surveys S T.turns_of) known.known_turns (p₁, (p₂, tt))
            (subst (Good S) e-p (good S p up is-p), (subst (Good S) e-p' (good S p' up' is-p'), tt))
            (and_then ! (load ! (from ! (stop !)) (look ! 25 refl)) (and_then ! (load ! (from ! (stop !)) (look ! 23 refl)) (no_more !))) (λ k uk is-k e-k.
            land ! (from ! (stop !)) (init ! 18 refl ((uint_Lawful 𝓛 w64).typed k _ is-k).0) $
            rewrite ! 18 (λ (m : Val). ‵ (fat full_share word l₈ 0 m)) (ap only (uint_Tells w64 k (uk ∷ []) is-k) ∙ ap (vint w64) e-k) refl $
            calls-of ! 𝓣 (survey_args S) D (of_surveys S T.start) known.known_start (p₁, (p₂, tt))
            (subst (Good S) e-p (good S p up is-p), (subst (Good S) e-p' (good S p' up' is-p'), tt))
            (and_then ! (load ! (from ! (stop !)) (look ! 25 refl)) (and_then ! (load ! (from ! (stop !)) (look ! 23 refl)) (no_more !))) (λ z uz is-z e-z.
            land ! (from ! (stop !)) (init ! 16 refl (D.typed 𝓛 z _ is-z)) $
            rewrite ! 16 (λ (m : Val). ‵ (fat full_share D.ty l₉ 0 m)) (ap only (D.tells z (uz ∷ []) is-z) ∙ ap D.val e-z) refl $
            assigns ! (of_opd ! (lit ! tt)) (from ! (stop !)) (init ! 14 refl (tt, record { fits = lit< tt })) $
            loops-on gs gs' (subst (Good 𝓔.R) e (good 𝓔.R r u is)) (subst (λ (m : ℕ). m < 2 ^ 64) e-k is-k.1)
            (subst (Good D) e-z (good D z uz is-z)) l₀ l₁ l₂ l₃ l₄ l₅ l₆ l₇ l₈ l₉ l₁₀ l₁₁ l₁₂ l₁₃ l₁₄ l₁₅)))))))))))))))))))))))

  module _ (𝓣 : Tables 𝓤 H) (known : Known 𝓔 X S D Vd T f 𝓛 𝓣.C) where
    meets : Meets 𝓛 (signature 𝓔 X S D Vd) (WpFn 𝓤 H 𝓣.C 𝓣.Λ (function 𝓔 X S D Vd f)) (closing 𝓛 (ended 𝓔 X S D Vd) (clauses 𝓔 X S D Vd T 𝓤))
    meets = walk_Meets 𝓛 (ended 𝓔 X S D Vd) (stayed 𝓔 X S D Vd) (
      Goes-none_slice 𝓛 2 (0 ∷ []) tt (plain (λ _. R)) yes,
      (
        (goes 2 𝓛 (X ∷ [])).0,
        (Goes-none_slice 𝓛 2 (1 ∷ []) tt (plain (λ _. R)) yes, goes 2 𝓛 (X ∷ [])),
      ),
    )
        (clauses 𝓔 X S D Vd T 𝓤)
        (WpFn 𝓤 H 𝓣.C 𝓣.Λ (function 𝓔 X S D Vd f)) (WpFn-mono 𝓤 H 𝓛.laws 𝓣 (function 𝓔 X S D Vd f))
        (walked 𝓛 (ended 𝓔 X S D Vd) (stayed 𝓔 X S D Vd) (clauses 𝓔 X S D Vd T 𝓤) (WpFn 𝓤 H 𝓣.C 𝓣.Λ (function 𝓔 X S D Vd f))
        (λ κs. (shr_slice_vals, ((λ p. X.val p ∷ []), (shr_slice_vals, ((λ p. X.val p ∷ []), tt)))))
        (λ κs. (shr_slice_Tells (named 0) κs.0 R, (X.tells, (shr_slice_Tells (named 1) κs.1.0 R, (X.tells, tt)))))
        (λ κs qs bounds a g are. via 𝓤 _ (fst∗ 𝓤 _ (emp 𝓤)) (walk κs.0 κs.1.0 qs.0 qs.1.0 a.0.ref_ptr.0 a.0.ref_ptr.1 a.1.1.0.ref_ptr.0 a.1.1.0.ref_ptr.1
        a.0.now a.1.1.0.now a.1.0 a.1.1.1.0
        are.0.0.1 are.1.1.0.0.1 are.1.0 are.1.1.1.0 𝓣 known)))

-- what the proof of such a function cites: k is its name, and `known` has what is known of its callees in the table of γ
pub compares-all : (𝓔 : Element) (X S D Vd : Datum) (T : Comparison 𝓔 X S D Vd) (f : Names) {M : Type 1} {𝓤 : Ura M} (𝓛 : Logic 𝓤) (𝓜 : Model 𝓤 𝓛.H) (𝓡 : Running 𝓤 𝓛.H 𝓜)
    (γ : Routines) (k : Callee)
    → Closed 𝓤 𝓛.H (tables 𝓤 𝓛.H 𝓜 𝓡 γ).C (tables 𝓤 𝓛.H 𝓜 𝓡 γ).Λ k (function 𝓔 X S D Vd f) → Known 𝓔 X S D Vd T f 𝓛 (tables 𝓤 𝓛.H 𝓜 𝓡 γ).C
    → Triple 𝓤 (𝓡.run (γ k)) (contract_of 𝓔 X S D Vd T 𝓤 𝓛)
unfolding tables_of
compares-all 𝓔 X S D Vd T f {𝓤 = 𝓤} 𝓛 𝓜 𝓡 γ k closed known =
    entered 𝓤 𝓛.H (contract_of 𝓔 X S D Vd T 𝓤 𝓛) (tables 𝓤 𝓛.H 𝓜 𝓡 γ).C (tables 𝓤 𝓛.H 𝓜 𝓡 γ).Λ k (function 𝓔 X S D Vd f) closed
    (meets 𝓔 X S D Vd T f 𝓛 (tables_of 𝓤 𝓛.H 𝓜 (tables 𝓤 𝓛.H 𝓜 𝓡 γ)) known)
