-- Every function of the form
--     fn compare(a: &[R], b: &[R], turns: usize, acc: M, other: R) -> M {
--         let mut m = acc; let mut i: usize = 0;
--         while i < turns { let p = place_a(m); let r = look(a, p, other); let q = place_b(m); let s = look(b, q, other); m = turn(m, r, s); i += 1; }
--         m
--     }
-- where `look` is as `Reading.antt` has it, and the other callees are functions of plain data: its MIR (`function`) meets its contract (`clauses`). R and M are any types of plain data.
-- Assumes `Logic`, and that the four callees meet their contracts.
use mathlib.Core.Path.{◌≡◌, refl, sym, ◌∙◌, ap, subst}
use mathlib.Core.Logic.{⊎_elim}
use mathlib.Core.Bool.{Bool}
use mathlib.Core.WellFounded.InvImage
use mathlib.Core.WellFounded.{WellFounded}
use lib.WfN.{lt-wf_rel}
use Prim.Native.Nat.{ℕ, ◌<◌, ◌≤◌, ◌^◌, ◌+◌, ◌-◌, zero-le}
use native.Mathlib.Nat.{eq-or-lt_of_le}
use native.Mathlib.Omega.{arith}
use borrow.Author.Tests.{lt-ltb, le-ltb}
use lib.Dec.{lit<}
use mathlib.Core.List.{[], ◌∷◌, List}
use lib.ListN.{length, get_or}
use seplogic.Ra.Ura.{Ura}
use base.Fraction.{full_share}
use mir.Syntax.{Callee, Fn, named, imm, w64, unsigned, ty_bool, ty_ref, Ty, Body, place, copy, int, local, value_local, skip as skipᴹ, seq, assign, call, block, loop, cond, exit}
use mir.Syntax.{return, rv_opd, op2, add, lt}
use mir.Val.{Val, vint, vbool}
use base.Logic.{SProp, ent, emp, id⊢, via, fst∗}
use base.Fml.{Lft, Share, ftrue, fat, froom, fdies, flft}
use prog.Routine.{Routine, Env as Routines}
use prog.Model.{Model}
use prog.Wp.{Env, WpFn, Closed, Tables, after_turn}
use types.Logic.{Logic}
use contract.Monad.{fact}
use contract.Running.{Running, tables, tables_of}
use types.Kit.{Item, ‵, ◌⊛◌, ⋆, at_ret, ◌$◌, ◌∵◌, !, qed, by, move, keep, split, join, rewrite, fsplit, fjoin, use1, suffices, frame, done}
use types.Run.{look, init, store, forget, stop, from, load, lit, of_opd, and_then, no_more, bin, assigns, assigns_last, land, first, blocks, stays, leaves_loop, exec, again, loops}
use types.Run.{returns, enter, alloc1, alloc0, params1, pass1, pass0, free1, free0}
use sound.WpLaws.{fm_of, WpFn-mono}
use denote.RattleType.{RattleType, owns}
use denote.Memory.{pointee}
use denote.Laws.{Is}
use denote.Plain.{uint_vals, uint_Tells, uint_Makes, uint_Lawful}
use denote.Builtin.{usize}
use denote.Ref.{Bor}
use denote.Slice.{slice_ty, slice_val, ShrSlice, Room, shr_slice_vals, shr_slice_Tells, shr_slice_copy}
use denote.Steps.{only, owned, nothing}
use denote.Triple.Entry.{on_entry}
use denote.Triple.Spec.{Meets, triple_of}
use denote.Triple.Statement.{Contract, Triple}
use denote.Triple.Clauses.{Ended, Clauses, closing}
use denote.Triple.Table.{entered, cited}
use denote.Triple.Walked.{says, Stays, stay_none_slice, stay_none, walk_of, Goes-none_slice, ends_at, walked, walk_Meets}
use denote.Exit.{yes}
use denote.Signature.{Signature, plain, shr_slice}
use Rattle.walks.proofs.Args.{Datum, row, uint, Dens, goes}
use Rattle.list_walks.proofs.Elements.{Element, word, Good, good}
use native.Mathlib.Numerals.{add-one}
use Rattle.list_walks.specs.Turns.{turns, reading}
use Rattle.walks.proofs.Slices.{calls-reads}
use Rattle.list_walks.proofs.Called.{of_contract, calls-of}
use Rattle.list_walks.proofs.Reading.{look_clauses, look_contract}

module _ (𝓔 : Element) (n : ℕ) where
  abbrev slice : Ty
  slice = slice_ty (ty_ref (named n) imm (pointee 𝓔.R.written))

-- a function of the machine that says a place
abbrev pub place_contract : (D : Datum) → (D.D → ℕ) → {M : Type 1} {𝓤 : Ura M} (𝓛 : Logic 𝓤) → Contract 𝓤
place_contract D at {𝓤 = 𝓤} 𝓛 = of_contract (D ∷ []) (uint w64) 𝓤 𝓛 (λ m. at m.0)

-- what a turn is made of
pub record Turn (𝓔 : Element) (D : Datum) : Type 2 where
  pub at_a : D.D → ℕ
  pub at_b : D.D → ℕ
  pub turn : D.D → 𝓔.R.D → 𝓔.R.D → D.D

pub record Names : Type 0 where
  pub place_a : Callee
  pub place_b : Callee
  pub look : Callee
  pub turn : Callee

module _ (𝓔 : Element) (D : Datum) where
  abbrev pub signature : Signature
  signature = record {
    lifetimes = 2;
    outlives = [];
    params = shr_slice 0 tt (λ _. row 𝓔.R) ∷ shr_slice 1 tt (λ _. row 𝓔.R) ∷ plain (λ _. usize) ∷ plain (λ _. row D) ∷ plain (λ _. row 𝓔.R) ∷ [];
    result = plain (λ _. row D);
  }

  abbrev pub ended : Ended
  ended = record { signature = signature; kept = (yes, (yes, (yes, (yes, (yes, tt))))) }

  abbrev stayed : Stays ended.signature.params ended.kept
  stayed = (
    stay_none_slice (0 ∷ []) tt (plain (λ _. row 𝓔.R)) yes,
    (stay_none_slice (1 ∷ []) tt (plain (λ _. row 𝓔.R)) yes, (stay_none (λ _. usize) yes, (stay_none (λ _. row D) yes, (stay_none (λ _. row 𝓔.R) yes, tt)))),
  )

  -- `turn(m: M, r: R, s: R) -> M`
  abbrev pub turn_args : List Datum
  turn_args = D ∷ 𝓔.R ∷ 𝓔.R ∷ []

  abbrev pub turn_of : Turn 𝓔 D → Dens turn_args → D.D
  turn_of T d = T.turn d.0 d.1.0 d.1.1.0

  -- a turn, after its test
  abbrev more : Names → Body
  more f = seq (call f.place_a (copy (place 6 []) ∷ []) (place 8 []))
      (seq (call f.look (copy (place 1 []) ∷ copy (place 8 []) ∷ copy (place 5 []) ∷ []) (place 9 []))
      (seq (call f.place_b (copy (place 6 []) ∷ []) (place 10 []))
      (seq (call f.look (copy (place 2 []) ∷ copy (place 10 []) ∷ copy (place 5 []) ∷ []) (place 11 []))
      (seq (call f.turn (copy (place 6 []) ∷ copy (place 9 []) ∷ copy (place 11 []) ∷ []) (place 6 []))
      (assign (place 7 []) (op2 (add unsigned) (copy (place 7 [])) (int w64 1)))))))

  abbrev rest : Body
  rest = seq (assign (place 0 []) (rv_opd (copy (place 6 [])))) return

  -- the locals: the result, a, b, turns, acc, other, m, i, p, r, q, s, and the test
  abbrev pub function : Names → Fn
  function f = record {
    lifetimes = 2;
    outlives = [];
    ty_params = [];
    givens = 0;
    params = 5;
    locals = local D.ty value_local ∷ local (slice 𝓔 0) value_local ∷ local (slice 𝓔 1) value_local ∷ local word value_local ∷ local D.ty value_local ∷ local 𝓔.R.ty value_local
        ∷ local D.ty value_local ∷ local word value_local ∷ local word value_local ∷ local 𝓔.R.ty value_local ∷ local word value_local ∷ local 𝓔.R.ty value_local
        ∷ local ty_bool value_local ∷ [];
    body = seq (assign (place 6 []) (rv_opd (copy (place 4 [])))) (seq (assign (place 7 []) (rv_opd (int w64 0)))
        (seq (block (loop (seq (assign (place 12 []) (op2 (lt unsigned) (copy (place 7 [])) (copy (place 3 [])))) (seq (cond (copy (place 12 [])) skipᴹ (exit 1)) (more f)))))
        rest));
  }

  module _ (T : Turn 𝓔 D) {M : Type 1} (𝓤 : Ura M) where
    -- `ensures { λ r. ⌜ r ≡ turns (reading at_a at_b turn (now a.entry) (now b.entry) other) n acc ⌝ }`
    abbrev pub clauses : Clauses 𝓤 ended
    clauses κs a = record {
      ghost = Unit {0};
      requires = λ _. emp 𝓤;
      ensures = λ _ r e. fact 𝓤 (r ≡ turns (reading T.at_a T.at_b T.turn a.0.now a.1.0.now a.1.1.1.1.0) a.1.1.0 a.1.1.1.0);
    }

    module _ (𝓛 : Logic 𝓤) where
      abbrev pub contract_of : Contract 𝓤
      contract_of = triple_of 𝓛 signature (closing 𝓛 ended clauses)

      abbrev pub turn_contract : Contract 𝓤
      turn_contract = of_contract turn_args D 𝓤 𝓛 (turn_of T)

module _ (𝓔 : Element) (D : Datum) (T : Turn 𝓔 D) (f : Names) {M : Type 1} {𝓤 : Ura M} (𝓛 : Logic 𝓤) where
  open 𝓛 use {H}

  abbrev X : Type 0
  X = 𝓔.R.D

  abbrev R : RattleType
  R = row 𝓔.R

  abbrev rvals : X → List Val
  rvals y = 𝓔.R.val y ∷ []

  module _ (κ κ' : Lft) (q q₂ : Share) (b o b₂ o₂ : ℕ) (xs ys : List X) (n : ℕ) (c : D.D) (d : X) where
    abbrev x₁ : Bor (List X)
    x₁ = record { ref_ptr = (b, o); now = xs }

    abbrev x₂ : Bor (List X)
    x₂ = record { ref_ptr = (b₂, o₂); now = ys }

    abbrev s₁ : Val
    s₁ = slice_val (b, o) (length xs)

    abbrev s₂ : Val
    s₂ = slice_val (b₂, o₂) (length ys)

    abbrev v : Val
    v = D.val c

    abbrev a : Bor (List X) × (Bor (List X) × (ℕ × (D.D × (X × Unit {0}))))
    a = (x₁, (x₂, (n, (c, (d, tt)))))

    abbrev vals : List Val × (List Val × (List Val × (List Val × (List Val × Unit {0}))))
    vals = (s₁ ∷ [], (s₂ ∷ [], (vint w64 n ∷ [], (v ∷ [], (rvals d, tt)))))

    abbrev one : D.D → D.D
    one = reading T.at_a T.at_b T.turn xs ys d

    abbrev acc : ℕ → D.D
    acc i = turns one i c

    abbrev mine₁ : Item 𝓤
    mine₁ = ‵ ((ShrSlice (named 0) κ R).own_val x₁ (s₁ ∷ []))

    abbrev mine₂ : Item 𝓤
    mine₂ = ‵ ((ShrSlice (named 1) κ' R).own_val x₂ (s₂ ∷ []))

    abbrev Post : Val → SProp 𝓤
    Post = (walk_of 𝓛 (ended 𝓔 D) (stayed 𝓔 D) (clauses 𝓔 D T 𝓤)).post (((κ, (κ', tt)), (q, (q₂, tt)), tt, a, vals), tt)

    module _ (room : Room R (length xs)) (room₂ : Room R (length ys)) (n-fits : n < 2 ^ 64) (g : Good D c) (gd : Good 𝓔.R d) where
      exits : Good D (acc n) → ent 𝓤 (⋆ 𝓛 (‵ (flft κ q) ∷ ‵ (flft κ' q₂) ∷ mine₁ ∷ mine₂ ∷ [])) (Post (D.val (acc n)))
      exits h =
          qed 𝓛 (‵ (flft κ q) ∷ ‵ (flft κ' q₂) ∷ mine₁ ∷ mine₂ ∷ []) ∵
          suffices ! _ (ends_at 𝓛 (ended 𝓔 D) (stayed 𝓔 D) (clauses 𝓔 D T 𝓤) (((κ, (κ', tt)), (q, (q₂, tt)), tt, a, vals), tt) (D.val (acc n)) (acc n)
          (tt, (tt, (tt, (tt, (tt, tt))))) (tt, (tt, (tt, (tt, (tt, tt)))))) $ says ! refl $
          -- [true; the first token; the second; a; b]
          nothing ! $ move ! (2 ∷ 0 ∷ []) $ join ! $ move ! (1 ∷ 0 ∷ []) $ join ! $ frame ! $
          nothing ! $ owned ! R (Is R) (𝓔.R.makes 𝓛) d _ gd $ fjoin ! $ owned ! (row D) (Is (row D)) (D.makes 𝓛) c _ g $ fjoin ! $
          owned ! usize (Is usize) (uint_Makes 𝓛 w64) n _ (refl, n-fits) $ fjoin ! $
          move ! (2 ∷ 0 ∷ []) $ fjoin ! $ move ! (1 ∷ 0 ∷ []) $ fjoin ! $ owned ! (row D) (Is (row D)) (D.makes 𝓛) (acc n) _ h $ move ! (1 ∷ 0 ∷ []) $ done !

      abbrev Upto : Type 0
      Upto = (i : ℕ) × (i ≤ n) × Good D (acc i)

      abbrev Nearer : Upto → Upto → Type 0
      Nearer j i = n - j.0 < n - i.0

      Nearer-wf : WellFounded Nearer
      Nearer-wf = InvImage.wf (λ (i : Upto). n - i.0) lt-wf_rel.wf

      next : (i : ℕ) → i < n → (i + 1 ≤ n) × (n - (i + 1) < n - i)
      next i less = (omega arith, omega arith)

      start : Good D (acc 0)
      unfolding turns
      start = g

      acc-next : (i : ℕ) → acc (i + 1) ≡ one (acc i)
      unfolding turns
      acc-next i = ap acc (add-one i)

      -- a turn at what was read is the turn
      turned : (i : ℕ) (e : D.D) (r s : X) (p p' : ℕ) → p ≡ T.at_a (acc i) → p' ≡ T.at_b (acc i) → r ≡ get_or xs p d → s ≡ get_or ys p' d → e ≡ T.turn (acc i) r s → e ≡ acc (i + 1)
      turned i e r s p p' hp hp' hr hs he =
          he ∙ ap (λ (z : X). T.turn (acc i) z s) (hr ∙ ap (λ (m : ℕ). get_or xs m d) hp) ∙ ap (λ (z : X). T.turn (acc i) (get_or xs (T.at_a (acc i)) d) z)
          (hs ∙ ap (λ (m : ℕ). get_or ys m d) hp') ∙ sym (acc-next i)

      module _ (l₀ l₁ l₂ l₃ l₄ l₅ l₆ l₇ l₈ l₉ l₁₀ l₁₁ l₁₂ : ℕ) where
        abbrev En : Env 𝓤 H
        En = (D.ty, l₀) ∷ (slice 𝓔 0, l₁) ∷ (slice 𝓔 1, l₂) ∷ (word, l₃) ∷ (D.ty, l₄) ∷ (𝓔.R.ty, l₅) ∷ (D.ty, l₆) ∷ (word, l₇) ∷ (word, l₈) ∷ (𝓔.R.ty, l₉)
            ∷ (word, l₁₀) ∷ (𝓔.R.ty, l₁₁) ∷ (ty_bool, l₁₂) ∷ []

        abbrev At : Upto → List (Item 𝓤)
        At i = ‵ (flft κ q) ∷ ‵ (flft κ' q₂) ∷ mine₁ ∷ mine₂
            ∷ ‵ (froom ty_bool l₁₂ 0) ∷ ‵ (fdies ty_bool l₁₂) ∷ ‵ (froom 𝓔.R.ty l₁₁ 0) ∷ ‵ (fdies 𝓔.R.ty l₁₁) ∷ ‵ (froom word l₁₀ 0) ∷ ‵ (fdies word l₁₀)
            ∷ ‵ (froom 𝓔.R.ty l₉ 0) ∷ ‵ (fdies 𝓔.R.ty l₉) ∷ ‵ (froom word l₈ 0) ∷ ‵ (fdies word l₈) ∷ ‵ (fat full_share word l₇ 0 (vint w64 i.0)) ∷ ‵ (fdies word l₇)
            ∷ ‵ (fat full_share D.ty l₆ 0 (D.val (acc i.0))) ∷ ‵ (fdies D.ty l₆) ∷ ‵ (fat full_share 𝓔.R.ty l₅ 0 (𝓔.R.val d)) ∷ ‵ (fdies 𝓔.R.ty l₅)
            ∷ ‵ (fat full_share D.ty l₄ 0 v) ∷ ‵ (fdies D.ty l₄) ∷ ‵ (fat full_share word l₃ 0 (vint w64 n)) ∷ ‵ (fdies word l₃) ∷ ‵ (fat full_share (slice 𝓔 1) l₂ 0 s₂)
            ∷ ‵ (fdies (slice 𝓔 1) l₂) ∷ ‵ (fat full_share (slice 𝓔 0) l₁ 0 s₁) ∷ ‵ (fdies (slice 𝓔 0) l₁) ∷ ‵ (froom D.ty l₀ 0) ∷ ‵ (fdies D.ty l₀) ∷ []

      module _ (𝓣 : Tables 𝓤 H) (known_a : Triple 𝓤 (𝓣.C f.place_a) (place_contract D T.at_a 𝓛))
          (known_b : Triple 𝓤 (𝓣.C f.place_b) (place_contract D T.at_b 𝓛))
          (known_look : Triple 𝓤 (𝓣.C f.look) (look_contract 𝓔 𝓤 𝓛)) (known_turn : Triple 𝓤 (𝓣.C f.turn) (turn_contract 𝓔 D T 𝓤 𝓛)) where
        walk : ent 𝓤 (on_entry 𝓛 (signature 𝓔 D) (κ, (κ', tt)) (q, (q₂, tt)) a vals) (WpFn 𝓤 H 𝓣.C 𝓣.Λ (function 𝓔 D f) (s₁ ∷ s₂ ∷ vint w64 n ∷ v ∷ 𝓔.R.val d ∷ []) Post)
        unfolding after_turn turns
        walk =
            qed 𝓛 ((‵ (flft κ q) ⊛ (‵ (flft κ' q₂) ⊛ ‵ ftrue)) ∷ ‵ (owns (ShrSlice (named 0) κ R ∷ ShrSlice (named 1) κ' R ∷ usize ∷ row D ∷ R ∷ []) a vals) ∷ []) ∵ enter ! 𝓣.C
            𝓣.Λ (function 𝓔 D f) (s₁ ∷ s₂ ∷ vint w64 n ∷ v ∷ 𝓔.R.val d ∷ []) _ $
            alloc1 ! (λ l₀. alloc1 ! (λ l₁. alloc1 ! (λ l₂. alloc1 ! (λ l₃.
            alloc1 ! (λ l₄. alloc1 ! (λ l₅. alloc1 ! (λ l₆. alloc1 ! (λ l₇. alloc1 ! (λ l₈. alloc1 ! (λ l₉. alloc1 ! (λ l₁₀. alloc1 ! (λ l₁₁. alloc1 ! (λ l₁₂. alloc0 ! $
            params1 ! $
            pass1 ! (init ! 22 refl (tt, (tt, (record { fits = room.0 }, tt)))) $ pass1 ! (init ! 20 refl (tt, (tt, (record { fits = room₂.0 }, tt)))) $
            pass1 ! (init ! 18 refl (tt, record { fits = n-fits })) $
            pass1 ! (init ! 16 refl (D.typed 𝓛 c _ g)) $ pass1 ! (init ! 14 refl (𝓔.R.typed 𝓛 d _ gd)) $ pass0 ! $
            assigns ! (of_opd ! (load ! (from ! (stop !)) (look ! 16 refl))) (from ! (stop !)) (init ! 12 refl (D.typed 𝓛 c _ g)) $
            assigns ! (of_opd ! (lit ! tt)) (from ! (stop !)) (init ! 10 refl (tt, record { fits = lit< tt })) $
            move ! (27 ∷ []) $ fsplit ! $ move ! (1 ∷ []) $ fsplit ! $ move ! (29 ∷ []) $ split ! $ move ! (1 ∷ []) $ split ! $
            -- [the second token; true; the first; b; the others; a; _12; …]
            keep ! (2 ∷ 0 ∷ 5 ∷ 3 ∷ 6 ∷ 7 ∷ 8 ∷ 9 ∷ 10 ∷ 11 ∷ 12 ∷ 13 ∷ 14 ∷ 15 ∷ 16 ∷ 17 ∷ 18 ∷ 19 ∷ 20 ∷ 21 ∷ 22 ∷ 23 ∷ 24 ∷ 25 ∷ 26 ∷ 27 ∷ 28 ∷ 29 ∷ 30 ∷ 31 ∷ []) $
            first ! $ blocks ! $ loops ! 𝓣 Nearer Nearer-wf (At l₀ l₁ l₂ l₃ l₄ l₅ l₆ l₇ l₈ l₉ l₁₀ l₁₁ l₁₂) (λ i.
            -- [the first token; the second; a; b; _12 4; …]
            assigns ! (bin ! (load ! (from ! (stop !)) (look ! 14 refl)) (load ! (from ! (stop !)) (look ! 22 refl)) tt) (from ! (stop !)) (init ! 4 refl (tt, tt)) $
            ⊎_elim (λ past.
            rewrite ! 4 (λ (u : Bool). ‵ (fat full_share ty_bool l₁₂ 0 (vbool u))) (le-ltb i.0 n (omega arith)) refl $
            leaves_loop ! (load ! (from ! (stop !)) (look ! 4 refl)) $ exec ! 𝓣.C 𝓣.Λ (En l₀ l₁ l₂ l₃ l₄ l₅ l₆ l₇ l₈ l₉ l₁₀ l₁₁ l₁₂) (rest 𝓔 D)
            (at_ret (En l₀ l₁ l₂ l₃ l₄ l₅ l₆ l₇ l₈ l₉ l₁₀ l₁₁ l₁₂) Post) $
            assigns ! (of_opd ! (load ! (from ! (stop !)) (look ! 16 refl))) (from ! (stop !)) (init ! 28 refl (D.typed 𝓛 (acc i.0) _ i.2)) $
            rewrite ! 28 (λ (m : ℕ). ‵ (fat full_share D.ty l₀ 0 (D.val (acc m)))) past refl $
            returns ! (look ! 28 refl) $ forget ! 4 refl $ forget ! 14 refl $ forget ! 16 refl $ forget ! 18 refl $ forget ! 20 refl $ forget ! 22 refl $ forget ! 24 refl $
            forget ! 26 refl $ forget ! 28 refl $
            move ! (28 ∷ 29 ∷ []) $ free1 ! $ move ! (26 ∷ 27 ∷ []) $ free1 ! $ move ! (24 ∷ 25 ∷ []) $ free1 ! $ move ! (22 ∷ 23 ∷ []) $ free1 ! $ move ! (20 ∷ 21 ∷ []) $
            free1 ! $ move ! (18 ∷ 19 ∷ []) $ free1 ! $ move ! (16 ∷ 17 ∷ []) $ free1 ! $ move ! (14 ∷ 15 ∷ []) $ free1 ! $ move ! (12 ∷ 13 ∷ []) $ free1 ! $
            move ! (10 ∷ 11 ∷ []) $ free1 ! $ move ! (8 ∷ 9 ∷ []) $ free1 ! $ move ! (6 ∷ 7 ∷ []) $ free1 ! $ move ! (4 ∷ 5 ∷ []) $ free1 ! $ free0 ! $
            by ! (exits (subst (λ (m : ℕ). Good D (acc m)) past i.2))) (λ less.
            rewrite ! 4 (λ (u : Bool). ‵ (fat full_share ty_bool l₁₂ 0 (vbool u))) (lt-ltb i.0 n less) refl $
            stays ! (load ! (from ! (stop !)) (look ! 4 refl)) $
            calls-of ! 𝓣 (D ∷ []) (uint w64) (λ m. T.at_a m.0) known_a (acc i.0, tt) (i.2, tt)
            (and_then ! (load ! (from ! (stop !)) (look ! 17 refl)) (no_more !)) (λ p u is-p e-p.
            land ! (from ! (stop !)) (init ! 12 refl ((uint_Lawful 𝓛 w64).typed p _ is-p).0) $
            -- a copy of a is passed
            move ! (2 ∷ []) $ use1 𝓛 (mine₁ ⊛ mine₁) ((shr_slice_copy 𝓛 (named 0) κ R 𝓔.R.shared_laws).twice x₁ (s₁ ∷ [])) $ split ! $ move ! (2 ∷ 0 ∷ []) $
            calls-reads ! (fm_of 𝓤 H 𝓛.laws 𝓣) R (plain (λ _. usize) ∷ plain (λ _. R) ∷ []) (plain (λ _. R)) (yes, (yes, tt)) (look_clauses 𝓔 𝓤) known_look κ q
            (uint_Makes 𝓛 w64, (𝓔.R.makes 𝓛, tt)) (named 0) x₁ s₁ (p, (d, tt)) (u ∷ [], (rvals d, tt)) (is-p, (gd, tt)) tt (id⊢ 𝓤 (emp 𝓤)) (λ r. r ≡ get_or xs p d)
            (λ r ws. id⊢ 𝓤 _)
            (and_then ! (load ! (from ! (stop !)) (look ! 26 refl)) (and_then ! (load ! (from ! (stop !)) (look ! 12 refl))
            (and_then ! (load ! (from ! (stop !)) (look ! 18 refl)) (no_more !)))) (λ r vr is-r e-r.
            land ! (from ! (stop !)) (init ! 10 refl (𝓔.R.typed 𝓛 r _ is-r)) $
            rewrite ! 10 (λ (m : Val). ‵ (fat full_share 𝓔.R.ty l₉ 0 m)) (ap only (𝓔.R.tells r (vr ∷ []) is-r)) refl $
            move ! (0 ∷ 2 ∷ 1 ∷ []) $
            calls-of ! 𝓣 (D ∷ []) (uint w64) (λ m. T.at_b m.0) known_b (acc i.0, tt) (i.2, tt)
            (and_then ! (load ! (from ! (stop !)) (look ! 17 refl)) (no_more !)) (λ p' u' is-p' e-p'.
            land ! (from ! (stop !)) (init ! 8 refl ((uint_Lawful 𝓛 w64).typed p' _ is-p').0) $
            -- a copy of b is passed
            move ! (3 ∷ []) $ use1 𝓛 (mine₂ ⊛ mine₂) ((shr_slice_copy 𝓛 (named 1) κ' R 𝓔.R.shared_laws).twice x₂ (s₂ ∷ [])) $ split ! $ move ! (3 ∷ 0 ∷ []) $
            calls-reads ! (fm_of 𝓤 H 𝓛.laws 𝓣) R (plain (λ _. usize) ∷ plain (λ _. R) ∷ []) (plain (λ _. R)) (yes, (yes, tt)) (look_clauses 𝓔 𝓤) known_look κ' q₂
            (uint_Makes 𝓛 w64, (𝓔.R.makes 𝓛, tt)) (named 1) x₂ s₂ (p', (d, tt)) (u' ∷ [], (rvals d, tt)) (is-p', (gd, tt)) tt (id⊢ 𝓤 (emp 𝓤)) (λ r. r ≡ get_or ys p' d)
            (λ r ws. id⊢ 𝓤 _)
            (and_then ! (load ! (from ! (stop !)) (look ! 24 refl)) (and_then ! (load ! (from ! (stop !)) (look ! 8 refl))
            (and_then ! (load ! (from ! (stop !)) (look ! 18 refl)) (no_more !)))) (λ s vs is-s e-s.
            land ! (from ! (stop !)) (init ! 6 refl (𝓔.R.typed 𝓛 s _ is-s)) $
            rewrite ! 6 (λ (m : Val). ‵ (fat full_share 𝓔.R.ty l₁₁ 0 m)) (ap only (𝓔.R.tells s (vs ∷ []) is-s)) refl $
            move ! (2 ∷ 0 ∷ 3 ∷ 1 ∷ []) $
            calls-of ! 𝓣 (turn_args 𝓔 D) D (turn_of 𝓔 D T) known_turn (acc i.0, (r, (s, tt))) (i.2, (good 𝓔.R r vr is-r, (good 𝓔.R s vs is-s, tt)))
            (and_then ! (load ! (from ! (stop !)) (look ! 17 refl)) (and_then ! (load ! (from ! (stop !)) (look ! 11 refl))
            (and_then ! (load ! (from ! (stop !)) (look ! 7 refl)) (no_more !)))) (λ e ue is-e h-e.
            land ! (from ! (stop !)) (store ! 16 refl (D.typed 𝓛 e _ is-e)) $
            rewrite ! 16 (λ (m : Val). ‵ (fat full_share D.ty l₆ 0 m)) (ap only (D.tells e (ue ∷ []) is-e) ∙ ap D.val (turned i.0 e r s p p' e-p e-p' e-r e-s h-e)) refl $
            assigns_last ! (bin ! (load ! (from ! (stop !)) (look ! 14 refl)) (lit ! tt) (record { fits = omega arith })) (from ! (stop !))
            (store ! 14 refl (tt, record { fits = omega arith })) $
            forget ! 4 refl $ forget ! 6 refl $ forget ! 8 refl $ forget ! 10 refl $ forget ! 12 refl $
            again ! Nearer (At l₀ l₁ l₂ l₃ l₄ l₅ l₆ l₇ l₈ l₉ l₁₀ l₁₁ l₁₂) i
            (i.0 + 1, (next i.0 less).0, subst (Good D) (turned i.0 e r s p p' e-p e-p' e-r e-s h-e) (good D e ue is-e)) (next i.0 less).1)))))) (eq-or-lt_of_le i.1))
            (0, zero-le, start))))))))))))))

  module _ (𝓣 : Tables 𝓤 H) (known_a : Triple 𝓤 (𝓣.C f.place_a) (place_contract D T.at_a 𝓛)) (known_b : Triple 𝓤 (𝓣.C f.place_b) (place_contract D T.at_b 𝓛))
      (known_look : Triple 𝓤 (𝓣.C f.look) (look_contract 𝓔 𝓤 𝓛)) (known_turn : Triple 𝓤 (𝓣.C f.turn) (turn_contract 𝓔 D T 𝓤 𝓛)) where
    meets : Meets 𝓛 (signature 𝓔 D) (WpFn 𝓤 H 𝓣.C 𝓣.Λ (function 𝓔 D f)) (closing 𝓛 (ended 𝓔 D) (clauses 𝓔 D T 𝓤))
    meets = walk_Meets 𝓛 (ended 𝓔 D) (stayed 𝓔 D)
        (Goes-none_slice 𝓛 2 (0 ∷ []) tt (plain (λ _. R)) yes, (Goes-none_slice 𝓛 2 (1 ∷ []) tt (plain (λ _. R)) yes, goes 2 𝓛 (uint w64 ∷ D ∷ 𝓔.R ∷ [])))
        (clauses 𝓔 D T 𝓤)
        (WpFn 𝓤 H 𝓣.C 𝓣.Λ (function 𝓔 D f)) (WpFn-mono 𝓤 H 𝓛.laws 𝓣 (function 𝓔 D f))
        (walked 𝓛 (ended 𝓔 D) (stayed 𝓔 D) (clauses 𝓔 D T 𝓤) (WpFn 𝓤 H 𝓣.C 𝓣.Λ (function 𝓔 D f))
        (λ κs. (shr_slice_vals, (shr_slice_vals, (uint_vals w64, ((λ p. D.val p ∷ []), (rvals, tt))))))
        (λ κs. (shr_slice_Tells (named 0) κs.0 R, (shr_slice_Tells (named 1) κs.1.0 R, (uint_Tells w64, (D.tells, (𝓔.R.tells, tt))))))
        (λ κs qs bounds a g are. via 𝓤 _ (fst∗ 𝓤 _ (emp 𝓤)) (walk κs.0 κs.1.0 qs.0 qs.1.0 a.0.ref_ptr.0 a.0.ref_ptr.1 a.1.0.ref_ptr.0 a.1.0.ref_ptr.1
        a.0.now a.1.0.now a.1.1.0 a.1.1.1.0 a.1.1.1.1.0
        are.0.0.1 are.1.0.0.1 are.1.1.0.1 are.1.1.1.0 are.1.1.1.1.0 𝓣 known_a known_b known_look known_turn)))

-- what the proof of such a function cites
pub compares : (𝓔 : Element) (D : Datum) (T : Turn 𝓔 D) (f : Names) {M : Type 1} {𝓤 : Ura M} (𝓛 : Logic 𝓤) (𝓜 : Model 𝓤 𝓛.H) (𝓡 : Running 𝓤 𝓛.H 𝓜) (γ : Routines)
    (k : Callee)
    → Closed 𝓤 𝓛.H (tables 𝓤 𝓛.H 𝓜 𝓡 γ).C (tables 𝓤 𝓛.H 𝓜 𝓡 γ).Λ k (function 𝓔 D f)
    → (r₁ : Routine) → γ f.place_a ≡ r₁ → Triple 𝓤 (𝓡.run r₁) (place_contract D T.at_a 𝓛) → (r₂ : Routine) → γ f.place_b ≡ r₂ → Triple 𝓤 (𝓡.run r₂)
    (place_contract D T.at_b 𝓛)
    → (r₃ : Routine) → γ f.look ≡ r₃ → Triple 𝓤 (𝓡.run r₃) (look_contract 𝓔 𝓤 𝓛) → (r₄ : Routine) → γ f.turn ≡ r₄ → Triple 𝓤 (𝓡.run r₄)
    (turn_contract 𝓔 D T 𝓤 𝓛)
    → Triple 𝓤 (𝓡.run (γ k)) (contract_of 𝓔 D T 𝓤 𝓛)
unfolding tables_of
compares 𝓔 D T f {𝓤 = 𝓤} 𝓛 𝓜 𝓡 γ k closed r₁ c₁ t₁ r₂ c₂ t₂ r₃ c₃ t₃ r₄ c₄ t₄ =
    entered 𝓤 𝓛.H (contract_of 𝓔 D T 𝓤 𝓛) (tables 𝓤 𝓛.H 𝓜 𝓡 γ).C (tables 𝓤 𝓛.H 𝓜 𝓡 γ).Λ k (function 𝓔 D f) closed
    (meets 𝓔 D T f 𝓛 (tables_of 𝓤 𝓛.H 𝓜 (tables 𝓤 𝓛.H 𝓜 𝓡 γ))
    (cited 𝓤 𝓛.H (place_contract D T.at_a 𝓛) 𝓜 𝓡 γ f.place_a r₁ c₁ t₁) (cited 𝓤 𝓛.H (place_contract D T.at_b 𝓛) 𝓜 𝓡 γ f.place_b r₂ c₂ t₂)
    (cited 𝓤 𝓛.H (look_contract 𝓔 𝓤 𝓛) 𝓜 𝓡 γ f.look r₃ c₃ t₃) (cited 𝓤 𝓛.H (turn_contract 𝓔 D T 𝓤 𝓛) 𝓜 𝓡 γ f.turn r₄ c₄ t₄))
