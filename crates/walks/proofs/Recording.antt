-- Every function of the form
--     fn record(list: &mut [R], plan: P) { let batch = batch_of(plan); let at = at_of(batch); let n = n_of(batch); fill(list, at, n, batch); }
-- where `fill` is as `Filling.antt` has it and the others are functions of plain data: its MIR meets its contract (`clauses`). And every function of the form
--     fn f(list: &mut [R], b: B, s: S, c: C, ..) -> Answer { let plan = plan_f(list.len(), b, s, c, ..); record(list, plan); answer(plan, s) }
-- where `plan_f` ensures `Planned room b s c .. plan`, from which it follows that the plan fits: its MIR meets every contract that follows from that and from `Recorded`.
-- Both are straight (`Straight.antt`). The types are any types of plain data.
-- Assumes `Logic`, and that the callees meet their contracts.
use mathlib.Core.Path.{◌≡◌, refl, sym, ◌∙◌, ap, subst}
use mathlib.Core.Bool.{true, false}
use Prim.Native.Nat.{ℕ, ◌≤◌, ◌<◌, ◌+◌}
use mathlib.Core.List.{[], ◌∷◌, ◌++◌, List}
use lib.ListN.{length}
use seplogic.Ra.Ura.{Ura}
use mir.Syntax.{Callee, Ty, erased, mut, w8, w64, ty_ref}
use base.Logic.{emp}
use prog.Routine.{Routine, Env as Routines}
use prog.Model.{Model}
use prog.Wp.{Closed}
use types.Logic.{Logic}
use contract.Monad.{fact}
use contract.Running.{Running, tables}
use denote.RattleType.{RattleType}
use denote.Memory.{pointee}
use denote.Plain.{Nothing}
use denote.Exit.{yes}
use denote.Signature.{Signature, plain, mut_slice}
use denote.Triple.Spec.{Meets, triple_of}
use denote.Triple.Statement.{Contract, Triple}
use denote.Triple.Clauses.{Ended, Clauses, closing}
use Rattle.walks.specs.Fill.{filled}
use Rattle.walks.proofs.Args.{Datum, row, uint, Dens, picked}
use Rattle.walks.proofs.Calls.{end}
use Rattle.walks.proofs.Filling as filling
use Rattle.walks.proofs.Filling.{Kinds}
use Rattle.walks.proofs.Held.{datum_at, arg_ds, count, start, numbers, knowns, passed, passed_is, vacant, known, last, last-is}
use Rattle.walks.proofs.Straight as straights
use Rattle.walks.proofs.Straight.{none, Shape, free, asks, finish, let_be, let_len, onto, plain_contract, len_contract, onto_contract}
use Rattle.walks.proofs.StraightLists as straight-lists
use Rattle.walks.proofs.StraightLists.{Code, function, straight}

-- what a plan says of the list: its batch; a batch says where its commands go, how many they are, which they are, and which may be asked for. `kinds` is of the batch
pub record Plans : Type 2 where
  pub kinds : Kinds
  pub Pl : Datum
  pub batch : Pl.D → kinds.P.D
  pub at : kinds.P.D → ℕ
  pub n : kinds.P.D → ℕ
  pub Allowed : kinds.P.D → ℕ → Type 0
  pub command_at : kinds.P.D → ℕ → kinds.C.D

-- what a call answers of its plan and of the state that it is given
pub record Answers (Pl : Datum) : Type 2 where
  pub St : Datum
  pub An : Datum
  pub answer : Pl.D → St.D → An.D

-- the plain parameters of such a call: Bs, the state, Cs
abbrev pub parameters : {Pl : Datum} → Answers Pl → List Datum → List Datum → List Datum
parameters 𝓐 Bs Cs = Bs ++ (𝓐.St ∷ Cs)

-- the state among their values
abbrev pub given : {Pl : Datum} (𝓐 : Answers Pl) (Bs Cs : List Datum) → Dens (parameters 𝓐 Bs Cs) → 𝓐.St.D
given 𝓐 Bs Cs d = picked Bs 𝓐.St Cs d

module _ (𝓟 : Plans) where
  abbrev pub Plan : Type 0
  Plan = 𝓟.Pl.D

  abbrev pub Elem : Type 0
  Elem = 𝓟.kinds.R.D

  abbrev pub R : RattleType
  R = row 𝓟.kinds.R

  abbrev pub P : RattleType
  P = row 𝓟.Pl

  abbrev pub Bt : Datum
  Bt = 𝓟.kinds.P

  abbrev pub written : Plan → List Elem → List Elem
  written p l = filled (λ i. 𝓟.kinds.wrap (𝓟.command_at (𝓟.batch p) i)) l (𝓟.at (𝓟.batch p)) (𝓟.n (𝓟.batch p))

  -- the commands of a plan fit into a list of that length, and may be asked for
  abbrev pub Fits : Plan → ℕ → Type 0
  Fits p m = (𝓟.at (𝓟.batch p) + 𝓟.n (𝓟.batch p) ≤ m) × ((i : ℕ) → i < 𝓟.n (𝓟.batch p) → 𝓟.Allowed (𝓟.batch p) i)

  abbrev pub lent_ref : Ty
  lent_ref = ty_ref erased mut (pointee 𝓟.kinds.R.written)

  abbrev pub signature : Signature
  signature = record { lifetimes = 1; outlives = []; params = mut_slice 0 tt (λ _. R) ∷ plain (λ _. P) ∷ []; result = plain (λ _. Nothing) }

  abbrev pub ended : Ended
  ended = record { signature = signature; kept = (yes, (yes, tt)) }

  module _ {M : Type 1} (𝓤 : Ura M) where
    -- `requires { ⌜ Fits plan (length (now list)) ⌝ }    ensures { λ _. ⌜ now list.exit ≡ written plan (now list.entry) ⌝ }`, with both written out
    abbrev pub clauses : Clauses 𝓤 ended
    clauses κs a = record { ghost = Unit {0}; requires = λ _. fact 𝓤 (Fits a.1.0 (length a.0.now)); ensures = λ _ r e. fact 𝓤 (e.0.now ≡ written a.1.0 a.0.now) }

    module _ (𝓛 : Logic 𝓤) where
      abbrev pub record_contract : Contract 𝓤
      record_contract = triple_of 𝓛 signature (closing 𝓛 ended clauses)

      abbrev pub fill_contract : Contract 𝓤
      fill_contract = triple_of 𝓛 (filling.signature 𝓟.kinds) (closing 𝓛 (filling.ended 𝓟.kinds) (filling.clauses 𝓟.kinds 𝓟.Allowed 𝓟.command_at 𝓤))

-- a function of a D, whose result is D': `ensures { λ r. ⌜ r ≡ f d ⌝ }`
module _ (D D' : Datum) (f : D.D → D'.D) {M : Type 1} (𝓤 : Ura M) where
  abbrev pub of_ended : Ended
  of_ended = end (plain (λ _. row D) ∷ []) (plain (λ _. row D')) (yes, tt)

  abbrev pub of_clauses : Clauses 𝓤 of_ended
  of_clauses κs a = record { ghost = Unit {0}; requires = λ _. emp 𝓤; ensures = λ _ r e. fact 𝓤 (r ≡ f a.0) }

  abbrev pub of_contract : (𝓛 : Logic 𝓤) → Contract 𝓤
  of_contract 𝓛 = triple_of 𝓛 of_ended.signature (closing 𝓛 of_ended of_clauses)

-- and `answer`: `ensures { λ r. ⌜ r ≡ answer plan s ⌝ }`
module _ (Pl : Datum) (𝓐 : Answers Pl) {M : Type 1} (𝓤 : Ura M) where
  abbrev pub answer_ended : Ended
  answer_ended = end (plain (λ _. row Pl) ∷ plain (λ _. row 𝓐.St) ∷ []) (plain (λ _. row 𝓐.An)) (yes, (yes, tt))

  abbrev pub answer_clauses : Clauses 𝓤 answer_ended
  answer_clauses κs a = record { ghost = Unit {0}; requires = λ _. emp 𝓤; ensures = λ _ r e. fact 𝓤 (r ≡ 𝓐.answer a.0 a.1.0) }

  abbrev pub answer_contract : (𝓛 : Logic 𝓤) → Contract 𝓤
  answer_contract 𝓛 = triple_of 𝓛 answer_ended.signature (closing 𝓛 answer_ended answer_clauses)

-- a call that is done: the plan's answer is returned, and its commands are written
abbrev pub Recorded : (𝓟 : Plans) (𝓐 : Answers 𝓟.Pl) → Plan 𝓟 → 𝓐.St.D → List (Elem 𝓟) → List (Elem 𝓟) → 𝓐.An.D → Type 0
Recorded 𝓟 𝓐 p s l l' r = (r ≡ 𝓐.answer p s) × (l' ≡ written 𝓟 p l)

-- what `fill` asks of a batch, its place and its count that are the plan's, and what it then wrote
module _ (𝓟 : Plans) (p : Plan 𝓟) (bt : (Bt 𝓟).D) (i n : ℕ) (e-b : bt ≡ 𝓟.batch p) (e-i : i ≡ 𝓟.at bt) (e-n : n ≡ 𝓟.n bt) where
  pub asked : (m : ℕ) → Fits 𝓟 p m → (i + n ≤ m) × ((j : ℕ) → j < n → 𝓟.Allowed bt j)
  asked m fits = (
    subst (λ (k : ℕ). k + n ≤ m) (sym (e-i ∙ ap 𝓟.at e-b)) (subst (λ (k : ℕ). 𝓟.at (𝓟.batch p) + k ≤ m) (sym (e-n ∙ ap 𝓟.n e-b)) fits.0),
    λ j less. subst (λ (c : (Bt 𝓟).D). 𝓟.Allowed c j) (sym e-b) (fits.1 j (subst (λ (k : ℕ). j < k) (e-n ∙ ap 𝓟.n e-b) less)),
  )

  pub wrote : (ys : List (Elem 𝓟)) → filled (λ j. 𝓟.kinds.wrap (𝓟.command_at bt j)) ys i n ≡ written 𝓟 p ys
  wrote ys = ap (λ (k : ℕ). filled (λ j. 𝓟.kinds.wrap (𝓟.command_at bt j)) ys k n) e-i ∙ ap (λ (k : ℕ). filled (λ j. 𝓟.kinds.wrap (𝓟.command_at bt j)) ys (𝓟.at bt) k) e-n
      ∙ ap (λ (c : (Bt 𝓟).D). filled (λ j. 𝓟.kinds.wrap (𝓟.command_at c j)) ys (𝓟.at c) (𝓟.n c)) e-b

-- ---- `record`: its locals are the plan, the batch, at and n
module _ (𝓟 : Plans) where
  abbrev record_shape : Shape
  record_shape = record { R = 𝓟.kinds.R; An = none; N = w8; N' = w8; N'' = w8; len = false; unit = true; lends = false ∷ [] }

  abbrev record_lets : List Datum
  record_lets = Bt 𝓟 ∷ uint w64 ∷ uint w64 ∷ []

  abbrev record_code : Callee → Callee → Callee → Callee → Code record_shape (𝓟.Pl ∷ []) record_lets
  record_code batch-of at_of n-of fill =
      let_be batch-of (0 ∷ []) (tt, tt) tt free (λ d r. r ≡ 𝓟.batch d.0) (let_be at_of (1 ∷ []) (tt, tt) tt free (λ d r. r ≡ 𝓟.at d.0)
      (let_be n-of (1 ∷ []) (tt, tt) tt free (λ d r. r ≡ 𝓟.n d.0) (onto tt fill (2 ∷ 3 ∷ 1 ∷ []) (tt, (tt, (tt, tt))) tt
      (λ d m. (d.0 + d.1.0 ≤ m) × ((i : ℕ) → i < d.1.0 → 𝓟.Allowed d.1.1.0 i))
      (λ d l. filled (λ i. 𝓟.kinds.wrap (𝓟.command_at d.1.1.0 i)) l d.0 d.1.0) (finish tt refl))))

-- what the proof of `record` cites
pub records-plan : (𝓟 : Plans) {M : Type 1} {𝓤 : Ura M} (𝓛 : Logic 𝓤) (𝓜 : Model 𝓤 𝓛.H) (𝓡 : Running 𝓤 𝓛.H 𝓜) (γ : Routines) (k batch-of at_of n-of fill : Callee)
    → Closed 𝓤 𝓛.H (tables 𝓤 𝓛.H 𝓜 𝓡 γ).C (tables 𝓤 𝓛.H 𝓜 𝓡 γ).Λ k (function (record_shape 𝓟) (𝓟.Pl ∷ []) (record_lets 𝓟) (record_code 𝓟 batch-of at_of n-of fill))
    → (r₀ : Routine) → γ batch-of ≡ r₀ → Triple 𝓤 (𝓡.run r₀) (of_contract 𝓟.Pl (Bt 𝓟) 𝓟.batch 𝓤 𝓛)
    → (r₁ : Routine) → γ at_of ≡ r₁ → Triple 𝓤 (𝓡.run r₁) (of_contract (Bt 𝓟) (uint w64) 𝓟.at 𝓤 𝓛) → (r₂ : Routine) → γ n-of ≡ r₂ → Triple 𝓤 (𝓡.run r₂) (of_contract (Bt 𝓟) (uint w64) 𝓟.n 𝓤 𝓛)
    → (r₃ : Routine) → γ fill ≡ r₃ → Triple 𝓤 (𝓡.run r₃) (fill_contract 𝓟 𝓤 𝓛)
    → Triple 𝓤 (𝓡.run (γ k)) (record_contract 𝓟 𝓤 𝓛)
records-plan 𝓟 𝓛 𝓜 𝓡 γ k batch-of at_of n-of fill closed r₀ c₀ t₀ r₁ c₁ t₁ r₂ c₂ t₂ r₃ c₃ t₃ =
    straight (record_shape 𝓟) (𝓟.Pl ∷ []) (record_lets 𝓟) (record_code 𝓟 batch-of at_of n-of fill) (asks (λ x. Fits 𝓟 x.1.0 (length x.0))) (λ ys d zs r. zs ≡ written 𝓟 d.0 ys)
    (λ ys d fits. (tt, λ bt e-b. (tt, λ i e-i. (tt, λ n e-n. (asked 𝓟 d.0 bt i n e-b e-i e-n (length ys) fits, wrote 𝓟 d.0 bt i n e-b e-i e-n ys))))) 𝓛 𝓜 𝓡 γ k closed
    ((r₀, (c₀, t₀)), ((r₁, (c₁, t₁)), ((r₂, (c₂, t₂)), ((r₃, (c₃, t₃)), tt))))

-- ---- a call: its locals are b, the state, c, .., and the plan
module _ (𝓟 : Plans) (𝓐 : Answers 𝓟.Pl) (B : Datum) (Cs : List Datum) where
  abbrev As : List Datum
  As = B ∷ 𝓐.St ∷ Cs

  abbrev Ls : List Datum
  Ls = 𝓟.Pl ∷ []

  abbrev shape : Shape
  shape = record { R = 𝓟.kinds.R; An = 𝓐.An; N = w8; N' = w8; N'' = w8; len = true; unit = true; lends = false ∷ [] }

  abbrev plan_of : (datum_at (As ++ Ls) (count As)).D → Plan 𝓟
  plan_of x = last 𝓟.Pl As x

  abbrev call_code : (ℕ → Dens As → Plan 𝓟 → Type 0) → Callee → Callee → Callee → Code shape As Ls
  call_code Planned f recorder answer =
      let_len tt f (numbers As) (knowns As Ls) (vacant 𝓟.Pl As) free (λ n d p. Planned n (passed As Ls d) (plan_of p))
      (onto tt recorder (count As ∷ []) (known 𝓟.Pl As, tt) tt (λ d n. Fits 𝓟 (plan_of d.0) n) (λ d l. written 𝓟 (plan_of d.0) l)
      (straights.answer answer (count As ∷ 1 ∷ []) (known 𝓟.Pl As, (tt, tt)) (λ d r. r ≡ 𝓐.answer (plan_of d.0) d.1.0)))

  -- what the proof of a call cites
  pub lists : (Planned : ℕ → Dens As → Plan 𝓟 → Type 0) (Done : List (Elem 𝓟) → Dens As → List (Elem 𝓟) → 𝓐.An.D → Type 0) → ((n : ℕ) (d : Dens As) (p : Plan 𝓟) → Planned n d p → Fits 𝓟 p n)
      → ((ys : List (Elem 𝓟)) (d : Dens As) (zs : List (Elem 𝓟)) (r : 𝓐.An.D) (p : Plan 𝓟) → Planned (length ys) d p → Recorded 𝓟 𝓐 p d.1.0 ys zs r → Done ys d zs r)
      → {M : Type 1} {𝓤 : Ura M} (𝓛 : Logic 𝓤) (𝓜 : Model 𝓤 𝓛.H) (𝓡 : Running 𝓤 𝓛.H 𝓜) (γ : Routines) (k f recorder answer : Callee)
      → Closed 𝓤 𝓛.H (tables 𝓤 𝓛.H 𝓜 𝓡 γ).C (tables 𝓤 𝓛.H 𝓜 𝓡 γ).Λ k (function shape As Ls (call_code Planned f recorder answer))
      → (r₀ : Routine) → γ f ≡ r₀ → Triple 𝓤 (𝓡.run r₀) (len_contract shape false (As ++ Ls) 𝓛 (arg_ds (As ++ Ls) (numbers As)) (datum_at (As ++ Ls) (count As)) free (λ n d p. Planned n (passed As Ls d) (plan_of p)))
      → (r₁ : Routine) → γ recorder ≡ r₁ → Triple 𝓤 (𝓡.run r₁) (onto_contract shape false (As ++ Ls) 𝓛 (datum_at (As ++ Ls) (count As) ∷ []) (λ d n. Fits 𝓟 (plan_of d.0) n) (λ d l. written 𝓟 (plan_of d.0) l))
      → (r₂ : Routine) → γ answer ≡ r₂ → Triple 𝓤 (𝓡.run r₂) (plain_contract shape false (As ++ Ls) 𝓛 (datum_at (As ++ Ls) (count As) ∷ 𝓐.St ∷ []) 𝓐.An free (λ d r. r ≡ 𝓐.answer (plan_of d.0) d.1.0))
      → Meets 𝓛 (straight-lists.signature shape As Ls) (𝓡.run (γ k)) (closing 𝓛 (straight-lists.ended shape As Ls) (straight-lists.clauses shape As Ls free Done 𝓤))
  lists Planned Done fits done 𝓛 𝓜 𝓡 γ k f recorder answer closed r₀ c₀ t₀ r₁ c₁ t₁ r₂ c₂ t₂ =
      straight shape As Ls (call_code Planned f recorder answer) free Done (λ ys d _. (
        tt,
        λ x e.
            let is = ap plan_of (last-is 𝓟.Pl As (start As Ls d) x) in
            let h = subst (λ (a : Dens As). Planned (length ys) a (plan_of x)) (passed_is As Ls d) e in
            let writes = ap (λ (p : Plan 𝓟). written 𝓟 p ys) is in
            (subst (λ (p : Plan 𝓟). Fits 𝓟 p (length ys)) (sym is) (fits (length ys) d _ h), λ r e-r. done ys d _ r _ h (e-r ∙ ap (λ (p : Plan 𝓟). 𝓐.answer p d.1.0) is, writes)),
      ))
      𝓛 𝓜 𝓡 γ k closed ((r₀, (c₀, t₀)), ((r₁, (c₁, t₁)), (r₂, (c₂, t₂))))
