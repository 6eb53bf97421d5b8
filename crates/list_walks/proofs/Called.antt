-- A function `f(a: A, ..) -> C` of plain data that ensures `r ≡ of a ..`: its contract, and a call of it inside a walk.
--     asked_contract, calls-asked      with a `requires`
--     of_contract, calls-of            without
--     step_contract, calls-step        of the form `f(a: A, i: usize, x: R) -> C`: what is done with the element x at the place i
-- Assumes `Logic`.
use mathlib.Core.Path.{◌≡◌, refl, sym, subst}
use Prim.Native.Nat.{ℕ, ◌<◌, ◌^◌}
use mathlib.Core.List.{[], ◌∷◌, List}
use seplogic.Ra.Ura.{Ura}
use mir.Syntax.{Callee, w64, Place, Opd as Operand, Body, seq, call}
use mir.Val.{Val}
use base.Logic.{SProp, ent, emp, id⊢}
use prog.Wp.{Env, Tables}
use types.Logic.{Logic}
use contract.Monad.{fact}
use types.Kit.{Item, Post, Seq, runs, lands, raw}
use types.Run.{Opds}
use sound.WpLaws.{fm_of}
use denote.Laws.{Is}
use denote.Signature.{plain}
use denote.Triple.Spec.{triple_of}
use denote.Triple.Statement.{Contract, Triple}
use denote.Triple.Clauses.{Ended, Clauses, closing}
use Rattle.walks.proofs.Args.{Datum, row, uint, Dens, Facts, vals_of, slots, kepts, up, down, vdown, are-down, flat-down, makess}
use Rattle.walks.proofs.Calls.{end, calls-plain}
use Rattle.walks.proofs.Slices.{recast}
use Rattle.list_walks.proofs.Elements.{Element, Good}

up-down : (Ds : List Datum) (d : Dens Ds) → up 0 tt Ds (down 0 tt Ds d) ≡ d
up-down [] d = refl
up-down (D ∷ Ds) d = λ i. (d.0, up-down Ds d.1 i)

module _ (Ds : List Datum) (C : Datum) where
  abbrev of_ended : Ended
  of_ended = end (slots 0 Ds) (plain (λ _. row C)) (kepts 0 Ds)

  module _ {M : Type 1} (𝓤 : Ura M) where
    abbrev asked_clauses : (Dens Ds → SProp 𝓤) → (Dens Ds → C.D) → Clauses 𝓤 of_ended
    asked_clauses asks of κs a = record { ghost = Unit {0}; requires = λ _. asks (up 0 κs Ds a); ensures = λ _ r e. fact 𝓤 (r ≡ of (up 0 κs Ds a)) }

    module _ (𝓛 : Logic 𝓤) where
      abbrev pub asked_contract : (Dens Ds → SProp 𝓤) → (Dens Ds → C.D) → Contract 𝓤
      asked_contract asks of = triple_of 𝓛 of_ended.signature (closing 𝓛 of_ended (asked_clauses asks of))

      abbrev pub of_contract : (Dens Ds → C.D) → Contract 𝓤
      of_contract of = asked_contract (λ _. emp 𝓤) of

module _ (𝓔 : Element) (D C : Datum) (of : D.D → ℕ → 𝓔.R.D → C.D) where
  abbrev pub step_args : List Datum
  step_args = D ∷ uint w64 ∷ 𝓔.R ∷ []

  abbrev pub step_taken : Dens step_args → C.D
  step_taken d = of d.0 d.1.0 d.1.1.0

  abbrev pub step_contract : {M : Type 1} {𝓤 : Ura M} (𝓛 : Logic 𝓤) → Contract 𝓤
  step_contract {𝓤 = 𝓤} 𝓛 = of_contract step_args C 𝓤 𝓛 step_taken

module _ {M : Type 1} {𝓤 : Ura M} {𝓛 : Logic 𝓤} {K : Type 0} {Γ : List (Item 𝓤)} {E : Env 𝓤 𝓛.H} {q : Post 𝓤 𝓛.H} {f : Callee}
    {xs : List Operand} {p : Place} {rest : Body} where
  open 𝓛 use {H}

  pub calls-asked : K → (𝓣 : Tables 𝓤 H) (Ds : List Datum) (C : Datum) (asks : Dens Ds → SProp 𝓤) (of : Dens Ds → C.D)
      → Triple 𝓤 (𝓣.C f) (asked_contract Ds C 𝓤 𝓛 asks of) → (d : Dens Ds) → Facts Ds d → ent 𝓤 (emp 𝓤) (asks d)
      → Opds K 𝓛 (raw ((asked_contract Ds C 𝓤 𝓛 asks of).pre ((tt, tt, tt, down 0 tt Ds d, vdown 0 tt Ds d), tt)) ∷ Γ) E xs (vals_of Ds d)
      → ((r : C.D) (v : Val) → Is (row C) r (v ∷ []) → r ≡ of d → Seq K 𝓛 Γ (lands 𝓣.C 𝓣.Λ E p v rest q))
      → Seq K 𝓛 Γ (runs 𝓣.C 𝓣.Λ E (seq (call f xs p) rest) q)
  calls-asked t 𝓣 Ds C asks of met d fs may os k =
      calls-plain t (fm_of 𝓤 H 𝓛.laws 𝓣) (slots 0 Ds) (plain (λ _. row C)) (kepts 0 Ds) (asked_clauses Ds C 𝓤 asks of) met (makess 0 tt 𝓛 Ds)
      (down 0 tt Ds d) (vdown 0 tt Ds d) (are-down 0 tt Ds d fs) tt (subst (λ (x : Dens Ds). ent 𝓤 (emp 𝓤) (asks x)) (sym (up-down Ds d)) may)
      (λ r. r ≡ of d) (λ r ws. subst (λ (x : Dens Ds). ent 𝓤 (fact 𝓤 (r ≡ of x)) (fact 𝓤 (r ≡ of d))) (sym (up-down Ds d)) (id⊢ 𝓤 _))
      (recast (sym (flat-down 0 tt Ds d)) os) k

  pub calls-of : K → (𝓣 : Tables 𝓤 H) (Ds : List Datum) (C : Datum) (of : Dens Ds → C.D) → Triple 𝓤 (𝓣.C f) (of_contract Ds C 𝓤 𝓛 of) → (d : Dens Ds) → Facts Ds d
      → Opds K 𝓛 (raw ((of_contract Ds C 𝓤 𝓛 of).pre ((tt, tt, tt, down 0 tt Ds d, vdown 0 tt Ds d), tt)) ∷ Γ) E xs (vals_of Ds d)
      → ((r : C.D) (v : Val) → Is (row C) r (v ∷ []) → r ≡ of d → Seq K 𝓛 Γ (lands 𝓣.C 𝓣.Λ E p v rest q))
      → Seq K 𝓛 Γ (runs 𝓣.C 𝓣.Λ E (seq (call f xs p) rest) q)
  calls-of t 𝓣 Ds C of met d fs os k = calls-asked t 𝓣 Ds C (λ _. emp 𝓤) of met d fs (id⊢ 𝓤 (emp 𝓤)) os k

  pub calls-step : K → (𝓣 : Tables 𝓤 H) (𝓔 : Element) (D C : Datum) (of : D.D → ℕ → 𝓔.R.D → C.D) → Triple 𝓤 (𝓣.C f) (step_contract 𝓔 D C of 𝓛)
      → (a : D.D) (i : ℕ) (x : 𝓔.R.D) → Good D a → i < 2 ^ 64 → Good 𝓔.R x
      → Opds K 𝓛 (raw ((step_contract 𝓔 D C of 𝓛).pre ((tt, tt, tt, (a, (i, (x, tt))), vdown 0 tt (step_args 𝓔 D C of) (a, (i, (x, tt)))), tt)) ∷ Γ) E xs
      (vals_of (step_args 𝓔 D C of) (a, (i, (x, tt))))
      → ((r : C.D) (v : Val) → Is (row C) r (v ∷ []) → r ≡ of a i x → Seq K 𝓛 Γ (lands 𝓣.C 𝓣.Λ E p v rest q))
      → Seq K 𝓛 Γ (runs 𝓣.C 𝓣.Λ E (seq (call f xs p) rest) q)
  calls-step t 𝓣 𝓔 D C of met a i x g fits h os k =
      calls-of t 𝓣 (step_args 𝓔 D C of) C (step_taken 𝓔 D C of) met (a, (i, (x, tt))) (g, ((refl, fits), (h, tt))) os k
