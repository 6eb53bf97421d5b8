-- The array that `array::from_fn` makes of a closure, as a table. Assumes nothing.
-- `made-is`: where the closure computes h, the array is the table of h.
use Rattle.std.proofs.Common.{ℕ, zero, suc, ◌+◌, ◌<◌, ◌≡◌, List, get_or, subst, ◌∙◌, arith}
use Rattle.std.specs.Array.{IsFromFnResult, IsFromFnResultFrom}
use denote.Param.Members.{Mut, Called}
use Rattle.tables.specs.Tabulate.{tabulate, same-long, alike}

module _ {F B : Type 0} {g : Mut F (ℕ × Unit {0}) B} (ys : List B) (f : F) (h : ℕ → B) where
  each : (n i j : ℕ) (d : B) → ((k : ℕ) (y : B) (q : F) → k < i + n → Called g f (k, tt) y q → (q ≡ f) × (y ≡ h k))
      → IsFromFnResultFrom g f ys i n → j < n → get_or ys (i + j) d ≡ h (i + j)
  each zero i j d e r l = absurd (omega arith)
  each (suc n) i zero d e r l = subst (λ (k : ℕ). get_or ys k d ≡ h k) (omega arith) (r.2.1 d ∙ (e i r.1 r.0 (omega arith) r.3).1)
  each (suc n) i (suc j) d e r l =
      subst (λ (k : ℕ). get_or ys k d ≡ h k) (omega arith)
      (each n (i + 1) j d (λ k y q m. e k y q (omega arith)) (subst (λ (q : F). IsFromFnResultFrom g q ys (i + 1) n) (e i r.1 r.0 (omega arith) r.3).0 r.4) (omega arith))

  pub made-is : (n : ℕ) → B → IsFromFnResult g f ys n → ((i : ℕ) (y : B) (q : F) → i < n → Called g f (i, tt) y q → (q ≡ f) × (y ≡ h i)) → ys ≡ tabulate n h
  made-is n d r e =
      same-long ys n d r.long
      ∙ alike n (λ i. get_or ys i d) h (λ i l. subst (λ (k : ℕ). get_or ys k d ≡ h k) (omega arith) (each n 0 i d (λ k y q m. e k y q (omega arith)) r.each l))
