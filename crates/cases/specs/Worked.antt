-- What the worked lists share: the first premise from the buffers of a pipeline's slots, and premises in a row. Assumes nothing.
use Rattle.std.specs.Prelude.{ℕ, zero, suc, ◌<◌, ◌≡◌, refl, Bool, true, false, cond, ltb, Option, None, Some}
use Rattle.std.proofs.Common.{subst, arith, ltb-true}
use Rattle.records.specs.declared.command.VertexBufferDesc.{VertexBufferDesc}
use Rattle.records.specs.declared.pipeline.RenderPipeline.{RenderPipeline}
use Rattle.machine.proofs.Lists.{false-true}
use Rattle.book.specs.Book.{Book, known}
use Rattle.book.specs.Premise.{Ready}

-- a pipeline describes no slot past its count
ready : {b : Book} (p : RenderPipeline) → b.pipeline ≡ Some p → ((i : ℕ) → i < p.vertex_buffer_count → known (b.buffer i) ≡ true) → Ready b
ready {b} p is buffers = record { pipeline = p; is = is; bound = λ i l h. go i _ (ltb i p.vertex_buffer_count) refl h }
  where
    go : (i : ℕ) (d : Option VertexBufferDesc) (t : Bool) → ltb i p.vertex_buffer_count ≡ t → known (cond t d None) ≡ true → known (b.buffer i) ≡ true
    go i d true q h = buffers i (ltb-true i p.vertex_buffer_count q)
    go i d false q h = false-true h

-- of no slot, of one, and of two
pub ready-0 : {b : Book} (p : RenderPipeline) → b.pipeline ≡ Some p → p.vertex_buffer_count ≡ 0 → Ready b
ready-0 p is n = ready p is (λ i l. absurd (none_below (subst (λ (k : ℕ). i < k) n l)))
  where
    none_below : {i : ℕ} → i < 0 → ⊥
    none_below l = omega (arith, l)

pub ready-1 : {b : Book} (p : RenderPipeline) → b.pipeline ≡ Some p → p.vertex_buffer_count ≡ 1 → known (b.buffer 0) ≡ true → Ready b
ready-1 {b} p is n zeroth = ready p is (λ i l. at i (subst (λ (k : ℕ). i < k) n l))
  where
    at : (i : ℕ) → i < 1 → known (b.buffer i) ≡ true
    at zero l = zeroth
    at (suc i) l = absurd (omega arith)

pub ready-2 : {b : Book} (p : RenderPipeline) → b.pipeline ≡ Some p → p.vertex_buffer_count ≡ 2 → known (b.buffer 0) ≡ true → known (b.buffer 1) ≡ true → Ready b
ready-2 {b} p is n zeroth first = ready p is (λ i l. at i (subst (λ (k : ℕ). i < k) n l))
  where
    at : (i : ℕ) → i < 2 → known (b.buffer i) ≡ true
    at zero l = zeroth
    at (suc zero) l = first
    at (suc (suc i)) l = absurd (omega arith)

-- a premise for each call, in order
infixr 20 ◌⨾◌
pub ◌⨾◌ : {A B : Type 0} → A → B → A × B
a ⨾ b = (a, b)
