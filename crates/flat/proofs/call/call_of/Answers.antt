-- The calls stand in the order of their codes.
use Rattle.std.proofs.Common.{ℕ, zero, suc, ◌+◌, ◌≡◌, Bool, true, false, ◌&&◌, refl, sym, ap, ◌∙◌, subst, List, [], ◌∷◌, eqb, eqb-true, Option, None, Some, IfSome, option_copied, slice_get, Bor, arith}
use Rattle.std.specs.Slice.{IsItemAt}
use Rattle.std.proofs.lemmas.Option.{slice_get-get_or, slice_get_past}
use Rattle.flat.specs.declared.call.Call.{Call}
use Rattle.flat.specs.declared.call.Call.TheVariants as call
use Rattle.flat.specs.Call.{code_of}
use Rattle.flat.proofs.call.call_of.Goals as goal

item-copied : {X : Type 0} (xs : List X) (i : ℕ) (r : Option (Bor X)) → IsItemAt xs i r → option_copied r ≡ slice_get xs i
item-copied xs i None h = sym (slice_get_past xs i h.3)
item-copied xs i (Some x) h = ap Some h.1 ∙ sym (slice_get-get_or xs i x.now h.3.0)

abbrev calls : List Call
calls =
    call.BeginEncoding
    ∷ call.EndEncoding
    ∷ call.BeginRenderPass
    ∷ call.EndRenderPass
    ∷ call.BeginComputePass
    ∷ call.EndComputePass
    ∷ call.TransitionBuffers
    ∷ call.TransitionTextures
    ∷ call.ClearBuffer
    ∷ call.CopyBufferToBuffer
    ∷ call.CopyQueryResults
    ∷ call.BeginQuery
    ∷ call.EndQuery
    ∷ call.WriteTimestamp
    ∷ call.ResetQueries
    ∷ call.SetBindGroup
    ∷ call.SetImmediates
    ∷ call.SetRenderPipeline
    ∷ call.SetComputePipeline
    ∷ call.SetIndexBuffer
    ∷ call.SetVertexBuffer
    ∷ call.SetViewport
    ∷ call.SetScissorRect
    ∷ call.SetStencilReference
    ∷ call.SetBlendConstants
    ∷ call.Draw
    ∷ call.DrawIndexed
    ∷ call.DrawIndirect
    ∷ call.DrawIndexedIndirect
    ∷ call.DispatchWorkgroups
    ∷ call.DispatchWorkgroupsIndirect
    ∷ []

-- the codes go up from k
abbrev ordered : ℕ → List Call → Bool
ordered k [] = true
ordered k (x ∷ xs) = eqb (code_of x) k && ordered (suc k) xs

both : (a b : Bool) → a && b ≡ true → (a ≡ true) × (b ≡ true)
both true true e = (refl, refl)
both true false e = (refl, e)
both false true e = (e, refl)
both false false e = (e, e)

named : (k : ℕ) (xs : List Call) (n m : ℕ) → ordered k xs ≡ true → m ≡ k + n → IfSome (slice_get xs n) (λ c. code_of c ≡ m)
named k [] n m e q = tt
named k (x ∷ xs) zero m e q = eqb-true (code_of x) k (both (eqb (code_of x) k) (ordered (suc k) xs) e).0 ∙ omega arith
named k (x ∷ xs) (suc n) m e q = named (suc k) xs n m (both (eqb (code_of x) k) (ordered (suc k) xs) e).1 (omega arith)

pub returns-clause-named : goal.returns-clause-named
returns-clause-named c =
    subst (λ (o : Option Call). IfSome o (λ c'. code_of c' ≡ c.args.code))
    (sym (c.copied.ensures ∙ item-copied calls c.args.code c.get.result c.get.ensures.lookup))
    (named 0 calls c.args.code c.args.code refl (omega arith))
