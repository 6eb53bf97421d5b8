-- The step mode as 0 or 1, multiplied with instance and stride: document 02, request 4. Laws, no definition; assumes nothing.
use Rattle.std.specs.Prelude.{ℕ, ◌*◌, ◌-◌, ◌^◌, ◌<◌, ◌≤◌, ◌≡◌, refl, Bool, true, false}
use Rattle.std.proofs.Common.{ap, ◌∙◌, one-mul, zero-mul, arith}
use Rattle.mask.specs.Mask.{digit_of}
use Rattle.records.specs.declared.command.VertexStepMode.{VertexStepMode}
use Rattle.records.specs.declared.command.VertexStepMode.TheVariants.{Vertex, Instance}
use Rattle.slots.specs.Vertex.{step_of, is_instance}
use Rattle.slots.specs.Prepare.{instance_offset}

-- for every mode, instance and stride the product is the branching form's
pub product_is : (m : VertexStepMode) (w stride : ℕ) → digit_of (is_instance m) * w * stride ≡ instance_offset m w stride
product_is Instance w stride = ap (λ (n : ℕ). n * stride) (one-mul w)
product_is Vertex w stride = ap (λ (n : ℕ). n * stride) (zero-mul w) ∙ zero-mul stride

-- the same of the bit by which the state holds the mode
pub product-of-bit : (b : Bool) (w stride : ℕ) → digit_of b * w * stride ≡ instance_offset (step_of b) w stride
product-of-bit true w stride = product_is Instance w stride
product-of-bit false w stride = product_is Vertex w stride

-- the first product is no longer than the instance
pub digit-times : (b : Bool) (w : ℕ) → digit_of b * w ≤ w
digit-times true w = omega arith
digit-times false w = omega arith

-- of the largest working instance and stride: by instance it fits 64 bits, by vertex it is 0
largest : (instance_offset Instance (2 ^ 32 - 1) (2 ^ 32 - 1) ≡ 18446744065119617025) × (18446744065119617025 < 2 ^ 64) × (instance_offset Vertex (2 ^ 32 - 1) (2 ^ 32 - 1) ≡ 0)
largest = (refl, omega arith, refl)
