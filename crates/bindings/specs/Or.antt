-- Laws of `◌||◌`. Assumes nothing.
use Rattle.std.specs.Prelude.{Bool, true, false, ◌||◌, ◌≡◌, refl}
use Rattle.std.proofs.Common.{true≢false}

pub or-false : (p : Bool) → p ≡ p || false
or-false true = refl
or-false false = refl

pub or_assoc : (p q r : Bool) → (p || q) || r ≡ p || (q || r)
or_assoc true q r = refl
or_assoc false q r = refl

pub neither : (p q : Bool) → p || q ≡ false → (p ≡ false) × (q ≡ false)
neither true q e = absurd (true≢false e)
neither false q e = (refl, e)
