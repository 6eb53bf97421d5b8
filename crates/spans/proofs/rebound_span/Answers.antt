use Prim.Native.Nat.{◌≤◌, ◌<◌}
use mathlib.Core.Path.{◌≡◌}
use mathlib.Core.Bool.{true, false}
use Rattle.records.specs.Outcome.{accepted}
use Rattle.spans.specs.Answer.{numbers}
use Rattle.spans.specs.Span.{Always, Sometimes, Exactly, refusal, SpanOf}
use Rattle.spans.specs.declared.Span.TheVariants.{Masks, Broken, Reversed}
use native.Mathlib.Omega.{arith}
use Rattle.spans.specs.Exact.{always-exact, sometimes-exact}
use Rattle.spans.specs.Rebound.{low-described}
use Rattle.spans.proofs.rebound_span.Goals as goal

pub returns-then-not-ok : goal.returns-then-not-ok
returns-then-not-ok c =
    let off : accepted (refusal c.args.s) ≡ false = cc in
    let a = c.args in
    let h : SpanOf a.caps a.s a.lower a.upper (Broken c.refusal-o.result) = (off, c.refusal-o.ensures) in
    (h, numbers a.caps a.s a.lower a.upper (Broken c.refusal-o.result) h)

pub returns-then-upper-lower : goal.returns-then-upper-lower
returns-then-upper-lower c =
    let a = c.args in
    let ok : accepted (refusal a.s) ≡ true = cc in
    let l : a.upper < a.lower = omega arith in
    ((ok, l), numbers a.caps a.s a.lower a.upper Reversed (ok, l))

pub returns : goal.returns
returns c =
    let a = c.args in
    let ok : accepted (refusal a.s) ≡ true = cc in
    let l : a.lower ≤ a.upper = omega (arith, c.if-upper-lower.false) in
    let low = low-described a.s ok in
    let x : Exactly c.masks-always.result.0 (Always a.caps a.s a.lower a.upper) =
    rw (c.masks-always.ensures.0, c.working-high.ensures, c.working-low.ensures) (always-exact a.caps a.s low a.lower a.upper l) in
    let y : Exactly c.masks-always.result.1 (Sometimes a.caps a.s a.lower a.upper) =
    rw (c.masks-always.ensures.1, c.working-high.ensures, c.working-low.ensures) (sometimes-exact a.caps a.s low a.lower a.upper l) in
    ((ok, l, x, y), numbers a.caps a.s a.lower a.upper (Masks c.masks-always.result.0 c.masks-always.result.1) (ok, l, x, y))
