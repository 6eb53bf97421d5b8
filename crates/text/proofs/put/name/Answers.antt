-- `text::put::name` meets its contract: the part between two ends. Assumes nothing.
use Prim.Native.Nat.{ℕ, suc, ◌+◌}
use native.Mathlib.Omega.{arith}
use native.Mathlib.Numerals.{add-one}
use mathlib.Core.Path.{◌≡◌, ap, ◌∙◌}
use lib.ListN.{get_or}
use lib.Seq.{slice}
use Rattle.text.specs.Shown.{names, ends}
use Rattle.text.proofs.Names.{name-near, part-is}
use Rattle.text.proofs.put.name.Goals as goal

next : (k : ℕ) → get_or ends (k + 1) 0 ≡ get_or ends (suc k) 0
next k = ap (λ n. get_or ends n 0) (add-one k)

pub slice_bounds-result-count : goal.slice_bounds-result-count
slice_bounds-result-count c =
    let n = name-near c.args.place c.requires in
    omega (arith, n.up, c.name_end-from.ensures, c.name_end-to.ensures, next c.args.place)

pub slice_bounds-result-start : goal.slice_bounds-result-start
slice_bounds-result-start c =
    let n = name-near c.args.place c.requires in
    omega (arith, n.up, c.name_end-from.ensures, c.name_end-to.ensures, next c.args.place)

pub slice_bounds-result-end : goal.slice_bounds-result-end
slice_bounds-result-end c =
    let n = name-near c.args.place c.requires in
    omega (arith, n.inside, c.name_end-to.ensures, next c.args.place)

pub returns : goal.returns
returns c =
    let a = c.name_end-from in
    let b = c.name_end-to in
    let n = name-near c.args.place c.requires in
    let e : b.result ≡ get_or ends (suc c.args.place) 0 = b.ensures ∙ next c.args.place in
    part-is names a.result b.result (omega (arith, n.up, a.ensures, e))
    ∙ ap (λ k. slice k b.result names) a.ensures
    ∙ ap (λ k. slice (get_or ends c.args.place 0) k names) e
