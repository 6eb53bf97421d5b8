-- `cheaper::search::cheaper_order` meets its contract: both refusals in their order, and then the search. Assumes nothing.
use Prim.Native.Nat.{ℕ, ◌+◌, ◌-◌, ◌*◌, ◌/◌, ◌%◌, ◌≤◌, ◌<◌, min}
use mathlib.Core.Path.{◌≡◌, sym, ap, ◌∙◌, subst}
use mathlib.Core.List.{List, ◌++◌}
use native.Mathlib.Omega.{arith}
use lib.ListN.{length, get_or}
use borrow.Author.Rules.{rules}
use Rattle.std.specs.Prelude.{Result, Ok}
use borrow.Author.Tests.{ne_eqb, le-ltb}
use lib.ListN.{replicate}
use native.Mathlib.Nat.{min-le_right, le-min}
use Rattle.cheaper.specs.Orders.{factorial}
use Rattle.cheaper.specs.Count.{factorial-pos}
use Rattle.cheaper.specs.Prices.{between, total, chosen}
use Rattle.cheaper.specs.Board.{value_in}
use Rattle.cheaper.specs.Answer.{answered}
use Rattle.cheaper.specs.declared.search.Cheaper.{Cheaper}
use Rattle.cheaper.specs.declared.search.Refusal.{Refusal}
use Rattle.cheaper.specs.Search.{sought}
use Rattle.cheaper.proofs.Whole.{same-price, same-choice, chosen-in, floor-is}
use Rattle.cheaper.proofs.search.cheaper_order.Goals as goal

whole : {o o' : List ℕ} {p p' f f' : ℕ} → o ≡ o' → p ≡ p' → f ≡ f'
    → ◌≡◌ {A = Result Cheaper Refusal} (Ok (record { order = o; price = p; floor = f })) (Ok (record { order = o'; price = p'; floor = f' }))
whole a b c = λ i. Ok (record { order = a i; price = b i; floor = c i })

pub seek-best-requires : goal.seek-best-requires
seek-best-requires c =
    let turns-is : c.min-turns.result ≡ min c.args.budget (factorial c.args.ps.count) = c.min-turns.ensures ∙ ap (min c.args.budget) c.orders_of.ensures in
    let a = c.args in
    let e = turns-is in (
      omega arith,
      subst (λ (n : ℕ). 0 < n) (sym e) (le-min {k = 1} (omega arith) (factorial-pos a.ps.count)),
      subst (λ (n : ℕ). n ≤ factorial a.ps.count) (sym e) (min-le_right a.budget (factorial a.ps.count)),
      λ q h. (c.table-between.ensures q h).1,
    )

pub returns : goal.returns
unfolding answered
returns c =
    let a = c.args in
    let v = value_in a.ps.pieces in
    let n = a.ps.count in
    let right : (k : ℕ) → k < 64 → get_or c.table-between.result k 0 ≡ between v (k / 8) (k % 8) = λ k h. (c.table-between.ensures k h).0 in
    let long : length a.ps.pieces ≡ 8 = search rules in
    let h : n ≤ 8 = omega arith in
    let p : 0 < a.budget = omega arith in
    let turns-is : c.min-turns.result ≡ min a.budget (factorial n) = c.min-turns.ensures ∙ ap (min a.budget) c.orders_of.ensures in
    let e : sought c.table-between.result n c.min-turns.result ≡ chosen v n a.budget = ap (sought c.table-between.result n)
    turns-is ∙ same-choice v c.table-between.result right n a.budget h p in
    rw (le-ltb 8 n h, ne_eqb a.budget 0 (λ (q : a.budget ≡ 0). omega arith))
    (whole (c.seek-best.ensures.0 ∙ ap (λ (o : List ℕ). o ++ replicate (8 - n) 0) e)
    (c.seek-best.ensures.1 ∙ ap (total (λ x y. get_or c.table-between.result (x * 8 + y) 0)) e ∙ same-price v
    c.table-between.result right n (chosen v n a.budget) h (chosen-in v c.table-between.result right n a.budget p))
    (floor-is a.ps.pieces n c.floor_of-floor.result (omega (arith, long)) c.floor_of-floor.ensures))
