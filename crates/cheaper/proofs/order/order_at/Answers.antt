-- `cheaper::order::order_at` meets its contract: d are the places given out, of orders that go on with what is left. Assumes nothing.
use Prim.Native.Nat.{ℕ, zero, suc, ◌+◌, ◌-◌, ◌/◌, ◌%◌, ◌<◌}
use mathlib.Core.Path.{◌≡◌, refl, sym, ap, ap₂, ◌∙◌, subst}
use mathlib.Core.List.{List, [], ◌∷◌, ◌++◌, append-nil}
use native.Mathlib.Omega.{arith}
use lib.ListN.{get_or, length-set}
use borrow.Author.Rules.{rules}
use lib.ListN.{take, replicate}
use Rattle.cheaper.specs.Orders.{given, factorial}
use Rattle.cheaper.specs.Count.{factorial-pos}
use Rattle.cheaper.specs.Search.{order_at}
use Rattle.cheaper.proofs.Digits.{digit_low, rest-low, all-given, turn}
use Rattle.cheaper.proofs.order.order_at.Goals as goal

pub loop-k-init : goal.loop-k-init
loop-k-init c =
    let a = c.args in
    let z : a.n ≡ a.n - 0 = omega arith in (
      subst (λ (k : ℕ). a.i < factorial k) z c.requires.1,
      refl,
      refl,
      ([], refl, refl, sym (ap (λ (k : ℕ). order_at k (take k (0 ∷ 1 ∷ 2 ∷ 3 ∷ 4 ∷ 5 ∷ 6 ∷ 7 ∷ [])) a.i) z) ∙ ap (λ (l : List ℕ). order_at a.n l a.i) (all-given a.n c.requires.0)),
    )

-- no place is left
whole : (d : List ℕ) (m : ℕ) (xs : List ℕ) (r : ℕ) (o : List ℕ) → m ≡ 0 → d ++ order_at m xs r ≡ o → d ≡ o
unfolding order_at
whole d zero xs r o z e = sym (append-nil d) ∙ e
whole d (suc m) xs r o z e = absurd (omega arith)

pub nonzero_div-j : goal.nonzero_div-j
nonzero_div-j c = subst (λ (n : ℕ). 0 < n) (sym c.orders_of-block.ensures) (factorial-pos (c.args.n - c.loop-k.k - 1))

-- the digit is below m
low : (r b m : ℕ) → 0 < m → r < factorial m → b ≡ factorial (m - 1) → r / b < m
low r b m p h e = subst (λ (n : ℕ). r / n < m) (sym e) (digit_low m r p h)

pub bounds-left-j : goal.bounds-left-j
bounds-left-j c =
    let l = c.loop-k in
    omega (arith, low l.rest c.orders_of-block.result (c.args.n - l.k) (omega arith) l.invariant.0 c.orders_of-block.ensures)

pub remove-left-requires : goal.remove-left-requires
remove-left-requires c =
    let l = c.loop-k in
    (omega arith, low l.rest c.orders_of-block.result (c.args.n - l.k) (omega arith) l.invariant.0 c.orders_of-block.ensures)

pub nonzero_rem-rest : goal.nonzero_rem-rest
nonzero_rem-rest c = subst (λ (n : ℕ). 0 < n) (sym c.orders_of-block.ensures) (factorial-pos (c.args.n - c.loop-k.k - 1))

pub loop-k-preserved : goal.loop-k-preserved
loop-k-preserved c =
    let l = c.loop-k in
    let a = c.args in
    let d = l.invariant.3 in
    let more : suc (a.n - (l.k + 1)) ≡ a.n - l.k = omega arith in
    let less : a.n - l.k - 1 ≡ a.n - (l.k + 1) = omega arith in (
      subst (λ (k : ℕ). l.rest % c.orders_of-block.result < factorial k) less
          (subst (λ (n : ℕ). l.rest % n < factorial (a.n - l.k - 1)) (sym c.orders_of-block.ensures) (rest-low (a.n - l.k - 1) l.rest)),
      search rules,
      length-set l.out l.k (get_or l.left (l.rest / c.orders_of-block.result) 0) ∙ l.invariant.2,
      turn a.n l.k (a.n - l.k) (a.n - (l.k + 1)) l.rest c.orders_of-block.result l.out l.left c.remove-left.result d.0 (order_at a.n (given a.n) a.i)
          c.requires.0 (omega arith) more l.invariant.0 c.orders_of-block.ensures d.1 d.2 d.3 c.remove-left.ensures,
    )

pub returns : goal.returns
returns c =
    let l = c.loop-k in
    let a = c.args in
    let d = l.invariant.3 in
    let e : l.k ≡ a.n = omega arith in
    let z : a.n - l.k ≡ 0 = omega arith in
    d.1 ∙ ap₂ (λ (x : List ℕ) (k : ℕ). x ++ replicate (8 - k) 0) (whole d.0 (a.n - l.k) (take (a.n - l.k) l.left) l.rest _ z d.3) e
