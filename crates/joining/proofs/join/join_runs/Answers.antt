-- Numbers copied as a slice are the numbers written one after the other.
use Rattle.std.proofs.Common.{◌≡◌, ℕ, zero, suc, ◌+◌, ◌-◌, ◌≤◌, ◌∙◌, ◌++◌, List, length, get_or, take, drop, append_assoc, refl, sym, ap, arith}
use Rattle.std.proofs.Math.ListN.{set}
use lib.Seq.{drop-drop, paste, paste-zero, paste-suc}
use borrow.Rule.Slice.PartMut.{put_mid}
use Rattle.walks.specs.Fill.{filled}
use Rattle.joining.specs.Plan.{numbers_by}
use Rattle.joining.proofs.join.join_runs.Goals as goal

pasted : (d s : List ℕ) (at n : ℕ) → at + n ≤ length d → n ≤ length s → paste d at s n ≡ numbers_by d at s n
unfolding filled
pasted d s at zero h k = sym (paste-zero d at s)
pasted d s at (suc n) h k =
    sym (paste-suc d at s n 0 (omega arith) (omega arith)) ∙ ap (λ (l : List ℕ). set l (at + n) (get_or s n 0)) (pasted d s at n (omega arith) (omega arith))

copied : (d s part : List ℕ) (at n : ℕ) → part ≡ take n s → at + n ≤ length d → n ≤ length s → put_mid at (at + n - at) d part ≡ numbers_by d at s n
copied d s part at n e h k =
    let count : at + n - at ≡ n = omega arith in
    ap (λ (m : ℕ). put_mid at m d part) count
    ∙ ap (λ (p : List ℕ). take at d ++ (p ++ drop n (drop at d))) e
    ∙ ap (λ (p : List ℕ). take at d ++ (take n s ++ p)) (drop-drop n at d)
    ∙ sym (append_assoc (take at d) (take n s) (drop (at + n) d))
    ∙ pasted d s at n h k

pub returns : goal.returns
returns c =
    let a = c.args in
    let r = c.requires in (
      (
        copied a.bytes.now a.other_bytes.now _ a.plan.from.bytes a.plan.copied.bytes c.copy_from_slice.ensures.after r.0.0 r.0.1,
        copied a.queries.now a.other_queries.now _ a.plan.from.queries a.plan.copied.queries c.copy_from_slice-2.ensures.after r.1.0 r.1.1,
      ),
      refl,
    )
