-- `binding_calls::sending::work_out` meets its contract. Assumes nothing.
use Prim.Native.Nat.{ℕ, ◌+◌, ◌/◌, ◌%◌, ◌≤◌}
use mathlib.Core.Bool.{false, not}
use mathlib.Core.List.{List}
use mathlib.Core.Path.{◌≡◌, sym, ap, ap₂, ◌∙◌, subst}
use native.Mathlib.Omega.{arith}
use native.Mathlib.Nat.{min-eq_left}
use lib.Dec.{eqb, ltb}
use lib.ListN.{length, take}
use lib.Seq.{length-take-le}
use borrow.Author.Tests.{ltb-false}
use Rattle.records.specs.declared.command.ImmediateDesc.{ImmediateDesc}
use Rattle.records.specs.declared.state.ImmediateState.{ImmediateState}
use Rattle.records.specs.Check.{some?, bad_descriptor}
use Rattle.records.proofs.Long.{descs-long}
use Rattle.bindings.specs.Immediates.{descriptors_of, sends, filter, sent_descriptors, immediate_bytes, immediates_state, immediates_out_of_range}
use Rattle.bindings.specs.Or.{neither}
use Rattle.bindings.specs.Shared.{filter-good}
use Rattle.bindings.specs.Placed.{places_of, size_of, bytes-size}
use Rattle.bindings.proofs.Long.{words_long}
use Rattle.binding_calls.proofs.sending.work_out.Goals as goal

few_words : (offset count : ℕ) → immediates_out_of_range offset count ≡ false → count ≤ 65
few_words offset count e =
    let h : offset / 4 + count ≤ 64 = ltb-false 64 (offset / 4 + count) (neither (not (eqb (offset % 4) 0)) (ltb 64 (offset / 4 + count)) e).1 in
    omega arith

-- a count within the array counts so many
counted-whole : (l : List ImmediateDesc) (n : ℕ) → length l ≡ 192 → n ≤ 192 → length (take n l) ≡ n
counted-whole l n e h = length-take-le n l (subst (λ (k : ℕ). n ≤ k) (sym e) h)

pub returns : goal.returns
returns c =
    let placed = c.place_descriptors-placed in
    let pick = c.picked-state in
    let words = c.within in
    let first = c.within-first in
    let after = c.immediates_after-after in
    let a = c.args in
    let i = a.i in
    let ds = sent_descriptors i a.offset a.count in
    let limit : first.result ≤ 65536 = omega (arith, first.ensures) in
    let old : length i.words ≡ 64 = words_long i _ c.well_formed.1.1.0 in
    let sent : immediates_out_of_range a.offset a.count ≡ false → descriptors_of pick.result ≡ ds =
    λ range. pick.ensures.0
    ∙ ap (λ (n : ℕ). filter (sends i.sent (a.offset / 4) (a.offset / 4 + n)) (descriptors_of i)) (words.ensures ∙ min-eq_left (few_words a.offset a.count range)) in
    let sound : immediates_out_of_range a.offset a.count ≡ false → some? bad_descriptor (descriptors_of i) ≡ false → some? bad_descriptor (descriptors_of pick.result) ≡ false =
    λ range good. ap (some? bad_descriptor) (sent range) ∙ filter-good (sends i.sent (a.offset / 4) (a.offset / 4 + a.count)) (descriptors_of i) good in
    record {
      many = λ range. sym (sym (ap length (sent range)) ∙ counted-whole pick.result.descs pick.result.count (descs-long pick.result _ pick.type_inv) pick.ensures.1);
      few = pick.ensures.1;
      small = placed.ensures.0;
      sized =
          λ range good.
          (placed.ensures.1 (sound range good) limit).1 i.words old
          ∙ bytes-size i.words (descriptors_of pick.result) old (sound range good) ∙ ap size_of (sent range);
      right =
          λ range good used.
          let same : first.result ≡ a.used = omega (arith, first.ensures) in
          let p = placed.ensures.1 (sound range good) limit in
          let e = after.ensures range in
          let new = (immediates_state i a.offset (take a.count a.words.now)).words in
          record {
            descriptors = sent range;
            words = ap (λ (x : ImmediateState). x.words) e;
            places = ap (λ (l : List ImmediateDesc). take (length l) placed.result.at) (sym (sent range)) ∙ p.0 ∙ ap₂ places_of (sent range) same;
            size =
                p.1 new (sym (ap (λ (x : ImmediateState). length x.words) e) ∙ words_long after.result _ after.type_inv)
                ∙ ap (λ (l : List ImmediateDesc). length (immediate_bytes new l)) (sent range);
          };
    }
