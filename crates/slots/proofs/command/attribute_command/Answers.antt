-- `slots::command::attribute_command` meets its contract: where the sum fits, it is the sum. Assumes nothing.
use Rattle.std.proofs.Common.{ℕ, ◌+◌, ◌^◌, ◌<◌, ◌≡◌, ◌∙◌, sym, subst, Option, None, Some}
use Rattle.std.specs.Option.{SomeIff, unwrap_or}
use Rattle.slots.specs.Prepare.{slot_offset, attribute_offset}
use Rattle.slots.proofs.Limits.{fits}
use Rattle.slots.proofs.command.attribute_command.Goals as goal

value : (r : Option ℕ) (P : Type 0) (s : ℕ) → SomeIff r P s → P → unwrap_or r 0 ≡ s
value None P s n p = absurd (n p)
value (Some x) P s h p = h.1

pub returns : goal.returns
returns c =
    λ e.
    let a = c.args in
    let t = attribute_offset a.v a.w a.a in
    let s = a.a.offset + c.slot_at-slot.result.offset + c.slot_offset-more.result in
    let fit : t < 2 ^ 32 = (fits (slot_offset a.v a.w a.a.buffer_index) t (2 ^ 32) e).sum_fits in
    let same : s ≡ t = rw (c.slot_offset-more.ensures, c.slot_at-slot.ensures) in
    let sum : c.unwrap_or.result ≡ t =
    c.unwrap_or.ensures ∙ value c.low_sum.result (s < 2 ^ 32) s c.low_sum.ensures (subst (λ (k : ℕ). k < 2 ^ 32) (sym same) fit) ∙ same in
    rw (sum, c.slot_desc-desc.ensures, c.slot_at-slot.ensures)
