-- Document 02, request 5, pass by pass: from outside of a render pass on, as long as what follows is even, the Rust's rule records the same, whatever was recorded before. Assumes nothing.
use Prim.Native.Nat.{ℕ}
use mathlib.Core.Path.{◌≡◌, ap, ◌∙◌, subst}
use Rattle.std.specs.Prelude.{None}
use Rattle.records.specs.declared.pipeline.PrivateCapabilities.{PrivateCapabilities}
use Rattle.records.specs.declared.state.State.{State}
use Rattle.calls.specs.Did.{rooms_of}
use Rattle.calls.specs.Parts.{with_vertex}
use Rattle.slots.specs.Vertex.{stepped}
use Rattle.book.specs.Run.{Recording, record_calls, fed, begun}
use Rattle.book.specs.Ran.{answers, recording_of}
use Rattle.order.specs.Claim.{AsRust, AsRustOfRun}
use Rattle.order.specs.OneNumber.{numbered, rust_calls, rust_fed, EvenWhere, SameLists}
use Rattle.order.proofs.OfRun.{Within, ran-records, ran-within, answers-are, begun-run}
use Rattle.order.proofs.Twin.{zeroed}
use Rattle.order.proofs.AsRust.{Twins, all-steps}
use Rattle.order.proofs.Rest.{Quiet, all-rested, begun-rested, rest-of-run}

-- where no slot is dirty and none has a number both rules go on alike, the one number 0
at_rest : (caps : PrivateCapabilities) (s : State) → Quiet s.vertex → Twins caps None s 0 (numbered 0 s)
at_rest caps s q =
    record {
      dirty = 0;
      is = ap (λ (d : ℕ). numbered 0 (with_vertex (stepped s.vertex d s.vertex.instances) s)) q.0;
      same = zeroed caps s.vertex q.0 q.1;
    }

-- THE LIST IS THE RUST'S in every stretch of even passes, and so are the answers
pub as-rust : AsRust
as-rust caps rooms s before calls e o E =
    all-steps caps rooms None x.state x.state 0 x.list x.bytes x.queries calls
    (at_rest caps x.state (all-rested caps rooms (begun caps rooms s) before (begun-rested caps rooms s e) o)) E
  where
    x : Recording
    x = record_calls caps rooms (begun caps rooms s) before

pub as-rust-of-run : AsRustOfRun
as-rust-of-run caps s₀ s₁ s' r₀ r r₁ r' a before calls d e B o R E = (
  (ap (λ (x : Recording). x.list) recorded ∙ both.0.0, ap (λ (x : Recording). x.bytes) recorded ∙ both.0.1, ap (λ (x : Recording). x.queries) recorded ∙ both.0.2),
  same ∙ both.1,
)
  where
    W : Within s₁ r₁
    W = ran-within caps B (begun-run caps s₀ r₀ r a d e).within

    same : answers R ≡ fed caps (rooms_of r₁) s₁ calls
    same = answers-are caps R W

    recorded : recording_of s' r' ≡ record_calls caps (rooms_of r₁) (recording_of s₁ r₁) calls
    recorded = ran-records caps R W

    both : SameLists (record_calls caps (rooms_of r₁) (recording_of s₁ r₁) calls) (rust_calls caps (rooms_of r₁) (recording_of s₁ r₁) 0 calls)
        × (fed caps (rooms_of r₁) s₁ calls ≡ rust_fed caps (rooms_of r₁) s₁ 0 calls)
    both =
        let x = recording_of s₁ r₁ in
        all-steps caps (rooms_of r₁) None s₁ s₁ 0 x.list x.bytes x.queries calls (at_rest caps s₁ (rest-of-run caps s₀ s₁ r₀ r r₁ a before d e B o))
        (subst (EvenWhere caps None) same E)
