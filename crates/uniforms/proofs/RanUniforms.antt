-- Of what the functions hand back: their list and marker bytes leave every uniform as the list with the Rust's overlap test does (Rust.antt), and the state's flag is their history. Assumes nothing.
use Prim.Native.Nat.{ℕ}
use mathlib.Core.Path.{◌≡◌, sym, ap, ◌∙◌, subst}
use mathlib.Core.Bool.{false}
use mathlib.Core.List.{List, []}
use Rattle.records.specs.Outcome.{accepted}
use Rattle.records.specs.declared.outcome.Outcome.TheVariants.{Done}
use Rattle.records.specs.declared.pipeline.PrivateCapabilities.{PrivateCapabilities}
use Rattle.records.specs.declared.state.Answer.{Answer}
use Rattle.records.specs.declared.state.State.{State}
use Rattle.calls.specs.Call.{Call, begin_encoding}
use Rattle.calls.specs.Did.{Runs, rooms_of, Did}
use Rattle.book.specs.Run.{Recording, beginning, record_calls}
use Rattle.book.specs.Ran.{Ran, answers}
use Rattle.order.proofs.OfRun.{answers-are, ran-begun, Begun, begun-run}
use Rattle.uniforms.specs.Uniforms.{held}
use Rattle.uniforms.specs.Kind.{Apartness}
use Rattle.uniforms.specs.Rust.{Lists, rust_lists, no_lists}
use Rattle.uniforms.specs.Since.{wrote_since}
use Rattle.uniforms.specs.Claim.{held_after}
use Rattle.uniforms.proofs.Means.{begun-state}
use Rattle.uniforms.proofs.History.{flag-from}
use Rattle.uniforms.proofs.Kept.{Kept}
use Rattle.uniforms.proofs.Appended.{held_by}
use Rattle.uniforms.proofs.Theorem.{Tied, lists_of, began, all-calls}

-- where a run begins nothing is recorded
pub tied-begun : (caps : PrivateCapabilities) (s₀ : State) (r₀ r : Runs) (a : Answer) → Did caps s₀ r₀ begin_encoding a r → a.outcome ≡ Done → Tied a.state no_lists no_lists
tied-begun caps s₀ r₀ r a d e = subst (λ (x : State). Tied x no_lists no_lists) (sym d.state) (began caps (rooms_of r₀) s₀ (ap accepted (sym d.outcome ∙ e)))

pub uniforms-of-run : (caps : PrivateCapabilities) (s₀ s' : State) (r₀ r r' : Runs) (a : Answer) (calls : List Call)
    → Did caps s₀ r₀ begin_encoding a r → a.outcome ≡ Done → (R : Ran caps a.state r calls s' r')
    → Apartness (answers R)
    → let L = rust_lists caps (rooms_of r) a.state no_lists calls in
    ((held_after s' r').program ≡ (held L.bytes L.commands).program) × ((p l : ℕ) → (held_after s' r').uniform p l ≡ (held L.bytes L.commands).uniform p l)
uniforms-of-run caps s₀ s' r₀ r r' a calls d e R P = (
  ap (λ (x : Recording). (held x.bytes x.list).program) (ran-begun caps B R) ∙ K.program,
  λ p l. ap (λ (x : Recording). (held x.bytes x.list).uniform p l) (ran-begun caps B R) ∙ K.same p l,
)
  where
    B : Begun caps r a
    B = begun-run caps s₀ r₀ r a d e

    L : Lists
    L = rust_lists caps (rooms_of r) a.state no_lists calls

    K : Kept (record_calls caps (rooms_of r) (beginning a.state) calls).state.immediates (held_by (lists_of (record_calls caps (rooms_of r) (beginning a.state) calls))) (held_by L)
    K =
        (all-calls caps (rooms_of r) a.state no_lists no_lists [] calls (tied-begun caps s₀ r₀ r a d e)
        (subst Apartness (answers-are caps R B.within) P)).kept

-- the flag of the state that they hand back is their history
pub flag-of-run : (caps : PrivateCapabilities) (s₀ s' : State) (r₀ r r' : Runs) (a : Answer) (calls : List Call)
    → Did caps s₀ r₀ begin_encoding a r → a.outcome ≡ Done → (R : Ran caps a.state r calls s' r')
    → s'.immediates.sent ≡ wrote_since (answers R)
flag-of-run caps s₀ s' r₀ r r' a calls d e R =
    ap (λ (x : Recording). x.state.immediates.sent) (ran-begun caps B R)
    ∙ flag-from caps (rooms_of r) (beginning a.state) calls unsent
    ∙ ap wrote_since (sym (answers-are caps R B.within))
  where
    B : Begun caps r a
    B = begun-run caps s₀ r₀ r a d e

    unsent : a.state.immediates.sent ≡ false
    unsent = ap (λ (x : State). x.immediates.sent) (d.state ∙ begun-state caps (rooms_of r₀) s₀ (ap accepted (sym d.outcome ∙ e)))
