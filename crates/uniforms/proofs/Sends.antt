-- Document 02, request 6: "exactly the descriptors that share a written word or were not sent since the last pipeline call", word for word, in every state that calls leave. Assumes nothing.
use Prim.Native.Nat.{ℕ}
use mathlib.Core.Path.{◌≡◌, refl, sym, ap, subst}
use mathlib.Core.Bool.{Bool, true, false, ◌||◌}
use mathlib.Core.List.Memᴰ
use mathlib.Core.List.{List, [], Memᴰ}
use mathlib.Core.Logic.{◌⊎◌, inl, inr, ◌↔◌}
use Rattle.records.specs.declared.check.Rooms.{Rooms}
use Rattle.records.specs.declared.command.ImmediateDesc.{ImmediateDesc}
use Rattle.records.specs.declared.pipeline.PrivateCapabilities.{PrivateCapabilities}
use Rattle.records.specs.declared.state.ImmediateState.{ImmediateState}
use Rattle.records.specs.declared.state.State.{State}
use Rattle.bindings.specs.Immediates.{descriptors_of, shares_word, sends}
use Rattle.bindings.specs.Shared.{shares-one, shared-yes}
use Rattle.calls.specs.Call.{Call, begin_encoding}
use Rattle.machine.specs.Each.{Each}
use Rattle.machine.proofs.Lists.{each-always, each-with}
use Rattle.book.specs.Run.{carried, record_calls, begun}
use Rattle.uniforms.specs.Since.{SharesOne, sent_since}
use Rattle.uniforms.proofs.History.{sent-is-each}

or-false : (t : Bool) → t || false ≡ true → t ≡ true
or-false true e = refl
or-false false e = e

or-true : (t : Bool) → t || true ≡ true
or-true true = refl
or-true false = refl

-- sent before: it goes out for a shared word alone
after-sending : (ds : List ImmediateDesc) (start end : ℕ) (d : ImmediateDesc) → Memᴰ d ds
    → (sends true start end d ≡ true) ↔ (SharesOne start end d ⊎ (Memᴰ d ds → ⊥))
after-sending ds start end d m = ((λ e. inl (shares-one start end d (or-false (shares_word start end d) e))), back)
  where
    back : SharesOne start end d ⊎ (Memᴰ d ds → ⊥) → sends true start end d ≡ true
    back (inl (k, a, b, c, e)) = ap (λ (t : Bool). t || false) (shared-yes start end k d a b c e)
    back (inr none) = absurd (none m)

-- nothing sent: it goes out
before-sending : (start end : ℕ) (d : ImmediateDesc) → (sends false start end d ≡ true) ↔ (SharesOne start end d ⊎ (Memᴰ d [] → ⊥))
before-sending start end d = ((λ e. inr (λ m. Memᴰ.not-nil m)), (λ h. or-true (shares_word start end d)))

pub sends-exactly : (caps : PrivateCapabilities) (rooms : Rooms) (s : State) (calls : List Call) → carried caps rooms s begin_encoding ≡ true
    → let i = (record_calls caps rooms (begun caps rooms s) calls).state.immediates in
    let ds = sent_since caps rooms (begun caps rooms s).state [] calls in
    (start end : ℕ) → Each (λ (d : ImmediateDesc). (sends i.sent start end d ≡ true) ↔ (SharesOne start end d ⊎ (Memᴰ d ds → ⊥))) (descriptors_of i)
sends-exactly caps rooms s calls e start end = go i.sent refl
  where
    i : ImmediateState
    i = (record_calls caps rooms (begun caps rooms s) calls).state.immediates

    ds : List ImmediateDesc
    ds = sent_since caps rooms (begun caps rooms s).state [] calls

    go : (t : Bool) → i.sent ≡ t → Each (λ (d : ImmediateDesc). (sends t start end d ≡ true) ↔ (SharesOne start end d ⊎ (Memᴰ d ds → ⊥))) (descriptors_of i)
    go true q =
        each-with (λ (d : ImmediateDesc). Memᴰ d ds) (λ (d : ImmediateDesc). Unit {0})
        (λ (d : ImmediateDesc). (sends true start end d ≡ true) ↔ (SharesOne start end d ⊎ (Memᴰ d ds → ⊥))) (descriptors_of i)
        (λ d m u. after-sending ds start end d m) ((sent-is-each caps rooms s calls e).0 q) (each-always (λ (d : ImmediateDesc). Unit {0}) (descriptors_of i) (λ d. tt))
    go false q =
        subst (λ (l : List ImmediateDesc). Each (λ (d : ImmediateDesc). (sends false start end d ≡ true) ↔ (SharesOne start end d ⊎ (Memᴰ d l → ⊥))) (descriptors_of i))
        (sym ((sent-is-each caps rooms s calls e).1 q))
        (each-always (λ (d : ImmediateDesc). (sends false start end d ≡ true) ↔ (SharesOne start end d ⊎ (Memᴰ d [] → ⊥))) (descriptors_of i) (λ d. before-sending start end d))
