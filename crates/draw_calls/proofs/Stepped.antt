-- The state after a draw: its progress, its dirty mask and the instances that its slots remember. Assumes nothing.
use Prim.Native.Nat.{ℕ}
use mathlib.Core.Bool.{Bool, true, false, cond}
use mathlib.Core.List.{List}
use mathlib.Core.Path.{◌≡◌, refl, ap}
use lib.ListN.{length}
use Rattle.records.specs.declared.state.Progress.{Progress}
use Rattle.records.specs.declared.state.State.{State}
use Rattle.slots.specs.Prepare.{remembered}
use Rattle.slots.proofs.Numbers.{none-remembered}
use Rattle.calls.specs.Parts.{with_progress, with_vertex}
use Rattle.slots.specs.Vertex.{stepped}

-- the dirty mask and the instances are the new ones where the call is carried through
pub vertex-moved : (t ok : Bool) (dirty bound w mask m new slots : ℕ) (instances : List ℕ) (s : State) (p : Progress) → length s.vertex.instances ≡ 16
    → mask ≡ cond ok dirty s.vertex.dirty_vbuf_mask → m ≡ cond ok bound 0 → instances ≡ remembered s.vertex.instances m w → ok ≡ t → dirty ≡ new → bound ≡ slots
    → with_vertex (stepped s.vertex mask instances) (with_progress p s) ≡ with_progress p (cond t (with_vertex (stepped s.vertex new (remembered s.vertex.instances slots w)) s) s)
vertex-moved t ok dirty bound w mask m new slots instances s p long a b c e d f = rw (c, a, b, e, d, f) (go t)
  where
    go : (t : Bool)
        → with_vertex (stepped s.vertex (cond t new s.vertex.dirty_vbuf_mask) (remembered s.vertex.instances (cond t slots 0) w)) (with_progress p s)
        ≡ with_progress p (cond t (with_vertex (stepped s.vertex new (remembered s.vertex.instances slots w)) s) s)
    go true = refl
    go false = ap (λ (l : List ℕ). with_vertex (stepped s.vertex s.vertex.dirty_vbuf_mask l) (with_progress p s)) (none-remembered s.vertex.instances w long)
