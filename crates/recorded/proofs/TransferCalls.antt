-- What transitions, copies, query results and dispatches record. Assumes nothing.
use Prim.Native.Nat.{ℕ, ◌+◌, ◌*◌, ◌-◌, ◌≤◌}
use mathlib.Core.Path.{◌≡◌, refl}
use mathlib.Core.Bool.{false, ◌||◌}
use mathlib.Core.List.{List, [], ◌∷◌, map}
use native.Mathlib.Omega.{arith}
use lib.Dec.{ltb, eqb}
use lib.ListN.{length, take, drop, length-take, length-drop}
use borrow.Author.Tests.{ltb-false, le-ltb}
use Rattle.names.specs.Gl.{GL_COPY_READ_BUFFER, GL_COPY_WRITE_BUFFER}
use Rattle.records.specs.declared.args.Buffer.{Buffer}
use Rattle.records.specs.declared.command.BufferCopy.{BufferCopy}
use Rattle.records.specs.declared.command.Command.TheVariants.{BufferBarrier, TextureBarrier, CopyBufferToBuffer, Dispatch}
use Rattle.records.specs.declared.pipeline.PrivateCapabilities.{PrivateCapabilities}
use Rattle.pass.specs.Marks.{Lent, counted, over_run}
use Rattle.calls.specs.Transfers.{Barrier, synchronizes, barrier_commands, buffer_barrier_commands, texture_uses, texture_barrier_commands, on_board}
use Rattle.calls.specs.Transfers.{copy_command, queries_in, copy_queries_command, range_out, dispatch_commands}
use Rattle.machine.proofs.Lists.{or_right, each-always}
use Rattle.lists.specs.declared.limits.Used.{Used}
use Rattle.recorded.proofs.Good.{Good, plain, plain-either, Plain, joined, chosen}
use Rattle.recorded.proofs.Shapes.{each-mapped}
use Rattle.recorded.proofs.PassCalls.{counted-long}

module _ (w : Type 0) (u : Used) where
  of-barriers : (bs : List Barrier) → Plain w u (buffer_barrier_commands bs)
  unfolding buffer_barrier_commands
  of-barriers [] = tt
  of-barriers (b ∷ bs) =
      joined w u (barrier_commands b) (buffer_barrier_commands bs) (chosen w u (synchronizes b) (BufferBarrier b.buffer b.to ∷ []) [] (plain refl refl, tt) tt) (of-barriers bs)

  pub transits-buffers : (caps : PrivateCapabilities) (bs : List Barrier) → Plain w u (on_board caps (buffer_barrier_commands bs))
  transits-buffers caps bs = chosen w u caps.memory_barriers (buffer_barrier_commands bs) [] (of-barriers bs) tt

  pub transits-textures : (caps : PrivateCapabilities) (l : Lent) → Plain w u (on_board caps (texture_barrier_commands l))
  transits-textures caps l =
      chosen w u caps.memory_barriers (texture_barrier_commands l) []
      (chosen w u (eqb (texture_uses (take (2 * l.count) l.run)) 0) [] (TextureBarrier (texture_uses (take (2 * l.count) l.run)) ∷ []) tt (plain refl refl, tt)) tt

  pub copies : (src dst : Buffer) (l : List BufferCopy) → Plain w u (map (copy_command src dst) l)
  copies src dst l =
      each-mapped (λ (c : BufferCopy). Unit {0}) (Good w u false) (copy_command src dst) l
      (λ c t. plain-either (eqb src.target dst.target) (CopyBufferToBuffer src.raw GL_COPY_READ_BUFFER dst.raw GL_COPY_WRITE_BUFFER c)
      (CopyBufferToBuffer src.raw src.target dst.raw dst.target c) (plain refl refl) (plain refl refl))
      (each-always (λ (c : BufferCopy). Unit {0}) l (λ c. tt))

  pub dispatches : (x y z : ℕ) → Plain w u (dispatch_commands x y z)
  dispatches x y z = chosen w u (eqb x 0 || (eqb y 0 || eqb z 0)) [] (Dispatch x y z ∷ []) tt (plain refl refl, tt)

  -- the queries of a range are all in the set, and end where the query list ends after the call
  pub copies-queries : (set : Lent) (at start end : ℕ) (dst : Buffer) (offset : ℕ) → over_run set ≡ false → range_out set start end ≡ false
      → u.queries ≡ at + length (queries_in set start end) → Plain w u (copy_queries_command at start end dst offset ∷ [])
  copies-queries set at start end dst offset o e q =
      let h : end ≤ set.count = ltb-false set.count end (or_right (ltb end start) (ltb set.count end) e) in
      let b : at + (end - start) ≤ u.queries = omega (arith, h, q, counted-long set o, length-take (end - start) (drop start (counted set)), length-drop start (counted set)) in
      let r = le-ltb (at + (end - start)) at (omega arith) in
      let s = le-ltb u.queries (at + (end - start)) b in
      (plain (λ j. record { many = false; range = r j; room = s j }) refl, tt)
