-- `pipeline::fixed::depth_command_at` meets its contract, case by case. Assumes nothing.
use mathlib.Core.Path.{◌≡◌}
use mathlib.Core.List.{[]}
use native.Mathlib.Nat.{not-suc-le-zero}
use Rattle.pipeline.specs.Fixed.{depth_commands}
use Rattle.pipeline.proofs.fixed.depth_command_at.Goals as goal

pub returns-in-None : goal.returns-in-None
returns-in-None c = let z : depth_commands c.args.depth ≡ [] = cc in λ h d. absurd (not-suc-le-zero (rw z at h))
