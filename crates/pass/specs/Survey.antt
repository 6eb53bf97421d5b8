-- The lists of `Render` by the places of the pass. Assumes nothing.
-- `attach-gather`, `clear-gather`: the attachments are those of the filled places; the clears are those of the cleared places,
-- each to the draw buffer with its place's number.
use Rattle.std.specs.Prelude.{ℕ, suc, ◌≡◌, refl, Bool, true, false, cond, not, ◌&&◌, List, [], ◌∷◌, ◌++◌, get_or, Option, None, Some}
use Rattle.std.proofs.Common.{ap, ◌∙◌}
use Rattle.records.specs.declared.command.Command.{Command}
use Rattle.records.specs.declared.command.SampleKind.{SampleKind}
use Rattle.records.specs.declared.command.SampleKind.TheVariants as kind
use Rattle.records.specs.declared.pass.ColorPlace.{ColorPlace}
use Rattle.records.specs.declared.pass.ColorAttachment.{ColorAttachment}
use Rattle.records.specs.declared.pipeline.PrivateCapabilities.{PrivateCapabilities}
use Rattle.pass.specs.Render.{is_depth, clears, attach_place, attach_colors, clear_color, clear_place, clear_colors}
use Rattle.pass.specs.Places.{is_filled, is_cleared, attach_command, clear_command, no_command}
use Rattle.pass.specs.Gather.{gather}

-- ---- the attachments
abbrev pub fills_at : ℕ → ColorPlace → Bool
fills_at i p = is_filled p.attachment

abbrev pub attach_at : PrivateCapabilities → ℕ → ℕ → ColorPlace → Command
attach_at caps samples i p = attach_command caps samples i p.attachment

pub attach-gather : (caps : PrivateCapabilities) (samples i : ℕ) (ps : List ColorPlace) → attach_colors caps samples i ps ≡ gather fills_at (attach_at caps samples) i ps
unfolding attach_colors gather
attach-gather caps samples i [] = refl
attach-gather caps samples i (p ∷ ps) = go p.attachment (attach-gather caps samples (suc i) ps)
  where
    go : (o : Option ColorAttachment) → attach_colors caps samples (suc i) ps ≡ gather fills_at (attach_at caps samples) (suc i) ps
        → attach_place caps samples i o ++ attach_colors caps samples (suc i) ps
        ≡ cond (is_filled o) (attach_command caps samples i o ∷ gather fills_at (attach_at caps samples) (suc i) ps) (gather fills_at (attach_at caps samples) (suc i) ps)
    go None ih = ih
    go (Some a) ih = rw ih

-- ---- the clears
abbrev pub clears_at : ℕ → ColorPlace → Bool
clears_at i p = is_cleared p.attachment

abbrev pub clear_at : ℕ → ColorPlace → Command
clear_at i p = clear_command i p.attachment

one-clear : (n : ℕ) (o : Option ColorAttachment) (l : List Command) → clear_place n o ++ l ≡ cond (is_cleared o) (clear_command n o ∷ l) l
one-clear n None l = refl
one-clear n (Some a) l = go (clears a.ops) a.view.kind
  where
    go : (b : Bool) (k : SampleKind) → cond b (clear_color n a k) [] ++ l ≡ cond (b && not (is_depth k)) (get_or (cond b (clear_color n a k) []) 0 no_command ∷ l) l
    go true kind.Float = refl
    go true kind.Uint = refl
    go true kind.Sint = refl
    go true kind.Depth = refl
    go false k = refl

pub clear-gather : (i : ℕ) (ps : List ColorPlace) → clear_colors i ps ≡ gather clears_at clear_at i ps
unfolding clear_colors gather
clear-gather i [] = refl
clear-gather i (p ∷ ps) =
    one-clear i p.attachment (clear_colors (suc i) ps)
    ∙ ap (λ (l : List Command). cond (is_cleared p.attachment) (clear_command i p.attachment ∷ l) l) (clear-gather (suc i) ps)
