-- Document 02, request 1: "Passes without empty places still match the Rust's list; with them, every field but that number does". Assumes nothing.
-- `same-when-filled`: without empty places both rules give one list. `ours`, `rusts`: always one list with two numberings.
-- `begin-same`, `begin-renumbered`: the same of all that the beginning of a pass records.
use Rattle.std.specs.Prelude.{ℕ, suc, ◌+◌, ◌<◌, ◌≡◌, refl, false, List, [], ◌∷◌, ◌++◌, length, Option, None, Some}
use Rattle.std.proofs.Common.{sym, ap, ap₂, ◌∙◌, add-zero, add-suc, suc-add, zero-add, arith}
use Rattle.records.specs.Check.{some?}
use Rattle.records.specs.declared.command.Command.{Command}
use Rattle.records.specs.declared.pass.ColorPlace.{ColorPlace}
use Rattle.records.specs.declared.pass.ColorAttachment.{ColorAttachment}
use Rattle.records.specs.declared.pass.RenderPassDescriptor.{RenderPassDescriptor}
use Rattle.records.specs.declared.pipeline.PrivateCapabilities.{PrivateCapabilities}
use Rattle.pass.specs.Marks.{Lent, Label}
use Rattle.pass.specs.Render.{places_of, clear_place, clear_colors, begin_with, begin_render_commands}
use Rattle.pass.specs.Counted.{counts, counted_clears, is_empty, clears_to, filled_before}

pub same-when-filled : (i : ℕ) (ps : List ColorPlace) → some? is_empty ps ≡ false → clear_colors i ps ≡ counted_clears i ps
unfolding clear_colors counted_clears some?
same-when-filled i [] e = refl
same-when-filled i (p ∷ ps) e = go p.attachment e (same-when-filled (suc i) ps)
  where
    go : (o : Option ColorAttachment) → some? is_empty (record { attachment = o } ∷ ps) ≡ false → (some? is_empty ps ≡ false → clear_colors (suc i) ps ≡ counted_clears (suc i) ps)
        → clear_place i o ++ clear_colors (suc i) ps ≡ clear_place i o ++ counted_clears (counts i o) ps
    go None e ih = let z : ◌≡◌ {A = ℕ} 0 1 = cc in absurd (omega arith)
    go (Some a) e ih = ap (λ (l : List Command). clear_place i (Some a) ++ l) (ih e)

-- ---- one list with two numberings
pub ours : (i : ℕ) (ps : List ColorPlace) → clear_colors i ps ≡ clears_to (λ j. j) i ps
unfolding clear_colors clears_to
ours i [] = refl
ours i (p ∷ ps) = ap (λ (l : List Command). clear_place i p.attachment ++ l) (ours (suc i) ps)

numbered : (N : ℕ → ℕ) (n i : ℕ) (ps : List ColorPlace) → ((j : ℕ) → j < length ps → N (i + j) ≡ n + filled_before ps j) → counted_clears n ps ≡ clears_to N i ps
unfolding counted_clears clears_to filled_before
numbered N n i [] h = refl
numbered N n i (p ∷ ps) h =
    ap₂ (λ (m : ℕ) (l : List Command). clear_place m p.attachment ++ l) (sym here) (numbered N (counts n p.attachment) (suc i) ps later)
  where
    here : N i ≡ n
    here = ap N (sym (add-zero i)) ∙ h 0 (omega arith) ∙ add-zero n

    one : (o : Option ColorAttachment) (m : ℕ) → n + counts m o ≡ counts n o + m
    one None m = refl
    one (Some a) m = omega arith

    later : (j : ℕ) → j < length ps → N (suc i + j) ≡ counts n p.attachment + filled_before ps j
    later j l = ap N (suc-add i j ∙ sym (add-suc i j)) ∙ h (suc j) (omega arith) ∙ one p.attachment (filled_before ps j)

-- the Rust's list is ours with another numbering: every field but that number is the same
pub rusts : (ps : List ColorPlace) → counted_clears 0 ps ≡ clears_to (filled_before ps) 0 ps
rusts ps = numbered (filled_before ps) 0 0 ps (λ j l. ap (filled_before ps) (zero-add j) ∙ sym (zero-add (filled_before ps j)))

-- ---- the whole beginning of a pass
pub begin-same : (caps : PrivateCapabilities) (d : RenderPassDescriptor) (label : Label) (set : Lent) (at : ℕ) → some? is_empty (places_of d) ≡ false
    → begin_render_commands caps d label set at ≡ begin_with (counted_clears 0 (places_of d)) caps d label set at
unfolding begin_render_commands
begin-same caps d label set at e = ap (λ (cs : List Command). begin_with cs caps d label set at) (same-when-filled 0 (places_of d) e)

pub begin-renumbered : (caps : PrivateCapabilities) (d : RenderPassDescriptor) (label : Label) (set : Lent) (at : ℕ)
    → (begin_render_commands caps d label set at ≡ begin_with (clears_to (λ j. j) 0 (places_of d)) caps d label set at)
    × (begin_with (counted_clears 0 (places_of d)) caps d label set at ≡ begin_with (clears_to (filled_before (places_of d)) 0 (places_of d)) caps d label set at)
unfolding begin_render_commands
begin-renumbered caps d label set at = (
  ap (λ (cs : List Command). begin_with cs caps d label set at) (ours 0 (places_of d)),
  ap (λ (cs : List Command). begin_with cs caps d label set at) (rusts (places_of d)),
)
