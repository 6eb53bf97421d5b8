-- The Rust's numbers of cleared draw buffers, which document 01 has and document 02's request 1 replaces: a clear counts only the filled places. Definitions only.
-- The recorder does not use them; `Renumbered` says where both rules agree.
use Rattle.std.specs.Prelude.{ℕ, zero, suc, Bool, not, List, [], ◌∷◌, ◌++◌, Option, None, Some}
use Rattle.records.specs.declared.command.Command.{Command}
use Rattle.records.specs.declared.pass.ColorPlace.{ColorPlace}
use Rattle.records.specs.declared.pass.ColorAttachment.{ColorAttachment}
use Rattle.pass.specs.Render.{clear_place}
use Rattle.pass.specs.Places.{is_filled}

-- document 01: "A clear's draw buffer number counts only the filled places"
abbrev pub counts : ℕ → Option ColorAttachment → ℕ
counts n None = n
counts n (Some a) = suc n

unfoldable pub counted_clears : ℕ → List ColorPlace → List Command
counted_clears n [] = []
counted_clears n (p ∷ ps) = clear_place n p.attachment ++ counted_clears (counts n p.attachment) ps

abbrev pub is_empty : ColorPlace → Bool
is_empty p = not (is_filled p.attachment)

-- the clears from place i on, where place j goes to draw buffer N j
unfoldable pub clears_to : (ℕ → ℕ) → ℕ → List ColorPlace → List Command
clears_to N i [] = []
clears_to N i (p ∷ ps) = clear_place (N i) p.attachment ++ clears_to N (suc i) ps

-- how many of the places before place i are filled
unfoldable pub filled_before : List ColorPlace → ℕ → ℕ
filled_before [] i = 0
filled_before (p ∷ ps) zero = 0
filled_before (p ∷ ps) (suc i) = counts (filled_before ps i) p.attachment
