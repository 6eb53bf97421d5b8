-- The colour places of a pass by number, and what one place gives: a command at most of each list of `Render`. Definitions only.
use Rattle.std.specs.Prelude.{ℕ, Bool, false, not, ◌&&◌, ◌||◌, get_or, Option, None, Some, is_some}
use Rattle.records.specs.Start.{start_resolve}
use Rattle.records.specs.declared.command.Command.{Command}
use Rattle.records.specs.declared.command.Command.TheVariants.{PopDebugGroup}
use Rattle.records.specs.declared.command.TextureView.{TextureView}
use Rattle.records.specs.declared.pass.ColorAttachment.{ColorAttachment}
use Rattle.records.specs.declared.pass.DepthStencilAttachment.{DepthStencilAttachment}
use Rattle.records.specs.declared.pass.RenderPassDescriptor.{RenderPassDescriptor}
use Rattle.records.specs.declared.pipeline.PrivateCapabilities.{PrivateCapabilities}
use Rattle.records.specs.declared.state.ResolveDesc.{ResolveDesc}
use Rattle.pass.specs.Render.{places_of, no_place, clears, is_depth, resolves_in_place, attach_place, clear_place, attach_depth, clear_depth}

abbrev pub place_at : RenderPassDescriptor → ℕ → Option ColorAttachment
place_at d i = (get_or (places_of d) i no_place).attachment

-- what a function gives that has no command to give
abbrev pub no_command : Command
no_command = PopDebugGroup

-- it has an attachment
abbrev pub is_filled : Option ColorAttachment → Bool
is_filled o = is_some o

-- it records a clear
abbrev pub is_cleared : Option ColorAttachment → Bool
is_cleared None = false
is_cleared (Some a) = clears a.ops && not (is_depth a.view.kind)

-- it is resolved at the end
abbrev pub has_view : Option TextureView → Bool
has_view o = is_some o

abbrev pub is_resolved : PrivateCapabilities → ℕ → Option ColorAttachment → Bool
is_resolved caps i None = false
is_resolved caps i (Some a) = has_view a.resolve_target && not (resolves_in_place caps i a.ops a.resolve_target)

-- its command, or resolve, where it has one
abbrev pub attach_command : PrivateCapabilities → ℕ → ℕ → Option ColorAttachment → Command
attach_command caps samples i p = get_or (attach_place caps samples i p) 0 no_command

abbrev pub clear_command : ℕ → Option ColorAttachment → Command
clear_command n p = get_or (clear_place n p) 0 no_command

abbrev pub resolve_to : ℕ → Option TextureView → ResolveDesc
resolve_to i None = start_resolve
resolve_to i (Some v) = record { place = i; dst = v }

abbrev pub resolve_desc : ℕ → Option ColorAttachment → ResolveDesc
resolve_desc i None = start_resolve
resolve_desc i (Some a) = resolve_to i a.resolve_target

-- the same of depth and stencil
abbrev pub has_depth : Option DepthStencilAttachment → Bool
has_depth o = is_some o

abbrev pub clears_depth : Option DepthStencilAttachment → Bool
clears_depth None = false
clears_depth (Some d) = clears d.depth_ops || clears d.stencil_ops

abbrev pub attach_depth_command : Option DepthStencilAttachment → Command
attach_depth_command t = get_or (attach_depth t) 0 no_command

abbrev pub clear_depth_command : Option DepthStencilAttachment → Command
clear_depth_command t = get_or (clear_depth t) 0 no_command
