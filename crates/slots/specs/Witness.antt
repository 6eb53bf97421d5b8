-- A draw's slots worked out, by computation. Assumes nothing.
use Rattle.std.specs.Prelude.{◌≡◌, refl, true, false, [], ◌∷◌, replicate}
use Rattle.tables.specs.Tabulate.{tabulate}
use Rattle.mask.specs.Mask.{test_bit, places_from, mask_of, without}
use Rattle.mask.specs.By.{mask_by}
use Rattle.records.specs.Start.{start_slot, start_attribute}
use Rattle.records.specs.declared.command.Command.TheVariants.{SetVertexBuffer}
use Rattle.records.specs.declared.command.VertexStepMode.TheVariants.{Instance}
use Rattle.records.specs.declared.pipeline.PrivateCapabilities.{PrivateCapabilities}
use Rattle.records.specs.declared.state.VertexState.{VertexState}
use Rattle.slots.specs.Prepare.{prepared, prepared_state, buffer_commands}

-- "layout on, instancing emulated"
abbrev emulated : PrivateCapabilities
emulated =
    record {
      memory_barriers = false;
      vertex_buffer_layout = true;
      fully_featured_instancing = false;
      multisampled_render_to_texture = false;
    }

-- slot 1 is stepped by instance and was bound for instance 0; slot 2 is dirty and not described
abbrev steady : VertexState
steady =
    record {
      described = 2;
      bound = 6;
      by_instance = 2;
      dirty_vbuf_mask = 4;
      buffers = start_slot ∷ record { stride = 8; raw = 7; offset = 16 } ∷ record { stride = 0; raw = 9; offset = 0 } ∷ replicate 13 start_slot;
      attribute_count = 0;
      instances = replicate 16 0;
      instance_vbuf_mask = 2;
      attributes = replicate 16 start_attribute;
    }

-- a draw from another instance binds it anew, moved on
instance-moved : prepared emulated steady 5 ≡ SetVertexBuffer 1 (record { raw = 7; offset = 56 }) (record { step = Instance; stride = 8 }) ∷ []
unfolding buffer_commands places_from test_bit mask_by tabulate mask_of
instance-moved = refl

-- and one from the same instance does not
instance-kept : prepared emulated steady 0 ≡ []
unfolding buffer_commands places_from test_bit mask_by tabulate mask_of
instance-kept = refl

-- slot 2 stays dirty
undescribed-dirty : (prepared_state emulated steady 5).dirty_vbuf_mask ≡ 4
unfolding without test_bit mask_by tabulate mask_of
undescribed-dirty = refl

-- the slot that is bound remembers the instance, and no other
number-kept : (prepared_state emulated steady 5).instances ≡ 0 ∷ 5 ∷ replicate 14 0
unfolding test_bit mask_by tabulate mask_of
number-kept = refl
