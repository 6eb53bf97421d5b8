-- States of tools/oracle/data/sessions.out, each line computed from the state. Assumes nothing.
use Rattle.std.specs.Prelude.{ℕ, ◌≡◌, refl, true, false, ◌++◌, pos, negsuc, replicate, set, None, Some}
use Prim.Native.String.{String}
use Rattle.mask.specs.Mask.{test_bit}
use Rattle.names.specs.Start.{start_primitive_state, start_stencil_state}
use Rattle.records.specs.Start.{start_state, start_attribute, start_extent, start_slot, start_target, start_texture_slot, start_view, start_resolve, start_progress, start_immediate, start_immediates}
use Rattle.records.specs.declared.command.VertexAttribKind.TheVariants.{Integer}
use Rattle.records.specs.declared.state.IndexFormat.TheVariants.{Uint16, Uint32}
use Rattle.records.specs.declared.state.State.{State}
use Rattle.names.specs.Ascii.{ascii}
use Rattle.text.specs.Digits.{decimal_in, hex_in}
use Rattle.text.specs.Field.{spaced}
use Rattle.state_text.specs.State.{line_at, lines_to, state_line, state_text}

-- a state that no call has changed
start-text :
    state_text start_state
    ≡ ascii "state topology 0\n"
    ++ ascii "state primitive 0 0 0 0\n"
    ++ ascii "state index 1 0\n"
    ++ ascii "state stencil front 519 255 255 0 7680 7680 7680\n"
    ++ ascii "state stencil back 519 255 255 0 7680 7680 7680\n"
    ++ ascii "state bias 0 00000000 00000000\n"
    ++ ascii "state alpha_to_coverage 0\n"
    ++ ascii "state render_size 1 1 1\n"
    ++ ascii "state has_pass_label 0\n"
    ++ ascii "state instance_mask 0 dirty_mask 0\n"
    ++ ascii "state first_instance_location -\n"
    ++ ascii "state end_of_pass_timestamp -\n"
    ++ ascii "state clip_distance_count 0\n"
unfolding line_at lines_to test_bit decimal_in hex_in spaced
start-text = refl

-- the state inside a pass
abbrev inside : State
inside =
    record {
      progress = start_progress;
      vertex =
          record {
            described = 1;
            bound = 9;
            by_instance = 1;
            dirty_vbuf_mask = 8;
            buffers =
                set (set (replicate 16 start_slot) 0 (record { stride = 8; raw = 7; offset = 16 })) 3 (record { stride = 0; raw = 7; offset = 4 });
            instances = set (replicate 16 0) 0 5;
            attribute_count = 0;
            instance_vbuf_mask = 1;
            attributes = replicate 16 start_attribute;
          };
      draw = record { topology = 4; index_format = Uint32; index_offset = 0; first_instance_location = Some 0 };
      fixed =
          record {
            primitive = record { front_face = 2304; cull_face = 0; unclipped_depth = false; polygon_mode = 6914 };
            color_targets = replicate 8 start_target;
            color_target_count = 2;
            stencil = start_stencil_state;
            depth_bias = record { constant = pos 0; slope_scale = 0x7fa00000; clamp = 0x80000000 };
            alpha_to_coverage_enabled = false;
            clip_distance_count = 0;
          };
      bind =
          record {
            samplers = set (replicate 16 0) 2 8;
            sampler_set = 4;
            texture_slots = set (replicate 16 start_texture_slot) 1 (record { tex_target = 3553; sampler_index = 0 });
            sampled = 0;
          };
      pass =
          record {
            render_size = record { width = 4; height = 3; depth_or_array_layers = 1 };
            resolves = replicate 8 start_resolve;
            resolve_count = 1;
            invalidate_attachments = 1;
            has_pass_label = true;
            end_of_pass_timestamp = Some 32;
          };
      immediates =
          record {
            descs = set (replicate 192 start_immediate) 0 (record { location = 3; ty = 9; offset = 4; size_bytes = 4 });
            count = 1;
            words = set (replicate 64 0) 1 305419896;
            sent = false;
          };
    }

inside-text :
    state_text inside
    ≡ ascii "state topology 4\n"
    ++ ascii "state primitive 2304 0 0 6914\n"
    ++ ascii "state index 1 0\n"
    ++ ascii "state slot 0 1 8 7 16\n"
    ++ ascii "state slot 3 - - 7 4\n"
    ++ ascii "state target 15 -\n"
    ++ ascii "state target 15 -\n"
    ++ ascii "state stencil front 519 255 255 0 7680 7680 7680\n"
    ++ ascii "state stencil back 519 255 255 0 7680 7680 7680\n"
    ++ ascii "state bias 0 7fa00000 80000000\n"
    ++ ascii "state alpha_to_coverage 0\n"
    ++ ascii "state sampler 2 8\n"
    ++ ascii "state texture_slot 1 3553 -\n"
    ++ ascii "state render_size 4 3 1\n"
    ++ ascii "state resolve 36064\n"
    ++ ascii "state invalidate 36064\n"
    ++ ascii "state has_pass_label 1\n"
    ++ ascii "state instance_mask 1 dirty_mask 8\n"
    ++ ascii "state instance 0 5\n"
    ++ ascii "state first_instance_location 0\n"
    ++ ascii "state descriptor 3 9 4 4\n"
    ++ ascii "state word 1 305419896\n"
    ++ ascii "state end_of_pass_timestamp 32\n"
    ++ ascii "state clip_distance_count 0\n"
unfolding line_at lines_to test_bit decimal_in hex_in spaced
inside-text = refl

-- other lines, each in a state with its part; the numbers of slots 14 and 15 are of no session
abbrev some : State
some =
    record {
      progress = start_progress;
      vertex =
          record {
            described = 0;
            bound = 0;
            by_instance = 0;
            dirty_vbuf_mask = 57339;
            buffers = replicate 16 start_slot;
            instances = set (set (replicate 16 0) 14 5) 15 4294967295;
            attribute_count = 1;
            instance_vbuf_mask = 17554;
            attributes =
                set (replicate 16 start_attribute) 0
                (record {
                  location = 7;
                  offset = 12;
                  buffer_index = 0;
                  format_desc = record { element_count = pos 32993; element_format = 5126; attrib_kind = Integer };
                });
          };
      draw = record { topology = 0; index_format = Uint16; index_offset = 4294967312; first_instance_location = None };
      fixed =
          record {
            primitive = start_primitive_state;
            color_targets =
                set (replicate 8 start_target) 0
                (record {
                  mask = 15;
                  blend =
                      Some
                      (record { alpha = record { src = 770; dst = 771; equation = 32774 }; color = record { src = 770; dst = 771; equation = 32776 } });
                });
            color_target_count = 1;
            stencil = start_stencil_state;
            depth_bias = record { constant = negsuc 6; slope_scale = 0; clamp = 0x7fc00000 };
            alpha_to_coverage_enabled = false;
            clip_distance_count = 3;
          };
      bind =
          record {
            samplers = replicate 16 0;
            sampler_set = 0;
            texture_slots = set (replicate 16 start_texture_slot) 7 (record { tex_target = 0; sampler_index = 3 });
            sampled = 128;
          };
      pass =
          record {
            render_size = start_extent;
            resolves = set (replicate 8 start_resolve) 0 (record { place = 7; dst = start_view });
            resolve_count = 1;
            invalidate_attachments = 772;
            has_pass_label = false;
            end_of_pass_timestamp = None;
          };
      immediates = start_immediates;
    }

abbrev Prints : ℕ → String → Type 0
Prints k line = state_line some k ≡ ascii line

some-lines :
    Prints 2 "state index 0 4294967312\n"
    × Prints 3 ""
    × Prints 19 "state attribute 7 12 0 32993 5126 1\n"
    × Prints 20 ""
    × Prints 35 "state target 15 770 771 32774 770 771 32776\n"
    × Prints 45 "state bias -7 00000000 7fc00000\n"
    × Prints 70 "state texture_slot 7 0 3\n"
    × Prints 80 "state resolve 36071\n"
    × Prints 90 "state invalidate 36066\n"
    × Prints 96 "state invalidate 36096\n"
    × Prints 97 "state invalidate 36128\n"
    × Prints 99 "state instance_mask 17554 dirty_mask 57339\n"
    × Prints 113 ""
    × Prints 114 "state instance 14 5\n"
    × Prints 115 "state instance 15 4294967295\n"
    × Prints 116 "state first_instance_location -\n"
    × Prints 374 "state clip_distance_count 3\n"
    × Prints 375 ""
unfolding line_at test_bit decimal_in hex_in spaced
some-lines = (refl, refl, refl, refl, refl, refl, refl, refl, refl, refl, refl, refl, refl, refl, refl, refl, refl, refl)
