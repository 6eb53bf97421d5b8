-- `one_pass::record_pass` meets its contract: one call after the other. Assumes nothing.
use Rattle.one_pass.proofs.Chain.{chained}
use Rattle.one_pass.proofs.record_pass.Goals as goal

pub returns : goal.returns
returns c =
    let a = c.args in
    chained a.caps a.s a.d (record { present = a.has_label; bytes = record { run = a.label.now; count = a.label_count } }) (record { run = a.set.now; count = a.set_count })
    a.p a.slot a.buffer a.offset a.first_vertex a.vertex_count a.first_instance a.instance_count a.list.now a.bytes.now
    c.begin_encoding-begun.result c.begin_encoding-begun.ensures c.next_state-open.result c.next_state-open.ensures
    c.begin_render_pass-entered.result c.begin_render_pass-entered.new.list c.begin_render_pass-entered.new.bytes c.begin_render_pass-entered.ensures c.next_state-inside.result c.next_state-inside.ensures
    c.set_render_pipeline-piped.result c.set_render_pipeline-piped.new.list c.set_render_pipeline-piped.ensures c.next_state-ready.result c.next_state-ready.ensures
    c.set_vertex_buffer-bound.result c.set_vertex_buffer-bound.ensures c.next_state-set_up.result c.next_state-set_up.ensures
    c.draw-drawn.result c.draw-drawn.new.list c.draw-drawn.ensures c.next_state-shown.result c.next_state-shown.ensures
    c.end_render_pass-ended.result c.end_render_pass-ended.new.list c.end_render_pass-ended.ensures c.next_state-outside.result c.next_state-outside.ensures
    c.end_encoding.result c.end_encoding.ensures
