use Rattle.std.proofs.Common.{sym, ◌∙◌}
use Rattle.tclv_value.proofs.SetChangeLemmas.{form_same, list_id, can_append, gone_outside, changes, around}
use Rattle.tclv_value.proofs.setting.change_with.Goals as goal

pub set_element-gone-requires-clause-can : goal.set_element-gone-requires-clause-can
set_element-gone-requires-clause-can c =
    let e = c.share.ensures in
    can_append c.args.heap.now.graph c.share.new.self.graph c.args.id c.args.place c.args.value c.requires.can e.shared e.holders e.keeps

pub set_element-gone-requires-clause-within : goal.set_element-gone-requires-clause-within
set_element-gone-requires-clause-within c ids is =
    let e = c.share.ensures in
    c.requires.within ids (sym (list_id c.args.heap.now.graph c.share.new.self.graph c.args.id c.args.place c.args.value c.requires.can e.shared e.holders e.keeps) ∙ is)

pub set_element-gone-requires-clause-room : goal.set_element-gone-requires-clause-room
set_element-gone-requires-clause-room c list is =
    let e = c.share.ensures in
    c.requires.room list (sym (form_same c.args.heap.now.graph c.share.new.self.graph c.args.id c.args.place c.args.value c.requires.can e.shared e.holders e.keeps) ∙ is)

pub release_gone-requires-clause-outside : goal.release_gone-requires-clause-outside
release_gone-requires-clause-outside c =
    let e = c.share.ensures in
    gone_outside c.args.heap.now.graph c.share.new.self.graph c.args.id c.args.place c.args.value c.requires.can e.shared e.holders e.keeps c.set_element-gone.new.heap.graph _ c.set_element-gone.ensures.set

pub returns-clause-changed : goal.returns-clause-changed
returns-clause-changed c =
    let e = c.share.ensures in
    changes c.args.heap.now.graph c.share.new.self.graph c.args.id c.args.place c.args.value c.requires.can e.shared e.holders e.keeps c.set_element-gone.new.heap.graph _ c.set_element-gone.ensures.set c.release_gone.new.heap.graph c.release_gone.ensures.gone

pub returns-clause-others : goal.returns-clause-others
returns-clause-others c =
    let e = c.share.ensures in
    around c.args.heap.now.graph c.share.new.self.graph c.args.id c.args.place c.args.value c.requires.can e.shared e.holders e.keeps c.set_element-gone.new.heap.graph _ c.set_element-gone.ensures.set c.release_gone.new.heap.graph c.release_gone.ensures.gone c.set_element-gone.ensures.depth
