use Rattle.std.proofs.Common.{◌≤◌}
use Rattle.tclv_value.specs.Setting.{ListChanged}
use Rattle.tclv_value.proofs.SetChangeLemmas.{ok_text, within_ids, known_list}
use Rattle.tclv_value.proofs.setting.change_in_place.Goals as goal

pub change_with-requires-clause-within : goal.change_with-requires-clause-within
change_with-requires-clause-within c ids is = within_ids c.args.heap.now.graph _ ids (λ n. c.args.place ≤ n) (c.length_of-len.ensures.elements ids is) c.requires.within

pub returns-clause-changed : goal.returns-clause-changed
returns-clause-changed c =
    let g = c.args.heap.now.graph in
    let known = known_list g c.args.id c.requires.can.list in
    ok_text g c.args.id c.args.place c.args.value (λ t. ListChanged g c.args.id t c.change_with.new.heap.graph) _ known (c.length_of-len.ensures.elements _ known) c.change_with.ensures.changed
