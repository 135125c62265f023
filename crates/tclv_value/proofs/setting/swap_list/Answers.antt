use Rattle.std.proofs.Common.{◌≡◌, Some, IsSome, ap, subst, ◌∙◌}
use Rattle.tclv_value.specs.Forms.{parts_of}
use Rattle.tclv_value.specs.Kept.{list_in}
use Rattle.tclv_value.proofs.AppendLemmas.{list_of_parts}
use Rattle.tclv_value.proofs.SwapLemmas.{untold, untold_m, takes_m, apart_m, depth_m, below_m, swapped}
use Rattle.tclv_value.proofs.setting.swap_list.Goals as goal
use Rattle.tclv_value.proofs.setting.swap_list.Goals.{After-take_form-old}

pub take_form-old-requires-clause-untold : goal.take_form-old-requires-clause-untold
take_form-old-requires-clause-untold c = untold c.args.heap.now.graph c.args.id c.args.list c.requires.can

pub put_form-requires-clause-takes : goal.put_form-requires-clause-takes
put_form-requires-clause-takes c =
    let e = c.take_form-old.ensures in
    takes_m c.args.heap.now.graph c.args.id c.args.list c.requires.can c.take_form-old.new.self.graph c.take_form-old.result e.taken e.holders e.says

pub put_form-requires-clause-apart : goal.put_form-requires-clause-apart
put_form-requires-clause-apart c =
    let e = c.take_form-old.ensures in
    apart_m c.args.heap.now.graph c.args.id c.args.list c.requires.can c.take_form-old.new.self.graph c.take_form-old.result e.taken e.holders e.says

pub put_form-requires-clause-depth : goal.put_form-requires-clause-depth
put_form-requires-clause-depth c =
    let e = c.take_form-old.ensures in
    depth_m c.args.heap.now.graph c.args.id c.args.list c.requires.can c.take_form-old.new.self.graph c.take_form-old.result e.taken e.holders e.says c.args.depth c.requires.depth

pub put_form-requires-clause-below : goal.put_form-requires-clause-below
put_form-requires-clause-below c =
    let e = c.take_form-old.ensures in
    below_m c.args.heap.now.graph c.args.id c.args.list c.requires.can c.take_form-old.new.self.graph c.take_form-old.result e.taken e.holders e.says c.args.depth

pub put_form-requires-clause-untold : goal.put_form-requires-clause-untold
put_form-requires-clause-untold c =
    let e = c.take_form-old.ensures in
    untold_m c.args.heap.now.graph c.args.id c.args.list c.requires.can c.take_form-old.new.self.graph c.take_form-old.result e.taken e.holders e.says

pub returns-clause-swapped : goal.returns-clause-swapped
returns-clause-swapped c =
    let e = c.take_form-old.ensures in
    let p = c.put_form.ensures in
    let is_list : list_in (Some c.take_form-old.result) ≡ Some (parts_of c.take_form-old.result) = list_of_parts c.take_form-old.result (subst (λ x. IsSome (list_in x)) e.form c.requires.can.list) in
    let of_f = ap parts_of c.list_of.ensures in
    swapped c.args.heap.now.graph c.args.id c.args.list c.requires.can c.take_form-old.new.self.graph c.take_form-old.result e.taken e.holders e.says c.put_form.new.self.graph c.args.depth p.put p.stands p.says p.holders p.sound p.closed e.closed _ (ap list_in e.form ∙ is_list ∙ ap Some of_f) of_f
