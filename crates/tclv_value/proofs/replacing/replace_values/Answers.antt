use Rattle.std.proofs.Common.{◌≡◌, Some, IsSome, ap, subst, ◌∙◌}
use Rattle.tclv_forms.specs.Lists.{between}
use Rattle.tclv_value.specs.Forms.{parts_of}
use Rattle.tclv_value.specs.Kept.{list_in}
use Rattle.tclv_value.specs.Replacing.{Loses}
use Rattle.tclv_value.proofs.AppendLemmas.{list_of_parts, own_depth}
use Rattle.tclv_value.proofs.ReplaceLemmas.{untold, untold_m, takes_m, apart_m, depth_m, below_m, changed_list, gone_held, Changed, replaced, exchange_moves}
use Rattle.tclv_value.proofs.replacing.replace_values.Goals as goal
use Rattle.tclv_value.proofs.replacing.replace_values.Goals.{After-take_form-old, After-put_form}

pub take_form-old-requires-clause-untold : goal.take_form-old-requires-clause-untold
take_form-old-requires-clause-untold c = untold c.args.heap.now.graph c.args.id c.args.values.now c.requires.can

is_list : (c : After-take_form-old) → list_in (Some c.take_form-old.result) ≡ Some (parts_of c.take_form-old.result)
is_list c = list_of_parts c.take_form-old.result (subst (λ x. IsSome (list_in x)) c.take_form-old.ensures.form c.requires.can.list)

pub exchanged-list-requires-clause-within : goal.exchanged-list-requires-clause-within
exchanged-list-requires-clause-within c ids is = c.requires.within ids (ap list_in c.take_form-old.ensures.form ∙ is)

pub put_form-requires-clause-takes : goal.put_form-requires-clause-takes
put_form-requires-clause-takes c =
    let e = c.take_form-old.ensures in
    takes_m c.args.heap.now.graph c.args.id c.args.values.now c.requires.can c.take_form-old.new.self.graph c.take_form-old.result e.form e.taken e.holders e.says c.exchanged-list.result.0 (between (parts_of c.take_form-old.result) c.args.from c.args.to) (exchange_moves c.take_form-old.result c.args.from c.args.to c.args.values.now c.exchanged-list.result.0.ids (subst (λ x. IsSome (list_in x)) c.take_form-old.ensures.form c.requires.can.list) c.requires.order c.exchanged-list.ensures.list)

pub put_form-requires-clause-apart : goal.put_form-requires-clause-apart
put_form-requires-clause-apart c =
    let e = c.take_form-old.ensures in
    apart_m c.args.heap.now.graph c.args.id c.args.values.now c.requires.can c.take_form-old.new.self.graph c.take_form-old.result e.form e.taken e.holders e.says c.exchanged-list.result.0 (between (parts_of c.take_form-old.result) c.args.from c.args.to) (exchange_moves c.take_form-old.result c.args.from c.args.to c.args.values.now c.exchanged-list.result.0.ids (subst (λ x. IsSome (list_in x)) c.take_form-old.ensures.form c.requires.can.list) c.requires.order c.exchanged-list.ensures.list)

pub put_form-requires-clause-depth : goal.put_form-requires-clause-depth
put_form-requires-clause-depth c =
    let e = c.take_form-old.ensures in
    let d = c.depth_with_all-depth.ensures in
    rw d.2 (depth_m c.args.heap.now.graph c.args.id c.args.values.now c.requires.can c.take_form-old.new.self.graph c.take_form-old.result e.form e.taken e.holders e.says c.exchanged-list.result.0 (between (parts_of c.take_form-old.result) c.args.from c.args.to) (exchange_moves c.take_form-old.result c.args.from c.args.to c.args.values.now c.exchanged-list.result.0.ids (subst (λ x. IsSome (list_in x)) c.take_form-old.ensures.form c.requires.can.list) c.requires.order c.exchanged-list.ensures.list) (own_depth c.args.heap.now.graph c.args.id c.take_form-old.result c.requires.can.sound e.form) d.0 d.1)

pub put_form-requires-clause-below : goal.put_form-requires-clause-below
put_form-requires-clause-below c =
    let e = c.take_form-old.ensures in
    below_m c.args.heap.now.graph c.args.id c.args.values.now c.requires.can c.take_form-old.new.self.graph c.take_form-old.result e.form e.taken e.holders e.says c.depth_with_all-depth.result

pub put_form-requires-clause-untold : goal.put_form-requires-clause-untold
put_form-requires-clause-untold c =
    let e = c.take_form-old.ensures in
    untold_m c.args.heap.now.graph c.args.id c.args.values.now c.requires.can c.take_form-old.new.self.graph c.take_form-old.result e.form e.taken e.holders e.says

changed : (c : After-put_form) → Changed c.args.heap.now.graph c.args.id c.args.values.now c.exchanged-list.result.0.ids (between (parts_of c.take_form-old.result) c.args.from c.args.to) c.put_form.new.self.graph
changed c =
    let e = c.take_form-old.ensures in
    let p = c.put_form.ensures in
    changed_list c.args.heap.now.graph c.args.id c.args.values.now c.requires.can c.take_form-old.new.self.graph c.take_form-old.result e.form e.taken e.holders e.says c.exchanged-list.result.0 (between (parts_of c.take_form-old.result) c.args.from c.args.to) (exchange_moves c.take_form-old.result c.args.from c.args.to c.args.values.now c.exchanged-list.result.0.ids (subst (λ x. IsSome (list_in x)) c.take_form-old.ensures.form c.requires.can.list) c.requires.order c.exchanged-list.ensures.list) c.put_form.new.self.graph c.depth_with_all-depth.result p.put p.stands p.says p.holders p.sound p.closed e.closed

pub release_gone-requires-clause-holders : goal.release_gone-requires-clause-holders
release_gone-requires-clause-holders c =
    let e = c.take_form-old.ensures in
    let p = c.put_form.ensures in
    let t = (goal.at.release_gone-requires-clause-holders c).After-take_form-old in
    (c.requires.can.out, gone_held c.args.heap.now.graph c.args.id c.args.values.now c.requires.can c.take_form-old.new.self.graph c.take_form-old.result e.form e.taken e.holders e.says c.exchanged-list.result.0 (between (parts_of c.take_form-old.result) c.args.from c.args.to) (exchange_moves c.take_form-old.result c.args.from c.args.to c.args.values.now c.exchanged-list.result.0.ids (subst (λ x. IsSome (list_in x)) c.take_form-old.ensures.form c.requires.can.list) c.requires.order c.exchanged-list.ensures.list) c.put_form.new.self.graph c.depth_with_all-depth.result p.put p.stands p.says p.holders p.sound p.closed e.closed _ (c.exchanged-list.ensures.gone _ (is_list t)))

pub returns-clause-replaced : goal.returns-clause-replaced
returns-clause-replaced c =
    let a = (goal.at.returns-clause-replaced c).After-put_form in
    let t = (goal.at.returns-clause-replaced c).After-take_form-old in
    let list = c.exchanged-list.ensures.list _ (is_list t) in
    let lost = subst (λ xs. Loses c.put_form.new.self.graph xs c.release_gone.new.heap.graph) (c.exchanged-list.ensures.gone _ (is_list t)) c.release_gone.ensures.lost in
    replaced c.args.heap.now.graph c.args.id c.args.values.now c.requires.can c.put_form.new.self.graph c.args.from c.args.to (parts_of c.take_form-old.result) (ap list_in c.take_form-old.ensures.form ∙ is_list t)
    (subst (λ xs. Changed c.args.heap.now.graph c.args.id c.args.values.now xs (between (parts_of c.take_form-old.result) c.args.from c.args.to) c.put_form.new.self.graph) list (changed a)) c.release_gone.new.heap.graph lost
