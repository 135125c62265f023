use Rattle.std.proofs.Common.{◌≡◌, ◌++◌, ◌∷◌, [], Some, IsSome, ap, subst, ◌∙◌}
use Rattle.tclv_value.specs.Forms.{parts_of}
use Rattle.tclv_value.specs.Kept.{list_in}
use Rattle.tclv_value.proofs.AppendLemmas.{untold, untold_m, takes_m, apart_m, depth_m, below_m, appended, list_of_parts, own_depth}
use Rattle.tclv_value.proofs.appending.append_value.Goals as goal
use Rattle.tclv_value.proofs.appending.append_value.Goals.{After-longer-list}

pub take_form-old-requires-clause-untold : goal.take_form-old-requires-clause-untold
take_form-old-requires-clause-untold c = untold c.args.heap.now.graph c.args.id c.args.value c.requires.can

is_list : (c : After-longer-list) → list_in (Some c.take_form-old.result) ≡ Some (parts_of c.take_form-old.result)
is_list c = list_of_parts c.take_form-old.result (subst (λ x. IsSome (list_in x)) c.take_form-old.ensures.form c.requires.can.list)

grows : (c : After-longer-list) → c.longer-list.result.ids ≡ parts_of c.take_form-old.result ++ c.args.value ∷ []
grows c = c.longer-list.ensures _ (is_list c)

pub put_form-requires-clause-takes : goal.put_form-requires-clause-takes
put_form-requires-clause-takes c =
    let e = c.take_form-old.ensures in
    takes_m c.args.heap.now.graph c.args.id c.args.value c.requires.can c.take_form-old.new.self.graph c.take_form-old.result e.form e.taken e.holders e.says c.longer-list.result (grows (goal.at.put_form-requires-clause-takes c).After-longer-list)

pub put_form-requires-clause-apart : goal.put_form-requires-clause-apart
put_form-requires-clause-apart c =
    let e = c.take_form-old.ensures in
    apart_m c.args.heap.now.graph c.args.id c.args.value c.requires.can c.take_form-old.new.self.graph c.take_form-old.result e.form e.taken e.holders e.says c.longer-list.result (grows (goal.at.put_form-requires-clause-apart c).After-longer-list)

pub put_form-requires-clause-depth : goal.put_form-requires-clause-depth
put_form-requires-clause-depth c =
    let e = c.take_form-old.ensures in
    rw c.depth_with-depth.ensures (depth_m c.args.heap.now.graph c.args.id c.args.value c.requires.can c.take_form-old.new.self.graph c.take_form-old.result e.form e.taken e.holders e.says c.longer-list.result (grows (goal.at.put_form-requires-clause-depth c).After-longer-list) (own_depth c.args.heap.now.graph c.args.id c.take_form-old.result c.requires.can.sound e.form))

pub put_form-requires-clause-below : goal.put_form-requires-clause-below
put_form-requires-clause-below c =
    let e = c.take_form-old.ensures in
    below_m c.args.heap.now.graph c.args.id c.args.value c.requires.can c.take_form-old.new.self.graph c.take_form-old.result e.form e.taken e.holders e.says c.depth_with-depth.result

pub put_form-requires-clause-untold : goal.put_form-requires-clause-untold
put_form-requires-clause-untold c =
    let e = c.take_form-old.ensures in
    untold_m c.args.heap.now.graph c.args.id c.args.value c.requires.can c.take_form-old.new.self.graph c.take_form-old.result e.form e.taken e.holders e.says

pub returns-clause-appended : goal.returns-clause-appended
returns-clause-appended c =
    let e = c.take_form-old.ensures in
    let p = c.put_form.ensures in
    let a = (goal.at.returns-clause-appended c).After-longer-list in
    appended c.args.heap.now.graph c.args.id c.args.value c.requires.can c.take_form-old.new.self.graph c.take_form-old.result e.form e.taken e.holders e.says c.longer-list.result (grows a) c.put_form.new.self.graph c.depth_with-depth.result p.put p.stands p.says p.holders p.sound p.closed e.closed _ (ap list_in e.form ∙ is_list a)
