use Rattle.std.proofs.Common.{◌-◌, ◌∙◌, ap, sym, List, ℕ, [], take, drop, get_or}
use Rattle.tclv_model.specs.Rows.{Answer, and_then}
use Rattle.tclv_model.specs.Values.{list_of}
use Rattle.tclv_value.specs.declared.procedures.Param.{Param}
use Rattle.tclv_ctl.specs.Parameters.{parameters}
use Rattle.tclv_ctl.proofs.CallLemmas.{finds_after, pushed_part}
use Rattle.tclv_ctl.proofs.procedures.read_parameters.Goals as goal

pub returns : goal.returns
returns c =
    let s = c.args.store.now in
    let mid = c.push_elements.new.store in
    let from = c.height-from.result in
    let to = c.height-to.result in
    let u = c.in_ok-push_elements.ensures in
    let part = pushed_part s.stack mid.stack u.gives.elements from to u.gives.stack c.height-from.ensures c.height-to.ensures in
    finds_after (and_then (list_of (get_or s.stack c.args.at [])) parameters) _ (parameters (take (to - from) (drop from mid.stack))) s mid c.read_between.new.store c.read_between.result u.grows
    (ap (λ (a : Answer (List (List ℕ))). let b : Answer (List Param) = and_then a parameters in b) u.gives.given ∙ ap parameters (sym part)) c.read_between.ensures
