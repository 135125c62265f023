use Rattle.std.proofs.Common.{◌≡◌, ◌∙◌, rules, ap, sym, subst, List, [], Option, get_or}
use Rattle.std.specs.Option.{option_map}
use Rattle.tclv_text.specs.Pairs.{Pairs, pairs_of}
use Rattle.tclv_model.specs.Rows.{and_then}
use Rattle.tclv_model.specs.Values.{dict_of, list_of}
use Rattle.tclv_reply.specs.Replies.{Reads}
use Rattle.tclv_ctl.specs.Switching.{Text}
use Rattle.tclv_ctl.specs.Returns.{paired}
use Rattle.tclv_ctl.proofs.PutLemmas.{dict_by_list}
use Rattle.tclv_ctl.proofs.ReadLemmas.{reads_as, reads_on, reads_stop}
use Rattle.tclv_ctl.proofs.dicts.read_dict.Goals as goal

pub returns-in_err-elements : goal.returns-in_err-elements
returns-in_err-elements c =
    let t = get_or c.args.store.now.stack c.args.at [] in
    let f = λ (ts : List Text). paired (pairs_of ts) in
    reads_as (dict_of t) (and_then (list_of t) f) _ c.args.store.now c.elements_of.new.store c.from_residual.result (dict_by_list t)
    (reads_stop (list_of t) f _ _ c.args.store.now c.elements_of.new.store c.in_err-elements.field-0.0 c.from_residual.result (search rules) c.in_err-elements.ensures)

pub returns : goal.returns
returns c =
    let t = get_or c.args.store.now.stack c.args.at [] in
    let f = λ (ts : List Text). paired (pairs_of ts) in
    let mid = c.elements_of.new.store in
    let u = c.in_ok-elements.ensures in
    let same : pairs_of u.gives.read ≡ option_map (λ ps. ps.items) c.in_ok-pairs.pairs = sym (ap pairs_of (c.all.ensures ∙ u.gives.shown)) ∙ c.in_ok-pairs.ensures in
    reads_as (dict_of t) (and_then (list_of t) f) _ c.args.store.now c.paired.new.store c.paired.result (dict_by_list t)
    (reads_on (list_of t) f _ _ c.args.store.now mid c.paired.new.store c.in_ok-elements.elements c.paired.result u
    (subst (λ (x : Option Pairs). Reads (paired x) (λ ps y. y.items ≡ ps) mid c.paired.new.store c.paired.result) (sym same) c.paired.ensures))
