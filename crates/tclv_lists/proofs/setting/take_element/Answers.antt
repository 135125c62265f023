use Rattle.std.proofs.Common.{List, ℕ}
use Rattle.tclv_model.specs.Rows.{VarAnswer}
use Rattle.tclv_value.specs.View.{text_at}
use Rattle.tclv_value.specs.declared.places.At.TheVariants.{Cell}
use Rattle.tclv_text.specs.Elements.{elements}
use Rattle.tclv_lists.specs.Variables.{taken}
use Rattle.tclv_reply.proofs.Laws.{grows_trans, grows_kept}
use Rattle.tclv_lists.proofs.PathLemmas.{grows_element}
use Rattle.tclv_lists.proofs.AlongLemmas.{taken_stored, cell_refused}
use Rattle.tclv_lists.proofs.setting.take_element.Goals as goal

pub returns-in-Ok-list_replace : goal.returns-in-Ok-list_replace
returns-in-Ok-list_replace c =
    taken_stored c.args.store.now c.push_element.new.self c.list_replace.new.self c.args.cell c.args.k c.in_ok-behind.behind c.in_ok-behind.ensures c.requires.within c.in-Ok.ensures.pushed c.push_element.ensures.cells c.in-Ok-list_replace.ensures.replaced

pub returns-in-Err-list_replace : goal.returns-in-Err-list_replace
returns-in-Err-list_replace c =
    let old = c.args.store.now in
    let mid = c.push_element.new.self in
    let now = c.list_replace.new.self in
    let last = c.refuse_list-in-Err-list_replace.new.store in
    let f : List (List ℕ) → VarAnswer = λ ts. taken ts c.args.k in
    let g = grows_element (elements (text_at old (Cell c.args.cell))) old mid c.args.k c.in-Ok.ensures.pushed c.push_element.ensures.cells c.push_element.ensures.stays in
    cell_refused old now last c.args.cell f c.refuse_list-in-Err-list_replace.result (grows_trans old mid now g (grows_kept mid now c.in-Err-list_replace.ensures.kept)) c.refuse_list-in-Err-list_replace.ensures.grows c.refuse_list-in-Err-list_replace.ensures.refused
