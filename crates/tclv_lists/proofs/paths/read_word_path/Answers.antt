use Rattle.std.proofs.Common.{◌∙◌, List, ℕ, [], ◌∷◌, ◌++◌, get_or, cond, sym, ap, subst}
use Rattle.std.specs.Result.{result_unwrap_or}
use Rattle.tclv_value.specs.declared.faults.ValueFault.{ValueFault}
use Rattle.tclv_value.specs.Lists.{RefusesList}
use Rattle.tclv_text.specs.Elements.{elements}
use Rattle.tclv_reply.specs.Places.{is_index}
use Rattle.tclv_lists.specs.Paths.{IsPathAt}
use Rattle.tclv_lists.proofs.PathLemmas.{named_path, named_word}
use Rattle.tclv_reply.proofs.Laws.{no_elements}
use Rattle.tclv_lists.proofs.paths.read_word_path.Goals as goal

pub returns-in-Ok-clause-path : goal.returns-in-Ok-clause-path
returns-in-Ok-clause-path c =
    let s = c.args.store.now.stack in
    let t = get_or s c.args.word [] in
    named_path (is_index t) t (get_or c.list_len.new.self.stack c.args.word []) c.push_path.result c.push_path.new.store.stack (sym c.if-is_index.ensures) (ap (λ (q : List (List ℕ)). get_or q c.args.word []) c.in-Ok.ensures.kept.stack) c.push_path.ensures.path

pub returns-in-Err-NotList-clause-path : goal.returns-in-Err-NotList-clause-path
returns-in-Err-NotList-clause-path c =
    let s = c.args.store.now.stack in
    let t = get_or s c.args.word [] in
    let none = no_elements t c.in-Err-NotList._why c.know_text.ensures (subst (λ (f : ValueFault). RefusesList f t) c.in-Err-NotList.field-0-is c.in-Err-NotList.ensures.refused) in
    subst (λ (q : List (List ℕ)). IsPathAt (cond (is_index t) (t ∷ []) (result_unwrap_or (elements t) (t ∷ []))) q (c.args.word, c.args.end)) (sym c.in-Err-NotList.ensures.kept.stack) (named_word (is_index t) (elements t) none.0 s c.args.word c.args.end none.1 c.requires.place c.requires.end)
