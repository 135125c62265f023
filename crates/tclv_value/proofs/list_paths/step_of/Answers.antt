use Rattle.std.proofs.lemmas.Result.{err_from_is_err_and}
use Rattle.tclv_value.proofs.PathLemmas.{refused_list}
use Rattle.tclv_value.proofs.list_paths.step_of.Goals as goal

pub returns-in_err-elements-clause-refused : goal.returns-in_err-elements-clause-refused
returns-in_err-elements-clause-refused c =
    let p = err_from_is_err_and c.from_residual.result c.from_residual.ensures.1 in
    rw (p.1, p.2) (refused_list _ c.bytes.result.now c.args.text.now c.args.level c.args.index.now c.bytes.ensures.utf8 c.bytes.ensures.text c.in_err-elements.ensures.refused)
