use Rattle.tclv_lists.proofs.PathLemmas.{path_pushed}
use Rattle.tclv_lists.proofs.paths.push_path.Goals as goal

pub returns-in-Ok-clause-path : goal.returns-in-Ok-clause-path
returns-in-Ok-clause-path c =
    let g = c.in-Ok.ensures.gives in
    (g.elements, g.given, path_pushed g.elements c.args.store.now.stack c.push_elements.new.store.stack c.height-from.result c.height.result g.stack c.height-from.ensures c.height.ensures)
