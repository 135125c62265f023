use Rattle.tclv_value.proofs.NumberLemmas.{kept_number}
use Rattle.tclv_value.proofs.numbers.kept_whole.Goals as goal

pub returns-in-Some : goal.returns-in-Some
returns-in-Some c = kept_number c.args.heap.now.graph c.args.id c.in-Some.form.now c.as_whole.result c.in-Some.ensures.some c.as_whole.ensures
