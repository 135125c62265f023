use Rattle.std.proofs.Common.{subst}
use Rattle.tclv_io.specs.Held.{HasName}
use Rattle.tclv_io.proofs.FileLemmas.{emptied}
use Rattle.tclv_io.proofs.files.make_empty.Goals as goal

pub returns-in-Some-clause-ok : goal.returns-in-Some-clause-ok
returns-in-Some-clause-ok c =
    let h = subst (λ fs. HasName fs c.in-Some.place c.args.name.now) c.deref.ensures.value c.in-Some.ensures.found in
    emptied c.args.files.now.items c.in-Some.place c.args.name.now c.index_mut.result.now c.clear.new.self h c.index_mut.ensures.value c.clear.ensures.items
