use Rattle.std.proofs.Common.{◌≡◌, sym, ◌∙◌, ap, subst}
use Rattle.std.specs.FinMap as map
use Rattle.tclv_io.specs.World.{Out, made}
use Rattle.tclv_io.specs.Held.{files_of}
use Rattle.tclv_io.proofs.FileLemmas.{kept}
use Rattle.tclv_io.proofs.files.make.Goals as goal

pub returns-in-Some-clause-ok : goal.returns-in-Some-clause-ok
returns-in-Some-clause-ok c =
    let fs = files_of c.args.files.now.items in
    let there = ap (λ fs. map.get (files_of fs) c.args.name.now) (sym c.deref.ensures.value) ∙ sym c.in-Some.ensures in
    subst (λ mode. (o : Out) → record o { files = fs } ≡ made mode c.args.name.now (record o { files = fs })) (sym c.in-Append.is)
    (λ o. kept (record o { files = fs }) c.args.name.now c.in-Some.field-0.now there)
