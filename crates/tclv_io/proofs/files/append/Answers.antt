use Rattle.std.proofs.Common.{subst}
use Rattle.tclv_io.specs.Held.{HasName}
use Rattle.tclv_io.proofs.FileLemmas.{on_err, put_back, grown}
use Rattle.tclv_io.proofs.files.append.Goals as goal

pub returns-in_err-extend_from_slice-clause-err : goal.returns-in_err-extend_from_slice-clause-err
returns-in_err-extend_from_slice-clause-err c =
    let h = subst (λ fs. HasName fs c.in-Some.place c.args.name.now) c.deref.ensures.value c.in-Some.ensures.found in
    on_err c.from_residual.result _ (put_back c.args.files.now.items c.in-Some.place c.args.name.now c.index_mut.result.now c.extend_from_slice.new.self h c.index_mut.ensures.value c.in_err-extend_from_slice.ensures.items)

pub returns-in_ok-extend_from_slice-clause-ok : goal.returns-in_ok-extend_from_slice-clause-ok
returns-in_ok-extend_from_slice-clause-ok c =
    let h = subst (λ fs. HasName fs c.in-Some.place c.args.name.now) c.deref.ensures.value c.in-Some.ensures.found in
    grown c.args.files.now.items c.in-Some.place c.args.name.now c.args.piece.now c.index_mut.result.now c.extend_from_slice.new.self h c.index_mut.ensures.value c.in_ok-extend_from_slice.ensures.items
