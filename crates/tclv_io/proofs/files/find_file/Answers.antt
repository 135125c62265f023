use Rattle.std.proofs.Common.{Some, sym, ◌∙◌, ap}
use Rattle.tclv_io.proofs.FileLemmas.{found}
use Rattle.tclv_io.proofs.files.find_file.Goals as goal

pub returns : goal.returns
returns c =
    ap Some c.as_slice.ensures.value
    ∙ sym (found c.args.files.now c.in_ok-place.place c.args.name.now c.in_ok-place.ensures.found c.index-files-place.result)
