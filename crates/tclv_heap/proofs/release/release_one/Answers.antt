use Rattle.tclv_heap.proofs.DyingLemmas.{Release_first, Release_last}
use Rattle.tclv_heap.proofs.release.release_one.Goals as goal

pub sweep-requires : goal.sweep-requires
sweep-requires g c = (Release_first _ _ _ _ _ c.requires.sound c.requires.holder c.drop_holder-first.ensures).1

pub returns : goal.returns
returns g c =
    let first = Release_first _ _ _ _ _ c.requires.sound c.requires.holder c.drop_holder-first.ensures in
    let last = Release_last _ _ _ _ _ _ first.0 first.1 c.sweep.ensures.swept c.sweep.ensures.listed in
    record { released = last.0; sound = last.1 }
