use Rattle.std.proofs.Common.{◌≤◌, ◌-◌, length, drop, length-drop, arith, sym, subst}
use Rattle.std.proofs.lemmas.List.{take_all}
use Rattle.tclv_text.specs.Texts.{IsText}
use Rattle.tclv_engine.proofs.LinkLemmas.{marked_text}
use Rattle.tclv_engine.proofs.links.behind_mark.Goals as goal

pub returns-clause-text : goal.returns-clause-text
returns-clause-text c =
    let rest = drop 1 c.args.word.now in
    let short : length rest ≤ length c.args.word.now - 1 = omega (arith, length-drop 1 c.args.word.now) in
    subst IsText (sym (take_all (length c.args.word.now - 1) rest short)) (marked_text c.args.word.now c.requires.text c.requires.marked)
