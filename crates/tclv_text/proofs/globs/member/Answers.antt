use Rattle.std.proofs.Common.{ap, ◌∙◌}
use Rattle.std.specs.List.{take_while}
use Rattle.tclv_text.specs.Globs.{is_member, is_open}
use Rattle.tclv_text.specs.GlobSearch.{points, behind_set}
use Rattle.tclv_text.proofs.GlobLemmas.{member_one, behind_one}
use Rattle.tclv_text.proofs.globs.member.Goals as goal

pub returns-in-None-clause-has : goal.returns-in-None-clause-has
returns-in-None-clause-has c =
    ap (λ y. is_member c.args.c (take_while is_open y)) c.in_ok-low.ensures.first
    ∙ member_one c.args.c c.in_ok-low.low (points c.args.nocase c.in_ok-low.behind.now) c.if-low-eq93.false c.in-None.ensures.none

pub returns-in-None-clause-rest : goal.returns-in-None-clause-rest
returns-in-None-clause-rest c = ap behind_set c.in_ok-low.ensures.first ∙ behind_one c.in_ok-low.low (points c.args.nocase c.in_ok-low.behind.now) c.if-low-eq93.false
