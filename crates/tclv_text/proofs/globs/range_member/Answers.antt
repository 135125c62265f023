use Rattle.std.proofs.Common.{ap, sym, ◌∙◌, ◌||◌}
use Rattle.std.specs.List.{take_while}
use Rattle.tclv_text.specs.Globs.{is_between, is_member, is_open}
use Rattle.tclv_text.specs.GlobSearch.{points, behind_set}
use Rattle.tclv_text.proofs.GlobLemmas.{member_range}
use Rattle.tclv_text.proofs.globs.range_member.Goals as goal

pub returns-clause-has : goal.returns-clause-has
returns-clause-has c =
    let m = member_range c.args.c c.args.low c.in_ok-high.high (points c.args.nocase c.args.behind.now) c.requires.open c.in_ok-high.ensures.end in
    m.0
    ∙ ap (λ y. is_between c.args.low c.in_ok-high.high c.args.c || is_member c.args.c (take_while is_open y)) (sym c.in_ok-high.ensures.rest)
    ∙ ap (λ b. b || is_member c.args.c (take_while is_open (points c.args.nocase c.in_ok-high.rest.now))) (sym c.is_between.ensures)

pub returns-clause-rest : goal.returns-clause-rest
returns-clause-rest c =
    let m = member_range c.args.c c.args.low c.in_ok-high.high (points c.args.nocase c.args.behind.now) c.requires.open c.in_ok-high.ensures.end in
    m.1 ∙ ap behind_set (sym c.in_ok-high.ensures.rest)
