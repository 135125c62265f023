use Rattle.std.proofs.Common.{◌≡◌, ◌∙◌, ◌-◌, [], ap, length, get_or}
use Rattle.tclv_engine.specs.Names.{bytes_of}
use Rattle.tclv_engine.specs.Links.{is_level}
use Rattle.tclv_engine.proofs.NameLemmas.{bytes-are}
use Rattle.tclv_control.proofs.level_plans.names_level.Goals as goal

pub returns-clause-says : goal.returns-clause-says
returns-clause-says g c =
    let stack = c.args.machine.now.values.store.stack in
    c.is_level.ensures
    ∙ ap is_level (bytes-are _ _ c.lend.ensures.utf8 c.lend.ensures.text)
    ∙ ap (λ s. is_level (bytes_of (get_or s (c.height.result - c.args.n) []))) c.in_ok-make_text.ensures.stack
    ∙ ap (λ k. is_level (bytes_of (get_or stack (k - c.args.n) []))) c.height.ensures
