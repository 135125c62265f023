use Rattle.std.proofs.Common.{rules, arith, ap, sym, ◌∙◌, ◌-◌, ◌≡◌, [], length, get_or}
use Rattle.tclv_engine.specs.ListAssignment.{listed}
use Rattle.tclv_engine.proofs.SettingLemmas.{on-ok}
use Rattle.tclv_plain.proofs.ListRowLemmas.{rest_list}
use Rattle.tclv_plain.proofs.list_commands.push_rest.Goals as goal

pub returns-clause-pushed : goal.returns-clause-pushed
returns-clause-pushed g c =
    let stack = c.args.machine.now.values.store.stack in
    on-ok c.push_list.result
    (λ h. rest_list stack c.push_elements.new.self.values.store.stack c.push_list.new.self.store.stack (listed (get_or stack c.args.list [])) c.min-first.result c.args.from (c.height.result - c.height-height.result) c.args.len
    c.in_ok-push_elements.ensures.pushed c.min-first.ensures c.requires.len (search rules) h)
    c.push_list.ensures.pushed
