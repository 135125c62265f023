use Rattle.std.proofs.Common.{rules, refl, subst, ap, sym, ◌∙◌, ◌++◌, ◌∷◌, []}
use Rattle.std.specs.List.{All}
use Rattle.std.proofs.lemmas.List.Elements.{All-same, All-push}
use Rattle.tclv_engine.specs.EachSteps.{GroupInside}
use Rattle.tclv_engine.proofs.Binds.{answers_as, runs_as, bind_ok, bind-done}
use Rattle.tclv_engine.proofs.Leaves.{memory_runs, done_runs}
use Rattle.tclv_engine.proofs.ListLemmas.{other_show}
use Rattle.tclv_engine.proofs.ForeachLemmas.{group_added}
use Rattle.tclv_engine.proofs.machine.Machine.add_group.Goals as goal

pub returns-in_err-group-clause-answer : goal.returns-in_err-group-clause-answer
returns-in_err-group-clause-answer g c here w told = answers_as (search rules) (other_show _ (c.in_err-group.ensures.answer here w told))

pub returns-then-is_err-clause-answer : goal.returns-then-is_err-clause-answer
returns-then-is_err-clause-answer g c here w told = memory_runs refl told c.in_ok-group.ensures.same.events

pub returns-clause-answer : goal.returns-clause-answer
returns-clause-answer g c here w told =
    runs_as (bind-done _) (bind_ok _ (c.in_ok-group.ensures.answer here w told)
    (λ x v e shown. done_runs e refl (group_added c.read_group.new.self.values.store.stack c.read_group.new.self.values.store.stack c.args.groups.now.items.items c.push.new.self.items c.in_ok-group.group x (search rules) shown)))

pub returns-clause-inside : goal.returns-clause-inside
returns-clause-inside g c =
    let P = GroupInside c.args.self.now.values.store.stack in
    All-same P c.push.new.self.items _ (search rules) (All-push P c.args.groups.now.items.items c.in_ok-group.group c.requires.inside c.in_ok-group.ensures.inside)
