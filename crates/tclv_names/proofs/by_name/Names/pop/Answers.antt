use Rattle.std.proofs.Common.{◌<◌, sym, ap, subst, ◌∙◌}
use Rattle.std.specs.FinMap.{get, remove, len}
use Rattle.tclv_names.proofs.ValueLemmas.{len_removed}
use Rattle.tclv_names.proofs.KeyedLemmas.{last_named, named_removed}
use Rattle.tclv_names.proofs.by_name.Names.pop.Goals as goal

pub returns-clause-entry : goal.returns-clause-entry
returns-clause-entry g c = sym (last_named (λ k. k.items) c.self.inside.table.entries c.pop.new.self.entries c.in-Some.name c.in-Some.x c.in-Some.ensures.entries c.in-Some.ensures.updates.1) ∙ ap (λ m. get m c.in-Some.name.items) c.self.view_is

pub returns-clause-rest : goal.returns-clause-rest
returns-clause-rest g c = named_removed (λ k. k.items) c.self.inside.table c.pop.new.self c.in-Some.name.items c.in-Some.ensures.updates ∙ ap (λ m. remove m c.in-Some.name.items) c.self.view_is

pub returns-clause-fewer : goal.returns-clause-fewer
returns-clause-fewer g c =
    let there = last_named (λ k. k.items) c.self.inside.table.entries c.pop.new.self.entries c.in-Some.name c.in-Some.x c.in-Some.ensures.entries c.in-Some.ensures.updates.1 in
    let now = named_removed (λ k. k.items) c.self.inside.table c.pop.new.self c.in-Some.name.items c.in-Some.ensures.updates ∙ ap (λ m. remove m c.in-Some.name.items) c.self.view_is in
    subst (λ m. len m < len c.args.self.now) (sym now) (len_removed c.args.self.now c.in-Some.name.items c.in-Some.x (ap (λ m. get m c.in-Some.name.items) (sym c.self.view_is) ∙ there))
