use Rattle.std.proofs.Common.{◌∙◌, [], ap, rules, refl, get_or}
use Rattle.tclv_value.specs.declared.places.At.TheVariants.{Stack}
use Rattle.tclv_engine.specs.State.{state_of}
use Rattle.tclv_engine.specs.Links.{link}
use Rattle.tclv_engine.proofs.Binds.{runs_as}
use Rattle.tclv_engine.proofs.Leaves.{memory_runs, from_same}
use Rattle.tclv_engine.proofs.machine.Machine.link.Goals as goal

pub returns-in_err-make_text-clause-answer : goal.returns-in_err-make_text-clause-answer
returns-in_err-make_text-clause-answer g c here w told = memory_runs (search rules) told refl

pub returns-in_err-make_text-2-clause-answer : goal.returns-in_err-make_text-2-clause-answer
returns-in_err-make_text-2-clause-answer g c here w told = memory_runs (search rules) told refl

pub link_made-requires-clause-other_made : goal.link_made-requires-clause-other_made
link_made-requires-clause-other_made g c = c.in_ok-make_text-2.ensures.stays (Stack c.args.other) (search rules) c.in_ok-make_text.ensures.made

pub returns-clause-answer : goal.returns-clause-answer
returns-clause-answer g c here w told =
    let old = c.args.self.now in
    let mid = record old { values = c.make_text-2.new.self } in
    let stack = c.in_ok-make_text-2.ensures.stack ∙ c.in_ok-make_text.ensures.stack in
    from_same old mid (link c.args.root (get_or old.values.store.stack c.args.other []) (get_or old.values.store.stack c.args.local [])) (search rules)
    (runs_as (ap (λ s. link c.args.root (get_or s c.args.other []) (get_or s c.args.local []) (state_of mid w)) stack)
    (c.link_made.ensures.answer here w told))
