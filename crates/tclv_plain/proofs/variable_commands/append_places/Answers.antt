use Rattle.std.proofs.Common.{rules, ap, ◌∙◌, [], get_or, ◌++◌}
use Rattle.tclv_engine.proofs.WordLemmas.{same_then}
use Rattle.tclv_plain.proofs.VariableRowLemmas.{joined_more}
use Rattle.tclv_plain.proofs.variable_commands.append_places.Goals as goal

pub loop-i-preserved : goal.loop-i-preserved
loop-i-preserved g c =
    let stack = c.args.machine.now.values.store.stack in
    record {
      text = joined_more c.args.text.now c.loop-i.text c.append_place.new.text stack c.args.from c.loop-i.i (search rules) (search rules) c.loop-i.invariant.text
          (c.in_ok-append_place.ensures.text ∙ ap (λ s. c.loop-i.text ++ get_or s c.loop-i.i []) c.loop-i.invariant.stack);
      same = same_then c.args.machine.now c.loop-i.machine c.append_place.new.machine c.loop-i.invariant.same c.in_ok-append_place.ensures.same;
      stack = c.in_ok-append_place.ensures.stack ∙ c.loop-i.invariant.stack;
    }
