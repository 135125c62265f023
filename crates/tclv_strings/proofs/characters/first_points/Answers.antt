use Rattle.std.proofs.Common.{◌∙◌, ap, take, arith, length}
use Rattle.tclv_strings.proofs.CharacterLemmas.{place_by_rest, front_by_rest, points_short, min_either, next_place}
use Rattle.tclv_strings.proofs.characters.first_points.Goals as goal

pub up_to-requires : goal.up_to-requires
up_to-requires c = place_by_rest c.loop-k.k c.new-from.result c.loop-k.at c.loop-k.invariant

pub returns-clause-text : goal.returns-clause-text
returns-clause-text c =
    let text = c.args.text.now in
    let whole = c.new-from.ensures.place in
    c.up_to.ensures.text ∙ front_by_rest c.loop-k.k c.args.n c.new-from.result c.loop-k.at c.loop-k.invariant (min_either c.loop-k.k c.args.n (length text) c.new-from.result (omega (arith, c.smaller-most.ensures)) (omega (arith, points_short text c.requires, ap length whole))) ∙ ap (λ t. take c.args.n t) whole

pub loop-k-preserved : goal.loop-k-preserved
loop-k-preserved c = next_place c.loop-k.k c.new-from.result c.loop-k.at c.skip.new.self c.loop-k.invariant c.skip.ensures
