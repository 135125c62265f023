use Rattle.std.proofs.Common.{ap, length, arith}
use Rattle.tclv_value.specs.declared.places.At.TheVariants.{Stack}
use Rattle.tclv_strings.proofs.words.make_two.Goals as goal

pub returns-clause-one_made : goal.returns-clause-one_made
returns-clause-one_made c = c.in_ok-make_word-2.ensures.kept.stays (Stack c.args.one) (omega (arith, ap length c.in_ok-make_word.ensures.kept.stack, c.requires.one)) c.in_ok-make_word.ensures.made
