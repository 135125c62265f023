use Rattle.std.proofs.Common.{ap}
use Rattle.tclv_parse.specs.Grammar.{deeper_by}
use Rattle.tclv_parse.proofs.Rules.{braced-is, parts-is, words-is, script-is, deeper-is}
use Rattle.tclv_parse.proofs.laws.rules_are_equations.Goals as goal

pub returns : goal.returns
returns c = record {
  braced = λ t level. ap (λ r. r level) (braced-is t);
  parts = λ whole depth inner form. parts-is (deeper_by whole depth) (deeper-is whole depth) inner form;
  words = λ whole depth inner. words-is (deeper_by whole depth) (deeper-is whole depth) inner;
  script = λ whole depth inner. script-is (deeper_by whole depth) (deeper-is whole depth) inner whole;
}
