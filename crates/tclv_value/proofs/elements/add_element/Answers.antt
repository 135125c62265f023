use Rattle.std.proofs.Common.{arith}
use Rattle.std.proofs.lemmas.Bool.Decides.{nat_tests}
use Rattle.tclv_value.proofs.AnswerLemmas.{on_ok}
use Rattle.tclv_value.proofs.ElementLemmas.{first_written, next_written}
use Rattle.tclv_value.proofs.elements.add_element.Goals as goal

pub returns-then-is_empty : goal.returns-then-is_empty
returns-then-is_empty c = on_ok c.quote.result (first_written c.args.list.now.items c.quote.new.out.items _ (grind (arith, nat_tests, c.is_empty.ensures, c.if-is_empty.true))) c.quote.ensures.text

pub returns : goal.returns
returns c = on_ok c.quote-2.result (next_written c.args.list.now.items c.push.new.self.items c.quote-2.new.out.items _ (grind (arith, nat_tests, c.is_empty.ensures, c.if-is_empty.false)) c.in_ok-push.ensures.items) c.quote-2.ensures.text
