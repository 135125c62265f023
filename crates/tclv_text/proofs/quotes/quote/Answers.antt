use Rattle.tclv_text.proofs.QuotesLifted.{quote_ok, quote_text}
use Rattle.tclv_text.proofs.quotes.quote.Goals as goal

pub returns-else-is_err-clause-ok : goal.returns-else-is_err-clause-ok
returns-else-is_err-clause-ok c =
    quote_ok c.quote_onto-result.result c.args.out.now.items c.quote_onto-result.new.out.items c.args.text.now c.args.first c.requires c.quote_onto-result.ensures.ok

pub returns-else-is_err-clause-text : goal.returns-else-is_err-clause-text
returns-else-is_err-clause-text c =
    quote_text c.quote_onto-result.result c.args.out.now.items c.quote_onto-result.new.out.items c.args.text.now c.args.first c.requires c.quote_onto-result.ensures.ok
