use Rattle.tclv_plain.proofs.ChannelLemmas.{named_output, named_errors, named_input, named_none}
use Rattle.tclv_plain.proofs.channels.channel_named.Goals as goal

pub returns-then-is_word : goal.returns-then-is_word
returns-then-is_word c = named_output c.args.name.now _ c.requires c.is_word.ensures c.if-is_word.true

pub returns-then-is_word-2 : goal.returns-then-is_word-2
returns-then-is_word-2 c = named_errors c.args.name.now _ _ c.requires c.is_word.ensures c.if-is_word.false c.is_word-2.ensures c.if-is_word-2.true

pub returns-then-is_word-3 : goal.returns-then-is_word-3
returns-then-is_word-3 c = named_input c.args.name.now _ _ _ c.requires c.is_word.ensures c.if-is_word.false c.is_word-2.ensures c.if-is_word-2.false c.is_word-3.ensures c.if-is_word-3.true

pub returns : goal.returns
returns c = named_none c.args.name.now _ _ _ c.requires c.is_word.ensures c.if-is_word.false c.is_word-2.ensures c.if-is_word-2.false c.is_word-3.ensures c.if-is_word-3.false
