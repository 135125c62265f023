use Rattle.std.proofs.Common.{sym}
use Rattle.tclv_engine.proofs.Depths.{over_limit, under_limit, words_over_limit, words_under_limit}
use Rattle.tclv_engine.proofs.laws.at_most_200.Goals as goal

pub returns-clause-full : goal.returns-clause-full
returns-clause-full g c given s st h = sym (over_limit given s st h)

pub returns-clause-one_more : goal.returns-clause-one_more
returns-clause-one_more g c given s st h = sym (under_limit given s st h)

pub returns-clause-full_of_words : goal.returns-clause-full_of_words
returns-clause-full_of_words g c given ws st h = words_over_limit given ws st h

pub returns-clause-one_more_of_words : goal.returns-clause-one_more_of_words
returns-clause-one_more_of_words g c given ws st h = words_under_limit given ws st h
