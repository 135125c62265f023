use Rattle.tclv_engine.proofs.BoundLemmas.{is_whole, bounds_agree, is_whole_of_words, bounds_agree_on_words}
use Rattle.tclv_engine.proofs.laws.no_bound_shows.Goals as goal

pub returns-clause-whole : goal.returns-clause-whole
returns-clause-whole g c = is_whole

pub returns-clause-bounds : goal.returns-clause-bounds
returns-clause-bounds g c = bounds_agree

pub returns-clause-whole_words : goal.returns-clause-whole_words
returns-clause-whole_words g c = is_whole_of_words

pub returns-clause-bounds_on_words : goal.returns-clause-bounds_on_words
returns-clause-bounds_on_words g c = bounds_agree_on_words
