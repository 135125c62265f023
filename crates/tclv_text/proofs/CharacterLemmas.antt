-- Laws of fronts of a list that pass a test.
use Rattle.std.proofs.lemmas.List.Sums.{prefix_len-le-length, suffix_len-le-length}

pub ruleset front_lengths = (prefix_len-le-length, suffix_len-le-length)
