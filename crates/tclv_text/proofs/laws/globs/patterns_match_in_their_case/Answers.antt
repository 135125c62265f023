use Rattle.tclv_text.proofs.GlobCases.{case_counts}
use Rattle.tclv_text.proofs.laws.globs.patterns_match_in_their_case.Goals as goal

pub returns : goal.returns
returns c = case_counts
