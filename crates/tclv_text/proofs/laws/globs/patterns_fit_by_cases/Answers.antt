use Rattle.std.proofs.Common.{refl}
use Rattle.tclv_text.proofs.GlobCases.{star_joins, star_splits, set_fits, open_set_fits, last_backslash, plain_fits}
use Rattle.tclv_text.proofs.laws.globs.patterns_fit_by_cases.Goals as goal

pub returns : goal.returns
returns c = record {
  nothing = λ t. refl;
  star = star_joins;
  star_alone = star_splits;
  question = λ p t. refl;
  set = set_fits;
  open_set = open_set_fits;
  escaped = λ x p t. refl;
  last_backslash = last_backslash;
  other = plain_fits;
}
