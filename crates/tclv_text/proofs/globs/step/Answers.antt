use Rattle.tclv_text.specs.GlobSearch.{points}
use Rattle.tclv_text.proofs.GlobLemmas.{fits_here, first_place}
use Rattle.tclv_text.proofs.globs.step.Goals as goal

pub returns-in-Fits-clause-says : goal.returns-in-Fits-clause-says
returns-in-Fits-clause-says c = fits_here (points c.args.nocase c.args.pattern.now) (points c.args.nocase c.args.text.now) c.in-Fits.ensures.says

pub returns-in-Somewhere-clause-says : goal.returns-in-Somewhere-clause-says
returns-in-Somewhere-clause-says c =
    first_place (points c.args.nocase c.args.pattern.now) (points c.args.nocase c.args.text.now) (points c.args.nocase c.in-Somewhere.behind.now) (points c.args.nocase c.in-Somewhere.rest.now) c.in-Somewhere.ensures.says
