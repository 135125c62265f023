use Rattle.std.proofs.Common.{ap, sym, subst, false}
use Rattle.std.specs.Str.{chars}
use Rattle.tclv_parse.specs.Grammar.{course, script, deeper_by}
use Rattle.tclv_parse.specs.Places.{seen_course, behind}
use Rattle.tclv_parse.specs.Gives.{TilesText}
use Rattle.tclv_parse.specs.Steps.{all_behind, left_of}
use Rattle.tclv_parse.proofs.Whole.{pieces-tile}
use Rattle.tclv_parse.proofs.tokens.Tokens.new.Goals as goal

pub returns-clause-pieces : goal.returns-clause-pieces
unfolding course all_behind behind
returns-clause-pieces c = ap (λ t. left_of (seen_course (script 0 (deeper_by 0 100) false t))) c.new.ensures.place

pub returns-clause-tiles : goal.returns-clause-tiles
returns-clause-tiles c = subst (TilesText (chars c.args.text.now)) (sym (returns-clause-pieces c)) (pieces-tile (chars c.args.text.now))
