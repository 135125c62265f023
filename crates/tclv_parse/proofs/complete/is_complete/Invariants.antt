use Rattle.std.proofs.Common.{◌≡◌, length}
use Rattle.std.specs.Str.{chars}
use Rattle.tclv_parse.specs.Grammar.{fault}
use Rattle.tclv_parse.specs.Complete.{is_complete}
use Rattle.tclv_parse.proofs.complete.is_complete.Given as goal

abbrev pub invariant-pieces : goal.invariant-pieces
invariant-pieces l = is_complete (fault (chars l.text)) ≡ is_complete l.tokens.1

abbrev pub decreases-pieces : goal.decreases-pieces
decreases-pieces l = length l.tokens.0
