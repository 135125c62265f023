use Rattle.std.proofs.Common.{length}
use Rattle.std.specs.Str.{chars}
use Rattle.tclv_text.specs.Escapes.{unescape}
use Rattle.tclv_text.proofs.EscapeLemmas.{Unescaped}
use Rattle.tclv_text.proofs.escapes.unescape_onto.Given as goal

abbrev pub invariant-loop-rest : goal.invariant-loop-rest
invariant-loop-rest l = Unescaped (unescape (chars l.fn.text)) l.fn.out.items l.out.items l.rest

abbrev pub decreases-loop-rest : goal.decreases-loop-rest
decreases-loop-rest l = length l.rest
