use Rattle.std.proofs.Common.{◌≡◌, ◌*◌, drop}
use Rattle.tclv_text.specs.Pairs.{pairs_of, put_all}
use Rattle.tclv_ctl.proofs.dicts.pairs_of.Given as goal

-- So many pairs are put.
abbrev pub invariant-loop-k : goal.invariant-loop-k
invariant-loop-k l = pairs_of l.texts ≡ put_all l.pairs.items (drop (2 * l.k) l.texts)
