use Rattle.std.proofs.Common.{List, ℕ, ap, sym, ◌∙◌, take}
use Rattle.std.specs.Str.{chars}
use Rattle.tclv_text.proofs.CursorLemmas.{chars-empty}
use Rattle.tclv_strings.specs.Finding.{last_place}
use Rattle.tclv_strings.proofs.FindLemmas.{empty_last, none_there}
use Rattle.tclv_strings.proofs.finding.last_before.Goals as goal

pub returns-then-is_empty : goal.returns-then-is_empty
returns-then-is_empty c =
    let front = take c.args.to (chars c.args.text.now) in
    sym (ap (λ (n : List ℕ). last_place n 0 front) (chars-empty c.args.needle.now (none_there _ _ c.is_empty.ensures c.if-is_empty.true)) ∙ empty_last 0 front)
