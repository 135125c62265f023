use Rattle.std.proofs.Common.{◌∙◌, List, ℕ, [], get_or, ap, sym}
use Rattle.std.specs.Str.{bytes_eq}
use Rattle.tclv_reply.proofs.Laws.{bytes_are}
use Rattle.tclv_lists.proofs.sequences.is_literal.Goals as goal

pub returns : goal.returns
returns c =
    c.eq.ensures ∙ ap (λ (b : List ℕ). bytes_eq c.in-Some.text.now b) c.as_bytes.ensures.value
    ∙ ap (λ (b : List ℕ). bytes_eq b c.args.literal.now) (sym (bytes_are c.in-Some.text.now (get_or c.args.store.now.stack c.args.at []) c.in-Some.ensures.text))
