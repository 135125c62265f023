use Rattle.std.proofs.Common.{sym, ◌∙◌}
use Rattle.std.specs.Str.{chars}
use Rattle.tclv_model.proofs.CodeLemmas.{front_alone, front_named}
use Rattle.tclv_model.proofs.error_codes.code_text.Goals as goal

pub returns-then-not-is_naming : goal.returns-then-not-is_naming
returns-then-not-is_naming c =
    let same = c.in_ok-bytes.ensures.items ∙ c.as_bytes.ensures.value in
    c.new.ensures
    ∙ front_alone c.args.errorcode c.in_ok-bytes.bytes.items c.code_front.result.now (chars c.args.name.now) same c.code_front.ensures.text c.code_front.ensures.ascii (sym c.is_naming.ensures ∙ c.if-not-is_naming.true)

pub returns : goal.returns
returns c =
    let same = c.in_ok-bytes.ensures.items ∙ c.as_bytes.ensures.value in
    c.new-2.ensures
    ∙ front_named c.args.errorcode c.in_ok-bytes.bytes.items c.code_front.result.now (chars c.args.name.now) same c.code_front.ensures.text c.code_front.ensures.ascii c.quote.new.out.items (sym c.is_naming.ensures ∙ c.if-not-is_naming.false) c.in_ok-quote.ensures.text
