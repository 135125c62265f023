use Rattle.std.proofs.Common.{◌∙◌, sym, ap, ◌+◌, drop}
use Rattle.std.specs.Prelude.{◌||◌}
use Rattle.tclv_reply.specs.Names.{is_qualified}
use Rattle.tclv_reply.proofs.NameLemmas.{qualified-step}
use Rattle.tclv_reply.proofs.names.is_qualified.Goals as goal

pub returns-then-starts_with : goal.returns-then-starts_with
returns-then-starts_with c =
    sym (c.loop-i.invariant ∙ qualified-step c.args.name.now c.loop-i.i c.starts_with.result c.loop-i-test.true c.starts_with.ensures.value
    ∙ ap (λ b. b || is_qualified (drop (c.loop-i.i + 1) c.args.name.now)) c.if-starts_with.true)

pub loop-i-preserved : goal.loop-i-preserved
loop-i-preserved c =
    c.loop-i.invariant ∙ qualified-step c.args.name.now c.loop-i.i c.starts_with.result c.loop-i-test.true c.starts_with.ensures.value
    ∙ ap (λ b. b || is_qualified (drop (c.loop-i.i + 1) c.args.name.now)) c.if-starts_with.false
