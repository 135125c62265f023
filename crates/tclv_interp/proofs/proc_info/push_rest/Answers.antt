use Rattle.std.proofs.Common.{◌∙◌, ap, ◌++◌}
use Rattle.tclv_engine.proofs.SettingLemmas.{on-ok}
use Rattle.tclv_interp.proofs.ProcInfoLemmas.{rest_yes}
use Rattle.tclv_interp.proofs.proc_info.push_rest.Goals as goal

pub returns-then-rest-clause-pushed : goal.returns-then-rest-clause-pushed
returns-then-rest-clause-pushed c =
    on-ok c.push_text.result (λ h. h ∙ ap (λ ts. c.args.values.now.store.stack ++ ts) (rest_yes c.args.rest c.if-rest.true)) c.push_text.ensures.pushed
