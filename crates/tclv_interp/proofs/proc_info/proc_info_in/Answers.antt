use Rattle.std.proofs.Common.{rules, arith, ◌≡◌, ◌<◌, ◌∙◌, ◌-◌, ◌+◌, ap, [], get_or}
use Rattle.tclv_engine.proofs.NameLemmas.{bytes-are}
use Rattle.tclv_interp.specs.ProcInfoRows.{proc_info}
use Rattle.tclv_interp.proofs.ProcInfoLemmas.{info_short, info_named}
use Rattle.tclv_interp.proofs.proc_info.proc_info_in.Goals as goal

pub returns-then-n-lt2-clause-found : goal.returns-then-n-lt2-clause-found
returns-then-n-lt2-clause-found c = info_short c.args.machine.now.values.store.stack c.args.n (search (rules, c.if-n-lt2.true)) c.requires

pub returns-clause-found : goal.returns-clause-found
returns-clause-found c =
    let stack = c.args.machine.now.values.store.stack in
    let base = c.height.result - c.args.n in
    let some : 1 < c.args.n = search (rules, arith) in
    c.proc_info.ensures
    ∙ ap proc_info (bytes-are c.lend.result.now (get_or stack (base + 1) []) c.lend.ensures.utf8 (c.lend.ensures.text ∙ ap (λ s. get_or s (base + 1) []) c.in_ok-make_text.ensures.stack))
    ∙ info_named stack c.args.n base some c.requires (ap (λ l. l - c.args.n) c.height.ensures)
