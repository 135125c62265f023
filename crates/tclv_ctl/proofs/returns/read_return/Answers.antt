use Rattle.std.proofs.Common.{rules, drop, subst}
use Rattle.tclv_text.specs.Pairs.{Pairs}
use Rattle.tclv_model.specs.Rows.{Gives}
use Rattle.tclv_ctl.specs.Returns.{Asks, with_words, plain_return, asked_by, IsReturn}
use Rattle.tclv_ctl.proofs.ReadLemmas.{reads_stop, reads_map}
use Rattle.tclv_ctl.proofs.returns.read_return.Goals as goal

pub returns-in_err-wanted : goal.returns-in_err-wanted
returns-in_err-wanted c =
    reads_stop (with_words (drop c.args.from c.args.store.now.stack) plain_return) (λ s. Gives (asked_by s.code s.level s.others)) _ _ c.args.store.now c.read_options.new.store c.in_err-wanted.field-0.0 c.from_residual.result (search rules) c.in_err-wanted.ensures.reads

pub returns : goal.returns
returns c =
    let w = c.in_ok-wanted.wanted in
    let ret = c.in_ok-ret.ret in
    let made = subst (λ (ps : Pairs). IsReturn (asked_by w.code w.level ps) ret) c.as_slice.ensures.value c.in_ok-ret.ensures in
    reads_map (with_words (drop c.args.from c.args.store.now.stack) plain_return) (λ s. asked_by s.code s.level s.others) _ _ c.args.store.now c.read_options.new.store w ret c.in_ok-wanted.ensures.reads
    (λ v e. subst (λ (s : Asks). IsReturn (asked_by s.code s.level s.others) ret) e made)
