use Rattle.std.proofs.Common.{rules, ap, sym, refl, subst, List, [], ℕ, get_or}
use Rattle.tclv_model.specs.declared.usages.Usage.TheVariants.{Try}
use Rattle.tclv_model.specs.Usages.{usage_of}
use Rattle.tclv_model.specs.Rows.{Gives, wrong_count}
use Rattle.tclv_model.specs.Values.{list_of}
use Rattle.tclv_reply.specs.Replies.{Refused}
use Rattle.tclv_ctl.specs.declared.handlers.Handling.{Handling}
use Rattle.tclv_ctl.specs.declared.handlers.Handling.TheVariants as handling
use Rattle.tclv_ctl.specs.Codes.{completion_code}
use Rattle.tclv_ctl.specs.Handlers.{On, Trap, wanted}
use Rattle.tclv_ctl.proofs.ReadLemmas.{reads_as, reads_stop, reads_map, reads_count}
use Rattle.tclv_ctl.proofs.handlers.read_wanted.Goals as goal

pub returns-in_err-code-in-On-clause-reads : goal.returns-in_err-code-in-On-clause-reads
returns-in_err-code-in-On-clause-reads c =
    let s = c.args.store.now in
    let what = get_or s.stack c.args.at [] in
    let call = get_or s.stack c.args.call [] in
    reads_as (wanted call c.args.handling what) (wanted call handling.On what) _ s c.code_at.new.store c.from_residual.result (ap (λ (h : Handling). wanted call h what) c.in-On.is)
    (reads_stop (completion_code what) (λ x. Gives (On x)) _ _ s c.code_at.new.store c.in_err-code-in-On.field-0.0 c.from_residual.result (search rules) c.in_err-code-in-On.ensures)

pub returns-in_ok-code-in-On-clause-reads : goal.returns-in_ok-code-in-On-clause-reads
returns-in_ok-code-in-On-clause-reads c =
    let s = c.args.store.now in
    let what = get_or s.stack c.args.at [] in
    let call = get_or s.stack c.args.call [] in
    reads_as (wanted call c.args.handling what) (wanted call handling.On what) _ s c.code_at.new.store _ (ap (λ (h : Handling). wanted call h what) c.in-On.is)
    (reads_map (completion_code what) On _ _ s c.code_at.new.store c.in_ok-code-in-On.code _ c.in_ok-code-in-On.ensures (λ v e. sym (ap On e)))

pub returns-in_err-list_len-in-Trap-clause-reads : goal.returns-in_err-list_len-in-Trap-clause-reads
returns-in_err-list_len-in-Trap-clause-reads c =
    let s = c.args.store.now in
    let what = get_or s.stack c.args.at [] in
    let call = get_or s.stack c.args.call [] in
    reads_as (wanted call c.args.handling what) (wanted call handling.Trap what) _ s c.list_len.new.store c.from_residual-in_err-list_len-in-Trap.result (ap (λ (h : Handling). wanted call h what) c.in-Trap.is)
    (reads_stop (list_of what) (λ x. Gives (Trap what)) _ _ s c.list_len.new.store c.in_err-list_len-in-Trap.field-0.0 c.from_residual-in_err-list_len-in-Trap.result (search rules) c.in_err-list_len-in-Trap.ensures)

pub returns-in_ok-list_len-in-Trap-clause-reads : goal.returns-in_ok-list_len-in-Trap-clause-reads
returns-in_ok-list_len-in-Trap-clause-reads c =
    let s = c.args.store.now in
    let what = get_or s.stack c.args.at [] in
    let call = get_or s.stack c.args.call [] in
    reads_as (wanted call c.args.handling what) (wanted call handling.Trap what) _ s c.list_len.new.store _ (ap (λ (h : Handling). wanted call h what) c.in-Trap.is)
    (reads_map (list_of what) (λ x. Trap what) _ _ s c.list_len.new.store c.in_ok-list_len-in-Trap.field-0 _ c.in_ok-list_len-in-Trap.ensures (λ v e. refl))

pub returns-in-Unknown-clause-reads : goal.returns-in-Unknown-clause-reads
returns-in-Unknown-clause-reads c =
    let s = c.args.store.now in
    let what = get_or s.stack c.args.at [] in
    let call = get_or s.stack c.args.call [] in
    reads_count (wanted call c.args.handling what) _ call (usage_of Try) s c.refuse_count.new.store c.refuse_count.result (ap (λ (h : Handling). wanted call h what) c.in-Unknown.is) c.refuse_count.ensures.grows
    c.refuse_count.ensures.refused
