use Rattle.std.proofs.Common.{suc, ◌-◌, ◌≤◌, ◌∙◌, rules, ap, subst, ℕ, List, [], length, get_or, arith}
use Rattle.tclv_model.specs.declared.usages.Usage.TheVariants.{Proc}
use Rattle.tclv_model.specs.Usages.{usage_of}
use Rattle.tclv_model.specs.Rows.{Answer, Gives, and_then, wrong_count}
use Rattle.tclv_model.specs.Values.{list_of}
use Rattle.tclv_value.specs.declared.procedures.Param.{Param}
use Rattle.tclv_value.specs.Procedures.{Procedure}
use Rattle.tclv_value.specs.Stacks.{top}
use Rattle.tclv_reply.specs.Replies.{Refused, call_word}
use Rattle.tclv_reply.proofs.Laws.{grows_kept, grows_trans, word_kept}
use Rattle.tclv_ctl.specs.Parameters.{parameters, procedure, proc_of}
use Rattle.tclv_ctl.proofs.CallLemmas.{finds_count, finds_failed}
use Rattle.tclv_ctl.proofs.ParameterLemmas.{wrong_words, right_words}
use Rattle.tclv_ctl.proofs.procedures.read_procedure.Goals as goal

pub returns-then-n-ne3 : goal.returns-then-n-ne3
returns-then-n-ne3 c =
    let s = c.args.store.now in
    let n = c.args.n in
    let call = call_word n s.stack in
    let kind = c.refuse_count.result in
    let new = c.refuse_count.new.store in
    let told = c.refuse_count.ensures.refused in
    let said = subst (λ (h : ℕ). Refused {A = List ℕ} (wrong_count (get_or s.stack (h - n - 1) []) (usage_of Proc)) kind s.stack new.stack) c.height-height.ensures told in
    finds_count (proc_of call (top n s.stack)) _ call (usage_of Proc) s new kind (wrong_words call s.stack n (λ e. omega (arith, e)) (omega arith)) c.refuse_count.ensures.grows said

pub returns-in_err-params : goal.returns-in_err-params
returns-in_err-params c =
    let s = c.args.store.now in
    let n = c.args.n in
    let h = c.height-height.result in
    let call = call_word n s.stack in
    let body = get_or s.stack (h - 1) [] in
    finds_failed (proc_of call (top n s.stack)) _ (and_then (list_of (get_or s.stack (h - 2) [])) parameters) (λ ps. Gives (procedure body ps)) s c.read_parameters.new.store c.from_residual.result c.in_err-params.field-0.0 (search rules)
    (right_words call s.stack n h c.height-height.ensures (omega arith) (omega (arith, c.height-height.ensures))) c.in_err-params.ensures.grows c.in_err-params.ensures.refuses

pub returns : goal.returns
returns c =
    let s = c.args.store.now in
    let n = c.args.n in
    let h = c.height-height.result in
    let call = call_word n s.stack in
    let body = get_or s.stack (h - 1) [] in
    let mid = c.read_parameters.new.store in
    let new = c.make_procedure.new.store in
    let f = c.in_ok-params.ensures in
    let inside : suc (h - 1) ≤ length s.stack = omega (arith, c.height-height.ensures) in
    record {
      grows = grows_trans s mid new f.grows (grows_kept mid new c.in_ok-made.ensures.kept);
      gives = record {
        read = procedure body f.gives.read;
        given = right_words call s.stack n h c.height-height.ensures (omega arith) (omega (arith, c.height-height.ensures)) ∙ ap (λ (a : Answer (List Param)). let b : Answer Procedure = and_then a (λ ps. Gives (procedure body ps)) in b) f.gives.given;
        shown = c.in_ok-made.ensures.made ∙ ap (λ (b : List ℕ). procedure b c.in_ok-params.params.items) (word_kept s.stack mid.stack f.grows.more (h - 1) f.grows.stack inside) ∙ ap (procedure body) f.gives.shown;
      };
      refuses = tt;
    }
