use Rattle.std.proofs.Common.{◌≡◌, ◌-◌, ◌∙◌, rules, ap, sym, subst, List, [], get_or, Ok, Err, length}
use Rattle.tclv_model.specs.Rows.{Answer, Gives, and_then}
use Rattle.tclv_model.specs.Values.{list_of}
use Rattle.tclv_reply.specs.Replies.{Reads}
use Rattle.tclv_ctl.specs.declared.handlers.Handling.{Handling}
use Rattle.tclv_ctl.specs.Switching.{Text, given_words}
use Rattle.tclv_ctl.specs.Handlers.{For, Handler, beginning, wanted, wanted_in}
use Rattle.tclv_ctl.proofs.ReadLemmas.{reads_after, reads_on, reads_stop}
use Rattle.tclv_ctl.proofs.handlers.read_handler.Goals as goal

pub returns-in_err-condition-clause-reads : goal.returns-in_err-condition-clause-reads
returns-in_err-condition-clause-reads c =
    let s = c.args.store.now in
    let m = c.beginning_at.new.store in
    let new = c.read_wanted.new.store in
    let end = c.args.end in
    let at = c.args.call in
    let k = c.in_ok-handling.ensures.kept in
    let h = c.in_ok-handling.handling in
    let mk : For → List Text → Handler = λ w ns. record { wanted = w; names = ns; script = get_or s.stack (end - 1) [] } in
    let f : For → Answer Handler = λ w. and_then (list_of (get_or s.stack (end - 2) [])) (λ ns. Gives (mk w ns)) in
    let b : List Text → Handling → Answer Handler = λ q x. and_then (wanted (get_or q at []) x (get_or q (end - 3) [])) f in
    reads_after (b s.stack (beginning (get_or s.stack (end - 4) []))) (b m.stack h) _ s m new c.from_residual-in_err-condition.result k
    (ap (λ (q : List Text). b q (beginning (get_or s.stack (end - 4) []))) (sym k.stack) ∙ ap (b m.stack) (sym c.in_ok-handling.ensures.says))
    (reads_stop (wanted (get_or m.stack at []) h (get_or m.stack (end - 3) [])) f _ _ m new c.in_err-condition.field-0.0 c.from_residual-in_err-condition.result (search rules) c.in_err-condition.ensures.reads)

pub returns-in_err-list_len-clause-reads : goal.returns-in_err-list_len-clause-reads
returns-in_err-list_len-clause-reads c =
    let s = c.args.store.now in
    let m = c.beginning_at.new.store in
    let n = c.read_wanted.new.store in
    let new = c.list_len.new.store in
    let end = c.args.end in
    let at = c.args.call in
    let k = c.in_ok-handling.ensures.kept in
    let h = c.in_ok-handling.handling in
    let mk : For → List Text → Handler = λ w ns. record { wanted = w; names = ns; script = get_or s.stack (end - 1) [] } in
    let f : For → Answer Handler = λ w. and_then (list_of (get_or s.stack (end - 2) [])) (λ ns. Gives (mk w ns)) in
    let b : List Text → Handling → Answer Handler = λ q x. and_then (wanted (get_or q at []) x (get_or q (end - 3) [])) f in
    let u = c.in_ok-condition.ensures.reads in
    let l = subst (λ (q : List Text). Reads (list_of (get_or q (end - 2) [])) (λ ts len. len ≡ length ts) n new (Err c.in_err-list_len.field-0.0)) (u.kept ∙ k.stack) c.in_err-list_len.ensures in
    reads_after (b s.stack (beginning (get_or s.stack (end - 4) []))) (b m.stack h) _ s m new c.from_residual-in_err-list_len.result k
    (ap (λ (q : List Text). b q (beginning (get_or s.stack (end - 4) []))) (sym k.stack) ∙ ap (b m.stack) (sym c.in_ok-handling.ensures.says))
    (reads_on (wanted (get_or m.stack at []) h (get_or m.stack (end - 3) [])) f _ _ m n new c.in_ok-condition.condition c.from_residual-in_err-list_len.result u
    (reads_stop (list_of (get_or s.stack (end - 2) [])) (λ ns. Gives (mk u.gives.read ns)) _ _ n new c.in_err-list_len.field-0.0 c.from_residual-in_err-list_len.result (search rules) l))

pub returns-clause-reads : goal.returns-clause-reads
returns-clause-reads c =
    let s = c.args.store.now in
    let m = c.beginning_at.new.store in
    let n = c.read_wanted.new.store in
    let new = c.list_len.new.store in
    let end = c.args.end in
    let at = c.args.call in
    let k = c.in_ok-handling.ensures.kept in
    let h = c.in_ok-handling.handling in
    let mk : For → List Text → Handler = λ w ns. record { wanted = w; names = ns; script = get_or s.stack (end - 1) [] } in
    let f : For → Answer Handler = λ w. and_then (list_of (get_or s.stack (end - 2) [])) (λ ns. Gives (mk w ns)) in
    let b : List Text → Handling → Answer Handler = λ q x. and_then (wanted (get_or q at []) x (get_or q (end - 3) [])) f in
    let u = c.in_ok-condition.ensures.reads in
    let l = subst (λ (q : List Text). Reads (list_of (get_or q (end - 2) [])) (λ ts len. len ≡ length ts) n new (Ok c.in_ok-list_len.field-0)) (u.kept ∙ k.stack) c.in_ok-list_len.ensures in
    let x = c.in_ok-condition.condition in
    let seen : u.gives.read ≡ wanted_in s.stack x = u.gives.shown ∙ ap (λ (q : List Text). wanted_in q x) k.stack in
    let named : l.gives.read ≡ given_words (list_of (get_or s.stack (end - 2) [])) = sym (ap given_words l.gives.given) in
    reads_after (b s.stack (beginning (get_or s.stack (end - 4) []))) (b m.stack h) _ s m new _ k
    (ap (λ (q : List Text). b q (beginning (get_or s.stack (end - 4) []))) (sym k.stack) ∙ ap (b m.stack) (sym c.in_ok-handling.ensures.says))
    (reads_on (wanted (get_or m.stack at []) h (get_or m.stack (end - 3) [])) f _ _ m n new x _ u
    (record {
      grows = l.grows;
      kept = l.kept;
      gives = record {
        read = mk u.gives.read l.gives.read;
        given = ap (λ (z : Answer (List Text)). let a : Answer Handler = and_then z (λ ns. Gives (mk u.gives.read ns)) in a) l.gives.given;
        shown = ap (λ (w : For). mk w l.gives.read) seen ∙ ap (mk (wanted_in s.stack x)) named;
      };
      refuses = tt;
    }))
