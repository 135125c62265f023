use Rattle.std.proofs.Common.{◌≡◌, ◌∙◌, rules, ap, subst, List, [], drop, map, get_or, Ok, Err}
use Rattle.std.specs.Option.{option_map}
use Rattle.tclv_model.specs.Rows.{and_then}
use Rattle.tclv_reply.specs.Replies.{Reads}
use Rattle.tclv_ctl.specs.Switching.{Text}
use Rattle.tclv_ctl.specs.declared.handlers.HandlerPlaces.{HandlerPlaces}
use Rattle.tclv_ctl.specs.Handlers.{Handler, handlers, ending, with_end, handler_in, text_in, IsTryPlanOf}
use Rattle.tclv_ctl.proofs.ReadLemmas.{reads_as, reads_on, reads_stop}
use Rattle.tclv_ctl.proofs.handlers.read_clauses.Goals as goal

pub returns-in_err-read : goal.returns-in_err-read
returns-in_err-read c =
    let s = c.args.store.now in
    let call = get_or s.stack c.args.call [] in
    let ws = drop c.args.from s.stack in
    reads_stop (handlers call ws) (λ (hs : List Handler). and_then (ending call ws) (with_end hs)) _ _ s c.read_handlers.new.store c.in_err-read.field-0.0 c.from_residual.result (search rules) c.in_err-read.ensures.reads

pub returns-in_err-finally : goal.returns-in_err-finally
returns-in_err-finally c =
    let s = c.args.store.now in
    let m = c.read_handlers.new.store in
    let new = c.read_ending.new.store in
    let call = get_or s.stack c.args.call [] in
    let ws = drop c.args.from s.stack in
    let u = c.in_ok-read.ensures.reads in
    let end = subst (λ (q : List Text). Reads (ending (get_or q c.args.call []) (drop c.args.from q)) (λ f x. f ≡ option_map (text_in q) x) m new (Err c.in_err-finally.field-0.0)) u.kept c.in_err-finally.ensures.reads in
    reads_on (handlers call ws) (λ (hs : List Handler). and_then (ending call ws) (with_end hs)) _ _ s m new c.in_ok-read.read c.from_residual-in_err-finally.result u
    (reads_stop (ending call ws) (with_end u.gives.read) _ _ m new c.in_err-finally.field-0.0 c.from_residual-in_err-finally.result (search rules) end)

pub returns : goal.returns
returns c =
    let s = c.args.store.now in
    let m = c.read_handlers.new.store in
    let n = c.read_ending.new.store in
    let new = c.make_plan.new.store in
    let r = c.make_plan.result in
    let call = get_or s.stack c.args.call [] in
    let ws = drop c.args.from s.stack in
    let items = c.in_ok-read.read.items in
    let finally = c.in_ok-finally.finally in
    let u = c.in_ok-read.ensures.reads in
    let v = c.in_ok-finally.ensures.reads in
    let end = subst (λ (q : List Text). Reads (ending (get_or q c.args.call []) (drop c.args.from q)) (λ f x. f ≡ option_map (text_in q) x) m n (Ok finally)) u.kept v in
    let made = subst (λ (q : List Text). Reads (with_end (map (handler_in q) items) (option_map (text_in q) finally)) (IsTryPlanOf q) n new r) (v.kept ∙ u.kept)
    (subst (λ (xs : List HandlerPlaces). Reads (with_end (map (handler_in n.stack) xs) (option_map (text_in n.stack) finally)) (IsTryPlanOf n.stack) n new r) c.as_slice.ensures.value c.make_plan.ensures) in
    let same : with_end u.gives.read end.gives.read ≡ with_end (map (handler_in s.stack) items) (option_map (text_in s.stack) finally) =
    ap (λ (hs : List Handler). with_end hs end.gives.read) u.gives.shown ∙ ap (with_end (map (handler_in s.stack) items)) end.gives.shown in
    reads_on (handlers call ws) (λ (hs : List Handler). and_then (ending call ws) (with_end hs)) _ _ s m new c.in_ok-read.read r u
    (reads_on (ending call ws) (with_end u.gives.read) _ _ m n new finally r end (reads_as (with_end u.gives.read end.gives.read) _ _ n new r same made))
