use Rattle.std.proofs.Common.{◌≡◌, ◌∙◌, rules, ap, sym, refl, subst, List, [], map, Bool, cond}
use Rattle.std.specs.List.{All}
use Rattle.std.specs.Option.{option_map}
use Rattle.tclv_model.specs.declared.messages.MessageId.TheVariants.{LastHandlerWithoutBody}
use Rattle.tclv_model.specs.Rows.{Answer, Gives, says}
use Rattle.tclv_reply.proofs.Laws.{grows_kept, keeps_trans}
use Rattle.tclv_ctl.specs.Switching.{Text}
use Rattle.tclv_ctl.specs.Handlers.{Handlers, with_scripts, with_end, handler_in, text_in, IsHandlerInside}
use Rattle.tclv_ctl.proofs.EndingLemmas.{reads_none}
use Rattle.tclv_ctl.proofs.handlers.make_plan.Goals as goal

pub returns-in_err-handlers : goal.returns-in_err-handlers
returns-in_err-handlers c =
    let s = c.args.store.now in
    let m = c.ends_in_dash.new.store in
    let new = c.give_scripts.new.store in
    let fin = option_map (text_in s.stack) c.args.finally in
    reads_none (with_end (map (handler_in s.stack) c.args.read.now) fin) _ s new c.from_residual-in_err-handlers.result (search rules) (grows_kept s new (keeps_trans s m new c.in_ok-ends_in_dash.ensures.kept c.in_err-handlers.ensures.kept))

pub returns : goal.returns
returns c =
    let s = c.args.store.now in
    let m = c.ends_in_dash.new.store in
    let new = c.give_scripts.new.store in
    let rs = c.args.read.now in
    let hs = map (handler_in s.stack) rs in
    let fin = option_map (text_in s.stack) c.args.finally in
    let k = c.in_ok-ends_in_dash.ensures.kept in
    let w = c.in_ok-handlers.ensures in
    let items = c.in_ok-handlers.handlers.items in
    let made : Answer Handlers = Gives (record { handlers = with_scripts hs; finally = fin }) in
    record {
      grows = grows_kept s new (keeps_trans s m new k w.kept);
      kept = w.kept.stack ∙ k.stack;
      gives = record {
        read = record { handlers = with_scripts hs; finally = fin };
        given = ap (λ (b : Bool). cond b (says LastHandlerWithoutBody [] []) made) (sym c.in_ok-ends_in_dash.ensures.says ∙ c.if-branch.false);
        shown = record {
          inside = subst (λ (q : List Text). All (IsHandlerInside q) items) k.stack w.inside;
          handlers = sym (subst (λ (q : List Text). with_scripts (map (handler_in q) rs) ≡ map (handler_in q) items) k.stack w.handlers);
          finally_inside = c.requires.end;
          finally = refl;
        };
      };
      refuses = tt;
    }
