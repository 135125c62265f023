use Rattle.std.proofs.Common.{◌≡◌, ◌∙◌, ◌+◌, ◌*◌, ◌≤◌, ◌++◌, ◌∷◌, sym, ap, subst, List, [], ℕ, drop, length, map, get_or, refl, append-nil, arith}
use Rattle.std.specs.List.{All}
use Rattle.std.proofs.lemmas.List.{map-append}
use Rattle.std.proofs.lemmas.List.Elements.{All-nil, All-push}
use Rattle.tclv_model.specs.Rows.{Answer, Gives, and_then}
use Rattle.tclv_reply.proofs.Laws.{begun, read_on, refused_there, went_as, reads_refused}
use Rattle.tclv_ctl.specs.Switching.{Text}
use Rattle.tclv_ctl.specs.Handlers.{Handler, handlers, handler_in, IsHandlerInside}
use Rattle.tclv_ctl.proofs.CallLemmas.{one_more}
use Rattle.tclv_ctl.proofs.HandlerLemmas.{before, handlers_next, handlers_end}
use Rattle.tclv_ctl.proofs.ReturnLemmas.{went_gives}
use Rattle.tclv_ctl.specs.declared.handlers.HandlerPlaces.{HandlerPlaces}
use Rattle.tclv_ctl.proofs.EndingLemmas.{same_answer}
use Rattle.tclv_ctl.proofs.handlers.read_handlers.Goals as goal

pub loop-k-init : goal.loop-k-init
loop-k-init c =
    let s = c.args.store.now.stack in
    let call = get_or s c.args.call [] in
    let row = handlers call (drop c.args.from s) in
    let place : c.args.from ≡ c.args.from + 4 * 0 = omega arith in
    let none = sym c.new-found.ensures.items in
    record {
      came = went_as _ (begun row c.args.store.now) (same_answer row ∙ ap (λ (i : ℕ). let y : Answer (List Handler) = and_then (handlers call (drop i s)) (λ hs. Gives hs) in y) place
          ∙ ap (λ (xs : List HandlerPlaces). let y : Answer (List Handler) = and_then (handlers call (drop (c.args.from + 4 * 0) s)) (λ hs. Gives (map (handler_in s) xs ++ hs)) in y) none);
      inside = subst (All (IsHandlerInside s)) none (All-nil (IsHandlerInside s));
    }

pub returns-in-Err-clause-reads : goal.returns-in-Err-clause-reads
returns-in-Err-clause-reads c =
    let s = c.args.store.now.stack in
    let call = get_or s c.args.call [] in
    let at = c.args.from + 4 * c.loop-k.k in
    let end = c.args.from + 4 * (c.loop-k.k + 1) in
    let w = c.loop-k.invariant.came in
    let done = map (handler_in s) c.loop-k.found.items in
    let rest = handlers call (drop end s) in
    let f : Handler → Answer (List Handler) = λ (h : Handler). and_then rest (λ hs. Gives ((done ++ h ∷ []) ++ hs)) in
    let within : end ≤ length s = omega (arith, c.loop-k-test.true, c.height.ensures, c.requires.place) in
    let g : List Text → Answer Handler = λ (q : List Text). before (get_or q c.args.call []) q end in
    let v = went_as _ w (ap (λ (x : Answer (List Handler)). let y : Answer (List Handler) = and_then x (λ hs. Gives (done ++ hs)) in y) (handlers_next call s at end (omega arith) within) ∙ one_more (g s) rest done) in
    let r = refused_there (g s) f v (g c.loop-k.store.stack) (ap g (sym w.same)) c.in-Err.ensures.reads in
    reads_refused r.0 r.1

pub loop-k-preserved : goal.loop-k-preserved
loop-k-preserved c =
    let s = c.args.store.now.stack in
    let call = get_or s c.args.call [] in
    let at = c.args.from + 4 * c.loop-k.k in
    let end = c.args.from + 4 * (c.loop-k.k + 1) in
    let w = c.loop-k.invariant.came in
    let items = c.loop-k.found.items in
    let done = map (handler_in s) items in
    let rest = handlers call (drop end s) in
    let f : Handler → Answer (List Handler) = λ (h : Handler). and_then rest (λ hs. Gives ((done ++ h ∷ []) ++ hs)) in
    let within : end ≤ length s = omega (arith, c.loop-k-test.true, c.height.ensures, c.requires.place) in
    let g : List Text → Answer Handler = λ (q : List Text). before (get_or q c.args.call []) q end in
    let v = went_as _ w (ap (λ (x : Answer (List Handler)). let y : Answer (List Handler) = and_then x (λ hs. Gives (done ++ hs)) in y) (handlers_next call s at end (omega arith) within) ∙ one_more (g s) rest done) in
    let r = read_on (g s) f v (g c.loop-k.store.stack) (ap g (sym w.same)) c.in-Ok.ensures.reads in
    let x = c.in-Ok.handler in
    let here : r.value ≡ handler_in s x = r.shown ∙ ap (λ (q : List Text). handler_in q x) w.same in
    let mapped : map (handler_in s) c.add_handler.new.found.items ≡ done ++ handler_in s x ∷ [] = ap (map (handler_in s)) c.in_ok-add_handler-in-Ok.ensures ∙ map-append (handler_in s) items (x ∷ []) in
    record {
      came = went_as _ r.went (ap f here ∙ ap (λ (hs : List Handler). let y : Answer (List Handler) = and_then rest (λ more. Gives (hs ++ more)) in y) (sym mapped));
      inside = subst (All (IsHandlerInside s)) (sym c.in_ok-add_handler-in-Ok.ensures) (All-push (IsHandlerInside s) items x c.loop-k.invariant.inside (subst (λ (q : List Text). IsHandlerInside q x) w.same c.in-Ok.ensures.inside));
    }

pub returns-clause-reads : goal.returns-clause-reads
returns-clause-reads c =
    let s = c.args.store.now.stack in
    let call = get_or s c.args.call [] in
    let at = c.args.from + 4 * c.loop-k.k in
    let items = c.loop-k.found.items in
    let done = map (handler_in s) items in
    let last = handlers_end call s at (omega (arith, c.loop-k-test.false, c.height.ensures, c.loop-k.auto.k-end)) in
    went_gives _ done c.loop-k.found c.loop-k.invariant.came (ap (λ (x : Answer (List Handler)). let y : Answer (List Handler) = and_then x (λ hs. Gives (done ++ hs)) in y) last ∙ ap Gives (append-nil done)) refl
