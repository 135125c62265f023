use Rattle.std.proofs.Common.{◌≡◌, ◌<◌, ◌≤◌, ◌-◌, ◌++◌, ◌∙◌, ap, sym, Bool, List, [], length, take, drop, arith}
use Rattle.std.specs.Option.{option_map}
use Rattle.std.proofs.lemmas.List.{take_all, length-drop}
use Rattle.tclv_value.specs.declared.procedures.Param.{Param}
use Rattle.tclv_value.specs.Stacks.{top, under}
use Rattle.tclv_ctl.specs.Arguments.{bound}
use Rattle.tclv_ctl.proofs.ArgumentLemmas.{missing, none_for, on_stack, all_on_words, split}
use Rattle.tclv_ctl.proofs.arguments.push_missing.Goals as goal

pub returns-then-n-params-clause-pushed : goal.returns-then-n-params-clause-pushed
returns-then-n-params-clause-pushed c =
    let s = c.args.store.now.stack in
    let d = c.args.def.now in
    let n = c.args.n in
    let more : length d.params < n = omega (arith, c.if-n-params.true, ap length c.params-params.ensures) in
    missing (bound d.params d.rest (top n s)) (under n s) s (none_for s n c.requires.words d.params d.rest (c.requires.last more) more)

pub returns-clause-pushed : goal.returns-clause-pushed
returns-clause-pushed c =
    let s = c.args.store.now.stack in
    let d = c.args.def.now in
    let n = c.args.n in
    let few : n ≤ length d.params = omega (arith, c.if-n-params.false, ap length c.params-params.ensures) in
    let params = c.params-params.result.now in
    let part = drop n params in
    let all : take (length params - n) part ≡ part = take_all (length params - n) part (omega (arith, length-drop n params)) in
    all_on_words c.push_defaults.result (bound d.params d.rest (top n s)) (bound (take (length params - n) part) c.has_rest.result []) (top n s) (under n s) s _
    (on_stack s n c.requires.words d.params d.rest few ∙ ap (λ (qs : List Param). option_map (λ ts. top n s ++ ts) (bound (drop n qs) d.rest [])) (sym c.params-params.ensures)
    ∙ ap (λ (b : Bool). option_map (λ ts. top n s ++ ts) (bound part b [])) (sym c.has_rest.ensures) ∙ ap (λ (qs : List Param). option_map (λ ts. top n s ++ ts) (bound qs c.has_rest.result [])) (sym all))
    (split s n c.requires.words) c.push_defaults.ensures.pushed
