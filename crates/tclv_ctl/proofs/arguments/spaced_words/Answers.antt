use Rattle.std.proofs.Common.{◌+◌, ◌-◌, ◌++◌, ◌∙◌, ap, sym, ℕ, List, [], take, drop, get_or}
use Rattle.std.specs.List.{flat_map}
use Rattle.tclv_ctl.proofs.UsageLemmas.{behind_space, spaced_is}
use Rattle.tclv_ctl.proofs.arguments.spaced_words.Goals as goal

pub returns-clause-text : goal.returns-clause-text
returns-clause-text c =
    let s = c.args.store.now.stack in
    let from = c.args.from in
    let to = c.args.to in
    c.in_ok-add_words.ensures.added
    ∙ ap (λ (t : List ℕ). t ++ flat_map behind_space (take (to - (from + 1)) (drop (from + 1) c.copy_of.new.store.stack))) c.in_ok-text.ensures.text
    ∙ ap (λ (q : List (List ℕ)). get_or s from [] ++ flat_map behind_space (take (to - (from + 1)) (drop (from + 1) q))) c.in_ok-text.ensures.kept.stack
    ∙ sym (spaced_is s from to c.requires.some c.requires.within)
