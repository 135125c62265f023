use Rattle.std.proofs.Common.{◌+◌, ◌∙◌, List, ◌++◌, refl, sym, ap, arith, append-nil}
use Rattle.tclv_reply.proofs.Laws.{grows_none}
use Rattle.tclv_ctl.specs.Switching.{Text}
use Rattle.tclv_ctl.proofs.SwitchLemmas.{words_at, none_held}
use Rattle.tclv_ctl.proofs.switching.clause_words.Goals as goal

pub returns-then-height-first-gt1-clause-steps : goal.returns-then-height-first-gt1-clause-steps
returns-then-height-first-gt1-clause-steps c =
    let s = c.args.store.now in
    record {
      grows = grows_none s;
      gives = record { read = _; given = words_at s.stack (c.args.string + 1) (omega (arith, c.height-height.ensures)); shown = record { within = omega arith; is = refl }; grows = grows_none s };
      refuses = tt;
    }

pub returns-then-height-first-gt1-clause-stack : goal.returns-then-height-first-gt1-clause-stack
returns-then-height-first-gt1-clause-stack c =
    let s = c.args.store.now.stack in
    sym (append-nil s) ∙ ap (λ (t : List Text). s ++ t) (sym (none_held s (c.args.string + 1) (omega (arith, c.height-height.ensures))))
