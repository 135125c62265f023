use Rattle.std.proofs.Common.{length, List, ℕ, subst, sym, ◌<◌}
use Rattle.tclv_value.specs.declared.places.At.TheVariants.{Stack}
use Rattle.tclv_ctl.proofs.choosing.is_chosen.Goals as goal

pub word_at-text-requires-clause-made : goal.word_at-text-requires-clause-made
word_at-text-requires-clause-made c =
    let there = subst (λ (u : List (List ℕ)). c.args.pattern < length u) (sym c.make_word.ensures.kept.stack) c.requires.pattern in
    c.make_word-2.ensures.kept.stays (Stack c.args.pattern) there c.in_ok-make_word.ensures.made
