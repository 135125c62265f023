use Rattle.std.proofs.Common.{◌-◌, ◌≤◌, ◌<◌, [], None, take, drop, length, get_or}
use Rattle.std.specs.Option.{option_map, ForSome}
use Rattle.tclv_model.specs.Rows.{wrong_count}
use Rattle.tclv_model.specs.Usages.{usage_of}
use Rattle.tclv_reply.specs.Options.{Options, known_or_bad, options_read}
use Rattle.tclv_reply.proofs.StepLemmas.{Went}
use Rattle.tclv_reply.proofs.options.read_options.Given as goal

-- The options up to a place are read, and what is still to come decides.
abbrev pub invariant-words : goal.invariant-words
invariant-words g l =
    let s = l.initial.store.stack in
    let w = l.words in
    let rest = options_read l.name (λ o x. known_or_bad o (g.S.Settings.after o x)) (wrong_count (get_or s w.call []) (usage_of l.usage)) in
    record {
      came : Went {A = Options g.row.S.Denot} (rest (take (w.to - w.from) (drop w.from s)) (record { settings = l.fn.plain; index = None })) (rest (take (w.to - l.at) (drop l.at s)) (record { settings = l.settings; index = option_map (λ k. get_or s k []) l.index })) l.initial.store l.store;
      order : l.at ≤ w.to;
      there : ForSome l.index (λ k. k < length s);
    }

abbrev pub decreases-words : goal.decreases-words
decreases-words g l = l.words.to - l.at
