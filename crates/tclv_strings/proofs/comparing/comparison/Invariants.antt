use Rattle.std.proofs.Common.{◌-◌, ◌≤◌, [], take, drop, get_or}
use Rattle.tclv_strings.specs.declared.comparing.ComparedAs.{ComparedAs}
use Rattle.tclv_strings.specs.Comparing.{compared_whole, comparison_read, verdict_count}
use Rattle.tclv_reply.proofs.Laws.{Went}
use Rattle.tclv_strings.proofs.comparing.comparison.Given as goal

-- The options up to a place are read, and what is still to come decides.
abbrev pub invariant-words : goal.invariant-words
invariant-words l =
    let s = l.initial.store.stack in
    let rest = comparison_read (verdict_count l.verdict (get_or s l.call [])) in
    record {
      came : Went {A = ComparedAs} (rest (take (l.to - l.from) (drop l.from s)) compared_whole) (rest (take (l.to - l.at) (drop l.at s)) (record { nocase = l.nocase; len = l.len })) l.initial.store l.store;
      order : l.at ≤ l.to;
    }

abbrev pub decreases-words : goal.decreases-words
decreases-words l = l.to - l.at
