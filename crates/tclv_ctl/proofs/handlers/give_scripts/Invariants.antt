use Rattle.std.proofs.Common.{◌≡◌, ◌-◌, ◌<◌, [], length, drop, map, reverse, get_or}
use Rattle.std.specs.List.{All}
use Rattle.tclv_value.specs.Changes.{KeepsTexts}
use Rattle.tclv_ctl.specs.Handlers.{next_script, with_scripts, handler_in, IsHandlerInside}
use Rattle.tclv_ctl.proofs.handlers.give_scripts.Given as goal

-- So many of the last handlers have their scripts.
abbrev pub invariant-loop-count : goal.invariant-loop-count
invariant-loop-count l =
    let s = l.initial.store.stack in
    let hs = map (handler_in s) (drop (length l.read - l.count) l.read) in
    record {
      kept : KeepsTexts l.initial.store l.store;
      within : l.body < length s;
      body : 0 < l.count → get_or s l.body [] ≡ next_script hs;
      inside : All (IsHandlerInside s) (reverse l.found.items);
      are : with_scripts hs ≡ map (handler_in s) (reverse l.found.items);
    }
