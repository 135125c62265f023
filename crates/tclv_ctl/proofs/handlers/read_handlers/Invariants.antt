use Rattle.std.proofs.Common.{◌+◌, ◌*◌, ◌++◌, List, [], drop, map, get_or}
use Rattle.std.specs.List.{All}
use Rattle.tclv_model.specs.Rows.{Gives, and_then}
use Rattle.tclv_reply.proofs.Laws.{Went}
use Rattle.tclv_ctl.specs.Handlers.{Handler, handlers, handler_in, IsHandlerInside}
use Rattle.tclv_ctl.proofs.handlers.read_handlers.Given as goal

-- So many handlers are read, and the words behind are still to be read.
abbrev pub invariant-loop-k : goal.invariant-loop-k
invariant-loop-k l =
    let s = l.initial.store.stack in
    let call = get_or s l.call [] in
    record {
      came : Went {A = List Handler} (handlers call (drop l.from s)) (and_then (handlers call (drop (l.from + 4 * l.k) s)) (λ hs. Gives (map (handler_in s) l.found.items ++ hs))) l.initial.store l.store;
      inside : All (IsHandlerInside s) l.found.items;
    }
