use Rattle.std.proofs.Common.{rules, arith, ap, ◌≡◌, ◌<◌, ◌≤◌, ◌∙◌, ◌-◌, ◌++◌, [], length, take, drop, get_or, refl, length-append, length-drop}
use Rattle.std.proofs.lemmas.List.{take_all}
use Rattle.tclv_engine.specs.ListAssignment.{listed}
use Rattle.tclv_engine.proofs.WordLemmas.{same_then}
use Rattle.tclv_engine.proofs.ListLemmas.{pushed_none, pushed_more, list_below, list_stays, one_pushed}
use Rattle.tclv_engine.proofs.machine.Machine.push_elements.Goals as goal

pub loop-i-init : goal.loop-i-init
loop-i-init g c = record {
  pushed = pushed_none c.args.self.now.values.store.stack (listed (get_or c.args.self.now.values.store.stack c.args.list [])) c.args.from;
  same = record { variables = record { vars = refl; cells = refl }; own = refl; units = refl; depth = refl; events = refl };
}

pub push_element-requires-clause-place : goal.push_element-requires-clause-place
push_element-requires-clause-place g c =
    let stack = c.args.self.now.values.store.stack in
    let t = get_or stack c.args.list [] in
    omega (arith, c.requires.place, ap length c.loop-i.invariant.pushed, length-append stack (take (c.loop-i.i - c.args.from) (drop c.args.from (listed t))))

pub push_element-requires-clause-list : goal.push_element-requires-clause-list
push_element-requires-clause-list g c =
    let stack = c.args.self.now.values.store.stack in
    list_stays (get_or stack c.args.list []) _ (list_below stack _ c.loop-i.self.values.store.stack c.args.list c.loop-i.invariant.pushed c.requires.place) c.requires.list

pub loop-i-preserved : goal.loop-i-preserved
loop-i-preserved g c =
    let stack = c.args.self.now.values.store.stack in
    let cur = c.loop-i.self.values.store.stack in
    let t = get_or stack c.args.list [] in
    let after : c.args.from ≤ c.loop-i.i = search rules in
    let inside : c.loop-i.i < length (listed t) = search rules in
    record {
      pushed = pushed_more stack cur c.push_element.new.self.values.store.stack (listed t) c.args.from c.loop-i.i _ after inside c.loop-i.invariant.pushed
          (one_pushed t (get_or cur c.args.list []) cur c.push_element.new.self.values.store.stack c.loop-i.i (list_below stack _ cur c.args.list c.loop-i.invariant.pushed c.requires.place) inside c.in_ok-push_element.ensures.pushed) refl;
      same = same_then c.args.self.now c.loop-i.self c.push_element.new.self c.loop-i.invariant.same c.push_element.ensures.same;
    }

pub returns-clause-pushed : goal.returns-clause-pushed
returns-clause-pushed g c =
    let stack = c.args.self.now.values.store.stack in
    let ts = listed (get_or stack c.args.list []) in
    let ended : c.args.len ≤ c.loop-i.i = search rules in
    c.loop-i.invariant.pushed ∙ ap (λ u. stack ++ u) (take_all (c.loop-i.i - c.args.from) (drop c.args.from ts) (omega (arith, ended, c.requires.len, length-drop c.args.from ts)))
