use Rattle.std.proofs.Common.{rules, refl, arith, ap, sym, subst, ◌≡◌, ◌∙◌, ◌≤◌, ◌<◌, ◌+◌, ◌-◌, ◌++◌, ◌∷◌, [], length, take, drop, List}
use Rattle.std.specs.List.{All}
use Rattle.tclv_engine.specs.State.{Text, state_of}
use Rattle.tclv_engine.specs.EachLoops.{groups_of}
use Rattle.tclv_engine.specs.EachSteps.{GroupInside, groups_at}
use Rattle.tclv_engine.proofs.Binds.{runs_as, bind_ok, then_stop}
use Rattle.tclv_engine.proofs.Leaves.{done_runs}
use Rattle.tclv_engine.proofs.WordLemmas.{same_then}
use Rattle.tclv_engine.proofs.ForeachLemmas.{read_begin, pair_words, pair_end, all_same}
use Rattle.tclv_engine.proofs.machine.Machine.groups.Goals as goal

pub pairs-init : goal.pairs-init
pairs-init g c = record {
  after = omega arith;
  before = c.requires.order;
  read = read_begin c.args.empty (take (c.args.to - c.args.from) (drop c.args.from c.args.self.now.values.store.stack)) c.args.self.now _ c.new.ensures.items;
}

pub add_group-requires-clause-names : goal.add_group-requires-clause-names
add_group-requires-clause-names g c =
    let two : 2 ≤ c.args.to - c.pairs.at = search rules in
    omega (arith, two, c.requires.places, ap length c.pairs.invariant.read.stack)

pub add_group-requires-clause-values : goal.add_group-requires-clause-values
add_group-requires-clause-values g c =
    let two : 2 ≤ c.args.to - c.pairs.at = search rules in
    omega (arith, two, c.requires.places, ap length c.pairs.invariant.read.stack)

pub add_group-requires-clause-inside : goal.add_group-requires-clause-inside
add_group-requires-clause-inside g c =
    all_same c.args.self.now.values.store.stack c.pairs.self.values.store.stack c.pairs.groups.items.items c.pairs.invariant.read.stack c.pairs.invariant.read.inside

pub returns-in_err-add_group-clause-answer : goal.returns-in_err-add_group-clause-answer
returns-in_err-add_group-clause-answer g c here w told =
    let stack = c.args.self.now.values.store.stack in
    let two : 2 ≤ c.args.to - c.pairs.at = search rules in
    c.pairs.invariant.read.goes here w told _ _
    (λ v e. runs_as (pair_words c.args.empty (groups_at stack c.pairs.groups.items.items) stack c.pairs.self.values.store.stack c.pairs.at c.args.to (state_of c.pairs.self v) c.pairs.invariant.read.stack two c.requires.places)
    (then_stop _ (search rules) (c.in_err-add_group.ensures.answer here v e)))

pub pairs-preserved : goal.pairs-preserved
pairs-preserved g c =
    let two : 2 ≤ c.args.to - c.pairs.at = search rules in
    let stack = c.args.self.now.values.store.stack in
    let was = c.pairs.groups.items.items in
    let now = c.add_group.new.groups.items.items in
    let kept = c.in_ok-add_group.ensures.stack ∙ c.pairs.invariant.read.stack in
    record {
      after = omega (arith, c.pairs.invariant.after);
      before = omega (arith, two);
      read = record {
        stack = kept;
        same = same_then c.args.self.now c.pairs.self c.add_group.new.self c.pairs.invariant.read.same c.in_ok-add_group.ensures.same;
        inside = let P : List Text → Type 0 = λ s. All (GroupInside s) now in subst P c.pairs.invariant.read.stack c.in_ok-add_group.ensures.inside;
        goes = λ here w told r after k. c.pairs.invariant.read.goes here w told r after
            (λ v e. runs_as (pair_words c.args.empty (groups_at stack was) stack c.pairs.self.values.store.stack c.pairs.at c.args.to (state_of c.pairs.self v) c.pairs.invariant.read.stack two c.requires.places)
            (bind_ok _ (c.in_ok-add_group.ensures.answer here v e)
            (λ x v2 e2 shown.
            let more : groups_at stack now ≡ groups_at stack was ++ x ∷ [] = ap (λ s. groups_at s now) (sym kept) ∙ shown ∙ ap (λ s. groups_at s was ++ x ∷ []) kept in
            runs_as (ap (λ gs. groups_of c.args.empty gs (take (c.args.to - (c.pairs.at + 2)) (drop (c.pairs.at + 2) stack)) (state_of c.add_group.new.self v2)) more) (k v2 e2))));
      };
    }

pub returns-clause-answer : goal.returns-clause-answer
returns-clause-answer g c here w told =
    let stack = c.args.self.now.values.store.stack in
    let was = c.pairs.groups.items.items in
    c.pairs.invariant.read.goes here w told _ _
    (λ v e. runs_as (pair_end c.args.empty (groups_at stack was) stack c.pairs.at c.args.to (state_of c.pairs.self v) (λ two. search (rules, two))) (done_runs e refl (ap (λ s. groups_at s was) (sym c.pairs.invariant.read.stack))))

pub returns-clause-inside : goal.returns-clause-inside
returns-clause-inside g c = all_same c.args.self.now.values.store.stack c.pairs.self.values.store.stack c.pairs.groups.items.items c.pairs.invariant.read.stack c.pairs.invariant.read.inside
