use Rattle.std.proofs.Common.{rules, arith, refl, ap, sym, ◌∙◌, ◌≡◌, ◌<◌, ◌≤◌, ◌+◌, [], length, drop, get_or, true, false}
use Rattle.std.specs.Prelude.{◌||◌}
use Rattle.std.specs.Ordering.{is_eq}
use Rattle.std.proofs.lemmas.List.{get_or_default}
use Rattle.tclv_value.specs.View.{text_at}
use Rattle.tclv_engine.specs.State.{Text}
use Rattle.tclv_engine.specs.Operations.{order, is_among}
use Rattle.tclv_engine.specs.ListAssignment.{listed}
use Rattle.tclv_engine.proofs.HoldingsLemmas.{same_text, same_place}
use Rattle.tclv_engine.proofs.WordLemmas.{same_then}
use Rattle.tclv_engine.proofs.OperationLemmas.{among-step, among-end}
use Rattle.tclv_engine.proofs.ListLemmas.{list_stays}
use Rattle.tclv_engine.proofs.machine.Machine.is_element.Goals as goal
use Rattle.tclv_engine.proofs.machine.Machine.is_element.Goals.{In_ok-equal}
use Rattle.tclv_engine.proofs.machine.Machine.is_element.Given.{Over}

pub loop-k-init : goal.loop-k-init
loop-k-init g c = record {
  found = refl;
  stack = refl;
  stays = λ place there made. made;
  same = record { variables = record { vars = refl; cells = refl }; own = refl; units = refl; depth = refl; events = refl };
}

pub is_element_at-requires-clause-text : goal.is_element_at-requires-clause-text
is_element_at-requires-clause-text g c = same_place c.args.self.now.values.store c.loop-k.self.values.store c.args.text c.loop-k.invariant.stack c.loop-k.invariant.same.variables.cells c.requires.text

pub is_element_at-requires-clause-made : goal.is_element_at-requires-clause-made
is_element_at-requires-clause-made g c = c.loop-k.invariant.stays c.args.text c.requires.text c.requires.made

pub is_element_at-requires-clause-place : goal.is_element_at-requires-clause-place
is_element_at-requires-clause-place g c = same_place c.args.self.now.values.store c.loop-k.self.values.store c.args.list c.loop-k.invariant.stack c.loop-k.invariant.same.variables.cells c.requires.place

pub is_element_at-requires-clause-list : goal.is_element_at-requires-clause-list
is_element_at-requires-clause-list g c =
    list_stays (text_at c.args.self.now.values.store c.args.list) _ (same_text c.args.self.now.values.store c.loop-k.self.values.store c.args.list c.loop-k.invariant.stack c.loop-k.invariant.same.variables.cells) c.requires.list

pub is_element_at-requires-clause-within : goal.is_element_at-requires-clause-within
is_element_at-requires-clause-within g c =
    let inside : c.loop-k.k < c.args.len = search rules in
    let e = ap (λ t. length (listed t)) (same_text c.args.self.now.values.store c.loop-k.self.values.store c.args.list c.loop-k.invariant.stack c.loop-k.invariant.same.variables.cells) in
    omega (arith, inside, e, c.requires.len)

-- the step: whether the element is the text, or one behind it is
step : (g : Over) (c : In_ok-equal g) → is_among (text_at c.args.self.now.values.store c.args.text) (drop c.loop-k.k (listed (text_at c.args.self.now.values.store c.args.list))) ≡ (c.in_ok-equal.equal || is_among (text_at c.args.self.now.values.store c.args.text) (drop (c.loop-k.k + 1) (listed (text_at c.args.self.now.values.store c.args.list))))
step g c =
    let old = c.args.self.now.values.store in
    let cur = c.loop-k.self.values.store in
    let x = text_at old c.args.text in
    let ts = listed (text_at old c.args.list) in
    let inside : c.loop-k.k < c.args.len = search rules in
    let within : c.loop-k.k < length ts = omega (arith, inside, c.requires.len) in
    let e = get_or ts c.loop-k.k [] in
    let left = same_text old cur c.args.text c.loop-k.invariant.stack c.loop-k.invariant.same.variables.cells in
    let right = same_text old cur c.args.list c.loop-k.invariant.stack c.loop-k.invariant.same.variables.cells in
    let is : c.in_ok-equal.equal ≡ is_eq (order x e) = c.in_ok-equal.ensures.equal ∙ ap (λ t. is_eq (order t (get_or (listed (text_at cur c.args.list)) c.loop-k.k []))) left ∙ ap (λ t. is_eq (order x (get_or (listed t) c.loop-k.k []))) right in
    among-step x ts c.loop-k.k e within (get_or_default ts c.loop-k.k e [] within) ∙ ap (λ b. b || is_among x (drop (c.loop-k.k + 1) ts)) (sym is)

pub returns-then-equal-clause-found : goal.returns-then-equal-clause-found
returns-then-equal-clause-found g c =
    let k = (goal.at.returns-then-equal-clause-found g c).In_ok-equal in
    sym (c.loop-k.invariant.found ∙ step g k ∙ ap (λ b. b || is_among (text_at c.args.self.now.values.store c.args.text) (drop (c.loop-k.k + 1) (listed (text_at c.args.self.now.values.store c.args.list)))) c.if-equal.true)

pub loop-k-preserved : goal.loop-k-preserved
loop-k-preserved g c =
    let k = (goal.at.loop-k-preserved g c).In_ok-equal in
    record {
      found = c.loop-k.invariant.found ∙ step g k ∙ ap (λ b. b || is_among (text_at c.args.self.now.values.store c.args.text) (drop (c.loop-k.k + 1) (listed (text_at c.args.self.now.values.store c.args.list)))) c.if-equal.false;
      stack = c.is_element_at.ensures.stack ∙ c.loop-k.invariant.stack;
      stays = λ place there made. c.is_element_at.ensures.stays place (same_place c.args.self.now.values.store c.loop-k.self.values.store place c.loop-k.invariant.stack c.loop-k.invariant.same.variables.cells there) (c.loop-k.invariant.stays place there made);
      same = same_then c.args.self.now c.loop-k.self c.is_element_at.new.self c.loop-k.invariant.same c.is_element_at.ensures.same;
    }

pub returns-clause-found : goal.returns-clause-found
returns-clause-found g c =
    let ended : c.args.len ≤ c.loop-k.k = search rules in
    sym (c.loop-k.invariant.found ∙ among-end (text_at c.args.self.now.values.store c.args.text) (listed (text_at c.args.self.now.values.store c.args.list)) c.loop-k.k (omega (arith, ended, c.requires.len)))
