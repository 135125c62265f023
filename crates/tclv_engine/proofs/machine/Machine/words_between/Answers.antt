use Rattle.std.proofs.Common.{ap, sym, ◌∙◌}
use Rattle.tclv_engine.specs.State.{state_of}
use Rattle.tclv_engine.specs.Operations.{truth_number, word_holds, order, words_between, second_of}
use Rattle.tclv_engine.specs.Answers.{last_of}
use Rattle.tclv_engine.proofs.Binds.{runs_as}
use Rattle.tclv_engine.proofs.machine.Machine.words_between.Goals as goal

pub returns-in-Among-clause-answer : goal.returns-in-Among-clause-answer
returns-in-Among-clause-answer g c here w told =
    let stack = c.args.self.now.values.store.stack in
    runs_as (ap (λ op. words_between op (second_of stack) (last_of stack) (state_of c.args.self.now w)) (sym c.in-Among.is)) (c.membership.ensures.answer here w told)

pub returns-in-NotAmong-clause-answer : goal.returns-in-NotAmong-clause-answer
returns-in-NotAmong-clause-answer g c here w told =
    let stack = c.args.self.now.values.store.stack in
    runs_as (ap (λ op. words_between op (second_of stack) (last_of stack) (state_of c.args.self.now w)) (sym c.in-NotAmong.is)) (c.membership-in-NotAmong.ensures.answer here w told)

pub returns-in-Eq-clause-answer : goal.returns-in-Eq-clause-answer
returns-in-Eq-clause-answer g c here w told =
    let stack = c.args.self.now.values.store.stack in
    let st = state_of c.args.self.now w in
    runs_as (ap (λ op. truth_number (word_holds op (order (second_of stack) (last_of stack))) st) c.in-Eq.is ∙ ap (λ op. words_between op (second_of stack) (last_of stack) st) (sym c.in-Eq.is)) (c.words_compared.ensures.answer here w told)

pub returns-in-Ne-clause-answer : goal.returns-in-Ne-clause-answer
returns-in-Ne-clause-answer g c here w told =
    let stack = c.args.self.now.values.store.stack in
    let st = state_of c.args.self.now w in
    runs_as (ap (λ op. truth_number (word_holds op (order (second_of stack) (last_of stack))) st) c.in-Ne.is ∙ ap (λ op. words_between op (second_of stack) (last_of stack) st) (sym c.in-Ne.is)) (c.words_compared-in-Ne.ensures.answer here w told)

pub returns-in-Lt-clause-answer : goal.returns-in-Lt-clause-answer
returns-in-Lt-clause-answer g c here w told =
    let stack = c.args.self.now.values.store.stack in
    let st = state_of c.args.self.now w in
    runs_as (ap (λ op. truth_number (word_holds op (order (second_of stack) (last_of stack))) st) c.in-Lt.is ∙ ap (λ op. words_between op (second_of stack) (last_of stack) st) (sym c.in-Lt.is)) (c.words_compared-in-Lt.ensures.answer here w told)

pub returns-in-Gt-clause-answer : goal.returns-in-Gt-clause-answer
returns-in-Gt-clause-answer g c here w told =
    let stack = c.args.self.now.values.store.stack in
    let st = state_of c.args.self.now w in
    runs_as (ap (λ op. truth_number (word_holds op (order (second_of stack) (last_of stack))) st) c.in-Gt.is ∙ ap (λ op. words_between op (second_of stack) (last_of stack) st) (sym c.in-Gt.is)) (c.words_compared-in-Gt.ensures.answer here w told)

pub returns-in-Le-clause-answer : goal.returns-in-Le-clause-answer
returns-in-Le-clause-answer g c here w told =
    let stack = c.args.self.now.values.store.stack in
    let st = state_of c.args.self.now w in
    runs_as (ap (λ op. truth_number (word_holds op (order (second_of stack) (last_of stack))) st) c.in-Le.is ∙ ap (λ op. words_between op (second_of stack) (last_of stack) st) (sym c.in-Le.is)) (c.words_compared-in-Le.ensures.answer here w told)

pub returns-in-Ge-clause-answer : goal.returns-in-Ge-clause-answer
returns-in-Ge-clause-answer g c here w told =
    let stack = c.args.self.now.values.store.stack in
    let st = state_of c.args.self.now w in
    runs_as (ap (λ op. truth_number (word_holds op (order (second_of stack) (last_of stack))) st) c.in-Ge.is ∙ ap (λ op. words_between op (second_of stack) (last_of stack) st) (sym c.in-Ge.is)) (c.words_compared-in-Ge.ensures.answer here w told)
