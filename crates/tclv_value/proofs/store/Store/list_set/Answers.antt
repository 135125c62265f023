use Rattle.std.proofs.Common.{◌+◌, ◌-◌, length, subst}
use Rattle.tclv_value.specs.declared.places.At.TheVariants.{Stack}
use Rattle.std.specs.Prelude.{IfErr}
use Rattle.tclv_value.specs.Paths.{set_path, RefusesPath}
use Rattle.tclv_value.specs.SetObjects.{IsOpenAt, SetsInPlace, SetsInCopy, MakesListAt, SetsWithoutWork, CopiesElements, NeedsNoMemory, SetsAlong}
use Rattle.tclv_value.specs.View.{text_at}
use Rattle.tclv_value.proofs.AnswerLemmas.{on_ok}
use Rattle.tclv_value.proofs.OpenPlaceLemmas.{one_along}
use Rattle.tclv_value.proofs.WayPlaceLemmas.{under_high}
use Rattle.tclv_value.proofs.SetOneLemmas.{on_ok_any, err_any, if_err, one_listed, as_path}
use Rattle.tclv_value.proofs.store.Store.list_set.Goals as goal

pub returns-then-path-eq1-clause-set : goal.returns-then-path-eq1-clause-set
returns-then-path-eq1-clause-set c = on_ok c.set_one.result (λ known. as_path c.args.self.now c.set_one.new.self c.args.at c.args.path _ c.if-path-eq1.true c.requires.place known) c.set_one.ensures.set

pub returns-then-path-eq1-clause-refused : goal.returns-then-path-eq1-clause-refused
returns-then-path-eq1-clause-refused c = subst (λ ps. IfErr c.set_one.result (λ why. RefusesPath why (set_path 0 (text_at c.args.self.now c.args.at) ps (text_at c.args.self.now (Stack (length c.args.self.now.stack - 1)))))) (one_listed c.args.self.now c.args.at c.args.path c.if-path-eq1.true c.requires.place) c.set_one.ensures.refused

pub returns-then-path-eq1-clause-same : goal.returns-then-path-eq1-clause-same
unfolding SetsInPlace
returns-then-path-eq1-clause-same c = on_ok c.set_one.result (λ same is. same) c.set_one.ensures.same

pub returns-then-path-eq1-clause-fresh : goal.returns-then-path-eq1-clause-fresh
unfolding SetsInCopy
returns-then-path-eq1-clause-fresh c = on_ok c.set_one.result (λ fresh is. fresh) c.set_one.ensures.fresh

pub returns-then-path-eq1-clause-listed : goal.returns-then-path-eq1-clause-listed
unfolding MakesListAt
returns-then-path-eq1-clause-listed c = on_ok c.set_one.result (λ listed is. listed) c.set_one.ensures.listed

pub returns-then-path-eq1-clause-counters : goal.returns-then-path-eq1-clause-counters
unfolding SetsWithoutWork
returns-then-path-eq1-clause-counters c = on_ok c.set_one.result (λ same ready alone. same alone.0 alone.1 ready.1 ready.2) c.set_one.ensures.counters

pub returns-then-path-eq1-clause-memory : goal.returns-then-path-eq1-clause-memory
unfolding NeedsNoMemory
returns-then-path-eq1-clause-memory c = if_err c.set_one.result _ _ (λ why none ready alone names. none alone.0 alone.1 ready.1 ready.2 names) c.set_one.ensures.memory

pub returns-clause-same : goal.returns-clause-same
unfolding SetsInPlace
returns-clause-same c = on_ok_any c.set_deep.result (SetsInPlace c.args.self.now c.args.at c.args.path c.set_deep.new.self) (λ is. absurd (c.if-path-eq1.false is))

pub returns-clause-fresh : goal.returns-clause-fresh
unfolding SetsInCopy
returns-clause-fresh c = on_ok_any c.set_deep.result (SetsInCopy c.args.self.now c.args.at c.args.path c.set_deep.new.self) (λ is. absurd (c.if-path-eq1.false is))

pub returns-clause-listed : goal.returns-clause-listed
unfolding MakesListAt
returns-clause-listed c = on_ok_any c.set_deep.result (MakesListAt c.args.path c.args.at c.set_deep.new.self) (λ is. absurd (c.if-path-eq1.false is))

pub returns-clause-counters : goal.returns-clause-counters
unfolding SetsWithoutWork
returns-clause-counters c = on_ok_any c.set_deep.result (SetsWithoutWork c.args.self.now c.args.at c.args.path c.set_deep.new.self) (λ ready. absurd (c.if-path-eq1.false ready.0))

pub returns-clause-memory : goal.returns-clause-memory
unfolding NeedsNoMemory
returns-clause-memory c = err_any c.set_deep.result (λ why. NeedsNoMemory c.args.self.now c.args.at c.args.path why) (λ why ready. absurd (c.if-path-eq1.false ready.0))

pub returns-then-path-eq1-clause-copies : goal.returns-then-path-eq1-clause-copies
unfolding CopiesElements
returns-then-path-eq1-clause-copies c = on_ok c.set_one.result (λ counted ready list shared. counted list shared ready.1 ready.2) c.set_one.ensures.copies

pub returns-clause-copies : goal.returns-clause-copies
unfolding CopiesElements
returns-clause-copies c = on_ok_any c.set_deep.result (CopiesElements c.args.self.now c.args.at c.args.path c.set_deep.new.self) (λ ready. absurd (c.if-path-eq1.false ready.0))

pub returns-then-path-eq1-clause-along : goal.returns-then-path-eq1-clause-along
returns-then-path-eq1-clause-along c = one_along c.args.self.now c.set_one.new.self c.args.at c.args.path c.set_one.result c.if-path-eq1.true (under_high c.args.self.now (c.args.path + 1) c.args.at c.requires.place) c.set_one.ensures.same c.set_one.ensures.listed c.set_one.ensures.counters

pub returns-then-path-eq1-clause-opens : goal.returns-then-path-eq1-clause-opens
returns-then-path-eq1-clause-opens c = if_err c.set_one.result _ _ (λ why refuses opens. refuses (subst (IsOpenAt c.args.self.now c.args.at) c.if-path-eq1.true opens)) c.set_one.ensures.opens
