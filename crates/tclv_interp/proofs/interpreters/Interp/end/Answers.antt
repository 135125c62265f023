use Rattle.std.proofs.Common.{rules, ◌≡◌, Err, sym, subst}
use Rattle.tclv_interp.proofs.interpreters.Interp.end.Goals as goal
use Rattle.tclv_interp.specs.Interpreters.{Shows, result_of, options_at}
use Rattle.tclv_interp.proofs.InterpreterLemmas.{shows-ok, shows-left, if_ok-as}
use Rattle.tclv_engine.specs.declared.endings.End.TheVariants as end

pub returns-in-Ok-clause-shows : goal.returns-in-Ok-clause-shows
returns-in-Ok-clause-shows c =
    subst (λ e. Shows e c.args.self.now.machine.values.store.stack c.keep.result (result_of c.keep.new.self) (options_at c.keep.new.self)) (sym c.in-Ok.is)
    (shows-ok c.args.self.now.machine.values.store.stack c.keep.result (result_of c.keep.new.self) c.in-Ok.kept (options_at c.keep.new.self) c.carried_options-options.result c.keep.ensures.code c.keep.ensures.result c.keep.ensures.kept c.keep.ensures.memory c.carried_options-options.ensures)

pub returns-in-Err-Left-clause-shows : goal.returns-in-Err-Left-clause-shows
returns-in-Err-Left-clause-shows c =
    let ended : c.args.ended ≡ Err (end.Left c.in-Err-Left.leaving) = search rules in
    subst (λ e. Shows e c.args.self.now.machine.values.store.stack c.keep-in-Err-Left.result (result_of c.keep-in-Err-Left.new.self) (options_at c.keep-in-Err-Left.new.self)) (sym ended)
    (shows-left c.args.self.now.machine.values.store.stack c.keep-in-Err-Left.result (result_of c.keep-in-Err-Left.new.self) c.in-Err-Left.leaving (options_at c.keep-in-Err-Left.new.self) c.options_of-options.result
    (if_ok-as c.keep-in-Err-Left.result _ _ c.keep-in-Err-Left.ensures.code c.code_of-code.ensures) c.keep-in-Err-Left.ensures.result c.keep-in-Err-Left.ensures.kept c.keep-in-Err-Left.ensures.memory c.options_of-options.ensures)
