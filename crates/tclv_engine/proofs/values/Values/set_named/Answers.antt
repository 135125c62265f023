use Rattle.std.proofs.Common.{[], ap, subst, ◌∙◌}
use Rattle.std.specs.Prelude.{slice_index_or, IfErr}
use Rattle.std.specs.Str.{chars}
use Rattle.tclv_engine.proofs.SettingLemmas.{sets_named, on-ok, pushed-name}
use Rattle.tclv_vars.specs.Table.{Refuses}
use Rattle.tclv_reply.specs.Names.{naming}
use Rattle.tclv_engine.specs.Names.{bytes_of, write_named}
use Rattle.tclv_engine.proofs.values.Values.set_named.Goals as goal

pub returns-clause-set : goal.returns-clause-set
returns-clause-set c =
    on-ok c.set_at-done.result
    (λ h. sets_named c.args.self.now c.push_text.new.self c.set_at-done.new.self c.pop.new.self c.args.name.now (slice_index_or c.push_text.new.self.store.stack c.height-height.result []) (chars c.args.value.now) c.in_ok-push_text.ensures.same h
    (pushed-name c.args.self.now.store.stack c.push_text.new.self.store.stack c.args.name.now c.height-height.result c.requires.name c.height-height.ensures c.in_ok-push_text.ensures.pushed) c.pop.ensures.same)
    c.set_at-done.ensures.set

pub returns-clause-refused : goal.returns-clause-refused
returns-clause-refused c =
    subst (λ m. IfErr c.set_at-done.result (Refuses m))
    (ap (λ v. write_named v (naming (bytes_of (slice_index_or c.push_text.new.self.store.stack c.height-height.result [])))) c.in_ok-push_text.ensures.same.vars
    ∙ ap (λ b. write_named c.args.self.now.vars (naming b))
    (pushed-name c.args.self.now.store.stack c.push_text.new.self.store.stack c.args.name.now c.height-height.result c.requires.name c.height-height.ensures c.in_ok-push_text.ensures.pushed))
    c.set_at-done.ensures.refused
