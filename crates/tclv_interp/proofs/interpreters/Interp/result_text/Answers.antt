use Rattle.std.proofs.Common.{ap, sym, ◌∙◌, [], cond}
use Rattle.std.specs.Prelude.{slice_index_or}
use Rattle.std.proofs.lemmas.Str.{chars-nil, IsUtf8-nil}
use Rattle.tclv_interp.proofs.interpreters.Interp.result_text.Goals as goal

pub returns-then-self : goal.returns-then-self
returns-then-self c = record {
  utf8 = record { utf8 = IsUtf8-nil };
  text = chars-nil ∙ sym (ap (λ b. cond b [] (slice_index_or c.args.self.now.machine.values.store.stack 0 [])) c.if-self.true);
}
