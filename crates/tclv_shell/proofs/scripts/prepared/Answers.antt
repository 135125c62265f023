use Rattle.std.proofs.Common.{◌∙◌, ap, sym, pos}
use Rattle.std.specs.Str.{chars}
use Rattle.std.specs.Prelude.{string_bytes}
use Rattle.std.specs.declared.alloc.Global.{Global}
use Rattle.std.proofs.lemmas.List.{length-map}
use Rattle.tclv_text.specs.Numbers.{whole_text}
use Rattle.tclv_interp.specs.Interpreters.{state_over}
use Rattle.tclv_shell.specs.Lent.{lent}
use Rattle.tclv_shell.proofs.Starts.{started, set_in, is_argv0, is_argc, is_argv}
use Rattle.tclv_shell.proofs.scripts.prepared.Goals as goal

pub returns-clause-state : goal.returns-clause-state
returns-clause-state c = λ w.
    let list = c.bytes.ensures.text ∙ c.in_ok-list.ensures in
    let count = c.bytes-2.ensures.text ∙ c.in_ok-count.ensures ∙ ap (λ n. whole_text (pos n)) (sym (length-map c.args.call.args.now (string_bytes {Z = Global}))) in
    let named = set_in _ _ _ _ _ _ (state_over c.set_global.new.self w) (c.in_ok-set_global.ensures.state w) is_argv0 (ap chars c.as_bytes.ensures.value) (c.in_ok-interp.ensures.state w) in
    let listed = set_in _ _ _ _ _ _ (state_over c.set_global-2.new.self w) (c.in_ok-set_global-2.ensures.state w) is_argv list named in
    let counted = set_in _ _ _ _ _ _ (state_over c.set_global-3.new.self w) (c.in_ok-set_global-3.ensures.state w) is_argc count listed in
    started (lent c.args.call) w (state_over c.push_script.new.self w) (c.in_ok-at.ensures.state w ∙ counted)
