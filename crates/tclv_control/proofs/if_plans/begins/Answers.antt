use Rattle.std.proofs.Common.{rules, ◌∙◌, ap, ◌<◌, length}
use Rattle.std.specs.Str.{bytes_eq}
use Rattle.tclv_value.specs.declared.places.At.TheVariants.{Stack}
use Rattle.tclv_engine.specs.Names.{bytes_of}
use Rattle.tclv_engine.proofs.NameLemmas.{bytes-are}
use Rattle.tclv_engine.proofs.WordLemmas.{text_kept}
use Rattle.tclv_control.proofs.IfLemmas.{begins_some}
use Rattle.tclv_control.proofs.if_plans.begins.Goals as goal

pub returns-clause-begins : goal.returns-clause-begins
returns-clause-begins g c =
    let store = c.args.machine.now.values.store in
    let here-at : c.args.at < length store.stack = search (rules, c.if-at-height.false, c.height.ensures) in
    c.eq.ensures ∙ ap (λ b. bytes_eq b c.args.word.now) (bytes-are _ _ c.lend.ensures.utf8 c.lend.ensures.text)
    ∙ ap (λ t. bytes_eq (bytes_of t) c.args.word.now) (text_kept store c.make_text.new.self.store (Stack c.args.at) c.in_ok-make_text.ensures.stack c.in_ok-make_text.ensures.same.cells)
    ∙ begins_some c.args.word.now store.stack c.args.at here-at
