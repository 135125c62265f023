use Rattle.std.proofs.Common.{rules, ◌<◌, length, ap, arith}
use Rattle.tclv_value.specs.declared.places.At.TheVariants.{Stack}
use Rattle.tclv_reply.proofs.Laws.{leaves_out_of_memory, grows_kept, keeps_trans}
use Rattle.tclv_strings.proofs.changing.push_filled.Goals as goal

pub returns-in_err-make_word-2 : goal.returns-in_err-make_word-2
returns-in_err-make_word-2 c =
    let old = c.args.store.now in
    let mid = c.make_word.new.store in
    let new = c.make_word-2.new.store in
    leaves_out_of_memory _ old new c.from_residual-in_err-make_word-2.result (search rules) (grows_kept old new (keeps_trans old mid new c.make_word.ensures.kept c.make_word-2.ensures.kept))

pub filled_word-requires-clause-made : goal.filled_word-requires-clause-made
filled_word-requires-clause-made c =
    let there : c.args.at < length c.make_word.new.store.stack = omega (arith, ap length c.make_word.ensures.kept.stack, c.requires.at) in
    c.make_word-2.ensures.kept.stays (Stack c.args.at) there c.in_ok-make_word.ensures.made

pub returns-in_err-text : goal.returns-in_err-text
returns-in_err-text c =
    let old = c.args.store.now in
    let mid = c.make_word.new.store in
    let new = c.make_word-2.new.store in
    leaves_out_of_memory _ old new c.from_residual-in_err-text.result (search rules) (grows_kept old new (keeps_trans old mid new c.make_word.ensures.kept c.make_word-2.ensures.kept))

pub returns-in_err-push_bytes : goal.returns-in_err-push_bytes
returns-in_err-push_bytes c =
    let old = c.args.store.now in
    let one = c.make_word.new.store in
    let two = c.make_word-2.new.store in
    let new = c.push_bytes.new.store in
    leaves_out_of_memory _ old new c.from_residual-in_err-push_bytes.result (search rules)
    (grows_kept old new (keeps_trans old two new (keeps_trans old one two c.make_word.ensures.kept c.make_word-2.ensures.kept) c.in_err-push_bytes.ensures.kept))
