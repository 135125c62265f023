use Rattle.std.proofs.Common.{rules, ◌<◌, length, ap, arith}
use Rattle.tclv_value.specs.declared.places.At.TheVariants.{Stack}
use Rattle.tclv_reply.proofs.Laws.{leaves_out_of_memory, grows_kept, keeps_trans}
use Rattle.tclv_strings.proofs.finding.push_last.Goals as goal

pub returns-in_err-make_word-2 : goal.returns-in_err-make_word-2
returns-in_err-make_word-2 c =
    let old = c.args.store.now in
    let mid = c.make_word.new.store in
    let new = c.make_word-2.new.store in
    leaves_out_of_memory _ old new c.from_residual-in_err-make_word-2.result (search rules) (grows_kept old new (keeps_trans old mid new c.make_word.ensures.kept c.make_word-2.ensures.kept))

pub last_made-found-requires-clause-needle_made : goal.last_made-found-requires-clause-needle_made
last_made-found-requires-clause-needle_made c =
    let there : c.args.needle < length c.make_word.new.store.stack = omega (arith, ap length c.make_word.ensures.kept.stack, c.requires.needle) in
    c.make_word-2.ensures.kept.stays (Stack c.args.needle) there c.in_ok-make_word.ensures.made

pub returns-in_err-push_place : goal.returns-in_err-push_place
returns-in_err-push_place c =
    let old = c.args.store.now in
    let one = c.make_word.new.store in
    let two = c.make_word-2.new.store in
    let new = c.push_place.new.store in
    leaves_out_of_memory _ old new c.from_residual-in_err-push_place.result (search rules)
    (grows_kept old new (keeps_trans old two new (keeps_trans old one two c.make_word.ensures.kept c.make_word-2.ensures.kept) c.in_err-push_place.ensures.kept))
