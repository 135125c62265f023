use Rattle.tclv_reply.proofs.Laws.{grows_pushed, grows_trans}
use Rattle.tclv_lists.proofs.setting.push_path.Goals as goal

pub returns-clause-grows : goal.returns-clause-grows
returns-clause-grows c =
    let a = c.args.store.now in
    let b = c.push_word.new.store in
    let d = c.push_words.new.store in
    let e = c.push_word-2.new.store in
    grows_trans a d e (grows_trans a b d (grows_pushed a b _ c.in_ok-push_word.ensures.pushed) c.in_ok-push_words.ensures.grows) (grows_pushed d e _ c.in_ok-push_word-2.ensures.pushed)
