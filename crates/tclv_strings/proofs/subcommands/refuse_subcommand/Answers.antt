use Rattle.std.proofs.Common.{◌≤◌, ◌-◌, Err, List, ℕ, [], arith, codes, get_or, length, ap, sym}
use Rattle.tclv_model.specs.Rows.{says}
use Rattle.tclv_model.specs.Message.{text_of}
use Rattle.tclv_model.specs.declared.messages.MessageId.TheVariants.{UnknownSubcommand}
use Rattle.tclv_reply.proofs.Laws.{answered, leaves_refusal, told_refused}
use Rattle.tclv_strings.proofs.subcommands.refuse_subcommand.Goals as goal

pub returns : goal.returns
returns c =
    let old = c.args.store.now in
    let mid = c.refuse_on-kind.new.store in
    let n = c.args.n in
    let kind = c.refuse_on-kind.result in
    let h = c.height-height.ensures in
    let le : n ≤ c.height-height.result = omega arith in
    let sub = get_or old.stack (length old.stack - n) [] in
    let row = says {A = List ℕ} UnknownSubcommand sub [] in
    let told = told_refused row (text_of UnknownSubcommand (get_or old.stack (c.height-height.result - n) []) []) (codes "NONE") kind old.stack mid.stack (ap (λ (k : ℕ). says {A = List ℕ} UnknownSubcommand (get_or old.stack (k - n) []) []) (sym h)) c.refuse_on-kind.ensures.tells in
    answered row n old mid c.settle.new.store c.height-height.result (Err kind) c.settle.result h le
    (leaves_refusal row old mid kind c.refuse_on-kind.ensures.grows told) c.settle.ensures.settles c.settle.ensures.same
