use Rattle.std.proofs.Common.{◌≡◌, ◌∙◌, ◌++◌, ap, subst, w64}
use Rattle.std.proofs.lemmas.Int.{to_z-of_z}
use borrow.Author.Rules.{sfits_of}
use Rattle.std.specs.Fmt.{signed_decimal}
use Rattle.std.specs.Str.{IsAscii}
use Rattle.tclv_text.specs.Numbers.{whole_text}
use Rattle.tclv_text.proofs.AsciiLemmas.{appends_ascii, appends_ascii_text}
use Rattle.tclv_text.proofs.numbers.whole_text.Goals as goal

-- what the buffer holds is the number's text
written : (c : goal.In_ok-extend_from_slice) → c.format.result.now ≡ whole_text c.args.n
written c = c.format.ensures.text ∙ ap signed_decimal (to_z-of_z w64 c.args.n (sfits_of c.ranges.n.sfits))

added : (c : goal.In_ok-extend_from_slice) → c.extend_from_slice.new.self.items ≡ c.args.out.now.items ++ whole_text c.args.n
added c = c.in_ok-extend_from_slice.ensures.items ∙ ap (λ x. c.args.out.now.items ++ x) (c.as_bytes.ensures.value ∙ written c)

ascii : (c : goal.In_ok-extend_from_slice) → IsAscii (whole_text c.args.n)
ascii c = subst IsAscii (written c) c.format.ensures.ascii

pub returns-clause-ok : goal.returns-clause-ok
returns-clause-ok c = appends_ascii c.args.out.now.items c.extend_from_slice.new.self.items (whole_text c.args.n) (ascii c) (added c)

pub returns-clause-text : goal.returns-clause-text
returns-clause-text c = appends_ascii_text c.args.out.now.items c.extend_from_slice.new.self.items (whole_text c.args.n) (ascii c) (added c)
