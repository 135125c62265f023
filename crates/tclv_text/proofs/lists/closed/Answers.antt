use Rattle.std.proofs.Common.{◌≡◌, ◌+◌, ◌-◌, Ok, Err, drop, sym, ap, ◌∙◌, refl, arith}
use Rattle.std.proofs.lemmas.List.{take_rest}
use Rattle.tclv_text.specs.Lists.{is_end, TextAfterBrace, TextAfterQuote}
use Rattle.tclv_text.specs.Elements.{text_after}
use Rattle.tclv_text.specs.Spans.{piece_of}
use Rattle.tclv_text.proofs.ListLemmas.{marked_err, marked_ok, more_behind}
use Rattle.tclv_text.proofs.lists.closed.Goals as goal

pub returns-then-raw-2 : goal.returns-then-raw-2
returns-then-raw-2 c =
    let t = c.args.text.now in
    let next = c.args.to + 1 in
    let e = ap is_end (sym (take_rest t next)) ∙ sym c.is_end.ensures ∙ c.if-not-is_end.true in (
      TextAfterBrace (drop next t),
      (more_behind t next e, refl),
      marked_err t c.args.from c.args.to c.args.raw c.requires.order (omega arith) e ∙ ap (λ r. Err (text_after r (drop next t))) c.if-raw-2.true,
    )

pub returns-else-raw-2 : goal.returns-else-raw-2
returns-else-raw-2 c =
    let t = c.args.text.now in
    let next = c.args.to + 1 in
    let e = ap is_end (sym (take_rest t next)) ∙ sym c.is_end.ensures ∙ c.if-not-is_end.true in (
      TextAfterQuote (drop next t),
      (more_behind t next e, refl),
      marked_err t c.args.from c.args.to c.args.raw c.requires.order (omega arith) e ∙ ap (λ r. Err (text_after r (drop next t))) c.if-raw-2.false,
    )

pub returns : goal.returns
returns c =
    let t = c.args.text.now in
    let next = c.args.to + 1 in
    let e = ap is_end (sym (take_rest t next)) ∙ sym c.is_end.ensures ∙ c.if-not-is_end.false in
    let count : c.args.to - c.args.from + 1 ≡ next - (c.args.from - 1 + 1) = omega arith in (
      record { begins = omega arith; order = c.requires.order; ends = omega arith; onward = omega arith; within = omega arith },
      marked_ok t c.args.from c.args.to c.args.raw c.requires.order (omega arith) e
          ∙ ap (λ n. Ok (piece_of t (record { from = c.args.from; to = c.args.to; raw = c.args.raw }), n)) count,
    )
