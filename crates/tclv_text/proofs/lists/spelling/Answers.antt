use Rattle.std.proofs.Common.{◌≡◌, ◌+◌, ◌-◌, ◌≤◌, false, Ok, drop, take, ap, ◌∙◌, arith, length}
use Rattle.std.proofs.lemmas.List.{take_rest, length-drop}
use Rattle.tclv_text.specs.Scans.{scan_len}
use Rattle.tclv_text.specs.Elements.{bare_step}
use Rattle.tclv_text.specs.declared.lists.Bare.TheVariants.{Plain}
use Rattle.tclv_text.proofs.ListLemmas.{spelling_at_bare}
use Rattle.tclv_text.proofs.lists.spelling.Goals as goal

pub returns : goal.returns
returns c =
    let t = c.args.text.now in
    let at = c.args.at in
    let n = c.bare_len.result in
    let e : n ≡ scan_len bare_step Plain (drop at t) = c.bare_len.ensures.len ∙ ap (scan_len bare_step Plain) (take_rest t at) in
    let b = spelling_at_bare t at n c.requires.within c.if-first-eq123.false c.if-first-eq34.false c.requires.begins e in
    let some = b.0 in
    let short = simp (take_rest, length-drop) at c.bare_len.ensures.within in
    let upper : at + n ≤ length t = omega arith in
    let len : n ≡ at + n - at = omega arith in
    let count : n - 1 ≡ at + n - (at + 1) = omega arith in (
      record { begins = omega arith; order = omega arith; ends = omega arith; onward = omega arith; within = upper },
      b.1
          ∙ ap (λ k. Ok (record { raw = false; units = take k (drop at t) }, n - 1)) len
          ∙ ap (λ k. Ok (record { raw = false; units = take (at + n - at) (drop at t) }, k)) count,
    )
