use Rattle.std.proofs.Common.{◌≡◌, get_or, ap, ap₂, ◌∙◌, sym, arith}
use Rattle.std.proofs.lemmas.List.{get_or_past}
use Rattle.tclv_text.specs.Cursors.{sign, sign_of}
use Rattle.tclv_text.proofs.CursorLemmas.{sign-bytes, sign-empty}
use Rattle.tclv_text.proofs.cursors.Cursor.peek.Goals as goal

pub returns-in-empty : goal.returns-in-empty
returns-in-empty c = sym (sign-empty c.self.inside.rest.now (omega arith)) ∙ ap sign c.self.view_is

pub returns-in-len1 : goal.returns-in-len1
returns-in-len1 c =
    let t = c.self.inside.rest.now in
    let next : get_or t 1 0 ≡ 0 = get_or_past t 1 0 (omega arith) in
    let third : get_or t 2 0 ≡ 0 = get_or_past t 2 0 (omega arith) in
    c.sign_of.ensures ∙ sym (ap₂ (sign_of (get_or t 0 0)) next third) ∙ sym (sign-bytes t c.self.invariant (omega arith)) ∙ ap sign c.self.view_is

pub returns-in-len2 : goal.returns-in-len2
returns-in-len2 c =
    let t = c.self.inside.rest.now in
    let third : get_or t 2 0 ≡ 0 = get_or_past t 2 0 (omega arith) in
    c.sign_of-in-len2.ensures ∙ sym (ap (sign_of (get_or t 0 0) (get_or t 1 0)) third) ∙ sym (sign-bytes t c.self.invariant (omega arith)) ∙ ap sign c.self.view_is

pub returns-in-len3-up : goal.returns-in-len3-up
returns-in-len3-up c =
    let t = c.self.inside.rest.now in
    c.sign_of-in-len3-up.ensures ∙ sym (sign-bytes t c.self.invariant (omega arith)) ∙ ap sign c.self.view_is
