use Rattle.std.proofs.Common.{◌≡◌, ◌≤◌, ◌-◌, length, take, drop, ap, ◌∙◌, sym, subst, arith}
use Rattle.std.specs.Str.{chars}
use Rattle.tclv_text.specs.Texts.{IsText}
use Rattle.tclv_text.proofs.CursorLemmas.{cut-before}
use Rattle.tclv_text.proofs.cursors.Cursor.up_to.Goals as goal

pub returns-clause-text : goal.returns-clause-text
returns-clause-text c =
    let bs = c.self.inside.rest.now in
    let ds = c.later.inside.rest.now in
    let n = length c.args.self.now - length c.args.later.now in
    let e : chars ds ≡ drop n (chars bs) = c.later.view_is ∙ c.requires ∙ ap (drop n) (sym c.self.view_is) in
    let room : n ≤ length (chars bs) = omega (arith, ap length c.self.view_is) in
    ap (λ k. chars (take k bs)) c.saturating_sub-len.ensures
    ∙ (cut-before bs ds n c.self.invariant c.later.invariant room e).front_is
    ∙ ap (take n) c.self.view_is

pub returns-clause-utf8 : goal.returns-clause-utf8
returns-clause-utf8 c =
    let bs = c.self.inside.rest.now in
    let ds = c.later.inside.rest.now in
    let n = length c.args.self.now - length c.args.later.now in
    let e : chars ds ≡ drop n (chars bs) = c.later.view_is ∙ c.requires ∙ ap (drop n) (sym c.self.view_is) in
    let room : n ≤ length (chars bs) = omega (arith, ap length c.self.view_is) in
    subst (λ k. IsText (take k bs)) (sym c.saturating_sub-len.ensures) (cut-before bs ds n c.self.invariant c.later.invariant room e).front
