use Rattle.std.proofs.Common.{◌≡◌, take, drop, ap, sym, ◌∙◌, refl}
use Rattle.tclv_parse.specs.declared.modes.Mode.TheVariants as m
use Rattle.tclv_parse.proofs.RunLaws.{later, drop-three}
use Rattle.tclv_parse.proofs.tokens.Place.expansion.Goals as goal

pub returns-clause-taken : goal.returns-clause-taken
returns-clause-taken c =
    let p = c.args.self.now in
    let q = c.skip-3.new.self in
    let three : q ≡ drop 3 p.cursor = c.skip-3.ensures ∙ ap (drop 1) (c.skip-2.ensures ∙ ap (drop 1) c.skip.ensures) ∙ drop-three p.cursor in
    let shown = later c.here-start.result q 3 (three ∙ ap (drop 3) (sym c.here-start.ensures)) in
    record {
      kind_is = refl;
      text = c.up_to.ensures.text ∙ shown.front ∙ ap (take 3) c.here-start.ensures;
      utf8 = c.up_to.ensures.utf8;
      place = ap (λ t. record p { cursor = t; mode = m.Expanded }) three;
    }
