use Rattle.std.proofs.Common.{rules, ◌≡◌, ◌∙◌, ap}
use Rattle.std.specs.Str.{chars}
use Rattle.std.specs.Ordering.{nat_cmp}
use Rattle.std.specs.Cmp.Lexicographic.{slice_cmp}
use Rattle.std.proofs.lemmas.Iterator.{YieldsList-from_chars}
use Rattle.std.proofs.lemmas.Iterator.Search.{cmp_from_yields_List}
use Rattle.tclv_engine.proofs.operations.order.Goals as goal

pub returns : goal.returns
unfolding Rattle.tclv_engine.specs.Operations.order
returns c =
    let same : c.cmp.result ≡ slice_cmp nat_cmp (chars c.as_str.result.now) (chars c.as_str-2.result.now) =
    cmp_from_yields_List (λ x y. y ≡ x) c.chars-2.result nat_cmp c.cmp.result c.cmp.ensures.ran
    (YieldsList-from_chars c.as_str.result.now c.as_str.utf8 c.chars.ensures.rest)
    (λ it e. YieldsList-from_chars c.as_str-2.result.now c.as_str-2.utf8 (search rules)) (λ x y. search rules) in
    same
    ∙ ap (λ a. slice_cmp nat_cmp (chars a) (chars c.as_str-2.result.now)) c.as_str.ensures
    ∙ ap (λ b. slice_cmp nat_cmp (chars c.args.left.now) (chars b)) c.as_str-2.ensures
