use Rattle.std.proofs.Common.{◌≡◌, ◌∙◌, ◌++◌, ℕ, List, [], get_or, ap}
use Rattle.std.specs.Str.{chars}
use Rattle.std.proofs.lemmas.List.{get_or_read}
use Rattle.tclv_strings.proofs.MappingLemmas.{added_key}
use Rattle.tclv_strings.proofs.mapping.map_first.Goals as goal

pub returns-in_ok-push-in-Some-clause-mapped : goal.returns-in_ok-push-in-Some-clause-mapped
returns-in_ok-push-in-Some-clause-mapped c =
    let ms = c.args.mapping.now in
    let v = c.in-Some.value in
    let value : chars c.bytes.result.now ≡ get_or ms v [] = c.bytes.ensures.text ∙ get_or_read ms v _ c.in-Some.ensures.within c.index-mapping-value.is [] in
    added_key c.args.nocase ms c.args.first.0 (chars c.args.first.1.now) (chars c.args.text.now) (get_or ms v []) (chars c.in-Some.behind.now) c.args.out.now c.push.new.self c.requires.first c.in-Some.ensures.found
    (c.in_ok-push-in-Some.ensures.ok ∙ ap (λ (x : List ℕ). c.args.out.now ++ x) value)
