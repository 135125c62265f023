use Rattle.std.proofs.Common.{◌≡◌, ◌<◌, ◌+◌, ◌∙◌, ℕ, false, List, [], length, drop, get_or, sym, ap, arith}
use Rattle.std.specs.Str.{chars}
use Rattle.std.proofs.lemmas.List.{get_or_read, length-drop}
use Rattle.tclv_strings.specs.Mapping.{first_key, stands_first}
use Rattle.tclv_strings.proofs.MappingLemmas.{two_on, key_later, key_none}
use Rattle.tclv_strings.proofs.mapping.first_key.Goals as goal

pub keys-preserved : goal.keys-preserved
keys-preserved c =
    let ms = c.args.mapping.now in
    let k = c.keys.k in
    let text = chars c.args.text.now in
    let inside : k < length ms = omega (arith, c.keys-test.true) in
    let key : chars c.bytes.result.now ≡ get_or ms k [] = c.bytes.ensures.text ∙ get_or_read ms k _ inside c.index-mapping-k.is [] in
    let stands : stands_first c.args.nocase (get_or ms k []) text ≡ false = ap (λ (x : List ℕ). stands_first c.args.nocase x text) (sym key) ∙ sym c.in_default.ensures.stands in
    record {
      found = sym (ap (λ (q : List (List ℕ)). first_key c.args.nocase q text) (two_on ms k c.keys-test.true) ∙ key_later c.args.nocase (get_or ms k []) (get_or ms (k + 1) []) (drop (k + 2) ms) text stands) ∙ c.keys.invariant.found;
      within = omega (arith, c.keys-test.true);
    }

pub returns-clause-found : goal.returns-clause-found
returns-clause-found c =
    let ms = c.args.mapping.now in
    sym c.keys.invariant.found ∙ key_none c.args.nocase (drop c.keys.k ms) (chars c.args.text.now) (omega (arith, length-drop c.keys.k ms, c.keys-test.false))
