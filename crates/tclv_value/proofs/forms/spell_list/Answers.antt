use Rattle.std.proofs.Common.{◌≡◌, ◌++◌, ℕ, List, true, sym, ap, subst, ◌∙◌}
use Rattle.std.specs.Str.{all_scalars, encode_utf8_all}
use Rattle.std.proofs.lemmas.Str.{chars_from_encodes, encodes-chars}
use Rattle.tclv_text.specs.Texts.{Appends}
use Rattle.tclv_text.specs.Quotes.{list_text}
use Rattle.tclv_value.specs.Elements.{IsListText}
use Rattle.tclv_value.proofs.forms.spell_list.Goals as goal

-- a list's text behind other bytes
appends : (old new bs : List ℕ) (ts : List (List ℕ)) → IsListText ts bs → new ≡ old ++ bs → Appends old new (list_text ts)
appends old new bs ts is joined =
    let points : (is.utf8.utf8).0 ≡ list_text ts = chars_from_encodes (is.utf8.utf8).0 bs is.utf8.utf8 (is.utf8.utf8).1.1 ∙ is.text in
    record {
      bytes = joined ∙ ap (λ x. old ++ x) (sym (encodes-chars bs is.utf8.utf8) ∙ ap encode_utf8_all is.text);
      points = subst (λ cs. all_scalars cs ≡ true) points (is.utf8.utf8).1.0;
    }

pub returns-clause-ok : goal.returns-clause-ok
returns-clause-ok g c = appends _ _ c.in_ok-text.text.items _ c.in_ok-text.ensures (c.in_ok-extend_from_slice.ensures.items ∙ ap (λ x. c.args.out.now.items ++ x) c.as_slice.ensures.value)
