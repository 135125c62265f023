use Rattle.std.proofs.Common.{sym, ◌∙◌}
use Rattle.std.proofs.lemmas.List.{length-map}
use Rattle.tclv_text.specs.Elements.{elements}
use Rattle.tclv_value.specs.Places.{text_of}
use Rattle.tclv_value.proofs.ElementLemmas.{known_elements}
use Rattle.tclv_value.proofs.KeptLemmas.{listed_there}
use Rattle.tclv_value.proofs.kept_lists.length_of.Goals as goal

pub kept_list-requires : goal.kept_list-requires
kept_list-requires c = listed_there c.args.heap.now.graph c.args.id c.requires

pub returns-clause-text : goal.returns-clause-text
returns-clause-text c =
    let h = c.in-Some.ensures.some in
    known_elements (elements (text_of c.args.heap.now.graph c.args.id)) _ _ h.elements (c.len.ensures ∙ sym (length-map c.in-Some.list.now.ids (text_of c.args.heap.now.graph)))
