use Rattle.std.proofs.Common.{[], length, sym, ap, ◌∙◌}
use Rattle.std.specs.Option.{unwrap_or}
use Rattle.tclv_value.specs.Kept.{list_at}
use Rattle.tclv_value.specs.View.{id_of}
use Rattle.tclv_value.proofs.NameLemmas.{list_known_at, names_refused}
use Rattle.tclv_value.proofs.store.Store.place_in.Goals as goal

pub returns-clause-opens : goal.returns-clause-opens
returns-clause-opens c =
    let v = c.args.self.now in
    let known = list_known_at (list_at v.graph (id_of v c.args.at)) c.requires.list in
    let told = c.kept_len-len.ensures.told in
    names_refused v told c.args.at c.args.index c.place_of.result _ _ c.place_of.ensures.refused c.place_of.ensures.memory
    (c.kept_len-len.ensures.ids known.0 known.1 ∙ ap (λ o. length (unwrap_or o [])) (sym known.1))
    (c.made_text.ensures.text ∙ told.text c.args.index c.requires.index)
