use Rattle.std.proofs.Common.{◌≡◌, [], refl}
use Rattle.tclv_heap.specs.Graph.{Leads}
use Rattle.tclv_heap.specs.Noted.{Noted}
use Rattle.tclv_heap.proofs.RetextLemmas.{noted_there, Untexted_back, Retexted_same, Retexted_wider, text_says}
use Rattle.tclv_heap.proofs.strings.make_text.Given.{Over}
use Rattle.tclv_heap.proofs.strings.make_text.Goals as goal
use Rattle.tclv_heap.proofs.strings.make_text.Goals.{After-make_texts, After-take_texts}

-- nothing was noted before
noted : (g : Over) (c : After-make_texts g) → let slots = c.args.objects.now.slots in Noted g.T.Types.table (Leads g.T.Types.table.parts slots c.args.id) slots [] c.make_texts.new.objects.slots c.make_texts.new.made.items
noted g c = rw c.new-made.ensures.items at c.make_texts.ensures.noted

pub take_texts-requires : goal.take_texts-requires
take_texts-requires g c = noted_there g.T.Types.table _ _ _ _ (noted g (goal.at.take_texts-requires g c).After-make_texts)

-- the graph is as before
back : (g : Over) (c : After-take_texts g) → c.take_texts.new.objects.slots ≡ c.args.objects.now.slots
back g c = Untexted_back g.T.Types.table _ _ _ _ _ (noted g (goal.at.After-take_texts g c).After-make_texts) c.take_texts.ensures

pub returns-in-Err-clause-sound : goal.returns-in-Err-clause-sound
returns-in-Err-clause-sound g c = rw (back g (goal.at.returns-in-Err-clause-sound g c).After-take_texts) c.requires.sound

pub returns-in-Err-clause-says : goal.returns-in-Err-clause-says
returns-in-Err-clause-says g c = rw (back g (goal.at.returns-in-Err-clause-says g c).After-take_texts) (λ o was there. refl)

pub returns-in-Err-clause-retexts : goal.returns-in-Err-clause-retexts
returns-in-Err-clause-retexts g c = rw (back g (goal.at.returns-in-Err-clause-retexts g c).After-take_texts) (Retexted_same g.T.Types.table _ _)

pub returns-in-Err-clause-refused : goal.returns-in-Err-clause-refused
returns-in-Err-clause-refused g c = back g (goal.at.returns-in-Err-clause-refused g c).After-take_texts

pub returns-clause-retexts : goal.returns-clause-retexts
returns-clause-retexts g c = Retexted_wider g.T.Types.table _ _ _ _ (λ o h. h.0) c.make_texts.ensures.noted.retexts

pub returns-clause-made : goal.returns-clause-made
returns-clause-made g c =
    text_says g.T.Types.table _ _ c.args.id c.make_texts.ensures.sound (c.make_texts.ensures.says c.args.id c.requires.there) c.in_default.ensures.made
