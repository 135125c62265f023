use Rattle.std.proofs.Common.{length}
use Rattle.std.specs.Prelude.{IsOkAnd}
use Rattle.tclv_text.specs.Elements.{elements}
use Rattle.tclv_value.specs.View.{text_at}
use Rattle.tclv_value.specs.Setting.{copied_more}
use Rattle.tclv_value.proofs.AnswerLemmas.{ok_and}
use Rattle.std.proofs.Common.{◌≡◌, ℕ, None, IsSome, is_some, refl, ap, sym, subst, ◌∙◌}
use Rattle.tclv_heap.specs.Graph.{at}
use Rattle.tclv_value.specs.ListObjects.{IsAloneAt, IsListAt}
use Rattle.tclv_value.specs.View.{HasPlace}
use Rattle.tclv_value.proofs.GraphLemmas.{by_slot, no_object}
use Rattle.tclv_value.proofs.SetOneLemmas.{one_set, under_then, one_below, id_same, place_same, made_then, shallow_then, all_same, err_any, by_flag}
use Rattle.tclv_value.proofs.ViewLemmas.{under_there}
use Rattle.tclv_value.proofs.NameLemmas.{open_refuted}
use Rattle.tclv_value.proofs.OpenPlaceLemmas.{open_one}
use Rattle.tclv_value.proofs.WayPlaceLemmas.{under_high}
use Rattle.tclv_value.proofs.store.Store.set_one.Goals as goal
use Rattle.tclv_value.proofs.store.Store.set_one.Goals.{After-make_top_shallow, After-drop_top}

there1 : (c : After-make_top_shallow) → HasPlace c.keep_list_at.new.self c.args.at
there1 c = place_same c.args.self.now c.keep_list_at.new.self c.args.at c.keep_list_at.ensures.kept (under_there c.args.self.now 2 c.args.at c.requires)

there2 : (c : After-make_top_shallow) → HasPlace c.write_text.new.self c.args.at
there2 c = place_same c.keep_list_at.new.self c.write_text.new.self c.args.at c.write_text.ensures.kept (there1 c)

alone3 : (c : After-make_top_shallow) → IsAloneAt c.args.self.now c.args.at → IsAloneAt c.make_top_shallow.new.self c.args.at
alone3 c alone = c.make_top_shallow.ensures.alone c.args.at (there2 c) (c.write_text.ensures.alone c.args.at (there1 c) (c.in_ok-keep_list_at.ensures.alone alone))

gone : (c : After-make_top_shallow) → IsListAt c.args.self.now c.args.at → (o : ℕ) → at c.make_top_shallow.new.self.graph o ≡ None → at c.args.self.now.graph o ≡ None
gone c list o none =
    by_slot _ (at c.args.self.now.graph o) (λ e. e)
    (λ n e. absurd (no_object c.make_top_shallow.new.self.graph o none (c.make_top_shallow.ensures.there o (c.write_text.ensures.there o (subst (λ v. IsSome (at v.graph o)) (sym (c.keep_list_at.ensures.unread list)) (ap is_some e))))))

pub returns-clause-set : goal.returns-clause-set
returns-clause-set c =
    one_set c.args.self.now c.keep_list_at.new.self c.write_text.new.self c.make_top_shallow.new.self c.change_at.new.self c.drop_top.new.self c.args.at c.height-height.result c.in_ok-place.place c.height-height.ensures c.requires c.keep_list_at.ensures.kept c.write_text.ensures.kept c.make_top_shallow.ensures.kept c.in_ok-place.ensures.place c.in_ok-change_at.ensures.changed c.drop_top.ensures.popped c.drop_top.ensures.cells c.drop_top.ensures.keeps

pub change_at-requires-clause-alone : goal.change_at-requires-clause-alone
change_at-requires-clause-alone c alone = alone3 (goal.at.change_at-requires-clause-alone c).After-make_top_shallow (c.is_alone-alone.ensures.0 alone)

pub returns-clause-same : goal.returns-clause-same
returns-clause-same c =
    let under = under_then c.args.self.now c.keep_list_at.new.self c.write_text.new.self c.make_top_shallow.new.self c.change_at.new.self c.drop_top.new.self c.args.at c.height-height.result c.in_ok-place.place c.height-height.ensures c.requires c.keep_list_at.ensures.kept c.write_text.ensures.kept c.make_top_shallow.ensures.kept c.in_ok-place.ensures.place c.in_ok-change_at.ensures.changed c.drop_top.ensures.popped c.drop_top.ensures.cells c.drop_top.ensures.keeps in
    let before = id_same c.write_text.new.self c.make_top_shallow.new.self c.args.at c.make_top_shallow.ensures.places ∙ id_same c.keep_list_at.new.self c.write_text.new.self c.args.at c.write_text.ensures.places ∙ id_same c.args.self.now c.keep_list_at.new.self c.args.at c.keep_list_at.ensures.places in
    let after = c.drop_top.ensures.lists.ids c.args.at under in (
      λ alone. after ∙ c.in_ok-change_at.ensures.same (c.is_alone-alone.ensures.1 alone) ∙ before,
      λ same. by_flag c.is_alone-alone.result c.is_alone-alone.ensures.0 (λ shared. absurd (c.in_ok-change_at.ensures.another shared (sym after ∙ same ∙ sym before))),
    )

pub returns-clause-fresh : goal.returns-clause-fresh
returns-clause-fresh c list shared =
    let under = under_then c.args.self.now c.keep_list_at.new.self c.write_text.new.self c.make_top_shallow.new.self c.change_at.new.self c.drop_top.new.self c.args.at c.height-height.result c.in_ok-place.place c.height-height.ensures c.requires c.keep_list_at.ensures.kept c.write_text.ensures.kept c.make_top_shallow.ensures.kept c.in_ok-place.ensures.place c.in_ok-change_at.ensures.changed c.drop_top.ensures.popped c.drop_top.ensures.cells c.drop_top.ensures.keeps in
    let a = (goal.at.returns-clause-fresh c).After-make_top_shallow in
    ap (at c.args.self.now.graph) (c.drop_top.ensures.lists.ids c.args.at under) ∙ gone a list _ (c.in_ok-change_at.ensures.fresh (λ alone. shared (c.is_alone-alone.ensures.0 alone)))

pub returns-clause-listed : goal.returns-clause-listed
returns-clause-listed c =
    let under = under_then c.args.self.now c.keep_list_at.new.self c.write_text.new.self c.make_top_shallow.new.self c.change_at.new.self c.drop_top.new.self c.args.at c.height-height.result c.in_ok-place.place c.height-height.ensures c.requires c.keep_list_at.ensures.kept c.write_text.ensures.kept c.make_top_shallow.ensures.kept c.in_ok-place.ensures.place c.in_ok-change_at.ensures.changed c.drop_top.ensures.popped c.drop_top.ensures.cells c.drop_top.ensures.keeps in
    c.drop_top.ensures.lists.lists c.args.at under c.in_ok-change_at.ensures.listed

pub returns-clause-counters : goal.returns-clause-counters
returns-clause-counters c list alone made shallow =
    let a = (goal.at.returns-clause-counters c).After-make_top_shallow in
    let same = all_same c.args.self.now c.keep_list_at.new.self c.write_text.new.self c.make_top_shallow.new.self c.height-height.result c.height-height.ensures (c.keep_list_at.ensures.unread list) c.write_text.ensures.made_before c.make_top_shallow.ensures.shallow_before made shallow in
    c.drop_top.ensures.lists.stats ∙ c.change_at.ensures.stats (c.is_alone-alone.ensures.1 alone) ∙ ap (λ v. v.stats) same

pub returns-in_err-write_text-clause-memory : goal.returns-in_err-write_text-clause-memory
returns-in_err-write_text-clause-memory c =
    err_any c.from_residual-in_err-write_text.result _ (λ why list alone made shallow names.
    let no = c.in_err-write_text.ensures.memory (made_then c.args.self.now c.keep_list_at.new.self c.keep_list_at.new.self c.keep_list_at.new.self c.height-height.result c.height-height.ensures (c.keep_list_at.ensures.unread list) (λ m. refl) (λ d. refl) made shallow) in
    absurd (cc))

pub returns-in_err-make_top_shallow-clause-memory : goal.returns-in_err-make_top_shallow-clause-memory
returns-in_err-make_top_shallow-clause-memory c =
    err_any c.from_residual-in_err-make_top_shallow.result _ (λ why list alone made shallow names.
    let no = c.in_err-make_top_shallow.ensures.memory (shallow_then c.args.self.now c.keep_list_at.new.self c.write_text.new.self c.write_text.new.self c.height-height.result c.height-height.ensures (c.keep_list_at.ensures.unread list) c.write_text.ensures.made_before (λ d. refl) made shallow) in
    absurd (cc))

pub returns-in_err-change_at-clause-memory : goal.returns-in_err-change_at-clause-memory
returns-in_err-change_at-clause-memory c =
    let a = (goal.at.returns-in_err-change_at-clause-memory c).After-make_top_shallow in
    err_any c.from_residual-in_err-change_at.result _ (λ why list alone made shallow names.
    let no = c.in_err-change_at.ensures.memory (c.is_alone-alone.ensures.1 alone) (one_below c.args.self.now c.keep_list_at.new.self c.write_text.new.self c.make_top_shallow.new.self c.args.at c.height-height.result c.in_ok-place.place c.height-height.ensures c.keep_list_at.ensures.kept c.write_text.ensures.kept c.make_top_shallow.ensures.kept c.in_ok-place.ensures.place names) in
    absurd (cc))

pub returns-clause-copies : goal.returns-clause-copies
returns-clause-copies c list shared made shallow =
    let same = all_same c.args.self.now c.keep_list_at.new.self c.write_text.new.self c.make_top_shallow.new.self c.height-height.result c.height-height.ensures (c.keep_list_at.ensures.unread list) c.write_text.ensures.made_before c.make_top_shallow.ensures.shallow_before made shallow in
    let counted = c.in_ok-change_at.ensures.copies (λ alone. shared (c.is_alone-alone.ensures.0 alone)) in
    subst (λ v. IsOkAnd (elements (text_at v c.args.at)) (λ ts. c.drop_top.new.self.stats ≡ copied_more v.stats (length ts))) same
    (ok_and (elements (text_at c.make_top_shallow.new.self c.args.at)) (λ ts. c.change_at.new.self.stats ≡ copied_more c.make_top_shallow.new.self.stats (length ts)) (λ ts. c.drop_top.new.self.stats ≡ copied_more c.make_top_shallow.new.self.stats (length ts)) (λ ts e. c.drop_top.ensures.lists.stats ∙ e) counted)

pub returns-in_err-place-clause-opens : goal.returns-in_err-place-clause-opens
returns-in_err-place-clause-opens c =
    err_any c.from_residual-in_err-place.result _ (λ why opens. absurd (open_refuted c.args.self.now c.keep_list_at.new.self c.write_text.new.self c.args.at c.height-height.result c.height-height.ensures (under_high c.args.self.now 2 c.args.at c.requires) c.keep_list_at.ensures.unread c.write_text.ensures.made_before c.in_err-place.ensures.opens opens))

pub returns-in_err-keep_list_at-clause-opens : goal.returns-in_err-keep_list_at-clause-opens
returns-in_err-keep_list_at-clause-opens c =
    err_any c.from_residual.result _ (λ why opens.
    let no = c.in_err-keep_list_at.ensures.memory (open_one c.args.self.now c.args.at 1 refl (under_high c.args.self.now 2 c.args.at c.requires) opens).0 in
    absurd (cc))
