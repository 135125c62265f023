use Rattle.std.proofs.Common.{◌+◌, ◌-◌, length, sym, subst, ◌∙◌}
use Rattle.tclv_value.specs.Changes.{IsUnder, Puts}
use Rattle.tclv_value.specs.View.{id_of, text_at}
use Rattle.tclv_value.specs.Ways.{text_along}
use Rattle.tclv_value.specs.declared.places.At.TheVariants.{Stack}
use Rattle.tclv_value.proofs.DropLemmas.{put_then_drop}
use Rattle.tclv_value.proofs.SetOneLemmas.{put_under}
use Rattle.tclv_value.proofs.WayLemmas.{some_is}
use Rattle.tclv_value.proofs.WayPlaceLemmas.{set_known, under_high, under_one}
use Rattle.tclv_value.proofs.store.Store.set_along.Goals as goal

pub texts_of-n-requires : goal.texts_of-n-requires
texts_of-n-requires c = under_high c.args.self.now (c.args.path + 1) c.args.at c.requires.place

pub go_along-requires-clause-place : goal.go_along-requires-clause-place
go_along-requires-clause-place c = under_one c.args.self.now c.args.path c.args.at c.requires.place

pub go_along-requires-clause-opens : goal.go_along-requires-clause-opens
go_along-requires-clause-opens c = (some_is _ _ c.in-Some.way c.in-Some.is c.in_ok-way.ensures.way).0

pub drop_top-requires : goal.drop_top-requires
drop_top-requires c =
    let under = subst (λ n. IsUnder c.args.self.now n c.args.at) (sym c.texts_of-n.ensures) c.requires.place in
    under_high c.go_along.new.self c.texts_of-n.result c.args.at (put_under c.args.self.now c.go_along.new.self c.texts_of-n.result c.args.at _ under c.go_along.ensures.changed)

pub returns-clause-set : goal.returns-clause-set
returns-clause-set c _ =
    let e = c.drop_top.ensures in
    let under = subst (λ n. IsUnder c.args.self.now n c.args.at) (sym c.texts_of-n.ensures) c.requires.place in
    let puts = put_then_drop c.args.self.now c.go_along.new.self c.drop_top.new.self c.texts_of-n.result _ e.popped e.cells e.keeps c.args.at under c.go_along.ensures.changed in
    let t = text_along c.args.self.now.graph (id_of c.args.self.now c.args.at) c.in-Some.way.places.items (text_at c.args.self.now (Stack (length c.args.self.now.stack - 1))) in
    set_known t (λ text. Puts c.args.self.now (c.args.path + 1) c.args.at text c.drop_top.new.self) ((some_is _ _ c.in-Some.way c.in-Some.is c.in_ok-way.ensures.way).1 _)
    (subst (λ n. Puts c.args.self.now n c.args.at t c.drop_top.new.self) c.texts_of-n.ensures puts)

pub returns-clause-same : goal.returns-clause-same
returns-clause-same c _ =
    let under = subst (λ n. IsUnder c.args.self.now n c.args.at) (sym c.texts_of-n.ensures) c.requires.place in
    c.drop_top.ensures.lists.ids c.args.at (put_under c.args.self.now c.go_along.new.self c.texts_of-n.result c.args.at _ under c.go_along.ensures.changed) ∙ c.go_along.ensures.same

pub returns-clause-stats : goal.returns-clause-stats
returns-clause-stats c = c.drop_top.ensures.lists.stats ∙ c.go_along.ensures.stats

pub returns-clause-listed : goal.returns-clause-listed
returns-clause-listed c _ =
    let under = subst (λ n. IsUnder c.args.self.now n c.args.at) (sym c.texts_of-n.ensures) c.requires.place in
    c.drop_top.ensures.lists.lists c.args.at (put_under c.args.self.now c.go_along.new.self c.texts_of-n.result c.args.at _ under c.go_along.ensures.changed) c.go_along.ensures.listed
