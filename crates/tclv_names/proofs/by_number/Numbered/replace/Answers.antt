use Rattle.std.proofs.Common.{sym, ap, subst, ◌∙◌, IsSome, Some, nat_eq, true≢false}
use Rattle.std.specs.FinMap as finite
use Rattle.std.specs.Option.{option_copied_mut}
use Rattle.indexmap.specs.IndexMap.{UpdatesBy}
use Rattle.tclv_names.specs.Keyed.{Roomy}
use Rattle.tclv_names.proofs.KeyedLemmas.{get-numbered, numbered_inserted}
use Rattle.tclv_names.proofs.by_number.Numbered.replace.Goals as goal

pub unreachable-requires : goal.unreachable-requires
unreachable-requires g c =
    let seen = sym (get-numbered c.self.inside.table.entries c.args.number) ∙ ap (λ (r : Roomy g.row.X.Denot). finite.get r.map c.args.number) c.self.view_is in
    absurd (true≢false (sym (subst IsSome (sym seen ∙ sym c.get_mut.ensures.value ∙ ap option_copied_mut c.in_default.is) c.requires.there)))

pub returns-clause-was : goal.returns-clause-was
returns-clause-was g c =
    let seen = sym (get-numbered c.self.inside.table.entries c.args.number) ∙ ap (λ (r : Roomy g.row.X.Denot). finite.get r.map c.args.number) c.self.view_is in
    ap Some c.replace.ensures.value ∙ ap option_copied_mut (sym c.in-Some.is) ∙ c.get_mut.ensures.value ∙ seen

pub returns-clause-put : goal.returns-clause-put
returns-clause-put g c =
    let seen = sym (get-numbered c.self.inside.table.entries c.args.number) ∙ ap (λ (r : Roomy g.row.X.Denot). finite.get r.map c.args.number) c.self.view_is in
    let new = c.get_mut.follows.lender c.replace.new.dest in
    let updates = (c.get_mut.follows.holds c.replace.new.dest).3 (subst IsSome (sym seen) c.requires.there) in
    numbered_inserted c.self.inside.table new c.args.number c.args.x (subst (λ w. UpdatesBy nat_eq (nat_eq c.args.number) c.self.inside.table new (Some w)) c.replace.ensures.after updates)
    ∙ ap (λ (r : Roomy g.row.X.Denot). finite.insert r.map c.args.number c.args.x) c.self.view_is
