use Rattle.std.proofs.Common.{◌≡◌, refl, sym, ap, subst, ◌∙◌, IsSome}
use Rattle.std.specs.Option.{unwrap_or}
use Rattle.std.specs.FinMap.{get, insert, empty}
use Rattle.tclv_names.specs.Keyed.{Named}
use Rattle.tclv_vars.specs.declared.parts.Slot.{Slot}
use Rattle.tclv_vars.specs.declared.places.Home.TheVariants.{Of}
use Rattle.tclv_vars.specs.Scoping.{with_name}
use Rattle.tclv_vars.proofs.MapLemmas.{number_there, number_again, number_same, on_err}
use Rattle.tclv_vars.proofs.scopes.Scopes.put_shared.Goals as goal
use Rattle.tclv_vars.proofs.scopes.Scopes.put_shared.Goals.{After-replace}

pub replace-requires : goal.replace-requires
replace-requires c = record { there = subst IsSome (sym (number_there _ _ _) ∙ ap (λ m. get m c.args.space) (sym c.replace-names.ensures.put)) refl }

-- the namespace has what was put into it
now : (c : After-replace) → c.replace.new.self.map ≡ insert c.self.inside.spaces.map c.args.space c.put-done.new.self
now c = c.replace.ensures.put ∙ ap (λ m. insert m c.args.space c.put-done.new.self) c.replace-names.ensures.put ∙ number_again _ _ _ _

pub returns-in_err-done-clause-refused : goal.returns-in_err-done-clause-refused
returns-in_err-done-clause-refused c =
    let spaces = now (goal.at.returns-in_err-done-clause-refused c).After-replace ∙ ap (insert c.self.inside.spaces.map c.args.space) c.in_err-done.ensures.refused ∙ number_same _ _ _ (sym c.replace-names.ensures.was) in
    on_err c.from_residual.result ((λ i. record { frames = c.self.inside.frames.items; current = c.self.inside.current; spaces = spaces i }) ∙ c.self.view_is)

pub returns-then-is_some-clause-put : goal.returns-then-is_some-clause-put
returns-then-is_some-clause-put c =
    let spaces = now (goal.at.returns-then-is_some-clause-put c).After-replace ∙ ap (insert c.self.inside.spaces.map c.args.space) (c.in_ok-done.ensures.put ∙ ap (λ (o : Named Slot). insert o c.args.name.now c.args.slot) (ap (λ o. unwrap_or o empty) c.replace-names.ensures.was)) in
    (λ i. record { frames = c.self.inside.frames.items; current = c.self.inside.current; spaces = spaces i }) ∙ ap (λ s. with_name s (Of c.args.space) c.args.name.now c.args.slot) c.self.view_is
