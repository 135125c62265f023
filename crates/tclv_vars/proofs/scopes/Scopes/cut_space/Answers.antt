use Rattle.std.proofs.Common.{refl, sym, ap, subst, ◌∙◌, IsSome}
use Rattle.std.specs.FinMap.{get, insert}
use Rattle.tclv_vars.specs.declared.places.Home.TheVariants.{Of}
use Rattle.tclv_vars.specs.Scoping.{Scoping, without_name, without_shared}
use Rattle.tclv_vars.proofs.MapLemmas.{number_there, number_again}
use Rattle.tclv_vars.proofs.scopes.Scopes.cut_space.Goals as goal

pub replace-requires : goal.replace-requires
replace-requires c = record { there = subst IsSome (sym (number_there _ _ _) ∙ ap (λ m. get m c.args.space) (sym c.replace-names.ensures.put)) refl }

pub returns : goal.returns
returns c =
    let m = c.self.inside.spaces.map in
    let spaces = c.replace.ensures.put ∙ ap (λ k. insert k c.args.space c.take_out.new.self) c.replace-names.ensures.put ∙ number_again _ _ _ _
    ∙ ap (insert m c.args.space) c.take_out.ensures ∙ ap (without_shared m c.args.space c.args.name.now) c.replace-names.ensures.was in
    (λ i. record { frames = c.self.inside.frames.items; current = c.self.inside.current; spaces = spaces i }) ∙ ap (λ (s : Scoping). without_name s (Of c.args.space) c.args.name.now) c.self.view_is
