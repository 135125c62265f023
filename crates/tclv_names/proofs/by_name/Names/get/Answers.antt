use Rattle.std.proofs.Common.{sym, ap, ◌∙◌}
use Rattle.std.specs.FinMap.{get}
use Rattle.std.specs.Option.{option_copied}
use Rattle.tclv_names.proofs.KeyedLemmas.{get-named}
use Rattle.tclv_names.proofs.by_name.Names.get.Goals as goal

pub returns-in-Some : goal.returns-in-Some
returns-in-Some g c = record {
  value = ap option_copied (sym c.in-Some.is) ∙ c.get.ensures.value ∙ sym (get-named (λ k. k.items) _ _) ∙ ap (λ m. get m c.args.name.now) c.self.view_is;
}

pub returns-in-None : goal.returns-in-None
returns-in-None g c = record {
  value = ap option_copied (sym c.in-None.is) ∙ c.get.ensures.value ∙ sym (get-named (λ k. k.items) _ _) ∙ ap (λ m. get m c.args.name.now) c.self.view_is;
}
