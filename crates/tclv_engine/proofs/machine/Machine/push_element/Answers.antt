use Rattle.std.proofs.Common.{◌≡◌, ◌<◌, ◌++◌, List, ℕ, length}
use Rattle.std.specs.Prelude.{IsTrue, ◌↔◌, option_to_list, slice_get}
use Rattle.tclv_value.specs.View.{text_at}
use Rattle.tclv_value.specs.declared.places.At.TheVariants.{Stack}
use Rattle.tclv_engine.proofs.ListLemmas.{list_holds}
use Rattle.tclv_engine.proofs.machine.Machine.push_element.Goals as goal

pub returns-in-Ok-clause-found : goal.returns-in-Ok-clause-found
returns-in-Ok-clause-found g c =
    list_holds (text_at c.args.self.now.values.store (Stack c.args.list)) (λ (ts : List (List ℕ)). IsTrue c.in-Ok.found ↔ (c.args.k < length ts)) c.requires.list c.in-Ok.ensures.found

pub returns-in-Ok-clause-pushed : goal.returns-in-Ok-clause-pushed
returns-in-Ok-clause-pushed g c =
    list_holds (text_at c.args.self.now.values.store (Stack c.args.list)) (λ (ts : List (List ℕ)). c.push_element.new.self.store.stack ≡ c.args.self.now.values.store.stack ++ option_to_list (slice_get ts c.args.k)) c.requires.list c.in-Ok.ensures.pushed
