use Rattle.std.proofs.Common.{◌≡◌, Option, Some, None, Bor, sym}
use Rattle.std.specs.Prelude.{IfSome, option_copied}
use Rattle.tclv_heap.proofs.CopyLemmas.{HasForm_from}
use Rattle.tclv_heap.proofs.objects.Heap.form.Goals as goal

-- a fact of what a borrow shows
if_some_from : {F : Type 0} {P : F → Type 0} (r : Option (Bor F)) (o : Option F) → option_copied r ≡ o → ((f : F) → o ≡ Some f → P f) → IfSome r (λ b. P b.now)
if_some_from None o e h = tt
if_some_from (Some b) o e h = h b.now (sym e)

pub returns-clause-some : goal.returns-clause-some
returns-clause-some g c =
    rw (← c.self.view_is, ← c.id.view_is) (if_some_from c.as_ref.result c.index.result.now.form c.as_ref.ensures.value (λ f form. HasForm_from g.T.Types.table _ _ _ f c.self.invariant c.index.ensures form))
