use Rattle.std.proofs.Common.{◌≡◌, ◌+◌, refl, sym, ap, subst, ◌∙◌, Some, Ok, IsSome, true}
use Rattle.std.specs.FinMap.{get, insert}
use Rattle.tclv_vars.specs.declared.parts.Content.TheVariants.{Array}
use Rattle.tclv_vars.specs.Table.{elements_of}
use Rattle.tclv_vars.proofs.MapLemmas.{number_there, number_again, number_same}
use Rattle.tclv_vars.proofs.tables.Tables.grow_array.Goals as goal
use Rattle.tclv_vars.proofs.tables.Tables.grow_array.Goals.{After-replace-2}

pub replace-requires-2 : goal.replace-requires-2
replace-requires-2 c = record { there = subst IsSome (sym (number_there _ _ _) ∙ ap (λ m. get m c.args.cell) (sym c.replace.ensures.put)) refl }

-- the cell holds the array that was put back
now : (c : After-replace-2) → c.replace-2.new.self.map ≡ insert c.args.self.now.cells.map c.args.cell (Array c.put-done.new.self)
now c = c.replace-2.ensures.put ∙ ap (λ m. insert m c.args.cell (Array c.put-done.new.self)) c.replace.ensures.put ∙ number_again _ _ _ _

was : (c : After-replace-2) → get c.args.self.now.cells.map c.args.cell ≡ Some (Array c.in-Array.elements)
was c = sym c.replace.ensures.was ∙ ap Some c.in-Array.is

pub returns-in_default-done-clause-made : goal.returns-in_default-done-clause-made
returns-in_default-done-clause-made c =
    let a = (goal.at.returns-in_default-done-clause-made c).After-replace-2 in
    let contents = now a ∙ ap (λ es. insert c.args.self.now.cells.map c.args.cell (Array es)) c.in_default-done.ensures.refused ∙ number_same _ _ _ (was a) in
    (tt, λ i. record { scopes = c.args.self.now.scopes; contents = contents i; next = c.args.self.now.next })

pub returns-clause-made : goal.returns-clause-made
returns-clause-made c =
    let a = (goal.at.returns-clause-made c).After-replace-2 in
    let contents = ap (λ o. insert c.args.self.now.cells.map c.args.cell (Array (insert (elements_of o) c.args.index.now c.args.self.now.next))) (was a)
    ∙ ap (λ es. insert c.args.self.now.cells.map c.args.cell (Array es)) (sym c.in-Ok.ensures.put) ∙ sym (now a) in
    λ i. Ok (record { cell = c.args.self.now.next; fresh = true; after = record { scopes = c.args.self.now.scopes; contents = contents i; next = c.args.self.now.next + 1 } })
