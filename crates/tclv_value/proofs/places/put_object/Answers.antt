use Rattle.std.proofs.Common.{◌≡◌, ◌≢◌, ℕ, List, [], inl, inr, cond, Some, is_some, refl, sym, ap, ◌∙◌, arith, nat_eq}
use Rattle.std.specs.Option.{unwrap_or}
use Rattle.std.specs.Map.{lookup, values_of}
use Rattle.std.proofs.lemmas.Bool.{cases_eq}
use Rattle.indexmap.specs.IndexMap.{insert_entry}
use Rattle.tclv_heap.specs.Graph.{occurs}
use Rattle.tclv_value.specs.Places.{PutsId, id_at}
use Rattle.tclv_value.specs.declared.places.At.{At}
use Rattle.tclv_value.specs.declared.places.At.TheVariants.{Stack, Cell}
use Rattle.tclv_value.proofs.CellLemmas.{not_same}
use Rattle.tclv_value.proofs.HolderLemmas.{occurs-append, occurs-cons, occurs_insert, listed}
use Rattle.tclv_value.proofs.places.put_object.Goals as goal

cell_puts : (ids : List ℕ) (es es2 : List (ℕ × ℕ)) (c o old : ℕ) → ((q : ℕ) → lookup (nat_eq q) es2 ≡ cond (nat_eq c q) (Some o) (lookup (nat_eq q) es)) → lookup (nat_eq c) es2 ≡ Some o → lookup (nat_eq c) es ≡ Some old → es2 ≡ insert_entry nat_eq es c o → PutsId ids es (Cell c) o ids es2 old
cell_puts ids es es2 c o old put found was entries = record {
  len = refl;
  cells = λ q. elim (cases_eq q c) [
    | inl e ↦ ap (λ k. is_some (lookup (nat_eq k) es2)) e ∙ ap is_some found ∙ sym (ap (λ k. is_some (lookup (nat_eq k) es)) e ∙ ap is_some was)
    | inr ne ↦ ap is_some (put q ∙ ap (λ b. cond b (Some o) (lookup (nat_eq q) es)) (not_same c q (λ e. ne (sym e))))
  ];
  there = ap is_some found;
  here = ap (λ x. unwrap_or x 0) found;
  was = sym (ap (λ x. unwrap_or x 0) was);
  others = λ p ne. other p ne;
  holders = λ x.
      omega (
        arith,
        occurs-append x ids (values_of es2),
        occurs-append x ids (values_of es),
        occurs_insert x c o es,
        ap (λ y. occurs x (listed y)) was,
        occurs-cons x old [],
        ap (λ xs. occurs x (values_of xs)) entries,
      );
}
  where
    other : (p : At) → p ≢ Cell c → id_at ids es2 p ≡ id_at ids es p
    other (Stack i) ne = refl
    other (Cell q) ne = ap (λ x. unwrap_or x 0) (put q ∙ ap (λ b. cond b (Some o) (lookup (nat_eq q) es)) (not_same c q (λ e. ne (ap Cell (sym e)))))

pub returns-in-Ok-Some : goal.returns-in-Ok-Some
returns-in-Ok-Some c =
    rw c.in-Cell.is (cell_puts c.args.stack.now.items c.args.cells.now.entries c.insert.new.self.entries c.in-Cell.cell c.args.id c.in-Ok-Some.old (λ q. c.in-Ok-Some.ensures.updates.0 q) c.in-Ok-Some.ensures.updates.1 (sym c.in-Ok-Some.ensures.old ∙ c.in-Ok-Some.field-0-is) c.in-Ok-Some.ensures.entries)
