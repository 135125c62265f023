use Rattle.std.proofs.Common.{◌≡◌, ◌∙◌, ℕ, List, Ok, sym, ap, subst₂}
use Rattle.std.specs.Prelude.{IfOk, IfErr}
use Rattle.tclv_value.specs.View.{text_at}
use Rattle.tclv_vars.specs.Table.{Table, Refuses}
use Rattle.tclv_reply.specs.Names.{naming, shape_of}
use Rattle.tclv_engine.proofs.NameLemmas.{bytes-are}
use Rattle.tclv_plain.specs.ArrayRows.{indices_of}
use Rattle.tclv_plain.proofs.array_indices.indices_at.Goals as goal

pub indices_named-requires-clause-shape : goal.indices_named-requires-clause-shape
indices_named-requires-clause-shape c = c.requires.shape ∙ ap shape_of (sym (bytes-are c.lend.result.now (text_at c.args.values.now.store c.args.name) c.lend.ensures.utf8 c.lend.ensures.text))

pub returns-clause-indices : goal.returns-clause-indices
returns-clause-indices c =
    let P : Table → List ℕ → Type 0 = λ t b. IfOk c.indices_named.result (λ found. indices_of t (naming b) ≡ Ok found) in
    subst₂ P (ap (λ h. h.vars) c.values.view_is) (bytes-are c.lend.result.now (text_at c.args.values.now.store c.args.name) c.lend.ensures.utf8 c.lend.ensures.text) c.indices_named.ensures.indices

pub returns-clause-refused : goal.returns-clause-refused
returns-clause-refused c =
    let P : Table → List ℕ → Type 0 = λ t b. IfErr c.indices_named.result (Refuses (indices_of t (naming b))) in
    subst₂ P (ap (λ h. h.vars) c.values.view_is) (bytes-are c.lend.result.now (text_at c.args.values.now.store c.args.name) c.lend.ensures.utf8 c.lend.ensures.text) c.indices_named.ensures.refused
