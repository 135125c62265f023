-- Texts that are spelled, and places in a list.
use Rattle.std.proofs.Common.{◌≡◌, ℕ, zero, suc, ◌<◌, List, [], ◌∷◌, ◌++◌, length, get_or, arith, refl, sym, ap, ◌∙◌}
use Rattle.std.specs.Str.{chars, encode_utf8_all}
use Rattle.std.proofs.lemmas.Str.{chars-encodes}
use Rattle.tclv_text.specs.Texts.{IsText, Appends}
use Rattle.tclv_heap.specs.Graph.{occurs}
use Rattle.tclv_heap.proofs.DyingLemmas.{occurs-cons, same_yes}

-- what is appended to nothing is a text
pub appended_text : (old new cs : List ℕ) → Appends old new cs → old ≡ [] → IsText new × (chars new ≡ cs)
appended_text old new cs a empty =
    let bytes : new ≡ encode_utf8_all cs = a.bytes ∙ ap (λ x. x ++ encode_utf8_all cs) empty in
    (record { utf8 = (cs, (a.points, sym bytes)) }, ap chars bytes ∙ chars-encodes cs a.points)

pub occurs_at : (ids : List ℕ) (i : ℕ) → i < length ids → 0 < occurs (get_or ids i 0) ids
occurs_at [] i h = absurd (omega arith)
occurs_at (p ∷ ps) zero h = omega (arith, occurs-cons p p ps, same_yes p p refl)
occurs_at (p ∷ ps) (suc i) h = omega (arith, occurs-cons (get_or ps i 0) p ps, occurs_at ps i (omega arith))
