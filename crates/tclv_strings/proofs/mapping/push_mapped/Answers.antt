use Rattle.std.proofs.Common.{◌∙◌, ℕ, List, [], get_or, refl, sym, ap, ap₂}
use Rattle.tclv_model.specs.Rows.{RowAnswer, Gives}
use Rattle.tclv_strings.specs.Mapping.{mapping_of, mapped_text, map_answer}
use Rattle.tclv_reply.proofs.Laws.{begun, read_on, went_kept, leaves_text}
use Rattle.tclv_strings.proofs.mapping.push_mapped.Goals as goal

pub returns : goal.returns
returns c =
    let s = c.args.store.now in
    let nocase = c.args.nocase in
    let m = get_or s.stack c.args.mapping [] in
    let t = get_or s.stack c.args.at [] in
    let g : List (List ℕ) → List ℕ → RowAnswer = λ ts u. Gives (mapped_text nocase ts u) in
    let r = read_on (mapping_of m) (λ ts. g ts t) (begun (map_answer nocase m t) s) (mapping_of m) refl c.in_ok-pairs.ensures in
    let w = went_kept r.went c.in_ok-text.ensures.kept in
    let answer : List ℕ → RowAnswer = λ u. Gives u in
    let text = c.bytes.ensures.text ∙ c.in_ok-text.ensures.text ∙ ap (λ (q : List (List ℕ)). get_or q c.args.at []) r.went.same in
    leaves_text _ w (sym (ap answer (c.bytes-2.ensures.text ∙ c.in_ok-mapped.ensures) ∙ ap₂ g (c.all.ensures ∙ r.shown) text)) c.in_ok-push_bytes.ensures.pushed
