use Rattle.std.proofs.Common.{◌-◌, ◌∙◌, List, ℕ, [], Some, get_or, sym, ap}
use Rattle.tclv_model.specs.Rows.{RowAnswer}
use Rattle.tclv_lists.specs.declared.sequences.Link.{Link}
use Rattle.tclv_lists.specs.Sequences.{link_of, linked, from_to, behind_by, lseq_count, four_words}
use Rattle.tclv_reply.proofs.Laws.{kept_on, leaves_on}
use Rattle.tclv_lists.proofs.sequences.push_four.Goals as goal

pub returns-in-By : goal.returns-in-By
returns-in-By c =
    let old = c.args.store.now in
    let mid = c.read_link.new.store in
    let h = c.args.height in
    let k = c.in_ok-read_link.ensures.kept in
    let w : List (List ℕ) → ℕ → List ℕ = λ s n. get_or s (h - n) [] in
    let other : List (List ℕ) → RowAnswer = λ s. behind_by (link_of (w s 2)) (from_to (w s 4) (w s 3) (Some (w s 1))) (lseq_count (w s 5)) in
    let link = sym c.in_ok-read_link.ensures.link ∙ c.in-By.is in
    let row = four_words (w old.stack 5) (w old.stack 4) (w old.stack 3) (w old.stack 2) (w old.stack 1) in
    leaves_on (other mid.stack) (kept_on row old mid k) (ap (λ (l : Link). linked l (w old.stack 4) (w old.stack 2) (Some (w old.stack 1)) (other old.stack)) link ∙ ap other (sym k.stack)) c.push_by.ensures

pub returns-in-Other : goal.returns-in-Other
returns-in-Other c =
    let old = c.args.store.now in
    let mid = c.read_link.new.store in
    let h = c.args.height in
    let k = c.in_ok-read_link.ensures.kept in
    let w : List (List ℕ) → ℕ → List ℕ = λ s n. get_or s (h - n) [] in
    let other : List (List ℕ) → RowAnswer = λ s. behind_by (link_of (w s 2)) (from_to (w s 4) (w s 3) (Some (w s 1))) (lseq_count (w s 5)) in
    let link = sym c.in_ok-read_link.ensures.link ∙ c.in-Other.is in
    let row = four_words (w old.stack 5) (w old.stack 4) (w old.stack 3) (w old.stack 2) (w old.stack 1) in
    leaves_on (other mid.stack) (kept_on row old mid k) (ap (λ (l : Link). linked l (w old.stack 4) (w old.stack 2) (Some (w old.stack 1)) (other old.stack)) link ∙ ap other (sym k.stack)) c.push_by-in-Other.ensures
