use Rattle.std.proofs.Common.{◌≡◌, ℕ, List, [], Option, Some, None, IsSome, is_some, true≢false, refl, sym, ap, ◌∙◌}
use Rattle.std.proofs.Common.{length}
use Rattle.std.specs.Option.{unwrap_or}
use Rattle.tclv_heap.specs.Counters.{raised, text_size}
use Rattle.tclv_value.specs.ListObjects.{CountsRead}
use Rattle.tclv_value.specs.Kept.{list_at}
use Rattle.tclv_heap.specs.Graph.{at}
use Rattle.tclv_heap.specs.Holders.{Holders}
use Rattle.tclv_value.specs.Forms.{form_table}
use Rattle.tclv_value.proofs.GraphLemmas.{retexted_there}
use Rattle.tclv_value.proofs.RetellLemmas.{read_stay, read_count}
use Rattle.tclv_value.proofs.KeptLemmas.{apart_made, depth_made, made_outside, kept_keeps, kept_texts, kept_list, kept_alone}
use Rattle.tclv_value.proofs.kept_lists.keep_list.Goals as goal
use Rattle.tclv_value.proofs.kept_lists.keep_list.Goals.{In_ok-list, After-set_form}

there : (c : In_ok-list) → IsSome (at c.args.heap.now.graph c.args.id)
there c = c.requires.outside.holders.there c.args.id c.requires.outside.listed

there_b : (c : In_ok-list) → IsSome (at c.make_string.new.self.graph c.args.id)
there_b c = retexted_there _ _ _ c.make_string.ensures.retexts c.args.id (there c)

holders : (c : In_ok-list) → Holders form_table.parts c.make_string.new.self.graph c.requires.outside.ids
holders c = c.make_string.ensures.holders c.requires.outside.ids c.requires.outside.holders

pub set_form-requires-clause-apart : goal.set_form-requires-clause-apart
set_form-requires-clause-apart c = apart_made _ _ _ _ c.in_ok-list.ensures.read.2 c.args.id (there_b (goal.at.set_form-requires-clause-apart c).In_ok-list)

pub set_form-requires-clause-depth : goal.set_form-requires-clause-depth
set_form-requires-clause-depth c = depth_made _ _ _ _ c.in_ok-list.ensures.read.2 c.in_ok-list.list refl

pub returns-clause-list : goal.returns-clause-list
returns-clause-list c =
    let a = (goal.at.returns-clause-list c).In_ok-list in
    let stays = c.set_form.ensures.stays (made_outside _ _ _ _ c.in_ok-list.ensures.read.2 c.requires.outside.ids c.args.id (holders a) c.requires.outside.listed) in
    ap is_some (kept_list _ _ _ _ c.args.id _ c.in_ok-list.list (there a) c.make_string.ensures.retexts c.in_ok-make_string.ensures.keeps c.in_ok-list.ensures.read.2 c.set_form.ensures.keeps (ap is_some c.in_ok-make_string.ensures.made) c.set_form.ensures.set stays)

pub returns-clause-there : goal.returns-clause-there
returns-clause-there c =
    let a = (goal.at.returns-clause-there c).In_ok-list in
    c.set_form.ensures.stays (made_outside _ _ _ _ c.in_ok-list.ensures.read.2 c.requires.outside.ids c.args.id (holders a) c.requires.outside.listed)

pub returns-clause-keeps : goal.returns-clause-keeps
returns-clause-keeps c =
    let a = (goal.at.returns-clause-keeps c).In_ok-list in
    kept_keeps _ _ _ _ c.args.id _ c.in_ok-list.list (there a) c.make_string.ensures.retexts c.in_ok-make_string.ensures.keeps c.in_ok-list.ensures.read.2 c.set_form.ensures.keeps (ap is_some c.in_ok-make_string.ensures.made) c.set_form.ensures.set

pub returns-clause-texts : goal.returns-clause-texts
returns-clause-texts c =
    let a = (goal.at.returns-clause-texts c).In_ok-list in
    kept_texts _ _ _ _ c.args.id _ c.in_ok-list.list (there a) c.make_string.ensures.retexts c.in_ok-make_string.ensures.keeps c.in_ok-list.ensures.read.2 c.set_form.ensures.keeps (ap is_some c.in_ok-make_string.ensures.made) c.set_form.ensures.set

unlisted : (c : In_ok-list) → list_at c.args.heap.now.graph c.args.id ≡ None
unlisted c = by_option (list_at c.args.heap.now.graph c.args.id) (λ is. true≢false (sym (c.is_list.ensures.1 is) ∙ c.if-is_list.false))
  where
    by_option : (x : Option (List ℕ)) → (IsSome x → ⊥) → x ≡ None
    by_option None empty = refl
    by_option (Some xs) empty = absurd (empty refl)

pub returns-clause-stay : goal.returns-clause-stay
returns-clause-stay c =
    let a = (goal.at.returns-clause-stay c).In_ok-list in
    read_stay _ _ _ _ _ c.args.id _ _ (there a) c.make_string.ensures.retexts c.in_ok-list.ensures.read.2 (unlisted a) _ _ c.set_form.ensures.rest_stays

pub returns-clause-count : goal.returns-clause-count
returns-clause-count c =
    let a = (goal.at.returns-clause-count c).In_ok-list in
    read_count _ _ _ _ _ c.args.id _ _ (there a) c.make_string.ensures.retexts c.in_ok-list.ensures.read.2 (unlisted a) _ _ c.set_form.ensures.rest_stays

pub returns-clause-alone : goal.returns-clause-alone
returns-clause-alone c one =
    let a = (goal.at.returns-clause-alone c).In_ok-list in
    let stays = c.set_form.ensures.stays (made_outside _ _ _ _ c.in_ok-list.ensures.read.2 c.requires.outside.ids c.args.id (holders a) c.requires.outside.listed) in
    kept_alone _ _ _ _ c.args.id _ c.in_ok-list.list (there a) c.make_string.ensures.retexts c.in_ok-make_string.ensures.keeps c.in_ok-list.ensures.read.2 c.set_form.ensures.keeps (ap is_some c.in_ok-make_string.ensures.made) c.set_form.ensures.set one stays

pub returns-then-is_list-clause-counted : goal.returns-then-is_list-clause-counted
unfolding CountsRead
returns-then-is_list-clause-counted c = (λ _. refl, λ no. absurd (no (c.is_list.ensures.0 c.if-is_list.true)), refl)

pub returns-clause-counted : goal.returns-clause-counted
unfolding CountsRead
returns-clause-counted c =
    let a = (goal.at.returns-clause-counted c).In_ok-list in
    let d = c.read_list.new.heap in
    let size = ap text_size (c.in_ok-list.ensures.read.2.others c.args.id (there_b a)) ∙ ap (λ t. length (unwrap_or t [])) c.in_ok-make_string.ensures.made in
    let none = unlisted a in (
      λ list. absurd (true≢false (sym list ∙ ap is_some none)),
      λ _. ap (λ s. s.read) c.set_form.ensures.read
          ∙ ap (λ s. raised s.read (text_size (at d.graph c.args.id))) c.in_ok-list.ensures.stats
          ∙ ap (λ h. raised h.stats.read (text_size (at d.graph c.args.id))) c.make_string.ensures.rest
          ∙ ap (raised c.args.heap.now.stats.read) size,
      ap (λ s. s.copied) c.set_form.ensures.read ∙ ap (λ s. s.copied) c.in_ok-list.ensures.stats ∙ ap (λ h. h.stats.copied) c.make_string.ensures.rest,
    )
