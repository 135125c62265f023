use Rattle.std.proofs.Common.{◌≡◌, ◌<◌, ◌≤◌, ◌-◌, ◌+◌, ◌∙◌, List, ℕ, [], ◌∷◌, length, take, drop, get_or, refl, sym, ap, arith, append-nil}
use Rattle.std.proofs.lemmas.List.{get_or_push, length_push}
use Rattle.tclv_text.specs.Quotes.{list_text}
use Rattle.tclv_model.specs.Rows.{RowAnswer, Gives, Refuses, and_then}
use Rattle.tclv_value.specs.View.{View}
use Rattle.tclv_value.specs.Paths.{put_at}
use Rattle.tclv_reply.specs.Replies.{Grows}
use Rattle.tclv_lists.specs.Paths.{put_along}
use Rattle.tclv_reply.proofs.Laws.{grows_trans, refused_on, refused_after, words_step, word_kept}
use Rattle.tclv_lists.proofs.AlongLemmas.{wrapped}
use Rattle.tclv_lists.proofs.setting.walk_along.Goals as goal

-- the row at a step, where the index is read from the stack of that time
came_to : (row : RowAnswer) (old cur : View) (t x : List ℕ) (wrap : List ℕ → List ℕ) (i to : ℕ) → Grows old cur → i < to → to ≤ length old.stack → row ≡ and_then (put_along t (take (to - i) (drop i old.stack)) x) (λ y. Gives (wrap y)) →
    row ≡ and_then (put_along t (get_or cur.stack i [] ∷ take (to - (i + 1)) (drop (i + 1) old.stack)) x) (λ y. Gives (wrap y))
came_to row old cur t x wrap i to g h l e =
    let path = take (to - (i + 1)) (drop (i + 1) old.stack) in
    let rest : List (List ℕ) → RowAnswer = λ p. and_then (put_along t p x) (λ y. Gives (wrap y)) in
    e ∙ ap rest (words_step old.stack i to h l) ∙ ap (λ w. rest (w ∷ path)) (sym (word_kept old.stack cur.stack g.more i g.stack (omega arith)))

same : (a : RowAnswer) → a ≡ and_then a (λ y. Gives y)
same (Gives y) = refl
same (Refuses kind message code) = refl

pub returns-in-Err-clause-grows : goal.returns-in-Err-clause-grows
returns-in-Err-clause-grows c = grows_trans c.args.store.now c.loop-index.store c.step_along.new.store c.loop-index.invariant.grows c.in-Err.ensures.grows

pub returns-in-Err-clause-refuses : goal.returns-in-Err-clause-refuses
returns-in-Err-clause-refuses c = λ x.
    let old = c.args.store.now in
    let cur = c.loop-index.store in
    let new = c.step_along.new.store in
    let i = c.loop-index.index in
    let v = c.loop-index.invariant in
    let path = take (c.args.to - (i + 1)) (drop (i + 1) old.stack) in
    let t = get_or cur.stack c.loop-index.at [] in
    let f : List ℕ → RowAnswer = λ y. Gives (v.wrap y) in
    let e = came_to _ old cur t x v.wrap i c.args.to v.grows (omega arith) (omega arith) (v.came x) in
    refused_after _ (and_then (put_along t (get_or cur.stack i [] ∷ path) x) f) c.in-Err.kind old cur new v.grows e (refused_on (put_along t (get_or cur.stack i [] ∷ path) x) f c.in-Err.kind cur.stack new.stack (c.in-Err.ensures.refuses path x))

pub loop-index-preserved : goal.loop-index-preserved
loop-index-preserved c =
    let old = c.args.store.now in
    let cur = c.loop-index.store in
    let new = c.step_along.new.store in
    let i = c.loop-index.index in
    let v = c.loop-index.invariant in
    let path = take (c.args.to - (i + 1)) (drop (i + 1) old.stack) in
    let t = get_or cur.stack c.loop-index.at [] in
    let r = c.in-Ok.ensures.reached in
    let inner : List ℕ → List ℕ = λ y. list_text (put_at r.list r.place y) in
    let len : length new.stack ≡ length cur.stack + 1 = ap length r.top ∙ length_push cur.stack r.text in
    let at : length cur.stack ≡ c.height-at.result - 1 = omega (arith, c.height-at.ensures) in
    let top = ap (λ (s : List (List ℕ)). get_or s (c.height-at.result - 1) []) r.top ∙ get_or_push cur.stack r.text [] (c.height-at.result - 1) at in
    record {
      wrap = λ y. v.wrap (inner y);
      came = λ x.
          came_to _ old cur t x v.wrap i c.args.to v.grows (omega arith) (omega arith) (v.came x)
          ∙ ap (λ (a : RowAnswer). and_then a (λ y. Gives (v.wrap y))) (r.rest path x)
          ∙ wrapped (put_along r.text path x) inner v.wrap
          ∙ ap (λ (u : List ℕ). and_then (put_along u path x) (λ y. Gives (v.wrap (inner y)))) (sym top);
      grows = grows_trans old cur new v.grows c.in-Ok.ensures.grows;
      there = omega (arith, c.height-at.ensures);
    }

pub loop-index-init : goal.loop-index-init
loop-index-init c =
    let s = c.args.store.now in
    let t = get_or s.stack c.args.list [] in
    let path = take (c.args.to - c.args.from) (drop c.args.from s.stack) in
    record {
      wrap = λ y. y;
      came = λ x. same (put_along t path x);
      grows = record { more = []; stack = sym (append-nil s.stack); cells = refl; stays = λ place there made. made };
      there = c.requires.list;
    }
