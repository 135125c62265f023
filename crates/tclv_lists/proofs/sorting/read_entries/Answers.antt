use Rattle.std.proofs.Common.{◌≡◌, ◌∙◌, ◌+◌, ◌-◌, ◌<◌, ℕ, List, [], ◌∷◌, ◌++◌, length, take, drop, map, get_or, sym, ap, arith, subst}
use Rattle.std.proofs.lemmas.List.{map-append}
use Rattle.std.specs.List.{All}
use Rattle.std.specs.Option.{option_map}
use Rattle.std.proofs.lemmas.List.Elements.{All-push}
use Rattle.tclv_model.specs.Rows.{Answer, Gives, and_then}
use Rattle.tclv_lists.specs.declared.sorting.Key.{Key}
use Rattle.tclv_lists.specs.declared.sorting.Entry.{Entry}
use Rattle.tclv_lists.specs.Sorting.{key_of, keyed, pair_of}
use Rattle.tclv_reply.proofs.Laws.{read_on, refused_there, went_as, words_step, reads_refused}
use Rattle.tclv_lists.proofs.GivenLemmas.{keyed_more}
use Rattle.tclv_lists.proofs.sorting.read_entries.Goals as goal

pub returns-in-Err : goal.returns-in-Err
returns-in-Err c =
    let s = c.args.store.now.stack in
    let o = c.args.order in
    let at = c.loop-at.at in
    let to = c.args.to in
    let named : List (List ℕ) → _ = λ q. option_map (λ k. get_or q k []) c.args.index in
    let w = c.loop-at.invariant.came in
    let t = get_or s at [] in
    let done = map (pair_of s) c.loop-at.entries.items in
    let rest = keyed o (named s) (take (to - (at + 1)) (drop (at + 1) s)) in
    let pair : Key → Key × List ℕ = λ k. (k, t) in
    let f : Key → Answer (List (Key × List ℕ)) = λ k. and_then rest (λ es. Gives ((done ++ pair k ∷ []) ++ es)) in
    let v = went_as _ w (ap (λ (ws : List (List ℕ)). let a : Answer (List (Key × List ℕ)) = and_then (keyed o (named s) ws) (λ es. Gives (done ++ es)) in a) (words_step s at to (omega (arith, c.loop-at-test.true)) c.requires.within) ∙ keyed_more (key_of o (named s) t) rest pair done) in
    let r = refused_there (key_of o (named s) t) f v (key_of o (named c.loop-at.store.stack) (get_or c.loop-at.store.stack at [])) (ap (λ (q : List (List ℕ)). key_of o (named q) (get_or q at [])) (sym w.same)) c.in-Err.ensures in
    reads_refused r.0 r.1

pub loop-at-preserved : goal.loop-at-preserved
loop-at-preserved c =
    let s = c.args.store.now.stack in
    let o = c.args.order in
    let at = c.loop-at.at in
    let to = c.args.to in
    let named : List (List ℕ) → _ = λ q. option_map (λ k. get_or q k []) c.args.index in
    let w = c.loop-at.invariant.came in
    let t = get_or s at [] in
    let xs = c.loop-at.entries.items in
    let done = map (pair_of s) xs in
    let rest = keyed o (named s) (take (to - (at + 1)) (drop (at + 1) s)) in
    let pair : Key → Key × List ℕ = λ k. (k, t) in
    let f : Key → Answer (List (Key × List ℕ)) = λ k. and_then rest (λ es. Gives ((done ++ pair k ∷ []) ++ es)) in
    let v = went_as _ w (ap (λ (ws : List (List ℕ)). let a : Answer (List (Key × List ℕ)) = and_then (keyed o (named s) ws) (λ es. Gives (done ++ es)) in a) (words_step s at to (omega (arith, c.loop-at-test.true)) c.requires.within) ∙ keyed_more (key_of o (named s) t) rest pair done) in
    let r = read_on (key_of o (named s) t) f v (key_of o (named c.loop-at.store.stack) (get_or c.loop-at.store.stack at [])) (ap (λ (q : List (List ℕ)). key_of o (named q) (get_or q at [])) (sym w.same)) c.in-Ok.ensures in
    let e : Entry = record { key = c.in-Ok.key; at = at } in
    let new = c.add_entry.new.entries.items in
    let items : new ≡ xs ++ e ∷ [] = c.in_ok-add_entry-in-Ok.ensures in
    let pairs : map (pair_of s) new ≡ done ++ pair c.in-Ok.key ∷ [] = ap (map (pair_of s)) items ∙ map-append (pair_of s) xs (e ∷ []) in
    let inside : at < length s = omega (arith, c.loop-at-test.true, c.requires.within) in
    record {
      came = went_as _ r.went (ap f (sym r.shown) ∙ ap (λ (ps : List (Key × List ℕ)). let a : Answer (List (Key × List ℕ)) = and_then rest (λ es. Gives (ps ++ es)) in a) (sym pairs));
      within = subst (λ (l : List Entry). All (λ x. x.at < length s) l) (sym items) (All-push (λ x. x.at < length s) xs e c.loop-at.invariant.within inside);
    }
