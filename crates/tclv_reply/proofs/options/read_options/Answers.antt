use Rattle.std.proofs.Common.{◌≡◌, ℕ, ◌+◌, ◌-◌, true, false, List, [], take, drop, get_or, Some, refl, sym, ap, ◌∙◌, arith}
use Rattle.std.specs.Prelude.{ℤ}
use Rattle.std.specs.Option.{option_map}
use Rattle.std.proofs.lemmas.Result.{err_from_is_err_and}
use Rattle.tclv_model.specs.Rows.{Answer, wrong_count}
use Rattle.tclv_model.specs.Usages.{usage_of}
use Rattle.tclv_model.specs.Values.{place_of}
use Rattle.tclv_reply.specs.Options.{Options, known_or_bad, options_read}
use Rattle.tclv_reply.proofs.ReplyLemmas.{grows_trans, refused_after}
use Rattle.tclv_reply.proofs.StepLemmas.{read_on, refused_there, went_as, went_kept}
use Rattle.tclv_reply.proofs.OptionSteps.{word_same, value_step, missing_step, word_step, count_refused, reads_refused}
use Rattle.tclv_reply.proofs.options.read_options.Goals as goal

pub returns-then-at-words : goal.returns-then-at-words
returns-then-at-words g c =
    let old = c.args.store.now in
    let s = old.stack in
    let name = c.args.name.now in
    let usage = usage_of c.args.usage in
    let set : List ℕ → g.row.S.Denot → Answer g.row.S.Denot = λ o y. known_or_bad o (g.S.Settings.after o y) in
    let mid = c.word_is.new.store in
    let call = c.args.words.call in
    let x : Options g.row.S.Denot = record { settings = c.words.settings; index = option_map (λ k. get_or s k []) c.words.index } in
    let w = went_kept c.words.invariant.came c.in_ok-word_is.ensures.kept in
    let e = word_same c.words.at name true c.in_ok-word_is.field-0 c.words.invariant.came c.in_ok-word_is.ensures.is c.if-branch.true in
    let row = missing_step name set (wrong_count (get_or s call []) usage) c.words.at c.args.words.to x c.words-test.true c.requires.within w e c.if-at-words.true in
    let r = count_refused (Options g.row.S.Denot) (get_or mid.stack call []) usage c.refuse_count.result mid.stack c.refuse_count.new.store.stack c.refuse_count.ensures.refused in
    reads_refused (grows_trans old mid c.refuse_count.new.store w.grows c.refuse_count.ensures.grows)
    (refused_after _ _ c.refuse_count.result old mid c.refuse_count.new.store w.grows (row ∙ ap (λ (q : List (List ℕ)). let a : Answer (Options g.row.S.Denot) = wrong_count (get_or q call []) usage in a) (sym w.same)) r)

pub returns-in_err-check_index : goal.returns-in_err-check_index
returns-in_err-check_index g c =
    let s = c.args.store.now.stack in
    let name = c.args.name.now in
    let set : List ℕ → g.row.S.Denot → Answer g.row.S.Denot = λ o y. known_or_bad o (g.S.Settings.after o y) in
    let missing : Answer (Options g.row.S.Denot) = wrong_count (get_or s c.args.words.call []) (usage_of c.args.usage) in
    let at = c.words.at in
    let to = c.args.words.to in
    let x : Options g.row.S.Denot = record { settings = c.words.settings; index = option_map (λ k. get_or s k []) c.words.index } in
    let w = went_kept c.words.invariant.came c.in_ok-word_is.ensures.kept in
    let e = word_same at name true c.in_ok-word_is.field-0 c.words.invariant.came c.in_ok-word_is.ensures.is c.if-branch.true in
    let v = value_step name set missing at to x c.words-test.true c.requires.within w e c.if-at-words.false in
    let f : ℤ → Answer (Options g.row.S.Denot) = λ _. options_read name set missing (take (to - (at + 2)) (drop (at + 2) s)) (record { settings = c.words.settings; index = Some (get_or s (at + 1) []) }) in
    let r = refused_there (place_of (get_or s (at + 1) []) 0) f v (place_of (get_or c.word_is.new.store.stack (at + 1) []) 0) (ap (λ (q : List (List ℕ)). place_of (get_or q (at + 1) []) 0) (sym w.same)) c.in_err-check_index.ensures in
    let p = err_from_is_err_and c.from_residual-in_err-check_index.result c.from_residual-in_err-check_index.ensures.1 in
    rw (p.1, p.2) (reads_refused r.0 r.1)

pub words-preserved-then-branch : goal.words-preserved-then-branch
words-preserved-then-branch g c =
    let s = c.args.store.now.stack in
    let name = c.args.name.now in
    let set : List ℕ → g.row.S.Denot → Answer g.row.S.Denot = λ o y. known_or_bad o (g.S.Settings.after o y) in
    let missing : Answer (Options g.row.S.Denot) = wrong_count (get_or s c.args.words.call []) (usage_of c.args.usage) in
    let at = c.words.at in
    let to = c.args.words.to in
    let x : Options g.row.S.Denot = record { settings = c.words.settings; index = option_map (λ k. get_or s k []) c.words.index } in
    let w = went_kept c.words.invariant.came c.in_ok-word_is.ensures.kept in
    let e = word_same at name true c.in_ok-word_is.field-0 c.words.invariant.came c.in_ok-word_is.ensures.is c.if-branch.true in
    let v = value_step name set missing at to x c.words-test.true c.requires.within w e c.if-at-words.false in
    let f : ℤ → Answer (Options g.row.S.Denot) = λ _. options_read name set missing (take (to - (at + 2)) (drop (at + 2) s)) (record { settings = c.words.settings; index = Some (get_or s (at + 1) []) }) in
    let r = read_on (place_of (get_or s (at + 1) []) 0) f v (place_of (get_or c.word_is.new.store.stack (at + 1) []) 0) (ap (λ (q : List (List ℕ)). place_of (get_or q (at + 1) []) 0) (sym w.same)) c.in_ok-check_index.ensures in
    record {
      came = r.went;
      order = omega (arith, c.if-at-words.false);
      there = λ k i. let j : at + 1 ≡ k = cc in omega (arith, j, c.if-at-words.false, c.words-test.true, c.requires.within);
    }

pub returns-in_err-settings : goal.returns-in_err-settings
returns-in_err-settings g c =
    let s = c.args.store.now.stack in
    let name = c.args.name.now in
    let set : List ℕ → g.row.S.Denot → Answer g.row.S.Denot = λ o y. known_or_bad o (g.S.Settings.after o y) in
    let missing : Answer (Options g.row.S.Denot) = wrong_count (get_or s c.args.words.call []) (usage_of c.args.usage) in
    let at = c.words.at in
    let to = c.args.words.to in
    let x : Options g.row.S.Denot = record { settings = c.words.settings; index = option_map (λ k. get_or s k []) c.words.index } in
    let w = went_kept c.words.invariant.came c.in_ok-word_is.ensures.kept in
    let e = word_same at name false c.in_ok-word_is.field-0 c.words.invariant.came c.in_ok-word_is.ensures.is c.if-branch.false in
    let v = word_step name set missing at to x c.words-test.true c.requires.within w e in
    let f : g.row.S.Denot → Answer (Options g.row.S.Denot) = λ y. options_read name set missing (take (to - (at + 1)) (drop (at + 1) s)) (record { settings = y; index = x.index }) in
    let r = refused_there (set (get_or s at []) c.words.settings) f v (set (get_or c.word_is.new.store.stack at []) c.words.settings) (ap (λ (q : List (List ℕ)). set (get_or q at []) c.words.settings) (sym w.same)) c.in_err-settings.ensures in
    let p = err_from_is_err_and c.from_residual-in_err-settings.result c.from_residual-in_err-settings.ensures.1 in
    rw (p.1, p.2) (reads_refused r.0 r.1)

pub words-preserved : goal.words-preserved
words-preserved g c =
    let s = c.args.store.now.stack in
    let name = c.args.name.now in
    let set : List ℕ → g.row.S.Denot → Answer g.row.S.Denot = λ o y. known_or_bad o (g.S.Settings.after o y) in
    let missing : Answer (Options g.row.S.Denot) = wrong_count (get_or s c.args.words.call []) (usage_of c.args.usage) in
    let at = c.words.at in
    let to = c.args.words.to in
    let x : Options g.row.S.Denot = record { settings = c.words.settings; index = option_map (λ k. get_or s k []) c.words.index } in
    let w = went_kept c.words.invariant.came c.in_ok-word_is.ensures.kept in
    let e = word_same at name false c.in_ok-word_is.field-0 c.words.invariant.came c.in_ok-word_is.ensures.is c.if-branch.false in
    let v = word_step name set missing at to x c.words-test.true c.requires.within w e in
    let f : g.row.S.Denot → Answer (Options g.row.S.Denot) = λ y. options_read name set missing (take (to - (at + 1)) (drop (at + 1) s)) (record { settings = y; index = x.index }) in
    let r = read_on (set (get_or s at []) c.words.settings) f v (set (get_or c.word_is.new.store.stack at []) c.words.settings) (ap (λ (q : List (List ℕ)). set (get_or q at []) c.words.settings) (sym w.same)) c.in_ok-settings.ensures in
    record {
      came = went_as _ r.went (ap f (sym r.shown));
      order = omega (arith, c.words-test.true);
      there = c.words.invariant.there;
    }

pub returns : goal.returns
returns g c =
    let s = c.args.store.now.stack in
    let name = c.args.name.now in
    let set : List ℕ → g.row.S.Denot → Answer g.row.S.Denot = λ o y. known_or_bad o (g.S.Settings.after o y) in
    let missing : Answer (Options g.row.S.Denot) = wrong_count (get_or s c.args.words.call []) (usage_of c.args.usage) in
    let x : Options g.row.S.Denot = record { settings = c.words.settings; index = option_map (λ k. get_or s k []) c.words.index } in
    let w = c.words.invariant.came in
    let end : c.args.words.to - c.words.at ≡ 0 = omega (arith, c.words-test.false) in
    record {
      grows = w.grows;
      kept = w.same;
      gives = record {
        read = x;
        given = w.is ∙ ap (λ (k : ℕ). options_read name set missing (take k (drop c.words.at s)) x) end;
        shown = record { settings = refl; index = refl; within = c.words.invariant.there };
      };
      refuses = tt;
    }
