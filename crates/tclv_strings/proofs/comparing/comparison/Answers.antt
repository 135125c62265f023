use Rattle.std.proofs.Common.{◌≡◌, ℕ, ◌+◌, ◌-◌, true, false, Bool, List, [], take, drop, get_or, refl, sym, ap, ◌∙◌, arith, rules, to_z, of_z, w64, FitsSigned}
use Rattle.std.specs.Prelude.{ℤ, codes}
use Rattle.std.proofs.lemmas.Int.{ints}
use Rattle.std.proofs.lemmas.Result.{err_from_is_err_and}
use Rattle.tclv_model.specs.declared.usages.Usage.{Usage}
use Rattle.tclv_model.specs.Rows.{Answer, wrong_count}
use Rattle.tclv_model.specs.Usages.{usage_of}
use Rattle.tclv_model.specs.Values.{whole_of}
use Rattle.tclv_strings.specs.declared.comparing.ComparedAs.{ComparedAs}
use Rattle.tclv_strings.specs.Comparing.{nocase_read, with_case, with_len, comparison_read, verdict_usage, verdict_count}
use Rattle.tclv_reply.proofs.Laws.{grows_trans, refused_after, read_on, refused_there, went_as, went_kept, word_same, count_refused, reads_refused}
use Rattle.tclv_strings.proofs.ComparingLemmas.{len_step, len_missing, case_step}
use Rattle.tclv_strings.proofs.comparing.comparison.Goals as goal

pub returns-then-at-to : goal.returns-then-at-to
returns-then-at-to c =
    let old = c.args.store.now in
    let s = old.stack in
    let mid = c.word_is.new.store in
    let call = c.args.call in
    let v = c.args.verdict in
    let x : ComparedAs = record { nocase = c.words.nocase; len = c.words.len } in
    let w = went_kept c.words.invariant.came c.in_ok-word_is.ensures.kept in
    let e = word_same c.words.at (codes "-length") true c.in_ok-word_is.field-0 c.words.invariant.came c.in_ok-word_is.ensures.is c.if-branch.true in
    let row = len_missing (verdict_count v (get_or s call [])) c.words.at c.args.to x c.words-test.true c.requires.within w e c.if-at-to.true in
    let count : List (List ℕ) → Usage → Answer ComparedAs = λ q u. wrong_count (get_or q call []) (usage_of u) in
    let r = count_refused ComparedAs (get_or mid.stack call []) (usage_of c.usage_for.result) c.refuse_count.result mid.stack c.refuse_count.new.store.stack c.refuse_count.ensures.refused in
    reads_refused (grows_trans old mid c.refuse_count.new.store w.grows c.refuse_count.ensures.grows)
    (refused_after _ _ c.refuse_count.result old mid c.refuse_count.new.store w.grows
    (row ∙ ap (λ (q : List (List ℕ)). count q (verdict_usage v)) (sym w.same) ∙ ap (count mid.stack) (sym c.usage_for.ensures)) r)

pub returns-in_err-n : goal.returns-in_err-n
returns-in_err-n c =
    let s = c.args.store.now.stack in
    let missing : Answer ComparedAs = verdict_count c.args.verdict (get_or s c.args.call []) in
    let at = c.words.at in
    let to = c.args.to in
    let x : ComparedAs = record { nocase = c.words.nocase; len = c.words.len } in
    let w = went_kept c.words.invariant.came c.in_ok-word_is.ensures.kept in
    let e = word_same at (codes "-length") true c.in_ok-word_is.field-0 c.words.invariant.came c.in_ok-word_is.ensures.is c.if-branch.true in
    let v = len_step missing at to x c.words-test.true c.requires.within w e c.if-at-to.false in
    let f : ℤ → Answer ComparedAs = λ n. comparison_read missing (take (to - (at + 2)) (drop (at + 2) s)) (with_len x n) in
    let r = refused_there (whole_of (get_or s (at + 1) [])) f v (whole_of (get_or c.word_is.new.store.stack (at + 1) [])) (ap (λ (q : List (List ℕ)). whole_of (get_or q (at + 1) [])) (sym w.same)) c.in_err-n.ensures in
    let p = err_from_is_err_and c.from_residual-in_err-n.result c.from_residual-in_err-n.ensures.1 in
    rw (p.1, p.2) (reads_refused r.0 r.1)

pub words-preserved-then-branch : goal.words-preserved-then-branch
words-preserved-then-branch c =
    let s = c.args.store.now.stack in
    let missing : Answer ComparedAs = verdict_count c.args.verdict (get_or s c.args.call []) in
    let at = c.words.at in
    let to = c.args.to in
    let x : ComparedAs = record { nocase = c.words.nocase; len = c.words.len } in
    let w = went_kept c.words.invariant.came c.in_ok-word_is.ensures.kept in
    let e = word_same at (codes "-length") true c.in_ok-word_is.field-0 c.words.invariant.came c.in_ok-word_is.ensures.is c.if-branch.true in
    let v = len_step missing at to x c.words-test.true c.requires.within w e c.if-at-to.false in
    let f : ℤ → Answer ComparedAs = λ n. comparison_read missing (take (to - (at + 2)) (drop (at + 2) s)) (with_len x n) in
    let r = read_on (whole_of (get_or s (at + 1) [])) f v (whole_of (get_or c.word_is.new.store.stack (at + 1) [])) (ap (λ (q : List (List ℕ)). whole_of (get_or q (at + 1) [])) (sym w.same)) c.in_ok-n.ensures in
    let fits : FitsSigned w64 c.in_ok-n.n = search rules in
    let same : to_z w64 (of_z w64 c.in_ok-n.n) ≡ c.in_ok-n.n = omega (arith, ints) in
    record { came = went_as _ r.went (ap f (sym r.shown) ∙ ap f (sym same)); order = omega (arith, c.if-at-to.false, c.words-test.true) }

pub returns-in_err-nocase : goal.returns-in_err-nocase
returns-in_err-nocase c =
    let s = c.args.store.now.stack in
    let missing : Answer ComparedAs = verdict_count c.args.verdict (get_or s c.args.call []) in
    let at = c.words.at in
    let to = c.args.to in
    let x : ComparedAs = record { nocase = c.words.nocase; len = c.words.len } in
    let w = went_kept c.words.invariant.came c.in_ok-word_is.ensures.kept in
    let e = word_same at (codes "-length") false c.in_ok-word_is.field-0 c.words.invariant.came c.in_ok-word_is.ensures.is c.if-branch.false in
    let v = case_step missing at to x c.words-test.true c.requires.within w e in
    let f : Bool → Answer ComparedAs = λ b. comparison_read missing (take (to - (at + 1)) (drop (at + 1) s)) (with_case x b) in
    let r = refused_there (nocase_read (get_or s at [])) f v (nocase_read (get_or c.word_is.new.store.stack at [])) (ap (λ (q : List (List ℕ)). nocase_read (get_or q at [])) (sym w.same)) c.in_err-nocase.ensures in
    let p = err_from_is_err_and c.from_residual-in_err-nocase.result c.from_residual-in_err-nocase.ensures.1 in
    rw (p.1, p.2) (reads_refused r.0 r.1)

pub words-preserved : goal.words-preserved
words-preserved c =
    let s = c.args.store.now.stack in
    let missing : Answer ComparedAs = verdict_count c.args.verdict (get_or s c.args.call []) in
    let at = c.words.at in
    let to = c.args.to in
    let x : ComparedAs = record { nocase = c.words.nocase; len = c.words.len } in
    let w = went_kept c.words.invariant.came c.in_ok-word_is.ensures.kept in
    let e = word_same at (codes "-length") false c.in_ok-word_is.field-0 c.words.invariant.came c.in_ok-word_is.ensures.is c.if-branch.false in
    let v = case_step missing at to x c.words-test.true c.requires.within w e in
    let f : Bool → Answer ComparedAs = λ b. comparison_read missing (take (to - (at + 1)) (drop (at + 1) s)) (with_case x b) in
    let r = read_on (nocase_read (get_or s at [])) f v (nocase_read (get_or c.word_is.new.store.stack at [])) (ap (λ (q : List (List ℕ)). nocase_read (get_or q at [])) (sym w.same)) c.in_ok-nocase.ensures in
    record { came = went_as _ r.went (ap f (sym r.shown)); order = omega (arith, c.words-test.true) }

pub returns : goal.returns
returns c =
    let s = c.args.store.now.stack in
    let missing : Answer ComparedAs = verdict_count c.args.verdict (get_or s c.args.call []) in
    let x : ComparedAs = record { nocase = c.words.nocase; len = c.words.len } in
    let w = c.words.invariant.came in
    let end : c.args.to - c.words.at ≡ 0 = omega (arith, c.words-test.false) in
    record {
      grows = w.grows;
      kept = w.same;
      gives = record { read = x; given = w.is ∙ ap (λ (k : ℕ). comparison_read missing (take k (drop c.words.at s)) x) end; shown = refl };
      refuses = tt;
    }
