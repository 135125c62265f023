use Rattle.std.proofs.Common.{◌≡◌, ◌∙◌, Bool, true, false, cond, sym, ap, List, ℕ}
use Rattle.std.specs.Prelude.{codes}
use Rattle.std.specs.Str.{chars}
use Rattle.tclv_text.specs.Globs.{matches}
use Rattle.tclv_ctl.specs.declared.switching.Leading.TheVariants.{Unknown, Plain}
use Rattle.tclv_ctl.proofs.TextLemmas.{pattern_points}
use Rattle.tclv_ctl.proofs.SwitchLemmas.{reads_exact, reads_glob, reads_nocase, reads_end, reads_other}
use Rattle.tclv_ctl.proofs.switching.read_leading.Goals as goal

pub returns-then-is_word : goal.returns-then-is_word
returns-then-is_word c = reads_exact c.args.word.now c.requires (sym c.is_word.ensures ∙ c.if-is_word.true)

pub returns-then-is_word-2 : goal.returns-then-is_word-2
returns-then-is_word-2 c = reads_glob c.args.word.now c.requires (sym c.is_word.ensures ∙ c.if-is_word.false) (sym c.is_word-else-is_word.ensures ∙ c.if-is_word-2.true)

pub returns-then-is_word-3 : goal.returns-then-is_word-3
returns-then-is_word-3 c =
    reads_nocase c.args.word.now c.requires (sym c.is_word.ensures ∙ c.if-is_word.false) (sym c.is_word-else-is_word.ensures ∙ c.if-is_word-2.false) (sym c.is_word-else-is_word-2.ensures ∙ c.if-is_word-3.true)

pub returns-then-is_word-4 : goal.returns-then-is_word-4
returns-then-is_word-4 c =
    reads_end c.args.word.now c.requires (sym c.is_word.ensures ∙ c.if-is_word.false) (sym c.is_word-else-is_word.ensures ∙ c.if-is_word-2.false) (sym c.is_word-else-is_word-2.ensures ∙ c.if-is_word-3.false) (sym c.is_word-else-is_word-3.ensures ∙ c.if-is_word-4.true)

pub returns-then-glob_match : goal.returns-then-glob_match
returns-then-glob_match c =
    let fits : matches false (codes "-*") (chars c.args.word.now) ≡ true = ap (λ (p : List ℕ). matches false p (chars c.args.word.now)) (sym pattern_points) ∙ sym c.glob_match.ensures ∙ c.if-glob_match.true in
    sym (reads_other c.args.word.now c.requires (sym c.is_word.ensures ∙ c.if-is_word.false) (sym c.is_word-else-is_word.ensures ∙ c.if-is_word-2.false) (sym c.is_word-else-is_word-2.ensures ∙ c.if-is_word-3.false) (sym c.is_word-else-is_word-3.ensures ∙ c.if-is_word-4.false)
    ∙ ap (λ (b : Bool). cond b Unknown Plain) fits)

pub returns-else-glob_match : goal.returns-else-glob_match
returns-else-glob_match c =
    let fits : matches false (codes "-*") (chars c.args.word.now) ≡ false = ap (λ (p : List ℕ). matches false p (chars c.args.word.now)) (sym pattern_points) ∙ sym c.glob_match.ensures ∙ c.if-glob_match.false in
    sym (reads_other c.args.word.now c.requires (sym c.is_word.ensures ∙ c.if-is_word.false) (sym c.is_word-else-is_word.ensures ∙ c.if-is_word-2.false) (sym c.is_word-else-is_word-2.ensures ∙ c.if-is_word-3.false) (sym c.is_word-else-is_word-3.ensures ∙ c.if-is_word-4.false)
    ∙ ap (λ (b : Bool). cond b Unknown Plain) fits)
