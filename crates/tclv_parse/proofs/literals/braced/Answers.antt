use Rattle.std.proofs.Common.{◌≡◌, ◌==◌, ◌<◌, ℕ, false, List, [], ◌∷◌, ◌++◌, length, drop, take, Ok, ap, ap₂, sym, ◌∙◌, arith, append_assoc, length-drop}
use Rattle.std.proofs.lemmas.List.{append-nil}
use Rattle.tclv_text.specs.Cursors.{sign, escape_char}
use Rattle.tclv_text.specs.declared.cursors.Sign.TheVariants as s
use Rattle.tclv_parse.specs.declared.runs.Run.TheVariants as run
use Rattle.tclv_parse.specs.Runs.{run_len, run_end, level_of}
use Rattle.tclv_parse.specs.Readings.{valued_end}
use Rattle.tclv_parse.specs.Grammar.{braced}
use Rattle.tclv_parse.proofs.RunLaws.{not_zero}
use Rattle.tclv_parse.proofs.TreeLaws.{moved, unmoved}
use Rattle.tclv_parse.proofs.ReadLaws.{braced-end, braced-fold, fold-less, braced-close, braced-raw, raw-less}
use Rattle.tclv_parse.proofs.literals.braced.Goals.{in_default-via-in-CloseBrace+else-level-eq0, in_default-via-in_default}
use Rattle.tclv_parse.proofs.literals.braced.Goals as goal

pub raw-init : goal.raw-init
raw-init c =
    record {
      reads = unmoved (λ x. c.empty-text.result ++ x) (braced c.args.cursor.now 0).1 (λ x. ap (λ y. y ++ x) c.empty-text.ensures);
      room = omega arith;
    }

pub returns-in-End-clause-reads : goal.returns-in-End-clause-reads
returns-in-End-clause-reads c = c.raw.invariant.reads ∙ ap (valued_end (λ x. c.raw.text ++ x)) (braced-end c.raw.cursor c.raw.level (sym c.peek.ensures ∙ c.in-End.is))

pub returns-in-CloseBrace-clause-reads : goal.returns-in-CloseBrace-clause-reads
returns-in-CloseBrace-clause-reads c =
    c.raw.invariant.reads
    ∙ ap (valued_end (λ x. c.raw.text ++ x)) (braced-close c.raw.cursor c.raw.level (ap (λ n. n == 0) c.if-level-eq0.true) (sym c.peek.ensures ∙ c.in-CloseBrace.is))
    ∙ ap₂ (λ x y. Ok (x, y)) (append-nil c.raw.text) (sym c.skip.ensures)

pub returns-in-CloseBrace-clause-left : goal.returns-in-CloseBrace-clause-left
returns-in-CloseBrace-clause-left c = omega (arith, c.raw.invariant.room, ap length c.skip.ensures, length-drop 1 c.raw.cursor)

pub raw-smaller-in-Fold-1 : goal.raw-smaller-in-Fold-1
raw-smaller-in-Fold-1 c =
    let l : length c.skip_escape.new.self < length c.raw.cursor = omega (arith, ap length c.skip_escape.ensures.rest, fold-less c.raw.cursor c.raw.level (sym c.peek.ensures ∙ c.in-Fold.is)) in l

pub raw-preserved-in-Fold-1 : goal.raw-preserved-in-Fold-1
raw-preserved-in-Fold-1 c =
    let t = c.raw.cursor in
    let h : sign t ≡ s.Fold = sym c.peek.ensures ∙ c.in-Fold.is in
    let next = braced-fold t c.raw.level h ∙ ap (λ u. valued_end (λ x. escape_char t ∷ x) (braced u c.raw.level).1) (sym c.skip_escape.ensures.rest) in
    let join = λ (x : List ℕ). ap (λ y. c.raw.text ++ y ∷ x) (sym c.skip_escape.ensures.char) ∙ sym (append_assoc c.raw.text (c.skip_escape.result ∷ []) x) ∙ ap (λ l. l ++ x) (sym c.in_ok-push_char-in-Fold.ensures) in
    record {
      reads =
          c.raw.invariant.reads
          ∙ moved (λ x. c.raw.text ++ x) (λ x. escape_char t ∷ x) (λ x. c.push_char.new.text ++ x) (braced t c.raw.level).1 (braced c.skip_escape.new.self c.raw.level).1 next join;
      room = omega (arith, c.raw.invariant.room, ap length c.skip_escape.ensures.rest, fold-less t c.raw.level h);
    }

pub raw-smaller : goal.raw-smaller
raw-smaller c =
    let t = c.raw.cursor in
    let less = λ (a : sign t ≡ s.End → ⊥) (b : sign t ≡ s.Fold → ⊥) (d : sign t ≡ s.CloseBrace → (c.raw.level == 0) ≡ false). raw-less t c.raw.level a b d in
    let n = run_len (run.Braced c.raw.level) t in
    let l : length (drop n t) < length t
    = elim c.in_default.branch [
      | in_default-via-in-CloseBrace+else-level-eq0 w ↦
          let here : sign t ≡ s.CloseBrace = sym c.peek.ensures ∙ w.in-CloseBrace.is in
          less (λ z. let e : s.CloseBrace ≡ s.End = sym here ∙ z in cc) (λ z. let e : s.CloseBrace ≡ s.Fold = sym here ∙ z in cc) (λ z. not_zero c.raw.level w.if-level-eq0.false)
      | in_default-via-in_default w ↦ less (λ z. w.in_default.not-End (c.peek.ensures ∙ z)) (λ z. w.in_default.not-Fold (c.peek.ensures ∙ z)) (λ z. absurd (w.in_default.not-CloseBrace (c.peek.ensures ∙ z)))
    ] in
    let k : length c.take_run-end.new.cursor < length t = omega (arith, l, ap length c.take_run-end.ensures.rest) in k

pub raw-preserved : goal.raw-preserved
raw-preserved c =
    let t = c.raw.cursor in
    let level = c.raw.level in
    let n = run_len (run.Braced level) t in
    let end = level_of (run_end (run.Braced level) t) in
    let at : c.level_of-level.result ≡ end = c.level_of-level.ensures ∙ ap level_of c.take_run-end.ensures.end in
    let here : (braced t level).1 ≡ valued_end (λ x. take n t ++ x) (braced (drop n t) end).1
    = elim c.in_default.branch [
      | in_default-via-in-CloseBrace+else-level-eq0 w ↦
          let here : sign t ≡ s.CloseBrace = sym c.peek.ensures ∙ w.in-CloseBrace.is in
          braced-raw t level (λ z. let e : s.CloseBrace ≡ s.End = sym here ∙ z in cc) (λ z. let e : s.CloseBrace ≡ s.Fold = sym here ∙ z in cc) (λ z. not_zero level w.if-level-eq0.false)
      | in_default-via-in_default w ↦ braced-raw t level (λ z. w.in_default.not-End (c.peek.ensures ∙ z)) (λ z. w.in_default.not-Fold (c.peek.ensures ∙ z)) (λ z. absurd (w.in_default.not-CloseBrace (c.peek.ensures ∙ z)))
    ] in
    let next = here ∙ ap₂ (λ u m. valued_end (λ x. take n t ++ x) (braced u m).1) (sym c.take_run-end.ensures.rest) (sym at) in
    let pushed : c.push.new.self ≡ c.raw.text ++ take n t = c.in_ok-push-in_default.ensures.ok ∙ ap (λ x. c.raw.text ++ x) c.take_run-end.ensures.text in
    let join = λ (x : List ℕ). sym (append_assoc c.raw.text (take n t) x) ∙ ap (λ l. l ++ x) (sym pushed) in
    record {
      reads =
          c.raw.invariant.reads
          ∙ moved (λ x. c.raw.text ++ x) (λ x. take n t ++ x) (λ x. c.push.new.self ++ x) (braced t level).1 (braced c.take_run-end.new.cursor c.level_of-level.result).1 next join;
      room = omega (arith, c.raw.invariant.room, c.take_run-end.ensures.room, ap level_of c.take_run-end.ensures.end, at);
    }
