use Rattle.std.proofs.Common.{◌≡◌, ◌<◌, ◌-◌, ℕ, Bool, true, false, List, [], ◌∷◌, ◌++◌, length, drop, take, Ok, Err, Result, refl, inl, inr, ap, sym, subst, ◌∙◌, arith, append_assoc, length-drop}
use Rattle.std.proofs.lemmas.List.{append-nil}
use Rattle.tclv_text.specs.Cursors.{sign, escape_char, escape_len}
use Rattle.tclv_text.specs.declared.cursors.Sign.{Sign}
use Rattle.tclv_text.specs.declared.cursors.Sign.TheVariants as s
use Rattle.tclv_parse.specs.declared.runs.Form.{Form}
use Rattle.tclv_parse.specs.declared.runs.Form.TheVariants as form
use Rattle.tclv_parse.specs.declared.runs.Run.TheVariants as run
use Rattle.tclv_parse.specs.declared.faults.ParseFault.{ParseFault}
use Rattle.tclv_parse.specs.declared.faults.ParseFault.TheVariants as f
use Rattle.tclv_parse.specs.declared.tree.Part.{Part}
use Rattle.tclv_parse.specs.declared.tree.Part.TheVariants as part
use Rattle.tclv_parse.specs.declared.tree.Word.{Word}
use Rattle.tclv_parse.specs.declared.tree.Command.{Command}
use Rattle.tclv_parse.specs.declared.readers.Reader.{Reader}
use Rattle.tclv_parse.specs.Runs.{Text, run_len, run_end, stops, ends_command, expands}
use Rattle.tclv_parse.specs.Readings.{Reading, valued_end, join}
use Rattle.tclv_parse.specs.Grammar as grammar
use Rattle.tclv_parse.specs.Trees.{parts_before, enclosed_name, ReadsEnd}
use Rattle.tclv_parse.specs.Readers as spec
use Rattle.tclv_parse.specs.Readers.{parts_ahead, words_ahead, commands_ahead, behind, Runs, end_fault}
use Rattle.tclv_parse.proofs.PieceLemmas.{less, some}
use Rattle.tclv_parse.proofs.Rules.{IsDeeper, deeper-is, word-strict}
use Rattle.tclv_parse.proofs.RunLaws.{drop-three}
use Rattle.tclv_parse.proofs.TreeLaws.{moved, unmoved, join-ok, join-err, comes-up, part-comes-up, goes-up, part-end, or-memory}
use Rattle.tclv_parse.proofs.ReadLaws as law
use Rattle.tclv_parse.proofs.ReadLaws.{Begins}
use Rattle.tclv_parse.proofs.Variables as variables
use Rattle.tclv_parse.proofs.Variables.{Plain}
use Rattle.tclv_parse.proofs.readers.Reader.+reader.Goals.{variable-in-OpenBrace, variable-in_default, commands-in_default-via-in-CloseBracket+else-self, commands-in_default-via-in_default}
use Rattle.tclv_parse.proofs.readers.Reader.+reader.Goals as goal

deeper : (r : Reader) → IsDeeper (spec.deeper r)
deeper r = deeper-is r.whole r.depth

-- ---- scripts

pub commands-commands-init : goal.commands-commands-init
unfolding commands_ahead
commands-commands-init t c = record { ahead = law.behind-none c.new-commands.result (spec.commands c.args.self.now c.args.cursor.now) c.new-commands.ensures; left = omega arith }

-- a run that ends here
ends_here : (r : Reader) (t u : Text) (found : List Command) (out : Result Text ParseFault) → spec.commands r t ≡ commands_ahead r found u → spec.commands r u ≡ ([], out) → spec.commands r t ≡ (found ++ [], out)
unfolding commands_ahead
ends_here r t u found out e h = e ∙ ap (behind found) h

-- a separator is passed
passed_over : (r : Reader) (t u v : Text) (found : List Command) → spec.commands r t ≡ commands_ahead r found u → spec.commands r u ≡ spec.commands r v → spec.commands r t ≡ commands_ahead r found v
unfolding commands_ahead
passed_over r t u v found e h = e ∙ ap (behind found) h

end_run : (r : Reader) (t : Text) (b : Bool) → r.inner ≡ b → sign t ≡ s.End → (cs : List Command) (script : _) → script ≡ grammar.script_of cs (end_fault b) → (u : Text) → spec.commands r u ≡ commands_ahead r cs t → Runs (spec.commands r u) script t
end_run r t true i h cs script e u a = law.runs-end (spec.commands r u) cs (Err f.CloseBracket) script t (ends_here r u t cs (Err f.CloseBracket) a (law.script-end-inner (spec.deeper r) (deeper r) r.inner t r.whole h i)) e
end_run r t false i h cs script e u a = law.runs-end (spec.commands r u) cs (Ok t) script t (ends_here r u t cs (Ok t) a (law.script-end-outer (spec.deeper r) (deeper r) r.inner t r.whole h i)) (e, refl)

pub commands-returns-in-End : goal.commands-returns-in-End
commands-returns-in-End t c =
    let r = c.args.self.now in
    end_run r c.commands.cursor r.inner refl (sym c.peek.ensures ∙ c.in-End.is) c.commands.commands c.ended.result c.ended.ensures c.args.cursor.now c.commands.invariant.ahead

pub commands-returns-in-CloseBracket : goal.commands-returns-in-CloseBracket
commands-returns-in-CloseBracket t c =
    let r = c.args.self.now in
    let u = c.commands.cursor in
    let h : sign u ≡ s.CloseBracket = sym c.peek.ensures ∙ c.in-CloseBracket.is in
    law.runs-end (spec.commands r c.args.cursor.now) c.commands.commands (Ok (drop 1 u)) _ c.skip.new.self
    (ends_here r c.args.cursor.now u c.commands.commands (Ok (drop 1 u)) c.commands.invariant.ahead (law.script-close (spec.deeper r) (deeper r) r.inner u r.whole h c.if-self.true))
    (refl, c.skip.ensures)

pub commands-commands-smaller-in-Blank-1 : goal.commands-commands-smaller-in-Blank-1
commands-commands-smaller-in-Blank-1 t c =
    let u = c.commands.cursor in
    let r = c.args.self.now in
    let l : length (drop (run_len run.Blanks u) u) < length u
    = elim c.in-Blank.is [ inl h ↦ law.blank-less (spec.deeper r) (deeper r) r.inner u (sym c.peek.ensures ∙ h) | inr h ↦ law.folded-less (spec.deeper r) (deeper r) r.inner u (sym c.peek.ensures ∙ h) ] in
    let k : length c.take_run.new.cursor < length u = omega (arith, l, ap length c.take_run.ensures.rest) in k

pub commands-commands-preserved-in-Blank-1 : goal.commands-commands-preserved-in-Blank-1
commands-commands-preserved-in-Blank-1 t c =
    let u = c.commands.cursor in
    let r = c.args.self.now in
    let next : spec.commands r u ≡ spec.commands r (drop (run_len run.Blanks u) u)
    = elim c.in-Blank.is [ inl h ↦ law.script-blank (spec.deeper r) (deeper r) r.inner u r.whole (sym c.peek.ensures ∙ h) | inr h ↦ law.script-fold (spec.deeper r) (deeper r) r.inner u r.whole (sym c.peek.ensures ∙ h) ] in
    record {
      ahead = passed_over r c.args.cursor.now u c.take_run.new.cursor c.commands.commands c.commands.invariant.ahead (next ∙ ap (spec.commands r) (sym c.take_run.ensures.rest));
      left = omega (arith, c.commands.invariant.left, ap length c.take_run.ensures.rest, length-drop (run_len run.Blanks u) u);
    }

pub commands-commands-smaller-in-Newline-1 : goal.commands-commands-smaller-in-Newline-1
commands-commands-smaller-in-Newline-1 t c =
    let u = c.commands.cursor in
    let l : 0 < length u
    = elim c.in-Newline.is [ inl h ↦ some u s.Newline (sym c.peek.ensures ∙ h) (λ (z : s.Newline ≡ s.End). cc) | inr h ↦ some u s.Semicolon (sym c.peek.ensures ∙ h) (λ (z : s.Semicolon ≡ s.End). cc) ] in
    let k : length c.skip-in-Newline.new.self < length u = omega (arith, l, ap length c.skip-in-Newline.ensures, length-drop 1 u) in k

pub commands-commands-preserved-in-Newline-1 : goal.commands-commands-preserved-in-Newline-1
commands-commands-preserved-in-Newline-1 t c =
    let u = c.commands.cursor in
    let r = c.args.self.now in
    let next : spec.commands r u ≡ spec.commands r (drop 1 u)
    = elim c.in-Newline.is [ inl h ↦ law.script-newline (spec.deeper r) (deeper r) r.inner u r.whole (sym c.peek.ensures ∙ h) | inr h ↦ law.script-semicolon (spec.deeper r) (deeper r) r.inner u r.whole (sym c.peek.ensures ∙ h) ] in
    record {
      ahead = passed_over r c.args.cursor.now u c.skip-in-Newline.new.self c.commands.commands c.commands.invariant.ahead (next ∙ ap (spec.commands r) (sym c.skip-in-Newline.ensures));
      left = omega (arith, c.commands.invariant.left, ap length c.skip-in-Newline.ensures, length-drop 1 u);
    }

pub commands-commands-smaller-in-Hash-1 : goal.commands-commands-smaller-in-Hash-1
commands-commands-smaller-in-Hash-1 t c =
    let u = c.commands.cursor in
    let r = c.args.self.now in
    let k : length c.take_run-in-Hash.new.cursor < length u = omega (arith, law.comment-less (spec.deeper r) (deeper r) r.inner u (sym c.peek.ensures ∙ c.in-Hash.is), ap length c.take_run-in-Hash.ensures.rest) in k

pub commands-commands-preserved-in-Hash-1 : goal.commands-commands-preserved-in-Hash-1
commands-commands-preserved-in-Hash-1 t c =
    let u = c.commands.cursor in
    let r = c.args.self.now in
    let next = law.script-hash (spec.deeper r) (deeper r) r.inner u r.whole (sym c.peek.ensures ∙ c.in-Hash.is) in
    record {
      ahead = passed_over r c.args.cursor.now u c.take_run-in-Hash.new.cursor c.commands.commands c.commands.invariant.ahead (next ∙ ap (spec.commands r) (sym c.take_run-in-Hash.ensures.rest));
      left = omega (arith, c.commands.invariant.left, ap length c.take_run-in-Hash.ensures.rest, length-drop (run_len run.Comment u) u);
    }

-- a command was read
command_read : (r : Reader) (t u v : Text) (found new : List Command) (at : ℕ) (ws : List Word) → Begins (spec.deeper r) (deeper r) r.inner u r.whole → spec.commands r t ≡ commands_ahead r found u → (spec.words r u).1 ≡ Ok (ws, v)
    → at ≡ grammar.place r.whole u → new ≡ found ++ grammar.command_of at ws ∷ [] → spec.commands r t ≡ commands_ahead r new v
unfolding commands_ahead
command_read r t u v found new at ws b a e p q =
    let run = spec.commands r v in
    let pushed = q ∙ ap (λ n. found ++ grammar.command_of n ws ∷ []) p in
    a ∙ ap (behind found) (law.command-ok (spec.deeper r) (deeper r) r.inner u r.whole b ws v e)
    ∙ ap (λ l. (l, run.1)) (sym (append_assoc found (grammar.command_of (grammar.place r.whole u) ws ∷ []) run.0) ∙ ap (λ l. l ++ run.0) (sym pushed))

-- a closing bracket outside of brackets
closes_not : (r : Reader) (u : Text) → sign u ≡ s.CloseBracket → r.inner ≡ false → Begins (spec.deeper r) (deeper r) r.inner u r.whole
closes_not r u h i =
    record {
      no_end = λ z. let e : s.CloseBracket ≡ s.End = sym h ∙ z in cc;
      no_close = λ z. i;
      no_blank = λ z. let e : s.CloseBracket ≡ s.Blank = sym h ∙ z in cc;
      no_fold = λ z. let e : s.CloseBracket ≡ s.Fold = sym h ∙ z in cc;
      no_newline = λ z. let e : s.CloseBracket ≡ s.Newline = sym h ∙ z in cc;
      no_semicolon = λ z. let e : s.CloseBracket ≡ s.Semicolon = sym h ∙ z in cc;
      no_hash = λ z. let e : s.CloseBracket ≡ s.Hash = sym h ∙ z in cc;
    }

-- a sign that has no meaning of its own between commands
opens : (r : Reader) (u : Text) (x : Sign) → x ≡ sign u → (x ≡ s.End → ⊥) → (x ≡ s.CloseBracket → ⊥) → (x ≡ s.Blank → ⊥) → (x ≡ s.Fold → ⊥) → (x ≡ s.Newline → ⊥) → (x ≡ s.Semicolon → ⊥) → (x ≡ s.Hash → ⊥) → Begins (spec.deeper r) (deeper r) r.inner u r.whole
opens r u x e end close blank fold newline semicolon hash =
    record {
      no_end = λ z. end (e ∙ z);
      no_close = λ z. absurd (close (e ∙ z));
      no_blank = λ z. blank (e ∙ z);
      no_fold = λ z. fold (e ∙ z);
      no_newline = λ z. newline (e ∙ z);
      no_semicolon = λ z. semicolon (e ∙ z);
      no_hash = λ z. hash (e ∙ z);
    }

other_test : (b : Bool) → b ≡ true → b ≡ false → ⊥
other_test b p q = let e : true ≡ false = sym p ∙ q in cc

words_taken : (r : Reader) (u v : Text) (ws : List Word) → ends_command r.inner (sign u) ≡ false → (spec.words r u).1 ≡ Ok (ws, v) → length v < length u
words_taken r u v ws g e = law.words-taken (spec.deeper r) (deeper r) r.inner u g ws v e

pub commands-commands-smaller : goal.commands-commands-smaller
commands-commands-smaller t c =
    let r = c.args.self.now in
    let u = c.commands.cursor in
    let begins : Begins (spec.deeper r) (deeper r) r.inner u r.whole
    = elim c.in_default.branch [
      | commands-in_default-via-in-CloseBracket+else-self w ↦ closes_not r u (sym c.peek.ensures ∙ w.in-CloseBracket.is) w.if-self.false
      | commands-in_default-via-in_default w ↦ opens r u c.peek.result c.peek.ensures w.in_default.not-End w.in_default.not-CloseBracket w.in_default.not-Blank w.in_default.not-Fold w.in_default.not-Newline w.in_default.not-Semicolon w.in_default.not-Hash
    ] in
    let k : length c.words.new.cursor < length u = words_taken r u c.words.new.cursor c.in-Ok.words (law.command-goes (spec.deeper r) (deeper r) r.inner u r.whole begins) c.in-Ok.ensures in k

pub commands-commands-preserved : goal.commands-commands-preserved
commands-commands-preserved t c =
    let r = c.args.self.now in
    let u = c.commands.cursor in
    let begins : Begins (spec.deeper r) (deeper r) r.inner u r.whole
    = elim c.in_default.branch [
      | commands-in_default-via-in-CloseBracket+else-self w ↦ closes_not r u (sym c.peek.ensures ∙ w.in-CloseBracket.is) w.if-self.false
      | commands-in_default-via-in_default w ↦ opens r u c.peek.result c.peek.ensures w.in_default.not-End w.in_default.not-CloseBracket w.in_default.not-Blank w.in_default.not-Fold w.in_default.not-Newline w.in_default.not-Semicolon w.in_default.not-Hash
    ] in
    record {
      ahead =
          command_read r c.args.cursor.now u c.words.new.cursor c.commands.commands c.push.new.self c.saturating_sub-at.result c.in-Ok.words begins c.commands.invariant.ahead c.in-Ok.ensures
          (c.saturating_sub-at.ensures ∙ ap (λ n. r.whole - n) c.left.ensures) c.in_ok-push-in-Ok.ensures.ok;
      left = omega (arith, c.commands.invariant.left, words_taken r u c.words.new.cursor c.in-Ok.words (law.command-goes (spec.deeper r) (deeper r) r.inner u r.whole begins) c.in-Ok.ensures);
    }

pub commands-returns-in-Err-Fault : goal.commands-returns-in-Err-Fault
commands-returns-in-Err-Fault t c =
    let r = c.args.self.now in
    let u = c.commands.cursor in
    let begins : Begins (spec.deeper r) (deeper r) r.inner u r.whole
    = elim c.in_default.branch [
      | commands-in_default-via-in-CloseBracket+else-self w ↦ closes_not r u (sym c.peek.ensures ∙ w.in-CloseBracket.is) w.if-self.false
      | commands-in_default-via-in_default w ↦ opens r u c.peek.result c.peek.ensures w.in_default.not-End w.in_default.not-CloseBracket w.in_default.not-Blank w.in_default.not-Fold w.in_default.not-Newline w.in_default.not-Semicolon w.in_default.not-Hash
    ] in
    let fault : (spec.words r u).1 ≡ Err c.in-Err-Fault.fault = rw c.in-Err-Fault.field-0-is at c.in-Err-Fault.ensures in
    law.runs-end (spec.commands r c.args.cursor.now) c.commands.commands (Err c.in-Err-Fault.fault) _ c.words.new.cursor
    (ends_here r c.args.cursor.now u c.commands.commands (Err c.in-Err-Fault.fault) c.commands.invariant.ahead (law.command-err (spec.deeper r) (deeper r) r.inner u r.whole begins c.in-Err-Fault.fault fault))
    refl

-- ---- levels

pub script-returns-then-self-eq0-clause-reads : goal.script-returns-then-self-eq0-clause-reads
script-returns-then-self-eq0-clause-reads t c = law.script-zero c.args.self.now.whole c.args.self.now.depth c.args.cursor.now c.if-self-eq0.true

pub script-returns-in-None-clause-reads : goal.script-returns-in-None-clause-reads
script-returns-in-None-clause-reads t c =
    let r = c.args.self.now in
    law.script-inside r.whole r.depth c.args.cursor.now c.skip.new.self (omega arith) c.skip.ensures
    ∙ law.enclosed-none (grammar.script r.whole (grammar.deeper_by r.whole (r.depth - 1)) true c.skip.new.self) c.in_ok-script.script c.commands.new.cursor c.in_ok-script.ensures c.in-None.is

pub script-returns-in-None-clause-left : goal.script-returns-in-None-clause-left
script-returns-in-None-clause-left t c =
    let r = c.args.self.now in
    let u = c.args.cursor.now in
    (deeper r).script-strict u (some u s.OpenBracket c.requires.sign (λ (z : s.OpenBracket ≡ s.End). cc)) c.commands.new.cursor
    (law.ended ((spec.deeper r).script u) c.in_ok-script.script c.commands.new.cursor (script-returns-in-None-clause-reads t c))

pub script-returns-in-Some-clause-reads : goal.script-returns-in-Some-clause-reads
script-returns-in-Some-clause-reads t c =
    let r = c.args.self.now in
    law.script-inside r.whole r.depth c.args.cursor.now c.skip.new.self (omega arith) c.skip.ensures
    ∙ law.enclosed-some (grammar.script r.whole (grammar.deeper_by r.whole (r.depth - 1)) true c.skip.new.self) c.in_ok-script.script c.commands.new.cursor c.in-Some.fault c.in_ok-script.ensures c.in-Some.is

-- the parts of an index
abbrev inside : Reader → Text → Reading (List Part)
inside r u = grammar.parts (grammar.deeper_by r.whole (r.depth - 1)) true form.Index u

index_ends : (r : Reader) (t u v : Text) (ps : List Part) → 0 < r.depth → u ≡ drop 1 t → (inside r u).1 ≡ Ok (ps, v) → ((spec.deeper r).index t).1 ≡ valued_end (λ _. ps) (grammar.end_index v).1
index_ends r t u v ps h q e = law.index-inside r.whole r.depth t u h q ∙ join-ok (inside r u) grammar.end_index (λ qs _. qs) ps v e

pub index-returns-then-self-eq0-clause-reads : goal.index-returns-then-self-eq0-clause-reads
index-returns-then-self-eq0-clause-reads t c = law.index-zero c.args.self.now.whole c.args.self.now.depth c.args.cursor.now c.if-self-eq0.true

pub index-returns-in_err-parts-clause-reads : goal.index-returns-in_err-parts-clause-reads
index-returns-in_err-parts-clause-reads t c =
    let r = c.args.self.now in
    let some : 0 < r.depth = omega arith in
    comes-up (inside r c.skip.new.self).1 ((spec.deeper r).index c.args.cursor.now).1 c.from_residual.result c.in_err-parts.field-0.0 c.parts.new.cursor c.parts.new.cursor c.from_residual.ensures.1
    (λ x g. law.index-inside r.whole r.depth c.args.cursor.now c.skip.new.self some c.skip.ensures ∙ join-err (inside r c.skip.new.self) grammar.end_index (λ qs _. qs) x g) c.in_err-parts.ensures.reads

pub index-returns-in_err-end_index-clause-reads : goal.index-returns-in_err-end_index-clause-reads
index-returns-in_err-end_index-clause-reads t c =
    let r = c.args.self.now in
    let some : 0 < r.depth = omega arith in
    let ends = index_ends r c.args.cursor.now c.skip.new.self c.parts.new.cursor c.in_ok-parts.parts some c.skip.ensures c.in_ok-parts.ensures.reads in
    comes-up (grammar.end_index c.parts.new.cursor).1 ((spec.deeper r).index c.args.cursor.now).1 c.from_residual-in_err-end_index.result c.in_err-end_index.field-0.0 c.end_index.new.cursor c.end_index.new.cursor c.from_residual-in_err-end_index.ensures.1
    (λ x g. ends ∙ ap (valued_end (λ _. c.in_ok-parts.parts)) g) c.in_err-end_index.ensures

pub index-returns-clause-reads : goal.index-returns-clause-reads
index-returns-clause-reads t c =
    let r = c.args.self.now in
    let some : 0 < r.depth = omega arith in
    index_ends r c.args.cursor.now c.skip.new.self c.parts.new.cursor c.in_ok-parts.parts some c.skip.ensures c.in_ok-parts.ensures.reads ∙ ap (valued_end (λ _. c.in_ok-parts.parts)) c.in_ok-end_index.ensures

pub index-returns-clause-left : goal.index-returns-clause-left
index-returns-clause-left t c =
    let r = c.args.self.now in
    let u = c.args.cursor.now in
    (deeper r).index-strict u (some u s.OpenParen c.requires.sign (λ (z : s.OpenParen ≡ s.End). cc)) c.end_index.new.cursor
    (law.ended ((spec.deeper r).index u) c.in_ok-parts.parts c.end_index.new.cursor (index-returns-clause-reads t c))

-- ---- variables

pub variable-returns-in_err-name-clause-reads : goal.variable-returns-in_err-name-clause-reads
variable-returns-in_err-name-clause-reads t c =
    let r = c.args.self.now in
    let u = c.args.cursor.now in
    let brace : sign c.skip.new.self ≡ s.OpenBrace = elim c.match-matches.branch [ variable-in-OpenBrace w ↦ sym c.peek.ensures ∙ w.in-OpenBrace.is | variable-in_default w ↦ absurd (other_test _ c.if-matches.true w.matches-is) ] in
    let at : sign (drop 1 u) ≡ s.OpenBrace = ap sign (sym c.skip.ensures) ∙ brace in
    part-comes-up (enclosed_name c.skip-then-matches.new.self) (spec.variable r u) c.from_residual.result c.in_err-name.field-0.0 c.enclosed_name.new.cursor c.enclosed_name.new.cursor c.from_residual.ensures.1
    (λ x g. variables.braced-err (spec.deeper r) r.inner u c.skip-then-matches.new.self x c.requires.sign at (c.skip-then-matches.ensures ∙ ap (drop 1) c.skip.ensures) g) c.in_err-name.ensures

pub variable-returns-then-matches-clause-reads : goal.variable-returns-then-matches-clause-reads
variable-returns-then-matches-clause-reads t c =
    let r = c.args.self.now in
    let u = c.args.cursor.now in
    let brace : sign c.skip.new.self ≡ s.OpenBrace = elim c.match-matches.branch [ variable-in-OpenBrace w ↦ sym c.peek.ensures ∙ w.in-OpenBrace.is | variable-in_default w ↦ absurd (other_test _ c.if-matches.true w.matches-is) ] in
    let at : sign (drop 1 u) ≡ s.OpenBrace = ap sign (sym c.skip.ensures) ∙ brace in
    variables.braced-ok (spec.deeper r) r.inner u c.skip-then-matches.new.self c.in_ok-name.name c.enclosed_name.new.cursor c.requires.sign at (c.skip-then-matches.ensures ∙ ap (drop 1) c.skip.ensures) c.in_ok-name.ensures

pub variable-returns-then-matches-clause-left : goal.variable-returns-then-matches-clause-left
variable-returns-then-matches-clause-left t c =
    let u = c.args.cursor.now in
    omega (arith, some u s.Dollar c.requires.sign (λ (z : s.Dollar ≡ s.End). cc), ap length c.skip.ensures, length-drop 1 u, ap length c.skip-then-matches.ensures, length-drop 1 c.skip.new.self, variables.enclosed-le c.skip-then-matches.new.self c.in_ok-name.name c.enclosed_name.new.cursor c.in_ok-name.ensures)

-- a plain name was read
plain_read : (t u name v : Text) → sign t ≡ s.Dollar → (sign u ≡ s.OpenBrace → ⊥) → u ≡ drop 1 t → name ≡ take (run_len run.Sigil u) u → v ≡ drop (run_len run.Sigil u) u → Plain t name v
plain_read t u name v h b e p q =
    record {
      sigil = h;
      plain = λ z. b (ap sign e ∙ z);
      name_is = p ∙ ap (λ x. take (run_len run.Sigil x) x) e;
      rest = q ∙ ap (λ x. drop (run_len run.Sigil x) x) e;
    }

pub variable-returns-in_err-index-in-OpenParen-clause-reads : goal.variable-returns-in_err-index-in-OpenParen-clause-reads
variable-returns-in_err-index-in-OpenParen-clause-reads t c =
    let r = c.args.self.now in
    let u = c.args.cursor.now in
    let plain : sign c.skip.new.self ≡ s.OpenBrace → ⊥ = elim c.match-matches.branch [ variable-in-OpenBrace w ↦ absurd (other_test _ w.matches-is c.if-matches.false) | variable-in_default w ↦ λ z. w.in_default.not-OpenBrace (c.peek.ensures ∙ z) ] in
    let name = plain_read u c.skip.new.self c.in_ok-name-2.name c.plain_name.new.cursor c.requires.sign plain c.skip.ensures c.in_ok-name-2.ensures.name c.plain_name.ensures.rest in
    part-comes-up ((spec.deeper r).index c.plain_name.new.cursor).1 (spec.variable r u) c.from_residual-in_err-index-in-OpenParen.result c.in_err-index-in-OpenParen.field-0.0 c.index.new.cursor c.index.new.cursor c.from_residual-in_err-index-in-OpenParen.ensures.1
    (λ x g. variables.plain-err (spec.deeper r) r.inner u c.in_ok-name-2.name c.plain_name.new.cursor x name (sym c.peek-2.ensures ∙ c.in-OpenParen.is) g) c.in_err-index-in-OpenParen.ensures.reads

pub variable-returns-in_ok-index-in-OpenParen-clause-reads : goal.variable-returns-in_ok-index-in-OpenParen-clause-reads
variable-returns-in_ok-index-in-OpenParen-clause-reads t c =
    let r = c.args.self.now in
    let u = c.args.cursor.now in
    let plain : sign c.skip.new.self ≡ s.OpenBrace → ⊥ = elim c.match-matches.branch [ variable-in-OpenBrace w ↦ absurd (other_test _ w.matches-is c.if-matches.false) | variable-in_default w ↦ λ z. w.in_default.not-OpenBrace (c.peek.ensures ∙ z) ] in
    let name = plain_read u c.skip.new.self c.in_ok-name-2.name c.plain_name.new.cursor c.requires.sign plain c.skip.ensures c.in_ok-name-2.ensures.name c.plain_name.ensures.rest in
    variables.plain-ok (spec.deeper r) r.inner u c.in_ok-name-2.name c.plain_name.new.cursor c.in_ok-index-in-OpenParen.index c.index.new.cursor name (sym c.peek-2.ensures ∙ c.in-OpenParen.is) c.in_ok-index-in-OpenParen.ensures.reads

pub variable-returns-in_default-peek : goal.variable-returns-in_default-peek
variable-returns-in_default-peek t c =
    let r = c.args.self.now in
    let u = c.args.cursor.now in
    let plain : sign c.skip.new.self ≡ s.OpenBrace → ⊥ = elim c.match-matches.branch [ variable-in-OpenBrace w ↦ absurd (other_test _ w.matches-is c.if-matches.false) | variable-in_default w ↦ λ z. w.in_default.not-OpenBrace (c.peek.ensures ∙ z) ] in
    let name = plain_read u c.skip.new.self c.in_ok-name-2.name c.plain_name.new.cursor c.requires.sign plain c.skip.ensures c.in_ok-name-2.ensures.name c.plain_name.ensures.rest in
    record {
      reads = variables.plain-else (spec.deeper r) r.inner u c.in_ok-name-2.name c.plain_name.new.cursor name (λ z. c.in_default-peek.not-OpenParen (c.peek-2.ensures ∙ z));
      part = tt;
      left = omega (arith, some u s.Dollar c.requires.sign (λ (z : s.Dollar ≡ s.End). cc), ap length c.skip.ensures, length-drop 1 u, ap length c.plain_name.ensures.rest, length-drop (run_len run.Sigil c.skip.new.self) c.skip.new.self);
    }

-- ---- parts

abbrev rest : Reader → Form → Text → Reading (List Part)
rest r form = grammar.parts (spec.deeper r) r.inner form

pub part-returns-in_err-part-in-Dollar-clause-goes : goal.part-returns-in_err-part-in-Dollar-clause-goes
unfolding parts_ahead
part-returns-in_err-part-in-Dollar-clause-goes t c =
    let r = c.args.self.now in
    let u = c.args.cursor.now in
    let x = c.in_err-part-in-Dollar.field-0.0 in
    let old = valued_end (parts_before c.args.found.now) (spec.parts r c.args.form u).1 in
    let new = valued_end (parts_before c.args.found.now) (spec.parts r c.args.form c.variable.new.cursor).1 in
    let at = law.part-dollar (spec.deeper r) (deeper r) r.inner u c.args.form c.requires.going (sym c.peek.ensures ∙ c.in-Dollar.is) in
    goes-up (spec.variable r u).1 old new c.from_residual-in_err-part-in-Dollar.result x c.variable.new.cursor c.from_residual-in_err-part-in-Dollar.ensures.1
    (λ z g. ap (valued_end (parts_before c.args.found.now)) (at ∙ variables.variable-err (spec.deeper r) r.inner (rest r c.args.form) u (run_len run.Variable u) (run_end run.Variable u) z g))
    (part-end (spec.variable r u) x c.variable.new.cursor c.in_err-part-in-Dollar.ensures.reads)

pub part-returns-in_err-script-in-OpenBracket-clause-goes : goal.part-returns-in_err-script-in-OpenBracket-clause-goes
unfolding parts_ahead
part-returns-in_err-script-in-OpenBracket-clause-goes t c =
    let r = c.args.self.now in
    let u = c.args.cursor.now in
    let x = c.in_err-script-in-OpenBracket.field-0.0 in
    let old = valued_end (parts_before c.args.found.now) (spec.parts r c.args.form u).1 in
    let new = valued_end (parts_before c.args.found.now) (spec.parts r c.args.form c.script.new.cursor).1 in
    let at = law.part-bracket (spec.deeper r) (deeper r) r.inner u c.args.form c.requires.going (sym c.peek.ensures ∙ c.in-OpenBracket.is) in
    goes-up ((spec.deeper r).script u).1 old new c.from_residual-in_err-script-in-OpenBracket.result x c.script.new.cursor c.from_residual-in_err-script-in-OpenBracket.ensures.1
    (λ z g. ap (valued_end (parts_before c.args.found.now)) (at ∙ join-err ((spec.deeper r).script u) (rest r c.args.form) (λ script ps. part.Script script ∷ ps) z g))
    c.in_err-script-in-OpenBracket.ensures.reads

pub part-returns-in_ok-add_char-in-Backslash-clause-goes : goal.part-returns-in_ok-add_char-in-Backslash-clause-goes
unfolding parts_ahead
part-returns-in_ok-add_char-in-Backslash-clause-goes t c =
    let r = c.args.self.now in
    let u = c.args.cursor.now in
    let v = c.skip_escape-c.new.self in
    let at : (spec.parts r c.args.form u).1 ≡ valued_end (grammar.text_before (escape_char u ∷ [])) (spec.parts r c.args.form (drop (escape_len u) u)).1
    = elim c.in-Backslash.is [ inl h ↦ law.part-backslash (spec.deeper r) (deeper r) r.inner u c.args.form c.requires.going (sym c.peek.ensures ∙ h) | inr h ↦ law.part-fold (spec.deeper r) (deeper r) r.inner u c.args.form c.requires.going (sym c.peek.ensures ∙ h) ] in
    moved (parts_before c.args.found.now) (grammar.text_before (escape_char u ∷ [])) (parts_before c.add_char.new.self) (spec.parts r c.args.form u).1 (spec.parts r c.args.form v).1
    (at ∙ ap (λ x. valued_end (grammar.text_before (escape_char u ∷ [])) (spec.parts r c.args.form x).1) (sym c.skip_escape-c.ensures.rest))
    (λ ps. ap (λ y. parts_before c.args.found.now (grammar.text_before (y ∷ []) ps)) (sym c.skip_escape-c.ensures.char) ∙ sym (c.in_ok-add_char-in-Backslash.ensures ps))

pub part-returns-in_ok-add_char-in-Backslash-clause-left : goal.part-returns-in_ok-add_char-in-Backslash-clause-left
part-returns-in_ok-add_char-in-Backslash-clause-left t c =
    let u = c.args.cursor.now in
    let l : 0 < length u
    = elim c.in-Backslash.is [ inl h ↦ some u s.Backslash (sym c.peek.ensures ∙ h) (λ (z : s.Backslash ≡ s.End). cc) | inr h ↦ some u s.Fold (sym c.peek.ensures ∙ h) (λ (z : s.Fold ≡ s.End). cc) ] in
    omega (arith, ap length c.skip_escape-c.ensures.rest, less (escape_len u) u (omega arith) l)

pub part-returns-in_ok-add_part-in-Dollar-clause-goes : goal.part-returns-in_ok-add_part-in-Dollar-clause-goes
unfolding parts_ahead
part-returns-in_ok-add_part-in-Dollar-clause-goes t c =
    let r = c.args.self.now in
    let u = c.args.cursor.now in
    let p = c.in_ok-part-in-Dollar.part in
    let at = law.part-dollar (spec.deeper r) (deeper r) r.inner u c.args.form c.requires.going (sym c.peek.ensures ∙ c.in-Dollar.is) in
    moved (parts_before c.args.found.now) (λ ps. p ∷ ps) (parts_before c.add_part.new.self) (spec.parts r c.args.form u).1 (spec.parts r c.args.form c.variable.new.cursor).1
    (at ∙ variables.variable-ok (spec.deeper r) r.inner (rest r c.args.form) u (run_len run.Variable u) (run_end run.Variable u) p c.variable.new.cursor c.in_ok-part-in-Dollar.ensures.reads)
    (λ ps. sym (c.in_ok-add_part-in-Dollar.ensures ps))

pub part-returns-in_ok-add_part-in-OpenBracket-clause-goes : goal.part-returns-in_ok-add_part-in-OpenBracket-clause-goes
unfolding parts_ahead
part-returns-in_ok-add_part-in-OpenBracket-clause-goes t c =
    let r = c.args.self.now in
    let u = c.args.cursor.now in
    let script = c.in_ok-script-in-OpenBracket.script in
    let at = law.part-bracket (spec.deeper r) (deeper r) r.inner u c.args.form c.requires.going (sym c.peek.ensures ∙ c.in-OpenBracket.is) in
    moved (parts_before c.args.found.now) (λ ps. part.Script script ∷ ps) (parts_before c.add_part-in-OpenBracket.new.self) (spec.parts r c.args.form u).1 (spec.parts r c.args.form c.script.new.cursor).1
    (at ∙ join-ok ((spec.deeper r).script u) (rest r c.args.form) (λ x ps. part.Script x ∷ ps) script c.script.new.cursor c.in_ok-script-in-OpenBracket.ensures.reads)
    (λ ps. ap (λ x. parts_before c.args.found.now (part.Script x ∷ ps)) (sym c.in_ok-boxed-in-OpenBracket.ensures) ∙ sym (c.in_ok-add_part-in-OpenBracket.ensures ps))

pub part-returns-in_ok-add_text-in_default : goal.part-returns-in_ok-add_text-in_default
unfolding parts_ahead
part-returns-in_ok-add_text-in_default t c =
    let r = c.args.self.now in
    let u = c.args.cursor.now in
    let n = run_len (run.Literal r.inner c.args.form) u in
    let no_backslash = λ (z : sign u ≡ s.Backslash). c.in_default.not-Backslash (c.peek.ensures ∙ z) in
    let no_fold = λ (z : sign u ≡ s.Fold). c.in_default.not-Fold (c.peek.ensures ∙ z) in
    let no_dollar = λ (z : sign u ≡ s.Dollar). c.in_default.not-Dollar (c.peek.ensures ∙ z) in
    let no_bracket = λ (z : sign u ≡ s.OpenBracket). c.in_default.not-OpenBracket (c.peek.ensures ∙ z) in
    let at = law.part-literal (spec.deeper r) (deeper r) r.inner u c.args.form c.requires.going no_backslash no_fold no_dollar no_bracket in
    record {
      goes =
          moved (parts_before c.args.found.now) (grammar.text_before (take n u)) (parts_before c.add_text.new.self) (spec.parts r c.args.form u).1 (spec.parts r c.args.form c.take_run.new.cursor).1
          (at ∙ ap (λ x. valued_end (grammar.text_before (take n u)) (spec.parts r c.args.form x).1) (sym c.take_run.ensures.rest))
          (λ ps. ap (λ y. parts_before c.args.found.now (grammar.text_before y ps)) (sym c.take_run.ensures.text) ∙ sym (c.in_ok-add_text-in_default.ensures ps));
      left = omega (arith, ap length c.take_run.ensures.rest, law.literal-less (spec.deeper r) (deeper r) r.inner u c.args.form c.requires.going no_backslash no_fold no_dollar no_bracket);
    }

pub parts-parts-init : goal.parts-parts-init
unfolding parts_ahead
parts-parts-init t c = record { ahead = unmoved (parts_before c.new-found.result) (spec.parts c.args.self.now c.args.form c.args.cursor.now).1 c.new-found.ensures; left = omega arith }

pub parts-returns-clause-reads : goal.parts-returns-clause-reads
unfolding parts_ahead
parts-returns-clause-reads t c =
    let r = c.args.self.now in
    let u = c.parts.cursor in
    let stop : stops r.inner c.args.form (sign u) ≡ true = sym (c.stops.ensures ∙ ap (stops r.inner c.args.form) c.peek.ensures) ∙ c.parts-test.false in
    c.parts.invariant.ahead ∙ ap (valued_end (parts_before c.parts.found)) (law.parts-stop (spec.deeper r) (deeper r) r.inner u c.args.form stop) ∙ ap (λ l. Ok (l, u)) (sym c.in_ok-parts.ensures)

-- ---- words

-- a word in braces, from behind its opening brace
brace_at : (r : Reader) (t u : Text) → sign t ≡ s.OpenBrace → u ≡ drop 1 t → (spec.plain_word r t).1 ≡ (join (grammar.braced u 0) (grammar.closed r.inner f.AfterBrace) (λ x _. grammar.text_part x)).1
brace_at r t u h q = law.plain-brace (spec.deeper r) (deeper r) r.inner t h ∙ ap (λ x. (join (grammar.braced x 0) (grammar.closed r.inner f.AfterBrace) (λ y _. grammar.text_part y)).1) (sym q)

brace_ends : (r : Reader) (t u v x : Text) → sign t ≡ s.OpenBrace → u ≡ drop 1 t → (grammar.braced u 0).1 ≡ Ok (x, v) → (spec.plain_word r t).1 ≡ valued_end (λ _. grammar.text_part x) (grammar.closed r.inner f.AfterBrace v).1
brace_ends r t u v x h q e = brace_at r t u h q ∙ join-ok (grammar.braced u 0) (grammar.closed r.inner f.AfterBrace) (λ y _. grammar.text_part y) x v e

-- a quoted word, from behind its opening mark
quote_at : (r : Reader) (t u : Text) → sign t ≡ s.Quote → u ≡ drop 1 t → (spec.plain_word r t).1 ≡ (join (spec.parts r form.Quoted u) (grammar.end_quote r.inner) (λ ps _. ps)).1
quote_at r t u h q = law.plain-quote (spec.deeper r) (deeper r) r.inner t h ∙ ap (λ x. (join (spec.parts r form.Quoted x) (grammar.end_quote r.inner) (λ ps _. ps)).1) (sym q)

quote_ends : (r : Reader) (t u v : Text) (ps : List Part) → sign t ≡ s.Quote → u ≡ drop 1 t → (spec.parts r form.Quoted u).1 ≡ Ok (ps, v) → (spec.plain_word r t).1 ≡ valued_end (λ _. ps) (grammar.end_quote r.inner v).1
quote_ends r t u v ps h q e = quote_at r t u h q ∙ join-ok (spec.parts r form.Quoted u) (grammar.end_quote r.inner) (λ qs _. qs) ps v e

pub plain_word-returns-in_err-text-in-OpenBrace : goal.plain_word-returns-in_err-text-in-OpenBrace
plain_word-returns-in_err-text-in-OpenBrace t c =
    let r = c.args.self.now in
    let u = c.skip.new.self in
    comes-up (grammar.braced u 0).1 (spec.plain_word r c.args.cursor.now).1 c.from_residual.result c.in_err-text-in-OpenBrace.field-0.0 c.braced.new.cursor c.braced.new.cursor c.from_residual.ensures.1
    (λ x g. brace_at r c.args.cursor.now u (sym c.peek.ensures ∙ c.in-OpenBrace.is) c.skip.ensures ∙ join-err (grammar.braced u 0) (grammar.closed r.inner f.AfterBrace) (λ y _. grammar.text_part y) x g) c.in_err-text-in-OpenBrace.ensures.reads

pub plain_word-returns-in_err-closed-in-OpenBrace : goal.plain_word-returns-in_err-closed-in-OpenBrace
plain_word-returns-in_err-closed-in-OpenBrace t c =
    let r = c.args.self.now in
    let v = c.braced.new.cursor in
    let ends = brace_ends r c.args.cursor.now c.skip.new.self v c.in_ok-text-in-OpenBrace.text (sym c.peek.ensures ∙ c.in-OpenBrace.is) c.skip.ensures c.in_ok-text-in-OpenBrace.ensures.reads in
    comes-up (grammar.closed r.inner f.AfterBrace v).1 (spec.plain_word r c.args.cursor.now).1 c.from_residual-in_err-closed-in-OpenBrace.result c.in_err-closed-in-OpenBrace.field-0.0 v v c.from_residual-in_err-closed-in-OpenBrace.ensures.1
    (λ x g. ends ∙ ap (valued_end (λ _. grammar.text_part c.in_ok-text-in-OpenBrace.text)) g) c.in_err-closed-in-OpenBrace.ensures

pub plain_word-returns-in_ok-closed-in-OpenBrace : goal.plain_word-returns-in_ok-closed-in-OpenBrace
plain_word-returns-in_ok-closed-in-OpenBrace t c =
    let r = c.args.self.now in
    let v = c.braced.new.cursor in
    let x = c.in_ok-text-in-OpenBrace.text in
    let ends = brace_ends r c.args.cursor.now c.skip.new.self v x (sym c.peek.ensures ∙ c.in-OpenBrace.is) c.skip.ensures c.in_ok-text-in-OpenBrace.ensures.reads in
    or-memory (spec.plain_word r c.args.cursor.now).1 c.text_parts.result (grammar.text_part x) v (ends ∙ ap (valued_end (λ _. grammar.text_part x)) c.in_ok-closed-in-OpenBrace.ensures) c.text_parts.ensures.ok c.text_parts.ensures.err

pub plain_word-returns-in_err-parts-in-Quote : goal.plain_word-returns-in_err-parts-in-Quote
plain_word-returns-in_err-parts-in-Quote t c =
    let r = c.args.self.now in
    let u = c.skip-in-Quote.new.self in
    comes-up (spec.parts r form.Quoted u).1 (spec.plain_word r c.args.cursor.now).1 c.from_residual-in_err-parts-in-Quote.result c.in_err-parts-in-Quote.field-0.0 c.parts.new.cursor c.parts.new.cursor c.from_residual-in_err-parts-in-Quote.ensures.1
    (λ x g. quote_at r c.args.cursor.now u (sym c.peek.ensures ∙ c.in-Quote.is) c.skip-in-Quote.ensures ∙ join-err (spec.parts r form.Quoted u) (grammar.end_quote r.inner) (λ ps _. ps) x g) c.in_err-parts-in-Quote.ensures.reads

pub plain_word-returns-in_err-end_quote-in-Quote : goal.plain_word-returns-in_err-end_quote-in-Quote
plain_word-returns-in_err-end_quote-in-Quote t c =
    let r = c.args.self.now in
    let v = c.parts.new.cursor in
    let ends = quote_ends r c.args.cursor.now c.skip-in-Quote.new.self v c.in_ok-parts-in-Quote.parts (sym c.peek.ensures ∙ c.in-Quote.is) c.skip-in-Quote.ensures c.in_ok-parts-in-Quote.ensures.reads in
    comes-up (grammar.end_quote r.inner v).1 (spec.plain_word r c.args.cursor.now).1 c.from_residual-in_err-end_quote-in-Quote.result c.in_err-end_quote-in-Quote.field-0.0 c.end_quote.new.cursor c.end_quote.new.cursor c.from_residual-in_err-end_quote-in-Quote.ensures.1
    (λ x g. ends ∙ ap (valued_end (λ _. c.in_ok-parts-in-Quote.parts)) g) c.in_err-end_quote-in-Quote.ensures

pub plain_word-returns-in_ok-end_quote-in-Quote : goal.plain_word-returns-in_ok-end_quote-in-Quote
plain_word-returns-in_ok-end_quote-in-Quote t c =
    let r = c.args.self.now in
    quote_ends r c.args.cursor.now c.skip-in-Quote.new.self c.parts.new.cursor c.in_ok-parts-in-Quote.parts (sym c.peek.ensures ∙ c.in-Quote.is) c.skip-in-Quote.ensures c.in_ok-parts-in-Quote.ensures.reads
    ∙ ap (valued_end (λ _. c.in_ok-parts-in-Quote.parts)) c.in_ok-end_quote-in-Quote.ensures

pub plain_word-returns-in_default : goal.plain_word-returns-in_default
plain_word-returns-in_default t c =
    let r = c.args.self.now in
    let at = law.plain-else (spec.deeper r) (deeper r) r.inner c.args.cursor.now (λ z. c.in_default.not-OpenBrace (c.peek.ensures ∙ z)) (λ z. c.in_default.not-Quote (c.peek.ensures ∙ z)) in
    subst (λ e. ReadsEnd e c.parts-in_default.result c.parts-in_default.new.cursor) (sym at) c.parts-in_default.ensures.reads

expand_at : (r : Reader) (t a b u : Text) → expands r.inner t ≡ true → a ≡ drop 1 t → b ≡ drop 1 a → u ≡ drop 1 b → (spec.word r t).1 ≡ valued_end (grammar.word_of true) (spec.plain_word r u).1
expand_at r t a b u e p q w =
    let at : u ≡ drop 3 t = w ∙ ap (drop 1) (q ∙ ap (drop 1) p) ∙ drop-three t in
    law.word-expand (spec.deeper r) (deeper r) r.inner t e ∙ ap (λ x. valued_end (grammar.word_of true) (spec.plain_word r x).1) (sym at)

pub word-returns-in_err-parts-clause-reads : goal.word-returns-in_err-parts-clause-reads
word-returns-in_err-parts-clause-reads t c =
    let r = c.args.self.now in
    let u = c.skip-then-expands-2.new.self in
    comes-up (spec.plain_word r u).1 (spec.word r c.args.cursor.now).1 c.from_residual.result c.in_err-parts.field-0.0 c.plain_word.new.cursor c.plain_word.new.cursor c.from_residual.ensures.1
    (λ x g. expand_at r c.args.cursor.now c.skip.new.self c.skip-then-expands.new.self u (sym c.expands.ensures ∙ c.if-expands.true) c.skip.ensures c.skip-then-expands.ensures c.skip-then-expands-2.ensures ∙ ap (valued_end (grammar.word_of true)) g) c.in_err-parts.ensures

pub word-returns-then-expands-clause-reads : goal.word-returns-then-expands-clause-reads
word-returns-then-expands-clause-reads t c =
    let r = c.args.self.now in
    expand_at r c.args.cursor.now c.skip.new.self c.skip-then-expands.new.self c.skip-then-expands-2.new.self (sym c.expands.ensures ∙ c.if-expands.true) c.skip.ensures c.skip-then-expands.ensures c.skip-then-expands-2.ensures
    ∙ ap (valued_end (grammar.word_of true)) c.in_ok-parts.ensures

pub word-returns-then-expands-clause-left : goal.word-returns-then-expands-clause-left
word-returns-then-expands-clause-left t c =
    let r = c.args.self.now in
    word-strict (spec.deeper r) (deeper r) r.inner c.args.cursor.now c.requires.word c.plain_word.new.cursor
    (law.ended (spec.word r c.args.cursor.now) (grammar.word_of true c.in_ok-parts.parts) c.plain_word.new.cursor (word-returns-then-expands-clause-reads t c))

pub word-returns-in_err-parts-2-clause-reads : goal.word-returns-in_err-parts-2-clause-reads
word-returns-in_err-parts-2-clause-reads t c =
    let r = c.args.self.now in
    let u = c.args.cursor.now in
    comes-up (spec.plain_word r u).1 (spec.word r u).1 c.from_residual-in_err-parts-2.result c.in_err-parts-2.field-0.0 c.plain_word-2.new.cursor c.plain_word-2.new.cursor c.from_residual-in_err-parts-2.ensures.1
    (λ x g. law.word-plain (spec.deeper r) (deeper r) r.inner u (sym c.expands.ensures ∙ c.if-expands.false) ∙ ap (valued_end (grammar.word_of false)) g) c.in_err-parts-2.ensures

pub word-returns-clause-reads : goal.word-returns-clause-reads
word-returns-clause-reads t c =
    let r = c.args.self.now in
    law.word-plain (spec.deeper r) (deeper r) r.inner c.args.cursor.now (sym c.expands.ensures ∙ c.if-expands.false) ∙ ap (valued_end (grammar.word_of false)) c.in_ok-parts-2.ensures

pub word-returns-clause-left : goal.word-returns-clause-left
word-returns-clause-left t c =
    let r = c.args.self.now in
    word-strict (spec.deeper r) (deeper r) r.inner c.args.cursor.now c.requires.word c.plain_word-2.new.cursor
    (law.ended (spec.word r c.args.cursor.now) (grammar.word_of false c.in_ok-parts-2.parts) c.plain_word-2.new.cursor (word-returns-clause-reads t c))

pub words-words-init : goal.words-words-init
unfolding words_ahead
words-words-init t c = record { ahead = unmoved (λ ws. c.new-words.result ++ ws) (spec.words c.args.self.now c.args.cursor.now).1 (λ ws. ap (λ l. l ++ ws) c.new-words.ensures); left = omega arith }

pub words-returns-then-ends_command : goal.words-returns-then-ends_command
unfolding words_ahead
words-returns-then-ends_command t c =
    let r = c.args.self.now in
    let u = c.words.cursor in
    let ends : ends_command r.inner (sign u) ≡ true = sym (c.ends_command.ensures ∙ ap (ends_command r.inner) c.peek-sign.ensures) ∙ c.if-ends_command.true in
    c.words.invariant.ahead ∙ ap (valued_end (λ ws. c.words.words ++ ws)) (law.words-end (spec.deeper r) (deeper r) r.inner u ends) ∙ ap (λ l. Ok (l, u)) (append-nil c.words.words)

pub words-words-smaller-in-Blank : goal.words-words-smaller-in-Blank
words-words-smaller-in-Blank t c =
    let u = c.words.cursor in
    let r = c.args.self.now in
    let l : length (drop (run_len run.Blanks u) u) < length u
    = elim c.in-Blank.is [ inl h ↦ law.blank-less (spec.deeper r) (deeper r) r.inner u (sym c.peek-sign.ensures ∙ h) | inr h ↦ law.folded-less (spec.deeper r) (deeper r) r.inner u (sym c.peek-sign.ensures ∙ h) ] in
    let k : length c.take_run.new.cursor < length u = omega (arith, l, ap length c.take_run.ensures.rest) in k

pub words-words-preserved-in-Blank : goal.words-words-preserved-in-Blank
unfolding words_ahead
words-words-preserved-in-Blank t c =
    let u = c.words.cursor in
    let r = c.args.self.now in
    let goes : ends_command r.inner (sign u) ≡ false = sym (c.ends_command.ensures ∙ ap (ends_command r.inner) c.peek-sign.ensures) ∙ c.if-ends_command.false in
    let next : (spec.words r u).1 ≡ (spec.words r (drop (run_len run.Blanks u) u)).1
    = elim c.in-Blank.is [ inl h ↦ law.words-blank (spec.deeper r) (deeper r) r.inner u goes (sym c.peek-sign.ensures ∙ h) | inr h ↦ law.words-fold (spec.deeper r) (deeper r) r.inner u goes (sym c.peek-sign.ensures ∙ h) ] in
    record {
      ahead = c.words.invariant.ahead ∙ ap (valued_end (λ ws. c.words.words ++ ws)) (next ∙ ap (λ x. (spec.words r x).1) (sym c.take_run.ensures.rest));
      left = omega (arith, c.words.invariant.left, ap length c.take_run.ensures.rest, length-drop (run_len run.Blanks u) u);
    }

-- a word comes next
word_next : (r : Reader) (u : Text) → ends_command r.inner (sign u) ≡ false → (sign u ≡ s.Blank → ⊥) → (sign u ≡ s.Fold → ⊥) → (spec.words r u).1 ≡ (join (spec.word r u) (spec.words r) (λ w ws. w ∷ ws)).1
word_next r u g a b = law.words-word (spec.deeper r) (deeper r) r.inner u g a b

pub words-returns-in_err-word-in_default : goal.words-returns-in_err-word-in_default
unfolding words_ahead
words-returns-in_err-word-in_default t c =
    let u = c.words.cursor in
    let r = c.args.self.now in
    let goes : ends_command r.inner (sign u) ≡ false = sym (c.ends_command.ensures ∙ ap (ends_command r.inner) c.peek-sign.ensures) ∙ c.if-ends_command.false in
    comes-up (spec.word r u).1 (spec.words r c.args.cursor.now).1 c.from_residual.result c.in_err-word-in_default.field-0.0 c.word.new.cursor c.word.new.cursor c.from_residual.ensures.1
    (λ x g. c.words.invariant.ahead ∙ ap (valued_end (λ ws. c.words.words ++ ws)) (word_next r u goes (λ z. c.in_default.not-Blank (c.peek-sign.ensures ∙ z)) (λ z. c.in_default.not-Fold (c.peek-sign.ensures ∙ z)) ∙ join-err (spec.word r u) (spec.words r) (λ w ws. w ∷ ws) x g)) c.in_err-word-in_default.ensures.reads

pub words-words-preserved : goal.words-words-preserved
unfolding words_ahead
words-words-preserved t c =
    let u = c.words.cursor in
    let v = c.word.new.cursor in
    let r = c.args.self.now in
    let w = c.in_ok-word-in_default.word in
    let goes : ends_command r.inner (sign u) ≡ false = sym (c.ends_command.ensures ∙ ap (ends_command r.inner) c.peek-sign.ensures) ∙ c.if-ends_command.false in
    let next = word_next r u goes (λ z. c.in_default.not-Blank (c.peek-sign.ensures ∙ z)) (λ z. c.in_default.not-Fold (c.peek-sign.ensures ∙ z)) ∙ join-ok (spec.word r u) (spec.words r) (λ x ws. x ∷ ws) w v c.in_ok-word-in_default.ensures.reads in
    record {
      ahead =
          c.words.invariant.ahead
          ∙ moved (λ ws. c.words.words ++ ws) (λ ws. w ∷ ws) (λ ws. c.push.new.self ++ ws) (spec.words r u).1 (spec.words r v).1 next (λ ws. sym (append_assoc c.words.words (w ∷ []) ws) ∙ ap (λ l. l ++ ws) (sym c.in_ok-push-in_default.ensures.ok));
      left = omega (arith, c.words.invariant.left, c.in_ok-word-in_default.ensures.left);
    }
