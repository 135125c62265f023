use Rattle.std.specs.Str.{bytes_eq}
use Rattle.std.proofs.Common.{rules, subst, List, refl, ap, sym, ◌≡◌, ◌∙◌, ◌-◌, Ok, Err, [], get_or, length}
use Rattle.tclv_model.specs.declared.data_commands.VarState.TheVariants.{IsArray}
use Rattle.tclv_model.specs.Rows.{WholeArray}
use Rattle.tclv_value.specs.Stacks.{top}
use Rattle.tclv_reply.specs.Replies.{call_word}
use Rattle.tclv_engine.specs.State.{Text, state_of}
use Rattle.tclv_engine.specs.Answers.{KeepsStack}
use Rattle.tclv_engine.specs.DataSteps.{BecomesError}
use Rattle.tclv_engine.specs.Operations.{second_of}
use Rattle.tclv_plain.specs.CellRows.{row_of, unbuilt}
use Rattle.tclv_engine.proofs.Binds.{runs_as}
use Rattle.tclv_engine.proofs.Leaves.{raise_runs, memory_runs}
use Rattle.tclv_engine.proofs.DataLemmas.{over_call}
use Rattle.tclv_plain.proofs.CellLemmas.{array_message, declined_words, changed_words, unbuilt_stack, unbuilt_given, comes_to_variable, refused_before, refused_under}
use Rattle.tclv_plain.proofs.cell_commands.cell_unbuilt.Goals as goal

pub returns-in_err-array-clause-answer : goal.returns-in_err-array-clause-answer
returns-in_err-array-clause-answer g c here w told = memory_runs (search rules) told refl

pub returns-in-Err-NoMemory-clause-answer : goal.returns-in-Err-NoMemory-clause-answer
returns-in-Err-NoMemory-clause-answer g c here w told = memory_runs refl told refl

pub returns-in-Ok-clause-answer : goal.returns-in-Ok-clause-answer
returns-in-Ok-clause-answer g c here w told =
    let stack = c.args.machine.now.values.store.stack in
    let k = c.args.n - 1 in
    let name = get_or stack (length stack - k) [] in
    let row = row_of c.args.command (call_word k stack) (top k stack) WholeArray in
    let is : c.change_array.result ≡ Ok tt = search rules in
    let d = changed_words row k c.args.machine.now.values.store c.change_array.new.values.store IsArray c.change_array.result is c.change_array.ensures.answer in
    runs_as (ap (λ a. unbuilt name a (state_of c.args.machine.now w)) (sym d.given))
    (raise_runs c.args.machine.now told (search rules) c.not_built.ensures.raises)

pub returns-in-Ok-clause-stack : goal.returns-in-Ok-clause-stack
returns-in-Ok-clause-stack g c =
    let stack = c.args.machine.now.values.store.stack in
    let k = c.args.n - 1 in
    let row = row_of c.args.command (call_word k stack) (top k stack) WholeArray in
    let is : c.change_array.result ≡ Ok tt = search rules in
    over_call c.args.n stack (Err c.not_built.result) c.not_built.new.self.values.store.stack (search rules) c.requires.words
    (unbuilt_given row k c.args.machine.now.values.store c.change_array.new.values.store IsArray c.not_built.result c.not_built.new.self.values.store.stack
    (changed_words row k c.args.machine.now.values.store c.change_array.new.values.store IsArray c.change_array.result is c.change_array.ensures.answer) c.not_built.ensures.stack)

pub returns-in_err-is_message-in-Err-WrongArgs : goal.returns-in_err-is_message-in-Err-WrongArgs
returns-in_err-is_message-in-Err-WrongArgs g c =
    record { answer = λ here w told. memory_runs (search rules) told (search rules); stack = search rules; calm = search rules; units = search rules }

pub returns-then-branch : goal.returns-then-branch
returns-then-branch g c =
    let stack = c.args.machine.now.values.store.stack in
    let k = c.args.n - 1 in
    let name = get_or stack (length stack - k) [] in
    let row = row_of c.args.command (call_word k stack) (top k stack) WholeArray in
    let before = c.args.machine.now.values.store in
    let after = c.change_array.new.values.store in
    let kind = c.in-Err-WrongArgs.field-0 in
    let d = declined_words row k before after IsArray kind c.change_array.result (search rules) (search rules) c.change_array.ensures.answer in
    let message = c.bytes.ensures.text ∙ c.in_ok-array.ensures ∙ array_message _ name (c.lend-name.ensures.text ∙ ap (λ l. get_or stack (l - k) []) c.height.ensures) in
    let told_so = c.in_ok-is_message-in-Err-WrongArgs.ensures.answer ∙ ap (bytes_eq (second_of after.stack)) message in
    let e = c.not_built-then-branch.result in
    let now = c.not_built-then-branch.new.self.values.store.stack in
    let kept : KeepsStack {T = Unit {0}} after.stack (Err e) now = let P : List Text → Type 0 = λ s. KeepsStack {T = Unit {0}} s (Err e) now in subst P c.is_message.ensures.stack c.not_built-then-branch.ensures.stack in
    record {
      answer = λ here w told. runs_as (comes_to_variable name row k before after kind d (state_of c.args.machine.now w) (sym c.if-branch.true ∙ told_so)) (raise_runs c.args.machine.now told (search rules) c.not_built-then-branch.ensures.raises);
      stack = over_call c.args.n stack (Err e) now (search rules) c.requires.words (unbuilt_stack row k before after kind e now d kept);
      calm = search rules;
      units = search rules;
    }

pub returns : goal.returns
returns g c =
    let stack = c.args.machine.now.values.store.stack in
    let k = c.args.n - 1 in
    let name = get_or stack (length stack - k) [] in
    let row = row_of c.args.command (call_word k stack) (top k stack) WholeArray in
    let before = c.args.machine.now.values.store in
    let after = c.change_array.new.values.store in
    let kind = c.in-Err-WrongArgs.field-0 in
    let d = declined_words row k before after IsArray kind c.change_array.result (search rules) (search rules) c.change_array.ensures.answer in
    let message = c.bytes.ensures.text ∙ c.in_ok-array.ensures ∙ array_message _ name (c.lend-name.ensures.text ∙ ap (λ l. get_or stack (l - k) []) c.height.ensures) in
    let told_so = c.in_ok-is_message-in-Err-WrongArgs.ensures.answer ∙ ap (bytes_eq (second_of after.stack)) message in
    let e = c.refuse.result in
    let now = c.refuse.new.self.values.store.stack in
    let becomes : BecomesError after.stack e now = let P : List Text → Type 0 = λ s. BecomesError s e now in subst P c.is_message.ensures.stack c.refuse.ensures.refuses in
    record {
      answer = λ here w told. refused_before name row k before after kind d e c.args.machine.now c.refuse.new.self w here told (search rules) (sym c.if-branch.false ∙ told_so) becomes;
      stack = over_call c.args.n stack (Err e) now (search rules) c.requires.words (refused_under name row k before after kind d e now becomes);
      calm = search rules;
      units = search rules;
    }
