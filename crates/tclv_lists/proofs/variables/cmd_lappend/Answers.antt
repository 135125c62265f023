use Rattle.std.proofs.Common.{◌≤◌, ◌∙◌, ◌-◌, List, ℕ, [], Option, get_or, refl, sym, ap, subst, arith}
use Rattle.std.specs.Option.{unwrap_or}
use Rattle.std.specs.Ordering.{nat_cmp}
use Rattle.std.specs.FinMap.{FinMap, get}
use Rattle.tclv_model.specs.Rows.{VarAnswer, and_then}
use Rattle.tclv_model.specs.Values.{list_of}
use Rattle.tclv_model.specs.declared.data_commands.VarState.{VarState}
use Rattle.tclv_model.specs.declared.data_commands.VarState.TheVariants as var
use Rattle.tclv_value.specs.View.{text_at}
use Rattle.tclv_value.specs.declared.places.At.TheVariants.{Cell}
use Rattle.tclv_value.specs.Stacks.{top}
use Rattle.tclv_reply.specs.Replies.{call_word, variable_of, VarAnswers}
use Rattle.tclv_reply.specs.Variables.{value_of, both}
use Rattle.std.specs.Prelude.{is_some}
use Rattle.tclv_lists.specs.Variables.{appended, row_lappend}
use Rattle.tclv_lists.proofs.VariableLemmas.{appends_in, not_ok}
use Rattle.tclv_reply.proofs.Laws.{first_word, begun, read_on, refused_there, var_as, var_on, var_refused}
use Rattle.tclv_lists.proofs.variables.cmd_lappend.Goals as goal

pub returns-in-Ok-clause-answer : goal.returns-in-Ok-clause-answer
returns-in-Ok-clause-answer c =
    let old = c.args.store.now in
    let s = old.stack in
    let n = c.args.n in
    let v = variable_of c.args.variable old in
    let h = c.height-height.ensures in
    let values = top (n - 1) s in
    let name = get_or s (c.height-height.result - n) [] in
    let step : List (List ℕ) → List ℕ → VarAnswer = λ ws t. and_then (list_of t) (λ ts. both (appended t ws ts)) in
    let f : Option (List ℕ) → VarAnswer = λ o. step values (unwrap_or o []) in
    let row = ap (λ (ws : List (List ℕ)). row_lappend (call_word n s) ws v) (first_word s [] n (omega arith) (omega arith)) ∙ ap (λ (k : ℕ). and_then (value_of (get_or s (k - n) []) v) f) (sym h) in
    let r = read_on (value_of name v) f (begun (and_then (value_of name v) f) old) (value_of name v) refl c.in-Ok.ensures.reads in
    let mid = c.read_variable.new.store in
    let cell = c.in-Ok.cell in
    let e = ap f r.shown.is ∙ ap (λ (m : FinMap nat_cmp (List ℕ)). f (get m cell)) (sym r.went.grows.cells) ∙ ap (λ (q : List (List ℕ)). step (top (n - 1) q) (text_at mid (Cell cell))) (sym r.went.same) in
    var_as _ _ c.args.variable n _ _ _ row
    (subst (λ (x : VarState). VarAnswers (and_then (value_of name v) f) x n old c.add_words.new.store c.add_words.result) (sym r.shown.cell)
    (var_on (var.Cell cell) n (step (top (n - 1) mid.stack) (text_at mid (Cell cell))) r.went e _ c.add_words.ensures.answer))

pub returns-in-Err-clause-answer : goal.returns-in-Err-clause-answer
returns-in-Err-clause-answer c =
    let old = c.args.store.now in
    let s = old.stack in
    let n = c.args.n in
    let v = variable_of c.args.variable old in
    let h = c.height-height.ensures in
    let values = top (n - 1) s in
    let name = get_or s (c.height-height.result - n) [] in
    let f : Option (List ℕ) → VarAnswer = λ o. let t = unwrap_or o [] in and_then (list_of t) (λ ts. both (appended t values ts)) in
    let le : n ≤ c.height-height.result = omega arith in
    let row = ap (λ (ws : List (List ℕ)). row_lappend (call_word n s) ws v) (first_word s [] n (omega arith) (omega arith)) ∙ ap (λ (k : ℕ). and_then (value_of (get_or s (k - n) []) v) f) (sym h) in
    let r = refused_there (value_of name v) f (begun (and_then (value_of name v) f) old) (value_of name v) refl c.in-Err.ensures.reads in
    var_as _ _ c.args.variable n _ _ _ row (var_refused (and_then (value_of name v) f) c.args.variable n old _ _ _ c.in-Err.kind _ h le r.0 r.1 c.settle.ensures.settles c.settle.ensures.same)

pub returns-in-Ok-clause-object : goal.returns-in-Ok-clause-object
returns-in-Ok-clause-object c =
    let old = c.args.store.now in
    let shown = c.in-Ok.ensures.reads.gives.shown in
    appends_in c.add_words.result c.args.variable c.in-Ok.cell c.in-Ok.is_set c.args.n old c.read_variable.new.store c.add_words.new.store shown.cell c.in-Ok.ensures.unchanged (ap is_some (sym shown.is) ∙ shown.set) c.add_words.ensures.object

pub returns-in-Err-clause-object : goal.returns-in-Err-clause-object
returns-in-Err-clause-object c = not_ok c.settle.result c.in-Err.kind _ c.settle.ensures.same
