use Rattle.std.proofs.Common.{◌-◌, ◌∙◌, List, ℕ, [], Option, take, drop, get_or, refl, sym, ap, subst}
use Rattle.std.specs.Option.{unwrap_or}
use Rattle.std.specs.Ordering.{nat_cmp}
use Rattle.std.specs.FinMap.{FinMap, get}
use Rattle.tclv_model.specs.Rows.{VarAnswer, Variable, and_then}
use Rattle.tclv_model.specs.declared.data_commands.VarState.{VarState}
use Rattle.tclv_model.specs.declared.data_commands.VarState.TheVariants as var
use Rattle.tclv_value.specs.View.{text_at}
use Rattle.tclv_value.specs.declared.places.At.TheVariants.{Cell}
use Rattle.tclv_reply.specs.Replies.{variable_of}
use Rattle.tclv_lists.specs.Paths.{path_of, forms_of, put_along}
use Rattle.tclv_reply.specs.Variables.{both, text_of_set}
use Rattle.tclv_lists.specs.Variables.{lset_of, Stores}
use Rattle.tclv_reply.proofs.Laws.{grows_trans, begun, read_on, refused_there, word_kept}
use Rattle.tclv_lists.proofs.StoredLemmas.{stores_after, stores_refused}
use Rattle.tclv_lists.proofs.AlongLemmas.{checked_first, variable_kept}
use Rattle.tclv_lists.proofs.setting.set_value.Goals as goal

pub returns-in-Err : goal.returns-in-Err
returns-in-Err c =
    let old = c.args.store.now in
    let mid = c.read_path.new.store in
    let e = c.in_ok-first.ensures in
    let words = path_of (take (c.args.to - c.args.from) (drop c.args.from old.stack)) in
    let path = take (c.in_ok-first.end - c.in_ok-first.first) (drop c.in_ok-first.first mid.stack) in
    let x = get_or old.stack c.args.value [] in
    let put : List (List ℕ) → List ℕ → VarAnswer = λ p t. and_then (put_along t p x) both in
    let rest : List (List ℕ) → VarAnswer = λ p. and_then (text_of_set (get_or old.stack c.args.name []) (variable_of c.args.variable old)) (put p) in
    let f : Unit {0} → VarAnswer = λ u. rest path in
    let row = checked_first words (rest words) ∙ ap (λ (p : List (List ℕ)). and_then (forms_of p) (λ u. rest p)) (sym e.path.is) in
    let r = refused_there (forms_of path) f (begun (and_then (forms_of path) f) mid) (forms_of path) refl c.in-Err.ensures in
    stores_after _ (and_then (forms_of path) f) c.args.variable old mid _ _ e.grows row (stores_refused (and_then (forms_of path) f) c.args.variable mid _ _ r.0 r.1)

pub returns-in-Err-set_cell : goal.returns-in-Err-set_cell
returns-in-Err-set_cell c =
    let old = c.args.store.now in
    let mid = c.read_path.new.store in
    let two = c.check_indices.new.store in
    let e = c.in_ok-first.ensures in
    let words = path_of (take (c.args.to - c.args.from) (drop c.args.from old.stack)) in
    let path = take (c.in_ok-first.end - c.in_ok-first.first) (drop c.in_ok-first.first mid.stack) in
    let x = get_or old.stack c.args.value [] in
    let put : List (List ℕ) → List ℕ → VarAnswer = λ p t. and_then (put_along t p x) both in
    let set = text_of_set (get_or old.stack c.args.name []) (variable_of c.args.variable old) in
    let f : Unit {0} → VarAnswer = λ u. and_then set (put path) in
    let row = checked_first words (and_then set (put words)) ∙ ap (λ (p : List (List ℕ)). and_then (forms_of p) (λ u. and_then set (put p))) (sym e.path.is) in
    let r1 = read_on (forms_of path) f (begun (and_then (forms_of path) f) mid) (forms_of path) refl c.in-Ok.ensures in
    let cells = r1.went.grows.cells ∙ e.grows.cells in
    let named = ap (λ (q : List (List ℕ)). get_or q c.args.name []) r1.went.same ∙ word_kept old.stack mid.stack e.grows.more c.args.name e.grows.stack c.requires.name in
    let same = ap (λ (v : Variable). text_of_set (get_or old.stack c.args.name []) v) (variable_kept c.args.variable old two cells) ∙ ap (λ (t : List ℕ). text_of_set t (variable_of c.args.variable two)) (sym named) in
    let r = refused_there set (put path) r1.went _ same c.in-Err-set_cell.ensures in
    stores_after _ (and_then (forms_of path) f) c.args.variable old mid _ _ e.grows row (stores_refused (and_then (forms_of path) f) c.args.variable mid _ _ r.0 r.1)

pub returns-in-Ok-set_cell : goal.returns-in-Ok-set_cell
returns-in-Ok-set_cell c =
    let old = c.args.store.now in
    let mid = c.read_path.new.store in
    let two = c.check_indices.new.store in
    let three = c.set_cell.new.store in
    let last = c.put_value.new.store in
    let cell = c.in-Ok-set_cell.cell in
    let e = c.in_ok-first.ensures in
    let words = path_of (take (c.args.to - c.args.from) (drop c.args.from old.stack)) in
    let part : List (List ℕ) → List (List ℕ) = λ q. take (c.in_ok-first.end - c.in_ok-first.first) (drop c.in_ok-first.first q) in
    let path = part mid.stack in
    let x = get_or old.stack c.args.value [] in
    let put : List (List ℕ) → List ℕ → VarAnswer = λ p t. and_then (put_along t p x) both in
    let set = text_of_set (get_or old.stack c.args.name []) (variable_of c.args.variable old) in
    let f : Unit {0} → VarAnswer = λ u. and_then set (put path) in
    let row = checked_first words (and_then set (put words)) ∙ ap (λ (p : List (List ℕ)). and_then (forms_of p) (λ u. and_then set (put p))) (sym e.path.is) in
    let r1 = read_on (forms_of path) f (begun (and_then (forms_of path) f) mid) (forms_of path) refl c.in-Ok.ensures in
    let cells = r1.went.grows.cells ∙ e.grows.cells in
    let named = ap (λ (q : List (List ℕ)). get_or q c.args.name []) r1.went.same ∙ word_kept old.stack mid.stack e.grows.more c.args.name e.grows.stack c.requires.name in
    let same = ap (λ (v : Variable). text_of_set (get_or old.stack c.args.name []) v) (variable_kept c.args.variable old two cells) ∙ ap (λ (t : List ℕ). text_of_set t (variable_of c.args.variable two)) (sym named) in
    let r2 = read_on set (put path) r1.went _ same c.in-Ok-set_cell.ensures in
    let text = ap (λ (m : FinMap nat_cmp (List ℕ)). unwrap_or (get m cell) []) c.in-Ok-set_cell.ensures.grows.cells ∙ ap (λ (o : Option (List ℕ)). unwrap_or o []) r2.shown.is in
    let part_is = ap part r2.went.same in
    let value_is = ap (λ (q : List (List ℕ)). get_or q c.args.value []) r2.went.same ∙ word_kept old.stack mid.stack e.grows.more c.args.value e.grows.stack c.requires.value in
    let then = ap (λ (t : List ℕ). put path t) (sym text)
    ∙ ap (λ (p : List (List ℕ)). put p (text_at three (Cell cell))) (sym part_is)
    ∙ ap (λ (y : List ℕ). and_then (put_along (text_at three (Cell cell)) (part three.stack) y) both) (sym value_is) in
    let answer = lset_of (get_or old.stack c.args.name []) words x (variable_of c.args.variable old) in
    subst (λ (u : VarState). Stores answer u old last c.put_value.result) (sym r2.shown.cell_is)
    (stores_after answer _ (var.Cell cell) old three last c.put_value.result (grows_trans old mid three e.grows r2.went.grows) (row ∙ (r2.went.is ∙ then)) c.put_value.ensures)
