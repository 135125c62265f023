-- The value of each kind of part.
use Rattle.std.proofs.Common.{◌≡◌, ℕ, List, rules, ap, sym, ◌∙◌}
use Rattle.tclv_parse.specs.declared.tree.Part.{Part, out-Part, the_lemmas}
use Rattle.tclv_parse.specs.declared.tree.Part.TheVariants as part
use Rattle.tclv_parse.specs.declared.tree.Part.TheOpen as layer
use Rattle.tclv_parse.specs.declared.tree.Script.{Script}
use Rattle.tclv_engine.specs.State.{Text, State}
use Rattle.tclv_engine.specs.Results.{done}
use Rattle.tclv_engine.specs.Variables.{variable}
use Rattle.tclv_engine.specs.Words.{Evaluator, part_by, part_value, element, bracketed}

-- what each kind of part is made of
literal-opens : (text : Text) → out-Part (part.Literal text) ≡ layer.Literal text
literal-opens text = ap (λ p. out-Part p) (sym (part.rolls-Literal text)) ∙ search (rules, the_lemmas)

variable-opens : (name : Text) → out-Part (part.Variable name) ≡ layer.Variable name
variable-opens name = ap (λ p. out-Part p) (sym (part.rolls-Variable name)) ∙ search (rules, the_lemmas)

element-opens : (name : Text) (index : List Part) → out-Part (part.Element name index) ≡ layer.Element name index
element-opens name index = ap (λ p. out-Part p) (sym (part.rolls-Element name index)) ∙ search (rules, the_lemmas)

script-opens : (script : Script) → out-Part (part.Script script) ≡ layer.Script script
script-opens script = ap (λ p. out-Part p) (sym (part.rolls-Script script)) ∙ search (rules, the_lemmas)

module _ {W : Type 0} (levels : ℕ) (ev : (Evaluator W)) (p : Part) (st : (State W)) where
  pub literal-part : (text : Text) → p ≡ part.Literal text → done text st ≡ part_value levels ev p st
  literal-part text e = sym (ap (λ x. part_by ev (element levels ev) x st) (ap (λ x. out-Part x) e ∙ literal-opens text))

  pub variable-part : (name : Text) → p ≡ part.Variable name → variable name st ≡ part_value levels ev p st
  variable-part name e = sym (ap (λ x. part_by ev (element levels ev) x st) (ap (λ x. out-Part x) e ∙ variable-opens name))

  pub element-part : (name : Text) (index : List Part) → p ≡ part.Element name index → element levels ev name index st ≡ part_value levels ev p st
  element-part name index e = sym (ap (λ x. part_by ev (element levels ev) x st) (ap (λ x. out-Part x) e ∙ element-opens name index))

  pub script-part : (script : Script) → p ≡ part.Script script → bracketed ev script st ≡ part_value levels ev p st
  script-part script e = sym (ap (λ x. part_by ev (element levels ev) x st) (ap (λ x. out-Part x) e ∙ script-opens script))
