-- The text of a word where few units are left: evaluators that agree there give the same.
use Rattle.std.proofs.Common.{◌++◌, ℕ, zero, suc, List, [], ◌∷◌}
use Rattle.tclv_parse.specs.declared.tree.Part.{Part, out-Part}
use Rattle.tclv_parse.specs.declared.tree.Part.TheOpen as part
use Rattle.tclv_parse.specs.declared.tree.Word.{Word}
use Rattle.tclv_parse.specs.declared.tree.Command.{Command}
use Rattle.tclv_parse.specs.declared.tree.Script.{Script}
use Rattle.tclv_engine.specs.State.{Text, State}
use Rattle.tclv_engine.specs.Results.{Res}
use Rattle.tclv_engine.specs.Words.{Evaluator, part_by, joined, element, part_value, max_levels, substitution}
use Rattle.tclv_engine.proofs.SameLemmas.{Agree, EvaluatorsAgree, with_itself, bind_same, variable_same, element_value_same}

part-agree : {W : Type 0} → (n : ℕ) (ev ev' : (Evaluator W)) (el el' : Text → List Part → (State W) → Res W Text) → EvaluatorsAgree n ev ev' →
    ((name : Text) (index : List Part) → Agree n (el name index) (el' name index)) → (p : part.Part-F Part Command Script Word) → Agree n (part_by ev el p) (part_by ev' el' p)
part-agree n ev ev' el el' h k (part.Literal text) st u = with_itself u
part-agree n ev ev' el el' h k (part.Variable name) st u = variable_same n name st u
part-agree n ev ev' el el' h k (part.Element name index) st u = k name index st u
part-agree n ev ev' el el' h k (part.Script script) st u = bind_same (h.scripts script st u) (λ o s1 v. with_itself v)

joined-agree : {W : Type 0} → (n : ℕ) (value value' : Part → (State W) → Res W Text) → ((p : Part) → Agree n (value p) (value' p)) →
    (before : Text) (ps : List Part) → Agree n (joined value before ps) (joined value' before ps)
unfolding joined
joined-agree n value value' h before [] st u = with_itself u
joined-agree n value value' h before (p ∷ ps) st u = bind_same (h p st u) (λ text. joined-agree n value value' h (before ++ text) ps)

element-agree : {W : Type 0} → (levels n : ℕ) (ev ev' : (Evaluator W)) → EvaluatorsAgree n ev ev' → (name : Text) (index : List Part) → Agree n (element levels ev name index) (element levels ev' name index)
unfolding element
element-agree zero n ev ev' h name index st u = with_itself u
element-agree (suc levels) n ev ev' h name index st u =
    bind_same
    (joined-agree n (part_value levels ev) (part_value levels ev') (λ p. part-agree n ev ev' (element levels ev) (element levels ev') h (element-agree levels n ev ev' h) (out-Part p)) [] index st u)
    (λ text. element_value_same n name text)

pub substitution_agree : {W : Type 0} → (n : ℕ) (ev ev' : (Evaluator W)) → EvaluatorsAgree n ev ev' → (parts : List Part) → Agree n (substitution ev parts) (substitution ev' parts)
substitution_agree n ev ev' h parts =
    joined-agree n (part_value max_levels ev) (part_value max_levels ev')
    (λ p. part-agree n ev ev' (element max_levels ev) (element max_levels ev') h (element-agree max_levels n ev ev' h) (out-Part p)) [] parts
