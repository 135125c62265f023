-- The options of an outcome as a dict.
use Rattle.std.specs.Prelude.{List, [], ◌∷◌}
use Rattle.tclv_model.specs.declared.outcomes.Pair.{Pair}
use Rattle.tclv_engine.specs.State.{Text}

-- the words of options as a dict: each name before its value
abbrev pub option_words : List Pair → List Text
option_words [] = []
option_words (p ∷ ps) = p.key ∷ p.value ∷ option_words ps
