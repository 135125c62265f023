-- The text of a list as a script.
use Rattle.std.specs.Prelude.{◌≡◌, false, List, [], ◌∷◌, map, None}
use Rattle.tclv_text.specs.Quotes.{list_text}
use Rattle.tclv_parse.specs.declared.tree.Word.{Word}
use Rattle.tclv_parse.specs.Runs.{Text}
use Rattle.tclv_parse.specs.Grammar.{commands, script_of, command_of, word_of, text_part}

-- The word of a command that stands for a text and no more: without an expansion mark, with the text as its one part, which is literal. The word of the empty text has no part.
abbrev pub literal_word : Text → Word
literal_word t = word_of false (text_part t)

-- The list's text, read as a script, is one command from byte place 0 on, whose words are the literal words of the elements, and it has no fault.
abbrev pub IsOneCommand : List Text → Type 0
IsOneCommand ts = commands (list_text ts) ≡ script_of (command_of 0 (map literal_word ts) ∷ []) None
