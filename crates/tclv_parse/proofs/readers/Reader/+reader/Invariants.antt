use Rattle.std.proofs.Common.{◌≡◌, ◌≤◌, ◌+◌, ◌*◌, length}
use Rattle.tclv_parse.specs.Readers as spec
use Rattle.tclv_parse.proofs.readers.Reader.+reader.Given as goal

abbrev pub decreases-script : goal.decreases-script
decreases-script l = 8 * l.self.now.depth

abbrev pub decreases-index : goal.decreases-index
decreases-index l = 8 * l.self.now.depth

abbrev pub decreases-variable : goal.decreases-variable
decreases-variable l = 8 * l.self.now.depth + 1

abbrev pub decreases-part : goal.decreases-part
decreases-part l = 8 * l.self.now.depth + 2

abbrev pub decreases-parts : goal.decreases-parts
decreases-parts l = 8 * l.self.now.depth + 3

abbrev pub decreases-plain_word : goal.decreases-plain_word
decreases-plain_word l = 8 * l.self.now.depth + 4

abbrev pub decreases-word : goal.decreases-word
decreases-word l = 8 * l.self.now.depth + 5

abbrev pub decreases-words : goal.decreases-words
decreases-words l = 8 * l.self.now.depth + 6

abbrev pub decreases-commands : goal.decreases-commands
decreases-commands l = 8 * l.self.now.depth + 7

abbrev pub invariant-parts-parts : goal.invariant-parts-parts
invariant-parts-parts l = record { ahead : (spec.parts l.self l.form l.fn.cursor).1 ≡ spec.parts_ahead l.self l.form l.found l.cursor; left : length l.cursor ≤ length l.fn.cursor }

abbrev pub decreases-parts-parts : goal.decreases-parts-parts
decreases-parts-parts l = length l.cursor

abbrev pub invariant-words-words : goal.invariant-words-words
invariant-words-words l = record { ahead : (spec.words l.self l.fn.cursor).1 ≡ spec.words_ahead l.self l.words l.cursor; left : length l.cursor ≤ length l.fn.cursor }

abbrev pub decreases-words-words : goal.decreases-words-words
decreases-words-words l = length l.cursor

abbrev pub invariant-commands-commands : goal.invariant-commands-commands
invariant-commands-commands l = record { ahead : spec.commands l.self l.fn.cursor ≡ spec.commands_ahead l.self l.commands l.cursor; left : length l.cursor ≤ length l.fn.cursor }

abbrev pub decreases-commands-commands : goal.decreases-commands-commands
decreases-commands-commands l = length l.cursor
