-- What each form of a value says.
use Rattle.std.specs.Prelude.{◌≡◌, ℕ, true, List, [], Ok}
use Rattle.std.specs.Int.{w64}
use Rattle.std.specs.Int.RustNames.{FitsSigned}
use Rattle.tclv_text.specs.Elements.{elements}
use Rattle.tclv_text.specs.Numbers.{whole, whole_text}
use Rattle.tclv_text.specs.Quotes.{list_text}
use Rattle.tclv_text.proofs.NumbersBack.{whole_back}
use Rattle.tclv_text.proofs.QuoteLemmas.{list_text_reads}
use Rattle.tclv_heap.specs.Table.{Table}
use Rattle.tclv_value.specs.declared.forms.Form.{Form}
use Rattle.tclv_value.specs.declared.forms.Form.TheVariants as form

-- the objects that a form holds: a list its elements, a number none
abbrev pub parts_of : Form → List ℕ
parts_of (form.Whole n) = []
parts_of (form.List items) = items.ids

-- whether the form alone gives the text: a number of 64 bits does, and a list
abbrev pub Spells : Form → Type 0
Spells (form.Whole n) = FitsSigned w64 n
Spells (form.List items) = Unit {0}

-- the text that the form gives: a number its decimal text, a list the canonical one of its elements
abbrev pub spelled : Form → List (List ℕ) → List ℕ
spelled (form.Whole n) texts = whole_text n
spelled (form.List items) texts = list_text texts

-- The text, when it is read, gives the form: a number is what the text is as a whole number, and ` 7 ` and `0x7` fit 7 as well as `7`; a list's elements are those of the text.
abbrev pub Fits : List ℕ → Form → List (List ℕ) → Type 0
Fits text (form.Whole n) texts = whole text ≡ Ok n
Fits text (form.List items) texts = elements text ≡ Ok texts

pub fits_spelled : (f : Form) (texts : List (List ℕ)) → Spells f → Fits (spelled f texts) f texts
fits_spelled (form.Whole n) texts spells = whole_back n spells
fits_spelled (form.List items) texts spells = list_text_reads texts

-- to read a text as a number or as a list counts
abbrev pub form_table : Table Form
form_table = record { parts = parts_of; Spells = Spells; spelled = spelled; counts = λ _. true; Fits = Fits; fits_spelled = fits_spelled }
