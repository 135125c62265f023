-- Values that a row reads from words: lists, places and whole numbers, each with its refusal.
use Rattle.std.specs.Prelude.{ℕ, not, List, [], take, take_while, Result, Ok, Err, ℤ, pos, negsuc}
use Rattle.tclv_text.specs.declared.indices.IndexFault.{IndexFault}
use Rattle.tclv_text.specs.declared.numbers.WholeFault.{WholeFault}
use Rattle.tclv_text.specs.declared.numbers.WholeFault.TheVariants.{NotWhole, TooLarge, FloatForm}
use Rattle.tclv_text.specs.Characters.{is_space}
use Rattle.tclv_text.specs.Lists.{ListFlaw, MissingBrace, MissingQuote, TextAfterBrace, TextAfterQuote}
use Rattle.tclv_text.specs.Elements.{elements}
use Rattle.tclv_text.specs.Pairs.{Pairs, PairsFlaw, NoList, MissingValue, pairs}
use Rattle.tclv_text.specs.Indices.{index}
use Rattle.tclv_text.specs.Numbers.{whole}
use Rattle.tclv_model.specs.declared.data_commands.CmdFault.TheVariants.{Message}
use Rattle.tclv_model.specs.declared.error_codes.ErrorCode.TheVariants.{NotNumber, Overflow}
use Rattle.tclv_model.specs.declared.messages.MessageId.TheVariants.{UnmatchedOpenBrace, UnmatchedOpenQuote, NoSpaceAfterBraces, NoSpaceAfterQuotes, MissingDictValue, BadIndex, NotInteger, IntegerTooLarge}
use Rattle.tclv_model.specs.ErrorCodes.{error_code}
use Rattle.tclv_model.specs.Message.{text_of}
use Rattle.tclv_model.specs.Rows.{Answer, Gives, Refuses, says}

-- What follows a closing mark, as a message shows it: up to white space, and at most 20 code points.
abbrev pub shown : List ℕ → List ℕ
shown rest = take 20 (take_while (λ c. not (is_space c)) rest)

abbrev pub no_list : {A : Type 0} → ListFlaw → Answer A
no_list MissingBrace = says UnmatchedOpenBrace [] []
no_list MissingQuote = says UnmatchedOpenQuote [] []
no_list (TextAfterBrace rest) = says NoSpaceAfterBraces (shown rest) []
no_list (TextAfterQuote rest) = says NoSpaceAfterQuotes (shown rest) []

-- the elements of a text, or the message on its first flaw
abbrev pub list_read : Result (List (List ℕ)) ListFlaw → Answer (List (List ℕ))
list_read (Ok ts) = Gives ts
list_read (Err flaw) = no_list flaw

abbrev pub list_of : List ℕ → Answer (List (List ℕ))
list_of t = list_read (elements t)

-- the pairs of a text, or the message on its first flaw
abbrev pub dict_read : Result Pairs PairsFlaw → Answer Pairs
dict_read (Ok ps) = Gives ps
dict_read (Err (NoList flaw)) = no_list flaw
dict_read (Err MissingValue) = says MissingDictValue [] []

abbrev pub dict_of : List ℕ → Answer Pairs
dict_of t = dict_read (pairs t)

-- the place that a text names where the length is len, or the message that it names none
abbrev pub place_read : List ℕ → Result ℤ IndexFault → Answer ℤ
place_read t (Ok place) = Gives place
place_read t (Err _) = says BadIndex t []

abbrev pub place_of : List ℕ → ℕ → Answer ℤ
place_of t len = place_read t (index t len)

-- a place as a number, where those below 0 count as 0
abbrev pub raised : ℤ → ℕ
raised (pos k) = k
raised (negsuc k) = 0

-- the refusal of a text that is no whole number, and of one that is too large a number
abbrev pub no_whole : {A : Type 0} → List ℕ → Answer A
no_whole t = Refuses Message (text_of NotInteger t []) (error_code NotNumber [])

abbrev pub too_large : {A : Type 0} → Answer A
too_large = Refuses Message (text_of IntegerTooLarge [] []) (error_code Overflow [])

-- the whole number that a text is
abbrev pub whole_read : List ℕ → Result ℤ WholeFault → Answer ℤ
whole_read t (Ok z) = Gives z
whole_read t (Err TooLarge) = too_large
whole_read t (Err NotWhole) = no_whole t
whole_read t (Err FloatForm) = no_whole t

abbrev pub whole_of : List ℕ → Answer ℤ
whole_of t = whole_read t (whole t)
