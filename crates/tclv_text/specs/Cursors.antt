-- A place in a text: what stands there, as far as the readers of scripts look at it.
use Rattle.std.specs.Prelude.{ℕ, ◌+◌, Bool, true, false, ◌||◌, ◌&&◌, if◌then◌else◌, ◌==◌, nat_le, List, [], ◌∷◌, length, drop, slice_index}
use Rattle.std.specs.Char.{is_ascii_alphanumeric}
use Rattle.std.specs.Str.{encode_utf8_all}
use Rattle.tclv_text.specs.Escapes.{escape}
use Rattle.tclv_text.specs.declared.cursors.Sign.{Sign}
use Rattle.tclv_text.specs.declared.cursors.Sign.TheVariants.{End, Blank, Fold, Newline, Semicolon, Hash, OpenBrace, CloseBrace, Quote, Dollar, OpenBracket, CloseBracket, OpenParen, CloseParen, Star, Backslash, Name, Colons, Colon, Other}

-- how many bytes the code points take
unfoldable pub size : List ℕ → ℕ
size t = length (encode_utf8_all t)

-- a letter, a digit or an underscore
abbrev pub is_name : ℕ → Bool
is_name c = is_ascii_alphanumeric c || c == 95

-- space, tab, vertical tab, form feed and carriage return
abbrev pub is_separator : ℕ → Bool
is_separator c = c == 32 || c == 9 || (nat_le 11 c && nat_le c 13)

-- A dollar sign before these two code points begins a variable: `${name}`, an element with an empty name, or a name, which begins with a character of names or with two colons.
abbrev pub begins_variable : ℕ → ℕ → Bool
begins_variable next third = next == 123 || next == 40 || is_name next || (next == 58 && third == 58)

-- what c is, before the next code point and the third one, where 0 stands for a missing one
unfoldable pub sign_of : ℕ → ℕ → ℕ → Sign
sign_of c next third =
    if is_separator c then Blank
    else (if c == 10 then Newline
    else (if c == 59 then Semicolon
    else (if c == 35 then Hash
    else (if c == 123 then OpenBrace
    else (if c == 125 then CloseBrace
    else (if c == 34 then Quote
    else (if c == 91 then OpenBracket
    else (if c == 93 then CloseBracket
    else (if c == 40 then OpenParen
    else (if c == 41 then CloseParen
    else (if c == 42 then Star
    else (if c == 92 then (if next == 10 then Fold else Backslash)
    else (if c == 36 then (if begins_variable next third then Dollar else Other)
    else (if c == 58 then (if next == 58 then Colons else Colon)
    else (if is_name c then Name
    else Other)))))))))))))))

-- what a text begins with
unfoldable pub sign : List ℕ → Sign
sign [] = End
sign (c ∷ t) = sign_of c (slice_index t 0) (slice_index t 1)

-- a backslash comes, before a newline or not
abbrev pub begins_escape : Sign → Bool
begins_escape Fold = true
begins_escape Backslash = true
begins_escape _ = false

-- how many code points the escape takes that a text begins with, its backslash included
abbrev pub escape_len : List ℕ → ℕ
escape_len t = (escape (drop 1 t)).1 + 1

-- the character that it stands for
abbrev pub escape_char : List ℕ → ℕ
escape_char t = (escape (drop 1 t)).0
