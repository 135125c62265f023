-- Escapes: what a backslash and the characters behind it stand for.
use Rattle.std.specs.Prelude.{ℕ, zero, suc, ◌+◌, ◌*◌, Bool, ◌&&◌, ◌||◌, ◌==◌, nat_le, not, if◌then◌else◌, List, [], ◌∷◌}
use Rattle.std.specs.List.{prefix_len}
use Rattle.std.specs.Char.{digit_value, is_digit}
use Rattle.std.specs.Int.{is_in_range}

-- The number that at most k digits in front write behind those of v, while it is at most `most`, and how many they are.
abbrev pub digit_run : ℕ → ℕ → ℕ → ℕ → List ℕ → ℕ × ℕ
digit_run radix most zero v cs = (v, 0)
digit_run radix most (suc k) v [] = (v, 0)
digit_run radix most (suc k) v (c ∷ cs) = if is_digit c radix && nat_le (v * radix + digit_value c) most then (let r = digit_run radix most k (v * radix + digit_value c) cs in (r.0, r.1 + 1)) else (v, 0)

-- the character of a number: a surrogate gives U+FFFD
abbrev pub character : ℕ → ℕ
character v = if is_in_range 0xD800 0xDFFF v then 0xFFFD else v

-- a letter and the digits behind it; the letter itself where there are none
abbrev pub numbered : ℕ → ℕ × ℕ → ℕ × ℕ
numbered letter (v, n) = if n == 0 then (letter, 1) else (character v, n + 1)

-- space and tab
abbrev pub is_blank : ℕ → Bool
is_blank c = (c == 32) || (c == 9)

abbrev pub is_literal : ℕ → Bool
is_literal c = not (c == 92)

-- The character that a backslash stands for together with the characters behind it, which are given, and how many of these it takes. The letters a, b, f, n, r, t and v stand for control characters; x, u and U begin a hexadecimal number; a newline with the spaces and tabs behind it is one space; octal digits are a number. Before another character the backslash goes, and at the end it stands for itself.
unfoldable pub escape : List ℕ → ℕ × ℕ
escape [] = (92, 0)
escape (c ∷ cs) =
    if c == 97 then (7, 1) else (
    if c == 98 then (8, 1) else (
    if c == 102 then (12, 1) else (
    if c == 110 then (10, 1) else (
    if c == 114 then (13, 1) else (
    if c == 116 then (9, 1) else (
    if c == 118 then (11, 1) else (
    if c == 120 then numbered c (digit_run 16 255 2 0 cs) else (
    if c == 117 then numbered c (digit_run 16 65535 4 0 cs) else (
    if c == 85 then numbered c (digit_run 16 0x10_FFFF 8 0 cs) else (
    if c == 10 then (32, prefix_len is_blank cs + 1) else (
    if is_digit c 8 then digit_run 8 255 3 0 (c ∷ cs) else (c, 1))))))))))))

-- The text with its escapes read, where the first n characters were read before.
unfoldable pub unescape_from : ℕ → List ℕ → List ℕ
unescape_from n [] = []
unescape_from (suc n) (c ∷ cs) = unescape_from n cs
unescape_from zero (c ∷ cs) = if c == 92 then (escape cs).0 ∷ unescape_from (escape cs).1 cs else c ∷ unescape_from 0 cs

-- the text with its escapes read
abbrev pub unescape : List ℕ → List ℕ
unescape t = unescape_from 0 t
