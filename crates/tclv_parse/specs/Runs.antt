-- Where words and commands end, and the runs of characters that belong together.
use Rattle.std.specs.Prelude.{ℕ, suc, ◌+◌, ◌-◌, ◌==◌, Bool, true, false, not, ◌&&◌, if◌then◌else◌, List, [], ◌∷◌, drop, Option, Some, None}
use Rattle.tclv_text.specs.Cursors.{sign}
use Rattle.tclv_text.specs.declared.cursors.Sign.{Sign}
use Rattle.tclv_text.specs.declared.cursors.Sign.TheVariants as s
use Rattle.tclv_parse.specs.declared.runs.Form.{Form}
use Rattle.tclv_parse.specs.declared.runs.Form.TheVariants as form
use Rattle.tclv_parse.specs.declared.runs.Run.{Run}
use Rattle.tclv_parse.specs.declared.runs.Run.TheVariants as run

abbrev pub Text : Type 0
Text = List ℕ

-- a word ends here; in a script in brackets it ends at `]` too
abbrev pub ends_word : Bool → Sign → Bool
ends_word inner s.End = true
ends_word inner s.Blank = true
ends_word inner s.Fold = true
ends_word inner s.Newline = true
ends_word inner s.Semicolon = true
ends_word inner s.CloseBracket = inner
ends_word inner _ = false

-- a command ends here
abbrev pub ends_command : Bool → Sign → Bool
ends_command inner s.End = true
ends_command inner s.Newline = true
ends_command inner s.Semicolon = true
ends_command inner s.CloseBracket = inner
ends_command inner _ = false

-- the parts in a word of this form, or in an index, stop here
abbrev pub stops : Bool → Form → Sign → Bool
stops inner form.Bare x = ends_word inner x
stops inner form.Quoted s.End = true
stops inner form.Quoted s.Quote = true
stops inner form.Quoted _ = false
stops inner form.Index s.End = true
stops inner form.Index s.CloseParen = true
stops inner form.Index _ = false

-- neither an escape nor a substitution begins here
abbrev pub is_plain : Sign → Bool
is_plain s.Fold = false
is_plain s.Backslash = false
is_plain s.Dollar = false
is_plain s.OpenBracket = false
is_plain _ = true

-- The run behind a character of this sign, or None where it ends before that.
abbrev pub step : Run → Sign → Option Run
step r s.End = None
-- separators, where a backslash-newline is one
step run.Blanks s.Blank = Some run.Blanks
step run.Blanks s.Fold = Some run.Folded
step run.Blanks _ = None
step run.Folded _ = Some run.Blanks
-- a comment goes up to the next newline; a backslash is skipped together with the character after it
step run.Comment s.Newline = None
step run.Comment s.Fold = Some run.CommentEscape
step run.Comment s.Backslash = Some run.CommentEscape
step run.Comment _ = Some run.Comment
step run.CommentEscape _ = Some run.Comment
-- a dollar sign; then a name in braces, or a name of letters, digits, underscores and colons that stand side by side
step run.Variable _ = Some run.Sigil
step run.Sigil s.OpenBrace = Some run.Enclosed
step run.Sigil s.Name = Some (run.Name false)
step run.Sigil s.Colons = Some (run.Name true)
step run.Sigil _ = None
step (run.Name colon) s.Name = Some (run.Name false)
step (run.Name colon) s.Colons = Some (run.Name true)
step (run.Name colon) s.Colon = if colon then Some (run.Name true) else None
step (run.Name colon) _ = None
step run.Enclosed s.CloseBrace = Some run.Closed
step run.Enclosed _ = Some run.Enclosed
step run.Closed _ = None
-- literal characters of a word or an index
step (run.Literal inner form) x = if stops inner form x then None else (if is_plain x then Some (run.Literal inner form) else None)
-- a braced word goes up to the brace that matches the one before it, or to a backslash-newline; another backslash is skipped together with the character after it
step (run.Braced level) s.Fold = None
step (run.Braced level) s.OpenBrace = Some (run.Braced (level + 1))
step (run.Braced level) s.CloseBrace = if level == 0 then None else Some (run.Braced (level - 1))
step (run.Braced level) s.Backslash = Some (run.BracedEscape level)
step (run.Braced level) _ = Some (run.Braced level)
step (run.BracedEscape level) _ = Some (run.Braced level)

abbrev pub option_case : {A : Type 0} → Option Run → A → (Run → A) → A
option_case None a f = a
option_case (Some r) a f = f r

-- how many characters a run takes from the front of a text: the longest run
abbrev pub run_len : Run → Text → ℕ
run_len r [] = 0
run_len r (c ∷ t) = option_case (step r (sign (c ∷ t))) 0 (λ next. suc (run_len next t))

-- the run as it is behind them
abbrev pub run_end : Run → Text → Run
run_end r [] = r
run_end r (c ∷ t) = option_case (step r (sign (c ∷ t))) r (λ next. run_end next t)

-- how many braces a raw run stands in
abbrev pub level_of : Run → ℕ
level_of (run.Braced level) = level
level_of (run.BracedEscape level) = level
level_of _ = 0

abbrev pub is_expansion_mark : Sign → Sign → Sign → Bool
is_expansion_mark s.OpenBrace s.Star s.CloseBrace = true
is_expansion_mark _ _ _ = false

-- `{*}` directly before something that ends no word
abbrev pub expands : Bool → Text → Bool
expands inner t = is_expansion_mark (sign t) (sign (drop 1 t)) (sign (drop 2 t)) && not (ends_word inner (sign (drop 3 t)))
