-- The row of `lsearch`.
use Rattle.std.specs.Prelude.{ℕ, ◌-◌, Bool, true, false, not, nat_lt, if◌then◌else◌, List, [], ◌∷◌, length, take, drop, map, filter, slice_index_or, Option, Some, None, pos, negsuc, codes}
use Rattle.std.specs.Option.{option_map}
use Rattle.std.specs.List.{enumerate_from}
use Rattle.std.specs.Str.{bytes_eq}
use Rattle.tclv_text.specs.Numbers.{whole_text}
use Rattle.tclv_text.specs.Quotes.{list_text}
use Rattle.tclv_model.specs.declared.usages.Usage.TheVariants as command
use Rattle.tclv_model.specs.Usages.{usage_of}
use Rattle.tclv_model.specs.Rows.{Answer, RowAnswer, Gives, and_then, wrong_count}
use Rattle.tclv_model.specs.Values.{list_of, place_of, raised}
use Rattle.tclv_reply.specs.declared.comparing.Matching.TheVariants.{Exact, Glob}
use Rattle.tclv_lists.specs.declared.searching.Search.{Search}
use Rattle.tclv_lists.specs.declared.searching.SearchOption.{SearchOption}
use Rattle.tclv_lists.specs.declared.searching.SearchOption.TheVariants as option
use Rattle.tclv_reply.specs.Comparing.{fits_pattern}
use Rattle.tclv_reply.specs.Options.{Options, known_or_bad, options_read}

-- without options: by glob, in each case, the first place
abbrev pub plain_search : Search
plain_search = record { matching = Glob; nocase = false; negated = false; all = false; inline = false }

-- the option without a value that a word is
abbrev pub search_option : List ℕ → Option SearchOption
search_option o =
    if bytes_eq o (codes "-exact") then Some option.Exact else (
    if bytes_eq o (codes "-glob") then Some option.Glob else (
    if bytes_eq o (codes "-nocase") then Some option.Nocase else (
    if bytes_eq o (codes "-not") then Some option.Not else (
    if bytes_eq o (codes "-all") then Some option.All else (
    if bytes_eq o (codes "-inline") then Some option.Inline else None)))))

-- what it changes; the later of two that exclude each other counts
abbrev pub with_search_option : Search → SearchOption → Search
with_search_option s option.Exact = record s { matching = Exact }
with_search_option s option.Glob = record s { matching = Glob }
with_search_option s option.Nocase = record s { nocase = true }
with_search_option s option.Not = record s { negated = true }
with_search_option s option.All = record s { all = true }
with_search_option s option.Inline = record s { inline = true }

-- the settings after an option, if the word is one
abbrev pub search_after : List ℕ → Search → Option Search
search_after o s = option_map (with_search_option s) (search_option o)

abbrev pub lsearch_count : {A : Type 0} → List ℕ → Answer A
lsearch_count call = wrong_count call (usage_of command.Lsearch)

-- the options, of which `-start` has a value
abbrev pub search_options : List ℕ → List (List ℕ) → Answer (Options Search)
search_options call words = options_read (codes "-start") (λ o s. known_or_bad o (search_after o s)) (lsearch_count call) words (record { settings = plain_search; index = None })

-- the element is one that is looked for
abbrev pub is_wanted : Search → List ℕ → List ℕ → Bool
is_wanted s pattern t = let found = fits_pattern s.matching s.nocase pattern t in if s.negated then not found else found

-- those from a place on, with their places
abbrev pub wanted : Search → List ℕ → ℕ → List (List ℕ) → List (ℕ × List ℕ)
wanted s pattern start ts = filter (λ e. is_wanted s pattern e.1) (enumerate_from start (drop start ts))

-- what is given of an element that is found: itself, or its place
abbrev pub shown_as : Bool → ℕ × List ℕ → List ℕ
shown_as true e = e.1
shown_as false e = whole_text (pos e.0)

-- where none is found: the empty text, or -1 for its place
abbrev pub not_found : Bool → List ℕ
not_found true = []
not_found false = whole_text (negsuc 0)

abbrev pub first_or : List ℕ → List (List ℕ) → List ℕ
first_or none [] = none
first_or none (t ∷ ts) = t

-- what is given of those that are found: the list of all, or the first
abbrev pub found : Bool → Bool → List (ℕ × List ℕ) → List ℕ
found true inline es = list_text (map (shown_as inline) es)
found false inline es = first_or (not_found inline) (map (shown_as inline) es)

-- the place from which on elements are looked for, by default the first
abbrev pub start_of : Option (List ℕ) → ℕ → Answer ℕ
start_of None len = Gives 0
start_of (Some i) len = and_then (place_of i len) (λ k. Gives (raised k))

abbrev pub searched : Search → Option (List ℕ) → List ℕ → List ℕ → RowAnswer
searched s index list pattern =
    and_then (list_of list) (λ ts. and_then (start_of index (length ts)) (λ from. Gives (found s.all s.inline (wanted s pattern from ts))))

-- `lsearch ?option ...? list pattern`
abbrev pub row_lsearch : List ℕ → List (List ℕ) → RowAnswer
row_lsearch call words =
    let n = length words - 2 in
    if nat_lt (length words) 2 then lsearch_count call
    else and_then (search_options call (take n words)) (λ x. searched x.settings x.index (slice_index_or words n []) (slice_index_or words (length words - 1) []))
