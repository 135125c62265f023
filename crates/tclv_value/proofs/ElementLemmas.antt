-- Lists read from texts, and their texts written element by element.
use Rattle.std.proofs.Common.{◌≡◌, ◌≢◌, ℕ, ◌+◌, ◌<◌, Bool, true, false, cond, not, List, [], ◌∷◌, ◌++◌, length, get_or, take, Some, None, Result, Ok, refl, sym, ap, subst, ◌∙◌, arith}
use Rattle.std.specs.Prelude.{IsOkAnd, ◌&&◌, ◌||◌}
use Rattle.std.specs.Str.{chars}
use Rattle.std.proofs.lemmas.List.{append-nil, append_assoc, length-append, get_or_default, take_more}
use Rattle.std.proofs.lemmas.Str.{encodes-chars, chars-append, chars-nil, IsUtf8-append, encode_ascii}
use Rattle.tclv_text.specs.Texts.{IsText, AppendsText}
use Rattle.tclv_text.specs.Lists.{ListFlaw}
use Rattle.tclv_text.specs.Quotes.{fits_braces, wants_braces, begins_marked, wants_backslashes, begins_comment, backslash_mark, with_mark, backslashed, backslashed_first, in_braces, quoted_some, quoted, further, list_text}
use Rattle.tclv_text.specs.Spans.{IsFaultOf}
use Rattle.tclv_text.specs.declared.lists.ListFault.{ListFault}
use Rattle.tclv_text.specs.declared.lists.ListFault.TheVariants.{OpenBrace, OpenQuote, AfterBrace, AfterQuote, NoMemory}
use Rattle.tclv_value.specs.Answers.{list_fault}
use Rattle.tclv_value.specs.Elements.{IsListText}
use Rattle.tclv_value.specs.Lists.{RefusesList}
use lib.Utf8.{encodes}

-- what is refused of a text's bytes is refused of the text
pub refuses_list : (bs : List ℕ) (e : ListFault) → IsText bs → IsFaultOf bs e → RefusesList (list_fault e) (chars bs)
refuses_list bs OpenBrace text is = subst (λ xs. IsFaultOf xs OpenBrace) (sym (encodes-chars bs text.utf8)) is
refuses_list bs OpenQuote text is = subst (λ xs. IsFaultOf xs OpenQuote) (sym (encodes-chars bs text.utf8)) is
refuses_list bs (AfterBrace n) text is = subst (λ xs. IsFaultOf xs (AfterBrace n)) (sym (encodes-chars bs text.utf8)) is
refuses_list bs (AfterQuote n) text is = subst (λ xs. IsFaultOf xs (AfterQuote n)) (sym (encodes-chars bs text.utf8)) is
refuses_list bs NoMemory text is = tt

-- elements that are known
pub known_elements : (r : Result (List (List ℕ)) ListFlaw) (P : List (List ℕ) → Type 0) (ts : List (List ℕ)) → r ≡ Ok ts → P ts → IsOkAnd r P
known_elements r P ts is h = subst (λ x. IsOkAnd x P) (sym is) h

-- no spelling is empty
marked_first : (full : Bool) (c : ℕ) (cs : List ℕ) → 0 < length (backslashed full (c ∷ cs))
marked_first full c cs = elim (backslash_mark full c) as (λ m. 0 < length (with_mark c m ++ backslashed full cs)) [ None ↦ omega arith | Some k ↦ omega arith ]

backslashed_some : (first full : Bool) (c : ℕ) (cs : List ℕ) → 0 < length (backslashed_first first full (c ∷ cs))
backslashed_some first full c cs =
    elim (first && begins_comment (c ∷ cs)) as (λ b. 0 < length (cond b (92 ∷ backslashed full (c ∷ cs)) (backslashed full (c ∷ cs)))) [ true ↦ omega arith | false ↦ marked_first full c cs ]

braces_some : (t : List ℕ) → 0 < length (in_braces t)
braces_some t = omega arith

by_cond : (b : Bool) (xs ys : List ℕ) → 0 < length xs → 0 < length ys → 0 < length (cond b xs ys)
by_cond true xs ys h k = h
by_cond false xs ys h k = k

spelled_some : (c : ℕ) (cs : List ℕ) (first : Bool) → 0 < length (quoted_some (c ∷ cs) first)
unfolding quoted_some
spelled_some c cs first =
    by_cond (not (fits_braces (0, false) (c ∷ cs))) _ _ (backslashed_some first true c cs)
    (by_cond (wants_braces (c ∷ cs) || begins_marked (c ∷ cs)) _ _ (braces_some (c ∷ cs))
    (by_cond (wants_backslashes (c ∷ cs)) _ _ (backslashed_some first false c cs) (by_cond (first && begins_comment (c ∷ cs)) _ _ (braces_some (c ∷ cs)) (omega arith))))

pub spelling_some : (t : List ℕ) (first : Bool) → 0 < length (quoted t first)
unfolding quoted
spelling_some [] first = braces_some []
spelling_some (c ∷ cs) first = spelled_some c cs first

-- only the empty list has the empty text
empty_list : (ts : List (List ℕ)) → length (list_text ts) ≡ 0 → ts ≡ []
empty_list [] none = refl
empty_list (t ∷ ts) none = absurd (omega (arith, length-append (quoted t true) (further ts), spelling_some t true))

-- no bytes, no characters, and the other way round
chars_none : (bs : List ℕ) → length bs ≡ 0 → length (chars bs) ≡ 0
chars_none [] none = ap length chars-nil
chars_none (b ∷ bs) none = absurd (omega arith)

further_push : (ts : List (List ℕ)) (x : List ℕ) → further (ts ++ x ∷ []) ≡ further ts ++ 32 ∷ quoted x false
further_push [] x = ap (λ xs. 32 ∷ xs) (append-nil (quoted x false))
further_push (t ∷ ts) x = ap (λ xs. 32 ∷ (quoted t false ++ xs)) (further_push ts x) ∙ ap (λ xs. 32 ∷ xs) (sym (append_assoc (quoted t false) (further ts) (32 ∷ quoted x false)))

-- the first element of a list
pub first_written : (bs new x : List ℕ) → length bs ≡ 0 → AppendsText bs new (quoted x true) → (ts : List (List ℕ)) → IsListText ts bs → IsListText (ts ++ x ∷ []) new
first_written bs new x none appends ts is =
    let got = appends is.utf8 in
    let nothing : length (list_text ts) ≡ 0 = ap length (sym is.text) ∙ chars_none bs none in
    let no_list : ts ≡ [] = empty_list ts nothing in
    record {
      utf8 = got.0;
      text = got.1 ∙ ap (λ cs. cs ++ quoted x true) is.text ∙ ap (λ xs. list_text xs ++ quoted x true) no_list ∙ sym (append-nil (quoted x true)) ∙ ap (λ xs. list_text (xs ++ x ∷ [])) (sym no_list);
    }

list_text_push : (ts : List (List ℕ)) (x : List ℕ) → ts ≢ [] → list_text (ts ++ x ∷ []) ≡ (list_text ts ++ 32 ∷ []) ++ quoted x false
list_text_push [] x some = absurd (some refl)
list_text_push (t ∷ ts) x some =
    ap (λ xs. quoted t true ++ xs) (further_push ts x) ∙ sym (append_assoc (quoted t true) (further ts) (32 ∷ quoted x false)) ∙ sym (append_assoc (quoted t true ++ further ts) (32 ∷ []) (quoted x false))

-- bytes spell characters
no_bytes : (bs : List ℕ) → IsText bs → 0 < length bs → chars bs ≡ [] → ⊥
no_bytes bs text some none = let e : bs ≡ [] = sym (encodes-chars bs text.utf8) ∙ ap encodes none in omega (arith, ap length e)

-- a space is a text
space_text : IsText (32 ∷ [])
space_text = record { utf8 = (32 ∷ [], (refl, ap (λ xs. xs ++ []) (encode_ascii 32 (omega arith)))) }

space_chars : chars (32 ∷ []) ≡ 32 ∷ []
unfolding chars
space_chars = refl

-- a further element of a list
pub next_written : (bs with_space new x : List ℕ) → 0 < length bs → with_space ≡ bs ++ 32 ∷ [] → AppendsText with_space new (quoted x false) → (ts : List (List ℕ)) → IsListText ts bs → IsListText (ts ++ x ∷ []) new
next_written bs with_space new x some space appends ts is =
    let spaced : IsText with_space = subst IsText (sym space) (record { utf8 = IsUtf8-append bs (32 ∷ []) is.utf8.utf8 space_text.utf8 }) in
    let got = appends spaced in
    let before : chars with_space ≡ list_text ts ++ 32 ∷ [] = ap chars space ∙ chars-append bs (32 ∷ []) is.utf8.utf8 ∙ ap (λ cs. chars bs ++ cs) space_chars ∙ ap (λ cs. cs ++ 32 ∷ []) is.text in
    let not_empty : ts ≢ [] = λ e. no_bytes bs is.utf8 some (is.text ∙ ap list_text e) in
    record {
      utf8 = got.0;
      text = got.1 ∙ ap (λ cs. cs ++ quoted x false) before ∙ sym (list_text_push ts x not_empty);
    }

-- what is written so far, one element after another
pub written_more : (old mid new : List ℕ) (es : List (List ℕ)) (i : ℕ) (x bytes : List ℕ) → i < length es → x ≡ get_or es i x → chars bytes ≡ x → ((ts : List (List ℕ)) → IsListText ts old → IsListText (ts ++ take i es) mid) →
    ((ts : List (List ℕ)) → IsListText ts mid → IsListText (ts ++ chars bytes ∷ []) new) → (ts : List (List ℕ)) → IsListText ts old → IsListText (ts ++ take (i + 1) es) new
written_more old mid new es i x bytes within here says so_far more ts is =
    let one : chars bytes ≡ get_or es i [] = says ∙ here ∙ get_or_default es i x [] within in
    let joined : (ts ++ take i es) ++ chars bytes ∷ [] ≡ ts ++ take (i + 1) es =
    append_assoc ts (take i es) (chars bytes ∷ []) ∙ ap (λ y. ts ++ (take i es ++ y ∷ [])) one ∙ ap (λ xs. ts ++ xs) (sym (take_more es i [] within)) in
    subst (λ us. IsListText us new) joined (more (ts ++ take i es) (so_far ts is))

-- nothing is the text of the empty list
pub nothing_written : (bs : List ℕ) → bs ≡ [] → IsListText [] bs
nothing_written bs none = subst (IsListText []) (sym none) (record { utf8 = record { utf8 = ([], (refl, refl)) }; text = chars-nil })

-- escapes that were read into nothing
pub unescaped : (bs new : List ℕ) (t : List ℕ) → bs ≡ [] → AppendsText bs new t → chars new ≡ t
unescaped bs new t none appends = let got = appends (nothing_written bs none).utf8 in got.1 ∙ ap (λ xs. chars xs ++ t) none ∙ ap (λ xs. xs ++ t) chars-nil
