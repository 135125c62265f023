-- Laws of the pieces of a list.
use Rattle.std.proofs.Common.{◌≡◌, ℕ, zero, suc, ◌+◌, ◌-◌, ◌<◌, ◌≤◌, Bool, true, false, cond, List, [], ◌∷◌, ◌++◌, Some, None, Result, Ok, Err, length, get_or, take, drop, sym, ap, ◌∙◌, subst, refl, arith, eqb, map}
use Rattle.std.proofs.lemmas.List.{drop-drop, drop_more, drop_all, append_assoc, get_or-drop, length-drop, map-append, append-nil}
use Rattle.std.proofs.lemmas.Bool.{cases_lt, cases_Bool, cond-true, cond-false, false≢true, ne_eqb}
use mathlib.Core.Logic.{⊎_elim}
use Rattle.tclv_text.specs.Scans.{scan_len, count_on}
use Rattle.tclv_text.specs.Characters.{is_space}
use Rattle.tclv_text.specs.Elements.{Piece, closed, marked, missing_mark, text_after, bare, brace_step, quote_step, bare_step, spelling, pieces_from, pieces, and_then_pieces, with_piece, value, values}
use Rattle.tclv_text.specs.Lists.{ListFlaw, is_end}
use Rattle.tclv_text.specs.Spans.{before, AreInOrder, piece_of, IsSpellingAt, IsSplit}
use Rattle.tclv_text.specs.declared.lists.Span.{Span}
use Rattle.tclv_text.specs.declared.lists.ListFault.{ListFault}
use Rattle.tclv_text.specs.declared.lists.ListFault.TheVariants.{OpenBrace, OpenQuote, AfterBrace, AfterQuote, NoMemory}
use Rattle.std.specs.List.{prefix_len}
use Rattle.std.proofs.lemmas.List.Sums.{prefix_len_stops}
use Rattle.std.proofs.Math.Numerals.{one-add}
use Rattle.tclv_text.specs.declared.lists.Bare.TheVariants.{Plain, Escape}

pub marked_at : (t : List ℕ) (from to : ℕ) (raw : Bool) → from ≤ to → to < length t →
    marked raw (to - from) (drop from t) ≡ closed (record { raw = raw; units = take (to - from) (drop from t) }) (to - from) (get_or t to 0 ∷ drop (to + 1) t)
marked_at t from to raw h l =
    let e : from + (to - from) ≡ to = omega arith in
    ap (closed (record { raw = raw; units = take (to - from) (drop from t) }) (to - from)) (drop-drop (to - from) from t ∙ ap (λ k. drop k t) e ∙ drop_more t to 0 l)

pub marked_ok : (t : List ℕ) (from to : ℕ) (raw : Bool) → from ≤ to → to < length t → is_end (drop (to + 1) t) ≡ true →
    marked raw (to - from) (drop from t) ≡ Ok (record { raw = raw; units = take (to - from) (drop from t) }, to - from + 1)
marked_ok t from to raw h l e = marked_at t from to raw h l ∙ cond-true _ _ _ e

pub marked_err : (t : List ℕ) (from to : ℕ) (raw : Bool) → from ≤ to → to < length t → is_end (drop (to + 1) t) ≡ false →
    marked raw (to - from) (drop from t) ≡ Err (text_after raw (drop (to + 1) t))
marked_err t from to raw h l e = marked_at t from to raw h l ∙ cond-false _ _ _ e

pub more_behind : (t : List ℕ) (n : ℕ) → is_end (drop n t) ≡ false → n < length t
more_behind t n e =
    ⊎_elim (λ (l : n < length t). l) (λ (g : length t ≤ n). absurd (false≢true (sym e ∙ ap is_end (drop_all n t g)))) (cases_lt n (length t))

pub bare_some : (c : ℕ) (cs : List ℕ) → is_space c ≡ false → 0 < scan_len bare_step Plain (c ∷ cs)
bare_some c cs h =
    ⊎_elim
    (λ (e : eqb c 92 ≡ true). omega (arith, ap (λ o. count_on o (λ t. scan_len bare_step t cs)) (cond-true (eqb c 92) (Some Escape) (cond (is_space c) None (Some Plain)) e)))
    (λ (e : eqb c 92 ≡ false). omega (arith, ap (λ o. count_on o (λ t. scan_len bare_step t cs)) (cond-false (eqb c 92) (Some Escape) (cond (is_space c) None (Some Plain)) e ∙ cond-false _ _ _ h)))
    (cases_Bool (eqb c 92))

pub spelling_bare : (c : ℕ) (cs : List ℕ) → (c ≡ 123 → ⊥) → (c ≡ 34 → ⊥) → spelling c cs ≡ bare (c ∷ cs)
unfolding spelling
spelling_bare c cs a b = cond-false _ _ _ (ne_eqb c 123 a) ∙ cond-false _ _ _ (ne_eqb c 34 b)

-- a bare element in a text
pub spelling_at_bare : (t : List ℕ) (at n : ℕ) → at < length t → (get_or t at 0 ≡ 123 → ⊥) → (get_or t at 0 ≡ 34 → ⊥) → is_space (get_or t at 0) ≡ false → n ≡ scan_len bare_step Plain (drop at t) →
    (0 < n) × (spelling (get_or t at 0) (drop (at + 1) t) ≡ Ok (record { raw = false; units = take n (drop at t) }, n - 1))
spelling_at_bare t at n l a b s e =
    let d = drop_more t at 0 l in (
      subst (λ k. 0 < k) (sym (e ∙ ap (scan_len bare_step Plain) d)) (bare_some (get_or t at 0) (drop (at + 1) t) s),
      spelling_bare (get_or t at 0) (drop (at + 1) t) a b ∙ ap bare (sym d) ∙ ap (λ k. Ok (record { raw = false; units = take k (drop at t) }, k - 1)) (sym e),
    )

-- what was read before is passed over
pub pieces_past : (n : ℕ) (t : List ℕ) → pieces_from n t ≡ pieces (drop n t)
unfolding pieces_from
pieces_past zero t = refl
pieces_past (suc n) [] = refl
pieces_past (suc n) (c ∷ cs) = pieces_past n cs

-- white space in front counts for nothing
pub pieces_space : (t : List ℕ) → pieces (drop (prefix_len is_space t) t) ≡ pieces t
unfolding pieces_from
pieces_space [] = refl
pieces_space (c ∷ cs) =
    ⊎_elim
    (λ (e : is_space c ≡ true). ap (λ n. pieces (drop n (c ∷ cs))) (cond-true (is_space c) (1 + prefix_len is_space cs) 0 e ∙ one-add (prefix_len is_space cs)) ∙ pieces_space cs ∙ sym (cond-true _ _ _ e))
    (λ (e : is_space c ≡ false). ap (λ n. pieces (drop n (c ∷ cs))) (cond-false (is_space c) (1 + prefix_len is_space cs) 0 e))
    (cases_Bool (is_space c))

-- an element, and then the rest
pub pieces_at : (t : List ℕ) (at : ℕ) → at < length t → is_space (get_or t at 0) ≡ false →
    pieces (drop at t) ≡ and_then_pieces (spelling (get_or t at 0) (drop (at + 1) t)) (λ n. pieces_from n (drop (at + 1) t))
unfolding pieces_from
pieces_at t at l e = ap pieces (drop_more t at 0 l) ∙ cond-false _ _ _ e

-- one turn of the loop: the element at a place, and the pieces behind it
pub pieces_turn : (t : List ℕ) (at next after_space : ℕ) (p : Piece) → at < length t → is_space (get_or t at 0) ≡ false → at < next →
    spelling (get_or t at 0) (drop (at + 1) t) ≡ Ok (p, next - (at + 1)) → after_space ≡ next + prefix_len is_space (drop next t) →
    pieces (drop at t) ≡ with_piece p (pieces (drop after_space t))
pieces_turn t at next after_space p l e h s g =
    let count : at + 1 + (next - (at + 1)) ≡ next = omega arith in
    pieces_at t at l e
    ∙ ap (λ r. and_then_pieces r (λ n. pieces_from n (drop (at + 1) t))) s
    ∙ ap (with_piece p)
    (
    pieces_past (next - (at + 1)) (drop (at + 1) t)
    ∙ ap pieces (drop-drop (next - (at + 1)) (at + 1) t ∙ ap (λ k. drop k t) count)
    ∙ sym (pieces_space (drop next t))
    ∙ ap pieces (drop-drop (prefix_len is_space (drop next t)) next t ∙ ap (λ k. drop k t) (sym g))
    )

pub pieces_turn_err : (t : List ℕ) (at : ℕ) (f : ListFlaw) → at < length t → is_space (get_or t at 0) ≡ false →
    spelling (get_or t at 0) (drop (at + 1) t) ≡ Err f → pieces (drop at t) ≡ Err f
pieces_turn_err t at f l e s = pieces_at t at l e ∙ ap (λ r. and_then_pieces r (λ n. pieces_from n (drop (at + 1) t))) s

pub before_piece : (ps : List Piece) (p : Piece) (r : Result (List Piece) ListFlaw) → before ps (with_piece p r) ≡ before (ps ++ p ∷ []) r
before_piece ps p (Ok qs) = ap Ok (sym (append_assoc ps (p ∷ []) qs))
before_piece ps p (Err e) = refl

-- spans one behind another, and one more
pub order_push : (a b c : ℕ) (ss : List Span) (s : Span) → AreInOrder a ss b → b ≤ s.from → s.from ≤ s.to → s.to ≤ c → AreInOrder a (ss ++ s ∷ []) c
order_push a b c [] s h k o l = (omega arith, o, l)
order_push a b c (x ∷ xs) s h k o l = (h.0, h.1, order_push x.to b c xs s h.2 k o l)

pub order_on : (a b c : ℕ) (ss : List Span) → AreInOrder a ss b → b ≤ c → AreInOrder a ss c
order_on a b c [] h l = omega arith
order_on a b c (x ∷ xs) h l = (h.0, h.1, order_on x.to b c xs h.2 l)

pub order_end : (a b : ℕ) (ss : List Span) → AreInOrder a ss b → a ≤ b
order_end a b [] h = h
order_end a b (x ∷ xs) h = let rest = order_end x.to b xs h.2 in omega (arith, h.0, h.1)

-- white space ends before the place that is behind it
pub no_space_behind : (t : List ℕ) (next n : ℕ) → n ≡ next + prefix_len is_space (drop next t) → n < length t → is_space (get_or t n 0) ≡ false
no_space_behind t next n e l =
    ap (λ k. is_space (get_or t k 0)) e
    ∙ sym (ap is_space (get_or-drop next t (prefix_len is_space (drop next t)) 0))
    ∙ prefix_len_stops is_space (drop next t) 0 (omega (arith, length-drop next t))

pub before_nil : (r : Result (List Piece) ListFlaw) → r ≡ before [] r
before_nil (Ok qs) = refl
before_nil (Err e) = refl

pub split_begins : (t : List ℕ) (n : ℕ) (items : List Span) → n ≡ prefix_len is_space t → items ≡ [] → pieces t ≡ before (map (piece_of t) items) (pieces (drop n t))
split_begins t n items e h =
    sym (pieces_space t) ∙ ap (λ k. pieces (drop k t)) (sym e) ∙ before_nil (pieces (drop n t)) ∙ ap (λ ss. before (map (piece_of t) ss) (pieces (drop n t))) (sym h)

-- one turn of the loop
pub split_turn : (t : List ℕ) (at next n : ℕ) (items more : List Span) (s : Span) (all : Result (List Piece) ListFlaw) → at < length t → is_space (get_or t at 0) ≡ false →
    IsSpellingAt t at (Ok (s, next)) (spelling (get_or t at 0) (drop (at + 1) t)) → n ≡ next + prefix_len is_space (drop next t) → more ≡ items ++ s ∷ [] →
    all ≡ before (map (piece_of t) items) (pieces (drop at t)) → all ≡ before (map (piece_of t) more) (pieces (drop n t))
split_turn t at next n items more s all l e k g m h =
    h
    ∙ ap (before (map (piece_of t) items)) (pieces_turn t at next n (piece_of t s) l e k.0.onward k.1 g)
    ∙ before_piece (map (piece_of t) items) (piece_of t s) (pieces (drop n t))
    ∙ ap (λ ps. before ps (pieces (drop n t))) (sym (map-append (piece_of t) items (s ∷ [])) ∙ ap (map (piece_of t)) (sym m))

pub split_ends : (t : List ℕ) (at : ℕ) (items : List Span) (all : Result (List Piece) ListFlaw) → length t ≤ at →
    all ≡ before (map (piece_of t) items) (pieces (drop at t)) → all ≡ Ok (map (piece_of t) items)
unfolding pieces_from
split_ends t at items all l h =
    h ∙ ap (λ r. before (map (piece_of t) items) (pieces r)) (drop_all at t l) ∙ ap Ok (append-nil (map (piece_of t) items))

-- a fault of the element at the place is one of the text
pub split_fault : (t : List ℕ) (at : ℕ) (e : ListFault) (ps : List Piece) (all : Result (List Piece) ListFlaw) → at < length t → is_space (get_or t at 0) ≡ false →
    all ≡ before ps (pieces (drop at t)) → IsSpellingAt t at (Err e) (spelling (get_or t at 0) (drop (at + 1) t)) → IsSplit t (Err e) all
split_fault t at OpenBrace ps all l s h k = h ∙ ap (before ps) (pieces_turn_err t at k.0 l s k.2) ∙ ap Err k.1
split_fault t at OpenQuote ps all l s h k = h ∙ ap (before ps) (pieces_turn_err t at k.0 l s k.2) ∙ ap Err k.1
split_fault t at (AfterBrace n) ps all l s h k = (k.1.0, h ∙ ap (before ps) (pieces_turn_err t at k.0 l s k.2) ∙ ap Err k.1.1)
split_fault t at (AfterQuote n) ps all l s h k = (k.1.0, h ∙ ap (before ps) (pieces_turn_err t at k.0 l s k.2) ∙ ap Err k.1.1)
split_fault t at NoMemory ps all l s h k = tt

-- Elements with the rest of the text in place of a count.
-- the same as `closed`, with the rest of the text in place of a count
abbrev pub closed_rest : Piece → List ℕ → Result (Piece × List ℕ) ListFlaw
closed_rest p [] = Err (missing_mark p.raw)
closed_rest p (mark ∷ rest) = cond (is_end rest) (Ok (p, rest)) (Err (text_after p.raw rest))

pub element : ℕ → List ℕ → Result (Piece × List ℕ) ListFlaw
element c cs =
    cond (eqb c 123) (let n = scan_len brace_step (0, false) cs in closed_rest (record { raw = true; units = take n cs }) (drop n cs))
    (cond (eqb c 34) (let n = scan_len quote_step false cs in closed_rest (record { raw = false; units = take n cs }) (drop n cs))
    (let n = scan_len bare_step Plain (c ∷ cs) in Ok (record { raw = false; units = take n (c ∷ cs) }, drop n (c ∷ cs))))

abbrev pub then_rest : Result (Piece × List ℕ) ListFlaw → Result (List Piece) ListFlaw
then_rest (Ok x) = with_piece x.0 (pieces x.1)
then_rest (Err e) = Err e

pub element_bare : (c : ℕ) (cs : List ℕ) → eqb c 123 ≡ false → eqb c 34 ≡ false → element c cs ≡ Ok (record { raw = false; units = take (scan_len bare_step Plain (c ∷ cs)) (c ∷ cs) }, drop (scan_len bare_step Plain (c ∷ cs)) (c ∷ cs))
unfolding element
element_bare c cs a b = cond-false _ _ _ a ∙ cond-false _ _ _ b

pub element_brace : (c : ℕ) (cs : List ℕ) → eqb c 123 ≡ true → element c cs ≡ closed_rest (record { raw = true; units = take (scan_len brace_step (0, false) cs) cs }) (drop (scan_len brace_step (0, false) cs) cs)
unfolding element
element_brace c cs a = cond-true _ _ _ a

pub element_quote : (c : ℕ) (cs : List ℕ) → eqb c 123 ≡ false → eqb c 34 ≡ true → element c cs ≡ closed_rest (record { raw = false; units = take (scan_len quote_step false cs) cs }) (drop (scan_len quote_step false cs) cs)
unfolding element
element_quote c cs a b = cond-false _ _ _ a ∙ cond-true _ _ _ b

-- pieces, with the rest of the text in place of a count
closed_counts : (p : Piece) (n : ℕ) (cs r : List ℕ) → drop n cs ≡ r → and_then_pieces (closed p n r) (λ k. pieces_from k cs) ≡ then_rest (closed_rest p r)
closed_counts p n cs [] e = refl
closed_counts p n cs (m ∷ rest) e =
    elim (is_end rest) as (λ b. and_then_pieces (cond b (Ok (p, n + 1)) (Err (text_after p.raw rest))) (λ k. pieces_from k cs) ≡ then_rest (cond b (Ok (p, rest)) (Err (text_after p.raw rest)))) [
      | true ↦ ap (with_piece p) (pieces_past (n + 1) cs ∙ ap pieces (sym (drop-drop 1 n cs) ∙ ap (drop 1) e))
      | false ↦ refl
    ]

drop_pred : (n c : ℕ) (cs : List ℕ) → 0 < n → drop (n - 1) cs ≡ drop n (c ∷ cs)
drop_pred zero c cs h = absurd (omega arith)
drop_pred (suc k) c cs h = let e : suc k - 1 ≡ k = omega arith in ap (λ m. drop m cs) e

pub pieces_element : (c : ℕ) (cs : List ℕ) → is_space c ≡ false → pieces (c ∷ cs) ≡ then_rest (element c cs)
unfolding pieces_from spelling element
pieces_element c cs h =
    let nb = scan_len brace_step (0, false) cs in
    let nq = scan_len quote_step false cs in
    let n = scan_len bare_step Plain (c ∷ cs) in
    cond-false _ _ _ h
    ∙ (elim (eqb c 123) as (λ b. and_then_pieces (cond b (marked true nb cs) (cond (eqb c 34) (marked false nq cs) (bare (c ∷ cs)))) (λ k. pieces_from k cs)
    ≡ then_rest (cond b (closed_rest (record { raw = true; units = take nb cs }) (drop nb cs))
    (cond (eqb c 34) (closed_rest (record { raw = false; units = take nq cs }) (drop nq cs)) (Ok (record { raw = false; units = take n (c ∷ cs) }, drop n (c ∷ cs)))))) [
      | true ↦ closed_counts (record { raw = true; units = take nb cs }) nb cs (drop nb cs) refl
      | false ↦ elim (eqb c 34) as (λ b. and_then_pieces (cond b (marked false nq cs) (bare (c ∷ cs))) (λ k. pieces_from k cs)
          ≡ then_rest (cond b (closed_rest (record { raw = false; units = take nq cs }) (drop nq cs)) (Ok (record { raw = false; units = take n (c ∷ cs) }, drop n (c ∷ cs))))) [
            | true ↦ closed_counts (record { raw = false; units = take nq cs }) nq cs (drop nq cs) refl
            | false ↦ ap (with_piece (record { raw = false; units = take n (c ∷ cs) })) (pieces_past (n - 1) cs ∙ ap pieces (drop_pred n c cs (bare_some c cs h)))
          ]
    ])

pub pieces_past_space : (c : ℕ) (cs : List ℕ) → is_space c ≡ true → pieces (c ∷ cs) ≡ pieces cs
unfolding pieces_from
pieces_past_space c cs h = cond-true _ _ _ h

-- how long the rest is
abbrev pub RestWithin : ℕ → Result (Piece × List ℕ) ListFlaw → Type 0
RestWithin n (Ok x) = length x.1 ≤ n
RestWithin n (Err e) = Unit {0}

closed_within : (n : ℕ) (p : Piece) (r : List ℕ) → length r ≤ n → RestWithin n (closed_rest p r)
closed_within n p [] h = tt
closed_within n p (m ∷ rest) h = elim (is_end rest) as (λ b. RestWithin n (cond b (Ok (p, rest)) (Err (text_after p.raw rest)))) [ true ↦ omega arith | false ↦ tt ]

pub element_within : (c : ℕ) (cs : List ℕ) → is_space c ≡ false → RestWithin (length cs) (element c cs)
unfolding element
element_within c cs h =
    let nb = scan_len brace_step (0, false) cs in
    let nq = scan_len quote_step false cs in
    let n = scan_len bare_step Plain (c ∷ cs) in
    elim (eqb c 123) as (λ b. RestWithin (length cs) (cond b (closed_rest (record { raw = true; units = take nb cs }) (drop nb cs))
    (cond (eqb c 34) (closed_rest (record { raw = false; units = take nq cs }) (drop nq cs)) (Ok (record { raw = false; units = take n (c ∷ cs) }, drop n (c ∷ cs)))))) [
      | true ↦ closed_within (length cs) (record { raw = true; units = take nb cs }) (drop nb cs) (omega (arith, length-drop nb cs))
      | false ↦ elim (eqb c 34) as (λ b. RestWithin (length cs) (cond b (closed_rest (record { raw = false; units = take nq cs }) (drop nq cs)) (Ok (record { raw = false; units = take n (c ∷ cs) }, drop n (c ∷ cs))))) [
        | true ↦ closed_within (length cs) (record { raw = false; units = take nq cs }) (drop nq cs) (omega (arith, length-drop nq cs))
        | false ↦ let some : 0 < n = bare_some c cs h in omega (arith, length-drop n (c ∷ cs))
      ]
    ]

pub within_more : (y : Result (Piece × List ℕ) ListFlaw) (m n : ℕ) → RestWithin m y → m ≤ n → RestWithin n y
within_more (Ok x) m n w h = omega arith
within_more (Err e) m n w h = tt

abbrev pub with_element : List ℕ → Result (List (List ℕ)) ListFlaw → Result (List (List ℕ)) ListFlaw
with_element t (Ok ts) = Ok (t ∷ ts)
with_element t (Err e) = Err e

pub values_piece : (p : Piece) (r : Result (List Piece) ListFlaw) → values (with_piece p r) ≡ with_element (value p) (values r)
values_piece p (Ok ps) = refl
values_piece p (Err e) = refl
