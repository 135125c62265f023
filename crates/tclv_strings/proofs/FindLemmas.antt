-- Laws of searches: the places of bytes at which a needle occurs, and the places of characters at which it stands.
use Rattle.std.proofs.Common.{◌≡◌, ℕ, zero, suc, ◌+◌, ◌-◌, ◌<◌, ◌≤◌, Bool, true, false, cond, List, [], ◌∷◌, ◌++◌, length, take, drop, get_or, Some, None, refl, sym, ap, ◌∙◌, subst, arith, min, ⊎_elim, length-drop, length-append, take-append-drop, take-add, take_at, drop_at, eqb}
use Rattle.std.specs.Option.{option_map}
use Rattle.std.proofs.lemmas.Bool.{cond-true, cond-false, cases_lt, eqb-true}
use Rattle.std.proofs.lemmas.Bool.Decides.{Decides-eqb}
use Rattle.std.proofs.lemmas.List.{length-take-le, drop_all}
use Rattle.std.proofs.lemmas.Slice.Eq.{starts_is}
use Rattle.std.proofs.lemmas.Str.{encodes-append, encodes-chars, chars-append, length-le-encodes, IsUtf8-take, IsCharBoundary-start}
use Rattle.std.specs.Str.{chars, IsUtf8, IsCharBoundary}
use Rattle.std.specs.List.{starts_with}
use lib.Utf8.{encodes}
use Rattle.memchr.specs.Find.{OccursAt, IsFirst, IsLast}
use Rattle.memchr.proofs.lemmas.MatchLemmas.{OccursAt-split, OccursAt-from_part}
use Rattle.tclv_text.specs.Texts.{IsText}
use Rattle.tclv_strings.specs.Finding.{stands_before, first_place, or_here, last_place}

-- a needle that is not empty
stands_is : (needle text : List ℕ) → 0 < length needle → stands_before needle text ≡ starts_with eqb text needle
stands_is [] text h = absurd (omega arith)
stands_is (c ∷ needle) text h = refl

-- The first place and the last, by what stands at each.
pub first_none : (needle : List ℕ) (k : ℕ) (text : List ℕ) → ((i : ℕ) → i < length text → stands_before needle (drop i text) ≡ false) → first_place needle k text ≡ None
first_none needle k [] h = refl
first_none needle k (c ∷ text) h = cond-false _ _ _ (h 0 (omega arith)) ∙ first_none needle (k + 1) text (λ i l. h (suc i) (omega arith))

pub first_some : (needle : List ℕ) (k j : ℕ) (text : List ℕ) → j < length text → stands_before needle (drop j text) ≡ true → ((i : ℕ) → i < j → stands_before needle (drop i text) ≡ false) → first_place needle k text ≡ Some (k + j)
first_some needle k j [] l e h = absurd (omega arith)
first_some needle k zero (c ∷ text) l e h = cond-true _ _ _ e ∙ ap Some (omega arith)
first_some needle k (suc j) (c ∷ text) l e h =
    cond-false _ _ _ (h 0 (omega arith)) ∙ first_some needle (k + 1) j text (omega arith) e (λ i m. h (suc i) (omega arith)) ∙ ap Some (omega arith)

pub last_none : (needle : List ℕ) (k : ℕ) (text : List ℕ) → ((i : ℕ) → i < length text → stands_before needle (drop i text) ≡ false) → last_place needle k text ≡ None
last_none needle k [] h = refl
last_none needle k (c ∷ text) h =
    ap (λ o. or_here o (stands_before needle (c ∷ text)) k) (last_none needle (k + 1) text (λ i l. h (suc i) (omega arith))) ∙ cond-false _ _ _ (h 0 (omega arith))

pub last_some : (needle : List ℕ) (k j : ℕ) (text : List ℕ) → j < length text → stands_before needle (drop j text) ≡ true → ((i : ℕ) → j < i → i < length text → stands_before needle (drop i text) ≡ false) → last_place needle k text ≡ Some (k + j)
last_some needle k j [] l e h = absurd (omega arith)
last_some needle k zero (c ∷ text) l e h =
    ap (λ o. or_here o (stands_before needle (c ∷ text)) k) (last_none needle (k + 1) text (λ i m. h (suc i) (omega arith) (omega arith))) ∙ cond-true _ _ _ e ∙ ap Some (omega arith)
last_some needle k (suc j) (c ∷ text) l e h =
    ap (λ o. or_here o (stands_before needle (c ∷ text)) k) (last_some needle (k + 1) j text (omega arith) e (λ i m o. h (suc i) (omega arith) (omega arith))) ∙ ap Some (omega arith)

-- an answer of `is_empty`
pub none_there : (n : ℕ) (b : Bool) → b ≡ eqb n 0 → b ≡ true → n ≡ 0
none_there n b e f = eqb-true n 0 (sym e ∙ f)

-- an empty needle
pub empty_first : (k : ℕ) (text : List ℕ) → first_place [] k text ≡ None
empty_first k text = first_none [] k text (λ i l. refl)

pub empty_last : (k : ℕ) (text : List ℕ) → last_place [] k text ≡ None
empty_last k text = last_none [] k text (λ i l. refl)

-- the first place, counted from further on
pub first_moved : (needle : List ℕ) (k j : ℕ) (text : List ℕ) → first_place needle (k + j) text ≡ option_map (λ i. k + i) (first_place needle j text)
first_moved needle k j [] = refl
first_moved needle k j (c ∷ text) =
    let e : k + j + 1 ≡ k + (j + 1) = omega arith in
    ap (λ o. cond (stands_before needle (c ∷ text)) (Some (k + j)) o) (ap (λ m. first_place needle m text) e ∙ first_moved needle k (j + 1) text)
    ∙ (elim (stands_before needle (c ∷ text)) as (λ b. cond b (Some (k + j)) (option_map (λ i. k + i) (first_place needle (j + 1) text)) ≡ option_map (λ i. k + i) (cond b (Some j) (first_place needle (j + 1) text))) [
      | true ↦ refl
      | false ↦ refl
    ])

pub first_at : (needle : List ℕ) (k : ℕ) (text : List ℕ) → first_place needle k text ≡ option_map (λ i. k + i) (first_place needle 0 text)
first_at needle k text = let e : k ≡ k + 0 = omega arith in ap (λ m. first_place needle m text) e ∙ first_moved needle k 0 text

-- the first place stands in the text
pub first_within : (needle : List ℕ) (k r : ℕ) (text : List ℕ) → first_place needle k text ≡ Some r → r < k + length text
first_within needle k r [] e = absurd (cc)
first_within needle k r (c ∷ text) e = by (stands_before needle (c ∷ text)) e (first_within needle (k + 1) r text) where
  by : (b : Bool) → cond b (Some k) (first_place needle (k + 1) text) ≡ Some r → (first_place needle (k + 1) text ≡ Some r → r < k + 1 + length text) → r < k + length (c ∷ text)
  by true f later = let g : k ≡ r = cc in omega (arith, g)
  by false f later = omega (arith, later f)

-- from a place that is clipped to the text
pub first_clipped : (needle : List ℕ) (x n : ℕ) (text : List ℕ) → n ≡ length text → first_place needle (min x n) (drop (min x n) text) ≡ first_place needle x (drop x text)
first_clipped needle x n text h =
    ⊎_elim
    (λ (l : x < n). let e : min x n ≡ x = omega arith in ap (λ k. first_place needle k (drop k text)) e)
    (λ (g : n ≤ x).
    let none : (k : ℕ) → length text ≤ k → first_place needle k (drop k text) ≡ None = λ k m. ap (first_place needle k) (drop_all k text m) in
    none (min x n) (omega arith) ∙ sym (none x (omega arith)))
    (cases_lt x n)

-- the place of the bytes of a place
abbrev byte_at : List ℕ → ℕ → ℕ
byte_at cs i = length (encodes (take i cs))

byte_before : (cs : List ℕ) (i j : ℕ) → i < j → j ≤ length cs → byte_at cs i < byte_at cs j
byte_before cs i j h l =
    let more = take (j - i) (drop i cs) in
    let e : i + (j - i) ≡ j = omega arith in
    let cut : take j cs ≡ take i cs ++ more = ap (λ k. take k cs) (sym e) ∙ take-add i (j - i) cs in
    let len : length more ≡ j - i = length-take-le (j - i) (drop i cs) (omega (arith, length-drop i cs)) in
    omega (arith, ap (λ x. length (encodes x)) cut, ap length (encodes-append (take i cs) more), length-append (encodes (take i cs)) (encodes more), length-le-encodes more)

-- A place of characters at which an occurrence of the bytes is.
pub record IsPlaceOf (bs ns : List ℕ) (p : ℕ) : Type 0 where
  pub front : IsText (take p bs)
  pub within : length (chars (take p bs)) < length (chars bs)
  pub stands : stands_before (chars ns) (drop (length (chars (take p bs))) (chars bs)) ≡ true
  pub byte : byte_at (chars bs) (length (chars (take p bs))) ≡ p

module _ (bs ns : List ℕ) (t : IsText bs) (u : IsText ns) (some : 0 < length ns) where
  needle_some : 0 < length (chars ns)
  needle_some = has (chars ns) (encodes-chars ns u.utf8) where
    has : (cs : List ℕ) → encodes cs ≡ ns → 0 < length cs
    has [] e = absurd (omega (arith, ap length e))
    has (c ∷ cs) e = omega arith

  begins : (text : List ℕ) → (stands_before (chars ns) text ≡ true → text ≡ chars ns ++ drop (length (chars ns)) text) × ((rest : List ℕ) → text ≡ chars ns ++ rest → stands_before (chars ns) text ≡ true)
  begins text = starts_is Decides-eqb text (chars ns) (stands_before (chars ns) text) (stands_is (chars ns) text needle_some)

  -- where it stands, its bytes occur
  occurs : (i : ℕ) → stands_before (chars ns) (drop i (chars bs)) ≡ true → OccursAt bs ns (byte_at (chars bs) i)
  occurs i e =
      let cs = chars bs in
      let rest = drop (length (chars ns)) (drop i cs) in
      let front = encodes (take i cs) in
      let behind : encodes (drop i cs) ≡ ns ++ encodes rest = ap encodes ((begins (drop i cs)).0 e) ∙ encodes-append (chars ns) rest ∙ ap (λ x. x ++ encodes rest) (encodes-chars ns u.utf8) in
      let all : bs ≡ front ++ (ns ++ encodes rest) =
      sym (encodes-chars bs t.utf8) ∙ ap encodes (sym (take-append-drop i cs)) ∙ encodes-append (take i cs) (drop i cs) ∙ ap (λ x. front ++ x) behind in
      let part : take (length ns) (drop (length front) bs) ≡ ns =
      ap (λ x. take (length ns) (drop (length front) x)) all ∙ ap (take (length ns)) (drop_at front (ns ++ encodes rest) (length front) refl) ∙ take_at ns (encodes rest) (length ns) refl in
      OccursAt-from_part bs ns (length front) (omega (arith, ap length all, length-append front (ns ++ encodes rest), length-append ns (encodes rest))) part

  -- where its bytes occur, it stands
  pub place_of_byte : (p : ℕ) → OccursAt bs ns p → IsPlaceOf bs ns p
  place_of_byte p o =
      let cs = chars bs in
      let front = take p bs in
      let rest = drop p bs in
      let tail = drop (p + length ns) bs in
      let j = length (chars front) in
      let same : get_or bs p 0 ≡ get_or ns 0 0 = ap (λ k. get_or bs k 0) (omega arith) ∙ o.reads 0 some in
      let start : IsCharBoundary ns 0 = IsCharBoundary-start ns u.utf8 in
      let boundary : IsCharBoundary bs p = (omega (arith, o.fits), λ l h. subst (λ b. 192 ≤ b) (sym same) (start.1 some (subst (λ b. 128 ≤ b) same h))) in
      let f : IsUtf8 front = IsUtf8-take bs p t.utf8 boundary in
      let cut : cs ≡ chars front ++ chars rest = ap chars (sym (take-append-drop p bs)) ∙ chars-append front rest f in
      let before : take j cs ≡ chars front = ap (take j) cut ∙ take_at (chars front) (chars rest) j refl in
      let behind : drop j cs ≡ chars rest = ap (drop j) cut ∙ drop_at (chars front) (chars rest) j refl in
      let begin : chars rest ≡ chars ns ++ chars tail = ap chars (OccursAt-split bs ns p o) ∙ chars-append ns tail u.utf8 in
      record {
        front = record { utf8 = f };
        within = omega (arith, ap length cut, length-append (chars front) (chars rest), ap length begin, length-append (chars ns) (chars tail), needle_some);
        stands = (begins (drop j cs)).1 (chars tail) (behind ∙ begin);
        byte = ap (λ x. length (encodes x)) before ∙ ap length (encodes-chars front f) ∙ length-take-le p bs (omega (arith, o.fits));
      }

  -- nothing stands where no bytes occur
  nothing : (i : ℕ) → ¬ (OccursAt bs ns (byte_at (chars bs) i)) → stands_before (chars ns) (drop i (chars bs)) ≡ false
  nothing i h = elim_stands (stands_before (chars ns) (drop i (chars bs))) refl where
    elim_stands : (b : Bool) → stands_before (chars ns) (drop i (chars bs)) ≡ b → b ≡ false
    elim_stands false e = refl
    elim_stands true e = absurd (h (occurs i e))

  byte_within : (i : ℕ) → i < length (chars bs) → byte_at (chars bs) i < length bs + 1
  byte_within i l =
      let cs = chars bs in
      omega (arith, ap length (sym (encodes-chars bs t.utf8) ∙ ap encodes (sym (take-append-drop i cs)) ∙ encodes-append (take i cs) (drop i cs)), length-append (encodes (take i cs)) (encodes (drop i cs)))

  pub first_found : (p : ℕ) → IsFirst (OccursAt bs ns) 0 (length bs + 1) (Some p) → first_place (chars ns) 0 (chars bs) ≡ Some (length (chars (take p bs)))
  first_found p h =
      let o = place_of_byte p h.1 in
      let j = length (chars (take p bs)) in
      let none : 0 + j ≡ j = omega arith in
      first_some (chars ns) 0 j (chars bs) o.within o.stands (λ i l. nothing i (h.0.before (byte_at (chars bs) i) (omega arith) (omega (arith, byte_before (chars bs) i j l (omega (arith, o.within)), o.byte)))) ∙ ap Some none

  pub none_found : IsFirst (OccursAt bs ns) 0 (length bs + 1) None → first_place (chars ns) 0 (chars bs) ≡ None
  none_found h = first_none (chars ns) 0 (chars bs) (λ i l. nothing i (h (byte_at (chars bs) i) (omega arith) (byte_within i l)))

  pub last_found : (p : ℕ) → IsLast (OccursAt bs ns) 0 (length bs + 1) (Some p) → last_place (chars ns) 0 (chars bs) ≡ Some (length (chars (take p bs)))
  last_found p h =
      let o = place_of_byte p h.1 in
      let j = length (chars (take p bs)) in
      let none : 0 + j ≡ j = omega arith in
      last_some (chars ns) 0 j (chars bs) o.within o.stands (λ i l m. nothing i (h.0.after (byte_at (chars bs) i) (omega (arith, byte_before (chars bs) j i l (omega arith), o.byte)) (byte_within i m))) ∙ ap Some none

  pub none_last : IsLast (OccursAt bs ns) 0 (length bs + 1) None → last_place (chars ns) 0 (chars bs) ≡ None
  none_last h = last_none (chars ns) 0 (chars bs) (λ i l. nothing i (h (byte_at (chars bs) i) (omega arith) (byte_within i l)))
