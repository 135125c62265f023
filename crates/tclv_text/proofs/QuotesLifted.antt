-- The spelling of a text's bytes is that of its code points.
use Rattle.std.proofs.Common.{◌≡◌, ℕ, ◌<◌, ◌≤◌, Bool, true, false, cond, not, List, [], ◌∷◌, ◌++◌, Option, Some, None, Result, Ok, Err, length, sym, ap, ◌∙◌, subst, refl, arith, eqb, ◌&&◌, ◌||◌}
use Rattle.std.proofs.lemmas.List.{append-nil}
use Rattle.std.proofs.lemmas.Bool.{cases_lt, cond-false, and_parts, and_from, ne_eqb}
use Rattle.std.proofs.lemmas.Bool.Decides.{nat_tests}
use Rattle.std.proofs.lemmas.Str.{encode_ascii, encodes-append}
use Rattle.std.specs.Str.{chars}
use Rattle.std.specs.Option.{IfSome}
use Rattle.std.specs.List.{list_any}
use Rattle.std.specs.Result.{OnOk}
use lib.Utf8.{encode, encodes, scalar, scalars, low_scalar}
use mathlib.Core.Logic.{⊎_elim}
use Rattle.tclv_text.specs.Texts.{IsText, Appends, AppendsText}
use Rattle.tclv_text.specs.Quotes.{fits_step, fits_on, fits_braces, is_brace_worthy, is_backslash_worthy, wants_braces, wants_backslashes, begins_marked, begins_comment, backslash_mark, with_mark, backslashed, backslashed_first, in_braces, quoted_some, quoted}
use Rattle.tclv_text.proofs.Lifted.{Spells, text_spells, AreHigh, IsHighBlock, high_encode}
use Rattle.tclv_text.proofs.EscapeLemmas.{scalars_append, appended_text}
use Rattle.tclv_text.proofs.QuoteLemmas.{quoted_empty, quoted_nonempty}

ne_high : (c k : ℕ) → 128 ≤ c → k < 128 → eqb c k ≡ false
ne_high c k g l = ne_eqb c k (λ e. omega arith)

fits_high : (s : ℕ × Bool) (c : ℕ) → 128 ≤ c → fits_step s c ≡ Some (s.0, false)
fits_high (d, true) c g = cond-false _ _ _ (ne_high c 10 g (omega arith))
fits_high (d, false) c g = cond-false _ _ _ (ne_high c 92 g (omega arith)) ∙ cond-false _ _ _ (ne_high c 123 g (omega arith)) ∙ cond-false _ _ _ (ne_high c 125 g (omega arith))

fits_run : (s : ℕ × Bool) (hs rest : List ℕ) → AreHigh hs → fits_braces (s.0, false) (hs ++ rest) ≡ fits_braces (s.0, false) rest
fits_run s [] rest h = refl
fits_run s (x ∷ hs) rest h = ap (λ o. fits_on o (λ t. fits_braces t (hs ++ rest))) (fits_high (s.0, false) x h.0) ∙ fits_run s hs rest h.1

fits_block : (s : ℕ × Bool) (bs rest : List ℕ) → IsHighBlock bs → fits_braces s (bs ++ rest) ≡ fits_braces (s.0, false) rest
fits_block s [] rest h = absurd h
fits_block s (x ∷ hs) rest h = ap (λ o. fits_on o (λ t. fits_braces t (hs ++ rest))) (fits_high s x h.0) ∙ fits_run s hs rest h.1

fits_lifted : (s : ℕ × Bool) (cs : List ℕ) → fits_braces s (encodes cs) ≡ fits_braces s cs
fits_lifted s [] = refl
fits_lifted s (c ∷ cs) =
    ⊎_elim
    (λ (l : c < 128).
    ap (λ e. fits_braces s (e ++ encodes cs)) (encode_ascii c l)
    ∙ (elim (fits_step s c) as (λ o. fits_on o (λ t. fits_braces t (encodes cs)) ≡ fits_on o (λ t. fits_braces t cs)) [ None ↦ refl | Some t ↦ fits_lifted t cs ]))
    (λ (g : 128 ≤ c). fits_block s (encode c) (encodes cs) (high_encode c g) ∙ fits_lifted (s.0, false) cs ∙ ap (λ o. fits_on o (λ t. fits_braces t cs)) (sym (fits_high s c g)))
    (cases_lt c 128)

any_run : (p : ℕ → Bool) → ((c : ℕ) → 128 ≤ c → p c ≡ false) → (hs rest : List ℕ) → AreHigh hs → list_any p (hs ++ rest) ≡ list_any p rest
any_run p f [] rest h = refl
any_run p f (x ∷ hs) rest h = ap (λ b. b || list_any p (hs ++ rest)) (f x h.0) ∙ any_run p f hs rest h.1

high_all : (bs : List ℕ) → IsHighBlock bs → AreHigh bs
high_all [] h = absurd h
high_all (b ∷ bs) h = h

any_lifted : (p : ℕ → Bool) → ((c : ℕ) → 128 ≤ c → p c ≡ false) → (cs : List ℕ) → list_any p (encodes cs) ≡ list_any p cs
any_lifted p f [] = refl
any_lifted p f (c ∷ cs) =
    ⊎_elim
    (λ (l : c < 128). ap (λ e. list_any p (e ++ encodes cs)) (encode_ascii c l) ∙ ap (λ b. p c || b) (any_lifted p f cs))
    (λ (g : 128 ≤ c). any_run p f (encode c) (encodes cs) (high_all (encode c) (high_encode c g)) ∙ any_lifted p f cs ∙ ap (λ b. b || list_any p cs) (sym (f c g)))
    (cases_lt c 128)

brace_worthy_high : (c : ℕ) → 128 ≤ c → is_brace_worthy c ≡ false
brace_worthy_high c g = grind (arith, nat_tests)

backslash_worthy_high : (c : ℕ) → 128 ≤ c → is_backslash_worthy c ≡ false
backslash_worthy_high c g = grind (arith, nat_tests)

-- a test of the first unit alone
head_high : (f : List ℕ → Bool) → ((c : ℕ) (cs : List ℕ) → 128 ≤ c → f (c ∷ cs) ≡ false) → (bs rest : List ℕ) → IsHighBlock bs → f (bs ++ rest) ≡ false
head_high f h [] rest b = absurd b
head_high f h (x ∷ xs) rest b = h x (xs ++ rest) b.0

marked_high : (c : ℕ) (cs : List ℕ) → 128 ≤ c → begins_marked (c ∷ cs) ≡ false
marked_high c cs g = grind (arith, nat_tests)

comment_high : (c : ℕ) (cs : List ℕ) → 128 ≤ c → begins_comment (c ∷ cs) ≡ false
comment_high c cs g = ne_high c 35 g (omega arith)

marked_lifted : (cs : List ℕ) → begins_marked (encodes cs) ≡ begins_marked cs
marked_lifted [] = refl
marked_lifted (c ∷ cs) = ⊎_elim (λ (l : c < 128). ap (λ e. begins_marked (e ++ encodes cs)) (encode_ascii c l)) (λ (g : 128 ≤ c). head_high begins_marked marked_high (encode c) (encodes cs) (high_encode c g) ∙ sym (marked_high c cs g)) (cases_lt c 128)

comment_lifted : (cs : List ℕ) → begins_comment (encodes cs) ≡ begins_comment cs
comment_lifted [] = refl
comment_lifted (c ∷ cs) = ⊎_elim (λ (l : c < 128). ap (λ e. begins_comment (e ++ encodes cs)) (encode_ascii c l)) (λ (g : 128 ≤ c). head_high begins_comment comment_high (encode c) (encodes cs) (high_encode c g) ∙ sym (comment_high c cs g)) (cases_lt c 128)

mark_high : (b : Bool) (c : ℕ) → 128 ≤ c → backslash_mark b c ≡ None
mark_high b c g =
    cond-false _ _ _ (ne_high c 9 g (omega arith)) ∙ cond-false _ _ _ (ne_high c 10 g (omega arith)) ∙ cond-false _ _ _ (ne_high c 11 g (omega arith)) ∙ cond-false _ _ _ (ne_high c 12 g (omega arith))
    ∙ cond-false _ _ _ (ne_high c 13 g (omega arith)) ∙ cond-false _ _ _ (ne_high c 32 g (omega arith)) ∙ cond-false _ _ _ (ne_high c 93 g (omega arith)) ∙ cond-false _ _ _ (ne_high c 91 g (omega arith))
    ∙ cond-false _ _ _ (ne_high c 36 g (omega arith)) ∙ cond-false _ _ _ (ne_high c 59 g (omega arith)) ∙ cond-false _ _ _ (ne_high c 92 g (omega arith)) ∙ cond-false _ _ _ (ne_high c 34 g (omega arith))
    ∙ cond-false _ _ _ (ne_high c 123 g (omega arith)) ∙ cond-false _ _ _ (ne_high c 125 g (omega arith))

-- a mark is ASCII
IsMark : Option ℕ → Type 0
IsMark o = IfSome o (λ k. k < 128)

mark_none : IsMark None
unfolding IsMark
mark_none = tt

mark_some : (k : ℕ) → k < 128 → IsMark (Some k)
unfolding IsMark
mark_some k h = h

chosen : {A : Type 0} (P : A → Type 0) (b : Bool) (x y : A) → P x → P y → P (cond b x y)
chosen P true x y f g = f
chosen P false x y f g = g

mark_ascii : (b : Bool) (c : ℕ) → IsMark (backslash_mark b c)
mark_ascii b c =
    chosen IsMark (eqb c 9) _ _ (mark_some 116 (omega arith)) (chosen IsMark (eqb c 10) _ _ (mark_some 110 (omega arith)) (chosen IsMark (eqb c 11) _ _ (mark_some 118 (omega arith)) (chosen IsMark (eqb c 12) _ _ (mark_some 102 (omega arith))
    (chosen IsMark (eqb c 13) _ _ (mark_some 114 (omega arith)) (chosen IsMark (eqb c 32) _ _ (mark_some 32 (omega arith)) (chosen IsMark (eqb c 93) _ _ (mark_some 93 (omega arith)) (chosen IsMark (eqb c 91) _ _ (mark_some 91 (omega arith))
    (chosen IsMark (eqb c 36) _ _ (mark_some 36 (omega arith)) (chosen IsMark (eqb c 59) _ _ (mark_some 59 (omega arith)) (chosen IsMark (eqb c 92) _ _ (mark_some 92 (omega arith)) (chosen IsMark (eqb c 34) _ _ (mark_some 34 (omega arith))
    (chosen IsMark (eqb c 123) _ _ (chosen IsMark b _ _ (mark_some 123 (omega arith)) mark_none) (chosen IsMark (eqb c 125) _ _ (chosen IsMark b _ _ (mark_some 125 (omega arith)) mark_none) mark_none)))))))))))))

low : (c : ℕ) → c < 128 → scalar c ≡ true
low c h = low_scalar c (omega arith)

-- the spelling of an ASCII unit
marked_unit : (c : ℕ) (m : Option ℕ) → c < 128 → IsMark m → Spells (with_mark c m) (with_mark c m)
unfolding IsMark
marked_unit c None l h = record { points = and_from (scalar c) true (low c l) refl; bytes = ap (λ e. e ++ []) (encode_ascii c l) }
marked_unit c (Some k) l h = record {
  points = and_from (scalar 92) (scalar k && true) refl (and_from (scalar k) true (low k h) refl);
  bytes = ap (λ e. e ++ (encode k ++ [])) (encode_ascii 92 (omega arith)) ∙ ap (λ e. 92 ∷ (e ++ [])) (encode_ascii k h);
}

pub spells_append : {bs cs xs ys : List ℕ} → Spells bs cs → Spells xs ys → Spells (bs ++ xs) (cs ++ ys)
spells_append {bs} {cs} {xs} {ys} s t = record {
  points = scalars_append cs ys s.points t.points;
  bytes = encodes-append cs ys ∙ ap (λ e. e ++ encodes ys) s.bytes ∙ ap (λ e. bs ++ e) t.bytes;
}

run_backslashed : (b : Bool) (hs rest : List ℕ) → AreHigh hs → backslashed b (hs ++ rest) ≡ hs ++ backslashed b rest
run_backslashed b [] rest h = refl
run_backslashed b (x ∷ hs) rest h = ap (λ m. with_mark x m ++ backslashed b (hs ++ rest)) (mark_high b x h.0) ∙ ap (λ e. x ∷ e) (run_backslashed b hs rest h.1)

append_empty : (xs : List ℕ) → xs ++ [] ≡ xs
append_empty xs = append-nil xs

one_char : (c : ℕ) → scalar c ≡ true → Spells (encode c) (c ∷ [])
one_char c h = record { points = and_from (scalar c) true h refl; bytes = append_empty (encode c) }

backslashed_lifted : (b : Bool) (cs : List ℕ) → scalars cs ≡ true → Spells (backslashed b (encodes cs)) (backslashed b cs)
backslashed_lifted b [] h = record { points = refl; bytes = refl }
backslashed_lifted b (c ∷ cs) h =
    let p = and_parts (scalar c) (scalars cs) h in
    let rest = backslashed_lifted b cs p.1 in
    ⊎_elim
    (λ (l : c < 128).
    subst (λ (e : List ℕ). Spells (backslashed b (e ++ encodes cs)) (backslashed b (c ∷ cs))) (sym (encode_ascii c l)) (spells_append (marked_unit c (backslash_mark b c) l (mark_ascii b c)) rest))
    (λ (g : 128 ≤ c).
    subst (λ (e : List ℕ). Spells e (backslashed b (c ∷ cs))) (sym (run_backslashed b (encode c) (encodes cs) (high_all (encode c) (high_encode c g))))
    (subst (λ (m : Option ℕ). Spells (encode c ++ backslashed b (encodes cs)) (with_mark c m ++ backslashed b cs)) (sym (mark_high b c g)) (spells_append (one_char c p.0) rest)))
    (cases_lt c 128)

ascii_front : (c : ℕ) {bs cs : List ℕ} → c < 128 → Spells bs cs → Spells (c ∷ bs) (c ∷ cs)
ascii_front c {bs} {cs} l s = record { points = and_from (scalar c) (scalars cs) (low c l) s.points; bytes = ap (λ e. e ++ encodes cs) (encode_ascii c l) ∙ ap (λ e. c ∷ e) s.bytes }

nothing : Spells [] []
nothing = record { points = refl; bytes = refl }

braces_lifted : {bs cs : List ℕ} → Spells bs cs → Spells (in_braces bs) (in_braces cs)
braces_lifted s = ascii_front 123 (omega arith) (spells_append s (ascii_front 125 (omega arith) nothing))

first_lifted : (first b : Bool) (cs : List ℕ) → scalars cs ≡ true → Spells (backslashed_first first b (encodes cs)) (backslashed_first first b cs)
first_lifted first b cs h =
    let s = backslashed_lifted b cs h in
    subst (λ (k : Bool). Spells (cond (first && k) (92 ∷ backslashed b (encodes cs)) (backslashed b (encodes cs))) (backslashed_first first b cs)) (sym (comment_lifted cs))
    (elim (first && begins_comment cs) as (λ k. Spells (cond k (92 ∷ backslashed b (encodes cs)) (backslashed b (encodes cs))) (cond k (92 ∷ backslashed b cs) (backslashed b cs))) [ true ↦ ascii_front 92 (omega arith) s | false ↦ s ])

-- the same choice on both sides
same_choice : (a b : Bool) (x y z w : List ℕ) → a ≡ b → Spells x z → Spells y w → Spells (cond a x y) (cond b z w)
same_choice a true x y z w e s t = subst (λ k. Spells (cond k x y) z) (sym e) s
same_choice a false x y z w e s t = subst (λ k. Spells (cond k x y) w) (sym e) t

some_lifted : (cs : List ℕ) (first : Bool) → scalars cs ≡ true → Spells (quoted_some (encodes cs) first) (quoted_some cs first)
unfolding quoted_some
some_lifted cs first h =
    let s : Spells (encodes cs) cs = record { points = h; bytes = refl } in
    same_choice (not (fits_braces (0, false) (encodes cs))) (not (fits_braces (0, false) cs)) _ _ _ _ (ap not (fits_lifted (0, false) cs)) (first_lifted first true cs h)
    (same_choice (wants_braces (encodes cs) || begins_marked (encodes cs)) (wants_braces cs || begins_marked cs) _ _ _ _
    (ap (λ b. b || begins_marked (encodes cs)) (any_lifted is_brace_worthy brace_worthy_high cs) ∙ ap (λ b. wants_braces cs || b) (marked_lifted cs)) (braces_lifted s)
    (same_choice (wants_backslashes (encodes cs)) (wants_backslashes cs) _ _ _ _ (any_lifted is_backslash_worthy backslash_worthy_high cs) (first_lifted first false cs h)
    (same_choice (first && begins_comment (encodes cs)) (first && begins_comment cs) _ _ _ _ (ap (λ b. first && b) (comment_lifted cs)) (braces_lifted s) s)))

block_some : (xs ys : List ℕ) → IsHighBlock xs → 0 < length (xs ++ ys)
block_some [] ys h = absurd h
block_some (x ∷ xs) ys h = omega arith

encodes_some : (c : ℕ) (cs : List ℕ) → 0 < length (encodes (c ∷ cs))
encodes_some c cs = ⊎_elim (λ (l : c < 128). subst (λ (e : List ℕ). 0 < length (e ++ encodes cs)) (sym (encode_ascii c l)) (omega arith)) (λ (g : 128 ≤ c). block_some (encode c) (encodes cs) (high_encode c g)) (cases_lt c 128)

quote_encodes : (cs : List ℕ) (first : Bool) → scalars cs ≡ true → Spells (quoted (encodes cs) first) (quoted cs first)
quote_encodes [] first h = subst (λ (e : List ℕ). Spells e e) (sym (quoted_empty [] first refl)) (braces_lifted nothing)
quote_encodes (c ∷ cs) first h =
    subst (λ (e : List ℕ). Spells e (quoted (c ∷ cs) first)) (sym (quoted_nonempty (encodes (c ∷ cs)) first (encodes_some c cs)))
    (subst (λ (e : List ℕ). Spells (quoted_some (encodes (c ∷ cs)) first) e) (sym (quoted_nonempty (c ∷ cs) first (omega arith))) (some_lifted (c ∷ cs) first h))

pub quote_lifted : (bs : List ℕ) (first : Bool) → IsText bs → Spells (quoted bs first) (quoted (chars bs) first)
quote_lifted bs first t = let s = text_spells t in subst (λ (x : List ℕ). Spells (quoted x first) (quoted (chars bs) first)) s.bytes (quote_encodes (chars bs) first s.points)

pub quote_appends : (old new bs : List ℕ) (first : Bool) → IsText bs → new ≡ old ++ quoted bs first → Appends old new (quoted (chars bs) first)
quote_appends old new bs first t e = let s = quote_lifted bs first t in record { bytes = e ∙ ap (λ x. old ++ x) (sym s.bytes); points = s.points }

pub quote_ok : {T E : Type 0} (r : Result T E) (old new bs : List ℕ) (first : Bool) → IsText bs → OnOk r (new ≡ old ++ quoted bs first) → OnOk r (Appends old new (quoted (chars bs) first))
quote_ok (Ok x) old new bs first t h = quote_appends old new bs first t h
quote_ok (Err e) old new bs first t h = tt

pub quote_text : {T E : Type 0} (r : Result T E) (old new bs : List ℕ) (first : Bool) → IsText bs → OnOk r (new ≡ old ++ quoted bs first) → OnOk r (AppendsText old new (quoted (chars bs) first))
quote_text (Ok x) old new bs first t h = λ u. appended_text (quote_appends old new bs first t h) u
quote_text (Err e) old new bs first t h = tt
