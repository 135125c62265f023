-- The order of texts by their bytes is that by their code points.
use Rattle.std.proofs.Common.{◌≡◌, ℕ, ◌+◌, ◌*◌, ◌/◌, ◌%◌, ◌<◌, ◌≤◌, ◌⊎◌, inl, inr, Bool, true, false, cond, ltb, List, [], ◌∷◌, ◌++◌, map, refl, sym, ap, ap₂, ◌∙◌, arith, ltb-true, ltb-false}
use Rattle.std.specs.Char.{encode_utf8}
use Rattle.std.specs.Str.{chars, encode_utf8_all}
use Rattle.std.specs.declared.cmp.Ordering.{Ordering}
use Rattle.std.specs.declared.cmp.Ordering.TheVariants.{Less, Equal, Greater}
use Rattle.std.specs.Ordering.{nat_cmp, ordering_then}
use Rattle.std.specs.Cmp.{nat_cmp_is}
use Rattle.std.specs.Cmp.Lexicographic.{slice_cmp}
use Rattle.std.specs.List.{AllByRecursion}
use Rattle.std.specs.List.Sorted.{IsStrictlySortedBy}
use Rattle.std.proofs.Math.Nat.{div-add-mod, div-div-eq-div-mul, mod-lt}
use Rattle.std.proofs.lemmas.Bool.{cases_lt}
use Rattle.std.proofs.lemmas.Str.{chars_from_encodes}
use Rattle.tclv_names.specs.Keyed.{Text, by_text}
use Rattle.tclv_text.specs.Texts.{IsText}

then_then : (a b c : Ordering) → ordering_then a (ordering_then b c) ≡ ordering_then (ordering_then a b) c
then_then Less b c = refl
then_then Equal b c = refl
then_then Greater b c = refl

is_less : (x y : ℕ) → x < y → nat_cmp x y ≡ Less
is_less x y h = sym (nat_cmp_is x y Less h)

is_more : (x y : ℕ) → y < x → nat_cmp x y ≡ Greater
is_more x y h = sym (nat_cmp_is x y Greater h)

is_same : (x y : ℕ) → x ≡ y → nat_cmp x y ≡ Equal
is_same x y h = sym (nat_cmp_is x y Equal h)

-- x is below y, or is y, or is above it
three : (x y : ℕ) → (x < y) ⊎ ((x ≡ y) ⊎ (y < x))
three x y = elim (cases_lt x y) as (λ _. (x < y) ⊎ ((x ≡ y) ⊎ (y < x))) [
  | inl a ↦ inl a
  | inr b ↦ elim (cases_lt y x) as (λ _. (x < y) ⊎ ((x ≡ y) ⊎ (y < x))) [ inl c ↦ inr (inr c) | inr d ↦ inr (inl (omega (arith, b, d))) ]
]

-- the same added to both
shifted : (a x y : ℕ) → nat_cmp (a + x) (a + y) ≡ nat_cmp x y
shifted a x y = elim (three x y) as (λ _. nat_cmp (a + x) (a + y) ≡ nat_cmp x y) [
  | inl h ↦ is_less (a + x) (a + y) (omega (arith, h)) ∙ sym (is_less x y h)
  | inr s ↦ elim s as (λ _. nat_cmp (a + x) (a + y) ≡ nat_cmp x y) [
    | inl e ↦ is_same (a + x) (a + y) (omega (arith, e)) ∙ sym (is_same x y e)
    | inr g ↦ is_more (a + x) (a + y) (omega (arith, g)) ∙ sym (is_more x y g)
  ]
]

-- numbers compare as their digits do
two_digits : (q m r n : ℕ) → m < 64 → n < 64 → ordering_then (nat_cmp q r) (nat_cmp m n) ≡ nat_cmp (64 * q + m) (64 * r + n)
two_digits q m r n a b = elim (three q r) as (λ _. ordering_then (nat_cmp q r) (nat_cmp m n) ≡ nat_cmp (64 * q + m) (64 * r + n)) [
  | inl h ↦ ap (λ o. ordering_then o (nat_cmp m n)) (is_less q r h) ∙ sym (is_less (64 * q + m) (64 * r + n) (omega (arith, h, a)))
  | inr s ↦ elim s as (λ _. ordering_then (nat_cmp q r) (nat_cmp m n) ≡ nat_cmp (64 * q + m) (64 * r + n)) [
    | inl e ↦ ap (λ o. ordering_then o (nat_cmp m n)) (is_same q r e) ∙ sym (shifted (64 * q) m n) ∙ ap (λ k. nat_cmp (64 * q + m) (64 * k + n)) e
    | inr g ↦ ap (λ o. ordering_then o (nat_cmp m n)) (is_more q r g) ∙ sym (is_more (64 * q + m) (64 * r + n) (omega (arith, g, b)))
  ]
]

by_digits : (c d : ℕ) → ordering_then (nat_cmp (c / 64) (d / 64)) (nat_cmp (c % 64) (d % 64)) ≡ nat_cmp c d
by_digits c d = two_digits (c / 64) (c % 64) (d / 64) (d % 64) (mod-lt c (omega arith)) (mod-lt d (omega arith)) ∙ ap₂ nat_cmp (div-add-mod c 64) (div-add-mod d 64)

-- the same of a text's bytes: the front digits and the last one, each in its byte
last_byte : (c d : ℕ) (rest : Ordering) → ordering_then (nat_cmp (c / 64) (d / 64)) (ordering_then (nat_cmp (128 + c % 64) (128 + d % 64)) rest) ≡ ordering_then (nat_cmp c d) rest
last_byte c d rest = ap (λ o. ordering_then (nat_cmp (c / 64) (d / 64)) (ordering_then o rest)) (shifted 128 (c % 64) (d % 64)) ∙ then_then (nat_cmp (c / 64) (d / 64)) (nat_cmp (c % 64) (d % 64)) rest ∙ ap (λ o. ordering_then o rest) (by_digits c d)

-- the bytes of a code point, by how many they are
abbrev behind_two : ℕ → List ℕ
behind_two c = (128 + c % 64) ∷ []

abbrev behind_three : ℕ → List ℕ
behind_three c = (128 + (c / 64) % 64) ∷ behind_two c

abbrev behind_four : ℕ → List ℕ
behind_four c = (128 + (c / 4096) % 64) ∷ behind_three c

abbrev two_bytes : ℕ → List ℕ
two_bytes c = (192 + c / 64) ∷ behind_two c

abbrev three_bytes : ℕ → List ℕ
three_bytes c = (224 + c / 4096) ∷ behind_three c

abbrev four_bytes : ℕ → List ℕ
four_bytes c = (240 + c / 262144) ∷ behind_four c

abbrev Shape : ℕ → Type 0
Shape c = ((c < 128) × (encode_utf8 c ≡ c ∷ [])) ⊎ (((128 ≤ c) × (c < 2048) × (encode_utf8 c ≡ two_bytes c)) ⊎ (((2048 ≤ c) × (c < 65536) × (encode_utf8 c ≡ three_bytes c)) ⊎ ((65536 ≤ c) × (encode_utf8 c ≡ four_bytes c))))

by_three : (b2 b3 : Bool) (c : ℕ) → ltb c 2048 ≡ b2 → ltb c 65536 ≡ b3 → 128 ≤ c → encode_utf8 c ≡ cond b2 (two_bytes c) (cond b3 (three_bytes c) (four_bytes c)) → Shape c
by_three true b3 c e f h g = inr (inl (h, ltb-true c 2048 e, g))
by_three false true c e f h g = inr (inr (inl (ltb-false c 2048 e, ltb-true c 65536 f, g)))
by_three false false c e f h g = inr (inr (inr (ltb-false c 65536 f, g)))

by_one : (b1 : Bool) (c : ℕ) → ltb c 128 ≡ b1 → encode_utf8 c ≡ cond b1 (c ∷ []) (cond (ltb c 2048) (two_bytes c) (cond (ltb c 65536) (three_bytes c) (four_bytes c))) → Shape c
by_one true c e g = inl (ltb-true c 128 e, g)
by_one false c e g = by_three (ltb c 2048) (ltb c 65536) c refl refl (ltb-false c 128 e) g

shape : (c : ℕ) → Shape c
unfolding encode_utf8
shape c = by_one (ltb c 128) c refl refl

-- heads that differ decide
head_less : (x y : ℕ) (xs ys : List ℕ) (o : Ordering) → x < y → slice_cmp nat_cmp (x ∷ xs) (y ∷ ys) ≡ ordering_then Less o
head_less x y xs ys o h = ap (λ r. ordering_then r (slice_cmp nat_cmp xs ys)) (is_less x y h)

head_more : (x y : ℕ) (xs ys : List ℕ) (o : Ordering) → y < x → slice_cmp nat_cmp (x ∷ xs) (y ∷ ys) ≡ ordering_then Greater o
head_more x y xs ys o h = ap (λ r. ordering_then r (slice_cmp nat_cmp xs ys)) (is_more x y h)

-- the quotient by 64, over and over
by_4096 : (c : ℕ) → c / 4096 ≡ (c / 64) / 64
by_4096 c = sym (div-div-eq-div-mul c 64 64)

by_262144 : (c : ℕ) → c / 262144 ≡ (c / 4096) / 64
by_262144 c = sym (div-div-eq-div-mul c 4096 64)

module _ (c d : ℕ) (xs ys : List ℕ) where
  two_cmp : slice_cmp nat_cmp (two_bytes c ++ xs) (two_bytes d ++ ys) ≡ ordering_then (nat_cmp c d) (slice_cmp nat_cmp xs ys)
  two_cmp = ap (λ o. ordering_then o (ordering_then (nat_cmp (128 + c % 64) (128 + d % 64)) (slice_cmp nat_cmp xs ys))) (shifted 192 (c / 64) (d / 64)) ∙ last_byte c d (slice_cmp nat_cmp xs ys)

  -- three bytes: those of the front digits, and then the last
  front_cmp : (a : ℕ) → ordering_then (nat_cmp (a + c / 4096) (a + d / 4096)) (ordering_then (nat_cmp (128 + (c / 64) % 64) (128 + (d / 64) % 64)) (ordering_then (nat_cmp (128 + c % 64) (128 + d % 64)) (slice_cmp nat_cmp xs ys)))
      ≡ ordering_then (nat_cmp c d) (slice_cmp nat_cmp xs ys)
  front_cmp a =
      let tail = ordering_then (nat_cmp (128 + c % 64) (128 + d % 64)) (slice_cmp nat_cmp xs ys) in
      ap (λ o. ordering_then o (ordering_then (nat_cmp (128 + (c / 64) % 64) (128 + (d / 64) % 64)) tail)) (shifted a (c / 4096) (d / 4096) ∙ ap₂ nat_cmp (by_4096 c) (by_4096 d))
      ∙ last_byte (c / 64) (d / 64) tail ∙ last_byte c d (slice_cmp nat_cmp xs ys)

  four_cmp : slice_cmp nat_cmp (four_bytes c ++ xs) (four_bytes d ++ ys) ≡ ordering_then (nat_cmp c d) (slice_cmp nat_cmp xs ys)
  four_cmp =
      let tail = ordering_then (nat_cmp (128 + c % 64) (128 + d % 64)) (slice_cmp nat_cmp xs ys) in
      let more = ordering_then (nat_cmp (128 + (c / 64) % 64) (128 + (d / 64) % 64)) tail in
      ap (λ o. ordering_then o (ordering_then (nat_cmp (128 + (c / 4096) % 64) (128 + (d / 4096) % 64)) more)) (shifted 240 (c / 262144) (d / 262144) ∙ ap₂ nat_cmp (by_262144 c) (by_262144 d))
      ∙ last_byte (c / 4096) (d / 4096) more ∙ ap (λ o. ordering_then o more) (ap₂ nat_cmp (by_4096 c) (by_4096 d)) ∙ last_byte (c / 64) (d / 64) tail ∙ last_byte c d (slice_cmp nat_cmp xs ys)

  less_first : (x y : ℕ) (us vs : List ℕ) → x < y → c < d → slice_cmp nat_cmp (x ∷ us) (y ∷ vs) ≡ ordering_then (nat_cmp c d) (slice_cmp nat_cmp xs ys)
  less_first x y us vs h k = head_less x y us vs (slice_cmp nat_cmp xs ys) h ∙ ap (λ o. ordering_then o (slice_cmp nat_cmp xs ys)) (sym (is_less c d k))

  more_first : (x y : ℕ) (us vs : List ℕ) → y < x → d < c → slice_cmp nat_cmp (x ∷ us) (y ∷ vs) ≡ ordering_then (nat_cmp c d) (slice_cmp nat_cmp xs ys)
  more_first x y us vs h k = head_more x y us vs (slice_cmp nat_cmp xs ys) h ∙ ap (λ o. ordering_then o (slice_cmp nat_cmp xs ys)) (sym (is_more c d k))

  of_bytes : (us vs : List ℕ) → encode_utf8 c ≡ us → encode_utf8 d ≡ vs → slice_cmp nat_cmp (us ++ xs) (vs ++ ys) ≡ ordering_then (nat_cmp c d) (slice_cmp nat_cmp xs ys)
      → slice_cmp nat_cmp (encode_utf8 c ++ xs) (encode_utf8 d ++ ys) ≡ ordering_then (nat_cmp c d) (slice_cmp nat_cmp xs ys)
  of_bytes us vs e f h = ap (λ z. slice_cmp nat_cmp (z ++ xs) (encode_utf8 d ++ ys)) e ∙ ap (λ z. slice_cmp nat_cmp (us ++ xs) (z ++ ys)) f ∙ h

  -- what a code point's bytes begin with, by how many they are
  few : (x : ℕ) → x < 2048 → 192 + x / 64 < 224
  few x h = omega (arith, h, div-add-mod x 64)

  some : (x : ℕ) → x < 65536 → 224 + x / 4096 < 240
  some x h = omega (arith, h, div-add-mod x 4096)

  compare : Shape c → Shape d → slice_cmp nat_cmp (encode_utf8 c ++ xs) (encode_utf8 d ++ ys) ≡ ordering_then (nat_cmp c d) (slice_cmp nat_cmp xs ys)
  compare (inl a) (inl b) = of_bytes (c ∷ []) (d ∷ []) a.1 b.1 refl
  compare (inl a) (inr (inl b)) = let p = a.0 in let q = b.0 in of_bytes (c ∷ []) (two_bytes d) a.1 b.2 (less_first c (192 + d / 64) xs (behind_two d ++ ys) (omega (arith, p)) (omega (arith, p, q)))
  compare (inl a) (inr (inr (inl b))) = let p = a.0 in let q = b.0 in of_bytes (c ∷ []) (three_bytes d) a.1 b.2 (less_first c (224 + d / 4096) xs (behind_three d ++ ys) (omega (arith, p)) (omega (arith, p, q)))
  compare (inl a) (inr (inr (inr b))) = let p = a.0 in let q = b.0 in of_bytes (c ∷ []) (four_bytes d) a.1 b.1 (less_first c (240 + d / 262144) xs (behind_four d ++ ys) (omega (arith, p)) (omega (arith, p, q)))
  compare (inr (inl a)) (inl b) = let p = a.0 in let q = b.0 in of_bytes (two_bytes c) (d ∷ []) a.2 b.1 (more_first (192 + c / 64) d (behind_two c ++ xs) ys (omega (arith, q)) (omega (arith, p, q)))
  compare (inr (inl a)) (inr (inl b)) = of_bytes (two_bytes c) (two_bytes d) a.2 b.2 two_cmp
  compare (inr (inl a)) (inr (inr (inl b))) = let p = a.1 in let q = b.0 in let f = few c p in of_bytes (two_bytes c) (three_bytes d) a.2 b.2 (less_first (192 + c / 64) (224 + d / 4096) (behind_two c ++ xs) (behind_three d ++ ys) (omega (arith, f)) (omega (arith, p, q)))
  compare (inr (inl a)) (inr (inr (inr b))) = let p = a.1 in let q = b.0 in let f = few c p in of_bytes (two_bytes c) (four_bytes d) a.2 b.1 (less_first (192 + c / 64) (240 + d / 262144) (behind_two c ++ xs) (behind_four d ++ ys) (omega (arith, f)) (omega (arith, p, q)))
  compare (inr (inr (inl a))) (inl b) = let p = a.0 in let q = b.0 in of_bytes (three_bytes c) (d ∷ []) a.2 b.1 (more_first (224 + c / 4096) d (behind_three c ++ xs) ys (omega (arith, q)) (omega (arith, p, q)))
  compare (inr (inr (inl a))) (inr (inl b)) = let p = a.0 in let q = b.1 in let f = few d q in of_bytes (three_bytes c) (two_bytes d) a.2 b.2 (more_first (224 + c / 4096) (192 + d / 64) (behind_three c ++ xs) (behind_two d ++ ys) (omega (arith, f)) (omega (arith, p, q)))
  compare (inr (inr (inl a))) (inr (inr (inl b))) = of_bytes (three_bytes c) (three_bytes d) a.2 b.2 (front_cmp 224)
  compare (inr (inr (inl a))) (inr (inr (inr b))) = let p = a.1 in let q = b.0 in let f = some c p in of_bytes (three_bytes c) (four_bytes d) a.2 b.1 (less_first (224 + c / 4096) (240 + d / 262144) (behind_three c ++ xs) (behind_four d ++ ys) (omega (arith, f)) (omega (arith, p, q)))
  compare (inr (inr (inr a))) (inl b) = let p = a.0 in let q = b.0 in of_bytes (four_bytes c) (d ∷ []) a.1 b.1 (more_first (240 + c / 262144) d (behind_four c ++ xs) ys (omega (arith, q)) (omega (arith, p, q)))
  compare (inr (inr (inr a))) (inr (inl b)) = let p = a.0 in let q = b.1 in let f = few d q in of_bytes (four_bytes c) (two_bytes d) a.1 b.2 (more_first (240 + c / 262144) (192 + d / 64) (behind_four c ++ xs) (behind_two d ++ ys) (omega (arith, f)) (omega (arith, p, q)))
  compare (inr (inr (inr a))) (inr (inr (inl b))) = let p = a.0 in let q = b.1 in let f = some d q in of_bytes (four_bytes c) (three_bytes d) a.1 b.2 (more_first (240 + c / 262144) (224 + d / 4096) (behind_four c ++ xs) (behind_three d ++ ys) (omega (arith, f)) (omega (arith, p, q)))
  compare (inr (inr (inr a))) (inr (inr (inr b))) = of_bytes (four_bytes c) (four_bytes d) a.1 b.1 four_cmp

-- there is a first byte
begins : (c : ℕ) (xs : List ℕ) → Shape c → (slice_cmp nat_cmp [] (encode_utf8 c ++ xs) ≡ Less) × (slice_cmp nat_cmp (encode_utf8 c ++ xs) [] ≡ Greater)
begins c xs (inl a) = (ap (λ z. slice_cmp nat_cmp [] (z ++ xs)) a.1, ap (λ z. slice_cmp nat_cmp (z ++ xs) []) a.1)
begins c xs (inr (inl a)) = (ap (λ z. slice_cmp nat_cmp [] (z ++ xs)) a.2, ap (λ z. slice_cmp nat_cmp (z ++ xs) []) a.2)
begins c xs (inr (inr (inl a))) = (ap (λ z. slice_cmp nat_cmp [] (z ++ xs)) a.2, ap (λ z. slice_cmp nat_cmp (z ++ xs) []) a.2)
begins c xs (inr (inr (inr a))) = (ap (λ z. slice_cmp nat_cmp [] (z ++ xs)) a.1, ap (λ z. slice_cmp nat_cmp (z ++ xs) []) a.1)

points : (cs ds : List ℕ) → slice_cmp nat_cmp (encode_utf8_all cs) (encode_utf8_all ds) ≡ slice_cmp nat_cmp cs ds
points [] [] = refl
points [] (d ∷ ds) = (begins d (encode_utf8_all ds) (shape d)).0
points (c ∷ cs) [] = (begins c (encode_utf8_all cs) (shape c)).1
points (c ∷ cs) (d ∷ ds) = compare c d (encode_utf8_all cs) (encode_utf8_all ds) (shape c) (shape d) ∙ ap (ordering_then (nat_cmp c d)) (points cs ds)

-- two texts compare by their code points as by their bytes
pub same_order : (x y : List ℕ) → IsText x → IsText y → slice_cmp nat_cmp (chars x) (chars y) ≡ slice_cmp nat_cmp x y
same_order x y t u =
    let a = t.utf8 in
    let b = u.utf8 in
    ap₂ (slice_cmp nat_cmp) (sym (chars_from_encodes a.0 x a a.1.1)) (sym (chars_from_encodes b.0 y b b.1.1)) ∙ sym (points a.0 b.0) ∙ ap₂ (slice_cmp nat_cmp) a.1.1 b.1.1

-- texts that stand in the order of their bytes stand in that of their code points
all_below : (x : Text) (ts : List Text) → IsText x → AllByRecursion IsText ts → AllByRecursion (λ y. by_text x y ≡ Less) ts → AllByRecursion (λ y. slice_cmp nat_cmp (chars x) y ≡ Less) (map chars ts)
all_below x [] t us h = tt
all_below x (y ∷ ts) t us h = (same_order x y t us.0 ∙ h.0, all_below x ts t us.1 h.1)

pub in_order : (ts : List Text) → AllByRecursion IsText ts → IsStrictlySortedBy by_text ts → IsStrictlySortedBy (slice_cmp nat_cmp) (map chars ts)
unfolding IsStrictlySortedBy
in_order [] us h = tt
in_order (t ∷ ts) us h = (all_below t ts us.0 us.1 h.0, in_order ts us.1 h.1)
