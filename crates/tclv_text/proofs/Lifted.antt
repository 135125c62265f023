-- From bytes to code points: a scan to which all units from 128 on are alike passes the same part of a text, whichever way it is given.
use Rattle.std.proofs.Common.{◌≡◌, ℕ, zero, suc, ◌+◌, ◌/◌, ◌<◌, ◌≤◌, Bool, true, false, cond, List, [], ◌∷◌, ◌++◌, Option, Some, None, length, get_or, take, drop, sym, ap, ◌∙◌, subst, refl, arith, ltb, eqb}
use Rattle.std.proofs.Math.Numerals.{one-add}
use Rattle.std.proofs.lemmas.List.{take_at, drop_at, take-append-drop, length-append, length-drop}
use Rattle.std.proofs.lemmas.Bool.{cases_lt, cond-true, cond-false, le-ltb, and_parts, and_from, ne_eqb}
use Rattle.std.proofs.lemmas.Bool.Decides.{nat_tests}
use Rattle.std.specs.List.{prefix_len}
use Rattle.std.proofs.lemmas.Str.{encode_ascii, encodes-append, chars-encodes, encodes-chars, scalars-chars}
use Rattle.std.specs.Str.{chars}
use lib.Utf8.{encode, encodes, scalar, scalars, next}
use mathlib.Core.Logic.{⊎_elim}
use Rattle.tclv_text.specs.Texts.{IsText}
use Rattle.tclv_text.specs.Characters.{is_space}
use Rattle.tclv_text.specs.Cuts.{IsCut}
use Rattle.tclv_text.specs.Scans.{scan_len, count_on}
use Rattle.tclv_text.proofs.Scans.{scan_len_go}

-- The bytes spell these code points.
pub record Spells (bs cs : List ℕ) : Type 0 where
  pub points : scalars cs ≡ true
  pub bytes : encodes cs ≡ bs

pub text_spells : {bs : List ℕ} → IsText bs → Spells bs (chars bs)
text_spells {bs} t = record { points = scalars-chars bs t.utf8; bytes = encodes-chars bs t.utf8 }

pub spells_text : {bs cs : List ℕ} → Spells bs cs → IsText bs
spells_text {bs} {cs} s = record { utf8 = (cs, (s.points, s.bytes)) }

pub spells_chars : {bs cs : List ℕ} → Spells bs cs → cs ≡ chars bs
spells_chars {bs} {cs} s = sym (chars-encodes cs s.points) ∙ ap chars s.bytes

-- each is 128 or more
abbrev pub AreHigh : List ℕ → Type 0
AreHigh [] = Unit {0}
AreHigh (h ∷ hs) = (128 ≤ h) × AreHigh hs

abbrev pub IsHighBlock : List ℕ → Type 0
IsHighBlock [] = ⊥
IsHighBlock (h ∷ hs) = (128 ≤ h) × AreHigh hs

-- the bytes of a character that is not ASCII
pub high_encode : (c : ℕ) → 128 ≤ c → IsHighBlock (encode c)
unfolding encode
high_encode c h =
    let x = (192 + c / 64) ∷ next c ∷ [] in
    let y = (224 + c / 4096) ∷ next (c / 64) ∷ next c ∷ [] in
    let z = (240 + c / 262144) ∷ next (c / 4096) ∷ next (c / 64) ∷ next c ∷ [] in
    subst IsHighBlock (sym (cond-false (ltb c 128) (c ∷ []) (cond (ltb c 2048) x (cond (ltb c 65536) y z)) (le-ltb c 128 h)))
    (elim (ltb c 2048) as (λ b. IsHighBlock (cond b x (cond (ltb c 65536) y z))) [
      | true ↦ (omega arith, (omega arith, tt))
      | false ↦ elim (ltb c 65536) as (λ b. IsHighBlock (cond b y z)) [
        | true ↦ (omega arith, (omega arith, (omega arith, tt)))
        | false ↦ (omega arith, (omega arith, (omega arith, (omega arith, tt))))
      ]
    ])

pub scalars_take : (n : ℕ) (cs : List ℕ) → scalars cs ≡ true → scalars (take n cs) ≡ true
scalars_take zero cs h = refl
scalars_take (suc n) [] h = refl
scalars_take (suc n) (c ∷ cs) h = let p = and_parts (scalar c) (scalars cs) h in and_from (scalar c) (scalars (take n cs)) p.0 (scalars_take n cs p.1)

pub scalars_drop : (n : ℕ) (cs : List ℕ) → scalars cs ≡ true → scalars (drop n cs) ≡ true
scalars_drop zero cs h = h
scalars_drop (suc n) [] h = refl
scalars_drop (suc n) (c ∷ cs) h = scalars_drop n cs (and_parts (scalar c) (scalars cs) h).1

-- where the code points are cut behind n, the bytes are cut behind those of the first part
pub spells_take : (n : ℕ) {bs cs : List ℕ} → Spells bs cs → Spells (take (length (encodes (take n cs))) bs) (take n cs)
spells_take n {bs} {cs} s = record {
  points = scalars_take n cs s.points;
  bytes = sym (take_at (encodes (take n cs)) (encodes (drop n cs)) (length (encodes (take n cs))) refl)
      ∙ ap (take (length (encodes (take n cs)))) (sym (encodes-append (take n cs) (drop n cs)) ∙ ap encodes (take-append-drop n cs) ∙ s.bytes);
}

pub spells_drop : (n : ℕ) {bs cs : List ℕ} → Spells bs cs → Spells (drop (length (encodes (take n cs))) bs) (drop n cs)
spells_drop n {bs} {cs} s = record {
  points = scalars_drop n cs s.points;
  bytes = sym (drop_at (encodes (take n cs)) (encodes (drop n cs)) (length (encodes (take n cs))) refl)
      ∙ ap (drop (length (encodes (take n cs)))) (sym (encodes-append (take n cs) (drop n cs)) ∙ ap encodes (take-append-drop n cs) ∙ s.bytes);
}

-- A step that takes all units from 128 on alike, and does nothing new at a second one.
pub record IsUniform {S : Type 0} (step : S → ℕ → Option S) : Type 0 where
  pub after : S → S
  pub high : (s : S) (c : ℕ) → 128 ≤ c → step s c ≡ Some (after s)
  pub stays : (s : S) → after (after s) ≡ after s

module _ {S : Type 0} (step : S → ℕ → Option S) (u : IsUniform step) where
  high_run : (s : S) (hs rest : List ℕ) → AreHigh hs → scan_len step (u.after s) (hs ++ rest) ≡ length hs + scan_len step (u.after s) rest
  high_run s [] rest h = omega arith
  high_run s (x ∷ hs) rest h =
      scan_len_go step (u.after s) (u.after s) x (hs ++ rest) (u.high (u.after s) x h.0 ∙ ap Some (u.stays s)) ∙ ap suc (high_run s hs rest h.1) ∙ omega arith

  high_block : (s : S) (bs rest : List ℕ) → IsHighBlock bs → scan_len step s (bs ++ rest) ≡ length bs + scan_len step (u.after s) rest
  high_block s [] rest h = absurd h
  high_block s (x ∷ hs) rest h =
      scan_len_go step s (u.after s) x (hs ++ rest) (u.high s x h.0) ∙ ap suc (high_run s hs rest h.1) ∙ omega arith

  -- the scan passes the bytes of the code points that it passes
  pub scan_encodes : (s : S) (cs : List ℕ) → scan_len step s (encodes cs) ≡ length (encodes (take (scan_len step s cs) cs))
  scan_encodes s [] = refl
  scan_encodes s (c ∷ cs) =
      ⊎_elim
      (λ (l : c < 128).
      ap (λ e. scan_len step s (e ++ encodes cs)) (encode_ascii c l)
      ∙ (elim (step s c) as (λ o. count_on o (λ t. scan_len step t (encodes cs)) ≡ length (encodes (take (count_on o (λ t. scan_len step t cs)) (c ∷ cs)))) [
        | None ↦ refl
        | Some t ↦ ap suc (scan_encodes t cs) ∙ sym (ap (λ e. length (e ++ encodes (take (scan_len step t cs) cs))) (encode_ascii c l))
      ]))
      (λ (g : 128 ≤ c).
      high_block s (encode c) (encodes cs) (high_encode c g)
      ∙ ap (λ n. length (encode c) + n) (scan_encodes (u.after s) cs)
      ∙ sym (length-append (encode c) (encodes (take (scan_len step (u.after s) cs) cs)))
      ∙ ap (λ n. length (encodes (take n (c ∷ cs)))) (sym (scan_len_go step s (u.after s) c cs (u.high s c g))))
      (cases_lt c 128)

  pub scan_take : (s : S) {bs cs : List ℕ} → Spells bs cs → Spells (take (scan_len step s bs) bs) (take (scan_len step s cs) cs)
  scan_take s {bs} {cs} h =
      subst (λ n. Spells (take n bs) (take (scan_len step s cs) cs)) (sym (scan_encodes s cs) ∙ ap (scan_len step s) h.bytes) (spells_take (scan_len step s cs) h)

  pub scan_drop : (s : S) {bs cs : List ℕ} → Spells bs cs → Spells (drop (scan_len step s bs) bs) (drop (scan_len step s cs) cs)
  scan_drop s {bs} {cs} h =
      subst (λ n. Spells (drop n bs) (drop (scan_len step s cs) cs)) (sym (scan_encodes s cs) ∙ ap (scan_len step s) h.bytes) (spells_drop (scan_len step s cs) h)

-- The first character of a text and its first byte.
pub high_ne : (c k : ℕ) → 128 ≤ c → k < 128 → eqb c k ≡ false
high_ne c k h l = ne_eqb c k (λ e. absurd (omega arith))

pub high_no_space : (c : ℕ) → 128 ≤ c → is_space c ≡ false
high_no_space c h = grind (arith, nat_tests)

pub head_ascii : (b c : ℕ) (bs cs : List ℕ) → Spells (b ∷ bs) (c ∷ cs) → c < 128 → (b ≡ c) × Spells bs cs
head_ascii b c bs cs s l =
    let e : c ∷ encodes cs ≡ b ∷ bs = ap (λ e. e ++ encodes cs) (sym (encode_ascii c l)) ∙ s.bytes in
    (cc, record { points = (and_parts (scalar c) (scalars cs) s.points).1; bytes = cc })

first_high : (xs ys bs : List ℕ) (b : ℕ) → IsHighBlock xs → xs ++ ys ≡ b ∷ bs → 128 ≤ b
first_high [] ys bs b h e = absurd h
first_high (x ∷ xs) ys bs b h e = let q : x ≡ b = cc in omega (arith, h.0)

pub head_high : (b c : ℕ) (bs cs : List ℕ) → Spells (b ∷ bs) (c ∷ cs) → 128 ≤ c → 128 ≤ b
head_high b c bs cs s g = first_high (encode c) (encodes cs) bs b (high_encode c g) s.bytes

-- a text behind an ASCII character
pub spells_tail : (bs cs : List ℕ) → Spells bs cs → 0 < length bs → get_or bs 0 0 < 128 → Spells (drop 1 bs) (drop 1 cs)
spells_tail [] cs s l a = absurd (omega arith)
spells_tail (b ∷ bs) [] s l a = let e : [] ≡ b ∷ bs = s.bytes in cc
spells_tail (b ∷ bs) (c ∷ cs) s l a =
    ⊎_elim (λ (k : c < 128). (head_ascii b c bs cs s k).1) (λ (k : 128 ≤ c). absurd (omega (arith, head_high b c bs cs s k))) (cases_lt c 128)

-- A front of units that pass a test is a scan.
abbrev pub test_step : (ℕ → Bool) → Unit {0} → ℕ → Option (Unit {0})
test_step p s c = cond (p c) (Some tt) None

pub prefix_scan : (p : ℕ → Bool) (xs : List ℕ) → prefix_len p xs ≡ scan_len (test_step p) tt xs
prefix_scan p [] = refl
prefix_scan p (c ∷ cs) = elim (p c) as (λ b. cond b (1 + prefix_len p cs) 0 ≡ count_on (cond b (Some tt) None) (λ t. scan_len (test_step p) t cs)) [
  | true ↦ one-add (prefix_len p cs) ∙ ap suc (prefix_scan p cs)
  | false ↦ refl
]

pub test_uniform : (p : ℕ → Bool) → ((c : ℕ) → 128 ≤ c → p c ≡ true) → IsUniform (test_step p)
test_uniform p h = record { after = λ s. s; high = λ s c g. cond-true _ _ _ (h c g); stays = λ s. refl }

-- a front of a text that passes a test which all units from 128 on pass
pub prefix_take : (p : ℕ → Bool) → ((c : ℕ) → 128 ≤ c → p c ≡ true) → {bs cs : List ℕ} → Spells bs cs → Spells (take (prefix_len p bs) bs) (take (prefix_len p cs) cs)
prefix_take p h {bs} {cs} s =
    subst (λ n. Spells (take n bs) (take (prefix_len p cs) cs)) (sym (prefix_scan p bs)) (subst (λ n. Spells (take (scan_len (test_step p) tt bs) bs) (take n cs)) (sym (prefix_scan p cs)) (scan_take (test_step p) (test_uniform p h) tt s))

pub prefix_drop : (p : ℕ → Bool) → ((c : ℕ) → 128 ≤ c → p c ≡ true) → {bs cs : List ℕ} → Spells bs cs → Spells (drop (prefix_len p bs) bs) (drop (prefix_len p cs) cs)
prefix_drop p h {bs} {cs} s =
    subst (λ n. Spells (drop n bs) (drop (prefix_len p cs) cs)) (sym (prefix_scan p bs)) (subst (λ n. Spells (drop (scan_len (test_step p) tt bs) bs) (drop n cs)) (sym (prefix_scan p cs)) (scan_drop (test_step p) (test_uniform p h) tt s))

-- the bytes of the code points before and behind a place
parts_length : (k : ℕ) {bs cs : List ℕ} → Spells bs cs → length (encodes (take k cs)) + length (encodes (drop k cs)) ≡ length bs
parts_length k {bs} {cs} s =
    sym (length-append (encodes (take k cs)) (encodes (drop k cs)))
    ∙ ap length (sym (encodes-append (take k cs) (drop k cs)) ∙ ap encodes (take-append-drop k cs) ∙ s.bytes)

pub cut_at : (k n : ℕ) {bs cs : List ℕ} → Spells bs cs → k ≤ length cs → n ≡ length (encodes (take k cs)) → IsCut bs n k
cut_at k n {bs} {cs} s l e =
    let front = subst (λ m. Spells (take m bs) (take k cs)) (sym e) (spells_take k s) in
    let back = subst (λ m. Spells (drop m bs) (drop k cs)) (sym e) (spells_drop k s) in
    let same = spells_chars s in
    record {
      within = omega (arith, parts_length k s);
      points = subst (λ (x : List ℕ). k ≤ length x) same l;
      front = spells_text front;
      rest = spells_text back;
      front_is = sym (spells_chars front) ∙ ap (take k) same;
      rest_is = sym (spells_chars back) ∙ ap (drop k) same;
    }

-- where what follows is the rest of both, what stands before is the front of both
pub cut_by_rest : (k n : ℕ) (bs : List ℕ) → IsText bs → IsText (drop n bs) → n ≤ length bs → k ≤ length (chars bs) → chars (drop n bs) ≡ drop k (chars bs) → IsCut bs n k
cut_by_rest k n bs t u l m e =
    let rest : encodes (drop k (chars bs)) ≡ drop n bs = ap encodes (sym e) ∙ encodes-chars (drop n bs) u.utf8 in
    let long = parts_length k (text_spells t) in
    let behind = ap length rest ∙ length-drop n bs in
    cut_at k n (text_spells t) m (omega arith)
