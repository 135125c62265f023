-- Laws of escapes.
use Rattle.std.proofs.Common.{◌≡◌, ℕ, zero, suc, ◌+◌, ◌-◌, ◌*◌, ◌<◌, ◌≤◌, Bool, true, false, cond, List, [], ◌∷◌, ◌++◌, length, get_or, take, drop, sym, ap, ◌∙◌, subst, refl, arith, leb, eqb, ◌&&◌, not}
use Rattle.std.proofs.lemmas.List.{at_drop_more, at_drop_all, length-take-le, length-drop, drop-drop, append-nil, append_assoc}
use Rattle.std.proofs.lemmas.List.Sums.{prefix_len-le-length}
use Rattle.std.proofs.lemmas.Bool.{cases_lt, cases_Bool, cond-true, cond-false, lt-ltb, le-ltb, le-leb, lt-leb, and_from, and_left, and_right, and_parts, eq-eqb}
use mathlib.Core.Logic.{⊎_elim}
use Rattle.std.specs.Char.{digit_value, is_digit}
use Rattle.std.proofs.Math.Numerals.{add-one, one-add}
use Rattle.std.proofs.lemmas.Bool.Decides.{nat_tests}
use Rattle.std.proofs.lemmas.Str.{encode_ascii, encodes-append}
use Rattle.std.specs.List.{prefix_len}
use Rattle.std.specs.Str.{chars}
use lib.Utf8.{encode, encodes, scalar, scalars}
use Rattle.tclv_text.specs.Texts.{IsText, Appends}
use Rattle.tclv_text.specs.Cuts.{IsCut}
use Rattle.tclv_text.specs.Escapes.{digit_run, numbered, character, is_blank, escape, is_literal, unescape_from, unescape}
use Rattle.tclv_text.proofs.Lifted.{IsHighBlock, high_encode, high_ne, head_ascii, head_high, Spells, spells_tail, text_spells, spells_text, spells_chars, prefix_take, prefix_drop, cut_at, cut_by_rest}

-- the number, and how many digits there are with n before
abbrev pub behind : ℕ × ℕ → ℕ → ℕ × ℕ
behind x n = (x.0, x.1 + n)

module _ (r m limit count v : ℕ) (t : List ℕ) (all : ℕ × ℕ) where
  pub run_go : (next : ℕ) → count < limit → count < length t → digit_value (get_or t count 0) < r → next ≡ v * r + digit_value (get_or t count 0) → next ≤ m →
      behind (digit_run r m (limit - count) v (drop count t)) count ≡ all → behind (digit_run r m (limit - (count + 1)) next (drop (count + 1) t)) (count + 1) ≡ all
  run_go next a b d e f h =
      let k = limit - (count + 1) in
      let x = get_or t count 0 in
      let rest = drop (count + 1) t in
      let one : limit - count ≡ suc k = omega arith in
      let run = digit_run r m k (v * r + digit_value x) rest in
      let fits : v * r + digit_value x ≤ m = omega arith in
      let passes = and_from (is_digit x r) (leb (v * r + digit_value x) m) (lt-ltb (digit_value x) r d) (le-leb (v * r + digit_value x) m fits) in
      let step : digit_run r m (limit - count) v (drop count t) ≡ (run.0, run.1 + 1) =
      ap (λ n. digit_run r m n v (drop count t)) one ∙ at_drop_more (digit_run r m (suc k) v) t count 0 b ∙ cond-true _ _ _ passes in
      let sum : run.1 + (count + 1) ≡ run.1 + 1 + count = omega arith in
      ap (λ n. behind (digit_run r m k n rest) (count + 1)) e ∙ ap (λ n. (run.0, n)) sum ∙ sym (ap (λ x. behind x count) step) ∙ h

  stopped : digit_run r m (limit - count) v (drop count t) ≡ (v, 0) → behind (digit_run r m (limit - count) v (drop count t)) count ≡ all → (v, count) ≡ all
  stopped s h = let e : count ≡ 0 + count = omega arith in ap (λ n. (v, n)) e ∙ sym (ap (λ x. behind x count) s) ∙ h

  no_pass : count < limit → count < length t → (is_digit (get_or t count 0) r && leb (v * r + digit_value (get_or t count 0)) m) ≡ false → digit_run r m (limit - count) v (drop count t) ≡ (v, 0)
  no_pass a b f =
      let one : limit - count ≡ suc (limit - (count + 1)) = omega arith in
      ap (λ n. digit_run r m n v (drop count t)) one ∙ at_drop_more (digit_run r m (suc (limit - (count + 1))) v) t count 0 b ∙ cond-false _ _ _ f

  pub run_no_digit : count < limit → count < length t → r ≤ digit_value (get_or t count 0) → behind (digit_run r m (limit - count) v (drop count t)) count ≡ all → (v, count) ≡ all
  run_no_digit a b d h = stopped (no_pass a b (and_left _ _ (le-ltb (digit_value (get_or t count 0)) r d))) h

  pub run_too_large : count < limit → count < length t → m < v * r + digit_value (get_or t count 0) → behind (digit_run r m (limit - count) v (drop count t)) count ≡ all → (v, count) ≡ all
  run_too_large a b d h = stopped (no_pass a b (and_right (is_digit (get_or t count 0) r) _ (lt-leb _ m d))) h

  run_nil : (k : ℕ) → digit_run r m k v [] ≡ (v, 0)
  run_nil zero = refl
  run_nil (suc k) = refl

  pub run_end : length t ≤ count → behind (digit_run r m (limit - count) v (drop count t)) count ≡ all → (v, count) ≡ all
  run_end l h = stopped (at_drop_all (digit_run r m (limit - count) v) t count l ∙ run_nil (limit - count)) h

  pub run_full : limit ≤ count → behind (digit_run r m (limit - count) v (drop count t)) count ≡ all → (v, count) ≡ all
  run_full l h = let e : limit - count ≡ 0 = omega arith in stopped (ap (λ k. digit_run r m k v (drop count t)) e) h

-- From bytes to code points: what an escape that begins with an ASCII character takes is ASCII.
abbrev pub AreAscii : List ℕ → Type 0
AreAscii [] = Unit {0}
AreAscii (c ∷ cs) = (c < 128) × AreAscii cs

encodes_ascii : (cs : List ℕ) → AreAscii cs → encodes cs ≡ cs
encodes_ascii [] h = refl
encodes_ascii (c ∷ cs) h = ap (λ e. e ++ encodes cs) (encode_ascii c h.0) ∙ ap (λ x. c ∷ x) (encodes_ascii cs h.1)

-- two ways to read the same front of the code points cs
pub SameRun : List ℕ → ℕ × ℕ → ℕ × ℕ → Type 0
SameRun cs x y = (x ≡ y) × AreAscii (take y.1 cs) × (y.1 ≤ length cs)

same_run : (cs : List ℕ) (x y : ℕ × ℕ) → x ≡ y → AreAscii (take y.1 cs) → y.1 ≤ length cs → SameRun cs x y
unfolding SameRun
same_run cs x y e a l = (e, a, l)

high_value : (c : ℕ) → 128 ≤ c → digit_value c ≡ 36
high_value c g = grind (arith, nat_tests)

no_digit_high : (r c : ℕ) (x : Bool) → r ≤ 36 → 128 ≤ c → (is_digit c r && x) ≡ false
no_digit_high r c x l g = and_left (is_digit c r) x (le-ltb (digit_value c) r (omega (arith, high_value c g)))

run_high : (r m k v : ℕ) (bs rest : List ℕ) → r ≤ 36 → IsHighBlock bs → digit_run r m k v (bs ++ rest) ≡ (v, 0)
run_high r m k v [] rest l h = absurd h
run_high r m zero v (b ∷ bs) rest l h = refl
run_high r m (suc k) v (b ∷ bs) rest l h = cond-false _ _ _ (no_digit_high r b (leb (v * r + digit_value b) m) l h.0)

run_high_char : (r m k v c : ℕ) (rest : List ℕ) → r ≤ 36 → 128 ≤ c → digit_run r m k v (c ∷ rest) ≡ (v, 0)
run_high_char r m zero v c rest l h = refl
run_high_char r m (suc k) v c rest l h = cond-false _ _ _ (no_digit_high r c (leb (v * r + digit_value c) m) l h)

pub run_lifted : (r m k v : ℕ) (cs : List ℕ) → r ≤ 36 → SameRun cs (digit_run r m k v (encodes cs)) (digit_run r m k v cs)
unfolding SameRun
run_lifted r m zero v cs l = (refl, tt, omega arith)
run_lifted r m (suc k) v [] l = (refl, tt, omega arith)
run_lifted r m (suc k) v (c ∷ cs) l =
    ⊎_elim
    (λ (a : c < 128).
    let next = v * r + digit_value c in
    let h = run_lifted r m k next cs l in
    subst (λ (e : List ℕ). SameRun (c ∷ cs) (digit_run r m (suc k) v (e ++ encodes cs)) (digit_run r m (suc k) v (c ∷ cs))) (sym (encode_ascii c a))
    (elim (is_digit c r && leb next m) as (λ b. SameRun (c ∷ cs) (cond b ((digit_run r m k next (encodes cs)).0, (digit_run r m k next (encodes cs)).1 + 1) (v, 0)) (cond b ((digit_run r m k next cs).0, (digit_run r m k next cs).1 + 1) (v, 0))) [
      | true ↦ (
        ap (λ (x : ℕ × ℕ). (x.0, x.1 + 1)) h.0,
        rw add-one (a, h.1),
        omega (arith, h.2),
      )
      | false ↦ (refl, tt, omega arith)
    ]))
    (λ (g : 128 ≤ c).
    subst (λ (y : ℕ × ℕ). SameRun (c ∷ cs) (digit_run r m (suc k) v (encode c ++ encodes cs)) y) (sym (run_high_char r m (suc k) v c cs l g))
    (run_high r m (suc k) v (encode c) (encodes cs) l (high_encode c g), tt, omega arith))
    (cases_lt c 128)

no_blank : (c : ℕ) → 128 ≤ c → is_blank c ≡ false
no_blank c g = grind (arith, nat_tests)

blank_high : (bs rest : List ℕ) → IsHighBlock bs → prefix_len is_blank (bs ++ rest) ≡ 0
blank_high [] rest h = absurd h
blank_high (b ∷ bs) rest h = cond-false _ _ _ (no_blank b h.0)

blank_lifted : (cs : List ℕ) → (prefix_len is_blank (encodes cs) ≡ prefix_len is_blank cs) × AreAscii (take (prefix_len is_blank cs) cs)
blank_lifted [] = (refl, tt)
blank_lifted (c ∷ cs) =
    ⊎_elim
    (λ (a : c < 128).
    let h = blank_lifted cs in
    subst (λ (e : List ℕ). (prefix_len is_blank (e ++ encodes cs) ≡ prefix_len is_blank (c ∷ cs)) × AreAscii (take (prefix_len is_blank (c ∷ cs)) (c ∷ cs))) (sym (encode_ascii c a))
    (elim (is_blank c) as (λ b. (cond b (1 + prefix_len is_blank (encodes cs)) 0 ≡ cond b (1 + prefix_len is_blank cs) 0) × AreAscii (take (cond b (1 + prefix_len is_blank cs) 0) (c ∷ cs))) [
      | true ↦ (ap (λ n. 1 + n) h.0, rw one-add (a, h.1))
      | false ↦ (refl, tt)
    ]))
    (λ (g : 128 ≤ c).
    let z : prefix_len is_blank (c ∷ cs) ≡ 0 = cond-false _ _ _ (no_blank c g) in
    (blank_high (encode c) (encodes cs) (high_encode c g) ∙ sym z, subst (λ n. AreAscii (take n (c ∷ cs))) (sym z) tt))
    (cases_lt c 128)

both : {A : Type 0} (P : A → A → Type 0) (b : Bool) (x y z w : A) → (b ≡ true → P x z) → (b ≡ false → P y w) → P (cond b x y) (cond b z w)
both P true x y z w f g = f refl
both P false x y z w f g = g refl

one_unit : (c : ℕ) (cs : List ℕ) (v : ℕ) → c < 128 → SameRun (c ∷ cs) (v, 1) (v, 1)
one_unit c cs v a = same_run (c ∷ cs) (v, 1) (v, 1) refl (a, tt) (omega arith)

numbered_same : (c k : ℕ) (cs : List ℕ) (x y : ℕ × ℕ) → c < 128 → SameRun cs x y → SameRun (c ∷ cs) (numbered k x) (numbered k y)
unfolding SameRun
numbered_same c k cs x y a h =
    subst (λ (z : ℕ × ℕ). SameRun (c ∷ cs) (numbered k z) (numbered k y)) (sym h.0)
    (elim (eqb y.1 0) as (λ b. SameRun (c ∷ cs) (cond b (k, 1) (character y.0, y.1 + 1)) (cond b (k, 1) (character y.0, y.1 + 1))) [
      | true ↦ (refl, (a, tt), omega arith)
      | false ↦ (refl, rw add-one (a, h.1), omega (arith, h.2))
    ])

newline_same : (c : ℕ) (cs : List ℕ) → c < 128 → SameRun (c ∷ cs) (32, prefix_len is_blank (encodes cs) + 1) (32, prefix_len is_blank cs + 1)
newline_same c cs a =
    let h = blank_lifted cs in
    same_run (c ∷ cs) _ _ (ap (λ n. (32, n + 1)) h.0) (rw add-one (a, h.1)) (omega (arith, prefix_len-le-length is_blank cs))

octal_same : (c : ℕ) (cs : List ℕ) → c < 128 → SameRun (c ∷ cs) (digit_run 8 255 3 0 (c ∷ encodes cs)) (digit_run 8 255 3 0 (c ∷ cs))
octal_same c cs a = subst (λ (e : List ℕ). SameRun (c ∷ cs) (digit_run 8 255 3 0 (e ++ encodes cs)) (digit_run 8 255 3 0 (c ∷ cs))) (encode_ascii c a) (run_lifted 8 255 3 0 (c ∷ cs) (omega arith))

pub escape_lifted : (c : ℕ) (cs : List ℕ) → c < 128 → SameRun (c ∷ cs) (escape (c ∷ encodes cs)) (escape (c ∷ cs))
unfolding escape
escape_lifted c cs a =
    both (SameRun (c ∷ cs)) (eqb c 97) _ _ _ _ (λ e. one_unit c cs 7 a) (λ e.
    both (SameRun (c ∷ cs)) (eqb c 98) _ _ _ _ (λ e. one_unit c cs 8 a) (λ e.
    both (SameRun (c ∷ cs)) (eqb c 102) _ _ _ _ (λ e. one_unit c cs 12 a) (λ e.
    both (SameRun (c ∷ cs)) (eqb c 110) _ _ _ _ (λ e. one_unit c cs 10 a) (λ e.
    both (SameRun (c ∷ cs)) (eqb c 114) _ _ _ _ (λ e. one_unit c cs 13 a) (λ e.
    both (SameRun (c ∷ cs)) (eqb c 116) _ _ _ _ (λ e. one_unit c cs 9 a) (λ e.
    both (SameRun (c ∷ cs)) (eqb c 118) _ _ _ _ (λ e. one_unit c cs 11 a) (λ e.
    both (SameRun (c ∷ cs)) (eqb c 120) _ _ _ _ (λ e. numbered_same c c cs _ _ a (run_lifted 16 255 2 0 cs (omega arith))) (λ e.
    both (SameRun (c ∷ cs)) (eqb c 117) _ _ _ _ (λ e. numbered_same c c cs _ _ a (run_lifted 16 65535 4 0 cs (omega arith))) (λ e.
    both (SameRun (c ∷ cs)) (eqb c 85) _ _ _ _ (λ e. numbered_same c c cs _ _ a (run_lifted 16 0x10_FFFF 8 0 cs (omega arith))) (λ e.
    both (SameRun (c ∷ cs)) (eqb c 10) _ _ _ _ (λ e. newline_same c cs a) (λ e.
    both (SameRun (c ∷ cs)) (is_digit c 8) _ _ _ _ (λ e. octal_same c cs a) (λ e. one_unit c cs c a))))))))))))

is_octal_high : (c : ℕ) → 128 ≤ c → is_digit c 8 ≡ false
is_octal_high c g = le-ltb (digit_value c) 8 (omega (arith, high_value c g))

-- another character stands for itself
pub escape_high : (c : ℕ) (cs : List ℕ) → 128 ≤ c → escape (c ∷ cs) ≡ (c, 1)
unfolding escape
escape_high c cs g =
    cond-false _ _ _ (high_ne c 97 g (omega arith)) ∙ cond-false _ _ _ (high_ne c 98 g (omega arith)) ∙ cond-false _ _ _ (high_ne c 102 g (omega arith))
    ∙ cond-false _ _ _ (high_ne c 110 g (omega arith)) ∙ cond-false _ _ _ (high_ne c 114 g (omega arith)) ∙ cond-false _ _ _ (high_ne c 116 g (omega arith))
    ∙ cond-false _ _ _ (high_ne c 118 g (omega arith)) ∙ cond-false _ _ _ (high_ne c 120 g (omega arith)) ∙ cond-false _ _ _ (high_ne c 117 g (omega arith))
    ∙ cond-false _ _ _ (high_ne c 85 g (omega arith)) ∙ cond-false _ _ _ (high_ne c 10 g (omega arith)) ∙ cond-false _ _ _ (is_octal_high c g)

head_is : (bs cs : List ℕ) → Spells bs cs → 0 < length bs → get_or bs 0 0 ≡ 92 → (get_or cs 0 0 ≡ 92) × (0 < length cs)
head_is [] cs s l e = absurd (omega arith)
head_is (b ∷ bs) [] s l e = let q : [] ≡ b ∷ bs = s.bytes in cc
head_is (b ∷ bs) (c ∷ cs) s l e =
    ⊎_elim (λ (k : c < 128). (sym (head_ascii b c bs cs s k).0 ∙ e, omega arith)) (λ (k : 128 ≤ c). absurd (omega (arith, head_high b c bs cs s k))) (cases_lt c 128)

-- What the code answers for a text behind a backslash.
pub record IsEscape (bs cs : List ℕ) (e : ℕ × ℕ) : Type 0 where
  pub char : e.0 ≡ (escape cs).0
  pub taken : IsCut bs e.1 (escape cs).1

pub escape_ascii : (bs cs : List ℕ) (e : ℕ × ℕ) → Spells bs cs → 0 < length bs → get_or bs 0 0 < 128 → e ≡ escape bs → IsEscape bs cs e
unfolding SameRun
escape_ascii [] cs e s l a h = absurd (omega arith)
escape_ascii (b ∷ bs) [] e s l a h = let q : [] ≡ b ∷ bs = s.bytes in cc
escape_ascii (b ∷ bs) (c ∷ cs) e s l a h =
    let k : c < 128 = ⊎_elim (λ (k : c < 128). k) (λ (k : 128 ≤ c). absurd (omega (arith, head_high b c bs cs s k))) (cases_lt c 128) in
    let t = head_ascii b c bs cs s k in
    let same = escape_lifted c cs k in
    let to_points : e ≡ escape (c ∷ cs) = h ∙ ap (λ x. escape (x ∷ bs)) t.0 ∙ ap (λ x. escape (c ∷ x)) (sym t.1.bytes) ∙ same.0 in
    let n = (escape (c ∷ cs)).1 in
    let plain : encodes (take n (c ∷ cs)) ≡ take n (c ∷ cs) = encodes_ascii (take n (c ∷ cs)) same.1 in
    let len : length (encodes (take n (c ∷ cs))) ≡ e.1 = ap length plain ∙ length-take-le n (c ∷ cs) same.2 ∙ ap (λ (x : ℕ × ℕ). x.1) (sym to_points) in
    record {
      char = ap (λ (x : ℕ × ℕ). x.0) to_points;
      taken = cut_at n e.1 s same.2 (sym len);
    }

pub is_escape_ascii : (bs : List ℕ) (e : ℕ × ℕ) → IsText bs → 0 < length bs → get_or bs 0 0 < 128 → e ≡ escape bs → IsEscape bs (chars bs) e
is_escape_ascii bs e t l a h = escape_ascii bs (chars bs) e (text_spells t) l a h

pub is_escape_none : (bs : List ℕ) → IsText bs → length bs ≡ 0 → IsEscape bs (chars bs) (92, 0)
unfolding chars escape
is_escape_none [] t l = record { char = refl; taken = cut_at 0 0 (text_spells t) (omega arith) refl }
is_escape_none (b ∷ bs) t l = absurd (omega arith)

first_is_high : (bs cs : List ℕ) (c : ℕ) → Spells bs (c ∷ cs) → 128 ≤ get_or bs 0 0 → 0 < length bs → 128 ≤ c
first_is_high [] cs c s a l = absurd (omega arith)
first_is_high (b ∷ bs) cs c s a l = ⊎_elim (λ (k : c < 128). let e = (head_ascii b c bs cs s k).0 in omega arith) (λ (k : 128 ≤ c). k) (cases_lt c 128)

pub is_escape_other : (bs : List ℕ) (c n : ℕ) → IsText bs → 128 ≤ get_or bs 0 0 → 0 < length bs → chars bs ≡ c ∷ chars (drop n bs) → IsCut bs n 1 → IsEscape bs (chars bs) (c, n)
is_escape_other bs c n t a some e u =
    let g : 128 ≤ c = first_is_high bs (chars (drop n bs)) c (subst (Spells bs) e (text_spells t)) a some in
    let s : escape (chars bs) ≡ (c, 1) = ap escape e ∙ escape_high c (chars (drop n bs)) g in
    record {
      char = sym (ap (λ (x : ℕ × ℕ). x.0) s);
      taken = subst (λ (x : ℕ × ℕ). IsCut bs n x.1) (sym s) u;
    }

pub chars_tail : (t : List ℕ) → IsText t → 0 < length t → get_or t 0 0 ≡ 92 → IsText (drop 1 t) × (chars (drop 1 t) ≡ drop 1 (chars t))
chars_tail t u l e = let s = spells_tail t (chars t) (text_spells u) l (omega arith) in (spells_text s, sym (spells_chars s))

pub behind_backslash : (t : List ℕ) (e : ℕ × ℕ) → IsText t → 0 < length t → get_or t 0 0 ≡ 92 → IsEscape (drop 1 t) (chars (drop 1 t)) e →
    (e.0 ≡ (escape (drop 1 (chars t))).0) × IsCut t (e.1 + 1) ((escape (drop 1 (chars t))).1 + 1)
behind_backslash t e u l b h =
    let cs = chars t in
    let k = chars_tail t u l b in
    let some = head_is t cs (text_spells u) l b in
    let same : (escape (chars (drop 1 t))).1 ≡ (escape (drop 1 cs)).1 = ap (λ xs. (escape xs).1) k.1 in
    let n = (escape (drop 1 cs)).1 in
    let sum : 1 + e.1 ≡ e.1 + 1 = omega arith in
    let sum_points : 1 + n ≡ n + 1 = omega arith in
    let d : drop e.1 (drop 1 t) ≡ drop (e.1 + 1) t = drop-drop e.1 1 t ∙ ap (λ n. drop n t) sum in
    let d_points : drop n (drop 1 cs) ≡ drop (n + 1) cs = drop-drop n 1 cs ∙ ap (λ n. drop n cs) sum_points in
    let rest : chars (drop e.1 (drop 1 t)) ≡ drop n (drop 1 cs) = h.taken.rest_is ∙ ap (λ m. drop m (chars (drop 1 t))) same ∙ ap (drop n) k.1 in
    let long : length (chars (drop 1 t)) ≡ length cs - 1 = ap length k.1 ∙ length-drop 1 cs in (
      h.char ∙ ap (λ xs. (escape xs).0) k.1,
      cut_by_rest (n + 1) (e.1 + 1) t u (subst IsText d h.taken.rest) (omega (arith, h.taken.within, length-drop 1 t)) (omega (arith, h.taken.points, some.1)) (ap chars (sym d) ∙ rest ∙ d_points),
    )

literal_high : (c : ℕ) → 128 ≤ c → is_literal c ≡ true
literal_high c g = ap not (high_ne c 92 g (omega arith))

pub unescape_past : (n : ℕ) (cs : List ℕ) → unescape_from n cs ≡ unescape (drop n cs)
unfolding unescape_from
unescape_past zero cs = refl
unescape_past (suc n) [] = refl
unescape_past (suc n) (c ∷ cs) = unescape_past n cs

-- what stands before a backslash stands for itself
pub unescape_literal : (cs : List ℕ) → unescape cs ≡ take (prefix_len is_literal cs) cs ++ unescape (drop (prefix_len is_literal cs) cs)
unfolding unescape_from
unescape_literal [] = refl
unescape_literal (c ∷ cs) =
    ⊎_elim
    (λ (e : eqb c 92 ≡ true).
    let z : prefix_len is_literal (c ∷ cs) ≡ 0 = cond-false _ _ _ (ap not e) in
    ap (λ n. take n (c ∷ cs) ++ unescape (drop n (c ∷ cs))) (sym z))
    (λ (e : eqb c 92 ≡ false).
    let z : prefix_len is_literal (c ∷ cs) ≡ suc (prefix_len is_literal cs) = cond-true (is_literal c) (1 + prefix_len is_literal cs) 0 (ap not e) ∙ one-add (prefix_len is_literal cs) in
    cond-false _ _ _ e ∙ ap (λ x. c ∷ x) (unescape_literal cs) ∙ ap (λ n. take n (c ∷ cs) ++ unescape (drop n (c ∷ cs))) (sym z))
    (cases_Bool (eqb c 92))

pub unescape_begins : (cs : List ℕ) → unescape (92 ∷ cs) ≡ (escape cs).0 ∷ unescape (drop (escape cs).1 cs)
unfolding unescape_from
unescape_begins cs = ap (λ x. (escape cs).0 ∷ x) (unescape_past (escape cs).1 cs)

pub unescape_other : (c : ℕ) (cs : List ℕ) → eqb c 92 ≡ false → unescape (c ∷ cs) ≡ c ∷ unescape cs
unfolding unescape_from
unescape_other c cs e = cond-false _ _ _ e

pub unescape_backslash : (cs : List ℕ) → get_or cs 0 0 ≡ 92 → 0 < length cs → unescape cs ≡ (escape (drop 1 cs)).0 ∷ unescape (drop (escape (drop 1 cs)).1 (drop 1 cs))
unfolding unescape_from
unescape_backslash [] e l = absurd (omega arith)
unescape_backslash (c ∷ cs) e l = cond-true _ _ _ (eq-eqb c 92 e) ∙ ap (λ x. (escape cs).0 ∷ x) (unescape_past (escape cs).1 cs)

-- One more piece of text: what was read so far, its bytes, and the rest.
pub record Unescaped (all old out rest : List ℕ) : Type 0 where
  pub done : List ℕ
  pub appends : Appends old out done
  pub rest_text : IsText rest
  pub total : done ++ unescape (chars rest) ≡ all

pub unescaped_start : (old text : List ℕ) → IsText text → Unescaped (unescape (chars text)) old old text
unescaped_start old text t = record { done = []; appends = record { bytes = sym (append-nil old); points = refl }; rest_text = t; total = refl }

pub scalars_append : (xs ys : List ℕ) → scalars xs ≡ true → scalars ys ≡ true → scalars (xs ++ ys) ≡ true
scalars_append [] ys h k = k
scalars_append (x ∷ xs) ys h k = let p = and_parts (scalar x) (scalars xs) h in and_from (scalar x) (scalars (xs ++ ys)) p.0 (scalars_append xs ys p.1 k)

pub appends_more : {old mid new cs : List ℕ} (ds : List ℕ) → Appends old mid cs → new ≡ mid ++ encodes ds → scalars ds ≡ true → Appends old new (cs ++ ds)
appends_more {old} {mid} {new} {cs} ds a e s = record {
  bytes = e ∙ ap (λ x. x ++ encodes ds) a.bytes ∙ append_assoc old (encodes cs) (encodes ds) ∙ ap (λ x. old ++ x) (sym (encodes-append cs ds));
  points = scalars_append cs ds a.points s;
}

pub unescaped_literal : {all old out rest : List ℕ} → (new : List ℕ) → Unescaped all old out rest → new ≡ out ++ take (prefix_len is_literal rest) rest → Unescaped all old new (drop (prefix_len is_literal rest) rest)
unescaped_literal {all} {old} {out} {rest} new u e =
    let cs = chars rest in
    let s = text_spells u.rest_text in
    let front = prefix_take is_literal literal_high s in
    let back = prefix_drop is_literal literal_high s in
    record {
      done = u.done ++ take (prefix_len is_literal cs) cs;
      appends = appends_more (take (prefix_len is_literal cs) cs) u.appends (e ∙ ap (λ x. out ++ x) (sym front.bytes)) front.points;
      rest_text = spells_text back;
      total = append_assoc u.done (take (prefix_len is_literal cs) cs) (unescape (chars (drop (prefix_len is_literal rest) rest)))
          ∙ ap (λ x. u.done ++ (take (prefix_len is_literal cs) cs ++ unescape x)) (sym (spells_chars back))
          ∙ ap (λ x. u.done ++ x) (sym (unescape_literal cs))
          ∙ u.total;
    }

pub unescaped_escape : {all old out rest : List ℕ} → (new : List ℕ) (c n : ℕ) → Unescaped all old out rest → get_or rest 0 0 ≡ 92 → 0 < length rest → scalar c ≡ true →
    new ≡ out ++ encode c → c ≡ (escape (drop 1 (chars rest))).0 → IsCut rest n ((escape (drop 1 (chars rest))).1 + 1) → Unescaped all old new (drop n rest)
unescaped_escape {all} {old} {out} {rest} new c n u b l sc e ch cut =
    let cs = chars rest in
    let k = (escape (drop 1 cs)).1 in
    let sum : k + 1 ≡ 1 + k = omega arith in
    let be : chars (drop n rest) ≡ drop k (drop 1 cs) = cut.rest_is ∙ ap (λ m. drop m cs) sum ∙ sym (drop-drop k 1 cs) in
    let h = head_is rest cs (text_spells u.rest_text) l b in
    record {
      done = u.done ++ c ∷ [];
      appends = appends_more (c ∷ []) u.appends (e ∙ ap (λ x. out ++ x) (sym (append-nil (encode c)))) (and_from (scalar c) true sc refl);
      rest_text = cut.rest;
      total = append_assoc u.done (c ∷ []) (unescape (chars (drop n rest)))
          ∙ ap (λ x. u.done ++ (c ∷ unescape x)) be
          ∙ ap (λ k. u.done ++ (k ∷ unescape (drop (escape (drop 1 cs)).1 (drop 1 cs)))) ch
          ∙ ap (λ x. u.done ++ x) (sym (unescape_backslash cs h.0 h.1))
          ∙ u.total;
    }

pub unescaped_end : {all old out : List ℕ} (rest : List ℕ) → Unescaped all old out rest → length rest ≡ 0 → Appends old out all
unfolding chars unescape_from
unescaped_end {all} {old} {out} [] u l = subst (Appends old out) (sym (append-nil u.done) ∙ u.total) u.appends
unescaped_end (b ∷ bs) u l = absurd (omega arith)

-- what was appended to a text
pub appended_text : {old new cs : List ℕ} → Appends old new cs → IsText old → IsText new × (chars new ≡ chars old ++ cs)
appended_text {old} {new} {cs} a t =
    let s = text_spells t in
    let all : Spells new (chars old ++ cs) = record {
      points = scalars_append (chars old) cs s.points a.points;
      bytes = encodes-append (chars old) cs ∙ ap (λ x. x ++ encodes cs) s.bytes ∙ sym a.bytes;
    } in
    (spells_text all, sym (spells_chars all))
