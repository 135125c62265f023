-- Laws of classes of texts.
use Rattle.std.proofs.Common.{◌≡◌, ◌≢◌, ◌==◌, ℕ, ◌+◌, ◌%◌, Bool, true, false, not, ◌&&◌, ◌||◌, cond, List, [], ◌∷◌, length, refl, sym, ap, ap₂, ◌∙◌, subst, arith}
use Rattle.std.specs.Prelude.{codes, Some, Result, Ok, Err, IfOk}
use Rattle.std.specs.List.{list_all}
use Rattle.std.specs.Option.{ok_or}
use Rattle.std.specs.Result.{is_ok}
use Rattle.std.proofs.Math.Nat.{add-mod_right}
use Rattle.std.specs.Str.{chars}
use Rattle.tclv_text.specs.Texts.{IsText}
use Rattle.tclv_text.specs.Globs.{is_empty}
use Rattle.tclv_text.specs.Lists.{ListFlaw}
use Rattle.tclv_text.specs.Pairs.{Pairs, PairsFlaw, MissingValue, put, put_all, pairs_of_list}
use Rattle.tclv_strings.specs.declared.classes.CharClass.{CharClass}
use Rattle.tclv_strings.specs.declared.classes.TextClass.{TextClass}
use Rattle.tclv_strings.specs.declared.classes.TextClass.TheVariants as text
use Rattle.tclv_model.specs.Rows.{wrong_count}
use Rattle.tclv_model.specs.Usages.{usage_of}
use Rattle.tclv_model.specs.declared.usages.Usage.TheVariants as command
use Rattle.tclv_strings.specs.Classes.{has_class, is_of, counts_as, list_count, class_named, row_is}
use Rattle.tclv_reply.proofs.Laws.{same_key, ascii_from_test}

pub is_count : (call : List ℕ) (words : List (List ℕ)) → length words ≢ 3 → length words ≢ 4 → row_is call words ≡ wrong_count call (usage_of command.StringIs)
is_count call [] h k = refl
is_count call (a ∷ []) h k = refl
is_count call (a ∷ b ∷ []) h k = refl
is_count call (a ∷ b ∷ c ∷ []) h k = absurd (h refl)
is_count call (a ∷ b ∷ c ∷ d ∷ []) h k = absurd (k refl)
is_count call (a ∷ b ∷ c ∷ d ∷ e ∷ ws) h k = refl

branch : {X : Type 0} (a b : Bool) (x y z : X) → a ≡ b → y ≡ z → cond a x y ≡ cond b x z
branch a b x y z e f = ap₂ (λ p q. cond p x q) e f

-- the class that the bytes of a word name
pub class_same : (bs : List ℕ) → IsText bs → class_named bs ≡ class_named (chars bs)
class_same bs t =
    branch _ _ _ _ _ (same_key bs (codes "alnum") t (ascii_from_test (codes "alnum") refl)) (
    branch _ _ _ _ _ (same_key bs (codes "alpha") t (ascii_from_test (codes "alpha") refl)) (
    branch _ _ _ _ _ (same_key bs (codes "ascii") t (ascii_from_test (codes "ascii") refl)) (
    branch _ _ _ _ _ (same_key bs (codes "boolean") t (ascii_from_test (codes "boolean") refl)) (
    branch _ _ _ _ _ (same_key bs (codes "dict") t (ascii_from_test (codes "dict") refl)) (
    branch _ _ _ _ _ (same_key bs (codes "digit") t (ascii_from_test (codes "digit") refl)) (
    branch _ _ _ _ _ (same_key bs (codes "entier") t (ascii_from_test (codes "entier") refl)) (
    branch _ _ _ _ _ (same_key bs (codes "false") t (ascii_from_test (codes "false") refl)) (
    branch _ _ _ _ _ (same_key bs (codes "integer") t (ascii_from_test (codes "integer") refl)) (
    branch _ _ _ _ _ (same_key bs (codes "list") t (ascii_from_test (codes "list") refl)) (
    branch _ _ _ _ _ (same_key bs (codes "lower") t (ascii_from_test (codes "lower") refl)) (
    branch _ _ _ _ _ (same_key bs (codes "space") t (ascii_from_test (codes "space") refl)) (
    branch _ _ _ _ _ (same_key bs (codes "true") t (ascii_from_test (codes "true") refl)) (
    branch _ _ _ _ _ (same_key bs (codes "upper") t (ascii_from_test (codes "upper") refl)) (
    branch _ _ _ _ _ (same_key bs (codes "wideinteger") t (ascii_from_test (codes "wideinteger") refl)) (
    branch _ _ _ _ _ (same_key bs (codes "xdigit") t (ascii_from_test (codes "xdigit") refl)) refl)))))))))))))))

-- The empty text without `-strict`, and other texts.
pub strict_as : (strict : Bool) (k : TextClass) (t : List ℕ) → strict ≡ true → is_of k t ≡ counts_as strict k t
strict_as strict k t e = sym (ap (λ b. (not b && is_empty t) || is_of k t) e)

pub empty_counts : (strict : Bool) (k : TextClass) (t : List ℕ) → strict ≡ false → is_empty t ≡ true → true ≡ counts_as strict k t
empty_counts strict k t e f = sym (ap₂ (λ b c. (not b && c) || is_of k t) e f)

pub others_count : (strict : Bool) (k : TextClass) (t : List ℕ) → is_empty t ≡ false → is_of k t ≡ counts_as strict k t
others_count true k t f = refl
others_count false k t f = sym (ap (λ c. c || is_of k t) f)

pub held_as : {E : Type 0} (r : Result Bool E) (x y : Bool) → x ≡ y → IfOk r (λ b. b ≡ x) → IfOk r (λ b. b ≡ y)
held_as r x y e = subst (λ z. IfOk r (λ b. b ≡ z)) e

-- a text with characters of a class
pub none_there : (k : CharClass) (t : List ℕ) → is_empty t ≡ true → false ≡ is_of (text.Characters k) t
none_there k t e = sym (ap (λ b. not b && list_all (has_class k) t) e)

pub some_there : (k : CharClass) (t : List ℕ) → is_empty t ≡ false → list_all (has_class k) t ≡ is_of (text.Characters k) t
some_there k t e = sym (ap (λ b. not b && list_all (has_class k) t) e)

-- A list is a dict where its elements are even in number.
even_pairs : (ps : Pairs) (ts : List (List ℕ)) → (length ts % 2 == 0) ≡ is_ok (let r : Result Pairs PairsFlaw = ok_or (put_all ps ts) MissingValue in r)
even_pairs ps [] = refl
even_pairs ps (k ∷ []) = refl
even_pairs ps (k ∷ v ∷ ts) =
    let two : length (k ∷ v ∷ ts) ≡ length ts + 2 = omega arith in
    ap (λ n. n % 2 == 0) two ∙ ap (λ n. n == 0) (add-mod_right (length ts) 2) ∙ even_pairs (put k v ps) ts

pub even_dict : (r : Result (List (List ℕ)) ListFlaw) (n : ℕ) → Some n ≡ list_count r → (n % 2 == 0) ≡ is_ok (pairs_of_list r)
even_dict (Ok ts) n e = let same : n ≡ length ts = cc in ap (λ m. m % 2 == 0) same ∙ even_pairs [] ts
even_dict (Err f) n e = absurd (cc)
