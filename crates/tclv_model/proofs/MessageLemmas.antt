-- A message whose parts are texts is a text.
use Rattle.std.proofs.Common.{◌≡◌, ℕ, zero, suc, Bool, true, false, cond, ltb, List, [], ◌∷◌, ◌++◌, refl, sym, ap, ◌∙◌, subst, arith}
use Rattle.std.specs.Prelude.{◌&&◌}
use Rattle.std.specs.Str.{chars, IsAscii}
use Rattle.std.specs.List.{before_first, after_first}
use Rattle.std.proofs.lemmas.Bool.{and_parts, ltb-true}
use Rattle.std.proofs.lemmas.Str.{chars-append, chars-nil, chars-IsAscii, IsUtf8-append, IsUtf8-nil, IsUtf8-from_ascii, IsAscii-drop, IsAscii-take}
use Rattle.tclv_text.specs.Texts.{IsText, AppendsText}
use Rattle.tclv_model.specs.declared.messages.MessageId.{MessageId}
use Rattle.tclv_model.specs.declared.messages.MessageId.TheVariants.{Usage}
use Rattle.tclv_model.specs.Message.{template, text_of}
use Rattle.tclv_model.specs.Blanks.{has_blank, is_blank, up_to_blank, behind_blank, filled}

abbrev are_ascii : List ℕ → Bool
are_ascii [] = true
are_ascii (b ∷ bs) = ltb b 128 && are_ascii bs

ascii_from_test : (bs : List ℕ) → are_ascii bs ≡ true → IsAscii bs
ascii_from_test [] h i = omega arith
ascii_from_test (b ∷ bs) h zero = ltb-true b 128 (and_parts (ltb b 128) (are_ascii bs) h).0
ascii_from_test (b ∷ bs) h (suc i) = ascii_from_test bs (and_parts (ltb b 128) (are_ascii bs) h).1 i

templates_are_ascii : (k : MessageId) → are_ascii (template k) ≡ true
templates_are_ascii Usage = refl
templates_are_ascii _ = refl

-- bytes that are the text of these code points
record IsTextOf (bs cs : List ℕ) : Type 0 where
  text : IsText bs
  points : chars bs ≡ cs

empty : IsTextOf [] []
empty = record { text = record { utf8 = IsUtf8-nil }; points = chars-nil }

joined : (xs ys us vs : List ℕ) → IsTextOf xs us → IsTextOf ys vs → IsTextOf (xs ++ ys) (us ++ vs)
joined xs ys us vs x y = record {
  text = record { utf8 = IsUtf8-append xs ys x.text.utf8 y.text.utf8 };
  points = chars-append xs ys x.text.utf8 ∙ ap (λ a. a ++ chars ys) x.points ∙ ap (λ b. us ++ b) y.points;
}

ascii : (bs : List ℕ) → IsAscii bs → IsTextOf bs bs
ascii bs h = record { text = record { utf8 = IsUtf8-from_ascii bs h }; points = chars-IsAscii bs h }

chosen : (b : Bool) (xs us : List ℕ) → IsTextOf xs us → IsTextOf (cond b xs []) (cond b us [])
chosen true xs us h = h
chosen false xs us h = empty

filled_part : (t part points : List ℕ) → IsAscii t → IsTextOf part points → IsTextOf (up_to_blank t part) (up_to_blank t points)
filled_part t part points a h =
    let front = before_first is_blank t in
    chosen (has_blank t) (front ++ part) (front ++ points) (joined front part front points (ascii front (IsAscii-take t _ a)) h)

behind_ascii : (t : List ℕ) → IsAscii t → IsAscii (behind_blank t)
behind_ascii t a = elim (has_blank t) as (λ b. IsAscii (cond b (after_first is_blank t) t)) [ true ↦ IsAscii-drop t _ a | false ↦ a ]

all_filled : (t first second p q : List ℕ) → IsAscii t → IsTextOf first p → IsTextOf second q → IsTextOf (filled t first second) (filled t p q)
all_filled t first second p q a x y =
    let b = behind_ascii t a in
    let rest = behind_blank t in
    joined (up_to_blank t first) (up_to_blank rest second ++ behind_blank rest) (up_to_blank t p) (up_to_blank rest q ++ behind_blank rest) (filled_part t first p a x)
    (joined (up_to_blank rest second) (behind_blank rest) (up_to_blank rest q) (behind_blank rest) (filled_part rest second q b y) (ascii (behind_blank rest) (behind_ascii rest b)))

-- the text of a message goes to the end of a text
pub message_appends : (k : MessageId) (old new first second : List ℕ) → new ≡ old ++ text_of k first second → IsText first → IsText second → AppendsText old new (text_of k (chars first) (chars second))
message_appends k old new first second e f s o =
    let m = all_filled (template k) first second (chars first) (chars second) (ascii_from_test (template k) (templates_are_ascii k)) (record { text = f; points = refl }) (record { text = s; points = refl }) in
    let all = joined old (text_of k first second) (chars old) (text_of k (chars first) (chars second)) (record { text = o; points = refl }) m in
    (subst IsText (sym e) all.text, ap chars e ∙ all.points)
