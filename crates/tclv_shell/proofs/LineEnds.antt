-- The newlines of a text are those of its bytes, since carriage return and newline are ASCII.
use Rattle.std.proofs.Common.{◌≡◌, ℕ, ◌+◌, ◌/◌, ◌<◌, ◌≤◌, Bool, true, false, cond, List, [], ◌∷◌, ◌++◌, sym, ap, ◌∙◌, subst, refl, arith, ltb, eqb}
use Rattle.std.specs.Prelude.{◌&&◌}
use Rattle.std.proofs.lemmas.Bool.{cases_lt, cond-false, le-ltb, and_parts, and_from, ne_eqb}
use Rattle.std.proofs.lemmas.Str.{encode_ascii, chars-encodes, encodes-chars, scalars-chars}
use Rattle.std.specs.Str.{chars}
use lib.Utf8.{encode, encodes, scalar, scalars, next}
use mathlib.Core.Logic.{⊎_elim}
use Rattle.tclv_text.specs.Texts.{IsText}
use Rattle.tclv_shell.specs.ScriptText.{with_newlines, script_text}

-- each is 128 or more
abbrev AreHigh : List ℕ → Type 0
AreHigh [] = Unit {0}
AreHigh (h ∷ hs) = (128 ≤ h) × AreHigh hs

abbrev IsHighBlock : List ℕ → Type 0
IsHighBlock [] = ⊥
IsHighBlock (h ∷ hs) = (128 ≤ h) × AreHigh hs

-- the bytes of a character that is not ASCII
high_encode : (c : ℕ) → 128 ≤ c → IsHighBlock (encode c)
unfolding encode
high_encode c h =
    let x = (192 + c / 64) ∷ next c ∷ [] in
    let y = (224 + c / 4096) ∷ next (c / 64) ∷ next c ∷ [] in
    let z = (240 + c / 262144) ∷ next (c / 4096) ∷ next (c / 64) ∷ next c ∷ [] in
    subst IsHighBlock (sym (cond-false (ltb c 128) (c ∷ []) (cond (ltb c 2048) x (cond (ltb c 65536) y z)) (le-ltb c 128 h)))
    (elim (ltb c 2048) as (λ b. IsHighBlock (cond b x (cond (ltb c 65536) y z))) [
      | true ↦ (omega arith, (omega arith, tt))
      | false ↦ elim (ltb c 65536) as (λ b. IsHighBlock (cond b y z)) [
        | true ↦ (omega arith, (omega arith, (omega arith, tt)))
        | false ↦ (omega arith, (omega arith, (omega arith, (omega arith, tt))))
      ]
    ])

high_step : (b : Bool) (h : ℕ) (rest : List ℕ) → 128 ≤ h → with_newlines b (h ∷ rest) ≡ h ∷ with_newlines false rest
high_step b h rest le =
    let no_return : eqb h 13 ≡ false = ne_eqb h 13 (λ e. absurd (omega arith)) in
    let no_newline : eqb h 10 ≡ false = ne_eqb h 10 (λ e. absurd (omega arith)) in
    rw (no_return, no_newline)

high_run : (hs rest : List ℕ) → AreHigh hs → with_newlines false (hs ++ rest) ≡ hs ++ with_newlines false rest
high_run [] rest are = refl
high_run (h ∷ hs) rest are = high_step false h (hs ++ rest) are.0 ∙ ap (λ xs. h ∷ xs) (high_run hs rest are.1)

high_block : (b : Bool) (hs rest : List ℕ) → IsHighBlock hs → with_newlines b (hs ++ rest) ≡ hs ++ with_newlines false rest
high_block b [] rest are = absurd are
high_block b (h ∷ hs) rest are = high_step b h (hs ++ rest) are.0 ∙ ap (λ xs. h ∷ xs) (high_run hs rest are.1)

chosen : (p q : Bool) (a b c : List ℕ) → encodes (cond p a (cond q b c)) ≡ cond p (encodes a) (cond q (encodes b) (encodes c))
chosen true q a b c = refl
chosen false true a b c = refl
chosen false false a b c = refl

same_chosen : (p q : Bool) (a b c x y z : List ℕ) → a ≡ x → b ≡ y → c ≡ z → cond p a (cond q b c) ≡ cond p x (cond q y z)
same_chosen true q a b c x y z e f g = e
same_chosen false true a b c x y z e f g = f
same_chosen false false a b c x y z e f g = g

newlines_encodes : (b : Bool) (cs : List ℕ) → with_newlines b (encodes cs) ≡ encodes (with_newlines b cs)
newlines_encodes b [] = refl
newlines_encodes b (c ∷ cs) =
    ⊎_elim
    (λ (l : c < 128).
    ap (λ e. with_newlines b (e ++ encodes cs)) (encode_ascii c l)
    ∙ same_chosen (eqb c 13) (eqb c 10 && b) _ _ _ _ _ _
    (ap (λ xs. 10 ∷ xs) (newlines_encodes true cs) ∙ ap (λ e. e ++ encodes (with_newlines true cs)) (sym (encode_ascii 10 (omega arith))))
    (newlines_encodes false cs)
    (ap (λ xs. c ∷ xs) (newlines_encodes false cs) ∙ ap (λ e. e ++ encodes (with_newlines false cs)) (sym (encode_ascii c l)))
    ∙ sym (chosen (eqb c 13) (eqb c 10 && b) _ _ _))
    (λ (g : 128 ≤ c).
    high_block b (encode c) (encodes cs) (high_encode c g)
    ∙ ap (λ xs. encode c ++ xs) (newlines_encodes false cs)
    ∙ ap encodes (sym (high_step b c cs g)))
    (cases_lt c 128)

scalars_chosen : (p q : Bool) (a b c : List ℕ) → scalars a ≡ true → scalars b ≡ true → scalars c ≡ true → scalars (cond p a (cond q b c)) ≡ true
scalars_chosen true q a b c x y z = x
scalars_chosen false true a b c x y z = y
scalars_chosen false false a b c x y z = z

scalars_newlines : (b : Bool) (cs : List ℕ) → scalars cs ≡ true → scalars (with_newlines b cs) ≡ true
scalars_newlines b [] h = refl
scalars_newlines b (c ∷ cs) h =
    let p = and_parts (scalar c) (scalars cs) h in
    scalars_chosen (eqb c 13) (eqb c 10 && b) _ _ _
    (scalars_newlines true cs p.1)
    (scalars_newlines false cs p.1)
    (and_from (scalar c) (scalars (with_newlines false cs)) p.0 (scalars_newlines false cs p.1))

-- what the bytes become
pub record IsScriptText (file bytes : List ℕ) : Type 0 where
  pub text : IsText bytes
  pub points : chars bytes ≡ script_text (chars file)

pub lifted : (file bytes : List ℕ) → bytes ≡ script_text file → IsText file → IsScriptText file bytes
lifted file bytes e t =
    let points = scalars_newlines false (chars file) (scalars-chars file t.utf8) in
    let spelled : encodes (script_text (chars file)) ≡ bytes = sym (newlines_encodes false (chars file)) ∙ ap script_text (encodes-chars file t.utf8) ∙ sym e in
    record {
      text = record { utf8 = (script_text (chars file), (points, spelled)) };
      points = ap chars (sym spelled) ∙ chars-encodes (script_text (chars file)) points;
    }
