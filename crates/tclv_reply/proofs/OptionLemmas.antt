-- Laws of options: words of ASCII, and the options from the left.
use Rattle.std.proofs.Common.{◌≡◌, ℕ, true, false, cond, List, [], ◌∷◌, Some, refl, sym, ap, ◌∙◌}
use Rattle.std.specs.Str.{chars, IsAscii, bytes_eq}
use Rattle.std.proofs.lemmas.Str.{encodes-IsAscii, encodes-chars, chars-IsAscii}
use Rattle.std.proofs.lemmas.Slice.Eq.{bytes_eq-Decides}
use Rattle.std.proofs.lemmas.Bool.Decides.{same_from_decides, Decides-like}
use lib.Utf8.{encodes}
use Rattle.tclv_text.specs.Texts.{IsText}
use Rattle.tclv_model.specs.Rows.{Answer, Gives, Refuses, and_then}
use Rattle.tclv_model.specs.Values.{place_of}
use Rattle.tclv_reply.specs.Options.{Options, options_read}

-- a text is a word of ASCII exactly where its bytes are
pub same_key : (r k : List ℕ) → IsText r → IsAscii k → bytes_eq r k ≡ bytes_eq (chars r) k
same_key r k t a =
    let points : r ≡ k → chars r ≡ k = λ e. ap chars e ∙ chars-IsAscii k a in
    let bytes : chars r ≡ k → r ≡ k = λ e. sym (encodes-chars r t.utf8) ∙ ap encodes e ∙ encodes-IsAscii k a in
    same_from_decides (bytes_eq r k) (bytes_eq (chars r) k) (Decides-like (bytes_eq r k) points bytes (bytes_eq-Decides r k)) (bytes_eq-Decides (chars r) k)

and_then_twice : {A B C : Type 0} (a : Answer A) (f : A → B) (g : B → Answer C) → and_then (and_then a (λ x. Gives (f x))) g ≡ and_then a (λ x. g (f x))
and_then_twice (Gives x) f g = refl
and_then_twice (Refuses kind message code) f g = refl

module _ {S : Type 0} (name : List ℕ) (set : List ℕ → S → Answer S) (missing : Answer (Options S)) where
  -- at the option that has a value
  pub value_first : (o v : List ℕ) (os : List (List ℕ)) (x : Options S) → bytes_eq o name ≡ true →
      options_read name set missing (o ∷ v ∷ os) x ≡ and_then (place_of v 0) (λ _. options_read name set missing os (record { settings = x.settings; index = Some v }))
  value_first o v os x e =
      ap (λ b. cond b (and_then (place_of v 0) (λ _. options_read name set missing os (record { settings = x.settings; index = Some v })))
      (and_then (and_then (set o x.settings) (λ s. Gives (record { settings = s; index = x.index }))) (λ y. options_read name set missing (v ∷ os) y))) e

  pub value_missing : (o : List ℕ) (x : Options S) → bytes_eq o name ≡ true → options_read name set missing (o ∷ []) x ≡ missing
  value_missing o x e = ap (λ b. cond b missing (and_then (set o x.settings) (λ s. Gives (record { settings = s; index = x.index })))) e

  -- at another one
  pub word_first : (o : List ℕ) (os : List (List ℕ)) (x : Options S) → bytes_eq o name ≡ false →
      options_read name set missing (o ∷ os) x ≡ and_then (set o x.settings) (λ s. options_read name set missing os (record { settings = s; index = x.index }))
  word_first o [] x e = ap (λ b. cond b missing (and_then (set o x.settings) (λ s. Gives (record { settings = s; index = x.index })))) e
  word_first o (v ∷ os) x e =
      ap (λ b. cond b (and_then (place_of v 0) (λ _. options_read name set missing os (record { settings = x.settings; index = Some v })))
      (and_then (and_then (set o x.settings) (λ s. Gives (record { settings = s; index = x.index }))) (λ y. options_read name set missing (v ∷ os) y))) e
      ∙ and_then_twice (set o x.settings) (λ s. record { settings = s; index = x.index }) (λ y. options_read name set missing (v ∷ os) y)
