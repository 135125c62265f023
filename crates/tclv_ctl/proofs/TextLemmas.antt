-- Laws of ASCII texts.
use Rattle.std.proofs.Common.{◌≡◌, ℕ, List, refl, sym, ap, ◌∙◌}
use Rattle.std.specs.Prelude.{codes}
use Rattle.std.specs.Str.{chars, bytes_eq}
use Rattle.std.proofs.lemmas.Bool.Decides.{same_from_decides, Decides-like}
use Rattle.std.proofs.lemmas.Slice.Eq.{bytes_eq-Decides}
use Rattle.std.proofs.lemmas.Str.{encodes-chars}
use lib.Utf8.{encodes, encode}
use Rattle.tclv_text.specs.Texts.{IsText}

-- A text is an ASCII word exactly where its bytes are.
pub same_word : (bs word : List ℕ) → IsText bs → encodes word ≡ word → chars word ≡ word → bytes_eq bs word ≡ bytes_eq (chars bs) word
same_word bs word u e h =
    same_from_decides _ _ (bytes_eq-Decides bs word)
    (Decides-like (bytes_eq (chars bs) word) (λ p. sym (encodes-chars bs u.utf8) ∙ ap encodes p ∙ e) (λ q. ap chars q ∙ h) (bytes_eq-Decides (chars bs) word))

pub is_exact : (bs : List ℕ) → IsText bs → bytes_eq bs (codes "-exact") ≡ bytes_eq (chars bs) (codes "-exact")
unfolding chars encode
is_exact bs u = same_word bs (codes "-exact") u refl refl

pub is_glob : (bs : List ℕ) → IsText bs → bytes_eq bs (codes "-glob") ≡ bytes_eq (chars bs) (codes "-glob")
unfolding chars encode
is_glob bs u = same_word bs (codes "-glob") u refl refl

pub is_nocase : (bs : List ℕ) → IsText bs → bytes_eq bs (codes "-nocase") ≡ bytes_eq (chars bs) (codes "-nocase")
unfolding chars encode
is_nocase bs u = same_word bs (codes "-nocase") u refl refl

pub is_end : (bs : List ℕ) → IsText bs → bytes_eq bs (codes "--") ≡ bytes_eq (chars bs) (codes "--")
unfolding chars encode
is_end bs u = same_word bs (codes "--") u refl refl

pub is_lone_dash : (bs : List ℕ) → IsText bs → bytes_eq bs (codes "-") ≡ bytes_eq (chars bs) (codes "-")
unfolding chars encode
is_lone_dash bs u = same_word bs (codes "-") u refl refl

pub pattern_points : chars (codes "-*") ≡ codes "-*"
unfolding chars
pattern_points = refl

pub is_default_word : (bs : List ℕ) → IsText bs → bytes_eq bs (codes "default") ≡ bytes_eq (chars bs) (codes "default")
unfolding chars encode
is_default_word bs u = same_word bs (codes "default") u refl refl
