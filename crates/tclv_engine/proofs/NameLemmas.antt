-- Texts and their bytes.
use Rattle.std.proofs.Common.{◌≡◌, ℕ, List, sym, ap, ◌∙◌}
use Rattle.std.proofs.lemmas.Str.{encodes-chars}
use Rattle.std.specs.Str.{chars, bytes_eq}
use Rattle.std.proofs.lemmas.Bool.Decides.{same_from_decides, Decides-like}
use Rattle.std.proofs.lemmas.Slice.Eq.{bytes_eq-Decides}
use Rattle.tclv_text.specs.Texts.{IsText}
use Rattle.tclv_engine.specs.Names.{bytes_of}

-- the bytes of a text
pub bytes-are : (bs t : List ℕ) → IsText bs → chars bs ≡ t → bs ≡ bytes_of t
bytes-are bs t u e = sym (encodes-chars bs u.utf8) ∙ ap bytes_of e

-- two texts are the same exactly where their bytes are
pub same-texts : (xs ys : List ℕ) → IsText xs → IsText ys → bytes_eq xs ys ≡ bytes_eq (chars xs) (chars ys)
same-texts xs ys u v =
    same_from_decides _ _ (bytes_eq-Decides xs ys)
    (Decides-like (bytes_eq (chars xs) (chars ys)) (λ p. sym (encodes-chars xs u.utf8) ∙ ap bytes_of p ∙ encodes-chars ys v.utf8) (λ q. ap chars q) (bytes_eq-Decides (chars xs) (chars ys)))
