-- Laws of options: words of ASCII, and the options from the left.
use Rattle.std.proofs.Common.{◌≡◌, ℕ, Bool, cond, List, refl, ap₂}
use Rattle.std.specs.Prelude.{codes}
use Rattle.std.specs.Str.{chars}
use Rattle.tclv_text.specs.Texts.{IsText}
use Rattle.tclv_lists.specs.Searching.{search_option}
use Rattle.tclv_lists.specs.Sorting.{order_option}
use Rattle.tclv_reply.proofs.Laws.{same_key, ascii_from_test}

branch : {X : Type 0} (a b : Bool) (x y z : X) → a ≡ b → y ≡ z → cond a x y ≡ cond b x z
branch a b x y z e f = ap₂ (λ p q. cond p x q) e f

-- the option that the bytes of a word are
pub search_option_same : (bs : List ℕ) → IsText bs → search_option bs ≡ search_option (chars bs)
search_option_same bs t =
    branch _ _ _ _ _ (same_key bs (codes "-exact") t (ascii_from_test (codes "-exact") refl)) (
    branch _ _ _ _ _ (same_key bs (codes "-glob") t (ascii_from_test (codes "-glob") refl)) (
    branch _ _ _ _ _ (same_key bs (codes "-nocase") t (ascii_from_test (codes "-nocase") refl)) (
    branch _ _ _ _ _ (same_key bs (codes "-not") t (ascii_from_test (codes "-not") refl)) (
    branch _ _ _ _ _ (same_key bs (codes "-all") t (ascii_from_test (codes "-all") refl)) (
    branch _ _ _ _ _ (same_key bs (codes "-inline") t (ascii_from_test (codes "-inline") refl)) refl)))))

pub order_option_same : (bs : List ℕ) → IsText bs → order_option bs ≡ order_option (chars bs)
order_option_same bs t =
    branch _ _ _ _ _ (same_key bs (codes "-ascii") t (ascii_from_test (codes "-ascii") refl)) (
    branch _ _ _ _ _ (same_key bs (codes "-integer") t (ascii_from_test (codes "-integer") refl)) (
    branch _ _ _ _ _ (same_key bs (codes "-nocase") t (ascii_from_test (codes "-nocase") refl)) (
    branch _ _ _ _ _ (same_key bs (codes "-increasing") t (ascii_from_test (codes "-increasing") refl)) (
    branch _ _ _ _ _ (same_key bs (codes "-decreasing") t (ascii_from_test (codes "-decreasing") refl)) (
    branch _ _ _ _ _ (same_key bs (codes "-unique") t (ascii_from_test (codes "-unique") refl)) refl)))))
