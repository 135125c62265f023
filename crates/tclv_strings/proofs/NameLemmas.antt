-- Which subcommand a word names: its bytes and its characters say the same.
use Rattle.std.proofs.Common.{◌≡◌, ℕ, Bool, cond, List, refl, ap₂}
use Rattle.std.specs.Prelude.{codes}
use Rattle.std.specs.Str.{chars}
use Rattle.tclv_text.specs.Texts.{IsText}
use Rattle.tclv_strings.specs.Subcommands.{string_command}
use Rattle.tclv_reply.proofs.Laws.{same_key, ascii_from_test}

branch : {X : Type 0} (a b : Bool) (x y z : X) → a ≡ b → y ≡ z → cond a x y ≡ cond b x z
branch a b x y z e f = ap₂ (λ p q. cond p x q) e f

pub string_command_same : (bs : List ℕ) → IsText bs → string_command bs ≡ string_command (chars bs)
string_command_same bs t =
    branch _ _ _ _ _ (same_key bs (codes "cat") t (ascii_from_test (codes "cat") refl)) (
    branch _ _ _ _ _ (same_key bs (codes "compare") t (ascii_from_test (codes "compare") refl)) (
    branch _ _ _ _ _ (same_key bs (codes "equal") t (ascii_from_test (codes "equal") refl)) (
    branch _ _ _ _ _ (same_key bs (codes "first") t (ascii_from_test (codes "first") refl)) (
    branch _ _ _ _ _ (same_key bs (codes "index") t (ascii_from_test (codes "index") refl)) (
    branch _ _ _ _ _ (same_key bs (codes "insert") t (ascii_from_test (codes "insert") refl)) (
    branch _ _ _ _ _ (same_key bs (codes "is") t (ascii_from_test (codes "is") refl)) (
    branch _ _ _ _ _ (same_key bs (codes "last") t (ascii_from_test (codes "last") refl)) (
    branch _ _ _ _ _ (same_key bs (codes "length") t (ascii_from_test (codes "length") refl)) (
    branch _ _ _ _ _ (same_key bs (codes "map") t (ascii_from_test (codes "map") refl)) (
    branch _ _ _ _ _ (same_key bs (codes "match") t (ascii_from_test (codes "match") refl)) (
    branch _ _ _ _ _ (same_key bs (codes "range") t (ascii_from_test (codes "range") refl)) (
    branch _ _ _ _ _ (same_key bs (codes "repeat") t (ascii_from_test (codes "repeat") refl)) (
    branch _ _ _ _ _ (same_key bs (codes "replace") t (ascii_from_test (codes "replace") refl)) (
    branch _ _ _ _ _ (same_key bs (codes "reverse") t (ascii_from_test (codes "reverse") refl)) (
    branch _ _ _ _ _ (same_key bs (codes "tolower") t (ascii_from_test (codes "tolower") refl)) (
    branch _ _ _ _ _ (same_key bs (codes "toupper") t (ascii_from_test (codes "toupper") refl)) (
    branch _ _ _ _ _ (same_key bs (codes "trim") t (ascii_from_test (codes "trim") refl)) (
    branch _ _ _ _ _ (same_key bs (codes "trimleft") t (ascii_from_test (codes "trimleft") refl)) (
    branch _ _ _ _ _ (same_key bs (codes "trimright") t (ascii_from_test (codes "trimright") refl)) refl)))))))))))))))))))
