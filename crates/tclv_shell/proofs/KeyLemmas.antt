-- The options at the end of a script file.
use Rattle.std.proofs.Common.{◌≡◌, ℕ, suc, ◌+◌, ◌<◌, true, false, cond, List, ◌∷◌, length, drop, get_or, drop-cons, add-one, sym, ap, ◌∙◌, ℤ}
use Rattle.std.specs.Result.{result_unwrap_or}
use Rattle.tclv_text.specs.Numbers.{whole}
use Rattle.tclv_model.specs.declared.outcomes.Pair.{Pair}
use Rattle.tclv_shell.specs.FileEnds.{option_number}
use Rattle.std.specs.Str.{chars, IsAscii, bytes_eq}
use Rattle.std.proofs.lemmas.Str.{encodes-IsAscii, encodes-chars, chars-IsAscii}
use Rattle.std.proofs.lemmas.Slice.Eq.{bytes_eq-Decides}
use Rattle.std.proofs.lemmas.Bool.Decides.{same_from_decides, Decides-like}
use lib.Utf8.{encodes}
use Rattle.tclv_text.specs.Texts.{IsText}

-- a text is a word of ASCII exactly where its bytes are
pub same_key : (r k : List ℕ) → IsText r → IsAscii k → bytes_eq r k ≡ bytes_eq (chars r) k
same_key r k t a =
    let points : r ≡ k → chars r ≡ k = λ e. ap chars e ∙ chars-IsAscii k a in
    let bytes : chars r ≡ k → r ≡ k = λ e. sym (encodes-chars r t.utf8) ∙ ap encodes e ∙ encodes-IsAscii k a in
    same_from_decides (bytes_eq r k) (bytes_eq (chars r) k) (Decides-like (bytes_eq r k) points bytes (bytes_eq-Decides r k)) (bytes_eq-Decides (chars r) k)

-- the first of the options from i on has this key, or another one
pub number_here : (key : List ℕ) (otherwise : ℤ) (options : List Pair) (i : ℕ) (pair : Pair) → i < length options → pair ≡ get_or options i pair → bytes_eq pair.key key ≡ true → option_number key otherwise (drop i options) ≡ result_unwrap_or (whole pair.value) otherwise
number_here key otherwise options i pair lt is same =
    ap (option_number key otherwise) (drop-cons options i pair lt ∙ ap (λ p. p ∷ drop (suc i) options) (sym is))
    ∙ ap (λ b. cond b (result_unwrap_or (whole pair.value) otherwise) (option_number key otherwise (drop (suc i) options))) same

pub number_later : (key : List ℕ) (otherwise : ℤ) (options : List Pair) (i : ℕ) (pair : Pair) → i < length options → pair ≡ get_or options i pair → bytes_eq pair.key key ≡ false → option_number key otherwise (drop i options) ≡ option_number key otherwise (drop (i + 1) options)
number_later key otherwise options i pair lt is other =
    ap (option_number key otherwise) (drop-cons options i pair lt ∙ ap (λ p. p ∷ drop (suc i) options) (sym is))
    ∙ ap (λ b. cond b (result_unwrap_or (whole pair.value) otherwise) (option_number key otherwise (drop (suc i) options))) other
    ∙ ap (λ n. option_number key otherwise (drop n options)) (sym (add-one i))
