-- Laws of the words of `return`.
use Rattle.std.proofs.Common.{◌≡◌, ℕ, ◌+◌, ◌<◌, ◌≤◌, List, [], ◌∷◌, length, drop, get_or, Ok, refl, ap, ◌∙◌, arith}
use Rattle.std.proofs.lemmas.List.{drop_more, drop_all, length-drop}
use Rattle.tclv_text.specs.Pairs.{Pairs}
use Rattle.tclv_model.specs.Rows.{Answer, Gives, and_then}
use Rattle.tclv_value.specs.View.{View}
use Rattle.tclv_reply.specs.Replies.{Reads}
use Rattle.tclv_reply.proofs.Laws.{Went}
use Rattle.tclv_ctl.specs.Switching.{Text}
use Rattle.tclv_ctl.specs.Returns.{Asks, naming, with_word, with_words, with_pairs, with_option}

-- one pair more
pub pair_next : (ps : Pairs) (k : ℕ) (d : Text × Text) (s : Asks) → k < length ps → with_pairs (drop k ps) s ≡ and_then (with_option (naming (get_or ps k d).0) (get_or ps k d).0 (get_or ps k d).1 s) (with_pairs (drop (k + 1) ps))
pair_next ps k d s h = ap (λ (qs : Pairs). with_pairs qs s) (drop_more ps k d h)

pub pairs_end : (ps : Pairs) (k : ℕ) (s : Asks) → length ps ≤ k → with_pairs (drop k ps) s ≡ Gives s
pairs_end ps k s h = ap (λ (qs : Pairs). with_pairs qs s) (drop_all k ps h)

-- two words more
pub words_next : (ws : List Text) (at : ℕ) (s : Asks) → at + 1 < length ws → with_words (drop at ws) s ≡ and_then (with_word (naming (get_or ws at [])) (get_or ws at []) (get_or ws (at + 1) []) s) (with_words (drop (at + 2) ws))
words_next ws at s h =
    let next : at + 1 + 1 ≡ at + 2 = omega arith in
    ap (λ (us : List Text). with_words us s) (drop_more ws at [] (omega arith) ∙ ap (λ (us : List Text). get_or ws at [] ∷ us) (drop_more ws (at + 1) [] h))
    ∙ ap (λ (i : ℕ). and_then (with_word (naming (get_or ws at [])) (get_or ws at []) (get_or ws (at + 1) []) s) (with_words (drop i ws))) next

few_words : (ws : List Text) (s : Asks) → length ws ≤ 1 → with_words ws s ≡ Gives s
few_words [] s h = refl
few_words (w ∷ []) s h = refl
few_words (w ∷ v ∷ ws) s h = absurd (omega arith)

-- at most one word is left
pub words_end : (ws : List Text) (at : ℕ) (s : Asks) → length ws ≤ at + 1 → with_words (drop at ws) s ≡ Gives s
words_end ws at s h = few_words (drop at ws) s (omega (arith, h, length-drop at ws))

-- the row came down to a value
pub went_gives : {A T : Type 0} {row rest : Answer A} {old mid : View} (Shows : A → T → Type 0) (value : A) (x : T) → Went row rest old mid → rest ≡ Gives value → Shows value x → Reads row Shows old mid (Ok x)
went_gives Shows value x w e h = record { grows = w.grows; kept = w.same; gives = record { read = value; given = w.is ∙ e; shown = h }; refuses = tt }
