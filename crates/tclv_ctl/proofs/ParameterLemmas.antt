-- Laws of the words of `proc`.
use Rattle.std.proofs.Common.{◌≡◌, ℕ, ◌-◌, ◌≤◌, List, [], ◌∷◌, length, get_or, refl, sym, ap, ◌∙◌, arith}
use Rattle.std.specs.Prelude.{◌≢◌}
use Rattle.tclv_model.specs.declared.usages.Usage.TheVariants.{Proc}
use Rattle.tclv_model.specs.Usages.{usage_of}
use Rattle.tclv_model.specs.Rows.{Answer, Gives, and_then, wrong_count}
use Rattle.tclv_model.specs.Values.{list_of}
use Rattle.tclv_value.specs.Procedures.{Procedure}
use Rattle.tclv_value.specs.Stacks.{top}
use Rattle.tclv_reply.proofs.Laws.{three_words, count_words}
use Rattle.tclv_ctl.specs.Switching.{Text}
use Rattle.tclv_ctl.specs.Parameters.{parameters, procedure, proc_of}

not_three : (call : Text) (ws : List Text) → length ws ≢ 3 → proc_of call ws ≡ wrong_count call (usage_of Proc)
not_three call [] h = refl
not_three call (a ∷ []) h = refl
not_three call (a ∷ b ∷ []) h = refl
not_three call (a ∷ b ∷ c ∷ []) h = absurd (h refl)
not_three call (a ∷ b ∷ c ∷ d ∷ ws) h = refl

pub wrong_words : (call : Text) (s : List Text) (n : ℕ) → n ≢ 3 → n ≤ length s → proc_of call (top n s) ≡ wrong_count call (usage_of Proc)
wrong_words call s n h l = not_three call (top n s) (λ e. h (sym (count_words s [] n l) ∙ e))

pub right_words : (call : Text) (s : List Text) (n h : ℕ) → h ≡ length s → n ≡ 3 → n ≤ h → proc_of call (top n s) ≡ and_then (and_then (list_of (get_or s (h - 2) [])) parameters) (λ ps. Gives (procedure (get_or s (h - 1) []) ps))
right_words call s n h k e l =
    ap (proc_of call) (three_words s [] n e (omega arith))
    ∙ ap (λ (i : ℕ). let a : Answer Procedure = and_then (and_then (list_of (get_or s (i - 2) [])) parameters) (λ ps. Gives (procedure (get_or s (i - 1) []) ps)) in a) (sym k)
