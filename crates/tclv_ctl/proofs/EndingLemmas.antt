-- Laws of what stands behind the handlers of `try`.
use Rattle.std.proofs.Common.{◌≡◌, ◌≢◌, ℕ, ◌+◌, ◌*◌, ◌-◌, ◌≤◌, Bool, cond, List, [], ◌∷◌, length, drop, get_or, Option, Some, None, Result, Err, refl, sym, ap, ◌∙◌, subst, arith}
use Rattle.std.specs.Prelude.{codes}
use Rattle.std.specs.Str.{bytes_eq}
use Rattle.std.proofs.lemmas.List.{drop_more, drop_all, drop-drop, length-drop}
use Rattle.tclv_model.specs.declared.usages.Usage.TheVariants.{Try}
use Rattle.tclv_model.specs.Usages.{usage_of}
use Rattle.tclv_model.specs.Rows.{Answer, Gives, Refuses, and_then, wrong_count}
use Rattle.tclv_model.specs.declared.data_commands.CmdFault.{CmdFault}
use Rattle.tclv_model.specs.declared.data_commands.CmdFault.TheVariants as fault
use Rattle.tclv_value.specs.View.{View}
use Rattle.tclv_value.specs.Stacks.{top}
use Rattle.tclv_reply.specs.Replies.{Grows, Reads, call_word}
use Rattle.tclv_ctl.specs.Switching.{Text}
use Rattle.tclv_ctl.specs.Handlers.{Handlers, ending, handlers_of}
use Rattle.tclv_ctl.proofs.HandlerLemmas.{ending_behind}

-- an answer that is given on as it is
pub same_answer : {A : Type 0} (a : Answer A) → a ≡ and_then a (λ x. Gives x)
same_answer (Gives x) = refl
same_answer (Refuses f m c) = refl

-- what is left of the words when the handlers were taken, four words each
pub ending_left : (call : Text) (s : List Text) (from left k : ℕ) → from ≤ length s → length s - from ≡ 4 * k + left → ending call (drop from s) ≡ ending call (drop (length s - left) s)
ending_left call s from left k h e =
    let there : from + 4 * k ≡ length s - left = omega (arith, h, e) in
    ending_behind call (drop from s) k (omega (arith, e, length-drop from s)) ∙ ap (ending call) (drop-drop (4 * k) from s ∙ ap (λ (i : ℕ). drop i s) there)

pub no_ending : (call : Text) (s : List Text) (left : ℕ) → left ≡ 0 → ending call (drop (length s - left) s) ≡ Gives None
no_ending call s left e = ap (ending call) (drop_all (length s - left) s (omega (arith, e)))

last_two : (s : List Text) (left : ℕ) → left ≡ 2 → 2 ≤ length s → drop (length s - left) s ≡ get_or s (length s - 2) [] ∷ get_or s (length s - 1) [] ∷ []
last_two s left e h =
    let at = length s - 2 in
    let first : length s - left ≡ at = omega (arith, e) in
    let second : at + 1 ≡ length s - 1 = omega (arith, h) in
    ap (λ (i : ℕ). drop i s) first ∙ drop_more s at [] (omega (arith, h)) ∙ ap (λ (i : ℕ). get_or s at [] ∷ drop i s) second
    ∙ ap (λ (t : List Text). get_or s at [] ∷ t) (drop_more s (length s - 1) [] (omega (arith, h)) ∙ ap (λ (t : List Text). get_or s (length s - 1) [] ∷ t) (drop_all (length s - 1 + 1) s (omega arith)))

-- two words are left
pub two_left : (call : Text) (s : List Text) (left : ℕ) (is : Bool) → left ≡ 2 → 2 ≤ length s → bytes_eq (get_or s (length s - 2) []) (codes "finally") ≡ is → ending call (drop (length s - left) s) ≡ cond is (Gives (Some (get_or s (length s - 1) []))) (wrong_count call (usage_of Try))
two_left call s left is e h f = ap (ending call) (last_two s left e h) ∙ ap (λ (b : Bool). cond b (Gives (Some (get_or s (length s - 1) []))) (wrong_count {A = Option Text} call (usage_of Try))) f

odd_ending : (call : Text) (ws : List Text) → length ws ≤ 3 → length ws ≢ 0 → length ws ≢ 2 → ending call ws ≡ wrong_count call (usage_of Try)
odd_ending call [] h f g = absurd (f refl)
odd_ending call (a ∷ []) h f g = refl
odd_ending call (a ∷ b ∷ []) h f g = absurd (g refl)
odd_ending call (a ∷ b ∷ c ∷ []) h f g = refl
odd_ending call (a ∷ b ∷ c ∷ d ∷ ws) h f g = absurd (omega arith)

-- one word or three are left
pub odd_left : (call : Text) (s : List Text) (left : ℕ) → left ≤ length s → left ≤ 3 → left ≢ 0 → left ≢ 2 → ending call (drop (length s - left) s) ≡ wrong_count call (usage_of Try)
odd_left call s left l h f g =
    let long : length (drop (length s - left) s) ≡ left = omega (arith, l, length-drop (length s - left) s) in
    odd_ending call (drop (length s - left) s) (omega (arith, h, long)) (λ z. f (sym long ∙ z)) (λ z. g (sym long ∙ z))

-- no word stands behind that of the call
pub no_words : (s : List Text) (n h : ℕ) → h ≡ length s → n ≡ 0 → handlers_of (call_word n s) (top n s) ≡ wrong_count (get_or s (h - 1) []) (usage_of Try)
no_words s n h e z =
    let at : length s - n - 1 ≡ h - 1 = omega (arith, e, z) in
    ap (handlers_of (call_word n s)) (drop_all (length s - n) s (omega (arith, z))) ∙ ap (λ (i : ℕ). wrong_count {A = Handlers} (get_or s i []) (usage_of Try)) at

-- memory ran out
pub reads_none : {A T : Type 0} (a : Answer A) (Shows : A → T → Type 0) (old new : View) (r : Result T CmdFault) → r ≡ Err fault.NoMemory → Grows old new → Reads a Shows old new r
reads_none a Shows old new r e g = subst (λ x. Reads a Shows old new x) (sym e) (record { grows = g; kept = tt; gives = tt; refuses = tt })
