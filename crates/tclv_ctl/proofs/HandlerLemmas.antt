-- Laws of the words of `try`, and of words that others begin with.
use Rattle.std.proofs.Common.{◌≡◌, ℕ, zero, suc, ◌+◌, ◌*◌, ◌-◌, ◌<◌, ◌≤◌, Bool, true, false, ◌&&◌, List, [], ◌∷◌, length, drop, get_or, refl, sym, ap, ◌∙◌, arith}
use Rattle.std.specs.Str.{bytes_eq}
use Rattle.std.proofs.lemmas.List.{drop_more, drop_all, length-drop}
use Rattle.tclv_ctl.specs.Switching.{Text}
use Rattle.tclv_model.specs.Rows.{Answer, Gives, and_then}
use Rattle.tclv_value.specs.Stacks.{top}
use Rattle.tclv_reply.specs.Replies.{call_word}
use Rattle.tclv_ctl.specs.Handlers.{Handler, begins_with, handler, handlers, ending, clauses_of, handlers_of}

-- one word more is the same
pub begins_more : (ws fs : List Text) (k : ℕ) → k < length ws → k < length fs → bytes_eq (get_or ws k []) (get_or fs k []) ≡ true → begins_with (drop k ws) (drop k fs) ≡ begins_with (drop (k + 1) ws) (drop (k + 1) fs)
begins_more ws fs k h l e =
    ap (λ (xs : List Text). begins_with xs (drop k fs)) (drop_more ws k [] h) ∙ ap (begins_with (get_or ws k [] ∷ drop (k + 1) ws)) (drop_more fs k [] l)
    ∙ ap (λ (b : Bool). b && begins_with (drop (k + 1) ws) (drop (k + 1) fs)) e

pub begins_other : (ws fs : List Text) (k : ℕ) → k < length ws → k < length fs → bytes_eq (get_or ws k []) (get_or fs k []) ≡ false → begins_with (drop k ws) (drop k fs) ≡ false
begins_other ws fs k h l e =
    ap (λ (xs : List Text). begins_with xs (drop k fs)) (drop_more ws k [] h) ∙ ap (begins_with (get_or ws k [] ∷ drop (k + 1) ws)) (drop_more fs k [] l)
    ∙ ap (λ (b : Bool). b && begins_with (drop (k + 1) ws) (drop (k + 1) fs)) e

pub begins_short : (ws fs : List Text) (k : ℕ) → length ws ≤ k → k < length fs → begins_with (drop k ws) (drop k fs) ≡ false
begins_short ws fs k h l = ap (λ (xs : List Text). begins_with xs (drop k fs)) (drop_all k ws h) ∙ ap (begins_with []) (drop_more fs k [] l)

begins_none : (ws : List Text) → begins_with ws [] ≡ true
begins_none [] = refl
begins_none (w ∷ ws) = refl

pub begins_all : (ws fs : List Text) (k : ℕ) → length fs ≤ k → begins_with (drop k ws) (drop k fs) ≡ true
begins_all ws fs k h = ap (begins_with (drop k ws)) (drop_all k fs h) ∙ begins_none (drop k ws)

-- ---- handlers of words

one_word : (ws : List Text) (i j : ℕ) → i + 1 ≡ j → i < length ws → drop i ws ≡ get_or ws i [] ∷ drop j ws
one_word ws i j e h = drop_more ws i [] h ∙ ap (λ (k : ℕ). get_or ws i [] ∷ drop k ws) e

four_words : (ws : List Text) (end : ℕ) → 4 ≤ end → end ≤ length ws → drop (end - 4) ws ≡ get_or ws (end - 4) [] ∷ get_or ws (end - 3) [] ∷ get_or ws (end - 2) [] ∷ get_or ws (end - 1) [] ∷ drop end ws
four_words ws end h l =
    one_word ws (end - 4) (end - 3) (omega (arith, h)) (omega (arith, h, l))
    ∙ ap (λ (t : List Text). get_or ws (end - 4) [] ∷ t)
    (one_word ws (end - 3) (end - 2) (omega (arith, h)) (omega (arith, h, l))
    ∙ ap (λ (t : List Text). get_or ws (end - 3) [] ∷ t)
    (one_word ws (end - 2) (end - 1) (omega (arith, h)) (omega (arith, h, l)) ∙ ap (λ (t : List Text). get_or ws (end - 2) [] ∷ t) (one_word ws (end - 1) end (omega (arith, h)) (omega (arith, h, l)))))

-- what the four words before a place say
abbrev pub before : Text → List Text → ℕ → Answer Handler
before call ws end = handler call (get_or ws (end - 4) []) (get_or ws (end - 3) []) (get_or ws (end - 2) []) (get_or ws (end - 1) [])

-- one handler more
pub handlers_next : (call : Text) (ws : List Text) (at end : ℕ) → at + 4 ≡ end → end ≤ length ws → handlers call (drop at ws) ≡ and_then (before call ws end) (λ h. and_then (handlers call (drop end ws)) (λ hs. Gives (h ∷ hs)))
handlers_next call ws at end e l =
    let place : at ≡ end - 4 = omega (arith, e) in
    ap (λ (k : ℕ). handlers call (drop k ws)) place ∙ ap (handlers call) (four_words ws end (omega (arith, e)) l)

few_handlers : (call : Text) (ws : List Text) → length ws ≤ 3 → handlers call ws ≡ Gives []
few_handlers call [] h = refl
few_handlers call (a ∷ []) h = refl
few_handlers call (a ∷ b ∷ []) h = refl
few_handlers call (a ∷ b ∷ c ∷ []) h = refl
few_handlers call (a ∷ b ∷ c ∷ d ∷ ws) h = absurd (omega arith)

pub handlers_end : (call : Text) (ws : List Text) (at : ℕ) → length ws ≤ at + 3 → handlers call (drop at ws) ≡ Gives []
handlers_end call ws at h = few_handlers call (drop at ws) (omega (arith, h, length-drop at ws))

-- what stands behind handlers of four words each
pub ending_behind : (call : Text) (ws : List Text) (k : ℕ) → 4 * k ≤ length ws → ending call ws ≡ ending call (drop (4 * k) ws)
ending_behind call ws zero h = refl
ending_behind call [] (suc k) h = absurd (omega arith)
ending_behind call (a ∷ []) (suc k) h = absurd (omega arith)
ending_behind call (a ∷ b ∷ []) (suc k) h = absurd (omega arith)
ending_behind call (a ∷ b ∷ c ∷ []) (suc k) h = absurd (omega arith)
ending_behind call (a ∷ b ∷ c ∷ d ∷ ws) (suc k) h =
    let n : 4 * suc k ≡ suc (suc (suc (suc (4 * k)))) = omega arith in
    ending_behind call ws k (omega (arith, h)) ∙ sym (ap (λ (i : ℕ). ending call (drop i (a ∷ b ∷ c ∷ d ∷ ws))) n)

-- the words behind the body
pub some_words : (s : List Text) (n h : ℕ) → h ≡ length s → 0 < n → n + 1 ≤ length s → handlers_of (call_word n s) (top n s) ≡ clauses_of (get_or s (h - n - 1) []) (drop (h - n + 1) s)
some_words s n h e p l =
    let at = length s - n in
    ap (handlers_of (call_word n s)) (drop_more s at [] (omega (arith, p, l))) ∙ sym (ap (λ (i : ℕ). clauses_of (get_or s (i - n - 1) []) (drop (i - n + 1) s)) e)
