-- Laws of words that are pushed again and made a list.
use Rattle.std.proofs.Common.{◌≡◌, ℕ, ◌+◌, ◌-◌, ◌<◌, ◌≤◌, List, [], ◌∷◌, ◌++◌, length, take, drop, Ok, IsSome, refl, sym, ap, ◌∙◌, subst, arith}
use Rattle.std.specs.FinMap.{get}
use Rattle.std.proofs.lemmas.List.{length-append, take-append-le, drop-append-le, take_at, drop_at, take_rest, length-drop}
use Rattle.tclv_text.specs.Quotes.{list_text}
use Rattle.tclv_model.specs.Rows.{RowAnswer, Gives}
use Rattle.tclv_value.specs.View.{View, HasPlace}
use Rattle.tclv_value.specs.declared.places.At.{At}
use Rattle.tclv_value.specs.declared.places.At.TheVariants.{Stack, Cell}
use Rattle.tclv_value.specs.Stacks.{top, under}
use Rattle.tclv_value.specs.Changes.{Gathers, IsUnder}
use Rattle.tclv_reply.specs.Replies.{Grows, Leaves}

-- a part of a stack stays where texts are pushed
pub part_kept : (s cur more : List (List ℕ)) (from to : ℕ) → cur ≡ s ++ more → from ≤ to → to ≤ length s → take (to - from) (drop from cur) ≡ take (to - from) (drop from s)
part_kept s cur more from to e h l =
    ap (λ t. take (to - from) (drop from t)) e ∙ ap (take (to - from)) (drop-append-le from s more (omega arith)) ∙ take-append-le (to - from) (drop from s) more (omega (arith, length-drop from s))

pub words_part : (s : List (List ℕ)) (n height : ℕ) → height ≡ length s → 0 < n → n ≤ length s → take (height - (height - n + 1)) (drop (height - n + 1) s) ≡ top (n - 1) s
words_part s n height e h l =
    let k : length s - n + 1 ≡ length s - (n - 1) = omega arith in
    ap (λ m. take (m - (m - n + 1)) (drop (m - n + 1) s)) e ∙ take_rest s (length s - n + 1) ∙ ap (λ m. drop m s) k

-- texts above a stack are made a list
pub list_pushed : (old mid new : View) (more : List (List ℕ)) (count : ℕ) → Grows old mid → mid.stack ≡ old.stack ++ more → count ≡ length mid.stack - length old.stack → Gathers mid count (list_text (top count mid.stack)) new → Grows old new × (new.stack ≡ old.stack ++ list_text more ∷ [])
list_pushed old mid new more count g e k h =
    let n : length mid.stack - count ≡ length old.stack = omega (arith, ap length e, length-append old.stack more) in
    let above : top count mid.stack ≡ more = ap (λ m. drop m mid.stack) n ∙ ap (drop (length old.stack)) e ∙ drop_at old.stack more (length old.stack) refl in
    let below : under count mid.stack ≡ old.stack = ap (λ m. take m mid.stack) n ∙ ap (take (length old.stack)) e ∙ take_at old.stack more (length old.stack) refl in
    let stack : new.stack ≡ old.stack ++ list_text more ∷ [] = h.stack ∙ ap (λ t. t ++ list_text (top count mid.stack) ∷ []) below ∙ ap (λ t. old.stack ++ list_text t ∷ []) above in
    let len : length mid.stack ≡ length old.stack + length more = omega (arith, ap length e, length-append old.stack more) in
    let is_under : (place : At) → HasPlace old place → IsUnder mid count place = λ place. elim place as (λ p. HasPlace old p → IsUnder mid count p) [
      | Stack i ↦ λ there. omega arith
      | Cell c ↦ λ there. (omega arith, subst (λ m. IsSome (get m c)) (sym g.cells) there)
    ] in
    (record { more = list_text more ∷ []; stack = stack; cells = h.cells ∙ g.cells; stays = λ place there made. h.stays place (is_under place there) (g.stays place there made) }, stack)

-- the list is the answer
pub leaves_list : (row : RowAnswer) (old mid new : View) (more : List (List ℕ)) (count : ℕ) → Grows old mid → mid.stack ≡ old.stack ++ more → count ≡ length mid.stack - length old.stack → Gathers mid count (list_text (top count mid.stack)) new → row ≡ Gives (list_text more) → Leaves row old new (Ok tt)
leaves_list row old mid new more count g e k h r =
    let p = list_pushed old mid new more count g e k h in
    record { grows = p.0; gives = record { text = list_text more; given = r; top = record { between = []; is = p.1 } }; refuses = tt }
