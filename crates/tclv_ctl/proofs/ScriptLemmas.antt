-- Laws of the scripts of handlers, from the last one up.
use Rattle.std.proofs.Common.{◌≡◌, ℕ, zero, suc, ◌+◌, ◌-◌, ◌<◌, Bool, true, false, cond, List, [], ◌∷◌, ◌++◌, length, drop, get_or, map, refl, sym, ap, ◌∙◌, subst, arith}
use Rattle.std.specs.Prelude.{reverse, slice_get}
use Rattle.std.specs.List.{All}
use Rattle.std.proofs.lemmas.List.{reverse-append, drop_more, length-map}
use Rattle.std.proofs.lemmas.List.Elements.{All-cons, All-get_or}
use Rattle.tclv_model.specs.declared.outcomes.Code.TheVariants as code
use Rattle.tclv_ctl.specs.declared.handlers.Condition.TheVariants as place
use Rattle.tclv_ctl.specs.declared.handlers.HandlerPlaces.{HandlerPlaces}
use Rattle.tclv_ctl.specs.Switching.{Text, is_dash}
use Rattle.tclv_ctl.specs.Handlers.{Handler, next_script, with_script, with_scripts, is_dash_handler, ends_in_dash, handler_in, IsHandlerInside}
use Rattle.tclv_ctl.proofs.PlanLemmas.{next_within}

-- what stands for a handler that isn't there
abbrev pub no_handler : HandlerPlaces
no_handler = record { condition = place.On code.Ok; names = 0; body = 0 }

dash_of : (s : List Text) (rs : List HandlerPlaces) (k : ℕ) (e : HandlerPlaces) → k < length rs → is_dash_handler (slice_get (map (handler_in s) rs) k) ≡ is_dash (get_or s (get_or rs k e).body [])
dash_of s [] k e h = absurd (omega arith)
dash_of s (r ∷ rs) zero e h = refl
dash_of s (r ∷ rs) (suc k) e h = dash_of s rs k e (omega arith)

-- the script of the last handler
pub last_dash : (s : List Text) (rs : List HandlerPlaces) (p : ℕ) (e : HandlerPlaces) → p ≡ length rs - 1 → p < length rs → ends_in_dash (map (handler_in s) rs) ≡ is_dash (get_or s (get_or rs p e).body [])
last_dash s rs p e i h =
    let at : length (map (handler_in s) rs) - 1 ≡ p = omega (arith, i, length-map rs (handler_in s)) in
    ap (λ (k : ℕ). is_dash_handler (slice_get (map (handler_in s) rs) k)) at ∙ dash_of s rs p e h

script_by : (d : Bool) (s : List Text) (body at next count : ℕ) (found : Text) → next ≡ cond d body at → (0 < count → get_or s body [] ≡ found) → (count ≡ 0 → d ≡ false) → get_or s next [] ≡ cond d found (get_or s at [])
script_by false s body at next count found f g h = ap (λ (i : ℕ). get_or s i []) f
script_by true s body at next zero found f g h = absurd (let no : true ≡ false = h refl in cc)
script_by true s body at next (suc count) found f g h = ap (λ (i : ℕ). get_or s i []) f ∙ g (omega arith)

-- The handlers from a place on have their scripts, of which the first is at this place of the stack.
pub record HaveScripts (s : List Text) (rs : List HandlerPlaces) (p next : ℕ) (found : List HandlerPlaces) : Type 0 where
  pub within : next < length s
  pub body : get_or s next [] ≡ next_script (map (handler_in s) (drop p rs))
  pub inside : All (IsHandlerInside s) (reverse found)
  pub are : with_scripts (map (handler_in s) (drop p rs)) ≡ map (handler_in s) (reverse found)

-- one handler more, in front of those that have theirs
pub one_script : (s : List Text) (rs : List HandlerPlaces) (p body next count : ℕ) (items new : List HandlerPlaces) (e : HandlerPlaces) → p < length rs → All (IsHandlerInside s) rs →
    let r = get_or rs p e in
    new ≡ items ++ record { condition = r.condition; names = r.names; body = next } ∷ [] → next ≡ cond (is_dash (get_or s r.body [])) body r.body →
    (0 < count → get_or s body [] ≡ next_script (map (handler_in s) (drop (p + 1) rs))) → (count ≡ 0 → is_dash (get_or s r.body []) ≡ false) → body < length s →
    All (IsHandlerInside s) (reverse items) → with_scripts (map (handler_in s) (drop (p + 1) rs)) ≡ map (handler_in s) (reverse items) → HaveScripts s rs p next new
one_script s rs p body next count items new e l all f n g h b inside are =
    let r = get_or rs p e in
    let c : HandlerPlaces = record { condition = r.condition; names = r.names; body = next } in
    let rest = map (handler_in s) (drop (p + 1) rs) in
    let split : map (handler_in s) (drop p rs) ≡ handler_in s r ∷ rest = ap (map (handler_in s)) (drop_more rs p e l) in
    let here : IsHandlerInside s r = All-get_or (IsHandlerInside s) rs p e l all in
    let within = next_within (is_dash (get_or s r.body [])) body r.body next (length s) n b here.body in
    let own : get_or s next [] ≡ next_script (handler_in s r ∷ rest) = script_by (is_dash (get_or s r.body [])) s body r.body next count (next_script rest) n g h in
    let turned : reverse new ≡ c ∷ reverse items = ap reverse f ∙ reverse-append items (c ∷ []) in
    let mine : IsHandlerInside s c = record { condition = here.condition; names = here.names; body = within } in record {
      within = within;
      body = own ∙ sym (ap next_script split);
      inside = subst (All (IsHandlerInside s)) (sym turned) (All-cons (IsHandlerInside s) c (reverse items) mine inside);
      are =
          ap with_scripts split ∙ ap (λ (t : Text). with_script t (handler_in s r) ∷ with_scripts rest) (sym own) ∙ ap (λ (t : List Handler). handler_in s c ∷ t) are
          ∙ sym (ap (map (handler_in s)) turned);
    }
