-- Laws of what parameters get of words.
use Rattle.std.proofs.Common.{◌≡◌, ℕ, ◌+◌, ◌-◌, ◌<◌, ◌≤◌, Bool, true, false, List, [], ◌∷◌, ◌++◌, length, take, drop, Option, Some, None, Result, Ok, Err, refl, sym, ap, ◌∙◌, subst, arith, append-nil, append_assoc}
use Rattle.std.specs.Prelude.{IfOk}
use Rattle.std.specs.Option.{option_map}
use Rattle.std.specs.Str.{chars}
use Rattle.std.proofs.lemmas.List.{drop_all, drop-drop, drop-take, take-append-drop, take-append-le, length-take-le}
use Rattle.std.proofs.Math.Seq.{take-add}
use Rattle.tclv_value.specs.Stacks.{top, under}
use Rattle.tclv_value.specs.View.{View}
use Rattle.tclv_model.specs.declared.data_commands.CmdFault.{CmdFault}
use Rattle.tclv_model.specs.declared.data_commands.CmdFault.TheVariants as fault
use Rattle.tclv_model.specs.Rows.{wrong_count}
use Rattle.tclv_reply.specs.Replies.{Grows, Refused, Settles}
use Rattle.tclv_reply.proofs.Laws.{count_words, grows_trans, refused_after, refused_answer}
use Rattle.std.proofs.lemmas.Str.{chars-nil}
use Rattle.tclv_text.specs.Quotes.{list_text}
use Rattle.tclv_value.specs.declared.procedures.Param.{Param}
use Rattle.tclv_ctl.specs.Switching.{Text}
use Rattle.tclv_ctl.specs.Arguments.{bound, with_default, unless_bound, ArePushed, IsReplaced, Replaces}

map_none : (x : Option (List Text)) → x ≡ option_map (λ ts. [] ++ ts) x
map_none None = refl
map_none (Some ts) = refl

map_more : (w : Text) (ws : List Text) (x : Option (List Text)) → option_map (λ ts. w ∷ ts) (option_map (λ ts. ws ++ ts) x) ≡ option_map (λ ts. (w ∷ ws) ++ ts) x
map_more w ws None = refl
map_more w ws (Some ts) = refl

-- the words, and what the parameters behind them get
pub words_bound : (ps : List Param) (rest : Bool) (ws : List Text) → length ws ≤ length ps → bound ps rest ws ≡ option_map (λ ts. ws ++ ts) (bound (drop (length ws) ps) rest [])
words_bound [] rest [] h = map_none (bound [] rest [])
words_bound (p ∷ ps) rest [] h = map_none (bound (p ∷ ps) rest [])
words_bound [] rest (w ∷ ws) h = absurd (omega arith)
words_bound (p ∷ ps) rest (w ∷ ws) h = ap (option_map (λ ts. w ∷ ts)) (words_bound ps rest ws (omega arith)) ∙ map_more w ws (bound (drop (length ws) ps) rest [])

pub too_many : (ps : List Param) (ws : List Text) → length ps < length ws → bound ps false ws ≡ None
too_many [] [] h = absurd (omega arith)
too_many [] (w ∷ ws) h = refl
too_many (p ∷ ps) [] h = absurd (omega arith)
too_many (p ∷ ps) (w ∷ ws) h = ap (option_map (λ ts. w ∷ ts)) (too_many ps ws (omega arith))

-- the words that are left are a list
pub rest_listed : (ps : List Param) (ws : List Text) → length ps ≤ length ws → bound ps true ws ≡ Some (take (length ps) ws ++ list_text (drop (length ps) ws) ∷ [])
rest_listed [] [] h = refl
rest_listed [] (w ∷ ws) h = refl
rest_listed (p ∷ ps) [] h = absurd (omega arith)
rest_listed (p ∷ ps) (w ∷ ws) h = ap (option_map (λ ts. w ∷ ts)) (rest_listed ps ws (omega arith))

-- So many parameters got their defaults, which were pushed.
pub record Defaulted (ps : List Param) (rest : Bool) (k : ℕ) (old new : List Text) : Type 0 where
  pub given : List Text
  pub is : bound ps rest [] ≡ option_map (λ ts. given ++ ts) (bound (drop k ps) rest [])
  pub stack : new ≡ old ++ given

pub none_given : (ps : List Param) (rest : Bool) (s : List Text) → Defaulted ps rest 0 s s
none_given ps rest s = record { given = []; is = map_none (bound ps rest []); stack = sym (append-nil s) }

map_last : (given : List Text) (d : Text) (x : Option (List Text)) → option_map (λ ts. given ++ ts) (with_default (Some d) x) ≡ option_map (λ ts. (given ++ d ∷ []) ++ ts) x
map_last given d None = refl
map_last given d (Some ts) = ap Some (sym (append_assoc given (d ∷ []) ts))

module _ (ps : List Param) (rest : Bool) (k : ℕ) (p : Param) (old mid : List Text) (h : Defaulted ps rest k old mid) (e : drop k ps ≡ p ∷ drop (k + 1) ps) where
  came : bound ps rest [] ≡ option_map (λ ts. h.given ++ ts) (with_default p.default (bound (drop (k + 1) ps) rest []))
  came = h.is ∙ ap (λ (qs : List Param). option_map (λ ts. h.given ++ ts) (bound qs rest [])) e

  pub one_given : (d : Text) (new : List Text) → p.default ≡ Some d → new ≡ mid ++ d ∷ [] → Defaulted ps rest (k + 1) old new
  one_given d new f g = record {
    given = h.given ++ d ∷ [];
    is = came ∙ ap (λ (x : Option Text). option_map (λ ts. h.given ++ ts) (with_default x (bound (drop (k + 1) ps) rest []))) f ∙ map_last h.given d (bound (drop (k + 1) ps) rest []);
    stack = g ∙ ap (λ (s : List Text). s ++ d ∷ []) h.stack ∙ append_assoc old h.given (d ∷ []);
  }

  pub not_given : p.default ≡ None → bound ps rest [] ≡ None
  not_given f = came ∙ ap (λ (x : Option Text). option_map (λ ts. h.given ++ ts) (with_default x (bound (drop (k + 1) ps) rest []))) f

pub missing : (x : Option (List Text)) (old new : List Text) → x ≡ None → ArePushed x false old new
missing x old new e = subst (λ y. ArePushed y false old new) (sym e) refl

pub pushed : (x : Option (List Text)) (texts old new : List Text) → x ≡ Some texts → new ≡ old ++ texts → ArePushed x true old new
pushed x texts old new e f = subst (λ y. ArePushed y true old new) (sym e) (refl, f)

-- with words below
pub on_words : (x y : Option (List Text)) (all : Bool) (ws under old new : List Text) → x ≡ option_map (λ ts. ws ++ ts) y → old ≡ under ++ ws → ArePushed y all old new → ArePushed x all under new
on_words x None all ws under old new e f h = subst (λ z. ArePushed z all under new) (sym e) h
on_words x (Some ts) all ws under old new e f h = subst (λ z. ArePushed z all under new) (sym e) (h.0, h.1 ∙ ap (λ (s : List Text). s ++ ts) f ∙ append_assoc under ws ts)

-- all have their defaults, and the list of the words that are left is pushed
pub end_listed : (ps : List Param) (rest : Bool) (k : ℕ) (old mid new : List Text) → Defaulted ps rest k old mid → length ps ≤ k → rest ≡ true → new ≡ mid ++ chars [] ∷ [] → ArePushed (bound ps rest []) true old new
end_listed ps rest k old mid new h l r e =
    let last : bound ps rest [] ≡ Some (h.given ++ [] ∷ []) =
    h.is ∙ ap (λ (qs : List Param). option_map (λ ts. h.given ++ ts) (bound qs rest [])) (drop_all k ps l) ∙ ap (λ (b : Bool). option_map (λ ts. h.given ++ ts) (bound [] b [])) r in
    pushed (bound ps rest []) (h.given ++ [] ∷ []) old new last (e ∙ ap (λ (t : Text). mid ++ t ∷ []) chars-nil ∙ ap (λ (s : List Text). s ++ [] ∷ []) h.stack ∙ append_assoc old h.given ([] ∷ []))

pub all_on_words : {E : Type 0} (r : Result Bool E) (x y : Option (List Text)) (ws under old new : List Text) → x ≡ option_map (λ ts. ws ++ ts) y → old ≡ under ++ ws → IfOk r (λ all. ArePushed y all old new) → IfOk r (λ all. ArePushed x all under new)
all_on_words (Ok all) x y ws under old new e f h = on_words x y all ws under old new e f h
all_on_words (Err k) x y ws under old new e f h = tt

-- ---- the words on a stack

module _ (s : List Text) (n : ℕ) (within : n ≤ length s) where
  pub split : s ≡ under n s ++ top n s
  split = sym (take-append-drop (length s - n) s)

  pub on_stack : (ps : List Param) (rest : Bool) → n ≤ length ps → bound ps rest (top n s) ≡ option_map (λ ts. top n s ++ ts) (bound (drop n ps) rest [])
  on_stack ps rest h =
      let count : length (top n s) ≡ n = count_words s [] n within in
      words_bound ps rest (top n s) (omega (arith, count)) ∙ ap (λ (k : ℕ). option_map (λ ts. top n s ++ ts) (bound (drop k ps) rest [])) count

  pub none_for : (ps : List Param) (rest : Bool) → rest ≡ false → length ps < n → bound ps rest (top n s) ≡ None
  none_for ps rest r h =
      let count : length (top n s) ≡ n = count_words s [] n within in
      ap (λ (b : Bool). bound ps b (top n s)) r ∙ too_many ps (top n s) (omega (arith, count))

  pub listed : (ps : List Param) (rest : Bool) → rest ≡ true → length ps < n → bound ps rest (top n s) ≡ Some (take (length ps) (top n s) ++ list_text (top (n - length ps) s) ∷ [])
  listed ps rest r h =
      let count : length (top n s) ≡ n = count_words s [] n within in
      let k : length s - n + length ps ≡ length s - (n - length ps) = omega arith in
      ap (λ (b : Bool). bound ps b (top n s)) r ∙ rest_listed ps (top n s) (omega (arith, count))
      ∙ ap (λ (ws : List Text). Some (take (length ps) (top n s) ++ list_text ws ∷ [])) (drop-drop (length ps) (length s - n) s ∙ ap (λ (i : ℕ). drop i s) k)

  pub listed_stack : (k : ℕ) (t : Text) (new : List Text) → k ≤ n → new ≡ under (n - k) s ++ t ∷ [] → new ≡ under n s ++ (take k (top n s) ++ t ∷ [])
  listed_stack k t new h e =
      let i : length s - (n - k) ≡ length s - n + k = omega arith in
      e ∙ ap (λ (x : List Text). x ++ t ∷ []) (ap (λ (j : ℕ). take j s) i ∙ take-add (length s - n) k s) ∙ append_assoc (under n s) (take k (top n s)) (t ∷ [])

-- ---- the call

-- what was pushed stands in place of the words
pub given_texts : (call usage : Text) (x : Option (List Text)) (n : ℕ) (s new : List Text) → ArePushed x true (under n s) new → IsReplaced (unless_bound call usage x) n s new
given_texts call usage (Some ts) n s new h = record { texts = ts; given = refl; stack = h.1 }
given_texts call usage None n s new h = absurd (cc)

-- words are missing or too many
pub none_bound : (call usage : Text) (x : Option (List Text)) (s new : List Text) → ArePushed x false s new → unless_bound call usage x ≡ wrong_count call usage
none_bound call usage (Some ts) s new h = let e = h.0 in absurd (cc)
none_bound call usage None s new h = refl

-- the words of the call before its arguments
pub heads_are : (s mid more : List Text) (n heads height : ℕ) → mid ≡ s ++ more → height ≡ length s → heads + n ≤ length s → take (height - n - (height - n - heads)) (drop (height - n - heads) mid) ≡ top heads (under n s)
heads_are s mid more n heads height e h l =
    let from = height - n - heads in
    let to = height - n in
    let ends : from + (to - from) ≡ to = omega (arith, h) in
    let long : length (take to s) ≡ to = length-take-le to s (omega (arith, h)) in
    let base : to ≡ length s - n = omega (arith, h) in
    let place : from ≡ length (take (length s - n) s) - heads = omega (arith, h, long, ap (λ (k : ℕ). length (take k s)) base) in
    sym (drop-take from (to - from) mid) ∙ ap (λ (k : ℕ). drop from (take k mid)) ends ∙ ap (λ (t : List Text). drop from (take to t)) e
    ∙ ap (drop from) (take-append-le to s more (omega (arith, h))) ∙ ap (λ (k : ℕ). drop from (take k s)) base ∙ ap (λ (k : ℕ). drop k (take (length s - n) s)) place

-- the call is refused
module _ (call usage : Text) (x : Option (List Text)) (n height : ℕ) (old mid end new : View) (kind told : CmdFault) (h : height ≡ length old.stack) (l : n ≤ height) (g : Grows old mid) where
  pub count_refuses : (said : Text) → said ≡ call → ArePushed x false (under n old.stack) mid.stack → Grows mid end → Refused {A = List Text} (wrong_count said usage) kind mid.stack end.stack → told ≡ kind → Settles n height (Err kind) end new → Replaces (unless_bound call usage x) n old new (Err told)
  count_refuses said e p w r t s =
      let row = unless_bound call usage x in
      let is : row ≡ wrong_count said usage = none_bound call usage x (under n old.stack) mid.stack p ∙ ap (λ (u : Text). wrong_count {A = List Text} u usage) (sym e) in
      let q = refused_answer row n old end new height kind h l (grows_trans old mid end g w) (refused_after row (wrong_count said usage) kind old mid end g is r) s in
      subst (λ (k : CmdFault). Replaces row n old new (Err k)) (sym t) (record { gives = tt; refuses = q.0; cells = q.1 })

  pub memory_refuses : told ≡ fault.NoMemory → Settles n height (Err fault.NoMemory) mid new → Replaces (unless_bound call usage x) n old new (Err told)
  memory_refuses t s =
      let row = unless_bound call usage x in
      let q = refused_answer row n old mid new height fault.NoMemory h l g tt s in
      subst (λ (k : CmdFault). Replaces row n old new (Err k)) (sym t) (record { gives = tt; refuses = q.0; cells = q.1 })
