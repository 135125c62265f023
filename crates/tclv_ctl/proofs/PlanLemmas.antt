-- Laws of the steps that read the words of `switch`.
use Rattle.std.proofs.Common.{◌≡◌, ℕ, ◌+◌, ◌<◌, ◌≤◌, Bool, true, false, cond, List, [], ◌∷◌, ◌++◌, length, drop, get_or, map, Result, Ok, Err, refl, sym, ap, ◌∙◌, subst, arith}
use Rattle.std.specs.Prelude.{reverse, codes}
use Rattle.std.specs.List.{All}
use Rattle.std.proofs.lemmas.List.{reverse-append}
use Rattle.std.proofs.lemmas.List.Elements.{All-cons}
use Rattle.tclv_model.specs.declared.data_commands.CmdFault.{CmdFault}
use Rattle.tclv_model.specs.declared.data_commands.CmdFault.TheVariants as fault
use Rattle.tclv_model.specs.declared.messages.MessageId.{MessageId}
use Rattle.tclv_model.specs.Message.{text_of}
use Rattle.tclv_model.specs.Rows.{Answer, Gives, says, wrong_count}
use Rattle.tclv_value.specs.View.{View}
use Rattle.tclv_value.specs.Changes.{KeepsTexts}
use Rattle.tclv_reply.specs.Replies.{Grows, Refused, Tells, Settles}
use Rattle.tclv_reply.proofs.Laws.{grows_kept, grows_trans, refused_after, refused_answer, told_refused, count_refused}
use Rattle.tclv_ctl.specs.declared.switching.ClausePlaces.{ClausePlaces}
use Rattle.tclv_ctl.specs.declared.switching.AskedPlaces.{AskedPlaces}
use Rattle.tclv_ctl.specs.Steps.{Steps}
use Rattle.tclv_ctl.specs.Switching.{Text, SwitchClause, Asked, is_dash, next_body, pairs, clause_in, IsInside, manner_of, usage, Choice, IsAskedAt, Plans}
use Rattle.tclv_ctl.proofs.SwitchLemmas.{body_is, pairs_at}

-- ---- steps

-- a message about a word, after texts were made
pub refused_at : {A : Type 0} (answer : Answer A) (id : MessageId) (s t new : View) (at : ℕ) (kind : CmdFault) → KeepsTexts s t → answer ≡ says id (get_or s.stack at []) [] → Tells fault.Message kind (text_of id (get_or t.stack at []) [] ∷ codes "NONE" ∷ []) t.stack new.stack → Refused answer kind s.stack new.stack
refused_at {A = A} answer id s t new at kind kept e told =
    let said : answer ≡ says id (get_or t.stack at []) [] = e ∙ ap (λ (u : List Text). says {A = A} id (get_or u at []) []) (sym kept.stack) in
    refused_after answer answer kind s t new (grows_kept s t kept) refl (told_refused answer (text_of id (get_or t.stack at []) []) (codes "NONE") kind t.stack new.stack said told)

-- the steps after some others
pub steps_after : {A T : Type 0} (a b : Answer A) (Shows : A → T → List Text → Type 0) (old mid new : View) (r : Result T CmdFault) → Grows old mid → a ≡ b → Steps b Shows mid new r → Steps a Shows old new r
steps_after a b Shows old mid new (Ok x) g e s = record { grows = grows_trans old mid new g s.grows; gives = record { read = s.gives.read; given = e ∙ s.gives.given; shown = s.gives.shown; grows = grows_trans old mid new g s.gives.grows }; refuses = tt }
steps_after a b Shows old mid new (Err kind) g e s = record { grows = grows_trans old mid new g s.grows; gives = tt; refuses = refused_after a b kind old mid new g e s.refuses }

pub steps_failed : {A T : Type 0} (a : Answer A) (Shows : A → T → List Text → Type 0) (old new : View) (r : Result T CmdFault) (kind : CmdFault) → r ≡ Err kind → Grows old new → Refused a kind old.stack new.stack → Steps a Shows old new r
steps_failed a Shows old new r kind e g f = subst (Steps a Shows old new) (sym e) (record { grows = g; gives = tt; refuses = f })

-- a call that is refused
pub plans_refused : (row : Answer Choice) (n : ℕ) (old mid new : View) (height : ℕ) (kind told : CmdFault) → height ≡ length old.stack → n ≤ height → told ≡ kind → Grows old mid → Refused row kind old.stack mid.stack → Settles n height (Err kind) mid new → Plans row n old new (Err told)
plans_refused row n old mid new height kind told h l e g f s =
    let r = refused_answer row n old mid new height kind h l g f s in
    subst (λ (k : CmdFault). Plans row n old new (Err k)) (sym e) (record { gives = tt; refuses = r.0; cells = r.1 })

-- the wrong count of words
pub count_fails : (row : Answer Choice) (call : Text) (kind : CmdFault) (old new : List Text) → row ≡ wrong_count call usage → Refused {A = Text} (wrong_count call usage) kind old new → Refused row kind old new
count_fails row call kind old new e f = subst (λ (a : Answer Choice). Refused a kind old new) (sym e) (count_refused Choice call usage kind old new f)

-- options that were read
pub asked_at : (answer : Answer Asked) (s t : View) (asked : AskedPlaces) → KeepsTexts s t → answer ≡ Gives (manner_of asked, drop asked.string s.stack) → asked.string + 2 ≤ length s.stack → Steps answer IsAskedAt s t (Ok asked)
asked_at answer s t asked kept e l = record {
  grows = grows_kept s t kept;
  gives = record {
    read = (manner_of asked, drop asked.string t.stack);
    given = e ∙ ap (λ (u : List Text). Gives (manner_of asked, drop asked.string u)) (sym kept.stack);
    shown = record { within = subst (λ (u : List Text). asked.string + 2 ≤ length u) (sym kept.stack) l; is = refl };
    grows = grows_kept s t kept;
  };
  refuses = tt;
}

-- ---- one clause more, in front of those that were read

pub record OneMore (s : List Text) (p next : ℕ) (places : List ClausePlaces) : Type 0 where
  pub within : next < length s
  pub body : get_or s next [] ≡ next_body (drop p s)
  pub inside : All (IsInside s) (reverse places)
  pub are : pairs (drop p s) ≡ map (clause_in s) (reverse places)

pub next_within : (d : Bool) (body at next n : ℕ) → next ≡ cond d body at → body < n → at < n → next < n
next_within true body at next n e h l = subst (λ (k : ℕ). k < n) (sym e) h
next_within false body at next n e h l = subst (λ (k : ℕ). k < n) (sym e) l

pub one_more : (s : List Text) (p body next count : ℕ) (items new : List ClausePlaces) → new ≡ items ++ record { pattern = p; body = next } ∷ [] → p + 2 ≤ length s → next ≡ cond (is_dash (get_or s (p + 1) [])) body (p + 1) →
    (0 < count → get_or s body [] ≡ next_body (drop (p + 2) s)) → (count ≡ 0 → is_dash (get_or s (p + 1) []) ≡ false) → body < length s →
    All (IsInside s) (reverse items) → pairs (drop (p + 2) s) ≡ map (clause_in s) (reverse items) → OneMore s p next new
one_more s p body next count items new e l n f g h inside are =
    let c : ClausePlaces = record { pattern = p; body = next } in
    let within = next_within (is_dash (get_or s (p + 1) [])) body (p + 1) next (length s) n h (omega arith) in
    let is = body_is (is_dash (get_or s (p + 1) [])) s p body next count refl n f g l in
    let turned : reverse new ≡ c ∷ reverse items = ap reverse e ∙ reverse-append items (c ∷ []) in record {
      within = within;
      body = is;
      inside = subst (All (IsInside s)) (sym turned) (All-cons (IsInside s) c (reverse items) (omega arith, within) inside);
      are =
          pairs_at s p l ∙ ap (λ (b : Text). (get_or s p [], b) ∷ pairs (drop (p + 2) s)) (sym is) ∙ ap (λ (t : List SwitchClause). clause_in s c ∷ t) are
          ∙ sym (ap (map (clause_in s)) turned);
    }
