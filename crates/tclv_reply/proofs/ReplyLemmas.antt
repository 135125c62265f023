-- Laws of what steps and calls leave of a store.
use Rattle.std.proofs.Common.{◌≡◌, ℕ, ◌+◌, ◌-◌, ◌≤◌, List, [], ◌∷◌, ◌++◌, length, take, drop, get_or, IsTrue, IsSome, Result, Ok, Err, refl, sym, ap, ◌∙◌, subst, arith, append-nil, append_assoc}
use Rattle.std.specs.Prelude.{OnOk, OnErr}
use Rattle.std.specs.Option.{unwrap_or}
use Rattle.std.specs.FinMap.{get}
use Rattle.std.proofs.lemmas.List.{length-append, take-append-le, take_at, drop_at}
use Rattle.std.specs.Str.{chars}
use Rattle.std.proofs.lemmas.Str.{chars-nil, IsUtf8-nil}
use Rattle.tclv_text.specs.Texts.{IsText, AppendsText}
use Rattle.tclv_value.specs.View.{View, HasPlace, KeepsMade, StaysMade, text_at}
use Rattle.tclv_value.specs.declared.places.At.{At}
use Rattle.tclv_value.specs.declared.places.At.TheVariants.{Stack, Cell}
use Rattle.tclv_value.specs.Changes.{KeepsTexts, Pushes}
use Rattle.tclv_value.specs.Stacks.{top, under}
use Rattle.tclv_model.specs.declared.data_commands.CmdFault.{CmdFault}
use Rattle.tclv_model.specs.declared.data_commands.CmdFault.TheVariants as fault
use Rattle.tclv_model.specs.Rows.{Answer, RowAnswer, Gives, Refuses, and_then}
use Rattle.tclv_reply.specs.Replies.{Grows, EndsIn, IsRefusal, Refused, Tells, Reads, Leaves, Settles, Declines, IsRefused, Answers, left_count, left_over}

-- a place stays where texts are pushed
pub places_stay : (old new : View) (more : List (List ℕ)) → new.stack ≡ old.stack ++ more → new.cells ≡ old.cells → (place : At) → HasPlace old place → HasPlace new place
places_stay old new more s c (Stack i) h = omega (arith, ap length s, length-append old.stack more)
places_stay old new more s c (Cell k) h = subst (λ m. IsSome (get m k)) (sym c) h

pub stays_made : (old new : View) (more : List (List ℕ)) → new.stack ≡ old.stack ++ more → new.cells ≡ old.cells → KeepsMade old new → StaysMade old new
stays_made old new more s c keeps place there made = subst IsTrue (sym (keeps place there (places_stay old new more s c place there))) made

pub pushes : {E : Type 0} (r : Result (Unit {0}) E) (old new : View) (t : List ℕ) → OnOk r (new.stack ≡ old.stack ++ t ∷ []) → new.cells ≡ old.cells → KeepsMade old new → OnOk r (Pushes old t new)
pushes (Ok x) old new t s c keeps = record { stack = s; cells = c; stays = stays_made old new (t ∷ []) s c keeps }
pushes (Err e) old new t s c keeps = tt

pub grows_kept : (old new : View) → KeepsTexts old new → Grows old new
grows_kept old new k = record { more = []; stack = k.stack ∙ sym (append-nil old.stack); cells = k.cells; stays = k.stays }

pub grows_pushed : (old new : View) (t : List ℕ) → Pushes old t new → Grows old new
grows_pushed old new t p = record { more = t ∷ []; stack = p.stack; cells = p.cells; stays = p.stays }

pub grows_trans : (a b c : View) → Grows a b → Grows b c → Grows a c
grows_trans a b c g h = record {
  more = g.more ++ h.more;
  stack = h.stack ∙ ap (λ s. s ++ h.more) g.stack ∙ append_assoc a.stack g.more h.more;
  cells = h.cells ∙ g.cells;
  stays = λ place there made. h.stays place (places_stay a b g.more g.stack g.cells place there) (g.stays place there made);
}

-- the same where what is pushed is known by another name
pub pushes_as : {E : Type 0} (r : Result (Unit {0}) E) (old new : View) (u t : List ℕ) → u ≡ t → OnOk r (new.stack ≡ old.stack ++ u ∷ []) → new.cells ≡ old.cells → KeepsMade old new → OnOk r (Pushes old t new)
pushes_as r old new u t e s c keeps = pushes r old new t (subst (λ x. OnOk r (new.stack ≡ old.stack ++ x ∷ [])) e s) c keeps

-- what was appended to nothing
pub appended_to_none : (old new t : List ℕ) → old ≡ [] → AppendsText old new t → chars new ≡ t
appended_to_none old new t e h =
    let empty : IsText old = subst IsText (sym e) (record { utf8 = IsUtf8-nil }) in
    (h empty).1 ∙ ap (λ o. chars o ++ t) e ∙ ap (λ o. o ++ t) chars-nil

-- The answer of a call whose steps left this, when it was put in place of the words.
module _ {A : Type 0} (row : Answer A) (n : ℕ) (old mid new : View) where
  words_kept : (between : List (List ℕ)) → n ≤ length old.stack → mid.stack ≡ old.stack ++ between → take (length old.stack - n) mid.stack ≡ under n old.stack
  words_kept between l e = ap (take (length old.stack - n)) e ∙ take-append-le (length old.stack - n) old.stack between (omega arith)

  top_is : (count : ℕ) (between texts : List (List ℕ)) → length texts ≡ count → mid.stack ≡ old.stack ++ (between ++ texts) → top count mid.stack ≡ texts
  top_is count between texts l e =
      let at : mid.stack ≡ (old.stack ++ between) ++ texts = e ∙ sym (append_assoc old.stack between texts) in
      let len : length mid.stack - count ≡ length (old.stack ++ between) = omega (arith, ap length at, length-append (old.stack ++ between) texts) in
      ap (drop (length mid.stack - count)) at ∙ drop_at (old.stack ++ between) texts (length mid.stack - count) (sym len)

  pub moved_down : (count : ℕ) (between texts : List (List ℕ)) → length texts ≡ count → n ≤ length old.stack → mid.stack ≡ old.stack ++ (between ++ texts) → new.stack ≡ take (length old.stack - n) mid.stack ++ top count mid.stack → new.stack ≡ under n old.stack ++ texts
  moved_down count between texts len l e f =
      f ∙ ap (λ t. t ++ top count mid.stack) (words_kept (between ++ texts) l e) ∙ ap (λ t. under n old.stack ++ t) (top_is count between texts len e)

  declined : (kind : CmdFault) → IsRefusal row kind old.stack mid.stack → n ≤ length old.stack → new.stack ≡ take (length old.stack - n) mid.stack ++ top 2 mid.stack → Declines row kind n old new
  declined kind r l f = record {
    message = r.message;
    code = r.code;
    refused = r.refused;
    stack = moved_down 2 r.top.between (r.message ∷ r.code ∷ []) refl l r.top.is f;
  }

  restored : Grows old mid → Settles n (length old.stack) (Err fault.NoMemory) mid new → KeepsTexts old new
  restored g s =
      let same : new.stack ≡ old.stack = s.stack ∙ ap (take (length old.stack)) g.stack ∙ take_at old.stack g.more (length old.stack) refl in
      let cells : new.cells ≡ old.cells = s.cells ∙ g.cells in record {
        stack = same;
        cells = cells;
        stays = λ place there made.
            subst IsTrue
            (sym (s.stays refl place (places_stay old mid g.more g.stack g.cells place there) (places_stay old new [] (same ∙ sym (append-nil old.stack)) cells place there)))
            (g.stays place there made);
      }

  refused_to : (kind : CmdFault) → n ≤ length old.stack → Grows old mid → Refused row kind old.stack mid.stack → Settles n (length old.stack) (Err kind) mid new → IsRefused row kind n old new × (new.cells ≡ old.cells)
  refused_to fault.NoMemory l g r s = let k = restored g s in (k, k.cells)
  refused_to fault.WrongArgs l g r s = (declined fault.WrongArgs r l s.stack, s.cells ∙ g.cells)
  refused_to fault.Message l g r s = (declined fault.Message r l s.stack, s.cells ∙ g.cells)

  -- a call that is refused
  pub refused_answer : (height : ℕ) (kind : CmdFault) → height ≡ length old.stack → n ≤ height → Grows old mid → Refused row kind old.stack mid.stack → Settles n height (Err kind) mid new → IsRefused row kind n old new × (new.cells ≡ old.cells)
  refused_answer height kind h l g r s = refused_to kind (subst (λ k. n ≤ k) h l) g r (subst (λ k. Settles n k (Err kind) mid new) h s)

module _ (row : RowAnswer) (n : ℕ) (old mid new : View) where
  settled_to : (done : Result (Unit {0}) CmdFault) → n ≤ length old.stack → Leaves row old mid done → Settles n (length old.stack) done mid new → Answers row n old new done
  settled_to (Ok x) l v s = record {
    gives = record { text = v.gives.text; given = v.gives.given; stack = moved_down row n old mid new 1 v.gives.top.between (v.gives.text ∷ []) refl l v.gives.top.is s.stack };
    refuses = tt;
    cells = s.cells ∙ v.grows.cells;
  }
  settled_to (Err fault.NoMemory) l v s = let k = restored row n old mid new v.grows s in record { gives = tt; refuses = k; cells = k.cells }
  settled_to (Err fault.WrongArgs) l v s = record { gives = tt; refuses = declined row n old mid new fault.WrongArgs v.refuses l s.stack; cells = s.cells ∙ v.grows.cells }
  settled_to (Err fault.Message) l v s = record { gives = tt; refuses = declined row n old mid new fault.Message v.refuses l s.stack; cells = s.cells ∙ v.grows.cells }

  pub answered : (height : ℕ) (done result : Result (Unit {0}) CmdFault) → height ≡ length old.stack → n ≤ height → Leaves row old mid done → Settles n height done mid new → result ≡ done → Answers row n old new result
  answered height done result h l v s e =
      subst (λ r. Answers row n old new r) (sym e)
      (settled_to done (subst (λ k. n ≤ k) h l) v (subst (λ k. Settles n k done mid new) h s))

-- the steps left enough texts
pub ends_len : (texts old new : List (List ℕ)) → EndsIn texts old new → length old + length texts ≤ length new
ends_len texts old new e = omega (arith, ap length e.is, length-append old (e.between ++ texts), length-append e.between texts)

pub room : (row : RowAnswer) (height : ℕ) (old mid : View) (done : Result (Unit {0}) CmdFault) → height ≡ length old.stack → Leaves row old mid done → height + left_count done ≤ length mid.stack
room row height old mid (Ok x) h v = omega (arith, ends_len (v.gives.text ∷ []) old.stack mid.stack v.gives.top)
room row height old mid (Err fault.NoMemory) h v = omega (arith, ap length v.grows.stack, length-append old.stack v.grows.more)
room row height old mid (Err fault.WrongArgs) h v = omega (arith, ends_len (v.refuses.message ∷ v.refuses.code ∷ []) old.stack mid.stack v.refuses.top)
room row height old mid (Err fault.Message) h v = omega (arith, ends_len (v.refuses.message ∷ v.refuses.code ∷ []) old.stack mid.stack v.refuses.top)

-- a refusal as the end of a call's steps
pub leaves_refusal : (row : RowAnswer) (old new : View) (kind : CmdFault) → Grows old new → Refused row kind old.stack new.stack → Leaves row old new (Err kind)
leaves_refusal row old new kind g r = record { grows = g; gives = tt; refuses = r }

pub pushed_as : {E : Type 0} (r : Result (Unit {0}) E) (old new : View) (u t : List ℕ) → u ≡ t → OnOk r (Pushes old u new) → OnOk r (Pushes old t new)
pushed_as r old new u t e = subst (λ x. OnOk r (Pushes old x new)) e

-- Steps one behind another. The last one pushes the result.
pub leaves_pushed : (row : RowAnswer) (old mid new : View) (t : List ℕ) (x : Unit {0}) → Grows old mid → Pushes mid t new → row ≡ Gives t → Leaves row old new (Ok x)
leaves_pushed row old mid new t x g p e = record {
  grows = grows_trans old mid new g (grows_pushed mid new t p);
  gives = record { text = t; given = e; top = record { between = g.more; is = p.stack ∙ ap (λ s. s ++ t ∷ []) g.stack ∙ append_assoc old.stack g.more (t ∷ []) } };
  refuses = tt;
}

-- memory ran out
pub leaves_none : (row : RowAnswer) (old new : View) → Grows old new → Leaves row old new (Err fault.NoMemory)
leaves_none row old new g = record { grows = g; gives = tt; refuses = tt }

-- a step before others is refused
pub refused_on : {A B : Type 0} (a : Answer A) (rest : A → Answer B) (kind : CmdFault) (old new : List (List ℕ)) → Refused a kind old new → Refused (and_then a rest) kind old new
refused_on a rest fault.NoMemory old new r = tt
refused_on a rest fault.WrongArgs old new r = record { message = r.message; code = r.code; refused = ap (λ x. and_then x rest) r.refused; top = r.top }
refused_on a rest fault.Message old new r = record { message = r.message; code = r.code; refused = ap (λ x. and_then x rest) r.refused; top = r.top }

-- texts on top, above what steps before pushed
pub ends_on : (texts old mid new more : List (List ℕ)) → mid ≡ old ++ more → EndsIn texts mid new → EndsIn texts old new
ends_on texts old mid new more e h = record {
  between = more ++ h.between;
  is = h.is ∙ ap (λ s. s ++ (h.between ++ texts)) e ∙ append_assoc old more (h.between ++ texts) ∙ ap (λ s. old ++ s) (sym (append_assoc more h.between texts));
}

pub refused_after : {A : Type 0} (a b : Answer A) (kind : CmdFault) (old mid new : View) → Grows old mid → a ≡ b → Refused b kind mid.stack new.stack → Refused a kind old.stack new.stack
refused_after a b fault.NoMemory old mid new g e r = tt
refused_after a b fault.WrongArgs old mid new g e r = record { message = r.message; code = r.code; refused = e ∙ r.refused; top = ends_on _ old.stack mid.stack new.stack g.more g.stack r.top }
refused_after a b fault.Message old mid new g e r = record { message = r.message; code = r.code; refused = e ∙ r.refused; top = ends_on _ old.stack mid.stack new.stack g.more g.stack r.top }

-- the steps after some others
pub leaves_after : (row rest : RowAnswer) (old mid new : View) (r : Result (Unit {0}) CmdFault) → Grows old mid → row ≡ rest → Leaves rest mid new r → Leaves row old new r
leaves_after row rest old mid new (Ok x) g e v = record {
  grows = grows_trans old mid new g v.grows;
  gives = record { text = v.gives.text; given = e ∙ v.gives.given; top = ends_on _ old.stack mid.stack new.stack g.more g.stack v.gives.top };
  refuses = tt;
}
leaves_after row rest old mid new (Err kind) g e v = record { grows = grows_trans old mid new g v.grows; gives = tt; refuses = refused_after row rest kind old mid new g e v.refuses }

-- an answer for equal rows
pub answers_as : (row rest : RowAnswer) (n : ℕ) (old new : View) (r : Result (Unit {0}) CmdFault) → row ≡ rest → Answers rest n old new r → Answers row n old new r
answers_as row rest n old new r e h = subst (λ a. Answers a n old new r) (sym e) h

pub room_refused : {A : Type 0} (row : Answer A) (height : ℕ) (old mid : View) (kind : CmdFault) → height ≡ length old.stack → Grows old mid → Refused row kind old.stack mid.stack → height + left_count (Err kind) ≤ length mid.stack
room_refused row height old mid fault.NoMemory h g r = omega (arith, ap length g.stack, length-append old.stack g.more)
room_refused row height old mid fault.WrongArgs h g r = omega (arith, ends_len (r.message ∷ r.code ∷ []) old.stack mid.stack r.top)
room_refused row height old mid fault.Message h g r = omega (arith, ends_len (r.message ∷ r.code ∷ []) old.stack mid.stack r.top)

-- calls that keep all texts, one behind another, and a text that is pushed after them
pub keeps_trans : (a b c : View) → KeepsTexts a b → KeepsTexts b c → KeepsTexts a c
keeps_trans a b c k l = record {
  stack = l.stack ∙ k.stack;
  cells = l.cells ∙ k.cells;
  stays = λ place there made. l.stays place (places_stay a b [] (k.stack ∙ sym (append-nil a.stack)) k.cells place there) (k.stays place there made);
}

pub keeps_none : (s : View) → KeepsTexts s s
keeps_none s = record { stack = refl; cells = refl; stays = λ place there made. made }

pub grows_step : {E : Type 0} (r : Result (Unit {0}) E) (old mid new : View) (t : List ℕ) → KeepsTexts old mid → OnOk r (Pushes mid t new) → OnErr r (KeepsTexts mid new) → Grows old new
grows_step (Ok x) old mid new t k p e = grows_trans old mid new (grows_kept old mid k) (grows_pushed mid new t p)
grows_step (Err f) old mid new t k p e = grows_trans old mid new (grows_kept old mid k) (grows_kept mid new e)

pub grows_more : {E : Type 0} (r : Result (Unit {0}) E) (old mid new : View) (t : List ℕ) → Grows old mid → OnOk r (Pushes mid t new) → OnErr r (KeepsTexts mid new) → Grows old new
grows_more (Ok x) old mid new t g p e = grows_trans old mid new g (grows_pushed mid new t p)
grows_more (Err f) old mid new t g p e = grows_trans old mid new g (grows_kept mid new e)

-- nothing is done yet
pub grows_none : (s : View) → Grows s s
grows_none s = record { more = []; stack = sym (append-nil s.stack); cells = refl; stays = λ place there made. made }

-- memory ran out after some steps
pub leaves_out_of_memory : (row : RowAnswer) (old new : View) (r : Result (Unit {0}) CmdFault) → r ≡ Err fault.NoMemory → Grows old new → Leaves row old new r
leaves_out_of_memory row old new r e g = subst (λ x. Leaves row old new x) (sym e) (leaves_none row old new g)

-- a refusal that was told
pub told_refused : {A : Type 0} (answer : Answer A) (message code : List ℕ) (kind : CmdFault) (old new : List (List ℕ)) → answer ≡ Refuses fault.Message message code → Tells fault.Message kind (message ∷ code ∷ []) old new → Refused answer kind old new
told_refused answer message code fault.NoMemory old new e t = tt
told_refused answer message code fault.WrongArgs old new e t = let no = t.same in absurd (cc)
told_refused answer message code fault.Message old new e t = record { message = message; code = code; refused = e; top = t.top }

-- what a refused step pushed, taken off where memory ran out
module _ {A : Type 0} (answer : Answer A) (old mid new : View) (g : Grows old mid) (cells : new.cells ≡ mid.cells) (keeps : KeepsMade mid new) where
  still_made : (more : List (List ℕ)) → new.stack ≡ old.stack ++ more → StaysMade old new
  still_made more e place there made =
      subst IsTrue (sym (keeps place (places_stay old mid g.more g.stack g.cells place there) (places_stay old new more e (cells ∙ g.cells) place there))) (g.stays place there made)

  grows_so : (more : List (List ℕ)) → new.stack ≡ old.stack ++ more → Grows old new
  grows_so more e = record { more = more; stack = e; cells = cells ∙ g.cells; stays = still_made more e }

  left_grows : (kind : CmdFault) (height : ℕ) → height ≡ length old.stack → new.stack ≡ left_over kind height mid.stack → Grows old new
  left_grows fault.NoMemory height h e =
      grows_so [] (e ∙ ap (λ k. take k mid.stack) h ∙ ap (take (length old.stack)) g.stack ∙ take_at old.stack g.more (length old.stack) refl ∙ sym (append-nil old.stack))
  left_grows fault.WrongArgs height h e = grows_so g.more (e ∙ g.stack)
  left_grows fault.Message height h e = grows_so g.more (e ∙ g.stack)

  left_refused : (kind : CmdFault) (height : ℕ) → new.stack ≡ left_over kind height mid.stack → Refused answer kind old.stack mid.stack → Refused answer kind old.stack new.stack
  left_refused fault.NoMemory height e r = tt
  left_refused fault.WrongArgs height e r = subst (λ s. IsRefusal answer fault.WrongArgs old.stack s) (sym e) r
  left_refused fault.Message height e r = subst (λ s. IsRefusal answer fault.Message old.stack s) (sym e) r

  pub reads_left : {T : Type 0} (Shows : A → T → Type 0) (kind told : CmdFault) (height : ℕ) → height ≡ length old.stack → told ≡ kind → Refused answer kind old.stack mid.stack → new.stack ≡ left_over kind height mid.stack → Reads answer Shows old new (Err told)
  reads_left Shows kind told height h t r e =
      subst (λ k. Reads answer Shows old new (Err k)) (sym t) (record { grows = left_grows kind height h e; kept = tt; gives = tt; refuses = left_refused kind height e r })

-- where all places have the texts that they had
pub text_kept : (old new : View) → KeepsTexts old new → (place : At) → text_at new place ≡ text_at old place
text_kept old new k (Stack i) = ap (λ s. get_or s i []) k.stack
text_kept old new k (Cell c) = ap (λ m. unwrap_or (get m c) []) k.cells
