-- Laws of calls that read their words, and of answers that are read one after another.
use Rattle.std.proofs.Common.{◌≡◌, ℕ, ◌-◌, ◌≤◌, List, [], ◌∷◌, ◌++◌, length, take, drop, Result, Ok, Err, refl, sym, ap, ◌∙◌, subst, arith, append_assoc}
use Rattle.std.proofs.lemmas.List.{length-append, drop_at, take_all}
use Rattle.tclv_model.specs.declared.data_commands.CmdFault.{CmdFault}
use Rattle.tclv_model.specs.declared.data_commands.CmdFault.TheVariants as fault
use Rattle.tclv_model.specs.Rows.{Answer, Gives, Refuses, and_then, wrong_count}
use Rattle.tclv_value.specs.View.{View, KeepsMade}
use Rattle.tclv_value.specs.Changes.{KeepsTexts}
use Rattle.tclv_reply.specs.Replies.{Grows, Refused, Reads, Settles}
use Rattle.tclv_reply.proofs.Laws.{refused_answer, refused_after, refused_on, grows_none, grows_trans, count_refused}
use Rattle.tclv_ctl.specs.Steps.{Finds, Understands}

-- what steps pushed is taken off
pub cut_keeps : (old mid new : View) (height : ℕ) → height ≡ length old.stack → Grows old mid → new.stack ≡ take height mid.stack → new.cells ≡ mid.cells → KeepsMade mid new → KeepsTexts old new
cut_keeps old mid new height h g s c k =
    let row : Answer (Unit {0}) = Gives tt in (refused_answer row 0 old mid new height fault.NoMemory h (omega arith) g tt (record { stack = s; cells = c; stays = λ _. k })).0

pub understood : {A T : Type 0} (row : Answer A) (Shows : A → T → Type 0) (n : ℕ) (old mid new : View) (height : ℕ) (value : T) → height ≡ length old.stack → Finds row Shows old mid (Ok value) → new.stack ≡ take height mid.stack → new.cells ≡ mid.cells → KeepsMade mid new → Understands row Shows n old new (Ok value)
understood row Shows n old mid new height value h f s c k =
    let kept = cut_keeps old mid new height h f.grows s c k in record { gives = f.gives; kept = kept; refuses = tt; cells = kept.cells }

pub misunderstood : {A T : Type 0} (row : Answer A) (Shows : A → T → Type 0) (n : ℕ) (old mid new : View) (height : ℕ) (kind told : CmdFault) → height ≡ length old.stack → n ≤ height → told ≡ kind → Finds row Shows old mid (Err kind) → Settles n height (Err kind) mid new → Understands row Shows n old new (Err told)
misunderstood row Shows n old mid new height kind told h l e f s =
    let r = refused_answer row n old mid new height kind h l f.grows f.refuses s in
    subst (λ (k : CmdFault). Understands row Shows n old new (Err k)) (sym e) (record { gives = tt; kept = tt; refuses = r.0; cells = r.1 })

-- one value more, behind those that were read
pub one_more : {P : Type 0} (a : Answer P) (b : Answer (List P)) (done : List P) →
    and_then (and_then a (λ p. and_then b (λ ps. Gives (p ∷ ps)))) (λ ps. Gives (done ++ ps)) ≡ and_then a (λ p. and_then b (λ ps. Gives ((done ++ p ∷ []) ++ ps)))
one_more (Gives p) (Gives ps) done = ap Gives (sym (append_assoc done (p ∷ []) ps))
one_more (Gives p) (Refuses f m c) done = refl
one_more (Refuses f m c) b done = refl

-- a step before others is refused, after some others
pub finds_refused : {A B T : Type 0} (row : Answer B) (Shows : B → T → Type 0) (a : Answer A) (f : A → Answer B) (old mid new : View) (kind : CmdFault) → Grows old mid → row ≡ and_then a f → Grows mid new → Refused a kind mid.stack new.stack → Finds row Shows old new (Err kind)
finds_refused row Shows a f old mid new kind g e h r = record {
  grows = grows_trans old mid new g h;
  gives = tt;
  refuses = refused_after row (and_then a f) kind old mid new g e (refused_on a f kind mid.stack new.stack r);
}

-- a step that reads, after some others
pub finds_after : {A T : Type 0} (row : Answer A) (Shows : A → T → Type 0) (b : Answer A) (old mid new : View) (r : Result T CmdFault) → Grows old mid → row ≡ b → Reads b Shows mid new r → Finds row Shows old new r
finds_after row Shows b old mid new (Ok x) g e f = record { grows = grows_trans old mid new g f.grows; gives = record { read = f.gives.read; given = e ∙ f.gives.given; shown = f.gives.shown }; refuses = tt }
finds_after row Shows b old mid new (Err kind) g e f = record { grows = grows_trans old mid new g f.grows; gives = tt; refuses = refused_after row b kind old mid new g e f.refuses }

-- the number of words is wrong
pub finds_count : {A T : Type 0} (row : Answer A) (Shows : A → T → Type 0) (call usage : List ℕ) (old new : View) (kind : CmdFault) → row ≡ wrong_count call usage → Grows old new → Refused {A = List ℕ} (wrong_count call usage) kind old.stack new.stack → Finds row Shows old new (Err kind)
finds_count {A = A} row Shows call usage old new kind e g r = record {
  grows = g;
  gives = tt;
  refuses = subst (λ (a : Answer A). Refused a kind old.stack new.stack) (sym e) (count_refused A call usage kind old.stack new.stack r);
}

-- memory ran out
pub finds_none : {A T : Type 0} (row : Answer A) (Shows : A → T → Type 0) (old new : View) (r : Result T CmdFault) → r ≡ Err fault.NoMemory → Grows old new → Finds row Shows old new r
finds_none row Shows old new r e g = subst (λ x. Finds row Shows old new x) (sym e) (record { grows = g; gives = tt; refuses = tt })

-- what was pushed
pub pushed_part : {X : Type 0} (s mid es : List X) (from to : ℕ) → mid ≡ s ++ es → from ≡ length s → to ≡ length mid → take (to - from) (drop from mid) ≡ es
pushed_part s mid es from to e f t =
    let long : length es ≤ to - from = omega (arith, ap length e, length-append s es) in
    ap (take (to - from)) (ap (drop from) e ∙ drop_at s es from (sym f)) ∙ take_all (to - from) es long

pub finds_failed : {A B T : Type 0} (row : Answer B) (Shows : B → T → Type 0) (a : Answer A) (f : A → Answer B) (old new : View) (r : Result T CmdFault) (kind : CmdFault) → r ≡ Err kind → row ≡ and_then a f → Grows old new → Refused a kind old.stack new.stack → Finds row Shows old new r
finds_failed row Shows a f old new r kind e g h q = subst (λ x. Finds row Shows old new x) (sym e) (finds_refused row Shows a f old old new kind (grows_none old) g h q)
