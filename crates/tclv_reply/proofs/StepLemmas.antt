-- Laws of a call's steps: each reads a value that the row reads, and the row comes down to what follows it.
use Rattle.std.proofs.Common.{◌≡◌, ℕ, List, [], ◌∷◌, ◌++◌, Result, Ok, Err, refl, sym, ap, ◌∙◌, append-nil}
use Rattle.tclv_model.specs.declared.data_commands.CmdFault.{CmdFault}
use Rattle.tclv_model.specs.declared.data_commands.CmdFault.TheVariants as fault
use Rattle.tclv_model.specs.Rows.{Answer, RowAnswer, Gives, and_then}
use Rattle.std.specs.Option.{unwrap_or}
use Rattle.std.specs.FinMap.{get}
use Rattle.tclv_value.specs.View.{View, text_at}
use Rattle.tclv_value.specs.declared.places.At.TheVariants.{Cell}
use Rattle.tclv_value.specs.Stacks.{under}
use Rattle.tclv_value.specs.Changes.{KeepsTexts, Pushes}
use Rattle.tclv_reply.specs.Replies.{Grows, Reads, Refused, Leaves, Declines, Answers}
use Rattle.tclv_reply.proofs.ReplyLemmas.{grows_kept, grows_trans, refused_on, refused_after, leaves_pushed, leaves_none, leaves_after, places_stay}

-- The row came down to the rest, and the stack stayed.
pub record Went {A : Type 0} (row rest : Answer A) (old mid : View) : Type 0 where
  pub is : row ≡ rest
  pub grows : Grows old mid
  pub same : mid.stack ≡ old.stack

pub begun : {A : Type 0} (row : Answer A) (s : View) → Went row row s s
begun row s = record { is = refl; grows = record { more = []; stack = sym (append-nil s.stack); cells = refl; stays = λ place there made. made }; same = refl }

-- the value that was read, and what follows it
pub record HasRead {A B T : Type 0} (row : Answer B) (a : Answer A) (f : A → Answer B) (Shows : A → T → Type 0) (x : T) (old new : View) : Type 0 where
  pub value : A
  pub given : a ≡ Gives value
  pub shown : Shows value x
  pub went : Went row (f value) old new

module _ {A B : Type 0} {row : Answer B} (a : Answer A) (f : A → Answer B) {old mid : View} (w : Went row (and_then a f) old mid) where
  pub read_on : {T : Type 0} {Shows : A → T → Type 0} {new : View} {x : T} (b : Answer A) → a ≡ b → Reads b Shows mid new (Ok x) → HasRead row a f Shows x old new
  read_on {new = new} b e r = record {
    value = r.gives.read;
    given = e ∙ r.gives.given;
    shown = r.gives.shown;
    went = record {
      is = w.is ∙ ap (λ y. and_then y f) (e ∙ r.gives.given);
      grows = grows_trans old mid new w.grows r.grows;
      same = r.kept ∙ w.same;
    };
  }

  pub refused_there : {T : Type 0} {Shows : A → T → Type 0} {new : View} {kind : CmdFault} (b : Answer A) → a ≡ b → Reads b Shows mid new (Err kind) → Grows old new × Refused row kind old.stack new.stack
  refused_there {new = new} {kind = kind} b e r = (
    grows_trans old mid new w.grows r.grows,
    refused_after row (and_then b f) kind old mid new w.grows (w.is ∙ ap (λ y. and_then y f) e) (refused_on b f kind mid.stack new.stack r.refuses),
  )

-- the result is pushed
pub leaves_text : {row : RowAnswer} {rest : RowAnswer} {old mid new : View} (t : List ℕ) → Went row rest old mid → rest ≡ Gives t → Pushes mid t new → Leaves row old new (Ok tt)
leaves_text {row = row} {old = old} {mid = mid} {new = new} t w e p = leaves_pushed row old mid new t tt w.grows p (w.is ∙ e)

pub leaves_out : {row : RowAnswer} {rest : RowAnswer} {old mid new : View} → Went row rest old mid → KeepsTexts mid new → Leaves row old new (Err fault.NoMemory)
leaves_out {row = row} {old = old} {mid = mid} {new = new} w k = leaves_none row old new (grows_trans old mid new w.grows (grows_kept mid new k))

-- further steps end the call
pub leaves_on : {row : RowAnswer} {rest : RowAnswer} {old mid new : View} {r : Result (Unit {0}) CmdFault} (then : RowAnswer) → Went row rest old mid → rest ≡ then → Leaves then mid new r → Leaves row old new r
leaves_on {row = row} {old = old} {mid = mid} {new = new} {r = r} then w e l = leaves_after row then old mid new r w.grows (w.is ∙ e) l

-- a call that failed kept all texts
pub kept_on : {A : Type 0} (row : Answer A) (old mid : View) → KeepsTexts old mid → Went row row old mid
kept_on row old mid k = record { is = refl; grows = grows_kept old mid k; same = k.stack }

-- a refusal of the value that the row reads next
pub leaves_refused : {A : Type 0} {row : RowAnswer} (a : Answer A) (f : A → RowAnswer) {old mid new : View} {kind : CmdFault} (b : Answer A) → Went row (and_then a f) old mid → a ≡ b → Grows mid new → Refused b kind mid.stack new.stack → Leaves row old new (Err kind)
leaves_refused {row = row} a f {old = old} {mid = mid} {new = new} {kind = kind} b w e g r = record {
  grows = grows_trans old mid new w.grows g;
  gives = tt;
  refuses = refused_after row (and_then b f) kind old mid new w.grows (w.is ∙ ap (λ y. and_then y f) e) (refused_on b f kind mid.stack new.stack r);
}

pub leaves_there : {A T : Type 0} {row : RowAnswer} (a : Answer A) (f : A → RowAnswer) {Shows : A → T → Type 0} {old mid new : View} {kind : CmdFault} (b : Answer A) → Went row (and_then a f) old mid → a ≡ b → Reads b Shows mid new (Err kind) → Leaves row old new (Err kind)
leaves_there a f b w e r = leaves_refused a f b w e r.grows r.refuses

-- the answer of a call that begins where the row came to
module _ {row rest : RowAnswer} {old mid new : View} (n : ℕ) (then : RowAnswer) (w : Went row rest old mid) (e : rest ≡ then) where
  keeps_on : KeepsTexts mid new → KeepsTexts old new
  keeps_on k = record { stack = k.stack ∙ w.same; cells = k.cells ∙ w.grows.cells; stays = λ place there made. k.stays place (places_stay old mid w.grows.more w.grows.stack w.grows.cells place there) (w.grows.stays place there made) }

  declines_on : (kind : CmdFault) → Declines then kind n mid new → Declines row kind n old new
  declines_on kind d = record { message = d.message; code = d.code; refused = w.is ∙ (e ∙ d.refused); stack = d.stack ∙ ap (λ s. under n s ++ (d.message ∷ d.code ∷ [])) w.same }

  pub answers_on : (r : Result (Unit {0}) CmdFault) → Answers then n mid new r → Answers row n old new r
  answers_on (Ok x) a = record {
    gives = record { text = a.gives.text; given = w.is ∙ (e ∙ a.gives.given); stack = a.gives.stack ∙ ap (λ s. under n s ++ a.gives.text ∷ []) w.same };
    refuses = tt;
    cells = a.cells ∙ w.grows.cells;
  }
  answers_on (Err fault.NoMemory) a = record { gives = tt; refuses = keeps_on a.refuses; cells = a.cells ∙ w.grows.cells }
  answers_on (Err fault.WrongArgs) a = record { gives = tt; refuses = declines_on fault.WrongArgs a.refuses; cells = a.cells ∙ w.grows.cells }
  answers_on (Err fault.Message) a = record { gives = tt; refuses = declines_on fault.Message a.refuses; cells = a.cells ∙ w.grows.cells }

-- the text of a cell where the cells stayed
pub cells_text : (old new : View) (cell : ℕ) → new.cells ≡ old.cells → text_at new (Cell cell) ≡ text_at old (Cell cell)
cells_text old new cell e = ap (λ m. unwrap_or (get m cell) []) e

pub keeps_went : {A : Type 0} {row rest : Answer A} {old mid new : View} → Went row rest old mid → KeepsTexts mid new → KeepsTexts old new
keeps_went {old = old} {mid = mid} w k = record { stack = k.stack ∙ w.same; cells = k.cells ∙ w.grows.cells; stays = λ place there made. k.stays place (places_stay old mid w.grows.more w.grows.stack w.grows.cells place there) (w.grows.stays place there made) }

-- further calls keep all texts
pub went_kept : {A : Type 0} {row rest : Answer A} {old mid new : View} → Went row rest old mid → KeepsTexts mid new → Went row rest old new
went_kept {old = old} {mid = mid} {new = new} w k = record { is = w.is; grows = grows_trans old mid new w.grows (grows_kept mid new k); same = k.stack ∙ w.same }

pub went_as : {A : Type 0} {row rest : Answer A} {old mid : View} (then : Answer A) → Went row rest old mid → rest ≡ then → Went row then old mid
went_as then w e = record { is = w.is ∙ e; grows = w.grows; same = w.same }
