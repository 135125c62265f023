-- Laws of steps that read a value and leave the stack as it was.
use Rattle.std.proofs.Common.{◌≡◌, ℕ, ◌≤◌, List, length, Result, Ok, Err, sym, ap, ◌∙◌, subst}
use Rattle.tclv_model.specs.declared.data_commands.CmdFault.{CmdFault}
use Rattle.tclv_model.specs.declared.data_commands.CmdFault.TheVariants as fault
use Rattle.tclv_model.specs.Rows.{Answer, Gives, and_then, wrong_count}
use Rattle.tclv_value.specs.View.{View}
use Rattle.tclv_value.specs.Changes.{KeepsTexts}
use Rattle.tclv_reply.specs.Replies.{Grows, Refused, Reads, Settles}
use Rattle.tclv_reply.proofs.Laws.{refused_answer, refused_after, refused_on, grows_kept, grows_trans, count_refused}
use Rattle.tclv_ctl.specs.Steps.{Understands}

-- a step, and what follows it with what it read
pub reads_on : {A B T U : Type 0} (a : Answer A) (f : A → Answer B) (First : A → T → Type 0) (Then : B → U → Type 0) (old mid new : View) (x : T) (r : Result U CmdFault) → (u : Reads a First old mid (Ok x)) → Reads (f u.gives.read) Then mid new r → Reads (and_then a f) Then old new r
reads_on {B = B} a f First Then old mid new x (Ok y) u w =
    let went : and_then a f ≡ f u.gives.read = ap (λ (z : Answer _). let b : Answer B = and_then z f in b) u.gives.given in
    record {
      grows = grows_trans old mid new u.grows w.grows;
      kept = w.kept ∙ u.kept;
      gives = record { read = w.gives.read; given = went ∙ w.gives.given; shown = w.gives.shown };
      refuses = tt;
    }
reads_on {B = B} a f First Then old mid new x (Err kind) u w =
    let went : and_then a f ≡ f u.gives.read = ap (λ (z : Answer _). let b : Answer B = and_then z f in b) u.gives.given in
    record {
      grows = grows_trans old mid new u.grows w.grows;
      kept = tt;
      gives = tt;
      refuses = refused_after (and_then a f) (f u.gives.read) kind old mid new u.grows went w.refuses;
    }

-- a step that is refused, before others
pub reads_stop : {A B T U : Type 0} (a : Answer A) (f : A → Answer B) (First : A → T → Type 0) (Then : B → U → Type 0) (old new : View) (kind : CmdFault) (r : Result U CmdFault) → r ≡ Err kind → Reads a First old new (Err kind) → Reads (and_then a f) Then old new r
reads_stop a f First Then old new kind r e u =
    subst (λ z. Reads (and_then a f) Then old new z) (sym e) (record { grows = u.grows; kept = tt; gives = tt; refuses = refused_on a f kind old.stack new.stack u.refuses })

-- a value that is known
pub reads_known : {A T : Type 0} (a : Answer A) (Shows : A → T → Type 0) (old new : View) (value : A) (x : T) → KeepsTexts old new → a ≡ Gives value → Shows value x → Reads a Shows old new (Ok x)
reads_known a Shows old new value x k e h = record { grows = grows_kept old new k; kept = k.stack; gives = record { read = value; given = e; shown = h }; refuses = tt }

-- memory ran out
pub reads_none : {A T : Type 0} (a : Answer A) (Shows : A → T → Type 0) (old new : View) (r : Result T CmdFault) → r ≡ Err fault.NoMemory → Grows old new → Reads a Shows old new r
reads_none a Shows old new r e g = subst (λ z. Reads a Shows old new z) (sym e) (record { grows = g; kept = tt; gives = tt; refuses = tt })

-- after calls that keep all texts
pub reads_after : {A T : Type 0} (a b : Answer A) (Shows : A → T → Type 0) (old mid new : View) (r : Result T CmdFault) → KeepsTexts old mid → a ≡ b → Reads b Shows mid new r → Reads a Shows old new r
reads_after a b Shows old mid new (Ok x) k e u = record {
  grows = grows_trans old mid new (grows_kept old mid k) u.grows;
  kept = u.kept ∙ k.stack;
  gives = record { read = u.gives.read; given = e ∙ u.gives.given; shown = u.gives.shown };
  refuses = tt;
}
reads_after a b Shows old mid new (Err kind) k e u = record {
  grows = grows_trans old mid new (grows_kept old mid k) u.grows;
  kept = tt;
  gives = tt;
  refuses = refused_after a b kind old mid new (grows_kept old mid k) e u.refuses;
}

-- the texts that a step kept
pub kept_by : {A T : Type 0} (a : Answer A) (Shows : A → T → Type 0) (old new : View) (x : T) → Reads a Shows old new (Ok x) → KeepsTexts old new
kept_by a Shows old new x u = record { stack = u.kept; cells = u.grows.cells; stays = u.grows.stays }

-- a refusal of the number of words
pub reads_count : {A T : Type 0} (a : Answer A) (Shows : A → T → Type 0) (call usage : List ℕ) (old new : View) (kind : CmdFault) → a ≡ wrong_count call usage → Grows old new → Refused {A = List ℕ} (wrong_count call usage) kind old.stack new.stack → Reads a Shows old new (Err kind)
reads_count {A = A} a Shows call usage old new kind e g r = record {
  grows = g;
  kept = tt;
  gives = tt;
  refuses = subst (λ (b : Answer A). Refused b kind old.stack new.stack) (sym e) (count_refused A call usage kind old.stack new.stack r);
}

-- the call as a whole
pub understood_so : {A T : Type 0} (row a : Answer A) (Shows : A → T → Type 0) (n : ℕ) (old new : View) (x : T) → row ≡ a → Reads a Shows old new (Ok x) → Understands row Shows n old new (Ok x)
understood_so row a Shows n old new x e u = record {
  gives = record { read = u.gives.read; given = e ∙ u.gives.given; shown = u.gives.shown };
  kept = kept_by a Shows old new x u;
  refuses = tt;
  cells = u.grows.cells;
}

pub refused_so : {A T : Type 0} (row a : Answer A) (Shows : A → T → Type 0) (n : ℕ) (old mid new : View) (height : ℕ) (kind told : CmdFault) → row ≡ a → height ≡ length old.stack → n ≤ height → told ≡ kind → Grows old mid → Refused a kind old.stack mid.stack → Settles n height (Err kind) mid new → Understands row Shows n old new (Err told)
refused_so {A = A} row a Shows n old mid new height kind told e h l t g r s =
    let q = refused_answer row n old mid new height kind h l g (subst (λ (b : Answer A). Refused b kind old.stack mid.stack) (sym e) r) s in
    subst (λ (k : CmdFault). Understands row Shows n old new (Err k)) (sym t) (record { gives = tt; kept = tt; refuses = q.0; cells = q.1 })

-- a value that is made of the one that was read
pub reads_map : {A B T U : Type 0} (a : Answer A) (g : A → B) (First : A → T → Type 0) (Then : B → U → Type 0) (old new : View) (x : T) (y : U) → Reads a First old new (Ok x) → ((v : A) → First v x → Then (g v) y) → Reads (and_then a (λ v. Gives (g v))) Then old new (Ok y)
reads_map {B = B} a g First Then old new x y u h = record {
  grows = u.grows;
  kept = u.kept;
  gives = record { read = g u.gives.read; given = ap (λ (z : Answer _). let b : Answer B = and_then z (λ v. Gives (g v)) in b) u.gives.given; shown = h u.gives.read u.gives.shown };
  refuses = tt;
}

-- the same answer by another name
pub reads_as : {A T : Type 0} (a b : Answer A) (Shows : A → T → Type 0) (old new : View) (r : Result T CmdFault) → a ≡ b → Reads b Shows old new r → Reads a Shows old new r
reads_as {A = A} a b Shows old new r e u = subst (λ (x : Answer A). Reads x Shows old new r) (sym e) u
