-- Laws of steps that change a variable.
use Rattle.std.proofs.Common.{◌≡◌, ◌≢◌, ℕ, ◌+◌, ◌<◌, ◌≤◌, List, [], ◌∷◌, length, take, get_or, Result, Ok, Err, refl, sym, ap, ◌∙◌, subst, arith}
use Rattle.tclv_model.specs.declared.data_commands.CmdFault.{CmdFault}
use Rattle.tclv_model.specs.declared.data_commands.CmdFault.TheVariants as fault
use Rattle.tclv_model.specs.declared.data_commands.VarState.{VarState}
use Rattle.tclv_model.specs.declared.usages.Usage.TheVariants as command
use Rattle.tclv_model.specs.Usages.{usage_of}
use Rattle.tclv_model.specs.Rows.{RowAnswer, VarAnswer, Variable, and_then, wrong_count}
use Rattle.tclv_value.specs.View.{View}
use Rattle.tclv_reply.specs.Replies.{Grows, Refused, Settles, Answers, VarAnswers, cells_with, left_count}
use Rattle.tclv_lists.specs.Paths.{path_of}
use Rattle.tclv_reply.specs.Variables.{both}
use Rattle.tclv_lists.specs.Variables.{Stores, lset_of, row_lset, row_lpop}
use Rattle.tclv_reply.proofs.Laws.{grows_trans, refused_after, moved_down, ends_on, ends_len, room_refused, var_given, var_refused}

-- steps behind others
pub stores_after : (row rest : VarAnswer) (variable : VarState) (old mid new : View) (r : Result (Unit {0}) CmdFault) → Grows old mid → row ≡ rest → Stores rest variable mid new r → Stores row variable old new r
stores_after row rest variable old mid new (Ok x) g e v = record {
  stores = record {
    text = v.stores.text;
    kept = v.stores.kept;
    given = e ∙ v.stores.given;
    top = ends_on _ old.stack mid.stack new.stack g.more g.stack v.stores.top;
    cells = v.stores.cells ∙ ap (λ m. cells_with variable m v.stores.kept) g.cells;
  };
  grows = tt;
  refuses = tt;
}
stores_after row rest variable old mid new (Err kind) g e v = record { stores = tt; grows = grows_trans old mid new g v.grows; refuses = refused_after row rest kind old mid new g e v.refuses }

-- steps that are refused
pub stores_refused : (row : VarAnswer) (variable : VarState) (old new : View) (kind : CmdFault) → Grows old new → Refused row kind old.stack new.stack → Stores row variable old new (Err kind)
stores_refused row variable old new kind g r = record { stores = tt; grows = g; refuses = r }

stored_to : (row : VarAnswer) (variable : VarState) (n : ℕ) (old mid new : View) (done : Result (Unit {0}) CmdFault) → n ≤ length old.stack → Stores row variable old mid done → Settles n (length old.stack) done mid new → VarAnswers row variable n old new done
stored_to row variable n old mid new (Ok x) l v s =
    var_given row variable n old new v.stores.text v.stores.kept x v.stores.given (moved_down row n old mid new 1 v.stores.top.between (v.stores.text ∷ []) refl l v.stores.top.is s.stack) (s.cells ∙ v.stores.cells)
stored_to row variable n old mid new (Err kind) l v s = var_refused row variable n old mid new (length old.stack) kind (Err kind) refl l v.grows v.refuses s refl

-- the end of a call whose steps changed its variable
pub stored : (row : VarAnswer) (variable : VarState) (n : ℕ) (old mid new : View) (height : ℕ) (done result : Result (Unit {0}) CmdFault) → height ≡ length old.stack → n ≤ height → Stores row variable old mid done → Settles n height done mid new → result ≡ done → VarAnswers row variable n old new result
stored row variable n old mid new height done result h l v s e =
    subst (λ r. VarAnswers row variable n old new r) (sym e)
    (stored_to row variable n old mid new done (subst (λ k. n ≤ k) h l) v (subst (λ k. Settles n k done mid new) h s))

pub stored_room : (row : VarAnswer) (variable : VarState) (height : ℕ) (old mid : View) (done : Result (Unit {0}) CmdFault) → height ≡ length old.stack → Stores row variable old mid done → height + left_count done ≤ length mid.stack
stored_room row variable height old mid (Ok x) h v = omega (arith, ends_len (v.stores.text ∷ []) old.stack mid.stack v.stores.top)
stored_room row variable height old mid (Err kind) h v = room_refused row height old mid kind h v.grows v.refuses

-- a wrong count of words
pub var_count : (call usage : List ℕ) (variable : VarState) (n : ℕ) (old new : View) (r : Result (Unit {0}) CmdFault) → Answers (wrong_count call usage) n old new r → VarAnswers (wrong_count call usage) variable n old new r
var_count call usage variable n old new (Ok x) a = absurd (let e = a.gives.given in cc)
var_count call usage variable n old new (Err fault.NoMemory) a = record { gives = tt; refuses = a.refuses; kept = a.cells }
var_count call usage variable n old new (Err fault.WrongArgs) a = record { gives = tt; refuses = record { message = a.refuses.message; code = a.refuses.code; refused = ap (λ (b : RowAnswer). and_then b both) a.refuses.refused; stack = a.refuses.stack }; kept = a.cells }
var_count call usage variable n old new (Err fault.Message) a = record { gives = tt; refuses = record { message = a.refuses.message; code = a.refuses.code; refused = ap (λ (b : RowAnswer). and_then b both) a.refuses.refused; stack = a.refuses.stack }; kept = a.cells }

pub lset_count : (call : List ℕ) (words : List (List ℕ)) (v : Variable) → length words < 2 → row_lset call words v ≡ wrong_count call (usage_of command.Lset)
lset_count call [] v h = refl
lset_count call (a ∷ []) v h = refl
lset_count call (a ∷ b ∷ ws) v h = absurd (omega arith)

pub lset_words : (call name : List ℕ) (words : List (List ℕ)) (v : Variable) (n : ℕ) → length words ≡ n + 1 → row_lset call (name ∷ words) v ≡ lset_of name (path_of (take n words)) (get_or words n []) v
lset_words call name [] v n h = absurd (omega arith)
lset_words call name (w ∷ ws) v n h = let e : length ws ≡ n = omega arith in ap (λ k. lset_of name (path_of (take k (w ∷ ws))) (get_or (w ∷ ws) k []) v) e

pub lpop_count : (call : List ℕ) (words : List (List ℕ)) (v : Variable) → length words ≢ 1 → length words ≢ 2 → row_lpop call words v ≡ wrong_count call (usage_of command.Lpop)
lpop_count call [] v h k = refl
lpop_count call (a ∷ []) v h k = absurd (h refl)
lpop_count call (a ∷ b ∷ []) v h k = absurd (k refl)
lpop_count call (a ∷ b ∷ c ∷ ws) v h k = refl
