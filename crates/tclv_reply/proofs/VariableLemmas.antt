-- Laws of commands that are handed a variable.
use Rattle.std.proofs.Common.{◌≡◌, ℕ, ◌≤◌, Bool, true, false, List, [], ◌∷◌, ◌++◌, length, cond, Option, Some, None, IsSome, is_some, Result, Ok, Err, refl, sym, ap, ◌∙◌, subst, arith, nat_eq}
use Rattle.std.specs.Option.{unwrap_or}
use Rattle.std.specs.Ordering.{nat_cmp}
use Rattle.std.specs.Cmp.{nat_cmp_total, unsigned_ties}
use Rattle.std.specs.FinMap.{FinMap, get, insert, get-insert, same_map, nat_cmp-IsAntisymmetric}
use Rattle.std.proofs.lemmas.Bool.{eqb-true}
use Rattle.tclv_model.specs.declared.data_commands.CmdFault.{CmdFault}
use Rattle.tclv_model.specs.declared.data_commands.CmdFault.TheVariants as fault
use Rattle.tclv_model.specs.declared.data_commands.VarState.{VarState}
use Rattle.tclv_model.specs.Rows.{VarAnswer, Gives}
use Rattle.tclv_value.specs.View.{View, HasPlace, text_at}
use Rattle.tclv_value.specs.declared.places.At.TheVariants.{Cell}
use Rattle.tclv_value.specs.Stacks.{under}
use Rattle.tclv_reply.specs.Replies.{Grows, Refused, Settles, Declines, VarAnswers, cells_with}
use Rattle.tclv_reply.proofs.StepLemmas.{Went, keeps_went}
use Rattle.tclv_reply.proofs.ReplyLemmas.{refused_answer}

is_itself : (k : ℕ) → nat_eq k k ≡ true
is_itself k = grind arith

pub get_put : {X : Type 0} (m : FinMap nat_cmp X) (k : ℕ) (x : X) → get (insert m k x) k ≡ Some x
get_put m k x = get-insert nat_cmp_total m k x k ∙ ap (λ b. cond b (Some x) (get m k)) (sym (unsigned_ties k k) ∙ is_itself k)

-- a cell that got a text has it
pub cell_there : (new : View) (old : FinMap nat_cmp (List ℕ)) (k : ℕ) (t : List ℕ) → new.cells ≡ insert old k t → HasPlace new (Cell k)
cell_there new old k t e = ap (λ m. is_some (get m k)) e ∙ ap is_some (get_put old k t)

pub cell_text : (new : View) (old : FinMap nat_cmp (List ℕ)) (k : ℕ) (t : List ℕ) → new.cells ≡ insert old k t → text_at new (Cell k) ≡ t
cell_text new old k t e = ap (λ m. unwrap_or (get m k) []) e ∙ ap (λ o. unwrap_or o []) (get_put old k t)

-- a call that is refused leaves its variable
pub var_refused : (row : VarAnswer) (variable : VarState) (n : ℕ) (old mid new : View) (height : ℕ) (kind : CmdFault) (result : Result (Unit {0}) CmdFault) → height ≡ length old.stack → n ≤ height → Grows old mid → Refused row kind old.stack mid.stack → Settles n height (Err kind) mid new → result ≡ Err kind → VarAnswers row variable n old new result
var_refused row variable n old mid new height kind result h l g r s e =
    let a = refused_answer row n old mid new height kind h l g r s in
    subst (λ (x : Result (Unit {0}) CmdFault). VarAnswers row variable n old new x) (sym e) (record { gives = tt; refuses = a.0; kept = a.1 })

-- a call that gives its variable a text
pub var_given : (row : VarAnswer) (variable : VarState) (n : ℕ) (old new : View) (t u : List ℕ) (x : Unit {0}) → row ≡ Gives (t, u) → new.stack ≡ under n old.stack ++ t ∷ [] → new.cells ≡ cells_with variable old.cells u → VarAnswers row variable n old new (Ok x)
var_given row variable n old new t u x e s c = record { gives = record { text = t; kept = u; given = e; stack = s; cells = c }; refuses = tt; kept = tt }

get_other : {X : Type 0} (m : FinMap nat_cmp X) (k q : ℕ) (x : X) → nat_eq q k ≡ false → get (insert m k x) q ≡ get m q
get_other m k q x ne = get-insert nat_cmp_total m k x q ∙ ap (λ b. cond b (Some x) (get m q)) (sym (unsigned_ties q k) ∙ ne)

put_cases : {X : Type 0} (m : FinMap nat_cmp X) (k q : ℕ) (x : X) → get m k ≡ Some x → (b : Bool) → nat_eq q k ≡ b → get (insert m k x) q ≡ get m q
put_cases m k q x h false e = get_other m k q x e
put_cases m k q x h true e = let same : q ≡ k = eqb-true q k e in ap (get (insert m k x)) same ∙ get_put m k x ∙ sym h ∙ ap (get m) (sym same)

-- the text that a cell has, written once more
pub put_same : {X : Type 0} (m : FinMap nat_cmp X) (k : ℕ) (x : X) → get m k ≡ Some x → insert m k x ≡ m
put_same m k x h = same_map nat_cmp_total nat_cmp-IsAntisymmetric (insert m k x) m (λ q. put_cases m k q x h (nat_eq q k) refl)

known : (x : Option (List ℕ)) → IsSome x → x ≡ Some (unwrap_or x [])
known None h = absurd (cc)
known (Some t) h = refl

pub cell_kept : (v : View) (k : ℕ) → HasPlace v (Cell k) → insert v.cells k (text_at v (Cell k)) ≡ v.cells
cell_kept v k h = put_same v.cells k (text_at v (Cell k)) (known (get v.cells k) h)

pub no_text : (o : Option (List ℕ)) → is_some o ≡ false → unwrap_or o [] ≡ []
no_text None h = refl
no_text (Some t) h = absurd (cc)

pub var_as : (row rest : VarAnswer) (variable : VarState) (n : ℕ) (old new : View) (r : Result (Unit {0}) CmdFault) → row ≡ rest → VarAnswers rest variable n old new r → VarAnswers row variable n old new r
var_as row rest variable n old new r e = subst (λ a. VarAnswers a variable n old new r) (sym e)

-- the answer of a call that begins where the row came to
module _ {row rest : VarAnswer} {old mid new : View} (variable : VarState) (n : ℕ) (then : VarAnswer) (w : Went row rest old mid) (e : rest ≡ then) where
  declines_on : (kind : CmdFault) → Declines then kind n mid new → Declines row kind n old new
  declines_on kind d = record { message = d.message; code = d.code; refused = w.is ∙ (e ∙ d.refused); stack = d.stack ∙ ap (λ s. under n s ++ (d.message ∷ d.code ∷ [])) w.same }

  pub var_on : (r : Result (Unit {0}) CmdFault) → VarAnswers then variable n mid new r → VarAnswers row variable n old new r
  var_on (Ok x) a = record {
    gives = record {
      text = a.gives.text;
      kept = a.gives.kept;
      given = w.is ∙ (e ∙ a.gives.given);
      stack = a.gives.stack ∙ ap (λ s. under n s ++ a.gives.text ∷ []) w.same;
      cells = a.gives.cells ∙ ap (λ m. cells_with variable m a.gives.kept) w.grows.cells;
    };
    refuses = tt;
    kept = tt;
  }
  var_on (Err fault.NoMemory) a = record { gives = tt; refuses = keeps_went w a.refuses; kept = a.kept ∙ w.grows.cells }
  var_on (Err fault.WrongArgs) a = record { gives = tt; refuses = declines_on fault.WrongArgs a.refuses; kept = a.kept ∙ w.grows.cells }
  var_on (Err fault.Message) a = record { gives = tt; refuses = declines_on fault.Message a.refuses; kept = a.kept ∙ w.grows.cells }
