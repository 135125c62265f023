-- Laws of texts that are lists, and of their elements on a stack.
use Rattle.std.proofs.Common.{◌≡◌, ℕ, zero, suc, ◌+◌, ◌<◌, ◌≤◌, List, [], ◌∷◌, ◌++◌, length, take, drop, get_or, Some, None, Result, Ok, Err, refl, sym, ap, ◌∙◌, subst, arith, append-nil, append_assoc, Bool, true, false, true≢false, ⊎_elim}
use Rattle.std.proofs.lemmas.Bool.{cases_lt}
use Rattle.std.specs.Option.{unwrap_or}
use Rattle.std.specs.FinMap.{get}
use Rattle.std.proofs.lemmas.List.{take_more, take_all}
use Rattle.std.specs.Prelude.{IsOkAnd, IsTrue, ◌↔◌, slice_get, option_to_list}
use Rattle.tclv_value.specs.View.{View, HasPlace, text_at}
use Rattle.tclv_value.specs.declared.places.At.{At}
use Rattle.tclv_value.specs.declared.places.At.TheVariants.{Stack, Cell}
use Rattle.tclv_reply.proofs.StackLemmas.{word_kept}
use Rattle.tclv_model.specs.declared.data_commands.CmdFault.{CmdFault}
use Rattle.tclv_reply.specs.Replies.{Grows, IsUnpacked, Refused, Unpacks}
use Rattle.std.specs.Str.{chars, encode_utf8_all}
use Rattle.tclv_text.specs.declared.lists.ListFault.{ListFault}
use Rattle.tclv_text.specs.declared.lists.ListFault.TheVariants as list
use Rattle.tclv_text.specs.Lists.{ListFlaw, MissingBrace, MissingQuote, TextAfterBrace, TextAfterQuote}
use Rattle.tclv_text.specs.Elements.{elements}
use Rattle.tclv_model.specs.Rows.{Gives}
use Rattle.tclv_model.specs.Values.{no_list, list_read, list_of}
use Rattle.tclv_value.specs.Lists.{IsNoList}

-- a text that is known to be a list, whatever is said of its elements
not_given : (flaw : ListFlaw) (ts : List (List ℕ)) → no_list {A = List (List ℕ)} flaw ≡ Gives ts → ⊥
not_given MissingBrace ts e = cc
not_given MissingQuote ts e = cc
not_given (TextAfterBrace r) ts e = cc
not_given (TextAfterQuote r) ts e = cc

same_given : (us ts : List (List ℕ)) → Gives us ≡ Gives ts → us ≡ ts
same_given us ts e = cc

pub list_known : (r : Result (List (List ℕ)) ListFlaw) (ts : List (List ℕ)) (P : List (List ℕ) → Type 0) → list_read r ≡ Gives ts → IsOkAnd r P → P ts
list_known (Ok us) ts P e h = subst P (same_given us ts e) h
list_known (Err flaw) ts P e h = absurd h

pub get_some : (ts : List (List ℕ)) (k : ℕ) → k < length ts → slice_get ts k ≡ Some (get_or ts k [])
get_some [] k h = absurd (omega arith)
get_some (t ∷ ts) zero h = refl
get_some (t ∷ ts) (suc k) h = get_some ts k (omega arith)

-- a text that is no list has no elements
pub no_elements : (t : List ℕ) (why : ListFault) → chars (encode_utf8_all t) ≡ t → IsNoList t why → (f : ListFlaw) × (elements t ≡ Err f)
no_elements t list.OpenBrace e h = (MissingBrace, ap elements (sym e) ∙ h.read)
no_elements t list.OpenQuote e h = (MissingQuote, ap elements (sym e) ∙ h.read)
no_elements t (list.AfterBrace n) e h = (TextAfterBrace (chars (drop n (encode_utf8_all t))), ap elements (sym e) ∙ h.2.read)
no_elements t (list.AfterQuote n) e h = (TextAfterQuote (chars (drop n (encode_utf8_all t))), ap elements (sym e) ∙ h.2.read)
no_elements t list.NoMemory e h = absurd h

pub get_none : (ts : List (List ℕ)) (k : ℕ) → length ts ≤ k → slice_get ts k ≡ None
get_none [] k h = refl
get_none (t ∷ ts) zero h = absurd (omega arith)
get_none (t ∷ ts) (suc k) h = get_none ts k (omega arith)

-- a text whose answer gives elements has them
pub given_read : (r : Result (List (List ℕ)) ListFlaw) (ts : List (List ℕ)) → list_read r ≡ Gives ts → r ≡ Ok ts
given_read (Ok us) ts e = ap Ok (same_given us ts e)
given_read (Err flaw) ts e = absurd (not_given flaw ts e)

-- The first k elements of the list that a text is, which has so many.
pub record FirstOf (t : List ℕ) (len k : ℕ) (taken : List (List ℕ)) : Type 0 where
  pub all : List (List ℕ)
  pub read : elements t ≡ Ok all
  pub len_is : len ≡ length all
  pub taken_is : taken ≡ take k all

none_of : (r : Result (List (List ℕ)) ListFlaw) (len : ℕ) → IsOkAnd r (λ ts. len ≡ length ts) → (ts : List (List ℕ)) × (r ≡ Ok ts) × (len ≡ length ts)
none_of (Ok ts) len h = (ts, refl, h)
none_of (Err flaw) len h = absurd h

-- none of them
pub first_none : (t : List ℕ) (len : ℕ) → IsOkAnd (elements t) (λ ts. len ≡ length ts) → FirstOf t len 0 []
first_none t len h = let n = none_of (elements t) len h in record { all = n.0; read = n.1; len_is = n.2; taken_is = refl }

pub first_given : (t : List ℕ) (len : ℕ) (ts : List (List ℕ)) → list_of t ≡ Gives ts → len ≡ length ts → FirstOf t len 0 []
first_given t len ts e h = record { all = ts; read = given_read (elements t) ts e; len_is = h; taken_is = refl }

one_taken : (ts : List (List ℕ)) (k : ℕ) → k < length ts → take k ts ++ option_to_list (slice_get ts k) ≡ take (k + 1) ts
one_taken ts k h = ap (λ o. take k ts ++ option_to_list o) (get_some ts k h) ∙ sym (take_more ts k [] h)

-- one more of them
pub first_more : (t : List ℕ) (len k : ℕ) (taken more : List (List ℕ)) → FirstOf t len k taken → k < len → IsOkAnd (elements t) (λ ts. more ≡ taken ++ option_to_list (slice_get ts k)) → FirstOf t len (k + 1) more
first_more t len k taken more f h e =
    let P : List (List ℕ) → Type 0 = λ ts. more ≡ taken ++ option_to_list (slice_get ts k) in
    let known : IsOkAnd {E = ListFlaw} (Ok f.all) P = subst (λ (r : Result (List (List ℕ)) ListFlaw). IsOkAnd r P) f.read e in record {
      all = f.all;
      read = f.read;
      len_is = f.len_is;
      taken_is = known ∙ ap (λ u. u ++ option_to_list (slice_get f.all k)) f.taken_is ∙ one_taken f.all k (omega (arith, f.len_is));
    }

-- all of them
pub first_all : (t : List ℕ) (len k : ℕ) (taken : List (List ℕ)) → FirstOf t len k taken → len ≤ k → elements t ≡ Ok taken
first_all t len k taken f e = f.read ∙ ap Ok (sym (f.taken_is ∙ take_all k f.all (omega (arith, e, f.len_is))))

-- So many elements of a list were pushed.
pub record Unrolled (t : List ℕ) (len k : ℕ) (old new : View) : Type 0 where
  pub taken : List (List ℕ)
  pub first : FirstOf t len k taken
  pub stack : new.stack ≡ old.stack ++ taken
  pub grows : Grows old new

-- what one more leaves, which was pushed
pub unrolled_more : (t u : List ℕ) (len k : ℕ) (old cur new : View) → Unrolled t len k old cur → u ≡ t → k < len → IsOkAnd (elements u) (λ ts. new.stack ≡ cur.stack ++ option_to_list (slice_get ts k)) → Grows old new → Unrolled t len (k + 1) old new
unrolled_more t u len k old cur new r same h e g =
    let P : List (List ℕ) → Type 0 = λ ts. new.stack ≡ cur.stack ++ option_to_list (slice_get ts k) in
    let known : IsOkAnd {E = ListFlaw} (Ok r.first.all) P = subst (λ (x : Result (List (List ℕ)) ListFlaw). IsOkAnd x P) (ap elements same ∙ r.first.read) e in
    let x = option_to_list (slice_get r.first.all k) in record {
      taken = r.taken ++ x;
      first = record { all = r.first.all; read = r.first.read; len_is = r.first.len_is; taken_is = ap (λ v. v ++ x) r.first.taken_is ∙ one_taken r.first.all k (omega (arith, r.first.len_is)) };
      stack = known ∙ ap (λ v. v ++ x) r.stack ∙ append_assoc old.stack r.taken x;
      grows = g;
    }

pub unrolled_all : (t : List ℕ) (len k : ℕ) (old new : View) → Unrolled t len k old new → len ≤ k → IsUnpacked t old.stack new.stack
unrolled_all t len k old new r e = record { elements = r.taken; given = ap list_read (first_all t len k r.taken r.first e); stack = r.stack }

-- a place beside which texts were pushed
pub text_grown : (old new : View) → Grows old new → (place : At) → HasPlace old place → text_at new place ≡ text_at old place
text_grown old new g (Stack i) h = word_kept old.stack new.stack g.more i g.stack h
text_grown old new g (Cell c) h = ap (λ m. unwrap_or (get m c) []) g.cells

none_there : (r : Result (List (List ℕ)) ListFlaw) (found : Bool) (k : ℕ) (items : List (List ℕ)) → found ≡ false → IsOkAnd r (λ ts. IsTrue found ↔ (k < length ts)) → IsOkAnd r (λ ts. items ≡ items ++ option_to_list (slice_get ts k))
none_there (Ok ts) found k items e h = ⊎_elim
    (λ (inside : k < length ts). absurd (true≢false (sym (h.1 inside) ∙ e)))
    (λ (past : length ts ≤ k). sym (ap (λ o. items ++ option_to_list o) (get_none ts k past) ∙ append-nil items)) (cases_lt k (length ts))
none_there (Err flaw) found k items e h = absurd h

-- there is no such element
pub none_added : (t : List ℕ) (found : Bool) (k : ℕ) (items : List (List ℕ)) → found ≡ false → IsOkAnd (elements t) (λ ts. IsTrue found ↔ (k < length ts)) → IsOkAnd (elements t) (λ ts. items ≡ items ++ option_to_list (slice_get ts k))
none_added t found k items = none_there (elements t) found k items

pub unpacks_refused : (t : List ℕ) (kind : CmdFault) (old new : View) (r : Result (Unit {0}) CmdFault) → r ≡ Err kind → Grows old new → Refused {A = List (List ℕ)} (list_of t) kind old.stack new.stack → Unpacks t old new r
unpacks_refused t kind old new r e g h = subst (λ (x : Result (Unit {0}) CmdFault). Unpacks t old new x) (sym e) (record { grows = g; gives = tt; refuses = h })
