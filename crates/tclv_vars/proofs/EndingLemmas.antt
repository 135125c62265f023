-- Frames that end one after another, the last first.
use Rattle.std.proofs.Common.{◌≡◌, ℕ, suc, ◌+◌, ◌-◌, ◌<◌, ◌≤◌, List, length, refl, sym, ap, ◌∙◌, arith}
use Rattle.tclv_names.specs.Keyed.{Numbers}
use Rattle.tclv_vars.specs.Scoping.{last_names, at_frame}
use Rattle.tclv_vars.specs.Table.{Table, at_scopes}
use Rattle.tclv_vars.specs.Clearing.{last_ended, ended_by, left_by, ended_behind, left_behind, without_names, Tied}

-- some frames have ended, and what is left to end is the same
pub record Ending (count : ℕ) (old now : Table) (before after : Numbers (List ℕ)) (first stack : List (List ℕ)) : Type 0 where
  pub table : ended_behind count now ≡ ended_behind count old
  pub texts : left_behind count now after ≡ left_behind count old before
  pub stack_is : stack ≡ first
  pub tied : Tied old before → Tied now after

pub none_ended : (count : ℕ) (t : Table) (texts : Numbers (List ℕ)) (stack : List (List ℕ)) → Ending count t t texts texts stack stack
none_ended count t texts stack = record { table = refl; texts = refl; stack_is = refl; tied = λ k. k }

more-table : (now : Table) (k : ℕ) → ended_by k (last_ended now) ≡ ended_by (suc k) now
unfolding ended_by
more-table now k = refl

more-texts : (now : Table) (texts : Numbers (List ℕ)) (k : ℕ) → left_by k (last_ended now) (without_names texts now.contents (last_names now.scopes)) ≡ left_by (suc k) now texts
unfolding left_by
more-texts now texts k = refl

pub one_more : (count : ℕ) (old now next : Table) (before after later : Numbers (List ℕ)) (first stack last : List (List ℕ)) → Ending count old now before after first stack → count < length now.scopes.frames →
    next ≡ last_ended now → later ≡ without_names after now.contents (last_names now.scopes) → length next.scopes.frames + 1 ≡ length now.scopes.frames → last ≡ stack →
    (Tied now after → Tied next later) → Ending count old next before later first last
one_more count old now next before after later first stack last h more is texts fewer same tied =
    let k : ℕ = length next.scopes.frames - count in
    let here : suc k ≡ length now.scopes.frames - count = omega (arith, more, fewer) in record {
      table = ap (ended_by k) is ∙ more-table now k ∙ ap (λ j. ended_by j now) here ∙ h.table;
      texts = ap (λ t. left_by k t later) is ∙ ap (left_by k (last_ended now)) texts ∙ more-texts now after k ∙ ap (λ j. left_by j now after) here ∙ h.texts;
      stack_is = same ∙ h.stack_is;
      tied = λ t. tied (h.tied t);
    }

no-more : (now : Table) → ended_by 0 now ≡ now
unfolding ended_by
no-more now = refl

no-more-texts : (now : Table) (texts : Numbers (List ℕ)) → left_by 0 now texts ≡ texts
unfolding left_by
no-more-texts now texts = refl

module _ (count : ℕ) (old now : Table) (before after : Numbers (List ℕ)) (first stack : List (List ℕ)) (h : Ending count old now before after first stack) (few : length now.scopes.frames ≤ count) where
  none : length now.scopes.frames - count ≡ 0
  none = omega (arith, few)

  pub last_left : now ≡ ended_behind count old
  last_left = sym (no-more now) ∙ ap (λ j. ended_by j now) (sym none) ∙ h.table

  pub texts_left : after ≡ left_behind count old before
  texts_left = sym (no-more-texts now after) ∙ ap (λ j. left_by j now after) (sym none) ∙ h.texts

-- what is said of cells and texts stays where another frame is current
pub tied_at : (now : Table) (texts : Numbers (List ℕ)) (i : ℕ) → Tied now texts → Tied (at_scopes now (at_frame now.scopes i)) texts
tied_at now texts i t = t
