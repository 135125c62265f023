-- Paths of indices, which lead to an element of a list, to an element of that, and so on.
use Rattle.std.specs.Prelude.{◌≡◌, ◌≤◌, ℕ, ◌-◌, Bool, true, false, if◌then◌else◌, List, [], ◌∷◌, ◌++◌, length, take, drop, Option, None, Result, IfOk, IfErr, OnOk, slice_get, slice_index_or, ℤ, pos, negsuc}
use Rattle.std.specs.Option.{option_map_or}
use Rattle.std.specs.Result.{result_unwrap_or}
use Rattle.tclv_text.specs.Elements.{elements}
use Rattle.tclv_text.specs.Quotes.{list_text}
use Rattle.tclv_model.specs.Rows.{Answer, RowAnswer, Gives, and_then}
use Rattle.tclv_model.specs.Values.{list_of, place_of}
use Rattle.tclv_model.specs.declared.data_commands.CmdFault.{CmdFault}
use Rattle.tclv_value.specs.View.{View}
use Rattle.tclv_value.specs.Paths.{put_at}
use Rattle.tclv_reply.specs.Places.{is_index, place_within}
use Rattle.tclv_reply.specs.Replies.{Grows, Refused}

-- The indices that words name: the words themselves, but one word alone that is no index and is a list stands for its elements.
abbrev pub path_of : List (List ℕ) → List (List ℕ)
path_of [] = []
path_of (word ∷ []) = if is_index word then word ∷ [] else result_unwrap_or (elements word) (word ∷ [])
path_of (word ∷ next ∷ words) = word ∷ next ∷ words

-- what follows where each of the texts has the form of an index, which is checked from the left
abbrev pub checked : {A : Type 0} → List (List ℕ) → Answer A → Answer A
checked [] rest = rest
checked (i ∷ path) rest = and_then (place_of i 0) (λ _. checked path rest)

-- whether each of the texts has the form of an index
abbrev pub forms_of : List (List ℕ) → Answer (Unit {0})
forms_of path = checked path (Gives tt)

-- the element at a place, if there is one
abbrev pub element : List (List ℕ) → ℤ → Option (List ℕ)
element ts (pos k) = slice_get ts k
element ts (negsuc k) = None

-- The text at the end of a path, which begins at a text. Past either end of a list it is the empty text, and the indices behind are checked for their form alone.
abbrev pub element_at : List ℕ → List (List ℕ) → RowAnswer
element_at t [] = Gives t
element_at t (i ∷ path) =
    and_then (list_of t) (λ ts.
    and_then (place_of i (length ts)) (λ k.
    option_map_or (λ x. element_at x path) (element ts k) (checked path (Gives []))))

-- The text in which the value x stands at the end of the path. Each list on the path gets its canonical text, and an index that is the list's length stands for a
-- new element, which is empty at first.
abbrev pub put_along : List ℕ → List (List ℕ) → List ℕ → RowAnswer
put_along t [] x = Gives x
put_along t (i ∷ path) x =
    and_then (list_of t) (λ ts.
    and_then (place_within i (length ts)) (λ k.
    and_then (put_along (slice_index_or ts k []) path x) (λ y. Gives (list_text (put_at ts k y)))))

-- A step along a path: the element of the text t at the index i is on top.
pub record Entered (t i : List ℕ) (old new : View) : Type 0 where
  pub text : List ℕ
  pub rest : (path : List (List ℕ)) → element_at t (i ∷ path) ≡ element_at text path
  pub top : new.stack ≡ old.stack ++ text ∷ []

-- there is one, or the place is past either end
abbrev pub WentInto : List ℕ → List ℕ → Bool → View → View → Type 0
WentInto t i true old new = Entered t i old new
WentInto t i false old new = (path : List (List ℕ)) → element_at t (i ∷ path) ≡ checked path (Gives [])

pub record StepsInto (t i : List ℕ) (old new : View) (result : Result Bool CmdFault) : Type 0 where
  pub grows : Grows old new
  pub into : IfOk result (λ found. WentInto t i found old new)
  pub refuses : IfErr result (λ kind. (path : List (List ℕ)) → Refused (element_at t (i ∷ path)) kind old.stack new.stack)

-- The places of a stack from r.0 up to r.1 have the texts of the path.
pub record IsPathAt (path stack : List (List ℕ)) (r : ℕ × ℕ) : Type 0 where
  pub order : r.0 ≤ r.1
  pub within : r.1 ≤ length stack
  pub is : take (r.1 - r.0) (drop r.0 stack) ≡ path

-- A step along the path of a value that is put: the text at the place that the index names is on top, and what it becomes goes into the list.
pub record IsReached (t i : List ℕ) (old new : View) : Type 0 where
  pub text : List ℕ
  pub list : List (List ℕ)
  pub place : ℕ
  pub rest : (path : List (List ℕ)) → (x : List ℕ) → put_along t (i ∷ path) x ≡ and_then (put_along text path x) (λ y. Gives (list_text (put_at list place y)))
  pub top : new.stack ≡ old.stack ++ text ∷ []

pub record Reaches (t i : List ℕ) (old new : View) (result : Result (Unit {0}) CmdFault) : Type 0 where
  pub grows : Grows old new
  pub reached : OnOk result (IsReached t i old new)
  pub refuses : IfErr result (λ kind. (path : List (List ℕ)) → (x : List ℕ) → Refused (put_along t (i ∷ path) x) kind old.stack new.stack)
