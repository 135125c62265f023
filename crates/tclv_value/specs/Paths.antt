-- Lists inside lists: a path of indices, the first of which leads to an element of the outer list, the next to an element of that, and so on.
use Rattle.std.specs.Prelude.{◌≡◌, ℕ, ◌+◌, ◌<◌, nat_le, if◌then◌else◌, List, [], ◌∷◌, ◌++◌, length, take, drop, slice_index_or, Result, Ok, Err, IsOkAnd, ℤ, pos, negsuc}
use Rattle.tclv_text.specs.declared.indices.IndexFault.{IndexFault}
use Rattle.tclv_text.specs.Lists.{ListFlaw}
use Rattle.tclv_text.specs.Elements.{elements}
use Rattle.tclv_text.specs.Quotes.{list_text}
use Rattle.tclv_text.specs.Indices.{index}
use Rattle.tclv_value.specs.declared.faults.ValueFault.{ValueFault}
use Rattle.tclv_value.specs.declared.faults.ValueFault.TheVariants as fault
use Rattle.tclv_value.specs.declared.list_paths.Step.{Step}
use Rattle.tclv_value.specs.Lists.{IsNoList}

-- Why a path leads nowhere: this text on it is no list, an index has no form of one, or the index with this number in the path names no place. The first index has the number 0.
pub data PathFlaw : Type 0 where
  NoList : List ℕ → PathFlaw
  NoIndex : PathFlaw
  NoPlace : ℕ → PathFlaw

abbrev pub and_then : {A B : Type 0} → Result A PathFlaw → (A → Result B PathFlaw) → Result B PathFlaw
and_then (Ok x) rest = rest x
and_then (Err flaw) rest = Err flaw

-- the elements of a text on a path
abbrev pub list_or : List ℕ → Result (List (List ℕ)) ListFlaw → Result (List (List ℕ)) PathFlaw
list_or t (Ok ts) = Ok ts
list_or t (Err why) = Err (NoList t)

-- The place of a list with n elements that an index names: one of theirs, or n, which is the place behind the last.
abbrev pub place_or : ℕ → ℕ → Result ℤ IndexFault → Result ℕ PathFlaw
place_or level n (Ok (pos k)) = if nat_le k n then Ok k else Err (NoPlace level)
place_or level n (Ok (negsuc k)) = Err (NoPlace level)
place_or level n (Err why) = Err NoIndex

-- One step of a path, of which so many indices led here: the elements of the text, and the place of theirs that the index names.
abbrev pub step : ℕ → List ℕ → List ℕ → Result (List (List ℕ) × ℕ) PathFlaw
step level t i = and_then (list_or t (elements t)) (λ ts. and_then (place_or level (length ts) (index i (length ts))) (λ k. Ok (ts, k)))

-- the list with x at place k, in place of the element there, or behind the last where k is the length
abbrev pub put_at : {A : Type 0} → List A → ℕ → A → List A
put_at ts k x = take k ts ++ x ∷ drop (k + 1) ts

-- The text where the value x stands at the end of the path, of which so many indices led here. Without an index it is the value. Else it is the canonical text of
-- the list with a new element at the index's place: the old one, which is empty behind the last, where the value stands at the end of the rest of the path.
abbrev pub set_path : ℕ → List ℕ → List (List ℕ) → List ℕ → Result (List ℕ) PathFlaw
set_path level t [] x = Ok x
set_path level t (i ∷ path) x = and_then (step level t i) (λ (ts, k). and_then (set_path (level + 1) (slice_index_or ts k []) path x) (λ y. Ok (list_text (put_at ts k y))))

-- A call that goes along a path is refused with this fault: with that of the path, or for want of memory.
abbrev pub RefusesPath : {A : Type 0} → ValueFault → Result A PathFlaw → Type 0
RefusesPath (fault.NotList why) answer = (t : List ℕ) × (answer ≡ Err (NoList t)) × IsNoList t why
RefusesPath fault.BadIndex answer = answer ≡ Err NoIndex
RefusesPath (fault.OutOfRange level) answer = answer ≡ Err (NoPlace level)
RefusesPath fault.NoMemory answer = Unit {0}
RefusesPath _ answer = ⊥

-- the lists that a path went through, with the places in them, from the outer one on: the outer text where this one stands at the path's end
abbrev pub rebuilt : List Step → List ℕ → List ℕ
rebuilt [] x = x
rebuilt (s ∷ steps) x = list_text (put_at s.elements.items s.place (rebuilt steps x))

-- A call that wants a list of a text on a path is refused with this fault, whatever the index.
abbrev pub RefusesStep : ValueFault → List ℕ → Type 0
RefusesStep why t = (level : ℕ) (i : List ℕ) → RefusesPath why (step level t i)

-- the index names an element of the text's list
abbrev pub NamesElement : List ℕ → List ℕ → Type 0
NamesElement t i = IsOkAnd (step 0 t i) (λ (ts, k). k < length ts)
