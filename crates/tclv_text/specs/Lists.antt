-- What a text is as a list, by cases on whole texts.
use Rattle.std.specs.Prelude.{◌≡◌, ℕ, Bool, true, false, ◌==◌, List, [], ◌∷◌, ◌++◌, length}
use Rattle.tclv_text.specs.Characters.{is_space}
use Rattle.tclv_text.specs.Escapes.{escape, unescape}

-- Why a text is no list. Behind a closing mark the rest of the text stands.
pub data ListFlaw : Type 0 where
  MissingBrace : ListFlaw
  MissingQuote : ListFlaw
  TextAfterBrace : List ℕ → ListFlaw
  TextAfterQuote : List ℕ → ListFlaw

abbrev pub AllSpace : List ℕ → Type 0
AllSpace [] = Unit {0}
AllSpace (c ∷ cs) = (is_space c ≡ true) × AllSpace cs

-- nothing or white space comes next
abbrev pub is_end : List ℕ → Bool
is_end [] = true
is_end (c ∷ cs) = is_space c

-- The braces of the text match. It is a row of parts, each of them a backslash with the character after it, another character that is no brace, or a text whose braces match in braces.
pub data IsBalanced : List ℕ → Type 0 where
  nothing : IsBalanced []
  escaped : (c : ℕ) (v : List ℕ) → IsBalanced v → IsBalanced (92 ∷ c ∷ v)
  other : (c : ℕ) (v : List ℕ) → (c == 92) ≡ false → (c == 123) ≡ false → (c == 125) ≡ false → IsBalanced v → IsBalanced (c ∷ v)
  braces : (u v : List ℕ) → IsBalanced u → IsBalanced v → IsBalanced (123 ∷ (u ++ 125 ∷ v))

-- The text, where r follows, has no character of a kind outside its escapes. It is a row of parts, each of them a backslash with all the characters that it takes, or another character that is not of the kind.
pub data IsFreeOf (kind : ℕ → Bool) (r : List ℕ) : List ℕ → Type 0 where
  nothing : IsFreeOf kind r []
  escaped : (e v : List ℕ) → (escape (e ++ (v ++ r))).1 ≡ length e → IsFreeOf kind r v → IsFreeOf kind r (92 ∷ (e ++ v))
  other : (c : ℕ) (v : List ℕ) → (c == 92) ≡ false → kind c ≡ false → IsFreeOf kind r v → IsFreeOf kind r (c ∷ v)

abbrev pub is_quote : ℕ → Bool
is_quote c = c == 34

-- something other than an opening mark comes first
abbrev pub BeginsBare : List ℕ → Type 0
BeginsBare [] = ⊥
BeginsBare (c ∷ cs) = ((c == 123) ≡ false) × ((c == 34) ≡ false)

-- The text s spells the element x where r follows: in braces, which keep it as it is; in quotes, with its escapes read; or bare, with its escapes read.
pub data IsSpelling (x r : List ℕ) : List ℕ → Type 0 where
  braced : IsBalanced x → IsSpelling x r (123 ∷ (x ++ 125 ∷ []))
  quoted : (u : List ℕ) → IsFreeOf is_quote (34 ∷ r) u → x ≡ unescape u → IsSpelling x r (34 ∷ (u ++ 34 ∷ []))
  bare : (u : List ℕ) → BeginsBare u → IsFreeOf is_space r u → x ≡ unescape u → IsSpelling x r u

-- The text t is white space, a spelling of the element x, and the rest r, which is empty or begins with white space.
pub record BeginsWith (x r t : List ℕ) : Type 0 where
  pub space : List ℕ
  pub spelling : List ℕ
  pub text : t ≡ space ++ (spelling ++ r)
  pub only_space : AllSpace space
  pub spelled : IsSpelling x r spelling
  pub ended : is_end r ≡ true

-- The text is a list of these elements. White space alone is the empty list.
abbrev pub IsListOf : List (List ℕ) → List ℕ → Type 0
IsListOf [] t = AllSpace t
IsListOf (x ∷ xs) t = (r : List ℕ) × BeginsWith x r t × IsListOf xs r

-- The text begins with no element: the mark that it begins with is never closed, or something follows the closing mark.
pub data IsFlawed : ListFlaw → List ℕ → Type 0 where
  open_brace : (u : List ℕ) → ((v r : List ℕ) → IsBalanced v → u ≡ v ++ 125 ∷ r → ⊥) → IsFlawed MissingBrace (123 ∷ u)
  open_quote : (u : List ℕ) → ((v r : List ℕ) → IsFreeOf is_quote (34 ∷ r) v → u ≡ v ++ 34 ∷ r → ⊥) → IsFlawed MissingQuote (34 ∷ u)
  after_brace : (v r : List ℕ) → IsBalanced v → is_end r ≡ false → IsFlawed (TextAfterBrace r) (123 ∷ (v ++ 125 ∷ r))
  after_quote : (v r : List ℕ) → IsFreeOf is_quote (34 ∷ r) v → is_end r ≡ false → IsFlawed (TextAfterQuote r) (34 ∷ (v ++ 34 ∷ r))

-- The flaw is the first of the text from the left: elements may stand before it.
pub data HasFlaw (f : ListFlaw) : List ℕ → Type 0 where
  here : (space s : List ℕ) → AllSpace space → IsFlawed f s → HasFlaw f (space ++ s)
  later : (x r t : List ℕ) → BeginsWith x r t → HasFlaw f r → HasFlaw f t
