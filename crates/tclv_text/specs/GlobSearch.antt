-- How far a search for the text of a glob pattern has come.
use Rattle.std.specs.Prelude.{◌≡◌, ◌<◌, ◌+◌, ℕ, Bool, true, false, ◌&&◌, ◌==◌, if◌then◌else◌, List, [], ◌∷◌, drop, length, Option, Some, None}
use Rattle.std.specs.List.{prefix_len}
use Rattle.std.specs.Str.{chars}
use Rattle.tclv_text.specs.Texts.{IsText}
use Rattle.tclv_text.specs.Globs.{fits, somewhere, folded, is_open}
use Rattle.tclv_text.specs.declared.globs.Answer.{Answer}
use Rattle.tclv_text.specs.declared.globs.Answer.TheVariants.{Fits, Fails, Somewhere}

-- the code points that a search looks at
abbrev pub points : Bool → List ℕ → List ℕ
points nocase bs = folded nocase (chars bs)

-- the bytes are a text of these code points
pub record Shows (nocase : Bool) (bs cs : List ℕ) : Type 0 where
  pub text : IsText bs
  pub is : points nocase bs ≡ cs

-- The part of p0 before p fits one character each, n in all, and fits those of t0 before t.
pub record Passes (p0 t0 p t : List ℕ) : Type 0 where
  pub n : ℕ
  pub rest : t ≡ drop n t0
  pub same : fits p0 t0 ≡ fits p t
  pub later : (v : List ℕ) → fits p0 v ≡ true → fits p (drop n v) ≡ true

-- what stands behind a set
abbrev pub behind_set : List ℕ → List ℕ
behind_set p = drop (prefix_len is_open p + 1) p

-- the end of a range, where what follows a character makes it one
abbrev pub range_end : List ℕ → Option ℕ
range_end [] = None
range_end (d ∷ []) = None
range_end (d ∷ b ∷ s) = if (d == 45) && is_open b then Some b else None

-- what the answer says of the pattern p at the text t: that it fits, fails, or fits where the rest fits the text's rest from some place on
abbrev pub FrontSays : Bool → List ℕ → List ℕ → Answer → Type 0
FrontSays nocase p t Fits = fits p t ≡ true
FrontSays nocase p t Fails = fits p t ≡ false
FrontSays nocase p t (Somewhere q u) = Passes p t (42 ∷ points nocase q.now) (points nocase u.now)

-- what it says of the pattern p at the text t or at what is left of it from some place on
abbrev pub StepSays : Bool → List ℕ → List ℕ → Answer → Type 0
StepSays nocase p t Fits = somewhere (fits p) t ≡ true
StepSays nocase p t Fails = somewhere (fits p) t ≡ false
StepSays nocase p t (Somewhere q u) = somewhere (fits p) t ≡ somewhere (fits (points nocase q.now)) (points nocase u.now)

-- where it leaves something to do, that is texts, which are shorter by one byte or more
abbrev pub Leaves : ℕ → Answer → Type 0
Leaves size Fits = Unit {0}
Leaves size Fails = Unit {0}
Leaves size (Somewhere q u) = IsText q.now × IsText u.now × (length q.now + length u.now < size)
