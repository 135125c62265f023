-- The rows of `global` and `upvar`.
use Rattle.std.specs.Prelude.{ℕ, ◌%◌, ◌==◌, nat_lt, Bool, if◌then◌else◌, List, [], ◌∷◌, length}
use Rattle.tclv_vars.specs.declared.places.Root.{Root}
use Rattle.tclv_vars.specs.declared.places.Root.TheVariants as root
use Rattle.tclv_vars.specs.Scoping.{is_local_at}
use Rattle.tclv_model.specs.declared.usages.Usage.TheVariants as command
use Rattle.tclv_model.specs.Usages.{usage_of}
use Rattle.tclv_engine.specs.State.{Text, State, variables_in}
use Rattle.tclv_engine.specs.Results.{Res, Outcome, bind, done, ok}
use Rattle.tclv_engine.specs.Usages.{usage}
use Rattle.tclv_engine.specs.DataAnswers.{arguments}
use Rattle.tclv_engine.specs.Links.{level, link, link_global, outer_level}

-- ---- global

-- Each name is linked before the next one is looked at.
unfoldable pub link_globals : {W : Type 0} → List Text → State W → Res W (Unit {0})
link_globals [] st = done tt st
link_globals (name ∷ names) st = bind (link_global name st) (λ u s1. link_globals names s1)

abbrev pub global_of : {W : Type 0} → List Text → State W → Res W Outcome
global_of names st = bind (link_globals names st) (λ u s1. ok [] s1)

-- the current frame is local
abbrev pub is_local : {W : Type 0} → State W → Bool
is_local st = is_local_at (variables_in st).scopes (variables_in st).scopes.current

-- `global ?varName ...?`: in a local frame each name is that of a global variable; elsewhere nothing is done.
abbrev pub row_global : {W : Type 0} → List Text → State W → Res W Outcome
row_global words st = if is_local st then global_of (arguments words) st else ok [] st

-- ---- upvar

-- Pairs of another name and a local one. Each is linked before the next one is looked at.
unfoldable pub link_pairs : {W : Type 0} → Root → List Text → State W → Res W (Unit {0})
link_pairs from (other ∷ local ∷ words) st = bind (link from other local st) (λ u s1. link_pairs from words s1)
link_pairs from words st = done tt st

-- the others stand in the frame of this level
abbrev pub pairs_of : {W : Type 0} → List Text → ℕ → State W → Res W Outcome
pairs_of words l st = bind (link_pairs (root.Level l) words st) (λ u s1. ok [] s1)

-- the first word names the level
abbrev pub upvar_inside : {W : Type 0} → List Text → State W → Res W Outcome
upvar_inside [] st = ok [] st
upvar_inside (word ∷ words) st = bind (level word st) (pairs_of words)

-- the level is that of the caller
abbrev pub upvar_outside : {W : Type 0} → List Text → State W → Res W Outcome
upvar_outside words st = bind (outer_level st) (pairs_of words)

-- With an odd number of words the first names the level; else it is that of the caller.
abbrev pub upvar_of : {W : Type 0} → List Text → State W → Res W Outcome
upvar_of args st = if length args % 2 == 1 then upvar_inside args st else upvar_outside args st

-- `upvar ?level? otherVar localVar ?otherVar localVar ...?`
abbrev pub row_upvar : {W : Type 0} → List Text → State W → Res W Outcome
row_upvar words st = if nat_lt (length (arguments words)) 2 then usage (usage_of command.Upvar) words st else upvar_of (arguments words) st
