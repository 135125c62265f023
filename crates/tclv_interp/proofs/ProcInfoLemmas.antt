-- What `info` finds of a procedure by its name, and its rows by the count of the words.
use Rattle.std.proofs.Common.{◌≡◌, ◌++◌, ℕ, Bool, ◌+◌, ◌-◌, ◌<◌, ◌≤◌, List, [], ◌∷◌, length, drop, get_or, sym, ap, ◌∙◌, refl, arith, true, false, Option, Some, None, zero, suc}
use Rattle.std.specs.FinMap.{get}
use Rattle.std.proofs.lemmas.Bool.{cond-true, cond-false}
use Rattle.std.proofs.lemmas.List.{append_assoc, append-nil, drop_more, drop_all}
use Rattle.std.specs.Prelude.{codes, if◌then◌else◌}
use Rattle.std.specs.Str.{chars, bytes_eq}
use Rattle.tclv_value.specs.declared.procedures.Param.{Param}
use Rattle.tclv_model.specs.declared.usages.Usage.TheVariants as command
use Rattle.tclv_model.specs.Usages.{usage_of}
use Rattle.tclv_value.specs.Stacks.{top}
use Rattle.tclv_engine.specs.Usages.{usage}
use Rattle.tclv_plain.proofs.SubcommandLemmas.{two_first}
use Rattle.tclv_engine.proofs.WordLemmas.{top_two, top_three, top_five, top_length}
use Rattle.std.specs.declared.rc.Rc.{Rc}
use Rattle.std.specs.Rc.{rc_value}
use Rattle.tclv_value.specs.Procedures.{Procedure}
use Rattle.tclv_reply.specs.Names.{is_qualified}
use Rattle.tclv_engine.specs.State.{Text, State, own_in}
use Rattle.tclv_engine.specs.Results.{done}
use Rattle.tclv_engine.specs.Names.{bytes_of}
use Rattle.tclv_engine.specs.Frames.{names_of, rest_name}
use Rattle.tclv_engine.proofs.FrameLemmas.{args_text}
use Rattle.tclv_engine.specs.Variables.{not_built}
use Rattle.tclv_interp.specs.declared.builtins.Tables.{Tables}
use Rattle.tclv_interp.specs.declared.builtins.Target.{Target}
use Rattle.tclv_interp.specs.declared.builtins.Target.TheVariants as target
use Rattle.tclv_interp.specs.declared.proc_info.ProcInfo.{ProcInfo}
use Rattle.tclv_interp.specs.declared.proc_info.ProcInfo.TheVariants as info
use Rattle.tclv_interp.specs.ProcInfoRows.{procedure, procedure_by, no_procedure, ShowsFound, info_args, info_body, info_default, info_level, row_args, row_body, row_default, row_level, proc_info_row, proc_info, proc_info_in, defaults_of, place_from}

-- ---- by what the name stands for

pub given_by : {Z : Type 0} → (found : Option Target) (name : Text) (st : State Tables) (def : Rc Procedure Z) → ShowsFound found (Some def) → done (rc_value def) st ≡ procedure_by found name st
given_by None name st def h = absurd h
given_by (Some (target.Builtin c)) name st def h = absurd h
given_by (Some (target.Procedure d)) name st def h = ap (λ p. done p st) h

pub none_by : (Z : Type 0) (found : Option Target) (name : Text) (st : State Tables) → ShowsFound {Z = Z} found None → no_procedure name st ≡ procedure_by found name st
none_by Z None name st h = refl
none_by Z (Some (target.Builtin c)) name st h = refl
none_by Z (Some (target.Procedure d)) name st h = absurd h

module _ (xs : List ℕ) (name : Text) (st : State Tables) (e : xs ≡ bytes_of name) where
  pub procedure-qualified : is_qualified xs ≡ true → not_built st ≡ procedure name st
  procedure-qualified h = let t : is_qualified (bytes_of name) ≡ true = sym (ap is_qualified e) ∙ h in sym (cond-true _ _ _ t)

  pub procedure-plain : is_qualified xs ≡ false → procedure_by (get (own_in st).commands (bytes_of name)) name st ≡ procedure name st
  procedure-plain h = let t : is_qualified (bytes_of name) ≡ false = sym (ap is_qualified e) ∙ h in sym (cond-false _ _ _ t)

-- ---- rows by the count of the words

args-else : (words : List Text) (st : State Tables) → (length words ≡ 3 → ⊥) → usage (usage_of command.InfoArgs) words st ≡ row_args words st
args-else [] st h = refl
args-else (a ∷ []) st h = refl
args-else (a ∷ b ∷ []) st h = refl
args-else (a ∷ b ∷ c ∷ []) st h = absurd (h refl)
args-else (a ∷ b ∷ c ∷ d ∷ ws) st h = refl

body-else : (words : List Text) (st : State Tables) → (length words ≡ 3 → ⊥) → usage (usage_of command.InfoBody) words st ≡ row_body words st
body-else [] st h = refl
body-else (a ∷ []) st h = refl
body-else (a ∷ b ∷ []) st h = refl
body-else (a ∷ b ∷ c ∷ []) st h = absurd (h refl)
body-else (a ∷ b ∷ c ∷ d ∷ ws) st h = refl

default-else : (words : List Text) (st : State Tables) → (length words ≡ 5 → ⊥) → usage (usage_of command.InfoDefault) words st ≡ row_default words st
default-else [] st h = refl
default-else (a ∷ []) st h = refl
default-else (a ∷ b ∷ []) st h = refl
default-else (a ∷ b ∷ c ∷ []) st h = refl
default-else (a ∷ b ∷ c ∷ d ∷ []) st h = refl
default-else (a ∷ b ∷ c ∷ d ∷ e ∷ []) st h = absurd (h refl)
default-else (a ∷ b ∷ c ∷ d ∷ e ∷ f ∷ ws) st h = refl

level-else : (words : List Text) (st : State Tables) → (length words ≡ 2 → ⊥) → usage (usage_of command.InfoLevel) words st ≡ row_level words st
level-else [] st h = refl
level-else (a ∷ []) st h = refl
level-else (a ∷ b ∷ []) st h = absurd (h refl)
level-else (a ∷ b ∷ c ∷ ws) st h = refl

module _ (stack : List Text) (n base : ℕ) (st : State Tables) (l : n ≤ length stack) (b : base ≡ length stack - n) where
  three : n ≡ 3 → top n stack ≡ get_or stack base [] ∷ get_or stack (base + 1) [] ∷ get_or stack (base + 2) [] ∷ []
  three e = ap (λ k. top k stack) e ∙ top_three stack base (omega (arith, e, l, b))

  pub args_given : n ≡ 3 → info_args (get_or stack (base + 2) []) st ≡ row_args (top n stack) st
  args_given e = ap (λ ws. row_args ws st) (sym (three e))

  pub body_given : n ≡ 3 → info_body (get_or stack (base + 2) []) st ≡ row_body (top n stack) st
  body_given e = ap (λ ws. row_body ws st) (sym (three e))

  pub default_given : n ≡ 5 → info_default (get_or stack (base + 2) []) (get_or stack (base + 3) []) (get_or stack (base + 4) []) st ≡ row_default (top n stack) st
  default_given e = ap (λ ws. row_default ws st) (sym (ap (λ k. top k stack) e ∙ top_five stack base (omega (arith, e, l, b))))

  pub level_given : n ≡ 2 → info_level st ≡ row_level (top n stack) st
  level_given e = ap (λ ws. row_level ws st) (sym (ap (λ k. top k stack) e ∙ top_two stack base (omega (arith, e, l, b))))

  pub args_refused : (n ≡ 3 → ⊥) → usage (usage_of command.InfoArgs) (top n stack) st ≡ row_args (top n stack) st
  args_refused h = args-else (top n stack) st (λ e. h (sym (top_length stack n l) ∙ e))

  pub body_refused : (n ≡ 3 → ⊥) → usage (usage_of command.InfoBody) (top n stack) st ≡ row_body (top n stack) st
  body_refused h = body-else (top n stack) st (λ e. h (sym (top_length stack n l) ∙ e))

  pub default_refused : (n ≡ 5 → ⊥) → usage (usage_of command.InfoDefault) (top n stack) st ≡ row_default (top n stack) st
  default_refused h = default-else (top n stack) st (λ e. h (sym (top_length stack n l) ∙ e))

  pub level_refused : (n ≡ 2 → ⊥) → usage (usage_of command.InfoLevel) (top n stack) st ≡ row_level (top n stack) st
  level_refused h = level-else (top n stack) st (λ e. h (sym (top_length stack n l) ∙ e))

info-short : (words : List Text) → length words < 2 → None ≡ proc_info_in words
info-short [] h = refl
info-short (a ∷ []) h = refl
info-short (a ∷ b ∷ ws) h = absurd (omega (arith, h))

pub info_short : (stack : List Text) (n : ℕ) → n < 2 → n ≤ length stack → None ≡ proc_info_in (top n stack)
info_short stack n h l = info-short (top n stack) (omega (arith, h, top_length stack n l))

info-some : (words : List Text) (c : ProcInfo) → proc_info_in words ≡ Some c → 1 < length words
info-some [] c e = absurd cc
info-some (a ∷ []) c e = absurd cc
info-some (a ∷ b ∷ ws) c e = omega arith

pub info_some : (stack : List Text) (n : ℕ) (c : ProcInfo) → n ≤ length stack → proc_info_in (top n stack) ≡ Some c → 1 < n
info_some stack n c l e = omega (arith, info-some (top n stack) c e, top_length stack n l)

pub info_named : (stack : List Text) (n base : ℕ) → 1 < n → n ≤ length stack → base ≡ length stack - n → proc_info (bytes_of (get_or stack (base + 1) [])) ≡ proc_info_in (top n stack)
info_named stack n base some l b = sym (ap proc_info_in (two_first stack n base some l b))

-- ---- parts of a procedure

pub names_step : (whole cur new names : List Text) (k : ℕ) (t : Text) → k < length names → t ≡ get_or names k [] → whole ≡ cur ++ drop k names → new ≡ cur ++ t ∷ [] → whole ≡ new ++ drop (k + 1) names
names_step whole cur new names k t h g w e =
    let rest = drop (k + 1) names in
    w ∙ ap (λ xs. cur ++ xs) (drop_more names k [] h) ∙ ap (λ x. cur ++ x ∷ rest) (sym g) ∙ sym (append_assoc cur (t ∷ []) rest) ∙ sym (ap (λ s. s ++ rest) e)

pub names_end : (whole cur names : List Text) (k : ℕ) → length names ≤ k → whole ≡ cur ++ drop k names → cur ≡ whole
names_end whole cur names k h w = sym (w ∙ ap (λ xs. cur ++ xs) (drop_all k names h) ∙ append-nil cur)

pub rest_yes : (rest : Bool) → rest ≡ true → chars (codes "args") ∷ [] ≡ rest_name rest
rest_yes rest h = ap (λ t. t ∷ []) args_text ∙ sym (ap rest_name h)

pub default_in : (ps : List Param) (i : ℕ) (d : Param) → i < length ps → (get_or ps i d).default ≡ get_or (defaults_of ps) i None
default_in [] i d h = absurd (omega (arith, h))
default_in (p ∷ ps) zero d h = refl
default_in (p ∷ ps) (suc i) d h = default_in ps i d (omega (arith, h))

pub no_text : chars (codes "") ≡ []
unfolding chars
no_text = refl

pub place_step : (names : List Text) (k : ℕ) (name : List ℕ) (t : Text) → k < length names → t ≡ get_or names k [] →
    place_from (drop k names) name k ≡ (if bytes_eq (bytes_of t) name then Some k else place_from (drop (k + 1) names) name (k + 1))
unfolding place_from
place_step names k name t h g = ap (λ xs. place_from xs name k) (drop_more names k [] h ∙ ap (λ x. x ∷ drop (k + 1) names) (sym g))

pub place_end : (names : List Text) (k : ℕ) (name : List ℕ) → length names ≤ k → place_from (drop k names) name k ≡ None
unfolding place_from
place_end names k name h = ap (λ xs. place_from xs name k) (drop_all k names h)

-- the place is one of a name
abbrev unwrapped : Option ℕ → ℕ
unwrapped (Some a) = a
unwrapped None = 0

some-same : {a b : ℕ} → Some a ≡ Some b → a ≡ b
some-same e = ap unwrapped e

place-inside : (is : Bool) (next : Option ℕ) (k i n : ℕ) → (next ≡ Some i → i < k + 1 + n) → (if is then Some k else next) ≡ Some i → i < k + suc n
place-inside true next k i n h e = omega (arith, some-same e)
place-inside false next k i n h e = omega (arith, h e)

pub place_inside : (names : List Text) (name : List ℕ) (k i : ℕ) → place_from names name k ≡ Some i → i < k + length names
unfolding place_from
place_inside [] name k i e = absurd cc
place_inside (n ∷ ns) name k i e = place-inside (bytes_eq (bytes_of n) name) (place_from ns name (k + 1)) k i (length ns) (place_inside ns name (k + 1) i) e
