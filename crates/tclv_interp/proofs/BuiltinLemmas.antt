-- The table of names, filled from a list of commands.
use Rattle.std.proofs.Common.{◌≡◌, ℕ, List, [], ◌∷◌, cond, Bool, true, false, Some, refl, ap, ◌∙◌}
use Rattle.std.specs.Prelude.{Option, if◌then◌else◌}
use Rattle.std.specs.Str.{bytes_eq}
use Rattle.std.specs.FinMap.{get, get-empty, get-insert}
use Rattle.std.specs.Cmp.Lexicographic.{nat_list_cmp_total}
use Rattle.std.proofs.lemmas.Map.Text.{is_eq-slice_cmp}
use Rattle.tclv_names.specs.Keyed.{by_text}
use Rattle.std.specs.Option.{option_map}
use Rattle.tclv_interp.specs.declared.builtins.CommandTarget.{CommandTarget}
use Rattle.tclv_interp.specs.declared.builtins.Target.TheVariants.{Builtin}
use Rattle.tclv_interp.specs.declared.builtins.TheConstants.{BUILTINS}
use Rattle.tclv_interp.specs.Builtins.{built_in, named_in, commands_of, StandsForBuiltin}

-- ---- each name stands for its command

in_branch : (b : Bool) (x : CommandTarget) (o : Option CommandTarget) → cond b (Some (Builtin x)) (option_map Builtin o) ≡ option_map Builtin (if b then Some x else o)
in_branch true x o = refl
in_branch false x o = refl

has_named : (ps : List (List ℕ × CommandTarget)) (name : List ℕ) → get (commands_of (λ n. n) ps) name ≡ option_map Builtin (named_in ps name)
has_named [] name = get-empty by_text name
has_named (p ∷ ps) name =
    get-insert nat_list_cmp_total (commands_of (λ n. n) ps) p.0 (Builtin p.1) name
    ∙ ap (λ b. cond b (Some (Builtin p.1)) (get (commands_of (λ n. n) ps) name)) (is_eq-slice_cmp name p.0)
    ∙ ap (λ o. cond (bytes_eq name p.0) (Some (Builtin p.1)) o) (has_named ps name)
    ∙ in_branch (bytes_eq name p.0) p.1 (named_in ps name)

pub stands_for : (name : List ℕ) → StandsForBuiltin name
stands_for name = has_named built_in name

-- ---- the commands that are built in

pub all_built_in : commands_of (λ name. name.now) BUILTINS ≡ commands_of (λ name. name) built_in
unfolding built_in
all_built_in = refl
