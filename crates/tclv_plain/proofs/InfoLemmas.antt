-- What `info` says of what its words name.
use Rattle.std.proofs.Common.{◌≡◌, ℕ, ◌+◌, ◌-◌, ◌<◌, ◌≤◌, List, [], ◌∷◌, length, drop, get_or, sym, ap, ◌∙◌, refl, arith, Some, None}
use Rattle.tclv_model.specs.declared.usages.Usage.TheVariants as command
use Rattle.tclv_model.specs.Usages.{usage_of}
use Rattle.tclv_value.specs.Stacks.{top}
use Rattle.tclv_engine.specs.Names.{bytes_of}
use Rattle.tclv_engine.specs.State.{Text, State}
use Rattle.tclv_engine.specs.Usages.{usage}
use Rattle.tclv_engine.proofs.WordLemmas.{top_length}
use Rattle.tclv_plain.specs.declared.info_commands.InfoCommand.{InfoCommand}
use Rattle.tclv_plain.specs.Subcommands.{no_subcommand}
use Rattle.tclv_plain.specs.InfoRows.{info_command, info_row, info_by, row_info}
use Rattle.tclv_plain.proofs.SubcommandLemmas.{two_first}

-- ---- subcommands

info_alone : {W : Type 0} → (words : List Text) (st : State W) → length words ≡ 1 → usage (usage_of command.Info) words st ≡ row_info words st
info_alone [] st h = refl
info_alone (a ∷ []) st h = refl
info_alone (a ∷ b ∷ ws) st h = absurd (omega (arith, h))

pub info_refused : {W : Type 0} → (stack : List Text) (n : ℕ) (st : State W) → n ≡ 1 → n ≤ length stack → usage (usage_of command.Info) (top n stack) st ≡ row_info (top n stack) st
info_refused stack n st e l = info_alone (top n stack) st (top_length stack n l ∙ e)

module _ {W : Type 0} (stack : List Text) (n base : ℕ) (st : State W) (some : 1 < n) (l : n ≤ length stack) (b : base ≡ length stack - n) where
  pub info_given : (c : InfoCommand) → info_command (bytes_of (get_or stack (base + 1) [])) ≡ Some c → info_row c (top n stack) st ≡ row_info (top n stack) st
  info_given c h =
      let first = two_first stack n base some l b in
      ap (λ ws. info_row c ws st) first
      ∙ sym (ap (λ found. info_by found (get_or stack (base + 1) []) (get_or stack base [] ∷ get_or stack (base + 1) [] ∷ drop (base + 2) stack) st) h)
      ∙ sym (ap (λ ws. row_info ws st) first)

  pub info_unknown : info_command (bytes_of (get_or stack (base + 1) [])) ≡ None → no_subcommand (get_or stack (base + 1) []) st ≡ row_info (top n stack) st
  info_unknown h =
      let first = two_first stack n base some l b in
      sym (ap (λ found. info_by found (get_or stack (base + 1) []) (get_or stack base [] ∷ get_or stack (base + 1) [] ∷ drop (base + 2) stack) st) h)
      ∙ sym (ap (λ ws. row_info ws st) first)
