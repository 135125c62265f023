-- The state that a script file starts in.
use Rattle.std.proofs.Common.{◌≡◌, length, ◌∙◌, ap, refl, pos}
use Rattle.std.specs.Prelude.{codes, map}
use Rattle.std.specs.Str.{chars}
use Rattle.tclv_text.specs.Numbers.{whole_text}
use Rattle.tclv_text.specs.Quotes.{list_text}
use Rattle.tclv_io.specs.World.{World}
use Rattle.tclv_engine.specs.State.{Text}
use Rattle.tclv_interp.specs.Commands.{State}
use Rattle.tclv_engine.specs.Variables.{assign}
use Rattle.tclv_interp.specs.Interpreters.{blank}
use Rattle.tclv_shell.specs.Words.{Invocation}
use Rattle.tclv_shell.specs.Run.{start, with_variable}

-- a variable was set, whose name and value these are in other words, from what is this state
pub set_in : (name name' value value' : Text) (st st' after : State) → after ≡ (assign name value st).after → name ≡ name' → value ≡ value' → st ≡ st' → after ≡ with_variable name' value' st'
set_in name name' value value' st st' after is e f g = is ∙ ap (λ n. with_variable n value st) e ∙ ap (λ v. with_variable name' v st) f ∙ ap (with_variable name' value') g

pub started : (i : Invocation) (w : World) (s : State) → s ≡ with_variable (codes "argc") (whole_text (pos (length i.args))) (with_variable (codes "argv") (list_text (map chars i.args)) (with_variable (codes "argv0") (chars i.file) (blank i.budget w))) → s ≡ start i w
unfolding start
started i w s e = e

pub is_argv0 : chars (codes "argv0") ≡ codes "argv0"
unfolding chars
is_argv0 = refl

pub is_argc : chars (codes "argc") ≡ codes "argc"
unfolding chars
is_argc = refl

pub is_argv : chars (codes "argv") ≡ codes "argv"
unfolding chars
is_argv = refl
