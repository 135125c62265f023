-- The command of a name, and what the words of a command want.
use Rattle.std.proofs.Common.{◌≡◌, ℕ, ◌<◌, ◌≤◌, ◌-◌, List, [], length, get_or, ap, ◌∙◌, sym, true, false, arith, Option}
use Rattle.std.proofs.lemmas.List.{drop_more}
use Rattle.tclv_value.specs.Stacks.{top}
use Rattle.tclv_engine.specs.State.{Text, own_in}
use Rattle.tclv_engine.specs.Results.{bind}
use Rattle.tclv_reply.specs.Names.{is_qualified}
use Rattle.tclv_engine.specs.Names.{bytes_of}
use Rattle.tclv_engine.specs.Variables.{not_built}
use Rattle.std.specs.FinMap.{get}
use Rattle.tclv_interp.specs.declared.builtins.Target.{Target}
use Rattle.tclv_interp.specs.Builtins.{resolved, resolve}
use Rattle.tclv_interp.specs.Commands.{State, plan_of, wanted}

pub resolve-qualified : (bs : List ℕ) (name : Text) (st : State) → bs ≡ bytes_of name → is_qualified bs ≡ true → not_built st ≡ resolve name st
resolve-qualified bs name st e h =
    let t : is_qualified (bytes_of name) ≡ true = sym (ap is_qualified e) ∙ h in rw t

pub resolve-plain : (xs ys : List ℕ) (name : Text) (st : State) (o : Option Target) → xs ≡ bytes_of name → ys ≡ bytes_of name → is_qualified xs ≡ false → get (own_in st).commands ys ≡ o → resolved o name st ≡ resolve name st
resolve-plain xs ys name st o e f h k =
    let t : is_qualified (bytes_of name) ≡ false = sym (ap is_qualified e) ∙ h in
    let b : get (own_in st).commands (bytes_of name) ≡ o = sym (ap (λ x. get (own_in st).commands x) f) ∙ k in
    ap (λ x. resolved x name st) (sym b) ∙ rw t

pub plan-some : (n : ℕ) (stack : List Text) (st : State) → 0 < n → n ≤ length stack →
    bind (resolve (get_or stack (length stack - n) []) st) (λ t s1. wanted t (top n stack) s1) ≡ plan_of (top n stack) st
unfolding plan_of
plan-some n stack st h k =
    let words = drop_more stack (length stack - n) [] (omega (arith, h, k)) in
    ap (λ ws. bind (resolve (get_or stack (length stack - n) []) st) (λ t s1. wanted t ws s1)) words ∙ sym (ap (λ ws. plan_of ws st) words)
