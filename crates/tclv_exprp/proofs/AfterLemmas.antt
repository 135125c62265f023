-- Items read so far, before those that are still to be read.
use Rattle.std.proofs.Common.{◌≡◌, List, [], ◌++◌, Ok, Err, refl, sym, ap, append_assoc}
use Rattle.tclv_exprp.specs.Outcomes.{Outcome, after}

pub after_after : {A : Type 0} (xs ys : List A) (r : Outcome (List A)) → after xs (after ys r) ≡ after (xs ++ ys) r
after_after xs ys (Ok p) = ap (λ l. Ok (l, p.1)) (sym (append_assoc xs ys p.0))
after_after xs ys (Err e) = refl

pub after_none : {A : Type 0} (r : Outcome (List A)) → after [] r ≡ r
after_none (Ok p) = refl
after_none (Err e) = refl
