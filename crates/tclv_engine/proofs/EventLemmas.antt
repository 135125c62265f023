-- What nothing of an event does.
use Rattle.std.proofs.Common.{◌≡◌, ℕ, List, [], ◌∷◌, sym, ◌∙◌, ap, refl, Some, Bool, true, false, cond}
use Rattle.std.specs.Prelude.{Option, None}
use Rattle.std.proofs.lemmas.List.{append-nil}
use Rattle.std.specs.FinMap as map
use Rattle.std.specs.FinMap.{get-insert, get_tied, same_map, nat_cmp-IsAntisymmetric, slice_cmp-IsAntisymmetric}
use Rattle.std.specs.Cmp.Lexicographic.{slice_cmp, nat_list_cmp_total}
use Rattle.std.specs.Ordering.{nat_cmp, eq_by_cmp, is_eq}
use Rattle.std.specs.declared.cmp.Ordering.{Ordering}
use Rattle.std.specs.declared.cmp.Ordering.TheVariants.{Less, Equal, Greater}
use Rattle.tclv_io.specs.World.{Out, Output, Errors, File, add, Files}
use Rattle.tclv_io.specs.Events.{Event, Made, Wrote, partly}

tied : (r : Ordering) → is_eq r ≡ true → r ≡ Equal
tied Less e = cc
tied Equal e = refl
tied Greater e = cc

same_at : (files : Files) (name bytes q : List ℕ) → map.get files name ≡ Some bytes → (b : Bool) → eq_by_cmp (slice_cmp nat_cmp) q name ≡ b → cond b (Some bytes) (map.get files q) ≡ map.get files q
same_at files name bytes q e true t = sym e ∙ get_tied nat_list_cmp_total files q name (tied _ t)
same_at files name bytes q e false t = refl

-- to put what stands there
insert_same : (files : Files) (name bytes : List ℕ) → map.get files name ≡ Some bytes → map.insert files name bytes ≡ files
insert_same files name bytes e = same_map nat_list_cmp_total (slice_cmp-IsAntisymmetric nat_cmp-IsAntisymmetric) _ _ (λ q. get-insert nat_list_cmp_total files name bytes q ∙ same_at files name bytes q e _ refl)

file_nil : (o : Out) (name : List ℕ) (x : Option (List ℕ)) → map.get o.files name ≡ x → add o (File name) [] ≡ o
file_nil o name None e = rw (add, e)
file_nil o name (Some old) e = rw (add, e) (ap (λ m. record o { files = m }) (ap (map.insert o.files name) (append-nil old) ∙ insert_same o.files name old e))

pub no_part : (o : Out) (es : List Event) → partly 0 o es ≡ o
no_part o [] = refl
no_part o (Made mode name ∷ es) = refl
no_part o (Wrote (File name) piece ∷ es) = file_nil o name _ refl
no_part o (Wrote Output piece ∷ es) = ap (λ x. record o { output = x }) (append-nil o.output)
no_part o (Wrote Errors piece ∷ es) = ap (λ x. record o { errors = x }) (append-nil o.errors)
