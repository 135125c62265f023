-- How a list of events goes on, and what a run that is cut short reports.
use Rattle.std.proofs.Common.{◌≡◌, ℕ, ◌≤◌, List, [], ◌∷◌, ◌++◌, sym, ◌∙◌, ap, refl, subst, arith, Some, Err}
use Rattle.std.specs.Prelude.{Option, None}
use Rattle.std.proofs.lemmas.List.{append-nil}
use Rattle.tclv_io.specs.World.{World, Out, Output, Errors, File, add, Files}
use Rattle.std.proofs.Common.{Bool, true, false, cond}
use Rattle.std.specs.FinMap as map
use Rattle.std.specs.FinMap.{get-insert, get_tied, same_map, nat_cmp-IsAntisymmetric, slice_cmp-IsAntisymmetric}
use Rattle.std.specs.Cmp.Lexicographic.{slice_cmp, nat_list_cmp_total}
use Rattle.std.specs.Ordering.{nat_cmp, eq_by_cmp, is_eq}
use Rattle.std.specs.declared.cmp.Ordering.{Ordering}
use Rattle.std.specs.declared.cmp.Ordering.TheVariants.{Less, Equal, Greater}
use Rattle.tclv_io.specs.Events.{Event, Made, Wrote, After, partly, after_all, apply, next_length, shown}
use Rattle.tclv_model.specs.declared.reports.Report.{Report}
use Rattle.tclv_model.specs.declared.reports.End.TheVariants as end
use Rattle.tclv_shell.specs.declared.halts.Halt.{Halt}
use Rattle.tclv_shell.specs.declared.halts.Halt.TheVariants.{Device, Memory}
use Rattle.tclv_shell.specs.Halts.{HaltCause, end_of, Seen, SeesSame}
use Rattle.tclv_shell.specs.Run.{Meaning, Follows, status_of, HasStatus, IsComplete}

tied : (r : Ordering) → is_eq r ≡ true → r ≡ Equal
tied Less e = cc
tied Equal e = refl
tied Greater e = cc

same_at : (files : Files) (name bytes q : List ℕ) → map.get files name ≡ Some bytes → (b : Bool) → eq_by_cmp (slice_cmp nat_cmp) q name ≡ b → cond b (Some bytes) (map.get files q) ≡ map.get files q
same_at files name bytes q e true t = sym e ∙ get_tied nat_list_cmp_total files q name (tied _ t)
same_at files name bytes q e false t = refl

-- to put what stands there
insert_same : (files : Files) (name bytes : List ℕ) → map.get files name ≡ Some bytes → map.insert files name bytes ≡ files
insert_same files name bytes e = same_map nat_list_cmp_total (slice_cmp-IsAntisymmetric nat_cmp-IsAntisymmetric) _ _ (λ q. get-insert nat_list_cmp_total files name bytes q ∙ same_at files name bytes q e _ refl)

file_nil : (o : Out) (name : List ℕ) (x : Option (List ℕ)) → map.get o.files name ≡ x → add o (File name) [] ≡ o
file_nil o name None e = rw (add, e)
file_nil o name (Some old) e = rw (add, e) (ap (λ m. record o { files = m }) (ap (map.insert o.files name) (append-nil old) ∙ insert_same o.files name old e))

pub no_part : (o : Out) (es : List Event) → partly 0 o es ≡ o
no_part o [] = refl
no_part o (Made mode name ∷ es) = refl
no_part o (Wrote (File name) piece ∷ es) = file_nil o name _ refl
no_part o (Wrote Output piece ∷ es) = ap (λ x. record o { output = x }) (append-nil o.output)
no_part o (Wrote Errors piece ∷ es) = ap (λ x. record o { errors = x }) (append-nil o.errors)

pub after_all-append : (xs ys : List Event) (o : Out) → after_all o (xs ++ ys) ≡ after_all (after_all o xs) ys
after_all-append [] ys o = refl
after_all-append (x ∷ xs) ys o = after_all-append xs ys (apply o x)

pub begun : (o : Out) (es rest : List Event) (part : ℕ) → part ≤ next_length es → partly part o (es ++ rest) ≡ partly part o es
begun o [] rest part h = let z : part ≡ 0 = omega arith in rw z (no_part o rest)
begun o (Made mode name ∷ es) rest part h = refl
begun o (Wrote target piece ∷ es) rest part h = refl

pub within : (es rest : List Event) (part : ℕ) → part ≤ next_length es → part ≤ next_length (es ++ rest)
within [] rest part h = omega arith
within (Made mode name ∷ es) rest part h = h
within (Wrote target piece ∷ es) rest part h = h

-- nothing happened before the run was cut short
pub nothing_follows : (T : Type 0) (meaning : World → Meaning) (halt : Halt) (told : Option World) (b a : Seen) (report : Report) → b.shown ≡ shown told → SeesSame b a → HaltCause {T = T} b a (Err halt) → report.end ≡ end_of halt → report.status ≡ status_of (end_of halt) → report.writes ≡ 0 → Follows meaning told b a report
nothing_follows T meaning Device told b a report is_told same cause is status writes = record {
  all = λ w wo fin. absurd (subst IsComplete is fin);
  prefix = λ w wo short. record {
    part = 0;
    torn = same.torn w.out (is_told ∙ ap shown wo);
    writes = omega (arith, writes);
    within = omega arith;
    none = λ h. refl;
    out = same.shown ∙ is_told ∙ ap shown wo ∙ ap Some (sym (no_part w.out (meaning w).events)) ∙ ap (λ n. Some (After w.out (meaning w).events n 0)) (sym writes);
  };
  device = λ h. cause.1;
  fault = λ h. is;
  later = cause.0;
  status = subst (λ e. HasStatus e report.status) (sym is) status;
}
nothing_follows T meaning Memory told b a report is_told same cause is status writes = record {
  all = λ w wo fin. absurd (subst IsComplete is fin);
  prefix = λ w wo short. record {
    part = 0;
    torn = same.torn w.out (is_told ∙ ap shown wo);
    writes = omega (arith, writes);
    within = omega arith;
    none = λ h. refl;
    out = same.shown ∙ is_told ∙ ap shown wo ∙ ap Some (sym (no_part w.out (meaning w).events)) ∙ ap (λ n. Some (After w.out (meaning w).events n 0)) (sym writes);
  };
  device = λ h. let no : end.Memory ≡ end.Device = sym is ∙ h in cc;
  fault = λ h. absurd (omega (arith, cause));
  later = omega (arith, cause);
  status = subst (λ e. HasStatus e report.status) (sym is) status;
}
