-- A run that goes on behind the events of a script, and one that is cut short among them.
use Rattle.std.proofs.Common.{◌≡◌, ℕ, ◌+◌, ◌<◌, ◌≤◌, List, [], ◌++◌, length, take, drop, sym, ◌∙◌, ap, refl, subst, arith, Some, Err, length-append}
use Rattle.std.specs.Prelude.{Option}
use Rattle.std.proofs.Math.Seq.{take-append_seam, drop-append_seam, take-add}
use Rattle.std.proofs.lemmas.List.{drop-drop}
use Rattle.tclv_io.specs.World.{World, Out}
use Rattle.tclv_io.specs.Causes.{Rose}
use Rattle.tclv_io.specs.Events.{Event, After, partly, after_all, next_length, shown}
use Rattle.tclv_model.specs.declared.reports.Report.{Report}
use Rattle.tclv_model.specs.declared.reports.End.{End}
use Rattle.tclv_model.specs.declared.reports.End.TheVariants as end
use Rattle.tclv_shell.specs.declared.halts.Halt.{Halt}
use Rattle.tclv_shell.specs.declared.halts.Halt.TheVariants.{Device, Memory}
use Rattle.tclv_shell.specs.Halts.{HaltCause, Seen, end_of}
use Rattle.tclv_shell.specs.Run.{Meaning, Follows, FollowsBehind, without_message, MeansAll, MeansPrefix, HasStatus, status_of, IsComplete, IsCutShort}
use Rattle.tclv_shell.proofs.Plays.{after_all-append, nothing_follows}
use Rattle.tclv_shell.proofs.MessageEnds.{after_whole, after_cut, next_cut, count_cut}

-- ---- events behind others

take_behind : (es ys : List Event) (k : ℕ) → take (length es + k) (es ++ ys) ≡ es ++ take k ys
take_behind es ys k =
    take-add (length es) k (es ++ ys)
    ∙ ap (λ xs. xs ++ take k (drop (length es) (es ++ ys))) (take-append_seam es ys)
    ∙ ap (λ xs. es ++ take k xs) (drop-append_seam es ys)

drop_behind : (es ys : List Event) (k : ℕ) → drop (length es + k) (es ++ ys) ≡ drop k ys
drop_behind es ys k = sym (drop-drop k (length es) (es ++ ys)) ∙ ap (drop k) (drop-append_seam es ys)

after_behind : (o : Out) (es ys : List Event) (k part : ℕ) → After o (es ++ ys) (length es + k) part ≡ After (after_all o es) ys k part
after_behind o es ys k part =
    ap (λ xs. partly part (after_all o xs) (drop (length es + k) (es ++ ys))) (take_behind es ys k)
    ∙ ap (partly part (after_all o (es ++ take k ys))) (drop_behind es ys k)
    ∙ ap (λ x. partly part x (drop k ys)) (after_all-append es (take k ys) o)

-- What a run did and means before it goes on: its events all happened, and the meaning goes on as `inner` does from the world that they left.
pub record GoesOn (meaning : Meaning) (inner : World → Meaning) (before : Out) (took : ℕ) (tells : Option World) (now : Seen) (done : ℕ) : Type 0 where
  pub events : List Event
  pub world : World
  pub told : tells ≡ Some world
  pub out : world.out ≡ after_all before events
  pub torn : now.torn ≡ took
  pub count : done ≡ length events
  pub joined : meaning.events ≡ events ++ (inner world).events
  pub end : meaning.end ≡ (inner world).end
  pub status : meaning.status ≡ (inner world).status

same_after : (o p : Out) (all es ys : List Event) (n k m part : ℕ) → p ≡ after_all o es → all ≡ es ++ ys → k ≡ length es → n ≡ k + m → After p ys m part ≡ After o all n part
same_after o p all es ys n k m part out is count sum =
    ap (λ x. After x ys m part) out
    ∙ sym (after_behind o es ys m part)
    ∙ ap (λ j. After o (es ++ ys) (j + m) part) (sym count)
    ∙ ap (λ j. After o (es ++ ys) j part) (sym sum)
    ∙ ap (λ xs. After o xs n part) (sym is)

same_next : (all es ys : List Event) (n k m part : ℕ) → all ≡ es ++ ys → k ≡ length es → n ≡ k + m → part ≤ next_length (drop m ys) → part ≤ next_length (drop n all)
same_next all es ys n k m part is count sum h =
    let same : drop m ys ≡ drop n all =
    sym (drop_behind es ys m) ∙ ap (λ j. drop (j + m) (es ++ ys)) (sym count) ∙ ap (λ j. drop j (es ++ ys)) (sym sum) ∙ ap (drop n) (sym is) in
    subst (λ xs. part ≤ next_length xs) same h

all_joined : (meaning : Meaning) (inner : World → Meaning) (o : Out) (torn : ℕ) (told : Option World) (m a : Seen) (n : ℕ) (r report : Report) (g : GoesOn meaning inner o torn told m n) → report.end ≡ r.end → report.status ≡ r.status → report.writes ≡ n + r.writes → MeansAll (inner g.world) g.world.out a.shown r → MeansAll meaning o a.shown report
all_joined meaning inner o torn told m a n r report g end status writes all = record {
  end = end ∙ all.end ∙ sym g.end;
  status = status ∙ all.status ∙ sym g.status;
  writes = omega (arith, writes, all.writes, g.count, ap length g.joined, length-append g.events (inner g.world).events);
  out = all.out ∙ ap Some (same_after o g.world.out meaning.events g.events (inner g.world).events report.writes n r.writes 0 g.out g.joined g.count writes);
}

prefix_joined : (meaning : Meaning) (inner : World → Meaning) (o : Out) (torn : ℕ) (told : Option World) (m a : Seen) (n : ℕ) (r report : Report) (g : GoesOn meaning inner o torn told m n) → report.end ≡ r.end → report.writes ≡ n + r.writes → MeansPrefix (inner g.world) g.world.out a.shown m.torn a.torn r → MeansPrefix meaning o a.shown torn a.torn report
prefix_joined meaning inner o torn told m a n r report g end writes prefix = record {
  part = prefix.part;
  torn = prefix.torn ∙ ap (λ t. t + prefix.part) g.torn;
  writes = omega (arith, writes, prefix.writes, g.count, ap length g.joined, length-append g.events (inner g.world).events);
  within = same_next meaning.events g.events (inner g.world).events report.writes n r.writes prefix.part g.joined g.count writes prefix.within;
  none = λ h. prefix.none (sym end ∙ h);
  out = prefix.out ∙ ap Some (same_after o g.world.out meaning.events g.events (inner g.world).events report.writes n r.writes prefix.part g.out g.joined g.count writes);
}

-- a run goes on, and what follows is as `inner` says
pub goes_on_follows : (meaning inner : World → Meaning) (told now : Option World) (b m a : Seen) (n : ℕ) (r report : Report) → ((w : World) → told ≡ Some w → GoesOn (meaning w) inner w.out b.torn now m n) → m.faults ≡ b.faults → Follows inner now m a r → report.end ≡ r.end → report.status ≡ r.status → report.writes ≡ n + r.writes → Follows meaning told b a report
goes_on_follows meaning inner told now b m a n r report goes calm follows end status writes = record {
  all = λ w e fin. let g = goes w e in all_joined (meaning w) inner w.out b.torn now m a n r report g end status writes (follows.all g.world g.told (subst IsComplete end fin));
  prefix = λ w e short. let g = goes w e in prefix_joined (meaning w) inner w.out b.torn now m a n r report g end writes (follows.prefix g.world g.told (subst IsCutShort end short));
  device = λ h. subst (λ n. Rose n a.faults) calm (follows.device (sym end ∙ h));
  fault = λ h. end ∙ follows.fault (subst (λ n. n < a.faults) (sym calm) h);
  later = subst (λ n. n ≤ a.faults) calm follows.later;
  status = subst (λ e. HasStatus e report.status) (sym end) (subst (HasStatus r.end) (sym status) follows.status);
}

-- ---- all of it

-- the events of a meaning all happened, and no write failed
pub record Whole (meaning : Meaning) (before : Out) (torn : ℕ) (now : Seen) (report : Report) : Type 0 where
  pub out : now.shown ≡ Some (after_all before meaning.events)
  pub count : report.writes ≡ length meaning.events
  pub end : report.end ≡ meaning.end
  pub status : report.status ≡ meaning.status

not_both : (e : End) → IsComplete e → IsCutShort e → ⊥
not_both end.Done c s = s
not_both end.Failed c s = s
not_both end.Usage c s = s
not_both end.Budget c s = s
not_both end.Device c s = c
not_both end.Memory c s = c

pub whole_follows : (meaning : World → Meaning) (told : Option World) (b a : Seen) (report : Report) → ((w : World) → told ≡ Some w → Whole (meaning w) w.out b.torn a report) → IsComplete report.end → a.faults ≡ b.faults → HasStatus report.end report.status → Follows meaning told b a report
whole_follows meaning told b a report whole fin calm status = record {
  all = λ w e h.
      let g = whole w e in
      record { end = g.end; status = g.status; writes = g.count; out = g.out ∙ ap Some (sym (after_whole w.out (meaning w).events report.writes g.count)) };
  prefix = λ w e short. absurd (not_both report.end fin short);
  device = λ h. absurd (subst IsComplete h fin);
  fault = λ h. absurd (omega (arith, calm));
  later = omega (arith, calm);
  status = status;
}

-- ---- a part of it

-- the first events of a meaning happened, and `part` bytes of the next
pub record CutAt (meaning : Meaning) (before : Out) (took : ℕ) (now : Seen) (done : ℕ) (part : ℕ) : Type 0 where
  pub first : List Event
  pub rest : List Event
  pub more : List Event
  pub split : meaning.events ≡ (first ++ rest) ++ more
  pub out : now.shown ≡ Some (partly part (after_all before first) rest)
  pub within : part ≤ next_length rest
  pub torn : now.torn ≡ took + part
  pub count : done ≡ length first

-- what each halt says of the part
abbrev pub Part : Halt → ℕ → Type 0
Part Device part = Unit {0}
Part Memory part = part ≡ 0

no_part_of : (halt : Halt) (part : ℕ) → end_of halt ≡ end.Memory → Part halt part → part ≡ 0
no_part_of Device part e whole = let no : end.Device ≡ end.Memory = e in cc
no_part_of Memory part e whole = whole

cut_out : (all first rest more : List Event) (o : Out) (part n : ℕ) (x : Option Out) → all ≡ (first ++ rest) ++ more → part ≤ next_length rest → n ≡ length first → x ≡ Some (partly part (after_all o first) rest) → x ≡ Some (After o all n part)
cut_out all first rest more o part n x split within count out =
    out ∙ ap Some (sym (
    ap (λ xs. After o xs n part) split
    ∙ ap (λ j. After o ((first ++ rest) ++ more) j part) count
    ∙ after_cut o (first ++ rest) first rest more part refl within))

cut_prefix : (meaning : Meaning) (o : Out) (torn : ℕ) (halt : Halt) (part : ℕ) (a : Seen) (report : Report) → CutAt meaning o torn a report.writes part → report.end ≡ end_of halt → Part halt part → MeansPrefix meaning o a.shown torn a.torn report
cut_prefix meaning o torn halt part a report g is whole = record {
  part = part;
  torn = g.torn;
  writes = omega (arith, g.count, ap length g.split, count_cut (g.first ++ g.rest) g.first g.rest g.more refl);
  within = subst (λ n. part ≤ next_length (drop n meaning.events)) (sym g.count) (subst (λ xs. part ≤ next_length (drop (length g.first) xs)) (sym g.split) (next_cut (g.first ++ g.rest) g.first g.rest g.more part refl g.within));
  none = λ h. no_part_of halt part (sym is ∙ h) whole;
  out = cut_out meaning.events g.first g.rest g.more o part report.writes a.shown g.split g.within g.count g.out;
}

is_cut_short : (halt : Halt) → IsComplete (end_of halt) → ⊥
is_cut_short Device h = h
is_cut_short Memory h = h

device_of : (halt : Halt) (b a : Seen) → HaltCause {T = ℕ} b a (Err halt) → end_of halt ≡ end.Device → Rose b.faults a.faults
device_of Device b a cause e = cause.1
device_of Memory b a cause e = let no : end.Memory ≡ end.Device = e in cc

fault_of : (halt : Halt) (b a : Seen) → HaltCause {T = ℕ} b a (Err halt) → b.faults < a.faults → end_of halt ≡ end.Device
fault_of Device b a cause h = refl
fault_of Memory b a cause h = absurd (omega (arith, cause))

later_of : (halt : Halt) (b a : Seen) → HaltCause {T = ℕ} b a (Err halt) → b.faults ≤ a.faults
later_of Device b a cause = cause.0
later_of Memory b a cause = omega (arith, cause)

status_of_halt : (halt : Halt) (status : ℕ) → status ≡ status_of (end_of halt) → HasStatus (end_of halt) status
status_of_halt Device status e = e
status_of_halt Memory status e = e

-- a run is cut short among the events of its meaning
pub cut_at_follows : (meaning : World → Meaning) (told : Option World) (halt : Halt) (b a : Seen) (report : Report) → ((w : World) → told ≡ Some w → (part : ℕ) × CutAt (meaning w) w.out b.torn a report.writes part × Part halt part) → HaltCause {T = ℕ} b a (Err halt) → report.end ≡ end_of halt → report.status ≡ status_of (end_of halt) → Follows meaning told b a report
cut_at_follows meaning told halt b a report at cause is status = record {
  all = λ w e fin. absurd (is_cut_short halt (subst IsComplete is fin));
  prefix = λ w e short. let g = at w e in cut_prefix (meaning w) w.out b.torn halt g.0 a report g.1 is g.2;
  device = λ h. device_of halt b a cause (sym is ∙ h);
  fault = λ h. is ∙ fault_of halt b a cause h;
  later = later_of halt b a cause;
  status = subst (λ e. HasStatus e report.status) (sym is) (status_of_halt halt report.status status);
}

-- ---- behind events

-- memory ran out, and nothing more happened
pub out_of_memory_behind : (done : ℕ) (meaning : World → Meaning) (told : Option World) (s : Seen) (report : Report) → s.shown ≡ shown told → report.end ≡ end.Memory → report.status ≡ 123 → report.writes ≡ done → FollowsBehind done meaning told s s report
out_of_memory_behind done meaning told s report is_told is status writes = record {
  own = record report { writes = 0 };
  end = refl;
  status = refl;
  writes = omega (arith, writes);
  follows = nothing_follows ℕ meaning Memory told s s (record report { writes = 0 }) is_told (record { shown = refl; torn = λ o e. omega arith }) refl is status refl;
}

-- the run is done
pub done_follows : (n : ℕ) (told : Option World) (s : Seen) (report : Report) → s.shown ≡ shown told → report.end ≡ end.Done → report.status ≡ n → report.writes ≡ 0 → Follows (λ w. without_message [] 0 n) told s s report
done_follows n told s report is_told is status writes =
    whole_follows (λ w. without_message [] 0 n) told s s report
    (λ w e. record { out = is_told ∙ ap shown e; count = writes; end = is; status = status })
    (subst IsComplete (sym is) tt) refl (subst (λ e. HasStatus e report.status) (sym is) tt)

pub done_behind_follows : (done n : ℕ) (told : Option World) (s : Seen) (report : Report) → s.shown ≡ shown told → report.end ≡ end.Done → report.status ≡ n → report.writes ≡ done → FollowsBehind done (λ w. without_message [] 0 n) told s s report
done_behind_follows done n told s report is_told is status writes = record {
  own = record report { writes = 0 };
  end = refl;
  status = refl;
  writes = omega (arith, writes);
  follows = done_follows n told s (record report { writes = 0 }) is_told is status refl;
}
