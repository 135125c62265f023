use Rattle.std.proofs.Common.{◌≡◌, refl, ap, ◌∙◌, subst, [], None, Some, w64}
use Rattle.std.proofs.lemmas.Int.{to_z-of_z}
use Rattle.std.specs.Str.{chars}
use Rattle.tclv_shell.specs.FileEnds.{error_of_number}
use Rattle.tclv_shell.specs.Halts.{seen}
use Rattle.tclv_shell.specs.Run.{FollowsBehind, at_file_end}
use Rattle.tclv_shell.proofs.Joins.{out_of_memory_behind, done_behind_follows}
use Rattle.tclv_shell.proofs.script_ends.end_file.Goals as goal

pub returns-in-Ok-None-clause-follows : goal.returns-in-Ok-None-clause-follows
returns-in-Ok-None-clause-follows g c =
    let s = seen (g.O.Outside.told c.args.out.now) (g.O.Outside.faults c.args.out.now) (g.O.Outside.torn c.args.out.now) in
    let kept = ap (λ n. error_of_number n (chars c.args.text.now)) (to_z-of_z w64 c.args.number c.ranges.number) in
    let error : None ≡ error_of_number c.args.number (chars c.args.text.now) = (rw c.in-Ok-None.field-0-is at c.in-Ok-None.ensures) ∙ kept in
    subst (λ error. FollowsBehind c.args.done (λ w. at_file_end [] 0 error) (g.O.Outside.told c.args.out.now) s s c.done_behind.result) error
    (done_behind_follows c.args.done 0 (g.O.Outside.told c.args.out.now) s c.done_behind.result refl c.done_behind.ensures.end c.done_behind.ensures.status c.done_behind.ensures.writes)

pub returns-in-Ok-Some-clause-follows : goal.returns-in-Ok-Some-clause-follows
returns-in-Ok-Some-clause-follows g c =
    let b = seen (g.O.Outside.told c.args.out.now) (g.O.Outside.faults c.args.out.now) (g.O.Outside.torn c.args.out.now) in
    let a = seen (g.O.Outside.told c.say_behind.new.out) (g.O.Outside.faults c.say_behind.new.out) (g.O.Outside.torn c.say_behind.new.out) in
    let kept = ap (λ n. error_of_number n (chars c.args.text.now)) (to_z-of_z w64 c.args.number c.ranges.number) in
    let error : Some c.in-Ok-Some.message.items ≡ error_of_number c.args.number (chars c.args.text.now) = (rw c.in-Ok-Some.field-0-is at c.in-Ok-Some.ensures) ∙ kept in
    subst (λ error. FollowsBehind c.args.done (λ w. at_file_end [] 0 error) (g.O.Outside.told c.args.out.now) b a c.say_behind.result) error c.say_behind.ensures.follows

pub returns-in-Err-clause-follows : goal.returns-in-Err-clause-follows
returns-in-Err-clause-follows g c =
    out_of_memory_behind c.args.done (λ w. at_file_end [] 0 (error_of_number c.args.number (chars c.args.text.now))) (g.O.Outside.told c.args.out.now) (seen (g.O.Outside.told c.args.out.now) (g.O.Outside.faults c.args.out.now) (g.O.Outside.torn c.args.out.now)) c.cut_short.result refl c.cut_short.ensures.end c.cut_short.ensures.status c.cut_short.ensures.writes
