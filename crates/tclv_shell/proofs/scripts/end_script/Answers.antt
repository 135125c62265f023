use Rattle.std.proofs.Common.{◌≡◌, ◌∙◌, ap, subst, refl, [], w64, to_z, of_z}
use Rattle.std.proofs.lemmas.Int.{to_z-of_z}
use Rattle.std.specs.Str.{chars}
use Rattle.tclv_interp.specs.Interpreters.{options_at, result_of, writes_of}
use Rattle.tclv_shell.specs.FileEnds.{file_error, after_level, error_of_number}
use Rattle.tclv_shell.specs.Halts.{seen}
use Rattle.tclv_shell.specs.Run.{FollowsBehind, at_file_end}
use Rattle.tclv_shell.proofs.Joins.{out_of_memory_behind}
use Rattle.tclv_shell.proofs.scripts.end_script.Goals as goal

pub returns-in-Ok-clause-follows : goal.returns-in-Ok-clause-follows
returns-in-Ok-clause-follows g c =
    let kept = to_z w64 (of_z w64 c.after_level-number.result) in
    let number : kept ≡ after_level c.args.code (options_at c.args.interp.now) = to_z-of_z w64 c.after_level-number.result (record { sfits = c.after_level-number.type_inv }) ∙ c.after_level-number.ensures ∙ ap (after_level c.args.code) c.options.ensures in
    let error : error_of_number kept (chars c.in-Ok.text.now) ≡ file_error c.args.code (options_at c.args.interp.now) (result_of c.args.interp.now) = ap (λ n. error_of_number n (chars c.in-Ok.text.now)) number ∙ ap (error_of_number (after_level c.args.code (options_at c.args.interp.now))) c.in-Ok.ensures.text in
    let b = (seen (g.O.Outside.told c.args.out.now) (g.O.Outside.faults c.args.out.now) (g.O.Outside.torn c.args.out.now)) in
    let a = (seen (g.O.Outside.told c.end_file.new.out) (g.O.Outside.faults c.end_file.new.out) (g.O.Outside.torn c.end_file.new.out)) in
    subst (λ n. FollowsBehind n (λ w. at_file_end [] 0 (file_error c.args.code (options_at c.args.interp.now) (result_of c.args.interp.now))) (g.O.Outside.told c.args.out.now) b a c.end_file.result) c.writes-done.ensures
    (subst (λ error. FollowsBehind c.writes-done.result (λ w. at_file_end [] 0 error) (g.O.Outside.told c.args.out.now) b a c.end_file.result) error c.end_file.ensures.follows)

pub returns-in-Err-clause-follows : goal.returns-in-Err-clause-follows
returns-in-Err-clause-follows g c =
    out_of_memory_behind (writes_of c.args.interp.now) (λ w. at_file_end [] 0 (file_error c.args.code (options_at c.args.interp.now) (result_of c.args.interp.now))) (g.O.Outside.told c.args.out.now) (seen (g.O.Outside.told c.args.out.now) (g.O.Outside.faults c.args.out.now) (g.O.Outside.torn c.args.out.now)) c.cut_short.result refl c.cut_short.ensures.end c.cut_short.ensures.status (c.cut_short.ensures.writes ∙ c.writes-done.ensures)
