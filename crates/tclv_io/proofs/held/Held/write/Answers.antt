use Rattle.std.proofs.Common.{◌≡◌, ap, ◌∙◌, sym, subst, Some}
use Rattle.tclv_io.specs.World.{add}
use Rattle.tclv_io.specs.World.Target.{File}
use Rattle.tclv_io.specs.Held.{world_of, opened_as, HasNumber, files_of}
use Rattle.tclv_io.proofs.NumberLemmas.{found, written_to-open, other}
use Rattle.tclv_io.proofs.held.Held.write.Goals as goal

pub returns-in_ok-append-clause-ok : goal.returns-in_ok-append-clause-ok
returns-in_ok-append-clause-ok c =
    let w = world_of c.args.self.now in
    let os = c.args.self.now.opened.items in
    let o = c.index.result.now in
    let h = subst (λ os. HasNumber os c.in-Some.i c.args.to) c.deref.ensures.value c.in-Some.ensures.found in
    let open_at = found os c.in-Some.i c.args.to h.within h.here h.before o ∙ ap (λ f. Some (opened_as f)) (sym c.index.ensures) in
    let added = subst (λ name. record w.out { files = files_of c.append.new.files.items } ≡ add w.out (File name) c.args.piece.now) c.as_str.ensures.value (c.in_ok-append.ensures.ok w.out) in
    ap (λ out. record w { out = out }) added
    ∙ sym (written_to-open w c.args.to c.args.piece.now (opened_as o) (other c.args.to 1 c.if-to-eq1.false) (other c.args.to 2 c.if-to-eq2.false) open_at)
