use Rattle.std.proofs.Common.{◌≡◌, ◌<◌, ◌≤◌, ◌++◌, rules, arith, refl, ◌∙◌, length}
use Rattle.tclv_engine.specs.Frames.{names_of}
use Rattle.tclv_engine.proofs.FrameLemmas.{names_length, name_at}
use Rattle.tclv_interp.proofs.ProcInfoLemmas.{names_step, names_end}
use Rattle.tclv_interp.proofs.proc_info.push_names.Goals as goal

pub loop-i-init : goal.loop-i-init
loop-i-init c = record { pushed = refl; same = record { vars = refl; cells = refl } }

pub loop-i-preserved : goal.loop-i-preserved
loop-i-preserved c =
    let params = c.args.params.now in
    let inside : c.loop-i.i < length params = search rules in
    record {
      pushed = names_step (c.args.values.now.store.stack ++ names_of params) c.loop-i.values.store.stack c.push_text.new.self.store.stack (names_of params) c.loop-i.i _ (omega (arith, inside, names_length params))
          (c.bytes.ensures.text ∙ name_at params c.loop-i.i _ inside) c.loop-i.invariant.pushed c.in_ok-push_text.ensures.pushed;
      same = record { vars = c.in_ok-push_text.ensures.same.vars ∙ c.loop-i.invariant.same.vars; cells = c.in_ok-push_text.ensures.same.cells ∙ c.loop-i.invariant.same.cells };
    }

pub returns-in_err-push_text-clause-same : goal.returns-in_err-push_text-clause-same
returns-in_err-push_text-clause-same c =
    record { vars = c.push_text.ensures.same.vars ∙ c.loop-i.invariant.same.vars; cells = c.push_text.ensures.same.cells ∙ c.loop-i.invariant.same.cells }

pub returns-clause-pushed : goal.returns-clause-pushed
returns-clause-pushed c =
    let params = c.args.params.now in
    let ended : length params ≤ c.loop-i.i = search rules in
    names_end (c.args.values.now.store.stack ++ names_of params) c.loop-i.values.store.stack (names_of params) c.loop-i.i (omega (arith, ended, names_length params)) c.loop-i.invariant.pushed
