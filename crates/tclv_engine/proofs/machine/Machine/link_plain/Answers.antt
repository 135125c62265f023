use Rattle.std.proofs.Common.{◌≡◌, ◌∙◌, List, ℕ, sym, ap, subst, rules, refl, Ok}
use Rattle.tclv_value.specs.View.{text_at}
use Rattle.tclv_engine.specs.State.{state_of}
use Rattle.tclv_engine.specs.Results.{done}
use Rattle.tclv_engine.specs.Links.{RefusesLinking}
use Rattle.tclv_engine.proofs.Binds.{runs_as}
use Rattle.tclv_engine.proofs.Leaves.{done_runs, raise_runs}
use Rattle.tclv_engine.proofs.LinkLemmas.{link-unbuilt, link-built, linked_state, unlinked_runs}
use Rattle.tclv_engine.proofs.machine.Machine.link_plain.Goals as goal

pub returns-then-shape-clause-answer : goal.returns-then-shape-clause-answer
returns-then-shape-clause-answer g c here w told =
    let store = c.args.self.now.values.store in
    runs_as (link-unbuilt c.args.root (text_at store c.args.other) (text_at store c.args.local) (state_of c.args.self.now w) (sym (ap (λ s. s.qualified) c.shape_at-shape.ensures) ∙ c.if-shape.true))
    (raise_runs c.args.self.now told c.not_built.ensures.same c.not_built.ensures.raises)

pub returns-in-Ok-clause-answer : goal.returns-in-Ok-clause-answer
returns-in-Ok-clause-answer g c here w told =
    let store = c.args.self.now.values.store in
    runs_as (ap (done tt) (linked_state c.args.self.now c.link.new.self w c.link.ensures.store)
    ∙ link-built c.args.root (text_at store c.args.other) (text_at store c.args.local) (state_of c.args.self.now w) (Ok c.link.new.self.vars) (sym (ap (λ s. s.qualified) c.shape_at-shape.ensures) ∙ c.if-shape.false) c.in-Ok.ensures.linked)
    (done_runs told refl tt)

pub returns-in-Err-clause-answer : goal.returns-in-Err-clause-answer
returns-in-Err-clause-answer g c here w told =
    let store = c.args.self.now.values.store in
    let after = c.refuse_link.new.self.values.store.stack in
    let P : List ℕ → List ℕ → Type 0 = λ other local. RefusesLinking c.in-Err.fault other local after c.refuse_link.result in
    unlinked_runs c.args.self.now c.refuse_link.new.self w here c.args.root (text_at store c.args.other) (text_at store c.args.local) c.in-Err.fault c.refuse_link.result
    told (search rules) (sym (ap (λ s. s.qualified) c.shape_at-shape.ensures) ∙ c.if-shape.false) c.in-Err.ensures.refused
    (subst (λ s. P (text_at s c.args.other) (text_at s c.args.local)) c.link.ensures.store c.refuse_link.ensures.refuses)
