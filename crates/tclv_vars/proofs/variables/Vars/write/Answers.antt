use Rattle.std.proofs.Common.{subst}
use Rattle.std.specs.Option.{option_copied}
use Rattle.tclv_vars.specs.Table.{table_of, write, Gives}
use Rattle.tclv_vars.specs.Sound.{Sound}
use Rattle.tclv_vars.proofs.AnswerLemmas.{gives_spot, gives_fault, gives_same}
use Rattle.tclv_vars.proofs.FrameLemmas.{write_frames}
use Rattle.tclv_vars.proofs.SoundLemmas.{After-write, Sound-Gives}
use Rattle.tclv_vars.proofs.ValueLemmas.{values_write, gives_values, gives_fresh}
use Rattle.tclv_vars.proofs.variables.Vars.write.Goals as goal

pub returns-clause-written : goal.returns-clause-written
returns-clause-written c = gives_spot _ c.args.self.now c.write.result (table_of c.write.new.self)
    (subst (λ t. Gives (write t c.args.at c.args.name.now (option_copied c.args.index)) t c.write.result (table_of c.write.new.self)) c.self.view_is c.write.ensures.written)

pub returns-clause-refused : goal.returns-clause-refused
returns-clause-refused c = gives_fault _ c.args.self.now c.write.result (table_of c.write.new.self)
    (subst (λ t. Gives (write t c.args.at c.args.name.now (option_copied c.args.index)) t c.write.result (table_of c.write.new.self)) c.self.view_is c.write.ensures.written)

pub returns-clause-same : goal.returns-clause-same
returns-clause-same c = gives_same _ c.args.self.now c.write.result (table_of c.write.new.self)
    (subst (λ t. Gives (write t c.args.at c.args.name.now (option_copied c.args.index)) t c.write.result (table_of c.write.new.self)) c.self.view_is c.write.ensures.written)

pub returns-clause-value : goal.returns-clause-value
returns-clause-value c = gives_values _ c.args.self.now c.write.result (table_of c.write.new.self)
    (values_write c.args.self.now c.args.at c.args.name.now (option_copied c.args.index) (subst Sound c.self.view_is c.self.invariant))
    (subst (λ t. Gives (write t c.args.at c.args.name.now (option_copied c.args.index)) t c.write.result (table_of c.write.new.self)) c.self.view_is c.write.ensures.written)

pub returns-clause-fresh : goal.returns-clause-fresh
returns-clause-fresh c = gives_fresh _ c.args.self.now c.write.result (table_of c.write.new.self)
    (values_write c.args.self.now c.args.at c.args.name.now (option_copied c.args.index) (subst Sound c.self.view_is c.self.invariant))
    (subst (λ t. Gives (write t c.args.at c.args.name.now (option_copied c.args.index)) t c.write.result (table_of c.write.new.self)) c.self.view_is c.write.ensures.written)

pub invariant_of-self : goal.invariant_of-self
invariant_of-self c = Sound-Gives _ (table_of c.self.inside.tables) c.write.result (table_of c.write.new.self)
    (After-write (table_of c.self.inside.tables) c.args.at c.args.name.now (option_copied c.args.index) c.requires.index c.self.invariant)
    c.self.invariant c.write.ensures.written

pub returns-clause-current : goal.returns-clause-current
returns-clause-current c = (write_frames c.args.self.now c.args.at c.args.name.now (option_copied c.args.index) c.write.result (table_of c.write.new.self)
    (subst (λ t. Gives (write t c.args.at c.args.name.now (option_copied c.args.index)) t c.write.result (table_of c.write.new.self)) c.self.view_is c.write.ensures.written)).0

pub returns-clause-frames : goal.returns-clause-frames
returns-clause-frames c = (write_frames c.args.self.now c.args.at c.args.name.now (option_copied c.args.index) c.write.result (table_of c.write.new.self)
    (subst (λ t. Gives (write t c.args.at c.args.name.now (option_copied c.args.index)) t c.write.result (table_of c.write.new.self)) c.self.view_is c.write.ensures.written)).1
