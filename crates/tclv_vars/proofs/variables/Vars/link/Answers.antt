use Rattle.std.proofs.Common.{subst}
use Rattle.std.specs.Option.{option_copied}
use Rattle.tclv_vars.specs.Table.{table_of}
use Rattle.tclv_vars.specs.Links.{linked, Leaves}
use Rattle.tclv_vars.specs.Sound.{Sound}
use Rattle.tclv_vars.proofs.LinkLemmas.{Linked, link_leaves, leaves_ok, leaves_fault, leaves_same}
use Rattle.tclv_vars.proofs.variables.Vars.link.Goals as goal
use Rattle.tclv_vars.proofs.variables.Vars.link.Goals.{After-link}

leaves : (c : After-link) → Leaves (linked c.args.self.now c.args.local.now c.args.root c.args.name.now (option_copied c.args.index)) c.args.self.now c.link.result (table_of c.link.new.self)
leaves c = subst (λ t. Leaves (linked t c.args.local.now c.args.root c.args.name.now (option_copied c.args.index)) t c.link.result (table_of c.link.new.self)) c.self.view_is c.link.ensures

left : (c : After-link) → Linked c.args.self.now (table_of c.link.new.self)
left c = link_leaves c.args.self.now c.args.local.now c.args.root c.args.name.now (option_copied c.args.index) c.link.result (table_of c.link.new.self) c.requires.index (subst Sound c.self.view_is c.self.invariant) (leaves c)

pub link-requires : goal.link-requires
link-requires c = record { sound = c.self.invariant }

pub invariant_of-self : goal.invariant_of-self
invariant_of-self c = (left c).sound

pub returns-clause-linked : goal.returns-clause-linked
returns-clause-linked c = leaves_ok _ c.args.self.now c.link.result (table_of c.link.new.self) (leaves c)

pub returns-clause-refused : goal.returns-clause-refused
returns-clause-refused c = leaves_fault _ c.args.self.now c.link.result (table_of c.link.new.self) (leaves c)

pub returns-clause-same : goal.returns-clause-same
returns-clause-same c = leaves_same _ c.args.self.now c.link.result (table_of c.link.new.self) (leaves c)

pub returns-clause-values : goal.returns-clause-values
returns-clause-values c = (left c).values

pub returns-clause-current : goal.returns-clause-current
returns-clause-current c = (left c).frames.0

pub returns-clause-frames : goal.returns-clause-frames
returns-clause-frames c = (left c).frames.1
