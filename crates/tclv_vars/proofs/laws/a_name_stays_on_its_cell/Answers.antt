use Rattle.tclv_vars.proofs.LawLemmas.{write_stays, link_stays, unset_scopes}
use Rattle.tclv_vars.proofs.laws.a_name_stays_on_its_cell.Goals as goal

pub returns : goal.returns
returns c = record { write = write_stays; link = link_stays; unset = unset_scopes }
