use Rattle.tclv_text.proofs.IndexCases.{place_is_read, place_alone}
use Rattle.tclv_text.proofs.laws.indices.places_are_read.Goals as goal

pub returns : goal.returns
returns c = record { place = place_is_read; alone = place_alone }
