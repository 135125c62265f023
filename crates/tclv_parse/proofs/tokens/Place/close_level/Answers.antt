use Rattle.std.proofs.Common.{◌-◌, refl}
use Rattle.tclv_parse.proofs.Levels.{closed-level}
use Rattle.tclv_parse.proofs.tokens.Place.close_level.Goals as goal

pub returns-clause-moved : goal.returns-clause-moved
returns-clause-moved c =
    let p = c.args.self.now in
    closed-level p c.character.new.self (record p { «open» = p.open - 1 }) c.character.result _ c.requires.inner c.requires.within.few refl refl refl refl c.character.ensures.taken
