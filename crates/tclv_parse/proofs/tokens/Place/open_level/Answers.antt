use Rattle.std.proofs.Common.{◌+◌, ◌<◌, length, set, refl, arith}
use Rattle.tclv_parse.proofs.Levels.{too-deep, opened}
use Rattle.tclv_parse.proofs.tokens.Place.open_level.Goals as goal

pub returns-then-self-eq-MAX_DEPTH-clause-moved : goal.returns-then-self-eq-MAX_DEPTH-clause-moved
returns-then-self-eq-MAX_DEPTH-clause-moved c =
    let p = c.args.self.now in
    too-deep p c.args.inside c.args.form c.if-self-eq-MAX_DEPTH.true c.requires.inside

pub returns-clause-moved : goal.returns-clause-moved
returns-clause-moved c =
    let p = c.args.self.now in
    let room : p.open < 100 = omega arith in
    let long : p.open < length p.around = omega arith in
    opened p c.character.new.self (record p { around = set p.around p.open c.args.form; «open» = p.open + 1 }) c.character.result c.args.inside c.args.form room long c.requires.inside refl refl refl c.character.ensures.taken
