use Rattle.std.proofs.Common.{◌≡◌, ◌<◌, ◌≤◌, rules, arith, refl, sym, ap, ◌∙◌, length, true, false, Bool}
use Rattle.std.specs.Str.{chars, bytes_eq}
use Rattle.std.proofs.lemmas.Bool.{cond-true, cond-false}
use Rattle.tclv_engine.specs.Frames.{names_of}
use Rattle.tclv_engine.specs.Names.{bytes_of}
use Rattle.tclv_engine.proofs.FrameLemmas.{names_length, name_at}
use Rattle.tclv_engine.proofs.NameLemmas.{bytes-are}
use Rattle.tclv_interp.proofs.ProcInfoLemmas.{place_step, place_end}
use Rattle.tclv_interp.proofs.proc_info.place_of.Goals as goal

pub returns-then-is_name : goal.returns-then-is_name
returns-then-is_name c =
    let params = c.args.params.now in
    let inside : c.loop-i.i < length params = search rules in
    let text = chars c.bytes.result.now in
    let same : bytes_eq (bytes_of text) c.args.name.now ≡ true =
    ap (λ b. bytes_eq b c.args.name.now) (sym (bytes-are c.bytes.result.now text c.bytes.ensures.utf8 refl)) ∙ sym c.is_name.ensures ∙ c.if-is_name.true in
    sym (c.loop-i.invariant ∙ place_step (names_of params) c.loop-i.i c.args.name.now text (omega (arith, inside, names_length params)) (c.bytes.ensures.text ∙ name_at params c.loop-i.i _ inside) ∙ cond-true _ _ _ same)

pub loop-i-preserved : goal.loop-i-preserved
loop-i-preserved c =
    let params = c.args.params.now in
    let inside : c.loop-i.i < length params = search rules in
    let text = chars c.bytes.result.now in
    let other : bytes_eq (bytes_of text) c.args.name.now ≡ false =
    ap (λ b. bytes_eq b c.args.name.now) (sym (bytes-are c.bytes.result.now text c.bytes.ensures.utf8 refl)) ∙ sym c.is_name.ensures ∙ c.if-is_name.false in
    c.loop-i.invariant ∙ place_step (names_of params) c.loop-i.i c.args.name.now text (omega (arith, inside, names_length params)) (c.bytes.ensures.text ∙ name_at params c.loop-i.i _ inside) ∙ cond-false _ _ _ other

pub returns : goal.returns
returns c =
    let params = c.args.params.now in
    let ended : length params ≤ c.loop-i.i = search rules in
    sym (c.loop-i.invariant ∙ place_end (names_of params) c.loop-i.i c.args.name.now (omega (arith, ended, names_length params)))
