use Rattle.std.proofs.Common.{rules, ap, refl, ◌∙◌, ◌+◌, drop}
use Rattle.std.specs.Str.{chars}
use Rattle.tclv_reply.specs.Names.{element_of}
use Rattle.tclv_engine.specs.Names.{bytes_of}
use Rattle.tclv_engine.specs.State.{state_of}
use Rattle.tclv_engine.proofs.NameLemmas.{bytes-are}
use Rattle.tclv_plain.specs.UnsetRows.{cleared}
use Rattle.tclv_plain.specs.ArrayRows.{without_elements}
use Rattle.tclv_plain.proofs.UnsetLemmas.{cleared_state}
use Rattle.tclv_plain.proofs.ArrayLemmas.{elements_step, elements_end}
use Rattle.tclv_plain.proofs.array_unsetting.drop_elements.Goals as goal

pub loop-index-preserved : goal.loop-index-preserved
loop-index-preserved g c =
    let mid = c.loop-index.machine in
    let name = chars c.args.array.now in
    let k = c.loop-index.index-index in
    let i = c.index-item.result in
    let array = bytes-are c.args.array.now name c.requires refl in
    let index = bytes-are c.bytes.result.now i c.bytes.ensures.utf8 c.bytes.ensures.text in
    record {
      stack = c.drop_element.ensures.stack ∙ c.loop-index.invariant.stack;
      writes = c.loop-index.invariant.writes;
      units_left = c.loop-index.invariant.units_left;
      state = λ w.
          ap (without_elements name (drop (k + 1) c.args.indices.now)) (cleared_state mid c.drop_element.new.values (element_of c.args.array.now c.bytes.result.now) w c.drop_element.ensures.vars c.drop_element.ensures.texts)
          ∙ ap (λ a. without_elements name (drop (k + 1) c.args.indices.now) (cleared (element_of a c.bytes.result.now) (state_of mid w))) array
          ∙ ap (λ b. without_elements name (drop (k + 1) c.args.indices.now) (cleared (element_of (bytes_of name) b) (state_of mid w))) index
          ∙ elements_step name c.args.indices.now k i (state_of mid w) (search rules) (search rules)
          ∙ c.loop-index.invariant.state w;
    }

pub returns-clause-state : goal.returns-clause-state
returns-clause-state g c w =
    elements_end (chars c.args.array.now) c.args.indices.now c.loop-index.index-index (state_of c.loop-index.machine w) (search rules)
    ∙ c.loop-index.invariant.state w
