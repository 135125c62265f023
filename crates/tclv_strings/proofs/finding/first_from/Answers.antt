use Rattle.std.proofs.Common.{rules, List, ℕ, ◌≤◌, ap, sym, ◌∙◌, ◌+◌, length, drop, arith, length-drop}
use Rattle.std.specs.Str.{chars}
use Rattle.std.specs.Option.{option_map}
use Rattle.tclv_text.proofs.CursorLemmas.{chars-empty, chars-short}
use Rattle.tclv_strings.specs.Finding.{first_place}
use Rattle.tclv_strings.proofs.PlaceLemmas.{rest_is}
use Rattle.tclv_strings.proofs.FindLemmas.{empty_first, first_at, first_within, none_there}
use Rattle.tclv_strings.proofs.finding.first_from.Goals as goal

pub returns-then-is_empty : goal.returns-then-is_empty
returns-then-is_empty c =
    let from = c.args.from in
    let rest = drop from (chars c.args.text.now) in
    sym (ap (λ (n : List ℕ). first_place n from rest) (chars-empty c.args.needle.now (none_there _ _ c.is_empty.ensures c.if-is_empty.true)) ∙ empty_first from rest)

pub returns-in-Some : goal.returns-in-Some
returns-in-Some c =
    let text = c.args.text.now in
    let needle = chars c.args.needle.now in
    let n = c.byte_of.result in
    let rest = ap chars (rest_is text n) ∙ c.byte_of.ensures.rest_is in
    ap (option_map (λ (i : ℕ). c.args.from + i)) (c.in-Some.ensures ∙ ap (first_place needle 0) rest) ∙ sym (first_at needle c.args.from (drop c.args.from (chars text)))

pub returns-in-None : goal.returns-in-None
returns-in-None c =
    let text = c.args.text.now in
    let needle = chars c.args.needle.now in
    let n = c.byte_of.result in
    let rest = ap chars (rest_is text n) ∙ c.byte_of.ensures.rest_is in
    ap (option_map (λ (i : ℕ). c.args.from + i)) (c.in-None.ensures ∙ ap (first_place needle 0) rest) ∙ sym (first_at needle c.args.from (drop c.args.from (chars text)))

pub overflow_add-result : goal.overflow_add-result
overflow_add-result c =
    let text = c.args.text.now in
    let needle = chars c.args.needle.now in
    let n = c.byte_of.result in
    let k = c.in-Some.k in
    let rest = ap chars (rest_is text n) ∙ c.byte_of.ensures.rest_is in
    let within = first_within needle 0 k (drop c.args.from (chars text)) (sym (c.in-Some.ensures ∙ ap (first_place needle 0) rest)) in
    let bound : c.args.from + k ≤ length text =
    omega (arith, within, length-drop c.args.from (chars text), chars-short text c.requires.text) in
    search rules
