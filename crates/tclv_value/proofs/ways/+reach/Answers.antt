use Rattle.std.proofs.Common.{IsSome, arith}
use Rattle.tclv_heap.specs.Graph.{at, text_in}
use Rattle.tclv_value.specs.Ways.{ids_at}
use Rattle.tclv_value.proofs.OpenLemmas.{rest_found, none_is}
use Rattle.tclv_value.proofs.SetChangeLemmas.{known_list}
use Rattle.tclv_value.proofs.WayLemmas.{if_found, some_is, end_way, next_way, rest_there, rest_some}
use Rattle.tclv_value.proofs.ways.+reach.Goals as goal

pub returns-then-indices-eq1-clause-way : goal.returns-then-indices-eq1-clause-way
returns-then-indices-eq1-clause-way t c =
    if_found c.end_of.result (λ way p. end_way c.args.heap.now.graph c.args.value c.args.high c.args.id c.index-indices-0.result c.in-Some.place c.args.indices.now c.in-Some.ensures.some.0 c.in-Some.ensures.some.1 _ c.if-indices-eq1.true c.index-indices-0.is way.next way.places.items p.0 p.1 p.2) c.end_of.ensures.way

pub reach-requires : goal.reach-requires
reach-requires t c =
    (omega (arith, c.decreases, c.if-high-le1.false), (c.in-Some-element_of.ensures.there, (rest_there (λ o. IsSome (at c.args.heap.now.graph o)) c.args.indices.now c.requires.indices, (rest_some c.args.indices.now c.requires.some c.if-indices-eq1.false, c.requires.value))))

pub returns-in-Some-2-clause-way : goal.returns-in-Some-2-clause-way
returns-in-Some-2-clause-way t c =
    if_found c.way_from.result (λ way p. next_way c.args.heap.now.graph c.args.value c.args.high c.args.id c.index-indices-0.result c.in-Some.place c.args.indices.now c.in-Some.ensures.some.0 c.in-Some.ensures.some.1 _ c.requires.some c.index-indices-0.is (omega (arith, c.if-high-le1.false)) c.in-Some-element_of.part c.in-Some-element_of.ensures.element c.in-Some-2.rest.next way.next c.in-Some-2.rest.places.items way.places.items p.0 p.1 (some_is _ _ c.in-Some-2.rest c.in-Some-2.is c.in_ok-rest.ensures.way)) c.way_from.ensures.way

pub returns-in-None-clause-none : goal.returns-in-None-clause-none
returns-in-None-clause-none t c made leads =
    rest_found c.index-indices-0.result _ c.in-Some.place c.in-Some-element_of.part c.index-indices-0.is c.if-indices-eq1.false c.in-Some.ensures.names
    (c.in-Some-element_of.ensures.element (ids_at c.args.heap.now.graph c.args.id) (known_list c.args.heap.now.graph c.args.id c.in-Some.ensures.some.0.list))
    (none_is c.in_ok-rest.field-0 c.in-None.is c.in_ok-rest.ensures.none (rest_there (λ o. IsSome (text_in (at c.args.heap.now.graph o))) c.args.indices.now made)) leads
