use Rattle.std.proofs.Common.{◌-◌, drop, get_or, sym, subst, arith}
use Rattle.tclv_value.specs.Places.{text_of}
use Rattle.tclv_value.specs.Ways.{CanGo, Goes, text_along}
use Rattle.tclv_value.proofs.SetLemmas.{above_none}
use Rattle.tclv_value.proofs.WayLemmas.{ending, filled, places_one, places_more, rest_places, going_within, going_to, can_change, end_within, ended, can_empty, can_part, can_back, above_back, gone_on}
use Rattle.tclv_value.proofs.ways.+change_along.Goals as goal

pub change_with-requires-clause-can : goal.change_with-requires-clause-can
change_with-requires-clause-can t c =
    can_change c.args.heap.now.graph c.args.next c.args.id c.args.value c.args.high (get_or c.args.places.now 0 0) c.args.places.now c.requires.can (ending c.requires.can.opens c.if-places-eq1.true) c.requires.high

pub change_with-requires-clause-within : goal.change_with-requires-clause-within
change_with-requires-clause-within t c =
    end_within c.args.heap.now.graph c.args.next c.args.id c.args.value c.args.high (get_or c.args.places.now 0 0) c.args.places.now c.requires.can (ending c.requires.can.opens c.if-places-eq1.true) c.requires.high

pub change_with-requires-clause-room : goal.change_with-requires-clause-room
change_with-requires-clause-room t c = (ending c.requires.can.opens c.if-places-eq1.true).room

pub returns-then-places-eq1-clause-changed : goal.returns-then-places-eq1-clause-changed
returns-then-places-eq1-clause-changed t c =
    let g = c.args.heap.now.graph in
    let done = ended g c.args.next c.args.id c.args.value c.args.high (get_or c.args.places.now 0 0) c.args.places.now c.requires.can (ending c.requires.can.opens c.if-places-eq1.true) c.requires.high c.change_with.new.heap.graph c.change_with.ensures.changed c.change_with.ensures.others in
    subst (λ ks. Goes g c.args.id c.args.value c.args.high (text_along g c.args.id ks (text_of g c.args.value)) c.change_with.new.heap.graph) (sym (places_one c.args.places.now c.if-places-eq1.true)) done

pub swap_list-list-requires-clause-can : goal.swap_list-list-requires-clause-can
swap_list-list-requires-clause-can t c = can_empty c.args.heap.now.graph c.args.next c.args.id c.args.value c.args.high c.args.places.now _ c.requires.can c.new.ensures

pub swap_list-list-requires-clause-depth : goal.swap_list-list-requires-clause-depth
swap_list-list-requires-clause-depth t c = above_none c.args.heap.now.graph _ c.new.ensures

pub at-part-requires : goal.at-part-requires
at-part-requires t c = going_within c.requires.can.opens c.if-places-eq1.false _ c.swap_list-list.ensures.swapped.was

pub change_along-requires : goal.change_along-requires
change_along-requires t c =
    let g = c.args.heap.now.graph in
    let a = c.swap_list-list.new.heap.graph in
    let w = going_to c.requires.can.opens c.if-places-eq1.false _ c.swap_list-list.ensures.swapped.was c.at-part.result c.at-part.ensures in
    let part = can_part g c.args.next c.args.id c.args.value c.args.high (get_or c.args.places.now 0 0) c.at-part.result (drop 1 c.args.places.now) c.args.places.now c.requires.can c.requires.high w _ c.new.ensures a c.swap_list-list.result c.swap_list-list.ensures.swapped c.swap_list-list.ensures.was in
    (omega (arith, c.decreases, w.more), (subst (λ ks. CanGo a c.args.next c.at-part.result c.args.value (c.args.high - 1) ks) (sym (rest_places c.args.places.now)) part, omega (arith, c.requires.high)))

pub swap_list-requires-clause-can : goal.swap_list-requires-clause-can
swap_list-requires-clause-can t c =
    let g = c.args.heap.now.graph in
    let a = c.swap_list-list.new.heap.graph in
    let b = c.change_along.new.heap.graph in
    let w = going_to c.requires.can.opens c.if-places-eq1.false _ c.swap_list-list.ensures.swapped.was c.at-part.result c.at-part.ensures in
    let on = subst (λ ks. Goes a c.at-part.result c.args.value (c.args.high - 1) (text_along a c.at-part.result ks (text_of a c.args.value)) b) (rest_places c.args.places.now) c.change_along.ensures.changed in
    can_back g c.args.next c.args.id c.args.value c.args.high (get_or c.args.places.now 0 0) c.at-part.result (drop 1 c.args.places.now) c.args.places.now c.requires.can c.requires.high w _ c.new.ensures a c.swap_list-list.result c.swap_list-list.ensures.swapped c.swap_list-list.ensures.was b on

pub swap_list-requires-clause-depth : goal.swap_list-requires-clause-depth
swap_list-requires-clause-depth t c =
    let g = c.args.heap.now.graph in
    let a = c.swap_list-list.new.heap.graph in
    let b = c.change_along.new.heap.graph in
    let w = going_to c.requires.can.opens c.if-places-eq1.false _ c.swap_list-list.ensures.swapped.was c.at-part.result c.at-part.ensures in
    let on = subst (λ ks. Goes a c.at-part.result c.args.value (c.args.high - 1) (text_along a c.at-part.result ks (text_of a c.args.value)) b) (rest_places c.args.places.now) c.change_along.ensures.changed in
    above_back g c.args.next c.args.id c.args.value c.args.high (get_or c.args.places.now 0 0) c.at-part.result (drop 1 c.args.places.now) c.args.places.now c.requires.can c.requires.high w _ c.new.ensures a c.swap_list-list.result c.swap_list-list.ensures.swapped c.swap_list-list.ensures.was b on c.max-depth.result (omega (arith, c.max-depth.ensures, c.form_depth-own.ensures.value, c.depth.ensures))

pub returns-clause-changed : goal.returns-clause-changed
returns-clause-changed t c =
    let g = c.args.heap.now.graph in
    let a = c.swap_list-list.new.heap.graph in
    let b = c.change_along.new.heap.graph in
    let w = going_to c.requires.can.opens c.if-places-eq1.false _ c.swap_list-list.ensures.swapped.was c.at-part.result c.at-part.ensures in
    let on = subst (λ ks. Goes a c.at-part.result c.args.value (c.args.high - 1) (text_along a c.at-part.result ks (text_of a c.args.value)) b) (rest_places c.args.places.now) c.change_along.ensures.changed in
    let done = gone_on g c.args.next c.args.id c.args.value c.args.high (get_or c.args.places.now 0 0) c.at-part.result (drop 1 c.args.places.now) c.args.places.now c.requires.can c.requires.high w _ c.new.ensures a c.swap_list-list.result c.swap_list-list.ensures.swapped c.swap_list-list.ensures.was b on c.swap_list.new.heap.graph c.max-depth.result (omega (arith, c.max-depth.ensures, c.form_depth-own.ensures.value, c.depth.ensures)) _ c.swap_list.ensures.swapped in
    subst (λ ks. Goes g c.args.id c.args.value c.args.high (text_along g c.args.id ks (text_of g c.args.value)) c.swap_list.new.heap.graph) (sym (places_more c.args.places.now (filled c.requires.can.opens))) done
