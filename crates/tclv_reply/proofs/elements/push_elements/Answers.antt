use Rattle.std.proofs.Common.{rules, arith, ap, sym, ◌∙◌, ◌≡◌, ◌<◌, ◌≤◌, ◌++◌, ℕ, List, [], refl, append-nil}
use Rattle.tclv_value.specs.View.{text_at}
use Rattle.tclv_model.specs.Values.{list_of}
use Rattle.tclv_reply.proofs.ReplyLemmas.{grows_trans, grows_none, refused_after, places_stay}
use Rattle.tclv_reply.proofs.ListLemmas.{first_given, unrolled_more, unrolled_all, text_grown, unpacks_refused}
use Rattle.tclv_reply.proofs.elements.push_elements.Goals as goal

pub loop-k-init : goal.loop-k-init
loop-k-init c =
    let old = c.args.store.now in
    let e = c.in_ok-len.ensures in
    record {
      taken = [];
      first = first_given (text_at old c.args.list) c.in_ok-len.len e.gives.read e.gives.given e.gives.shown;
      stack = e.kept ∙ sym (append-nil old.stack);
      grows = e.grows;
    }

pub push_element-requires : goal.push_element-requires
push_element-requires c = let g = c.loop-k.invariant.grows in places_stay c.args.store.now c.loop-k.store g.more g.stack g.cells c.args.list c.requires

pub loop-k-preserved : goal.loop-k-preserved
loop-k-preserved c =
    let old = c.args.store.now in
    let cur = c.loop-k.store in
    let new = c.push_element.new.store in
    let inside : c.loop-k.k < c.in_ok-len.len = search rules in
    unrolled_more (text_at old c.args.list) (text_at cur c.args.list) c.in_ok-len.len c.loop-k.k old cur new c.loop-k.invariant (text_grown old cur c.loop-k.invariant.grows c.args.list c.requires) inside c.in_ok-push_element.ensures.pushed
    (grows_trans old cur new c.loop-k.invariant.grows c.push_element.ensures.grows)

pub returns-in_err-push_element : goal.returns-in_err-push_element
returns-in_err-push_element c =
    let old = c.args.store.now in
    let cur = c.loop-k.store in
    let new = c.push_element.new.store in
    let g = c.loop-k.invariant.grows in
    let kind = c.in_err-push_element.field-0.0 in
    let same = ap list_of (sym (text_grown old cur g c.args.list c.requires)) in
    unpacks_refused (text_at old c.args.list) kind old new _ (search rules) (grows_trans old cur new g c.push_element.ensures.grows)
    (refused_after (list_of (text_at old c.args.list)) (list_of (text_at cur c.args.list)) kind old cur new g same c.in_err-push_element.ensures.refused)

pub returns : goal.returns
returns c =
    let ended : c.in_ok-len.len ≤ c.loop-k.k = search rules in
    record {
      grows = c.loop-k.invariant.grows;
      gives = unrolled_all (text_at c.args.store.now c.args.list) c.in_ok-len.len c.loop-k.k c.args.store.now c.loop-k.store c.loop-k.invariant ended;
      refuses = tt;
    }
