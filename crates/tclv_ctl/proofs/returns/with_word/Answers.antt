use Rattle.std.proofs.Common.{◌≡◌, ◌∙◌, ap, sym, List, [], get_or}
use Rattle.tclv_text.specs.Pairs.{Pairs}
use Rattle.tclv_model.specs.Rows.{and_then}
use Rattle.tclv_model.specs.Values.{dict_of}
use Rattle.tclv_ctl.specs.Switching.{Text}
use Rattle.tclv_ctl.specs.declared.returns.Named.{Named}
use Rattle.tclv_ctl.specs.declared.returns.Named.TheVariants as named
use Rattle.tclv_ctl.specs.Returns.{naming, with_option, with_pairs, with_word, asks_of}
use Rattle.tclv_ctl.proofs.ReadLemmas.{reads_after}
use Rattle.tclv_ctl.proofs.returns.with_word.Goals as goal

pub returns-in-Dict-clause-reads : goal.returns-in-Dict-clause-reads
returns-in-Dict-clause-reads c =
    let s = c.args.store.now in
    let x = asks_of c.args.wanted in
    let mid = c.copy_of.new.store in
    let kept = c.in_ok-name.ensures.kept in
    let n = get_or s.stack c.args.at [] in
    let kind : naming n ≡ named.Dict = ap naming (sym (c.bytes.ensures.text ∙ c.in_ok-name.ensures.text)) ∙ sym c.naming.ensures ∙ c.in-Dict.is in
    reads_after (with_word (naming n) n (get_or s.stack c.args.behind []) x) (and_then (dict_of (get_or mid.stack c.args.behind [])) (λ (ps : Pairs). with_pairs ps x)) _ s mid c.with_dict.new.store c.with_dict.result kept
    (ap (λ (m : Named). with_word m n (get_or s.stack c.args.behind []) x) kind ∙ ap (λ (q : List Text). and_then (dict_of (get_or q c.args.behind [])) (λ (ps : Pairs). with_pairs ps x)) (sym kept.stack)) c.with_dict.ensures.reads

pub returns-in-Code-clause-reads : goal.returns-in-Code-clause-reads
returns-in-Code-clause-reads c =
    let s = c.args.store.now in
    let x = asks_of c.args.wanted in
    let mid = c.copy_of.new.store in
    let kept = c.in_ok-name.ensures.kept in
    let n = get_or s.stack c.args.at [] in
    let kind : naming n ≡ named.Code = ap naming (sym (c.bytes.ensures.text ∙ c.in_ok-name.ensures.text)) ∙ sym c.naming.ensures ∙ c.in-Code.is in
    reads_after (with_word (naming n) n (get_or s.stack c.args.behind []) x) (with_option named.Code c.in_ok-name.name (get_or mid.stack c.args.behind []) x) _ s mid c.with_value.new.store c.with_value.result kept
    (ap (λ (m : Named). with_word m n (get_or s.stack c.args.behind []) x) kind ∙ ap (λ (t : Text). with_option named.Code t (get_or s.stack c.args.behind []) x) (sym c.in_ok-name.ensures.text) ∙ ap (λ (q : List Text). with_option named.Code c.in_ok-name.name (get_or q c.args.behind []) x) (sym kept.stack)) c.with_value.ensures.reads

pub returns-in-Level-clause-reads : goal.returns-in-Level-clause-reads
returns-in-Level-clause-reads c =
    let s = c.args.store.now in
    let x = asks_of c.args.wanted in
    let mid = c.copy_of.new.store in
    let kept = c.in_ok-name.ensures.kept in
    let n = get_or s.stack c.args.at [] in
    let kind : naming n ≡ named.Level = ap naming (sym (c.bytes.ensures.text ∙ c.in_ok-name.ensures.text)) ∙ sym c.naming.ensures ∙ c.in-Level.is in
    reads_after (with_word (naming n) n (get_or s.stack c.args.behind []) x) (with_option named.Level c.in_ok-name.name (get_or mid.stack c.args.behind []) x) _ s mid c.with_value-in-Level.new.store c.with_value-in-Level.result kept
    (ap (λ (m : Named). with_word m n (get_or s.stack c.args.behind []) x) kind ∙ ap (λ (t : Text). with_option named.Level t (get_or s.stack c.args.behind []) x) (sym c.in_ok-name.ensures.text) ∙ ap (λ (q : List Text). with_option named.Level c.in_ok-name.name (get_or q c.args.behind []) x) (sym kept.stack)) c.with_value-in-Level.ensures.reads

pub returns-in-Other-clause-reads : goal.returns-in-Other-clause-reads
returns-in-Other-clause-reads c =
    let s = c.args.store.now in
    let x = asks_of c.args.wanted in
    let mid = c.copy_of.new.store in
    let kept = c.in_ok-name.ensures.kept in
    let n = get_or s.stack c.args.at [] in
    let kind : naming n ≡ named.Other = ap naming (sym (c.bytes.ensures.text ∙ c.in_ok-name.ensures.text)) ∙ sym c.naming.ensures ∙ c.in-Other.is in
    reads_after (with_word (naming n) n (get_or s.stack c.args.behind []) x) (with_option named.Other c.in_ok-name.name (get_or mid.stack c.args.behind []) x) _ s mid c.with_value-in-Other.new.store c.with_value-in-Other.result kept
    (ap (λ (m : Named). with_word m n (get_or s.stack c.args.behind []) x) kind ∙ ap (λ (t : Text). with_option named.Other t (get_or s.stack c.args.behind []) x) (sym c.in_ok-name.ensures.text) ∙ ap (λ (q : List Text). with_option named.Other c.in_ok-name.name (get_or q c.args.behind []) x) (sym kept.stack)) c.with_value-in-Other.ensures.reads
