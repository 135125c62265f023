use Rattle.std.proofs.Common.{◌≡◌, ◌∙◌, ◌%◌, ◌∷◌, ℕ, List, [], length, get_or, refl, sym, ap, subst}
use Rattle.std.specs.Prelude.{codes}
use Rattle.std.proofs.lemmas.Str.{chars-nil}
use Rattle.tclv_model.specs.declared.messages.MessageId.TheVariants.{UnbalancedCharacterMap}
use Rattle.tclv_model.specs.declared.data_commands.CmdFault.TheVariants.{Message}
use Rattle.tclv_model.specs.Message.{text_of}
use Rattle.tclv_model.specs.Rows.{says}
use Rattle.tclv_model.specs.Values.{list_of}
use Rattle.tclv_reply.specs.Replies.{Tells}
use Rattle.tclv_strings.specs.Mapping.{mapping_given, mapping_of}
use Rattle.tclv_reply.proofs.Laws.{begun, read_on, grows_trans, refused_after, told_refused, reads_refused}
use Rattle.tclv_strings.proofs.MappingLemmas.{given_even, given_odd}
use Rattle.tclv_strings.proofs.mapping.read_mapping.Goals as goal

pub returns-then-all-ne0 : goal.returns-then-all-ne0
returns-then-all-ne0 c =
    let old = c.args.store.now in
    let word = get_or old.stack c.args.at [] in
    let r = read_on (list_of word) mapping_given (begun (mapping_of word) old) (list_of word) refl c.in_ok-elements.ensures in
    let mid = c.elements_of.new.store in
    let new = c.refuse.new.store in
    let odd : mapping_of word ≡ says UnbalancedCharacterMap [] [] = r.went.is ∙ given_odd r.value (λ e. c.if-all-ne0.true (ap (λ (ts : List (List ℕ)). length ts % 2) (c.all.ensures ∙ r.shown) ∙ e)) in
    let tells = subst (λ (x : List ℕ). Tells Message c.refuse.result (text_of UnbalancedCharacterMap x [] ∷ codes "NONE" ∷ []) mid.stack new.stack) chars-nil c.refuse.ensures.tells in
    let told = told_refused {A = List (List ℕ)} (says UnbalancedCharacterMap [] []) (text_of UnbalancedCharacterMap [] []) (codes "NONE") c.refuse.result mid.stack new.stack refl tells in
    reads_refused (grows_trans old mid new r.went.grows c.refuse.ensures.grows) (refused_after _ _ c.refuse.result old mid new r.went.grows odd told)

pub returns : goal.returns
returns c =
    let old = c.args.store.now in
    let word = get_or old.stack c.args.at [] in
    let r = read_on (list_of word) mapping_given (begun (mapping_of word) old) (list_of word) refl c.in_ok-elements.ensures in
    let even = sym (ap (λ (ts : List (List ℕ)). length ts % 2) (c.all.ensures ∙ r.shown)) ∙ c.if-all-ne0.false in
    record {
      grows = r.went.grows;
      kept = r.went.same;
      gives = record { read = r.value; given = r.went.is ∙ given_even r.value even; shown = r.shown };
      refuses = tt;
    }
