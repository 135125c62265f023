-- Laws of the steps that read options.
use Rattle.std.proofs.Common.{◌≡◌, ◌≢◌, ℕ, ◌+◌, ◌-◌, ◌<◌, ◌≤◌, true, false, Bool, List, [], ◌∷◌, length, take, drop, get_or, Some, Err, sym, ap, ◌∙◌, arith}
use Rattle.std.specs.Str.{bytes_eq}
use Rattle.tclv_model.specs.declared.data_commands.CmdFault.{CmdFault}
use Rattle.tclv_model.specs.Rows.{Answer, and_then, wrong_count}
use Rattle.tclv_model.specs.Values.{place_of}
use Rattle.tclv_value.specs.View.{View}
use Rattle.tclv_reply.specs.Options.{Options, options_read}
use Rattle.tclv_reply.specs.Replies.{Grows, Reads, Refused}
use Rattle.tclv_reply.proofs.StepLemmas.{Went, went_as}
use Rattle.tclv_reply.proofs.ReplyLemmas.{refused_on}
use Rattle.tclv_reply.proofs.StackLemmas.{words_step}
use Rattle.tclv_reply.proofs.OptionLemmas.{value_first, value_missing, word_first}

-- what a word is does not change while the stack stays
pub word_same : {A : Type 0} {row rest : Answer A} {old mid : View} (at : ℕ) (name : List ℕ) (b : Bool) (field : Bool) → Went row rest old mid → field ≡ bytes_eq (get_or mid.stack at []) name → field ≡ b → bytes_eq (get_or old.stack at []) name ≡ b
word_same at name b field w e f = ap (λ (q : List (List ℕ)). bytes_eq (get_or q at []) name) (sym w.same) ∙ sym e ∙ f

module _ {S : Type 0} (name : List ℕ) (set : List ℕ → S → Answer S) (missing : Answer (Options S)) {row : Answer (Options S)} {old cur : View} (at to : ℕ) (x : Options S) (h : at < to) (l : to ≤ length old.stack) (w : Went row (options_read name set missing (take (to - at) (drop at old.stack)) x) old cur) where
  rest_at : ℕ → Options S → Answer (Options S)
  rest_at k y = options_read name set missing (take (to - k) (drop k old.stack)) y

  pub value_step : bytes_eq (get_or old.stack at []) name ≡ true → at + 1 ≢ to →
      Went row (and_then (place_of (get_or old.stack (at + 1) []) 0) (λ _. options_read name set missing (take (to - (at + 2)) (drop (at + 2) old.stack)) (record { settings = x.settings; index = Some (get_or old.stack (at + 1) []) }))) old cur
  value_step e ne =
      let o = get_or old.stack at [] in
      let v = get_or old.stack (at + 1) [] in
      let two : at + 1 + 1 ≡ at + 2 = omega arith in
      let words : take (to - at) (drop at old.stack) ≡ o ∷ v ∷ take (to - (at + 2)) (drop (at + 2) old.stack) =
      words_step old.stack at to h l ∙ ap (λ r. o ∷ r) (words_step old.stack (at + 1) to (omega arith) l) ∙ ap (λ k. o ∷ v ∷ take (to - k) (drop k old.stack)) two in
      went_as _ w (ap (λ ws. options_read name set missing ws x) words ∙ value_first name set missing o v (take (to - (at + 2)) (drop (at + 2) old.stack)) x e)

  pub missing_step : bytes_eq (get_or old.stack at []) name ≡ true → at + 1 ≡ to → row ≡ missing
  missing_step e last =
      let o = get_or old.stack at [] in
      let none : to - (at + 1) ≡ 0 = omega arith in
      let words : take (to - at) (drop at old.stack) ≡ o ∷ [] = words_step old.stack at to h l ∙ ap (λ k. o ∷ take k (drop (at + 1) old.stack)) none in
      w.is ∙ ap (λ ws. options_read name set missing ws x) words ∙ value_missing name set missing o x e

  pub word_step : bytes_eq (get_or old.stack at []) name ≡ false →
      Went row (and_then (set (get_or old.stack at []) x.settings) (λ y. options_read name set missing (take (to - (at + 1)) (drop (at + 1) old.stack)) (record { settings = y; index = x.index }))) old cur
  word_step e =
      let o = get_or old.stack at [] in
      went_as _ w (ap (λ ws. options_read name set missing ws x) (words_step old.stack at to h l) ∙ word_first name set missing o (take (to - (at + 1)) (drop (at + 1) old.stack)) x e)

-- a refused count of words is one of any answer
pub count_refused : (A : Type 0) (call usage : List ℕ) (kind : CmdFault) (old new : List (List ℕ)) → Refused {A = List ℕ} (wrong_count call usage) kind old new → Refused {A = A} (wrong_count call usage) kind old new
count_refused A call usage kind old new r = refused_on (wrong_count call usage) (λ _. wrong_count call usage) kind old new r

-- a step that reads is refused
pub reads_refused : {A T : Type 0} {Shows : A → T → Type 0} {row : Answer A} {old new : View} {kind : CmdFault} → Grows old new → Refused row kind old.stack new.stack → Reads row Shows old new (Err kind)
reads_refused g r = record { grows = g; kept = tt; gives = tt; refuses = r }
