-- The forms of `puts`, by what is known of its words.
use Rattle.std.proofs.Common.{◌≡◌, ℕ, ◌+◌, ◌-◌, ◌≤◌, List, [], ◌∷◌, length, get_or, sym, ap, ◌∙◌, refl, arith, Ok, Err, Bool, true, false}
use Rattle.std.specs.Str.{chars}
use Rattle.tclv_text.specs.Texts.{IsText}
use Rattle.tclv_model.specs.declared.messages.MessageId.{MessageId}
use Rattle.tclv_value.specs.Stacks.{top}
use Rattle.tclv_plain.specs.declared.channels.Channel.{Channel}
use Rattle.tclv_plain.specs.declared.channels.Channel.TheVariants as channel
use Rattle.tclv_model.specs.declared.error_codes.ErrorCode.TheVariants.{NoCode}
use Rattle.tclv_model.specs.declared.usages.Usage.TheVariants as command
use Rattle.tclv_model.specs.Usages.{usage_of}
use Rattle.tclv_engine.specs.State.{Text, State}
use Rattle.tclv_engine.specs.Results.{raise}
use Rattle.tclv_engine.specs.Names.{bytes_of}
use Rattle.tclv_engine.specs.Usages.{usage}
use Rattle.tclv_plain.specs.ChannelRows.{write, target_of, channel_named, is_nonewline, line, put, put_found, put_named, put_two, put_three, row_puts}
use Rattle.tclv_engine.proofs.NameLemmas.{bytes-are}
use Rattle.tclv_engine.proofs.WordLemmas.{top_two, top_three, top_four, top_length}

-- ---- one piece

pub line_written : {W : Type 0} → (to : Channel) (piece bs : List ℕ) (newline : Bool) (text : Text) (st : (State W)) → newline ≡ true → IsText bs → chars bs ≡ text → piece ≡ bytes_of (line true (chars bs)) →
    write (target_of to) piece st ≡ write (target_of to) (bytes_of (line newline text)) st
line_written to piece bs newline text st n u h e =
    ap (λ p. write (target_of to) p st) (e ∙ ap (λ t. bytes_of (line true t)) h ∙ ap (λ b. bytes_of (line b text)) (sym n))

pub text_written : {W : Type 0} → (to : Channel) (bs : List ℕ) (newline : Bool) (text : Text) (st : (State W)) → newline ≡ false → IsText bs → chars bs ≡ text →
    write (target_of to) bs st ≡ write (target_of to) (bytes_of (line newline text)) st
text_written to bs newline text st n u h =
    ap (λ p. write (target_of to) p st) (bytes-are bs text u h ∙ ap (λ b. bytes_of (line b text)) (sym n))

-- ---- the channel

pub named_found : {W : Type 0} → (to : Channel) (name name' text text' : Text) (newline : Bool) (st : (State W)) → Ok to ≡ channel_named name' → name' ≡ name → text' ≡ text →
    put to (line newline text') st ≡ put_named name (line newline text) st
named_found to name name' text text' newline st e h k =
    ap (λ t. put to (line newline t) st) k ∙ ap (λ r. put_found name (line newline text) r st) (e ∙ ap channel_named h)

pub named_refused : {W : Type 0} → (kind : MessageId) (name name' text : Text) (st : (State W)) → Err kind ≡ channel_named name' → name' ≡ name →
    raise kind name [] NoCode st ≡ put_named name text st
named_refused kind name name' text st e h = ap (λ r. put_found name text r st) (e ∙ ap channel_named h)

-- ---- two and three words

pub two_option : {W : Type 0} → (first text text' : Text) (st : (State W)) → is_nonewline first ≡ true → text' ≡ text → put channel.Output (line false text') st ≡ put_two first text st
two_option first text text' st t h = rw t (ap (λ x. put channel.Output (line false x) st) h)

pub two_named : {W : Type 0} → (first first' text text' : Text) (st : (State W)) → is_nonewline first ≡ false → first' ≡ first → text' ≡ text →
    put_named first' (line true text') st ≡ put_two first text st
two_named first first' text text' st t k h = rw t (ap (λ x. put_named x (line true text') st) k ∙ ap (λ x. put_named first (line true x) st) h)

pub three_option : {W : Type 0} → (word option name name' text text' : Text) (st : (State W)) → is_nonewline option ≡ true → name' ≡ name → text' ≡ text →
    put_named name' (line false text') st ≡ put_three word option name text st
three_option word option name name' text text' st t k h = rw t (ap (λ x. put_named x (line false text') st) k ∙ ap (λ x. put_named name (line false x) st) h)

pub three_refused : {W : Type 0} → (word option name text : Text) (st : (State W)) → is_nonewline option ≡ false →
    usage (usage_of command.Puts) (word ∷ option ∷ name ∷ text ∷ []) st ≡ put_three word option name text st
three_refused word option name text st t = rw t

-- ---- the row

row_of : {W : Type 0} → (words words' : List Text) (st : (State W)) → words ≡ words' → row_puts words' st ≡ row_puts words st
row_of words words' st e = ap (λ ws. row_puts ws st) (sym e)

pub puts_one : {W : Type 0} → (stack : List Text) (n base : ℕ) (st : (State W)) → n ≡ 2 → n ≤ length stack → base ≡ length stack - n →
    put channel.Output (line true (get_or stack (base + 1) [])) st ≡ row_puts (top n stack) st
puts_one stack n base st e h b = row_of (top n stack) _ st (ap (λ k. top k stack) e ∙ top_two stack base (omega (arith, e, b)))

pub puts_two : {W : Type 0} → (stack : List Text) (n base : ℕ) (st : (State W)) → n ≡ 3 → n ≤ length stack → base ≡ length stack - n →
    put_two (get_or stack (base + 1) []) (get_or stack (base + 2) []) st ≡ row_puts (top n stack) st
puts_two stack n base st e h b = row_of (top n stack) _ st (ap (λ k. top k stack) e ∙ top_three stack base (omega (arith, e, b)))

pub puts_three : {W : Type 0} → (stack : List Text) (n base : ℕ) (st : (State W)) → n ≡ 4 → n ≤ length stack → base ≡ length stack - n →
    put_three (get_or stack base []) (get_or stack (base + 1) []) (get_or stack (base + 2) []) (get_or stack (base + 3) []) st ≡ row_puts (top n stack) st
puts_three stack n base st e h b = row_of (top n stack) _ st (ap (λ k. top k stack) e ∙ top_four stack base (omega (arith, e, b)))

many : {W : Type 0} → (words : List Text) (st : (State W)) → (length words ≡ 2 → ⊥) → (length words ≡ 3 → ⊥) → (length words ≡ 4 → ⊥) → usage (usage_of command.Puts) words st ≡ row_puts words st
many [] st h k l = refl
many (a ∷ []) st h k l = refl
many (a ∷ b ∷ []) st h k l = absurd (h refl)
many (a ∷ b ∷ c ∷ []) st h k l = absurd (k refl)
many (a ∷ b ∷ c ∷ d ∷ []) st h k l = absurd (l refl)
many (a ∷ b ∷ c ∷ d ∷ e ∷ ws) st h k l = refl

pub puts_refused : {W : Type 0} → (stack : List Text) (n : ℕ) (st : (State W)) → n ≤ length stack → (n ≡ 2 → ⊥) → (n ≡ 3 → ⊥) → (n ≡ 4 → ⊥) → usage (usage_of command.Puts) (top n stack) st ≡ row_puts (top n stack) st
puts_refused stack n st b h k l =
    let len = top_length stack n b in
    many (top n stack) st (λ e. h (sym len ∙ e)) (λ e. k (sym len ∙ e)) (λ e. l (sym len ∙ e))
