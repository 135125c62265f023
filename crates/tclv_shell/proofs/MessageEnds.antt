-- The events of a script, and behind them the final message.
use Rattle.std.proofs.Common.{◌≡◌, ℕ, ◌+◌, ◌≤◌, List, [], ◌∷◌, ◌++◌, length, take, drop, sym, ◌∙◌, ap, subst, arith, length-append, append_assoc}
use Rattle.std.proofs.Math.Seq.{take-append_seam, drop-append_seam}
use Rattle.std.proofs.lemmas.List.{take_all}
use Rattle.tclv_io.specs.World.{Out, Errors, add}
use Rattle.tclv_io.specs.Events.{Event, Wrote, After, partly, after_all, next_length}
use Rattle.tclv_shell.proofs.Plays.{no_part, begun, within, after_all-append}

-- the write of a message on standard error
abbrev pub said : List ℕ → List Event
said piece = Wrote Errors piece ∷ []

-- behind the first of two parts
pub after_split : (o : Out) (xs ys : List Event) (part : ℕ) → After o (xs ++ ys) (length xs) part ≡ partly part (after_all o xs) ys
after_split o xs ys part = ap (λ e. partly part (after_all o e) (drop (length xs) (xs ++ ys))) (take-append_seam xs ys) ∙ ap (partly part (after_all o xs)) (drop-append_seam xs ys)

-- all events happened
pub after_whole : (o : Out) (es : List Event) (n : ℕ) → n ≡ length es → After o es n 0 ≡ after_all o es
after_whole o es n e = no_part (after_all o (take n es)) (drop n es) ∙ ap (after_all o) (take_all n es (omega arith))

-- and then the message was written
pub after_said : (o : Out) (es : List Event) (piece : List ℕ) (n : ℕ) → n ≡ length es + 1 → After o (es ++ said piece) n 0 ≡ add (after_all o es) Errors piece
after_said o es piece n e = after_whole o (es ++ said piece) n (omega (arith, length-append es (said piece))) ∙ after_all-append es (said piece) o

-- or a part of it
pub after_part_said : (o : Out) (es : List Event) (piece : List ℕ) (part : ℕ) → After o (es ++ said piece) (length es) part ≡ add (after_all o es) Errors (take part piece)
after_part_said o es piece part = after_split o es (said piece) part

pub next_said : (es : List Event) (piece : List ℕ) → next_length (drop (length es) (es ++ said piece)) ≡ length piece
next_said es piece = ap next_length (drop-append_seam es (said piece))

-- the events were cut short, so the message wasn't begun
pub after_cut : (o : Out) (es first rest more : List Event) (part : ℕ) → es ≡ first ++ rest → part ≤ next_length rest → After o (es ++ more) (length first) part ≡ partly part (after_all o first) rest
after_cut o es first rest more part e h =
    ap (λ x. After o (x ++ more) (length first) part) e
    ∙ ap (λ x. After o x (length first) part) (append_assoc first rest more)
    ∙ after_split o first (rest ++ more) part
    ∙ begun (after_all o first) rest more part h

pub next_cut : (es first rest more : List Event) (part : ℕ) → es ≡ first ++ rest → part ≤ next_length rest → part ≤ next_length (drop (length first) (es ++ more))
next_cut es first rest more part e h =
    let same : drop (length first) (es ++ more) ≡ rest ++ more =
    ap (λ x. drop (length first) (x ++ more)) e ∙ ap (drop (length first)) (append_assoc first rest more) ∙ drop-append_seam first (rest ++ more) in
    subst (λ x. part ≤ next_length x) (sym same) (within rest more part h)

pub count_cut : (es first rest more : List Event) → es ≡ first ++ rest → length first ≤ length (es ++ more)
count_cut es first rest more e = omega (arith, ap length e, length-append first rest, length-append es more)
