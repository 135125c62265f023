use Rattle.std.proofs.Common.{◌≡◌, ◌≤◌, List, ℕ, ◌+◌, ◌-◌, ◌++◌, length, take, drop, None, Some, sym, ap, ◌∙◌, subst, arith, length-drop}
use Rattle.std.specs.Prelude.{Option}
use Rattle.std.specs.Io.KnownBytes.{Appends, Keeps}
use Rattle.std.proofs.KnownBytes.{Appends-trans}
use Rattle.std.proofs.Math.Seq.{take-add}
use Rattle.std.proofs.lemmas.List.{take_rest}
use Rattle.tclv_io.proofs.real.write_whole.Goals as goal
use Rattle.tclv_io.proofs.real.write_whole.Goals.{in-Ok, in-Err}

-- a writer that kept its bytes
kept : (old mid new : Option (List ℕ)) (piece : List ℕ) (taken next : ℕ) → Appends old mid (take taken piece) → Keeps mid new → next ≡ taken → (taken ≤ length piece) → (next ≤ length piece) × Appends old new (take next piece)
kept None mid new piece taken next p q e le = (subst (λ n. n ≤ length piece) (sym e) le, tt)
kept (Some x) None new piece taken next p q e le = absurd p
kept (Some x) (Some y) None piece taken next p q e le = absurd q
kept (Some x) (Some y) (Some z) piece taken next p q e le =
    let P : ℕ → Type 0 = λ n. (n ≤ length piece) × Appends (Some x) (Some z) (take n piece) in subst P (sym e) (le, q ∙ p)

-- a writer that took more bytes, of what was left
more : (old mid new : Option (List ℕ)) (piece : List ℕ) (taken count next : ℕ) → taken ≤ length piece → count ≤ length (take (length piece - taken) (drop taken piece)) → Appends old mid (take taken piece) → Appends mid new (take count (take (length piece - taken) (drop taken piece))) → next ≡ taken + count → (next ≤ length piece) × Appends old new (take next piece)
more old mid new piece taken count next le within p q e =
    let rest = take_rest piece taken in
    let count_le : count ≤ length (drop taken piece) = subst (λ l. count ≤ length l) rest within in
    let all : Appends old new (take taken piece ++ take count (drop taken piece)) =
    Appends-trans old mid new (take taken piece) (take count (drop taken piece)) p (subst (λ l. Appends mid new (take count l)) rest q) in (
      omega (arith, length-drop taken piece),
      subst (Appends old new) (sym (ap (λ n. take n piece) e ∙ take-add taken count piece)) all,
    )

pub loop-preserved : goal.loop-preserved
loop-preserved g c =
    let old = g.F.Write.contents c.args.file.now in
    let mid = g.F.Write.contents c.loop.file in
    let new = g.F.Write.contents c.write.new.self in
    elim c.match-write.branch [
      | in-Ok w ↦ more old mid new c.args.piece.now c.loop.taken w.in-Ok.count c.match-write.taken c.loop.invariant.0 w.in-Ok.ensures.bound c.loop.invariant.1 w.in-Ok.ensures.bytes w.taken-is
      | in-Err w ↦ kept old mid new c.args.piece.now c.loop.taken c.match-write.taken c.loop.invariant.1 w.in-Err.ensures.bytes w.taken-is c.loop.invariant.0
    ]
