use Rattle.std.proofs.Common.{◌≡◌, ◌-◌, ◌<◌, List, ℕ, [], length, take, drop, get_or}
use Rattle.tclv_model.specs.Rows.{Gives, and_then}
use Rattle.tclv_reply.specs.Replies.{Grows}
use Rattle.tclv_lists.specs.Paths.{put_along}
use Rattle.tclv_lists.proofs.setting.walk_along.Given as goal

abbrev pub invariant-loop-index : goal.invariant-loop-index
invariant-loop-index l = let s = l.initial.store.stack in record { wrap : List ℕ → List ℕ; came : (x : List ℕ) → put_along (get_or s l.list []) (take (l.to - l.from) (drop l.from s)) x ≡ and_then (put_along (get_or l.store.stack l.at []) (take (l.to - l.index) (drop l.index s)) x) (λ y. Gives (wrap y)); grows : Grows l.initial.store l.store; there : l.at < length l.store.stack }
