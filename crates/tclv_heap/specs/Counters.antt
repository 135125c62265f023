-- How much work a heap did.
use Rattle.std.specs.Prelude.{◌≡◌, ℕ, ◌+◌, [], Option, min, length}
use Rattle.std.specs.Option.{unwrap_or}
use Rattle.std.specs.List.{sum_by}
use Rattle.tclv_heap.specs.declared.ids.Object.{Object}
use Rattle.tclv_heap.specs.Graph.{Graph, stuck, text_in}

-- a counter after so many more: it stops at the greatest number of 64 bits
abbrev pub raised : ℕ → ℕ → ℕ
raised n more = min (n + more) stuck

module _ {F : Type 0} where
  -- how many code points the made text of an object has
  abbrev pub text_size : Option (Object F) → ℕ
  text_size slot = length (unwrap_or (text_in slot) [])

  -- how many code points all made texts have together
  unfoldable pub texts_size : Graph F → ℕ
  texts_size g = sum_by text_size g

  -- texts were made, and the counter rose by their code points
  pub record Writes (old new : Graph F) (before after : ℕ) : Type 0 where
    pub more : ℕ
    pub texts : texts_size new ≡ texts_size old + more
    pub counter : after ≡ raised before more
