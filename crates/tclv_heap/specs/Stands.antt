-- What an object stands for, and when a graph is sound.
use Rattle.std.specs.Prelude.{◌≡◌, ◌≢◌, ℕ, zero, suc, ◌+◌, ◌⊎◌, ◌<◌, ◌≤◌, List, [], map, Option, Some, None, IsSome}
use Rattle.tclv_heap.specs.declared.ids.Object.{Object}
use Rattle.tclv_heap.specs.Table.{Table, Alike}
use Rattle.tclv_heap.specs.Graph.{Graph, at, occurs, held, form_parts, text_in, form_in, depth_in, Leads, IsCounted, SharedBy}

-- how deep values without a text may nest
abbrev pub deepest : ℕ
deepest = 50

-- 0 where the text is made, else the kept depth
abbrev pub depth_for : Option (List ℕ) → ℕ → ℕ
depth_for (Some s) d = 0
depth_for None d = d

module _ {F : Type 0} where
  -- the depth of the object in a slot
  abbrev pub depth_of : Option (Object F) → ℕ
  depth_of None = 0
  depth_of (Some n) = depth_for n.text n.depth

module _ {F : Type 0} where
  -- an object without a text has a form
  abbrev pub Tells : Graph F → ℕ → Type 0
  Tells g o = (n : Object F) → at g o ≡ Some n → n.text ≡ None → IsSome n.form

  -- each object has a text or a form: no form was taken out and is not back
  abbrev pub IsClosed : Graph F → Type 0
  IsClosed g = (o : ℕ) → Tells g o

  -- the object, and each that it leads to, has a text or a form
  abbrev pub TellsBelow : (F → List ℕ) → Graph F → ℕ → Type 0
  TellsBelow parts g o = (p : ℕ) → Leads parts g o p → Tells g p

module _ {F : Type 0} (t : Table F) where
  -- the text, or else what the form spells, where `texts` are those of the parts
  abbrev pub said_by : Option (List ℕ) → Option F → (ℕ → List ℕ) → List ℕ
  said_by (Some s) form texts = s
  said_by None (Some f) texts = t.spelled f (map texts (t.parts f))
  said_by None None texts = []

  abbrev pub said : Option (Object F) → (ℕ → List ℕ) → List ℕ
  said None texts = []
  said (Some n) texts = said_by n.text n.form texts

  -- what an object stands for, where no more than so many without a text stand over one another
  unfoldable pub stands_in : ℕ → Graph F → ℕ → List ℕ
  stands_in zero g o = said (at g o) (λ _. [])
  stands_in (suc k) g o = said (at g o) (stands_in k g)

  -- what an object stands for
  unfoldable pub stands : Graph F → ℕ → List ℕ
  stands g o = stands_in deepest g o

  -- the part of soundness that speaks of texts and depths
  pub record IsSpoken (g : Graph F) : Type 0 where
    -- a form without a text spells
    pub spoken : (o : ℕ) (n : Object F) (f : F) → at g o ≡ Some n
        → n.text ≡ None → n.form ≡ Some f → t.Spells f
    -- a text with a form fits it
    pub fitting : (o : ℕ) (n : Object F) (s : List ℕ) (f : F) → at g o ≡ Some n
        → n.text ≡ Some s → n.form ≡ Some f → t.Fits s f (map (stands g) (t.parts f))
    -- without a form the kept depth is 0
    pub plain : (o : ℕ) (n : Object F) → at g o ≡ Some n → n.form ≡ None → n.depth ≡ 0
    -- with a form it is from 1 to the greatest, and above the depth of each part
    pub shallow : (o : ℕ) (n : Object F) (f : F) → at g o ≡ Some n → n.form ≡ Some f
        → (1 ≤ n.depth) × (n.depth ≤ deepest)
    pub above : (o : ℕ) (n : Object F) (f : F) (p : ℕ) → at g o ≡ Some n → n.form ≡ Some f
        → 0 < occurs p (t.parts f) → depth_of (at g p) < n.depth

  -- the graph is sound, but for what outside holders hold
  pub record IsSound (g : Graph F) : Type 0 where
    pub sound : IsCounted t.parts g
    pub spoken : IsSpoken g

  -- each object that was there and is there stands for the same
  abbrev pub SaysSame : Graph F → Graph F → Type 0
  SaysSame old new = (o : ℕ) → IsSome (at old o) → IsSome (at new o) → stands new o ≡ stands old o

  -- each other object that was there and is there stands for the same
  abbrev pub SaysSameBut : ℕ → Graph F → Graph F → Type 0
  SaysSameBut o old new = (x : ℕ) → x ≢ o → IsSome (at old x) → IsSome (at new x) → stands new x ≡ stands old x

  -- what each call keeps: a sound graph, what each object stands for, and that each has a text or a form
  pub record Keeps (old new : Graph F) : Type 0 where
    pub sound : IsSound new
    pub says : SaysSame old new
    pub closed : IsClosed old → IsClosed new

  -- some of these objects got as their text what they stood for, and nothing else changed
  pub record Retexted (Among : ℕ → Type 0) (old new : Graph F) : Type 0 where
    pub kept : (o : ℕ) (n : Object F) → at old o ≡ Some n → (at new o ≡ Some n)
        ⊎ (Among o × (n.text ≡ None) × (at new o ≡ Some (record n { text = Some (stands old o) })))
    pub none : (o : ℕ) → at old o ≡ None → at new o ≡ None

  -- a copy of an object: its form duplicated, and its text exactly where there is no form that spells
  pub data Copies (n : Object F) (text : Option (List ℕ)) (form : Option F) : Type 0 where
    plain : n.form ≡ None → form ≡ None → text ≡ n.text → Copies n text form
    spelt : {f d : F} → n.form ≡ Some f → form ≡ Some d → Alike t f d
        → t.Spells f → text ≡ None → Copies n text form
    unspelt : {f d : F} → n.form ≡ Some f → form ≡ Some d → Alike t f d
        → (t.Spells f → ⊥) → text ≡ n.text → Copies n text form

  -- `c` is a new object, a copy of the one of `o`, whose parts are shared
  pub record Duplicates (old : Graph F) (o c : ℕ) (m : Object F) (new : Graph F) : Type 0 where
    pub shared : SharedBy old (form_parts t.parts m.form) c m new
    pub count : m.count ≡ 1
    pub copies : (n : Object F) → at old o ≡ Some n
        → Copies n m.text m.form × (m.depth ≡ n.depth)
    pub stands_new : stands new c ≡ said_by m.text m.form (stands old)
    pub free : held t.parts new c ≡ 0
    pub rises : (p : ℕ)
        → held t.parts new p ≡ held t.parts old p + occurs p (form_parts t.parts m.form)

  -- a form's depth is in range and above that of each part
  pub record FitsDepth (g : Graph F) (form : F) (depth : ℕ) : Type 0 where
    pub low : 1 ≤ depth
    pub high : depth ≤ deepest
    pub above : (p : ℕ) → 0 < occurs p (t.parts form) → depth_of (at g p) < depth

  -- the object has this text, so it stands for it
  pub record HasText (g : Graph F) (o : ℕ) (s : List ℕ) : Type 0 where
    pub text : text_in (at g o) ≡ Some s
    pub said : stands g o ≡ s

  -- the object has this form: it fits the text, or spells where there is none; each part is there
  pub record HasForm (g : Graph F) (o : ℕ) (f : F) : Type 0 where
    pub form : form_in (at g o) ≡ Some f
    pub fits : (s : List ℕ) → text_in (at g o) ≡ Some s
        → t.Fits s f (map (stands g) (t.parts f))
    pub spells : text_in (at g o) ≡ None
        → t.Spells f × (stands g o ≡ t.spelled f (map (stands g) (t.parts f)))
    pub depth : FitsDepth g f (depth_in (at g o))
    pub there : (p : ℕ) → 0 < occurs p (t.parts f) → IsSome (at g p)
