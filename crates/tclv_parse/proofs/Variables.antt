-- Names of variables, and variables alone.
use Rattle.std.proofs.Common.{◌≡◌, ℕ, zero, suc, ◌-◌, ◌≤◌, Bool, true, false, if◌then◌else◌, List, [], ◌∷◌, ◌++◌, length, take, drop, Some, None, Ok, Err, refl, sym, ap, ap₂, ◌∙◌, arith, length-drop}
use Rattle.tclv_text.specs.Cursors.{sign}
use Rattle.tclv_text.specs.declared.cursors.Sign.{Sign}
use Rattle.tclv_text.specs.declared.cursors.Sign.TheVariants as s
use Rattle.tclv_parse.specs.declared.runs.Run.{Run}
use Rattle.tclv_parse.specs.declared.runs.Run.TheVariants as run
use Rattle.tclv_parse.specs.declared.faults.ParseFault.{ParseFault}
use Rattle.tclv_parse.specs.declared.faults.ParseFault.TheVariants as f
use Rattle.tclv_parse.specs.declared.tree.Part.{Part}
use Rattle.tclv_parse.specs.declared.tree.Part.TheVariants as part
use Rattle.tclv_parse.specs.Runs.{Text, step, option_case, run_len, run_end}
use Rattle.tclv_parse.specs.Readings.{Piece, Reading, End, done, valued_end, join_end}
use Rattle.tclv_parse.specs.Grammar.{Deeper, named_by, variable_by}
use Rattle.tclv_parse.specs.Trees.{enclosed_by, enclosed_name}
use Rattle.tclv_parse.proofs.RunLaws.{drop-next, next_len, next_end, Passes, passes-one}

drop-none : (n : ℕ) → drop {A = ℕ} n [] ≡ []
drop-none zero = refl
drop-none (suc n) = refl

-- ---- names in braces

pub enclosed-step : (x : Sign) → (x ≡ s.End → ⊥) → (x ≡ s.CloseBrace → ⊥) → step run.Enclosed x ≡ Some run.Enclosed
enclosed-step s.End a b = absurd (a refl)
enclosed-step s.CloseBrace a b = absurd (b refl)
enclosed-step _ a b = refl

closed-step : (x : Sign) → step run.Closed x ≡ None
closed-step s.End = refl
closed-step _ = refl

pub enclosed-missing : (t u : Text) (k : ℕ) → Passes run.Enclosed t run.Enclosed u k → sign u ≡ s.End → enclosed_name t ≡ Err f.VarBrace
unfolding enclosed_name
enclosed-missing t u k h e = ap (enclosed_by t (run_len run.Enclosed t)) (h.end ∙ next_end run.Enclosed u None (ap (step run.Enclosed) e))

pub enclosed-ends : (t u v : Text) (k : ℕ) → Passes run.Enclosed t run.Enclosed u k → sign u ≡ s.CloseBrace → v ≡ drop 1 u → enclosed_name t ≡ Ok (take k t, v)
unfolding enclosed_name
enclosed-ends t u v k h e q =
    let one = passes-one run.Enclosed run.Enclosed run.Closed t u v k h (ap (step run.Enclosed) e) q in
    let none = closed-step (sign v) in
    let len : run_len run.Enclosed t ≡ suc k = omega (arith, one.len, next_len run.Closed v None none) in
    let front : run_len run.Enclosed t - 1 ≡ k = omega arith in
    ap (enclosed_by t (run_len run.Enclosed t)) (one.end ∙ next_end run.Closed v None none)
    ∙ ap₂ (λ x y. Ok (x, y)) (ap (λ n. take n t) front) (ap (λ n. drop n t) len ∙ sym one.place)

-- ---- how the run of a name ends

abbrev is_enclosed : Run → Bool
is_enclosed run.Enclosed = true
is_enclosed run.Closed = true
is_enclosed _ = false

closed_next : (x : Sign) (t : Text) → is_enclosed (option_case (step run.Closed x) run.Closed (λ next. run_end next t)) ≡ true
closed_next s.End t = refl
closed_next _ t = refl

closed_end : (t : Text) → is_enclosed (run_end run.Closed t) ≡ true
closed_end [] = refl
closed_end (c ∷ t) = closed_next (sign (c ∷ t)) t

enclosed_next : (x : Sign) (t : Text) → is_enclosed (run_end run.Enclosed t) ≡ true → is_enclosed (option_case (step run.Enclosed x) run.Enclosed (λ next. run_end next t)) ≡ true
enclosed_next s.End t h = refl
enclosed_next s.CloseBrace t h = closed_end t
enclosed_next _ t h = h

enclosed_end : (t : Text) → is_enclosed (run_end run.Enclosed t) ≡ true
enclosed_end [] = refl
enclosed_end (c ∷ t) = enclosed_next (sign (c ∷ t)) t (enclosed_end t)

abbrev is_plain : Run → Bool
is_plain run.Sigil = true
is_plain (run.Name colon) = true
is_plain _ = false

colon_next : (colon : Bool) (t : Text) → ((b : Bool) → is_plain (run_end (run.Name b) t) ≡ true) → is_plain (option_case (if colon then Some (run.Name true) else None) (run.Name colon) (λ next. run_end next t)) ≡ true
colon_next true t h = h true
colon_next false t h = refl

name_next : (x : Sign) (colon : Bool) (t : Text) → ((b : Bool) → is_plain (run_end (run.Name b) t) ≡ true) → is_plain (option_case (step (run.Name colon) x) (run.Name colon) (λ next. run_end next t)) ≡ true
name_next s.End colon t h = refl
name_next s.Name colon t h = h false
name_next s.Colons colon t h = h true
name_next s.Colon colon t h = colon_next colon t h
name_next _ colon t h = refl

name_end : (t : Text) (colon : Bool) → is_plain (run_end (run.Name colon) t) ≡ true
name_end [] colon = refl
name_end (c ∷ t) colon = name_next (sign (c ∷ t)) colon t (λ b. name_end t b)

sigil_next : (x : Sign) (t : Text) → (x ≡ s.OpenBrace → ⊥) → is_plain (option_case (step run.Sigil x) run.Sigil (λ next. run_end next t)) ≡ true
sigil_next s.End t a = refl
sigil_next s.OpenBrace t a = absurd (a refl)
sigil_next s.Name t a = name_end t false
sigil_next s.Colons t a = name_end t true
sigil_next _ t a = refl

sigil_end : (t : Text) → (sign t ≡ s.OpenBrace → ⊥) → is_plain (run_end run.Sigil t) ≡ true
sigil_end [] a = refl
sigil_end (c ∷ t) a = sigil_next (sign (c ∷ t)) t a

-- ---- the run of a variable

drop-one-more : (m : ℕ) (t : Text) → drop (suc m) t ≡ drop m (drop 1 t)
drop-one-more m [] = sym (drop-none m)
drop-one-more m (c ∷ t) = refl

drop-two-more : (m : ℕ) (t : Text) → drop (suc (suc m)) t ≡ drop m (drop 2 t)
drop-two-more m t = drop-one-more (suc m) t ∙ drop-one-more m (drop 1 t) ∙ ap (drop m) (drop-next 1 t)

pub record Sigil (t : Text) : Type 0 where
  pub len : run_len run.Variable t ≡ suc (run_len run.Sigil (drop 1 t))
  pub end : run_end run.Variable t ≡ run_end run.Sigil (drop 1 t)

sigil-at : (t : Text) → sign t ≡ s.Dollar → Sigil t
sigil-at t e = let q = ap (step run.Variable) e in record { len = next_len run.Variable t (Some run.Sigil) q; end = next_end run.Variable t (Some run.Sigil) q }

pub record Brace (t : Text) : Type 0 where
  pub len : run_len run.Variable t ≡ suc (suc (run_len run.Enclosed (drop 1 (drop 1 t))))
  pub end : run_end run.Variable t ≡ run_end run.Enclosed (drop 1 (drop 1 t))

brace-at : (t : Text) → sign t ≡ s.Dollar → sign (drop 1 t) ≡ s.OpenBrace → Brace t
brace-at t e h =
    let o = sigil-at t e in
    let q = ap (step run.Sigil) h in
    record { len = o.len ∙ ap suc (next_len run.Sigil (drop 1 t) (Some run.Enclosed) q); end = o.end ∙ next_end run.Sigil (drop 1 t) (Some run.Enclosed) q }

enclosed_le : (u : Text) (m : ℕ) (r : Run) (name v : Text) → enclosed_by u m r ≡ Ok (name, v) → length v ≤ length u
enclosed_le u m run.Closed name v e =
    let pair : (take (m - 1) u, drop m u) ≡ (name, v) = cc in
    let rest : drop m u ≡ v = ap (λ (z : Text × Text). z.1) pair in
    omega (arith, ap length rest, length-drop m u)
enclosed_le u m run.Enclosed name v e = cc
enclosed_le u m r name v e = cc

pub enclosed-le : (u name v : Text) → enclosed_name u ≡ Ok (name, v) → length v ≤ length u
unfolding enclosed_name
enclosed-le u name v e = enclosed_le u (run_len run.Enclosed u) (run_end run.Enclosed u) name v e

-- a plain name, and the text behind it
pub record Plain (t name v : Text) : Type 0 where
  pub sigil : sign t ≡ s.Dollar
  pub plain : sign (drop 1 t) ≡ s.OpenBrace → ⊥
  pub name_is : name ≡ take (run_len run.Sigil (drop 1 t)) (drop 1 t)
  pub rest : v ≡ drop (run_len run.Sigil (drop 1 t)) (drop 1 t)

-- ---- variables

-- a variable alone, and then what follows it
abbrev follow : End (List Part) → (Text → Reading (List Part)) → End (List Part)
follow (Ok p) more = valued_end (λ ps. p.0 ++ ps) (more p.1).1
follow (Err x) more = Err x

module _ (deeper : Deeper) (inner : Bool) where
  element_follows : (name : Text) (more : Text → Reading (List Part)) (ps : List Piece) (e : End (List Part))
      → (join_end ps e more (λ index qs. part.Element name index ∷ qs)).1 ≡ follow (join_end ps e (done {A = List Part} []) (λ index qs. part.Element name index ∷ qs)).1 more
  element_follows name more ps (Ok p) = refl
  element_follows name more ps (Err x) = refl

  named_follows : (name : Text) (more : Text → Reading (List Part)) (u : Text) (x : Sign) → (named_by deeper inner name more u x).1 ≡ follow (named_by deeper inner name (done []) u x).1 more
  named_follows name more u s.OpenParen = element_follows name more (deeper.index u).0 (deeper.index u).1
  named_follows name more u _ = refl

  variable_follows : (more : Text → Reading (List Part)) (t : Text) (n : ℕ) (r : Run) → (variable_by deeper inner more t n r).1 ≡ follow (variable_by deeper inner (done []) t n r).1 more
  variable_follows more t n run.Enclosed = refl
  variable_follows more t n run.Closed = refl
  variable_follows more t n _ = named_follows (take (n - 1) (drop 1 t)) more (drop n t) (sign (drop n t))

  pub variable-ok : (more : Text → Reading (List Part)) (t : Text) (n : ℕ) (r : Run) (p : Part) (u : Text) → (variable_by deeper inner (done []) t n r).1 ≡ Ok (p ∷ [], u) → (variable_by deeper inner more t n r).1 ≡ valued_end (λ ps. p ∷ ps) (more u).1
  variable-ok more t n r p u e = variable_follows more t n r ∙ ap (λ x. follow x more) e

  pub variable-err : (more : Text → Reading (List Part)) (t : Text) (n : ℕ) (r : Run) (x : ParseFault) → (variable_by deeper inner (done []) t n r).1 ≡ Err x → (variable_by deeper inner more t n r).1 ≡ Err x
  variable-err more t n r x e = variable_follows more t n r ∙ ap (λ y. follow y more) e

  -- ---- the answers of the reader of a variable

  abbrev alone : Text → End (List Part)
  alone t = (variable_by deeper inner (done []) t (run_len run.Variable t) (run_end run.Variable t)).1

  enclosed_ok : (t u : Text) (n m : ℕ) (r : Run) (name v : Text) → n ≡ suc (suc m) → u ≡ drop 2 t → enclosed_by u m r ≡ Ok (name, v) → (variable_by deeper inner (done []) t n r).1 ≡ Ok (part.Variable name ∷ [], v)
  enclosed_ok t u n m run.Closed name v l q e =
      let pair : (take (m - 1) u, drop m u) ≡ (name, v) = cc in
      let front : take (m - 1) u ≡ name = ap (λ (z : Text × Text). z.0) pair in
      let rest : drop m u ≡ v = ap (λ (z : Text × Text). z.1) pair in
      let k : n - 3 ≡ m - 1 = omega arith in
      ap₂ (λ x y. Ok (part.Variable x ∷ [], y)) (ap₂ take k (sym q) ∙ front) (ap (λ i. drop i t) l ∙ drop-two-more m t ∙ ap (drop m) (sym q) ∙ rest)
  enclosed_ok t u n m run.Enclosed name v l q e = cc
  enclosed_ok t u n m r name v l q e = cc

  enclosed_err : (t u : Text) (n m : ℕ) (r : Run) (x : ParseFault) → is_enclosed r ≡ true → enclosed_by u m r ≡ Err x → (variable_by deeper inner (done []) t n r).1 ≡ Err x
  enclosed_err t u n m run.Enclosed x a e = let same : f.VarBrace ≡ x = cc in ap (λ y. Err y) same
  enclosed_err t u n m run.Closed x a e = cc
  enclosed_err t u n m r x a e = cc

  pub braced-ok : (t u name v : Text) → sign t ≡ s.Dollar → sign (drop 1 t) ≡ s.OpenBrace → u ≡ drop 1 (drop 1 t) → enclosed_name u ≡ Ok (name, v) → alone t ≡ Ok (part.Variable name ∷ [], v)
  unfolding enclosed_name
  braced-ok t u name v e h q r =
      let b = brace-at t e h in
      let at : run_end run.Variable t ≡ run_end run.Enclosed u = b.end ∙ ap (run_end run.Enclosed) (sym q) in
      ap (λ x. (variable_by deeper inner (done []) t (run_len run.Variable t) x).1) at
      ∙ enclosed_ok t u (run_len run.Variable t) (run_len run.Enclosed u) (run_end run.Enclosed u) name v (b.len ∙ ap (λ y. suc (suc (run_len run.Enclosed y))) (sym q)) (q ∙ drop-next 1 t) r

  pub braced-err : (t u : Text) (x : ParseFault) → sign t ≡ s.Dollar → sign (drop 1 t) ≡ s.OpenBrace → u ≡ drop 1 (drop 1 t) → enclosed_name u ≡ Err x → alone t ≡ Err x
  unfolding enclosed_name
  braced-err t u x e h q r =
      let b = brace-at t e h in
      let at : run_end run.Variable t ≡ run_end run.Enclosed u = b.end ∙ ap (run_end run.Enclosed) (sym q) in
      ap (λ y. (variable_by deeper inner (done []) t (run_len run.Variable t) y).1) at
      ∙ enclosed_err t u (run_len run.Variable t) (run_len run.Enclosed u) (run_end run.Enclosed u) x (enclosed_end u) r

  plain_by : (t : Text) (n : ℕ) (r : Run) → is_plain r ≡ true → (variable_by deeper inner (done []) t n r).1 ≡ (named_by deeper inner (take (n - 1) (drop 1 t)) (done []) (drop n t) (sign (drop n t))).1
  plain_by t n run.Enclosed a = cc
  plain_by t n run.Closed a = cc
  plain_by t n _ a = refl

  plain-alone : (t name v : Text) → Plain t name v → alone t ≡ (named_by deeper inner name (done []) v (sign v)).1
  plain-alone t name v p =
      let o = sigil-at t p.sigil in
      let m = run_len run.Sigil (drop 1 t) in
      let k : run_len run.Variable t - 1 ≡ m = omega (arith, o.len) in
      let at : is_plain (run_end run.Variable t) ≡ true = ap is_plain o.end ∙ sigil_end (drop 1 t) p.plain in
      let rest : drop (run_len run.Variable t) t ≡ v = ap (λ i. drop i t) o.len ∙ drop-one-more m t ∙ sym p.rest in
      plain_by t (run_len run.Variable t) (run_end run.Variable t) at
      ∙ ap₂ (λ x y. (named_by deeper inner x (done []) y (sign y)).1) (ap (λ i. take i (drop 1 t)) k ∙ sym p.name_is) rest

  named_else : (name v : Text) (x : Sign) → (x ≡ s.OpenParen → ⊥) → (named_by deeper inner name (done []) v x).1 ≡ Ok (part.Variable name ∷ [], v)
  named_else name v s.OpenParen a = absurd (a refl)
  named_else name v _ a = refl

  pub plain-else : (t name v : Text) → Plain t name v → (sign v ≡ s.OpenParen → ⊥) → alone t ≡ Ok (part.Variable name ∷ [], v)
  plain-else t name v p a = plain-alone t name v p ∙ named_else name v (sign v) a

  abbrev element : Text → List Piece → End (List Part) → End (List Part)
  element name ps e = (join_end ps e (done {A = List Part} []) (λ index qs. part.Element name index ∷ qs)).1

  pub plain-ok : (t name v : Text) (index : List Part) (w : Text) → Plain t name v → sign v ≡ s.OpenParen → (deeper.index v).1 ≡ Ok (index, w) → alone t ≡ Ok (part.Element name index ∷ [], w)
  plain-ok t name v index w p h e = plain-alone t name v p ∙ ap (λ x. (named_by deeper inner name (done []) v x).1) h ∙ ap (element name (deeper.index v).0) e

  pub plain-err : (t name v : Text) (x : ParseFault) → Plain t name v → sign v ≡ s.OpenParen → (deeper.index v).1 ≡ Err x → alone t ≡ Err x
  plain-err t name v x p h e = plain-alone t name v p ∙ ap (λ y. (named_by deeper inner name (done []) v y).1) h ∙ ap (element name (deeper.index v).0) e
