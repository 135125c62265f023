-- Steps of a path, one after another, and the way back.
use Rattle.std.proofs.Common.{◌≡◌, ℕ, ◌+◌, ◌<◌, ◌≤◌, List, [], ◌∷◌, ◌++◌, length, drop, get_or, Result, Ok, Err, refl, sym, ap, subst, ◌∙◌}
use Rattle.std.proofs.lemmas.List.{at_drop_more, get_or_default, get_or_past}
use Rattle.std.specs.Str.{chars}
use Rattle.std.proofs.lemmas.Str.{chars-encodes, scalars-chars, chars-nil}
use lib.Utf8.{encodes}
use Rattle.tclv_text.specs.Texts.{IsText}
use Rattle.tclv_text.specs.Lists.{ListFlaw, MissingBrace, MissingQuote, TextAfterBrace, TextAfterQuote}
use Rattle.tclv_text.specs.Elements.{elements}
use Rattle.tclv_text.specs.Indices.{index}
use Rattle.tclv_text.specs.Quotes.{list_text}
use Rattle.tclv_text.specs.declared.lists.ListFault.{ListFault}
use Rattle.tclv_text.specs.declared.lists.ListFault.TheVariants.{OpenBrace, OpenQuote, AfterBrace, AfterQuote, NoMemory}
use Rattle.tclv_value.specs.Lists.{IsNoList, RefusesList}
use Rattle.tclv_value.specs.Paths.{PathFlaw, NoList, and_then, list_or, place_or, step, put_at, set_path, rebuilt, RefusesPath}
use Rattle.tclv_value.specs.declared.list_paths.Step.{Step}
use Rattle.tclv_value.specs.declared.faults.ValueFault.{ValueFault}
use Rattle.tclv_value.specs.declared.faults.ValueFault.TheVariants as fault

-- a step that is known
then_known : {A B : Type 0} (r : Result A PathFlaw) (f : A → Result B PathFlaw) (x : A) → r ≡ Ok x → and_then r f ≡ f x
then_known r f x is = ap (λ y. and_then y f) is

then_then : {A B C : Type 0} (r : Result A PathFlaw) (f : A → Result B PathFlaw) (g : B → Result C PathFlaw) → and_then (and_then r f) g ≡ and_then r (λ y. and_then (f y) g)
then_then (Ok x) f g = refl
then_then (Err flaw) f g = refl

then_agree : {A B : Type 0} (r : Result A PathFlaw) (f g : A → Result B PathFlaw) → ((y : A) → f y ≡ g y) → and_then r f ≡ and_then r g
then_agree (Ok x) f g same = same x
then_agree (Err flaw) f g same = refl

then_known_err : {A B : Type 0} (r : Result A PathFlaw) (f : A → Result B PathFlaw) (e : PathFlaw) → r ≡ Err e → and_then r f ≡ Err e
then_known_err r f e is = ap (λ y. and_then y f) is

-- what is refused stays refused
pub then_refused : {A B : Type 0} (why : ValueFault) (r : Result A PathFlaw) (f : A → Result B PathFlaw) → RefusesPath why r → RefusesPath why (and_then r f)
then_refused fault.NotWhole r f is = absurd is
then_refused fault.TooLarge r f is = absurd is
then_refused fault.FloatForm r f is = absurd is
then_refused fault.NotTruth r f is = absurd is
then_refused (fault.NotList e) r f is = (is.0, then_known_err r f _ is.1, is.2)
then_refused fault.BadIndex r f is = then_known_err r f _ is
then_refused (fault.OutOfRange n) r f is = then_known_err r f _ is
then_refused fault.NoMemory r f is = tt

-- a text on a path that is no list
flawed_step : (level : ℕ) (t i : List ℕ) (flaw : ListFlaw) → elements t ≡ Err flaw → step level t i ≡ Err (NoList t)
flawed_step level t i flaw is = ap (λ r. and_then (list_or t r) (λ ts. and_then (place_or level (length ts) (index i (length ts))) (λ k. Ok (ts, k)))) is

flaw_read : (bs : List ℕ) (e : ListFault) → IsText bs → IsNoList (chars bs) e → (flaw : ListFlaw) × (elements (chars bs) ≡ Err flaw)
flaw_read bs OpenBrace text is = (MissingBrace, subst (λ t. elements t ≡ Err MissingBrace) (chars-encodes (chars bs) (scalars-chars bs text.utf8)) is.read)
flaw_read bs OpenQuote text is = (MissingQuote, subst (λ t. elements t ≡ Err MissingQuote) (chars-encodes (chars bs) (scalars-chars bs text.utf8)) is.read)
flaw_read bs (AfterBrace n) text is = (TextAfterBrace (chars (drop n (encodes (chars bs)))), subst (λ t. elements t ≡ Err (TextAfterBrace (chars (drop n (encodes (chars bs)))))) (chars-encodes (chars bs) (scalars-chars bs text.utf8)) is.2.read)
flaw_read bs (AfterQuote n) text is = (TextAfterQuote (chars (drop n (encodes (chars bs)))), subst (λ t. elements t ≡ Err (TextAfterQuote (chars (drop n (encodes (chars bs)))))) (chars-encodes (chars bs) (scalars-chars bs text.utf8)) is.2.read)
flaw_read bs NoMemory text is = absurd is

refused_bytes : (why : ValueFault) (bs : List ℕ) (level : ℕ) (i : List ℕ) → IsText bs → RefusesList why (chars bs) → RefusesPath why (step level (chars bs) i)
refused_bytes fault.NotWhole bs level i text is = absurd is
refused_bytes fault.TooLarge bs level i text is = absurd is
refused_bytes fault.FloatForm bs level i text is = absurd is
refused_bytes fault.NotTruth bs level i text is = absurd is
refused_bytes (fault.NotList e) bs level i text is = let read = flaw_read bs e text is in (chars bs, flawed_step level (chars bs) i read.0 read.1, is)
refused_bytes fault.BadIndex bs level i text is = absurd is
refused_bytes (fault.OutOfRange n) bs level i text is = absurd is
refused_bytes fault.NoMemory bs level i text is = tt

pub refused_list : (why : ValueFault) (bs t : List ℕ) (level : ℕ) (i : List ℕ) → IsText bs → chars bs ≡ t → RefusesList why (chars bs) → RefusesPath why (step level t i)
refused_list why bs t level i text is refused = subst (λ s. RefusesPath why (step level s i)) is (refused_bytes why bs level i text refused)

-- the lists so far with one more
pub rebuilt_push : (steps : List Step) (s : Step) (x : List ℕ) → rebuilt (steps ++ s ∷ []) x ≡ rebuilt steps (list_text (put_at s.elements.items s.place x))
rebuilt_push [] s x = refl
rebuilt_push (t ∷ steps) s x = ap (λ y. list_text (put_at t.elements.items t.place y)) (rebuilt_push steps s x)

-- where a path stands behind some steps
pub record Stands (outer : List ℕ) (path : List (List ℕ)) (n : ℕ) (text : List ℕ) (steps : List Step) : Type 0 where
  pub goes : (x : List ℕ) → set_path 0 outer path x ≡ and_then (set_path n text (drop n path) x) (λ y. Ok (rebuilt steps y))

module _ (outer : List ℕ) (path : List (List ℕ)) (n : ℕ) (text : List ℕ) (steps : List Step) (within : n < length path) (so_far : Stands outer path n text steps) where
  here : (x : List ℕ) → set_path n text (drop n path) x ≡ set_path n text (get_or path n [] ∷ drop (n + 1) path) x
  here x = at_drop_more (λ ps. set_path n text ps x) path n [] within

  pub stands_more : (s : Step) (i : List ℕ) (next : List ℕ) (steps2 : List Step) → i ≡ get_or path n i → step n text i ≡ Ok (s.elements.items, s.place) → next ≡ get_or s.elements.items s.place [] → steps2 ≡ steps ++ s ∷ [] → Stands outer path (n + 1) next steps2
  stands_more s i next steps2 is known element more = record {
    goes = λ x.
        let named : step n text (get_or path n []) ≡ Ok (s.elements.items, s.place) = ap (step n text) (sym (is ∙ get_or_default path n i [] within)) ∙ known in
        so_far.goes x
        ∙ ap (λ r. and_then r (λ y. Ok (rebuilt steps y))) (here x ∙ then_known (step n text (get_or path n [])) _ _ named)
        ∙ then_then (set_path (n + 1) (get_or s.elements.items s.place []) (drop (n + 1) path) x) (λ y. Ok (list_text (put_at s.elements.items s.place y))) (λ y. Ok (rebuilt steps y))
        ∙ then_agree (set_path (n + 1) (get_or s.elements.items s.place []) (drop (n + 1) path) x) _ _ (λ y. ap Ok (sym (rebuilt_push steps s y) ∙ ap (λ ss. rebuilt ss y) (sym more)))
        ∙ ap (λ t. and_then (set_path (n + 1) t (drop (n + 1) path) x) (λ y. Ok (rebuilt steps2 y))) (sym element);
  }

  pub stands_refused : (why : ValueFault) (i : List ℕ) → i ≡ get_or path n i → RefusesPath why (step n text i) → (x : List ℕ) → RefusesPath why (set_path 0 outer path x)
  stands_refused why i is refused x =
      let named : RefusesPath why (step n text (get_or path n [])) = subst (λ t. RefusesPath why (step n text t)) (is ∙ get_or_default path n i [] within) refused in
      subst (RefusesPath why) (sym (so_far.goes x))
      (then_refused why (set_path n text (drop n path) x) (λ y. Ok (rebuilt steps y)) (subst (RefusesPath why) (sym (here x)) (then_refused why (step n text (get_or path n [])) _ named)))

-- no element stands behind the last
pub no_element : (bs : List ℕ) (ts : List (List ℕ)) (k : ℕ) → bs ≡ [] → length ts ≤ k → chars bs ≡ get_or ts k []
no_element bs ts k none past = ap chars none ∙ chars-nil ∙ sym (get_or_past ts k [] past)

-- one list less on the way back
pub one_back : (steps left : List Step) (s : Step) (text next outer : List ℕ) → steps ≡ left ++ s ∷ [] → next ≡ list_text (put_at s.elements.items s.place text) → rebuilt steps text ≡ outer → rebuilt left next ≡ outer
one_back steps left s text next outer popped made so_far = ap (rebuilt left) made ∙ sym (rebuilt_push left s text) ∙ ap (λ ss. rebuilt ss text) (sym popped) ∙ so_far
