-- Values of readings, and the parts that are found.
use Rattle.std.proofs.Common.{◌≡◌, ℕ, ◌<◌, List, [], ◌∷◌, ◌++◌, length, Ok, Err, Some, None, Option, Result, refl, sym, ap, ap₂, subst, ◌∙◌, arith, append_assoc, IfOk, IsErrAnd}
use Rattle.std.specs.Str.{chars}
use Rattle.std.proofs.lemmas.Str.{encodes-chars, chars-nil}
use lib.Utf8.{encodes}
use Rattle.tclv_text.specs.Texts.{IsText}
use Rattle.tclv_parse.specs.declared.faults.ParseFault.{ParseFault}
use Rattle.tclv_parse.specs.declared.stops.Stop.{Stop}
use Rattle.tclv_parse.specs.declared.stops.Stop.TheVariants.{Fault, NoMemory}
use Rattle.tclv_parse.specs.declared.tree.Part.{Part}
use Rattle.tclv_parse.specs.declared.tree.Part.TheVariants as part
use Rattle.tclv_parse.specs.declared.joining.Found.{Found}
use Rattle.tclv_parse.specs.Runs.{Text}
use Rattle.tclv_parse.specs.Readings.{Piece, Reading, End, valued_end, join, join_end}
use Rattle.tclv_parse.specs.Grammar.{text_before, text_part}
use Rattle.tclv_parse.specs.Trees.{ReadsEnd, ReadsPart, IsMemory, Goes, pending, parts_before, text_of, literal_of, IsSubstitution}

-- ---- values of what was read

pub valued-id : {A : Type 0} (e : End A) → valued_end (λ a. a) e ≡ e
valued-id (Ok p) = refl
valued-id (Err x) = refl

valued-same : {A B : Type 0} (g k : A → B) → ((a : A) → g a ≡ k a) → (e : End A) → valued_end g e ≡ valued_end k e
valued-same g k q (Ok p) = ap (λ b. Ok (b, p.1)) (q p.0)
valued-same g k q (Err x) = refl

valued-valued : {A B C : Type 0} (g : B → C) (h : A → B) (e : End A) → valued_end g (valued_end h e) ≡ valued_end (λ a. g (h a)) e
valued-valued g h (Ok p) = refl
valued-valued g h (Err x) = refl

-- where g is yet to come before what is h of the rest
pub moved : {A B C : Type 0} (g : B → C) (h : A → B) (k : A → C) (e : End B) (e' : End A) → e ≡ valued_end h e' → ((a : A) → g (h a) ≡ k a) → valued_end g e ≡ valued_end k e'
moved g h k e e' p q = ap (valued_end g) p ∙ valued-valued g h e' ∙ valued-same (λ a. g (h a)) k q e'

-- nothing is yet to come before it
pub unmoved : {A : Type 0} (g : A → A) (e : End A) → ((a : A) → g a ≡ a) → e ≡ valued_end g e
unmoved g e q = sym (valued-same g (λ a. a) q e ∙ valued-id e)

join_by-ok : {A B C : Type 0} (ps : List Piece) (e : End A) (f : Text → Reading B) (g : A → B → C) (a : A) (u : Text) → e ≡ Ok (a, u) → (join_end ps e f g).1 ≡ valued_end (g a) (f u).1
join_by-ok ps e f g a u q = ap (λ x. (join_end ps x f g).1) q

pub join-ok : {A B C : Type 0} (r : Reading A) (f : Text → Reading B) (g : A → B → C) (a : A) (u : Text) → r.1 ≡ Ok (a, u) → (join r f g).1 ≡ valued_end (g a) (f u).1
join-ok r f g a u q = join_by-ok r.0 r.1 f g a u q

pub join-err : {A B C : Type 0} (r : Reading A) (f : Text → Reading B) (g : A → B → C) (x : ParseFault) → r.1 ≡ Err x → (join r f g).1 ≡ Err x
join-err r f g x q = ap (λ y. (join_end r.0 y f g).1) q

-- ---- answers

-- a fault of what is to come is the fault
pub failed : {A : Type 0} (B : Type 0) (e old : End A) (s : Stop) (new : End A) (t : Text) → e ≡ old → Goes {A = A} {B = B} old (Err s) new → ReadsEnd e (Err s) t
failed B e old (Fault x) new t p g = p ∙ g
failed B e old NoMemory new t p g = tt

-- a fault of a part of a rule is that of the rule
pub passed : {A B : Type 0} (e : End A) (whole : End B) (s : Stop) (t u : Text) → ((x : ParseFault) → e ≡ Err x → whole ≡ Err x) → ReadsEnd e (Err s) t → ReadsEnd whole (Err s) u
passed e whole (Fault x) t u h g = h x g
passed e whole NoMemory t u h g = tt

pub comes-up : {A B : Type 0} (e : End A) (whole : End B) (out : Result B Stop) (x : Stop) (t u : Text) → IsErrAnd out (λ y. y ≡ x) → ((z : ParseFault) → e ≡ Err z → whole ≡ Err z) → ReadsEnd e (Err x) t → ReadsEnd whole out u
comes-up e whole (Ok b) x t u a h g = absurd a
comes-up e whole (Err y) x t u a h g = subst (λ z. ReadsEnd whole (Err z) u) (sym a) (passed e whole x t u h g)

part_passed : {A : Type 0} (e : End A) (r : Reading (List Part)) (s : Stop) (t u : Text) → ((x : ParseFault) → e ≡ Err x → r.1 ≡ Err x) → ReadsEnd e (Err s) t → ReadsPart r (Err s) u
part_passed e r (Fault x) t u h g = h x g
part_passed e r NoMemory t u h g = tt

-- the same where the rule reads one part
pub part-comes-up : {A : Type 0} (e : End A) (r : Reading (List Part)) (out : Result Part Stop) (x : Stop) (t u : Text) → IsErrAnd out (λ y. y ≡ x) → ((z : ParseFault) → e ≡ Err z → r.1 ≡ Err z) → ReadsEnd e (Err x) t → ReadsPart r out u
part-comes-up e r (Ok b) x t u a h g = absurd a
part-comes-up e r (Err y) x t u a h g = subst (λ z. ReadsPart r (Err z) u) (sym a) (part_passed e r x t u h g)

goes_passed : {A B : Type 0} (C : Type 0) (e : End A) (old new : End B) (s : Stop) (t : Text) → ((x : ParseFault) → e ≡ Err x → old ≡ Err x) → ReadsEnd e (Err s) t → Goes {A = B} {B = C} old (Err s) new
goes_passed C e old new (Fault x) t h g = h x g
goes_passed C e old new NoMemory t h g = tt

-- the same where parts are being found
pub goes-up : {A B C : Type 0} (e : End A) (old new : End B) (out : Result C Stop) (x : Stop) (t : Text) → IsErrAnd out (λ y. y ≡ x) → ((z : ParseFault) → e ≡ Err z → old ≡ Err z) → ReadsEnd e (Err x) t → Goes old out new
goes-up e old new (Ok b) x t a h g = absurd a
goes-up {C = C} e old new (Err y) x t a h g = subst (λ z. Goes {B = C} old (Err z) new) (sym a) (goes_passed C e old new x t h g)

pub part-end : (r : Reading (List Part)) (x : Stop) (t : Text) → ReadsPart r (Err x) t → ReadsEnd r.1 (Err x) t
part-end r (Fault x) t h = h
part-end r NoMemory t h = tt

-- an answer that only memory can refuse
pub or-memory : {A : Type 0} (e : End A) (out : Result A Stop) (a : A) (u : Text) → e ≡ Ok (a, u) → IfOk out (λ b. b ≡ a) → IsMemory out → ReadsEnd e out u
or-memory e (Ok b) a u h ok err = h ∙ ap (λ z. Ok (z, u)) (sym ok)
or-memory e (Err x) a u h ok err = subst (λ z. ReadsEnd e (Err z) u) (sym err) tt

-- ---- parts that are found

joined-text : (x m : Text) (parts : List Part) → text_before (x ++ m) parts ≡ text_before x (text_before m parts)
joined-text x m [] = refl
joined-text x m (part.Literal y ∷ parts) = ap (λ z. part.Literal z ∷ parts) (append_assoc x m y)
joined-text x m (p ∷ parts) = refl

joined : (o : Option Text) (m : Text) (parts : List Part) → text_before (text_of o ++ m) parts ≡ pending o (text_before m parts)
joined None m parts = refl
joined (Some x) m parts = joined-text x m parts

pub adds-text : (old : Found) (ps : List Part) (t m x : Text) → ps ≡ old.parts → t ≡ text_of old.text → x ≡ t ++ m → (parts : List Part) → ps ++ text_before x parts ≡ parts_before old (text_before m parts)
adds-text old ps t m x e p q parts = ap₂ (λ l y. l ++ text_before y parts) e (q ∙ ap (λ y. y ++ m) p) ∙ ap (λ l. old.parts ++ l) (joined old.text m parts)

before-part : (o : Option Text) (p : Part) (parts : List Part) → IsSubstitution p → literal_of o ++ p ∷ parts ≡ pending o (p ∷ parts)
before-part None p parts s = refl
before-part (Some x) (part.Literal y) parts s = absurd s
before-part (Some x) p parts s = refl

pub adds-part : (old : Found) (ps qs : List Part) (p : Part) → IsSubstitution p → ps ≡ old.parts ++ literal_of old.text → qs ≡ ps ++ p ∷ [] → (parts : List Part) → qs ++ parts ≡ parts_before old (p ∷ parts)
adds-part old ps qs p s e q parts =
    ap (λ l. l ++ parts) (q ∙ ap (λ l. l ++ p ∷ []) e)
    ∙ append_assoc (old.parts ++ literal_of old.text) (p ∷ []) parts
    ∙ append_assoc old.parts (literal_of old.text) (p ∷ parts)
    ∙ ap (λ l. old.parts ++ l) (before-part old.text p parts s)

-- ---- words in braces

no_text : (bs : List ℕ) → IsText bs → chars bs ≡ [] → length bs ≡ 0
no_text bs t e = ap length (sym (encodes-chars bs t.utf8) ∙ ap encodes e)

text_part-some : (bs t : List ℕ) → IsText bs → chars bs ≡ t → 0 < length bs → text_part t ≡ part.Literal t ∷ []
text_part-some bs [] h e some = absurd (omega (arith, no_text bs h e))
text_part-some bs (c ∷ t) h e some = refl

pub literal-part : (bs t : List ℕ) → IsText bs → chars bs ≡ t → 0 < length bs → part.Literal t ∷ [] ≡ text_part t
literal-part bs t h e some = sym (text_part-some bs t h e some)

pub no-part : (bs : List ℕ) → length bs ≡ 0 → chars bs ≡ []
no-part [] h = chars-nil
no-part (b ∷ bs) h = absurd (omega arith)
