-- The groups of names and values, and their turns.
use Rattle.std.proofs.Common.{◌≡◌, ℕ, ◌+◌, ◌-◌, ◌*◌, ◌/◌, ◌==◌, ◌<◌, ◌≤◌, if◌then◌else◌, List, [], ◌∷◌, ◌++◌, length, map, take, drop, get_or, sym, ap, ◌∙◌, refl, subst, arith, Result, min, max, suc, length-take, ⊎_elim}
use Rattle.std.specs.List.{All}
use Rattle.std.proofs.lemmas.List.{drop_more, drop_all, get_or_push, get_or-drop, get_or-take, get_or_past, get_or-map, length-map, map_push}
use Rattle.std.proofs.lemmas.List.Elements.{All-head, All-tail}
use Rattle.std.proofs.lemmas.Bool.{cases_lt}
use Rattle.tclv_engine.specs.declared.endings.End.{End}
use Rattle.tclv_engine.specs.declared.each_groups.Group.{Group as PlacedGroup}
use Rattle.tclv_engine.specs.declared.each_groups.Groups.{Groups as PlacedGroups}
use Rattle.tclv_engine.specs.declared.machine.Machine.{Machine}
use Rattle.tclv_engine.specs.State.{Text, State, state_of}
use Rattle.tclv_engine.specs.Results.{bind, done, raise}
use Rattle.tclv_engine.specs.Answers.{Outer, AtWorld, Keeps, Runs, SameState, start}
use Rattle.tclv_engine.specs.ListAssignment.{assign_each, listed, unseen}
use Rattle.tclv_engine.specs.EachLoops.{Group, some_names, group_of, groups_of, assign_groups, turns_of, turn_count}
use Rattle.tclv_engine.specs.EachSteps.{GroupInside, group_at, groups_at, as_groups}
use Rattle.tclv_model.specs.declared.messages.MessageId.{MessageId}
use Rattle.tclv_model.specs.Values.{list_of}
use Rattle.tclv_model.specs.declared.error_codes.ErrorCode.TheVariants.{NoCode}
use Rattle.tclv_engine.specs.DataAnswers.{of_answer}
use Rattle.tclv_engine.proofs.Binds.{runs_as}
use Rattle.tclv_engine.proofs.ListLemmas.{list_stays}

-- a name that was pushed, by its place
pub name_on_top : (stack now : List Text) (name : Text) (height : ℕ) → height ≡ length stack → now ≡ stack ++ name ∷ [] → get_or now height [] ≡ name
name_on_top stack now name height h e = ap (λ s. get_or s height []) e ∙ get_or_push stack name [] height (sym h)

-- ---- groups whose words stay where they stand

text_kept : (base now : List Text) (i : ℕ) → Keeps base now → i < length base → get_or now i [] ≡ get_or base i []
text_kept base now i k l = sym (get_or-take (length base) now i [] l) ∙ ap (λ s. get_or s i []) k.kept

group_kept : (base now : List Text) (g : PlacedGroup) → Keeps base now → GroupInside base g → group_at now g ≡ group_at base g
group_kept base now g k h =
    ap (λ t. (listed t, listed (get_or now g.values []))) (text_kept base now g.names k h.names_in)
    ∙ ap (λ t. (listed (get_or base g.names []), listed t)) (text_kept base now g.values k h.values_in)

inside_kept : (base now : List Text) (g : PlacedGroup) → Keeps base now → GroupInside base g → GroupInside now g
inside_kept base now g k h =
    let names = text_kept base now g.names k h.names_in in
    let values = text_kept base now g.values k h.values_in in
    record {
      names_in = omega (arith, h.names_in, k.some);
      values_in = omega (arith, h.values_in, k.some);
      names_list = list_stays _ _ names h.names_list;
      values_list = list_stays _ _ values h.values_list;
      name_count = h.name_count ∙ sym (ap (λ t. length (listed t)) names);
      value_count = h.value_count ∙ sym (ap (λ t. length (listed t)) values);
      some_name = h.some_name;
    }

pub groups_kept : (base now : List Text) (gs : List PlacedGroup) → Keeps base now → All (GroupInside base) gs → groups_at now gs ≡ groups_at base gs
groups_kept base now [] k h = refl
groups_kept base now (g ∷ gs) k h =
    ap (λ x. x ∷ groups_at now gs) (group_kept base now g k (All-head (GroupInside base) g gs h))
    ∙ ap (λ xs. group_at base g ∷ xs) (groups_kept base now gs k (All-tail (GroupInside base) g gs h))

pub all_kept : (base now : List Text) (gs : List PlacedGroup) → Keeps base now → All (GroupInside base) gs → All (GroupInside now) gs
all_kept base now gs k h i d l = inside_kept base now (get_or gs i d) k (h i d l)

-- the same, where the stack stands as it was
pub inside_same : (base now : List Text) (g : PlacedGroup) → now ≡ base → GroupInside base g → GroupInside now g
inside_same base now g e = subst (λ s. GroupInside s g) (sym e)

pub all_same : (base now : List Text) (gs : List PlacedGroup) → now ≡ base → All (GroupInside base) gs → All (GroupInside now) gs
all_same base now gs e = let P : List Text → Type 0 = λ s. All (GroupInside s) gs in subst P (sym e)

-- the group of a number is one of all
pub one_inside : (base now : List Text) (gs : List PlacedGroup) (i : ℕ) (g : PlacedGroup) → now ≡ base → All (GroupInside base) gs → i < length gs → get_or gs i g ≡ g → GroupInside now g
one_inside base now gs i g e h l is = inside_same base now g e (subst (λ x. GroupInside base x) is (h i g l))

-- a group by its number
at_is : (stack : List Text) (groups : List PlacedGroup) (i : ℕ) (g : PlacedGroup) → i < length groups → get_or groups i g ≡ g → get_or (groups_at stack groups) i (group_at stack g) ≡ group_at stack g
at_is stack groups i g l e = get_or-map (group_at stack) groups i g (group_at stack g) l ∙ ap (group_at stack) e

at_in : (stack : List Text) (groups : List PlacedGroup) (i : ℕ) → i < length groups → i < length (groups_at stack groups)
at_in stack groups i l = omega (arith, l, length-map {B = Group} groups (group_at stack))

-- ---- groups, one after another

groups_first : {W : Type 0} → (k : ℕ) (g : Group) (rest groups : List Group) (st : (State W)) → g ∷ rest ≡ groups →
    bind (assign_each g.0 (drop (k * length g.0) g.1) st) (λ u s1. assign_groups k rest s1) ≡ assign_groups k groups st
unfolding assign_groups
groups_first k g rest groups st e = ap (λ gs. assign_groups k gs st) e

groups_step : {W : Type 0} → (k : ℕ) (groups : List Group) (i : ℕ) (g : Group) (st : (State W)) → i < length groups → get_or groups i g ≡ g →
    bind (assign_each g.0 (drop (k * length g.0) g.1) st) (λ u s1. assign_groups k (drop (i + 1) groups) s1) ≡ assign_groups k (drop i groups) st
groups_step k groups i g st l e = groups_first k g (drop (i + 1) groups) (drop i groups) st (sym (drop_more groups i g l ∙ ap (λ x. x ∷ drop (i + 1) groups) e))

-- one group of the code, whose words stand where they stood, and those behind it
pub placed_step : {W : Type 0} → (k : ℕ) (stack now : List Text) (groups : List PlacedGroup) (i : ℕ) (g : PlacedGroup) (st : (State W)) → i < length groups → get_or groups i g ≡ g → now ≡ stack →
    bind (assign_each (group_at now g).0 (drop (k * length (group_at now g).0) (group_at now g).1) st) (λ u s1. assign_groups k (drop (i + 1) (groups_at stack groups)) s1)
    ≡ assign_groups k (drop i (groups_at stack groups)) st
placed_step k stack now groups i g st l e same =
    ap (λ s. bind (assign_each (group_at s g).0 (drop (k * length (group_at s g).0) (group_at s g).1) st) (λ u s1. assign_groups k (drop (i + 1) (groups_at stack groups)) s1)) same
    ∙ groups_step k (groups_at stack groups) i (group_at stack g) st (at_in stack groups i l) (at_is stack groups i g l e)

pub placed_length : (stack : List Text) (groups : List PlacedGroup) (i : ℕ) → length groups ≤ i → length (groups_at stack groups) ≤ i
placed_length stack groups i l = omega (arith, l, length-map {B = Group} groups (group_at stack))

pub groups_none : {W : Type 0} → (k : ℕ) (groups : List Group) (st : (State W)) → groups ≡ [] → done tt st ≡ assign_groups k groups st
unfolding assign_groups
groups_none k groups st e = ap (λ gs. assign_groups k gs st) (sym e)

-- What a loop over groups keeps: whatever the rest answers, the whole answers.
pub record GroupsAssigned {W : Type 0} (k : ℕ) (groups : List Group) (old now : (Machine W)) (count : ℕ) : Type 0 where
  pub stack : now.values.store.stack ≡ old.values.store.stack
  pub own : now.own ≡ old.own
  pub units_left : now.units ≤ old.units
  pub goes : (here : Outer) → AtWorld here (λ w. (r : Result (Unit {0}) End) (after : (Machine W)) →
      AtWorld here (λ v. Runs (assign_groups k (drop count groups) (state_of now v)) unseen (start now v here.torn) r after here) →
      Runs (assign_groups k groups (state_of old w)) unseen (start old w here.torn) r after here)

pub groups_begin : {W : Type 0} → (k : ℕ) (groups : List Group) (old : (Machine W)) (count : ℕ) → count ≡ 0 → GroupsAssigned k groups old old count
groups_begin k groups old count e = record {
  stack = refl;
  own = refl;
  units_left = omega arith;
  goes = λ here w told r after h. runs_as (ap (λ n. assign_groups k (drop n groups) (state_of old w)) e) (h w told);
}

-- the value of a number in a turn, whose first value has the number n
pub turn_value : (values : List Text) (n count first k i : ℕ) → first ≡ min n count → count ≡ length values → i ≡ min (first + k) count → get_or values i [] ≡ get_or (drop n values) k []
turn_value values n count first k i f c e = ⊎_elim
    (λ (l : n + k < length values). ap (λ m. get_or values m []) (omega (arith, l, f, c, e)) ∙ sym (get_or-drop n values k []))
    (λ (g : length values ≤ n + k). get_or_past values i [] (omega (arith, g, f, c, e)) ∙ sym (get_or-drop n values k [] ∙ get_or_past values (n + k) [] g))
    (cases_lt (n + k) (length values))

-- ---- how many turns

count_step : (groups : List Group) (i : ℕ) (g : Group) → i < length groups → get_or groups i g ≡ g → max (turns_of g) (turn_count (drop (i + 1) groups)) ≡ turn_count (drop i groups)
count_step groups i g l e = ap turn_count (sym (drop_more groups i g l ∙ ap (λ x. x ∷ drop (i + 1) groups) e))

count-more : (most more turns rest step whole : ℕ) → max turns rest ≡ step → max most step ≡ whole → more ≡ max most turns → max more rest ≡ whole
count-more most more turns rest step whole s e f = omega (arith, s, e, f)

-- the most turns so far, with those of one group more
pub count_more : (stack : List Text) (groups : List PlacedGroup) (i : ℕ) (g : PlacedGroup) (most more whole : ℕ) → i < length groups → get_or groups i g ≡ g →
    max most (turn_count (drop i (groups_at stack groups))) ≡ whole → more ≡ max most (turns_of (group_at stack g)) → max more (turn_count (drop (i + 1) (groups_at stack groups))) ≡ whole
count_more stack groups i g most more whole l e h m =
    count-more most more (turns_of (group_at stack g)) (turn_count (drop (i + 1) (groups_at stack groups))) (turn_count (drop i (groups_at stack groups))) whole
    (count_step (groups_at stack groups) i (group_at stack g) (at_in stack groups i l) (at_is stack groups i g l e)) h m

count-all : (most rest whole : ℕ) → rest ≡ 0 → max most rest ≡ whole → most ≡ whole
count-all most rest whole z e = omega (arith, z, e)

-- no group is left
pub count_all : (stack : List Text) (groups : List PlacedGroup) (i : ℕ) (most whole : ℕ) → length groups ≤ i → max most (turn_count (drop i (groups_at stack groups))) ≡ whole → most ≡ whole
count_all stack groups i most whole l h =
    count-all most (turn_count (drop i (groups_at stack groups))) whole (ap turn_count (drop_all i (groups_at stack groups) (placed_length stack groups i l))) h

-- the turns of a group, by its counts
pub turns_counted : (stack : List Text) (g : PlacedGroup) → GroupInside stack g → (if g.value_count == 0 then 0 else (g.value_count - 1) / g.name_count + 1) ≡ turns_of (group_at stack g)
turns_counted stack g h =
    ap (λ n. if n == 0 then 0 else (n - 1) / g.name_count + 1) h.value_count
    ∙ ap (λ n. if length (listed (get_or stack g.values [])) == 0 then 0 else (length (listed (get_or stack g.values [])) - 1) / n + 1) h.name_count

-- ---- groups that are read

pub group_named : {W : Type 0} → (empty : MessageId) (ns : List Text) (list : Text) (st : (State W)) → 0 < length ns →
    bind (of_answer (list_of list) st) (λ values s3. done {A = Group} (ns, values) s3) ≡ bind (some_names empty ns st) (λ some s2. bind (of_answer (list_of list) s2) (λ values s3. done {A = Group} (some, values) s3))
unfolding bind
group_named empty [] list st h = absurd (omega (arith, h))
group_named empty (name ∷ names) list st h = refl

pub group_unnamed : {W : Type 0} → (empty : MessageId) (ns : List Text) (list : Text) (st : (State W)) → ns ≡ [] →
    bind (raise {A = List Text} empty [] [] NoCode st) (λ some s2. bind (of_answer (list_of list) s2) (λ values s3. done {A = Group} (some, values) s3)) ≡ bind (some_names empty ns st) (λ some s2. bind (of_answer (list_of list) s2) (λ values s3. done {A = Group} (some, values) s3))
group_unnamed empty ns list st h = ap (λ x. bind (some_names empty x st) (λ some s2. bind (of_answer (list_of list) s2) (λ values s3. done {A = Group} (some, values) s3))) (sym h)

pub none_of : (ns : List Text) → length ns ≡ 0 → ns ≡ []
none_of [] e = refl
none_of (x ∷ xs) e = absurd (omega (arith, e))

-- the places of the words that were read
pub group_known : (old mid now : List Text) (g : PlacedGroup) (ns vs : List Text) → mid ≡ old → now ≡ mid → ns ≡ listed (get_or old g.names []) → vs ≡ listed (get_or mid g.values []) → (ns, vs) ≡ group_at now g
group_known old mid now g ns vs e f n v =
    ap (λ x. (x, vs)) n ∙ ap (λ x. (listed (get_or old g.names []), x)) (v ∙ ap (λ s. listed (get_or s g.values [])) e) ∙ sym (ap (λ s. group_at s g) (f ∙ e))

-- a group more
pub group_added : (stack now : List Text) (before after : List PlacedGroup) (g : PlacedGroup) (x : Group) → after ≡ before ++ g ∷ [] → x ≡ group_at stack g → groups_at stack after ≡ groups_at stack before ++ x ∷ []
group_added stack now before after g x e h = ap (groups_at stack) e ∙ map_push (group_at stack) before g ∙ ap (λ y. groups_at stack before ++ y ∷ []) (sym h)

-- ---- groups of words

groups_more : {W : Type 0} → (empty : MessageId) (before : List Group) (names list : Text) (rest words : List Text) (st : (State W)) → names ∷ list ∷ rest ≡ words →
    bind (group_of empty names list st) (λ g s1. groups_of empty (before ++ g ∷ []) rest s1) ≡ groups_of empty before words st
unfolding groups_of
groups_more empty before names list rest words st e = ap (λ ws. groups_of empty before ws st) e

-- two words more
pub pair_step : {W : Type 0} → (empty : MessageId) (before : List Group) (stack : List Text) (at to : ℕ) (st : (State W)) → 2 ≤ to - at → to ≤ length stack →
    bind (group_of empty (get_or stack at []) (get_or stack (at + 1) []) st) (λ g s1. groups_of empty (before ++ g ∷ []) (take (to - (at + 2)) (drop (at + 2) stack)) s1) ≡ groups_of empty before (take (to - at) (drop at stack)) st
pair_step empty before stack at to st h l =
    let n : to - at ≡ suc (suc (to - (at + 2))) = omega (arith, h) in
    let two : at + 1 + 1 ≡ at + 2 = omega arith in
    groups_more empty before (get_or stack at []) (get_or stack (at + 1) []) (take (to - (at + 2)) (drop (at + 2) stack)) (take (to - at) (drop at stack)) st
    (sym (ap (λ k. take k (drop at stack)) n
    ∙ ap (take (suc (suc (to - (at + 2))))) (drop_more stack at [] (omega (arith, h, l)) ∙ ap (λ ws. get_or stack at [] ∷ ws) (drop_more stack (at + 1) [] (omega (arith, h, l)) ∙ ap (λ k. get_or stack (at + 1) [] ∷ drop k stack) two))))

-- the same, where the stack stands as it was
pub pair_words : {W : Type 0} → (empty : MessageId) (before : List Group) (stack now : List Text) (at to : ℕ) (st : (State W)) → now ≡ stack → 2 ≤ to - at → to ≤ length stack →
    bind (group_of empty (get_or now at []) (get_or now (at + 1) []) st) (λ g s1. groups_of empty (before ++ g ∷ []) (take (to - (at + 2)) (drop (at + 2) stack)) s1) ≡ groups_of empty before (take (to - at) (drop at stack)) st
pair_words empty before stack now at to st e h l =
    ap (λ s. bind (group_of empty (get_or s at []) (get_or s (at + 1) []) st) (λ g s1. groups_of empty (before ++ g ∷ []) (take (to - (at + 2)) (drop (at + 2) stack)) s1)) e ∙ pair_step empty before stack at to st h l

few_words : {W : Type 0} → (empty : MessageId) (before : List Group) (words : List Text) (st : (State W)) → length words < 2 → done before st ≡ groups_of empty before words st
unfolding groups_of
few_words empty before [] st h = refl
few_words empty before (x ∷ []) st h = refl
few_words empty before (x ∷ y ∷ ws) st h = absurd (omega (arith, h))

pub pair_end : {W : Type 0} → (empty : MessageId) (before : List Group) (stack : List Text) (at to : ℕ) (st : (State W)) → (2 ≤ to - at → ⊥) → done before st ≡ groups_of empty before (take (to - at) (drop at stack)) st
pair_end empty before stack at to st h =
    let few : to - at < 2 = omega (arith, h) in
    few_words empty before (take (to - at) (drop at stack)) st (omega (arith, few, length-take (to - at) (drop at stack)))

-- What the loop over pairs keeps: whatever the rest answers, the whole answers.
pub record GroupsRead {W : Type 0} (empty : MessageId) (whole : List Text) (old now : (Machine W)) (before : List PlacedGroup) (rest : List Text) : Type 0 where
  pub stack : now.values.store.stack ≡ old.values.store.stack
  pub same : SameState old now
  pub inside : All (GroupInside old.values.store.stack) before
  pub goes : (here : Outer) → AtWorld here (λ w. (r : Result PlacedGroups End) (after : (Machine W)) →
      AtWorld here (λ v. Runs (groups_of empty (groups_at old.values.store.stack before) rest (state_of now v)) as_groups (start now v here.torn) r after here) →
      Runs (groups_of empty [] whole (state_of old w)) as_groups (start old w here.torn) r after here)

pub read_begin : {W : Type 0} → (empty : MessageId) (whole : List Text) (old : (Machine W)) (before : List PlacedGroup) → before ≡ [] → GroupsRead empty whole old old before whole
read_begin empty whole old before e = record {
  stack = refl;
  same = record { variables = record { vars = refl; cells = refl }; own = refl; units = refl; depth = refl; events = refl };
  inside = λ i d l. absurd (omega (arith, l, ap length e));
  goes = λ here w told r after h. runs_as (ap (λ gs. groups_of empty (groups_at old.values.store.stack gs) whole (state_of old w)) e) (h w told);
}
