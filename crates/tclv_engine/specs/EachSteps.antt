-- What the code keeps of the groups of a loop over lists, whose words stand on the stack, and of its results.
use Rattle.std.specs.Prelude.{◌≡◌, ◌+◌, Bool, if◌then◌else◌, List, [], ◌++◌, length, map, slice_index_or, ◌<◌}
use Rattle.tclv_engine.specs.declared.each_groups.Group.{Group as PlacedGroup}
use Rattle.tclv_engine.specs.declared.each_groups.Groups.{Groups as PlacedGroups}
use Rattle.tclv_engine.specs.State.{Text}
use Rattle.tclv_engine.specs.ListAssignment.{listed, IsList}
use Rattle.tclv_engine.specs.EachLoops.{Group}

-- the group of the words at these places
abbrev pub group_at : List Text → PlacedGroup → Group
group_at stack g = (listed (slice_index_or stack g.names []), listed (slice_index_or stack g.values []))

abbrev pub groups_at : List Text → List PlacedGroup → List Group
groups_at stack groups = map (group_at stack) groups

-- Both words are there and are lists with so many elements, and there is a name.
pub record GroupInside (stack : List Text) (g : PlacedGroup) : Type 0 where
  pub names_in : g.names < length stack
  pub values_in : g.values < length stack
  pub names_list : IsList (slice_index_or stack g.names [])
  pub values_list : IsList (slice_index_or stack g.values [])
  pub name_count : g.name_count ≡ length (listed (slice_index_or stack g.names []))
  pub value_count : g.value_count ≡ length (listed (slice_index_or stack g.values []))
  pub some_name : 0 < g.name_count

-- the call returns the places of the group's words
abbrev pub as_group : Group → PlacedGroup → List Text → Type 0
as_group g placed stack = g ≡ group_at stack placed

abbrev pub as_groups : List Group → PlacedGroups → List Text → Type 0
as_groups gs placed stack = gs ≡ groups_at stack placed.items.items

-- the results are kept on the stack, or not
abbrev pub kept : Bool → List Text → List Text → Unit {0} → List Text → Type 0
kept keep base results t stack = stack ≡ (if keep then base ++ results else base)
