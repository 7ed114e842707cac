-- What is kept of a file, as what is said by kind.
use Rattle.std.specs.Prelude.{ℕ, ◌≡◌, List, ◌++◌, Ok, map, flat_map, option_map}
use Rattle.std.specs.List.{filter_map}
use Rattle.prolog_terms.specs.declared.node.Node.{Node}
use Rattle.prolog_terms.specs.Terms.{tree_in}
use Rattle.module_table.specs.declared.kinds.Kinds.{Kinds}
use Rattle.module_table.specs.Defined.{see_run}
use Rattle.module_table.specs.Metas.{see_meta}
use Rattle.module_table.specs.Marks.{see_mark}
use Rattle.module_table.specs.Said.{Part, Said, see_module, see_load}
use Rattle.module_table.specs.Kinds.{ByKind, declared_part, load_part, defined_part, takes_part, marks_part, goal_part, first_of, with_said}
use Rattle.module_table.specs.Facts.{goal_trees}

-- what is kept, while a directive is under way whose nodes these are
abbrev pub see_kinds : List (List ℕ) → List Node → Kinds → ByKind
see_kinds names nodes k = record {
  declared = option_map see_module k.declared;
  loads = map see_load k.loads.items;
  definitions = flat_map (see_run names) k.definitions.items;
  takes = map see_meta k.takes.items;
  marks = map (see_mark names) k.marks.items;
  goals = flat_map (goal_trees names) k.goals.items ++ map (tree_in names nodes) k.ends.items;
}

-- the parts of each kind, in order, and of the modules the first; the goals are those of directives that are done
pub record AreKinds (names : List (List ℕ)) (parts : List Part) (kinds : Kinds) : Type 0 where
  pub declared : option_map see_module kinds.declared ≡ first_of (filter_map declared_part parts)
  pub loads : map see_load kinds.loads.items ≡ filter_map load_part parts
  pub definitions : flat_map (see_run names) kinds.definitions.items ≡ filter_map defined_part parts
  pub takes : map see_meta kinds.takes.items ≡ filter_map takes_part parts
  pub marks : map (see_mark names) kinds.marks.items ≡ filter_map marks_part parts
  pub goals : flat_map (goal_trees names) kinds.goals.items ≡ filter_map goal_part parts

-- what is said is added, whatever the nodes of the directive are
abbrev pub IsAdded : List (List ℕ) → Kinds → Said → Kinds → Type 0
IsAdded names old said new = (nodes : List Node) → with_said (see_kinds names nodes old) said ≡ Ok (see_kinds names nodes new)

-- the kinds are of all that is said
pub record AreSaid (names : List (List ℕ)) (said : Said) (kinds : Kinds) : Type 0 where
  pub parts : List Part
  pub is : said ≡ Ok parts
  pub are : AreKinds names parts kinds
