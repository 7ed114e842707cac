-- How the report names predicates.
use Rattle.std.specs.Prelude.{ℕ, List, [], ◌++◌, Some, None, slice_get, codes}
use Rattle.std.specs.Fmt.{decimal}
use Rattle.import_rules.specs.declared.names.PredName.{PredName}
use Rattle.loop_report.specs.Spelled.{spelled_name}

-- what stands before a name of the module: a space, `MODULE:`
abbrev pub module_text : List ℕ → List ℕ
module_text module_ = codes " " ++ (spelled_name module_ ++ codes ":")

-- the rest of a name: `NAME/ARITY`
abbrev pub own_text : PredName → List ℕ
own_text predicate = spelled_name predicate.name ++ (codes "/" ++ decimal predicate.arity)

-- `MODULE:NAME/ARITY`, where both names are spelled
abbrev pub name_text : PredName → List ℕ
name_text predicate = spelled_name predicate.module ++ (codes ":" ++ (spelled_name predicate.name ++ (codes "/" ++ decimal predicate.arity)))

-- the predicate with that number as a line has it, and nothing where there is none
abbrev pub member_name : List PredName → ℕ → List ℕ
member_name predicates member = elim (slice_get predicates member) [ Some predicate ↦ codes " " ++ name_text predicate | None ↦ [] ]
