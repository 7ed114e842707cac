-- The report's definitions at worked rows.
use Rattle.std.proofs.Common.{◌≡◌, ℕ, true, false, List, [], ◌∷◌, ◌++◌, refl, codes}
use Rattle.std.specs.List.{flat_map}
use Rattle.std.specs.Fmt.{digits}
use Rattle.group_release.specs.declared.level.Level.{Level}
use Rattle.import_rules.specs.declared.names.PredName.{PredName}
use Rattle.loop_report.specs.Report.{head_line, place_line, loop_line, unreached_lines}
use Rattle.loop_report.specs.Spelled.{spelled_name}

abbrev in_module : List ℕ → List ℕ → PredName
in_module owner name = record { «module» = owner; name = name; arity = 0 }

abbrev three : List PredName
three = in_module (codes "a") (codes "p") ∷ in_module (codes "b") (codes "q") ∷ in_module (codes "c") (codes "s") ∷ []

abbrev two_groups : List (List ℕ)
two_groups = (0 ∷ 1 ∷ []) ∷ (2 ∷ []) ∷ []

abbrev two_levels : List Level
two_levels = record { height = 1; recursive = true } ∷ record { height = 0; recursive = false } ∷ []

-- two modules that import each other, whose loop of two calls a third
three_report :
    head_line two_groups two_levels ++ flat_map (place_line three two_groups two_levels) (1 ∷ 0 ∷ [])
    ++ flat_map loop_line ((codes "a" ∷ codes "b" ∷ []) ∷ []) ++ unreached_lines three two_groups
    ≡ codes "predicates 3 groups 2 recursive 1 levels 2\n0 plain c:s/0\n1 recursive a:p/0 b:q/0\nimport-loop a b\n"
unfolding digits spelled_name
three_report = refl

-- the third alone is in a group
others : unreached_lines three ((2 ∷ []) ∷ []) ≡ codes "unreached a:p/0\nunreached b:q/0\n"
unfolding digits spelled_name
others = refl

-- no group
no_report : head_line [] [] ≡ codes "predicates 0 groups 0 recursive 0 levels 0\n"
unfolding digits spelled_name
no_report = refl
