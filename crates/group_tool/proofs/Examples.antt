-- What some lines of a report are.
use Rattle.std.proofs.Common.{◌≡◌, ℕ, false, List, [], ◌∷◌, Some, None, codes, refl}
use Rattle.std.specs.Fmt.{digits}
use Rattle.import_rules.specs.declared.names.PredName.{PredName}
use Rattle.import_rules.specs.Program.{Seen}
use Rattle.group_release.specs.declared.level.Level.{Level}
use Rattle.loop_report.specs.Spelled.{spelled_name}
use Rattle.group_tool.specs.Groups.{IsOutput}
use Rattle.group_tool.specs.Parts.{path_line}

-- a program without predicates
abbrev empty : Seen
empty = record { loaded = record { files = []; absent = []; roots = []; texts = [] }; predicates = [] }

abbrev named : ℕ → PredName
named arity = record { «module» = codes "a"; name = codes "p"; arity = arity }

abbrev two : List PredName
two = named 0 ∷ named 1 ∷ []

-- the line of a path, and that there is none

way : path_line two 1 0 (Some (1 ∷ 0 ∷ [])) ≡ codes "path a:p/1 a:p/0\n"
unfolding digits spelled_name
way = refl

no_way : path_line two 0 1 None ≡ codes "no-path a:p/0 a:p/1\n"
unfolding digits spelled_name
no_way = refl

-- of a made program the first line alone is written

abbrev plain : Level
plain = record { height = 0; recursive = false }

first_line_alone : IsOutput (Some 1) false false empty ((0 ∷ []) ∷ []) (plain ∷ []) (codes "predicates 1 groups 1 recursive 0 levels 1\n")
unfolding digits
first_line_alone = refl
