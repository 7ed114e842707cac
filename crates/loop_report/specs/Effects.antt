-- The effects that groups may reach, as lines.
use Rattle.std.specs.Prelude.{◌≡◌, ℕ, List, [], ◌∷◌, ◌++◌, Option, Some, None, slice_index_or, codes}
use Rattle.std.specs.List.{flat_map, range_with_len}
use Rattle.group_release.specs.declared.level.Level.{Level}
use Rattle.effect_flow.specs.declared.kinds.TheConstants.{KINDS}
use Rattle.effect_flow.specs.Carriers.{first_at, flow_at}
use Rattle.import_rules.specs.declared.names.PredName.{PredName}
use Rattle.loop_report.specs.Names.{member_name}
use Rattle.report_lines.specs.LineOrder.{IsLineOrder, least_at}

-- the words of the kinds, by their numbers
abbrev pub kind_words : List (List ℕ)
kind_words = codes "output" ∷ codes "input" ∷ codes "database" ∷ codes "streams" ∷ codes "throw" ∷ codes "halt" ∷ codes "flags" ∷ []

abbrev pub kind_word : ℕ → List ℕ
kind_word kind = slice_index_or kind_words kind []

-- the line of a kind: `effect NAME WORD CARRIER`, and nothing where there is no carrier
abbrev pub effect_line : List PredName → ℕ → List ℕ → Option ℕ → List ℕ
effect_line predicates least word None = []
effect_line predicates least word (Some carrier) =
    codes "effect" ++ (member_name predicates least ++ (codes " " ++ (word ++ (member_name predicates carrier ++ codes "\n"))))

-- the lines of a group, kind by kind
abbrev pub group_effects : List PredName → ℕ → List (Option ℕ) → List ℕ
group_effects predicates least flow = flat_map (λ kind. effect_line predicates least (kind_word kind) (first_at flow kind)) (range_with_len 0 KINDS)

-- the lines of the group at a place
abbrev pub place_effects : List PredName → List (List ℕ) → List (List (Option ℕ)) → ℕ → List ℕ
place_effects predicates groups flows place = group_effects predicates (least_at groups place) (flow_at flows place)

-- the bytes are the lines of all groups, in order of height and least member
pub record AreEffectLines (predicates : List PredName) (groups : List (List ℕ)) (levels : List Level) (flows : List (List (Option ℕ)))
    (bytes : List ℕ) : Type 0 where
  pub order : List ℕ
  pub in_order : IsLineOrder groups levels order
  pub is : bytes ≡ flat_map (place_effects predicates groups flows) order
