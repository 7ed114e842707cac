use Rattle.std.proofs.Common.{List, ℕ, ◌≡◌, ◌++◌, ap, sym, ◌∙◌, codes}
use Rattle.std.specs.String.{string_bytes}
use Rattle.graph_law.specs.Graph.{lists_of}
use Rattle.group_release.specs.declared.level.Level.{Level}
use Rattle.call_writer.specs.Lines.{group_fields}
use Rattle.call_writer.proofs.lines.push_group.Goals as goal

-- what is told of a predicate that is in no group
ungrouped : (groups : List (List ℕ)) (levels : List Level) (place : ℕ) → place ≡ 0
    → codes ",\"group\":null,\"height\":null,\"recursive\":null" ≡ codes "," ++ group_fields groups levels place
ungrouped groups levels place is = ap (λ p. codes "," ++ group_fields groups levels p) (sym is)

pub returns-then-place-eq0 : goal.returns-then-place-eq0
returns-then-place-eq0 c =
    c.in_ok-push_str.ensures.bytes
    ∙ ap (λ bytes. string_bytes c.args.text.now ++ bytes) (ungrouped (lists_of c.args.groups.now) c.args.levels.now c.args.place c.if-place-eq0.true)
