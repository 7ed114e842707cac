use Rattle.std.proofs.Common.{◌≡◌, ◌<◌, ◌+◌, ℕ, List, [], length, get_or, Contains, sym, subst, ◌∙◌, arith}
use Rattle.std.proofs.lemmas.List.{get_or-map, length-map}
use Rattle.byte_names.specs.Names.{name_at, names_of}
use Rattle.component_answer.specs.Starts.{IsFirstMissing, IsNodeNamed}
use Rattle.component_answer.proofs.NamedNodes.{AreFound, first_missing, one_found}
use Rattle.component_answer.proofs.starts.named_nodes.Goals as goal
use denote.Ref.{Bor}

pub returns-in_default : goal.returns-in_default
returns-in_default c =
    let names = names_of c.args.names.now in
    let roots = names_of c.args.roots.now in
    let none : Bor (List ℕ) = record { ref_ptr = (0, 0); now = [] } in
    let at = c.loop-root.root-index in
    let within : at < length c.args.roots.now = c.loop-root-test.true in
    let read : name_at roots at ≡ (get_or c.args.roots.now at none).now = get_or-map (λ (n : Bor (List ℕ)). n.now) c.args.roots.now at none [] within in
    let missing : Contains names (name_at roots at) → ⊥ = subst (λ name. Contains names name → ⊥) (sym read) c.in_default.ensures in
    subst (IsFirstMissing names roots) (sym (c.len.ensures ∙ (c.loop-root.nodes.ok.0 ∙ c.loop-root.invariant.each)))
    (first_missing names roots at c.loop-root.nodes.items (omega (arith, within, length-map c.args.roots.now (λ (n : Bor (List ℕ)). n.now)))
    c.loop-root.invariant missing)

pub loop-root-preserved : goal.loop-root-preserved
loop-root-preserved c =
    let names = names_of c.args.names.now in
    let roots = names_of c.args.roots.now in
    let none : Bor (List ℕ) = record { ref_ptr = (0, 0); now = [] } in
    let at = c.loop-root.root-index in
    let within : at < length c.args.roots.now = c.loop-root-test.true in
    let read : name_at roots at ≡ (get_or c.args.roots.now at none).now = get_or-map (λ (n : Bor (List ℕ)). n.now) c.args.roots.now at none [] within in
    subst (AreFound names roots (at + 1)) (sym c.in_ok-push.ensures.items)
    (one_found names roots at c.loop-root.nodes.items c.in-Some.node (omega (arith, within, length-map c.args.roots.now (λ (n : Bor (List ℕ)). n.now)))
    c.loop-root.invariant (subst (λ name. IsNodeNamed names name c.in-Some.node) (sym read) c.in-Some.ensures))
