use Rattle.std.proofs.Common.{◌≡◌, ℕ, List, ◌++◌, sym, ◌∙◌, ap, arith}
use Rattle.std.specs.List.{flat_map, range_with_len}
use Rattle.std.specs.String.{string_bytes}
use Rattle.effect_flow.specs.declared.kinds.TheConstants.{KINDS}
use Rattle.effect_flow.specs.Carriers.{first_at}
use Rattle.effect_flow.specs.Seen.{see_flow}
use Rattle.loop_report.specs.Effects.{effect_line, kind_word}
use Rattle.loop_report.proofs.EffectLines.{kind_more, kind_none}
use Rattle.loop_report.proofs.effects.push_effects.Goals as goal

pub push_effect-requires-clause-carrier : goal.push_effect-requires-clause-carrier
push_effect-requires-clause-carrier c =
    c.requires.carriers c.loop-kind.kind c.in-Some.carrier (omega (arith, c.loop-kind-test.true)) (sym c.in-Some.ensures)

pub loop-kind-preserved-in_default : goal.loop-kind-preserved-in_default
loop-kind-preserved-in_default c =
    let predicates = c.args.program.now.predicates in
    let line : ℕ → List ℕ = λ kind. effect_line predicates c.args.least (kind_word kind) (first_at (see_flow c.args.flow) kind) in
    kind_none line (string_bytes c.args.text.now) (string_bytes c.loop-kind.text) c.loop-kind.kind c.loop-kind.invariant
    (ap (effect_line predicates c.args.least (kind_word c.loop-kind.kind)) (sym c.in_default.ensures))

pub loop-kind-preserved : goal.loop-kind-preserved
loop-kind-preserved c =
    let predicates = c.args.program.now.predicates in
    let line : ℕ → List ℕ = λ kind. effect_line predicates c.args.least (kind_word kind) (first_at (see_flow c.args.flow) kind) in
    kind_more line (string_bytes c.args.text.now) (string_bytes c.loop-kind.text) (string_bytes c.push_effect.new.text) c.loop-kind.kind c.loop-kind.invariant
    (c.in_ok-push_effect.ensures
    ∙ ap (λ bytes. string_bytes c.loop-kind.text ++ bytes) (ap (effect_line predicates c.args.least (kind_word c.loop-kind.kind)) c.in-Some.ensures))

pub returns : goal.returns
returns c =
    let predicates = c.args.program.now.predicates in
    let line : ℕ → List ℕ = λ kind. effect_line predicates c.args.least (kind_word kind) (first_at (see_flow c.args.flow) kind) in
    let end : c.loop-kind.kind ≡ KINDS = omega (arith, c.loop-kind-test.false, c.loop-kind.auto.kind-end) in
    c.loop-kind.invariant ∙ ap (λ n. string_bytes c.args.text.now ++ flat_map line (range_with_len 0 n)) end
