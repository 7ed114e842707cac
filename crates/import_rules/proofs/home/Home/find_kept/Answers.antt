use Rattle.std.proofs.Common.{◌≡◌, ◌+◌, ◌-◌, ℕ, Some, sym, ap, ◌∙◌, arith}
use Rattle.std.proofs.lemmas.List.{get_or_read}
use Rattle.prolog_names.specs.Names.{name_at}
use Rattle.import_rules.specs.OwnNames.{nothing, kept_in}
use Rattle.import_rules.specs.Program.{found}
use Rattle.import_rules.proofs.home.Home.find_kept.Goals as goal

pub returns : goal.returns
returns c =
    let home = c.args.self.now in
    let kept = home.kept.now in
    let number = c.args.number in
    let own = c.in_ok-own.own.now in
    let read : own ≡ kept_in kept number = get_or_read kept number own c.in_ok-own.ensures.lookup.3.0 c.in_ok-own.ensures.lookup.1 nothing in
    let count : own.after ≡ (own.after - 1) + 1 = omega (arith, c.if-own-eq0.false) in
    let after : (kept_in kept number).after ≡ (own.after - 1) + 1 = ap (λ o. o.after) (sym read) ∙ count in
    let many : (kept_in kept number).arity ≡ c.args.arity = ap (λ o. o.arity) (sym read) ∙ c.if-own-arity.false in
    ap (found home.program.now home.facts.now.module (name_at home.facts.now.names number)) (sym many) ∙ home.kept_is number (own.after - 1) after
