use Rattle.std.proofs.Common.{◌≡◌, ◌≢◌, ℕ, ◌<◌, ◌≤◌, Bool, true, false, [], refl, sym, ◌∙◌}
use Rattle.std.specs.Bool.{OnTrue}
use Rattle.std.proofs.lemmas.Bool.{leb-true}
use Rattle.prolog_names.specs.declared.names.TheConstants.{OPENING_COUNT}
use Rattle.prolog_names.specs.Names.{name_at, opening_names}
use Rattle.module_table.proofs.FreeNames.{control_free, headless_free}
use Rattle.module_table.proofs.head.is_surely_free.Goals as goal

on_test : (test : Bool) (P : Type 0) → (test ≡ true → P) → OnTrue test P
on_test true P holds = holds refl
on_test false P holds = tt

pub returns : goal.returns
returns c =
    let text = name_at c.args.names.now c.args.name in
    let arity = c.args.arity in
    on_test _ _
    (λ is.
    let beyond : OPENING_COUNT ≤ c.args.name = leb-true OPENING_COUNT c.args.name is in
    let others : text ≢ [] → (k : ℕ) → k < OPENING_COUNT → name_at opening_names k ≢ text = λ some k below. c.opening_law.ensures.others c.args.name k beyond some below in
    (control_free text others arity (sym c.is_cut.ensures ∙ c.if-is_cut.false), headless_free text others arity))
