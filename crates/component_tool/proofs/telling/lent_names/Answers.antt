use Rattle.std.proofs.Common.{◌++◌, ◌∷◌, [], ◌∙◌, List, ℕ, Bor, ap, ap₂, sym}
use Rattle.std.proofs.lemmas.List.{map-append, take_more}
use Rattle.byte_names.specs.Names.{names_of}
use Rattle.component_tool.proofs.telling.lent_names.Goals as goal

pub loop-name-preserved : goal.loop-name-preserved
loop-name-preserved c =
    let lent = c.loop-name.lent.items in
    ap names_of c.in_ok-push.ensures.items ∙ map-append (λ (name : Bor (List ℕ)). name.now) lent (c.as_bytes.result ∷ [])
    ∙ ap₂ (λ xs x. xs ++ x ∷ []) c.loop-name.invariant (c.as_bytes.ensures.value ∙ (c.as_str.ensures ∙ c.name-item.is))
    ∙ sym (take_more c.args.names.now c.loop-name.name-index c.name-item.result c.loop-name-test.true)
