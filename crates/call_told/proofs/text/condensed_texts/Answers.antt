use Rattle.std.proofs.Common.{◌++◌, ◌∷◌, [], ap, sym, ◌∙◌, subst}
use Rattle.graph_law.specs.Graph.{lists_of}
use Rattle.call_told.specs.Condensed.{TellsCondensed}
use Rattle.call_told.specs.Told.{joined}
use Rattle.call_told.proofs.StretchLemmas.{one_text}
use Rattle.call_told.proofs.text.condensed_texts.Goals as goal

pub returns : goal.returns
returns c =
    let told = c.args.told.now in
    let is = ap joined (c.in_ok-push.ensures.items ∙ ap (λ xs. xs ++ c.in_ok-text.text ∷ []) c.new-texts.ensures.items) ∙ one_text c.in_ok-text.text in
    subst (TellsCondensed told.program.now (lists_of told.groups.items) told.places.items told.nodes.items) (sym is) c.in_ok-text.ensures
