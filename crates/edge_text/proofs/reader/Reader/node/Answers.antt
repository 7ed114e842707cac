use Rattle.std.proofs.Common.{◌∷◌, [], length, ap, subst, ◌∙◌, inl, inr, arith}
use Rattle.std.proofs.lemmas.List.{length_push}
use Rattle.edge_text.specs.Read.{AreAdded, Read}
use Rattle.edge_text.proofs.Added.{calls_stay, placed_added}
use Rattle.edge_text.proofs.reader.Reader.node.Goals as goal

pub returns-clause-names : goal.returns-clause-names
returns-clause-names c =
    let name = c.args.name.now in
    let new = c.place_of.new.self in
    subst (λ (read : Read). AreAdded (name ∷ []) read.names new) c.self.view_is
    (placed_added c.self.inside.names name new c.in_ok-place.place c.in_ok-place.ensures.ok)

pub returns-clause-few : goal.returns-clause-few
returns-clause-few c =
    let old = ap (λ (read : Read). length read.names) c.self.view_is in
    elim c.in_ok-place.ensures.ok.kept [
      | inl same ↦ omega (arith, ap length same, old)
      | inr more ↦ omega (arith, ap length more, length_push c.self.inside.names c.args.name.now, old)
    ]

pub returns-clause-calls : goal.returns-clause-calls
returns-clause-calls c =
    let name = c.args.name.now in
    let new = c.place_of.new.self in
    let added = placed_added c.self.inside.names name new c.in_ok-place.place c.in_ok-place.ensures.ok in
    calls_stay c.self.inside.names new c.self.inside.edges.items added.longer c.self.invariant ∙ ap (λ (read : Read). read.calls) c.self.view_is
