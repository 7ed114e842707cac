use Rattle.std.proofs.Common.{◌≡◌, ◌++◌, ◌∷◌, [], ℕ, List, length, ap, subst, sym, ◌∙◌, arith}
use Rattle.edge_text.specs.EdgeGraph.{calls_of}
use Rattle.edge_text.specs.Read.{AreAdded, IsNamed}
use Rattle.edge_json.specs.Ends.{ends_of}
use Rattle.edge_json.proofs.LinesRead.{edge_read}
use Rattle.edge_json.proofs.graph.read_line.Goals as goal

pub returns : goal.returns
returns c =
    let old = c.args.reader.now in
    let mid = c.node.new.self in
    let last = c.node-2.new.self in
    let from : List ℕ = c.line.inside.from.items in
    let to : List ℕ = c.in-Some.name.items in
    let line : c.args.line.now ≡ from ∷ to ∷ [] = sym c.line.view_is ∙ ap (ends_of from) c.in-Some.is in
    let named : IsNamed from mid.names c.in_ok-from.from =
    subst (λ n. IsNamed n mid.names c.in_ok-from.from) c.deref.ensures.value c.in_ok-from.ensures.place in
    let also : IsNamed to last.names c.in_ok-to.to =
    subst (λ n. IsNamed n last.names c.in_ok-to.to) c.deref-2.ensures.value c.in_ok-to.ensures.place in
    let first : AreAdded (from ∷ []) old.names mid.names =
    subst (λ n. AreAdded (n ∷ []) old.names mid.names) c.deref.ensures.value c.in_ok-from.ensures.names in
    let second : AreAdded (to ∷ []) mid.names last.names =
    subst (λ n. AreAdded (n ∷ []) mid.names last.names) c.deref-2.ensures.value c.in_ok-to.ensures.names in
    let both = edge_read from to old mid last c.in_ok-from.from c.in_ok-to.to named also first second in
    record {
      names =
          subst (λ ws. AreAdded ws old.names c.call.new.self.names) (sym line)
          (subst (AreAdded (from ∷ to ∷ []) old.names) (sym c.in_ok-call.ensures.names) both.0);
      calls =
          c.in_ok-call.ensures.calls
          ∙ (λ i. (c.in_ok-to.ensures.calls ∙ c.in_ok-from.ensures.calls) i ++ both.1 i ∷ [])
          ∙ ap (λ ws. old.calls ++ calls_of ws) (sym line);
      few =
          omega (
            arith,
            c.in_ok-from.ensures.few,
            c.in_ok-to.ensures.few,
            ap length c.in_ok-call.ensures.names,
          );
    }
