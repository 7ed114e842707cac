use Rattle.std.proofs.Common.{◌≡◌, ◌<◌, All, List, ℕ, Bor, length, sym, ap, subst, arith}
use Rattle.std.proofs.lemmas.List.{length-map}
use Rattle.byte_names.specs.Names.{AreInOrder, names_of}
use Rattle.edge_text.specs.Readings.{IsReading}
use Rattle.edge_text.specs.declared.reading.Reading.TheVariants.{Graph}
use Rattle.component_answer.specs.Answers.{IsReachReport}
use Rattle.component_answer.specs.Starts.{AreStarts, AreStartsOf}
use Rattle.component_answer.specs.declared.starts.Starts.TheVariants.{Missing, Nodes}
use Rattle.component_answer.proofs.NamedNodes.{starts_below}
use Rattle.component_answer.proofs.answer.answer_reading.Goals as goal

pub starts_of-requires-clause-few : goal.starts_of-requires-clause-few
starts_of-requires-clause-few g c =
    let read : IsReading c.requires.read.0 (Graph c.in-Graph.read) = subst (IsReading c.requires.read.0) c.in-Graph.is c.requires.read.1 in
    omega (arith, read.1, ap length c.deref.ensures.value)

pub starts_of-requires-clause-ordered : goal.starts_of-requires-clause-ordered
starts_of-requires-clause-ordered g c =
    let read : IsReading c.requires.read.0 (Graph c.in-Graph.read) = subst (IsReading c.requires.read.0) c.in-Graph.is c.requires.read.1 in
    subst (λ ns. AreInOrder (names_of ns)) (sym c.deref.ensures.value) read.2.nodes.in_order

pub graph_report-requires-clause-few : goal.graph_report-requires-clause-few
graph_report-requires-clause-few g c =
    let read : IsReading c.requires.read.0 (Graph c.in-Graph.read) = subst (IsReading c.requires.read.0) c.in-Graph.is c.requires.read.1 in
    omega (arith, read.1, ap length c.deref-in-Nodes.ensures.value)

pub graph_report-requires-clause-each : goal.graph_report-requires-clause-each
graph_report-requires-clause-each g c =
    let read : IsReading c.requires.read.0 (Graph c.in-Graph.read) = subst (IsReading c.requires.read.0) c.in-Graph.is c.requires.read.1 in
    omega (
      arith,
      read.2.callees.each,
      ap length c.deref-in-Nodes.ensures.value,
      length-map c.in-Graph.read.names.items (λ (name : Bor (List ℕ)). name.now),
    )

pub graph_report-requires-clause-within : goal.graph_report-requires-clause-within
graph_report-requires-clause-within g c =
    let read : IsReading c.requires.read.0 (Graph c.in-Graph.read) = subst (IsReading c.requires.read.0) c.in-Graph.is c.requires.read.1 in
    let names = names_of c.in-Graph.read.names.items in
    let same : names_of c.deref.result.now ≡ names = ap names_of c.deref.ensures.value in
    let starts : AreStartsOf (names_of c.deref.result.now) (names_of c.args.roots.now) (Nodes c.in-Nodes.starts) =
    subst (AreStartsOf (names_of c.deref.result.now) (names_of c.args.roots.now)) c.in-Nodes.is c.in_ok-place-in-Graph.ensures in
    let below = starts_below names (names_of c.args.roots.now) c.in-Nodes.starts.items
    (subst (λ ns. AreStarts ns (names_of c.args.roots.now) c.in-Nodes.starts.items) same starts) in
    subst (All (λ start. start < length c.in-Graph.read.graph)) (sym c.deref-in-Nodes-2.ensures.value)
    (subst (λ n. All (λ start. start < n) c.in-Nodes.starts.items) (sym read.2.callees.each) below)

pub returns-in-TooManyEdges : goal.returns-in-TooManyEdges
returns-in-TooManyEdges g c said reads = subst (IsReading said) c.in-TooManyEdges.is reads

pub returns-in-TooManyNodes : goal.returns-in-TooManyNodes
returns-in-TooManyNodes g c said reads =
    let read = subst (IsReading said) c.in-TooManyNodes.is reads in
    (read.0, record { names = read.1.0; are = read.1.1; many = read.1.2 })

pub returns-in-Missing : goal.returns-in-Missing
returns-in-Missing g c said reads =
    let read : IsReading said (Graph c.in-Graph.read) = subst (IsReading said) c.in-Graph.is reads in
    let roots = names_of c.args.roots.now in
    let names = names_of c.in-Graph.read.names.items in
    let same : names_of c.deref.result.now ≡ names = ap names_of c.deref.ensures.value in
    let missing : AreStartsOf (names_of c.deref.result.now) roots (Missing c.in-Missing.place) =
    subst (AreStartsOf (names_of c.deref.result.now) roots) c.in-Missing.is c.in_ok-place-in-Graph.ensures in (
      read.0,
      record {
        names = names;
        are = read.2.nodes;
        few = omega (arith, read.1, length-map c.in-Graph.read.names.items (λ (name : Bor (List ℕ)). name.now));
        first = subst (λ ns. AreStartsOf ns roots (Missing c.in-Missing.place)) same missing;
      },
    )

pub returns-in_ok-bytes-in-Nodes : goal.returns-in_ok-bytes-in-Nodes
returns-in_ok-bytes-in-Nodes g c said reads =
    let read : IsReading said (Graph c.in-Graph.read) = subst (IsReading said) c.in-Graph.is reads in
    let roots = names_of c.args.roots.now in
    let names = names_of c.in-Graph.read.names.items in
    let same : names_of c.deref.result.now ≡ names = ap names_of c.deref.ensures.value in
    let also : names_of c.deref-in-Nodes.result.now ≡ names = ap names_of c.deref-in-Nodes.ensures.value in
    let starts : AreStartsOf (names_of c.deref.result.now) roots (Nodes c.in-Nodes.starts) =
    subst (AreStartsOf (names_of c.deref.result.now) roots) c.in-Nodes.is c.in_ok-place-in-Graph.ensures in
    let bytes = c.in_ok-bytes-in-Nodes.bytes.items in (
      read.0,
      record {
        names = names;
        lists = c.in-Graph.read.graph;
        graph = read.2;
        few = omega (arith, read.1, length-map c.in-Graph.read.names.items (λ (name : Bor (List ℕ)). name.now));
        starts = c.in-Nodes.starts.items;
        are_starts = subst (λ ns. AreStarts ns roots c.in-Nodes.starts.items) same starts;
        report =
            subst (λ ns. IsReachReport ns c.in-Graph.read.graph c.in-Nodes.starts.items c.args.wanted bytes) also
            (subst (λ ss. IsReachReport (names_of c.deref-in-Nodes.result.now) c.in-Graph.read.graph ss c.args.wanted bytes)
            c.deref-in-Nodes-2.ensures.value c.in_ok-bytes-in-Nodes.ensures);
      },
    )
