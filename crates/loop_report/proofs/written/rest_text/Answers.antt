use Rattle.std.proofs.Common.{ℕ, List, [], subst, sym, ap}
use Rattle.std.specs.String.{string_bytes}
use Rattle.graph_law.specs.Graph.{lists_of}
use Rattle.loop_report.specs.Texts.{HasRest}
use Rattle.loop_report.proofs.written.rest_text.Goals as goal

pub returns : goal.returns
returns c =
    let Rest : List ℕ → List ℕ → Type 0 = HasRest c.args.program.now.predicates c.args.program.now.loaded.files (lists_of c.args.groups.now) c.args.unreached in
    subst (Rest []) (sym (ap (λ vec. vec.items) c.into_bytes.ensures.value))
    (subst (λ before. Rest before (string_bytes c.push_rest.new.text)) c.new-text.ensures.bytes c.in_ok-push_rest.ensures)
