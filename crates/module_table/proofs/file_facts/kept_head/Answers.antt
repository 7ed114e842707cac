use Rattle.std.proofs.Common.{ℕ, List, Ok, ap, sym, ◌∙◌}
use Rattle.prolog_names.specs.Names.{name_at}
use Rattle.kept_clauses.specs.Views.{see_form}
use Rattle.module_table.specs.Facts.{clause_head}
use Rattle.module_table.proofs.PlainHeads.{written_head}
use Rattle.module_table.proofs.file_facts.kept_head.Goals as goal

pub returns-in-Plain-clause-ok : goal.returns-in-Plain-clause-ok
returns-in-Plain-clause-ok c =
    let owner = name_at c.args.names.now c.args.owner in
    let form = c.in-Plain.form in
    ap (clause_head owner) (sym c.in-Plain.ensures.tree)
    ∙ (written_head (see_form form) c.in-Plain.ensures.sound owner
    ∙ ap (λ (names : List (List ℕ)). Ok (record { module_ = owner; name = name_at names form.head.number; arity = form.head.arity })) c.in-Plain.ensures.within)
