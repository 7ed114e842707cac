use Rattle.std.proofs.Common.{◌≡◌, ℕ, List, map, ap, sym, ◌∙◌, subst}
use Rattle.prolog_names.specs.Names.{name_at}
use Rattle.clause_text.specs.Clauses.{clause_trees, text_trees}
use Rattle.module_table.specs.declared.file_facts.FileFacts.{FileFacts}
use Rattle.module_table.specs.Defined.{AreDefined, see_defined}
use Rattle.module_table.specs.Kinds.{IsModule}
use Rattle.module_table.specs.Directives.{home}
use Rattle.module_table.specs.Facts.{AreFacts, module_of, trees_said, see_facts}
use Rattle.module_table.proofs.OneFacts.{one_facts}
use Rattle.module_table.proofs.file_facts.facts.Goals as goal

pub returns-clause-only : goal.returns-clause-only
returns-clause-only c = λ other are.
    let names = c.args.text.names in
    let trees = text_trees c.args.text in
    let own = c.in_ok-own.own in
    let kinds = c.in_ok-kinds.kinds in
    let said = c.in_ok-kinds.ensures.ok in
    let own_is : name_at names c.module_of-owner.result ≡ module_of trees =
    c.module_of-owner.ensures ∙ ap (λ clauses. module_of (clause_trees names clauses)) c.deref.ensures.value in
    let found : List (List ℕ) → FileFacts = λ table. record {
      names = table;
      file = c.in_ok-new.field-0;
      «module» = own.name;
      is_module = own.is_declared;
      module_from = own.from;
      exports = own.exports;
      loads = kinds.loads;
      defined = c.in_ok-defined.defined;
      metas = kinds.takes;
      marks = kinds.marks;
      goals = kinds.goals;
    } in
    let mine : AreFacts c.args.file.now trees (see_facts (found names)) = record {
      parts = said.parts;
      said = ap (λ owner. trees_said (home c.args.file.now owner) trees) (sym own_is) ∙ said.is;
      are = record {
        file = c.in_ok-new.ensures;
        of_module = subst (λ m. IsModule m own.name own.is_declared own.from own.exports.items) said.are.declared c.in_ok-own.ensures;
        loads = said.are.loads;
        defined = subst (λ ds. AreDefined ds (map (see_defined names) c.in_ok-defined.defined.items)) said.are.definitions c.in_ok-defined.ensures;
        metas = said.are.takes;
        marks = said.are.marks;
        goals = said.are.goals;
      };
    } in
    let same : c.names.inside.table ≡ names = c.names.view_is in
    subst (λ table. other ≡ see_facts (found table)) (sym same) (one_facts c.args.file.now trees other (see_facts (found names)) are mine)
