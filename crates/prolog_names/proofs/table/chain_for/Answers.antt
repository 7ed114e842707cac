use Rattle.std.proofs.Common.{Some, cond, inr, refl, ap, ◌∙◌}
use Rattle.std.specs.BTreeMap.{get_by_text}
use Rattle.std.specs.Str.{bytes_eq}
use Rattle.std.specs.String.{string_bytes}
use Rattle.std.proofs.lemmas.Map.Text.{btree_map_updates_text}
use Rattle.std.proofs.lemmas.Slice.Eq.{bytes_eq-Decides}
use Rattle.prolog_names.proofs.table.chain_for.Goals as goal

pub returns-clause-chain : goal.returns-clause-chain
returns-clause-chain c =
    let name = c.args.name.now in
    inr (
      refl,
      btree_map_updates_text (string_bytes c.in_ok-key.key) c.args.far.now c.insert.new.self (Some c.args.place) c.in_ok-insert.ensures.updates name
          ∙ ap (λ b. cond b (Some c.args.place) (get_by_text c.args.far.now name)) (ap (λ bs. bytes_eq bs name) c.in_ok-key.ensures.ok ∙ (bytes_eq-Decides name name).1 refl),
    )

pub returns-clause-others : goal.returns-clause-others
returns-clause-others c = λ other apart.
    btree_map_updates_text (string_bytes c.in_ok-key.key) c.args.far.now c.insert.new.self (Some c.args.place) c.in_ok-insert.ensures.updates other
    ∙ ap (λ b. cond b (Some c.args.place) (get_by_text c.args.far.now other)) (ap (λ bs. bytes_eq bs other) c.in_ok-key.ensures.ok ∙ apart)
