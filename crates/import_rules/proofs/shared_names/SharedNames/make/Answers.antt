use Rattle.std.proofs.Common.{◌≡◌, ◌∙◌, AllPairs, List, map, ap, sym, subst}
use Rattle.std.specs.declared.cmp.Ordering.TheVariants.{Less}
use Rattle.import_rules.specs.declared.item.Item.{Item}
use Rattle.import_rules.specs.declared.names.PredName.{PredName}
use Rattle.import_rules.specs.Clashes.{Imports, see_item}
use Rattle.import_rules.specs.KnownFiles.{shared_of}
use Rattle.import_rules.specs.Names.{pred_cmp}
use Rattle.import_rules.proofs.Lists.{all_pairs_map}
use Rattle.import_rules.proofs.shared_names.SharedNames.make.Goals as goal

pub make-requires : goal.make-requires
make-requires c =
    subst (λ (ps : List PredName). AllPairs (λ p q. pred_cmp p q ≡ Less) ps)
    (sym (c.in_ok-shared.ensures ∙ ap (λ (is : List Item). map (λ (i : Imports). i.into) (map see_item is)) c.deref.ensures.value))
    (all_pairs_map (λ p q. pred_cmp p q ≡ Less) (λ (i : Imports). i.into) (shared_of c.args.lookups.now) c.requires.ready.shared)
