use Rattle.std.proofs.Common.{◌≡◌, ◌∙◌, AllPairs, Contains, List, map, ap, sym, subst}
use Rattle.std.specs.declared.cmp.Ordering.TheVariants.{Less}
use Rattle.std.proofs.lemmas.List.Elements.{All-contains}
use Rattle.import_rules.specs.declared.item.Item.{Item}
use Rattle.import_rules.specs.declared.names.PredName.{PredName}
use Rattle.import_rules.specs.Clashes.{Imports, see_item}
use Rattle.import_rules.specs.KnownFiles.{files_of}
use Rattle.import_rules.specs.Names.{pred_cmp}
use Rattle.import_rules.specs.TakenModules.{AreMarked, module_item, module_name}
use Rattle.import_rules.proofs.Lists.{all_pairs_map, map_has}
use Rattle.import_rules.proofs.taken_modules.TakenModules.make.Goals as goal

pub make-requires : goal.make-requires
make-requires c =
    subst (λ (ps : List PredName). AllPairs (λ p q. pred_cmp p q ≡ Less) ps)
    (sym (c.in_ok-names.ensures ∙ ap (λ (is : List Item). map (λ (i : Imports). i.into) (map see_item is)) c.deref.ensures.value))
    (all_pairs_map (λ p q. pred_cmp p q ≡ Less) (λ (i : Imports). i.into) (map see_item c.in_ok-found.found.firsts.items) c.in_ok-found.ensures.firsts.in_order)

pub returns : goal.returns
returns c =
    let names_are : c.in_ok-names.names.items ≡ map (λ (i : Imports). i.into) (map see_item c.in_ok-found.found.firsts.items) =
    c.in_ok-names.ensures ∙ ap (λ (is : List Item). map (λ (i : Imports). i.into) (map see_item is)) c.deref.ensures.value in
    record {
      in_order = subst (λ (ps : List PredName). AllPairs (λ p q. pred_cmp p q ≡ Less) ps) (sym (c.in_ok-modules.ensures ∙ names_are))
          (all_pairs_map (λ p q. pred_cmp p q ≡ Less) (λ (i : Imports). i.into) (map see_item c.in_ok-found.found.firsts.items) c.in_ok-found.ensures.firsts.in_order);
      modules = λ file has.
          subst (λ (ps : List PredName). Contains ps (module_name file.module_)) (sym (c.in_ok-modules.ensures ∙ names_are))
          (All-contains (λ (i : Imports). Contains (map (λ (f : Imports). f.into) (map see_item c.in_ok-found.found.firsts.items)) i.into) (map see_item c.in_ok-items.items.items) (module_item file)
          c.in_ok-found.ensures.firsts.all
          (subst (λ (is : List Imports). Contains is (module_item file)) (sym c.in_ok-items.ensures) (map_has module_item (files_of c.args.lookups.now) file has)));
      marked = subst (λ ks. AreMarked c.in_ok-modules.modules ks c.in_ok-rows.rows.items) (ap (λ (is : List Item). map see_item is) c.deref-2.ensures.value ∙ c.in_ok-pairs.ensures) c.in_ok-rows.ensures;
    }
