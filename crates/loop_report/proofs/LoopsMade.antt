-- Rings of modules, by their names, are the import loops.
use Rattle.std.proofs.Common.{◌≡◌, ℕ, List, map}
use Rattle.std.proofs.lemmas.List.Elements.{All-weaker}
use Rattle.graph_law.specs.Reach.{Agree}
use Rattle.graph_law.specs.Graph.{Calls}
use Rattle.graph_law.proofs.Transport.{Agree-sym, IsClass-agree, IsRecursive-agree}
use Rattle.module_table.specs.Facts.{Facts}
use Rattle.loop_report.specs.ImportLoops.{AreModules, PlaceLoads, IsLoop, AreImportLoops, names_at}
use Rattle.loop_report.specs.ModuleGraph.{AreLoadLists, IsRing, AreRings}

pub loops_made : (files : List Facts) (modules lists classes : List (List ℕ)) (loops : List (List (List ℕ))) → AreModules files modules
    → AreLoadLists files modules lists → AreRings modules lists classes → loops ≡ map (names_at modules) classes → AreImportLoops files loops
loops_made files modules lists classes loops are loaded rings is =
    let agree : Agree (Calls lists) (PlaceLoads files modules) =
    record { to = λ p q call. (loaded.calls p q).0 call; from = λ p q call. (loaded.calls p q).1 call } in
    record {
      modules = modules;
      are_modules = are;
      classes = classes;
      each =
          All-weaker (IsRing modules lists) (IsLoop files modules)
          (λ class ring.
          record {
            within = ring.within;
            is_class = IsClass-agree agree ring.is_class;
            recursive = IsRecursive-agree class agree ring.recursive;
            not_user = ring.not_user;
          }) classes rings.each;
      all = λ class loop.
          rings.all class
          (record {
            within = loop.within;
            is_class = IsClass-agree (Agree-sym agree) loop.is_class;
            recursive = IsRecursive-agree class (Agree-sym agree) loop.recursive;
            not_user = loop.not_user;
          });
      in_order = rings.in_order;
      are = is;
    }
