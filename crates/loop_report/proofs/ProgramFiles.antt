-- What is known of the files of a program.
use Rattle.std.proofs.Common.{◌≡◌, ℕ, List, [], ◌∷◌, map, refl}
use Rattle.std.specs.List.{AllZip}
use Rattle.std.specs.Ordering.{nat_cmp}
use Rattle.std.specs.Cmp.Lexicographic.{slice_cmp}
use Rattle.std.proofs.lemmas.Map.Keys.{Less-from_sorted}
use Rattle.module_table.specs.Facts.{Facts}
use Rattle.file_library.specs.Asked.{AreInOrder}
use Rattle.file_library.specs.Loaded.{NamedText}
use Rattle.import_rules.specs.Program.{IsReadFrom}
use Rattle.loop_report.specs.ModuleGraph.{AreRising, file_names}

-- the files are named as their texts
pub named_alike : (texts : List NamedText) (files : List Facts) → AllZip IsReadFrom texts files → file_names files ≡ map (λ (text : NamedText). text.0) texts
named_alike [] [] read = refl
named_alike [] (f ∷ files) read = absurd read
named_alike (text ∷ texts) [] read = absurd read
named_alike (text ∷ texts) (f ∷ files) read = λ i. read.0.named i ∷ named_alike texts files read.1 i

pub rising_names : (names : List (List ℕ)) → AreInOrder names → AreRising names
rising_names names ordered i j d lt within = Less-from_sorted (slice_cmp nat_cmp) names i j d ordered lt within
