-- What is known of each file of a program.
use Rattle.std.proofs.Common.{inl, inr, List, [], ◌∷◌, subst, arith}
use Rattle.std.specs.Prelude.{Contains}
use Rattle.std.specs.List.{AllZip}
use Rattle.list_laws.proofs.OneOrder.{first_or_rest}
use Rattle.module_table.specs.Facts.{Facts}
use Rattle.file_library.specs.Loaded.{NamedText}
use Rattle.import_rules.specs.Program.{IsReadFrom}

-- what is said of each file
pub read_has : (P : Facts → Type 0) (texts : List NamedText) (files : List Facts) → AllZip IsReadFrom texts files
    → ((text : NamedText) (file : Facts) → IsReadFrom text file → P file) → (file : Facts) → Contains files file → P file
read_has P [] [] read holds file has = absurd (omega (arith, has.1))
read_has P [] (f ∷ files) read holds file has = absurd read
read_has P (t ∷ texts) [] read holds file has = absurd read
read_has P (t ∷ texts) (f ∷ files) read holds file has =
    elim (first_or_rest f file files has) [ inl same ↦ subst P same (holds t f read.0) | inr later ↦ read_has P texts files read.1 holds file later ]
