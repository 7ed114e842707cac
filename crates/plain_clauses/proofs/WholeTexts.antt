-- Texts with plain facts are those with facts of which these are the plain ones.
use Rattle.std.proofs.Common.{◌≡◌, ◌↔◌, ℕ, List, [], ◌∷◌, map, refl, sym, subst}
use Rattle.std.specs.List.{AllZip}
use Rattle.module_table.specs.Facts.{Facts, AreFacts}
use Rattle.module_table.specs.FileText.{HasFacts}
use Rattle.file_library.specs.Loaded.{NamedText}
use Rattle.kept_clauses.specs.Plain.{plain}
use Rattle.plain_clauses.specs.PlainFacts.{plain_facts, HasWholeFacts}
use Rattle.plain_clauses.proofs.PlainSaid.{facts_are}
use Rattle.plain_clauses.proofs.WholeFacts.{whole_facts}

pub text_whole : (name text : List ℕ) (facts : Facts) → HasFacts name text facts ↔ ((whole : Facts) × HasWholeFacts name text whole × (facts ≡ plain_facts whole))
text_whole name text facts = (
  λ has. let own = whole_facts name has.trees facts has.are in (own.0, record { trees = has.trees; reads = has.reads; are = own.1 }, own.2),
  λ has. record {
    trees = has.1.trees;
    reads = has.1.reads;
    are = subst (AreFacts name (map plain has.1.trees)) (sym has.2) (facts_are name has.1.trees has.0 has.1.are);
  },
)

abbrev pub HaveFacts : List NamedText → List Facts → Type 0
HaveFacts texts files = AllZip (λ (text : NamedText) (facts : Facts). HasFacts text.0 text.1 facts) texts files

abbrev pub HaveWholeFacts : List NamedText → List Facts → Type 0
HaveWholeFacts texts files = AllZip (λ (text : NamedText) (facts : Facts). HasWholeFacts text.0 text.1 facts) texts files

pub texts_whole : (texts : List NamedText) (files : List Facts) → HaveFacts texts files → (whole : List Facts) × HaveWholeFacts texts whole × (files ≡ map plain_facts whole)
texts_whole [] [] have = ([], tt, refl)
texts_whole [] (file ∷ files) have = absurd have
texts_whole (text ∷ texts) [] have = absurd have
texts_whole (text ∷ texts) (file ∷ files) have =
    let first = (text_whole text.0 text.1 file).0 have.0 in
    let others = texts_whole texts files have.1 in
    (first.0 ∷ others.0, (first.1, others.1), λ i. first.2 i ∷ others.2 i)
