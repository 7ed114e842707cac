-- Predicates of which directives declare a property.
use Rattle.std.proofs.Common.{◌≡◌, ◌∙◌, ℕ, ◌<◌, List, [], ◌∷◌, ◌++◌, Some, None, true, false, not, length, map, refl, sym, ap₂, subst}
use Rattle.std.proofs.lemmas.Option.{none-some}
use denote.Enum.Bare.{sameb}
use Rattle.prolog_names.specs.Names.{name_at}
use Rattle.module_table.specs.contracts.mark.Property.{the_type}
use Rattle.module_table.specs.declared.file_facts.FileFacts.{FileFacts}
use Rattle.module_table.specs.declared.mark.Mark.{Mark}
use Rattle.module_table.specs.declared.mark.Property.{Property}
use Rattle.module_table.specs.declared.mark.Property.TheVariants.{Dynamic, Multifile}
use Rattle.module_table.specs.Facts.{Facts, see_facts}
use Rattle.module_table.specs.Marks.{Marked, see_mark}
use Rattle.import_rules.specs.Program.{Seen, found}
use Rattle.import_rules.proofs.FoundMeans.{below}
use Rattle.call_edges.specs.Calls.{IsAmong}
use Rattle.call_edges.specs.Goals.{Adds}
use Rattle.call_edges.specs.Properties.{IsDeclared, IsDeclaredBy, IsDeclaredIn}
use Rattle.call_edges.proofs.AddsLemmas.{adds_as, adds_nothing}
use Rattle.call_edges.proofs.AmongLemmas.{among_map}
use Rattle.call_edges.proofs.CallLemmas.{adds_given}

pub declared_below : (seen : Seen) (property : Property) (q : ℕ) → IsDeclared seen property q → q < length seen.predicates
declared_below seen property q among =
    let mark : Marked = among.is.one in below seen mark.module_ mark.name mark.arity q among.is.is.means

-- the test that passes where a mark is of the other property

never_other : (own property : Property) → not (sameb the_type own property) ≡ true → own ≡ property → ⊥
never_other Dynamic Dynamic other is = cc
never_other Dynamic Multifile other is = cc
never_other Multifile Dynamic other is = cc
never_other Multifile Multifile other is = cc

not_other : (own property : Property) → not (sameb the_type own property) ≡ false → own ≡ property
not_other Dynamic Dynamic same = refl
not_other Dynamic Multifile same = cc
not_other Multifile Dynamic same = cc
not_other Multifile Multifile same = refl

-- marks as they are kept

abbrev pub IsKeptMark : Seen → Property → List (List ℕ) → Mark → ℕ → Type 0
IsKeptMark seen property names mark q = IsDeclaredBy seen property (see_mark names mark) q

-- a mark of the other property, one whose name means nothing, and one whose name means a predicate

pub other_mark : (seen : Seen) (property : Property) (names : List (List ℕ)) (mark : Mark) (nodes : List ℕ)
    → not (sameb the_type mark.property property) ≡ true → Adds (IsKeptMark seen property names mark) nodes nodes
other_mark seen property names mark nodes other =
    adds_nothing (IsKeptMark seen property names mark) nodes (λ q told. never_other mark.property property other told.is)

module _ (seen : Seen) (property : Property) (names : List (List ℕ)) (mark : Mark) (owner name : List ℕ) (owned : owner ≡ name_at names mark.module)
    (named : name ≡ name_at names mark.name) (nodes : List ℕ) where
  abbrev Means : ℕ → Type 0
  Means q = found seen (name_at names mark.module) (name_at names mark.name) mark.arity ≡ Some q

  means_same : found seen (name_at names mark.module) (name_at names mark.name) mark.arity ≡ found seen owner name mark.arity
  means_same = sym (ap₂ (λ m n. found seen m n mark.arity) owned named)

  pub unfound_mark : None ≡ found seen owner name mark.arity → Adds (IsKeptMark seen property names mark) nodes nodes
  unfound_mark none =
      adds_nothing (IsKeptMark seen property names mark) nodes (λ q told. none-some q (none ∙ (sym means_same ∙ told.means)))

  pub found_mark : (node : ℕ) → not (sameb the_type mark.property property) ≡ false → Some node ≡ found seen owner name mark.arity
      → Adds (IsKeptMark seen property names mark) nodes (nodes ++ node ∷ [])
  found_mark node same some =
      adds_as Means (IsKeptMark seen property names mark) nodes (nodes ++ node ∷ [])
      (λ q means. record { is = not_other mark.property property same; means = means }) (λ q told. told.means)
      (adds_given (found seen (name_at names mark.module) (name_at names mark.name) mark.arity) node nodes (means_same ∙ sym some))

pub marks_go : (seen : Seen) (property : Property) (names : List (List ℕ)) (marks : List Mark) (old new : List ℕ)
    → Adds (IsAmong (IsKeptMark seen property names) marks) old new → Adds (IsAmong (IsDeclaredBy seen property) (map (see_mark names) marks)) old new
marks_go seen property names marks old new adds =
    adds_as (IsAmong (IsKeptMark seen property names) marks) (IsAmong (IsDeclaredBy seen property) (map (see_mark names) marks)) old new
    (λ q. (among_map (IsDeclaredBy seen property) (see_mark names) marks q).1) (λ q. (among_map (IsDeclaredBy seen property) (see_mark names) marks q).0) adds

-- facts as they are kept

abbrev pub IsKeptIn : Seen → Property → FileFacts → ℕ → Type 0
IsKeptIn seen property file q = IsDeclaredIn seen property (see_facts file) q

pub declared_go : (seen : Seen) (property : Property) (files : List FileFacts) (all : List Facts) (old new : List ℕ) → map see_facts files ≡ all
    → Adds (IsAmong (IsKeptIn seen property) files) old new → Adds (IsAmong (IsDeclaredIn seen property) all) old new
declared_go seen property files all old new are adds =
    let P : List Facts → Type 0 = λ fs. Adds (IsAmong (IsDeclaredIn seen property) fs) old new in
    subst P are
    (adds_as (IsAmong (IsKeptIn seen property) files) (IsAmong (IsDeclaredIn seen property) (map see_facts files)) old new
    (λ q. (among_map (IsDeclaredIn seen property) see_facts files q).1) (λ q. (among_map (IsDeclaredIn seen property) see_facts files q).0) adds)
