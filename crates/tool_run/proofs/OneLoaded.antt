-- Loaded files come to one end, where one text tells what is asked for of a program.
use Rattle.std.proofs.Common.{◌≡◌, ℕ, ◌<◌, ◌≤◌, ◌⊎◌, List, [], ◌∷◌, ◌++◌, All, Contains, Option, Some, None, length, get_or, AllPairs, refl, ap, sym, ◌∙◌, subst, inl, inr, arith}
use Rattle.std.specs.List.{AllZip}
use Rattle.std.specs.List.Sorted.{IsStrictlyIncreasing}
use Rattle.std.proofs.lemmas.List.{get_or_default, length-append}
use Rattle.std.proofs.lemmas.List.Elements.{All-tail}
use Rattle.std.proofs.Math.Seq.{get_or-append_seam}
use Rattle.list_laws.proofs.OneOrder.{IsStrict, same_order}
use Rattle.call_edges.proofs.GoalFaultLemmas.{one_list}
use Rattle.graph_law.proofs.Increasing.{increasing_far}
use Rattle.file_library.specs.declared.fault.Fault.{Fault}
use Rattle.file_library.specs.Loaded.{LoadedFiles, WasLoaded}
use Rattle.import_rules.specs.declared.names.PredName.{PredName}
use Rattle.import_rules.specs.Flaws.{IsFaultOf}
use Rattle.import_rules.specs.declared.resolve.TheConstants.{MOST_PREDICATES}
use Rattle.import_rules.specs.Program.{Seen, IsProgram, HasPredicates}
use Rattle.import_rules.proofs.OneFlaws.{one_list_of_flaws, one_list_of_import_faults}
use Rattle.import_rules.proofs.OneProgram.{one_program, few_or_many}
use Rattle.call_edges.specs.GoalFaults.{AreGoalFaults}
use Rattle.tool_run.specs.Roots.{AreRootNumbers, LacksRoot, HasRoots}
use Rattle.tool_run.proofs.RootLemmas.{AreRising}
use Rattle.tool_run.specs.LoadedEnd.{DefineTooMany, HaveImportFaults, HaveGoalFaults, AreCallable, LackRoot, TellsFiles, LoadedComesTo}
use Rattle.tool_run.specs.End.{End, usage, faults, missing, unread, limit, output, no_memory}
use Rattle.tool_run.specs.Tool.{Tool}

-- a program has no import faults

zip_empty : (found : LoadedFiles) (list : List Fault) → AllZip (IsFaultOf found.texts) [] list → list ≡ []
zip_empty found [] zip = refl
zip_empty found (fault ∷ list) zip = absurd zip

no_import_faults : (found : LoadedFiles) (seen : Seen) (list : List Fault) → IsProgram found seen → HaveImportFaults found list → ⊥
no_import_faults found seen list program is =
    let none : is.are.flaws ≡ [] = one_list_of_flaws found.files found.absent is.are.flaws [] is.are.are program.sound in
    is.some (zip_empty found list (subst (λ fs. AllZip (IsFaultOf found.texts) fs list) none is.are.placed))

-- reach begins at one list of roots

number_strict : IsStrict (λ (a b : ℕ). a < b)
number_strict = record { one_way = λ a b there back. omega (arith, there, back) }

pub one_root_list : (list : Option (List PredName)) (seen : Seen) (roots others : List ℕ) → AreRootNumbers list seen roots → AreRootNumbers list seen others → roots ≡ others
one_root_list list seen roots others is also =
    same_order (λ a b. a < b) number_strict roots others (rises roots is.ascending) (rises others also.ascending) (λ q has. (also.are q).1 ((is.are q).0 has))
    (λ q has. (is.are q).1 ((also.are q).0 has))
  where
    rises : (xs : List ℕ) → IsStrictlyIncreasing xs → AllPairs (λ a b. a < b) xs
    rises xs up i j d lt within =
        subst (λ a. a < get_or xs j d) (get_or_default xs i 0 d (omega (arith, lt, within))) (subst (λ b. get_or xs i 0 < b) (get_or_default xs j 0 d within) (increasing_far xs up i j lt within))

-- and one root that is first missing

-- of two names that a list goes on with, where all before either are there and it is not, both are one
first_missing : (predicates before others after more : List PredName) (root other : PredName) → before ++ root ∷ after ≡ others ++ other ∷ more → All (Contains predicates) before
    → All (Contains predicates) others → (Contains predicates root → ⊥) → (Contains predicates other → ⊥) → root ≡ other
first_missing predicates [] [] after more root other same there there_too lacks lacks_too = cc
first_missing predicates [] (q ∷ others) after more root other same there there_too lacks lacks_too =
    let is : root ≡ q = cc in
    absurd (lacks (subst (Contains predicates) (sym is) (there_too 0 root (omega arith))))
first_missing predicates (p ∷ before) [] after more root other same there there_too lacks lacks_too =
    let is : p ≡ other = cc in
    absurd (lacks_too (subst (Contains predicates) is (there 0 root (omega arith))))
first_missing predicates (p ∷ before) (q ∷ others) after more root other same there there_too lacks lacks_too =
    let rest : before ++ root ∷ after ≡ others ++ other ∷ more = cc in
    first_missing predicates before others after more root other rest (All-tail (Contains predicates) p before there) (All-tail (Contains predicates) q others there_too) lacks lacks_too

one_missing : (list : Option (List PredName)) (seen : Seen) (root other : PredName) → LacksRoot list seen root → LacksRoot list seen other → root ≡ other
one_missing None seen root other is also = absurd is
one_missing (Some list) seen root other is also =
    first_missing seen.predicates is.before also.before is.after also.after root other (sym is.is ∙ also.is) is.there also.there is.missing also.missing

-- a list that lacks a root isn't all there
there_or_missing : (list : Option (List PredName)) (seen : Seen) (root : PredName) → HasRoots list seen → LacksRoot list seen root → ⊥
there_or_missing None seen root has lacks = lacks
there_or_missing (Some list) seen root has lacks =
    let all : All (Contains seen.predicates) (lacks.before ++ root ∷ lacks.after) = subst (All (Contains seen.predicates)) lacks.is has in
    let here : length lacks.before < length (lacks.before ++ root ∷ lacks.after) = omega (arith, length-append lacks.before (root ∷ lacks.after)) in
    lacks.missing (subst (Contains seen.predicates) (get_or-append_seam lacks.before root lacks.after root) (all (length lacks.before) root here))

-- so the end is one

few_of : (found : LoadedFiles) (seen : Seen) → IsProgram found seen → HasPredicates found (λ n. n ≤ MOST_PREDICATES)
few_of found seen is = record { predicates = seen.predicates; numbered = is.numbered; many_are = is.few }

callable_or_faults : (found : LoadedFiles) (seen : Seen) (list : List Fault) → AreCallable found seen → HaveImportFaults found list ⊎ HaveGoalFaults found list → ⊥
callable_or_faults found seen list is (inl imports) = no_import_faults found seen list is.program imports
callable_or_faults found seen list is (inr goals) =
    let same : goals.seen ≡ seen = one_program found goals.seen seen goals.program is.program in
    goals.some (one_list seen list [] (subst (λ seen. AreGoalFaults seen list) same goals.are) is.callable)

many_or_faults : (found : LoadedFiles) (list : List Fault) → DefineTooMany found → HaveImportFaults found list ⊎ HaveGoalFaults found list → ⊥
many_or_faults found list many (inl imports) = few_or_many found imports.few many
many_or_faults found list many (inr goals) = few_or_many found (few_of found goals.seen goals.program) many

many_or_callable : (found : LoadedFiles) (seen : Seen) → DefineTooMany found → AreCallable found seen → ⊥
many_or_callable found seen many is = few_or_many found (few_of found seen is.program) many

same_faults : (found : LoadedFiles) → WasLoaded found → (list other : List Fault) → HaveImportFaults found list ⊎ HaveGoalFaults found list
    → HaveImportFaults found other ⊎ HaveGoalFaults found other → list ≡ other
same_faults found was list other (inl is) (inl also) = one_list_of_import_faults found list other was is.are also.are
same_faults found was list other (inl is) (inr also) = absurd (no_import_faults found also.seen list also.program is)
same_faults found was list other (inr is) (inl also) = absurd (no_import_faults found is.seen other is.program also)
same_faults found was list other (inr is) (inr also) =
    let same : also.seen ≡ is.seen = one_program found also.seen is.seen also.program is.program in
    one_list is.seen list other is.are (subst (λ seen. AreGoalFaults seen other) same also.are)

module _ {A : Type 0} (tool : Tool A) (asked : A) where
  -- one text tells what is asked for of a program
  abbrev pub IsToldOnce : Type 0
  IsToldOnce = (seen : Seen) (bytes other : List ℕ) → AreRising seen.predicates → tool.tells asked seen bytes → tool.tells asked seen other → bytes ≡ other

  module _ (once : IsToldOnce) (found : LoadedFiles) where
    same_missing : (root other : PredName) → LackRoot (tool.names asked) found root → LackRoot (tool.names asked) found other → root ≡ other
    same_missing root other is also =
        let same : also.seen ≡ is.seen = one_program found also.seen is.seen also.program.program is.program.program in
        one_missing (tool.names asked) is.seen root other is.lacks (subst (λ seen. LacksRoot (tool.names asked) seen other) same also.lacks)

    told_or_missing : (bytes : List ℕ) (root : PredName) → TellsFiles tool asked found bytes → LackRoot (tool.names asked) found root → ⊥
    told_or_missing bytes root is also =
        let same : also.seen ≡ is.seen = one_program found also.seen is.seen also.program.program is.program.program in
        there_or_missing (tool.names asked) is.seen root is.rooted (subst (λ seen. LacksRoot (tool.names asked) seen root) same also.lacks)

    same_told : (bytes other : List ℕ) → TellsFiles tool asked found bytes → TellsFiles tool asked found other → bytes ≡ other
    same_told bytes other is also =
        let same : also.seen ≡ is.seen = one_program found also.seen is.seen also.program.program is.program.program in
        once is.seen bytes other is.program.program.numbered.in_order is.tells (subst (λ seen. tool.tells asked seen other) same also.tells)

    pub one_loaded_end : WasLoaded found → (end other : End) → LoadedComesTo tool asked found end → LoadedComesTo tool asked found other → end ≡ other
    one_loaded_end was usage other is also = absurd is
    one_loaded_end was (unread name) other is also = absurd is
    one_loaded_end was no_memory other is also = absurd is
    one_loaded_end was (faults list) usage is also = absurd also
    one_loaded_end was (faults list) (unread name) is also = absurd also
    one_loaded_end was (faults list) no_memory is also = absurd also
    one_loaded_end was (faults list) (faults others) is also = ap (λ fs. faults fs) (same_faults found was list others is also)
    one_loaded_end was (faults list) (limit also_passed) is also = absurd (many_or_faults found list also.1 is)
    one_loaded_end was (faults list) (missing other) is also = absurd (callable_or_faults found also.seen list also.program is)
    one_loaded_end was (faults list) (output others) is also = absurd (callable_or_faults found also.seen list also.program is)
    one_loaded_end was (limit passed) usage is also = absurd also
    one_loaded_end was (limit passed) (unread name) is also = absurd also
    one_loaded_end was (limit passed) no_memory is also = absurd also
    one_loaded_end was (limit passed) (faults others) is also = absurd (many_or_faults found others is.1 also)
    one_loaded_end was (limit passed) (limit also_passed) is also = ap (λ l. limit l) (is.0 ∙ sym also.0)
    one_loaded_end was (limit passed) (missing other) is also = absurd (many_or_callable found also.seen is.1 also.program)
    one_loaded_end was (limit passed) (output others) is also = absurd (many_or_callable found also.seen is.1 also.program)
    one_loaded_end was (missing root) usage is also = absurd also
    one_loaded_end was (missing root) (unread name) is also = absurd also
    one_loaded_end was (missing root) no_memory is also = absurd also
    one_loaded_end was (missing root) (faults others) is also = absurd (callable_or_faults found is.seen others is.program also)
    one_loaded_end was (missing root) (limit also_passed) is also = absurd (many_or_callable found is.seen also.1 is.program)
    one_loaded_end was (missing root) (missing other) is also = ap (λ r. missing r) (same_missing root other is also)
    one_loaded_end was (missing root) (output others) is also = absurd (told_or_missing others root also is)
    one_loaded_end was (output bytes) usage is also = absurd also
    one_loaded_end was (output bytes) (unread name) is also = absurd also
    one_loaded_end was (output bytes) no_memory is also = absurd also
    one_loaded_end was (output bytes) (faults others) is also = absurd (callable_or_faults found is.seen others is.program also)
    one_loaded_end was (output bytes) (limit also_passed) is also = absurd (many_or_callable found is.seen also.1 is.program)
    one_loaded_end was (output bytes) (missing other) is also = absurd (told_or_missing bytes other is also)
    one_loaded_end was (output bytes) (output others) is also = ap (λ bs. output bs) (same_told bytes others is also)
