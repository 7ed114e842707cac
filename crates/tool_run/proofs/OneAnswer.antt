-- What is wanted over a map of files has one answer, where one text tells it of a program.
use Rattle.std.proofs.Common.{◌≡◌, ℕ, ◌⊎◌, List, sym, ◌∙◌, subst, refl, inl, inr}
use Rattle.file_library.specs.Library.{Files}
use Rattle.file_library.specs.Asking.{LoadEnd, loaded, too_many, too_large, too_much, LoadEndIs, IsDecided}
use Rattle.file_library.specs.Asking as of_load
use Rattle.file_library.proofs.OneEnd.{one_end}
use Rattle.tool_run.specs.Wanted.{IsNothingAsked, IsOneAtMost, files_read, names_read}
use Rattle.tool_run.specs.Answer.{LoadEndComesTo, IsLawfulAnswer, IsAnswer}
use Rattle.tool_run.specs.Tool.{Tool}
use Rattle.tool_run.specs.End.{End, usage, faults, missing, unread, limit, output, no_memory}
use Rattle.tool_run.proofs.OneLoaded.{IsToldOnce, one_loaded_end}

module _ {A : Type 0} (tool : Tool A) where
  -- how the asking ends comes to one end
  comes_once : (asked : A) → IsToldOnce tool asked → (files : Files) (roots names : List (List ℕ)) (load : LoadEnd) (end other : End) → LoadEndIs files roots names load
      → LoadEndComesTo tool asked load end → LoadEndComesTo tool asked load other → end ≡ other
  comes_once asked once files roots names (loaded found) end other ends is also =
      one_loaded_end tool asked once found (record { files = files; roots = roots; is = ends.1 }) end other is also
  comes_once asked once files roots names (of_load.faults found) end other ends is also = is ∙ sym also
  comes_once asked once files roots names (of_load.unread name) end other ends is also = is ∙ sym also
  comes_once asked once files roots names too_many end other ends is also = is ∙ sym also
  comes_once asked once files roots names (too_large name) end other ends is also = is ∙ sym also
  comes_once asked once files roots names too_much end other ends is also = is ∙ sym also
  comes_once asked once files roots names of_load.no_memory end other ends is also = is ∙ sym also

  module _ (wanted : A → Type 0) (one : IsOneAtMost wanted) (once : (asked : A) → wanted asked → IsToldOnce tool asked) (files : Files) where
    abbrev AreEnds : A → List (List ℕ) → LoadEnd → Type 0
    AreEnds asked names load = LoadEndIs (files_read (tool.make asked) files) (names_read (tool.make asked) (tool.files asked)) names load

    one_lawful_answer : (end other : End) → IsLawfulAnswer tool wanted files end → IsLawfulAnswer tool wanted files other → end ≡ other
    one_lawful_answer end other is also =
        let same : also.asked ≡ is.asked = one also.asked is.asked also.lawful is.lawful in
        let read = files_read (tool.make is.asked) files in
        let names = names_read (tool.make is.asked) (tool.files is.asked) in
        let load : also.load ≡ is.load =
        one_end read names also.names is.names also.load is.load also.decided is.decided (subst (λ asked. AreEnds asked also.names also.load) same also.ends) is.ends in
        let comes : LoadEndComesTo tool is.asked also.load other = subst (λ asked. LoadEndComesTo tool asked also.load other) same also.comes in
        comes_once is.asked (once is.asked is.lawful) read names is.names is.load end other is.ends is.comes (subst (λ l. LoadEndComesTo tool is.asked l other) load comes)

    -- the answer is the usage, or one to what is wanted
    usage_or_lawful : (end : End) → IsAnswer tool wanted files end → (IsNothingAsked wanted × (end ≡ usage)) ⊎ IsLawfulAnswer tool wanted files end
    usage_or_lawful usage is = inl (is, refl)
    usage_or_lawful (faults found) is = inr is
    usage_or_lawful (missing root) is = inr is
    usage_or_lawful (unread name) is = inr is
    usage_or_lawful (limit passed) is = inr is
    usage_or_lawful (output bytes) is = inr is
    usage_or_lawful no_memory is = inr is

    pub one_answer : (answer other : End) → IsAnswer tool wanted files answer → IsAnswer tool wanted files other → answer ≡ other
    one_answer answer other is also = elim (usage_or_lawful answer is) [
      | inl none ↦
          elim (usage_or_lawful other also) [
            | inl too ↦ none.1 ∙ sym too.1
            | inr lawful ↦ absurd (none.0 lawful.asked lawful.lawful)
          ]
      | inr lawful ↦
          elim (usage_or_lawful other also) [
            | inl none ↦ absurd (none.0 lawful.asked lawful.lawful)
            | inr too ↦ one_lawful_answer answer other lawful too
          ]
    ]
