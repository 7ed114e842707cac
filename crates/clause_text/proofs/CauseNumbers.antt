-- No two causes have one number.
use Rattle.std.proofs.Common.{◌≡◌, ◌-◌, List, [], ◌∷◌, Some, slice_get, refl, ap, sym, ◌∙◌}
use Rattle.clause_text.specs.declared.cause.Cause.{Cause}
use Rattle.clause_text.specs.declared.cause.Cause.TheVariants.{NotUtf8, BadChar, OpenQuote, OpenComment, BadEscape, Stuck, TooDeep, NoEnd, BadPriority, BadKind, BadName, FixedOp, InfixAndPostfix, LateModule, BadIndicator, BadSpec, ControlHead, BadHead, NotInProfile, NoRoot, TwoModules, NoFile, NotModule, NotExported, NotDefined, TwoImports, NotCallable}
use Rattle.clause_text.specs.Cause.{number_of}

-- in the order of their numbers
abbrev causes : List Cause
causes = NotUtf8 ∷ BadChar ∷ OpenQuote ∷ OpenComment ∷ BadEscape ∷ Stuck ∷ TooDeep ∷ NoEnd ∷ BadPriority ∷ BadKind ∷ BadName ∷ FixedOp ∷ InfixAndPostfix ∷ LateModule ∷ BadIndicator ∷ BadSpec ∷ ControlHead ∷ BadHead ∷ NotInProfile ∷ NoRoot ∷ TwoModules ∷ NoFile ∷ NotModule ∷ NotExported ∷ NotDefined ∷ TwoImports ∷ NotCallable ∷ []

stands_there : (a : Cause) → slice_get causes (number_of a - 1) ≡ Some a
stands_there NotUtf8 = refl
stands_there BadChar = refl
stands_there OpenQuote = refl
stands_there OpenComment = refl
stands_there BadEscape = refl
stands_there Stuck = refl
stands_there TooDeep = refl
stands_there NoEnd = refl
stands_there BadPriority = refl
stands_there BadKind = refl
stands_there BadName = refl
stands_there FixedOp = refl
stands_there InfixAndPostfix = refl
stands_there LateModule = refl
stands_there BadIndicator = refl
stands_there BadSpec = refl
stands_there ControlHead = refl
stands_there BadHead = refl
stands_there NotInProfile = refl
stands_there NoRoot = refl
stands_there TwoModules = refl
stands_there NoFile = refl
stands_there NotModule = refl
stands_there NotExported = refl
stands_there NotDefined = refl
stands_there TwoImports = refl
stands_there NotCallable = refl

pub one_number : (a b : Cause) → number_of a ≡ number_of b → a ≡ b
one_number a b same =
    let both : Some a ≡ Some b = sym (stands_there a) ∙ (ap (λ n. slice_get causes (n - 1)) same ∙ stands_there b) in
    cc
