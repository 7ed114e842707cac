-- The words of each cause, and its number.
use Rattle.std.specs.Prelude.{ℕ, List, codes}
use Rattle.clause_text.specs.declared.cause.Cause.{Cause}
use Rattle.clause_text.specs.declared.cause.Cause.TheVariants.{NotUtf8, BadChar, OpenQuote, OpenComment, BadEscape, Stuck, TooDeep, NoEnd}
use Rattle.clause_text.specs.declared.cause.Cause.TheVariants.{BadPriority, BadKind, BadName, FixedOp, InfixAndPostfix, LateModule, BadIndicator}
use Rattle.clause_text.specs.declared.cause.Cause.TheVariants.{BadSpec, ControlHead, BadHead, NotInProfile, NoRoot, TwoModules, NoFile, NotModule}
use Rattle.clause_text.specs.declared.cause.Cause.TheVariants.{NotExported, NotDefined, TwoImports, NotCallable}

-- the cause as a line of faults tells it
abbrev pub cause_text : Cause → List ℕ
cause_text NotUtf8 = codes "byte is not UTF-8"
cause_text BadChar = codes "character cannot begin a token"
cause_text OpenQuote = codes "quoted item is not closed"
cause_text OpenComment = codes "comment is not closed"
cause_text BadEscape = codes "escape is not known"
cause_text Stuck = codes "no clause goes on with this token"
cause_text TooDeep = codes "term is nested deeper than 1000"
cause_text NoEnd = codes "clause has no end"
cause_text BadPriority = codes "operator priority is not 0 to 1200"
cause_text BadKind = codes "operator type is not known"
cause_text BadName = codes "operator name is not an atom or a list of atoms"
cause_text FixedOp = codes "operator cannot be changed"
cause_text InfixAndPostfix = codes "operator would be infix and postfix"
cause_text LateModule = codes "module directive is not the first clause"
cause_text BadIndicator = codes "predicate indicator is expected"
cause_text BadSpec = codes "file name is expected"
cause_text ControlHead = codes "control construct cannot be defined"
cause_text BadHead = codes "clause head is not an atom or a compound term"
cause_text NotInProfile = codes "directive is outside this profile"
cause_text NoRoot = codes "no such file"
cause_text TwoModules = codes "module is declared in two files"
cause_text NoFile = codes "no such file"
cause_text NotModule = codes "file is not a module file"
cause_text NotExported = codes "predicate is not exported"
cause_text NotDefined = codes "exported predicate is not defined"
cause_text TwoImports = codes "predicate is imported from two modules"
cause_text NotCallable = codes "goal is not callable"

-- the number of the cause, by which faults at one place are put in order
abbrev pub number_of : Cause → ℕ
number_of NotUtf8 = 1
number_of BadChar = 2
number_of OpenQuote = 3
number_of OpenComment = 4
number_of BadEscape = 5
number_of Stuck = 6
number_of TooDeep = 7
number_of NoEnd = 8
number_of BadPriority = 9
number_of BadKind = 10
number_of BadName = 11
number_of FixedOp = 12
number_of InfixAndPostfix = 13
number_of LateModule = 14
number_of BadIndicator = 15
number_of BadSpec = 16
number_of ControlHead = 17
number_of BadHead = 18
number_of NotInProfile = 19
number_of NoRoot = 20
number_of TwoModules = 21
number_of NoFile = 22
number_of NotModule = 23
number_of NotExported = 24
number_of NotDefined = 25
number_of TwoImports = 26
number_of NotCallable = 27
