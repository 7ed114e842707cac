-- The causes of refused texts, and those of refused facts.
use Rattle.std.specs.Prelude.{Bool, true, false}
use Rattle.clause_text.specs.declared.cause.Cause.{Cause}
use Rattle.clause_text.specs.declared.cause.Cause.TheVariants.{NotUtf8, BadChar, OpenQuote, OpenComment, BadEscape, Stuck, TooDeep, NoEnd, BadPriority, BadKind}
use Rattle.clause_text.specs.declared.cause.Cause.TheVariants.{BadName, FixedOp, InfixAndPostfix, LateModule, BadIndicator, BadSpec, ControlHead, BadHead}
use Rattle.clause_text.specs.declared.cause.Cause.TheVariants.{NotInProfile}

-- the causes that directives and heads have
abbrev pub is_fact_cause : Cause → Bool
is_fact_cause LateModule = true
is_fact_cause BadIndicator = true
is_fact_cause BadSpec = true
is_fact_cause ControlHead = true
is_fact_cause BadHead = true
is_fact_cause NotInProfile = true
is_fact_cause _ = false

-- the causes that bytes, tokens, clauses and operator items have
abbrev pub is_text_cause : Cause → Bool
is_text_cause NotUtf8 = true
is_text_cause BadChar = true
is_text_cause OpenQuote = true
is_text_cause OpenComment = true
is_text_cause BadEscape = true
is_text_cause Stuck = true
is_text_cause TooDeep = true
is_text_cause NoEnd = true
is_text_cause BadPriority = true
is_text_cause BadKind = true
is_text_cause BadName = true
is_text_cause FixedOp = true
is_text_cause InfixAndPostfix = true
is_text_cause _ = false
