-- what is known or not
mod Known
mod SameLists
-- words
mod GivenSettings
mod SpelledWords
-- a text
mod FirstFaults
mod LineFaults
mod TextFaults
-- roots
mod NamedStarts
-- a report
mod ReportOrder
mod Reports
-- how long reports are
mod Distinct
mod ShortCircuits
mod ShortNames
mod ShortTexts
mod ShortLines
mod ShortReports
-- answers
mod TextAnswers
mod CommandAnswers
