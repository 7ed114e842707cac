use Rattle.std.proofs.Common.{◌∷◌, refl, sym, ◌∙◌}
use Rattle.component_words.specs.declared.reader.Next.TheVariants as next
use Rattle.component_words.specs.Continue.{given_of}
use Rattle.component_words.specs.Words.{ends_word}
use Rattle.component_words.proofs.GoesOn.{by_end, by_valued, no_joined, no_word}
use Rattle.component_words.proofs.Taken.{flag_result, joined_result, other_text, refused, same_text, turned}
use Rattle.component_words.proofs.reader.Reader.take_option.Goals as goal

pub returns-then-eq-clause-takes : goal.returns-then-eq-clause-takes
returns-then-eq-clause-takes c rest settings =
    turned c.args.self.now (record { alloc = c.args.self.now.alloc; next = next.Operand; flags = c.args.self.now.flags; roots = c.args.self.now.roots; jobs = c.args.self.now.jobs; file = c.args.self.now.file }) next.Operand (given_of c.args.self.now) (c.args.word.now ∷ rest) rest settings c.requires.any refl refl
    (by_end (given_of c.args.self.now) c.args.word.now rest settings (same_text c.args.word.now ends_word (sym c.eq.ensures ∙ c.if-eq.true)))

pub returns-in-Some-clause-takes : goal.returns-in-Some-clause-takes
returns-in-Some-clause-takes c rest settings =
    turned c.args.self.now (record { alloc = c.args.self.now.alloc; next = next.Value c.in-Some.valued; flags = c.args.self.now.flags; roots = c.args.self.now.roots; jobs = c.args.self.now.jobs; file = c.args.self.now.file }) (next.Value c.in-Some.valued) (given_of c.args.self.now) (c.args.word.now ∷ rest) rest settings c.requires.any refl refl
    (by_valued (given_of c.args.self.now) c.in-Some.valued c.args.word.now rest settings c.in-Some.ensures)

pub returns-then-not-is_filled-clause-takes : goal.returns-then-not-is_filled-clause-takes
returns-then-not-is_filled-clause-takes c rest settings =
    refused c.args.self.now (c.args.word.now ∷ rest) settings c.requires.any
    (no_joined (given_of c.args.self.now) c.in-Some-joined_value.valued c.in-Some-joined_value.value.now c.args.word.now rest settings
    c.in-Some-joined_value.ensures (sym c.is_filled.ensures ∙ c.if-not-is_filled.true))

pub returns-in-Some-joined_value-clause-takes : goal.returns-in-Some-joined_value-clause-takes
returns-in-Some-joined_value-clause-takes c =
    joined_result c.push_value.result c.args.self.now c.push_value.new.self c.in-Some-joined_value.valued c.in-Some-joined_value.value.now c.args.word.now
    c.requires.any c.in-Some-joined_value.ensures (sym c.is_filled.ensures ∙ c.if-not-is_filled.false) c.push_value.ensures.takes

pub returns-in-None-clause-takes : goal.returns-in-None-clause-takes
returns-in-None-clause-takes c rest settings =
    refused c.args.self.now (c.args.word.now ∷ rest) settings c.requires.any
    (no_word (given_of c.args.self.now) c.args.word.now rest settings c.requires.option
    (other_text c.args.word.now ends_word (sym c.eq.ensures ∙ c.if-eq.false))
    c.in_default.ensures c.in_default-joined_value.ensures c.in-None.ensures)

pub returns-in-Some-flag_named-clause-takes : goal.returns-in-Some-flag_named-clause-takes
returns-in-Some-flag_named-clause-takes c =
    flag_result c.take_flag.result c.args.self.now c.take_flag.new.self c.in-Some-flag_named.flag c.args.word.now c.requires.any c.in-Some-flag_named.ensures
    c.take_flag.ensures.takes
