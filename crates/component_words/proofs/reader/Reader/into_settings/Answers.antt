use Rattle.component_words.proofs.reader.Reader.into_settings.Goals as goal

pub returns-in_default : goal.returns-in_default
returns-in_default c settings set = c.in_default.ensures settings.jobs set.jobs
