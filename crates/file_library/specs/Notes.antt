-- What a library noted of its answers.
use Rattle.std.specs.Prelude.{ℕ, List, Some, None, map}
use Rattle.file_library.specs.Library.{Answered}
use Rattle.file_library.specs.declared.note.Note.{Note}
use Rattle.file_library.specs.declared.note.Note.TheVariants.{Found, Absent}

abbrev pub see_note : Note → Answered
see_note (Found name room) = record { name = name.value; text = Some room.value.items }
see_note (Absent name) = record { name = name.value; text = None }

abbrev pub noted : List Note → List Answered
noted notes = map see_note notes
