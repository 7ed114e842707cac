use Rattle.file_library.proofs.OneEnd as of_map
use Rattle.file_library.proofs.laws.one_end.Goals as goal

pub returns : goal.returns
returns c files roots names others end second is_decided also_decided is also = of_map.one_end files roots names others end second is_decided also_decided is also
