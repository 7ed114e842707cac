-- Users of files module by module, and what is kept of their items.
use Rattle.std.specs.Prelude.{ℕ, Bool, List, filter, flat_map}
use Rattle.std.specs.Str.{bytes_eq}
use Rattle.module_table.specs.Facts.{Facts, see_facts}
use Rattle.import_rules.specs.declared.module_clashes.User.{User}
use Rattle.import_rules.specs.Clashes.{Imports}
use Rattle.import_rules.specs.Items.{is_foreign}
use Rattle.import_rules.specs.Offers.{kept_of_load}

abbrev pub see_user : User → Facts
see_user user = see_facts user.file.now

abbrev pub module_of : User → List ℕ
module_of user = (see_user user).module_

-- whether the file is of the module
abbrev pub is_of : List ℕ → Facts → Bool
is_of own file = bytes_eq own file.module_

-- the items that are kept of some of the files
abbrev pub kept_of_users : List Facts → List Imports → List Facts → List Imports
kept_of_users files shared users = filter (is_foreign files) (flat_map (λ (user : Facts). flat_map (kept_of_load files shared user) user.loads) users)
