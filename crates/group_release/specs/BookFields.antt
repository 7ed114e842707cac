-- How the fields hold a book.
use Rattle.std.specs.Prelude.{◌≡◌}
use Rattle.group_release.specs.Book.{BookValue, IsGoodBook, released_of, table_of}
use Rattle.group_release.specs.Coding.{lists_from}
use Rattle.group_release.specs.declared.book.Book.TheInside.{Inside}

abbrev pub value_of : Inside → BookValue
value_of fields = record {
  lists = lists_from fields.lists.numbers;
  roots = fields.roots.items;
  given = fields.given;
  failed = fields.failed;
  kept = fields.blocked.kept;
  groups = fields.released.groups;
}

-- the table and the groups are of the graph's nodes, there is a place for one search of each node, and the book is good
pub record IsBook (fields : Inside) : Type 0 where
  pub table : fields.blocked ≡ table_of (value_of fields)
  pub groups : fields.released ≡ released_of (value_of fields)
  pub good : IsGoodBook (value_of fields)
