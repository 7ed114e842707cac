-- How the fields hold the lists of slots that wait for nodes.
use Rattle.std.specs.Prelude.{◌≡◌, ℕ, ◌+◌, ◌<◌, List, length, slice_index_or}
use Rattle.blocked_table.specs.declared.waiters.Waiters.TheInside.{Inside}
use Rattle.blocked_table.specs.Waiters.{WaitersValue}

abbrev pub value_of : Inside → WaitersValue
value_of fields = record { count = length fields.heads.items; words = fields.nodes.items }

-- the word of a slot or of a node, or 0
abbrev pub word_at : List ℕ → ℕ → ℕ
word_at words i = slice_index_or words i 0

-- all slots on the list of a node wait for it, and each that waits for it is on the list: the head
-- is the one with none before it, the slot after another has that one before it, and the slot
-- before it has it after. Going back the rank falls, so it ends at the head
pub record AreLinked (heads nodes after before : List ℕ) : Type 0 where
  pub rank : ℕ → ℕ
  pub first : (p w : ℕ) → word_at heads w ≡ p + 1 → (word_at nodes p ≡ w + 1) × (word_at before p ≡ 0)
  pub head : (p w : ℕ) → word_at nodes p ≡ w + 1 → word_at before p ≡ 0 → word_at heads w ≡ p + 1
  pub back : (p w q : ℕ) → word_at nodes p ≡ w + 1 → word_at before p ≡ q + 1
      → (word_at nodes q ≡ w + 1) × (word_at after q ≡ p + 1) × (rank q < rank p)
  pub on : (p w q : ℕ) → word_at nodes p ≡ w + 1 → word_at after p ≡ q + 1 → (word_at nodes q ≡ w + 1) × (word_at before q ≡ p + 1)

-- the slots are linked, and nodes and slots have 32 bits
pub record AreWaiters (fields : Inside) : Type 0 where
  pub linked : AreLinked fields.heads.items fields.nodes.items fields.after.items fields.before.items
  pub afters : length fields.after.items ≡ length fields.nodes.items
  pub befores : length fields.before.items ≡ length fields.nodes.items
  pub few_nodes : length fields.heads.items < 4294967296
  pub few_places : length fields.nodes.items < 4294967296
