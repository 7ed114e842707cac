-- A map of operators, read by the bytes of its names.
use Rattle.std.proofs.Common.{ℕ, ◌≡◌, List, [], ◌∷◌, Option, Some, cond, refl, ap, sym, ◌∙◌}
use Rattle.std.proofs.Math.Path.{fun_ext}
use Rattle.std.proofs.lemmas.Map.Text.{hash_map_updates_text}
use Rattle.std.specs.HashMap.{HashMap, UpdatesBy}
use Rattle.std.specs.Map.{lookup}
use Rattle.std.specs.Str.{bytes_eq}
use Rattle.std.specs.String.{string_bytes, string_eq}
use Rattle.std.specs.declared.alloc.Global.{Global}
use Rattle.std.specs.declared.string.String.{String}
use Rattle.prolog_ops.specs.declared.op.Op.{Op}
use Rattle.prolog_ops.specs.ByName.{Entries, op_at, with_op, entries_of}

-- a look-up by the bytes of a name
pub op_at-entries : (ops : List (String Global × Op)) (name : List ℕ) → op_at (entries_of ops) name ≡ lookup (λ k. bytes_eq name (string_bytes k)) ops
op_at-entries [] name = refl
op_at-entries (e ∷ ops) name = ap (λ rest. cond (bytes_eq name (string_bytes e.0)) (Some e.1) rest) (op_at-entries ops name)

-- a change at one name of the map is that change of its operators
pub op_at-updates : {S : Type 0} (m n : HashMap (String Global) Op S) (name : List ℕ) (op : Option Op)
    → UpdatesBy string_eq (λ k. bytes_eq name (string_bytes k)) m n op
    → (old : Entries) → entries_of m.entries ≡ old
    → op_at (entries_of n.entries) ≡ with_op (op_at old) name op
op_at-updates m n name op updates old is =
    fun_ext (λ other. op_at-entries n.entries other ∙ hash_map_updates_text name m n op updates other
    ∙ ap (λ was. cond (bytes_eq name other) op was) (sym (op_at-entries m.entries other) ∙ ap (λ entries. op_at entries other) is))
