-- No predicate of a program declares that more than nine arguments are added to a goal.
use Rattle.std.proofs.Common.{ℕ, List, [], ◌∷◌, Option, Some, None, All, filter, subst}
use Rattle.std.specs.Prelude.{Contains, slice_get}
use Rattle.std.specs.List.{enumerate_from}
use Rattle.std.proofs.lemmas.List.Elements.{All-nil, All-contains}
use Rattle.list_laws.proofs.Members.{stands_in}
use Rattle.list_laws.proofs.OneOrder.{in_first}
use Rattle.module_table.specs.Metas.{Declaration, IsSmall}
use Rattle.module_table.specs.Facts.{Facts}
use Rattle.module_table.specs.Kinds.{first_of}
use Rattle.import_rules.specs.declared.names.PredName.{PredName}
use Rattle.import_rules.specs.Metas.{MetaAt, meta_at, metas_of_file, metas_in, is_for, args_of, args_for}
use Rattle.import_rules.specs.Program.{Seen, IsKnown, args_at, meta_in, meta_of_found, meta_meant, found}
use Rattle.call_edges.proofs.AmongLemmas.{map_has, flat_has, filter_has}
use Rattle.call_edges.proofs.PlaceLemmas.{enumerated}
use Rattle.call_edges.proofs.ReadLemmas.{read_has}

-- each declaration is one of a file
meta_small : (seen : Seen) → IsKnown seen → (m : MetaAt) → Contains (metas_in seen.loaded.files) m → All IsSmall m.declaration.args
meta_small seen known m has =
    let files = seen.loaded.files in
    let of_file = (flat_has (λ (at : ℕ × Facts). metas_of_file at.0 at.1) (enumerate_from 0 files) m).0 has in
    let file = of_file.one.1 in
    let of_meta = (map_has (meta_at of_file.one.0) (enumerate_from 0 file.metas) m).0 of_file.is in
    let small : All (λ (d : Declaration). All IsSmall d.args) file.metas =
    read_has (λ (f : Facts). All (λ (d : Declaration). All IsSmall d.args) f.metas) seen.loaded.texts files known.read (λ text f read. read.small_metas) file
    (stands_in files of_file.one.0 file (enumerated files of_file.one of_file.has)) in
    let own : All IsSmall of_meta.one.1.args =
    All-contains (λ (d : Declaration). All IsSmall d.args) file.metas of_meta.one.1 small (stands_in file.metas of_meta.one.0 of_meta.one.1 (enumerated file.metas of_meta.one of_meta.has)) in
    subst (λ (x : MetaAt). All IsSmall x.declaration.args) of_meta.is own

first_small : (metas : List MetaAt) → ((m : MetaAt) → Contains metas m → All IsSmall m.declaration.args) → All IsSmall (args_of (first_of metas))
first_small [] each = All-nil IsSmall
first_small (m ∷ metas) each = each m (in_first m metas)

args_small : (seen : Seen) → IsKnown seen → (p : PredName) → All IsSmall (args_for seen.loaded.files p)
args_small seen known p =
    let metas = metas_in seen.loaded.files in
    first_small (filter (is_for p) metas) (λ m has. meta_small seen known m ((filter_has (is_for p) metas m).0 has).0)

at_small : (seen : Seen) → IsKnown seen → (o : Option PredName) → All IsSmall (args_at seen.loaded.files o)
at_small seen known (Some p) = args_small seen known p
at_small seen known None = All-nil IsSmall

in_small : (seen : Seen) → IsKnown seen → (node : ℕ) → All IsSmall (meta_in seen node)
unfolding meta_in
in_small seen known node = at_small seen known (slice_get seen.predicates node)

found_small : (seen : Seen) → IsKnown seen → (o : Option ℕ) → All IsSmall (meta_of_found seen o)
found_small seen known (Some node) = in_small seen known node
found_small seen known None = All-nil IsSmall

pub meant_small : (seen : Seen) → IsKnown seen → (owner name : List ℕ) (arity : ℕ) → All IsSmall (meta_meant seen owner name arity)
meant_small seen known owner name arity = found_small seen known (found seen owner name arity)
