use Rattle.std.proofs.Common.{◌≡◌, ◌≢◌, ◌-◌, [], Some, length, map, refl, sym, ap, ◌∙◌, arith}
use Rattle.std.specs.Prelude.{slice_get}
use Rattle.std.proofs.lemmas.List.{length-map, get_or_read, get_or_past}
use Rattle.std.proofs.lemmas.Option.{slice_get_within}
use Rattle.module_table.specs.Metas.{see_meta}
use Rattle.module_table.specs.Facts.{see_facts}
use Rattle.import_rules.proofs.MetaTold.{told_none, told_one, long_places, no_places, some_places, seen_at}
use Rattle.import_rules.proofs.program_tables.ProgramTables.meta_of.Goals as goal

pub returns-then-is_empty : goal.returns-then-is_empty
returns-then-is_empty c =
    let p = c.args.self.now in
    let short : length p.meta_places.items ≡ 0 = no_places _ p.meta_places.items c.is_empty.result c.is_empty.ensures c.if-is_empty.true p.meta_places.ok.0 in
    told_none p c.args.node (0, 0) c.requires (sym (get_or_past p.meta_places.items c.args.node (0, 0) (omega (arith, short)))) refl

pub index-requires : goal.index-requires
index-requires c =
    let p = c.args.self.now in
    let some : p.meta_places.items ≢ [] = some_places _ p.meta_places.items c.is_empty.result c.is_empty.ensures c.if-is_empty.false p.meta_places.ok.0 in
    omega (arith, long_places p some, c.requires, p.meta_places.ok.0)

pub returns-then-place-eq0 : goal.returns-then-place-eq0
returns-then-place-eq0 c =
    let p = c.args.self.now in
    let at = c.index.result.now in
    let some : p.meta_places.items ≢ [] = some_places _ p.meta_places.items c.is_empty.result c.is_empty.ensures c.if-is_empty.false p.meta_places.ok.0 in
    told_none p c.args.node at c.requires (get_or_read p.meta_places.items c.args.node at (omega (arith, long_places p some, c.requires)) c.index.ensures (0, 0)) c.if-place-eq0.true

pub index-requires-2 : goal.index-requires-2
index-requires-2 c =
    let p = c.args.self.now in
    let at = c.index.result.now in
    let some : p.meta_places.items ≢ [] = some_places _ p.meta_places.items c.is_empty.result c.is_empty.ensures c.if-is_empty.false p.meta_places.ok.0 in
    let is = told_one p c.args.node at c.requires (get_or_read p.meta_places.items c.args.node at (omega (arith, long_places p some, c.requires)) c.index.ensures (0, 0)) c.if-place-eq0.false in
    omega (arith, slice_get_within (map see_facts p.loaded.files.items) at.0 is.file is.at_place, length-map p.loaded.files.items see_facts, p.loaded.files.ok.0)

pub index-requires-3 : goal.index-requires-3
index-requires-3 c =
    let p = c.args.self.now in
    let at = c.index.result.now in
    let some : p.meta_places.items ≢ [] = some_places _ p.meta_places.items c.is_empty.result c.is_empty.ensures c.if-is_empty.false p.meta_places.ok.0 in
    let is = told_one p c.args.node at c.requires (get_or_read p.meta_places.items c.args.node at (omega (arith, long_places p some, c.requires)) c.index.ensures (0, 0)) c.if-place-eq0.false in
    let file = c.index-2.result.now in
    let same : see_facts file ≡ is.file = seen_at see_facts p.loaded.files.items at.0 file is.file c.index-2.ensures is.at_place in
    omega (arith, slice_get_within is.file.metas (at.1 - 1) is.declaration is.at_meta, ap (λ f. length f.metas) same, length-map file.metas.items see_meta, file.metas.ok.0)

pub returns : goal.returns
returns c =
    let p = c.args.self.now in
    let at = c.index.result.now in
    let some : p.meta_places.items ≢ [] = some_places _ p.meta_places.items c.is_empty.result c.is_empty.ensures c.if-is_empty.false p.meta_places.ok.0 in
    let is = told_one p c.args.node at c.requires (get_or_read p.meta_places.items c.args.node at (omega (arith, long_places p some, c.requires)) c.index.ensures (0, 0)) c.if-place-eq0.false in
    let file = c.index-2.result.now in
    let meta = c.index-3.result.now in
    let same : see_facts file ≡ is.file = seen_at see_facts p.loaded.files.items at.0 file is.file c.index-2.ensures is.at_place in
    let there : slice_get (map see_meta file.metas.items) (at.1 - 1) ≡ Some is.declaration = ap (λ f. slice_get f.metas (at.1 - 1)) same ∙ is.at_meta in
    let own : see_meta meta ≡ is.declaration = seen_at see_meta file.metas.items (at.1 - 1) meta is.declaration c.index-3.ensures there in
    c.deref.ensures.value ∙ (ap (λ d. d.args) own ∙ is.is)
