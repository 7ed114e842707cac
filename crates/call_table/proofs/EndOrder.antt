-- The ends of clauses in order are in order, since clauses of a file don't overlap.
use Rattle.std.specs.Prelude.{Contains}
use Rattle.std.proofs.Common.{◌≡◌, ◌⊎◌, inl, inr, ℕ, ◌<◌, ◌≤◌, zero, suc, List, [], ◌∷◌, All, Some, map, get_or, slice_get, refl, sym, ◌∙◌, subst, arith}
use Rattle.std.specs.List.{AllZip}
use Rattle.std.specs.Ordering.{ordering_then, nat_cmp}
use Rattle.std.specs.declared.cmp.Ordering.{Ordering}
use Rattle.std.specs.declared.cmp.Ordering.TheVariants.{Less, Equal, Greater}
use Rattle.std.proofs.lemmas.Cmp.{ranked}
use Rattle.std.proofs.lemmas.List.Elements.{All-map, Contains-get_or}
use Rattle.std.proofs.lemmas.Option.{none-some, same_Some}
use Rattle.list_laws.proofs.Members.{all_by}
use Rattle.prolog_tokens.specs.Places.{IsOffset}
use Rattle.prolog_terms.specs.Views.{start_of}
use Rattle.module_table.specs.Facts.{Facts}
use Rattle.file_library.specs.Loaded.{NamedText}
use Rattle.file_library.specs.Spots.{IsUpto, AreSpots, StandsInText}
use Rattle.import_rules.specs.ClauseEnds.{AllStandApart, IsClauseIn, StandApart}
use Rattle.import_rules.specs.Program.{Seen}
use Rattle.import_rules.proofs.Lists.{all_pairs_map}
use Rattle.call_table.specs.declared.clause_at.ClauseAt.{ClauseAt}
use Rattle.call_table.specs.Clauses.{AreClausesOf}
use Rattle.call_table.specs.Table.{clause_end}
use Rattle.call_table.proofs.ClauseLemmas.{IsFound, clause_found}
use Rattle.call_table.proofs.SpotOrder.{second_upto}

-- the text beside a file
beside : (texts : List NamedText) (files : List Facts) (k : ℕ) (file : Facts) → AllZip StandApart texts files → slice_get files k ≡ Some file
    → (text : NamedText) × (slice_get texts k ≡ Some text) × StandApart text file
beside [] [] k file all is = absurd (none-some file is)
beside [] (f ∷ files) k file all is = absurd all
beside (t ∷ texts) [] k file all is = absurd all
beside (t ∷ texts) (f ∷ files) zero file all is = (t, refl, subst (StandApart t) (same_Some f file is) all.0)
beside (t ∷ texts) (f ∷ files) (suc k) file all is = beside texts files k file all.1 is

module _ (seen : Seen) (apart : AllStandApart seen) where
  end_stands : (c : ClauseAt) → IsFound seen c → StandsInText seen.loaded.texts c.file c.end
  end_stands c found =
      let text = beside seen.loaded.texts seen.loaded.files c.file found.file apart found.at_place in
      record { text = text.0; is = text.1; stands = subst (IsOffset text.0.1) found.ends (text.2.stand found.clause found.own) }

  -- of two clauses of a file the one that starts first ends first
  ends_upto : (a b : ClauseAt) → IsFound seen a → IsFound seen b → a.file ≡ b.file → a.offset < b.offset → a.end ≤ b.end
  ends_upto a b first second same before =
      let files = seen.loaded.files in
      let text = beside seen.loaded.texts files a.file first.file apart first.at_place in
      let here : slice_get files a.file ≡ Some second.file = subst (λ k. slice_get files k ≡ Some second.file) (sym same) second.at_place in
      let one_file : second.file ≡ first.file = same_Some second.file first.file (sym here ∙ first.at_place) in
      let own : IsClauseIn first.file second.clause = subst (λ (f : Facts). IsClauseIn f second.clause) one_file second.own in
      let lower : start_of first.clause < start_of second.clause = omega (arith, first.starts, second.starts, before) in
      omega (arith, text.2.apart first.clause second.clause first.own own lower, text.2.forward second.clause own, first.ends, second.ends)

  end_order : (files offsets : Ordering) (a b m n e f : ℕ) (rest : Ordering) → files ≡ nat_cmp a b → offsets ≡ nat_cmp m n → (a ≡ b → m < n → e ≤ f)
      → ordering_then files (ordering_then offsets (ordering_then (nat_cmp e f) rest)) ≡ Less → (a < b) ⊎ ((a ≡ b) × (e ≤ f))
  end_order Less offsets a b m n e f rest is also upto less = inl (ranked a b Less is)
  end_order Equal Less a b m n e f rest is also upto less =
      let same : a ≡ b = ranked a b Equal is in
      inr (same, upto same (ranked m n Less also))
  end_order Equal Equal a b m n e f rest is also upto less = inr (ranked a b Equal is, second_upto (nat_cmp e f) e f rest refl less)
  end_order Equal Greater a b m n e f rest is also upto less = let both : Greater ≡ Less = less in absurd (cc)
  end_order Greater offsets a b m n e f rest is also upto less = let both : Greater ≡ Less = less in absurd (cc)

  found_each : (nodes : List ℕ) (clauses : List ClauseAt) → AreClausesOf seen nodes clauses → (c : ClauseAt) → Contains clauses c → IsFound seen c
  found_each nodes clauses are c has = let among = (are.each c).0 has in clause_found seen among.one c among.is

  pub ends_stand : (nodes : List ℕ) (clauses : List ClauseAt) → AreClausesOf seen nodes clauses
      → All (λ (c : ClauseAt). StandsInText seen.loaded.texts c.file c.end) clauses
  ends_stand nodes clauses are =
      all_by (λ (c : ClauseAt). StandsInText seen.loaded.texts c.file c.end) clauses (λ c has. end_stands c (found_each nodes clauses are c has))

  pub ends_are_spots : (nodes : List ℕ) (clauses : List ClauseAt) → AreClausesOf seen nodes clauses → AreSpots seen.loaded.texts (map clause_end clauses)
  ends_are_spots nodes clauses are = record {
    ordered = all_pairs_map IsUpto clause_end clauses
        (λ i j d before lt.
        let a = get_or clauses i d in
        let b = get_or clauses j d in
        let found = found_each nodes clauses are in
        end_order (nat_cmp a.file b.file) (nat_cmp a.offset b.offset) a.file b.file a.offset b.offset a.end b.end (nat_cmp a.node b.node) refl refl
        (ends_upto a b (found a (Contains-get_or clauses i d (omega (arith, before, lt)))) (found b (Contains-get_or clauses j d lt)))
        (are.ordered i j d before lt));
    stand = All-map (λ (s : ℕ × ℕ). StandsInText seen.loaded.texts s.0 s.1) clause_end clauses (ends_stand nodes clauses are);
  }
