use Rattle.std.proofs.Common.{rules, ◌≡◌, ◌∙◌, List, All, sym, subst}
use Rattle.std.specs.List.{AllZip}
use Rattle.std.proofs.lemmas.List.Sorted.{answers_always, ranks_by, All-permutation, IsPermutation-map}
use Rattle.file_library.specs.Spots.{AreSpots, IsSpotPlace, texts_of}
use Rattle.import_rules.specs.declared.finding.Finding.{Finding}
use Rattle.import_rules.specs.Findings.{see_finding, see_findings}
use Rattle.import_rules.specs.Flaws.{flaw_cmp, IsFaultOf}
use Rattle.import_rules.specs.PlacedFlaws.{StandsIn, IsSpotOf, faults_at}
use Rattle.import_rules.proofs.FlawSpots.{flaw_cmp_total, seen_sorted, are_spots, are_placed}
use Rattle.import_rules.proofs.Runs.{comes_before}
use Rattle.import_rules.proofs.placed.faults_with_places.Goals as goal

pub spots_of-requires-clause-stand : goal.spots_of-requires-clause-stand
spots_of-requires-clause-stand c =
    let texts = texts_of c.args.texts.now in
    let sorted = c.sort_by.new.self.items in
    subst (λ (fs : List Finding). All (StandsIn texts) (see_findings fs)) (sym c.deref.ensures.value)
    (All-permutation (StandsIn texts) (see_findings c.args.flaws.items) (see_findings sorted)
    (IsPermutation-map see_finding c.args.flaws.items sorted c.in_ok-sort_by.ensures.permutation) c.requires.stand)

pub places_of_spots-requires-clause-spots : goal.places_of_spots-requires-clause-spots
places_of_spots-requires-clause-spots c =
    let texts = texts_of c.args.texts.now in
    let sorted = c.sort_by.new.self.items in
    let up = c.in_ok-sort_by.ensures.sorted (comes_before flaw_cmp see_finding) (ranks_by flaw_cmp_total see_finding) (answers_always _ _ _ (λ f a r g called. search rules)) in
    let stand =
    All-permutation (StandsIn texts) (see_findings c.args.flaws.items) (see_findings sorted)
    (IsPermutation-map see_finding c.args.flaws.items sorted c.in_ok-sort_by.ensures.permutation) c.requires.stand in
    let zip = subst (λ (fs : List Finding). AllZip (IsSpotOf texts) (see_findings fs) c.in_ok-spots.spots.items) c.deref.ensures.value c.in_ok-spots.ensures in
    subst (AreSpots texts) (sym c.deref-2.ensures.value)
    (are_spots texts (see_findings sorted) c.in_ok-spots.spots.items c.requires.texts.ordered stand (seen_sorted sorted up) zip)

pub returns : goal.returns
returns c =
    let texts = texts_of c.args.texts.now in
    let sorted = c.sort_by.new.self.items in
    let up = c.in_ok-sort_by.ensures.sorted (comes_before flaw_cmp see_finding) (ranks_by flaw_cmp_total see_finding) (answers_always _ _ _ (λ f a r g called. search rules)) in
    let zip = subst (λ (fs : List Finding). AllZip (IsSpotOf texts) (see_findings fs) c.in_ok-spots.spots.items) c.deref.ensures.value c.in_ok-spots.ensures in
    let stand = subst (λ spots. AllZip (IsSpotPlace texts) spots c.in_ok-places.places.items) c.deref-2.ensures.value c.in_ok-places.ensures in
    let are : c.in_ok-faults.faults.items ≡ faults_at (see_findings sorted) c.in_ok-places.places.items =
    c.in_ok-faults.ensures ∙ (λ i. faults_at (see_findings (c.deref-3.ensures.value i)) (c.deref-4.ensures.value i)) in
    record {
      sorted = see_findings sorted;
      moved = IsPermutation-map see_finding c.args.flaws.items sorted c.in_ok-sort_by.ensures.permutation;
      in_order = seen_sorted sorted up;
      placed = subst (AllZip (IsFaultOf texts) (see_findings sorted)) (sym are)
          (are_placed texts (see_findings sorted) c.in_ok-spots.spots.items c.in_ok-places.places.items zip stand);
    }
