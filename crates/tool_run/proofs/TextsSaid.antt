-- Texts that a sink takes one after another.
use Rattle.std.proofs.Common.{◌≡◌, ℕ, ◌+◌, ◌<◌, ◌≤◌, List, ◌++◌, Option, Vec, Global, length, take, drop, get_or, ap, sym, ◌∙◌, append_assoc, inl, inr, arith}
use Rattle.std.proofs.Math.Seq.{take-append-add}
use Rattle.std.proofs.lemmas.Bool.{cases_lt}
use Rattle.std.proofs.lemmas.Grind.{flat_map-append}
use Rattle.std.proofs.lemmas.List.{take-append-drop, take-append-le, take_all}
use Rattle.import_rules.proofs.Lists.{flat_map_next}
use Rattle.tool_run.specs.Say.{TookPart, concatenated}
use Rattle.tool_run.specs.Sink.{SinkSeen, more_taken}
use Rattle.tool_run.proofs.Said.{more_twice, rose_after}

abbrev bytes_of : Vec ℕ Global → List ℕ
bytes_of text = text.items

-- the first of some bytes are first among more
front_of : (n : ℕ) (bytes rest : List ℕ) → (m : ℕ) × (take m (bytes ++ rest) ≡ take n bytes)
front_of n bytes rest = elim (cases_lt n (length bytes)) [
  | inl below ↦ (n, take-append-le n bytes rest (omega (arith, below)))
  | inr past ↦ (length bytes, take-append-le (length bytes) bytes rest (omega arith) ∙ (take_all (length bytes) bytes (omega arith) ∙ sym (take_all n bytes past)))
]

module _ (texts : List (Vec ℕ Global)) (i : ℕ) (text : Vec ℕ Global) (lt : i < length texts) (is : text ≡ get_or texts i text) where
  text_more : concatenated (take (i + 1) texts) ≡ concatenated (take i texts) ++ text.items
  text_more = flat_map_next bytes_of texts i text lt is

  -- one text more
  pub put_more : (taken mid new : Option (List ℕ)) → mid ≡ more_taken taken (concatenated (take i texts)) → new ≡ more_taken mid text.items
      → new ≡ more_taken taken (concatenated (take (i + 1) texts))
  put_more taken mid new so_far put =
      put
      ∙ (ap (λ t. more_taken t text.items) so_far
      ∙ (more_twice taken (concatenated (take i texts)) text.items ∙ ap (more_taken taken) (sym text_more)))

  whole : concatenated texts ≡ concatenated (take i texts) ++ (text.items ++ concatenated (drop (i + 1) texts))
  whole =
      ap concatenated (sym (take-append-drop (i + 1) texts))
      ∙ (flat_map-append bytes_of (take (i + 1) texts) (drop (i + 1) texts)
      ∙ (ap (λ l. l ++ concatenated (drop (i + 1) texts)) text_more ∙ append_assoc (concatenated (take i texts)) text.items (concatenated (drop (i + 1) texts))))

  -- a part of one text is a part of all
  pub part_more : (before mid after : SinkSeen) → mid.taken ≡ more_taken before.taken (concatenated (take i texts)) → before.faults ≤ mid.faults → mid.faults ≤ after.faults
      → TookPart text.items mid after → TookPart (concatenated texts) before after
  part_more before mid after so_far first second part =
      let front = front_of part.count text.items (concatenated (drop (i + 1) texts)) in
      let done : List ℕ = concatenated (take i texts) in
      let taken : take (length done + front.0) (concatenated texts) ≡ done ++ take part.count text.items =
      ap (take (length done + front.0)) whole
      ∙ (take-append-add done (text.items ++ concatenated (drop (i + 1) texts)) front.0 ∙ ap (λ l. done ++ l) front.1) in
      record {
        count = length done + front.0;
        is =
            part.is
            ∙ (ap (λ t. more_taken t (take part.count text.items)) so_far
            ∙ (more_twice before.taken done (take part.count text.items) ∙ ap (more_taken before.taken) (sym taken)));
        rose = rose_after before.faults mid.faults after.faults first second part.rose;
      }
