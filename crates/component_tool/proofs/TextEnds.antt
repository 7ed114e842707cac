-- What is right to say of what a source handed over.
use Rattle.std.proofs.Common.{◌≡◌, ℕ, ◌+◌, ◌<◌, ◌≤◌, List, Some, length, take, ap, sym, subst, ◌∙◌, refl, inl, inr, arith, length-take}
use Rattle.std.proofs.lemmas.List.{take_all}
use Rattle.edge_text.specs.declared.limits.TheConstants.{MOST_BYTES}
use Rattle.component_words.specs.Settings.{Settings}
use Rattle.component_tool.specs.declared.source.SourceRead.TheVariants.{Found}
use Rattle.component_tool.specs.End.{End, too_large}
use Rattle.component_tool.specs.Run.{IsAnswered, IsReadEnd, IsTextEnd}
use Rattle.component_tool.specs.Source.{SourceSeen, GivenIs, SourceReadIs}

-- a text that isn't longer than the limit is read whole
read_whole : (bytes room : List ℕ) (limit : ℕ) → room ≡ take (limit + 1) bytes → length room ≤ limit → room ≡ bytes
read_whole bytes room limit is within =
    let few : length bytes ≤ limit + 1 = omega (arith, within, ap (λ (xs : List ℕ). length xs) is, length-take (limit + 1) bytes) in
    is ∙ take_all (limit + 1) bytes few

-- and one that is longer is seen to be
is_longer : (bytes room : List ℕ) (limit : ℕ) → room ≡ take (limit + 1) bytes → limit < length room → limit < length bytes
is_longer bytes room limit is past = omega (arith, past, ap (λ (xs : List ℕ). length xs) is, length-take (limit + 1) bytes)

pub read_large : (settings : Settings) (before after : SourceSeen) (room : List ℕ) → SourceReadIs before settings.file room Found
    → GivenIs before after settings.file room Found → MOST_BYTES < length room → IsReadEnd settings (before, after) (too_large settings.file)
read_large settings before after room read given past = record {
  text = Some room;
  given = given;
  right = inl (record { large = past; is = refl });
  told_too =
      λ files told.
      let found = read.1 files told in
      subst (λ text. IsTextEnd settings text (too_large settings.file)) (sym found.has)
      (inl (record { large = is_longer found.bytes room MOST_BYTES found.is past; is = refl }));
}

pub read_answered : (settings : Settings) (before after : SourceSeen) (room : List ℕ) (end : End) → SourceReadIs before settings.file room Found
    → GivenIs before after settings.file room Found → length room ≤ MOST_BYTES → IsAnswered settings room end
    → IsReadEnd settings (before, after) end
read_answered settings before after room end read given within answered = record {
  text = Some room;
  given = given;
  right = inr answered;
  told_too =
      λ files told.
      let found = read.1 files told in
      subst (λ text. IsTextEnd settings text end) (sym found.has)
      (inr
      (subst (λ text. IsAnswered settings text end) (read_whole found.bytes room MOST_BYTES found.is within) answered));
}
