-- Words are lawful, and set options, or they are not.
use Rattle.std.proofs.Common.{◌≡◌, ◌⊎◌, inl, inr, ℕ, List, Option, Some, All, is_some, refl}
use Rattle.std.specs.Str.{IsUtf8}
use Rattle.group_words.specs.Words.{Key, Jobs, Searches, Seed, Roots, Path, Order, Unreached, Effects, Loops, Stream, Make}
use Rattle.group_words.specs.Settings.{AreLawful, AreSettings, FilesAre, GoTogether, JobsAre, MakeIs, PathIs, RootsAre, SearchesAre}
use Rattle.group_words.proofs.OneSettings.{settings_moved}
use Rattle.laws.proofs.Known.{IsFound, IsKnown}
use Rattle.laws.proofs.Numbers.{jobs_found, make_found, searches_found}
use Rattle.laws.proofs.Lists.{AreClauses, AreTokens, files_found, path_found, roots_found}
use Rattle.laws.proofs.Together.{known_together}
use Rattle.laws.proofs.Utf8Values.{given_utf8}
use Rattle.laws.proofs.ReadWords.{HasNone, HasReading, words_read}

module _ (tokens : AreTokens) (clauses : AreClauses) where
  settings_found : (given : Key → Option (List ℕ)) (files : List (List ℕ)) → ((key : Key) (text : List ℕ) → given key ≡ Some text → IsUtf8 text) → IsFound (AreSettings given files)
  settings_found given files utf8 =
      go (known_together given files) (jobs_found (given Jobs)) (searches_found (given Searches) (given Seed)) (roots_found tokens clauses (given Roots) (utf8 Roots))
      (path_found tokens clauses (given Path) (utf8 Path)) (make_found (given Make)) (files_found files)
    where
      go : IsKnown (GoTogether given files) → IsFound (JobsAre (given Jobs)) → IsFound (SearchesAre (given Searches) (given Seed)) → IsFound (RootsAre (given Roots))
          → IsFound (PathIs (given Path)) → IsFound (MakeIs (given Make)) → IsFound (FilesAre files) → IsFound (AreSettings given files)
      go (inr never) jobs searches roots path make named = inr (λ s sets. never sets.together)
      go (inl together) (inr never) searches roots path make named = inr (λ s sets. never s.jobs sets.jobs)
      go (inl together) (inl jobs) (inr never) roots path make named = inr (λ s sets. never s.searches sets.searches)
      go (inl together) (inl jobs) (inl searches) (inr never) path make named = inr (λ s sets. never s.roots sets.roots)
      go (inl together) (inl jobs) (inl searches) (inl roots) (inr never) make named = inr (λ s sets. never s.path sets.path)
      go (inl together) (inl jobs) (inl searches) (inl roots) (inl path) (inr never) named = inr (λ s sets. never s.make sets.make)
      go (inl together) (inl jobs) (inl searches) (inl roots) (inl path) (inl make) (inr never) = inr (λ s sets. never s.files sets.named)
      go (inl together) (inl jobs) (inl searches) (inl roots) (inl path) (inl make) (inl named) = inl (
        record {
          jobs = jobs.0;
          searches = searches.0;
          roots = roots.0;
          order = is_some (given Order);
          unreached = is_some (given Unreached);
          effects = is_some (given Effects);
          loops = is_some (given Loops);
          stream = is_some (given Stream);
          path = path.0;
          make = make.0;
          files = named.0;
        },
        record {
          together = together;
          jobs = jobs.1;
          searches = searches.1;
          roots = roots.1;
          order = refl;
          unreached = refl;
          effects = refl;
          loops = refl;
          stream = refl;
          path = path.1;
          make = make.1;
          named = named.1;
        },
      )

  pub lawful_found : (words : List (List ℕ)) → All IsUtf8 words → IsFound (AreLawful words)
  lawful_found words utf8 = by_reading (words_read words utf8)
    where
      by_settings : (r : HasReading words) → IsFound (AreSettings r.given r.files) → IsFound (AreLawful words)
      by_settings r (inl found) = inl (found.0, record { given = r.given; files = r.files; reading = r.reading; sets = found.1 })
      by_settings r (inr never) =
          inr (λ s lawful. never s (settings_moved words lawful.given r.given lawful.files r.files lawful.reading r.reading s lawful.sets))

      by_reading : HasReading words ⊎ HasNone words → IsFound (AreLawful words)
      by_reading (inl r) = by_settings r (settings_found r.given r.files (given_utf8 words utf8 r.given r.files r.reading))
      by_reading (inr never) = inr (λ s lawful. never lawful.given lawful.files lawful.reading)
