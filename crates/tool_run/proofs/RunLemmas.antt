-- What the ways in which a run ends say.
use Rattle.std.proofs.Common.{◌≡◌, ◌≢◌, ℕ, ◌⊎◌, List, [], ◌∷◌, ◌++◌, Option, Some, None, ap, sym, subst, ◌∙◌, refl, inl, inr, append-nil, append_assoc, arith}
use Rattle.file_library.specs.Counts.{Rose}
use Rattle.file_library.specs.Library.{Files, map_of, LibrarySeen}
use Rattle.file_library.specs.Asking.{LoadEnd, loaded, too_many, too_large, too_much, IsDecided}
use Rattle.file_library.specs.Asking as of_load
use Rattle.tool_run.specs.Answer.{LoadEndComesTo, IsLawfulAnswer, IsAnswer}
use Rattle.tool_run.specs.Asking.{Asking, EndsAsking, EndsReading}
use Rattle.tool_run.specs.End.{End, usage, faults, missing, unread, limit, output, no_memory, status_of, out_of, err_of}
use Rattle.tool_run.specs.Run.{IsLawfulEnd, EndIs, EndsBy, CutBy, Taking, TookNone, IsRun}
use Rattle.tool_run.specs.Statuses.{IsStatus, SaysAnswer, SaysHandedOver, SaysNoMemory, IsUnread, HasTold, HasUsage, HasNoRoot, HasFaults, HasPassed, HasUnread, IsCutOff, IsSettled}
use Rattle.tool_run.specs.Tool.{Tool}
use Rattle.tool_run.specs.Wanted.{AskForNone, IsNothingAsked}
use Rattle.tool_run.proofs.EndLemmas.{lawful_left}
use Rattle.tool_run.proofs.Reading.{reads_handed}
use Rattle.tool_run.proofs.Writing.{TookBoth, err_said, more_none, out_said, settled_all, settled_err}

module _ (name line : List ℕ) where
  -- what both sinks have taken where the run was not cut off
  abbrev pub IsSaid : ℕ → Taking → Taking → End → Type 0
  IsSaid result out err end = TookBoth (status_of end) (out_of end) (err_of name line end) result out err

  -- the run was cut off: a sink failed
  abbrev IsCut : ℕ → Taking → Taking → End → Type 0
  IsCut result out err end = (result ≡ 5) × CutBy name line out err end × (Rose err.0.faults err.1.faults ⊎ Rose out.0.faults out.1.faults)

  -- a run is said, or cut off
  pub said_or_cut : (result : ℕ) (out err : Taking) (end : End) → EndsBy name line result out err end → IsSaid result out err end ⊎ IsCut result out err end
  said_or_cut result out err usage written = elim (err_said (err_of name line usage) (status_of usage) result out err written) [
    | inl said ↦ inl said
    | inr part ↦ inr (part.is_five, (part.part, part.nothing), inl part.part.rose)
  ]
  said_or_cut result out err (faults list) written = elim (err_said (err_of name line (faults list)) (status_of (faults list)) result out err written) [
    | inl said ↦ inl said
    | inr part ↦ inr (part.is_five, (part.part, part.nothing), inl part.part.rose)
  ]
  said_or_cut result out err (missing root) written = elim (err_said (err_of name line (missing root)) (status_of (missing root)) result out err written) [
    | inl said ↦ inl said
    | inr part ↦ inr (part.is_five, (part.part, part.nothing), inl part.part.rose)
  ]
  said_or_cut result out err (unread file) written = elim (err_said (err_of name line (unread file)) (status_of (unread file)) result out err written) [
    | inl said ↦ inl said
    | inr part ↦ inr (part.is_five, (part.part, part.nothing), inl part.part.rose)
  ]
  said_or_cut result out err (limit passed) written = elim (err_said (err_of name line (limit passed)) (status_of (limit passed)) result out err written) [
    | inl said ↦ inl said
    | inr part ↦ inr (part.is_five, (part.part, part.nothing), inl part.part.rose)
  ]
  said_or_cut result out err (output bytes) written = elim (out_said bytes 0 result out err written) [
    | inl said ↦ inl said
    | inr part ↦ inr (part.is_five, (part.part, part.nothing), inr part.part.rose)
  ]
  said_or_cut result out err no_memory written = elim (err_said (err_of name line no_memory) (status_of no_memory) result out err written) [
    | inl said ↦ inl said
    | inr part ↦ inr (part.is_five, (part.part, part.nothing), inl part.part.rose)
  ]

  pub is_said : (result : ℕ) (out err : Taking) (end : End) → EndsBy name line result out err end → result ≢ 5 → IsSaid result out err end
  is_said result out err end written whole = elim (said_or_cut result out err end written) [ inl said ↦ said | inr cut ↦ absurd (whole cut.0) ]

abbrev IsUnreadEnd : LoadEnd → Type 0
IsUnreadEnd (of_load.unread name) = Unit {0}
IsUnreadEnd _ = ⊥

-- only a read of the library fails
asked_unread : (make : Option ℕ) (names : List (List ℕ)) (library : Asking) (name : List ℕ) → EndsReading make names library (of_load.unread name)
    → EndsAsking library names (of_load.unread name)
asked_unread None names library name reading = reading
asked_unread (Some count) names library name reading = elim reading.1 [ inl none ↦ absurd (subst IsUnreadEnd none tt) | inr made ↦ absurd made.decided ]

module _ {A : Type 0} (tool : Tool A) where
  -- which end of the asking comes to an end of the run

  -- what is told, faults, a root that is missing and a passed limit are decided by the map
  comes_decided : (asked : A) (load : LoadEnd) (end : End) → LoadEndComesTo tool asked load end → ((name : List ℕ) → end ≢ unread name) → end ≢ no_memory → IsDecided load
  comes_decided asked (loaded found) end comes not_unread not_wanting = tt
  comes_decided asked (of_load.faults found) end comes not_unread not_wanting = tt
  comes_decided asked (of_load.unread name) end comes not_unread not_wanting = not_unread name comes
  comes_decided asked too_many end comes not_unread not_wanting = tt
  comes_decided asked (too_large name) end comes not_unread not_wanting = tt
  comes_decided asked too_much end comes not_unread not_wanting = tt
  comes_decided asked of_load.no_memory end comes not_unread not_wanting = not_wanting comes

  unread_load : (asked : A) (load : LoadEnd) (name : List ℕ) → LoadEndComesTo tool asked load (unread name) → load ≡ of_load.unread name
  unread_load asked (loaded found) name comes = absurd comes
  unread_load asked (of_load.faults found) name comes = cc
  unread_load asked (of_load.unread other) name comes = cc
  unread_load asked too_many name comes = cc
  unread_load asked (too_large other) name comes = cc
  unread_load asked too_much name comes = cc
  unread_load asked of_load.no_memory name comes = cc

  -- a name that could not be read is the last one, and that was counted
  unread_last : (wanted : A → Type 0) (library : Asking) (name : List ℕ) → IsLawfulEnd tool wanted library (unread name) → IsUnread wanted library name
  unread_last wanted library name is =
      let reading : EndsReading (tool.make is.asked) (tool.files is.asked) library (of_load.unread name) =
      subst (λ load. EndsReading (tool.make is.asked) (tool.files is.asked) library load) (unread_load is.asked is.load name is.comes) is.reading in
      let asking = asked_unread (tool.make is.asked) (tool.files is.asked) library name reading in
      record {
        asked = is.asked;
        lawful = is.lawful;
        before = library.0.asked ++ asking.ended.is.before;
        last =
            asking.ended.put
            ∙ (ap (λ names. library.0.asked ++ names) asking.ended.is.is ∙ sym (append_assoc library.0.asked asking.ended.is.before (name ∷ [])));
        rose = asking.counted;
      }

  module _ (wanted : A → Type 0) (library : Asking) where
    -- over the library's map the end is the answer
    right : (files : Files) → library.0.told ≡ Some files → (Rose library.0.faults library.1.faults → ⊥) → (end : End) → end ≢ no_memory → EndIs tool wanted library end → IsAnswer tool wanted files end
    right files tells quiet usage some cause = cause.0
    right files tells quiet (faults found) some cause =
        cause.told_too files tells (comes_decided cause.asked cause.load (faults found) cause.comes (λ name e. cc) (λ e. cc))
    right files tells quiet (missing root) some cause =
        cause.told_too files tells (comes_decided cause.asked cause.load (missing root) cause.comes (λ name e. cc) (λ e. cc))
    right files tells quiet (unread name) some cause = absurd (quiet (unread_last wanted library name cause).rose)
    right files tells quiet (limit passed) some cause =
        cause.told_too files tells (comes_decided cause.asked cause.load (limit passed) cause.comes (λ name e. cc) (λ e. cc))
    right files tells quiet (output bytes) some cause =
        cause.told_too files tells (comes_decided cause.asked cause.load (output bytes) cause.comes (λ name e. cc) (λ e. cc))
    right files tells quiet no_memory some cause = absurd (some refl)

    wanting_or : (end : End) → (end ≡ no_memory) ⊎ (end ≢ no_memory)
    wanting_or usage = inr (λ e. cc)
    wanting_or (faults found) = inr (λ e. cc)
    wanting_or (missing root) = inr (λ e. cc)
    wanting_or (unread name) = inr (λ e. cc)
    wanting_or (limit passed) = inr (λ e. cc)
    wanting_or (output bytes) = inr (λ e. cc)
    wanting_or no_memory = inl refl

    module _ (out err : Taking) (result : ℕ) (run : IsRun tool wanted library out err result) where
      pub answered : (files : Files) → library.0.told ≡ Some files → (Rose library.0.faults library.1.faults → ⊥) → (Rose out.0.faults out.1.faults → ⊥) → (Rose err.0.faults err.1.faults → ⊥)
          → SaysAnswer tool wanted files out err result ⊎ SaysNoMemory tool.name out err result
      answered files tells read_quiet out_quiet err_quiet = elim (said_or_cut tool.name tool.usage result out err run.end run.written) [
        | inl said ↦
            elim (wanting_or run.end) [
              | inl none ↦ inr (no_memory_of (subst (λ end. IsSaid tool.name tool.usage result out err end) none said))
              | inr some ↦
                  inl (record {
                    answer = run.end;
                    is_right = right files tells read_quiet run.end some run.cause;
                    status = said.status;
                    on_out = said.on_out;
                    on_err = said.on_err;
                  })
            ]
        | inr cut ↦ elim cut.2 [ inl rose ↦ absurd (err_quiet rose) | inr rose ↦ absurd (out_quiet rose) ]
      ]
        where
          no_memory_of : IsSaid tool.name tool.usage result out err no_memory → SaysNoMemory tool.name out err result
          no_memory_of said = record { status = said.status; on_out = said.on_out ∙ more_none out.0.taken; on_err = said.on_err }

      -- no status but its own

      apart : {X : Type 0} (m n : ℕ) → result ≡ m → result ≡ n → (m ≡ n → ⊥) → X
      apart {X} m n here there differ = absurd (differ (sym here ∙ there))

      -- what was said is the answer over the files that were handed over

      handed_lawful : (end : End) (cause : IsLawfulEnd tool wanted library end) → IsDecided cause.load → ((files : Files) → IsLawfulAnswer tool wanted files end → IsAnswer tool wanted files end)
          → IsSaid tool.name tool.usage result out err end → SaysHandedOver tool wanted library out err result
      handed_lawful end cause decided is_answer said =
          let handed = reads_handed (tool.make cause.asked) (tool.files cause.asked) library cause.load cause.reading decided in
          record {
            answers = handed.0;
            given = handed.1.0;
            says = record {
              answer = end;
              is_right = is_answer (map_of handed.0) (record {
                asked = cause.asked;
                lawful = cause.lawful;
                names = handed.1.1.0;
                load = cause.load;
                decided = decided;
                ends = handed.1.1.1;
                comes = cause.comes;
              });
              status = said.status;
              on_out = said.on_out;
              on_err = said.on_err;
            };
          }

      handed_by : result ≢ 4 → result ≢ 7 → (end : End) → EndIs tool wanted library end → IsSaid tool.name tool.usage result out err end → SaysHandedOver tool wanted library out err result
      handed_by read memory usage cause said = record {
        answers = [];
        given = ap (λ (seen : LibrarySeen). seen.answers) cause.1 ∙ sym (append-nil library.0.answers);
        says = record { answer = usage; is_right = cause.0; status = said.status; on_out = said.on_out; on_err = said.on_err };
      }
      handed_by read memory (faults found) cause said =
          handed_lawful (faults found) cause (comes_decided cause.asked cause.load (faults found) cause.comes (λ name e. cc) (λ e. cc)) (λ files is. is) said
      handed_by read memory (missing root) cause said =
          handed_lawful (missing root) cause (comes_decided cause.asked cause.load (missing root) cause.comes (λ name e. cc) (λ e. cc)) (λ files is. is) said
      handed_by read memory (unread name) cause said = absurd (read said.status)
      handed_by read memory (limit passed) cause said =
          handed_lawful (limit passed) cause (comes_decided cause.asked cause.load (limit passed) cause.comes (λ name e. cc) (λ e. cc)) (λ files is. is) said
      handed_by read memory (output bytes) cause said =
          handed_lawful (output bytes) cause (comes_decided cause.asked cause.load (output bytes) cause.comes (λ name e. cc) (λ e. cc)) (λ files is. is) said
      handed_by read memory no_memory cause said = absurd (memory said.status)

      pub handed_over : result ≢ 4 → result ≢ 5 → result ≢ 7 → SaysHandedOver tool wanted library out err result
      handed_over read sink memory = handed_by read memory run.end run.cause (is_said tool.name tool.usage result out err run.end run.written sink)

      told_by : result ≡ 0 → (end : End) → EndIs tool wanted library end → IsSaid tool.name tool.usage result out err end
          → HasTold tool wanted library out err
      told_by is usage cause said = apart 0 2 is said.status (λ e. omega (arith, e))
      told_by is (faults found) cause said = apart 0 3 is said.status (λ e. omega (arith, e))
      told_by is (missing root) cause said = apart 0 2 is said.status (λ e. omega (arith, e))
      told_by is (unread name) cause said = apart 0 4 is said.status (λ e. omega (arith, e))
      told_by is (limit passed) cause said = apart 0 6 is said.status (λ e. omega (arith, e))
      told_by is (output bytes) cause said = record { bytes = bytes; cause = cause; on_out = said.on_out; on_err = said.on_err ∙ more_none err.0.taken }
      told_by is no_memory cause said = apart 0 7 is said.status (λ e. omega (arith, e))

      pub told : result ≡ 0 → HasTold tool wanted library out err
      told is = told_by is run.end run.cause (is_said tool.name tool.usage result out err run.end run.written (λ five. let both : 0 ≡ 5 = sym is ∙ five in omega (arith, both)))

      refused_by : result ≡ 2 → (end : End) → EndIs tool wanted library end → IsSaid tool.name tool.usage result out err end
          → (HasUsage tool wanted err ⊎ HasNoRoot tool wanted library err) × TookNone out
      refused_by is usage cause said = (inl (record { none = cause.0; on_err = said.on_err }), said.on_out ∙ more_none out.0.taken)
      refused_by is (faults found) cause said = apart 2 3 is said.status (λ e. omega (arith, e))
      refused_by is (missing root) cause said = (inr (record { root = root; cause = cause; on_err = said.on_err }), said.on_out ∙ more_none out.0.taken)
      refused_by is (unread name) cause said = apart 2 4 is said.status (λ e. omega (arith, e))
      refused_by is (limit passed) cause said = apart 2 6 is said.status (λ e. omega (arith, e))
      refused_by is (output bytes) cause said = apart 2 0 is said.status (λ e. omega (arith, e))
      refused_by is no_memory cause said = apart 2 7 is said.status (λ e. omega (arith, e))

      pub refused : result ≡ 2 → (HasUsage tool wanted err ⊎ HasNoRoot tool wanted library err) × TookNone out
      refused is = refused_by is run.end run.cause (is_said tool.name tool.usage result out err run.end run.written (λ five. let both : 2 ≡ 5 = sym is ∙ five in omega (arith, both)))

      -- where something is wanted, it is a root that is missing
      pub refused_lawful : (asked : A) → wanted asked → result ≡ 2
          → HasNoRoot tool wanted library err × TookNone out
      refused_lawful asked lawful is =
          let both = refused is in
          elim both.0 [ inl none ↦ absurd (none.none asked lawful) | inr missing_too ↦ (missing_too, both.1) ]

      faults_by : result ≡ 3 → (end : End) → EndIs tool wanted library end → IsSaid tool.name tool.usage result out err end
          → HasFaults tool wanted library err × TookNone out
      faults_by is usage cause said = apart 3 2 is said.status (λ e. omega (arith, e))
      faults_by is (faults found) cause said = (record { found = found; cause = cause; on_err = said.on_err }, said.on_out ∙ more_none out.0.taken)
      faults_by is (missing root) cause said = apart 3 2 is said.status (λ e. omega (arith, e))
      faults_by is (unread name) cause said = apart 3 4 is said.status (λ e. omega (arith, e))
      faults_by is (limit passed) cause said = apart 3 6 is said.status (λ e. omega (arith, e))
      faults_by is (output bytes) cause said = apart 3 0 is said.status (λ e. omega (arith, e))
      faults_by is no_memory cause said = apart 3 7 is said.status (λ e. omega (arith, e))

      pub faults_said : result ≡ 3 → HasFaults tool wanted library err × TookNone out
      faults_said is = faults_by is run.end run.cause (is_said tool.name tool.usage result out err run.end run.written (λ five. let both : 3 ≡ 5 = sym is ∙ five in omega (arith, both)))

      unread_by : result ≡ 4 → (end : End) → EndIs tool wanted library end → IsSaid tool.name tool.usage result out err end
          → HasUnread tool wanted library err × TookNone out
      unread_by is usage cause said = apart 4 2 is said.status (λ e. omega (arith, e))
      unread_by is (faults found) cause said = apart 4 3 is said.status (λ e. omega (arith, e))
      unread_by is (missing root) cause said = apart 4 2 is said.status (λ e. omega (arith, e))
      unread_by is (unread name) cause said = (record { name = name; cause = unread_last wanted library name cause; on_err = said.on_err }, said.on_out ∙ more_none out.0.taken)
      unread_by is (limit passed) cause said = apart 4 6 is said.status (λ e. omega (arith, e))
      unread_by is (output bytes) cause said = apart 4 0 is said.status (λ e. omega (arith, e))
      unread_by is no_memory cause said = apart 4 7 is said.status (λ e. omega (arith, e))

      pub unread_said : result ≡ 4 → HasUnread tool wanted library err × TookNone out
      unread_said is = unread_by is run.end run.cause (is_said tool.name tool.usage result out err run.end run.written (λ five. let both : 4 ≡ 5 = sym is ∙ five in omega (arith, both)))

      passed_by : result ≡ 6 → (end : End) → EndIs tool wanted library end → IsSaid tool.name tool.usage result out err end
          → HasPassed tool wanted library err × TookNone out
      passed_by is usage cause said = apart 6 2 is said.status (λ e. omega (arith, e))
      passed_by is (faults found) cause said = apart 6 3 is said.status (λ e. omega (arith, e))
      passed_by is (missing root) cause said = apart 6 2 is said.status (λ e. omega (arith, e))
      passed_by is (unread name) cause said = apart 6 4 is said.status (λ e. omega (arith, e))
      passed_by is (limit passed) cause said = (record { passed = passed; cause = cause; on_err = said.on_err }, said.on_out ∙ more_none out.0.taken)
      passed_by is (output bytes) cause said = apart 6 0 is said.status (λ e. omega (arith, e))
      passed_by is no_memory cause said = apart 6 7 is said.status (λ e. omega (arith, e))

      pub passed_said : result ≡ 6 → HasPassed tool wanted library err × TookNone out
      passed_said is = passed_by is run.end run.cause (is_said tool.name tool.usage result out err run.end run.written (λ five. let both : 6 ≡ 5 = sym is ∙ five in omega (arith, both)))

      wanting_by : result ≡ 7 → (end : End) → EndIs tool wanted library end → IsSaid tool.name tool.usage result out err end
          → SaysNoMemory tool.name out err result
      wanting_by is usage cause said = apart 7 2 is said.status (λ e. omega (arith, e))
      wanting_by is (faults found) cause said = apart 7 3 is said.status (λ e. omega (arith, e))
      wanting_by is (missing root) cause said = apart 7 2 is said.status (λ e. omega (arith, e))
      wanting_by is (unread name) cause said = apart 7 4 is said.status (λ e. omega (arith, e))
      wanting_by is (limit passed) cause said = apart 7 6 is said.status (λ e. omega (arith, e))
      wanting_by is (output bytes) cause said = apart 7 0 is said.status (λ e. omega (arith, e))
      wanting_by is no_memory cause said = record { status = said.status; on_out = said.on_out ∙ more_none out.0.taken; on_err = said.on_err }

      pub wanting_said : result ≡ 7 → SaysNoMemory tool.name out err result
      wanting_said is = wanting_by is run.end run.cause (is_said tool.name tool.usage result out err run.end run.written (λ five. let both : 7 ≡ 5 = sym is ∙ five in omega (arith, both)))

      -- each run has one of the statuses

      status_said : (end : End) → result ≡ status_of end → IsStatus result
      status_said usage is = inr (inl is)
      status_said (faults found) is = inr (inr (inl is))
      status_said (missing root) is = inr (inl is)
      status_said (unread name) is = inr (inr (inr (inl is)))
      status_said (limit passed) is = inr (inr (inr (inr (inr (inl is)))))
      status_said (output bytes) is = inl is
      status_said no_memory is = inr (inr (inr (inr (inr (inr is)))))

      pub statuses : IsStatus result
      statuses = elim (said_or_cut tool.name tool.usage result out err run.end run.written) [ inl said ↦ status_said run.end said.status | inr cut ↦ inr (inr (inr (inr (inl cut.0)))) ]

      -- where the status is that of a sink that failed, the run was cut off
      pub cut_off : result ≡ 5 → IsCutOff tool wanted library out err
      cut_off is = elim (said_or_cut tool.name tool.usage result out err run.end run.written) [
        | inl said ↦ absurd (never_five run.end (sym said.status ∙ is))
        | inr cut ↦ record { end = run.end; cause = run.cause; cut = cut.1 }
      ]
        where
          never_five : (end : End) → status_of end ≡ 5 → ⊥
          never_five usage e = omega (arith, e)
          never_five (faults found) e = omega (arith, e)
          never_five (missing root) e = omega (arith, e)
          never_five (unread name) e = omega (arith, e)
          never_five (limit passed) e = omega (arith, e)
          never_five (output bytes) e = omega (arith, e)
          never_five no_memory e = omega (arith, e)

      -- where nothing is wanted, that is said

      without : IsNothingAsked wanted → (end : End) → EndIs tool wanted library end → result ≡ status_of end → (result ≡ 2) ⊎ ((result ≡ 5) ⊎ (result ≡ 7))
      without none usage cause is = inl is
      without none (faults found) cause is = absurd (none cause.asked cause.lawful)
      without none (missing root) cause is = absurd (none cause.asked cause.lawful)
      without none (unread name) cause is = absurd (none cause.asked cause.lawful)
      without none (limit passed) cause is = absurd (none cause.asked cause.lawful)
      without none (output bytes) cause is = absurd (none cause.asked cause.lawful)
      without none no_memory cause is = inr (inr is)

      pub unlawful : IsNothingAsked wanted → (result ≡ 2) ⊎ ((result ≡ 5) ⊎ (result ≡ 7))
      unlawful none = elim (said_or_cut tool.name tool.usage result out err run.end run.written) [
        | inl said ↦ without none run.end run.cause said.status
        | inr cut ↦ inr (inl cut.0)
      ]

      -- the sink of the bytes is settled

      settled_by : (end : End) → EndsBy tool.name tool.usage result out err end → result ≢ 5 → IsSettled result out.1 err.1
      settled_by usage written whole = settled_err (err_of tool.name tool.usage usage) 2 result out err (λ e. omega (arith, e)) written whole
      settled_by (faults found) written whole = settled_err (err_of tool.name tool.usage (faults found)) 3 result out err (λ e. omega (arith, e)) written whole
      settled_by (missing root) written whole = settled_err (err_of tool.name tool.usage (missing root)) 2 result out err (λ e. omega (arith, e)) written whole
      settled_by (unread name) written whole = settled_err (err_of tool.name tool.usage (unread name)) 4 result out err (λ e. omega (arith, e)) written whole
      settled_by (limit passed) written whole = settled_err (err_of tool.name tool.usage (limit passed)) 6 result out err (λ e. omega (arith, e)) written whole
      settled_by (output bytes) written whole = inl (settled_all bytes 0 result out err written whole)
      settled_by no_memory written whole = settled_err (err_of tool.name tool.usage no_memory) 7 result out err (λ e. omega (arith, e)) written whole

      pub settled : result ≢ 5 → IsSettled result out.1 err.1
      settled whole = settled_by run.end run.written whole

      -- where no library is asked, its names are as before
      pub unasked : AskForNone tool wanted → library.1.asked ≡ library.0.asked
      unasked none = asked_none run.end run.cause
        where
          asked_none : (end : End) → EndIs tool wanted library end → library.1.asked ≡ library.0.asked
          asked_none usage cause = ap (λ (seen : LibrarySeen). seen.asked) cause.1
          asked_none (faults found) cause = lawful_left tool wanted library (faults found) none cause
          asked_none (missing root) cause = lawful_left tool wanted library (missing root) none cause
          asked_none (unread name) cause = lawful_left tool wanted library (unread name) none cause
          asked_none (limit passed) cause = lawful_left tool wanted library (limit passed) none cause
          asked_none (output bytes) cause = lawful_left tool wanted library (output bytes) none cause
          asked_none no_memory cause = cause.none none
