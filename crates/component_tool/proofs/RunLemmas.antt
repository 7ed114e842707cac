-- What a run has said, and that it keeps its promises.
use Rattle.std.proofs.Common.{◌≡◌, ◌≢◌, ℕ, ◌⊎◌, List, [], ◌∷◌, Bool, Option, Some, if◌then◌else◌, ap, sym, subst, ◌∙◌, refl, inl, inr, append-nil}
use Rattle.file_library.specs.Counts.{Rose}
use Rattle.file_library.specs.Library.{Files, map_of}
use Rattle.import_rules.proofs.FileNames.{name_itself}
use Rattle.tool_run.specs.Run.{IsWritten, Taking}
use Rattle.tool_run.proofs.Writing.{TookBoth, TookSome, err_said, more_none, out_said}
use Rattle.component_tool.specs.End.{End, usage, unread, too_large, faulty, too_many_edges, too_many_nodes, no_node, output, no_memory, status_of, out_of, err_of}
use Rattle.component_tool.specs.Keeps.{IsStatus, RunKeeps, SaysAnswer, SaysHandedOver, SaysNoMemory}
use Rattle.component_tool.specs.Run.{EndIs, EndsBy, IsLawfulEnd, IsReadEnd, IsRun, IsTextEnd, IsUsageEnd, PutsEnd}
use Rattle.component_words.specs.Settings.{AreLawful, IsUnlawful, Settings}
use Rattle.component_tool.specs.Source.{Asking, answered}

-- a sink failed
record IsCut (result : ℕ) (out err : Taking) : Type 0 where
  is_five : result ≡ 5
  rose : Rose out.0.faults out.1.faults ⊎ Rose err.0.faults err.1.faults

-- the sinks took all bytes of the end
abbrev HasSaid : End → ℕ → Taking → Taking → Type 0
HasSaid end result out err = TookBoth (status_of end) (out_of end) (err_of end) result out err

cut_out : (bytes : List ℕ) (result : ℕ) (out err : Taking) → TookSome bytes result out err → IsCut result out err
cut_out bytes result out err some = record { is_five = some.is_five; rose = inl some.part.rose }

cut_err : (bytes : List ℕ) (result : ℕ) (out err : Taking) → TookSome bytes result err out → IsCut result out err
cut_err bytes result out err some = record { is_five = some.is_five; rose = inr some.part.rose }

on_err : (bytes : List ℕ) (status result : ℕ) (out err : Taking) → IsWritten bytes status result err out
    → TookBoth status [] bytes result out err ⊎ IsCut result out err
on_err bytes status result out err written = elim (err_said bytes status result out err written) [
  | inl both ↦ inl both
  | inr some ↦ inr (cut_err bytes result out err some)
]

has_ended : (end : End) (result : ℕ) (out err : Taking) → EndsBy result out err end → HasSaid end result out err ⊎ IsCut result out err
has_ended usage result out err written = on_err (err_of usage) 2 result out err written
has_ended (unread file) result out err written = on_err (err_of (unread file)) 4 result out err written
has_ended (too_large file) result out err written = on_err (err_of (too_large file)) 6 result out err written
has_ended (faulty file fault) result out err written = on_err (err_of (faulty file fault)) 3 result out err written
has_ended too_many_edges result out err written = on_err (err_of too_many_edges) 6 result out err written
has_ended too_many_nodes result out err written = on_err (err_of too_many_nodes) 6 result out err written
has_ended (no_node root) result out err written = on_err (err_of (no_node root)) 2 result out err written
has_ended (output bytes) result out err written = elim (out_said bytes 0 result out err written) [
  | inl both ↦ inl both
  | inr some ↦ inr (cut_out bytes result out err some)
]
has_ended no_memory result out err written = on_err (err_of no_memory) 7 result out err written

status_is : (end : End) → IsStatus (status_of end)
status_is usage = inr (inl refl)
status_is (unread file) = inr (inr (inr (inl refl)))
status_is (too_large file) = inr (inr (inr (inr (inr (inl refl)))))
status_is (faulty file fault) = inr (inr (inl refl))
status_is too_many_edges = inr (inr (inr (inr (inr (inl refl)))))
status_is too_many_nodes = inr (inr (inr (inr (inr (inl refl)))))
status_is (no_node root) = inr (inl refl)
status_is (output bytes) = inl refl
status_is no_memory = inr (inr (inr (inr (inr (inr refl)))))

says_none : (end : End) (result : ℕ) (out err : Taking) → end ≡ no_memory → HasSaid end result out err → SaysNoMemory out err result
says_none end result out err none said =
    let both : HasSaid no_memory result out err = subst (λ e. HasSaid e result out err) none said in
    record { status = both.status; on_out = both.on_out ∙ more_none out.0.taken; on_err = both.on_err }

-- what a source answered for a name is there in the map of that answer
there : (name : List ℕ) (text : Option (List ℕ)) → map_of (answered name text ∷ []) name ≡ text
there name text = ap (λ (b : Bool). if b then text else map_of [] name) (name_itself name)

module _ (words : List (List ℕ)) (source : Asking) (out err : Taking) (result : ℕ) (end : End) (said : HasSaid end result out err) where
  -- of the files of the source
  pub told_usage : (files : Files) → IsUsageEnd words source end → SaysAnswer words files out err result
  told_usage files is = record {
    answer = end;
    is_right = inl (is.unlawful, is.is);
    status = said.status;
    on_out = said.on_out;
    on_err = said.on_err;
  }

  pub told_lawful : (files : Files) → source.0.told ≡ Some files → IsLawfulEnd words source end → SaysAnswer words files out err result
  told_lawful files told is = record {
    answer = end;
    is_right = inr (record { settings = is.settings; lawful = is.lawful; right = is.read.told_too files told });
    status = said.status;
    on_out = said.on_out;
    on_err = said.on_err;
  }

  -- of what it handed over
  pub over_usage : IsUsageEnd words source end → SaysHandedOver words source out err result
  over_usage is = record {
    answers = [];
    given = ap (λ s. s.answers) is.left ∙ sym (append-nil source.0.answers);
    says = told_usage (map_of []) is;
  }

  pub over_lawful : IsLawfulEnd words source end → SaysHandedOver words source out err result
  over_lawful is = record {
    answers = answered is.settings.file is.read.text ∷ [];
    given = is.read.given;
    says = record {
      answer = end;
      is_right = inr
          (record {
            settings = is.settings;
            lawful = is.lawful;
            right = subst (λ text. IsTextEnd is.settings text end) (sym (there is.settings.file is.read.text)) is.read.right;
          });
      status = said.status;
      on_out = said.on_out;
      on_err = said.on_err;
    };
  }

  pub told_any : (files : Files) → source.0.told ≡ Some files → EndIs words source end → SaysAnswer words files out err result ⊎ SaysNoMemory out err result
  told_any files told cause = elim cause [
    | inl none ↦ inr (says_none end result out err none said)
    | inr some ↦ inl (elim some [ inl is ↦ told_usage files is | inr is ↦ told_lawful files told is ])
  ]

  pub over_any : result ≢ 7 → EndIs words source end → SaysHandedOver words source out err result
  over_any ample cause = elim cause [
    | inl none ↦ absurd (ample (said.status ∙ ap status_of none))
    | inr some ↦ elim some [ inl is ↦ over_usage is | inr is ↦ over_lawful is ]
  ]

  pub unlawful_any : IsUnlawful words → EndIs words source end → (result ≡ 2) ⊎ ((result ≡ 5) ⊎ (result ≡ 7))
  unlawful_any not_lawful cause = elim cause [
    | inl none ↦ inr (inr (said.status ∙ ap status_of none))
    | inr some ↦ elim some [ inl is ↦ inl (said.status ∙ ap status_of is.is) | inr is ↦ absurd (not_lawful is.settings is.lawful) ]
  ]

-- a run that ends so keeps its promises
pub run_keeps : (words : List (List ℕ)) (source : Asking) (out err : Taking) (result : ℕ) → IsRun words source out err result
    → RunKeeps words source out err result
run_keeps words source out err result run =
    let ended = has_ended run.end result out err run.written in
    record {
      answered =
          λ files told quiet_out quiet_err. elim ended [
            | inl said ↦ told_any words source out err result run.end said files told run.cause
            | inr cut ↦ absurd (elim cut.rose [ inl rose ↦ quiet_out rose | inr rose ↦ quiet_err rose ])
          ];
      handed_over =
          λ whole ample. elim ended [
            | inl said ↦ over_any words source out err result run.end said ample run.cause
            | inr cut ↦ absurd (whole cut.is_five)
          ];
      statuses = elim ended [
        | inl said ↦ subst IsStatus (sym said.status) (status_is run.end)
        | inr cut ↦ inr (inr (inr (inr (inl cut.is_five))))
      ];
      unlawful =
          λ not_lawful. elim ended [
            | inl said ↦ unlawful_any words source out err result run.end said not_lawful run.cause
            | inr cut ↦ inr (inl cut.is_five)
          ];
      run = run;
    }

-- the run of lawful words
pub lawful_run : (words : List (List ℕ)) (settings : Settings) (source : Asking) (out err : Taking) (result : ℕ) (end : End) → AreLawful words settings
    → (end ≡ no_memory) ⊎ IsReadEnd settings source end → PutsEnd result out err end → IsRun words source out err result
lawful_run words settings source out err result end lawful told puts = elim puts [
  | inl written ↦ record {
    end = end;
    cause = elim told [ inl none ↦ inl none | inr read ↦ inr (inr (record { settings = settings; lawful = lawful; read = read })) ];
    written = written;
  }
  | inr written ↦ record { end = no_memory; cause = inl refl; written = written }
]

-- of others
pub usage_run : (words : List (List ℕ)) (source : Asking) (out err : Taking) (result : ℕ) → IsUnlawful words → source.1 ≡ source.0
    → EndsBy result out err usage → IsRun words source out err result
usage_run words source out err result unlawful left written = record {
  end = usage;
  cause = inr (inl (record { unlawful = unlawful; left = left; is = refl }));
  written = written;
}

-- and where there is no memory for the words
pub wanting_run : (words : List (List ℕ)) (source : Asking) (out err : Taking) (result : ℕ) → EndsBy result out err no_memory → IsRun words source out err result
wanting_run words source out err result written = record { end = no_memory; cause = inl refl; written = written }
