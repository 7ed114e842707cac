-- All that a run promises.
use Rattle.std.proofs.Common.{◌≡◌, ℕ, ap, refl, sym, subst, ◌∙◌}
use Rattle.tool_run.specs.Asking.{Asking, IsLeft}
use Rattle.tool_run.specs.End.{End}
use Rattle.tool_run.specs.Keeps.{RunKeeps}
use Rattle.tool_run.specs.Run.{EndIs, IsRun, PutsEnd, Taking}
use Rattle.tool_run.specs.Stop.{end_of_stop, of_words}
use Rattle.tool_run.specs.Tool.{Tool}
use Rattle.tool_run.specs.Wanted.{IsJust, IsNothingAsked, IsOneAtMost}
use Rattle.tool_run.specs.declared.stop.Stop.{Stop}
use Rattle.group_words.specs.declared.options.WordFault.{WordFault}
use Rattle.group_words.specs.declared.options.WordFault.TheVariants as of_word
use Rattle.tool_run.proofs.AskedNames.{asked_said}
use Rattle.tool_run.proofs.EndLemmas.{run_put, run_wanted, wanting, words_end}
use Rattle.tool_run.proofs.RunLemmas.{answered, cut_off, faults_said, handed_over, passed_said, refused, refused_lawful, settled, statuses, told, unasked, unlawful, unread_said, wanting_said}

-- just one thing is one at most
pub just_one : {A : Type 0} (asked : A) → IsOneAtMost (IsJust asked)
just_one {A} asked one other here there = here ∙ sym there

module _ {A : Type 0} (tool : Tool A) (wanted : A → Type 0) (one : IsOneAtMost wanted) (library : Asking) (out err : Taking) (result : ℕ) where
  -- how it ends, why, and what the sinks have taken say all
  pub run_keeps : IsRun tool wanted library out err result → RunKeeps tool wanted library out err result
  run_keeps run = record {
    answered = answered tool wanted library out err result run;
    handed_over = handed_over tool wanted library out err result run;
    statuses = statuses tool wanted library out err result run;
    told = told tool wanted library out err result run;
    refused = refused tool wanted library out err result run;
    missing = refused_lawful tool wanted library out err result run;
    unlawful = unlawful tool wanted library out err result run;
    faults = faults_said tool wanted library out err result run;
    unread = unread_said tool wanted library out err result run;
    cut_off = cut_off tool wanted library out err result run;
    limit = passed_said tool wanted library out err result run;
    no_memory = wanting_said tool wanted library out err result run;
    settled = settled tool wanted library out err result run;
    run = run;
    asked = λ asked lawful reads. asked_said tool wanted one library asked lawful reads out err result run;
    asking = (wanting tool wanted one library run.end run.cause).lawful;
    unasked = unasked tool wanted library out err result run;
  }

  -- an end that has its cause, whose bytes are put
  pub put_keeps : (end : End) → EndIs tool wanted library end → PutsEnd tool.name tool.usage result out err end → RunKeeps tool wanted library out err result
  put_keeps end cause puts = run_keeps (run_put tool wanted one library out err result end cause puts)

  -- words that ask for nothing
  pub refused_keeps : (fault : WordFault) (stop : Stop) → stop ≡ of_words fault → IsLeft library → (fault ≡ of_word.Usage → IsNothingAsked wanted)
      → PutsEnd tool.name tool.usage result out err (end_of_stop stop) → RunKeeps tool wanted library out err result
  refused_keeps fault stop is left none puts = put_keeps (end_of_stop stop) (words_end tool wanted library fault stop is left none) puts

  -- what a run keeps for the one thing that is wanted
  pub asked_keeps : (asked : A) → wanted asked → ((other : A) → wanted other → other ≡ asked) → RunKeeps tool (IsJust asked) library out err result
      → RunKeeps tool wanted library out err result
  asked_keeps asked lawful only keeps = run_keeps (run_wanted tool wanted asked library out err result lawful only keeps.run)
