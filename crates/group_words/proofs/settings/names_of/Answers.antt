use Rattle.std.proofs.Common.{◌++◌, ◌∷◌, [], ◌∙◌, List, ℕ, Bor, ap, sym}
use Rattle.std.proofs.lemmas.List.{take_all}
use Rattle.group_words.specs.RootList.{all_there}
use Rattle.group_words.proofs.KeptNames.{resolved_more, resolved_none, resolved_words, words_lent}
use Rattle.group_words.proofs.settings.names_of.Goals as goal

abbrev no_word : Bor (List ℕ)
no_word = record { ref_ptr = (0, 0); now = [] }

pub returns-in_default-clause-usage : goal.returns-in_default-clause-usage
returns-in_default-clause-usage c is named are =
    let inv = c.loop-file.invariant in
    resolved_none c.args.files.now c.loop-file.file-index no_word inv.0 c.loop-file-test.true inv.1.0 (sym c.in_ok-name.ensures ∙ c.in_default.is) named are

pub loop-file-preserved : goal.loop-file-preserved
loop-file-preserved c =
    let inv = c.loop-file.invariant in (
      inv.0 ++ c.in-Some.name ∷ [],
      (
        resolved_more c.args.files.now c.loop-file.file-index no_word inv.0 c.in-Some.name c.loop-file-test.true inv.1.0 (sym c.in_ok-name.ensures ∙ c.in-Some.is),
        c.in_ok-keep_name.ensures inv.0 inv.1.1,
      ),
    )

pub returns-clause-ok : goal.returns-clause-ok
returns-clause-ok c =
    let inv = c.loop-file.invariant in
    record {
      names = inv.0;
      resolve = ap all_there (words_lent c.args.files.now) ∙ (ap (λ xs. all_there (resolved_words xs)) (sym (take_all c.loop-file.file-index c.args.files.now c.loop-file-test.false)) ∙ inv.1.0);
      each = inv.1.1.each;
    }
