-- How the asking for files ended over what a library showed is how it ends over the library's map, where it tells that.
use Rattle.std.proofs.Common.{◌≡◌, ℕ, zero, ◌+◌, ◌<◌, ◌≤◌, List, [], ◌∷◌, ◌++◌, Option, Some, None, All, Contains, length, map, take, option_map, unwrap_or, sum_by, min, refl, sym, subst, ap, ◌∙◌, inl, inr, arith, length-take}
use Rattle.std.proofs.lemmas.List.{length-append, get_or_append_left, append_assoc, take_all}
use Rattle.std.proofs.lemmas.List.Elements.{All-map, Contains-append_left, Contains-append_cases, Contains-get_or}
use Rattle.std.proofs.lemmas.List.Sums.{sum_by-append, sum_by-cons}
use Rattle.std.proofs.Math.Seq.{get_or-append_seam}
use Rattle.list_laws.proofs.OneOrder.{holds_of, in_first, in_rest, first_or_rest, nothing_in}
use Rattle.file_library.specs.declared.fault.Fault.{Fault}
use Rattle.file_library.specs.Library.{Files, LibrarySeen, names_of, map_of}
use Rattle.file_library.specs.Asked.{IsWave, wave_at, AreFirstWaves, AreWaves, names_in}
use Rattle.file_library.specs.FileLoads.{FileLoads}
use Rattle.prolog_tokens.specs.declared.limits.TheConstants.{MOST_BYTES}
use Rattle.file_library.specs.Loaded.{IsAskedIn, NamedText, LoadedFiles, size_of, AreWithin, IsLoaded, IsLoadFault, AreLoadFaults}
use Rattle.file_library.specs.Asking.{AreFirst, AreAll, AreTooMany, LeadTo, IsTooMuch, LoadEnd, loaded, faults, unread, too_many, too_large, too_much, no_memory, LoadEndIs, IsDecided, AreAnswered, AreFirstWithin, EndsAsTold, seen_of, HasEnded}
use Rattle.file_library.proofs.NameLists.{last_of, same_before}
use Rattle.file_library.proofs.WaveLaws.{Names, in_names, waves_asked, asked_waves}
use Rattle.file_library.proofs.ToldWaves.{AgreeBelow, in_wave_to, first_waves_same, waves_same, StandsAt, stands_at, names_of_first, names_with_last}

-- what is seen of a file that isn't too large is the file

abbrev size : Option (List ℕ) → ℕ
size text = unwrap_or (option_map (λ bytes. length bytes) text) 0

abbrev seen_text : Option (List ℕ) → Option (List ℕ)
seen_text text = option_map (λ bytes. take (MOST_BYTES + 1) bytes) text

text_whole : (seen text : Option (List ℕ)) → seen ≡ seen_text text → size seen ≤ MOST_BYTES → seen ≡ text
text_whole seen None is small = is
text_whole seen (Some bytes) is small =
    let count : length (take (MOST_BYTES + 1) bytes) ≡ min (MOST_BYTES + 1) (length bytes) = length-take (MOST_BYTES + 1) bytes in
    let short : length (take (MOST_BYTES + 1) bytes) ≤ MOST_BYTES = subst (λ text. size text ≤ MOST_BYTES) is small in
    is ∙ ap Some (take_all (MOST_BYTES + 1) bytes (omega (arith, count, short)))

text_large : (seen text : Option (List ℕ)) → seen ≡ seen_text text → MOST_BYTES < size seen → MOST_BYTES < size text
text_large seen None is large = let none : MOST_BYTES < 0 = subst (λ text. MOST_BYTES < size text) is large in let no : ⊥ = omega (arith, none) in absurd no
text_large seen (Some bytes) is large =
    let long : MOST_BYTES < length (take (MOST_BYTES + 1) bytes) = subst (λ text. MOST_BYTES < size text) is large in
    omega (arith, long, length-take (MOST_BYTES + 1) bytes)

sums_same : (f g : List ℕ → ℕ) (names : Names) → ((name : List ℕ) → Contains names name → f name ≡ g name) → sum_by f names ≡ sum_by g names
sums_same f g [] same = refl
sums_same f g (name ∷ names) same =
    let rest = sums_same f g names (λ other has. same other (in_rest name other names has)) in
    omega (arith, sum_by-cons f name names, sum_by-cons g name names, rest, same name (in_first name names))

within_before : {files : Files} (names more : Names) → AreWithin files (names ++ more) → AreWithin files names
within_before {files} names more within = record {
  each = λ k d less.
      let lower : k < length (names ++ more) = omega (arith, less, length-append names more) in
      subst (λ name. size_of files name ≤ MOST_BYTES) (get_or_append_left names more d k less) (within.each k d lower);
  together = omega (arith, sum_by-append (size_of files) names more, within.together);
}

module _ (seen files : Files) (roots : Names) where
  -- the two maps have the same at each of the names
  abbrev AreSame : Names → Type 0
  AreSame names = (name : List ℕ) → Contains names name → seen name ≡ files name

  -- what is seen of each of the names is what the map has, as far as it is read
  abbrev AreSeen : Names → Type 0
  AreSeen names = (name : List ℕ) → Contains names name → seen name ≡ seen_of files name

  same_within : (names : Names) → AreSeen names → All (λ name. size_of seen name ≤ MOST_BYTES) names → AreSame names
  same_within names are small name has = text_whole (seen name) (files name) (are name has) (holds_of (λ n. size_of seen n ≤ MOST_BYTES) names name small has)

  loads_to : (user name : List ℕ) → seen user ≡ files user → FileLoads seen user name → FileLoads files user name
  loads_to user name same is = record { text = is.text; there = sym same ∙ is.there; facts = is.facts; has = is.has; loads = is.loads }

  loads_from : (user name : List ℕ) → seen user ≡ files user → FileLoads files user name → FileLoads seen user name
  loads_from user name same is = record { text = is.text; there = same ∙ is.there; facts = is.facts; has = is.has; loads = is.loads }

  within_too : (names : Names) → AreSame names → AreWithin seen names → AreWithin files names
  within_too names same within = record {
    each = λ k d less. subst (λ text. size text ≤ MOST_BYTES) (same _ (Contains-get_or names k d less)) (within.each k d less);
    together =
        let sums : sum_by (size_of seen) names ≡ sum_by (size_of files) names = sums_same (size_of seen) (size_of files) names (λ name has. ap size (same name has)) in
        omega (arith, sums, within.together);
  }

  -- the two say the same of the loads of the first waves
  agree_below : (waves : List Names) (k : ℕ) (names : Names) → AreSame names → ((j : ℕ) → j < k → (name : List ℕ) → Contains (wave_at waves j) name → Contains names name)
      → AgreeBelow (FileLoads seen) (FileLoads files) waves k
  agree_below waves k names same among = record {
    to = λ j less user name has. loads_to user name (same user (among j less user has));
    from = λ j less user name has. loads_from user name (same user (among j less user has));
  }

  -- names asked for up to a last one

  first_too : (before names : Names) (last : List ℕ) → names ≡ before ++ last ∷ [] → AreSame before → AreFirst seen roots names → AreFirst files roots names
  first_too before names last is same first =
      let s : StandsAt first.waves before last =
      stands_at first.waves before first.rest last
      (first.is ∙ (ap (λ ns. ns ++ first.rest) is ∙ append_assoc before (last ∷ []) first.rest)) in
      let waves : List Names = s.first ++ s.wave ∷ [] in
      let whole : first.waves ≡ waves ++ s.more = s.is ∙ sym (append_assoc s.first (s.wave ∷ []) s.more) in
      let long : length first.waves ≡ length waves + length s.more = ap (λ ws. length ws) whole ∙ length-append waves s.more in
      let count : length waves ≡ length s.first + 1 = length-append s.first (s.wave ∷ []) in
      let are : AreFirstWaves (FileLoads seen) roots waves = λ n less.
      subst (IsWave (FileLoads seen) roots n) (ap (λ ws. wave_at ws n) whole ∙ get_or_append_left waves s.more [] n less) (first.are n (omega (arith, less, long))) in
      let among : (j : ℕ) → j < length s.first → (name : List ℕ) → Contains (wave_at waves j) name → Contains before name = λ j less name has.
      subst (λ ns. Contains ns name) (sym s.before_is)
      (Contains-append_left (names_in s.first) s.head name
      (in_names s.first j name less (subst (λ wave. Contains wave name) (get_or_append_left s.first (s.wave ∷ []) [] j less) has))) in
      let inside : names_in first.waves ≡ names_in waves ++ names_in s.more = ap (λ ws. names_in ws) s.is ∙ names_of_first s.first s.more s.wave in
      record {
        waves = waves;
        are =
            first_waves_same (FileLoads seen) (FileLoads files) roots waves are (length s.first) (omega (arith, count))
            (agree_below waves (length s.first) before same among) (omega (arith, count));
        rest = s.tail;
        is =
            names_with_last s.first s.wave
            ∙ (ap (λ ns. names_in s.first ++ ns) s.wave_is
            ∙ (sym (append_assoc (names_in s.first) s.head (last ∷ s.tail))
            ∙ (ap (λ ns. ns ++ last ∷ s.tail) (sym s.before_is)
            ∙ (sym (append_assoc before (last ∷ []) s.tail) ∙ ap (λ ns. ns ++ s.tail) (sym is)))));
        few =
            let all : length (names_in first.waves) ≡ length (names_in waves) + length (names_in s.more) = ap (λ ns. length ns) inside ∙ length-append (names_in waves) (names_in s.more) in
            omega (arith, all, first.few);
      }

  leads_by : (names : Names) (last : List ℕ) (leads : LeadTo seen roots names last) → AreSeen leads.before → LeadTo files roots names last
  leads_by names last leads are =
      let same : AreSame leads.before = same_within leads.before are leads.within.each in
      record {
        before = leads.before;
        is = leads.is;
        first = first_too leads.before names last leads.is same leads.first;
        within = within_too leads.before same leads.within;
      }

  leads_too : (names : Names) (last : List ℕ) → AreSeen names → LeadTo seen roots names last → LeadTo files roots names last
  leads_too names last are leads =
      leads_by names last leads (λ name has. are name (subst (λ ns. Contains ns name) (sym leads.is) (Contains-append_left leads.before (last ∷ []) name has)))

  last_there : (before names : Names) (last : List ℕ) → names ≡ before ++ last ∷ [] → Contains names last
  last_there before names last is =
      let within : length before < length (before ++ last ∷ []) = omega (arith, length-append before (last ∷ [])) in
      subst (λ ns. Contains ns last) (sym is) (length before, within, get_or-append_seam before last [] last)

  -- too many, too large, too much

  many_too : (names : Names) → AreSeen names → AreTooMany seen roots names → AreTooMany files roots names
  many_too names are many =
      let same : AreSame names = same_within names are many.within.each in
      let among : (j : ℕ) → j < length many.waves → (name : List ℕ) → Contains (wave_at many.waves j) name → Contains names name = λ j less name has.
      subst (λ ns. Contains ns name) (sym many.is) (in_names many.waves j name less has) in
      let agree = agree_below many.waves (length many.waves) names same among in
      record {
        waves = many.waves;
        are = first_waves_same (FileLoads seen) (FileLoads files) roots many.waves many.are (length many.waves) (omega arith) agree (omega arith);
        is = many.is;
        few = many.few;
        within = within_too names same many.within;
        next = many.next;
        ordered = many.ordered;
        in_wave = λ name has.
            in_wave_to (FileLoads seen) (FileLoads files) roots many.waves many.are (length many.waves) (omega arith) agree (length many.waves) (omega arith) name (many.in_wave name has);
        many = many.many;
      }

  much_too : (names : Names) → AreSeen names → IsTooMuch seen roots names → IsTooMuch files roots names
  much_too names are is =
      let same : AreSame is.leads.before =
      same_within is.leads.before (λ name has. are name (subst (λ ns. Contains ns name) (sym is.leads.is) (Contains-append_left is.leads.before (is.last ∷ []) name has))) is.leads.within.each in
      let at_last : seen is.last ≡ files is.last = text_whole (seen is.last) (files is.last) (are is.last (last_there is.leads.before names is.last is.leads.is)) is.small in
      let sums : sum_by (size_of seen) names ≡ sum_by (size_of files) names =
      sums_same (size_of seen) (size_of files) names (λ name has. ap size (both is.leads.before is.last same at_last name (subst (λ ns. Contains ns name) is.leads.is has))) in
      record {
        last = is.last;
        leads = leads_too names is.last are is.leads;
        small = subst (λ text. size text ≤ MOST_BYTES) at_last is.small;
        much = omega (arith, is.much, sums);
      }
    where
      both : (before : Names) (last : List ℕ) → AreSame before → seen last ≡ files last → (name : List ℕ) → Contains (before ++ last ∷ []) name → seen name ≡ files name
      both before last same at_last name has =
          elim (Contains-append_cases before (last ∷ []) name has) [
            | inl early ↦ same name early
            | inr late ↦ elim (first_or_rest last name [] late) [ inl here ↦ subst (λ n. seen n ≡ files n) here at_last | inr none ↦ absurd (nothing_in name none) ]
          ]

  -- all was asked for

  module _ (names : Names) (are : AreSeen names) (all : AreAll seen roots names) where
    all_same : AreSame names
    all_same = same_within names are all.within.each

    all_agree : AgreeBelow (FileLoads seen) (FileLoads files) all.waves (length all.waves)
    all_agree = agree_below all.waves (length all.waves) names all_same (λ j less name has. subst (λ ns. Contains ns name) (sym all.is) (in_names all.waves j name less has))

    all_waves_too : AreWaves (FileLoads files) roots all.waves
    all_waves_too =
        waves_same (FileLoads seen) (FileLoads files) roots all.waves (λ n less. all.are n) (length all.waves) (omega arith) all_agree refl all.are

    pub all_too : AreAll files roots names
    all_too = record { waves = all.waves; are = all_waves_too; is = all.is; few = all.few; within = within_too names all_same all.within }

    asked_to : (name : List ℕ) → IsAskedIn seen roots name → IsAskedIn files roots name
    asked_to name asked = waves_asked (FileLoads files) roots all.waves (λ n less. all_waves_too n) name (asked_waves (FileLoads seen) roots all.waves all.are name asked)

    asked_from : (name : List ℕ) → IsAskedIn files roots name → IsAskedIn seen roots name
    asked_from name asked = waves_asked (FileLoads seen) roots all.waves (λ n less. all.are n) name (asked_waves (FileLoads files) roots all.waves all_waves_too name asked)

    same_at : (name : List ℕ) → IsAskedIn seen roots name → seen name ≡ files name
    same_at name asked = all_same name (subst (λ ns. Contains ns name) (sym all.is) (asked_waves (FileLoads seen) roots all.waves all.are name asked))

    pub loaded_too : (found : LoadedFiles) → IsLoaded seen roots found → IsLoaded files roots found
    loaded_too found is = record {
      root_names = is.root_names;
      absent_are = record {
        ordered = is.absent_are.ordered;
        sound = λ name has. let there = is.absent_are.sound name has in (asked_to name there.0, sym (same_at name there.0) ∙ there.1);
        all = λ name holds. let asked = asked_from name holds.0 in is.absent_are.all name (asked, same_at name asked ∙ holds.1);
      };
      ordered = is.ordered;
      texts = λ k d less. let text = is.texts k d less in record { asked = asked_to _ text.asked; there = sym (same_at _ text.asked) ∙ text.there };
      all = λ name bytes asked there. let first = asked_from name asked in is.all name bytes first (same_at name first ∙ there);
      facts = is.facts;
      there = λ name root none. is.there name root (same_at name (zero, root) ∙ none);
      few = is.few;
      within = within_too (map (λ (text : NamedText). text.0) found.texts) (λ name has. same_at name (text_asked name has)) is.within;
    }
      where
        text_asked : (name : List ℕ) → Contains (map (λ (text : NamedText). text.0) found.texts) name → IsAskedIn seen roots name
        text_asked name has =
            holds_of (IsAskedIn seen roots) (map (λ (text : NamedText). text.0) found.texts) name
            (All-map (IsAskedIn seen roots) (λ (text : NamedText). text.0) found.texts (λ k d less. (is.texts k d less).asked)) has

    fault_to : (fault : Fault) → IsLoadFault seen roots fault → IsLoadFault files roots fault
    fault_to fault (inl missing) =
        inl (record { root = missing.root; none = sym (same_at fault.file (zero, missing.root)) ∙ missing.none; cause = missing.cause; offset = missing.offset; place = missing.place })
    fault_to fault (inr of) =
        inr (record { asked = asked_to fault.file of.asked; text = of.text; there = sym (same_at fault.file of.asked) ∙ of.there; has = of.has; stands = of.stands })

    fault_from : (fault : Fault) → IsLoadFault files roots fault → IsLoadFault seen roots fault
    fault_from fault (inl missing) =
        inl (record { root = missing.root; none = same_at fault.file (zero, missing.root) ∙ missing.none; cause = missing.cause; offset = missing.offset; place = missing.place })
    fault_from fault (inr of) =
        let asked = asked_from fault.file of.asked in
        inr (record { asked = asked; text = of.text; there = same_at fault.file asked ∙ of.there; has = of.has; stands = of.stands })

    pub faults_too : (found : List Fault) → AreLoadFaults seen roots found → AreLoadFaults files roots found
    faults_too found is = record {
      ordered = is.ordered;
      sound = λ k d less. fault_to _ (is.sound k d less);
      all = λ fault stands. is.all fault (fault_from fault stands);
    }

  -- a last name is without an answer

  unread_too : (names answered : Names) (last : List ℕ) → names ≡ answered ++ last ∷ [] → AreSeen answered → LeadTo seen roots names last → LeadTo files roots names last
  unread_too names answered last is are leads =
      leads_by names last leads (subst AreSeen (same_before answered leads.before last last (sym is ∙ leads.is)) are)

  -- memory was wanting

  none_first : (names : Names) → names ≡ [] → AreFirst files roots names
  none_first names none = record { waves = []; are = λ n less. let no : ⊥ = omega (arith, less) in absurd no; rest = []; is = sym (ap (λ ns. ns ++ []) none); few = omega arith }

  all_first_too : (names : Names) → AreSame names → AreFirst seen roots names → AreFirst files roots names
  all_first_too names same first = elim (last_of names) [
    | inl none ↦ none_first names none
    | inr (before, last, is) ↦
        first_too before names last is (λ name has. same name (subst (λ ns. Contains ns name) (sym is) (Contains-append_left before (last ∷ []) name has))) first
  ]

  answered_too : (names : Names) → AreSeen names → AreFirstWithin seen roots names → AreFirstWithin files roots names
  answered_too names are is = elim is.within [
    | inl within ↦
        let same : AreSame names = same_within names are within.each in
        record { first = all_first_too names same is.first; within = inl (within_too names same within) }
    | inr (last, leads) ↦
        let also : LeadTo files roots names last = leads_too names last are leads in
        record { first = also.first; within = inr (last, also) }
  ]

  wanting_too : (names answered : Names) (last : List ℕ) → names ≡ answered ++ last ∷ [] → AreSeen answered → AreFirstWithin seen roots names → AreFirstWithin files roots names
  wanting_too names answered last is are first = elim first.within [
    | inl within ↦
        let before : AreWithin seen answered = within_before answered (last ∷ []) (subst (AreWithin seen) is within) in
        let same : AreSame answered = same_within answered are before.each in
        let also : AreFirst files roots names = first_too answered names last is same first.first in
        record { first = also; within = inr (last, record { before = answered; is = is; first = also; within = within_too answered same before }) }
    | inr (other, leads) ↦
        let also : LeadTo files roots names other =
        leads_by names other leads (subst AreSeen (same_before answered leads.before last other (sym is ∙ leads.is)) are) in
        record { first = also.first; within = inr (other, also) }
  ]

  end_too : (names : Names) (load : LoadEnd) → IsDecided load → AreSeen names → LoadEndIs seen roots names load → LoadEndIs files roots names load
  end_too names (loaded found) decided are is = (all_too names are is.0, loaded_too names are is.0 found is.1)
  end_too names (faults found) decided are is = (all_too names are is.0, faults_too names are is.0 found is.1, is.2)
  end_too names (unread name) decided are is = absurd decided
  end_too names too_many decided are is = many_too names are is
  end_too names (too_large name) decided are is = (
    leads_too names name are is.0,
    text_large (seen name) (files name) (are name (last_there is.0.before names name is.0.is)) is.1,
  )
  end_too names too_much decided are is = much_too names are is
  end_too names no_memory decided are is = absurd decided

-- where the map decided, all names were answered
answered_all : (names answered : Names) (load : LoadEnd) → IsDecided load → AreAnswered names answered load → names ≡ answered
answered_all names answered (loaded found) decided is = is
answered_all names answered (faults found) decided is = is
answered_all names answered (unread name) decided is = absurd decided
answered_all names answered too_many decided is = is
answered_all names answered (too_large name) decided is = is
answered_all names answered too_much decided is = is
answered_all names answered no_memory decided is = absurd decided

pub told_end : (before after : LibrarySeen) (roots : Names) (load : LoadEnd) (ended : HasEnded before after roots load) (files : Files) → before.told ≡ Some files
    → IsDecided load → LoadEndIs files roots ended.names load
told_end before after roots load ended files tells decided =
    end_too (map_of ended.answers) files roots ended.names load decided
    (λ name has. ended.as_told files tells name (subst (λ ns. Contains ns name) (answered_all ended.names (names_of ended.answers) load decided ended.answers_are) has)) ended.is

-- and so does each end where the map is told, whatever it is decided by
whole_end : (files : Files) (roots names answered : Names) (seen : Files) (load : LoadEnd) → AreAnswered names answered load
    → ((name : List ℕ) → Contains answered name → seen name ≡ seen_of files name) → LoadEndIs seen roots names load → LoadEndIs files roots names load
whole_end files roots names answered seen (unread name) is are ends = unread_too seen files roots names answered name is are ends
whole_end files roots names answered seen no_memory (inl all) are ends =
    answered_too seen files roots names (λ name has. are name (subst (λ ns. Contains ns name) all has)) ends
whole_end files roots names answered seen no_memory (inr (last, is)) are ends = wanting_too seen files roots names answered last is are ends
whole_end files roots names answered seen (loaded found) is are ends =
    end_too seen files roots names (loaded found) tt (λ name has. are name (subst (λ ns. Contains ns name) is has)) ends
whole_end files roots names answered seen (faults found) is are ends =
    end_too seen files roots names (faults found) tt (λ name has. are name (subst (λ ns. Contains ns name) is has)) ends
whole_end files roots names answered seen too_many is are ends =
    end_too seen files roots names too_many tt (λ name has. are name (subst (λ ns. Contains ns name) is has)) ends
whole_end files roots names answered seen (too_large name) is are ends =
    end_too seen files roots names (too_large name) tt (λ other has. are other (subst (λ ns. Contains ns other) is has)) ends
whole_end files roots names answered seen too_much is are ends =
    end_too seen files roots names too_much tt (λ name has. are name (subst (λ ns. Contains ns name) is has)) ends

pub told_whole : (before after : LibrarySeen) (roots : Names) (load : LoadEnd) → HasEnded before after roots load → (files : Files) → before.told ≡ Some files
    → EndsAsTold before after roots files load
told_whole before after roots load ended files tells = record {
  names = ended.names;
  put = ended.put;
  is = whole_end files roots ended.names (names_of ended.answers) (map_of ended.answers) load ended.answers_are (ended.as_told files tells) ended.is;
}
