-- The groups of a program: what holds of its successor lists holds of its calls.
use Rattle.std.proofs.Common.{◌≡◌, ◌<◌, ◌≤◌, ◌++◌, ℕ, List, [], Result, Ok, Err, Vec, Global, IfOk, All, Contains, Option, None, length, ap, refl, sym, subst, inl, inr, arith}
use Rattle.std.proofs.lemmas.Bool.{cases_lt}
use Rattle.std.proofs.lemmas.List.{get_or_past}
use Rattle.std.proofs.lemmas.List.Elements.{All-contains}
use Rattle.std.proofs.lemmas.Option.{slice_get_past}
use Rattle.list_laws.proofs.OneOrder.{nothing_in}
use Rattle.graph_law.specs.LegalOrder.{IsComplete, IsLegalOrder}
use Rattle.graph_law.specs.Reach.{Agree, IsReached}
use Rattle.graph_law.specs.Graph.{Calls, lists_of}
use Rattle.graph_law.specs.Classes.{HasMember, group_at}
use Rattle.graph_law.proofs.ReachLaws.{along_walk, is_reached_along}
use Rattle.graph_law.proofs.Transport.{Agree-sym, IsLegalOrder-agree, HaveHeights-agree, IsRecursive-agree}
use Rattle.group_release.specs.declared.level.Level.{Level}
use Rattle.group_release.specs.Level.{AreLevels}
use Rattle.import_rules.specs.Program.{Seen, places_in, places_at}
use Rattle.call_edges.specs.Calls.{NodeCalls}
use Rattle.call_edges.specs.Successors.{successor_lists}
use Rattle.call_edges.proofs.SuccessorLemmas.{lists_count, list_has, lists_closed}
use Rattle.group_words.specs.Settings.{Settings}
use Rattle.report_lines.specs.Reportable.{AreGroups, AreLeveled, AreReportable}
use Rattle.report_lines.proofs.Printable.{members_are_nodes, reportable_groups}
use Rattle.group_tool.specs.Driving.{AreInScheduleOrder}
use Rattle.tool_run.specs.Roots.{AreRootNumbers}
use Rattle.tool_run.specs.Say.{concatenated}
use Rattle.group_tool.specs.Asked.{IsGroupedOf}
use Rattle.group_tool.specs.Parts.{AreParts, IsPart, IsPathPart, TellEffects, TellLoops}
use Rattle.group_tool.specs.declared.asked.Grouped.{Grouped}
use Rattle.group_tool.specs.Groups.{IsOutput, ReportsProgram}

-- what has no number is defined nowhere
no_places : (seen : Seen) (p : ℕ) → length seen.predicates ≤ p → places_in seen p ≡ []
unfolding places_in
no_places seen p over = ap (places_at seen.loaded.files) (slice_get_past seen.predicates p over)

-- the successor lists are what the predicates call
pub lists_agree : (seen : Seen) → Agree (Calls (successor_lists seen)) (NodeCalls seen)
lists_agree seen = record {
  to = λ p q listed.
      elim (cases_lt p (length seen.predicates)) [
        | inl below ↦ (list_has seen p q below).0 listed
        | inr over ↦
            let none = get_or_past (successor_lists seen) p [] (omega (arith, over, lists_count seen)) in
            absurd (nothing_in q (subst (λ list. Contains list q) none listed))
      ];
  from = λ p q call.
      elim (cases_lt p (length seen.predicates)) [
        | inl below ↦ (list_has seen p q below).1 call
        | inr over ↦ absurd (nothing_in call.is.one (subst (λ places. Contains places call.is.one) (no_places seen p over) call.is.has))
      ];
}

pub AreGroups-agree : {c d : ℕ → ℕ → Type 0} {starts : List ℕ} {groups : List (List ℕ)} → Agree c d → AreGroups c starts groups → AreGroups d starts groups
AreGroups-agree {c} {d} {starts} {groups} agree are = record {
  legal = IsLegalOrder-agree agree are.legal;
  complete = are.complete;
  reached = λ p has. is_reached_along c d agree.to starts p (are.reached p has);
}

pub AreLevels-agree : {c d : ℕ → ℕ → Type 0} {groups : List (List ℕ)} {levels : List Level} → Agree c d → AreLevels c groups levels → AreLevels d groups levels
AreLevels-agree {c} {d} {groups} {levels} agree are = record {
  heights = HaveHeights-agree agree are.heights;
  marks = λ i lt. (
    (λ marked. IsRecursive-agree (group_at groups i) agree ((are.marks i lt).0 marked)),
    (λ recursive. (are.marks i lt).1 (IsRecursive-agree (group_at groups i) (Agree-sym agree) recursive)),
  );
}

pub leveled_calls : (seen : Seen) (roots : List ℕ) (groups : List (List ℕ)) (levels : List Level) → AreGroups (Calls (successor_lists seen)) roots groups
    → AreLevels (Calls (successor_lists seen)) groups levels → AreLeveled (NodeCalls seen) roots groups levels
leveled_calls seen roots groups levels are leveled = record { are = AreGroups-agree (lists_agree seen) are; leveled = AreLevels-agree (lists_agree seen) leveled }

-- the roots have successor lists
pub roots_listed : (seen : Seen) (roots : List ℕ) → All (λ q. q < length seen.predicates) roots → All (λ root. root < length (successor_lists seen)) roots
roots_listed seen roots below k d less = omega (arith, below k d less, lists_count seen)

-- and so have the members of groups that they reach
pub members_listed : (seen : Seen) (roots : List ℕ) (groups : List (List ℕ)) → All (λ q. q < length seen.predicates) roots → AreGroups (Calls (successor_lists seen)) roots groups
    → (p : ℕ) → HasMember groups p → p < length (successor_lists seen)
members_listed seen roots groups below are p has =
    members_are_nodes (successor_lists seen) (lists_closed seen) (roots_listed seen roots below) are.reached p has

-- what is leveled can be reported
pub reportable : (seen : Seen) (roots : List ℕ) (groups : List (List ℕ)) (levels : List Level) → All (λ q. q < length seen.predicates) roots
    → AreLeveled (Calls (successor_lists seen)) roots groups levels → AreReportable (length seen.predicates) groups levels
reportable seen roots groups levels below is =
    reportable_groups (successor_lists seen) (length seen.predicates) (lists_closed seen) (lists_count seen) (roots_listed seen roots below) is

pub reports : (settings : Settings) (seen : Seen) (roots : List ℕ) (groups : List (List ℕ)) (levels : List Level) (first parts bytes : List ℕ) → AreRootNumbers settings.roots seen roots
    → AreLeveled (Calls (successor_lists seen)) roots groups levels → AreInScheduleOrder settings.searches (successor_lists seen) roots groups
    → IsOutput settings.make settings.order settings.unreached seen groups levels first → AreParts settings seen groups levels parts → bytes ≡ first ++ parts
    → ReportsProgram settings seen bytes
reports settings seen roots groups levels first parts bytes are leveled order output are_parts is = record {
  roots = roots;
  are_roots = are;
  groups = groups;
  levels = levels;
  leveled = leveled_calls seen roots groups levels leveled.are leveled.leveled;
  order = order;
  report = first;
  output = output;
  parts = parts;
  are_parts = are_parts;
  is = is;
}

-- what is grouped can be reported
pub grouped_reportable : (settings : Settings) (seen : Seen) (grouped : Grouped) → IsGroupedOf settings seen grouped
    → AreReportable (length seen.predicates) (lists_of grouped.groups.now) grouped.levels.now
grouped_reportable settings seen grouped is =
    reportable seen grouped.asked.now.roots.items (lists_of grouped.groups.now) grouped.levels.now is.asked.below is.leveled

-- without searches no order of the groups is asked for
pub unordered : (searches : Option (ℕ × ℕ)) (lists : List (List ℕ)) (roots : List ℕ) (groups : List (List ℕ)) → searches ≡ None
    → AreInScheduleOrder searches lists roots groups
unordered searches lists roots groups none = subst (λ s. AreInScheduleOrder s lists roots groups) (sym none) tt

-- the report and the parts after it
pub reported : {E : Type 0} (r : Result (Vec (Vec ℕ Global) Global) E) (settings : Settings) (seen : Seen) (grouped : Grouped) (lines effects loops path : List ℕ)
    → IsGroupedOf settings seen grouped
    → IsOutput settings.make settings.order settings.unreached seen (lists_of grouped.groups.now) grouped.levels.now lines
    → IsPart settings.effects (TellEffects seen (lists_of grouped.groups.now) grouped.levels.now) effects
    → IsPart settings.loops (TellLoops seen (lists_of grouped.groups.now) grouped.levels.now) loops → IsPathPart settings.path seen path
    → IfOk r (λ texts. concatenated texts.items ≡ lines ++ (effects ++ loops ++ path)) → IfOk r (λ texts. ReportsProgram settings seen (concatenated texts.items))
reported {E} (Ok texts) settings seen grouped lines effects loops path is output are_effects are_loops are_path joins =
    reports settings seen grouped.asked.now.roots.items (lists_of grouped.groups.now) grouped.levels.now lines (effects ++ loops ++ path) (concatenated texts.items)
    is.asked.roots is.leveled is.order output
    (record { effects = effects; are_effects = are_effects; loops = loops; are_loops = are_loops; path = path; are_path = are_path; is = refl }) joins
reported {E} (Err error) settings seen grouped lines effects loops path is output are_effects are_loops are_path joins = tt

-- the groups that a search over the calls of the program ensures are those of its successor lists
pub searched : {X E : Type 0} (r : Result X E) (groups_in : X → List (List ℕ)) (seen called : Seen) (roots : List ℕ) → called ≡ seen
    → IfOk r (λ found. IsLegalOrder (Calls (successor_lists called)) (groups_in found)) → IfOk r (λ found. IsComplete roots (groups_in found))
    → IfOk r (λ found. (p : ℕ) → HasMember (groups_in found) p → IsReached (Calls (successor_lists called)) roots p)
    → IfOk r (λ found. AreGroups (Calls (successor_lists seen)) roots (groups_in found))
searched {X} {E} (Ok found) groups_in seen called roots same legal complete reached =
    subst (λ (s : Seen). AreGroups (Calls (successor_lists s)) roots (groups_in found)) same (record { legal = legal; complete = complete; reached = reached })
searched {X} {E} (Err error) groups_in seen called roots same legal complete reached = tt
