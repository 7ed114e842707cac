-- Words over a map of texts have one answer.
use Rattle.std.proofs.Common.{◌≡◌, ℕ, ◌≤◌, List, Bool, length, true, false, Option, Some, None, ap, sym, subst, ◌∙◌, refl, inl, inr, arith}
use Rattle.edge_json.specs.declared.cause.LineFault.{LineFault}
use Rattle.edge_json.specs.Faults.{IsFirstFault as IsFirstLineFault}
use Rattle.edge_text.specs.declared.fault.Fault.{Fault}
use Rattle.edge_text.specs.Faults.{IsFirstFault}
use Rattle.file_library.specs.Library.{Files}
use Rattle.component_answer.specs.declared.answer.Answer.{Answer}
use Rattle.component_answer.specs.declared.answer.Wanted.{Wanted}
use Rattle.component_answer.specs.declared.answer.Answer.TheVariants as of_answer
use Rattle.component_answer.specs.Answers.{HasManyNodes, HasNoNode, IsAnswer as IsTextAnswer, IsSaidReport}
use Rattle.component_answer.specs.Inputs.{IsFaultless, IsFirstFaultIn, line_fault, said_by, word_fault}
use Rattle.component_answer.specs.declared.answer.TextFault.{TextFault}
use Rattle.component_answer.specs.Starts.{IsFirstMissing}
use Rattle.component_answer.proofs.OneNames.{none_missing, one_missing, one_names}
use Rattle.byte_names.specs.Names.{name_at}
use Rattle.edge_text.specs.declared.limits.TheConstants.{MOST_NODES}
use Rattle.edge_text.specs.EdgeGraph.{AreNames, Said}
use Rattle.component_tool.specs.End.{End, end_of_answer, faulty, no_node, output}
use Rattle.component_tool.specs.Run.{wanted_of, IsAnswer, IsAnswered, IsLawfulAnswer, IsTextEnd}
use Rattle.component_words.specs.Settings.{AreLawful, Settings}

abbrev OneFault : Type 0
OneFault = (text : List ℕ) (fault other : Fault) → IsFirstFault text fault → IsFirstFault text other → fault ≡ other

abbrev OneLineFault : Type 0
OneLineFault = (text : List ℕ) (fault other : LineFault) → IsFirstLineFault text fault → IsFirstLineFault text other → fault ≡ other

abbrev OneReport : Type 0
OneReport =
    (said : Said) (roots : List (List ℕ)) (wanted : Wanted) (bytes other : List ℕ) → wanted.order ≡ false → IsSaidReport said roots wanted bytes
    → IsSaidReport said roots wanted other → bytes ≡ other

abbrev OneSetting : Type 0
OneSetting = (words : List (List ℕ)) (settings other : Settings) → AreLawful words settings → AreLawful words other → settings ≡ other

module _ (one_fault : OneFault) (one_line : OneLineFault) (one_report : OneReport) (file text : List ℕ) (roots : List (List ℕ)) (wanted : Wanted) (plain : wanted.order ≡ false) where
  abbrev said : Said
  said = said_by wanted.from_json text

  -- a text has one first fault, and none if it is faultless
  same_fault : (from_json : Bool) (f g : TextFault) → IsFirstFaultIn from_json text f → IsFirstFaultIn from_json text g → f ≡ g
  same_fault true f g p q =
      let same = one_line text (line_fault f) (line_fault g) p.1 q.1 in
      let columns : f.column ≡ g.column = p.0 ∙ sym q.0 in
      λ i. record { line = (same i).line; column = columns i; cause = (same i).cause }
  same_fault false f g p q =
      let same = one_fault text (word_fault f) (word_fault g) p.1 q.1 in
      let causes : f.cause ≡ g.cause = p.0 ∙ sym q.0 in
      λ i. record { line = (same i).line; column = (same i).column; cause = causes i }

  no_fault : (from_json : Bool) (f : TextFault) → IsFirstFaultIn from_json text f → IsFaultless from_json text → ⊥
  no_fault true f p none = none (line_fault f) p.1.is
  no_fault false f p none = none (word_fault f) p.1.is

  -- a text past the limit of nodes has no names within it
  few_nodes : (names : List (List ℕ)) → AreNames said names → length names ≤ MOST_NODES → HasManyNodes said → ⊥
  few_nodes names are few many =
      let same : length names ≡ length many.names = ap length (one_names said names many.names are many.are) in omega (arith, few, many.many, same)

  no_missing : (place : ℕ) (bytes : List ℕ) → HasNoNode said roots place → IsSaidReport said roots wanted bytes → ⊥
  no_missing place bytes missing report =
      none_missing report.names roots report.starts place report.are_starts
      (subst (λ names. IsFirstMissing names roots place) (one_names said missing.names report.names missing.are report.graph.nodes) missing.first)

  same_missing : (place other : ℕ) → HasNoNode said roots place → HasNoNode said roots other → place ≡ other
  same_missing place other is also =
      one_missing also.names roots place other
      (subst (λ names. IsFirstMissing names roots place) (one_names said is.names also.names is.are also.are) is.first) also.first

  -- a text has one answer
  one_said : (a b : Answer) → IsTextAnswer text roots wanted a → IsTextAnswer text roots wanted b → end_of_answer file roots a ≡ end_of_answer file roots b
  one_said (of_answer.Fault f) (of_answer.Fault g) p q = ap (faulty file) (same_fault wanted.from_json f g p q)
  one_said (of_answer.Fault f) of_answer.TooManyEdges p q = absurd (no_fault wanted.from_json f p q.0)
  one_said (of_answer.Fault f) of_answer.TooManyNodes p q = absurd (no_fault wanted.from_json f p q.0)
  one_said (of_answer.Fault f) (of_answer.NoNode other) p q = absurd (no_fault wanted.from_json f p q.0)
  one_said (of_answer.Fault f) (of_answer.Report more) p q = absurd (no_fault wanted.from_json f p q.0)
  one_said of_answer.TooManyEdges (of_answer.Fault g) p q = absurd (no_fault wanted.from_json g q p.0)
  one_said of_answer.TooManyNodes (of_answer.Fault g) p q = absurd (no_fault wanted.from_json g q p.0)
  one_said (of_answer.NoNode place) (of_answer.Fault g) p q = absurd (no_fault wanted.from_json g q p.0)
  one_said (of_answer.Report bytes) (of_answer.Fault g) p q = absurd (no_fault wanted.from_json g q p.0)
  one_said of_answer.TooManyEdges of_answer.TooManyEdges p q = refl
  one_said of_answer.TooManyEdges of_answer.TooManyNodes p q = let none : ⊥ = omega (arith, p.1, q.1.0) in absurd none
  one_said of_answer.TooManyEdges (of_answer.NoNode other) p q = let none : ⊥ = omega (arith, p.1, q.1.0) in absurd none
  one_said of_answer.TooManyEdges (of_answer.Report more) p q = let none : ⊥ = omega (arith, p.1, q.1.0) in absurd none
  one_said of_answer.TooManyNodes of_answer.TooManyEdges p q = let none : ⊥ = omega (arith, p.1.0, q.1) in absurd none
  one_said of_answer.TooManyNodes of_answer.TooManyNodes p q = refl
  one_said of_answer.TooManyNodes (of_answer.NoNode other) p q = absurd (few_nodes q.1.1.names q.1.1.are q.1.1.few p.1.1)
  one_said of_answer.TooManyNodes (of_answer.Report more) p q = absurd (few_nodes q.1.1.names q.1.1.graph.nodes q.1.1.few p.1.1)
  one_said (of_answer.NoNode place) of_answer.TooManyEdges p q = let none : ⊥ = omega (arith, p.1.0, q.1) in absurd none
  one_said (of_answer.NoNode place) of_answer.TooManyNodes p q = absurd (few_nodes p.1.1.names p.1.1.are p.1.1.few q.1.1)
  one_said (of_answer.NoNode place) (of_answer.NoNode other) p q = ap (λ k. no_node (name_at roots k)) (same_missing place other p.1.1 q.1.1)
  one_said (of_answer.NoNode place) (of_answer.Report more) p q = absurd (no_missing place more.items p.1.1 q.1.1)
  one_said (of_answer.Report bytes) of_answer.TooManyEdges p q = let none : ⊥ = omega (arith, p.1.0, q.1) in absurd none
  one_said (of_answer.Report bytes) of_answer.TooManyNodes p q = absurd (few_nodes p.1.1.names p.1.1.graph.nodes p.1.1.few q.1.1)
  one_said (of_answer.Report bytes) (of_answer.NoNode other) p q = absurd (no_missing other bytes.items q.1.1 p.1.1)
  one_said (of_answer.Report bytes) (of_answer.Report more) p q = ap output (one_report said roots wanted bytes.items more.items plain p.1.1 q.1.1)

one_answered : OneFault → OneLineFault → OneReport → (settings : Settings) (text : List ℕ) (end other : End) → settings.order ≡ false → IsAnswered settings text end
    → IsAnswered settings text other → end ≡ other
one_answered one_fault one_line one_report settings text end other plain is also =
    is.is
    ∙ (one_said one_fault one_line one_report settings.file text settings.roots (wanted_of settings) plain is.answer also.answer is.right also.right ∙ sym also.is)

one_text_end : OneFault → OneLineFault → OneReport → (settings : Settings) (text : Option (List ℕ)) (end other : End) → settings.order ≡ false
    → IsTextEnd settings text end → IsTextEnd settings text other → end ≡ other
one_text_end one_fault one_line one_report settings None end other plain is also = is ∙ sym also
one_text_end one_fault one_line one_report settings (Some text) end other plain is also = elim is [
  | inl large ↦ elim also [
    | inl more ↦ large.is ∙ sym more.is
    | inr within ↦ let none : ⊥ = omega (arith, large.large, within.within) in absurd none
  ]
  | inr within ↦ elim also [
    | inl more ↦ let none : ⊥ = omega (arith, more.large, within.within) in absurd none
    | inr again ↦ one_answered one_fault one_line one_report settings text end other plain within again
  ]
]

one_lawful : OneFault → OneLineFault → OneReport → OneSetting → (words : List (List ℕ)) (files : Files) (end other : End)
    → ((settings : Settings) → AreLawful words settings → settings.order ≡ false)
    → IsLawfulAnswer words files end → IsLawfulAnswer words files other → end ≡ other
one_lawful one_fault one_line one_report one_setting words files end other plain is also =
    let same : also.settings ≡ is.settings = one_setting words also.settings is.settings also.lawful is.lawful in
    one_text_end one_fault one_line one_report is.settings (files is.settings.file) end other (plain is.settings is.lawful)
    is.right (subst (λ s. IsTextEnd s (files s.file) other) same also.right)

pub one_end : OneFault → OneLineFault → OneReport → OneSetting → (words : List (List ℕ)) (files : Files) (end other : End)
    → ((settings : Settings) → AreLawful words settings → settings.order ≡ false)
    → IsAnswer words files end → IsAnswer words files other → end ≡ other
one_end one_fault one_line one_report one_setting words files end other plain is also = elim is [
  | inl usage ↦ elim also [ inl more ↦ usage.1 ∙ sym more.1 | inr lawful ↦ absurd (usage.0 lawful.settings lawful.lawful) ]
  | inr lawful ↦ elim also [
    | inl more ↦ absurd (more.0 lawful.settings lawful.lawful)
    | inr again ↦ one_lawful one_fault one_line one_report one_setting words files end other plain lawful again
  ]
]
