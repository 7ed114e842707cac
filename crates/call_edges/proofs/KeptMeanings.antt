-- What is kept of names is right, met after met.
use Rattle.std.proofs.Common.{◌≡◌, List, [], ◌++◌, Option, Some, None, sym, subst, append-nil}
use Rattle.std.specs.Prelude.{IfSome}
use Rattle.std.specs.Option.{option_to_list}
use Rattle.std.proofs.lemmas.List.Elements.{All-nil, All-push}
use Rattle.import_rules.specs.Program.{Seen}
use Rattle.call_edges.specs.declared.role.Met.{Met}
use Rattle.call_edges.specs.Meant.{IsMeant, AreMeant}

pub none_meant : (seen : Seen) (mets : List Met) → mets ≡ [] → AreMeant seen mets
none_meant seen mets empty = subst (AreMeant seen) (sym empty) (All-nil (IsMeant seen))

meant_option : (seen : Seen) (old : List Met) (one : Option Met) → IfSome one (IsMeant seen) → AreMeant seen old → AreMeant seen (old ++ option_to_list one)
meant_option seen old (Some m) is all = All-push (IsMeant seen) old m all is
meant_option seen old None is all = subst (AreMeant seen) (sym (append-nil old)) all

pub meant_more : (seen : Seen) (old new : List Met) (one : Option Met) → new ≡ old ++ option_to_list one → IfSome one (IsMeant seen) → AreMeant seen old → AreMeant seen new
meant_more seen old new one more is all = subst (AreMeant seen) (sym more) (meant_option seen old one is all)
