-- What the code keeps of what is met, as it is seen.
use Rattle.std.specs.Prelude.{List, option_map, map}
use Rattle.call_edges.specs.declared.role.Met.{Met as MetKept}
use Rattle.call_edges.specs.declared.role.Met.TheVariants as kept
use Rattle.call_edges.specs.declared.role.Standing.{Standing as StandingKept}
use Rattle.call_edges.specs.declared.role.Standing.TheVariants as kept_standing
use Rattle.call_edges.specs.declared.role.Taken.{Taken as TakenKept}
use Rattle.call_edges.specs.Goals.{Met, call, fault, Standing, no_goals, by_row, as_declared, Taken}

abbrev pub see_met : MetKept → Met
see_met (kept.Call at owner name number arity more negated meant) = call at owner.now name.now arity more negated
see_met (kept.Fault at) = fault at

abbrev pub see_mets : List MetKept → List Met
see_mets mets = map see_met mets

abbrev pub see_standing : StandingKept → Standing
see_standing kept_standing.Silent = no_goals
see_standing (kept_standing.ByRow row) = by_row row
see_standing (kept_standing.Declared args) = as_declared args.now

abbrev pub see_taken : TakenKept → Taken
see_taken t = record { met = option_map see_met t.met; module_ = t.module.now; standing = see_standing t.standing; negated = t.negated }
