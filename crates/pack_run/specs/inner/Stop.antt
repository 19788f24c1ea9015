-- What a tree comes to that wasn't listed, and what a graph comes to that was made or not (this project).
use Rattle.std.specs.Prelude.{◌≡◌, ℕ, List, Result, Ok, Err}
use Rattle.graph_types.specs.declared.config.Config.{Config}
use Rattle.make_rounds.specs.declared.grown.Grown.{Grown}
use Rattle.make_rounds.specs.declared.make_end.MakeEnd.{MakeEnd}
use Rattle.make_rounds.specs.declared.make_end.MakeEnd.TheVariants as make_ends
use Rattle.outside.specs.declared.outside_end.OutsideEnd.{OutsideEnd}
use Rattle.outside.specs.declared.outside_end.OutsideEnd.TheVariants as outside
use Rattle.tree_listing.specs.declared.list_end.ListEnd.{ListEnd}
use Rattle.tree_listing.specs.declared.list_end.ListEnd.TheVariants.{Failed, Limit, NoMemory}
use Rattle.pack_run.specs.Verdict.{IsGraphVerdict}
use Rattle.pack_run.specs.declared.verdict.Verdict.{Verdict}
use Rattle.pack_run.specs.declared.verdict.Verdict.TheVariants as verdicts

abbrev pub unlisted : ListEnd → Result Verdict OutsideEnd
unlisted (Limit limit) = Ok (verdicts.Limit limit)
unlisted Failed = Err outside.Failed
unlisted NoMemory = Err outside.NoMemory

-- the verdict of a graph, unless memory ran out
abbrev pub ComesOfGraph : Config → List ℕ → Grown → Result Verdict OutsideEnd → Type 0
ComesOfGraph config path grown (Ok verdict) = IsGraphVerdict grown.graph config path grown.graph.faults verdict
ComesOfGraph config path grown (Err end) = end ≡ outside.NoMemory

abbrev pub ComesOf : Config → List ℕ → Result Grown MakeEnd → Result Verdict OutsideEnd → Type 0
ComesOf config path (Ok grown) result = ComesOfGraph config path grown result
ComesOf config path (Err (make_ends.Limit limit)) result = result ≡ Ok (verdicts.Limit limit)
ComesOf config path (Err make_ends.ReadFault) result = result ≡ Err outside.Failed
ComesOf config path (Err make_ends.NoMemory) result = result ≡ Err outside.NoMemory
