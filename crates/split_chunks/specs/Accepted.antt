-- Lists of splits that are accepted, and where one isn't (this project).
use Rattle.std.specs.Prelude.{◌≡◌, ◌<◌, List, [], ◌∷◌, length, slice_index_or, take, None, Some}
use Rattle.chunk_graph.specs.declared.split.Split.{Split}
use Rattle.chunk_graph.specs.Chunks.{State}
use Rattle.split_plan.specs.declared.candidate.Candidate.{Candidate}
use Rattle.split_plan.specs.Candidates.{IsCandidate}
use Rattle.split_plan.specs.Plan.{Plan}
use Rattle.split_plan.specs.Step.{after_split, reused_of, split_of}
use Rattle.split_chunks.specs.declared.check_end.CheckEnd.{CheckEnd}
use Rattle.split_chunks.specs.declared.check_end.CheckEnd.TheVariants.{Break, NoMemory}
use Rattle.split_chunks.specs.declared.split_rule.SplitBreak.{SplitBreak}
use Rattle.split_chunks.specs.Rules.{broken, claimed}

-- the split by a candidate, where there is a number for the chunk that it makes
pub record IsSplitBy (p : Plan) (s : State) (y : Split) (x : Candidate) : Type 0 where
  pub candidate : IsCandidate p s x
  pub is : y ≡ split_of p s x
  pub room : reused_of p s x ≡ None → length s.chunks < 8192

-- splits that lead from one state to another, each of which keeps all rules in the state before it
abbrev pub AreAccepted : Plan → State → List Split → State → Type 0
AreAccepted p s [] t = t ≡ s
AreAccepted p s (y ∷ ys) t = (broken p s y ≡ None) × AreAccepted p (after_split p s (claimed p s y)) ys t

-- the splits before this one are accepted and lead to the state, in which this one breaks the rule first
pub record IsBrokenAt (p : Plan) (s : State) (list : List Split) (t : State) (b : SplitBreak) : Type 0 where
  pub within : b.index < length list
  pub before : AreAccepted p s (take b.index list) t
  pub breaks : (d : Split) → broken p t (slice_index_or list b.index d) ≡ Some b.rule

abbrev pub IsRefused : Plan → State → List Split → State → CheckEnd → Type 0
IsRefused p s list t (Break b) = IsBrokenAt p s list t b
IsRefused p s list t NoMemory = Unit {0}
