-- Words have one verdict on a tree where no limit is exceeded.
use Rattle.std.proofs.Common.{◌≡◌, ℕ, ◌≤◌, ◌⊎◌, List, [], ◌∷◌, inl, inr, length, refl, sym, subst, ap, ◌∙◌}
use Rattle.std.proofs.Props.{props}
use Rattle.std.specs.List.{list_all}
use Rattle.std.specs.Prelude.{IsTrue, Option, Some, None, Result, Ok, Err}
use mathlib.Core.HLevel.{is_prop→PathP}
use Rattle.fault_place.specs.declared.fault.Fault.{Fault}
use Rattle.fault_place.specs.declared.limit.Limit.{Limit}
use Rattle.graph_types.specs.CacheGroups.{is_counted}
use Rattle.graph_types.specs.Graphs.{IsGraphOf}
use Rattle.graph_types.specs.Modules.{Graph}
use Rattle.graph_types.specs.Parts.{is_part}
use Rattle.graph_types.specs.declared.config.Config.{Config}
use Rattle.graph_types.specs.declared.record.ModRecord.{ModRecord}
use Rattle.graph_types.specs.declared.template.Template.{Template}
use Rattle.make_rounds.specs.Graph.{Exceeded}
use Rattle.make_rounds.specs.Entries.{faults_by, files_by, root_naming}
use Rattle.module_build.specs.Readings.{AreReadings, Readings}
use Rattle.module_build.specs.Record.{record_of}
use Rattle.outside.specs.Tree.{Tree, bytes_at}
use Rattle.pack_config.specs.Answer.{AreAlike, AreSame, IsConfigAnswer}
use Rattle.pack_config.specs.declared.fault.ConfigFault.{ConfigFault}
use Rattle.seal_build.specs.Seal.{SealsTo}
use Rattle.seal_build.specs.declared.seal_end.SealEnd.{SealEnd}
use Rattle.seal_build.specs.declared.seal_end.SealEnd.TheVariants as seal_ends
use Rattle.seal_build.specs.declared.sealed.Sealed.{Sealed}
use Rattle.tree_listing.specs.Limits.{Exceeds}
use Rattle.pack_run.specs.WithinLimits.{ExceedsNone, HasConfig, IsLimit}
use Rattle.pack_run.specs.Verdict.{IsMadeBy, IsConfigVerdict, IsGraphVerdict, IsMade, IsOutcome, IsSealVerdict, IsTextVerdict, IsVerdict}
use Rattle.pack_run.specs.Accepted.{IsBuild}
use Rattle.pack_run.specs.declared.verdict.Verdict.{Verdict}
use Rattle.pack_run.specs.declared.verdict.Verdict.TheVariants.{Limit as Over}
use Rattle.pack_run.proofs.Jobs.{OneJob, one_build, refused_build}

-- ---- configurations with the same values are the same

same_template : (one other : Template) → one.parts ≡ other.parts → one ≡ other
same_template one other same = λ i. record {
  parts = same i;
  in_range = is_prop→PathP (λ j. IsTrue (list_all is_part (same j))) (λ j. hlevel props) one.in_range other.in_range i;
}

same_config : (one other : Config) → AreSame one other → one ≡ other
same_config one other same =
    let filename = same_template one.filename other.filename same.filename in
    let chunk_filename = same_template one.chunk_filename other.chunk_filename same.chunk_filename in
    λ i. record {
      entries = same.entries i;
      filename = filename i;
      chunk_filename = chunk_filename i;
      public_path = same.public_path i;
      alias = same.alias i;
      extensions = same.extensions i;
      main_fields = same.main_fields i;
      main_files = same.main_files i;
      conditions = same.conditions i;
      named_ids = same.named_ids i;
      merge_equal = same.merge_equal i;
      drop_empty = same.drop_empty i;
      cache_groups = same.cache_groups i;
      some_entry = is_prop→PathP (λ j. 1 ≤ length (same.entries j)) (λ j. hlevel props) one.some_entry other.some_entry i;
      few_groups = is_prop→PathP (λ j. length (same.cache_groups j) ≤ 16) (λ j. hlevel props) one.few_groups other.few_groups i;
      counted = is_prop→PathP (λ j. IsTrue (list_all is_counted (same.cache_groups j))) (λ j. hlevel props) one.counted other.counted i;
    }

same_answer : (one other : Result Config ConfigFault) → AreAlike one other → one ≡ other
same_answer (Ok one) (Ok other) alike = ap (λ (config : Config). Ok config) (same_config one other alike)
same_answer (Ok one) (Err fault) alike = absurd alike
same_answer (Err fault) (Ok other) alike = absurd alike
same_answer (Err one) (Err other) alike = ap (λ (fault : ConfigFault). Err fault) alike

-- ---- one verdict

-- the laws of the crates below
pub record Laws : Type 0 where
  pub jobs : OneJob
  pub config : (text : List ℕ) (one other : Result Config ConfigFault) → IsConfigAnswer text one → IsConfigAnswer text other → AreAlike one other
  pub readings : (one other : Readings) → AreReadings one → AreReadings other → one ≡ other
  pub graph : (record_of : ℕ → ModRecord) (entries : List (List ℕ)) (faults : List Fault) (one other : Graph) → IsGraphOf record_of entries faults one → IsGraphOf record_of entries faults other → one ≡ other
  pub seal : (graph : Graph) (config : Config) (path : List ℕ) (one other : Result Sealed SealEnd) → SealsTo graph config path one → SealsTo graph config path other → one ≡ other

-- What two verdicts on a tree come to: they are equal, or both are limits of the tree, or both limits of the make phase. Each of
-- these leads to the goal.
pub record Leads (words : List (List ℕ)) (readers : ℕ) (tree : Tree) (one other : Verdict) (Goal : Type 0) : Type 0 where
  pub equal : one ≡ other → Goal
  pub tree_limits : (limit limit' : Limit) → Exceeds tree limit → one ≡ Over limit → other ≡ Over limit' → Goal
  pub make_limits : (readings : Readings) (config : Config) → AreReadings readings → HasConfig words readers tree config
      → (limit limit' : Limit) → Exceeded readings tree config limit → one ≡ Over limit → other ≡ Over limit' → Goal

module _ (laws : Laws) (words : List (List ℕ)) (readers : ℕ) (tree : Tree) (one other : Verdict) (paths others : List (List ℕ)) where
  by_seal : (graph : Graph) (config : Config) (path : List ℕ) (sealed : Result Sealed SealEnd) → IsSealVerdict graph config path sealed one → IsSealVerdict graph config path sealed other → one ≡ other
  by_seal graph config path (Ok sealed) is also = is.0 ∙ sym also.0
  by_seal graph config path (Err (seal_ends.Faults faults)) is also = is ∙ sym also
  by_seal graph config path (Err (seal_ends.Limit limit)) is also = is ∙ sym also
  by_seal graph config path (Err seal_ends.NoMemory) is also = absurd is

  by_graph : (graph : Graph) (config : Config) (path : List ℕ) (faults : List Fault) → IsGraphVerdict graph config path faults one → IsGraphVerdict graph config path faults other → one ≡ other
  by_graph graph config path [] is also =
      let same = laws.seal graph config path is.0 also.0 is.1 also.1 in
      by_seal graph config path also.0 (subst (λ (sealed : Result Sealed SealEnd). IsSealVerdict graph config path sealed one) same is.2) also.2
  by_graph graph config path (fault ∷ faults) is also = is ∙ sym also

  by_outcome : (readings : Readings) (config : Config) (path : List ℕ) → IsOutcome readings tree config path one paths → IsOutcome readings tree config path other others → one ≡ other
  by_outcome readings config path is also =
      let naming = root_naming readings tree config in
      let same = laws.graph (record_of readings tree config) (files_by naming config) (faults_by naming config path) is.graph also.graph is.graph_is also.graph_is in
      by_graph also.graph config path also.graph.faults
      (subst (λ (graph : Graph). IsGraphVerdict graph config path graph.faults one) same is.verdict_is) also.verdict_is

  module _ (Goal : Type 0) (leads : Leads words readers tree one other Goal) where
    by_readings : (readings : Readings) (config : Config) (path : List ℕ) → AreReadings readings → HasConfig words readers tree config → IsMadeBy readings tree config path one paths → IsMadeBy readings tree config path other others → Goal
    by_readings readings config path right has (inl is) (inl also) = leads.make_limits readings config right has is.limit also.limit is.exceeded is.verdict_is also.verdict_is
    by_readings readings config path right has (inl is) (inr also) = absurd (also.0 is.limit is.exceeded)
    by_readings readings config path right has (inr is) (inl also) = absurd (is.0 also.limit also.exceeded)
    by_readings readings config path right has (inr is) (inr also) = leads.equal (by_outcome readings config path is.1 also.1)

    by_made : (config : Config) (path : List ℕ) → HasConfig words readers tree config → IsMade tree config path one paths → IsMade tree config path other others → Goal
    by_made config path has is also =
        let same = laws.readings is.readings also.readings is.right also.right in
        by_readings also.readings config path also.right has (subst (λ (readings : Readings). IsMadeBy readings tree config path one paths) same is.comes) also.comes

    by_answer : (path text : List ℕ) (answer : Result Config ConfigFault) → IsBuild words readers path → bytes_at tree path ≡ Some text → IsConfigAnswer text answer → IsConfigVerdict tree path text answer one paths → IsConfigVerdict tree path text answer other others → Goal
    by_answer path text (Err fault) names at answer_is is also = leads.equal (is.verdict_is ∙ sym also.verdict_is)
    by_answer path text (Ok config) names at answer_is (inl over) (inl also) = leads.tree_limits over.0 also.0 over.1 over.2.verdict_is also.2.verdict_is
    by_answer path text (Ok config) names at answer_is (inl over) (inr also) = absurd (also.0 over.0 over.1)
    by_answer path text (Ok config) names at answer_is (inr is) (inl over) = absurd (is.0 over.0 over.1)
    by_answer path text (Ok config) names at answer_is (inr is) (inr also) = by_made config path (path, text, names, at, answer_is) is.1 also.1

    by_text : (path : List ℕ) (bytes : Option (List ℕ)) → IsBuild words readers path → bytes_at tree path ≡ bytes → IsTextVerdict tree path bytes one paths → IsTextVerdict tree path bytes other others → Goal
    by_text path None names at is also = absurd is
    by_text path (Some text) names at is also =
        let same = same_answer is.answer also.answer (laws.config text is.answer also.answer is.answer_is also.answer_is) in
        by_answer path text also.answer names at also.answer_is
        (subst (λ (answer : Result Config ConfigFault). IsConfigVerdict tree path text answer one paths) same is.verdict_is) also.verdict_is

    pub both_verdicts : IsVerdict words readers tree one paths → IsVerdict words readers tree other others → Goal
    both_verdicts (inl is) (inl also) = leads.equal (is.1.verdict_is ∙ sym also.1.verdict_is)
    both_verdicts (inl is) (inr also) = absurd (refused_build words readers also.0 is.0 also.1)
    both_verdicts (inr is) (inl also) = absurd (refused_build words readers is.0 also.0 is.1)
    both_verdicts (inr is) (inr also) =
        let same = one_build laws.jobs words readers is.0 also.0 is.1 also.1 in
        by_text also.0 (bytes_at tree also.0) also.1 refl
        (subst (λ path. IsTextVerdict tree path (bytes_at tree path) one paths) same is.2) also.2

pub one_or_limits : (words : List (List ℕ)) (readers : ℕ) (tree : Tree) (one other : Verdict) → Leads words readers tree one other ((one ≡ other) ⊎ (IsLimit one × IsLimit other))
one_or_limits words readers tree one other = record {
  equal = λ same. inl same;
  tree_limits = λ limit limit' over is also. inr (subst IsLimit (sym is) tt, subst IsLimit (sym also) tt);
  make_limits = λ readings config right has limit limit' over is also. inr (subst IsLimit (sym is) tt, subst IsLimit (sym also) tt);
}

pub one_within : (words : List (List ℕ)) (readers : ℕ) (tree : Tree) (one other : Verdict) → ExceedsNone words readers tree → Leads words readers tree one other (one ≡ other)
one_within words readers tree one other none = record {
  equal = λ same. same;
  tree_limits = λ limit limit' over is also. absurd (none.of_tree limit over);
  make_limits = λ readings config right has limit limit' over is also. absurd (none.of_making readings config right has limit over);
}
