-- What a sample's verdict is, and what printing its lines leaves.
use Rattle.std.proofs.Common.{ℕ, List, [], ◌∷◌, inl, inr, refl, sym, subst}
use Rattle.std.specs.Prelude.{Result, Ok, Err, ⊤}
use Rattle.fault_place.specs.declared.fault.Fault.{Fault}
use Rattle.graph_types.specs.Modules.{Graph}
use Rattle.graph_types.specs.declared.config.Config.{Config as BuildConfig}
use Rattle.module_build.specs.Readings.{Readings}
use Rattle.outside.specs.Tree.{Tree}
use Rattle.outside.specs.Views.{SinkView}
use Rattle.seal_build.specs.declared.seal_end.SealEnd.{SealEnd}
use Rattle.seal_build.specs.declared.seal_end.SealEnd.TheVariants as seal_ends
use Rattle.seal_build.specs.declared.sealed.Sealed.{Sealed}
use Rattle.pack_run.specs.Report.{Adds}
use Rattle.pack_run.specs.Sample.{EndsSample, sample_lines}
use Rattle.pack_run.specs.Verdict.{IsGraphVerdict, IsMadeBy, IsSealVerdict, IsTreeVerdict, end_by}
use Rattle.pack_run.specs.declared.verdict.Verdict.{Verdict}
use Rattle.pack_run.specs.declared.verdict.Verdict.TheVariants.{Usage, Config, Limit, Faults, Built}
use Rattle.pack_run.specs.inner.Sampled.{IsOnSample}

-- a verdict that follows a configuration
abbrev IsOfTree : Verdict → Type 0
IsOfTree Usage = ⊥
IsOfTree (Config place kind) = ⊥
IsOfTree other = ⊤

module _ (config : BuildConfig) (path : List ℕ) (verdict : Verdict) where
  of_seal : (graph : Graph) (sealed : Result Sealed SealEnd) → IsSealVerdict graph config path sealed verdict → IsOfTree verdict
  of_seal graph (Ok sealed) is = subst IsOfTree (sym is.0) tt
  of_seal graph (Err (seal_ends.Faults faults)) is = subst IsOfTree (sym is) tt
  of_seal graph (Err (seal_ends.Limit limit)) is = subst IsOfTree (sym is) tt
  of_seal graph (Err seal_ends.NoMemory) is = absurd is

  of_graph : (graph : Graph) (faults : List Fault) → IsGraphVerdict graph config path faults verdict → IsOfTree verdict
  of_graph graph [] is = of_seal graph is.0 is.2
  of_graph graph (fault ∷ faults) is = subst IsOfTree (sym is) tt

  of_made : (readings : Readings) (tree : Tree) (paths : List (List ℕ)) → IsMadeBy readings tree config path verdict paths → IsOfTree verdict
  of_made readings tree paths (inl over) = subst IsOfTree (sym over.verdict_is) tt
  of_made readings tree paths (inr is) = of_graph is.1.graph is.1.graph.faults is.1.verdict_is

  of_tree : (tree : Tree) (paths : List (List ℕ)) → IsTreeVerdict tree path config verdict paths → IsOfTree verdict
  of_tree tree paths (inl over) = subst IsOfTree (sym over.2.verdict_is) tt
  of_tree tree paths (inr is) = of_made is.1.readings tree paths is.1.comes

module _ (n : ℕ) (lines lines' : SinkView (List ℕ)) where
  -- the lines of the verdict were printed
  pub printed : (verdict : Verdict) → IsOnSample n verdict → Adds lines lines' (sample_lines n verdict) → EndsSample n lines lines' (end_by verdict)
  printed Usage is added = absurd (of_tree is.1.0 _ Usage _ is.0 is.1.2)
  printed (Config place kind) is added = absurd (of_tree is.1.0 _ (Config place kind) _ is.0 is.1.2)
  printed (Limit limit) is added = (Limit limit, is.0, is.1, (refl, added))
  printed (Faults faults) is added = (Faults faults, is.0, is.1, (refl, added))
  printed (Built build) is added = (Built build, is.0, is.1, (refl, added))
