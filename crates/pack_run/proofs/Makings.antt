-- What making the graph leaves for the decision on the modules.
use Rattle.std.proofs.Common.{ℕ, List, map, inl, inr, refl, sym, subst}
use Rattle.std.proofs.lemmas.List.Sorted.{IsPermutation-refl}
use Rattle.std.specs.Prelude.{Result, Ok, Err, IsErrOf, IsPermutation}
use Rattle.graph_types.specs.declared.config.Config.{Config}
use Rattle.graph_types.specs.declared.record.ModRecord.{ModRecord}
use Rattle.make_rounds.specs.Make.{Makes}
use Rattle.make_rounds.specs.declared.grown.Grown.{Grown}
use Rattle.make_rounds.specs.declared.make_end.MakeEnd.{MakeEnd}
use Rattle.make_rounds.specs.declared.make_end.MakeEnd.TheVariants as ends
use Rattle.module_build.specs.Readings.{AreReadings, Readings}
use Rattle.module_build.specs.Reads.{file_path}
use Rattle.outside.specs.Tree.{Tree}
use Rattle.outside.specs.Views.{ReaderView}
use Rattle.outside.specs.declared.outside_end.OutsideEnd.{OutsideEnd}
use Rattle.outside.specs.declared.outside_end.OutsideEnd.TheVariants.{Failed}
use Rattle.pack_run.specs.Verdict.{IsMade}
use Rattle.pack_run.specs.inner.Decision.{DecidesOn}
use Rattle.pack_run.specs.inner.Stop.{ComesOf}
use Rattle.pack_run.specs.declared.verdict.Verdict.{Verdict}

module _ {R : Type 0} (view : R → ReaderView) (tree : Tree) (config : Config) (path : List ℕ) (readers readers' : List R) (readings : Readings) (right : AreReadings readings) where
  -- what comes of it decides
  pub of_making : (made : Result Grown MakeEnd) (result : Result Verdict OutsideEnd) → Makes view tree config path readers readers' made → ComesOf config path made result → DecidesOn view (IsMade tree config path) tree readers readers' result
  of_making (Ok grown) (Ok verdict) makes comes =
      let graph = grown.graph in
      let answer = makes.answer readings right in
      let reads = makes.reads readings right in
      let once = reads.2 in
      let paths = map (λ (rec : ModRecord). rec.path) graph.records in
      record {
        no_stray = makes.no_stray;
        reads = (
          reads.0,
          reads.1,
          once.2.no_config,
          (
            paths,
            record {
              readings = readings;
              right = right;
              comes = inr (answer.1, record { graph = graph; graph_is = answer.0; verdict_is = comes; paths_are = refl });
            },
            subst (IsPermutation paths) (sym once.2.are) once.1,
          ),
        );
      }
  of_making (Ok grown) (Err end) makes comes =
      let reads = makes.reads readings right in
      rw comes (record { no_stray = makes.no_stray; reads = (reads.0, reads.1, reads.2.2.no_config, tt) })
  of_making (Err (ends.Limit limit)) result makes comes =
      let reads = makes.reads readings right in
      let reached = reads.2 in
      let paths = map (file_path tree) reached.files in
      rw comes (record {
        no_stray = makes.no_stray;
        reads = (
          reads.0,
          reads.1,
          reached.are.no_config,
          (
            paths,
            record {
              readings = readings;
              right = right;
              comes = inl (record {
                limit = limit;
                exceeded = makes.answer readings right;
                verdict_is = refl;
                files = reached.files;
                distinct = reached.distinct;
                reached = reached.reached;
                paths_are = refl;
              });
            },
            subst (IsPermutation paths) (sym reached.are.are) (IsPermutation-refl paths),
          ),
        );
      })
  of_making (Err ends.ReadFault) result makes comes =
      let reads = makes.reads readings right in
      let reached = reads.2 in
      rw comes (record { no_stray = makes.no_stray; reads = (reads.0, reads.1, reached.are.no_config, (reached.files, reached.distinct, reached.are.are)) })
  of_making (Err ends.NoMemory) result makes comes =
      let reads = makes.reads readings right in
      rw comes (record { no_stray = makes.no_stray; reads = (reads.0, reads.1, reads.2, tt) })

-- a failed read is the make phase's
pub failed_in : (config : Config) (path : List ℕ) (made : Result Grown MakeEnd) (result : Result Verdict OutsideEnd) → ComesOf config path made result → IsErrOf result Failed → IsErrOf made ends.ReadFault
failed_in config path (Ok grown) (Ok verdict) comes failed = cc
failed_in config path (Ok grown) (Err end) comes failed = cc
failed_in config path (Err (ends.Limit limit)) result comes failed = cc
failed_in config path (Err ends.ReadFault) result comes failed = refl
failed_in config path (Err ends.NoMemory) result comes failed = cc
