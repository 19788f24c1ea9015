-- No read of a sample tree's readers fails.
use Rattle.std.proofs.Common.{◌≡◌, ℕ, List, [], ◌∷◌, ap, inl, inr, sym, ◌∙◌, arith}
use Rattle.std.specs.List.{AllZip}
use Rattle.std.specs.Prelude.{IsErrOf, Result, Some}
use Rattle.build_round.specs.Readers.{AllTell, NoStrays, SomeRose}
use Rattle.outside.specs.Cause.{Rose}
use Rattle.outside.specs.MemReaders.{reading}
use Rattle.outside.specs.Readings.{Follows, IsUnfailing, Reading, first_reading, reader_view}
use Rattle.outside.specs.Tree.{Tree}
use Rattle.outside.specs.Views.{ReaderView}
use Rattle.outside.specs.declared.mem_reader.MemReader.{MemReader}
use Rattle.outside.specs.declared.outside_end.OutsideEnd.{OutsideEnd}
use Rattle.outside.specs.declared.outside_end.OutsideEnd.TheVariants.{Failed}
use Rattle.pack_run.specs.declared.verdict.Verdict.{Verdict}
use Rattle.pack_run.specs.inner.Decision.{Decides, DecidesOn}
use Rattle.pack_run.specs.inner.Fresh.{AreFresh, IsFresh}

-- a reader before its first call
pub fresh_first : (tree : Tree) (reader : MemReader) → reading reader ≡ first_reading tree [] [] → IsFresh tree reader
fresh_first tree reader is = record {
  told = ap (λ (r : Reading). r.tree) is;
  unfailing = record {
    calls = ap (λ (r : Reading). r.plan.calls) is;
    paths = ap (λ (r : Reading). r.paths) is;
    faults = ap (λ (r : Reading). r.plan.faults) is ∙ sym (ap (λ (r : Reading). r.strays) is);
  };
  strays = ap (λ (r : Reading). r.strays) is;
}

-- a reader that fails in strays alone, and meets none, doesn't fail
never_rose : (old new : Reading) → IsUnfailing old → old.strays ≡ 0 → Follows old new → new.strays ≡ old.strays → Rose old.plan.faults new.plan.faults → ⊥
never_rose old new unfailing none follows same rose =
    let was = unfailing.faults in
    let is = (follows.unfailing unfailing).faults in
    omega (arith, was, is, none, same, rose)

abbrev view : MemReader → ReaderView
view reader = reader_view (reading reader)

pub tell : (tree : Tree) (readers : List MemReader) → AreFresh tree readers → AllTell view readers tree
tell tree [] fresh = tt
tell tree (reader ∷ readers) fresh = (ap (λ tree. Some tree) fresh.0.told, tell tree readers fresh.1)

pub none_rose : (tree : Tree) (readers readers' : List MemReader) → AreFresh tree readers → AllZip (λ old new. Follows (reading old) (reading new)) readers readers'
    → NoStrays view readers readers' → SomeRose view readers readers' → ⊥
none_rose tree [] readers' fresh follow same some = some
none_rose tree (old ∷ olds) [] fresh follow same some = some
none_rose tree (old ∷ olds) (new ∷ news) fresh follow same (inl rose) = never_rose (reading old) (reading new) fresh.0.unfailing fresh.0.strays follow.0 same.0 rose
none_rose tree (old ∷ olds) (new ∷ news) fresh follow same (inr some) = none_rose tree olds news fresh.1 follow.1 same.1 some

-- deciding on the tree never ends with a failed read
pub never_fails : (tree : Tree) (readers readers' : List MemReader) (result : Result Verdict OutsideEnd) (Is : Tree → Verdict → List (List ℕ) → Type 0) → AreFresh tree readers
    → Decides (λ old new. Follows (reading old) (reading new)) view readers readers' result (λ tree. DecidesOn view (Is tree) tree readers readers' result) → IsErrOf result Failed → ⊥
never_fails tree readers readers' result Is fresh decides failed =
    none_rose tree readers readers' fresh decides.follow (decides.told tree (tell tree readers fresh)).no_stray (decides.cause failed)
