-- From a configuration's bytes to the verdict of what they mean.
use Rattle.std.proofs.Common.{◌≡◌, ℕ, ◌<◌, Bool, true, false, cond, List, [], Ok, Err, length, inl, refl, subst, ◌∙◌, arith}
use Rattle.std.proofs.lemmas.Bool.Decides.{nat_tests}
use Rattle.std.specs.Prelude.{nat_le}
use Rattle.fault_place.specs.Place.{place_in}
use Rattle.pack_util.specs.declared.number.TheConstants.{MAX_TEXT}
use Rattle.fault_place.specs.declared.place.Place.{Place}
use Rattle.graph_types.specs.declared.config.Config.{Config as BuildConfig}
use Rattle.outside.specs.Reads.{read_of}
use Rattle.outside.specs.Tree.{Tree}
use Rattle.outside.specs.declared.entry.ReadGot.{ReadGot}
use Rattle.outside.specs.declared.entry.ReadGot.TheVariants.{Whole, TooLong as Above}
use Rattle.pack_config.specs.Answer.{IsConfigAnswer, size_limit}
use Rattle.pack_config.specs.Faults.{config_fault}
use Rattle.pack_config.specs.declared.fault.ConfigKind.{ConfigKind}
use Rattle.pack_config.specs.declared.fault.ConfigKind.TheVariants.{TooLong}
use Rattle.pack_run.specs.Verdict.{IsEarly, IsReadVerdict, IsTreeVerdict}
use Rattle.pack_run.specs.declared.decide.Meaning.TheVariants.{Config, Fault}
use Rattle.pack_run.specs.declared.verdict.Verdict.{Verdict}
use Rattle.pack_run.specs.declared.verdict.Verdict.TheVariants.{Config as Bad}
use Rattle.pack_run.specs.inner.Meanings.{MeansGot}

long_by : (b : Bool) (bytes : List ℕ) → Above ≡ cond b (Whole bytes) Above → b ≡ false
long_by true bytes is = cc
long_by false bytes is = refl

above : (size : ℕ) → nat_le size MAX_TEXT ≡ false → size_limit < size
above size long = grind (arith, nat_tests)

-- a text that was too long to be read means nothing
long_is : (bytes : List ℕ) → Above ≡ read_of MAX_TEXT bytes → IsConfigAnswer bytes (Err (config_fault TooLong 0))
long_is bytes is = inl (above (length bytes) (long_by (nat_le (length bytes) MAX_TEXT) bytes is), refl)

whole_by : (b : Bool) (one bytes : List ℕ) → Whole one ≡ cond b (Whole bytes) Above → one ≡ bytes
whole_by true one bytes is = cc
whole_by false one bytes is = cc

whole_is : (one bytes : List ℕ) → Whole one ≡ read_of MAX_TEXT bytes → one ≡ bytes
whole_is one bytes is = whole_by (nat_le (length bytes) MAX_TEXT) one bytes is

module _ (tree : Tree) (path text : List ℕ) where
  pub meant_config : (got : ReadGot) (config : BuildConfig) → MeansGot path got (Config config) → got ≡ read_of MAX_TEXT text
      → (verdict : Verdict) (paths : List (List ℕ)) → IsTreeVerdict tree path config verdict paths → IsReadVerdict tree path text verdict paths
  meant_config (Whole bytes) config means is verdict paths of_tree = record {
    answer = Ok config;
    answer_is = subst (λ text. IsConfigAnswer text (Ok config)) (whole_is bytes text is) means;
    verdict_is = of_tree;
  }
  meant_config Above config means is verdict paths of_tree = cc

  pub meant_fault : (got : ReadGot) (place : Place) (kind : ConfigKind) → MeansGot path got (Fault place kind) → got ≡ read_of MAX_TEXT text
      → (verdict : Verdict) (paths : List (List ℕ)) → IsEarly (Bad place kind) verdict paths → IsReadVerdict tree path text verdict paths
  meant_fault (Whole bytes) place kind means is verdict paths early =
      let same = whole_is bytes text is in
      record {
        answer = Err means.0;
        answer_is = subst (λ text. IsConfigAnswer text (Err means.0)) same means.1;
        verdict_is = record {
          verdict_is = early.verdict_is ∙ (λ i. Bad ((means.2 ∙ (λ j. place_in path (same j) means.0.offset)) i) (means.3 i));
          paths_are = early.paths_are;
        };
      }
  meant_fault Above place kind means is verdict paths early =
      let at : place ≡ place_in path [] 0 = cc in
      let of : kind ≡ TooLong = cc in
      record {
        answer = Err (config_fault TooLong 0);
        answer_is = long_is text is;
        verdict_is = record { verdict_is = early.verdict_is ∙ (λ i. Bad (at i) (of i)); paths_are = early.paths_are };
      }
