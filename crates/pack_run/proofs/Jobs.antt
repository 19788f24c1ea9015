-- Words ask for one thing.
use Rattle.std.proofs.Common.{◌≡◌, ℕ, List, Some, None, inl, inr, refl, subst}
use Rattle.std.specs.Prelude.{Option, is_some, IsTrue}
use Rattle.cli_words.specs.Words.{IsJob}
use Rattle.cli_words.specs.declared.job.Job.{Job}
use Rattle.cli_words.specs.declared.job.Job.TheVariants.{Build, Sample}
use Rattle.outside.specs.Tree.{Tree, bytes_at}
use Rattle.pack_run.specs.Accepted.{IsBuild, IsRefused, IsSample}
use Rattle.pack_run.specs.Verdict.{IsMissing, IsTextVerdict, IsVerdict}
use Rattle.pack_run.specs.declared.verdict.Verdict.{Verdict}

abbrev pub OneJob : Type 0
OneJob = (words : List (List ℕ)) (one other : Job) → IsJob words one → IsJob words other → one ≡ other

config_same : (one other : List ℕ) (number also : Option ℕ) → Build one number ≡ Build other also → one ≡ other
config_same one other number also same = cc

count_same : (one other : ℕ) (number also : Option ℕ) → Sample one number ≡ Sample other also → one ≡ other
count_same one other number also same = cc

never_both : (config : List ℕ) (n : ℕ) (number also : Option ℕ) → Build config number ≡ Sample n also → ⊥
never_both config n number also same = cc

module _ (words : List (List ℕ)) (readers : ℕ) where
  pub refused_build : (config : List ℕ) → IsRefused words readers → IsBuild words readers config → ⊥
  refused_build config refused build = refused (Build config build.0) build.1

  pub refused_sample : (n : ℕ) → IsRefused words readers → IsSample words readers n → ⊥
  refused_sample n refused sample = refused (Sample n sample.0) sample.1

module _ (one_job : OneJob) (words : List (List ℕ)) (readers : ℕ) where
  pub one_build : (one other : List ℕ) → IsBuild words readers one → IsBuild words readers other → one ≡ other
  one_build one other is also = config_same one other is.0 also.0 (one_job words (Build one is.0) (Build other also.0) is.1.0 also.1.0)

  pub one_sample : (one other : ℕ) → IsSample words readers one → IsSample words readers other → one ≡ other
  one_sample one other is also = count_same one other is.0 also.0 (one_job words (Sample one is.0) (Sample other also.0) is.1.0 also.1.0)

  pub build_or_sample : (config : List ℕ) (n : ℕ) → IsBuild words readers config → IsSample words readers n → ⊥
  build_or_sample config n is also = never_both config n is.0 also.0 (one_job words (Build config is.0) (Sample n also.0) is.1.0 also.1.0)

  -- where the configuration is missing, there is no verdict
  pub none_missing : (tree : Tree) → IsMissing words readers tree → (verdict : Verdict) (paths : List (List ℕ)) → IsVerdict words readers tree verdict paths → ⊥
  none_missing tree missing verdict paths (inl is) = refused_build words readers missing.0 is.0 missing.1
  none_missing tree missing verdict paths (inr is) =
      let same = one_build is.0 missing.0 is.1 missing.1 in
      let none = subst (λ path. IsTextVerdict tree path (bytes_at tree path) verdict paths) same is.2 in
      subst (λ bytes. IsTextVerdict tree missing.0 bytes verdict paths) missing.2 none

-- a configuration that the words name is there, unless it is missing
there_by : (words : List (List ℕ)) (readers : ℕ) (tree : Tree) (config : List ℕ) (bytes : Option (List ℕ)) → IsBuild words readers config → bytes_at tree config ≡ bytes → (IsMissing words readers tree → ⊥) → IsTrue (is_some bytes)
there_by words readers tree config None is at there = absurd (there (config, is, at))
there_by words readers tree config (Some bytes) is at there = refl

pub is_there : (words : List (List ℕ)) (readers : ℕ) (tree : Tree) (config : List ℕ) → IsBuild words readers config → (IsMissing words readers tree → ⊥) → IsTrue (is_some (bytes_at tree config))
is_there words readers tree config is there = there_by words readers tree config (bytes_at tree config) is refl there
