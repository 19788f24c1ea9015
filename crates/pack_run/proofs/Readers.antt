-- Lists of readers of which the first made calls, and then some.
use Rattle.std.proofs.Common.{◌≡◌, ℕ, suc, ◌≤◌, length, List, [], ◌∷◌, ◌++◌, append-nil, append_assoc, refl, sym, ap, ◌∙◌, subst, inl, inr, arith}
use Rattle.std.specs.List.{AllZip}
use Rattle.std.specs.Prelude.{Some}
use Rattle.build_round.specs.Readers.{AllTell, LogsGain, NoStrays, SomeRose}
use Rattle.outside.specs.Cause.{Rose}
use Rattle.outside.specs.Tree.{Tree}
use Rattle.outside.specs.Views.{ReaderView}
use Rattle.outside.specs.declared.entry.Why.{Why}
use Rattle.pack_run.specs.inner.First.{OnFirst}

-- a count that rose from a later moment on rose from an earlier one
pub rose_before : (before between now : ℕ) → before ≤ between → Rose between now → Rose before now
rose_before before between now low rose = omega arith

module _ {R : Type 0} where
  pub weaker : (Step Then : R → R → Type 0) (olds mids : List R) → ((old mid : R) → Step old mid → Then old mid) → OnFirst Step olds mids → OnFirst Then olds mids
  weaker Step Then [] mids step first = absurd first
  weaker Step Then (old ∷ olds) [] step first = absurd first
  weaker Step Then (old ∷ olds) (mid ∷ mids) step first = (step old mid first.0, first.1)

  -- what follows of the first reader's calls, whatever the readers are
  pub of_first : (Step : R → R → Type 0) (Fact : Type 0) (olds mids : List R) → ((old mid : R) → Step old mid → Fact) → OnFirst Step olds mids → Fact
  of_first Step Fact [] mids step first = absurd first
  of_first Step Fact (old ∷ olds) [] step first = absurd first
  of_first Step Fact (old ∷ olds) (mid ∷ mids) step first = step old mid first.0

  -- there are as many readers as before
  pub as_many : (Step : R → R → Type 0) (olds mids : List R) → OnFirst Step olds mids → length mids ≡ length olds
  as_many Step [] mids first = absurd first
  as_many Step (old ∷ olds) [] first = absurd first
  as_many Step (old ∷ olds) (mid ∷ mids) first = ap (λ readers. suc (length readers)) first.1

  module _ (follows : R → R → Type 0) where
    pub AllZip-itself : ((one : R) → follows one one) → (readers : List R) → AllZip follows readers readers
    AllZip-itself itself [] = tt
    AllZip-itself itself (reader ∷ readers) = (itself reader, AllZip-itself itself readers)

    pub follow_first : ((one two three : R) → follows one two → follows two three → follows one three)
        → (olds mids news : List R) → OnFirst follows olds mids → AllZip follows mids news → AllZip follows olds news
    follow_first on [] mids news first all = absurd first
    follow_first on (old ∷ olds) [] news first all = absurd first
    follow_first on (old ∷ olds) (mid ∷ mids) [] first all = absurd all
    follow_first on (old ∷ olds) (mid ∷ mids) (new ∷ news) first all =
        (on old mid new first.0 all.0, subst (λ readers. AllZip follows readers news) first.1 all.1)

  module _ (view : R → ReaderView) where
    pub rose_first : (olds mids : List R) → OnFirst (λ old mid. Rose (view old).faults (view mid).faults) olds mids → SomeRose view olds mids
    rose_first [] mids first = absurd first
    rose_first (old ∷ olds) [] first = absurd first
    rose_first (old ∷ olds) (mid ∷ mids) first = inl first.0

    pub rose_later : (olds mids news : List R) → OnFirst (λ old mid. (view old).faults ≤ (view mid).faults) olds mids → SomeRose view mids news → SomeRose view olds news
    rose_later [] mids news first some = absurd first
    rose_later (old ∷ olds) [] news first some = absurd first
    rose_later (old ∷ olds) (mid ∷ mids) [] first some = absurd some
    rose_later (old ∷ olds) (mid ∷ mids) (new ∷ news) first (inl rose) = inl (rose_before (view old).faults (view mid).faults (view new).faults first.0 rose)
    rose_later (old ∷ olds) (mid ∷ mids) (new ∷ news) first (inr some) = inr (subst (λ readers. SomeRose view readers news) first.1 some)

    pub tell_first : (tree : Tree) (olds mids : List R) → OnFirst (λ old mid. (view mid).tree ≡ (view old).tree) olds mids → AllTell view olds tree → AllTell view mids tree
    tell_first tree [] mids first all = absurd first
    tell_first tree (old ∷ olds) [] first all = absurd first
    tell_first tree (old ∷ olds) (mid ∷ mids) first all = (first.0 ∙ all.0, subst (λ readers. AllTell view readers tree) (sym first.1) all.1)

    -- the first reader tells the tree that all tell
    pub told_first : (Step : R → R → Type 0) (tree : Tree) (olds mids : List R) → AllTell view olds tree → OnFirst Step olds mids → OnFirst (λ old mid. Step old mid × ((view old).tree ≡ Some tree)) olds mids
    told_first Step tree [] mids all first = absurd first
    told_first Step tree (old ∷ olds) [] all first = absurd first
    told_first Step tree (old ∷ olds) (mid ∷ mids) all first = ((first.0, all.0), first.1)

    pub strays_none : (readers : List R) → NoStrays view readers readers
    strays_none readers = AllZip-itself (λ old new. (view new).strays ≡ (view old).strays) (λ one. refl) readers

    pub strays_first : (olds mids news : List R) → OnFirst (λ old mid. (view mid).strays ≡ (view old).strays) olds mids → NoStrays view mids news → NoStrays view olds news
    strays_first olds mids news first all = follow_first (λ old new. (view new).strays ≡ (view old).strays) (λ one two three first then. then ∙ first) olds mids news first all

    pub logs_none : (readers : List R) → LogsGain view readers readers []
    logs_none [] = refl
    logs_none (reader ∷ readers) = ([], [], sym (append-nil (view reader).log), refl, logs_none readers)

    -- the first reader's reads come before those that all readers' logs gained then
    pub logs_first : (own reads : List (List ℕ × Why)) (olds mids news : List R) → OnFirst (λ old mid. (view mid).log ≡ (view old).log ++ own) olds mids
        → LogsGain view mids news reads → LogsGain view olds news (own ++ reads)
    logs_first own reads [] mids news first gains = absurd first
    logs_first own reads (old ∷ olds) [] news first gains = absurd first
    logs_first own reads (old ∷ olds) (mid ∷ mids) [] first gains = absurd gains
    logs_first own reads (old ∷ olds) (mid ∷ mids) (new ∷ news) first gains = (
      own ++ gains.0,
      gains.1,
      gains.2 ∙ ap (λ log. log ++ gains.0) first.0 ∙ append_assoc (view old).log own gains.0,
      ap (λ rest. own ++ rest) gains.3 ∙ sym (append_assoc own gains.0 gains.1),
      subst (λ readers. LogsGain view readers news gains.1) first.1 gains.4,
    )
