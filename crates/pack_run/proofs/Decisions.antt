-- How decisions are put together: what the first reader is asked, and what all readers are asked then.
use Rattle.std.proofs.Common.{◌≡◌, ℕ, List, [], ◌∷◌, ◌++◌, append-nil, inl, inr, refl, sym, ap, ◌∙◌, subst}
use Rattle.std.proofs.lemmas.List.Sorted.{IsPermutation-refl}
use Rattle.std.specs.List.{IsDistinct}
use Rattle.std.specs.Prelude.{nat_eq, Some, is_some, IsErrOf, IsTrue, Result, Ok, Err}
use Rattle.pack_util.specs.declared.number.TheConstants.{MAX_TEXT}
use Rattle.graph_types.specs.declared.config.Config.{Config}
use Rattle.outside.specs.Logs.{is_config, paths_for}
use Rattle.outside.specs.Reads.{read_of}
use Rattle.outside.specs.Tree.{Tree, bytes_at}
use Rattle.outside.specs.Views.{ReaderView}
use Rattle.outside.specs.declared.entry.ReadGot.{ReadGot}
use Rattle.outside.specs.declared.entry.Why.{Why}
use Rattle.outside.specs.declared.entry.Why.TheVariants as whys
use Rattle.outside.specs.declared.outside_end.OutsideEnd.{OutsideEnd}
use Rattle.outside.specs.declared.outside_end.OutsideEnd.TheVariants.{Failed, NoMemory}
use Rattle.tree_listing.specs.Listing.{IsListingOf, Listed}
use Rattle.tree_listing.specs.Lists.{IsAnswer}
use Rattle.tree_listing.specs.declared.list_end.ListEnd.{ListEnd}
use Rattle.tree_listing.specs.declared.list_end.ListEnd.TheVariants as list_ends
use Rattle.pack_run.specs.Reads.{NoneTwice}
use Rattle.pack_run.specs.Verdict.{IsMade, IsReadVerdict, IsTextVerdict, IsTreeVerdict}
use Rattle.pack_run.specs.inner.Decision.{Decides, DecidesAt, DecidesOn, ReadsConfig, ReadsFor}
use Rattle.pack_run.specs.inner.First.{AreReaders, Lists, OnFirst, Reads}
use Rattle.pack_run.specs.inner.Stop.{unlisted}
use Rattle.pack_run.specs.declared.verdict.Verdict.{Verdict}
use Rattle.pack_run.proofs.Readers.{AllZip-itself, follow_first, logs_first, logs_none, of_first, rose_first, rose_later, strays_first, strays_none, tell_first, told_first, weaker}

distinct_none : IsDistinct nat_eq []
unfolding IsDistinct
distinct_none = tt

none_twice : (tree : Tree) → NoneTwice tree []
none_twice tree = ([], distinct_none, refl)

pub reads_weaker : (Is Was : Verdict → List (List ℕ) → Type 0) (tree : Tree) (result : Result Verdict OutsideEnd) (reads : List (List ℕ × Why))
    → ((verdict : Verdict) (paths : List (List ℕ)) → Was verdict paths → Is verdict paths) → ReadsFor Was tree result reads → ReadsFor Is tree result reads
reads_weaker Is Was tree (Ok verdict) reads step fact = (fact.0, step verdict fact.0 fact.1, fact.2)
reads_weaker Is Was tree (Err Failed) reads step fact = fact
reads_weaker Is Was tree (Err NoMemory) reads step fact = tt

nothing_for : (Is : Verdict → List (List ℕ) → Type 0) (tree : Tree) (end : OutsideEnd) → ReadsFor Is tree (Err end) []
nothing_for Is tree Failed = none_twice tree
nothing_for Is tree NoMemory = tt

-- the configuration was read before, and no other is
config_read : (path : List ℕ) (result : Result Verdict OutsideEnd) (reads : List (List ℕ × Why)) → paths_for is_config reads ≡ [] → ReadsConfig path result (paths_for is_config ((path, whys.Config) ∷ reads))
config_read path (Ok verdict) reads none = ap (λ rest. path ∷ rest) none
config_read path (Err end) reads none = inr (ap (λ rest. path ∷ rest) none)

for_text : (path : List ℕ) (tree : Tree) (text : List ℕ) → bytes_at tree path ≡ Some text → (Was : Verdict → List (List ℕ) → Type 0) (result : Result Verdict OutsideEnd) (reads : List (List ℕ × Why))
    → ((verdict : Verdict) (paths : List (List ℕ)) → Was verdict paths → IsReadVerdict tree path text verdict paths) → ReadsFor Was tree result reads
    → ReadsFor (IsTextVerdict tree path (bytes_at tree path)) tree result ((path, whys.Config) ∷ reads)
for_text path tree text at Was (Ok verdict) reads step fact = (fact.0, subst (λ bytes. IsTextVerdict tree path bytes verdict fact.0) (sym at) (step verdict fact.0 fact.1), fact.2)
for_text path tree text at Was (Err Failed) reads step fact = fact
for_text path tree text at Was (Err NoMemory) reads step fact = tt

same_end : (end : OutsideEnd) → IsErrOf {T = Verdict} (Err end) Failed → IsErrOf {T = ReadGot} (Err end) Failed
same_end Failed failed = refl
same_end NoMemory failed = cc

module _ {R : Type 0} (follows : R → R → Type 0) (view : R → ReaderView) (are : AreReaders follows view) where
  -- ---- nothing is asked

  pub at_rest : (readers : List R) (Is : Tree → Verdict → List (List ℕ) → Type 0) (verdict : Verdict) → ((tree : Tree) → Is tree verdict [])
      → Decides follows view readers readers (Ok verdict) (λ tree. DecidesOn view (Is tree) tree readers readers (Ok verdict))
  at_rest readers Is verdict is = record {
    follow = AllZip-itself follows are.itself readers;
    cause = λ failed. cc;
    told = λ tree told. record { no_stray = strays_none view readers; reads = ([], logs_none view readers, refl, ([], is tree, IsPermutation-refl [])) };
  }

  no_memory : (readers : List R) (Is : Tree → Verdict → List (List ℕ) → Type 0)
      → Decides follows view readers readers (Err NoMemory) (λ tree. DecidesOn view (Is tree) tree readers readers (Err NoMemory))
  no_memory readers Is = record {
    follow = AllZip-itself follows are.itself readers;
    cause = λ failed. cc;
    told = λ tree told. record { no_stray = strays_none view readers; reads = ([], logs_none view readers, refl, tt) };
  }

  -- ---- the tree is listed

  module _ (config : Config) (path : List ℕ) (olds mids : List R) where
    pub after_listing : (listing : Listed) (news : List R) (result : Result Verdict OutsideEnd) → OnFirst (Lists follows view (Ok listing)) olds mids
        → Decides follows view mids news result (λ tree. IsListingOf tree listing → DecidesOn view (IsMade tree config path) tree mids news result)
        → Decides follows view olds news result (λ tree. DecidesOn view (IsTreeVerdict tree path config) tree olds news result)
    after_listing listing news result first then =
        let Step = Lists follows view (Ok listing) in
        record {
          follow = follow_first follows are.on olds mids news (weaker Step follows olds mids (λ old mid step. step.follow) first) then.follow;
          cause = λ failed. rose_later view olds mids news (weaker Step _ olds mids (λ old mid step. (are.keeps old mid step.follow).faults) first) (then.cause failed);
          told = λ tree told.
              let listed = told_first view Step tree olds mids told first in
              let Told = λ (old mid : R). Step old mid × ((view old).tree ≡ Some tree) in
              let told_now = tell_first view tree olds mids (weaker Step _ olds mids (λ old mid step. (are.keeps old mid step.follow).tree) first) told in
              let answer = of_first Told (IsAnswer tree (Ok listing)) olds mids (λ old mid step. (step.0.told tree step.1).answer) listed in
              let made = then.told tree told_now answer.0 in
              record {
                no_stray = strays_first view olds mids news (weaker Told _ olds mids (λ old mid step. (step.0.told tree step.1).no_stray) listed) made.no_stray;
                reads = (
                  made.reads.0,
                  logs_first view [] made.reads.0 olds mids news (weaker Told _ olds mids (λ old mid step. step.0.asks.log ∙ sym (append-nil (view old).log)) listed) made.reads.1,
                  made.reads.2,
                  reads_weaker (IsTreeVerdict tree path config) (IsMade tree config path) tree result made.reads.0
                      (λ verdict paths is. inr (answer.1, is)) made.reads.3,
                );
              };
        }

    nothing_read : (tree : Tree) (end : ListEnd) → IsAnswer tree (Err end) → ReadsFor (IsTreeVerdict tree path config) tree (unlisted end) []
    nothing_read tree (list_ends.Limit limit) answer = ([], inl (limit, answer, record { verdict_is = refl; paths_are = refl }), IsPermutation-refl [])
    nothing_read tree list_ends.Failed answer = none_twice tree
    nothing_read tree list_ends.NoMemory answer = tt

    failed_listing : (end : ListEnd) → IsErrOf (unlisted end) Failed → end ≡ list_ends.Failed
    failed_listing (list_ends.Limit limit) failed = cc
    failed_listing list_ends.Failed failed = refl
    failed_listing list_ends.NoMemory failed = cc

    -- no listing: a limit is the verdict, and any other end decides nothing
    no_listing : (end : ListEnd) → OnFirst (Lists follows view (Err end)) olds mids
        → Decides follows view olds mids (unlisted end) (λ tree. DecidesOn view (IsTreeVerdict tree path config) tree olds mids (unlisted end))
    no_listing end first =
        let Step = Lists follows view (Err end) in
        record {
          follow = follow_first follows are.on olds mids mids (weaker Step follows olds mids (λ old mid step. step.follow) first) (AllZip-itself follows are.itself mids);
          cause = λ failed. rose_first view olds mids (weaker Step _ olds mids (λ old mid step. step.asks.cause (ap (λ end. Err end) (failed_listing end failed))) first);
          told = λ tree told.
              let listed = told_first view Step tree olds mids told first in
              let Told = λ (old mid : R). Step old mid × ((view old).tree ≡ Some tree) in
              let answer = of_first Told (IsAnswer tree (Err end)) olds mids (λ old mid step. (step.0.told tree step.1).answer) listed in
              record {
                no_stray = strays_first view olds mids mids (weaker Told _ olds mids (λ old mid step. (step.0.told tree step.1).no_stray) listed) (strays_none view mids);
                reads = (
                  [],
                  logs_first view [] [] olds mids mids (weaker Told _ olds mids (λ old mid step. step.0.asks.log ∙ sym (append-nil (view old).log)) listed) (logs_none view mids),
                  refl,
                  nothing_read tree end answer,
                );
              };
        }

    pub no_listing_as : (end : ListEnd) (result : Result Verdict OutsideEnd) → result ≡ unlisted end → OnFirst (Lists follows view (Err end)) olds mids
        → Decides follows view olds mids result (λ tree. DecidesOn view (IsTreeVerdict tree path config) tree olds mids result)
    no_listing_as end result is first =
        subst (λ (result : Result Verdict OutsideEnd). Decides follows view olds mids result (λ tree. DecidesOn view (IsTreeVerdict tree path config) tree olds mids result)) (sym is) (no_listing end first)

  -- ---- the configuration is read

  module _ (path : List ℕ) (olds mids : List R) where
    there_by : (tree : Tree) (bytes : List ℕ) → bytes_at tree path ≡ Some bytes → IsTrue (is_some (bytes_at tree path))
    there_by tree bytes at = rw at refl

    -- the read gave nothing
    pub no_text : (end : OutsideEnd) (result : Result Verdict OutsideEnd) → result ≡ Err end → OnFirst (Reads follows view path (Err end)) olds mids
        → Decides follows view olds mids result (λ tree. DecidesAt view path tree olds mids result)
    no_text end result is first = subst (λ (result : Result Verdict OutsideEnd). Decides follows view olds mids result (λ tree. DecidesAt view path tree olds mids result)) (sym is)
        (let Step = Reads follows view path (Err end) in
        record {
          follow = follow_first follows are.on olds mids mids (weaker Step follows olds mids (λ old mid step. step.follow) first) (AllZip-itself follows are.itself mids);
          cause = λ failed. rose_first view olds mids (weaker Step _ olds mids (λ old mid step. step.reads.cause.failed (same_end end failed)) first);
          told = λ tree told.
              let read = told_first view Step tree olds mids told first in
              let Told = λ (old mid : R). Step old mid × ((view old).tree ≡ Some tree) in
              record {
                no_stray = λ there. strays_first view olds mids mids (weaker Told _ olds mids (λ old mid step. (step.0.reads.told tree step.1).no_stray there) read) (strays_none view mids);
                reads = (
                  [],
                  logs_first view [] [] olds mids mids (weaker Told _ olds mids (λ old mid step. (step.0.reads.told tree step.1).log ∙ sym (append-nil (view old).log)) read) (logs_none view mids),
                  inl refl,
                  nothing_for (IsTextVerdict tree path (bytes_at tree path)) tree end,
                );
              };
        })

    -- What is decided then, by what the text that was read means. Nothing is read as a configuration then.
    pub after_text : (got : ReadGot) (news : List R) (result : Result Verdict OutsideEnd) (Was : Tree → Verdict → List (List ℕ) → Type 0)
        → ((tree : Tree) (text : List ℕ) → got ≡ read_of MAX_TEXT text → (verdict : Verdict) (paths : List (List ℕ)) → Was tree verdict paths → IsReadVerdict tree path text verdict paths)
        → OnFirst (Reads follows view path (Ok got)) olds mids
        → Decides follows view mids news result (λ tree. DecidesOn view (Was tree) tree mids news result)
        → Decides follows view olds news result (λ tree. DecidesAt view path tree olds news result)
    after_text got news result Was meant first then =
        let Step = Reads follows view path (Ok got) in
        let own = (path, whys.Config) ∷ [] in
        record {
          follow = follow_first follows are.on olds mids news (weaker Step follows olds mids (λ old mid step. step.follow) first) then.follow;
          cause = λ failed. rose_later view olds mids news (weaker Step _ olds mids (λ old mid step. (are.keeps old mid step.follow).faults) first) (then.cause failed);
          told = λ tree told.
              let read = told_first view Step tree olds mids told first in
              let Told = λ (old mid : R). Step old mid × ((view old).tree ≡ Some tree) in
              let told_now = tell_first view tree olds mids (weaker Step _ olds mids (λ old mid step. (are.keeps old mid step.follow).tree) first) told in
              let Got = (bytes : List ℕ) × (bytes_at tree path ≡ Some bytes) × (got ≡ read_of MAX_TEXT bytes) in
              let text = of_first Told Got olds mids (λ old mid step. (step.0.reads.told tree step.1).got) read in
              let decides = then.told tree told_now in
              let there = there_by tree text.0 text.1 in
              record {
                no_stray = λ there. strays_first view olds mids news (weaker Told _ olds mids (λ old mid step. (step.0.reads.told tree step.1).no_stray there) read) decides.no_stray;
                reads = (
                  own ++ decides.reads.0,
                  logs_first view own decides.reads.0 olds mids news (weaker Told _ olds mids (λ old mid step. (step.0.reads.told tree step.1).log) read) decides.reads.1,
                  config_read path result decides.reads.0 decides.reads.2,
                  for_text path tree text.0 text.1 (Was tree) result decides.reads.0 (meant tree text.0 text.2) decides.reads.3,
                );
              };
        }

    -- there was no memory for what the text means
    pub no_meaning : (got : ReadGot) (result : Result Verdict OutsideEnd) → result ≡ Err NoMemory → OnFirst (Reads follows view path (Ok got)) olds mids
        → Decides follows view olds mids result (λ tree. DecidesAt view path tree olds mids result)
    no_meaning got result is first =
        subst (λ (result : Result Verdict OutsideEnd). Decides follows view olds mids result (λ tree. DecidesAt view path tree olds mids result)) (sym is)
        (after_text got mids (Err NoMemory) (λ tree verdict paths. ⊥) (λ tree text is verdict paths never. absurd never) first (no_memory mids (λ tree verdict paths. ⊥)))
