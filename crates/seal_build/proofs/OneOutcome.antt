-- A graph and a configuration are sealed to one thing.
use Rattle.std.proofs.Common.{◌≡◌, ℕ, ◌<◌, Bool, true, false, List, [], length, get_or, refl, sym, ap, subst, ◌∙◌, inl, inr, arith}
use Rattle.std.specs.Prelude.{Result, Ok, Err}
use Rattle.std.proofs.lemmas.List.{ext_get_or}
use Rattle.std.proofs.lemmas.List.Elements.{All-get_or}
use Rattle.bit_rows.specs.Table.{Table}
use Rattle.chunk_graph.specs.declared.split.Split.{Split}
use Rattle.chunk_graph.specs.Chunks.{State}
use Rattle.chunk_groups.specs.Answer.{groups_or_end}
use Rattle.chunk_groups.specs.ChunkGroups.{TellsGroups}
use Rattle.chunk_groups.specs.Rows.{bit_in}
use Rattle.chunk_groups.specs.declared.groups_end.GroupsEnd.{GroupsEnd}
use Rattle.chunk_groups.specs.declared.groups_end.GroupsEnd.TheVariants as ends
use Rattle.pack_util.specs.declared.number.GroupNo.{GroupNo}
use Rattle.graph_types.specs.declared.config.Config.{Config}
use Rattle.graph_types.specs.declared.groups.GroupInfo.{GroupInfo}
use Rattle.graph_types.specs.Edges.{blocks_of}
use Rattle.graph_types.specs.Modules.{Graph}
use Rattle.split_plan.specs.Plan.{plan_of}
use Rattle.split_plan.specs.Step.{AreSplits, NeedTooMany}
use Rattle.split_chunks.proofs.OneList.{limit_alone, splits_are_one}
use Rattle.seal_build.specs.Final.{ArePlaced, IsFinal, after_splits, before_splits}
use Rattle.seal_build.specs.Seal.{IsFinished, NeedMoreChunks, SealsGroups, SealsTo, finished, sealing}
use Rattle.seal_build.specs.declared.seal_end.SealEnd.{SealEnd}
use Rattle.seal_build.specs.declared.sealed.Sealed.{Sealed}
use Rattle.seal_build.proofs.Preparing.{chunks_after}

-- ---- one table

same_truth : (b c : Bool) → (b ≡ true → c ≡ true) → (c ≡ true → b ≡ true) → b ≡ c
same_truth true c f g = sym (f refl)
same_truth false true f g = g refl
same_truth false false f g = refl

same_row : (graph : Graph) (infos : List GroupInfo) (one other : Table) → ArePlaced graph infos one → ArePlaced graph infos other → (g : ℕ) → g < length infos → get_or one.rows g [] ≡ get_or other.rows g []
same_row graph infos one other is also g within =
    let len : length (get_or one.rows g []) ≡ one.width = All-get_or (λ row. length row ≡ one.width) one.rows g [] (omega (arith, within, is.rows)) is.even in
    let long : length (get_or other.rows g []) ≡ other.width = All-get_or (λ row. length row ≡ other.width) other.rows g [] (omega (arith, within, also.rows)) also.even in
    ext_get_or false _ _ (len ∙ is.width ∙ sym (long ∙ also.width))
    (λ m lt. same_truth (bit_in one.rows g m) (bit_in other.rows g m) (λ held. (also.exact g m).1 ((is.exact g m).0 held)) (λ held. (is.exact g m).1 ((also.exact g m).0 held)))

one_table : (graph : Graph) (infos : List GroupInfo) (one other : Table) → ArePlaced graph infos one → ArePlaced graph infos other → one ≡ other
one_table graph infos one other is also =
    let table : ℕ → List (List Bool) → Table = λ width rows. record { width = width; rows = rows } in
    let rows : one.rows ≡ other.rows = ext_get_or [] _ _ (is.rows ∙ sym also.rows) (λ g lt. same_row graph infos one other is also g (omega (arith, lt, is.rows))) in
    ap (λ width. table width one.rows) (is.width ∙ sym also.width) ∙ ap (table other.width) rows

-- ---- one group for each block

one_telling : (blocks : ℕ) (infos : List GroupInfo) (one other : List GroupNo) → TellsGroups blocks (record { infos = infos; of_block = one }) → TellsGroups blocks (record { infos = infos; of_block = other })
    → one ≡ other
one_telling blocks infos one other is also =
    let number : ℕ → GroupNo = λ g. record { 0 = g } in
    ext_get_or (number 0) _ _ (is.len ∙ sym also.len) (λ b lt. ap number (sym (also.only b (get_or one b (number 0)).0 (is.has b (omega (arith, lt, is.len)))).1))

-- ---- one end of the splits

record SameFinal (splits more : List Split) (final last : State) : Type 0 where
  lists : splits ≡ more
  states : final ≡ last

one_final : (graph : Graph) (config : Config) (infos : List GroupInfo) (splits more : List Split) (final last : State) → IsFinal graph config infos splits final → IsFinal graph config infos more last
    → SameFinal splits more final last
one_final graph config infos splits more final last is also =
    let p = plan_of graph config in
    let before = before_splits config infos is.table in
    let start : State → Type 0 = λ s. AreSplits p s more also.between in
    let same = ap (before_splits config infos) (one_table graph infos also.table is.table also.placed is.placed) in
    let one = splits_are_one p before is.between also.between splits more is.are_splits (subst start same also.are_splits) in
    record { lists = one.0; states = is.is ∙ ap (after_splits config) one.1 ∙ sym also.is }

never_both : (graph : Graph) (config : Config) (path : List ℕ) (infos : List GroupInfo) (result : Result Sealed SealEnd) → NeedMoreChunks graph config infos → IsFinished graph config path infos result → ⊥
never_both graph config path infos result need done =
    let is = done.is_final in
    let p = plan_of graph config in
    let start : State → Type 0 = λ s. NeedTooMany p s need.last in
    let same = ap (before_splits config infos) (one_table graph infos need.table is.table need.placed is.placed) in
    let above = limit_alone p (before_splits config infos is.table) is.between need.last done.splits is.are_splits (subst start same need.too_many) in
    omega (arith, above, chunks_after config is.between, ap (λ s. length s.chunks) is.is, done.few)

finished_once : (graph : Graph) (config : Config) (path : List ℕ) (infos : List GroupInfo) (one other : Result Sealed SealEnd) → IsFinished graph config path infos one → IsFinished graph config path infos other
    → one ≡ other
finished_once graph config path infos one other is also =
    let blocks = one_telling (length (blocks_of graph.records)) infos is.of_block also.of_block is.tells also.tells in
    let same = one_final graph config infos is.splits also.splits is.final also.final is.is_final also.is_final in
    is.is ∙ ap (λ of_block. finished path (sealing graph config infos of_block is.final) is.splits) blocks
    ∙ ap (λ final. finished path (sealing graph config infos also.of_block final) is.splits) same.states
    ∙ ap (finished path (sealing graph config infos also.of_block also.final)) same.lists ∙ sym also.is

-- ---- one outcome

one_answer : (graph : Graph) (config : Config) (path : List ℕ) (groups : Result (List GroupInfo) GroupsEnd) (one other : Result Sealed SealEnd) → SealsGroups graph config path groups one
    → SealsGroups graph config path groups other → one ≡ other
one_answer graph config path (Err ends.Limit) one other is also = is ∙ sym also
one_answer graph config path (Err (ends.Faults faults)) one other is also = is ∙ sym also
one_answer graph config path (Err ends.NoMemory) one other is also = absurd is
one_answer graph config path (Ok infos) one other (inl is) (inl also) = is.1 ∙ sym also.1
one_answer graph config path (Ok infos) one other (inl is) (inr also) = absurd (never_both graph config path infos other is.0 also)
one_answer graph config path (Ok infos) one other (inr is) (inl also) = absurd (never_both graph config path infos one also.0 is)
one_answer graph config path (Ok infos) one other (inr is) (inr also) = finished_once graph config path infos one other is also

pub one-outcome : (graph : Graph) (config : Config) (path : List ℕ) (one other : Result Sealed SealEnd) → SealsTo graph config path one → SealsTo graph config path other → one ≡ other
one-outcome graph config path one other is also = one_answer graph config path (groups_or_end graph config.entries config.cache_groups path) one other is also
