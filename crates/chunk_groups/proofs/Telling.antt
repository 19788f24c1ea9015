-- The group of each block, one block after another.
use Rattle.std.proofs.Common.{◌≡◌, ℕ, ◌+◌, ◌<◌, inl, inr, List, [], ◌∷◌, ◌++◌, map, length, refl, sym, ap, subst, ◌∙◌, arith}
use Rattle.std.specs.Prelude.{Contains, All}
use Rattle.std.proofs.lemmas.Bool.{cases_eq, cases_lt}
use Rattle.std.proofs.lemmas.List.{get_or_append_left, get_or-append-add, get_or_past, length-append}
use Rattle.std.proofs.lemmas.List.Elements.{All-append, All-map, All-nil, Contains-append_left, Contains-push, Contains-push_cases}
use Rattle.pack_util.specs.declared.number.GroupNo.{GroupNo}
use Rattle.graph_types.specs.declared.entry.EntrySpec.{EntrySpec}
use Rattle.graph_types.specs.declared.groups.GroupInfo.{GroupInfo}
use Rattle.graph_types.specs.Modules.{Graph}
use Rattle.chunk_groups.specs.ChunkGroups.{entry_group, entry_groups, group_at, groups_with, named_group, numbered_entries, TellsGroups}
use Rattle.chunk_groups.specs.ChunkNames.{chunk_names}
use Rattle.chunk_groups.specs.Grouped.{info_at, no_group}
use Rattle.chunk_groups.specs.inner.Filing.{groups_so_far, IsPut}
use Rattle.chunk_groups.proofs.Marks.{contains-none}

abbrev IsEmpty : GroupInfo → Type 0
IsEmpty info = info.blocks ≡ []

all-empty : (graph : Graph) (entries : List EntrySpec) → All IsEmpty (groups_with graph entries [])
all-empty graph entries =
    let first = entry_groups graph.roots entries in
    let middle = map (named_group graph.records []) (chunk_names graph.records) in
    All-append IsEmpty (first ++ middle) [] (All-append IsEmpty first middle (All-map IsEmpty (entry_group graph.roots) (numbered_entries entries) (λ k d l. refl)) (All-map IsEmpty (named_group graph.records []) (chunk_names graph.records) (λ k d l. refl))) (All-nil IsEmpty)

pub tells-none : (graph : Graph) (entries : List EntrySpec) (infos : List GroupInfo) (of_block : List GroupNo) → infos ≡ groups_so_far graph entries 0 → of_block ≡ [] → TellsGroups 0 (record { infos = infos; of_block = of_block })
tells-none graph entries infos of_block is none = record {
  len = ap length none;
  has = λ b l. absurd (omega arith);
  only = λ b g found.
      let empty : All IsEmpty infos = subst (All IsEmpty) (sym is) (all-empty graph entries) in
      let here : (info_at infos g).blocks ≡ [] = elim (cases_lt g (length infos)) [ inl l ↦ empty g no_group l | inr past ↦ ap (λ (i : GroupInfo). i.blocks) (get_or_past infos g no_group past) ] in
      absurd (contains-none b (subst (λ (l : List ℕ). Contains l b) here found));
}

module _ (count : ℕ) (old new : List GroupInfo) (of_block after : List GroupNo) (g : GroupNo) (tells : TellsGroups count (record { infos = old; of_block = of_block }))
    (put : IsPut old new count g.0) (more : after ≡ of_block ++ g ∷ []) where
  earlier : (b : ℕ) → b < count → group_at after b ≡ group_at of_block b
  earlier b l =
      let inside : b < length of_block = omega (arith, tells.len) in
      ap (λ (l : List GroupNo). group_at l b) more ∙ ap (λ (n : GroupNo). n.0) (get_or_append_left of_block (g ∷ []) (record { 0 = 0 }) b inside)

  last : group_at after count ≡ g.0
  last =
      let at : length of_block + 0 ≡ count = omega (arith, tells.len) in
      ap (λ (l : List GroupNo). group_at l count) more ∙ ap (λ (k : ℕ). group_at (of_block ++ g ∷ []) k) (sym at) ∙ ap (λ (n : GroupNo). n.0) (get_or-append-add of_block (g ∷ []) 0 (record { 0 = 0 }))

  still : (h b : ℕ) → Contains (info_at old h).blocks b → Contains (info_at new h).blocks b
  still h b found = elim (cases_eq h g.0) [
    | inl same ↦
        let here : (info_at new h).blocks ≡ (info_at old h).blocks ++ count ∷ [] = subst (λ (k : ℕ). (info_at new k).blocks ≡ (info_at old k).blocks ++ count ∷ []) (sym same) put.here in
        subst (λ (l : List ℕ). Contains l b) (sym here) (Contains-append_left (info_at old h).blocks (count ∷ []) b found)
    | inr other ↦ subst (λ (i : GroupInfo). Contains i.blocks b) (sym (put.others h other)) found
  ]

  only-old : (b h : ℕ) → Contains (info_at old h).blocks b → (b < count + 1) × (group_at after b ≡ h)
  only-old b h found =
      let (l, is) = tells.only b h found in
      (omega arith, earlier b l ∙ is)

  pub tells-more : TellsGroups (count + 1) (record { infos = new; of_block = after })
  tells-more = record {
    len = ap length more ∙ length-append of_block (g ∷ []) ∙ ap (λ (n : ℕ). n + 1) tells.len;
    has = λ b l. elim (cases_lt b count) [
      | inl before ↦ subst (λ (h : ℕ). Contains (info_at new h).blocks b) (sym (earlier b before)) (still (group_at of_block b) b (tells.has b before))
      | inr after_all ↦
          let same : count ≡ b = omega arith in
          let there : Contains (info_at new g.0).blocks count = subst (λ (l : List ℕ). Contains l count) (sym put.here) (Contains-push (info_at old g.0).blocks count) in
          subst (λ (k : ℕ). Contains (info_at new (group_at after k)).blocks k) same (subst (λ (h : ℕ). Contains (info_at new h).blocks count) (sym last) there)
    ];
    only = λ b h found. elim (cases_eq h g.0) [
      | inl same ↦
          let here : Contains ((info_at old g.0).blocks ++ count ∷ []) b = subst (λ (l : List ℕ). Contains l b) put.here (subst (λ (k : ℕ). Contains (info_at new k).blocks b) same found) in
          elim (Contains-push_cases (info_at old g.0).blocks count b here) [
            | inl before ↦
                let (l, is) = only-old b g.0 before in
                (l, is ∙ sym same)
            | inr is ↦
                let at : group_at after b ≡ g.0 = subst (λ (k : ℕ). group_at after k ≡ g.0) is last in
                (omega arith, at ∙ sym same)
          ]
      | inr other ↦ only-old b h (subst (λ (i : GroupInfo). Contains i.blocks b) (put.others h other) found)
    ];
  }
