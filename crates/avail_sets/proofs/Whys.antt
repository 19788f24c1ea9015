-- Where no reason is, and where the search for one starts.
use Rattle.std.proofs.Common.{◌≡◌, ℕ, ◌-◌, ◌<◌, ◌⊎◌, inl, inr, Bool, true, false, List, [], ◌∷◌, ◌++◌, length, set, refl, sym, ap, subst, ◌∙◌, arith}
use Rattle.std.specs.Prelude.{◌↔◌, IsTrue}
use Rattle.std.proofs.lemmas.Bool.{cases_Bool, true≢false}
use Rattle.graph_types.proofs.Reached.{head-or-rest, rest-member}
use Rattle.bit_rows.specs.Table.{Table, blank}
use Rattle.pack_util.specs.declared.number.GroupNo.{GroupNo}
use Rattle.graph_types.specs.declared.groups.GroupInfo.{GroupInfo}
use Rattle.graph_types.specs.Modules.{Graph}
use Rattle.chunk_groups.specs.Grouped.{IsReach, net_of}
use Rattle.chunk_groups.specs.Net.{Net, Reaches}
use Rattle.chunk_groups.specs.Rows.{bit, bit_in}
use Rattle.chunk_groups.specs.Serving.{HasOne, NoneBrings}
use Rattle.chunk_groups.proofs.Marks.{bit-within, contains-none}
use Rattle.avail_sets.specs.inner.Falling.{SaysWhich}
use Rattle.avail_sets.specs.inner.Layers.{AreLayers, HasPath, IsBest, IsFirst}
use Rattle.avail_sets.specs.Reasons.{IsLeastReason, IsNotPlaced, group_numbers}
use Rattle.avail_sets.proofs.Layered.{first-layer, least-reason}
use Rattle.avail_sets.proofs.Paths.{reason-way}

module _ (graph : Graph) (infos : List GroupInfo) (reach : Table) (reached : IsReach graph infos reach) (g m : ℕ) where
  abbrev net : Net
  net = net_of graph infos

  look : (members : List ℕ) → HasOne (Reaches net) members m ⊎ NoneBrings (Reaches net) members m
  look [] = inr (λ p inside brings. contains-none p inside)
  look (q ∷ members) = at (look members) (cases_Bool (bit_in reach.rows q m))
    where
      at : HasOne (Reaches net) members m ⊎ NoneBrings (Reaches net) members m → (bit_in reach.rows q m ≡ true) ⊎ (bit_in reach.rows q m ≡ false) → HasOne (Reaches net) (q ∷ members) m ⊎ NoneBrings (Reaches net) (q ∷ members) m
      at rest (inl is) = inl (q, (0, omega arith, refl), (reached.exact q m).0 is)
      at (inl (p, inside, brings)) (inr gone) = inl (p, rest-member q members p inside, brings)
      at (inr none) (inr gone) = inr (λ p inside brings. elim (head-or-rest q members p inside) [
        | inl e ↦ true≢false (sym ((reached.exact q m).1 (subst (λ (k : ℕ). Reaches net k m) (sym e) brings)) ∙ gone)
        | inr there ↦ none p there brings
      ])

  pub no-reason : ((p steps : ℕ) → IsTrue (net.is_entry p) → HasPath net g m p steps → ⊥) → IsNotPlaced net g m
  no-reason none = inr (λ earlier history. elim (look earlier) [
    | inl one ↦ one
    | inr lacks ↦
        let (first, (rest, is_entry, path, same)) = reason-way net m g (earlier ++ g ∷ []) (record { earlier = earlier; ends = refl; history = history; none = lacks }) in
        absurd (none first (length rest) is_entry (rest, path, refl))
  ])

  pub not-reached : bit_in reach.rows g m ≡ false → IsNotPlaced net g m
  not-reached gone = inl (λ reaches. true≢false (sym ((reached.exact g m).1 reaches) ∙ gone))

  pub start-layers : (left : List Bool) (layers : List (List Bool)) (count : ℕ) → g < length infos → bit_in reach.rows g m ≡ true → count ≡ length infos → layers ≡ set (blank count) g true ∷ [] → length left ≡ length reach.rows
      → SaysWhich (λ p. bit_in reach.rows p m ≡ false) left (length reach.rows) → AreLayers net g m layers left
  start-layers left layers count within is many made places which =
      let lacks : (p : ℕ) → p < length infos → IsTrue (bit left p) ↔ (Reaches net p m → ⊥) = λ p inside.
      let says = which.says p (omega (arith, reached.rows)) in (
        λ waits reaches. true≢false (sym ((reached.exact p m).1 reaches) ∙ says.0 waits),
        λ avoids. elim (cases_Bool (bit_in reach.rows p m)) [ inl held ↦ absurd (avoids ((reached.exact p m).0 held)) | inr gone ↦ says.1 gone ],
      ) in
      let first = first-layer net g m left within ((reached.exact g m).0 is) (places ∙ reached.rows) lacks in
      subst (λ (l : List (List Bool)). AreLayers net g m l left) (sym (made ∙ ap (λ n. set (blank n) g true ∷ []) many)) first

  pub reason-read : (layers : List (List Bool)) (left : List Bool) (first : ℕ) (rest : List ℕ) (members : List GroupNo) → AreLayers net g m layers left → IsFirst net layers first → group_numbers members ≡ first ∷ rest
      → IsBest net g m first (length layers - 1) rest → IsLeastReason net g m (group_numbers members)
  reason-read layers left first rest members a is_first listed best =
      let within : first < net.groups = omega (arith, bit-within _ first is_first.in_last, a.even (length layers - 1) (omega (arith, a.some))) in
      subst (IsLeastReason net g m) (sym listed) (least-reason net g m layers left a first is_first rest best within)
