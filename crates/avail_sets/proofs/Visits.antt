-- What stays true while rows fall, at the start and over a visit.
use Rattle.std.proofs.Common.{◌≡◌, ℕ, ◌<◌, ◌⊎◌, inl, inr, Bool, true, false, List, [], length, get_or, set, replicate, sym, ap, subst, ◌∙◌, arith}
use Rattle.std.specs.Prelude.{◌↔◌, IsTrue, is_some, if◌then◌else◌}
use Rattle.std.proofs.lemmas.Bool.{cases_eq, cases_lt, cases_Bool, false≢true, true≢false}
use Rattle.std.proofs.lemmas.List.{get_or_past, get_or-set_other, get_or-replicate, length-replicate}
use Rattle.bit_rows.specs.Places.{union}
use Rattle.bit_rows.specs.Table.{Table, blank}
use Rattle.graph_types.specs.declared.groups.GroupInfo.{GroupInfo}
use Rattle.graph_types.specs.Modules.{Graph}
use Rattle.chunk_groups.specs.Grouped.{info_at, net_of}
use Rattle.chunk_groups.specs.Net.{Net}
use Rattle.chunk_groups.specs.Rows.{bit, bit_in}
use Rattle.chunk_groups.specs.Serving.{Holds, Opens}
use Rattle.chunk_groups.proofs.Brought.{lacking-handed, lacking-entry}
use Rattle.chunk_groups.proofs.Marks.{bit-within, blank-bit}
use Rattle.avail_sets.specs.inner.Falling.{AreFirst, AreOpened, IsFalling, IsHandedDown, SaysWhich}
use Rattle.avail_sets.proofs.Bits.{bit-union, or-cases, or-none}

module _ (net : Net) (modules : ℕ) (opened : List (List Bool)) (brought : List (List Bool)) (old new : Table) (pending now : List Bool) (p : ℕ) where
  pub visited : AreOpened net opened → IsFalling net (Holds (bit_in brought)) modules old.rows pending → p < net.groups → length (get_or old.rows p []) ≡ length (get_or brought p [])
      → IsHandedDown (λ g. IsTrue (bit_in opened p g)) (union (get_or old.rows p []) (get_or brought p [])) old new (set pending p false) now → IsFalling net (Holds (bit_in brought)) modules new.rows now
  visited are before within even handing = record {
    entries = λ g m is_entry there. before.entries g m is_entry (handing.falls g m there);
    handed = λ q g m opens there. elim (cases_eq q p) [
      | inl e ↦
          let own : Opens net p g = subst (λ (i : ℕ). Opens net i g) e opens in
          let down = sym (bit-union (get_or old.rows p []) (get_or brought p []) m even) ∙ handing.met g m ((are p g).1 own) there in
          elim (or-cases (bit_in old.rows p m) (bit_in brought p m) down) [
            | inl had ↦ still q m (subst (λ (i : ℕ). IsTrue (bit_in old.rows i m)) (sym e) had)
            | inr brings ↦ inr (inr (subst (λ (i : ℕ). IsTrue (bit_in brought i m)) (sym e) brings))
          ]
      | inr n ↦ elim (before.handed q g m opens (handing.falls g m there)) [
        | inl waits ↦ inl (handing.grows q (get_or-set_other pending p q false false n ∙ waits))
        | inr (inl had) ↦ still q m had
        | inr (inr brings) ↦ inr (inr brings)
      ]
    ];
    missing = λ g m group module_is gone. elim (cases_Bool (bit_in old.rows g m)) [
      | inr before_gone ↦ before.missing g m group module_is before_gone
      | inl was ↦
          let (to, lost) = handing.only g m was gone in
          let none = or-none (bit_in old.rows p m) (bit_in brought p m) (sym (bit-union (get_or old.rows p []) (get_or brought p []) m even) ∙ lost) in
          lacking-handed net (Holds (bit_in brought)) p g m ((are p g).0 to) (before.missing p m within module_is none.0) (λ brings. true≢false (sym brings ∙ none.1))
    ];
  }
    where
      still : (q m : ℕ) → IsTrue (bit_in old.rows q m) → IsTrue (bit now q) ⊎ (IsTrue (bit_in new.rows q m) ⊎ Holds (bit_in brought) q m)
      still q m had = elim (cases_Bool (bit now q)) [
        | inl waits ↦ inl waits
        | inr not ↦ inr (inl (ap (λ (r : List Bool). bit r m) (handing.kept q not) ∙ had))
      ]

chosen-blank : (test : Bool) (n : ℕ) (row : List Bool) → row ≡ (if test then blank n else replicate n true) → IsTrue test → (m : ℕ) → IsTrue (bit row m) → ⊥
chosen-blank true n row is test m there = blank-bit n m (subst (λ (r : List Bool). IsTrue (bit r m)) is there)
chosen-blank false n row is test m there = false≢true test

chosen-full : (test : Bool) (n : ℕ) (row : List Bool) → row ≡ (if test then blank n else replicate n true) → test ≡ false → (m : ℕ) → IsTrue (bit row m) ↔ (m < n)
chosen-full true n row is test m = absurd (true≢false test)
chosen-full false n row is test m = (
  λ there. omega (arith, bit-within (replicate n true) m (subst (λ (r : List Bool). IsTrue (bit r m)) is there), length-replicate n true),
  λ l. ap (λ (r : List Bool). bit r m) is ∙ get_or-replicate n m true false l,
)

module _ (graph : Graph) (infos : List GroupInfo) (brings : ℕ → ℕ → Type 0) (width : ℕ) (table : Table) (pending : List Bool) where
  pub fresh-falling : AreFirst infos width table → SaysWhich (λ g. IsTrue (is_some (info_at infos g).entry)) pending (length infos) → IsFalling (net_of graph infos) brings width table.rows pending
  fresh-falling first which =
      let net = net_of graph infos in
      record {
        entries = λ g m is_entry there. elim (cases_lt g (length infos)) [
          | inl l ↦ chosen-blank (net.is_entry g) width (get_or table.rows g []) (first.each g l) is_entry m there
          | inr past ↦ false≢true (sym (ap (λ (r : List Bool). bit r m) (get_or_past table.rows g [] (omega (arith, first.rows)))) ∙ there)
        ];
        handed = λ p g m opens there. elim (cases_Bool (net.is_entry p)) [
          | inl is_entry ↦ inl ((which.says p opens.from).1 is_entry)
          | inr not ↦
              let l : m < width = (chosen-full (net.is_entry g) width (get_or table.rows g []) (first.each g opens.to) opens.on_demand m).0 there in
              inr (inl ((chosen-full (net.is_entry p) width (get_or table.rows p []) (first.each p opens.from) not m).1 l))
        ];
        missing = λ g m group module_is gone. elim (cases_Bool (net.is_entry g)) [
          | inl is_entry ↦ lacking-entry net brings g m group is_entry
          | inr not ↦ absurd (true≢false (sym ((chosen-full (net.is_entry g) width (get_or table.rows g []) (first.each g group) not m).1 module_is) ∙ gone))
        ];
      }
