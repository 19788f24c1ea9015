-- Records with answers are whole.
use Rattle.std.proofs.Common.{◌≡◌, ℕ, ◌+◌, ◌≤◌, ◌<◌, ◌⊎◌, ◌||◌, true, false, List, [], ◌∷◌, ◌++◌, map, length, length-append, refl, sym, ap, subst, ◌∙◌, arith, inl, inr}
use Rattle.std.proofs.lemmas.Bool.{cases_Bool, cond-true, cond-false, false≢true}
use Rattle.std.specs.List.{AllByRecursion, AllZip}
use Rattle.std.specs.Prelude.{Option, Some, None, filter_map, is_some, IfSome, IsTrue}
use Rattle.es_scan.specs.Whole.{AreLikeItems, IsWholeScan, TellsOf}
use Rattle.es_scan.specs.declared.scanned.Scan.{Scan}
use Rattle.fault_place.specs.Fault.{fault_cmp, in_order, placed}
use Rattle.fault_place.specs.declared.fault.Fault.{Fault}
use Rattle.pack_util.specs.declared.number.FileId.{FileId}
use Rattle.graph_types.specs.Whole.{IsWhole, is_require}
use Rattle.graph_types.specs.declared.item.Item.{Item}
use Rattle.graph_types.specs.declared.record.ModRecord.{ModRecord}
use Rattle.fault_place.specs.declared.fault.FaultKind.TheVariants.{TooLong}
use Rattle.module_parse.specs.Bare.{fault_at, long_record}
use Rattle.module_parse.specs.Whole.{IsParsed}
use Rattle.resolve_path.specs.Places.{HasFileWithin}
use Rattle.resolve_path.specs.declared.resolution.Resolution.{Resolution}
use Rattle.resolve_path.specs.declared.resolution.Resolution.TheVariants.{File, Unresolved, NotExported, BadManifest, BadTarget}
use Rattle.std.specs.Ordering.{is_lt}
use Rattle.module_build.specs.Answers.{answered_item, file_named, request_fault}
use Rattle.module_build.specs.Record.{answered}
use Rattle.module_build.specs.Shape.{IsSimple}
use Rattle.module_build.specs.declared.asked.Asked.{Asked}

length-placed : (fault : Fault) (faults : List Fault) → length (placed fault faults) ≡ length faults + 1
length-placed fault [] = refl
length-placed fault (first ∷ rest) = elim (cases_Bool (is_lt (fault_cmp first fault))) [
  | inl past ↦ let more = length-placed fault rest in ap length (cond-true _ _ _ past) ∙ (omega (arith, more))
  | inr stays ↦ ap length (cond-false _ _ _ stays) ∙ (omega arith)
]

length-in_order : (faults : List Fault) → length (in_order faults) ≡ length faults
length-in_order [] = refl
length-in_order (fault ∷ faults) = let one = length-placed fault (in_order faults) in let rest = length-in_order faults in omega (arith, one, rest)

alike : (asked : List Asked) → AllZip AreLikeItems (map (λ (one : Asked). one.item) asked) (map answered_item asked)
alike [] = tt
alike (one ∷ asked) = ((refl, refl), alike asked)

named_within : (count : ℕ) (answer : Resolution) → HasFileWithin count answer → IfSome (file_named answer) (λ target. target.0 < count)
named_within count (File file) is = is
named_within count Unresolved is = tt
named_within count NotExported is = tt
named_within count (BadManifest path) is = tt
named_within count (BadTarget path) is = tt

within : (count : ℕ) (asked : List Asked) → AllByRecursion (λ (one : Asked). HasFileWithin count one.answer) asked
    → AllByRecursion (λ (item : Item). IfSome item.target (λ target. target.0 < count)) (map answered_item asked)
within count [] all = tt
within count (one ∷ asked) all = (named_within count one.answer all.0, within count asked all.1)

places : (rec : ModRecord) (asked : List Asked) (size : ℕ) → AllByRecursion (λ (item : Item). item.at ≤ size) (map (λ (one : Asked). one.item) asked) → AllByRecursion (λ (one : Asked). one.item.at ≤ size) asked
places rec [] size all = tt
places rec (one ∷ asked) size all = (all.0, places rec asked size all.1)

pub asked_places : (rec : ModRecord) (asked : List Asked) → map (λ (one : Asked). one.item) asked ≡ rec.items → AllByRecursion (λ (item : Item). item.at ≤ length rec.text) rec.items
    → AllByRecursion (λ (one : Asked). one.item.at ≤ length rec.text) asked
asked_places rec asked same all = places rec asked (length rec.text) (subst (AllByRecursion (λ (item : Item). item.at ≤ length rec.text)) (sym same) all)

abbrev IsNamed : Item → Type 0
IsNamed item = IsTrue (is_require item.kind || is_some item.target)

-- an item without a file is a `require`, or has a fault
module _ (path text : List ℕ) where
  plain : (item : Item) (answer : Resolution) → is_require item.kind ≡ false
      → IsNamed (answered_item (record { item = item; answer = answer })) ⊎ (is_some (request_fault path text (record { item = item; answer = answer })) ≡ true)
  plain item (File file) differs = inl (rw differs refl)
  plain item Unresolved differs = inr (rw differs refl)
  plain item NotExported differs = inr (rw differs refl)
  plain item (BadManifest manifest) differs = inr (rw differs refl)
  plain item (BadTarget manifest) differs = inr (rw differs refl)

  one_of : (one : Asked) → IsNamed (answered_item one) ⊎ (is_some (request_fault path text one) ≡ true)
  one_of one = elim (cases_Bool (is_require one.item.kind)) [
    | inl requires ↦ inl (rw requires refl)
    | inr differs ↦ plain one.item one.answer differs
  ]

  targets_by : (one : Asked) (asked : List Asked) (fault : Option Fault) → request_fault path text one ≡ fault
      → IsNamed (answered_item one) ⊎ (is_some (request_fault path text one) ≡ true)
      → AllByRecursion IsNamed (map answered_item asked) ⊎ (length (filter_map (request_fault path text) asked) ≡ 0 → ⊥)
      → AllByRecursion IsNamed (map answered_item (one ∷ asked)) ⊎ (length (filter_map (request_fault path text) (one ∷ asked)) ≡ 0 → ⊥)
  targets_by one asked (Some fault) is how rest = inr (λ none. let some : length (filter_map (request_fault path text) (one ∷ asked)) ≡ 0 = none in omega (arith, rw is at some))
  targets_by one asked None is (inl named) (inl all) = inl (named, all)
  targets_by one asked None is (inl named) (inr some) = inr (rw is some)
  targets_by one asked None is (inr some) rest = absurd (false≢true (sym (ap is_some is) ∙ some))

  targets : (asked : List Asked) → AllByRecursion IsNamed (map answered_item asked) ⊎ (length (filter_map (request_fault path text) asked) ≡ 0 → ⊥)
  targets [] = inl tt
  targets (one ∷ asked) = targets_by one asked (request_fault path text one) refl (one_of one) (targets asked)

abbrev scan_of_record : ModRecord → Scan
scan_of_record rec = record { items = rec.items; binds = rec.binds; exports = rec.exports; stars = rec.stars; edits = rec.edits; notes = rec.notes; faults = rec.faults; es = false }

whole_scan : (file : FileId) (rec : ModRecord) → IsParsed file rec → IsWholeScan rec.text (scan_of_record rec)
whole_scan file rec parsed = record {
  few = parsed.few;
  places = parsed.places;
  spans = parsed.spans;
  loads = parsed.loads;
  binds = parsed.binds;
  stars = parsed.stars;
  exports = parsed.exports;
}

tells_of : (rec : ModRecord) (asked : List Asked) → map (λ (one : Asked). one.item) asked ≡ rec.items → TellsOf (scan_of_record rec) (answered rec asked)
unfolding answered
tells_of rec asked same = record {
  items = subst (λ items. AllZip AreLikeItems items (map answered_item asked)) same (alike asked);
  binds = refl;
  exports = refl;
  stars = refl;
  edits = refl;
  targets = elim (targets rec.path rec.text asked) [
    | inl all ↦ inl all
    | inr some ↦ inr (λ none.
        some (let more = filter_map (request_fault rec.path rec.text) asked in omega (arith, none, length-in_order (rec.faults ++ more), length-append rec.faults more)))
  ];
}

-- the record with answers to all its requests is one on which the later phases may rely
pub simple_by : (count : ℕ) (file : FileId) (rec : ModRecord) (asked : List Asked)
    → ((made : ModRecord) (scan : Scan) → IsWholeScan made.text scan → TellsOf scan made → IsWhole made)
    → IsParsed file rec → map (λ (one : Asked). one.item) asked ≡ rec.items → AllByRecursion (λ (one : Asked). HasFileWithin count one.answer) asked → IsSimple count file (answered rec asked)
unfolding answered
simple_by count file rec asked law parsed same all = record {
  file_is = parsed.file_is;
  whole = law (answered rec asked) (scan_of_record rec) (whole_scan file rec parsed) (tells_of rec asked same);
  sized = inr (omega (arith, parsed.size_is, parsed.short), parsed.short);
  within = within count asked all;
}

pub long_simple : (count : ℕ) (file : FileId) (path : List ℕ) (size : ℕ) → IsSimple count file (long_record file path size)
long_simple count file path size = record {
  file_is = refl;
  whole = record { few = omega arith; places = tt; spans = tt; loads = tt; binds = tt; stars = tt; exports = tt; targets = inl tt };
  sized = inl (0, fault_at path [] 0 TooLong, omega arith, refl, refl);
  within = tt;
}
