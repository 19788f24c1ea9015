-- One answer for each text.
use Rattle.std.proofs.Common.{◌≡◌, ◌↔◌, ℕ, ◌<◌, Bool, true, false, not, ◌&&◌, ◌||◌, eqb, ltb, List, [], ◌∷◌, length, get_or, Result, Ok, Err, refl, sym, ap, ◌∙◌, inl, inr, arith, Contains, subst, suc, zero}
use Rattle.std.specs.List.{list_all}
use Rattle.std.proofs.lemmas.Bool.{and_parts}
use Rattle.std.proofs.lemmas.Bool.Decides.{nat_tests}
use Rattle.asset_names.proofs.Templates.{one_template}
use Rattle.graph_types.specs.declared.config.Config.{Config}
use Rattle.json_order.specs.Answer as json
use Rattle.json_order.specs.declared.fault.JsonFault.{JsonFault}
use Rattle.json_order.specs.declared.tree.JsonTree.{JsonTree}
use Rattle.pack_config.specs.declared.fault.ConfigFault.{ConfigFault}
use Rattle.pack_config.specs.declared.fault.ConfigKind.{ConfigKind}
use Rattle.pack_config.specs.declared.fault.ConfigKind.TheVariants.{TooLong, Json, UnknownKey, WrongType, OutOfRange, Repeated}
use Rattle.pack_config.specs.Answer.{AreAlike, IsConfigAnswer, IsAnswerBy, IsAnswerIn, IsConfigOf, AreSame}
use Rattle.pack_config.specs.Faults.{IsLeast, precedes, rank}

-- ---- one least fault

kind_of : ℕ → ConfigKind
kind_of zero = TooLong
kind_of (suc zero) = Json
kind_of (suc (suc zero)) = UnknownKey
kind_of (suc (suc (suc zero))) = WrongType
kind_of (suc (suc (suc (suc zero)))) = OutOfRange
kind_of (suc (suc (suc (suc (suc n))))) = Repeated

kind_back : (kind : ConfigKind) → kind_of (rank kind) ≡ kind
unfolding kind_of
kind_back TooLong = refl
kind_back Json = refl
kind_back UnknownKey = refl
kind_back WrongType = refl
kind_back OutOfRange = refl
kind_back Repeated = refl

level : (a r b s : ℕ) → (ltb a b || (eqb a b && ltb r s)) ≡ false → (ltb b a || (eqb b a && ltb s r)) ≡ false → (a ≡ b) × (r ≡ s)
level a r b s one other = (grind (arith, nat_tests), grind (arith, nat_tests))

same_fault : (one other : ConfigFault) → precedes one other ≡ false → precedes other one ≡ false → one ≡ other
same_fault one other before behind =
    let same = level one.offset (rank one.kind) other.offset (rank other.kind) before behind in
    let kinds : one.kind ≡ other.kind = sym (kind_back one.kind) ∙ ap kind_of same.1 ∙ kind_back other.kind in
    ap (λ offset. record { offset = offset; kind = one.kind }) same.0 ∙ ap (λ kind. record { offset = other.offset; kind = kind }) kinds

all_at : (p : ConfigFault → Bool) (faults : List ConfigFault) (k : ℕ) (d : ConfigFault) → list_all p faults ≡ true → k < length faults → p (get_or faults k d) ≡ true
all_at p [] k d all within = absurd (omega arith)
all_at p (fault ∷ faults) zero d all within = (and_parts (p fault) (list_all p faults) all).0
all_at p (fault ∷ faults) (suc k) d all within = all_at p faults k d (and_parts (p fault) (list_all p faults) all).1 (omega arith)

not_true : (b : Bool) → not b ≡ true → b ≡ false
not_true true e = sym e
not_true false e = refl

not_before : (fault other : ConfigFault) (faults : List ConfigFault) → IsLeast fault faults → Contains faults other → precedes other fault ≡ false
not_before fault other faults least there =
    not_true (precedes other fault)
    (ap (λ f. not (precedes f fault)) (sym there.2) ∙ all_at (λ f. not (precedes f fault)) faults there.0 other least.first there.1)

pub one_least : (one other : List ConfigFault) → ((fault : ConfigFault) → Contains one fault ↔ Contains other fault) →
    (first second : ConfigFault) → IsLeast first one → IsLeast second other → first ≡ second
one_least one other same first second least_one least_other =
    same_fault first second (not_before second first other least_other ((same first).0 least_one.among)) (not_before first second one least_one ((same second).1 least_other.among))

-- ---- one configuration

same_config : (text : List ℕ) (tree : JsonTree) (one other : Config) → IsConfigOf text tree one → IsConfigOf text tree other → AreSame one other
same_config text tree one other is_one is_other = record {
  entries = is_one.entries ∙ sym is_other.entries;
  filename = one_template _ _ one.filename.parts other.filename.parts is_one.filename is_other.filename;
  chunk_filename = one_template _ _ one.chunk_filename.parts other.chunk_filename.parts is_one.chunk_filename is_other.chunk_filename;
  public_path = is_one.public_path ∙ sym is_other.public_path;
  alias = is_one.alias ∙ sym is_other.alias;
  extensions = is_one.extensions ∙ sym is_other.extensions;
  main_fields = is_one.main_fields ∙ sym is_other.main_fields;
  main_files = is_one.main_files ∙ sym is_other.main_files;
  conditions = is_one.conditions ∙ sym is_other.conditions;
  named_ids = is_one.named_ids ∙ sym is_other.named_ids;
  merge_equal = is_one.merge_equal ∙ sym is_other.merge_equal;
  drop_empty = is_one.drop_empty ∙ sym is_other.drop_empty;
  cache_groups = is_one.cache_groups ∙ sym is_other.cache_groups;
}

none_among : (faults : List ConfigFault) (fault : ConfigFault) → faults ≡ [] → Contains faults fault → ⊥
none_among faults fault e there = let none = ap (λ (fs : List ConfigFault). length fs) e in omega (arith, none, there.1)

in_tree : (text : List ℕ) (tree : JsonTree) (one other : Result Config ConfigFault) → IsAnswerIn text tree one → IsAnswerIn text tree other → AreAlike one other
in_tree text tree (Ok one) (Ok other) is_one is_other = same_config text tree one other is_one.1 is_other.1
in_tree text tree (Ok one) (Err other) is_one is_other = none_among _ other is_one.0 is_other.among
in_tree text tree (Err one) (Ok other) is_one is_other = none_among _ one is_other.0 is_one.among
in_tree text tree (Err one) (Err other) is_one is_other = one_least _ _ (λ fault. ((λ there. there), (λ there. there))) one other is_one is_other

both_faults : (fault : ConfigFault) (one other : Result Config ConfigFault) → one ≡ Err fault → other ≡ Err fault → AreAlike one other
both_faults fault (Ok one) other e f = cc
both_faults fault (Err one) (Ok other) e f = cc
both_faults fault (Err one) (Err other) e f = cc

by_read : (text : List ℕ) (read : Result JsonTree JsonFault) (one other : Result Config ConfigFault) → IsAnswerBy text read one → IsAnswerBy text read other → AreAlike one other
by_read text (Ok tree) one other is_one is_other = in_tree text tree one other is_one is_other
by_read text (Err stop) one other is_one is_other = both_faults _ one other is_one is_other

pub one_configuration : ((text : List ℕ) (one other : Result JsonTree JsonFault) → json.IsAnswer text one → json.IsAnswer text other → one ≡ other) →
    (text : List ℕ) (one other : Result Config ConfigFault) → IsConfigAnswer text one → IsConfigAnswer text other → AreAlike one other
one_configuration one_tree text one other (inl long) (inl also) = both_faults _ one other long.1 also.1
one_configuration one_tree text one other (inl long) (inr short) = absurd (omega (arith, long.0, short.0))
one_configuration one_tree text one other (inr short) (inl long) = absurd (omega (arith, long.0, short.0))
one_configuration one_tree text one other (inr first) (inr second) =
    let same = one_tree text first.1.0 second.1.0 first.1.1 second.1.1 in
    by_read text second.1.0 one other (subst (λ (read : Result JsonTree JsonFault). IsAnswerBy text read one) same first.1.2) second.1.2
