-- Members have distinct keys, each at its first place with its last value.
use Rattle.std.proofs.Common.{ℕ, suc, ◌≡◌, ◌≤◌, Bool, true, false, cond, List, [], ◌∷◌, Option, None, Some, refl, sym, ap, ◌∙◌, arith}
use Rattle.std.specs.Str.{bytes_eq}
use Rattle.std.proofs.lemmas.Bool.{false_from_ne_true}
use Rattle.std.proofs.lemmas.Slice.Eq.{bytes_eq-Decides}
use Rattle.json_order.specs.Members.{put, merged}
use Rattle.json_order.specs.MembersLaw.{member, last_value, with_last, AreDistinct, AreAscending}
use Rattle.json_order.specs.declared.tree.JsonPair.{JsonPair}
use Rattle.json_order.specs.declared.tree.JsonTree.{JsonTree}

-- a member after one more with its key
abbrev updated : List ℕ → ℕ → JsonTree → Option JsonPair → JsonPair
updated key at value None = record { key = key; key_at = at; value = value }
updated key at value (Some pair) = record pair { value = value }

keys_apart : (k one other : List ℕ) → bytes_eq one other ≡ false → bytes_eq k other ≡ true → bytes_eq k one ≡ false
keys_apart k one other apart same =
    let k_is : k ≡ other = (bytes_eq-Decides k other).0 same in
    false_from_ne_true (bytes_eq k one) (λ e.
    let one_is : one ≡ other = sym ((bytes_eq-Decides k one).0 e) ∙ k_is in
    let yes = (bytes_eq-Decides one other).1 one_is in cc)

put-first : (t : Bool) (key : List ℕ) (at : ℕ) (value : JsonTree) (pair : JsonPair) (rest : Option JsonPair) →
    cond t (Some (record pair { value = value })) rest ≡ cond t (Some (updated key at value (cond t (Some pair) rest))) (cond t (Some pair) rest)
put-first true key at value pair rest = refl
put-first false key at value pair rest = refl

put-later : (t u : Bool) (key : List ℕ) (at : ℕ) (value : JsonTree) (pair : JsonPair) (rest later : Option JsonPair) → (u ≡ true → t ≡ false) →
    later ≡ cond t (Some (updated key at value rest)) rest → cond u (Some pair) later ≡ cond t (Some (updated key at value (cond u (Some pair) rest))) (cond u (Some pair) rest)
put-later true true key at value pair rest later apart e = let no = apart refl in cc
put-later false true key at value pair rest later apart e = refl
put-later t false key at value pair rest later apart e = e

member-put : (pairs : List JsonPair) (key : List ℕ) (at : ℕ) (value : JsonTree) (k : List ℕ) →
    member k (put pairs key at value) ≡ cond (bytes_eq k key) (Some (updated key at value (member k pairs))) (member k pairs)
member-put [] key at value k = refl
member-put (pair ∷ pairs) key at value k = by_test (bytes_eq key pair.key) refl (member-put pairs key at value k)
  where
    by_test : (b : Bool) → bytes_eq key pair.key ≡ b → member k (put pairs key at value) ≡ cond (bytes_eq k key) (Some (updated key at value (member k pairs))) (member k pairs) →
        member k (cond b (record { key = pair.key; key_at = pair.key_at; value = value } ∷ pairs) (pair ∷ put pairs key at value))
        ≡ cond (bytes_eq k key) (Some (updated key at value (member k (pair ∷ pairs)))) (member k (pair ∷ pairs))
    by_test true e later =
        let same : bytes_eq k pair.key ≡ bytes_eq k key = ap (bytes_eq k) (sym ((bytes_eq-Decides key pair.key).0 e)) in
        rw same (put-first (bytes_eq k key) key at value pair (member k pairs))
    by_test false e later =
        put-later (bytes_eq k key) (bytes_eq k pair.key) key at value pair (member k pairs) (member k (put pairs key at value)) (keys_apart k key pair.key e) later

-- a member after more
abbrev joined : List ℕ → Option JsonPair → List JsonPair → Option JsonPair
joined key (Some pair) given = Some (record pair { value = last_value key pair.value given })
joined key None given = with_last key given (member key given)

joined-end : (key : List ℕ) (found : Option JsonPair) → found ≡ joined key found []
joined-end key None = refl
joined-end key (Some pair) = refl

last-other : (key : List ℕ) (more : JsonPair) (given : List JsonPair) (found : Option JsonPair) → bytes_eq key more.key ≡ false → with_last key given found ≡ with_last key (more ∷ given) found
last-other key more given None e = refl
last-other key more given (Some pair) e = rw e refl

first-again : (key : List ℕ) (more : JsonPair) (given : List JsonPair) (t : Bool) →
    Some (record more { value = last_value key more.value given }) ≡ Some (record more { value = last_value key (cond t more.value more.value) given })
first-again key more given true = refl
first-again key more given false = refl

joined-more : (key : List ℕ) (more : JsonPair) (given : List JsonPair) (t : Bool) → bytes_eq key more.key ≡ t → (found : Option JsonPair) →
    joined key (cond t (Some (updated more.key more.key_at more.value found)) found) given ≡ joined key found (more ∷ given)
joined-more key more given true e None = rw e (first-again key more given (bytes_eq key more.key))
joined-more key more given true e (Some pair) = rw e refl
joined-more key more given false e None = rw e (last-other key more given (member key given) e)
joined-more key more given false e (Some pair) = rw e refl

merged-member : (key : List ℕ) (given pairs : List JsonPair) → member key (merged pairs given) ≡ joined key (member key pairs) given
merged-member key [] pairs = joined-end key (member key pairs)
merged-member key (more ∷ given) pairs =
    merged-member key given (put pairs more.key more.key_at more.value)
    ∙ ap (λ found. joined key found given) (member-put pairs more.key more.key_at more.value key)
    ∙ joined-more key more given (bytes_eq key more.key) refl (member key pairs)

pub members-found : (given : List JsonPair) (key : List ℕ) → member key (merged [] given) ≡ with_last key given (member key given)
members-found given key = merged-member key given []

-- distinct keys
put-distinct : (pairs : List JsonPair) (key : List ℕ) (at : ℕ) (value : JsonTree) → AreDistinct pairs → AreDistinct (put pairs key at value)
put-distinct [] key at value h = (refl, tt)
put-distinct (pair ∷ pairs) key at value h = by_test (bytes_eq key pair.key) refl (put-distinct pairs key at value h.1)
  where
    by_test : (b : Bool) → bytes_eq key pair.key ≡ b → AreDistinct (put pairs key at value) → AreDistinct (cond b (record { key = pair.key; key_at = pair.key_at; value = value } ∷ pairs) (pair ∷ put pairs key at value))
    by_test true e more = h
    by_test false e more =
        let apart : bytes_eq pair.key key ≡ false = keys_apart pair.key key pair.key e ((bytes_eq-Decides pair.key pair.key).1 refl) in
        (member-put pairs key at value pair.key ∙ rw apart h.0, more)

merged-distinct : (given pairs : List JsonPair) → AreDistinct pairs → AreDistinct (merged pairs given)
merged-distinct [] pairs h = h
merged-distinct (more ∷ given) pairs h = merged-distinct given (put pairs more.key more.key_at more.value) (put-distinct pairs more.key more.key_at more.value h)

pub members-distinct : (given : List JsonPair) → AreDistinct (merged [] given)
members-distinct given = merged-distinct given [] tt

-- ascending places, all below an end
abbrev AreWithin : ℕ → List JsonPair → ℕ → Type 0
AreWithin from [] end = from ≤ end
AreWithin from (pair ∷ pairs) end = (from ≤ pair.key_at) × AreWithin (suc pair.key_at) pairs end

within-more : (from end more : ℕ) (pairs : List JsonPair) → end ≤ more → AreWithin from pairs end → AreWithin from pairs more
within-more from end more [] above h = omega arith
within-more from end more (pair ∷ pairs) above h = (h.0, within-more (suc pair.key_at) end more pairs above h.1)

within-ascending : (from end : ℕ) (pairs : List JsonPair) → AreWithin from pairs end → AreAscending from pairs
within-ascending from end [] h = tt
within-ascending from end (pair ∷ pairs) h = (h.0, within-ascending (suc pair.key_at) end pairs h.1)

put-within : (from end : ℕ) (pairs : List JsonPair) (key : List ℕ) (at : ℕ) (value : JsonTree) → end ≤ at → AreWithin from pairs end → AreWithin from (put pairs key at value) (suc at)
put-within from end [] key at value above h = (omega arith, omega arith)
put-within from end (pair ∷ pairs) key at value above h = by_test (bytes_eq key pair.key) (put-within (suc pair.key_at) end pairs key at value above h.1)
  where
    by_test : (b : Bool) → AreWithin (suc pair.key_at) (put pairs key at value) (suc at) → AreWithin from (cond b (record { key = pair.key; key_at = pair.key_at; value = value } ∷ pairs) (pair ∷ put pairs key at value)) (suc at)
    by_test true more = (h.0, within-more (suc pair.key_at) end (suc at) pairs (omega arith) h.1)
    by_test false more = (h.0, more)

merged-ascending : (from end : ℕ) (given pairs : List JsonPair) → AreWithin from pairs end → AreAscending end given → AreAscending from (merged pairs given)
merged-ascending from end [] pairs h rest = within-ascending from end pairs h
merged-ascending from end (more ∷ given) pairs h rest =
    merged-ascending from (suc more.key_at) given (put pairs more.key more.key_at more.value) (put-within from end pairs more.key more.key_at more.value rest.0 h) rest.1

pub members-ascending : (from : ℕ) (given : List JsonPair) → AreAscending from given → AreAscending from (merged [] given)
members-ascending from given h = merged-ascending from from given [] (omega arith) h
