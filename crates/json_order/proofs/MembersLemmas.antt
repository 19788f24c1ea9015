-- The held members are those of the object, one put after another.
use Rattle.std.proofs.Common.{◌≡◌, ℕ, Bool, true, false, List, [], ◌∷◌, Some, Option, cond, ap, string_bytes}
use Rattle.std.specs.Option.{option_map_or}
use Rattle.std.specs.Map.{lookup}
use Rattle.std.specs.String.{string_eq}
use Rattle.std.specs.Str.{bytes_eq}
use Rattle.std.specs.declared.string.String.{String}
use Rattle.std.specs.declared.alloc.Global.{Global}
use Rattle.indexmap.specs.IndexMap.{insert_entry}
use Rattle.json_order.specs.declared.members.Held.{Held}
use Rattle.json_order.specs.declared.tree.JsonPair.{JsonPair}
use Rattle.json_order.specs.declared.tree.JsonTree.{JsonTree}
use Rattle.json_order.specs.inner.Held.{held, pair_of, pairs_of, place_of}
use Rattle.json_order.specs.Members.{put}

at_first : (b : Bool) (e : String Global × Held) (es is : List (String Global × Held)) (ps : List JsonPair) (found : Option Held) (at k : ℕ) (value : JsonTree)
    → k ≡ option_map_or (λ h. h.key_at) (cond b (Some e.1) found) at
    → (k ≡ option_map_or (λ h. h.key_at) found at → pairs_of is ≡ ps)
    → pairs_of (cond b ((e.0, held k value) ∷ es) (e ∷ is))
    ≡ cond b (record { key = string_bytes e.0; key_at = e.1.key_at; value = value } ∷ pairs_of es) (pair_of e ∷ ps)
at_first true e es is ps found at k value h rest =
    ap (λ (n : ℕ). let p : JsonPair = record { key = string_bytes e.0; key_at = n; value = value } in p ∷ pairs_of es) h
at_first false e es is ps found at k value h rest = ap (λ (xs : List JsonPair). pair_of e ∷ xs) (rest h)

pub pairs_of-insert_entry : (es : List (String Global × Held)) (key : String Global) (at k : ℕ) (value : JsonTree)
    → k ≡ place_of es key at
    → pairs_of (insert_entry string_eq es key (held k value)) ≡ put (pairs_of es) (string_bytes key) at value
pairs_of-insert_entry [] key at k value h =
    ap (λ (n : ℕ). let p : JsonPair = record { key = string_bytes key; key_at = n; value = value } in p ∷ []) h
pairs_of-insert_entry (e ∷ es) key at k value h =
    at_first (bytes_eq (string_bytes key) (string_bytes e.0)) e es (insert_entry string_eq es key (held k value))
    (put (pairs_of es) (string_bytes key) at value) (lookup (string_eq key) es) at k value h
    (λ g. pairs_of-insert_entry es key at k value g)
