-- Bytes that are UTF-8, and the string of them.
use Rattle.std.proofs.Common.{◌≡◌, ℕ, Bool, true, false, List, Result, Ok, Err, IfOk, IsOk, MatchOption, refl, ap, subst, string_bytes}
use Rattle.std.specs.Str.{IsUtf8, is_utf8}
use Rattle.std.specs.Result.{result_ok}
use Rattle.std.specs.String.{string_vec}
use Rattle.std.specs.declared.vec.Vec.{Vec}
use Rattle.std.specs.declared.string.String.{String}
use Rattle.std.specs.declared.alloc.Global.{Global}
use Rattle.std.proofs.lemmas.Str.{IsUtf8-string_bytes, is_utf8-from_IsUtf8, IsUtf8-from_is_utf8}

not_ok : {E : Type 0} (word : List ℕ) (e : E) (b : Bool) → is_utf8 word ≡ b → (IsUtf8 word → IsOk {T = String Global} {E = E} (Err e)) → is_utf8 word ≡ false
not_ok word e true h ok = let bad : false ≡ true = ok (IsUtf8-from_is_utf8 word h) in cc
not_ok word e false h ok = h

pub string_of_word : {E : Type 0} (r : Result (String Global) E) (vec : Vec ℕ Global)
    → IfOk r (λ t. string_vec t ≡ vec) → (IsUtf8 vec.items → IsOk r)
    → MatchOption (result_ok r) (is_utf8 vec.items ≡ false) (λ s. (is_utf8 vec.items ≡ true) × (string_bytes s ≡ vec.items))
string_of_word (Ok t) vec same ok =
    let e : string_bytes t ≡ vec.items = ap (λ (v : Vec ℕ Global). v.items) same in
    (is_utf8-from_IsUtf8 vec.items (subst (λ (w : List ℕ). IsUtf8 w) e (IsUtf8-string_bytes t)), e)
string_of_word (Err e) vec same ok = not_ok vec.items e (is_utf8 vec.items) refl ok
