-- A split that breaks no rule is the one by its candidate.
use Rattle.std.proofs.Common.{◌≡◌, ℕ, ◌<◌, ◌==◌, ◌||◌, Bool, true, false, Option, None, Some, is_some, nat_lt, List, [], ◌∷◌, map, length, refl, sym, ap, ◌∙◌}
use Rattle.std.specs.Cmp.Lexicographic.{pointwise}
use Rattle.std.proofs.Math.Bool.{beq}
use Rattle.std.proofs.lemmas.Bool.{and_parts, eqb-true, ltb-true, false≢true}
use Rattle.pack_util.specs.declared.number.ChunkNo.{ChunkNo}
use Rattle.pack_util.specs.declared.number.ModuleNo.{ModuleNo}
use Rattle.graph_types.specs.Modules.{module_no}
use Rattle.chunk_graph.specs.declared.split.Split.{Split}
use Rattle.chunk_graph.specs.Chunks.{State}
use Rattle.chunk_graph.specs.Moves.{chunk_no}
use Rattle.split_plan.specs.declared.candidate.Candidate.{Candidate}
use Rattle.split_plan.specs.Order.{places}
use Rattle.split_plan.specs.Plan.{Plan, IsPlan}
use Rattle.split_plan.specs.Step.{made_of, reused_of}
use Rattle.split_chunks.specs.Accepted.{IsSplitBy}
use Rattle.split_chunks.specs.Rules.{broken, claimed}
use Rattle.split_chunks.proofs.Claimed.{candidate-from, kept_all}
use Rattle.split_chunks.proofs.Passing.{has_room, none_broken}

same_list : {X : Type 0} (eq : X → X → Bool) (xs ys : List X) → ((x y : X) → eq x y ≡ true → x ≡ y) → pointwise eq xs ys ≡ true → xs ≡ ys
same_list eq [] [] h e = refl
same_list eq [] (y ∷ ys) h e = absurd (false≢true e)
same_list eq (x ∷ xs) [] h e = absurd (false≢true e)
same_list eq (x ∷ xs) (y ∷ ys) h e =
    let parts = and_parts (eq x y) (pointwise eq xs ys) e in ap (λ z. z ∷ xs) (h x y parts.0) ∙ ap (λ zs. y ∷ zs) (same_list eq xs ys h parts.1)

same_chunk : (c d : ChunkNo) → (c.0 == d.0) ≡ true → c ≡ d
same_chunk c d e = ap chunk_no (eqb-true c.0 d.0 e)

same_module : (c d : ModuleNo) → (c.0 == d.0) ≡ true → c ≡ d
same_module c d e = ap module_no (eqb-true c.0 d.0 e)

same_truth : (b c : Bool) → beq b c ≡ true → b ≡ c
same_truth true true e = refl
same_truth true false e = absurd (false≢true e)
same_truth false true e = absurd (false≢true e)
same_truth false false e = refl

with_fields : (y : Split) (chunks : List ChunkNo) (modules : List ModuleNo) (made : ChunkNo) (reused : Bool) → y.chunks ≡ chunks → y.modules ≡ modules → y.made ≡ made → y.reused ≡ reused
    → y ≡ record { cache_group = y.cache_group; forced = y.forced; chunks = chunks; modules = modules; made = made; reused = reused }
with_fields y chunks modules made reused c m n r =
    ap (λ v. record { cache_group = y.cache_group; forced = y.forced; chunks = v; modules = y.modules; made = y.made; reused = y.reused }) c
    ∙ ap (λ v. record { cache_group = y.cache_group; forced = y.forced; chunks = chunks; modules = v; made = y.made; reused = y.reused }) m
    ∙ ap (λ v. record { cache_group = y.cache_group; forced = y.forced; chunks = chunks; modules = modules; made = v; reused = y.reused }) n
    ∙ ap (λ v. record { cache_group = y.cache_group; forced = y.forced; chunks = chunks; modules = modules; made = made; reused = v }) r

room_of : (o : Option ℕ) (n : ℕ) → (is_some o || nat_lt n 8192) ≡ true → o ≡ None → n < 8192
room_of None n h e = ltb-true n 8192 h
room_of (Some i) n h e = absurd (false≢true (sym (ap is_some e)))

pub split-kept : (p : Plan) (s : State) (y : Split) → broken p s y ≡ None → IsSplitBy p s y (claimed p s y)
split-kept p s y e =
    let x = claimed p s y in
    let all = kept_all p s y e in
    let list = (and_parts _ _ (and_parts _ _ all.1.sharing).1).0 in
    let made = and_parts _ _ all.2 in
    let rest = and_parts _ _ made.1 in
    record {
      candidate = candidate-from p s y all.0 all.1;
      is = with_fields y (map chunk_no (places x.chunks)) (map module_no (places x.modules)) (made_of s (reused_of p s x)) (is_some (reused_of p s x))
          (sym (same_list (λ (c d : ChunkNo). c.0 == d.0) (map chunk_no (places x.chunks)) y.chunks same_chunk list))
          (sym (same_list (λ (c d : ModuleNo). c.0 == d.0) (map module_no (places x.modules)) y.modules same_module all.1.modules))
          (sym (same_chunk (made_of s (reused_of p s x)) y.made made.0))
          (sym (same_truth (is_some (reused_of p s x)) y.reused rest.0));
      room = room_of (reused_of p s x) (length s.chunks) rest.1;
    }

pub kept-split : (p : Plan) (s : State) (y : Split) (x : Candidate) → IsPlan p → IsSplitBy p s y x → broken p s y ≡ None
kept-split p s y x plan by = ap (broken p s) by.is ∙ none_broken p s x plan by.candidate (has_room (reused_of p s x) (length s.chunks) by.room)
