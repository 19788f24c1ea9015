-- What a seat knows when its lists grow (this project).
use Rattle.std.proofs.Common.{◌≡◌, ℕ, Bool, true, false, cond, ◌==◌, List, [], ◌∷◌, ◌++◌, append-nil, append_assoc, sym, ap, ◌∙◌, ⊎_elim}
use Rattle.std.specs.List.{list_any}
use Rattle.claim_board.proofs.Found.{or-cases, same_file}
use Rattle.claim_board.specs.Claims.{IsKnown, IsPublished, IsSameSeat, lists_of, published, seen, won}
use Rattle.claim_board.specs.Lists.{is_in, see}
use Rattle.claim_board.specs.declared.lists.Lists.{Lists}
use Rattle.claim_board.specs.declared.seat.ClaimSeat.{ClaimSeat}
use Rattle.graph_types.specs.declared.record.ModRecord.{ModRecord}
use Rattle.build_round.specs.Rounds.{knows}
use Rattle.build_round.specs.inner.Parts.{Adds}
use Rattle.build_round.proofs.Lists.{any_later, any_more, or_left, or_right}

module _ {X : Type 0} where
  -- a list that grew twice
  grown_twice : (one two three more after : List X) → two ≡ one ++ more → three ≡ two ++ after → three ≡ one ++ (more ++ after)
  grown_twice one two three more after first second = second ∙ ap (λ (front : List X). front ++ after) first ∙ append_assoc one more after

pub adds_more : (a b c : ClaimSeat) (claimed claimed' : List ℕ) (built built' : List (ℕ × ModRecord)) → Adds a b claimed built → Adds b c claimed' built' → Adds a c (claimed ++ claimed') (built ++ built')
adds_more a b c claimed claimed' built built' first second = record {
  same = (second.same.0 ∙ first.same.0, second.same.1 ∙ first.same.1);
  won_is = grown_twice (won a) (won b) (won c) claimed claimed' first.won_is second.won_is;
  published_is = grown_twice (published a) (published b) (published c) built built' first.published_is second.published_is;
  told = first.told ++ second.told;
  seen_is = grown_twice (seen a) (seen b) (seen c) first.told second.told first.seen_is second.seen_is;
}

pub knows_more : (file : ℕ) (old new : ClaimSeat) (claimed : List ℕ) (built : List (ℕ × ModRecord)) → Adds old new claimed built → knows file old ≡ true → knows file new ≡ true
knows_more file old new claimed built adds known =
    let has = λ (pair : ℕ × ℕ). pair.0 == file in
    ⊎_elim
    (λ (mine : is_in file (won old) ≡ true). or_left (is_in file (won new)) (list_any has (seen new)) (ap (is_in file) adds.won_is ∙ any_more (λ (other : ℕ). other == file) (won old) claimed mine))
    (λ (told : list_any has (seen old) ≡ true). or_right (is_in file (won new)) (list_any has (seen new)) (ap (list_any has) adds.seen_is ∙ any_more has (seen old) adds.told told))
    (or-cases (is_in file (won old)) (list_any has (seen old)) known)

-- ---- a look

-- the lists stay
pub stays : (old new : ClaimSeat) → IsSameSeat old new → lists_of new ≡ lists_of old → Adds old new [] []
stays old new same lists = record {
  same = same;
  won_is = ap (λ (lists : Lists ModRecord). lists.won) lists ∙ sym (append-nil (won old));
  published_is = ap (λ (lists : Lists ModRecord). lists.published) lists ∙ sym (append-nil (published old));
  told = [];
  seen_is = ap (λ (lists : Lists ModRecord). lists.seen) lists ∙ sym (append-nil (seen old));
}

-- the seat is told an owner, and maybe more
told : (file owner : ℕ) (more : List ℕ) (old new : ClaimSeat) → IsSameSeat old new → lists_of new ≡ record (see file owner (lists_of old)) { seen_published = more } → Adds old new [] []
told file owner more old new same lists = record {
  same = same;
  won_is = ap (λ (lists : Lists ModRecord). lists.won) lists ∙ sym (append-nil (won old));
  published_is = ap (λ (lists : Lists ModRecord). lists.published) lists ∙ sym (append-nil (published old));
  told = (file, owner) ∷ [];
  seen_is = ap (λ (lists : Lists ModRecord). lists.seen) lists;
}

told_one : (file owner : ℕ) (pairs : List (ℕ × ℕ)) → list_any (λ pair. pair.0 == file) (pairs ++ (file, owner) ∷ []) ≡ true
told_one file owner pairs = any_later (λ (pair : ℕ × ℕ). pair.0 == file) pairs ((file, owner) ∷ []) (or_left (file == file) false (same_file file))

-- the seat is the owner, or is told it
known : (file owner : ℕ) (more : List ℕ) (old new : ClaimSeat) (mine : Bool) → IsSameSeat old new → is_in file (won old) ≡ mine
    → lists_of new ≡ cond mine (lists_of old) (record (see file owner (lists_of old)) { seen_published = more }) → Adds old new [] [] × (knows file new ≡ true)
known file owner more old new true same own lists = (
  stays old new same lists,
  knows_more file old new [] [] (stays old new same lists) (or_left (is_in file (won old)) (list_any (λ pair. pair.0 == file) (seen old)) own),
)
known file owner more old new false same own lists = (
  told file owner more old new same lists,
  or_right (is_in file (won new)) (list_any (λ pair. pair.0 == file) (seen new)) (ap (λ (lists : Lists ModRecord). list_any (λ pair. pair.0 == file) lists.seen) lists ∙ told_one file owner (seen old)),
)

pub known_now : (file owner : ℕ) (old new : ClaimSeat) → IsSameSeat old new → IsKnown old.number file owner (lists_of old) (lists_of new) → Adds old new [] [] × (knows file new ≡ true)
known_now file owner old new same is = known file owner (lists_of old).seen_published old new (owner == old.number) same is.won is.lists

pub published_now : (file owner : ℕ) (old new : ClaimSeat) → IsSameSeat old new → IsPublished old.number file owner (lists_of old) (lists_of new) → Adds old new [] [] × (knows file new ≡ true)
published_now file owner old new same is = known file owner ((lists_of old).seen_published ++ file ∷ []) old new (owner == old.number) same is.won is.lists
