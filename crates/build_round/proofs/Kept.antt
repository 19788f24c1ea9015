-- The files that a seat keeps (this project).
use Rattle.std.proofs.Common.{◌≡◌, ℕ, ◌<◌, ◌⊎◌, Bool, true, List, [], ◌∷◌, ◌++◌, map, append-nil, append_assoc, sym, ap, subst, ◌∙◌, inl, inr, ⊎_elim}
use Rattle.std.specs.Prelude.{Contains}
use Rattle.std.proofs.lemmas.List.{map-append}
use Rattle.std.proofs.lemmas.List.Elements.{Contains-append_left, Contains-append_right, Contains-push}
use Rattle.claim_board.specs.declared.seat.ClaimSeat.{ClaimSeat}
use Rattle.pack_util.specs.declared.number.FileId.{FileId}
use Rattle.graph_types.specs.declared.record.ModRecord.{ModRecord}
use Rattle.build_round.specs.Rounds.{knows}
use Rattle.build_round.specs.inner.Parts.{Adds, AreKept, Keeps}
use Rattle.build_round.proofs.Lists.{all-append, all_weaker}
use Rattle.build_round.proofs.Seats.{knows_more}

pub keeps_none : (count : ℕ) (seat : ClaimSeat) (files : List FileId) → Keeps count seat [] files files
keeps_none count seat files = record { kept = []; new_is = sym (append-nil files); are = record { of_named = tt; all_named = tt; within = tt } }

pub keeps_one : (count : ℕ) (seat : ClaimSeat) (file : FileId) (old new : List FileId) → file.0 < count → new ≡ old ++ file ∷ [] → Keeps count seat (file.0 ∷ []) old new
keeps_one count seat file old new within is = record {
  kept = file ∷ [];
  new_is = is;
  are = record { of_named = (Contains-push [] file.0, tt); all_named = (inl (Contains-push [] file.0), tt); within = (within, tt) };
}

pub keeps_known : (count : ℕ) (seat : ClaimSeat) (file : ℕ) (files : List FileId) → knows file seat ≡ true → Keeps count seat (file ∷ []) files files
keeps_known count seat file files known =
    record { kept = []; new_is = sym (append-nil files); are = record { of_named = tt; all_named = (inr known, tt); within = tt } }

module _ (count : ℕ) where
  pub kept_none : (known : ℕ → Bool) → AreKept count known [] []
  kept_none known = record { of_named = tt; all_named = tt; within = tt }

  -- what is kept of two lists
  pub both_kept : (known first_known second_known : ℕ → Bool) (named more : List ℕ) (kept after : List FileId) → ((file : ℕ) → first_known file ≡ true → known file ≡ true) → ((file : ℕ) → second_known file ≡ true → known file ≡ true)
      → AreKept count first_known named kept → AreKept count second_known more after → AreKept count known (named ++ more) (kept ++ after)
  both_kept known first_known second_known named more kept after first_so second_so first second =
      let numbers = λ (files : List FileId). map (λ (file : FileId). file.0) files in
      let all = map-append (λ (file : FileId). file.0) kept after in
      let Is : ℕ → Type 0 = λ file. Contains (numbers (kept ++ after)) file ⊎ (known file ≡ true) in
      record {
        of_named = all-append (λ (file : FileId). Contains (named ++ more) file.0) kept after
            (all_weaker (λ (file : FileId). Contains named file.0) (λ (file : FileId). Contains (named ++ more) file.0) kept (λ file has. Contains-append_left named more file.0 has) first.of_named)
            (all_weaker (λ (file : FileId). Contains more file.0) (λ (file : FileId). Contains (named ++ more) file.0) after (λ file has. Contains-append_right named more file.0 has) second.of_named);
        all_named = all-append Is named more
            (all_weaker (λ file. Contains (numbers kept) file ⊎ (first_known file ≡ true)) Is named
            (λ file is. ⊎_elim
            (λ (has : Contains (numbers kept) file). inl (subst (λ (files : List ℕ). Contains files file) (sym all) (Contains-append_left (numbers kept) (numbers after) file has)))
            (λ (knows : first_known file ≡ true). inr (first_so file knows)) is)
            first.all_named)
            (all_weaker (λ file. Contains (numbers after) file ⊎ (second_known file ≡ true)) Is more
            (λ file is. ⊎_elim
            (λ (has : Contains (numbers after) file). inl (subst (λ (files : List ℕ). Contains files file) (sym all) (Contains-append_right (numbers kept) (numbers after) file has)))
            (λ (knows : second_known file ≡ true). inr (second_so file knows)) is)
            second.all_named);
        within = all-append (λ (file : FileId). file.0 < count) kept after first.within second.within;
      }

module _ (count : ℕ) (seat seat' : ClaimSeat) (claimed : List ℕ) (built : List (ℕ × ModRecord)) (adds : Adds seat seat' claimed built) (named more : List ℕ) where
  -- the files that are kept first and those that are kept next
  pub keeps_more : (one two three : List FileId) → Keeps count seat named one two → Keeps count seat' more two three → Keeps count seat' (named ++ more) one three
  keeps_more one two three first second = record {
    kept = first.kept ++ second.kept;
    new_is = second.new_is ∙ ap (λ (files : List FileId). files ++ second.kept) first.new_is ∙ append_assoc one first.kept second.kept;
    are = both_kept count (λ file. knows file seat') (λ file. knows file seat) (λ file. knows file seat') named more first.kept second.kept
        (λ file known. knows_more file seat seat' claimed built adds known) (λ file known. known) first.are second.are;
  }
