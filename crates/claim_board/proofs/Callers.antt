-- For callers: what a claim that is New allows.
use Rattle.std.proofs.Common.{◌≡◌, ℕ, true, ap, ◌∙◌}
use Rattle.std.specs.Prelude.{None}
use Rattle.claim_board.specs.declared.lists.Lists.{Lists}
use Rattle.claim_board.specs.Lists.{is_in, record_in}
use Rattle.claim_board.specs.Claims.{IsWon}
use Rattle.claim_board.proofs.Found.{in_last}

module _ {T : Type 0} (file : ℕ) (old now : Lists T) (win : IsWon file old now) where
  -- the seat owns the file
  pub won_now : is_in file now.won ≡ true
  won_now = ap (λ (l : Lists T). is_in file l.won) win.lists ∙ in_last file old.won

  -- and hasn't published its record
  pub unpublished_now : record_in file now.published ≡ None
  unpublished_now = ap (λ (l : Lists T). record_in file l.published) win.lists ∙ win.not_published
