-- Lists that are handed out as parts, and parts that are taken apart (this project).
use Rattle.std.specs.Prelude.{◌≡◌, List, [], map, Ok}
use Rattle.claim_board.specs.declared.seat.ClaimSeat.{ClaimSeat}
use Rattle.draw_board.specs.declared.seat.DrawSeat.{DrawSeat}
use Rattle.resolve_path.specs.declared.kept.KeptManifest.{KeptManifest}
use Rattle.build_round.specs.declared.part.Part.{Part}

module _ {R : Type 0} where
  abbrev pub readers_of : List (Part R) → List R
  readers_of parts = map (λ part. part.bench.reader) parts

  abbrev pub seats_of : List (Part R) → List ClaimSeat
  seats_of parts = map (λ part. part.bench.seat) parts

  abbrev pub caches_of : List (Part R) → List (List KeptManifest)
  caches_of parts = map (λ part. part.bench.cache) parts

  abbrev pub hands_of : List (Part R) → List DrawSeat
  hands_of parts = map (λ part. part.hand) parts

  -- the lists that these parts are made of
  pub record AreMadeOf (readers : List R) (seats : List ClaimSeat) (caches : List (List KeptManifest)) (hands : List DrawSeat) (parts : List (Part R)) : Type 0 where
    pub readers_are : readers ≡ readers_of parts
    pub seats_are : seats ≡ seats_of parts
    pub caches_are : caches ≡ caches_of parts
    pub hands_are : hands ≡ hands_of parts

  -- a part before its work
  pub record IsIdle (part : Part R) : Type 0 where
    pub nothing_kept : part.bench.kept.items ≡ []
    pub end_is : part.end ≡ Ok tt
