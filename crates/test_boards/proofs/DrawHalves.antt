-- Seats of a board in two parts.
use Rattle.std.proofs.Common.{◌≡◌, ℕ, suc, ◌+◌, List, [], ◌∷◌, ◌++◌, length, take, drop, sym, ap, subst, ◌∙◌, arith, length-append}
use lib.ListN.{take-append-drop, length-take, length-drop}
use Rattle.draw_board.specs.declared.board.DrawBoard.{DrawBoard}
use Rattle.draw_board.specs.declared.seat.DrawSeat.{DrawSeat}
use Rattle.draw_board.specs.Draws.{AreSeatsFrom, AreSeatsOf, IsNewSeat, IsSeatOf}
use Rattle.std.specs.List.{AllByRecursion}

pub seats_left : (board : DrawBoard) (from : ℕ) (xs ys : List DrawSeat) → AreSeatsFrom board from (xs ++ ys) → AreSeatsFrom board from xs
seats_left board from [] ys are = tt
seats_left board from (x ∷ xs) ys are = (are.0, are.1, seats_left board (suc from) xs ys are.2)

pub seats_right : (board : DrawBoard) (from next : ℕ) (xs ys : List DrawSeat) → next ≡ from + length xs → AreSeatsFrom board from (xs ++ ys) → AreSeatsFrom board next ys
seats_right board from next [] ys e are = let same : next ≡ from = omega arith in subst (λ (n : ℕ). AreSeatsFrom board n ys) (sym same) are
seats_right board from next (x ∷ xs) ys e are = seats_right board (suc from) next xs ys (omega arith) are.2

pub seats_both : (board : DrawBoard) (from next : ℕ) (xs ys : List DrawSeat) → next ≡ from + length xs → AreSeatsFrom board from xs → AreSeatsFrom board next ys → AreSeatsFrom board from (xs ++ ys)
seats_both board from next [] ys e left right = let same : next ≡ from = omega arith in subst (λ (n : ℕ). AreSeatsFrom board n ys) same right
seats_both board from next (x ∷ xs) ys e left right = (left.0, left.1, seats_both board (suc from) next xs ys (omega arith) left.2 right)

-- the next seat of a list, and those after it
pub next_seat : (board : DrawBoard) (next : ℕ) (seat : DrawSeat) (left after : List DrawSeat) → left ≡ seat ∷ after → AreSeatsFrom board next left → IsSeatOf board seat × (seat.number ≡ next) × AreSeatsFrom board (suc next) after
next_seat board next seat left after is are = subst (AreSeatsFrom board next) is are

pub one_more : (board : DrawBoard) (from : ℕ) (done : List DrawSeat) (seat : DrawSeat) (next : ℕ) → next ≡ from + length done → AreSeatsFrom board from done → IsSeatOf board seat → seat.number ≡ next
    → AreSeatsFrom board from (done ++ seat ∷ [])
one_more board from done seat next e are is number = seats_both board from next done (seat ∷ []) e are (is, number, tt)

pub first_half : (board : DrawBoard) (all half : List DrawSeat) → AreSeatsOf board all → board.seats ≡ 32 → half ≡ take 16 all → AreSeatsFrom board 0 half × (length half ≡ 16)
first_half board all half are many is =
    let parts = subst (AreSeatsFrom board 0) (sym (take-append-drop 16 all)) are.1 in
    let long = are.0 in
    let short : length (take 16 all) ≡ 16 = omega (arith, length-take 16 all) in
    (subst (AreSeatsFrom board 0) (sym is) (seats_left board 0 (take 16 all) (drop 16 all) parts), ap length is ∙ short)

pub second_half : (board : DrawBoard) (all half : List DrawSeat) → AreSeatsOf board all → board.seats ≡ 32 → half ≡ drop 16 all → AreSeatsFrom board 16 half × (length half ≡ 16)
second_half board all half are many is =
    let parts = subst (AreSeatsFrom board 0) (sym (take-append-drop 16 all)) are.1 in
    let long = are.0 in
    let short : length (take 16 all) ≡ 16 = omega (arith, length-take 16 all) in
    let rest : length (drop 16 all) ≡ 16 = omega (arith, length-drop 16 all) in
    (subst (AreSeatsFrom board 16) (sym is) (seats_right board 0 16 (take 16 all) (drop 16 all) (omega arith) parts), ap length is ∙ rest)

pub both_halves : (board : DrawBoard) (xs ys all : List DrawSeat) → board.seats ≡ 32 → all ≡ xs ++ ys → AreSeatsFrom board 0 xs → length xs ≡ 16 → AreSeatsFrom board 16 ys → length ys ≡ 16 → AreSeatsOf board all
both_halves board xs ys all many is left n right m =
    (omega (arith, ap length is, length-append xs ys), subst (AreSeatsFrom board 0) (sym is) (seats_both board 0 16 xs ys (omega arith) left right))

pub new_left : (xs ys : List DrawSeat) → AllByRecursion IsNewSeat (xs ++ ys) → AllByRecursion IsNewSeat xs
new_left [] ys all = tt
new_left (x ∷ xs) ys all = (all.0, new_left xs ys all.1)

pub new_right : (xs ys : List DrawSeat) → AllByRecursion IsNewSeat (xs ++ ys) → AllByRecursion IsNewSeat ys
new_right [] ys all = all
new_right (x ∷ xs) ys all = new_right xs ys all.1

pub new_first : (all half : List DrawSeat) → AllByRecursion IsNewSeat all → half ≡ take 16 all → AllByRecursion IsNewSeat half
new_first all half new is = subst (AllByRecursion IsNewSeat) (sym is) (new_left (take 16 all) (drop 16 all) (subst (AllByRecursion IsNewSeat) (sym (take-append-drop 16 all)) new))

pub new_second : (all half : List DrawSeat) → AllByRecursion IsNewSeat all → half ≡ drop 16 all → AllByRecursion IsNewSeat half
new_second all half new is = subst (AllByRecursion IsNewSeat) (sym is) (new_right (take 16 all) (drop 16 all) (subst (AllByRecursion IsNewSeat) (sym (take-append-drop 16 all)) new))

pub next_new : (seat : DrawSeat) (left after : List DrawSeat) → left ≡ seat ∷ after → AllByRecursion IsNewSeat left → IsNewSeat seat × AllByRecursion IsNewSeat after
next_new seat left after is all = subst (AllByRecursion IsNewSeat) is all
