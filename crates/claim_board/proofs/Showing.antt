-- What each step makes of the state of the core that the board shows.
use Rattle.std.proofs.Common.{◌≡◌, ◌≢◌, ℕ, zero, suc, ◌+◌, ◌-◌, ◌*◌, ◌/◌, ◌%◌, ◌<◌, Bool, cond, ne_eqb, eq-eqb, List, [], ◌∷◌, length, map, set, refl, sym, ap, subst, ◌∙◌, arith}
use Rattle.std.specs.Prelude.{Option, Some, None, IsSome, slice_index}
use Rattle.std.specs.Option.{option_flatten}
use mathlib.Core.Option as slot
use prog.Atomic.{either}
use mathlib.Core.Option.{some-injective, some-ne-none}
use lib.ListN.{get_elem?}
use Rattle.atomic_table.specs.Table.{keeps, takes, gives}
use Rattle.atomic_table.proofs.Lists.{set_again, at_map}
use Rattle.board_seats.proofs.Lists.{get_or_at}
use Rattle.graph_types.specs.declared.record.ModRecord.{ModRecord}
use Rattle.make_core.specs.Core.{IsDone, IsOwned}
use Rattle.make_core.specs.declared.event.Event.TheVariants.{Claim, Publish}
use Rattle.claim_board.specs.declared.lists.Lists.{Lists}
use Rattle.claim_board.specs.Shown.{BoardState, IsBoard, IsEvent, owner_shown, record_shown, file_words, records_shown, shown, after_step, claim_word}
use native.Mathlib.Decide.{ℕ_discrete}
use Rattle.claim_board.proofs.Found.{false≢true}
use Rattle.claim_board.proofs.Whole.{there, get_as}

-- ---- lists with one member changed

map-set : {A B : Type 0} (f : A → B) (xs : List A) (k : ℕ) (x : A) → map f (set xs k x) ≡ set (map f xs) k (f x)
map-set f [] k x = refl
map-set f (y ∷ ys) zero x = refl
map-set f (y ∷ ys) (suc k) x = λ i. f y ∷ map-set f ys k x i

records-set : (words : List ℕ) (homes : List (slot.Option (Option ModRecord))) (k word : ℕ) (home : slot.Option (Option ModRecord))
    → records_shown (set words k word) (set homes k home) ≡ set (records_shown words homes) k (record_shown word home)
records-set [] homes k word home = refl
records-set (w ∷ ws) [] zero word home = refl
records-set (w ∷ ws) [] (suc k) word home = refl
records-set (w ∷ ws) (h ∷ hs) zero word home = refl
records-set (w ∷ ws) (h ∷ hs) (suc k) word home = λ i. record_shown w h ∷ records-set ws hs k word home i

record_at : (words : List ℕ) (homes : List (slot.Option (Option ModRecord))) (k word : ℕ) (home : slot.Option (Option ModRecord)) → get_elem? words k ≡ slot.some word → get_elem? homes k ≡ slot.some home
    → get_elem? (records_shown words homes) k ≡ slot.some (record_shown word home)
record_at [] homes k word home e f = absurd (some-ne-none word (sym e))
record_at (w ∷ ws) [] k word home e f = absurd (some-ne-none home (sym f))
record_at (w ∷ ws) (h ∷ hs) zero word home e f = λ i. slot.some (record_shown (some-injective w word e i) (some-injective h home f i))
record_at (w ∷ ws) (h ∷ hs) (suc k) word home e f = record_at ws hs k word home e f

-- a file's word among the words of files
set_file : (words : List ℕ) (file word : ℕ) → file_words (set words (file + 1) word) ≡ set (file_words words) file word
set_file words file word = ap (λ (n : ℕ). file_words (set words n word)) one ∙ at words
  where
    one : file + 1 ≡ suc file
    one = omega arith

    at : (words : List ℕ) → file_words (set words (suc file) word) ≡ set (file_words words) file word
    at [] = refl
    at (w ∷ ws) = refl

file_at : (words : List ℕ) (files file : ℕ) → length words ≡ files + 1 → file < files → get_elem? (file_words words) file ≡ slot.some (slice_index words (file + 1))
file_at [] files file e h = absurd (omega arith)
file_at (w ∷ ws) files file e h =
    let x = there ws file (omega arith) in
    let one : file + 1 ≡ suc file = omega arith in
    x.1 ∙ ap (λ (n : ℕ). slot.some n) (sym (ap (λ (n : ℕ). slice_index (w ∷ ws) n) one ∙ get_or_at ws file x.0 0 x.1))

-- ---- words

owner_of_claimed : (seat : ℕ) → owner_shown (2 * (seat + 1)) ≡ Some seat
owner_of_claimed seat =
    let who : 2 * (seat + 1) / 2 - 1 ≡ seat = omega arith in
    ap (λ (b : Bool). cond b None (Some (2 * (seat + 1) / 2 - 1))) (ne_eqb (2 * (seat + 1)) 0 (λ e. omega arith)) ∙ ap (λ (n : ℕ). Some n) who

owner_of_published : (seat : ℕ) → owner_shown (2 * (seat + 1) + 1) ≡ Some seat
owner_of_published seat =
    let who : (2 * (seat + 1) + 1) / 2 - 1 ≡ seat = omega arith in
    ap (λ (b : Bool). cond b None (Some ((2 * (seat + 1) + 1) / 2 - 1))) (ne_eqb (2 * (seat + 1) + 1) 0 (λ e. omega arith)) ∙ ap (λ (n : ℕ). Some n) who

even_shows_none : (word : ℕ) (home : slot.Option (Option ModRecord)) → word % 2 ≡ 0 → record_shown word home ≡ None
even_shows_none word slot.none e = refl
even_shows_none word (slot.some rec) e = ap (λ (b : Bool). cond b None rec) (eq-eqb (word % 2) 0 e)

odd_shows : (word : ℕ) (rec : Option ModRecord) → word % 2 ≡ 1 → record_shown word (slot.some rec) ≡ rec
odd_shows word rec e = ap (λ (b : Bool). cond b None rec) (ne_eqb (word % 2) 0 (λ q. omega arith))

of_word : (word : ℕ) (home : slot.Option (Option ModRecord)) → Dec (word ≡ 0) → IsSome (record_shown word home) → IsSome (owner_shown word)
of_word word home (yes e) is = absurd (no_record (sym (even_shows_none word home (omega arith))) is)
  where
    no_record : None ≡ record_shown word home → IsSome (record_shown word home) → ⊥
    no_record q is = false≢true (subst (λ (r : Option ModRecord). IsSome r) (sym q) is)
of_word word home (no ne) is = subst (λ (o : Option ℕ). IsSome o) (sym (ap (λ (b : Bool). cond b None (Some (word / 2 - 1))) (ne_eqb word 0 ne))) refl

-- ---- the steps

module _ (files seats : ℕ) (state : BoardState) (board : IsBoard files seats state) (file : ℕ) (below : file < files) where
  found : ℕ
  found = slice_index state.words (file + 1)

  word_at : get_elem? (file_words state.words) file ≡ slot.some (slice_index state.words (file + 1))
  word_at = file_at state.words files file board.ruled.wide below

  home_at : (home : slot.Option (Option ModRecord)) × (get_elem? state.homes file ≡ slot.some home)
  home_at = there state.homes file (subst (λ (n : ℕ). file < n) (sym board.ruled.deep) below)

  owner_at : get_elem? (map owner_shown (file_words state.words)) file ≡ slot.some (owner_shown (slice_index state.words (file + 1)))
  owner_at = at_map owner_shown (file_words state.words) file _ word_at

  done_at : get_elem? (records_shown (file_words state.words) state.homes) file ≡ slot.some (record_shown (slice_index state.words (file + 1)) home_at.0)
  done_at = record_at (file_words state.words) state.homes file _ home_at.0 word_at home_at.1

  -- the maps after a step that leaves this word and this slot
  owners_after : (word : ℕ) → map owner_shown (file_words (set state.words (file + 1) word)) ≡ set (map owner_shown (file_words state.words)) file (owner_shown word)
  owners_after word = ap (map owner_shown) (set_file state.words file word) ∙ map-set owner_shown (file_words state.words) file word

  records_after : (word : ℕ) (home : slot.Option (Option ModRecord)) → records_shown (file_words (set state.words (file + 1) word)) (set state.homes file home) ≡ set (records_shown (file_words state.words) state.homes) file (record_shown word home)
  records_after word home = ap (λ (ws : List ℕ). records_shown ws (set state.homes file home)) (set_file state.words file word) ∙ records-set (file_words state.words) state.homes file word home

  -- the same where the slot stays
  records_stay : (word : ℕ) → records_shown (file_words (set state.words (file + 1) word)) state.homes ≡ set (records_shown (file_words state.words) state.homes) file (record_shown word home_at.0)
  records_stay word = ap (records_shown (file_words (set state.words (file + 1) word))) (sym (set_again state.homes file home_at.0 home_at.1)) ∙ records_after word home_at.0

  same_owner : (word : ℕ) → owner_shown word ≡ owner_shown (slice_index state.words (file + 1)) → map owner_shown (file_words (set state.words (file + 1) word)) ≡ map owner_shown (file_words state.words)
  same_owner word e = owners_after word ∙ set_again (map owner_shown (file_words state.words)) file (owner_shown word) (owner_at ∙ ap (λ (o : Option ℕ). slot.some o) (sym e))

  same_record : (word : ℕ) (home : slot.Option (Option ModRecord)) → record_shown word home ≡ record_shown (slice_index state.words (file + 1)) home_at.0
      → set (records_shown (file_words state.words) state.homes) file (record_shown word home) ≡ records_shown (file_words state.words) state.homes
  same_record word home e = set_again (records_shown (file_words state.words) state.homes) file (record_shown word home) (done_at ∙ ap (λ (r : Option ModRecord). slot.some r) (sym e))

  pub looks : (token : ℕ) (view : List (ℕ × Lists ModRecord)) → shown seats (after_step state file (slice_index state.words (file + 1)) token [] view keeps) ≡ shown seats state
  looks token view =
      let w : ℕ = slice_index state.words (file + 1) in
      λ i. record { workers = seats; owner = same_owner w refl i; done = (records_stay w ∙ same_record w home_at.0 refl) i }

  pub owned : (seat token : ℕ) (view : List (ℕ × Lists ModRecord)) → slice_index state.words (file + 1) ≢ 0
      → shown seats (after_step state file (claim_word seat (slice_index state.words (file + 1))) token [] view keeps) ≡ shown seats state
  owned seat token view ne =
      let w : ℕ = slice_index state.words (file + 1) in
      ap (λ (b : Bool). shown seats (after_step state file (either b (2 * (seat + 1)) w) token [] view keeps)) (ne_eqb w 0 ne) ∙ looks token view

  pub claims : (seat token : ℕ) (view : List (ℕ × Lists ModRecord)) → seat < seats → slice_index state.words (file + 1) ≡ 0
      → IsEvent seats state (after_step state file (claim_word seat 0) token [] view keeps) (Claim seat (record { 0 = file }))
  claims seat token view room free =
      let w : ℕ = 2 * (seat + 1) in
      let even : w % 2 ≡ 0 = omega arith in
      let zero_even : slice_index state.words (file + 1) % 2 ≡ 0 = omega arith in record {
        allowed = λ plan named. record {
          worker_is = room;
          free = get_as (map owner_shown (file_words state.words)) file None (owner_at ∙ ap (λ (n : ℕ). slot.some (owner_shown n)) free);
          named = named;
        };
        after_is = λ i. record {
          workers = seats;
          owner = (owners_after w ∙ ap (set (map owner_shown (file_words state.words)) file) (owner_of_claimed seat)) i;
          done = (records_stay w ∙ same_record w home_at.0 (even_shows_none w home_at.0 even ∙ sym (even_shows_none (slice_index state.words (file + 1)) home_at.0 zero_even))) i;
        };
      }

  pub takes_slot : (seat token : ℕ) (view : List (ℕ × Lists ModRecord)) → slice_index state.words (file + 1) ≡ 2 * (seat + 1)
      → shown seats (after_step state file (slice_index state.words (file + 1)) token [] view (takes file None)) ≡ shown seats state
  takes_slot seat token view is =
      let w : ℕ = slice_index state.words (file + 1) in
      let even : w % 2 ≡ 0 = omega arith in
      λ i. record { workers = seats; owner = same_owner w refl i; done = (records_after w slot.none ∙ same_record w slot.none (sym (even_shows_none w home_at.0 even))) i }

  pub publishes : (seat token : ℕ) (rec : ModRecord) (view : List (ℕ × Lists ModRecord)) → slice_index state.words (file + 1) ≡ 2 * (seat + 1)
      → IsEvent seats state (after_step state file (2 * (seat + 1) + 1) token ((file, Some rec) ∷ []) view gives) (Publish seat (record { 0 = file }) rec)
  publishes seat token rec view is =
      let w : ℕ = 2 * (seat + 1) + 1 in
      let odd : w % 2 ≡ 1 = omega arith in
      let even : slice_index state.words (file + 1) % 2 ≡ 0 = omega arith in
      let mine : owner_shown (slice_index state.words (file + 1)) ≡ Some seat = ap owner_shown is ∙ owner_of_claimed seat in record {
        allowed = λ plan planned. record {
          owned = ap option_flatten (get_as (map owner_shown (file_words state.words)) file (Some seat) (owner_at ∙ ap (λ (o : Option ℕ). slot.some o) mine));
          not_done = get_as (records_shown (file_words state.words) state.homes) file None (done_at ∙ ap (λ (r : Option ModRecord). slot.some r) (even_shows_none (slice_index state.words (file + 1)) home_at.0 even));
          planned = planned;
        };
        after_is = λ i. record {
          workers = seats;
          owner = same_owner w (owner_of_published seat ∙ sym mine) i;
          done = (records_after w (slot.some (Some rec)) ∙ ap (set (records_shown (file_words state.words) state.homes) file) (odd_shows w (Some rec) odd)) i;
        };
      }

  pub owned_once_done : IsDone (shown seats state) file → IsOwned (shown seats state) file
  owned_once_done is =
      let record_is = ap option_flatten (get_as (records_shown (file_words state.words) state.homes) file _ done_at) in
      let owner_is = ap option_flatten (get_as (map owner_shown (file_words state.words)) file _ owner_at) in
      let some_record = subst (λ (r : Option ModRecord). IsSome r) record_is is in
      subst (λ (o : Option ℕ). IsSome o) (sym owner_is) (of_word (slice_index state.words (file + 1)) home_at.0 (ℕ_discrete (slice_index state.words (file + 1)) 0) some_record)

pub tokens_alone : (seats : ℕ) (before after : BoardState) → after.words ≡ before.words → after.homes ≡ before.homes → shown seats after ≡ shown seats before
tokens_alone seats before after words homes = λ i. record { workers = seats; owner = map owner_shown (file_words (words i)); done = records_shown (file_words (words i)) (homes i) }
