-- The numbers of declarations.
use Rattle.std.proofs.Common.{◌≡◌, ℕ, suc, ◌+◌, ◌<◌, ◌++◌, Bool, true, false, List, [], ◌∷◌, length, length-append, take, append_assoc, sym, ap, ◌∙◌, refl, arith, inl, inr, cond}
use Rattle.std.proofs.lemmas.Bool.{cases_Bool, cond-true, cond-false}
use Rattle.std.proofs.lemmas.List.{length_push, take_at}
use Rattle.std.proofs.lemmas.List.FromFn.{length-map-range_with_len, get_or-map-range_with_len}
use Rattle.std.proofs.lemmas.List.Sums.{sum_by-append}
use Rattle.std.specs.List.{cons_option, enumerate_from, range_with_len}
use Rattle.std.specs.Prelude.{count_by, filter_map, slice_index, Some, None}
use Rattle.graph_types.specs.declared.item.Item.{Item}
use Rattle.graph_types.specs.Whole.{declares}
use Rattle.module_code.specs.Numbers.{load_numbers, loads_before, load_number_of}

pub length-load_numbers : (items : List Item) → length (load_numbers items) ≡ length items
length-load_numbers items = length-map-range_with_len (loads_before items) 0 (length items)

slice_index-load_numbers : (items : List Item) (number : ℕ) → number < length items → slice_index (load_numbers items) number ≡ loads_before items number
slice_index-load_numbers items number within = get_or-map-range_with_len (loads_before items) 0 (length items) number number 0 within (omega arith)

abbrev is_declaration : Item → Bool
is_declaration item = declares item.kind

-- how many declarations an item is
abbrev weight : Item → ℕ
weight item = cond (is_declaration item) 1 0

count_by-push : (done : List Item) (item : Item) (n : ℕ) → weight item ≡ n → count_by is_declaration (done ++ item ∷ []) ≡ count_by is_declaration done + n
count_by-push done item n is =
    let more : count_by is_declaration (done ++ item ∷ []) ≡ count_by is_declaration done + (0 + weight item) = sum_by-append weight done (item ∷ []) in
    let tidy : count_by is_declaration done + (0 + weight item) ≡ count_by is_declaration done + weight item = omega arith in
    more ∙ tidy ∙ ap (λ k. count_by is_declaration done + k) is

count_by-cons : (item : Item) (rest : List Item) (n : ℕ) → weight item ≡ n → count_by is_declaration (item ∷ rest) ≡ count_by is_declaration rest + n
count_by-cons item rest n is =
    let split : count_by is_declaration (item ∷ rest) ≡ (0 + weight item) + count_by is_declaration rest = sum_by-append weight (item ∷ []) rest in
    let swap : (0 + weight item) + count_by is_declaration rest ≡ count_by is_declaration rest + weight item = omega arith in
    split ∙ swap ∙ ap (λ k. count_by is_declaration rest + k) is

number_of-declaration : (numbers : List ℕ) (place count : ℕ) (item : Item) → is_declaration item ≡ true → slice_index numbers place ≡ count → load_number_of numbers (place, item) ≡ Some count
number_of-declaration numbers place count item declared is = cond-true _ _ _ declared ∙ ap Some is

number_of-other : (numbers : List ℕ) (place : ℕ) (item : Item) → is_declaration item ≡ false → load_number_of numbers (place, item) ≡ None
number_of-other numbers place item other = cond-false _ _ _ other

-- the declarations behind some items have the next numbers
pub filter_map-number_of : (items done rest : List Item) → items ≡ done ++ rest
    → filter_map (load_number_of (load_numbers items)) (enumerate_from (length done) rest) ≡ range_with_len (count_by is_declaration done) (count_by is_declaration rest)
filter_map-number_of items done [] is = refl
filter_map-number_of items done (item ∷ rest) is =
    let number_of_any = load_number_of (load_numbers items) in
    let place = length done in
    let count = count_by is_declaration done in
    let within : place < length items = omega (arith, ap length is, length-append done (item ∷ rest)) in
    let number : slice_index (load_numbers items) place ≡ count =
    slice_index-load_numbers items place within ∙ ap (count_by is_declaration) (ap (take place) is ∙ take_at done (item ∷ rest) place refl) in
    let later = filter_map-number_of items (done ++ item ∷ []) rest (is ∙ sym (append_assoc done (item ∷ []) rest)) in
    let behind : filter_map number_of_any (enumerate_from (place + 1) rest) ≡ range_with_len (count_by is_declaration (done ++ item ∷ [])) (count_by is_declaration rest) =
    ap (λ from. filter_map number_of_any (enumerate_from from rest)) (sym (length_push done item)) ∙ later in
    let following = filter_map number_of_any (enumerate_from (place + 1) rest) in
    let left = count_by is_declaration rest in
    elim (cases_Bool (is_declaration item)) [
      | inl declared ↦
          let one : weight item ≡ 1 = cond-true _ _ _ declared in
          let up : left + 1 ≡ suc left = omega arith in
          ap (λ maybe. cons_option maybe following) (number_of-declaration (load_numbers items) place count item declared number)
          ∙ ap (λ numbers. count ∷ numbers) (behind ∙ ap (λ from. range_with_len from left) (count_by-push done item 1 one))
          ∙ ap (range_with_len count) (sym (count_by-cons item rest 1 one ∙ up))
      | inr other ↦
          let none : weight item ≡ 0 = cond-false _ _ _ other in
          let still : count + 0 ≡ count = omega arith in
          let level : left + 0 ≡ left = omega arith in
          ap (λ maybe. cons_option maybe following) (number_of-other (load_numbers items) place item other)
          ∙ behind ∙ ap (λ from. range_with_len from left) (count_by-push done item 0 none ∙ still)
          ∙ ap (range_with_len count) (sym (count_by-cons item rest 0 none ∙ level))
    ]
