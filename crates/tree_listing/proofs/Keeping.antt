-- How the entries of a folder are kept one after another.
use Rattle.std.proofs.Common.{◌≡◌, ℕ, List, [], ◌∷◌, ◌++◌, length, refl, sym, ap, ◌∙◌, subst}
use Rattle.std.proofs.lemmas.List.{append_assoc}
use Rattle.std.specs.Iterator.{Yields}
use Rattle.std.specs.Vec.Iter.{into_iter_items, into_iter_steps}
use Rattle.std.specs.declared.vec.IntoIter.{IntoIter}
use Rattle.fault_place.specs.declared.limit.Limit.{Limit}
use Rattle.path_text.specs.Child.{child_of}
use Rattle.outside.specs.declared.entry.DirEntry.{DirEntry}
use Rattle.tree_listing.specs.inner.Kept.{kept_of, kept_in, HasKept, IsOver, IsRefusal, Refuses}
use Rattle.tree_listing.specs.declared.kept.Kept.{Kept}
use Rattle.tree_listing.specs.declared.list_end.ListEnd.{ListEnd}
use Rattle.tree_listing.specs.declared.list_end.ListEnd.TheVariants.{Failed, Limit as Over, NoMemory}

-- what an iterator over a vector has given, and what it has left
pub yielded-items : {X Z : Type 0} (items : List X) (from to : IntoIter X Z) → Yields (into_iter_steps {X = X} {Z = Z}) from items to → into_iter_items from ≡ items ++ into_iter_items to
yielded-items [] from to h = ap into_iter_items h
yielded-items (item ∷ items) from to h = h.1.0 ∙ ap (λ xs. item ∷ xs) (yielded-items items h.0 to h.2)

kept_in-append : (folder : List ℕ) (one other : List DirEntry) → kept_in folder (one ++ other) ≡ kept_in folder one ++ kept_in folder other
kept_in-append folder [] other = refl
kept_in-append folder (entry ∷ one) other = ap (λ xs. kept_of folder entry ++ xs) (kept_in-append folder one other) ∙ sym (append_assoc (kept_of folder entry) (kept_in folder one) (kept_in folder other))

later_refusal : (folder : List ℕ) (done rest : List DirEntry) (entry : DirEntry) (old now : List Kept) (limit : Limit) → HasKept folder done old now → Refuses folder (entry ∷ []) now limit → Refuses folder (done ++ entry ∷ rest) old limit
later_refusal folder done rest entry old now limit has refusal =
    let count : now ++ kept_in folder refusal.done ≡ old ++ kept_in folder (done ++ refusal.done) =
    ap (λ xs. xs ++ kept_in folder refusal.done) has.kept ∙ append_assoc old (kept_in folder done) (kept_in folder refusal.done) ∙ ap (λ xs. old ++ xs) (sym (kept_in-append folder done refusal.done)) in
    record {
      done = done ++ refusal.done;
      entry = refusal.entry;
      rest = refusal.rest ++ rest;
      split = ap (λ xs. done ++ (xs ++ rest)) refusal.split ∙ ap (λ xs. done ++ xs) (append_assoc refusal.done (refusal.entry ∷ refusal.rest) rest) ∙ sym (append_assoc done refusal.done (refusal.entry ∷ (refusal.rest ++ rest)));
      segment = refusal.segment;
      over = subst (λ xs. IsOver limit (length xs) (child_of folder refusal.entry.name)) count refusal.over;
    }

-- an end at one entry is an end at all entries, those before it being kept
pub later_end : (folder : List ℕ) (entries done rest : List DirEntry) (entry : DirEntry) (old now : List Kept) (end : ListEnd) → entries ≡ done ++ entry ∷ rest → HasKept folder done old now → IsRefusal folder (entry ∷ []) now end → IsRefusal folder entries old end
later_end folder entries done rest entry old now (Over limit) split has refusal = subst (λ xs. Refuses folder xs old limit) (sym split) (later_refusal folder done rest entry old now limit has refusal)
later_end folder entries done rest entry old now Failed split has refusal = refusal
later_end folder entries done rest entry old now NoMemory split has refusal = tt
