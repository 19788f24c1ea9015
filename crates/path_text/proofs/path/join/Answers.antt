use Rattle.std.proofs.Common.{lit<, sym, ap, ◌∙◌, Ok, false, ◌≡◌, ◌∷◌, []}
use Rattle.std.specs.List.{join_by}
use Rattle.path_text.specs.Path.{begins_with_slash, texts}
use Rattle.path_text.proofs.Names.{join_of-folder}
use Rattle.path_text.proofs.Walks.{join_by-path_of, join_of_walk, some_from_ok}
use Rattle.path_text.proofs.path.join.Goals as goal

pub returns-clause-answer : goal.returns-clause-answer
returns-clause-answer c =
    let relative : begins_with_slash c.args.rest.now ≡ false = sym (c.if-starts_with.ensures.byte (lit< tt) (lit< tt) (λ _ _ h. h)) in
    let walked = some_from_ok _ _ (rw c.in_ok-kept.ensures at c.in_ok-walk.ensures) in
    join_of_walk c.args.folder.now c.args.rest.now (texts c.walk.new.kept.items) (sym c.if-has_forbidden.ensures) relative walked
    ∙ ap Ok (sym (c.in_ok-join.ensures.ok ∙ ap (join_by (λ x. x.now) (47 ∷ [])) c.deref.ensures.value ∙ join_by-path_of c.walk.new.kept.items))

pub returns-clause-normal : goal.returns-clause-normal
returns-clause-normal c = join_of-folder c.args.folder.now c.args.rest.now _ c.requires (returns-clause-answer c)
