use Rattle.form_shapes.proofs.DeclarationLemmas.{known_ahead}
use Rattle.form_shapes.proofs.declaration.Declaration.go_ahead.Goals as goal

pub returns-clause-known : goal.returns-clause-known
returns-clause-known c =
    known_ahead c.args._source.text.now c.args._source.tokens.now c.args.self.now c.args.at c.rest_from-rest.result c.long_ones.result
    c.requires.known c.requires.behind c.requires.within c.rest_from-rest.ensures (cc)
