use Rattle.runs_seal.proofs.reached.answer.Goals as goal

pub show_all-requires : goal.show_all-requires
show_all-requires c = record { over = c.are_over.ensures.0 c.if-not-are_over.false }
