use Rattle.std.proofs.Common.{◌≡◌, true, false, ap, sym, subst, map, string_bytes, ◌∙◌, inl, inr}
use Rattle.clap.specs.Faults.{fault_of, is_simple_and_free}
use Rattle.clap.specs.Kinds.{HasKind}
use Rattle.clap.specs.Words.{found_of, kind_of}
use Rattle.clap.specs.declared.error.kind.ErrorKind.TheVariants.{OutOfMemory}
use Rattle.clap.specs.Simple.{is_simple, matches_of}
use Rattle.cli_words.proofs.Answered.{all_texts, is_simple_so, refused_so, taken_so}
use Rattle.cli_words.proofs.arguments.read_arguments.Goals as goal

pub returns-in-Ok : goal.returns-in-Ok
returns-in-Ok c =
    let words = map string_bytes c.args.words.now in
    let app = c.in_ok-command.ensures in
    let rows = (c.in-Ok.ensures.matches (ap is_simple app)).0 ∙ ap (λ a. matches_of a words) app in
    let none = sym (ap (λ a. fault_of a words) app) ∙ c.in-Ok.ensures.kinds (ap is_simple_and_free app ∙ is_simple_so) in
    taken_so words (all_texts c.args.words.now) (found_of c.in-Ok.matches) rows none c.found_in.result c.found_in.ensures

-- an error of another kind than want of memory is among those of the words
pub returns : goal.returns
returns c =
    let words = map string_bytes c.args.words.now in
    let app = c.in_ok-command.ensures in
    let kinds = subst (λ a. HasKind (fault_of a words) c.in-Err.error) app (c.in-Err.ensures.kinds (ap is_simple_and_free app ∙ is_simple_so)) in
    elim kinds [
      | inl memory ↦
          let same : c.kind.result ≡ OutOfMemory = c.kind.ensures ∙ memory in
          let bad : false ≡ true = sym c.if-eq.false ∙ (rw same at c.eq.ensures) in
          absurd (cc)
      | inr among ↦ refused_so words (all_texts c.args.words.now) (kind_of c.in-Err.error) among
    ]
