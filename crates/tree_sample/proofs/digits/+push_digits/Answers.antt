use Rattle.std.proofs.Common.{rules, arith, string_bytes}
use Rattle.tree_sample.proofs.Numerals.{last, none}
use Rattle.tree_sample.proofs.Steps.{on_ok}
use Rattle.tree_sample.proofs.digits.+push_digits.Goals as goal

pub returns-then-count-eq0 : goal.returns-then-count-eq0
returns-then-count-eq0 t c = none c.args.count c.args.number (string_bytes c.args.text.now) (search rules)

pub returns : goal.returns
returns t c =
    on_ok c.push_digit.result
    (last c.args.count c.args.number (string_bytes c.args.text.now) (string_bytes c.push_digits.new.text) (string_bytes c.push_digit.new.text) (search rules) c.in_ok-push_digits.ensures)
    c.push_digit.ensures
