-- `are_decimal` meets its contract.
use Rattle.std.proofs.Common.{rules, tests, arith, ◌∙◌, min}
use Rattle.std.proofs.lemmas.Iterator.{YieldsList-from_range}
use Rattle.std.proofs.lemmas.Iterator.Search.{all_from_yields_List}
use Rattle.numerals.proofs.Decimal.{decimal_at, each_digit}
use Rattle.numerals.proofs.digits.are_decimal.Goals as goal

pub returns : goal.returns
returns c =
    all_from_yields_List (decimal_at c.args.number) _ _ _ c.all.ensures.ran (YieldsList-from_range 0 (min c.args.digits 16) (min c.args.digits 16) (cc) (omega arith)) (λ x b q k. search (rules, tests))
    ∙ each_digit c.args.digits c.args.number c.ranges.number.fits
