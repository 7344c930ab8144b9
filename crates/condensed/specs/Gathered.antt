-- RULES 4.9: how many bits a condensed reading gathers.
use Rattle.std.specs.Prelude.{ℕ, List}
use Rattle.kinds.specs.Types.{bytes_for}
use Rattle.condensed.specs.Condensed.{front_bit, ones_below}

-- the ones of the mask that are met inside the length; those past it, and those that meet no byte of the result, do not count
abbrev pub ones_met : List ℕ → ℕ → ℕ
ones_met mask len = ones_below (front_bit mask (bytes_for len)) len
