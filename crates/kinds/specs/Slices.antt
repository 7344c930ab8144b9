-- RULES 1.1, 1.3: how long a slice may be, sums of positions, and the bytes at a place.
use Rattle.std.specs.Prelude.{ℕ, ◌+◌, min, List, take, drop}

-- every lent slice has at most so many bytes, the store of masks and key names fewer
abbrev pub slice_limit : ℕ
slice_limit = 65535

abbrev pub store_limit : ℕ
store_limit = 32768

-- sums saturate at 2^64-1
abbrev pub saturating_sum : ℕ → ℕ → ℕ
saturating_sum a b = min (a + b) 0xFFFFFFFFFFFFFFFF

-- n bytes from at on
abbrev pub cut : ℕ → ℕ → List ℕ → List ℕ
cut at n xs = take n (drop at xs)

-- a place in memory is a block and an offset: so many bytes behind another
abbrev pub place_behind : ℕ → ℕ × ℕ → ℕ × ℕ
place_behind n p = (p.0, n + p.1)
