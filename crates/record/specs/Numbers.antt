-- RULES 9.1: the numbers of a record, big-endian.
use Rattle.std.specs.Prelude.{ℕ, ◌+◌, ◌*◌, ◌/◌, ◌%◌, List, get_or, eqb}
use Rattle.record.specs.declared.numbers.Flags.{Flags}
use Rattle.record.specs.declared.numbers.Numbers.{Numbers}

-- 16 bits, and 32, from a place on
abbrev pub be16 : List ℕ → ℕ → ℕ
be16 bytes at = 256 * get_or bytes at 0 + get_or bytes (at + 1) 0

abbrev pub be32 : List ℕ → ℕ → ℕ
be32 bytes at = 65536 * be16 bytes at + be16 bytes (at + 2)

-- flags: 1 high-low, 2 mask, 4 condensed, 8 max; and the other flag bits
abbrev pub flags_of : ℕ → Flags
flags_of byte =
    record {
      high_low = eqb (byte % 2) 1;
      mask = eqb (byte / 2 % 2) 1;
      condensed = eqb (byte / 4 % 2) 1;
      max = eqb (byte / 8 % 2) 1;
      others = byte / 16;
    }

-- a record has 16 bytes
abbrev pub record_size : ℕ
record_size = 16

-- type; flags; variant; termination; 32-bit bit length or min; 32-bit max; 16-bit place and 16-bit length of mask or key name
abbrev pub numbers_of : List ℕ → Numbers
numbers_of bytes =
    record {
      type_code = get_or bytes 0 0;
      flags = flags_of (get_or bytes 1 0);
      variant = get_or bytes 2 0;
      termination = get_or bytes 3 0;
      length = be32 bytes 4;
      most = be32 bytes 8;
      place = record { at = be16 bytes 12; len = record { 0 = be16 bytes 14 } };
    }
