-- How the code describes a source of which nothing is copied; no part of RULES.
use Rattle.std.specs.Prelude.{ℕ, ◌-◌, ◌*◌, ◌%◌, min, Bool, cond, ◌&&◌, List, length, eqb, ltb, leb}
use Rattle.kinds.specs.Types.{bytes_for}
use Rattle.bits.specs.Bits.{bit, bit_at}
use Rattle.masks.specs.Mask.{Mask, no_mask, plain_mask, condensed_mask, mask_of}
use Rattle.masks.specs.Plain.{bit_of_mask}
use Rattle.condensed.specs.Condensed.{replaced}
use Rattle.pack.specs.declared.Packing.{Packing}
use Rattle.pack.specs.declared.source.Source as code
use Rattle.pack.specs.Source.{Source}

-- bits from the lowest: those of the tail's bytes, of the data, and of the head, a number
unfoldable pub framed_bit : Packing → List ℕ → ℕ → ℕ
framed_bit p xs i =
    cond (ltb i (8 * p.tail_len.0)) (bit p.tail (i % 8))
    (cond (ltb (i - 8 * p.tail_len.0) (8 * length xs)) (bit_at xs (i - 8 * p.tail_len.0))
    (cond (ltb (i - 8 * p.tail_len.0 - 8 * length xs) 64) (bit p.head (i - 8 * p.tail_len.0 - 8 * length xs)) 0))

-- of the last byte so many bits are kept
unfoldable pub packed_bit : Packing → List ℕ → ℕ → ℕ
packed_bit p xs i = cond (ltb i 8 && leb p.last_bits.0 i) 0 (framed_bit p xs i)

abbrev pub packed_bits_under : Mask → Packing → List ℕ → ℕ → ℕ
packed_bits_under no_mask p xs i = packed_bit p xs i
packed_bits_under (plain_mask mask) p xs i = min (packed_bit p xs i) (bit_of_mask mask i)
packed_bits_under (condensed_mask mask) p xs i = replaced mask xs i

abbrev pub packed_source : Packing → Mask → List ℕ → Source
packed_source p mask xs = record { size = p.bit_len.0; bits = packed_bits_under mask p xs; mask = mask }

-- a source as the code has it
abbrev pub source_of : code.Source → Source
source_of s = packed_source s.packed.packing (mask_of s.mask) s.packed.data.bytes.now

-- bytes as they are: a number's bits before them, and some equal bytes after them
abbrev pub framing : ℕ → ℕ → ℕ → ℕ → ℕ → Packing
framing size head n tail m =
    record {
      bit_len = record { 0 = size };
      head = head;
      data_len = record { 0 = n };
      tail = tail;
      tail_len = record { 0 = m };
      last_bits = record { 0 = 8 };
    }

-- so many bits of n bytes of input, from its last bytes or from its first
abbrev pub aligning : Bool → ℕ → ℕ → Packing
aligning byte_type len n =
    record {
      bit_len = record { 0 = len };
      head = 0;
      data_len = record { 0 = cond byte_type (min n (bytes_for len)) n };
      tail = 0;
      tail_len = record { 0 = cond byte_type (bytes_for len - n) 0 };
      last_bits = record { 0 = cond (eqb (len % 8) 0) 8 (len % 8) };
    }

-- a field's packing; a condensed mask takes the input as it is
abbrev pub packing : Mask → Bool → ℕ → ℕ → Packing
packing no_mask byte_type len n = aligning byte_type len n
packing (plain_mask mask) byte_type len n = aligning byte_type len n
packing (condensed_mask mask) byte_type len n = framing (8 * length mask) 0 n 0 0
