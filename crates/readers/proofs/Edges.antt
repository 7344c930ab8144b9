-- What a variant finds, where the premise on the payload is only just met: 65,535 bytes, each of them FF.
use Rattle.std.proofs.Common.{◌≡◌, List, ℕ, ◌≤◌, arith, length, replicate}
use Rattle.std.proofs.lemmas.List.{length-replicate}
use Rattle.kinds.specs.declared.types.DataType.TheVariants.{ByteField}
use Rattle.kinds.specs.declared.types.ByteOrder.TheVariants.{Keep}
use Rattle.kinds.specs.Types.{is_unicode_type}
use Rattle.coded.specs.declared.variants.MinMaxLengthType.{MinMaxLengthType}
use Rattle.bits.proofs.Runs.{bytes_replicate}
use Rattle.kinds.specs.Outcomes.{following}
use Rattle.masks.specs.Mask.{no_mask}
use Rattle.length_field.specs.CodePlace.{leading_place}
use Rattle.scans.specs.CodePlace.{min_max_place}
use Rattle.readers.specs.Finding.{leading_finding, min_max_finding}
use Rattle.readers.specs.CodeReading.{read_bits}
use Rattle.readers.proofs.Findings.{leading_read, min_max_read}

abbrev longest : List ℕ
longest = replicate 65535 0xFF

few : length longest ≤ 65535
few = rw (length-replicate {A = ℕ} 65535 0xFF) (omega arith)

pub longest_leading : (at bits : ℕ) → following (leading_place Keep bits longest at ByteField) (λ s. read_bits Keep s.bits no_mask longest s.start 0) ≡ leading_finding ByteField Keep bits longest at
longest_leading at bits = leading_read ByteField Keep longest at bits few (bytes_replicate 65535 0xFF (omega arith))

pub longest_min_max : (at : ℕ) (m : MinMaxLengthType) → following (min_max_place m (is_unicode_type ByteField) longest at) (λ s. read_bits Keep s.bits no_mask longest s.start 0) ≡ min_max_finding ByteField Keep m longest at
longest_min_max at m = min_max_read ByteField Keep longest at m few (bytes_replicate 65535 0xFF (omega arith))
