-- Data bytes: eight bits each, read whole.
use Rattle.std.proofs.Common.{◌≡◌, refl, ap, ◌∙◌, ⊎_elim, List, [], ℕ, ◌*◌, ◌≤◌, ◌<◌, arith, length, le-ltb}
use Rattle.kinds.specs.declared.types.ByteOrder.{ByteOrder}
use Rattle.kinds.specs.declared.types.ByteOrder.TheVariants.{Keep, ReorderPairs, Reverse}
use Rattle.kinds.specs.Types.{bytes_for}
use Rattle.kinds.specs.Slices.{saturating_sum, cut}
use Rattle.kinds.specs.Outcomes.{gives, lacks}
use Rattle.kinds.proofs.Compare.{same}
use Rattle.kinds.proofs.Cuts.{length_cut}
use Rattle.order.specs.Order.{ordered, swap_pairs}
use Rattle.order.proofs.Index.{length-ordered}
use Rattle.bits.proofs.Bytes.{Bytes}
use Rattle.bits.proofs.Runs.{bytes_cut, bytes_ordered}
use Rattle.bits.proofs.Moves.{extracted_whole}
use Rattle.masks.specs.Mask.{no_mask}
use Rattle.unpack.specs.Found.{found}
use Rattle.unpack.specs.Unpacked.{unpacked}
use Rattle.unpack.proofs.Rooms.{fits}
use Rattle.readers.specs.Finding.{bits_finding, data_found}
use Rattle.readers.specs.CodeReading.{read_bits}
use Rattle.readers.proofs.Places.{no_bits, bits_there, too_short_lem}

-- nothing turned is nothing
ordered_none : (o : ByteOrder) → ordered o [] ≡ []
unfolding ordered swap_pairs
ordered_none Keep = refl
ordered_none ReorderPairs = refl
ordered_none Reverse = refl

whole : (n : ℕ) → bytes_for (8 * n) ≡ n
whole n = omega arith

module _ (o : ByteOrder) (payload : List ℕ) (few : length payload ≤ 65535) (bytes : Bytes payload) (start n : ℕ) where
  unpacked_data : saturating_sum start n ≤ length payload → unpacked no_mask (8 * n) 0 (ordered o (cut start n payload)) ≡ ordered o (cut start n payload)
  unfolding unpacked
  unpacked_data s =
      extracted_whole (ordered o (cut start n payload)) n (bytes_ordered o (cut start n payload) (bytes_cut start n payload bytes))
      (length-ordered o (cut start n payload) ∙ length_cut payload few start n s)

  -- none, wherever the start is
  pub read_none : n ≡ 0 → read_bits o (8 * n) no_mask payload start 0 ≡ gives (data_found o payload start n)
  read_none z = no_bits o (8 * n) no_mask payload start 0 (omega arith) ∙ rw (z, ordered_none o)

  -- within the payload
  pub read_data : saturating_sum start n ≤ length payload → read_bits o (8 * n) no_mask payload start 0 ≡ gives (data_found o payload start n)
  unfolding bits_finding
  read_data s =
      ⊎_elim read_none
      (λ (h : n ≡ 0 → ⊥).
      bits_there o (8 * n) no_mask payload start 0 (λ (e : 8 * n ≡ 0). h (omega arith))
      ∙ rw (whole n, le-ltb (length payload) (saturating_sum start n) s, fits (8 * n) 0 n (omega arith) (omega arith)) (ap (λ (xs : List ℕ). gives (found (8 * n) xs)) (unpacked_data s)))
      (same n 0)

  -- past it: 30 with their end
  pub past_data : (n ≡ 0 → ⊥) → length payload < saturating_sum start n → read_bits o (8 * n) no_mask payload start 0 ≡ lacks (saturating_sum start n) (length payload)
  past_data h s = rw (whole n) at (too_short_lem o (8 * n) no_mask payload start 0 (λ (e : 8 * n ≡ 0). h (omega arith)) (rw (whole n) s))
