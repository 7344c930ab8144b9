-- A reading at a place: a law for each way to what it finds.
use Rattle.std.proofs.Common.{◌≡◌, sym, ap, ◌∙◌, List, [], ℕ, ◌≤◌, ◌<◌, length, ne_eqb, lt-ltb, le-ltb}
use Rattle.kinds.specs.declared.types.ByteOrder.{ByteOrder}
use Rattle.kinds.specs.Types.{bytes_for}
use Rattle.kinds.specs.Slices.{saturating_sum, cut}
use Rattle.kinds.specs.Outcomes.{gives, lacks, after}
use Rattle.kinds.proofs.Cuts.{length_cut}
use Rattle.order.specs.Order.{ordered}
use Rattle.order.proofs.Index.{length-ordered}
use Rattle.masks.specs.Mask.{Mask}
use Rattle.unpack.specs.Found.{found}
use Rattle.unpack.specs.Unpacked.{unpack_refusal, unpacked_found, found_in}
use Rattle.readers.specs.Finding.{bits_finding}
use Rattle.readers.specs.CodeReading.{read_bits}

module _ (o : ByteOrder) (bits : ℕ) (mask : Mask) (payload : List ℕ) (start pos : ℕ) where
  pub no_bits : bits ≡ 0 → read_bits o bits mask payload start pos ≡ gives (found 0 [])
  unfolding read_bits
  no_bits e = rw e

  module _ (some : bits ≡ 0 → ⊥) where
    pub bits_there : read_bits o bits mask payload start pos ≡ bits_finding o bits mask payload start pos
    unfolding read_bits
    bits_there = rw (ne_eqb bits 0 some)

    -- 30, with the end needed
    pub too_short_lem : length payload < saturating_sum start (bytes_for bits)
        → read_bits o bits mask payload start pos ≡ lacks (saturating_sum start (bytes_for bits)) (length payload)
    unfolding bits_finding
    too_short_lem s = bits_there ∙ rw (lt-ltb (length payload) (saturating_sum start (bytes_for bits)) s)

    -- the cut is in the payload
    pub in_payload : length payload ≤ 65535 → saturating_sum start (bytes_for bits) ≤ length payload
        → read_bits o bits mask payload start pos ≡ found_in mask bits pos (ordered o (cut start (bytes_for bits) payload))
    unfolding bits_finding
    in_payload few s =
        let xs = ordered o (cut start (bytes_for bits) payload) in
        let size : length xs ≡ bytes_for bits = length-ordered o (cut start (bytes_for bits) payload) ∙ length_cut payload few start (bytes_for bits) s in
        bits_there ∙ rw (le-ltb (length payload) (saturating_sum start (bytes_for bits)) s) (ap (λ (n : ℕ). after (unpack_refusal bits pos n) (gives (unpacked_found mask bits pos xs))) (sym size))
