-- A value that fits its field is read back as it is, whatever is behind the message.
use Rattle.std.proofs.Common.{◌≡◌, refl, sym, ap, ◌∙◌, ⊎_elim, true, false, true≢false, List, ◌++◌, ℕ, ◌+◌, ◌-◌, ◌*◌, ◌%◌, ◌≤◌, ◌<◌, arith, length, drop, length-append, eqb, leb-true, le-ltb, ne_eqb}
use Rattle.std.proofs.lemmas.Bool.{lt-leb}
use Rattle.kinds.specs.declared.types.DataType.{DataType}
use Rattle.kinds.specs.Types.{is_byte_type, bytes_for}
use Rattle.kinds.specs.Answers.{read}
use Rattle.kinds.specs.Slices.{saturating_sum, cut}
use Rattle.kinds.specs.Outcomes.{gives, answer}
use Rattle.kinds.specs.Refusals.{bit_length_refusal}
use Rattle.kinds.proofs.Compare.{below}
use Rattle.kinds.proofs.Outcomes.{or_else_passed}
use Rattle.order.specs.Order.{ordered}
use Rattle.bits.specs.Bits.{bit_at, packed}
use Rattle.bits.specs.Moves.{first, from, extracted}
use Rattle.bits.proofs.Bytes.{packed_ext, repack}
use Rattle.bits.proofs.Moves.{first_in, first_out}
use Rattle.masks.specs.Mask.{Mask, no_mask, plain_mask, condensed_mask}
use Rattle.pack.specs.Source.{aligned, trimmed, standard_bits}
use Rattle.payload.specs.Writing.{cut_bytes}
use Rattle.payload.proofs.Splices.{cut-append}
use Rattle.unpack.specs.Found.{found, read_answer}
use Rattle.unpack.specs.Unpacked.{unpacked, unpacked_found}
use Rattle.unpack.proofs.Rooms.{has_room, fits}
use Rattle.readers.specs.Finding.{bits_finding, field_finding}
use Rattle.ownership.proofs.Effects.{written_in, cleared_in}
use Rattle.ownership.proofs.Rewritten.{stands}
use Rattle.demand_three.specs.Changing.{Placed, cut_of, field_at, field_way, whole_or_short, inside_bytes, unmasked, Exact}
use Rattle.demand_three.proofs.Calls.{Taken, bits_of, writable}

-- ---- the source of an exact value is its bits

-- nothing below the length is trimmed
untrimmed : (len : ℕ) (f : ℕ → ℕ) (i : ℕ) → whole_or_short len ≡ true → i < len → trimmed (len % 8) f i ≡ f i
untrimmed len f i e l =
    ⊎_elim
    (λ (h : len < 8). let r : len % 8 ≡ len = omega arith in rw (r, ne_eqb len 0 (λ z. omega arith), lt-leb len i l))
    (λ (h : 8 ≤ len). let whole : eqb (len % 8) 0 ≡ true = rw (le-ltb len 8 h) at e in rw whole)
    (below len 8)

aligned_exact : (t : DataType) (n : ℕ) (v : List ℕ) → is_byte_type t ≡ false → length v ≡ n → aligned t n v ≡ v
aligned_exact t n v numeric e =
    let none : n - length v ≡ 0 = omega arith in
    let all : length v - n ≡ 0 = omega arith in
    rw (numeric, none, all)

exact_bits : (t : DataType) (len : ℕ) (v : List ℕ) (i : ℕ) → is_byte_type t ≡ false → length v ≡ bytes_for len → whole_or_short len ≡ true → i < len → standard_bits t len v i ≡ bit_at v i
unfolding standard_bits
exact_bits t len v i numeric fills whole l =
    untrimmed len (bit_at (aligned t (bytes_for len) v)) i whole l ∙ ap (λ (ys : List ℕ). bit_at ys i) (aligned_exact t (bytes_for len) v numeric fills)

-- ---- read

unmasked_none : (mask : Mask) → unmasked mask ≡ true → mask ≡ no_mask
unmasked_none no_mask e = refl
unmasked_none (plain_mask mask) e = absurd (true≢false (sym e))
unmasked_none (condensed_mask mask) e = absurd (true≢false (sym e))

module _ (n : ℕ) (f : Placed) (t : Taken n f) (whole : whole_or_short f.len ≡ true) (inside : inside_bytes f ≡ true) (none : unmasked f.mask ≡ true)
    (v : List ℕ) (exact : Exact f.len v) (xs : List ℕ) (long : length xs ≡ n) where
  -- what is left of the payload
  abbrev ys : List ℕ
  ys = written_in (cut_of f) (bits_of f v) (cleared_in (cut_of f) xs)

  -- what decode cuts out of it
  abbrev zs : List ℕ
  zs = ordered f.order (cut f.at (bytes_for f.len) ys)

  no_mask_lem : f.mask ≡ no_mask
  no_mask_lem = unmasked_none f.mask none

  ends : f.pos + f.len ≤ 8 * bytes_for f.len
  ends = leb-true (f.pos + f.len) (8 * bytes_for f.len) inside

  -- decode and encode cut out the same bytes
  one_cut : cut_bytes f.pos (cut_of f).size ≡ bytes_for f.len
  one_cut = rw no_mask_lem (let e = ends in omega arith)

  bit_back : (i : ℕ) → i < f.len → bit_at zs (f.pos + i) ≡ bit_at v i
  bit_back i l =
      ap (λ (m : ℕ). bit_at (ordered f.order (cut f.at m ys)) (f.pos + i)) (sym one_cut)
      ∙ stands (cut_of f) (bits_of f v) (writable f v).zero_one xs (rw long t.inside) i (rw no_mask_lem l) (rw no_mask_lem)
      ∙ rw no_mask_lem (exact_bits f.type f.len v i t.numeric exact.fills whole l)

  value_back : extracted f.len f.pos zs ≡ v
  unfolding extracted
  value_back =
      let taken : ℕ → ℕ = from f.pos (bit_at zs) in
      packed_ext (bytes_for f.len) (first f.len taken) (bit_at v) (λ i h.
      ⊎_elim (λ (l : i < f.len). first_in f.len taken i l ∙ bit_back i l) (λ (l : f.len ≤ i). first_out f.len taken i l ∙ sym (exact.fits i l)) (below i f.len))
      ∙ ap (λ (m : ℕ). packed m (bit_at v)) (sym exact.fills) ∙ repack v exact.bytes

  module _ (rest : List ℕ) (long-ys : length ys ≡ n) where
    inside_ys : f.at + bytes_for f.len ≤ length ys
    inside_ys = rw long-ys (let g = t.inside in omega (arith, one_cut))

    -- decode refuses nothing that encode accepts
    finds : field_finding (field_at f) (ys ++ rest) f.at f.pos ≡ gives (found f.len v)
    unfolding bits_finding unpacked
    finds =
        let size = length-append ys rest in
        rw (t.numeric, (or_else_passed (bit_length_refusal f.type f.len) _ t.allowed).0, le-ltb (length (ys ++ rest)) (saturating_sum f.at (bytes_for f.len)) (omega (arith, inside_ys, size)), cut-append f.at (bytes_for f.len) ys rest inside_ys, fits f.len f.pos (bytes_for f.len) t.seven ends)
        (ap (λ (m : Mask). gives (unpacked_found m f.len f.pos zs)) no_mask_lem ∙ ap (λ (b : List ℕ). gives (found f.len b)) value_back)

    pub reads_back : (output : List ℕ) → bytes_for f.len ≤ length output
        → field_way.read_back f (ys ++ rest) output ≡ answer (read f.len (bytes_for f.len)) (v ++ drop (bytes_for f.len) output)
    reads_back output room = ap (read_answer output) finds ∙ has_room (found f.len v) output (bytes_for f.len) exact.fills room
