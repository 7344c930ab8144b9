-- RULES 7.8 to 7.10, 8.2: the cut-out in the payload, growth, and what a write or a clear makes of it.
use Rattle.std.specs.Prelude.{ℕ, ◌+◌, ◌-◌, max, List, [], ◌∷◌, ◌++◌, length, take, drop, replicate, ltb}
use Rattle.kinds.specs.declared.types.ByteOrder.{ByteOrder}
use Rattle.kinds.specs.Types.{bytes_for}
use Rattle.kinds.specs.declared.refusals.Refusal.TheVariants.{BitPositionAboveSeven, PayloadLacksRoom}
use Rattle.kinds.specs.Answers.{Check}
use Rattle.kinds.specs.Slices.{saturating_sum, cut}
use Rattle.kinds.specs.Outcomes.{rule, first_among, Outcome, gives, after, unless_short}
use Rattle.order.specs.Order.{ordered}
use Rattle.masks.specs.Mask.{Mask}
use Rattle.pack.specs.Source.{Source}
use Rattle.cutout.specs.CutOut.{cleared, put}
use Rattle.payload.specs.Payload.{Payload, payload_of}

-- n bytes from at on changed by f; what is before and after them stays
unfoldable pub spliced : (List ℕ → List ℕ) → ℕ → ℕ → List ℕ → List ℕ
spliced f at n xs = take at xs ++ (f (cut at n xs) ++ drop n (drop at xs))

-- f in the ordered cut-out; then the order is turned back
unfoldable pub in_cut_out : ByteOrder → (List ℕ → List ℕ) → ℕ → ℕ → List ℕ → List ℕ
in_cut_out o f at n xs = spliced (λ ys. ordered o (f (ordered o ys))) at n xs

-- growth: the bytes from the used length up to an end are zero
unfoldable pub grown : ℕ → ℕ → List ℕ → List ℕ
grown used end xs = spliced (λ ys. replicate (length ys) 0) used (end - used) xs

-- the cut-out has ceil((bit_pos+size)/8) bytes
abbrev pub cut_bytes : ℕ → ℕ → ℕ
cut_bytes pos size = bytes_for (pos + size)

abbrev pub cut_end : ℕ → ℕ → ℕ → ℕ
cut_end at pos size = saturating_sum at (cut_bytes pos size)

-- 26: bit position above 7
abbrev pub above_seven : ℕ → Check
above_seven pos = first_among (rule (ltb 7 pos) BitPositionAboveSeven ∷ [])

-- 26, 40: payload lacks room
abbrev pub write_refusal : ℕ → Payload → ℕ → ℕ → Check
write_refusal size p at pos =
    first_among
    (rule (ltb 7 pos) BitPositionAboveSeven
    ∷ rule (ltb (length p.bytes) (cut_end at pos size)) PayloadLacksRoom
    ∷ [])

-- the used length grows to the cut-out's end if that is higher, and the source is put into the cut-out
abbrev pub written : ByteOrder → Source → Payload → ℕ → ℕ → Payload
written o s p at pos =
    payload_of
    (in_cut_out o (put s pos) at (cut_bytes pos s.size) (grown p.used (cut_end at pos s.size) p.bytes))
    (max p.used (cut_end at pos s.size))

unfoldable pub writing : ByteOrder → Source → Payload → ℕ → ℕ → Outcome Payload
writing o s p at pos = after (write_refusal s.size p at pos) (gives (written o s p at pos))

-- 26, 30 if the cut-out ends past the used length; then the owned bits are zero
unfoldable pub clearing : ByteOrder → Mask → ℕ → Payload → ℕ → ℕ → Outcome Payload
clearing o mask size p at pos =
    after (above_seven pos)
    (unless_short (ltb p.used (cut_end at pos size)) (cut_end at pos size) p.used
    (gives (payload_of (in_cut_out o (cleared mask size pos) at (cut_bytes pos size) p.bytes) p.used)))
