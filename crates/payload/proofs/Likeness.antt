-- Sources that are written alike give the same payload.
use Rattle.std.proofs.Common.{◌≡◌, ap, ◌∙◌, List, ℕ, max}
use Rattle.kinds.specs.declared.types.ByteOrder.{ByteOrder}
use Rattle.kinds.specs.Slices.{cut}
use Rattle.kinds.specs.Outcomes.{Outcome, gives, after}
use Rattle.order.specs.Order.{ordered}
use Rattle.bits.specs.Moves.{injected}
use Rattle.bits.proofs.Moves.{injected_ext}
use Rattle.masks.specs.Mask.{Mask}
use Rattle.pack.specs.Source.{Source}
use Rattle.pack.proofs.Sources.{Alike}
use Rattle.cutout.specs.CutOut.{readied, put}
use Rattle.payload.specs.Payload.{Payload, payload_of}
use Rattle.payload.specs.Writing.{in_cut_out, grown, cut_bytes, cut_end, write_refusal, writing}
use Rattle.payload.proofs.Splices.{spliced_ext}

put_alike : (s s' : Source) → Alike s s' → (pos : ℕ) (xs : List ℕ) → put s pos xs ≡ put s' pos xs
put_alike s s' a pos xs =
    injected_ext s.size pos s.bits s'.bits (readied s.mask s.size pos xs) a.2
    ∙ ap (λ (n : ℕ). injected n pos s'.bits (readied s.mask n pos xs)) a.0
    ∙ ap (λ (m : Mask). injected s'.size pos s'.bits (readied m s'.size pos xs)) a.1

pub writing_alike : (o : ByteOrder) (s s' : Source) → Alike s s' → (p : Payload) (at pos : ℕ) → writing o s p at pos ≡ writing o s' p at pos
unfolding writing in_cut_out
writing_alike o s s' a p at pos =
    let whole : ℕ → List ℕ → Outcome Payload = λ n ys. after (write_refusal n p at pos) (gives (payload_of ys (max p.used (cut_end at pos n)))) in
    let zs : ℕ → List ℕ = λ n. grown p.used (cut_end at pos n) p.bytes in
    ap (whole s.size) (spliced_ext (λ ys. ordered o (put s pos (ordered o ys))) (λ ys. ordered o (put s' pos (ordered o ys))) at (cut_bytes pos s.size) (zs s.size)
    (ap (ordered o) (put_alike s s' a pos (ordered o (cut at (cut_bytes pos s.size) (zs s.size))))))
    ∙ ap (λ (n : ℕ). whole n (in_cut_out o (put s' pos) at (cut_bytes pos n) (zs n))) a.0
