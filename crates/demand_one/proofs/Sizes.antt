-- A write and a clear keep the size of a payload, wherever they fall.
use Rattle.std.proofs.Common.{◌≡◌, refl, ◌∙◌, List, ℕ, ◌-◌, arith, length, replicate, length-append, length-take, length-drop}
use Rattle.std.proofs.lemmas.List.{length-replicate}
use Rattle.kinds.specs.declared.types.ByteOrder.{ByteOrder}
use Rattle.order.specs.Order.{ordered}
use Rattle.order.proofs.Index.{length-ordered}
use Rattle.bits.proofs.Moves.{length-injected, length-overlaid}
use Rattle.masks.specs.Mask.{Mask, no_mask, plain_mask, condensed_mask}
use Rattle.pack.specs.Source.{Source}
use Rattle.cutout.specs.CutOut.{cleared, readied, put}
use Rattle.payload.specs.Payload.{Payload}
use Rattle.payload.specs.Writing.{spliced, in_cut_out, grown, cut_bytes, cut_end, written}

-- f keeps the size of what it changes
abbrev Keeps : (List ℕ → List ℕ) → Type 0
Keeps f = (ys : List ℕ) → length (f ys) ≡ length ys

-- and then of that in which it changes a part
keeps-spliced : (f : List ℕ → List ℕ) → Keeps f → (at n : ℕ) → Keeps (spliced f at n)
unfolding spliced
keeps-spliced f h at n xs = simp (length-append, h, length-take, length-drop) (omega arith)

keeps-in_cut_out : (o : ByteOrder) (f : List ℕ → List ℕ) → Keeps f → (at n : ℕ) → Keeps (in_cut_out o f at n)
unfolding in_cut_out
keeps-in_cut_out o f h = keeps-spliced (λ ys. ordered o (f (ordered o ys))) (λ ys. length-ordered o (f (ordered o ys)) ∙ h (ordered o ys) ∙ length-ordered o ys)

keeps-grown : (used end : ℕ) → Keeps (grown used end)
unfolding grown
keeps-grown used end = keeps-spliced (λ ys. replicate (length ys) 0) (λ ys. length-replicate (length ys) 0) used (end - used)

keeps-cleared : (mask : Mask) (size pos : ℕ) → Keeps (cleared mask size pos)
unfolding cleared
keeps-cleared mask size pos xs = length-overlaid _ _ xs

keeps-readied : (mask : Mask) (size pos : ℕ) → Keeps (readied mask size pos)
unfolding readied
keeps-readied no_mask size pos xs = refl
keeps-readied (plain_mask mask) size pos xs = keeps-cleared (plain_mask mask) size pos xs
keeps-readied (condensed_mask mask) size pos xs = keeps-cleared (condensed_mask mask) size pos xs

module _ (o : ByteOrder) (p : Payload) (at pos : ℕ) where
  pub size_written : (s : Source) → length (written o s p at pos).bytes ≡ length p.bytes
  size_written s =
      let end = cut_end at pos s.size in
      keeps-in_cut_out o (put s pos)
      (λ ys. length-injected s.size pos s.bits (readied s.mask s.size pos ys) ∙ keeps-readied s.mask s.size pos ys) at (cut_bytes pos s.size)
      (grown p.used end p.bytes)
      ∙ keeps-grown p.used end p.bytes

  pub size_cleared : (mask : Mask) (size : ℕ) → length (in_cut_out o (cleared mask size pos) at (cut_bytes pos size) p.bytes) ≡ length p.bytes
  size_cleared mask size = keeps-in_cut_out o (cleared mask size pos) (keeps-cleared mask size pos) at (cut_bytes pos size) p.bytes
