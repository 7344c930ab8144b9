-- The numbers of a record stand in its bytes, and its bytes in its numbers.
use Rattle.std.proofs.Common.{◌≡◌, refl, ap, Bool, true, false, List, [], ◌∷◌, ℕ, zero, suc, ◌+◌, ◌*◌, ◌/◌, ◌%◌, ◌≤◌, ◌<◌, ◌^◌, arith, length, get_or, eqb}
use native.Mathlib.Nat.{suc_inj}
use Rattle.bits.proofs.Bytes.{Bytes}
use Rattle.record.specs.declared.numbers.Flags.{Flags}
use Rattle.record.specs.declared.numbers.Numbers.{Numbers}
use Rattle.record.specs.Numbers.{flags_of, numbers_of}
use Rattle.storing.specs.Storing.{flag, flags_byte, digit, bytes_of}

-- a number is the sum of its bytes
two_bytes : (n : ℕ) → n < 65536 → 256 * digit n 256 + digit n 1 ≡ n
two_bytes n h = omega arith

four_bytes : (n : ℕ) → n < 2 ^ 32 → 65536 * (256 * digit n 16777216 + digit n 65536) + (256 * digit n 256 + digit n 1) ≡ n
four_bytes n h =
    let high : 256 * digit n 16777216 + digit n 65536 ≡ n / 65536 = omega arith in
    let low : 256 * digit n 256 + digit n 1 ≡ n % 65536 = omega arith in
    omega arith

-- and each byte is a digit of the sum
two_digits : (a b : ℕ) → a < 256 → b < 256 → (digit (256 * a + b) 256 ≡ a) × (digit (256 * a + b) 1 ≡ b)
two_digits a b ha hb = (omega arith, omega arith)

module _ (a b c d : ℕ) (ha : a < 256) (hb : b < 256) (hc : c < 256) (hd : d < 256) where
  abbrev sum : ℕ
  sum = 65536 * (256 * a + b) + (256 * c + d)

  four_digits : (digit sum 16777216 ≡ a) × (digit sum 65536 ≡ b) × (digit sum 256 ≡ c) × (digit sum 1 ≡ d)
  four_digits = (omega arith, omega arith, omega arith, omega arith)

-- a flag counts its value once or not at all, and is told from that
pub flag-le : (set : Bool) (value : ℕ) → flag set value ≤ value
flag-le true value = omega arith
flag-le false value = omega arith

flag_times : (set : Bool) (value : ℕ) → flag set value ≡ value * flag set 1
flag_times true value = omega arith
flag_times false value = omega arith

told : (set : Bool) → eqb (flag set 1) 1 ≡ set
told true = refl
told false = refl

flag_of : (n value : ℕ) → n ≤ 1 → flag (eqb n 1) value ≡ value * n
flag_of zero value h = omega arith
flag_of (suc zero) value h = omega arith
flag_of (suc (suc n)) value h = omega arith

-- the flags in their byte
module _ (a b c d n : ℕ) (ha : a ≤ 1) (hb : b ≤ 1) (hc : c ≤ 1) (hd : d ≤ 1) where
  abbrev byte : ℕ
  byte = a + 2 * b + 4 * c + 8 * d + 16 * n

  bits : (byte % 2 ≡ a) × (byte / 2 % 2 ≡ b) × (byte / 4 % 2 ≡ c) × (byte / 8 % 2 ≡ d) × (byte / 16 ≡ n)
  bits = (omega arith, omega arith, omega arith, omega arith, omega arith)

flags-read : (f : Flags) → flags_of (flags_byte f) ≡ f
flags-read f =
    let h = f.high_low in
    let m = f.mask in
    let c = f.condensed in
    let x = f.max in
    let b = bits (flag h 1) (flag m 1) (flag c 1) (flag x 1) f.others (flag-le h 1) (flag-le m 1) (flag-le c 1) (flag-le x 1) in
    rw (flag_times m 2, flag_times c 4, flag_times x 8, b.0, b.1, b.2, b.3, b.4, told h, told m, told c, told x)

flags-written : (b : ℕ) → flags_byte (flags_of b) ≡ b
flags-written b =
    let halved : (b / 2 ≡ b / 2 % 2 + 2 * (b / 4)) × (b / 4 ≡ b / 4 % 2 + 2 * (b / 8)) × (b / 8 ≡ b / 8 % 2 + 2 * (b / 16)) =
    (omega arith, omega arith, omega arith) in
    rw (flag_of (b % 2) 1 (omega arith), flag_of (b / 2 % 2) 2 (omega arith), flag_of (b / 4 % 2) 4 (omega arith), flag_of (b / 8 % 2) 8 (omega arith))
    (omega arith)

pub numbers_read : (n : Numbers) → n.length < 2 ^ 32 → n.most < 2 ^ 32 → n.place.at < 65536 → n.place.len.0 < 65536 → numbers_of (bytes_of n) ≡ n
numbers_read n hl hm ha hn =
    rw (flags-read n.flags, four_bytes n.length hl, four_bytes n.most hm, two_bytes n.place.at ha, two_bytes n.place.len.0 hn)

-- a list is its elements in order
abbrev elements : ℕ → (ℕ → ℕ) → List ℕ
elements zero f = []
elements (suc n) f = f 0 ∷ elements n (λ j. f (suc j))

all_elements : (n : ℕ) (s : List ℕ) → length s ≡ n → elements n (λ j. get_or s j 0) ≡ s
all_elements zero [] e = refl
all_elements zero (x ∷ s) e = absurd (omega arith)
all_elements (suc n) [] e = absurd (omega arith)
all_elements (suc n) (x ∷ s) e = ap (λ (r : List ℕ). x ∷ r) (all_elements n s (suc_inj e))

pub bytes_written : (s : List ℕ) → length s ≡ 16 → Bytes s → bytes_of (numbers_of s) ≡ s
bytes_written s e h =
    let l = four_digits (get_or s 4 0) (get_or s 5 0) (get_or s 6 0) (get_or s 7 0) (h 4) (h 5) (h 6) (h 7) in
    let m = four_digits (get_or s 8 0) (get_or s 9 0) (get_or s 10 0) (get_or s 11 0) (h 8) (h 9) (h 10) (h 11) in
    let a = two_digits (get_or s 12 0) (get_or s 13 0) (h 12) (h 13) in
    let n = two_digits (get_or s 14 0) (get_or s 15 0) (h 14) (h 15) in
    rw (flags-written (get_or s 1 0), l.0, l.1, l.2, l.3, m.0, m.1, m.2, m.3, a.0, a.1, n.0, n.1) (all_elements 16 s e)
