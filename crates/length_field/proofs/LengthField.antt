-- A length field as a number, and how many data bytes it says.
use Rattle.std.proofs.Common.{◌≡◌, refl, sym, ap, ◌∙◌, ⊎_elim, true, true≢false, List, [], ◌∷◌, ℕ, zero, suc, ◌+◌, ◌-◌, ◌*◌, ◌%◌, ◌^◌, ◌≤◌, ◌<◌, arith, add-one, mod-eq_of_lt, length, get_or, pow-add, pow_mono, shl_exact, lt-ltb, le-ltb, eq-eqb, ne_eqb, None, Some, Ok, Err}
use Rattle.std.specs.Int.{w16, w32, from_be_bytes}
use Rattle.kinds.specs.declared.refusals.Refusal.TheVariants.{ZeroBitLength, LengthFieldTooWide}
use Rattle.kinds.specs.declared.types.DataType.{DataType}
use Rattle.kinds.specs.declared.types.ByteCount.{ByteCount}
use Rattle.kinds.specs.declared.types.ByteOrder.{ByteOrder}
use Rattle.kinds.specs.Types.{bytes_for}
use Rattle.kinds.specs.Refusals.{bit_length_refusal}
use Rattle.kinds.proofs.Compare.{below}
use Rattle.kinds.proofs.Outcomes.{rule_passed}
use Rattle.order.specs.Order.{ordered}
use Rattle.order.proofs.Index.{length-ordered}
use Rattle.bits.specs.Bits.{bit_at, number, packed}
use Rattle.bits.proofs.Numbers.{number-add, number_lowest}
use Rattle.bits.proofs.Bytes.{Bytes, bit_at_lt, repack}
use Rattle.bits.proofs.Runs.{bytes_ordered}
use Rattle.length_field.specs.Leading.{big_endian, length_info}
use Rattle.length_field.specs.CodePlace.{count_in}
use Rattle.kinds.specs.Answers.{passed}

-- ---- bits and bytes of a number

-- a byte more is eight bits more
pow_byte : (n : ℕ) → 2 ^ (8 * suc n) ≡ 2 ^ (8 * n) * 256
pow_byte n =
    let more : 8 * suc n ≡ 8 * n + 8 = omega arith in
    ap (λ (k : ℕ). 2 ^ k) more ∙ pow-add 2 (8 * n) 8

-- the first byte holds the highest bits
big_endian-first : (f : ℕ → ℕ) (n : ℕ) → big_endian f (suc n) ≡ big_endian (λ j. f (suc j)) n + 2 ^ (8 * n) * f 0
unfolding big_endian
big_endian-first f zero = omega arith
big_endian-first f (suc n) = ap (λ (x : ℕ). 256 * x + f (suc n)) (big_endian-first f n) ∙ rw (pow_byte n) (omega arith)

-- bytes as one number have the bits of the bytes
number-packed : (n : ℕ) (f : ℕ → ℕ) → number (8 * n) f ≡ big_endian (λ j. get_or (packed n f) j 0) n
unfolding number packed big_endian
number-packed zero f = refl
number-packed (suc n) f =
    let more : 8 * suc n ≡ 8 * n + 8 = omega arith in
    ap (λ (k : ℕ). number k f) more ∙ number-add (8 * n) 8 f
    ∙ ap (λ (x : ℕ). x + 2 ^ (8 * n) * number 8 (λ k. f (8 * n + k))) (number-packed n f) ∙ sym (big_endian-first (λ j. get_or (packed (suc n) f) j 0) n)

number_bytes : (xs : List ℕ) → Bytes xs → number (8 * length xs) (bit_at xs) ≡ big_endian (λ j. get_or xs j 0) (length xs)
number_bytes xs h = number-packed (length xs) (bit_at xs) ∙ ap (λ (l : List ℕ). big_endian (λ j. get_or l j 0) (length xs)) (repack xs h)

-- ---- the lowest bits of a machine word

pub shifted_one : (k : ℕ) → k < 64 → (1 * 2 ^ k) % 2 ^ 64 ≡ 2 ^ k
shifted_one k h = shl_exact {a = 1} 1 k 64 (omega arith) (omega arith) ∙ omega arith

pub all_bits : (x k : ℕ) → x < 2 ^ 64 → 64 ≤ k → x ≡ x % 2 ^ k
all_bits x k hx hk =
    let most = pow_mono {i = 64} {j = k} hk in
    sym (mod-eq_of_lt (omega arith))

-- ---- one byte more

pub big_endian_next : (f : ℕ → ℕ) (n : ℕ) → big_endian f (n + 1) ≡ 256 * big_endian f n + f n
unfolding big_endian
big_endian_next f n = rw (add-one n)

-- with one byte more a number that fits n bytes fits n + 1, and a machine word has room for eight
pub byte_more : (n : ℕ) → 2 ^ (8 * (n + 1)) ≡ 256 * 2 ^ (8 * n)
byte_more n = rw (add-one n, pow_byte n) (omega arith)

pub byte_room : (n : ℕ) → n < 8 → 2 ^ (8 * n) ≤ 2 ^ 56
byte_room n h = pow_mono {i = 8 * n} {j = 56} (omega arith)

-- ---- one to four bytes

big_endian_one : (f : ℕ → ℕ) (a : ℕ) → a ≡ f 0 → a ≡ big_endian f 1
unfolding big_endian
big_endian_one f a x = omega arith

big_endian_two : (f : ℕ → ℕ) (a b : ℕ) → a ≡ f 0 → b ≡ f 1 → from_be_bytes w16 (a ∷ b ∷ []) ≡ big_endian f 2
unfolding big_endian
big_endian_two f a b x y = omega arith

big_endian_three : (f : ℕ → ℕ) (a b c : ℕ) → a ≡ f 0 → b ≡ f 1 → c ≡ f 2 → from_be_bytes w32 (0 ∷ a ∷ b ∷ c ∷ []) ≡ big_endian f 3
unfolding big_endian
big_endian_three f a b c x y z = omega arith

big_endian_four : (f : ℕ → ℕ) (a b c d : ℕ) → a ≡ f 0 → b ≡ f 1 → c ≡ f 2 → d ≡ f 3 → from_be_bytes w32 (a ∷ b ∷ c ∷ d ∷ []) ≡ big_endian f 4
unfolding big_endian
big_endian_four f a b c d x y z v = omega arith

-- ---- a run of bytes read as a length field

module _ (o : ByteOrder) (xs : List ℕ) where
  pub read_none : length xs ≡ 0 → None ≡ length_info (ordered o xs)
  read_none e = rw (length-ordered o xs, eq-eqb (length xs) 0 e)

  pub read_many : 8 < length xs → None ≡ length_info (ordered o xs)
  read_many h = rw (length-ordered o xs, ne_eqb (length xs) 0 (omega arith), lt-ltb 8 (length xs) h)

  pub read_some : (n len : ℕ) → length xs ≡ n → 0 < n → n ≤ 8 → len ≡ big_endian (λ j. get_or (ordered o xs) j 0) n → Some (record { 0 = len }) ≡ length_info (ordered o xs)
  read_some n len e low high is =
      rw (length-ordered o xs, e, ne_eqb n 0 (omega arith), le-ltb 8 n high) (ap (λ (k : ℕ). Some (record { 0 = k })) is)

  -- of one to four bytes each is read by itself
  module _ (a : ℕ) (first : a ≡ get_or (ordered o xs) 0 0) where
    pub read_one : length xs ≡ 1 → Some (record { 0 = a }) ≡ length_info (ordered o xs)
    read_one e = read_some 1 a e (omega arith) (omega arith) (big_endian_one (λ j. get_or (ordered o xs) j 0) a first)

    module _ (b : ℕ) (second : b ≡ get_or (ordered o xs) 1 0) where
      pub read_two : length xs ≡ 2 → Some (record { 0 = from_be_bytes w16 (a ∷ b ∷ []) }) ≡ length_info (ordered o xs)
      read_two e =
          read_some 2 _ e (omega arith) (omega arith) (big_endian_two (λ j. get_or (ordered o xs) j 0) a b first second)

      module _ (c : ℕ) (third : c ≡ get_or (ordered o xs) 2 0) where
        pub read_three : length xs ≡ 3 → Some (record { 0 = from_be_bytes w32 (0 ∷ a ∷ b ∷ c ∷ []) }) ≡ length_info (ordered o xs)
        read_three e =
            read_some 3 _ e (omega arith) (omega arith)
            (big_endian_three (λ j. get_or (ordered o xs) j 0) a b c first second third)

        pub read_four : (d : ℕ) → d ≡ get_or (ordered o xs) 3 0 → length xs ≡ 4 → Some (record { 0 = from_be_bytes w32 (a ∷ b ∷ c ∷ d ∷ []) }) ≡ length_info (ordered o xs)
        read_four d fourth e =
            read_some 4 _ e (omega arith) (omega arith)
            (big_endian_four (λ j. get_or (ordered o xs) j 0) a b c d first second third fourth)

-- ---- how many data bytes it says

module _ (o : ByteOrder) (bits : ℕ) (run : List ℕ) (some : 0 < bits) (size : length run ≡ bytes_for bits) where
  abbrev field : List ℕ
  field = ordered o run

  -- the lowest bits of its number count the data bytes
  count_is : Bytes run → big_endian (λ j. get_or field j 0) (length run) % 2 ^ bits ≡ number bits (bit_at field)
  count_is h =
      let all : 8 * length run ≡ bits + (8 * length run - bits) = omega arith in
      ap (λ (n : ℕ). n % 2 ^ bits) (sym (rw (length-ordered o run) at (number_bytes field (bytes_ordered o run h))))
      ∙ ap (λ (n : ℕ). number n (bit_at field) % 2 ^ bits) all ∙ number_lowest bits (8 * length run - bits) (bit_at field) (bit_at_lt field)

  is_read : bits ≤ 64 → Some (record { 0 = big_endian (λ j. get_or field j 0) (length run) }) ≡ length_info field
  is_read h = read_some o run (length run) _ refl (omega arith) (omega arith) refl

  pub too_wide : length_info field ≡ None → Err LengthFieldTooWide ≡ count_in bits field
  too_wide e =
      ⊎_elim (λ (h : 64 < bits). rw (lt-ltb 64 bits h))
      (λ (h : bits ≤ 64).
      let r = is_read h in
      let z : ◌≡◌ {A = ℕ} 0 1 = cc in
      absurd (omega arith))
      (below 64 bits)

  pub counted : Bytes run → (n : ByteCount) → length_info field ≡ Some n → Ok (record { 0 = n.0 % 2 ^ bits }) ≡ count_in bits field
  counted h n e =
      ⊎_elim (λ (g : 64 < bits).
      let r = read_many o run (omega arith) in
      let z : ◌≡◌ {A = ℕ} 0 1 = cc in
      absurd (omega arith))
      (λ (g : bits ≤ 64).
      let r = is_read g in
      let is : n.0 ≡ big_endian (λ j. get_or field j 0) (length run) = cc in
      rw (le-ltb 64 bits g) (ap (λ (k : ℕ). Ok (record { 0 = k })) (ap (λ (k : ℕ). k % 2 ^ bits) is ∙ count_is h)))
      (below 64 bits)

-- ---- its length is checked first

pub some_bits : (t : DataType) (bits : ℕ) → bit_length_refusal t bits ≡ passed → 0 < bits
some_bits t zero e = absurd (true≢false (rule_passed true ZeroBitLength passed e).0)
some_bits t (suc n) e = omega arith
