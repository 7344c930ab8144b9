-- A coded type is what its numbers say, and no other numbers say it.
use Rattle.std.proofs.Common.{◌≡◌, refl, sym, subst, Bool, true, false, cond, not, ◌||◌, ◌&&◌, ℕ, eqb, eqb-true, is_some, unwrap_or, None, Option, Some}
use Rattle.std.proofs.lemmas.Bool.{not-false}
use Rattle.kinds.specs.declared.types.DataType.{DataType}
use Rattle.kinds.specs.declared.types.DataType.TheVariants.{Int32, UInt32, Float32, AsciiString, Utf8String, Unicode2String, ByteField, Float64}
use Rattle.kinds.specs.declared.types.BitLength.{BitLength}
use Rattle.kinds.specs.Types.{type_code_of, type_of}
use Rattle.kinds.proofs.Outcomes.{neither}
use Rattle.coded.specs.declared.variants.Place.{Place}
use Rattle.coded.specs.declared.variants.Termination.{Termination}
use Rattle.coded.specs.declared.variants.Termination.TheVariants.{EndOfPdu, Zero, HexFF}
use Rattle.coded.specs.declared.variants.DiagCodedTypeVariant.{DiagCodedTypeVariant}
use Rattle.coded.specs.declared.variants.DiagCodedTypeVariant.TheVariants.{LeadingLengthInfo, MinMaxLength, StandardLength, ParamLengthInfo}
use Rattle.coded.specs.declared.coded_type.DiagCodedType.{DiagCodedType}
use Rattle.record.specs.declared.numbers.Numbers.{Numbers}
use Rattle.record.specs.Parsing.{has_limits, has_mask, has_place, leading_of, limits_by, min_max_of, standard_of, param_of, variant_of, made, coded_of}
use Rattle.storing.specs.Storing.{nowhere, flags, plain_numbers, variant_numbers, numbers_for}
use Rattle.coded.specs.RecordCodes.{termination_of, termination_code}

-- the numbers of a coded type say it
typed : (d : DataType) → type_of (type_code_of d) ≡ Some d
typed Int32 = refl
typed UInt32 = refl
typed Float32 = refl
typed AsciiString = refl
typed Utf8String = refl
typed Unicode2String = refl
typed ByteField = refl
typed Float64 = refl

ended : (t : Termination) → termination_of (termination_code t) ≡ Some t
ended EndOfPdu = refl
ended Zero = refl
ended HexFF = refl

module _ (code : ℕ) (high_low : Bool) where
  -- the variant with these parts is said
  abbrev Said : DiagCodedTypeVariant → Type 0
  Said v = variant_of (variant_numbers code high_low v) ≡ Some v

  min_max_said : (min : ℕ) (max : Option ℕ) (t : Termination)
      → Said (MinMaxLength (record { min_length = min; max_length = max; termination = t }))
  min_max_said min (Some n) t = rw (ended t)
  min_max_said min None t = rw (ended t)

  standard_said : (bits : BitLength) (mask : Option Place) (condensed : Bool)
      → Said (StandardLength (record { bit_length = bits; bit_mask = mask; condensed = condensed }))
  standard_said bits (Some p) condensed = refl
  standard_said bits None condensed = refl

said : (d : DataType) (high_low : Bool) (v : DiagCodedTypeVariant)
    → coded_of (variant_numbers (type_code_of d) high_low v) ≡ Some
    (record { base_datatype = d; type_ = v; is_high_low_byte_order = high_low })
unfolding coded_of
said d high_low (LeadingLengthInfo bits) = rw (typed d)
said d high_low (MinMaxLength m) = rw (typed d, min_max_said (type_code_of d) high_low m.min_length m.max_length m.termination)
said d high_low (StandardLength s) = rw (typed d, standard_said (type_code_of d) high_low s.bit_length s.bit_mask s.condensed)
said d high_low (ParamLengthInfo name) = rw (typed d)

pub numbers_say : (t : DiagCodedType) → coded_of (numbers_for t) ≡ Some t
numbers_say t = said t.base_datatype t.is_high_low_byte_order t.type_

-- what holds of both ways of a test holds of its outcome
by_test : {A : Type 0} (P : A → Type 0) (test : Bool) (x y : A) → (test ≡ true → P x) → (test ≡ false → P y) → P (cond test x y)
by_test P true x y f g = f refl
by_test P false x y f g = g refl

by_code : {A : Type 0} (P : A → Type 0) (c k : ℕ) (x y : A) → (c ≡ k → P x) → P y → P (cond (eqb c k) x y)
by_code P c k x y f g = by_test P (eqb c k) x y (λ h. f (eqb-true c k h)) (λ h. g)

-- a known type has the code, and a known termination
abbrev OfType : ℕ → Option DataType → Type 0
OfType c (Some d) = type_code_of d ≡ c
OfType c None = Unit {0}

of_type : (c : ℕ) → OfType c (type_of c)
of_type c =
    let P = OfType c in
    by_code P c 1 _ _ sym (by_code P c 2 _ _ sym (by_code P c 3 _ _ sym (by_code P c 4 _ _ sym
    (by_code P c 5 _ _ sym (by_code P c 6 _ _ sym (by_code P c 7 _ _ sym (by_code P c 8 _ _ sym tt)))))))

abbrev OfTermination : ℕ → Option Termination → Type 0
OfTermination c (Some t) = termination_code t ≡ c
OfTermination c None = Unit {0}

of_termination : (c : ℕ) → OfTermination c (termination_of c)
of_termination c = let P = OfTermination c in by_code P c 1 _ _ sym (by_code P c 2 _ _ sym (by_code P c 3 _ _ sym tt))

-- tests that fail
zero_of : (n : ℕ) → not (eqb n 0) ≡ false → 0 ≡ n
zero_of n e = sym (eqb-true n 0 (not-false (eqb n 0) e))

-- a maximum, and a mask, that is absent where its flag says so
limited_again : (set : Bool) (most : ℕ) → is_some (cond set (Some most) None) ≡ set
limited_again true most = refl
limited_again false most = refl

most_again : (set : Bool) (most : ℕ) → (not set && not (eqb most 0)) ≡ false → unwrap_or (cond set (Some most) None) 0 ≡ most
most_again true most e = refl
most_again false most e = zero_of most e

placed_again : (set : Bool) (p : Place) → is_some (cond set (Some p) None) ≡ set
placed_again true p = refl
placed_again false p = refl

module _ (n : Numbers) where
  nowhere_again : has_place n ≡ false → nowhere ≡ n.place
  nowhere_again e =
      let z = neither _ _ e in
      let at = zero_of n.place.at z.0 in
      let len = zero_of n.place.len.0 z.1 in
      λ i. record { at = at i; len = record { 0 = len i } }

  place_again : (set : Bool) → (not set && has_place n) ≡ false → unwrap_or (cond set (Some n.place) None) nowhere ≡ n.place
  place_again true e = refl
  place_again false e = nowhere_again e

  unlimited : has_limits n ≡ false → (0 ≡ n.termination) × (false ≡ n.flags.max) × (0 ≡ n.most)
  unlimited e =
      let z = neither _ _ e in
      let y = neither _ _ z.0 in
      (zero_of n.termination y.0, sym y.1, zero_of n.most z.1)

  unmasked : has_mask n ≡ false → (false ≡ n.flags.mask) × (false ≡ n.flags.condensed)
  unmasked e = let z = neither _ _ e in (sym z.0, sym z.1)

-- of numbers without other flag bits
module _ (n : Numbers) (none : 0 ≡ n.flags.others) where
  -- numbers of its type and byte order that agree with it in the rest are it
  agree : {mask condensed max : Bool} {variant termination length most : ℕ} {place : Place}
      → mask ≡ n.flags.mask → condensed ≡ n.flags.condensed → max ≡ n.flags.max
      → variant ≡ n.variant → termination ≡ n.termination → length ≡ n.length → most ≡ n.most → place ≡ n.place
      → record {
        type_code = n.type_code;
        flags = flags n.flags.high_low mask condensed max;
        variant = variant;
        termination = termination;
        length = length;
        most = most;
        place = place;
      } ≡ n
  agree mask condensed max variant termination length most place =
      λ i. record {
        type_code = n.type_code;
        flags = record { high_low = n.flags.high_low; mask = mask i; condensed = condensed i; max = max i; others = none i };
        variant = variant i;
        termination = termination i;
        length = length i;
        most = most i;
        place = place i;
      }

  -- a variant is known only from its own numbers
  abbrev Says : Option DiagCodedTypeVariant → Type 0
  Says (Some v) = variant_numbers n.type_code n.flags.high_low v ≡ n
  Says None = Unit {0}

  plain_says : (variant length : ℕ) (place : Place) → (has_limits n || has_mask n) ≡ false
      → variant ≡ n.variant → length ≡ n.length → place ≡ n.place
      → plain_numbers n.type_code n.flags.high_low variant length place ≡ n
  plain_says variant length place e v bits p =
      let z = neither _ _ e in
      let l = unlimited n z.0 in
      let m = unmasked n z.1 in
      agree m.0 m.1 l.1 v l.0 bits l.2 p

  leading_says : n.variant ≡ 1 → Says (leading_of n)
  leading_says v =
      by_test Says (has_limits n || has_mask n || has_place n) _ _ (λ e. tt)
      (λ e. let z = neither _ _ e in plain_says 1 n.length nowhere z.0 (sym v) refl (nowhere_again n z.1))

  param_says : n.variant ≡ 4 → Says (param_of n)
  param_says v =
      by_test Says (has_limits n || has_mask n || not (eqb n.length 0)) _ _ (λ e. tt)
      (λ e. let z = neither _ _ e in plain_says 4 0 n.place z.0 (sym v) (zero_of n.length z.1) refl)

  standard_says : n.variant ≡ 3 → Says (standard_of n)
  standard_says v =
      by_test Says (has_limits n || (not n.flags.mask && has_place n)) _ _ (λ e. tt)
      (λ e.
      let z = neither _ _ e in
      let l = unlimited n z.0 in
      agree (placed_again n.flags.mask n.place) refl l.1 (sym v) l.0 refl l.2 (place_again n n.flags.mask z.1))

  module _ (v : n.variant ≡ 2) (unmarked : (has_mask n || has_place n) ≡ false) where
    terminated_says : (t : Option Termination) → OfTermination n.termination t → Says (limits_by n t)
    terminated_says (Some t) c =
        by_test Says (not n.flags.max && not (eqb n.most 0)) _ _ (λ e. tt)
        (λ e.
        let z = neither _ _ unmarked in
        let m = unmasked n z.0 in
        agree m.0 m.1 (limited_again n.flags.max n.most) (sym v) c refl (most_again n.flags.max n.most e)
        (nowhere_again n z.1))
    terminated_says None c = tt

  min_max_says : n.variant ≡ 2 → Says (min_max_of n)
  min_max_says v =
      by_test Says (has_mask n || has_place n) _ _ (λ e. tt)
      (λ e. terminated_says v e (termination_of n.termination) (of_termination n.termination))

  variant_says : Says (variant_of n)
  variant_says =
      by_code Says n.variant 1 _ _ leading_says
      (by_code Says n.variant 2 _ _ min_max_says
      (by_code Says n.variant 3 _ _ standard_says
      (by_code Says n.variant 4 _ _ param_says tt)))

-- and a coded type too
module _ (n : Numbers) where
  abbrev From : Option DiagCodedType → Type 0
  From (Some t) = numbers_for t ≡ n
  From None = Unit {0}

  made-from : (none : 0 ≡ n.flags.others) (t : Option DataType) (v : Option DiagCodedTypeVariant)
      → OfType n.type_code t → Says n none v → From (made t v n.flags.high_low)
  made-from none (Some t) (Some v) e says = rw e says
  made-from none (Some t) None e says = tt
  made-from none None v e says = tt

  coded_from : From (coded_of n)
  unfolding coded_of
  coded_from =
      by_code From n.flags.others 0 _ _
      (λ e. made-from (sym e) (type_of n.type_code) (variant_of n) (of_type n.type_code) (variant_says n (sym e)))
      tt

  pub no_others_say : (t : DiagCodedType) → coded_of n ≡ Some t → numbers_for t ≡ n
  no_others_say t e = subst From e coded_from
