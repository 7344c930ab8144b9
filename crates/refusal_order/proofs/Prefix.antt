-- What every call refuses first is what the page says: 43, 44, 45, 42, then 12, 13, 10, 11.
use Rattle.std.proofs.Common.{◌≡◌, refl, sym, ◌∙◌, Bool, true, false, cond, ◌&&◌, ◌||◌, List, ℕ, ◌≤◌, length, eqb, ltb, leb, ltb-false, Option, Some, None, is_none}
use Rattle.kinds.specs.Types.{is_numeric, is_unicode_type}
use Rattle.kinds.specs.Slices.{cut}
use Rattle.kinds.specs.Outcomes.{Outcome, gives, after, following}
use Rattle.kinds.proofs.Outcomes.{following-after}
use Rattle.coded.specs.declared.variants.Place.{Place}
use Rattle.coded.specs.declared.variants.DiagCodedTypeVariant.{DiagCodedTypeVariant}
use Rattle.coded.specs.declared.variants.DiagCodedTypeVariant.TheVariants.{LeadingLengthInfo, MinMaxLength, StandardLength, ParamLengthInfo}
use Rattle.coded.specs.declared.coded_type.DiagCodedType.{DiagCodedType}
use Rattle.coded.specs.Refusals.{some_max, finds_its_length, odd_limits, limits_refusal, coded_type_refusal, made_refusal}
use Rattle.field.specs.Field.{Field, field_of, outside, store_place}
use Rattle.field.specs.Refusals.{slices_refusal, place_refusal, description_refusal}
use Rattle.record.specs.Numbers.{record_size}
use Rattle.record.specs.Parsing.{coded_in}
use Rattle.record.specs.Recorded.{well_formed}
use Rattle.table.specs.declared.Header.{Header}
use Rattle.table.specs.declared.Entry.{Entry}
use Rattle.table.specs.Table.{said_by, record_place, is_wrong, entry, record_fetched, fetched_under, fetched}
use Rattle.calls.specs.Calls.{Description, by_type, by_record, called}
use Rattle.refusal_order.specs.RefusalsInOrder.{Row, first_number, any_above, is_outside, lower_limit, upper_limit, type_in, of_call, fetch_order}
use Rattle.refusal_order.proofs.Numbers.{none, ended, step, in_turn}

-- two tests for one number
either : (a b : Bool) (n m : ℕ) → cond (a || b) n m ≡ cond a n (cond b n m)
either true b n m = refl
either false b n m = refl

any_slice : (x s a b : Bool) (n m : ℕ) → cond x n (cond s n (cond a n (cond b n m))) ≡ cond ((x || (a || (b || false))) || s) n m
any_slice true s a b n m = refl
any_slice false true true b n m = refl
any_slice false true false true n m = refl
any_slice false true false false n m = refl
any_slice false false true b n m = refl
any_slice false false false true n m = refl
any_slice false false false false n m = refl

-- a variant that looks for its own length is of a byte type, where 10 was not given
abbrev pub NotTen : DiagCodedType → Type 0
NotTen t = (finds_its_length t.type_ && is_numeric t.base_datatype) ≡ false

-- the rows of a description: 42 of its part, 12, 13, 10, 11, and another number where none of them holds
abbrev description_rows : ℕ → DiagCodedType → ℕ → ℕ
description_rows store t n =
    cond (is_outside (store_place t.type_) store) 42
    (cond (some_max (λ n. eqb n 0) (upper_limit t.type_)) 12
    (cond (some_max (λ n. ltb n (lower_limit t.type_)) (upper_limit t.type_)) 13
    (cond (finds_its_length t.type_ && is_numeric t.base_datatype) 10
    (cond (odd_limits t.type_ && is_unicode_type t.base_datatype) 11 n))))

module _ {A : Type 0} (k : A → ℕ) where
  place-number : (p : Option Place) (store : ℕ) (o : Outcome A) {n : ℕ} → ended o k ≡ n → ended (after (place_refusal p store) o) k ≡ cond (is_outside p store) 42 n
  place-number (Some p) store o e = step k (outside p store) _ _ o (λ z. e)
  place-number None store o e = e

  limits_number : (v : DiagCodedTypeVariant) (o : Outcome A) {n : ℕ} → ended o k ≡ n
      → ended (after (limits_refusal v) o) k ≡ cond (some_max (λ n. eqb n 0) (upper_limit v)) 12 (cond (some_max (λ n. ltb n (lower_limit v)) (upper_limit v)) 13 n)
  limits_number (MinMaxLength m) o e =
      step k (some_max (λ n. eqb n 0) m.max_length) _ _ o (λ z. step k (some_max (λ n. ltb n m.min_length) m.max_length) _ _ o (λ z. e))
  limits_number (LeadingLengthInfo bits) o e = e
  limits_number (StandardLength s) o e = e
  limits_number (ParamLengthInfo name) o e = e

  coded_number : (t : DiagCodedType) (o : Outcome A) {n : ℕ} → (NotTen t → ended o k ≡ n)
      → ended (after (coded_type_refusal t.base_datatype t.type_) o) k
      ≡ cond (finds_its_length t.type_ && is_numeric t.base_datatype) 10 (cond (odd_limits t.type_ && is_unicode_type t.base_datatype) 11 n)
  coded_number t o f =
      step k (finds_its_length t.type_ && is_numeric t.base_datatype) _ _ o (λ ten. step k (odd_limits t.type_ && is_unicode_type t.base_datatype) _ _ o (λ z. f ten))

  description_number : (t : DiagCodedType) (store : ℕ) (o : Outcome A) {n : ℕ} → (NotTen t → ended o k ≡ n)
      → ended (after (description_refusal t store) o) k ≡ description_rows store t n
  description_number t store o f =
      in_turn k (place_refusal (store_place t.type_) store) (made_refusal t) o
      (place-number (store_place t.type_) store _ (in_turn k (limits_refusal t.type_) _ o (limits_number t.type_ _ (coded_number t o f))))

  -- 42 of a record, and then the description's
  said_number : (said : Option DiagCodedType) (store : ℕ) (own : DiagCodedType → Outcome A) (n : DiagCodedType → ℕ) → ((t : DiagCodedType) → NotTen t → ended (own t) k ≡ n t)
      → ended (following (well_formed said) (λ t. after (description_refusal t store) (own t))) k ≡ cond (is_none said) 42 (description_rows store (type_in said) (n (type_in said)))
  said_number (Some t) store own n f = description_number t store (own t) (f t)
  said_number None store own n f = refl

  -- 43 and 44 of a call's slices
  slices_number : (bytes store a b used : ℕ) (o : Outcome A) {n : ℕ} → (a ≤ 65535 → ended o k ≡ n)
      → ended (after (slices_refusal bytes store a b used) o) k
      ≡ cond ((ltb 65535 bytes || (ltb 65535 a || (ltb 65535 b || false))) || ltb 32768 store) 43 (cond (ltb b used) 44 n)
  slices_number bytes store a b used o f =
      step k (ltb 65535 bytes) _ _ o
      (λ z. step k (ltb 32768 store) _ _ o
      (λ z. step k (ltb 65535 a) _ _ o
      (λ few. step k (ltb 65535 b) _ _ o
      (λ z. step k (ltb b used) _ _ o (λ z. f (ltb-false 65535 a few))))))
      ∙ any_slice (ltb 65535 bytes) (ltb 32768 store) (ltb 65535 a) (ltb 65535 b) 43 _

  -- a call that takes a description
  module _ (store : List ℕ) (a b used : ℕ) (sizes : List ℕ) (used_above : Bool) (own : DiagCodedType → Outcome A) (rows : Field → List Row)
      (these : any_above 65535 sizes ≡ (ltb 65535 a || (ltb 65535 b || false))) (above : used_above ≡ ltb b used)
      (f : (t : DiagCodedType) → a ≤ 65535 → NotTen t → ended (own t) k ≡ first_number (rows (field_of t store))) where
    abbrev next : DiagCodedType → Outcome A
    next t = after (description_refusal t (length store)) (own t)

    led_number : (bytes : ℕ) (said : Option DiagCodedType)
        → ended (following (after (slices_refusal bytes (length store) a b used) (well_formed said)) next) k
        ≡ cond ((ltb 65535 bytes || any_above 65535 sizes) || ltb 32768 (length store)) 43
        (cond used_above 44 (cond (is_none said) 42 (description_rows (length store) (type_in said) (first_number (rows (field_of (type_in said) store))))))
    led_number bytes said =
        rw (these, above, following-after (slices_refusal bytes (length store) a b used) (well_formed said) next)
        (slices_number bytes (length store) a b used _ (λ few. said_number said (length store) own (λ t. first_number (rows (field_of t store))) (λ t. f t few)))

    pub called-number : (d : Description) → ended (called d store a b used own) k ≡ first_number (of_call d store sizes used_above rows)
    called-number (by_type t) = led_number 0 (Some t)
    called-number (by_record bytes) = led_number (length bytes) (coded_in bytes)

-- a fetch
under : (table : List ℕ) (number : ℕ) (h : Header) (wrong : Bool) (k : Entry → ℕ) {n : ℕ} → ended (record_fetched table h number) k ≡ n
    → ended (fetched_under table number (cond wrong None (Some h))) k ≡ cond wrong 45 n
under table number h true k e = refl
under table number h false k e = e

pub fetched-number : (table : List ℕ) (number : ℕ) → ended (fetched table number) none ≡ first_number (fetch_order table number)
unfolding fetched
fetched-number table number =
    let k : Entry → ℕ = none in
    let h = said_by table in
    let said = coded_in (cut (record_place number) record_size table) in
    step k (ltb 65535 (length table)) _ _ _
    (λ z. under table number h (is_wrong table h) k
    (step k (leb h.count number) _ _ _ (λ z. said_number k said h.store_len.0 (λ t. gives (entry h number t)) (λ t. 0) (λ t z. refl))
    ∙ sym (either (leb h.count number) (is_none said) 42 _)))
