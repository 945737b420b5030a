-- The tests of days and times decide what the calendar says.
use Rattle.std.proofs.Common.{◌≡◌, ℕ, zero, suc, ◌+◌, ◌-◌, ◌*◌, ◌%◌, ◌≤◌, Bool, true, false, not, ◌&&◌, ◌||◌, eqb, leb, ◌⊎◌, List, [], ◌∷◌, length, get_or, take, drop, Decides, sym, refl, ◌∙◌, subst, inl, inr, arith, lit≤}
use Rattle.std.proofs.lemmas.List.{get_or-drop, length-drop}
use Rattle.std.proofs.lemmas.Bool.{eqb-true, eq-eqb, and_parts, and_from, cases_Bool, cond-true, cond-false, false≢true}
use Rattle.std.proofs.lemmas.Bool.Decides.{Decides-at, Decides-like, Decides-eqb, Decides-and, not_from_Decides}
use Rattle.std.specs.List.{between, AllByRecursion}
use Rattle.x12.specs.Class.{within}
use Rattle.value.specs.Digits.{digits, number_of}
use Rattle.value.specs.Dates.{leap, days_of_month, real_day, two, day8, day6, time}
use Rattle.value.specs.Means.{Digit, Leap, Month, january, february, leap_february, march, april, may, june, july, august, september, october, november, december, RealDay, Day8, Day6, Time}
use Rattle.value.proofs.Bytes.{decides_leb, digits_decides, within_decides}

-- leap years
leap_decides : (y : ℕ) → Decides (leap y) (Leap y)
leap_decides y =
    Decides-and (eqb (y % 4) 0) (not (eqb (y % 100) 0) || eqb (y % 400) 0) (Decides-eqb (y % 4) 0)
    (decides_unless (eqb (y % 100) 0) (eqb (y % 400) 0) (Decides-eqb (y % 100) 0) (Decides-eqb (y % 400) 0))
  where
    decides_unless : {P Q : Type 0} (x z : Bool) → Decides x P → Decides z Q → Decides (not x || z) (P → Q)
    decides_unless true z d e = (λ h p. e.0 h, λ h. e.1 (h (d.0 refl)))
    decides_unless false z d e = (λ h p. absurd (false≢true (d.1 p)), λ h. refl)

-- each month has as many days as are computed
month_days : {y m n : ℕ} → Month y m n → (1 ≤ m) × (m ≤ 12) × (days_of_month y m ≡ n)
month_days january = (lit≤ tt, lit≤ tt, refl)
month_days {y} (february h) = (lit≤ tt, lit≤ tt, cond-false (leap y) 29 28 (plain (cases_Bool (leap y))))
  where
    plain : (leap y ≡ true) ⊎ (leap y ≡ false) → leap y ≡ false
    plain (inl e) = absurd (h ((leap_decides y).0 e))
    plain (inr e) = e
month_days {y} (leap_february h) = (lit≤ tt, lit≤ tt, cond-true (leap y) 29 28 ((leap_decides y).1 h))
month_days march = (lit≤ tt, lit≤ tt, refl)
month_days april = (lit≤ tt, lit≤ tt, refl)
month_days may = (lit≤ tt, lit≤ tt, refl)
month_days june = (lit≤ tt, lit≤ tt, refl)
month_days july = (lit≤ tt, lit≤ tt, refl)
month_days august = (lit≤ tt, lit≤ tt, refl)
month_days september = (lit≤ tt, lit≤ tt, refl)
month_days october = (lit≤ tt, lit≤ tt, refl)
month_days november = (lit≤ tt, lit≤ tt, refl)
month_days december = (lit≤ tt, lit≤ tt, refl)

-- the number of days that is computed is that of the month
february_days : (y : ℕ) → Month y 2 (days_of_month y 2)
february_days y = go (cases_Bool (leap y))
  where
    go : (leap y ≡ true) ⊎ (leap y ≡ false) → Month y 2 (days_of_month y 2)
    go (inl e) = subst (Month y 2) (sym (cond-true (leap y) 29 28 e)) (leap_february ((leap_decides y).0 e))
    go (inr e) = subst (Month y 2) (sym (cond-false (leap y) 29 28 e)) (february (not_from_Decides (leap y) (leap_decides y) e))

-- every month from 1 to 12
days_month : (y m : ℕ) → 1 ≤ m → m ≤ 12 → Month y m (days_of_month y m)
days_month y zero a z = absurd (omega arith)
days_month y (suc zero) a z = january
days_month y (suc (suc zero)) a z = february_days y
days_month y (suc (suc (suc zero))) a z = march
days_month y (suc (suc (suc (suc zero)))) a z = april
days_month y (suc (suc (suc (suc (suc zero))))) a z = may
days_month y (suc (suc (suc (suc (suc (suc zero)))))) a z = june
days_month y (suc (suc (suc (suc (suc (suc (suc zero))))))) a z = july
days_month y (suc (suc (suc (suc (suc (suc (suc (suc zero)))))))) a z = august
days_month y (suc (suc (suc (suc (suc (suc (suc (suc (suc zero))))))))) a z = september
days_month y (suc (suc (suc (suc (suc (suc (suc (suc (suc (suc zero)))))))))) a z = october
days_month y (suc (suc (suc (suc (suc (suc (suc (suc (suc (suc (suc zero))))))))))) a z = november
days_month y (suc (suc (suc (suc (suc (suc (suc (suc (suc (suc (suc (suc zero)))))))))))) a z = december
days_month y (suc (suc (suc (suc (suc (suc (suc (suc (suc (suc (suc (suc (suc m))))))))))))) a z = absurd (omega arith)

-- days of the calendar
real_day_decides : (y m d : ℕ) → Decides (real_day y m d) (RealDay y m d)
real_day_decides y m d = Decides-like (real_day y m d) to from tests
  where
    tests : Decides (real_day y m d) (((1900 ≤ y) × (y ≤ 2099)) × (((1 ≤ m) × (m ≤ 12)) × ((1 ≤ d) × (d ≤ days_of_month y m))))
    tests =
        Decides-and (within 1900 2099 y) (within 1 12 m && within 1 (days_of_month y m) d) (within_decides 1900 2099 y)
        (Decides-and (within 1 12 m) (within 1 (days_of_month y m) d) (within_decides 1 12 m) (within_decides 1 (days_of_month y m) d))

    to : ((1900 ≤ y) × (y ≤ 2099)) × (((1 ≤ m) × (m ≤ 12)) × ((1 ≤ d) × (d ≤ days_of_month y m))) → RealDay y m d
    to h =
        record {
          from_1900 = h.0.0;
          to_2099 = h.0.1;
          from_first = h.1.1.0;
          to_last = (days_of_month y m, days_month y m h.1.0.0 h.1.0.1, h.1.1.1);
        }

    from : RealDay y m d → ((1900 ≤ y) × (y ≤ 2099)) × (((1 ≤ m) × (m ≤ 12)) × ((1 ≤ d) × (d ≤ days_of_month y m)))
    from r =
        let w = month_days r.to_last.1 in
        ((r.from_1900, r.to_2099), ((w.0, w.1), (r.from_first, subst (λ (n : ℕ). d ≤ n) (sym w.2) r.to_last.2)))

-- two digits, and four
two_first : (v : List ℕ) → 2 ≤ length v → number_of (take 2 v) ≡ two v 0
two_first [] h = absurd (omega arith)
two_first (a ∷ []) h = absurd (omega arith)
two_first (a ∷ b ∷ v) h = omega arith

two_from : (v : List ℕ) (i : ℕ) → i + 2 ≤ length v → number_of (take 2 (drop i v)) ≡ 10 * (get_or v (i + 0) 0 - 48) + (get_or v (i + 1) 0 - 48)
two_from v i h =
    two_first (drop i v) (omega (arith, length-drop i v))
    ∙ (λ j. 10 * (get_or-drop i v 0 0 j - 48) + (get_or-drop i v 1 0 j - 48))

four_first : (v : List ℕ) → 4 ≤ length v → number_of (take 4 v) ≡ 100 * two v 0 + two v 2
four_first [] h = absurd (omega arith)
four_first (a ∷ []) h = absurd (omega arith)
four_first (a ∷ b ∷ []) h = absurd (omega arith)
four_first (a ∷ b ∷ c ∷ []) h = absurd (omega arith)
four_first (a ∷ b ∷ c ∷ d ∷ v) h = omega arith

-- so many digits, and what else is tested of them
digits_and : {P : Type 0} (v : List ℕ) (n : ℕ) (t : Bool) → (length v ≡ n → Decides t P)
    → Decides (eqb (length v) n && (digits v && t)) ((length v ≡ n) × AllByRecursion Digit v × P)
digits_and {P} v n t d = (means, from)
  where
    means : (eqb (length v) n && (digits v && t)) ≡ true → (length v ≡ n) × AllByRecursion Digit v × P
    means h =
        let p = and_parts (eqb (length v) n) (digits v && t) h in
        let q = and_parts (digits v) t p.1 in
        let l = eqb-true (length v) n p.0 in
        (l, (digits_decides v).0 q.0, (d l).0 q.1)

    from : (length v ≡ n) × AllByRecursion Digit v × P → (eqb (length v) n && (digits v && t)) ≡ true
    from h = and_from (eqb (length v) n) (digits v && t) (eq-eqb (length v) n h.0) (and_from (digits v) t ((digits_decides v).1 h.1) ((d h.0).1 h.2))

-- the three forms
pub day8_decides : (v : List ℕ) → Decides (day8 v) (Day8 v)
day8_decides v =
    Decides-like (day8 v) (λ h. record { long = h.0; bytes = h.1; real = h.2 }) (λ h. (h.long, h.bytes, h.real))
    (digits_and v 8 (real_day (100 * two v 0 + two v 2) (two v 4) (two v 6)) real)
  where
    real : length v ≡ 8 → Decides (real_day (100 * two v 0 + two v 2) (two v 4) (two v 6)) (RealDay (number_of (between 0 4 v)) (number_of (between 4 6 v)) (number_of (between 6 8 v)))
    real l =
        Decides-at _ _ (λ i. real_day (sym (four_first v (omega arith)) i) (sym (two_from v 4 (omega arith)) i) (sym (two_from v 6 (omega arith)) i))
        (real_day_decides (number_of (between 0 4 v)) (number_of (between 4 6 v)) (number_of (between 6 8 v)))

pub day6_decides : (v : List ℕ) → Decides (day6 v) (Day6 v)
day6_decides v =
    Decides-like (day6 v) (λ h. record { long = h.0; bytes = h.1; real = h.2 }) (λ h. (h.long, h.bytes, h.real))
    (digits_and v 6 (real_day (2000 + two v 0) (two v 2) (two v 4)) real)
  where
    real : length v ≡ 6 → Decides (real_day (2000 + two v 0) (two v 2) (two v 4)) (RealDay (2000 + number_of (between 0 2 v)) (number_of (between 2 4 v)) (number_of (between 4 6 v)))
    real l =
        Decides-at _ _ (λ i. real_day (2000 + sym (two_from v 0 (omega arith)) i) (sym (two_from v 2 (omega arith)) i) (sym (two_from v 4 (omega arith)) i))
        (real_day_decides (2000 + number_of (between 0 2 v)) (number_of (between 2 4 v)) (number_of (between 4 6 v)))

pub time_decides : (v : List ℕ) → Decides (time v) (Time v)
time_decides v =
    Decides-like (time v) (λ h. record { long = h.0; bytes = h.1; hours = h.2.0; minutes = h.2.1 }) (λ h. (h.long, h.bytes, (h.hours, h.minutes)))
    (digits_and v 4 (leb (two v 0) 23 && leb (two v 2) 59) real)
  where
    real : length v ≡ 4 → Decides (leb (two v 0) 23 && leb (two v 2) 59) ((number_of (between 0 2 v) ≤ 23) × (number_of (between 2 4 v) ≤ 59))
    real l =
        Decides-at _ _ (λ i. leb (sym (two_from v 0 (omega arith)) i) 23 && leb (sym (two_from v 2 (omega arith)) i) 59)
        (Decides-and (leb (number_of (between 0 2 v)) 23) (leb (number_of (between 2 4 v)) 59) (decides_leb (number_of (between 0 2 v)) 23) (decides_leb (number_of (between 2 4 v)) 59))
