-- The types of elements in the words of the rules, and that the tests decide them.
use Rattle.std.specs.Prelude.{◌≡◌, ℕ, ◌+◌, ◌%◌, ◌<◌, ◌≤◌, ◌⊎◌, List, length, Decides, ◌≢◌, slice_index}
use Rattle.std.specs.List.{between, AllByRecursion}
use Rattle.x12.specs.Class.{class_of}
use Rattle.value.specs.declared.forms.Form.{Form}
use Rattle.value.specs.declared.forms.Form.TheVariants.{N0, Q, Id, An, R, D8, D6, Tm, Spaces, Free}
use Rattle.value.specs.Digits.{number_of}
use Rattle.value.specs.Types.{good_type}

-- byte b stands at place k
abbrev pub Stands : List ℕ → ℕ → ℕ → Type 0
Stands v k b = (k < length v) × (slice_index v k ≡ b)

-- a digit is one of the bytes 48 to 57
abbrev pub Digit : ℕ → Type 0
Digit b = (48 ≤ b) × (b ≤ 57)

-- a code: each byte is of class 1 or 2
abbrev pub Code : List ℕ → Type 0
Code v = AllByRecursion (λ b. (class_of b ≡ 1) ⊎ (class_of b ≡ 2)) v

-- a text: each byte is of class 1 to 5, and some byte is no space (32)
pub record Text (v : List ℕ) : Type 0 where
  pub bytes : AllByRecursion (λ b. (1 ≤ class_of b) × (class_of b ≤ 5)) v
  pub filled : (k b : ℕ) × Stands v k b × (b ≢ 32)

-- A decimal: each byte is a digit, a point (46) or a minus (45); a minus stands only at place 0; two points never stand at two
-- different places; some byte is a digit.
pub record Decimal (v : List ℕ) : Type 0 where
  pub bytes : AllByRecursion (λ b. Digit b ⊎ ((b ≡ 46) ⊎ (b ≡ 45))) v
  pub minus : (k : ℕ) → Stands v k 45 → k ≡ 0
  pub point : (j k : ℕ) → Stands v j 46 → Stands v k 46 → j ≡ k
  pub digit : (k b : ℕ) × Stands v k b × Digit b

-- a leap year is divisible by 4, but by 100 only if by 400
abbrev pub Leap : ℕ → Type 0
Leap year = (year % 4 ≡ 0) × (year % 100 ≡ 0 → year % 400 ≡ 0)

-- the months of a year, each with its number of days
pub data Month (year : ℕ) : ℕ → ℕ → Type 0 where
  january : Month year 1 31
  february : (Leap year → ⊥) → Month year 2 28
  leap_february : Leap year → Month year 2 29
  march : Month year 3 31
  april : Month year 4 30
  may : Month year 5 31
  june : Month year 6 30
  july : Month year 7 31
  august : Month year 8 31
  september : Month year 9 30
  october : Month year 10 31
  november : Month year 11 30
  december : Month year 12 31

-- a day of the calendar, of the years 1900 to 2099
pub record RealDay (year month day : ℕ) : Type 0 where
  pub from_1900 : 1900 ≤ year
  pub to_2099 : year ≤ 2099
  pub from_first : 1 ≤ day
  pub to_last : (last : ℕ) × Month year month last × (day ≤ last)

-- CCYYMMDD: eight digits, and a day of the calendar with the year, month and day that they write
pub record Day8 (v : List ℕ) : Type 0 where
  pub long : length v ≡ 8
  pub bytes : AllByRecursion Digit v
  pub real : RealDay (number_of (between 0 4 v)) (number_of (between 4 6 v)) (number_of (between 6 8 v))

-- YYMMDD: six digits, and a day of the calendar with the month and day that they write, in the year 20YY, which is YY years past 2000
pub record Day6 (v : List ℕ) : Type 0 where
  pub long : length v ≡ 6
  pub bytes : AllByRecursion Digit v
  pub real : RealDay (2000 + number_of (between 0 2 v)) (number_of (between 2 4 v)) (number_of (between 4 6 v))

-- HHMM: four digits, which write hours up to 23 and minutes up to 59
pub record Time (v : List ℕ) : Type 0 where
  pub long : length v ≡ 4
  pub bytes : AllByRecursion Digit v
  pub hours : number_of (between 0 2 v) ≤ 23
  pub minutes : number_of (between 2 4 v) ≤ 59

-- the value is of the form
abbrev pub HasType : Form → List ℕ → Type 0
HasType N0 v = AllByRecursion Digit v
HasType Q v = AllByRecursion Digit v
HasType Id v = Code v
HasType An v = Text v
HasType R v = Decimal v
HasType D8 v = Day8 v
HasType D6 v = Day6 v
HasType Tm v = Time v
HasType Spaces v = AllByRecursion (λ b. b ≡ 32) v
HasType Free v = Unit {0}

-- the test of each form decides whether a value is of the form
abbrev pub TypesMean : Type 0
TypesMean = (form : Form) (v : List ℕ) → Decides (good_type form v) (HasType form v)
