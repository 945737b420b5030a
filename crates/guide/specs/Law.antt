-- The law that every guide keeps.
use Rattle.std.specs.Prelude.{◌≡◌, ℕ, ◌+◌, ◌<◌, ◌≤◌, Bool, true, false, ◌⊎◌, List, [], ◌∷◌, Some, codes, MatchBool, Option}
use Rattle.std.specs.List.{AllByRecursion}
use Rattle.x12.specs.Class.{class_of}
use Rattle.x12.specs.Met.{Name}
use Rattle.value.specs.declared.forms.Form.{Form}
use Rattle.value.specs.declared.forms.Form.TheVariants.{N0, Q, Id, An}
use Rattle.grammar.specs.Marks.{OneOf}
use Rattle.grammar.specs.Law.{FollowersDisjoint}
use Rattle.guide.specs.declared.rules.Need.TheVariants.{Must, Unused}
use Rattle.guide.specs.declared.rules.Rule.{Rule}
use Rattle.guide.specs.Meaning.{Meaning, Standing, size}
use Rattle.guide.specs.Asked.{row_at, find_rule, over, rows_of, label_of}

-- s is the row with number n
abbrev pub IsRow : Meaning → ℕ → Standing → Type 0
IsRow m n s = row_at m n ≡ Some s

-- the row with number n has this name
abbrev pub Named : Meaning → ℕ → List ℕ → Type 0
Named m n name = (s : Standing) × IsRow m n s × (s.this.name ≡ name)

-- the row with number n has this name, is used once, stands in no loop and opens none
abbrev pub Fixed : Meaning → ℕ → List ℕ → Type 0
Fixed m n name = (s : Standing) × IsRow m n s × (s.this.name ≡ name) × (s.this.least ≡ 1) × (s.this.greatest ≡ 1) × (s.depth ≡ 0) × (s.inner ≡ 0)

-- row n stands in the loop that row p opens: it is one of the rows behind p that the loop has
abbrev pub Inside : Meaning → ℕ → ℕ → Type 0
Inside m p n = (s : Standing) × IsRow m p s × (p < n) × (n ≤ p + s.inner)

-- row n comes after the loop that row p opens
abbrev pub Behind : Meaning → ℕ → ℕ → Type 0
Behind m p n = (s : Standing) → IsRow m p s → p + s.inner < n

-- the elements that rules outside the guide speak of: segment, element, whether it is must, type, greatest length
pub record KnownElement : Type 0 where
  pub segment : List ℕ
  pub element : ℕ
  pub must : Bool
  pub form : Form
  pub most : ℕ

abbrev pub known : List ℕ → ℕ → Bool → Form → ℕ → KnownElement
known segment element must form most = record { segment = segment; element = element; must = must; form = form; most = most }

abbrev pub known_elements : List KnownElement
known_elements =
    known (codes "ST") 2 true An 9
    ∷ known (codes "BAK") 1 true Id 2
    ∷ known (codes "BAK") 2 true Id 2
    ∷ known (codes "BAK") 3 true An 22
    ∷ known (codes "PO1") 1 true An 20
    ∷ known (codes "PO1") 2 true Q 9
    ∷ known (codes "PO1") 3 true Id 2
    ∷ known (codes "PO1") 6 false Id 2
    ∷ known (codes "PO1") 7 false An 48
    ∷ known (codes "ACK") 2 true Q 9
    ∷ known (codes "CTT") 1 true N0 6
    ∷ known (codes "CTT") 2 false N0 10
    ∷ known (codes "SE") 1 true N0 10
    ∷ known (codes "SE") 2 true An 9
    ∷ []

-- a rule has the type, and no greater greatest length
abbrev pub Typed : KnownElement → Rule → Type 0
Typed k r = (r.form ≡ k.form) × (r.greatest ≤ k.most)

-- a rule for a known element: must if that is asked; of one that may be unused the type is asked only where it is used
abbrev pub Keeps : KnownElement → Option Rule → Type 0
Keeps k o = MatchBool k.must
    ((r : Rule) × (o ≡ Some r) × (r.need ≡ Must) × Typed k r)
    ((r : Rule) → o ≡ Some r → (r.need ≡ Unused) ⊎ Typed k r)

-- a number from 1 to 30
abbrev pub Thirty : ℕ → Type 0
Thirty n = (1 ≤ n) × (n ≤ 30)

pub record Lawful (m : Meaning) : Type 0 where
  -- A guide has at most 64 rows, each in at most four loops, with rules for the elements 1 to 30.
  pub few_rows : size m.tree ≤ 64
  pub few_loops : (n : ℕ) (s : Standing) → IsRow m n s → s.depth ≤ 4
  pub few_elements : (n : ℕ) (s : Standing) → IsRow m n s → AllByRecursion (λ e. Thirty e.number) s.this.elements
  pub few_pairs : (n : ℕ) (s : Standing) → IsRow m n s → AllByRecursion (λ p. Thirty p.0 × Thirty p.1) s.this.pairs
  -- The first row is ST, the second BAK, the last SE, each used once, in no loop and opening none.
  pub first_is_st : Fixed m 1 (codes "ST")
  pub second_is_bak : Fixed m 2 (codes "BAK")
  pub last_is_se : Fixed m (size m.tree) (codes "SE")
  -- No other row has these names.
  pub no_other_st : (n : ℕ) → Named m n (codes "ST") → n ≡ 1
  pub no_other_bak : (n : ℕ) → Named m n (codes "BAK") → n ≡ 2
  pub no_other_se : (n : ℕ) → Named m n (codes "SE") → n ≡ size m.tree
  -- No row is ISA, GS, GE or IEA.
  pub no_envelope : (n : ℕ) (name : List ℕ) → OneOf (codes "ISA" ∷ codes "GS" ∷ codes "GE" ∷ codes "IEA" ∷ []) name → Named m n name → ⊥
  -- At most one row is CTT, used at most once, after the PO1 loop and in none.
  pub one_ctt : (n k : ℕ) → Named m n (codes "CTT") → Named m k (codes "CTT") → n ≡ k
  pub ctt_once : (n : ℕ) (s : Standing) → IsRow m n s → s.this.name ≡ codes "CTT" → (s.this.greatest ≤ 1) × (s.depth ≡ 0)
  pub ctt_behind_po1 : (p n : ℕ) → Named m p (codes "PO1") → Named m n (codes "CTT") → Behind m p n
  -- Least is at most greatest, and greatest at least 1.
  pub uses : (n : ℕ) (s : Standing) → IsRow m n s → (s.this.least ≤ s.this.greatest) × (1 ≤ s.this.greatest)
  -- A row's name is two or three bytes of class 1 or 2; the codes that place it are of these classes.
  pub names : (n : ℕ) (s : Standing) → IsRow m n s → Name s.this.name
  pub placings : (n : ℕ) (s : Standing) → IsRow m n s → AllByRecursion (AllByRecursion (λ b. (class_of b ≡ 1) ⊎ (class_of b ≡ 2))) s.this.placing
  -- Two different rows that may directly follow the same row never match the same mark.
  pub followers : FollowersDisjoint (label_of m) (rows_of m)
  -- One row is PO1 and opens a loop; one is ACK and stands in it.
  pub po1 : (n : ℕ) × (s : Standing) × IsRow m n s × (s.this.name ≡ codes "PO1") × (1 ≤ s.inner) × ((k : ℕ) → Named m k (codes "PO1") → k ≡ n)
  pub ack : (n : ℕ) × Named m n (codes "ACK") × ((k : ℕ) → Named m k (codes "ACK") → k ≡ n)
  pub ack_in_po1 : (p n : ℕ) → Named m p (codes "PO1") → Named m n (codes "ACK") → Inside m p n
  -- The known elements are must and have their types.
  pub elements : (k : KnownElement) → OneOf known_elements k → (n : ℕ) (s : Standing) → IsRow m n s → s.this.name ≡ k.segment
      → Keeps k (over (λ x. x.rule) (find_rule k.element s.this.elements))
