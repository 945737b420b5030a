-- The search over the flat table for the row that takes a mark: what holds as it goes on, and what each of its branches leads to.
use Rattle.std.proofs.Common.{◌≡◌, ℕ, suc, pred, ◌+◌, ◌-◌, ◌<◌, ◌≤◌, ◌≢◌, ◌⊎◌, List, [], ◌∷◌, length, drop, sym, refl, ◌∙◌, subst, inl, inr, arith}
use mathlib.Core.List.{cons≢nil, head-eq_of_cons-eq}
use Rattle.grammar.specs.Tree.{Rows, end, row}
use Rattle.grammar.proofs.States.{State, Step, take_row, skip_row, leave_list, step_end, step_none}
use Rattle.grammar.proofs.Determined.{Refuses, step_past_row}
use Rattle.grammar.proofs.FlatTable.{TableRow, PlacedAt, placed_take, placed_again, placed_leave, placed_skip, placed_number, placed_end, FirstNotDeeper, skip_deeper, TableNumbered, UsedRow, Counted, counted_length, counted_first, counted_again}

-- the table does not begin with a row of the depth d
abbrev pub NoRowOfDepth : ℕ → List TableRow → Type 0
NoRowOfDepth d [] = Unit {0}
NoRowOfDepth d (x ∷ xs) = x.depth ≢ d

-- at the place i of the table is this row, of the depth d
abbrev pub RowAt : List TableRow → ℕ → ℕ → TableRow → Type 0
RowAt table i d x = (x.depth ≡ d) × ((behind : List TableRow) × (drop i table ≡ x ∷ behind))

-- X has no step that S has not, and all steps of S that match the mark
abbrev pub SameMatchingSteps : {M : Type 0} → (ℕ → M → Type 0) → M → State → State → Type 0
SameMatchingSteps R m S X = ((q : ℕ) (Y : State) → Step X q Y → Step S q Y) × ((q : ℕ) (Y : State) → Step S q Y → R q m → Step X q Y)

module _ (table : List TableRow) (least greatest : ℕ → ℕ) where
  -- a place, which is behind the row just taken, and the rows in use with their counts stand for a state
  abbrev pub StandsFor : State → ℕ → List UsedRow → Type 0
  StandsFor [] i cs = ⊥
  StandsFor (rows ∷ outer) i cs = PlacedAt table i (rows ∷ outer) × Counted least greatest outer cs

  -- where the table has a row of the innermost list's depth, that list begins with it
  pub innermost_row : (rows : Rows) (outer : State) (i : ℕ) (cs : List UsedRow) (x : TableRow) (r : List TableRow) → StandsFor (rows ∷ outer) i cs → drop i table ≡ x ∷ r → x.depth ≡ length cs
      → (inner : Rows) × (after : Rows) × (rows ≡ row x.number x.least x.greatest inner after)
  innermost_row end [] i cs x r t e d = absurd (cons≢nil (sym e ∙ t.0.0))
  innermost_row end (list ∷ outer) i cs x r t e d =
      let h : x.depth ≤ length outer = subst (FirstNotDeeper (length outer)) e (placed_end table i list outer t.0) in
      let k : suc (length outer) ≡ length cs = counted_length least greatest (list ∷ outer) cs t.1 in
      absurd (omega arith)
  innermost_row (row a lo hi inner after) outer i cs x r t e d =
      let k : record { number = a; depth = length outer; least = lo; greatest = hi } ≡ x = head-eq_of_cons-eq (sym t.0.0 ∙ e) in
      (inner, after, λ j. row (k j).number (k j).least (k j).greatest inner after)

  -- and where it has none, that list is finished
  pub innermost_end : (rows : Rows) (outer : State) (i : ℕ) (cs : List UsedRow) → StandsFor (rows ∷ outer) i cs → NoRowOfDepth (length cs) (drop i table) → rows ≡ end
  innermost_end end outer i cs t n = refl
  innermost_end (row a lo hi inner after) outer i cs t n = absurd (subst (NoRowOfDepth (length cs)) t.0.0 n (counted_length least greatest outer cs t.1))

  -- a step from S by the row q is found
  abbrev pub Found : State → ℕ → List UsedRow → Type 0
  Found S q cs = (X : State) × Step S q X × StandsFor X q cs

  module _ {M : Type 0} (R : ℕ → M → Type 0) (m : M) (S : State) where
    -- what holds as the search from S goes on
    abbrev pub Searching : ℕ → List UsedRow → Type 0
    Searching i cs = (rows : Rows) × (outer : State) × SameMatchingSteps R m S (rows ∷ outer) × StandsFor (rows ∷ outer) i cs

    pub search_starts : (i : ℕ) (cs : List UsedRow) → StandsFor S i cs → Searching i cs
    search_starts i cs t = start S t ((λ q Y s. s), (λ q Y s r. s))
      where
        start : (X : State) → StandsFor X i cs → SameMatchingSteps R m S X → Searching i cs
        start [] t s = elim t [ ]
        start (rows ∷ outer) t s = (rows, outer, s, t)

    -- at a row of the innermost list's depth
    abbrev AtRow : ℕ → List UsedRow → TableRow → Type 0
    AtRow i cs x = (inner : Rows) × (after : Rows) × (outer : State) × SameMatchingSteps R m S (row x.number x.least x.greatest inner after ∷ outer) × StandsFor (row x.number x.least x.greatest inner after ∷ outer) i cs

    at_row : (i : ℕ) (cs : List UsedRow) (x : TableRow) → RowAt table i (length cs) x → Searching i cs → AtRow i cs x
    at_row i cs x a (rows, outer, s, t) =
        let e = innermost_row rows outer i cs x a.1.0 t a.1.1 a.0 in
        (e.0, e.1, outer, subst (λ (z : Rows). SameMatchingSteps R m S (z ∷ outer)) e.2 s, subst (λ (z : Rows). StandsFor (z ∷ outer) i cs) e.2 t)

    -- the row matches: it is taken
    pub search_takes : TableNumbered 1 table → (i : ℕ) (cs : List UsedRow) (x : TableRow) → RowAt table i (length cs) x → x.least ≡ least x.number → x.greatest ≡ greatest x.number → 1 ≤ x.greatest → Searching i cs → Found S x.number (record { row = x.number; count = 1 } ∷ cs)
    search_takes c i cs x a l g h k =
        let (inner, after, outer, s, t) = at_row i cs x a k in (
          inner ∷ row x.number (pred x.least) (pred x.greatest) inner after ∷ outer,
          s.0 x.number (inner ∷ row x.number (pred x.least) (pred x.greatest) inner after ∷ outer) (take_row refl h),
          (
            placed_take table i x.number x.least x.greatest (pred x.least) (pred x.greatest) inner after outer (placed_number table c i x.number x.least x.greatest inner after outer t.0) t.0,
            counted_first least greatest x.number x.least x.greatest inner after outer cs l g t.1,
          ),
        )

    -- it does not match and need not be used: the search goes on behind its inner rows
    pub search_skips : (i j : ℕ) (cs : List UsedRow) (x : TableRow) → RowAt table i (length cs) x → (R x.number m → ⊥) → x.least ≡ 0 → drop j table ≡ skip_deeper (length cs) (drop (suc i) table) → Searching i cs → Searching j cs
    search_skips i j cs x a f z e k =
        let (inner, after, outer, s, t) = at_row i cs x a k in
        let d : length outer ≡ length cs = counted_length least greatest outer cs t.1 in (
          after,
          outer,
          ((λ q Y y. s.0 q Y (skip_row z y)), (λ q Y y r. (step_past_row R (inr f) r (s.1 q Y y r)).1)),
          (
            placed_skip table i j x.number x.least x.greatest inner after outer t.0 (subst (λ (n : ℕ). drop j table ≡ skip_deeper n (drop (suc i) table)) (sym d) e),
            t.1,
          ),
        )

    -- it does not match and must be used: no step matches
    pub search_stops_at_row : (i : ℕ) (cs : List UsedRow) (x : TableRow) → RowAt table i (length cs) x → (R x.number m → ⊥) → 1 ≤ x.least → Searching i cs → Refuses R S m
    search_stops_at_row i cs x a f h k q Y y r =
        let (inner, after, outer, s, t) = at_row i cs x a k in
        let z : x.least ≡ 0 = (step_past_row R (inr f) r (s.1 q Y y r)).0 in
        omega arith

    -- no such row at the place: the innermost list is finished, and the row a, used n times, is in use
    abbrev AtUsed : ℕ → ℕ → ℕ → List UsedRow → Type 0
    AtUsed i a n cs = (lo hi : ℕ) × (inner after : Rows) × (outer : State) × SameMatchingSteps R m S (end ∷ row a lo hi inner after ∷ outer) × StandsFor (end ∷ row a lo hi inner after ∷ outer) i (record { row = a; count = n } ∷ cs)

    used_row : (i a n : ℕ) (cs : List UsedRow) (outer : State) → SameMatchingSteps R m S (end ∷ outer) → StandsFor (end ∷ outer) i (record { row = a; count = n } ∷ cs) → AtUsed i a n cs
    used_row i a n cs [] s t = elim t.1 [ ]
    used_row i a n cs (end ∷ outer) s t = elim t.1 [ ]
    used_row i a n cs (row b lo hi inner after ∷ outer) s t =
        let e : b ≡ a = sym t.1.0 in (
          lo,
          hi,
          inner,
          after,
          outer,
          subst (λ (z : ℕ). SameMatchingSteps R m S (end ∷ row z lo hi inner after ∷ outer)) e s,
          subst (λ (z : ℕ). StandsFor (end ∷ row z lo hi inner after ∷ outer) i (record { row = a; count = n } ∷ cs)) e t,
        )

    at_used : (i a n : ℕ) (cs : List UsedRow) → NoRowOfDepth (suc (length cs)) (drop i table) → Searching i (record { row = a; count = n } ∷ cs) → AtUsed i a n cs
    at_used i a n cs k (rows, outer, s, t) =
        let e : rows ≡ end = innermost_end rows outer i (record { row = a; count = n } ∷ cs) t k in
        used_row i a n cs outer (subst (λ (z : Rows). SameMatchingSteps R m S (z ∷ outer)) e s) (subst (λ (z : Rows). StandsFor (z ∷ outer) i (record { row = a; count = n } ∷ cs)) e t)

    -- the row in use matches and may be used again: it is taken
    pub search_takes_again : (i a n : ℕ) (cs : List UsedRow) → NoRowOfDepth (suc (length cs)) (drop i table) → n < greatest a → Searching i (record { row = a; count = n } ∷ cs) → Found S a (record { row = a; count = n + 1 } ∷ cs)
    search_takes_again i a n cs k h u =
        let (lo, hi, inner, after, outer, s, t) = at_used i a n cs k u in
        let e : hi ≡ greatest a - n = t.1.2 in (
          inner ∷ row a (pred lo) (pred hi) inner after ∷ outer,
          s.0 a (inner ∷ row a (pred lo) (pred hi) inner after ∷ outer) (leave_list (take_row refl (omega arith))),
          (placed_again table i a lo hi (pred lo) (pred hi) inner after outer t.0, counted_again least greatest a lo hi n inner after outer cs t.1),
        )

    -- it may not be used again or does not match, and was used as often as it must: the search goes on outside it
    pub search_leaves : (i a n : ℕ) (cs : List UsedRow) → NoRowOfDepth (suc (length cs)) (drop i table) → ((greatest a ≤ n) ⊎ (R a m → ⊥)) → least a ≤ n → Searching i (record { row = a; count = n } ∷ cs) → Searching i cs
    search_leaves i a n cs k f h u =
        let (lo, hi, inner, after, outer, s, t) = at_used i a n cs k u in
        let e : lo ≡ least a - n = t.1.1 in
        let g : hi ≡ greatest a - n = t.1.2 in
        let f' : (hi ≡ 0) ⊎ (R a m → ⊥) = elim f [ inl b ↦ inl (omega arith) | inr b ↦ inr b ] in (
          after,
          outer,
          ((λ q Y y. s.0 q Y (leave_list (skip_row (omega arith) y))), (λ q Y y r. (step_past_row R f' r (step_end (s.1 q Y y r))).1)),
          (placed_leave table i a lo hi inner after outer t.0, t.1.3),
        )

    -- and was not used as often as it must: no step matches
    pub search_stops_at_used : (i a n : ℕ) (cs : List UsedRow) → NoRowOfDepth (suc (length cs)) (drop i table) → ((greatest a ≤ n) ⊎ (R a m → ⊥)) → n < least a → Searching i (record { row = a; count = n } ∷ cs) → Refuses R S m
    search_stops_at_used i a n cs k f h u q Y y r =
        let (lo, hi, inner, after, outer, s, t) = at_used i a n cs k u in
        let e : lo ≡ least a - n = t.1.1 in
        let g : hi ≡ greatest a - n = t.1.2 in
        let f' : (hi ≡ 0) ⊎ (R a m → ⊥) = elim f [ inl b ↦ inl (omega arith) | inr b ↦ inr b ] in
        let z : lo ≡ 0 = (step_past_row R f' r (step_end (s.1 q Y y r))).0 in
        omega arith

    -- no row is left, in use or behind: no step matches
    pub search_ends : (i : ℕ) → NoRowOfDepth 0 (drop i table) → Searching i [] → Refuses R S m
    search_ends i k (rows, outer, s, t) q Y y r = none_left outer t.1 (subst (λ (z : Rows). Step (z ∷ outer) q Y) (innermost_end rows outer i [] t k) (s.1 q Y y r))
      where
        none_left : (outer : State) → Counted least greatest outer [] → Step (end ∷ outer) q Y → ⊥
        none_left [] c x = step_none (step_end x)
        none_left (end ∷ outer) c x = c
        none_left (row a lo hi inner after ∷ outer) c x = c
