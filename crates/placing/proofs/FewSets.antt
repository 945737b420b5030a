-- A group has at most 256 sets, as the rows of its segments show.
use Rattle.std.proofs.Common.{◌≡◌, ℕ, suc, ◌+◌, ◌<◌, ◌≤◌, Bool, true, false, cond, eqb, ◌⊎◌, List, [], ◌∷◌, ◌++◌, sym, refl, ap, ◌∙◌, subst, inl, inr, append_assoc, arith}
use Rattle.std.proofs.lemmas.Bool.{cases_Bool, cond-true, cond-false, eqb-true, ne_eqb, or_left, or_right, or_from}
use Rattle.grammar.specs.Tree.{Rows, end, row, HasRow}
use Rattle.grammar.specs.Derivations.{Spot, InOrder, no_row, next_row, Uses, no_use, next_use}
use Rattle.grammar.specs.Interchange.{group_rows}
use Rattle.guide.specs.Meaning.{Meaning}
use Rattle.guide.specs.Law.{Lawful}
use Rattle.placing.specs.Stages.{others_of}
use Rattle.placing.specs.Placed.{PlacedSegment, spots_in, PlacedSo, count_of, any_of, since_last, has_row}
use Rattle.placing.proofs.Fitting.{others_within}
use Rattle.placing.proofs.Placements.{spots_more}

-- how many sets the group has, after a segment of the row q: GS (66) begins with none, and ST (1) begins one more
abbrev sets_after : ℕ → ℕ → ℕ
sets_after c q = cond (eqb q 66) 0 (cond (eqb q 1) (suc c) c)

abbrev sets_behind : ℕ → List Spot → ℕ
sets_behind c [] = c
sets_behind c (s ∷ w) = sets_behind (sets_after c s.row) w

-- before each ST there are fewer than 256 sets
abbrev FewBefore : ℕ → List Spot → Type 0
FewBefore c [] = Unit {0}
FewBefore c (s ∷ w) = (s.row ≡ 1 → c < 256) × FewBefore (sets_after c s.row) w

few_at : (c : ℕ) (w : List Spot) (s : Spot) (v : List Spot) → FewBefore c (w ++ (s ∷ v)) → s.row ≡ 1 → sets_behind c w < 256
few_at c [] s v f e = f.0 e
few_at c (t ∷ w) s v f e = few_at (sets_after c t.row) w s v f.1 e

-- rows that are neither GS nor ST keep the count
abbrev Quiet : ℕ → Type 0
Quiet q = (q ≡ 66 → ⊥) × (q ≡ 1 → ⊥)

abbrev AllQuiet : List Spot → Type 0
AllQuiet [] = Unit {0}
AllQuiet (s ∷ w) = Quiet s.row × AllQuiet w

quiet_keeps : (c q : ℕ) → Quiet q → sets_after c q ≡ c
quiet_keeps c q h = cond-false (eqb q 66) 0 (cond (eqb q 1) (suc c) c) (ne_eqb q 66 h.0) ∙ cond-false (eqb q 1) (suc c) c (ne_eqb q 1 h.1)

quiet_append : (u v : List Spot) → AllQuiet u → AllQuiet v → AllQuiet (u ++ v)
quiet_append [] v a b = b
quiet_append (s ∷ u) v a b = (a.0, quiet_append u v a.1 b)

few_behind : (c : ℕ) (w v : List Spot) → AllQuiet w → FewBefore c v → FewBefore c (w ++ v)
few_behind c [] v a f = f
few_behind c (s ∷ w) v a f = ((λ e. absurd (a.0.1 e)), subst (λ (k : ℕ). FewBefore k (w ++ v)) (sym (quiet_keeps c s.row a.0)) (few_behind c w v a.1 f))

mutual
  quiet_rows : {rows : Rows} {h n : ℕ} {w : List Spot} → ((q : ℕ) → HasRow rows q → Quiet q) → InOrder rows h n w → AllQuiet w
  quiet_rows f no_row = tt
  quiet_rows f (next_row {number = a} {used = used} {others = others} l g u r) =
      quiet_append used others (quiet_uses (f a (inl refl)) (λ q i. f q (inr (inl i))) u) (quiet_rows (λ q i. f q (inr (inr i))) r)

  quiet_uses : {a k h n : ℕ} {inner : Rows} {w : List Spot} → Quiet a → ((q : ℕ) → HasRow inner q → Quiet q) → Uses a inner k h n w → AllQuiet w
  quiet_uses a f no_use = tt
  quiet_uses a f (next_use {inside = inside} {others = others} r u) = (a, quiet_append inside others (quiet_rows f r) (quiet_uses a f u))

-- a row that opens nothing
quiet_row : {a k h n : ℕ} {w : List Spot} → Quiet a → Uses a end k h n w → AllQuiet w
quiet_row a u = quiet_uses a (λ q i. absurd i) u

module _ (others : Rows) (quiet : (q : ℕ) → HasRow others q → Quiet q) where
  -- k more sets of a group that has c
  few_sets_in : {k h n : ℕ} {w : List Spot} (c : ℕ) (v : List Spot) → Uses 1 others k h n w → c + k ≤ 256 → ((d : ℕ) → FewBefore d v) → FewBefore c (w ++ v)
  few_sets_in c v no_use h f = f c
  few_sets_in c v (next_use {times = k} {inside = inside} {others = more} r u) h f = (
    (λ e. omega arith),
    subst (FewBefore (suc c)) (sym (append_assoc inside more v)) (few_behind (suc c) inside (more ++ v) (quiet_rows quiet r) (few_sets_in (suc c) v u (omega arith) f)),
  )

  few_in_group : {h n : ℕ} {w : List Spot} (v : List Spot) → InOrder (group_rows others) h n w → ((d : ℕ) → FewBefore d v) → FewBefore 0 (w ++ v)
  few_in_group v (next_row {used = sets} {others = rest} l g u r) f =
      subst (FewBefore 0) (sym (append_assoc sets rest v)) (few_sets_in 0 (rest ++ v) u (omega arith) (λ d. few_behind d rest v (quiet_rows trailer r) (f d)))
    where
      trailer : (q : ℕ) → HasRow (row 67 1 1 end end) q → Quiet q
      trailer q (inl e) = ((λ z. omega arith), (λ z. omega arith))
      trailer q (inr (inl i)) = absurd i
      trailer q (inr (inr i)) = absurd i

  few_in_groups : {k h n : ℕ} {w : List Spot} (v : List Spot) → Uses 66 (group_rows others) k h n w → ((d : ℕ) → FewBefore d v) → (c : ℕ) → FewBefore c (w ++ v)
  few_in_groups v no_use f c = f c
  few_in_groups v (next_use {inside = inside} {others = more} r u) f c = (
    (λ e. absurd (let z : ◌≡◌ {A = ℕ} 66 1 = e in omega arith)),
    subst (FewBefore 0) (sym (append_assoc inside more v)) (few_in_group (more ++ v) r (few_in_groups v u f)),
  )

  few_in_interchange : {h n : ℕ} {w : List Spot} → InOrder (row 65 1 1 end (row 66 1 99 (group_rows others) (row 68 1 1 end end))) h n w → FewBefore 0 w
  few_in_interchange (next_row {used = header} l g u (next_row {used = groups} {others = trailer} l' g' u' r)) =
      few_behind 0 header (groups ++ trailer) (quiet_row ((λ e. let z : ◌≡◌ {A = ℕ} 65 66 = e in omega arith), (λ e. let z : ◌≡◌ {A = ℕ} 65 1 = e in omega arith)) u)
      (few_in_groups trailer u' (λ d. few_trailer d r) 0)
    where
      few_trailer : {h n : ℕ} {w : List Spot} (d : ℕ) → InOrder (row 68 1 1 end end) h n w → FewBefore d w
      few_trailer d (next_row {used = used} l g u no_row) = few_behind d used [] (quiet_row ((λ e. let z : ◌≡◌ {A = ℕ} 68 66 = e in omega arith), (λ e. let z : ◌≡◌ {A = ℕ} 68 1 = e in omega arith)) u) tt

-- the running count is the count of ST since the last GS
abbrev is_gs : PlacedSegment → Bool
is_gs = has_row 66

abbrev is_st : PlacedSegment → Bool
is_st = has_row 1

-- with a GS the count is that since the last one, and else all are counted
abbrev Counted : ℕ → List PlacedSegment → Type 0
Counted c z =
    ((any_of is_gs z ≡ true) × (sets_behind c (spots_in z) ≡ count_of is_st (since_last is_gs z)))
    ⊎ ((any_of is_gs z ≡ false) × (sets_behind c (spots_in z) ≡ c + count_of is_st z) × (since_last is_gs z ≡ z))

counted : (c : ℕ) (z : List PlacedSegment) → Counted c z
counted c [] = inr (refl, omega arith, refl)
counted c (p ∷ z) = go (cases_Bool (is_gs p)) (cases_Bool (is_st p)) (counted (sets_after c p.1.row) z)
  where
    go : (is_gs p ≡ true) ⊎ (is_gs p ≡ false) → (is_st p ≡ true) ⊎ (is_st p ≡ false) → Counted (sets_after c p.1.row) z → Counted c (p ∷ z)
    go gs st (inl t) =
        inl (or_right (is_gs p) (any_of is_gs z) t.0, t.1 ∙ ap (count_of is_st) (sym (cond-true (any_of is_gs z) (since_last is_gs z) (p ∷ z) t.0)))
    go (inl g) (inl s) (inr t) =
        let a = eqb-true p.1.row 66 g in
        let b = eqb-true p.1.row 1 s in
        absurd (omega arith)
    go (inl g) (inr s) (inr t) =
        let since : since_last is_gs (p ∷ z) ≡ p ∷ z = cond-false (any_of is_gs z) (since_last is_gs z) (p ∷ z) t.0 in
        let none : sets_after c p.1.row ≡ 0 = cond-true (is_gs p) 0 (cond (is_st p) (suc c) c) g in
        let one : ◌≡◌ {A = ℕ} (cond (is_st p) 1 0) 0 = cond-false (is_st p) 1 0 s in
        let all = t.1 in
        let total : sets_behind c (spots_in (p ∷ z)) ≡ count_of is_st (p ∷ z) = omega arith in
        inl (or_left (is_gs p) (any_of is_gs z) g, total ∙ ap (count_of is_st) (sym since))
    go (inr g) (inl s) (inr t) =
        let here : sets_after c p.1.row ≡ suc c = cond-false (is_gs p) 0 (cond (is_st p) (suc c) c) g ∙ cond-true (is_st p) (suc c) c s in
        let one : ◌≡◌ {A = ℕ} (cond (is_st p) 1 0) 1 = cond-true (is_st p) 1 0 s in
        let all = t.1 in
        inr (or_from (is_gs p) (any_of is_gs z) g t.0, omega arith, cond-false (any_of is_gs z) (since_last is_gs z) (p ∷ z) t.0)
    go (inr g) (inr s) (inr t) =
        let here : sets_after c p.1.row ≡ c = cond-false (is_gs p) 0 (cond (is_st p) (suc c) c) g ∙ cond-false (is_st p) (suc c) c s in
        let one : ◌≡◌ {A = ℕ} (cond (is_st p) 1 0) 0 = cond-false (is_st p) 1 0 s in
        let all = t.1 in
        inr (or_from (is_gs p) (any_of is_gs z) g t.0, omega arith, cond-false (any_of is_gs z) (since_last is_gs z) (p ∷ z) t.0)

counted_since : (z : List PlacedSegment) → sets_behind 0 (spots_in z) ≡ count_of is_st (since_last is_gs z)
counted_since z = elim (counted 0 z) [ inl t ↦ t.1 | inr t ↦ (let e : sets_behind 0 (spots_in z) ≡ count_of is_st z = (let h = t.1 in omega arith) in e ∙ ap (count_of is_st) (sym t.2)) ]

-- before each ST of placed segments, the group has fewer than 256 sets
pub few_sets : (m : Meaning) → Lawful m → (x : ℕ) (z : List PlacedSegment) (p : PlacedSegment) → PlacedSo m x (z ++ (p ∷ [])) → p.1.row ≡ 1 → count_of (has_row 1) (since_last (has_row 66) z) < 256
few_sets m w x z p (more, others, d) e =
    let front : spots_in (z ++ (p ∷ [])) ++ others ≡ spots_in z ++ (p.1 ∷ others) = ap (λ (l : List Spot). l ++ others) (spots_more z p) ∙ append_assoc (spots_in z) (p.1 ∷ []) others in
    let few : FewBefore 0 (spots_in z ++ (p.1 ∷ others)) = subst (FewBefore 0) front (few_in_interchange (others_of m) quiet d.0) in
    let low = few_at 0 (spots_in z) p.1 others few e in
    let same = counted_since z in
    omega arith
  where
    quiet : (q : ℕ) → HasRow (others_of m) q → Quiet q
    quiet q i =
        let b = others_within m w q i in
        let high = w.few_rows in
        ((λ z. omega (arith, b.1)), (λ z. omega (arith, b.0)))
