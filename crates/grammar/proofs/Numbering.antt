-- Rows that are numbered in order are distinct, in a set and in an interchange.
use Rattle.std.proofs.Common.{◌≡◌, ℕ, suc, ◌+◌, ◌<◌, ◌≤◌, ◌⊎◌, inl, inr, arith}
use Rattle.grammar.specs.Tree.{Rows, end, row, HasRow, count, NumberedFrom}
use Rattle.grammar.specs.Interchange.{group_rows}
use Rattle.grammar.proofs.Distinct.{DistinctRows}
use Rattle.grammar.proofs.Envelope.{interchange_rows}

pub numbered_within : (rows : Rows) (n : ℕ) → NumberedFrom n rows → (q : ℕ) → HasRow rows q → (n ≤ q) × (q < n + count rows)
numbered_within end n h q i = elim i [ ]
numbered_within (row a lo hi inner after) n h q (inl e) =
    let b : a ≡ n = h.0 in
    (omega arith, omega arith)
numbered_within (row a lo hi inner after) n h q (inr (inl i)) =
    let b = numbered_within inner (suc n) h.1 q i in
    (omega (arith, b.0), omega (arith, b.1))
numbered_within (row a lo hi inner after) n h q (inr (inr i)) =
    let b = numbered_within after (suc n + count inner) h.2 q i in
    (omega (arith, b.0), omega (arith, b.1))

pub numbered_distinct : (rows : Rows) (n : ℕ) → NumberedFrom n rows → DistinctRows rows
numbered_distinct end n h = tt
numbered_distinct (row a lo hi inner after) n h =
    let e : a ≡ n = h.0 in (
      (λ i. let b = numbered_within inner (suc n) h.1 a i in omega (arith, b.0)),
      (λ i. let b = numbered_within after (suc n + count inner) h.2 a i in omega (arith, b.0)),
      (λ q i j. let b = numbered_within inner (suc n) h.1 q i in let c = numbered_within after (suc n + count inner) h.2 q j in omega (arith, b.1, c.0)),
      numbered_distinct inner (suc n) h.1,
      numbered_distinct after (suc n + count inner) h.2,
    )

-- a row that holds no other, as GE and IEA
only_itself : (a lo hi q : ℕ) → HasRow (row a lo hi end end) q → q ≡ a
only_itself a lo hi q (inl e) = e
only_itself a lo hi q (inr (inl i)) = elim i [ ]
only_itself a lo hi q (inr (inr i)) = elim i [ ]

-- the rows of an interchange around those of a set with the numbers 2 to 64
module _ (others : Rows) (numbered : NumberedFrom 2 others) (few : count others ≤ 63) where
  in_set_lem : (q : ℕ) → HasRow others q → (2 ≤ q) × (q ≤ 64)
  in_set_lem q i =
      let b = numbered_within others 2 numbered q i in
      (b.0, omega (arith, b.1))

  -- the rows of a group are those of the set, ST and GE
  in_group : (q : ℕ) → HasRow (group_rows others) q → (q ≤ 64) ⊎ (q ≡ 67)
  in_group q (inl e) = inl (omega arith)
  in_group q (inr (inl i)) = inl (in_set_lem q i).1
  in_group q (inr (inr i)) = inr (only_itself 67 1 1 q i)

  no_isa : HasRow (interchange_rows others) 65 → ⊥
  no_isa (inl e) = omega arith
  no_isa (inr (inl i)) = elim (in_group 65 i) [ inl h ↦ omega arith | inr h ↦ omega arith ]
  no_isa (inr (inr i)) = omega (arith, only_itself 68 1 1 65 i)

  pub interchange_distinct : DistinctRows (row 65 1 1 end (interchange_rows others))
  interchange_distinct = (
    (λ i. i),
    no_isa,
    (λ q i j. i),
    tt,
    (
      (λ i. elim (in_group 66 i) [ inl h ↦ omega arith | inr h ↦ omega arith ]),
      (λ i. omega (arith, only_itself 68 1 1 66 i)),
      (λ q i j. let e : q ≡ 68 = only_itself 68 1 1 q j in elim (in_group q i) [ inl h ↦ omega arith | inr h ↦ omega arith ]),
      (
        (λ i. omega (arith, (in_set_lem 1 i).0)),
        (λ i. omega (arith, only_itself 67 1 1 1 i)),
        (λ q i j. let e : q ≡ 67 = only_itself 67 1 1 q j in omega (arith, (in_set_lem q i).1)),
        numbered_distinct others 2 numbered,
        ((λ i. i), (λ i. i), (λ q i j. i), tt, tt),
      ),
      ((λ i. i), (λ i. i), (λ q i j. i), tt, tt),
    ),
  )
