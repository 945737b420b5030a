-- The states of an interchange; where a set's rows are determined by their marks, so are those of the interchange.
use Rattle.std.proofs.Common.{◌≡◌, ℕ, pred, ◌⊎◌, List, [], ◌∷◌, ◌++◌, sym, refl, ap, ◌∙◌, subst, inl, inr, arith, lit≤}
use Rattle.grammar.specs.Tree.{Rows, end, row, HasRow}
use Rattle.grammar.specs.Interchange.{group_rows}
use Rattle.grammar.proofs.States.{State, Step, take_row, skip_row, leave_list, step_none, Run, stay, move, run_append, run_has}
use Rattle.grammar.proofs.Finishing.{Usable}
use Rattle.grammar.proofs.Determined.{OneRowForAMark, Determined, FollowersDetermined, one_row_behind}
use Rattle.grammar.proofs.UpperState.{StepOver, step_over}

-- the rows of an interchange after ISA, by the rows of a set after ST
abbrev pub interchange_rows : Rows → Rows
interchange_rows others = row 66 1 99 (group_rows others) (row 68 1 1 end end)

-- inside a set: ST and GS are in use, with the uses that they must and may still have
abbrev pub around_set : ℕ → ℕ → ℕ → ℕ → Rows → State
around_set lo hi lo' hi' others = row 1 lo hi others (row 67 1 1 end end) ∷ row 66 lo' hi' (group_rows others) (row 68 1 1 end end) ∷ []

pub data InterchangeState (others : Rows) : State → Type 0 where
  at_start : InterchangeState others (row 65 1 1 end (interchange_rows others) ∷ [])
  after_isa : InterchangeState others (end ∷ row 65 0 0 end (interchange_rows others) ∷ [])
  after_gs : {lo hi : ℕ} → InterchangeState others (group_rows others ∷ row 66 lo hi (group_rows others) (row 68 1 1 end end) ∷ [])
  in_set_lem : (lo hi lo' hi' : ℕ) {S : State} {w : List ℕ} → Run (others ∷ []) w S → InterchangeState others (S ++ around_set lo hi lo' hi' others)
  after_ge : {lo hi : ℕ} → InterchangeState others (end ∷ row 67 0 0 end end ∷ row 66 lo hi (group_rows others) (row 68 1 1 end end) ∷ [])
  after_iea : InterchangeState others (end ∷ row 68 0 0 end end ∷ [])

module _ (others : Rows) where
  -- the rows that each state has steps by, and where they lead
  pub from_start : {q : ℕ} {X : State} → Step (row 65 1 1 end (interchange_rows others) ∷ []) q X → (q ≡ 65) × InterchangeState others X
  from_start (take_row e h) = (e, after_isa)
  from_start (skip_row e s) = absurd (omega arith)

  pub from_isa : {q : ℕ} {X : State} → Step (end ∷ row 65 0 0 end (interchange_rows others) ∷ []) q X → (q ≡ 66) × InterchangeState others X
  from_isa (leave_list (take_row e h)) = absurd (omega arith)
  from_isa (leave_list (skip_row e (take_row f h))) = (f, after_gs)
  from_isa (leave_list (skip_row e (skip_row f s))) = absurd (omega arith)

  pub from_gs : {lo hi q : ℕ} {X : State} → Step (group_rows others ∷ row 66 lo hi (group_rows others) (row 68 1 1 end end) ∷ []) q X → (q ≡ 1) × InterchangeState others X
  from_gs {lo} {hi} (take_row e h) = (e, in_set_lem 0 255 lo hi stay)
  from_gs (skip_row e s) = absurd (omega arith)

  pub from_around_set : {lo hi lo' hi' q : ℕ} {X : State} → Step (around_set lo hi lo' hi' others) q X → ((q ≡ 1) ⊎ (q ≡ 67)) × InterchangeState others X
  from_around_set {lo} {hi} {lo'} {hi'} (take_row e h) = (inl e, in_set_lem (pred lo) (pred hi) lo' hi' stay)
  from_around_set (skip_row e (take_row f h)) = (inr f, after_ge)
  from_around_set (skip_row e (skip_row f s)) = absurd (omega arith)

  pub from_ge : {lo hi q : ℕ} {X : State} → Step (end ∷ row 67 0 0 end end ∷ row 66 lo hi (group_rows others) (row 68 1 1 end end) ∷ []) q X → ((q ≡ 66) ⊎ (q ≡ 68)) × InterchangeState others X
  from_ge (leave_list (take_row e h)) = absurd (omega arith)
  from_ge (leave_list (skip_row e (leave_list (take_row f h)))) = (inl f, after_gs)
  from_ge (leave_list (skip_row e (leave_list (skip_row f (take_row g h))))) = (inr g, after_iea)
  from_ge (leave_list (skip_row e (leave_list (skip_row f (skip_row g s))))) = absurd (omega arith)

  pub from_iea : {q : ℕ} {X : State} → Step (end ∷ row 68 0 0 end end ∷ []) q X → ⊥
  from_iea (leave_list (take_row e h)) = omega arith
  from_iea (leave_list (skip_row e (leave_list s))) = step_none s

  pub interchange_step : {S X : State} {q : ℕ} → InterchangeState others S → Step S q X → InterchangeState others X
  interchange_step at_start s = (from_start s).1
  interchange_step after_isa s = (from_isa s).1
  interchange_step after_gs s = (from_gs s).1
  interchange_step {X = X} {q = q} (in_set_lem lo hi lo' hi' {S = S} r) s =
      elim (step_over S (around_set lo hi lo' hi' others) q X s)
      [ inl t ↦ subst (InterchangeState others) (sym t.2) (in_set_lem lo hi lo' hi' (run_append r (move t.1 stay))) | inr t ↦ (from_around_set t.1).1 ]
  interchange_step after_ge s = (from_ge s).1
  interchange_step after_iea s = absurd (from_iea s)

  pub interchange_run : {S X : State} {w : List ℕ} → Run S w X → InterchangeState others S → InterchangeState others X
  interchange_run stay i = i
  interchange_run (move s r) i = interchange_run r (interchange_step i s)

  module _ {M : Type 0} (R : ℕ → M → Type 0) where
    -- one of two rows that match no mark in common
    one_of_two : {a b : ℕ} → ((m : M) → R a m → R b m → ⊥) → (q₁ q₂ : ℕ) (m : M) → R q₁ m → R q₂ m → ((q₁ ≡ a) ⊎ (q₁ ≡ b)) → ((q₂ ≡ a) ⊎ (q₂ ≡ b)) → q₁ ≡ q₂
    one_of_two f q₁ q₂ m r₁ r₂ (inl e) (inl g) = e ∙ sym g
    one_of_two f q₁ q₂ m r₁ r₂ (inl e) (inr g) = absurd (f m (subst (λ (x : ℕ). R x m) e r₁) (subst (λ (x : ℕ). R x m) g r₂))
    one_of_two f q₁ q₂ m r₁ r₂ (inr e) (inl g) = absurd (f m (subst (λ (x : ℕ). R x m) g r₂) (subst (λ (x : ℕ). R x m) e r₁))
    one_of_two f q₁ q₂ m r₁ r₂ (inr e) (inr g) = e ∙ sym g

    module _ (set_determined : Determined R (others ∷ [])) (st_ge : (m : M) → R 1 m → R 67 m → ⊥) (gs_iea : (m : M) → R 66 m → R 68 m → ⊥)
        (not_st : (q : ℕ) (m : M) → HasRow others q → R q m → R 1 m → ⊥) (not_ge : (q : ℕ) (m : M) → HasRow others q → R q m → R 67 m → ⊥) where
      -- no row of the set matches what ST or GE matches
      set_or_around : (q₁ q₂ : ℕ) (m : M) → HasRow others q₁ → R q₁ m → R q₂ m → ((q₂ ≡ 1) ⊎ (q₂ ≡ 67)) → ⊥
      set_or_around q₁ q₂ m i r₁ r₂ (inl e) = not_st q₁ m i r₁ (subst (λ (x : ℕ). R x m) e r₂)
      set_or_around q₁ q₂ m i r₁ r₂ (inr e) = not_ge q₁ m i r₁ (subst (λ (x : ℕ). R x m) e r₂)

      one_row_in_set : (w : List ℕ) (S : State) (lo hi lo' hi' : ℕ) → Run (others ∷ []) w S → (q₁ q₂ : ℕ) (X₁ X₂ : State) (m : M) → R q₁ m → R q₂ m
          → StepOver S (around_set lo hi lo' hi' others) q₁ X₁ → StepOver S (around_set lo hi lo' hi' others) q₂ X₂ → q₁ ≡ q₂
      one_row_in_set w S lo hi lo' hi' r q₁ q₂ X₁ X₂ m r₁ r₂ (inl t) (inl u) = set_determined w S r q₁ q₂ t.0 u.0 m t.1 u.1 r₁ r₂
      one_row_in_set w S lo hi lo' hi' r q₁ q₂ X₁ X₂ m r₁ r₂ (inl t) (inr u) = absurd (set_or_around q₁ q₂ m (run_has r t.1) r₁ r₂ (from_around_set u.1).0)
      one_row_in_set w S lo hi lo' hi' r q₁ q₂ X₁ X₂ m r₁ r₂ (inr t) (inl u) = absurd (set_or_around q₂ q₁ m (run_has r u.1) r₂ r₁ (from_around_set t.1).0)
      one_row_in_set w S lo hi lo' hi' r q₁ q₂ X₁ X₂ m r₁ r₂ (inr t) (inr u) = one_of_two st_ge q₁ q₂ m r₁ r₂ (from_around_set t.1).0 (from_around_set u.1).0

      one_row_in_interchange : {S : State} → InterchangeState others S → OneRowForAMark R S
      one_row_in_interchange at_start q₁ q₂ X₁ X₂ m s₁ s₂ r₁ r₂ = (from_start s₁).0 ∙ sym (from_start s₂).0
      one_row_in_interchange after_isa q₁ q₂ X₁ X₂ m s₁ s₂ r₁ r₂ = (from_isa s₁).0 ∙ sym (from_isa s₂).0
      one_row_in_interchange after_gs q₁ q₂ X₁ X₂ m s₁ s₂ r₁ r₂ = (from_gs s₁).0 ∙ sym (from_gs s₂).0
      one_row_in_interchange (in_set_lem lo hi lo' hi' {S = S} {w = w} r) q₁ q₂ X₁ X₂ m s₁ s₂ r₁ r₂ =
          one_row_in_set w S lo hi lo' hi' r q₁ q₂ X₁ X₂ m r₁ r₂ (step_over S (around_set lo hi lo' hi' others) q₁ X₁ s₁) (step_over S (around_set lo hi lo' hi' others) q₂ X₂ s₂)
      one_row_in_interchange after_ge q₁ q₂ X₁ X₂ m s₁ s₂ r₁ r₂ = one_of_two gs_iea q₁ q₂ m r₁ r₂ (from_ge s₁).0 (from_ge s₂).0
      one_row_in_interchange after_iea q₁ q₂ X₁ X₂ m s₁ s₂ r₁ r₂ = absurd (from_iea s₁)

      pub interchange_determined : Determined R (row 65 1 1 end (interchange_rows others) ∷ [])
      interchange_determined w S r = one_row_in_interchange (interchange_run r at_start)

-- the law of followers of a set that begins with ST makes the rows behind ST determined
module _ {M : Type 0} (R : ℕ → M → Type 0) (others : Rows) (usable : Usable R (row 1 1 1 end others)) (law : FollowersDetermined R (row 1 1 1 end others)) where
  take_st : Step (row 1 1 1 end others ∷ []) 1 (end ∷ row 1 0 0 end others ∷ [])
  take_st = take_row refl (lit≤ tt)

  -- a list that is not empty has a last element
  last_of : (x : ℕ) (w : List ℕ) → (u : List ℕ) × (p : ℕ) × (x ∷ w ≡ u ++ (p ∷ []))
  last_of x [] = ([], x, refl)
  last_of x (y ∷ w) =
      let t = last_of y w in
      (x ∷ t.0, t.1, ap (λ (z : List ℕ). x ∷ z) t.2)

  pub behind_st_determined : Determined R (others ∷ [])
  behind_st_determined w S stay q₁ q₂ X₁ X₂ m s₁ s₂ = one_row_behind R (row 1 1 1 end others) usable law [] 1 (end ∷ row 1 0 0 end others ∷ []) (move take_st stay) q₁ q₂ X₁ X₂ m (leave_list (skip_row refl s₁)) (leave_list (skip_row refl s₂))
  behind_st_determined w S (move {q = q} {w = v} s r) q₁ q₂ X₁ X₂ m s₁ s₂ =
      let t = last_of 1 (q ∷ v) in
      let run : Run (row 1 1 1 end others ∷ []) (1 ∷ q ∷ v) S = move take_st (move (leave_list (skip_row refl s)) r) in
      one_row_behind R (row 1 1 1 end others) usable law t.0 t.1 S (subst (λ (z : List ℕ). Run (row 1 1 1 end others ∷ []) z S) t.2 run) q₁ q₂ X₁ X₂ m s₁ s₂
