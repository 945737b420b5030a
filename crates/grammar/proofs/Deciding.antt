-- Where matching is decided, a list of marks is read to its end, or up to a first mark that no step matches.
use Rattle.std.proofs.Common.{◌≡◌, ℕ, zero, suc, pred, ◌≤◌, ◌⊎◌, List, [], ◌∷◌, ◌++◌, refl, ap, inl, inr, arith}
use mathlib.Core.Logic.Dec
use native.Mathlib.Decide.{ℕ_discrete}
use Rattle.grammar.specs.Tree.{Rows, end, row}
use Rattle.grammar.proofs.States.{State, Step, take_row, skip_row, leave_list, step_end, step_none, Run, stay, move, MayEnd, StateMayEnd}
use Rattle.grammar.proofs.Finishing.{RowsFit}
use Rattle.grammar.proofs.Determined.{Refuses, step_past_row}

-- whether a state may end is decided
pub may_end_decided : (rows : Rows) → Dec (MayEnd rows)
may_end_decided end = yes tt
may_end_decided (row a lo hi inner after) = Dec.and (ℕ_discrete lo 0) (may_end_decided after)

pub state_may_end_decided : (S : State) → Dec (StateMayEnd S)
state_may_end_decided [] = yes tt
state_may_end_decided (rows ∷ outer) = Dec.and (may_end_decided rows) (state_may_end_decided outer)

module _ {M : Type 0} (R : ℕ → M → Type 0) where
  -- a state has a step that matches the mark, or none
  abbrev pub StepOrRefusal : State → M → Type 0
  StepOrRefusal S m = ((q : ℕ) × (S' : State) × Step S q S' × R q m) ⊎ Refuses R S m

  -- the marks are read, or those before one that is refused
  abbrev pub ReadAll : State → List M → Type 0
  ReadAll S ms = (w : List ℕ) × (S' : State) × Run S w S' × RowsFit R w ms

  abbrev pub RefusedAt : State → List M → Type 0
  RefusedAt S ms = (before : List M) × (m : M) × (behind : List M) × (ms ≡ before ++ (m ∷ behind)) × ((w : List ℕ) × (S' : State) × Run S w S' × RowsFit R w before × Refuses R S' m)

  module _ (decide : (q : ℕ) (m : M) → Dec (R q m)) where
    -- the first row is taken, or steps are by rows behind it
    takes : (a hi : ℕ) (m : M) → Dec (R a m) → ((1 ≤ hi) × R a m) ⊎ ((hi ≡ 0) ⊎ (R a m → ⊥))
    takes a zero m d = inr (inl refl)
    takes a (suc hi) m (yes r) = inl (omega arith, r)
    takes a (suc hi) m (no n) = inr (inr n)

    choose_row : (a lo hi : ℕ) (inner after : Rows) (outer : State) (m : M) → (((1 ≤ hi) × R a m) ⊎ ((hi ≡ 0) ⊎ (R a m → ⊥))) → Dec (lo ≡ 0) → StepOrRefusal (after ∷ outer) m → StepOrRefusal (row a lo hi inner after ∷ outer) m
    choose_row a lo hi inner after outer m (inl t) d c = inl (a, inner ∷ row a (pred lo) (pred hi) inner after ∷ outer, take_row refl t.0, t.1)
    choose_row a lo hi inner after outer m (inr t) (yes e) (inl c) = inl (c.0, c.1, skip_row e c.2, c.3)
    choose_row a lo hi inner after outer m (inr t) (yes e) (inr c) = inr (λ q X s r. c q X (step_past_row R t r s).1 r)
    choose_row a lo hi inner after outer m (inr t) (no n) c = inr (λ q X s r. n (step_past_row R t r s).0)

    choose_in : (rows : Rows) (outer : State) (m : M) → StepOrRefusal outer m → StepOrRefusal (rows ∷ outer) m
    choose_in end outer m (inl c) = inl (c.0, c.1, leave_list c.2, c.3)
    choose_in end outer m (inr c) = inr (λ q X s r. c q X (step_end s) r)
    choose_in (row a lo hi inner after) outer m c = choose_row a lo hi inner after outer m (takes a hi m (decide a m)) (ℕ_discrete lo 0) (choose_in after outer m c)

    pub choose : (S : State) (m : M) → StepOrRefusal S m
    choose [] m = inr (λ q X s r. step_none s)
    choose (rows ∷ outer) m = choose_in rows outer m (choose outer m)

    -- after a step the rest is read, or up to a mark that is refused
    then_read : {S S' : State} (q : ℕ) (m : M) (ms : List M) → Step S q S' → R q m → (ReadAll S' ms ⊎ RefusedAt S' ms) → ReadAll S (m ∷ ms) ⊎ RefusedAt S (m ∷ ms)
    then_read q m ms s r (inl t) = inl (q ∷ t.0, t.1, move s t.2, (r, t.3))
    then_read q m ms s r (inr t) = inr (m ∷ t.0, t.1, t.2, ap (λ (z : List M). m ∷ z) t.3, (q ∷ t.4.0, t.4.1, move s t.4.2, (r, t.4.3), t.4.4))

    pub read_all : (ms : List M) (S : State) → ReadAll S ms ⊎ RefusedAt S ms
    read_all [] S = inl ([], S, stay, tt)
    read_all (m ∷ ms) S = by_choice (choose S m) (read_all ms)
      where
        by_choice : StepOrRefusal S m → ((X : State) → ReadAll X ms ⊎ RefusedAt X ms) → ReadAll S (m ∷ ms) ⊎ RefusedAt S (m ∷ ms)
        by_choice (inl c) f = then_read c.0 m ms c.2 c.3 (f c.1)
        by_choice (inr c) f = inr ([], m, ms, refl, ([], S, stay, tt, c))
