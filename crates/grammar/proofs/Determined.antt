-- Where at most one row matches a mark, at every state, the marks determine the rows.
use Rattle.std.proofs.Common.{◌≡◌, ℕ, ◌⊎◌, List, [], ◌∷◌, ◌++◌, sym, refl, subst, inl, inr, append_assoc, arith}
use Rattle.grammar.specs.Tree.{Rows, row}
use Rattle.grammar.proofs.States.{State, Step, take_row, skip_row, Run, stay, move, run_append, run_cons, run_split, Accepts, Follows}
use Rattle.grammar.proofs.Distinct.{DistinctState, step_distinct, step_unique}
use Rattle.grammar.proofs.Finishing.{RowsFit, fit_append, fit_split, Usable, step_usable, run_usable, some_accepted}

-- from a state at most one row matches a mark; and from all states that it leads to
abbrev pub OneRowForAMark : {M : Type 0} → (ℕ → M → Type 0) → State → Type 0
OneRowForAMark {M} R S = (q₁ q₂ : ℕ) (S₁ S₂ : State) (m : M) → Step S q₁ S₁ → Step S q₂ S₂ → R q₁ m → R q₂ m → q₁ ≡ q₂

abbrev pub Determined : {M : Type 0} → (ℕ → M → Type 0) → State → Type 0
Determined R S = (w : List ℕ) (S' : State) → Run S w S' → OneRowForAMark R S'

-- no step matches the mark
abbrev pub Refuses : {M : Type 0} → (ℕ → M → Type 0) → State → M → Type 0
Refuses R S m = (q : ℕ) (S' : State) → Step S q S' → R q m → ⊥

-- two rows that directly follow the same row and match the same mark are one
abbrev pub FollowersDetermined : {M : Type 0} → (ℕ → M → Type 0) → Rows → Type 0
FollowersDetermined {M} R rows = (p q₁ q₂ : ℕ) (m : M) → Follows rows p q₁ → Follows rows p q₂ → R q₁ m → R q₂ m → q₁ ≡ q₂

-- marks begin rows that the tree accepts
abbrev pub BeginsRows : {M : Type 0} → (ℕ → M → Type 0) → Rows → List M → Type 0
BeginsRows {M} R rows ms = (more : List M) × (w : List ℕ) × RowsFit R w (ms ++ more) × Accepts (rows ∷ []) w

module _ {M : Type 0} (R : ℕ → M → Type 0) where
  -- so the rows of two runs that match the same marks are the same, and so are the states that they lead to
  pub same_marks_same_rows : {S S₁ S₂ : State} (w₁ w₂ : List ℕ) (ms : List M) → DistinctState S → Determined R S → Run S w₁ S₁ → Run S w₂ S₂ → RowsFit R w₁ ms → RowsFit R w₂ ms → (w₁ ≡ w₂) × (S₁ ≡ S₂)
  same_marks_same_rows w₁ w₂ [] d g stay stay f₁ f₂ = (refl, refl)
  same_marks_same_rows w₁ w₂ [] d g stay (move s r) f₁ f₂ = elim f₂ [ ]
  same_marks_same_rows w₁ w₂ [] d g (move s r) r₂ f₁ f₂ = elim f₁ [ ]
  same_marks_same_rows w₁ w₂ (m ∷ ms) d g stay r₂ f₁ f₂ = elim f₁ [ ]
  same_marks_same_rows w₁ w₂ (m ∷ ms) d g (move s r) stay f₁ f₂ = elim f₂ [ ]
  same_marks_same_rows {S = S} {S₂ = S₂} w₁ w₂ (m ∷ ms) d g (move {S₁ = X₁} {q = q₁} {w = v₁} s₁ r₁) (move {S₁ = X₂} {q = q₂} {w = v₂} s₂ r₂) f₁ f₂ =
      let e : q₂ ≡ q₁ = g [] S stay q₂ q₁ X₂ X₁ m s₂ s₁ f₂.0 f₁.0 in
      let s : Step S q₁ X₂ = subst (λ (q : ℕ). Step S q X₂) e s₂ in
      let r : Run X₁ v₂ S₂ = subst (λ (X : State). Run X v₂ S₂) (step_unique d s s₁) r₂ in
      let t = same_marks_same_rows v₁ v₂ ms (step_distinct s₁ d) (λ w S' k. g (q₁ ∷ w) S' (move s₁ k)) r₁ r f₁.1 f₂.1 in
      ((λ j. sym e j ∷ t.0 j), t.1)

  -- where the first row may not be used again, or does not match the mark, a step that does is by a row behind it
  pub step_past_row : {a lo hi q : ℕ} {inner after : Rows} {outer X : State} {m : M} → ((hi ≡ 0) ⊎ (R a m → ⊥)) → R q m → Step (row a lo hi inner after ∷ outer) q X → (lo ≡ 0) × Step (after ∷ outer) q X
  step_past_row (inl z) r (take_row e h) = absurd (omega arith)
  step_past_row {m = m} (inr f) r (take_row e h) = absurd (f (subst (λ (x : ℕ). R x m) e r))
  step_past_row (inl z) r (skip_row e s) = (e, s)
  step_past_row (inr f) r (skip_row e s) = (e, s)

  -- rows that begin with one for a refused mark are not accepted
  pub refused_not_accepted : (S : State) (m : M) (more : List M) → Refuses R S m → (w : List ℕ) → Accepts S w → RowsFit R w (m ∷ more) → ⊥
  refused_not_accepted S m more n [] a f = f
  refused_not_accepted S m more n (q ∷ w) (X, r, e) f =
      let c = run_cons r in
      n q c.0 c.1 f.0

  module _ (rows : Rows) (usable : Usable R rows) where
    -- a row read last and the row of a further step stand side by side in rows that the tree accepts
    pub step_follows : (u : List ℕ) (p q : ℕ) (S S' : State) → Run (rows ∷ []) (u ++ (p ∷ [])) S → Step S q S' → Follows rows p q
    step_follows u p q S S' r s =
        let t = some_accepted R S' (step_usable R s (run_usable R r (usable, tt))) in
        let run : Run (rows ∷ []) ((u ++ (p ∷ [])) ++ (q ∷ t.0)) t.2.0 = run_append r (move s t.2.1) in
        (u, t.0, (t.2.0, subst (λ (w : List ℕ). Run (rows ∷ []) w t.2.0) (append_assoc u (p ∷ []) (q ∷ t.0)) run, t.2.2))

    -- so behind the first row the law of followers makes the rows determined
    pub one_row_behind : FollowersDetermined R rows → (u : List ℕ) (p : ℕ) (S : State) → Run (rows ∷ []) (u ++ (p ∷ [])) S → OneRowForAMark R S
    one_row_behind L u p S r q₁ q₂ S₁ S₂ m s₁ s₂ = L p q₁ q₂ m (step_follows u p q₁ S S₁ r s₁) (step_follows u p q₂ S S₂ r s₂)

    -- marks that were read begin rows that the tree accepts
    pub read_begins : (w : List ℕ) (S : State) (ms : List M) → Run (rows ∷ []) w S → RowsFit R w ms → BeginsRows R rows ms
    read_begins w S ms r f =
        let t = some_accepted R S (run_usable R r (usable, tt)) in
        (t.1, w ++ t.0, fit_append R w ms t.0 t.1 f t.3, (t.2.0, run_append r t.2.1, t.2.2))

    -- and with a mark that is refused then they begin none
    pub refused_begins_none : DistinctState (rows ∷ []) → Determined R (rows ∷ []) → (w : List ℕ) (S : State) (ms : List M) (m : M) → Run (rows ∷ []) w S → RowsFit R w ms → Refuses R S m → BeginsRows R rows (ms ++ (m ∷ [])) → ⊥
    refused_begins_none d g w S ms m r f n (more, v, k, (X, run, e)) =
        let k' : RowsFit R v (ms ++ (m ∷ more)) = subst (RowsFit R v) (append_assoc ms (m ∷ []) more) k in
        let t = fit_split R v ms (m ∷ more) k' in
        let c = run_split t.0 (subst (λ (z : List ℕ). Run (rows ∷ []) z X) t.2 run) in
        let same = same_marks_same_rows t.0 w ms d g c.1 r t.3 f in
        refused_not_accepted S m more n t.1 (X, subst (λ (Y : State). Run Y t.1 X) same.1 c.2, e) t.4
