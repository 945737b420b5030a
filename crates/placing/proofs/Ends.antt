-- The last row of a set: it is SE, and a set's state may end exactly after it.
use Rattle.std.proofs.Common.{◌≡◌, ℕ, zero, suc, pred, ◌+◌, ◌-◌, ◌<◌, ◌≤◌, List, [], ◌∷◌, ◌++◌, length, Some, sym, refl, ap, ◌∙◌, subst, inl, inr, arith}
use Rattle.std.proofs.lemmas.Bool.{cases_lt}
use Rattle.x12.specs.Lists.{nth}
use Rattle.grammar.specs.Tree.{Rows, end, row, HasRow, after_first}
use Rattle.grammar.proofs.States.{State, Step, take_row, skip_row, leave_list}
use Rattle.grammar.proofs.Distinct.{OutermostRow, StateOutermostRow, DistinctState, outermost_has}
use Rattle.grammar.proofs.LastRow.{EndsWith, BeforeLast, after_last, step_before_last}
use Rattle.guide.specs.Meaning.{Tree, none, branch, Meaning, Standing, standing, size, numbered}
use Rattle.guide.specs.Asked.{rows_of}
use Rattle.guide.specs.Law.{Lawful}
use Rattle.placing.proofs.Tables.{length_standing, nth_left, nth_right, nth_within}

ends_outermost : (last : ℕ) (rows : Rows) → EndsWith last rows → OutermostRow rows last
ends_outermost last end w = elim w [ ]
ends_outermost last (row a lo hi inner after) (inl w) = inl (sym w.0)
ends_outermost last (row a lo hi inner after) (inr w) = inr (ends_outermost last after w)

before_outermost : (last : ℕ) (S : State) → BeforeLast last S → StateOutermostRow S last
before_outermost last [] w = elim w [ ]
before_outermost last (rows ∷ []) w = inl (ends_outermost last rows w)
before_outermost last (rows ∷ list ∷ outer) w = inr (before_outermost last (list ∷ outer) w)

taken_last : (last a lo hi : ℕ) (inner after : Rows) (outer : State) → DistinctState (row a lo hi inner after ∷ outer) → BeforeLast last (row a lo hi inner after ∷ outer) → a ≡ last
    → inner ∷ row a (pred lo) (pred hi) inner after ∷ outer ≡ after_last last
taken_last last a lo hi inner after [] d (inl w) e = (λ i. w.3 i ∷ row (w.0 i) (pred (w.1 i)) (pred (w.2 i)) (w.3 i) (w.4 i) ∷ [])
taken_last last a lo hi inner after [] d (inr w) e = absurd (d.0.1 (subst (HasRow after) (sym e) (outermost_has after last (ends_outermost last after w))))
taken_last last a lo hi inner after (list ∷ outer) d w e = absurd (d.1 a (inl refl) (subst (StateOutermostRow (list ∷ outer)) (sym e) (before_outermost last (list ∷ outer) w)))

skip_before : (last a lo hi : ℕ) (inner after : Rows) (outer : State) → lo ≡ 0 → BeforeLast last (row a lo hi inner after ∷ outer) → BeforeLast last (after ∷ outer)
skip_before last a lo hi inner after [] z (inl w) = let f : lo ≡ 1 = w.1 in absurd (omega arith)
skip_before last a lo hi inner after [] z (inr w) = w
skip_before last a lo hi inner after (list ∷ outer) z w = w

leave_before : (last : ℕ) (outer : State) → BeforeLast last (end ∷ outer) → BeforeLast last outer
leave_before last [] w = elim w [ ]
leave_before last (list ∷ outer) w = w

-- the last row leads behind the set
pub last_taken : {S X : State} {q : ℕ} (last : ℕ) → Step S q X → DistinctState S → BeforeLast last S → q ≡ last → X ≡ after_last last
last_taken last (take_row {a = a} {lo = lo} {hi = hi} {inner = inner} {after = after} {outer = outer} e h) d w q = taken_last last a lo hi inner after outer d w (sym e ∙ q)
last_taken last (skip_row {a = a} {lo = lo} {hi = hi} {inner = inner} {after = after} {outer = outer} e s) d w q =
    last_taken last s (d.0.4, (λ p i t. d.1 p (inr (inr i)) t), d.2) (skip_before last a lo hi inner after outer e w) q
last_taken last (leave_list {outer = outer} s) d w q = last_taken last s d.2 (leave_before last outer w) q

pub other_taken : {S X : State} {q : ℕ} (last : ℕ) → Step S q X → BeforeLast last S → (q ≡ last → ⊥) → BeforeLast last X
other_taken last s w n = elim (step_before_last last s w) [ inl b ↦ b | inr e ↦ absurd (n e.0) ]

-- a row of a deeper list is deeper
depth_from : (d : ℕ) (t : Tree) (n : ℕ) (s : Standing) → nth (standing d t) n ≡ Some s → d ≤ s.depth
depth_from d none n s e = let z : ◌≡◌ {A = ℕ} 0 1 = cc in absurd (omega arith)
depth_from d (branch this inner after) zero s e = let z : ◌≡◌ {A = ℕ} 0 1 = cc in absurd (omega arith)
depth_from d (branch this inner after) (suc zero) s e =
    let q : record { depth = d; inner = size inner; this = this } ≡ s = cc in
    let k : d ≡ s.depth = ap (λ (x : Standing). x.depth) q in
    omega arith
depth_from d (branch this inner after) (suc (suc n)) s e =
    elim (cases_lt (length (standing (suc d) inner)) (suc n)) [
      | inl lt ↦ depth_from d after (suc n - length (standing (suc d) inner)) s (sym (nth_right (standing (suc d) inner) (standing d after) (suc n) lt) ∙ e)
      | inr le ↦ (let h = depth_from (suc d) inner (suc n) s (sym (nth_left (standing (suc d) inner) (standing d after) (suc n) le) ∙ e) in omega arith)
    ]

-- a last row that stands beside the first, is used once and opens nothing
ends_with : (n d : ℕ) (t : Tree) (s : Standing) → nth (standing d t) (size t) ≡ Some s → s.depth ≡ d → s.this.least ≡ 1 → s.this.greatest ≡ 1 → EndsWith (n + size t - 1) (numbered n t)
ends_with n d none s e p l g = let z : ◌≡◌ {A = ℕ} 0 1 = cc in absurd (omega arith)
ends_with n d (branch this none none) s e p l g =
    let q : record { depth = d; inner = 0; this = this } ≡ s = cc in
    inl (omega arith, ap (λ (x : Standing). x.this.least) q ∙ l, ap (λ (x : Standing). x.this.greatest) q ∙ g, refl, refl)
ends_with n d (branch this (branch b i a) none) s e p l g =
    let t : Tree = branch b i a in
    let ls = length_standing (suc d) t in
    let z : suc (size t + 0) ≡ suc (size t) = omega arith in
    let f : nth (standing (suc d) t) (size t) ≡ Some s = sym (nth_left (standing (suc d) t) [] (size t) (omega arith)) ∙ shift (standing (suc d) t ++ []) (size i + size a) z e in
    let h = depth_from (suc d) t (size t) s f in
    absurd (omega arith)
  where
    shift : (xs : List Standing) (k : ℕ) → suc (suc (size i + size a) + 0) ≡ suc (suc (size i + size a)) → nth (record { depth = d; inner = suc (size i + size a); this = this } ∷ xs) (suc (suc (size i + size a) + 0)) ≡ Some s → nth xs (suc (size i + size a)) ≡ Some s
    shift xs k z e = ap (nth (record { depth = d; inner = suc (size i + size a); this = this } ∷ xs)) (sym z) ∙ e
ends_with n d (branch this inner (branch b i a)) s e p l g =
    let t : Tree = branch b i a in
    let ls = length_standing (suc d) inner in
    let z : suc (size inner + size t) ≡ suc (suc (size inner + (size i + size a))) = omega arith in
    let k : suc (size inner + (size i + size a)) - length (standing (suc d) inner) ≡ size t = omega arith in
    let m : suc n + size inner + size t - 1 ≡ n + suc (size inner + size t) - 1 = omega arith in
    let f : nth (standing d t) (size t) ≡ Some s =
    ap (nth (standing d t)) (sym k) ∙ sym (nth_right (standing (suc d) inner) (standing d t) (suc (size inner + (size i + size a))) (omega arith))
    ∙ ap (nth (record { depth = d; inner = size inner; this = this } ∷ (standing (suc d) inner ++ standing d t))) (sym z) ∙ e in
    inr (subst (λ (j : ℕ). EndsWith j (numbered (suc n + size inner) t)) m (ends_with (suc n + size inner) d (branch b i a) s f p l g))

after_ends : (last : ℕ) (rows : Rows) → 1 < last → rows ≡ row 1 1 1 end (after_first rows) → EndsWith last rows → EndsWith last (after_first rows)
after_ends last rows h e w = go (subst (EndsWith last) e w)
  where
    go : EndsWith last (row 1 1 1 end (after_first rows)) → EndsWith last (after_first rows)
    go (inl x) = let y : 1 ≡ last = x.0 in absurd (omega arith)
    go (inr x) = x

-- a set behind ST ends with SE
pub set_ends : (m : Meaning) → Lawful m → rows_of m ≡ row 1 1 1 end (after_first (rows_of m)) → BeforeLast (size m.tree) (after_first (rows_of m) ∷ [])
set_ends m w e =
    let f = w.last_is_se in
    let b = w.second_is_bak in
    let t : Tree = m.tree in
    let big : 2 ≤ size m.tree = two_rows in
    let k : 1 + size m.tree - 1 ≡ size m.tree = omega arith in
    after_ends (size m.tree) (rows_of m) (omega arith) e (subst (λ (j : ℕ). EndsWith j (rows_of m)) k (ends_with 1 0 m.tree f.0 f.1 f.5 f.3 f.4))
  where
    two_rows : 2 ≤ size m.tree
    two_rows = let h = nth_within (standing 0 m.tree) 2 w.second_is_bak.0 w.second_is_bak.1 in let l = length_standing 0 m.tree in omega arith
