-- A test, computed from the tree, that two different rows that may directly follow the same row match no mark in common.
use Rattle.std.proofs.Common.{◌≡◌, ℕ, pred, ◌≤◌, Bool, true, false, cond, ◌&&◌, ◌||◌, eqb, leb, ◌⊎◌, List, [], ◌∷◌, ◌++◌, sym, refl, subst, inl, inr, arith}
use Rattle.std.proofs.lemmas.Bool.{false≢true, and_parts, or_cases, cond-true, eqb-true, eq-eqb, le-leb}
use Rattle.grammar.specs.Tree.{Rows, end, row, HasRow}
use Rattle.grammar.specs.Marks.{Label, OneOf}
use Rattle.grammar.specs.Law.{FollowersDisjoint}
use Rattle.grammar.proofs.States.{State, Step, take_row, skip_row, leave_list, Run, run_cons, Follows, follows_has}
use Rattle.grammar.proofs.Matching.{labels_disjoint, labels_disjoint_sound}
use Rattle.grammar.proofs.Followers.{may_follow_follows}

-- the rows that may be used first of a list, or behind it, where `outside` are those behind it
abbrev UsedFirst : Rows → (ℕ → Type 0) → ℕ → Type 0
UsedFirst end outside q = outside q
UsedFirst (row a lo hi inner after) outside q = ((q ≡ a) × (1 ≤ hi)) ⊎ ((lo ≡ 0) × UsedFirst after outside q)

abbrev StateUsedFirst : State → ℕ → Type 0
StateUsedFirst [] q = ⊥
StateUsedFirst (rows ∷ outer) q = UsedFirst rows (StateUsedFirst outer) q

-- those behind the inner rows of a row: the row again, or the rows after it
abbrev UsedBehind : ℕ → ℕ → Rows → (ℕ → Type 0) → ℕ → Type 0
UsedBehind a hi after outside q = ((q ≡ a) × (2 ≤ hi)) ⊎ UsedFirst after outside q

-- F holds of each row and each row that may be used directly after it
abbrev HoldsOfFollowers : (ℕ → ℕ → Type 0) → Rows → (ℕ → Type 0) → Type 0
HoldsOfFollowers F end outside = Unit {0}
HoldsOfFollowers F (row a lo hi inner after) outside = ((q : ℕ) → UsedFirst inner (UsedBehind a hi after outside) q → F a q) × HoldsOfFollowers F inner (UsedBehind a hi after outside) × HoldsOfFollowers F after outside

abbrev StateHoldsOfFollowers : (ℕ → ℕ → Type 0) → State → Type 0
StateHoldsOfFollowers F [] = Unit {0}
StateHoldsOfFollowers F (rows ∷ outer) = HoldsOfFollowers F rows (StateUsedFirst outer) × StateHoldsOfFollowers F outer

-- with more rows behind, more may be used first, and F holds of fewer
first_grows : (rows : Rows) (o o' : ℕ → Type 0) → ((q : ℕ) → o q → o' q) → (q : ℕ) → UsedFirst rows o q → UsedFirst rows o' q
first_grows end o o' f q s = f q s
first_grows (row a lo hi inner after) o o' f q (inl e) = inl e
first_grows (row a lo hi inner after) o o' f q (inr s) = inr (s.0, first_grows after o o' f q s.1)

behind_grows : (a hi : ℕ) (after : Rows) (o o' : ℕ → Type 0) → ((q : ℕ) → o q → o' q) → (q : ℕ) → UsedBehind a hi after o q → UsedBehind a hi after o' q
behind_grows a hi after o o' f q (inl e) = inl e
behind_grows a hi after o o' f q (inr s) = inr (first_grows after o o' f q s)

holds_of_fewer : (F : ℕ → ℕ → Type 0) (rows : Rows) (o o' : ℕ → Type 0) → ((q : ℕ) → o' q → o q) → HoldsOfFollowers F rows o → HoldsOfFollowers F rows o'
holds_of_fewer F end o o' f c = tt
holds_of_fewer F (row a lo hi inner after) o o' f c = (
  (λ q s. c.0 q (first_grows inner (UsedBehind a hi after o') (UsedBehind a hi after o) (behind_grows a hi after o' o f) q s)),
  holds_of_fewer F inner (UsedBehind a hi after o) (UsedBehind a hi after o') (behind_grows a hi after o' o f) c.1,
  holds_of_fewer F after o o' f c.2,
)

-- a row in use, with one use less
behind_again : (a lo hi : ℕ) (inner after : Rows) (o : ℕ → Type 0) (q : ℕ) → UsedFirst (row a lo (pred hi) inner after) o q → UsedBehind a hi after o q
behind_again a lo hi inner after o q (inl e) =
    let g : 1 ≤ pred hi = e.1 in
    inl (e.0, omega arith)
behind_again a lo hi inner after o q (inr s) = inr s.1

behind_less : (a hi : ℕ) (after : Rows) (o : ℕ → Type 0) (q : ℕ) → UsedBehind a (pred hi) after o q → UsedBehind a hi after o q
behind_less a hi after o q (inl e) =
    let g : 2 ≤ pred hi = e.1 in
    inl (e.0, omega arith)
behind_less a hi after o q (inr s) = inr s

step_first : {S S' : State} {q : ℕ} → Step S q S' → StateUsedFirst S q
step_first (take_row e h) = inl (e, h)
step_first (skip_row e s) = inr (e, step_first s)
step_first (leave_list s) = step_first s

step_holds : (F : ℕ → ℕ → Type 0) {S S' : State} {p : ℕ} → Step S p S' → StateHoldsOfFollowers F S → StateHoldsOfFollowers F S' × ((q : ℕ) → StateUsedFirst S' q → F p q)
step_holds F (take_row {a = a} {lo = lo} {hi = hi} {inner = inner} {after = after} {outer = outer} e h) c =
    let o : ℕ → Type 0 = StateUsedFirst outer in
    let o₁ : ℕ → Type 0 = UsedFirst (row a (pred lo) (pred hi) inner after) o in (
      (
        holds_of_fewer F inner (UsedBehind a hi after o) o₁ (behind_again a (pred lo) hi inner after o) c.0.1,
        (
          (
            (λ q s. c.0.0 q (first_grows inner (UsedBehind a (pred hi) after o) (UsedBehind a hi after o) (behind_less a hi after o) q s)),
            holds_of_fewer F inner (UsedBehind a hi after o) (UsedBehind a (pred hi) after o) (behind_less a hi after o) c.0.1,
            c.0.2,
          ),
          c.1,
        ),
      ),
      (λ q s. subst (λ (x : ℕ). F x q) (sym e) (c.0.0 q (first_grows inner o₁ (UsedBehind a hi after o) (behind_again a (pred lo) hi inner after o) q s))),
    )
step_holds F (skip_row e s) c = step_holds F s (c.0.2, c.1)
step_holds F (leave_list s) c = step_holds F s c.1

run_holds : (F : ℕ → ℕ → Type 0) (u : List ℕ) (p q : ℕ) (v : List ℕ) {S X : State} → StateHoldsOfFollowers F S → Run S (u ++ (p ∷ q ∷ v)) X → F p q
run_holds F [] p q v c r =
    let s = run_cons r in
    let t = run_cons s.2 in
    (step_holds F s.1 c).1 q (step_first t.1)
run_holds F (x ∷ u) p q v c r =
    let s = run_cons r in
    run_holds F u p q v (step_holds F s.1 c).0 s.2

-- the rows that may be used first, as a list
abbrev pub first_rows : Rows → List ℕ → List ℕ
first_rows end outside = outside
first_rows (row a lo hi inner after) outside = a ∷ cond (eqb lo 0) (first_rows after outside) []

abbrev pub rows_behind : ℕ → ℕ → Rows → List ℕ → List ℕ
rows_behind a hi after outside = cond (leb 2 hi) (a ∷ first_rows after outside) (first_rows after outside)

-- the rows that may directly follow row p
abbrev pub followers_of : Rows → List ℕ → ℕ → List ℕ
followers_of end outside p = []
followers_of (row a lo hi inner after) outside p = cond (eqb p a) (first_rows inner (rows_behind a hi after outside)) [] ++ (followers_of inner (rows_behind a hi after outside) p ++ followers_of after outside p)

one_of_left : (xs ys : List ℕ) (q : ℕ) → OneOf xs q → OneOf (xs ++ ys) q
one_of_left [] ys q m = elim m [ ]
one_of_left (x ∷ xs) ys q (inl e) = inl e
one_of_left (x ∷ xs) ys q (inr m) = inr (one_of_left xs ys q m)

one_of_right : (xs ys : List ℕ) (q : ℕ) → OneOf ys q → OneOf (xs ++ ys) q
one_of_right [] ys q m = m
one_of_right (x ∷ xs) ys q m = inr (one_of_right xs ys q m)

one_of_cond : (test : Bool) (xs : List ℕ) (q : ℕ) → test ≡ true → OneOf xs q → OneOf (cond test xs []) q
one_of_cond test xs q t m = subst (λ (ys : List ℕ). OneOf ys q) (sym (cond-true test xs [] t)) m

-- a list with one more in front, by a test
one_of_more : (test : Bool) (a : ℕ) (xs : List ℕ) (q : ℕ) → ((test ≡ true) × (q ≡ a)) ⊎ OneOf xs q → OneOf (cond test (a ∷ xs) xs) q
one_of_more true a xs q (inl e) = inl e.1
one_of_more true a xs q (inr m) = inr m
one_of_more false a xs q (inl e) = absurd (false≢true e.0)
one_of_more false a xs q (inr m) = m

first_listed : (rows : Rows) (o : ℕ → Type 0) (out : List ℕ) → ((q : ℕ) → o q → OneOf out q) → (q : ℕ) → UsedFirst rows o q → OneOf (first_rows rows out) q
first_listed end o out f q s = f q s
first_listed (row a lo hi inner after) o out f q (inl e) = inl e.0
first_listed (row a lo hi inner after) o out f q (inr s) = inr (one_of_cond (eqb lo 0) (first_rows after out) q (eq-eqb lo 0 s.0) (first_listed after o out f q s.1))

behind_listed : (a hi : ℕ) (after : Rows) (o : ℕ → Type 0) (out : List ℕ) → ((q : ℕ) → o q → OneOf out q) → (q : ℕ) → UsedBehind a hi after o q → OneOf (rows_behind a hi after out) q
behind_listed a hi after o out f q (inl e) = one_of_more (leb 2 hi) a (first_rows after out) q (inl (le-leb 2 hi e.1, e.0))
behind_listed a hi after o out f q (inr s) = one_of_more (leb 2 hi) a (first_rows after out) q (inr (first_listed after o out f q s))

followers_listed : (F : ℕ → ℕ → Type 0) (rows : Rows) (o : ℕ → Type 0) (out : List ℕ) → ((q : ℕ) → o q → OneOf out q) → ((p q : ℕ) → OneOf (followers_of rows out p) q → F p q) → HoldsOfFollowers F rows o
followers_listed F end o out f g = tt
followers_listed F (row a lo hi inner after) o out f g =
    let behind : List ℕ = rows_behind a hi after out in
    let here : ℕ → List ℕ = λ p. cond (eqb p a) (first_rows inner behind) [] in (
      (λ q s. g a q (one_of_left (here a) (followers_of inner behind a ++ followers_of after out a) q (one_of_cond (eqb a a) (first_rows inner behind) q (eq-eqb a a refl) (first_listed inner (UsedBehind a hi after o) behind (behind_listed a hi after o out f) q s)))),
      followers_listed F inner (UsedBehind a hi after o) behind (behind_listed a hi after o out f) (λ p q m. g p q (one_of_right (here p) (followers_of inner behind p ++ followers_of after out p) q (one_of_left (followers_of inner behind p) (followers_of after out p) q m))),
      followers_listed F after o out f (λ p q m. g p q (one_of_right (here p) (followers_of inner behind p ++ followers_of after out p) q (one_of_right (followers_of inner behind p) (followers_of after out p) q m))),
    )

-- what directly follows a row is in its list
pub followers_complete : (rows : Rows) (p q : ℕ) → Follows rows p q → OneOf (followers_of rows [] p) q
followers_complete rows p q (u, v, a) = run_holds (λ p q. OneOf (followers_of rows [] p) q) u p q v (followers_listed (λ p q. OneOf (followers_of rows [] p) q) rows (λ q. ⊥) [] (λ q x. x) (λ p q m. m), tt) a.1

-- every two rows of two lists are the same, or A says that they are disjoint
abbrev pub disjoint_from_each : (ℕ → ℕ → Bool) → ℕ → List ℕ → Bool
disjoint_from_each A q [] = true
disjoint_from_each A q (r ∷ rs) = (eqb q r || A q r) && disjoint_from_each A q rs

abbrev pub each_disjoint : (ℕ → ℕ → Bool) → List ℕ → List ℕ → Bool
each_disjoint A [] rs = true
each_disjoint A (q ∷ qs) rs = disjoint_from_each A q rs && each_disjoint A qs rs

from_each_sound : (A : ℕ → ℕ → Bool) (q : ℕ) (rs : List ℕ) → disjoint_from_each A q rs ≡ true → (r : ℕ) → OneOf rs r → (q ≡ r) ⊎ (A q r ≡ true)
from_each_sound A q [] t r m = elim m [ ]
from_each_sound A q (x ∷ xs) t r (inl e) =
    let P : ℕ → Type 0 = λ z. (q ≡ z) ⊎ (A q z ≡ true) in
    let u : P x = elim (or_cases (eqb q x) (A q x) (and_parts (eqb q x || A q x) (disjoint_from_each A q xs) t).0) [ inl h ↦ inl (eqb-true q x h) | inr h ↦ inr h ] in
    subst P (sym e) u
from_each_sound A q (x ∷ xs) t r (inr m) = from_each_sound A q xs (and_parts (eqb q x || A q x) (disjoint_from_each A q xs) t).1 r m

each_sound : (A : ℕ → ℕ → Bool) (qs rs : List ℕ) → each_disjoint A qs rs ≡ true → (q r : ℕ) → OneOf qs q → OneOf rs r → (q ≡ r) ⊎ (A q r ≡ true)
each_sound A [] rs t q r m n = elim m [ ]
each_sound A (x ∷ xs) rs t q r (inl e) n = subst (λ (z : ℕ). (z ≡ r) ⊎ (A z r ≡ true)) (sym e) (from_each_sound A x rs (and_parts (disjoint_from_each A x rs) (each_disjoint A xs rs) t).0 r n)
each_sound A (x ∷ xs) rs t q r (inr m) n = each_sound A xs rs (and_parts (disjoint_from_each A x rs) (each_disjoint A xs rs) t).1 q r m n

-- so for each row of the tree
abbrev pub disjoint_after_each : (ℕ → ℕ → Bool) → (ℕ → List ℕ) → Rows → Bool
disjoint_after_each A followers end = true
disjoint_after_each A followers (row a lo hi inner after) = each_disjoint A (followers a) (followers a) && (disjoint_after_each A followers inner && disjoint_after_each A followers after)

after_each_sound : (A : ℕ → ℕ → Bool) (followers : ℕ → List ℕ) (rows : Rows) → disjoint_after_each A followers rows ≡ true → (p : ℕ) → HasRow rows p → each_disjoint A (followers p) (followers p) ≡ true
after_each_sound A followers end t p i = elim i [ ]
after_each_sound A followers (row a lo hi inner after) t p (inl e) = subst (λ (r : ℕ). each_disjoint A (followers r) (followers r) ≡ true) (sym e) (and_parts (each_disjoint A (followers a) (followers a)) (disjoint_after_each A followers inner && disjoint_after_each A followers after) t).0
after_each_sound A followers (row a lo hi inner after) t p (inr i) =
    let h = and_parts (each_disjoint A (followers a) (followers a)) (disjoint_after_each A followers inner && disjoint_after_each A followers after) t in
    let k = and_parts (disjoint_after_each A followers inner) (disjoint_after_each A followers after) h.1 in
    elim i [ inl j ↦ after_each_sound A followers inner k.0 p j | inr j ↦ after_each_sound A followers after k.1 p j ]

-- the test
abbrev pub followers_test : (ℕ → Label) → Rows → Bool
followers_test label rows = disjoint_after_each (λ q r. labels_disjoint (label q) (label r)) (followers_of rows []) rows

pub followers_test_sound : (label : ℕ → Label) (rows : Rows) → followers_test label rows ≡ true → FollowersDisjoint label rows
followers_test_sound label rows t p q r f g n mark x y =
    let f' = may_follow_follows label rows p q f in
    let g' = may_follow_follows label rows p r g in
    let A : ℕ → ℕ → Bool = λ q r. labels_disjoint (label q) (label r) in
    let e = after_each_sound A (followers_of rows []) rows t p (follows_has rows p q f').0 in
    elim (each_sound A (followers_of rows [] p) (followers_of rows [] p) e q r (followers_complete rows p q f') (followers_complete rows p r g'))
    [ inl h ↦ n h | inr h ↦ labels_disjoint_sound (label q) (label r) h mark x y ]
