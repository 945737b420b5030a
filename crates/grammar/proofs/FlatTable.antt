-- The tree as a flat table of its rows in order with their depths, and how a place in the table stands for a state.
use Rattle.std.proofs.Common.{◌≡◌, ℕ, zero, suc, pred, ◌+◌, ◌-◌, ◌<◌, ◌≤◌, cond, ltb, List, [], ◌∷◌, ◌++◌, length, drop, sym, refl, ap, ◌∙◌, subst, append_assoc, append-nil, arith}
use mathlib.Core.List.{tail}
use Rattle.std.proofs.lemmas.Bool.{cond-true, cond-false, lt-ltb, le-ltb}
use Rattle.grammar.specs.Tree.{Rows, end, row, count, NumberedFrom}
use Rattle.grammar.proofs.States.{State}

-- A row of the table: its number, how many rows it stands in, its least and its greatest use.
pub record TableRow : Type 0 where
  pub number : ℕ
  pub depth : ℕ
  pub least : ℕ
  pub greatest : ℕ

-- the table of rows that stand at this depth: a row, its inner rows, and the rows after it
abbrev pub flatten : ℕ → Rows → List TableRow
flatten d end = []
flatten d (row a lo hi inner after) = record { number = a; depth = d; least = lo; greatest = hi } ∷ (flatten (suc d) inner ++ flatten d after)

-- what the table has behind the rows in use of a state's outer lists; and from the beginning of the innermost list on
abbrev pub behind_used : State → List TableRow
behind_used [] = []
behind_used (end ∷ outer) = behind_used outer
behind_used (row a lo hi inner after ∷ outer) = flatten (length outer) after ++ behind_used outer

abbrev pub from_innermost : State → List TableRow
from_innermost [] = []
from_innermost (rows ∷ outer) = flatten (length outer) rows ++ behind_used outer

-- Each outer list begins with a row in use, and behind the place of that row the table goes on as the tree does.
-- The place of a row is its number less one, so that the place behind it is its number.
abbrev pub RowsInUse : List TableRow → State → Type 0
RowsInUse table [] = Unit {0}
RowsInUse table (end ∷ outer) = ⊥
RowsInUse table (row a lo hi inner after ∷ outer) = (drop a table ≡ flatten (suc (length outer)) inner ++ (flatten (length outer) after ++ behind_used outer)) × RowsInUse table outer

-- the innermost list begins at the place i of the table
abbrev pub PlacedAt : List TableRow → ℕ → State → Type 0
PlacedAt table i [] = ⊥
PlacedAt table i (rows ∷ outer) = (drop i table ≡ from_innermost (rows ∷ outer)) × RowsInUse table outer

drop_tail : (i : ℕ) (xs : List TableRow) → drop (suc i) xs ≡ tail (drop i xs)
drop_tail zero [] = refl
drop_tail zero (x ∷ xs) = refl
drop_tail (suc i) [] = refl
drop_tail (suc i) (x ∷ xs) = drop_tail i xs

drop_behind : (xs : List TableRow) (i : ℕ) (x : TableRow) (r : List TableRow) → drop i xs ≡ x ∷ r → drop (suc i) xs ≡ r
drop_behind xs i x r e = drop_tail i xs ∙ ap tail e

-- the rows of the table are numbered in order from n
abbrev pub TableNumbered : ℕ → List TableRow → Type 0
TableNumbered n [] = Unit {0}
TableNumbered n (x ∷ xs) = (x.number ≡ n) × TableNumbered (suc n) xs

pub flatten_numbered : (n d : ℕ) (rows : Rows) (xs : List TableRow) → NumberedFrom n rows → TableNumbered (n + count rows) xs → TableNumbered n (flatten d rows ++ xs)
flatten_numbered n d end xs h c = subst (λ (k : ℕ). TableNumbered k xs) (omega arith) c
flatten_numbered n d (row a lo hi inner after) xs h c = (
  h.0,
  subst (TableNumbered (suc n)) (sym (append_assoc (flatten (suc d) inner) (flatten d after) xs))
      (flatten_numbered (suc n) (suc d) inner (flatten d after ++ xs) h.1
      (flatten_numbered (suc n + count inner) d after xs h.2 (subst (λ (k : ℕ). TableNumbered k xs) (omega arith) c))),
)

drop_numbered : (i n : ℕ) (xs : List TableRow) → TableNumbered n xs → TableNumbered (n + i) (drop i xs)
drop_numbered zero n xs c = subst (λ (k : ℕ). TableNumbered k xs) (omega arith) c
drop_numbered (suc i) n [] c = tt
drop_numbered (suc i) n (x ∷ xs) c = subst (λ (k : ℕ). TableNumbered k (drop i xs)) (omega arith) (drop_numbered i (suc n) xs c.1)

-- so the row at the place i has the number i + 1
pub placed_number : (table : List TableRow) → TableNumbered 1 table → (i a lo hi : ℕ) (inner after : Rows) (outer : State) → PlacedAt table i (row a lo hi inner after ∷ outer) → a ≡ suc i
placed_number table c i a lo hi inner after outer p =
    let e : a ≡ 1 + i = (subst (TableNumbered (1 + i)) p.0 (drop_numbered i 1 table c)).0 in
    omega arith

-- what the table has behind the first row of the innermost list
placed_behind : (table : List TableRow) (i a lo hi : ℕ) (inner after : Rows) (outer : State) → PlacedAt table i (row a lo hi inner after ∷ outer) → drop (suc i) table ≡ flatten (suc (length outer)) inner ++ (flatten (length outer) after ++ behind_used outer)
placed_behind table i a lo hi inner after outer p =
    drop_behind table i (record { number = a; depth = length outer; least = lo; greatest = hi }) (flatten (suc (length outer)) inner ++ flatten (length outer) after ++ behind_used outer) p.0
    ∙ append_assoc (flatten (suc (length outer)) inner) (flatten (length outer) after) (behind_used outer)

-- the row at the place is taken
pub placed_take : (table : List TableRow) (i a lo hi lo' hi' : ℕ) (inner after : Rows) (outer : State) → a ≡ suc i → PlacedAt table i (row a lo hi inner after ∷ outer) → PlacedAt table a (inner ∷ row a lo' hi' inner after ∷ outer)
placed_take table i a lo hi lo' hi' inner after outer e p =
    let f : drop a table ≡ flatten (suc (length outer)) inner ++ (flatten (length outer) after ++ behind_used outer) = ap (λ (z : ℕ). drop z table) e ∙ placed_behind table i a lo hi inner after outer p in
    (f, (f, p.1))

-- the innermost row in use is taken again
pub placed_again : (table : List TableRow) (i a lo hi lo' hi' : ℕ) (inner after : Rows) (outer : State) → PlacedAt table i (end ∷ row a lo hi inner after ∷ outer) → PlacedAt table a (inner ∷ row a lo' hi' inner after ∷ outer)
placed_again table i a lo hi lo' hi' inner after outer p = (p.1.0, p.1)

-- a finished list is left: the place stays
pub placed_leave : (table : List TableRow) (i a lo hi : ℕ) (inner after : Rows) (outer : State) → PlacedAt table i (end ∷ row a lo hi inner after ∷ outer) → PlacedAt table i (after ∷ outer)
placed_leave table i a lo hi inner after outer p = (p.0, p.1.1)

-- the table from its first row on that is no deeper than d
abbrev pub skip_deeper : ℕ → List TableRow → List TableRow
skip_deeper d [] = []
skip_deeper d (x ∷ xs) = cond (ltb d x.depth) (skip_deeper d xs) (x ∷ xs)

-- the first row of the table is no deeper than d
abbrev pub FirstNotDeeper : ℕ → List TableRow → Type 0
FirstNotDeeper d [] = Unit {0}
FirstNotDeeper d (x ∷ xs) = x.depth ≤ d

pub skip_none : (d : ℕ) (xs : List TableRow) → FirstNotDeeper d xs → skip_deeper d xs ≡ xs
skip_none d [] h = refl
skip_none d (x ∷ xs) h = cond-false (ltb d x.depth) (skip_deeper d xs) (x ∷ xs) (le-ltb d x.depth h)

pub skip_one : (d : ℕ) (x : TableRow) (xs : List TableRow) → d < x.depth → skip_deeper d (x ∷ xs) ≡ skip_deeper d xs
skip_one d x xs h = cond-true (ltb d x.depth) (skip_deeper d xs) (x ∷ xs) (lt-ltb d x.depth h)

pub skip_flatten : (d e : ℕ) (rows : Rows) (xs : List TableRow) → d < e → skip_deeper d (flatten e rows ++ xs) ≡ skip_deeper d xs
skip_flatten d e end xs h = refl
skip_flatten d e (row a lo hi inner after) xs h =
    skip_one d (record { number = a; depth = e; least = lo; greatest = hi }) (flatten (suc e) inner ++ flatten e after ++ xs) h
    ∙ (ap (skip_deeper d) (append_assoc (flatten (suc e) inner) (flatten e after) xs)
    ∙ (skip_flatten d (suc e) inner (flatten e after ++ xs) (omega arith) ∙ skip_flatten d e after xs h))

pub not_deeper_more : (d e : ℕ) (xs : List TableRow) → d ≤ e → FirstNotDeeper d xs → FirstNotDeeper e xs
not_deeper_more d e [] h s = tt
not_deeper_more d e (x ∷ xs) h s = omega arith

pub flatten_not_deeper : (d : ℕ) (rows : Rows) (xs : List TableRow) → FirstNotDeeper d xs → FirstNotDeeper d (flatten d rows ++ xs)
flatten_not_deeper d end xs s = s
flatten_not_deeper d (row a lo hi inner after) xs s = omega arith

-- behind the rows in use every row is less deep than the innermost list
pub behind_not_deeper : (outer : State) (k : ℕ) → length outer ≤ suc k → FirstNotDeeper k (behind_used outer)
behind_not_deeper [] k h = tt
behind_not_deeper (end ∷ outer) k h = behind_not_deeper outer k (omega arith)
behind_not_deeper (row a lo hi inner after ∷ outer) k h = not_deeper_more (length outer) k (flatten (length outer) after ++ behind_used outer) (omega arith) (flatten_not_deeper (length outer) after (behind_used outer) (behind_not_deeper outer (length outer) (omega arith)))

-- the row at the place is skipped: the place moves behind what is deeper
pub placed_skip : (table : List TableRow) (i j a lo hi : ℕ) (inner after : Rows) (outer : State) → PlacedAt table i (row a lo hi inner after ∷ outer) → drop j table ≡ skip_deeper (length outer) (drop (suc i) table) → PlacedAt table j (after ∷ outer)
placed_skip table i j a lo hi inner after outer p e =
    let d : ℕ = length outer in (
      e ∙ (ap (skip_deeper d) (placed_behind table i a lo hi inner after outer p)
          ∙ (skip_flatten d (suc d) inner (flatten d after ++ behind_used outer) (omega arith) ∙ skip_none d (flatten d after ++ behind_used outer) (flatten_not_deeper d after (behind_used outer) (behind_not_deeper outer d (omega arith))))),
      p.1,
    )

-- where the innermost list is finished, the row at the place is less deep than it
pub placed_end : (table : List TableRow) (i : ℕ) (list : Rows) (outer : State) → PlacedAt table i (end ∷ list ∷ outer) → FirstNotDeeper (length outer) (drop i table)
placed_end table i list outer p = subst (FirstNotDeeper (length outer)) (sym p.0) (behind_not_deeper (list ∷ outer) (length outer) (omega arith))

-- at the start the tree is at the place 0
pub placed_start : (rows : Rows) → PlacedAt (flatten 0 rows) 0 (rows ∷ [])
placed_start rows = (sym (append-nil (flatten 0 rows)), tt)

-- A row in use, and how often it was used.
pub record UsedRow : Type 0 where
  pub row : ℕ
  pub count : ℕ

-- the rows in use of a state, innermost first: what each must and may still be used is its least and greatest use less its count
abbrev pub Counted : (ℕ → ℕ) → (ℕ → ℕ) → State → List UsedRow → Type 0
Counted least greatest [] [] = Unit {0}
Counted least greatest [] (c ∷ cs) = ⊥
Counted least greatest (end ∷ outer) cs = ⊥
Counted least greatest (row a lo hi inner after ∷ outer) [] = ⊥
Counted least greatest (row a lo hi inner after ∷ outer) (c ∷ cs) = (c.row ≡ a) × (lo ≡ least a - c.count) × (hi ≡ greatest a - c.count) × Counted least greatest outer cs

pub counted_length : (least greatest : ℕ → ℕ) (outer : State) (cs : List UsedRow) → Counted least greatest outer cs → length outer ≡ length cs
counted_length least greatest [] [] c = refl
counted_length least greatest [] (x ∷ cs) c = elim c [ ]
counted_length least greatest (end ∷ outer) cs c = elim c [ ]
counted_length least greatest (row a lo hi inner after ∷ outer) [] c = elim c [ ]
counted_length least greatest (row a lo hi inner after ∷ outer) (x ∷ cs) c = ap suc (counted_length least greatest outer cs c.3)

pub counted_first : (least greatest : ℕ → ℕ) (a lo hi : ℕ) (inner after : Rows) (outer : State) (cs : List UsedRow) → lo ≡ least a → hi ≡ greatest a → Counted least greatest outer cs → Counted least greatest (row a (pred lo) (pred hi) inner after ∷ outer) (record { row = a; count = 1 } ∷ cs)
counted_first least greatest a lo hi inner after outer cs e f c = (refl, omega arith, omega arith, c)

pub counted_again : (least greatest : ℕ → ℕ) (a lo hi n : ℕ) (inner after : Rows) (outer : State) (cs : List UsedRow) → Counted least greatest (row a lo hi inner after ∷ outer) (record { row = a; count = n } ∷ cs) → Counted least greatest (row a (pred lo) (pred hi) inner after ∷ outer) (record { row = a; count = n + 1 } ∷ cs)
counted_again least greatest a lo hi n inner after outer cs c =
    let e : lo ≡ least a - n = c.1 in
    let f : hi ≡ greatest a - n = c.2 in
    (refl, omega arith, omega arith, c.3)
