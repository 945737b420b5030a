-- Two meanings break the law.
use Rattle.std.proofs.Common.{ℕ, pred, ◌≤◌, ◌≢◌, [], ◌∷◌, codes, refl, inl, inr, arith, lit≤}
use Rattle.grammar.specs.Tree.{Rows, end, row}
use Rattle.grammar.specs.Marks.{Mark}
use Rattle.grammar.proofs.States.{State, Step, take_row, skip_row, leave_list, stay, move, Follows}
use Rattle.grammar.proofs.Followers.{follows_may_follow}
use Rattle.guide.specs.Asked.{rows_of, label_of}
use Rattle.guide.specs.Law.{Lawful}
use Rattle.guides.specs.Unlawful.{two_pid, whole_po102}

-- after a row that opens no loop and need not be used again, the row behind it
next : {a hi b lo most : ℕ} {own inner after : Rows} {outer : State}
    → 1 ≤ most
    → Step (end ∷ row a 0 hi own (row b lo most inner after) ∷ outer) b (inner ∷ row b (pred lo) (pred most) inner after ∷ outer)
next h = leave_list (skip_row refl (take_row refl h))

-- row 8 directly after row 7: the rows 1 to 8, 10, 12 and 13, each once
eight_after_seven : Follows (rows_of two_pid) 7 8
eight_after_seven = (
  1 ∷ 2 ∷ 3 ∷ 4 ∷ 5 ∷ 6 ∷ [],
  10 ∷ 12 ∷ 13 ∷ [],
  (
    _,
    move (take_row refl (lit≤ tt))
        (move (next (lit≤ tt))
        (move (next (lit≤ tt))
        (move (next (lit≤ tt))
        (move (next (lit≤ tt))
        (move (next (lit≤ tt))
        (move (next (lit≤ tt))
        (move (take_row refl (lit≤ tt))
        (move (leave_list (skip_row refl (skip_row refl (take_row refl (lit≤ tt)))))
        (move (skip_row refl (leave_list (skip_row refl (leave_list (skip_row refl (take_row refl (lit≤ tt)))))))
        (move (next (lit≤ tt))
        stay)))))))))),
    (tt, ((refl, tt), tt)),
  ),
)

-- row 9 directly after row 7: the rows 1 to 7, 9, 10, 12 and 13, each once
nine_after_seven : Follows (rows_of two_pid) 7 9
nine_after_seven = (
  1 ∷ 2 ∷ 3 ∷ 4 ∷ 5 ∷ 6 ∷ [],
  10 ∷ 12 ∷ 13 ∷ [],
  (
    _,
    move (take_row refl (lit≤ tt))
        (move (next (lit≤ tt))
        (move (next (lit≤ tt))
        (move (next (lit≤ tt))
        (move (next (lit≤ tt))
        (move (next (lit≤ tt))
        (move (next (lit≤ tt))
        (move (skip_row refl (take_row refl (lit≤ tt)))
        (move (next (lit≤ tt))
        (move (skip_row refl (leave_list (skip_row refl (leave_list (skip_row refl (take_row refl (lit≤ tt)))))))
        (move (next (lit≤ tt))
        stay)))))))))),
    (tt, ((refl, tt), tt)),
  ),
)

-- both may directly follow row 7, and both match a PID
pub two_pid_breaks : Lawful two_pid → ⊥
two_pid_breaks l =
    let other : ◌≢◌ {A = ℕ} 8 9 = omega arith in
    let pid : Mark = record { name = codes "PID"; first = [] } in
    l.followers 7 8 9
    (follows_may_follow (label_of two_pid) (rows_of two_pid) 7 8 eight_after_seven)
    (follows_may_follow (label_of two_pid) (rows_of two_pid) 7 9 nine_after_seven)
    other
    pid
    (refl, tt)
    (refl, tt)

-- PO102 is the sixth of the known elements, and has another type
pub whole_po102_breaks : Lawful whole_po102 → ⊥
whole_po102_breaks l =
    let kept = l.elements _ (inr (inr (inr (inr (inr (inl refl)))))) 7 _ refl refl in
    let rule = kept.1 in
    let form = kept.3.0 in
    absurd (grind arith)
