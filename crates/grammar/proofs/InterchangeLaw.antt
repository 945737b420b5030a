-- Every derivation of a set stands in one of an interchange, so a law of followers over interchanges is one over sets.
use Rattle.std.proofs.Common.{◌≡◌, ℕ, ◌≤◌, List, [], ◌∷◌, ◌++◌, sym, refl, subst, inl, inr, append_assoc, arith, lit≤}
use Rattle.grammar.specs.Tree.{Rows, end, row, count, NumberedFrom, after_first}
use Rattle.grammar.specs.Marks.{Mark, Label, Matches}
use Rattle.grammar.specs.Derivations.{MayFollow}
use Rattle.grammar.specs.Interchange.{group_rows, interchange, with_envelope}
use Rattle.grammar.specs.Law.{FollowersDisjoint}
use Rattle.grammar.proofs.States.{State, Step, take_row, skip_row, leave_list, step_row, step_end, Run, stay, move, run_append, run_cons, StateMayEnd, Accepts, Follows, follows_has}
use Rattle.grammar.proofs.UpperState.{upper_step, lower_step}
use Rattle.grammar.proofs.Envelope.{interchange_rows, around_set}
use Rattle.grammar.proofs.Followers.{may_follow_follows, follows_may_follow}
use Rattle.grammar.proofs.Numbering.{numbered_within}
use Rattle.grammar.proofs.LawfulSets.{label_of_set}

upper_run : {S X : State} {w : List ℕ} (O : State) → Run S w X → Run (S ++ O) w (X ++ O)
upper_run O stay = stay
upper_run O (move s r) = move (upper_step O s) (upper_run O r)

module _ (others : Rows) where
  -- what a set accepts is ST and then what the other rows accept
  behind_st : {X : State} {w : List ℕ} → Run (end ∷ row 1 0 0 end others ∷ []) w X → StateMayEnd X → Accepts (others ∷ []) w
  behind_st stay e = (others ∷ [], stay, (e.1.0.1, tt))
  behind_st {X = X} (move s r) e = elim (step_row (step_end s)) [ inl t ↦ absurd (none_left t.1) | inr t ↦ (X, move t.1 r, e) ]
    where
      none_left : 1 ≤ 0 → ⊥
      none_left h = omega arith

  begins_with_st : {q : ℕ} {X : State} → Step (row 1 1 1 end others ∷ []) q X → (q ≡ 1) × (X ≡ end ∷ row 1 0 0 end others ∷ [])
  begins_with_st (take_row e h) = (e, refl)
  begins_with_st (skip_row e s) = absurd (omega arith)

  -- so ISA, GS, such a set, GE and IEA are an interchange
  pub set_in_interchange : (w : List ℕ) → Accepts (row 1 1 1 end others ∷ []) w → Accepts (row 65 1 1 end (interchange_rows others) ∷ []) (65 ∷ 66 ∷ (w ++ (67 ∷ 68 ∷ [])))
  set_in_interchange [] (X, stay, e) = absurd (must_be_used e.0.0)
    where
      must_be_used : ◌≡◌ {A = ℕ} 1 0 → ⊥
      must_be_used z = omega arith
  set_in_interchange (q ∷ w) (X, r, e) =
      let c = run_cons r in
      let b = begins_with_st c.1 in
      let (Y, run, f) = behind_st (subst (λ (Z : State). Run Z w X) b.1 c.2) e in
      let O : State = around_set 0 255 0 98 others in
      let G : State = end ∷ row 67 0 0 end end ∷ row 66 0 98 (group_rows others) (row 68 1 1 end end) ∷ [] in (
        end ∷ row 68 0 0 end end ∷ [],
        move (take_row refl (lit≤ tt))
            (move (leave_list (skip_row refl (take_row refl (lit≤ tt))))
            (move (take_row b.0 (lit≤ tt))
            (run_append (upper_run O run)
            (move (lower_step Y O 67 G f (skip_row refl (take_row refl (lit≤ tt))))
            (move (leave_list (skip_row refl (leave_list (skip_row refl (take_row refl (lit≤ tt)))))) stay))))),
        (tt, ((refl, tt), tt)),
      )

  pub follows_in_interchange : (p q : ℕ) → Follows (row 1 1 1 end others) p q → Follows (row 65 1 1 end (interchange_rows others)) p q
  follows_in_interchange p q (u, v, a) = (
    65 ∷ 66 ∷ u,
    v ++ (67 ∷ 68 ∷ []),
    subst (λ (w : List ℕ). Accepts (row 65 1 1 end (interchange_rows others) ∷ []) (65 ∷ 66 ∷ w)) (append_assoc u (p ∷ q ∷ v) (67 ∷ 68 ∷ [])) (set_in_interchange (u ++ (p ∷ q ∷ v)) a),
  )

module _ (label : ℕ → Label) (set : Rows) (numbered : NumberedFrom 1 set) (few : count set ≤ 64) (first : set ≡ row 1 1 1 end (after_first set)) where
  pub may_follow_in_interchange : (p q : ℕ) → MayFollow label set p q → MayFollow (with_envelope label) (interchange set) p q
  may_follow_in_interchange p q f =
      follows_may_follow (with_envelope label) (interchange set) p q (follows_in_interchange (after_first set) p q (subst (λ (x : Rows). Follows x p q) first (may_follow_follows label set p q f)))

  envelope_match : (p q : ℕ) → MayFollow label set p q → (mark : Mark) → Matches (label q) mark → Matches (with_envelope label q) mark
  envelope_match p q f mark r =
      let b = numbered_within set 1 numbered q (follows_has set p q (may_follow_follows label set p q f)).1 in
      subst (λ (x : Label). Matches x mark) (sym (label_of_set label q (omega (arith, b.1)))) r

  pub law_of_sets : FollowersDisjoint (with_envelope label) (interchange set) → FollowersDisjoint label set
  law_of_sets law p q r f g n mark x y = law p q r (may_follow_in_interchange p q f) (may_follow_in_interchange p r g) n mark (envelope_match p q f mark x) (envelope_match p r g mark y)
