-- The tests by what the code keeps of a rule are the tests of the rule, and past the limit of a row there is no rule.
use Rattle.std.proofs.Common.{◌≡◌, ℕ, ◌<◌, ◌≤◌, Bool, true, false, cond, not, ◌&&◌, ◌||◌, eqb, List, [], ◌∷◌, Some, None, Ok, Err, Option, Result, sym, refl, ap, ◌∙◌, arith}
use Rattle.x12.specs.declared.faults.Fault.{Fault}
use Rattle.x12.specs.Lists.{filled}
use Rattle.x12.specs.Segments.{Segment}
use Rattle.x12.specs.Elements.{element_of_segment}
use Rattle.x12.specs.Causes.{fault}
use Rattle.guide.specs.Meaning.{ElementRule, Meaning}
use Rattle.guide.specs.Asked.{over, test, admits}
use Rattle.elements.specs.Rules.{rule_at, limit_at, asks_for}
use Rattle.elements.specs.Tests.{lacks, exceeds, is_wrong_length, is_wrong_type, is_wrong_code, is_wrong, is_in_wrong_pair, element_tests}
use Rattle.elements.specs.Checks.{Answers, first_of, element_check}
use Rattle.elements.specs.Limits.{limits_in, lacks_by, exceeds_by, wrong_length_by, wrong_type_by, wrong_code_by, tests_with}
use Rattle.elements.proofs.Bounds.{rule_within}
use Rattle.elements.proofs.Pairs.{none_past}

-- the tests by the rule itself, and by what is kept of it
abbrev rule_tests : Option ElementRule → Bool → Bool → List ℕ → List (Bool × ℕ)
rule_tests o pair asked v =
    (lacks o v, 8) ∷ (exceeds o v, 9) ∷ (is_wrong_length o v, 10) ∷ (is_wrong_type o v, 11) ∷ (is_wrong_code o v || pair, 12) ∷ (not (filled v) && asked, 13) ∷ []

abbrev kept_tests : Option ElementRule → Bool → Bool → List ℕ → List (Bool × ℕ)
kept_tests o pair asked v =
    (lacks_by (over limits_in o) v, 8)
    ∷ (exceeds_by (over limits_in o) v, 9)
    ∷ (wrong_length_by (over limits_in o) v, 10)
    ∷ (wrong_type_by (over limits_in o) v, 11)
    ∷ (wrong_code_by (over limits_in o) (test (λ x. admits x.codes v) o) v || pair, 12)
    ∷ (not (filled v) && asked, 13)
    ∷ []

same_tests : (o : Option ElementRule) (pair asked : Bool) (v : List ℕ) → kept_tests o pair asked v ≡ rule_tests o pair asked v
same_tests None pair asked v = refl
same_tests (Some r) pair asked v = refl

pub tests_by : (m : Meaning) (separator r : ℕ) (s : Segment) (e : ℕ) (v : List ℕ) → tests_with m separator r s e v ≡ element_tests m separator r s e v
tests_by m separator r s e v = same_tests (rule_at m r e) (is_in_wrong_pair m separator r s e v) (asks_for m separator r s e) v

-- past the limit there is no rule, and no pair rule asks
no_rule : (m : Meaning) (r e : ℕ) → limit_at m r < e → rule_at m r e ≡ None
no_rule m r e h = go (rule_at m r e) (λ x q. rule_within m r e x q)
  where
    go : (o : Option ElementRule) → ((x : ElementRule) → o ≡ Some x → e ≤ limit_at m r) → o ≡ None
    go None w = refl
    go (Some x) w = let l = w x refl in absurd (omega arith)

wrong_never : (a b c : Bool) → (a && ((b && false) && c)) ≡ false
wrong_never true true c = refl
wrong_never true false c = refl
wrong_never false b c = refl

free_checked : (k e place : ℕ) (v : List ℕ) (a b : Bool) (c : List ℕ → Bool) → first_of k e place (rule_tests None (a && ((b && filled v) && c v)) false v) ≡ cond (filled v) (Err (fault 9 k e place)) (Ok tt)
free_checked k e place [] a b c = ap (λ (t : Bool). cond t (Err (fault 12 k e place)) (Ok tt)) (wrong_never a b (c []))
free_checked k e place (x ∷ v) a b c = refl

pub past_limit : (m : Meaning) (separator k r : ℕ) (s : Segment) (e place : ℕ) (v : List ℕ) → limit_at m r < e
    → element_check m separator k r s e (place, v) ≡ cond (filled v) (Err (fault 9 k e place)) (Ok tt)
past_limit m separator k r s e place v h =
    (λ i. first_of k e place (rule_tests (no_rule m r e h i) (is_in_wrong_pair m separator r s e v) (none_past m separator r s e h i) v))
    ∙ free_checked k e place v (eqb e 2 && eqb r 2) (filled (element_of_segment separator s 1).1) (λ w. is_wrong (m.kind (element_of_segment separator s 1).1 w))

-- the same answer for an equal check
pub answers_same : {F : Type 0} (cause : F → Fault) (r : Result (Unit {0}) F) (a b : Result (Unit {0}) Fault) → a ≡ b → Answers cause r a → Answers cause r b
answers_same cause (Ok u) a b e h = sym e ∙ h
answers_same cause (Err f) a b e h = sym e ∙ h
