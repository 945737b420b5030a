-- What the code keeps of an element's rule, and the tests by that.
use Rattle.std.specs.Prelude.{ℕ, Bool, not, ◌&&◌, ◌||◌, List, [], ◌∷◌, Some, None, Option}
use Rattle.x12.specs.Lists.{filled}
use Rattle.x12.specs.Segments.{Segment}
use Rattle.value.specs.Types.{good_type, good_length}
use Rattle.guide.specs.declared.rules.Rule.{Rule}
use Rattle.guide.specs.Meaning.{ElementRule, Meaning}
use Rattle.guide.specs.Asked.{over, test, admits}
use Rattle.elements.specs.Rules.{rule_at, asks_for}
use Rattle.elements.specs.Tests.{is_must, is_unused, is_in_wrong_pair}

-- a rule without its codes
abbrev pub limits_in : ElementRule → Rule
limits_in r = r.rule

-- the rule of element e of row r without its codes
abbrev pub limits_at : Meaning → ℕ → ℕ → Option Rule
limits_at m r e = over limits_in (rule_at m r e)

-- the codes of element e of row r admit the value; where it has no rule they do not
abbrev pub admits_at : Meaning → ℕ → ℕ → List ℕ → Bool
admits_at m r e v = test (λ x. admits x.codes v) (rule_at m r e)

-- the tests of an element by its rule
abbrev pub lacks_by : Option Rule → List ℕ → Bool
lacks_by o v = test (λ l. is_must l.need && not (filled v)) o

abbrev pub exceeds_by : Option Rule → List ℕ → Bool
exceeds_by None v = filled v
exceeds_by (Some l) v = is_unused l.need && filled v

abbrev pub judges_by : Rule → List ℕ → Bool
judges_by l v = not (is_unused l.need) && filled v

abbrev pub wrong_length_by : Option Rule → List ℕ → Bool
wrong_length_by o v = test (λ l. judges_by l v && not (good_length l.form l.least l.greatest v)) o

abbrev pub wrong_type_by : Option Rule → List ℕ → Bool
wrong_type_by o v = test (λ l. judges_by l v && not (good_type l.form v)) o

abbrev pub wrong_code_by : Option Rule → Bool → List ℕ → Bool
wrong_code_by o admitted v = test (λ l. judges_by l v && not admitted) o

-- the tests of element e by what the code keeps of its rule
abbrev pub tests_with : Meaning → ℕ → ℕ → Segment → ℕ → List ℕ → List (Bool × ℕ)
tests_with m separator r s e v =
    (lacks_by (limits_at m r e) v, 8)
    ∷ (exceeds_by (limits_at m r e) v, 9)
    ∷ (wrong_length_by (limits_at m r e) v, 10)
    ∷ (wrong_type_by (limits_at m r e) v, 11)
    ∷ (wrong_code_by (limits_at m r e) (admits_at m r e v) v || is_in_wrong_pair m separator r s e v, 12)
    ∷ (not (filled v) && asks_for m separator r s e, 13)
    ∷ []
