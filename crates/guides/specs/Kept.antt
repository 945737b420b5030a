-- The guides keep the law, and the lengths of their rules are 32-bit numbers, by tests that are computed from a meaning.
use Rattle.std.specs.Prelude.{ℕ, refl, IfSome}
use Rattle.guide.specs.Asked.{rule_of, Short}
use Rattle.guide.specs.Law.{Lawful}
use Rattle.guide.proofs.LawTest.{lawful_by_test}
use Rattle.guide.proofs.Short.{short_by_test}
use Rattle.guides.specs.GuideB.{guide_b_meaning}
use Rattle.guides.specs.GuideM.{guide_m_meaning}
use Rattle.guides.specs.GuideOdd.{guide_odd_meaning}

-- Guide B is lawful.
pub guide_b_lawful : Lawful guide_b_meaning
guide_b_lawful = lawful_by_test guide_b_meaning refl

-- Guide M is lawful.
pub guide_m_lawful : Lawful guide_m_meaning
guide_m_lawful = lawful_by_test guide_m_meaning refl

-- The odd guide is lawful.
pub guide_odd_lawful : Lawful guide_odd_meaning
guide_odd_lawful = lawful_by_test guide_odd_meaning refl

-- The lengths of the rules of guide B are 32-bit numbers.
pub guide_b_short : (n e : ℕ) → IfSome (rule_of guide_b_meaning n e) Short
guide_b_short = short_by_test guide_b_meaning refl

-- The lengths of the rules of guide M are 32-bit numbers.
pub guide_m_short : (n e : ℕ) → IfSome (rule_of guide_m_meaning n e) Short
guide_m_short = short_by_test guide_m_meaning refl

-- The lengths of the rules of the odd guide are 32-bit numbers.
pub guide_odd_short : (n e : ℕ) → IfSome (rule_of guide_odd_meaning n e) Short
guide_odd_short = short_by_test guide_odd_meaning refl
