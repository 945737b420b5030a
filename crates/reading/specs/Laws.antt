-- Laws of the definitions, each named by the contract of a function of its own.
use Rattle.std.specs.Prelude.{◌≡◌, ℕ, ◌⊎◌, List}
use Rattle.x12.specs.declared.faults.Fault.{Fault}
use Rattle.x12.specs.Rank.{First}
use Rattle.guide.specs.Meaning.{Meaning}
use Rattle.guide.specs.Law.{Lawful}
use Rattle.verdict.specs.declared.verdicts.Verdict.{Verdict}
use Rattle.reading.specs.Met.{Met, Regular}
use Rattle.reading.specs.Promise.{Outnumbers, ReadingMet, VerdictOf}

-- under a lawful guide every interchange is regular, or it has a first fault and no second one
abbrev pub OneAnswer : Type 0
OneAnswer =
    (m : Meaning) → Lawful m → (I : List ℕ)
    → Regular m I ⊎ ((f : Fault) × First (Met m I) f × ((g : Fault) → First (Met m I) g → g ≡ f))

-- Under a lawful guide, and with any numbers of rows, every interchange is regular and the rows are enough, or the reading has a first fault and
-- no second one.
abbrev pub OneVerdict : Type 0
OneVerdict =
    (m : Meaning) → Lawful m → (I : List ℕ) (segment_rows loop_rows : ℕ)
    → (Regular m I × (Outnumbers m I segment_rows loop_rows → ⊥))
    ⊎ ((f : Fault) × First (ReadingMet m I segment_rows loop_rows) f × ((g : Fault) → First (ReadingMet m I segment_rows loop_rows) g → g ≡ f))

-- No reading has two verdicts, under whatever guide.
abbrev pub NoTwoVerdicts : Type 0
NoTwoVerdicts =
    (m : Meaning) (I : List ℕ) (segment_rows loop_rows : ℕ) (u v : Verdict)
    → VerdictOf m I segment_rows loop_rows u → VerdictOf m I segment_rows loop_rows v → u ≡ v
