-- What is proved of the worked interchanges: their verdicts, and the lines that tell them.
use Rattle.std.specs.Prelude.{◌≡◌, ℕ, List, [], ◌∷◌, ◌++◌, map, codes}
use Rattle.std.specs.List.{AllByRecursion}
use Rattle.guides.specs.GuideB.{guide_b_meaning}
use Rattle.verdict.specs.declared.verdicts.Verdict.{Verdict}
use Rattle.verdict.specs.Line.{line_of}
use Rattle.reading.specs.Promise.{VerdictOf}
use Rattle.worked.specs.Cases.{worked}

-- Read under guide B with so many segment rows and loop rows, each has the verdict that stands beside it.
abbrev pub WorkedCases : ℕ → ℕ → Type 0
WorkedCases segment_rows loop_rows = AllByRecursion (λ (c : List ℕ × Verdict). VerdictOf guide_b_meaning c.0 segment_rows loop_rows c.1) worked

-- a text with byte 10 at its end
abbrev pub as_line : List ℕ → List ℕ
as_line text = text ++ (10 ∷ [])

-- The lines of these verdicts, in the same order.
abbrev pub worked_lines : List (List ℕ)
worked_lines =
    as_line (codes "ACCEPTED 14 1 1 5")
    ∷ as_line (codes "REFUSED 15 4 12 1 357")
    ∷ as_line (codes "REFUSED 6 2 5 0 206")
    ∷ as_line (codes "REFUSED 16 4 11 0 346")
    ∷ as_line (codes "REFUSED 9 3 10 13 322")
    ∷ as_line (codes "REFUSED 10 3 14 2 378")
    ∷ as_line (codes "REFUSED 11 3 4 4 184")
    ∷ as_line (codes "ACCEPTED 14 1 1 5")
    ∷ as_line (codes "REFUSED 1 1 0 0 0")
    ∷ []

-- Each verdict is told by its line.
abbrev pub ToldBy : List (List ℕ) → Type 0
ToldBy lines = map (λ (c : List ℕ × Verdict). line_of c.1) worked ≡ lines
