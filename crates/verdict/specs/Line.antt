-- The line that tells a verdict.
use Rattle.std.specs.Prelude.{ℕ, List, [], ◌∷◌, ◌++◌, flat_map, codes, decimal}
use Rattle.x12.specs.Told.{numbers_of}
use Rattle.verdict.specs.declared.line.Line.{Line}
use Rattle.verdict.specs.declared.verdicts.Verdict.{Verdict}
use Rattle.verdict.specs.declared.verdicts.Verdict.TheVariants.{Accepted, Refused}

-- the bytes that a line holds
abbrev pub text_of : Line → List ℕ
text_of l = l.text.bytes

-- numbers in decimal, each after one space
abbrev pub spaced : List ℕ → List ℕ
spaced ns = flat_map (λ n. 32 ∷ decimal n) ns

-- the word and the numbers that go with it
abbrev pub words_of : Verdict → List ℕ
words_of (Accepted t) = codes "ACCEPTED" ++ spaced (t.segments ∷ t.sets ∷ t.lines ∷ t.sum ∷ [])
words_of (Refused f) = codes "REFUSED " ++ numbers_of f

-- what the verdict says, and the line feed
abbrev pub line_of : Verdict → List ℕ
line_of v = words_of v ++ 10 ∷ []
