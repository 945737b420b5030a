use Rattle.std.proofs.Common.{◌≡◌, ◌+◌, ◌-◌, ◌*◌, ◌<◌, ◌++◌, length, take}
use Rattle.verdict.specs.Line.{spaced}
use Rattle.verdict.proofs.telling.spaced.Given as goal

-- what is written so far, and that there is room for what is left
abbrev pub invariant-loop-number : goal.invariant-loop-number
invariant-loop-number l =
    (l.text.bytes ≡ l.word ++ spaced (take l.number-index l.all))
    × (length l.text.bytes + 21 * (length l.all - l.number-index) < 128)
