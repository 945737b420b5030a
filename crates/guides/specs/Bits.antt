-- Where the elements and the pair rules of a table stand, by bits.
use Rattle.std.specs.Prelude.{ℕ, zero, suc, ◌+◌, ◌-◌, ◌*◌, ◌/◌, ◌%◌, ◌^◌, Bool, true, ◌&&◌, List, [], ◌∷◌, ◌==◌}
use Rattle.guides.specs.declared.tables.Element.{Element}
use Rattle.guides.specs.declared.tables.TableRow.{TableRow}

-- how many of the lowest d bits of n are set
abbrev pub bits_in : ℕ → ℕ → ℕ
bits_in zero n = 0
bits_in (suc d) n = n % 2 + bits_in d (n / 2)

-- the place of element n: how many of the bits lie below it
abbrev pub place_of : ℕ → ℕ → ℕ
place_of bits n = bits_in 32 ((bits * 2 ^ ((32 - n % 32) % 32)) % 2 ^ 32)

-- each element stands at the place that the bits tell, from place i on
abbrev pub are_placed : ℕ → ℕ → List Element → Bool
are_placed bits i [] = true
are_placed bits i (x ∷ xs) = (place_of bits x.number == i) && are_placed bits (suc i) xs

-- the bit of a number; numbers 32 apart share one
abbrev pub has_bit : ℕ → ℕ → Bool
has_bit bits n = (bits / 2 ^ (n % 32)) % 2 == 1

-- the numbers of each pair have their bits
abbrev pub are_marked : ℕ → ℕ → List (ℕ × ℕ) → Bool
are_marked firsts seconds [] = true
are_marked firsts seconds (p ∷ ps) = has_bit firsts p.0 && (has_bit seconds p.1 && are_marked firsts seconds ps)

-- the bits of a row tell where its elements stand, and which numbers its pair rules name
abbrev pub is_kept : TableRow → Bool
is_kept r = are_placed r.elements.named 0 r.elements.list.now && are_marked r.pairs.firsts r.pairs.seconds r.pairs.list.now
