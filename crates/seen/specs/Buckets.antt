-- The bucket of a number.
use Rattle.std.specs.Prelude.{ℕ, ◌+◌, ◌*◌, ◌%◌, List, [], ◌∷◌}

-- the bucket after the bytes of a number, from the bucket so far
abbrev pub bucket_from : ℕ → List ℕ → ℕ
bucket_from bucket [] = bucket
bucket_from bucket (b ∷ bs) = bucket_from ((bucket * 229 + b) % 4096) bs

-- the bucket of a number
abbrev pub bucket_number : List ℕ → ℕ
bucket_number number = bucket_from 0 number
