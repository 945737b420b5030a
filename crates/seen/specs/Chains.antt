-- Chains of numbers, one for each bucket.
use Rattle.std.specs.Prelude.{◌≡◌, ℕ, zero, suc, ◌<◌, cond, List, [], Option, None, Some, length, ◌==◌, slice_index_or}
use Rattle.seen.specs.Buckets.{bucket_number}

-- the index of the last of the first n numbers that is in the bucket, if one is
abbrev pub latest : List (List ℕ) → ℕ → ℕ → Option ℕ
latest ns bucket zero = None
latest ns bucket (suc n) = let less = latest ns bucket n in cond (bucket_number (slice_index_or ns n []) == bucket) (Some n) less

-- The numbers are linked: the head of each bucket is its last number, and older than each number is the last one before it in
-- its bucket.
pub record Linked (ns : List (List ℕ)) (older heads : List (Option ℕ)) : Type 0 where
  pub beside : length older ≡ length ns
  pub whole : length heads ≡ 4096
  pub headed : (bucket : ℕ) → bucket < 4096 → slice_index_or heads bucket None ≡ latest ns bucket (length ns)
  pub chained : (i : ℕ) → i < length ns → slice_index_or older i None ≡ latest ns (bucket_number (slice_index_or ns i [])) i
