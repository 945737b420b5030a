-- What a search in a list of bytes answers.
use Rattle.std.specs.Prelude.{◌≡◌, ℕ, ◌<◌, ◌≤◌, Bool, true, false, List, length, ◌≢◌, slice_index}
use Rattle.x12.specs.Segments.{is_break}

-- r is the first place from `from` on that holds b, or the length
pub record Finds (s : List ℕ) (from b r : ℕ) : Type 0 where
  pub low : from ≤ r
  pub within : r ≤ length s
  pub before : (k : ℕ) → from ≤ k → k < r → slice_index s k ≢ b
  pub found : r < length s → slice_index s r ≡ b

-- r is the first place from `from` on that holds no line break, or the length
pub record Passes (s : List ℕ) (from r : ℕ) : Type 0 where
  pub low : from ≤ r
  pub within : r ≤ length s
  pub before : (k : ℕ) → from ≤ k → k < r → is_break (slice_index s k) ≡ true
  pub stops : r < length s → is_break (slice_index s r) ≢ true

-- r is the first place from `from` on whose byte passes a test, or the length
pub record Stops (test : ℕ → Bool → Type 0) (s : List ℕ) (from r : ℕ) : Type 0 where
  pub low : from ≤ r
  pub within : r ≤ length s
  pub before : (k : ℕ) → from ≤ k → k < r → test (slice_index s k) false
  pub stops : r < length s → test (slice_index s r) true
