use Rattle.std.proofs.Common.{◌≡◌, ◌<◌, drop}
use Rattle.seen.specs.Buckets.{bucket_from}
use Rattle.seen.proofs.buckets.bucket_of.Given as goal

-- from the bucket so far, the bytes that are left lead to the bucket of the number
abbrev pub invariant-loop-byte : goal.invariant-loop-byte
invariant-loop-byte l = (l.bucket < 4096) × (bucket_from l.bucket (drop l.byte-index l.number) ≡ bucket_from 0 l.number)
