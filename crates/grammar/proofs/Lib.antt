-- States and runs of a tree of rows, and what determines them.
pub mod States
pub mod Distinct
pub mod Finishing
pub mod Determined
pub mod Deciding
-- The loops of a run, and derivations as runs.
pub mod LoopStates
pub mod DerivationRuns
pub mod LoopExtent
-- Marks, followers and the law.
pub mod Matching
pub mod Followers
-- The interchange around a set, and the two theorems.
pub mod UpperState
pub mod Envelope
pub mod Numbering
pub mod LawfulSets
pub mod InterchangeLaw
pub mod Judging
-- Tests of a tree that is written out.
pub mod FollowerTest
pub mod LawTest
-- For code that places segments: the flat table, the search in it, the end of a set, and how deep states are.
pub mod FlatTable
pub mod Search
pub mod LastRow
pub mod Depth
