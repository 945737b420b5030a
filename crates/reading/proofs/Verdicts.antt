-- The verdict of reading as the judgment computes it: it is a verdict, and the only one.
use Rattle.std.proofs.Common.{◌≡◌, ℕ, ◌≤◌, Bool, true, false, cond, ◌&&◌, leb, ◌⊎◌, List, length, Ok, Err, Result, sym, refl, ap, ◌∙◌, inl, inr, arith}
use Rattle.std.proofs.lemmas.Bool.{leb-true, leb-false}
use Rattle.x12.specs.declared.faults.Fault.{Fault}
use Rattle.x12.specs.Causes.{fault}
use Rattle.x12.specs.Rank.{First}
use Rattle.x12.proofs.Judged.{Judged as Judges}
use Rattle.guide.specs.Meaning.{Meaning}
use Rattle.guide.specs.Law.{Lawful}
use Rattle.placing.specs.Placed.{PlacedSegment}
use Rattle.results.specs.Rows.{loops_in}
use Rattle.verdict.specs.declared.verdicts.Totals.{Totals}
use Rattle.verdict.specs.declared.verdicts.Verdict.{Verdict}
use Rattle.verdict.specs.declared.verdicts.Verdict.TheVariants.{Accepted, Refused}
use Rattle.reading.specs.Met.{Met, Regular}
use Rattle.reading.specs.Judge.{judge}
use Rattle.reading.specs.Laws.{OneVerdict, NoTwoVerdicts}
use Rattle.reading.specs.Promise.{Outnumbers, ReadingMet, totals_of, AcceptedWith, VerdictOf}
use Rattle.reading.proofs.JudgeRight.{OnlyDerived, judge_right}
use Rattle.reading.proofs.Promises.{judged_first, few_first, reading_first_one}

-- a regular interchange with these segments: accepted where the rows are enough
abbrev pub room_verdict : List ℕ → ℕ → ℕ → List PlacedSegment → Verdict
room_verdict I segment_rows loop_rows z =
    cond (leb (length z) segment_rows && leb (loops_in z) loop_rows) (Accepted (totals_of I z)) (Refused (fault 23 0 0 0))

abbrev pub verdict_in : List ℕ → ℕ → ℕ → Result (List PlacedSegment) Fault → Verdict
verdict_in I segment_rows loop_rows (Ok z) = room_verdict I segment_rows loop_rows z
verdict_in I segment_rows loop_rows (Err f) = Refused f

-- the verdict that the judgment gives
abbrev pub verdict_by : Meaning → List ℕ → ℕ → ℕ → Verdict
verdict_by m I segment_rows loop_rows = verdict_in I segment_rows loop_rows (judge m I)

module _ (m : Meaning) (I : List ℕ) (n l : ℕ) where
  room_right : (z : List PlacedSegment) → Regular m I → OnlyDerived m I z → VerdictOf m I n l (room_verdict I n l z)
  room_right z regular only = go (leb (length z) n) (leb (loops_in z) l) refl refl
    where
      -- every derivation is that one
      within : length z ≤ n → loops_in z ≤ l → Outnumbers m I n l → ⊥
      within p q (z', d, inl h) = let e = ap length (only.1 z' d) in omega arith
      within p q (z', d, inr h) = let e = ap loops_in (only.1 z' d) in omega arith

      go : (a b : Bool) → leb (length z) n ≡ a → leb (loops_in z) l ≡ b → VerdictOf m I n l (cond (a && b) (Accepted (totals_of I z)) (Refused (fault 23 0 0 0)))
      go true true p q = record {
        regular = regular;
        enough = within (leb-true (length z) n p) (leb-true (loops_in z) l q);
        derivation = z;
        derived = only.0;
        no_second = only.1;
        totals = refl;
      }
      go true false p q = few_first m I n l regular (z, only.0, inr (leb-false (loops_in z) l q))
      go false b p q = few_first m I n l regular (z, only.0, inl (leb-false (length z) n p))

  verdict_in_right : (r : Result (List PlacedSegment) Fault) → Judges (Met m I) (OnlyDerived m I) r → VerdictOf m I n l (verdict_in I n l r)
  verdict_in_right (Ok z) j = room_right z j.0 j.1
  verdict_in_right (Err f) j = judged_first m I n l f j

  -- it is a verdict of the reading
  pub verdict_right : Lawful m → VerdictOf m I n l (verdict_by m I n l)
  verdict_right w = verdict_in_right (judge m I) (judge_right m w I)

  -- an accepted interchange meets no fault
  not_both : (t : Totals) (f : Fault) → AcceptedWith m I n l t → ReadingMet m I n l f → ⊥
  not_both t f a (inl x) = a.regular f x
  not_both t f a (inr x) = a.enough x.0

  only_verdict : (u v : Verdict) → VerdictOf m I n l u → VerdictOf m I n l v → u ≡ v
  only_verdict (Accepted t) (Accepted t') a b = ap Accepted (a.totals ∙ (ap (totals_of I) (b.no_second a.derivation a.derived) ∙ sym b.totals))
  only_verdict (Accepted t) (Refused f) a b = absurd (not_both t f a b.0)
  only_verdict (Refused f) (Accepted t) a b = absurd (not_both t f b a.0)
  only_verdict (Refused f) (Refused g) a b = ap Refused (reading_first_one m I n l f g a b)

pub no_two_verdicts : NoTwoVerdicts
no_two_verdicts m I n l = only_verdict m I n l

pub one_verdict : OneVerdict
one_verdict m w I n l = go (verdict_by m I n l) (verdict_right m I n l w)
  where
    go : (v : Verdict) → VerdictOf m I n l v → (Regular m I × (Outnumbers m I n l → ⊥)) ⊎ ((f : Fault) × First (ReadingMet m I n l) f × ((g : Fault) → First (ReadingMet m I n l) g → g ≡ f))
    go (Accepted t) a = inl (a.regular, a.enough)
    go (Refused f) h = inr (f, h, λ g k. reading_first_one m I n l g f k h)
