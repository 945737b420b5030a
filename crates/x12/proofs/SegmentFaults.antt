-- The byte faults of one segment, and where the byte faults of an interchange with a sound header stand.
use Rattle.std.proofs.Common.{◌≡◌, ℕ, suc, ◌+◌, ◌≤◌, List, [], ◌∷◌, ◌++◌, length, Some, Ok, sym, refl, ap, ◌∙◌, subst, inl, inr, arith}
use Rattle.x12.specs.declared.faults.Fault.{Fault}
use Rattle.x12.specs.Lists.{Item}
use Rattle.x12.specs.Header.{separator_of, component_of}
use Rattle.x12.specs.Segments.{Segment, segments_of}
use Rattle.x12.specs.Causes.{fault}
use Rattle.x12.specs.Rank.{phase, NoneOf}
use Rattle.x12.specs.Checks.{header_check, segment_check}
use Rattle.x12.specs.Met.{Fails, wrong_length, wrong_header, wrong_delimiter, wrong_byte, no_terminator, wrong_name, Met}
use Rattle.x12.proofs.Judged.{Judged, Anything, judged_as, item_from}
use Rattle.x12.proofs.Meets.{InSegment, InBody, Head, item_nth, of_part, head_judged, to_met, of_fails, segment_judged}

-- an item stands behind those before it
pub item_behind : {X : Type 0} (before : List X) (x : X) (after : List X) (e : ℕ) → Item e (before ++ (x ∷ after)) (e + length before) x
item_behind [] x after e = inl (omega arith, refl)
item_behind (y ∷ ys) x after e = inr (subst (λ (n : ℕ). Item (suc e) (ys ++ (x ∷ after)) n x) (omega arith) (item_behind ys x after (suc e)))

-- at each place stands one item
pub item_once : {X : Type 0} (xs : List X) (n : ℕ) (x y : X) → Item 1 xs n x → Item 1 xs n y → x ≡ y
item_once xs n x y i j = let e : Some x ≡ Some y = sym (item_nth xs 0 n x i) ∙ item_nth xs 0 n y j in cc

-- and it is one of the list
pub item_upto : {X : Type 0} (xs : List X) (e n : ℕ) (x : X) → Item (suc e) xs n x → n ≤ e + length xs
item_upto [] e n x i = elim i [ ]
item_upto (y ∷ ys) e n x (inl i) = let q : n ≡ suc e = i.0 in omega arith
item_upto (y ∷ ys) e n x (inr i) = let q = item_upto ys (suc e) n x i in omega arith

-- a byte fault is of phase 0 and layer 1
byte_rank : {I : List ℕ} {n k e : ℕ} → Fails I n k e → (place : ℕ) → (phase n ≡ 0) × ((fault n k e place).layer ≡ 1)
byte_rank (wrong_length h) place = (refl, refl)
byte_rank (wrong_header h) place = (refl, refl)
byte_rank (wrong_delimiter h) place = (refl, refl)
byte_rank (wrong_byte s p b i j x h u) place = (refl, refl)
byte_rank (no_terminator s i c) place = (refl, refl)
byte_rank (wrong_name s p i j h) place = (refl, refl)

pub met_rank : (I : List ℕ) (f : Fault) → Met I f → (phase f.number ≡ 0) × (f.layer ≡ 1)
met_rank I f (n, k, e, x, q) = let r = byte_rank x f.place in (ap (λ (z : Fault). phase z.number) q ∙ r.0, ap (λ (z : Fault). z.layer) q ∙ r.1)

module _ (I : List ℕ) (u : Unit {0}) (sound : header_check I ≡ Ok u) where
  no_head : NoneOf (Head I)
  no_head = (subst (Judged (Head I) Anything) sound (head_judged I)).0

  -- where the header has no fault, each byte fault is one of a segment
  in_body : (f : Fault) → Met I f → InBody I f
  in_body f m = elim (of_fails I f m.3 m.4) [ inl h ↦ absurd (no_head f h) | inr b ↦ b ]

  -- which is the segment that the fault names
  body_segment : (f : Fault) (b : InBody I f) → f.segment ≡ b.0
  body_segment f b = let o = of_part I b.0 b.1 b.3.0 b.3.1 f b.3.3 in ap (λ (g : Fault). g.segment) o.6

  pub met_from_one : (f : Fault) → Met I f → (1 ≤ f.segment) × (f.segment ≤ length (segments_of I))
  met_from_one f m =
      let b = in_body f m in
      let k = body_segment f b in
      let low = item_from 1 (segments_of I) b.0 b.1 b.2 in
      let high = item_upto (segments_of I) 0 b.0 b.1 b.2 in
      (omega arith, omega arith)

  -- the check of a segment gives the first of the byte faults that stand at it
  pub segment_met : (before : List Segment) (s : Segment) (after : List Segment) → segments_of I ≡ before ++ (s ∷ after)
      → Judged (λ f. Met I f × (f.segment ≡ suc (length before))) Anything (segment_check (separator_of I) (component_of I) (suc (length before)) s)
  segment_met before s after e =
      judged_as (InSegment I k s) (λ f. Met I f × (f.segment ≡ k)) Anything (segment_check (separator_of I) (component_of I) k s) to from (segment_judged I k s)
    where
      k : ℕ
      k = suc (length before)

      here : Item 1 (segments_of I) (suc (length before)) s
      here = subst (λ (l : List Segment). Item 1 l (suc (length before)) s) (sym e) (subst (λ (n : ℕ). Item 1 (before ++ (s ∷ after)) n s) (omega arith) (item_behind before s after 1))

      to : (f : Fault) → InSegment I (suc (length before)) s f → Met I f × (f.segment ≡ suc (length before))
      to f x = let b : InBody I f = (suc (length before), s, here, x) in (to_met I f (inr b), body_segment f b)

      from : (f : Fault) → Met I f × (f.segment ≡ suc (length before)) → InSegment I (suc (length before)) s f
      from f x =
          let b = in_body f x.0 in
          let q : b.0 ≡ suc (length before) = sym (body_segment f b) ∙ x.1 in
          let i : Item 1 (segments_of I) (suc (length before)) b.1 = subst (λ (n : ℕ). Item 1 (segments_of I) n b.1) q b.2 in
          let r : b.1 ≡ s = item_once (segments_of I) (suc (length before)) b.1 s i here in
          subst (λ (z : ℕ × Segment). InSegment I z.0 z.1 f) (λ j. (q j, r j)) b.3
