-- Tests of one element in the order of their numbers: the first that holds is the first fault.
use Rattle.std.proofs.Common.{◌≡◌, ℕ, ◌<◌, Bool, true, ◌&&◌, eqb, ltb, ◌⊎◌, List, [], ◌∷◌, sym, refl, ◌∙◌, subst₂, inl, inr}
use Rattle.std.proofs.lemmas.Bool.{and_parts, eqb-true, ltb-true}
use Rattle.x12.specs.declared.faults.Fault.{Fault}
use Rattle.x12.specs.Segments.{Part}
use Rattle.x12.specs.Causes.{layer_of, fault}
use Rattle.x12.specs.Lists.{each}
use Rattle.x12.specs.Rank.{phase, Before}
use Rattle.x12.proofs.Rank.{moved}
use Rattle.x12.proofs.Judged.{Judged, Anything, Any, judged_test, each_judged}
use Rattle.elements.specs.Checks.{first_of}

-- some of the tests holds, and the fault is that of its number
abbrev pub Hits : ℕ → ℕ → ℕ → List (Bool × ℕ) → Fault → Type 0
Hits k e place [] f = ⊥
Hits k e place (t ∷ ts) f = ((t.0 ≡ true) × (f ≡ fault t.1 k e place)) ⊎ Hits k e place ts f

-- the numbers rise, and all are of the layer, one of the layers 1 to 4
abbrev pub all_above : ℕ → List (Bool × ℕ) → Bool
all_above n [] = true
all_above n (t ∷ ts) = ltb n t.1 && all_above n ts

abbrev pub rising : ℕ → List (Bool × ℕ) → Bool
rising l [] = true
rising l (t ∷ ts) = (eqb (layer_of t.1) l && eqb (phase t.1) 0) && (all_above t.1 ts && rising l ts)

-- a fault of a layer at segment k and element e
abbrev pub LiesAt : ℕ → ℕ → ℕ → Fault → Type 0
LiesAt l k e f = (n place : ℕ) × (phase n ≡ 0) × (layer_of n ≡ l) × (f ≡ fault n k e place)

first_ok : (l : ℕ) (t : Bool × ℕ) (ts : List (Bool × ℕ)) → rising l (t ∷ ts) ≡ true → (layer_of t.1 ≡ l) × (phase t.1 ≡ 0)
first_ok l t ts s =
    let a = and_parts (eqb (layer_of t.1) l && eqb (phase t.1) 0) (all_above t.1 ts && rising l ts) s in
    let b = and_parts (eqb (layer_of t.1) l) (eqb (phase t.1) 0) a.0 in
    (eqb-true (layer_of t.1) l b.0, eqb-true (phase t.1) 0 b.1)

others_ok : (l : ℕ) (t : Bool × ℕ) (ts : List (Bool × ℕ)) → rising l (t ∷ ts) ≡ true → (all_above t.1 ts ≡ true) × (rising l ts ≡ true)
others_ok l t ts s = and_parts (all_above t.1 ts) (rising l ts) (and_parts (eqb (layer_of t.1) l && eqb (phase t.1) 0) (all_above t.1 ts && rising l ts) s).1

pub hits_lie : (l k e place : ℕ) (ts : List (Bool × ℕ)) → rising l ts ≡ true → (f : Fault) → Hits k e place ts f → LiesAt l k e f
hits_lie l k e place [] s f h = elim h [ ]
hits_lie l k e place (t ∷ ts) s f (inl h) = let a = first_ok l t ts s in (t.1, place, a.1, a.0, h.1)
hits_lie l k e place (t ∷ ts) s f (inr h) = hits_lie l k e place ts (others_ok l t ts s).1 f h

-- a later element ranks later
pub element_rising : (l k d e : ℕ) (f g : Fault) → d < e → LiesAt l k d f → LiesAt l k e g → Before f g
element_rising l k d e f g h a b =
    moved f g (fault a.0 k d a.1) (fault b.0 k e b.1) a.4 b.4 (inr (a.2 ∙ sym b.2, inr (refl, inr (a.3 ∙ sym b.3, inl h))))

module _ (l k e place : ℕ) where
  later : (n : ℕ) (f : Fault) → phase n ≡ 0 → layer_of n ≡ l → f ≡ fault n k e place → (ts : List (Bool × ℕ)) → rising l ts ≡ true → all_above n ts ≡ true → (g : Fault) → Hits k e place ts g → Before f g
  later n f p q x [] s b g h = elim h [ ]
  later n f p q x (t ∷ ts) s b g (inl h) =
      let a = first_ok l t ts s in
      let c = and_parts (ltb n t.1) (all_above n ts) b in
      moved f g (fault n k e place) (fault t.1 k e place) x h.1 (inr (p ∙ sym a.1, inr (refl, inr (q ∙ sym a.0, inr (refl, inl (ltb-true n t.1 c.0))))))
  later n f p q x (t ∷ ts) s b g (inr h) = later n f p q x ts (others_ok l t ts s).1 (and_parts (ltb n t.1) (all_above n ts) b).1 g h

  -- the tests in order give the first fault of theirs
  pub first_judged : (ts : List (Bool × ℕ)) → rising l ts ≡ true → Judged (Hits k e place ts) Anything (first_of k e place ts)
  first_judged [] s = ((λ f h. h), tt)
  first_judged (t ∷ ts) s =
      let a = first_ok l t ts s in
      let b = others_ok l t ts s in
      judged_test (λ f. (t.0 ≡ true) × (f ≡ fault t.1 k e place)) (Hits k e place ts) Anything t.0 (fault t.1 k e place) (first_of k e place ts)
      (λ y. (y, refl)) (λ g h. h) (λ f g h i. later t.1 f a.1 a.0 h.1 ts b.1 b.0 g i) (first_judged ts b.1)

-- the tests of elements in order
module _ (l k : ℕ) (tests : ℕ → List ℕ → List (Bool × ℕ)) (ok : (e : ℕ) (v : List ℕ) → rising l (tests e v) ≡ true) where
  -- some test of the element holds
  abbrev pub HitsPart : ℕ → Part → Fault → Type 0
  HitsPart e part f = Hits k e part.0 (tests e part.1) f

  pub part_lies : (e : ℕ) (part : Part) (f : Fault) → HitsPart e part f → LiesAt l k e f
  part_lies e part f h = hits_lie l k e part.0 (tests e part.1) (ok e part.1) f h

  pub parts_judged : (parts : List Part) (e : ℕ) → Judged (Any HitsPart e parts) Anything (each (λ d part. first_of k d part.0 (tests d part.1)) e parts)
  parts_judged parts e =
      each_judged HitsPart (λ d part. first_of k d part.0 (tests d part.1)) (λ d part. first_judged l k d part.0 (tests d part.1) (ok d part.1))
      (λ d c x y f g h a b. element_rising l k d c f g h (part_lies d x f a) (part_lies c y g b)) parts e
