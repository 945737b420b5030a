-- In a derivation every segment names loops that were opened before it.
use Rattle.std.proofs.Common.{◌≡◌, ℕ, suc, ◌+◌, Bool, true, false, cond, ◌⊎◌, List, [], ◌∷◌, ◌++◌, length, sym, refl, ap, ◌∙◌, subst, inl, inr, append_assoc, append-nil, arith, length-append}
use Rattle.grammar.specs.Tree.{Rows}
use Rattle.grammar.specs.Marks.{Mark, Label}
use Rattle.grammar.specs.Derivations.{Spot, opens_loop, spot_of, InOrder, no_row, next_row, Uses, no_use, next_use}
use Rattle.grammar.specs.Interchange.{Derivation}
use Rattle.results.specs.Steps.{IsOpen, NamesOpen, Named}

open_more : (before more : List Spot) (j : ℕ) → IsOpen before j → IsOpen (before ++ more) j
open_more before more j (inl e) = inl e
open_more before more j (inr (a, s, b, e, o, n)) = inr (a, s, b ++ more, ap (λ (l : List Spot). l ++ more) e ∙ append_assoc a (s ∷ b) more, o, n)

-- each of the segments that come after these names loops that were opened before it
abbrev EachNamed : List Spot → List Spot → Type 0
EachNamed before [] = Unit {0}
EachNamed before (s ∷ spots) = NamesOpen before s × EachNamed (before ++ (s ∷ [])) spots

each_append : (before a b : List Spot) → EachNamed before a → EachNamed (before ++ a) b → EachNamed before (a ++ b)
each_append before [] b h k = subst (λ (l : List Spot). EachNamed l b) (append-nil before) k
each_append before (s ∷ a) b h k = (h.0, each_append (before ++ (s ∷ [])) a b h.1 (subst (λ (l : List Spot). EachNamed l b) (sym (append_assoc before (s ∷ []) a)) k))

-- the loop that a segment's row stands in is open, and so is then its own
names_own : (b : Bool) (before : List Spot) (around place : ℕ) → place ≡ suc (length before) → (cond b place around ≡ suc (length before)) ⊎ (cond b place around ≡ around)
names_own true before around place e = inl e
names_own false before around place e = inr refl

own_open : (b : Bool) (before : List Spot) (around place : ℕ) (s : Spot) → place ≡ suc (length before) → IsOpen before around → s.loop ≡ cond b place around
    → IsOpen (before ++ (s ∷ [])) (cond b place around)
own_open true before around place s e o h = inr (before, s, [], refl, h, e)
own_open false before around place s e o h = open_more before (s ∷ []) around o

next_place : (before more : List Spot) (place : ℕ) → place ≡ suc (length before) → place + length more ≡ suc (length (before ++ more))
next_place before more place e = let l = length-append before more in omega arith

mutual
  rows_named : {rows : Rows} {around place : ℕ} {spots : List Spot} → InOrder rows around place spots → (before : List Spot) → place ≡ suc (length before) → IsOpen before around → EachNamed before spots
  rows_named no_row before e o = tt
  rows_named (next_row {around = h} {place = n} {used = u} {others = v} least most used others) before e o =
      each_append before u v (uses_named used before e o) (rows_named others (before ++ u) (next_place before u n e) (open_more before u h o))

  uses_named : {number times around place : ℕ} {inner : Rows} {spots : List Spot} → Uses number inner times around place spots → (before : List Spot) → place ≡ suc (length before) → IsOpen before around → EachNamed before spots
  uses_named no_use before e o = tt
  uses_named (next_use {number = a} {around = h} {place = n} {inner = inner} {inside = u} {others = v} inside others) before e o =
      let s : Spot = spot_of a inner h n in
      let here : List Spot = before ++ (s ∷ []) in
      let p : suc n ≡ suc (length here) = (let l = length-append before (s ∷ []) in omega arith) in (
        (o, names_own (opens_loop a inner) before h n e),
        each_append here u v
            (rows_named inside here p (own_open (opens_loop a inner) before h n s e o refl))
            (uses_named others (here ++ u) (next_place here u (suc n) p) (open_more here u h (open_more before (s ∷ []) h o))),
      )

one_named : (before mid : List Spot) (s : Spot) (behind : List Spot) → EachNamed before (mid ++ (s ∷ behind)) → NamesOpen (before ++ mid) s
one_named before [] s behind h = subst (λ (l : List Spot). NamesOpen l s) (sym (append-nil before)) h.0
one_named before (x ∷ mid) s behind h = subst (λ (l : List Spot). NamesOpen l s) (append_assoc before (x ∷ []) mid) (one_named (before ++ (x ∷ [])) mid s behind h.1)

pub derivation_named : (label : ℕ → Label) (set : Rows) (marks : List Mark) (spots : List Spot) → Derivation label set marks spots → Named spots
derivation_named label set marks spots d before s behind e = one_named [] before s behind (subst (EachNamed []) e (rows_named d.0 [] refl (inl refl)))
