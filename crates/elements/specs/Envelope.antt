-- The rules of the envelope's elements: ISA (row 65), GS (66), GE (67) and IEA (68). An element that is not named is unused.
use Rattle.std.specs.Prelude.{ℕ, cond, List, [], ◌∷◌, length, codes, ◌==◌}
use Rattle.value.specs.declared.forms.Form.{Form}
use Rattle.value.specs.declared.forms.Form.TheVariants.{N0, Id, An, D8, D6, Tm, Spaces, Free}
use Rattle.guide.specs.declared.rules.Need.TheVariants.{Must}
use Rattle.guide.specs.Meaning.{ElementRule, Meaning}

-- element n has to be filled, with a value of the type and of these lengths, and one of the codes if there are any
abbrev pub needed : ℕ → Form → ℕ → ℕ → List (List ℕ) → ElementRule
needed n form least greatest list =
    record { number = n; rule = record { need = Must; form = form; least = least; greatest = greatest }; codes = list }

-- the same, with any value
abbrev pub must : ℕ → Form → ℕ → ℕ → ElementRule
must n form least greatest = needed n form least greatest []

-- element n has to be this code
abbrev pub fixed : ℕ → List ℕ → ElementRule
fixed n code = needed n Id (length code) (length code) (code ∷ [])

-- ISA, by the value of ISA12
abbrev pub isa_rules : List ℕ → List ElementRule
isa_rules isa12 =
    fixed 1 (codes "00")
    ∷ must 2 Spaces 10 10
    ∷ fixed 3 (codes "00")
    ∷ must 4 Spaces 10 10
    ∷ fixed 5 (codes "ZZ")
    ∷ must 6 An 15 15
    ∷ fixed 7 (codes "ZZ")
    ∷ must 8 An 15 15
    ∷ must 9 D6 6 6
    ∷ must 10 Tm 4 4
    ∷ fixed 11 (codes "U")
    ∷ fixed 12 isa12
    ∷ must 13 N0 9 9
    ∷ fixed 14 (codes "0")
    ∷ needed 15 Id 1 1 (codes "P" ∷ codes "T" ∷ [])
    ∷ must 16 Free 1 1
    ∷ []

-- GS, by the value of GS08
abbrev pub gs_rules : List ℕ → List ElementRule
gs_rules gs08 =
    fixed 1 (codes "PR")
    ∷ must 2 An 2 15
    ∷ must 3 An 2 15
    ∷ must 4 D8 8 8
    ∷ must 5 Tm 4 4
    ∷ must 6 N0 1 9
    ∷ fixed 7 (codes "X")
    ∷ fixed 8 gs08
    ∷ []

abbrev pub ge_rules : List ElementRule
ge_rules = must 1 N0 1 6 ∷ must 2 N0 1 9 ∷ []

abbrev pub iea_rules : List ElementRule
iea_rules = must 1 N0 1 5 ∷ must 2 N0 9 9 ∷ []

-- the rules of a row of the envelope
abbrev pub envelope_rules : Meaning → ℕ → List ElementRule
envelope_rules m r = cond (r == 65) (isa_rules m.isa12) (cond (r == 66) (gs_rules m.gs08) (cond (r == 67) ge_rules iea_rules))
