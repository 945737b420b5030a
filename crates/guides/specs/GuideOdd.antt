-- An odd guide, for tests: lawful, and as unlike guide B as the law allows, so that nothing that is tested with it knows B by heart.
use Rattle.std.specs.Prelude.{ℕ, true, cond, List, [], ◌∷◌, Some, None, codes, Option}
use Rattle.std.specs.Str.{bytes_eq}
use Rattle.value.specs.declared.forms.Form.TheVariants.{N0, Q, Id, An, R}
use Rattle.guide.specs.declared.rules.Need.TheVariants.{Unused}
use Rattle.guide.specs.declared.rules.Kind.{Kind}
use Rattle.guide.specs.declared.rules.Kind.TheVariants.{Original, FollowUp}
use Rattle.guide.specs.Meaning.{GuideRow, Tree, Meaning}
use Rattle.guides.specs.Tables.{element, must, may, must_code, may_code, in_order, one, loop}

-- Row 1, ST: once.
abbrev pub st_row : GuideRow
st_row = record {
  name = codes "ST";
  placing = [];
  least = 1;
  greatest = 1;
  elements = must_code 1 (codes "855" ∷ []) ∷ must 2 An 2 6 ∷ [];
  pairs = [];
}

-- Row 2, BAK: once.
abbrev pub bak_row : GuideRow
bak_row = record {
  name = codes "BAK";
  placing = [];
  least = 1;
  greatest = 1;
  elements = must 1 Id 2 2 ∷ must 2 Id 2 2 ∷ must 3 An 1 10 ∷ [];
  pairs = [];
}

-- Row 3, REF: once. Row 4, another REF that no code tells apart from the first: once.
abbrev pub first_ref_row : GuideRow
first_ref_row = record {
  name = codes "REF";
  placing = [];
  least = 1;
  greatest = 1;
  elements = must 1 Id 2 3 ∷ must 2 An 1 30 ∷ [];
  pairs = [];
}

abbrev pub second_ref_row : GuideRow
second_ref_row = record {
  name = codes "REF";
  placing = [];
  least = 1;
  greatest = 1;
  elements = must_code 1 (codes "ZZ" ∷ []) ∷ may 3 An 1 80 ∷ [];
  pairs = [];
}

-- Row 5, HL placed by 1 or by 22: 1 to 20 times. It opens the loop that PO1 stands in.
abbrev pub hl_row : GuideRow
hl_row = record {
  name = codes "HL";
  placing = codes "1" ∷ codes "22" ∷ [];
  least = 1;
  greatest = 20;
  elements = must_code 1 (codes "1" ∷ codes "22" ∷ []) ∷ may 2 An 1 12 ∷ [];
  pairs = [];
}

-- Row 6, PO1, a line of the order, in the HL loop: at most 50 times. It opens a loop. PO106 has a rule by which it is unused, PO107 has none.
abbrev pub po1_row : GuideRow
po1_row = record {
  name = codes "PO1";
  placing = [];
  least = 0;
  greatest = 50;
  elements = must 1 An 1 6 ∷ must 2 Q 1 5 ∷ must 3 Id 1 2 ∷ element 6 Unused R 3 4 [] ∷ [];
  pairs = [];
}

-- Row 7, LIN, in the PO1 loop: at most 10 times. It opens a loop. If element 2 is filled, so is element 3, and not the other way round.
abbrev pub lin_row : GuideRow
lin_row = record {
  name = codes "LIN";
  placing = [];
  least = 0;
  greatest = 10;
  elements = may_code 2 (codes "EN" ∷ codes "UP" ∷ []) ∷ may 3 An 1 48 ∷ [];
  pairs = (2, 3) ∷ [];
}

-- Row 8, SLN, in the LIN loop: 2 to 5 times. It opens a loop. If element 1 is filled, so is element 4, which has no rule: each is at fault.
abbrev pub sln_row : GuideRow
sln_row = record {
  name = codes "SLN";
  placing = [];
  least = 2;
  greatest = 5;
  elements = may 1 An 1 20 ∷ may 3 R 1 4 ∷ [];
  pairs = (1, 4) ∷ [];
}

-- Row 9, ACK, in the SLN loop: at most 3 times. So it stands in four loops, and two of them lie between it and the PO1 loop.
abbrev pub ack_row : GuideRow
ack_row = record {
  name = codes "ACK";
  placing = [];
  least = 0;
  greatest = 3;
  elements = may 1 Id 1 2 ∷ must 2 Q 1 9 ∷ [];
  pairs = [];
}

-- Row 10, SE: once.
abbrev pub se_row : GuideRow
se_row = record {
  name = codes "SE";
  placing = [];
  least = 1;
  greatest = 1;
  elements = must 1 N0 1 10 ∷ must 2 An 2 6 ∷ [];
  pairs = [];
}

-- The rows in order. A loop has its rows in brackets behind the row that opens it. There is no CTT.
abbrev pub tree_odd : Tree
tree_odd =
    in_order
    (one st_row
    ∷ one bak_row
    ∷ one first_ref_row
    ∷ one second_ref_row
    ∷ loop hl_row (loop po1_row (loop lin_row (loop sln_row (one ack_row ∷ []) ∷ []) ∷ []) ∷ [])
    ∷ one se_row
    ∷ [])

-- BAK01 07 makes a follow-up, whatever BAK02 is. Each other pair makes an original.
abbrev pub kind_odd : List ℕ → List ℕ → Kind
kind_odd first second = cond (bytes_eq first (codes "07")) FollowUp Original

-- BAK02 AK needs row 9, the ACK. BAK02 RJ needs row 40, which there is not.
abbrev pub needed_odd : List ℕ → Option ℕ
needed_odd second =
    cond (bytes_eq second (codes "AK")) (Some 9)
    (cond (bytes_eq second (codes "RJ")) (Some 40)
    None)

-- The odd guide: its rows, its kinds and needed rows; the sums of ACK02 are held to PO102.
abbrev pub guide_odd_meaning : Meaning
guide_odd_meaning = record {
  tree = tree_odd;
  kind = kind_odd;
  needed = needed_odd;
  held = true;
  isa12 = codes "00501";
  gs08 = codes "005010X1";
}
