-- Guide B, row by row. An element that a row does not name is unused.
use Rattle.std.specs.Prelude.{ℕ, true, cond, ◌&&◌, List, [], ◌∷◌, ◌++◌, None, codes, Option}
use Rattle.std.specs.Str.{bytes_eq}
use Rattle.value.specs.declared.forms.Form.TheVariants.{N0, Q, Id, An, R}
use Rattle.guide.specs.declared.rules.Kind.{Kind}
use Rattle.guide.specs.declared.rules.Kind.TheVariants.{Original, FollowUp, Wrong}
use Rattle.guide.specs.Meaning.{GuideRow, Tree, Meaning}
use Rattle.guides.specs.Tables.{must, may, must_day, may_day, must_code, may_code, holds_both_ways, in_order, one, loop}

-- Row 1, ST: once.
abbrev pub st_row : GuideRow
st_row = record {
  name = codes "ST";
  placing = [];
  least = 1;
  greatest = 1;
  elements = must_code 1 (codes "855" ∷ []) ∷ must 2 An 1 9 ∷ [];
  pairs = [];
}

-- Row 2, BAK: once.
abbrev pub bak_row : GuideRow
bak_row = record {
  name = codes "BAK";
  placing = [];
  least = 1;
  greatest = 1;
  elements = must 1 Id 2 2 ∷ must 2 Id 2 2 ∷ must 3 An 1 22 ∷ must_day 4 ∷ must_day 9 ∷ [];
  pairs = [];
}

-- Row 3, CUR: once.
abbrev pub cur_row : GuideRow
cur_row = record {
  name = codes "CUR";
  placing = [];
  least = 1;
  greatest = 1;
  elements = must_code 1 (codes "BY" ∷ codes "SE" ∷ []) ∷ must_code 2 (codes "CAD" ∷ codes "USD" ∷ []) ∷ [];
  pairs = [];
}

-- Row 4, N1 placed by BT: once.
abbrev pub n1_bt_row : GuideRow
n1_bt_row = record {
  name = codes "N1";
  placing = codes "BT" ∷ [];
  least = 1;
  greatest = 1;
  elements =
      must_code 1 (codes "BT" ∷ [])
      ∷ may 2 An 1 35
      ∷ must_code 3 (codes "15" ∷ codes "1" ∷ codes "12" ∷ codes "14" ∷ codes "ZZ" ∷ [])
      ∷ must 4 An 2 20
      ∷ [];
  pairs = [];
}

-- Row 5, N1 placed by ST: once.
abbrev pub n1_st_row : GuideRow
n1_st_row = record {
  name = codes "N1";
  placing = codes "ST" ∷ [];
  least = 1;
  greatest = 1;
  elements =
      must_code 1 (codes "ST" ∷ [])
      ∷ must_code 3 (codes "15" ∷ codes "1" ∷ codes "12" ∷ codes "14" ∷ codes "ZZ" ∷ [])
      ∷ must 4 An 2 20
      ∷ [];
  pairs = [];
}

-- Row 6, N1 placed by VN: once.
abbrev pub n1_vn_row : GuideRow
n1_vn_row = record {
  name = codes "N1";
  placing = codes "VN" ∷ [];
  least = 1;
  greatest = 1;
  elements =
      must_code 1 (codes "VN" ∷ [])
      ∷ may 2 An 1 35
      ∷ must_code 3 (codes "15" ∷ codes "1" ∷ codes "12" ∷ codes "14" ∷ codes "ZZ" ∷ [])
      ∷ must 4 An 2 20
      ∷ [];
  pairs = [];
}

-- Row 7, PO1, a line of the order: 1 to 100,000 times. It opens a loop.
abbrev pub po1_row : GuideRow
po1_row = record {
  name = codes "PO1";
  placing = [];
  least = 1;
  greatest = 100000;
  elements =
      must 1 An 1 20
      ∷ must 2 Q 1 9
      ∷ must_code 3 (codes "UN" ∷ codes "EA" ∷ [])
      ∷ may 4 R 1 17
      ∷ must_code 6 (codes "IB" ∷ codes "EN" ∷ codes "UK" ∷ codes "UP" ∷ [])
      ∷ must 7 An 1 40
      ∷ may_code 8 (codes "IB" ∷ codes "EN" ∷ codes "UK" ∷ codes "UP" ∷ codes "VN" ∷ codes "MG" ∷ codes "PO" ∷ [])
      ∷ may 9 An 1 40
      ∷ [];
  pairs = holds_both_ways 8 9;
}

-- Row 8, CTP, in the PO1 loop: at most once.
abbrev pub ctp_row : GuideRow
ctp_row = record {
  name = codes "CTP";
  placing = [];
  least = 0;
  greatest = 1;
  elements = may_code 2 (codes "SLP" ∷ []) ∷ may 3 R 1 17 ∷ may_code 6 (codes "DIS" ∷ []) ∷ may 7 R 1 10 ∷ [];
  pairs = holds_both_ways 2 3 ++ holds_both_ways 6 7;
}

-- Row 9, PID, in the PO1 loop: at most once.
abbrev pub pid_row : GuideRow
pid_row = record {
  name = codes "PID";
  placing = [];
  least = 0;
  greatest = 1;
  elements = must_code 1 (codes "F" ∷ []) ∷ must 5 An 1 80 ∷ [];
  pairs = [];
}

-- Row 10, ACK, in the PO1 loop: 1 to 104 times. It opens a loop.
abbrev pub ack_row : GuideRow
ack_row = record {
  name = codes "ACK";
  placing = [];
  least = 1;
  greatest = 104;
  elements =
      must_code 1 (codes "IA" ∷ codes "IR" ∷ [])
      ∷ must 2 Q 1 9
      ∷ must_code 3 (codes "UN" ∷ codes "EA" ∷ [])
      ∷ may_code 4 (codes "067" ∷ codes "068" ∷ [])
      ∷ may_day 5
      ∷ must_code 27 (codes "BI" ∷ [])
      ∷ must_code 28 (codes "ACK" ∷ [])
      ∷ must 29 An 1 30
      ∷ [];
  pairs = holds_both_ways 4 5;
}

-- Row 11, SCH, in the ACK loop: at most 200 times.
abbrev pub sch_row : GuideRow
sch_row = record {
  name = codes "SCH";
  placing = [];
  least = 0;
  greatest = 200;
  elements =
      must 1 Q 1 9
      ∷ must_code 2 (codes "UN" ∷ codes "EA" ∷ [])
      ∷ must_code 5 (codes "067" ∷ codes "068" ∷ [])
      ∷ must_day 6
      ∷ [];
  pairs = [];
}

-- Row 12, CTT: once.
abbrev pub ctt_row : GuideRow
ctt_row = record {
  name = codes "CTT";
  placing = [];
  least = 1;
  greatest = 1;
  elements = must 1 N0 1 6 ∷ must 2 N0 1 10 ∷ [];
  pairs = [];
}

-- Row 13, SE: once.
abbrev pub se_row : GuideRow
se_row = record {
  name = codes "SE";
  placing = [];
  least = 1;
  greatest = 1;
  elements = must 1 N0 1 10 ∷ must 2 An 1 9 ∷ [];
  pairs = [];
}

-- The rows in order. A loop has its rows in brackets behind the row that opens it.
abbrev pub tree_b : Tree
tree_b =
    in_order
    (one st_row
    ∷ one bak_row
    ∷ one cur_row
    ∷ one n1_bt_row
    ∷ one n1_st_row
    ∷ one n1_vn_row
    ∷ loop po1_row (one ctp_row ∷ one pid_row ∷ loop ack_row (one sch_row ∷ []) ∷ [])
    ∷ one ctt_row
    ∷ one se_row
    ∷ [])

-- BAK01 00 with BAK02 AC makes an original, 04 with AE a follow-up. Each other pair is wrong.
abbrev pub kind_b : List ℕ → List ℕ → Kind
kind_b first second =
    cond (bytes_eq first (codes "00") && bytes_eq second (codes "AC")) Original
    (cond (bytes_eq first (codes "04") && bytes_eq second (codes "AE")) FollowUp
    Wrong)

-- No row is needed for the sake of BAK02.
abbrev pub needed_b : List ℕ → Option ℕ
needed_b second = None

-- Guide B: its rows, its kinds and needed rows; the sums of ACK02 are held to PO102.
abbrev pub guide_b_meaning : Meaning
guide_b_meaning = record {
  tree = tree_b;
  kind = kind_b;
  needed = needed_b;
  held = true;
  isa12 = codes "00401";
  gs08 = codes "004010";
}
