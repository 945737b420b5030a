-- Guide M, row by row. An element that a row does not name is unused.
use Rattle.std.specs.Prelude.{ℕ, false, cond, ◌||◌, List, [], ◌∷◌, ◌++◌, Some, None, codes, Option}
use Rattle.std.specs.Str.{bytes_eq}
use Rattle.value.specs.declared.forms.Form.TheVariants.{N0, Q, Id, An, R}
use Rattle.guide.specs.declared.rules.Kind.{Kind}
use Rattle.guide.specs.declared.rules.Kind.TheVariants.{Original}
use Rattle.guide.specs.Meaning.{GuideRow, Tree, Meaning}
use Rattle.guides.specs.Tables.{must, may, must_day, may_day, must_code, may_code, holds_both_ways, in_order, one, loop}

-- Row 1, ST: once.
abbrev pub st_row : GuideRow
st_row = record {
  name = codes "ST";
  placing = [];
  least = 1;
  greatest = 1;
  elements = must_code 1 (codes "855" ∷ []) ∷ must 2 An 4 9 ∷ [];
  pairs = [];
}

-- Row 2, BAK: once.
abbrev pub bak_row : GuideRow
bak_row = record {
  name = codes "BAK";
  placing = [];
  least = 1;
  greatest = 1;
  elements =
      must_code 1 (codes "00" ∷ [])
      ∷ must_code 2 (codes "AC" ∷ codes "AD" ∷ codes "AK" ∷ codes "RD" ∷ codes "RJ" ∷ [])
      ∷ must 3 An 1 22
      ∷ must_day 4
      ∷ may 5 An 1 30
      ∷ must_day 9
      ∷ [];
  pairs = [];
}

-- Row 3, CUR: at most once.
abbrev pub cur_row : GuideRow
cur_row = record {
  name = codes "CUR";
  placing = [];
  least = 0;
  greatest = 1;
  elements = must_code 1 (codes "BY" ∷ []) ∷ must 2 Id 3 3 ∷ [];
  pairs = [];
}

-- Row 4, REF placed by IA: once.
abbrev pub ref_ia_row : GuideRow
ref_ia_row = record {
  name = codes "REF";
  placing = codes "IA" ∷ [];
  least = 1;
  greatest = 1;
  elements = must_code 1 (codes "IA" ∷ []) ∷ must 2 An 1 30 ∷ [];
  pairs = [];
}

-- Row 5, N9 placed by L1: at most 1,000 times. It opens a loop.
abbrev pub n9_l1_row : GuideRow
n9_l1_row = record {
  name = codes "N9";
  placing = codes "L1" ∷ [];
  least = 0;
  greatest = 1000;
  elements = must_code 1 (codes "L1" ∷ []) ∷ must 2 An 1 30 ∷ [];
  pairs = [];
}

-- Row 6, MSG, in the N9 loop: 1 to 1,000 times.
abbrev pub msg_row : GuideRow
msg_row = record {
  name = codes "MSG";
  placing = [];
  least = 1;
  greatest = 1000;
  elements = must 1 An 1 264 ∷ [];
  pairs = [];
}

-- Row 7, N1 placed by VN: 1 to 200 times.
abbrev pub n1_vn_row : GuideRow
n1_vn_row = record {
  name = codes "N1";
  placing = codes "VN" ∷ [];
  least = 1;
  greatest = 200;
  elements = must_code 1 (codes "VN" ∷ []) ∷ must 2 An 1 60 ∷ must_code 3 (codes "92" ∷ []) ∷ must 4 An 2 80 ∷ [];
  pairs = [];
}

-- Row 8, PO1, a line of the order: 1 to 100,000 times. It opens a loop.
abbrev pub po1_row : GuideRow
po1_row = record {
  name = codes "PO1";
  placing = [];
  least = 1;
  greatest = 100000;
  elements =
      must 1 An 1 20
      ∷ must 2 Q 1 9
      ∷ must 3 Id 2 2
      ∷ may 4 R 1 17
      ∷ may_code 6 (codes "BP" ∷ [])
      ∷ may 7 An 1 48
      ∷ may_code 8 (codes "VP" ∷ [])
      ∷ may 9 An 1 48
      ∷ [];
  pairs = holds_both_ways 6 7 ++ holds_both_ways 8 9;
}

-- Row 9, PID, in the PO1 loop: 1 to 1,000 times.
abbrev pub pid_row : GuideRow
pid_row = record {
  name = codes "PID";
  placing = [];
  least = 1;
  greatest = 1000;
  elements = must_code 1 (codes "F" ∷ []) ∷ may_code 2 (codes "08" ∷ []) ∷ must 5 An 1 80 ∷ [];
  pairs = [];
}

-- Row 10, ACK, in the PO1 loop: 1 to 104 times.
abbrev pub ack_row : GuideRow
ack_row = record {
  name = codes "ACK";
  placing = [];
  least = 1;
  greatest = 104;
  elements = must 1 Id 2 2 ∷ must 2 Q 1 9 ∷ must 3 Id 2 2 ∷ may_code 4 (codes "067" ∷ []) ∷ may_day 5 ∷ [];
  pairs = holds_both_ways 4 5;
}

-- Row 11, CTT: at most once.
abbrev pub ctt_row : GuideRow
ctt_row = record {
  name = codes "CTT";
  placing = [];
  least = 0;
  greatest = 1;
  elements = must 1 N0 1 6 ∷ may 2 N0 1 10 ∷ [];
  pairs = [];
}

-- Row 12, SE: once.
abbrev pub se_row : GuideRow
se_row = record {
  name = codes "SE";
  placing = [];
  least = 1;
  greatest = 1;
  elements = must 1 N0 1 10 ∷ must 2 An 1 9 ∷ [];
  pairs = [];
}

-- The rows in order. A loop has its rows in brackets behind the row that opens it.
abbrev pub tree_m : Tree
tree_m =
    in_order
    (one st_row
    ∷ one bak_row
    ∷ one cur_row
    ∷ one ref_ia_row
    ∷ loop n9_l1_row (one msg_row ∷ [])
    ∷ one n1_vn_row
    ∷ loop po1_row (one pid_row ∷ one ack_row ∷ [])
    ∷ one ctt_row
    ∷ one se_row
    ∷ [])

-- Each pair of BAK01 and BAK02 makes an original.
abbrev pub kind_m : List ℕ → List ℕ → Kind
kind_m first second = Original

-- BAK02 RD and RJ need row 5, the N9. The other codes need none.
abbrev pub needed_m : List ℕ → Option ℕ
needed_m second = cond (bytes_eq second (codes "RD") || bytes_eq second (codes "RJ")) (Some 5) None

-- Guide M: its rows, its kinds and needed rows; the sums of ACK02 are held to nothing.
abbrev pub guide_m_meaning : Meaning
guide_m_meaning = record {
  tree = tree_m;
  kind = kind_m;
  needed = needed_m;
  held = false;
  isa12 = codes "00401";
  gs08 = codes "004010";
}
