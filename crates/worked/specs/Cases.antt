-- The worked interchanges, each with its verdict under guide B.
use Rattle.std.specs.Prelude.{ℕ, List, [], ◌∷◌, ◌++◌, take, codes}
use Rattle.verdict.specs.declared.verdicts.Verdict.{Verdict}
use Rattle.verdict.specs.declared.verdicts.Verdict.TheVariants.{Accepted, Refused}

-- The segments of the base interchange. The separator is '*', the component separator '>', the terminator '~'.
abbrev pub isa : List ℕ
isa = codes "ISA*00*          *00*          *ZZ*TESTVENDOR     *ZZ*TESTBUYER      *050620*0930*U*00401*000000007*0*T*>~"

abbrev pub gs : List ℕ
gs = codes "GS*PR*TESTVENDOR*TESTBUYER*20050620*0930*7*X*004010~"

abbrev pub st : List ℕ
st = codes "ST*855*0001~"

abbrev pub bak : List ℕ
bak = codes "BAK*00*AC*A17*20050601*****20050620~"

abbrev pub cur : List ℕ
cur = codes "CUR*SE*CAD~"

-- the three N1: to whom the bill goes, to whom the goods go, and the vendor
abbrev pub parties : List ℕ
parties = codes "N1*BT**15*1112223~" ++ (codes "N1*ST**15*1112223~" ++ codes "N1*VN**15*4445556~")

abbrev pub po1 : List ℕ
po1 = codes "PO1*1*5*EA***EN*9781565922259~"

-- ACK04 to ACK26 are empty: between EA and BI stand 24 separators
abbrev pub ack : List ℕ
ack = codes "ACK*IA*5*EA************************BI*ACK*AC~"

abbrev pub ctt : List ℕ
ctt = codes "CTT*1*5~"

abbrev pub se : List ℕ
se = codes "SE*10*0001~"

abbrev pub ge : List ℕ
ge = codes "GE*1*7~"

abbrev pub iea : List ℕ
iea = codes "IEA*1*000000007~"

-- the base interchange with other bytes for its BAK, its CUR, its ACK, its SE and its IEA
abbrev pub interchange_of : List ℕ → List ℕ → List ℕ → List ℕ → List ℕ → List ℕ
interchange_of bak cur ack se iea = isa ++ (gs ++ (st ++ (bak ++ (cur ++ (parties ++ (po1 ++ (ack ++ (ctt ++ (se ++ (ge ++ iea))))))))))

-- the base interchange, of 388 bytes
abbrev pub base : List ℕ
base = interchange_of bak cur ack se iea

-- accepted with so many segments, sets and PO1 lines, and this sum of PO102
abbrev pub accepted : ℕ → ℕ → ℕ → ℕ → Verdict
accepted segments sets lines sum = Accepted (record { segments = segments; sets = sets; lines = lines; sum = sum })

-- refused for the fault with this number and layer, at this segment, element and place
abbrev pub refused : ℕ → ℕ → ℕ → ℕ → ℕ → Verdict
refused number layer segment element place = Refused (record { number = number; layer = layer; segment = segment; element = element; place = place })

-- The worked interchanges: the base, and what becomes of it by one change.
abbrev pub worked : List (List ℕ × Verdict)
worked =
    -- no change
    (base, accepted 14 1 1 5)
    -- SE01 is 11, and the set has ten segments
    ∷ (interchange_of bak cur ack (codes "SE*11*0001~") iea, refused 15 4 12 1 357)
    -- CUR is left out: it is needed once, and N1 cannot follow BAK
    ∷ (interchange_of bak [] ack se iea, refused 6 2 5 0 206)
    -- ACK02 is 4, and PO102 is 5; CTT is the segment after the PO1 loop
    ∷ (interchange_of bak cur (codes "ACK*IA*4*EA************************BI*ACK*AC~") se iea, refused 16 4 11 0 346)
    -- BI stands in ACK13, which is unused
    ∷ (interchange_of bak cur (codes "ACK*IA*5*EA**********BI*ACK*AC~") se iea, refused 9 3 10 13 322)
    -- IEA02 has ten digits in place of nine
    ∷ (interchange_of bak cur ack se (codes "IEA*1*0000000001~"), refused 10 3 14 2 378)
    -- BAK04 is 29 February 1900: that was no leap year
    ∷ (interchange_of (codes "BAK*00*AC*A17*19000229*****20050620~") cur ack se iea, refused 11 3 4 4 184)
    -- BAK04 is 29 February 2000: that was one
    ∷ (interchange_of (codes "BAK*00*AC*A17*20000229*****20050620~") cur ack se iea, accepted 14 1 1 5)
    -- only the first 105 bytes: too short
    ∷ (take 105 base, refused 1 1 0 0 0)
    ∷ []
