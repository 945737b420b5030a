-- The look-ups of a table give what a judge asks of the meaning.
use Rattle.std.proofs.Common.{◌≡◌, ℕ, zero, suc, ◌≤◌, Bool, true, false, cond, ◌||◌, List, [], ◌∷◌, map, length, Some, None, Option, option_copied, IfSome, subst, sym, refl, ap, ◌∙◌, ◌==◌, ◌-◌, arith}
use Rattle.std.proofs.lemmas.Bool.{false≢true, and_parts}
use Rattle.std.specs.Borrow.{Bor}
use Rattle.std.specs.List.{list_any, list_all, find, slice_get}
use Rattle.std.specs.Str.{bytes_eq}
use Rattle.x12.specs.Lists.{nth}
use Rattle.guide.specs.declared.rules.Row.{Row}
use Rattle.guide.specs.Meaning.{Meaning, Standing, standing}
use Rattle.guide.specs.Asked.{is_among, admits, over, and_then, told, find_rule, row_at, row_of, element_at}
use Rattle.guides.specs.declared.tables.Element.{Element}
use Rattle.guides.specs.declared.tables.TableRow.{TableRow}
use Rattle.guides.specs.Bits.{are_placed, are_marked, is_kept}
use Rattle.guides.specs.Rows.{texts, element_meant, standing_meant, told_of, Means}

pub is_among_lem : (v : List ℕ) (cs : List (Bor (List ℕ))) → list_any (λ c. bytes_eq v c.now) cs ≡ is_among v (texts cs)
is_among_lem v [] = refl
is_among_lem v (c ∷ cs) = ap (λ b. bytes_eq v c.now || b) (is_among_lem v cs)

over_cond : {X Y : Type 0} (f : X → Y) (b : Bool) (x : X) (o : Option X) → over f (cond b (Some x) o) ≡ cond b (Some (f x)) (over f o)
over_cond f true x o = refl
over_cond f false x o = refl

pub find_rule_lem : (n : ℕ) (xs : List Element) → over element_meant (find (λ e. n == e.number) xs) ≡ find_rule n (map element_meant xs)
find_rule_lem n [] = refl
find_rule_lem n (x ∷ xs) = over_cond element_meant (n == x.number) x (find (λ e. n == e.number) xs) ∙ ap (cond (n == x.number) (Some (element_meant x))) (find_rule_lem n xs)

pub nth_zero : {X : Type 0} (xs : List X) (n : ℕ) → n ≡ 0 → nth xs n ≡ None
nth_zero [] n e = refl
nth_zero (x ∷ xs) zero e = refl
nth_zero (x ∷ xs) (suc n) e = absurd (omega arith)

nth_get : {X : Type 0} (xs : List X) (k : ℕ) → nth xs (suc k) ≡ slice_get xs k
nth_get [] k = refl
nth_get (x ∷ xs) zero = refl
nth_get (x ∷ xs) (suc k) = nth_get xs k

pub nth_before : {X : Type 0} (xs : List X) (n : ℕ) → 1 ≤ n → nth xs n ≡ slice_get xs (n - 1)
nth_before xs zero h = absurd (omega arith)
nth_before xs (suc k) h = let e : k ≡ suc k - 1 = omega arith in nth_get xs k ∙ ap (slice_get xs) e

pub over_nth : {X Y : Type 0} (f : X → Y) (xs : List X) (n : ℕ) → over f (nth xs n) ≡ nth (map f xs) n
over_nth f [] n = refl
over_nth f (x ∷ xs) zero = refl
over_nth f (x ∷ xs) (suc zero) = refl
over_nth f (x ∷ xs) (suc (suc n)) = over_nth f xs (suc n)

pub admits_lem : (v : List ℕ) (cs : List (Bor (List ℕ))) → (length cs == 0) ≡ false → admits (texts cs) v ≡ list_any (λ c. bytes_eq v c.now) cs
admits_lem v [] h = absurd (false≢true (sym h))
admits_lem v (c ∷ cs) h = sym (is_among_lem v (c ∷ cs))

over_copied : {X Y : Type 0} (f : X → Y) (r : Option (Bor X)) → over (λ x. f x.now) r ≡ over f (option_copied r)
over_copied f None = refl
over_copied f (Some x) = refl

pub stands_lem : (m : Meaning) (ls : List TableRow) (n : ℕ) (r : Option (Bor TableRow)) → Means ls m → option_copied r ≡ nth ls n → over (λ l. standing_meant l.now) r ≡ row_at m n
stands_lem m ls n r means e = over_copied standing_meant r ∙ ap (over standing_meant) e ∙ over_nth standing_meant ls n ∙ ap (λ (rows : List Standing). nth rows n) means.0

pub told_lem : (m : Meaning) (ls : List TableRow) (n : ℕ) (r : Option (Bor TableRow)) → Means ls m → option_copied r ≡ nth ls n → over (λ l. l.now.told) r ≡ row_of m n
told_lem m ls n r means e =
    over_copied told_of r ∙ ap (over told_of) e ∙ over_nth told_of ls n ∙ ap (λ (rows : List Row). nth rows n) means.1 ∙ sym (over_nth told (standing 0 m.tree) n)

pub element_lem : (m : Meaning) (n k : ℕ) (l : Bor TableRow) (r : Option (Bor Element)) → Some (standing_meant l.now) ≡ row_at m n → option_copied r ≡ find (λ e. k == e.number) l.now.elements.list.now
    → over (λ e. element_meant e.now) r ≡ element_at m n k
element_lem m n k l r stands e =
    over_copied element_meant r ∙ ap (over element_meant) e ∙ find_rule_lem k l.now.elements.list.now ∙ ap (λ (o : Option Standing). and_then o (λ s. find_rule k s.this.elements)) stands

-- the bits of the row that is found are right
nth_kept : (ls : List TableRow) (n : ℕ) → list_all is_kept ls ≡ true → IfSome (nth ls n) (λ l. is_kept l ≡ true)
nth_kept [] n k = tt
nth_kept (l ∷ ls) zero k = tt
nth_kept (l ∷ ls) (suc zero) k = (and_parts (is_kept l) (list_all is_kept ls) k).0
nth_kept (l ∷ ls) (suc (suc n)) k = nth_kept ls (suc n) (and_parts (is_kept l) (list_all is_kept ls) k).1

kept_copied : (r : Option (Bor TableRow)) → IfSome (option_copied r) (λ l. is_kept l ≡ true) → IfSome r (λ l. is_kept l.now ≡ true)
kept_copied None k = tt
kept_copied (Some l) k = k

pub kept_lem : (m : Meaning) (ls : List TableRow) (n : ℕ) (r : Option (Bor TableRow)) → Means ls m → option_copied r ≡ nth ls n → IfSome r (λ l. is_kept l.now ≡ true)
kept_lem m ls n r means e = kept_copied r (subst (λ (o : Option TableRow). IfSome o (λ l. is_kept l ≡ true)) (sym e) (nth_kept ls n means.2))

pub parts_of : (r : TableRow) → is_kept r ≡ true → (are_placed r.elements.named 0 r.elements.list.now ≡ true) × (are_marked r.pairs.firsts r.pairs.seconds r.pairs.list.now ≡ true)
parts_of r k = and_parts (are_placed r.elements.named 0 r.elements.list.now) (are_marked r.pairs.firsts r.pairs.seconds r.pairs.list.now) k
