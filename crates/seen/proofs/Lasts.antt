-- The last number of a bucket: what it says, and what one more number does to it and to the chains.
use Rattle.std.proofs.Common.{◌≡◌, ℕ, zero, suc, ◌<◌, ◌≤◌, cond, eqb, List, [], ◌∷◌, ◌++◌, Option, None, Some, length, get_or, set, replicate, sym, refl, ap, ◌∙◌, ⊎_elim, add-one, arith, eq-eqb, ne_eqb, eqb-true, length-set, map, Bor}
use Rattle.std.proofs.lemmas.List.{get_or_append_left, get_or_push, get_or-set_same, get_or-set_other, get_or-replicate, length-replicate, length_push, length-map, map_push}
use Rattle.std.proofs.lemmas.Bool.{cases_eq, cases_lt, cond-true, cond-false, cond_both}
use borrow.Author.Tests.{eqb-false}
use Rattle.seen.specs.Buckets.{bucket_number}
use Rattle.seen.specs.Came.{bytes_of}
use Rattle.seen.specs.Chains.{latest, Linked}

-- the bucket of the number at i
abbrev pub bucket_at : List (List ℕ) → ℕ → ℕ
bucket_at ns i = bucket_number (get_or ns i [])

-- how many numbers there are up to the index
abbrev pub up_to : Option ℕ → ℕ
up_to None = 0
up_to (Some i) = suc i

-- o is the index of the last number of the bucket among the first n, if there is one
pub record Last (ns : List (List ℕ)) (bucket n : ℕ) (o : Option ℕ) : Type 0 where
  pub within : up_to o ≤ n
  pub here : (i : ℕ) → o ≡ Some i → bucket_at ns i ≡ bucket
  pub past : (i : ℕ) → up_to o ≤ i → i < n → bucket_at ns i ≡ bucket → ⊥

pub last_is : (ns : List (List ℕ)) (b n : ℕ) → Last ns b n (latest ns b n)
last_is ns b zero = record { within = omega arith; here = λ i e. absurd cc; past = λ i from lt q. omega arith }
last_is ns b (suc n) =
    cond_both (eqb (bucket_at ns n) b) (Some n) (latest ns b n) (Last ns b (suc n))
    (λ e. record {
      within = omega arith;
      here = λ i s. let same : n ≡ i = cc in ap (bucket_at ns) (sym same) ∙ eqb-true (bucket_at ns n) b e;
      past = λ i from lt q. omega arith;
    })
    (λ e.
    let less = last_is ns b n in
    record {
      within = omega (arith, less.within);
      here = less.here;
      past = λ i from lt q. ⊎_elim (λ h. less.past i from h q) (λ h. let same : n ≡ i = omega arith in eqb-false (bucket_at ns n) b e (ap (bucket_at ns) same ∙ q)) (cases_lt i n);
    })

-- one more number says nothing of those before it
last_before : (ns : List (List ℕ)) (x : List ℕ) (b n : ℕ) → n ≤ length ns → latest (ns ++ x ∷ []) b n ≡ latest ns b n
last_before ns x b zero le = refl
last_before ns x b (suc n) le =
    ap (λ y. cond (eqb (bucket_number y) b) (Some n) (latest (ns ++ x ∷ []) b n)) (get_or_append_left ns (x ∷ []) [] n (omega arith))
    ∙ ap (λ o. cond (eqb (bucket_at ns n) b) (Some n) o) (last_before ns x b n (omega arith))

-- it is the last one of its bucket
last_more : (ns : List (List ℕ)) (x : List ℕ) (b : ℕ) → latest (ns ++ x ∷ []) b (length (ns ++ x ∷ [])) ≡ cond (eqb (bucket_number x) b) (Some (length ns)) (latest ns b (length ns))
last_more ns x b =
    ap (latest (ns ++ x ∷ []) b) (length_push ns x ∙ add-one (length ns))
    ∙ ap (λ y. cond (eqb (bucket_number y) b) (Some (length ns)) (latest (ns ++ x ∷ []) b (length ns))) (get_or_push ns x [] (length ns) refl)
    ∙ ap (λ o. cond (eqb (bucket_number x) b) (Some (length ns)) o) (last_before ns x b (length ns) (omega arith))

-- no number is linked to another
pub linked_none : Linked [] [] (replicate 4096 None)
linked_none = record {
  beside = refl;
  whole = length-replicate {A = Option ℕ} 4096 None;
  headed = λ b lt. get_or-replicate 4096 b None None lt;
  chained = λ i lt. absurd (omega arith);
}

module _ (ns : List (List ℕ)) (older heads : List (Option ℕ)) (x : List ℕ) (linked : Linked ns older heads) (known : bucket_number x < 4096) where
  headed_add : (b : ℕ) → b < 4096 → get_or (set heads (bucket_number x) (Some (length ns))) b None ≡ latest (ns ++ x ∷ []) b (length (ns ++ x ∷ []))
  headed_add b lt =
      ⊎_elim
      (λ (e : bucket_number x ≡ b).
      ap (λ k. get_or (set heads k (Some (length ns))) b None) e
      ∙ get_or-set_same heads b (Some (length ns)) None (omega (arith, linked.whole))
      ∙ sym (last_more ns x b ∙ cond-true (eqb (bucket_number x) b) (Some (length ns)) (latest ns b (length ns)) (eq-eqb (bucket_number x) b e)))
      (λ ne.
      get_or-set_other heads (bucket_number x) b (Some (length ns)) None (λ q. ne (sym q))
      ∙ linked.headed b lt
      ∙ sym (last_more ns x b ∙ cond-false (eqb (bucket_number x) b) (Some (length ns)) (latest ns b (length ns)) (ne_eqb (bucket_number x) b ne)))
      (cases_eq (bucket_number x) b)

  chained_add : (i : ℕ) → i < length (ns ++ x ∷ []) → get_or (older ++ get_or heads (bucket_number x) None ∷ []) i None ≡ latest (ns ++ x ∷ []) (bucket_at (ns ++ x ∷ []) i) i
  chained_add i lt =
      ⊎_elim
      (λ h.
      get_or_append_left older (get_or heads (bucket_number x) None ∷ []) None i (omega (arith, linked.beside))
      ∙ linked.chained i h
      ∙ sym (last_before ns x (bucket_at ns i) i (omega arith))
      ∙ ap (λ y. latest (ns ++ x ∷ []) (bucket_number y) i) (sym (get_or_append_left ns (x ∷ []) [] i h)))
      (λ h.
      let same : i ≡ length ns = omega (arith, length_push ns x) in
      get_or_push older (get_or heads (bucket_number x) None) None i (omega (arith, linked.beside))
      ∙ linked.headed (bucket_number x) known
      ∙ sym (last_before ns x (bucket_number x) (length ns) (omega arith))
      ∙ ap (latest (ns ++ x ∷ []) (bucket_number x)) (sym same)
      ∙ ap (λ y. latest (ns ++ x ∷ []) (bucket_number y) i) (sym (get_or_push ns x [] i (sym same))))
      (cases_lt i (length ns))

  -- one more number, which is linked to the last one of its bucket, and is then the last one
  pub linked_add : Linked (ns ++ x ∷ []) (older ++ get_or heads (bucket_number x) None ∷ []) (set heads (bucket_number x) (Some (length ns)))
  linked_add =
      record {
        beside = omega (arith, length_push older (get_or heads (bucket_number x) None), length_push ns x, linked.beside);
        whole = length-set heads (bucket_number x) (Some (length ns)) ∙ linked.whole;
        headed = headed_add;
        chained = chained_add;
      }

-- the same for numbers that are kept as references
pub linked_push : (ns ms : List (Bor (List ℕ))) (older olders heads : List (Option ℕ)) (x : Bor (List ℕ)) (b n : ℕ) → Linked (map bytes_of ns) older heads
    → b ≡ bucket_number (bytes_of x) → b < 4096 → n ≡ length ns → ms ≡ ns ++ x ∷ [] → olders ≡ older ++ get_or heads b None ∷ []
    → Linked (map bytes_of ms) olders (set heads b (Some n))
linked_push ns ms older olders heads x b n linked is known at more chained =
    let count : n ≡ length (map bytes_of ns) = at ∙ sym (length-map ns bytes_of) in
    rw (more, map_push bytes_of ns x, chained, is, count) (linked_add (map bytes_of ns) older heads (bytes_of x) linked (omega arith))
