-- A walk along the chain of a bucket passes over no number that is the same as the one looked for.
use Rattle.std.proofs.Common.{◌≡◌, ℕ, suc, ◌<◌, ◌≤◌, false, List, [], Option, None, Some, map, length, get_or, sym, refl, ap, ◌∙◌, ⊎_elim, arith, Bor}
use Rattle.std.specs.Str.{bytes_eq}
use Rattle.std.proofs.lemmas.Slice.Eq.{bytes_eq-Decides}
use Rattle.std.proofs.lemmas.Bool.{cases_Bool, cases_lt}
use Rattle.std.proofs.lemmas.List.{get_or-map, length-map}
use Rattle.seen.specs.Buckets.{bucket_number}
use Rattle.seen.specs.Came.{bytes_of}
use Rattle.seen.specs.Chains.{latest}
use Rattle.seen.proofs.Lasts.{bucket_at, up_to, last_is}

-- what is read of the numbers, which are kept as references, and of what is older
pub kept_at : (es items : List (Bor (List ℕ))) (j i : ℕ) (d : Bor (List ℕ)) → es ≡ items → j ≡ i → i < length (map bytes_of items) → get_or (map bytes_of items) i [] ≡ bytes_of (get_or es j d)
kept_at es items j i d same at lt = rw (same, at) (get_or-map bytes_of items i d [] (omega (arith, length-map items bytes_of)))

pub older_at : (os older : List (Option ℕ)) (j i : ℕ) (o : Option ℕ) → os ≡ older → j ≡ i → get_or older i None ≡ o → get_or os j None ≡ o
older_at os older j i o same at e = cc

-- the walk has come to a number of the bucket, or to the end, and what it left behind is not the number
pub record Walk (ns : List (List ℕ)) (v : List ℕ) (next : Option ℕ) : Type 0 where
  pub within : up_to next ≤ length ns
  pub here : (i : ℕ) → next ≡ Some i → bucket_at ns i ≡ bucket_number v
  pub past : (i : ℕ) → up_to next ≤ i → i < length ns → bytes_eq v (get_or ns i []) ≡ false

module _ (ns : List (List ℕ)) (v : List ℕ) where
  -- the numbers of other buckets are others
  differ : (i : ℕ) → (bucket_at ns i ≡ bucket_number v → ⊥) → bytes_eq v (get_or ns i []) ≡ false
  differ i ne =
      ⊎_elim
      (λ t. absurd (ne (ap bucket_number (sym ((bytes_eq-Decides v (get_or ns i [])).0 t)))))
      (λ f. f)
      (cases_Bool (bytes_eq v (get_or ns i [])))

  pub walk_start : Walk ns v (latest ns (bucket_number v) (length ns))
  walk_start =
      let last = last_is ns (bucket_number v) (length ns) in
      record { within = last.within; here = last.here; past = λ i from lt. differ i (last.past i from lt) }

  pub walk_more : (k : ℕ) → Walk ns v (Some k) → bytes_eq v (get_or ns k []) ≡ false → Walk ns v (latest ns (bucket_at ns k) k)
  walk_more k w other =
      let last = last_is ns (bucket_at ns k) k in
      let same = w.here k refl in
      record {
        within = omega (arith, last.within, w.within);
        here = λ i e. last.here i e ∙ same;
        past = λ i from lt.
            ⊎_elim
            (λ h. differ i (λ e. last.past i from h (e ∙ sym same)))
            (λ h.
            ⊎_elim
            (λ h'. let at : i ≡ k = omega arith in ap (λ j. bytes_eq v (get_or ns j [])) at ∙ other)
            (λ h'. w.past i h' lt)
            (cases_lt i (suc k)))
            (cases_lt i k);
      }

  -- the next number is nearer to the end
  pub nearer : (k : ℕ) (older next : Option ℕ) → older ≡ latest ns (bucket_at ns k) k → next ≡ Some k → up_to older < up_to next
  nearer k older next e s = omega (arith, (last_is ns (bucket_at ns k) k).within, ap up_to e, ap up_to s)
