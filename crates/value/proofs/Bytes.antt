-- What the tests of single bytes, of each byte and of some byte decide.
use Rattle.std.proofs.Common.{◌≡◌, ℕ, zero, suc, ◌≤◌, Bool, leb, ◌⊎◌, List, get_or, Decides, sym, refl, ◌∙◌, subst, inl, inr, arith}
use Rattle.std.proofs.lemmas.List.{get_or_default}
use Rattle.std.proofs.lemmas.Bool.{leb-true, le-leb}
use Rattle.std.proofs.lemmas.Bool.Decides.{Decides-eqb, Decides-and, Decides-like, Decides-by_or}
use Rattle.std.proofs.ByRecursion.{Decides-by_and}
use Rattle.std.specs.List.{AllByRecursion, list_all, list_any}
use Rattle.x12.specs.Class.{within, class_of}
use Rattle.value.specs.Digits.{is_digit, digits}
use Rattle.value.specs.Texts.{code_byte, text_byte, is_space}
use Rattle.value.specs.Means.{Stands, Digit}

-- a number lies from a to z
pub decides_leb : (a b : ℕ) → Decides (leb a b) (a ≤ b)
decides_leb a b = (leb-true a b, le-leb a b)

pub within_decides : (a z n : ℕ) → Decides (within a z n) ((a ≤ n) × (n ≤ z))
within_decides a z n = Decides-and (leb a n) (leb n z) (decides_leb a n) (decides_leb n z)

pub digit_decides : (b : ℕ) → Decides (is_digit b) (Digit b)
digit_decides b = within_decides 48 57 b

pub code_decides : (b : ℕ) → Decides (code_byte b) ((class_of b ≡ 1) ⊎ (class_of b ≡ 2))
code_decides b = Decides-like (code_byte b) (λ h. one_or_two (class_of b) h.0 h.1) from (within_decides 1 2 (class_of b))
  where
    one_or_two : (n : ℕ) → 1 ≤ n → n ≤ 2 → (n ≡ 1) ⊎ (n ≡ 2)
    one_or_two zero a z = absurd (omega arith)
    one_or_two (suc zero) a z = inl refl
    one_or_two (suc (suc n)) a z = inr (omega arith)

    from : (class_of b ≡ 1) ⊎ (class_of b ≡ 2) → (1 ≤ class_of b) × (class_of b ≤ 2)
    from (inl e) = (omega arith, omega arith)
    from (inr e) = (omega arith, omega arith)

pub text_decides : (b : ℕ) → Decides (text_byte b) ((1 ≤ class_of b) × (class_of b ≤ 5))
text_decides b = within_decides 1 5 (class_of b)

pub space_decides : (b : ℕ) → Decides (is_space b) (b ≡ 32)
space_decides b = Decides-eqb b 32

-- a test of each byte
pub every_decides : (f : ℕ → Bool) (P : ℕ → Type 0) → ((b : ℕ) → Decides (f b) (P b)) → (v : List ℕ) → Decides (list_all f v) (AllByRecursion P v)
every_decides f P each v = Decides-by_and f P (list_all f) each refl (λ _ _. refl) v

pub digits_decides : (v : List ℕ) → Decides (digits v) (AllByRecursion Digit v)
digits_decides v = every_decides is_digit Digit digit_decides v

-- a test of some byte
pub some_decides : (f : ℕ → Bool) (P : ℕ → Type 0) → ((b : ℕ) → Decides (f b) (P b)) → (v : List ℕ) → Decides (list_any f v) ((k b : ℕ) × Stands v k b × P b)
some_decides f P each v =
    Decides-like (list_any f v) (λ h. (h.0, get_or v h.0 0, (h.1, refl), h.2 0)) (λ h. (h.0, h.2.0, λ d. subst P (sym (get_or_default v h.0 d 0 h.2.0 ∙ h.2.1)) h.3)) (Decides-by_or f P (list_any f) each refl (λ _ _. refl) v)
